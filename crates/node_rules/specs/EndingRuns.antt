-- What happens to a session that may end for a stop, in any order.
use Rattle.std.specs.Prelude.{◌≡◌, ℕ, suc, ◌≤◌, Bool, true, false, ◌||◌, List, [], ◌∷◌, ◌++◌}
use Rattle.std.specs.List.{list_all}
use Rattle.node_rules.specs.declared.ending.Ending.{Ending}
use Rattle.node_rules.specs.Endings.{begun, looked, sees_stop, started, turned}

-- What happens: the session's hello is over at a moment; a turn comes in which there is nothing to do, or one in which there is; the
-- session rests; its worker looks at a moment, and sees whether the node stops.
pub data Happening : Type 0 where
  Begins : ℕ → Happening
  Idles : Happening
  Works : Happening
  Rests : Happening
  Looks : ℕ → Bool → Happening

abbrev pub after : Happening → Ending → Ending
after (Begins now) e = begun now e
after Idles e = turned true e
after Works e = turned false e
after Rests e = record e { idle = 0 }
after (Looks now stops) e = looked now stops e

-- the session after all that happened, the latest first
abbrev pub after_all : List Happening → Ending
after_all [] = started
after_all (h ∷ hs) = after h (after_all hs)

-- the worker has seen that the node stops, when the session's turns pushed rows
abbrev pub has_seen_stop : List Happening → Bool
has_seen_stop [] = false
has_seen_stop (Begins now ∷ hs) = has_seen_stop hs
has_seen_stop (Idles ∷ hs) = has_seen_stop hs
has_seen_stop (Works ∷ hs) = has_seen_stop hs
has_seen_stop (Rests ∷ hs) = has_seen_stop hs
has_seen_stop (Looks now stops ∷ hs) = sees_stop now stops (after_all hs) || has_seen_stop hs

-- no turn in which there was something to do
abbrev pub is_quiet : Happening → Bool
is_quiet (Begins now) = true
is_quiet Idles = true
is_quiet Works = false
is_quiet Rests = true
is_quiet (Looks now stops) = true

abbrev pub idle_turns : List Happening → ℕ
idle_turns [] = 0
idle_turns (Begins now ∷ hs) = idle_turns hs
idle_turns (Idles ∷ hs) = suc (idle_turns hs)
idle_turns (Works ∷ hs) = idle_turns hs
idle_turns (Rests ∷ hs) = idle_turns hs
idle_turns (Looks now stops ∷ hs) = idle_turns hs

-- Since the worker saw that the node stops, at least `turns` turns in a row found nothing to do.
abbrev pub IdledSinceStop : ℕ → List Happening → Type 0
IdledSinceStop turns hs = (since before : List Happening) × (hs ≡ since ++ before) × (has_seen_stop before ≡ true) × (list_all is_quiet since ≡ true) × (turns ≤ idle_turns since)
