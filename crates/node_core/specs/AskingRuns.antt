-- What happens to a node that asks its peers, in any order, and what comes of asking one after another.
use Rattle.std.specs.Prelude.{◌≡◌, ◌≤◌, ℕ, zero, suc, ◌+◌, Bool, true, false, not, ◌==◌, ◌&&◌, ◌||◌, nat_lt, nat_le, List, [], ◌∷◌, ◌++◌, Option, None, Some, length, slice_get, if◌then◌else◌}
use Rattle.std.specs.List.{list_all}
use Rattle.node_core.specs.declared.asking.Standing.TheVariants as standings
use Rattle.node_core.specs.declared.asking.Candidate.{Candidate}
use Rattle.node_core.specs.declared.asking.Awaited.{Awaited}
use Rattle.node_core.specs.CatchingUp.{AskingState, asked, asked_if_next, can_be_asked, finished, heard, incompletely_finished, is_next, is_out, is_over, lapsed, partly_finished, settled, stood}

-- What happens: a session with a peer begins or ends; a peer is asked at a moment if it is next; it brings a row at a moment; it ends
-- its resync as finished, as finished but for tables that it doesn't define as this node does, or as partial; the time is noted.
pub data Happening : Type 0 where
  Begins : ℕ → Happening
  Ends : ℕ → Happening
  Asks : ℕ → ℕ → Happening
  Brings : ℕ → ℕ → Happening
  Finishes : ℕ → Happening
  FinishesPartly : ℕ → Bool → Happening
  FinishesIncompletely : ℕ → Happening
  Passes : ℕ → Happening

-- the node after it
abbrev pub after : Happening → AskingState → AskingState
after (Begins peer) a = stood standings.Unasked peer a
after (Ends peer) a = stood standings.Away peer a
after (Asks peer now) a = asked_if_next peer now a
after (Brings peer now) a = heard peer now a
after (Finishes peer) a = finished peer a
after (FinishesPartly peer lacks) a = partly_finished lacks peer a
after (FinishesIncompletely peer) a = incompletely_finished peer a
after (Passes now) a = settled now (lapsed now a)

abbrev pub after_all : List Happening → AskingState → AskingState
after_all [] a = a
after_all (h ∷ hs) a = after_all hs (after h a)

-- the peer is asked
abbrev pub is_asking : ℕ → Happening → Bool
is_asking peer (Begins other) = false
is_asking peer (Ends other) = false
is_asking peer (Asks other now) = other == peer
is_asking peer (Brings other now) = false
is_asking peer (Finishes other) = false
is_asking peer (FinishesPartly other lacks) = false
is_asking peer (FinishesIncompletely other) = false
is_asking peer (Passes now) = false

-- the peer brings a row, or is asked
abbrev pub is_from : ℕ → Happening → Bool
is_from peer (Begins other) = false
is_from peer (Ends other) = false
is_from peer (Asks other now) = other == peer
is_from peer (Brings other now) = other == peer
is_from peer (Finishes other) = false
is_from peer (FinishesPartly other lacks) = false
is_from peer (FinishesIncompletely other) = false
is_from peer (Passes now) = false

-- the wait for a peer may end: some peer ends its resync as finished, this one in any way, its session ends or another one of it begins,
-- or it has been mute for 5 s or was asked ten minutes ago
abbrev pub may_end : AskingState → Awaited → Happening → Bool
may_end a w (Begins peer) = w.peer == peer
may_end a w (Ends peer) = w.peer == peer
may_end a w (Asks peer now) = false
may_end a w (Brings peer now) = false
may_end a w (Finishes peer) = true
may_end a w (FinishesPartly peer lacks) = w.peer == peer
may_end a w (FinishesIncompletely peer) = w.peer == peer
may_end a w (Passes now) = is_over now w

-- the session with the peer ends, or the peer shows on it that it can't teach all
abbrev pub is_end_of : ℕ → Happening → Bool
is_end_of peer (Begins other) = false
is_end_of peer (Ends other) = other == peer
is_end_of peer (Asks other now) = false
is_end_of peer (Brings other now) = false
is_end_of peer (Finishes other) = false
is_end_of peer (FinishesPartly other lacks) = false
is_end_of peer (FinishesIncompletely other) = other == peer
is_end_of peer (Passes now) = false

-- nobody is asked before this moment
abbrev pub asks_none_before : ℕ → Happening → Bool
asks_none_before now (Begins peer) = true
asks_none_before now (Ends peer) = true
asks_none_before now (Asks peer when) = nat_le now when
asks_none_before now (Brings peer when) = true
asks_none_before now (Finishes peer) = true
asks_none_before now (FinishesPartly peer lacks) = true
asks_none_before now (FinishesIncompletely peer) = true
asks_none_before now (Passes when) = true

-- the peer that is asked by it, if one is
abbrev pub asked_by : Happening → AskingState → List ℕ
asked_by (Begins peer) a = []
asked_by (Ends peer) a = []
asked_by (Asks peer now) a = if is_next peer now a then peer ∷ [] else []
asked_by (Brings peer now) a = []
asked_by (Finishes peer) a = []
asked_by (FinishesPartly peer lacks) a = []
asked_by (FinishesIncompletely peer) a = []
asked_by (Passes now) a = []

-- the peers that are asked, one after another
abbrev pub asked_by_all : List Happening → AskingState → List ℕ
asked_by_all [] a = []
asked_by_all (h ∷ hs) a = asked_by h a ++ asked_by_all hs (after h a)

-- somebody waits for the peer
abbrev pub IsAwaited : ℕ → AskingState → Type 0
IsAwaited peer a = (w : Awaited) × (a.awaited ≡ Some w) × (w.peer ≡ peer)

-- ---- rounds

-- What a peer does that is asked: it ends its resync as finished, as partial, or as finished but for tables that it doesn't define as this
-- node does, or does nothing.
pub data Answer : Type 0 where
  Finished : Answer
  Partial : Bool → Answer
  Incomplete : Answer
  Nothing : Answer

-- the node once the peer that it asked has answered, or the time that it has for that is over
abbrev pub answered : Answer → ℕ → ℕ → AskingState → AskingState
answered Finished peer now a = finished peer a
answered (Partial lacks) peer now a = partly_finished lacks peer a
answered Incomplete peer now a = incompletely_finished peer a
answered Nothing peer now a = lapsed now a

-- Each 5 s a peer that is next is asked, and answers in its way.
abbrev pub Rounds : (ℕ → Answer) → ℕ → List ℕ → AskingState → AskingState → Type 0
Rounds answers now [] a e = e ≡ a
Rounds answers now (peer ∷ peers) a e = (is_next peer now a ≡ true) × Rounds answers (now + 5000) peers (answered (answers peer) peer (now + 5000) (asked peer now a)) e

abbrev pub was_before : ℕ → Option ℕ → Bool
was_before now None = true
was_before now (Some asked) = nat_lt asked now

-- the peer can be asked, and if it was asked then before this moment
abbrev pub CanBeAsked : ℕ → ℕ → AskingState → Type 0
CanBeAsked peer now a = (c : Candidate) × (slice_get a.peers peer ≡ Some c) × (can_be_asked now c ≡ true) × (was_before now c.asked_at ≡ true)

-- the peer has a session, on which it hasn't shown that it can't teach all, and nothing that the node remembers of it is of a later moment
abbrev pub HasSession : ℕ → ℕ → AskingState → Type 0
HasSession peer now a = (c : Candidate) × (slice_get a.peers peer ≡ Some c) × (is_out c.standing ≡ false) × (was_before (now + 1) c.asked_at ≡ true) × (was_before (now + 1) c.since ≡ true)

-- the peer has a session, on which it hasn't shown that it can't teach all, and was last asked then, if it ever was
abbrev pub WasLastAsked : ℕ → Option ℕ → AskingState → Type 0
WasLastAsked peer asked a = (c : Candidate) × (slice_get a.peers peer ≡ Some c) × (is_out c.standing ≡ false) × (c.asked_at ≡ asked)

abbrev pub is_heard_before : ℕ → Option Awaited → Bool
is_heard_before now None = true
is_heard_before now (Some w) = nat_lt w.since now

-- ---- seconds

-- nobody is asked behind this moment
abbrev pub asks_none_after : ℕ → Happening → Bool
asks_none_after now (Begins peer) = true
asks_none_after now (Ends peer) = true
asks_none_after now (Asks peer when) = nat_le when now
asks_none_after now (Brings peer when) = true
asks_none_after now (Finishes peer) = true
asks_none_after now (FinishesPartly peer lacks) = true
asks_none_after now (FinishesIncompletely peer) = true
asks_none_after now (Passes when) = true

-- it can happen in the second from this moment on while the session with the peer stands
abbrev pub is_timely : ℕ → ℕ → Happening → Bool
is_timely peer now h = not (is_end_of peer h) && (asks_none_before now h && asks_none_after (now + 1000) h)

abbrev pub are_timely : ℕ → ℕ → List (List Happening) → Bool
are_timely peer now [] = true
are_timely peer now (hs ∷ more) = list_all (is_timely peer now) hs && are_timely peer (now + 1000) more

-- The node notes the time, and asks each of this many peers, from the first on, whose turn it is.
abbrev pub looked : ℕ → ℕ → AskingState → AskingState
looked now zero a = after (Passes now) a
looked now (suc peer) a = after (Asks peer now) (looked now peer a)

-- One second after another from this moment on: whatever happens in it, and at its end the node looks.
abbrev pub after_seconds : ℕ → List (List Happening) → AskingState → AskingState
after_seconds now [] a = a
after_seconds now (hs ∷ more) a = after_seconds (now + 1000) more (looked (now + 1000) (length a.peers) (after_all hs a))

-- the peer was asked at this moment or later
abbrev pub WasAskedSince : ℕ → ℕ → AskingState → Type 0
WasAskedSince peer now a = (c : Candidate) × (when : ℕ) × (slice_get a.peers peer ≡ Some c) × (c.asked_at ≡ Some when) × (now ≤ when)

-- whoever is waited for was asked no later than now
abbrev pub is_asked_before : ℕ → Option Awaited → Bool
is_asked_before now None = true
is_asked_before now (Some w) = nat_le w.asked_at now
