-- How often the log says the same.
use Rattle.std.specs.Prelude.{◌≤◌, ◌+◌, ◌-◌, ◌^◌, ℕ, Bool, true, false, List, [], ◌∷◌, Option, None, Some, if◌then◌else◌, min, nat_le, take}
use Rattle.node_log.specs.declared.limits.Limit.{Limit}

abbrev pub unsaid : Limit
unsaid = record { said = None ∷ None ∷ None ∷ None ∷ None ∷ []; omitted = 0; since = None }

-- it was a second ago, or never
abbrev pub is_past : ℕ → Option ℕ → Bool
is_past now None = true
is_past now (Some moment) = nat_le 1000 (now - moment)

abbrev pub fifth : List (Option ℕ) → Option ℕ
fifth (a ∷ b ∷ c ∷ d ∷ e ∷ more) = e
fifth fewer = None

-- fewer than five lines were said in the last second
abbrev pub has_room : ℕ → Limit → Bool
has_room now l = is_past now (fifth l.said)

-- a line is said
abbrev pub said_at : ℕ → Limit → Limit
said_at now l = record l { said = Some now ∷ take 4 l.said }

abbrev pub first_of : Option ℕ → ℕ → ℕ
first_of None now = now
first_of (Some since) now = since

-- a line is left out
abbrev pub left_out : ℕ → Limit → Limit
left_out now l = record l { omitted = min (l.omitted + 1) (2 ^ 64 - 1); since = Some (first_of l.since now) }

-- the first line of those left out came a second ago
abbrev pub owes : ℕ → Option ℕ → Bool
owes now None = false
owes now (Some since) = nat_le 1000 (now - since)

-- the number of lines left out is said
abbrev pub reported : Limit → Limit
reported l = record l { omitted = 0; since = None }

-- ---- lines that come one after another

-- a line comes
abbrev pub after : ℕ → Limit → Limit
after now l = if has_room now l then said_at now l else left_out now l

abbrev pub after_all : List ℕ → Limit → Limit
after_all [] l = l
after_all (now ∷ more) l = after_all more (after now l)

-- when those are said of the lines that come at these moments
abbrev pub said_of : List ℕ → Limit → List ℕ
said_of [] l = []
said_of (now ∷ more) l = if has_room now l then now ∷ said_of more (said_at now l) else said_of more (left_out now l)

-- the moment is a second after the other one, if there is one
abbrev pub IsSecondAfter : Option ℕ → ℕ → Type 0
IsSecondAfter None now = Unit {0}
IsSecondAfter (Some moment) now = moment + 1000 ≤ now

-- Each moment is a second after the fifth before it. These are the five before the first.
abbrev pub AreApart : Option ℕ → Option ℕ → Option ℕ → Option ℕ → Option ℕ → List ℕ → Type 0
AreApart a b c d e [] = Unit {0}
AreApart a b c d e (now ∷ more) = IsSecondAfter a now × AreApart b c d e (Some now) more
