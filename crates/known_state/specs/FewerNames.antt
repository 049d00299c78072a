-- States of which one is the other, but for names that aren't known.
use Rattle.std.specs.Prelude.{◌≡◌, ℕ, List, [], ◌∷◌, Option, Some, None}
use Rattle.known_state.specs.State.{State}

-- a slot that is known to hold a name holds it
abbrev pub Holds : Option (List ℕ) → Option (List ℕ) → Type 0
Holds None held = Unit {0}
Holds (Some name) held = held ≡ Some name

-- so does each of the slots
abbrev pub HoldAll : List (Option (List ℕ)) → List (Option (List ℕ)) → Type 0
HoldAll [] [] = Unit {0}
HoldAll (k ∷ known) (h ∷ held) = Holds k h × HoldAll known held
HoldAll known held = ⊥

-- `known` is the state `s`, but for names that aren't known
abbrev pub LacksNames : State → State → Type 0
LacksNames known s = (known.received ≡ s.received) × (known.last_numbers ≡ s.last_numbers) × HoldAll known.slots s.slots
