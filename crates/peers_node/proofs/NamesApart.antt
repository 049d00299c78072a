-- The name tells which choice it is.
use Rattle.std.proofs.Common.{◌≡◌, ◌==◌, ◌∙◌, ℕ, List, ap, codes, false, refl, slice_index, sym, true, true≢false}
use Rattle.peers_node.specs.Choices.{name_of}
use Rattle.peers_node.specs.declared.choice.Options.{Options}
use Rattle.peers_node.specs.declared.choice.Options.TheVariants.{Lesson, Check, Learn, Table, World, Run, Round, Serve, Join}

-- two names whose bytes at an index differ
differ : (index byte : ℕ) (name x y : List ℕ) → name ≡ x → name ≡ y → (slice_index x index == byte) ≡ true → (slice_index y index == byte) ≡ false → ⊥
differ index byte name x y is other has not = true≢false (sym has ∙ ap (λ (t : List ℕ). slice_index t index == byte) (sym is ∙ other) ∙ not)

-- what holds of a choice that has the name of a round holds of some round
pub round_is : (P : Options → Type 0) (name : List ℕ) (chosen : Options) → name ≡ codes "round" → name ≡ name_of chosen → P chosen
    → (threads tracks rounds : ℕ) × P (Round threads tracks rounds)
round_is P name Lesson is other holds = absurd (differ 0 114 name (codes "round") (codes "lesson") is other refl refl)
round_is P name Check is other holds = absurd (differ 0 114 name (codes "round") (codes "check") is other refl refl)
round_is P name Learn is other holds = absurd (differ 0 114 name (codes "round") (codes "learn") is other refl refl)
round_is P name Table is other holds = absurd (differ 0 114 name (codes "round") (codes "table") is other refl refl)
round_is P name World is other holds = absurd (differ 0 114 name (codes "round") (codes "world") is other refl refl)
round_is P name (Run checks) is other holds = absurd (differ 1 111 name (codes "round") (codes "run") is other refl refl)
round_is P name (Round threads tracks rounds) is other holds = (threads, tracks, rounds, holds)
round_is P name (Serve link) is other holds = absurd (differ 0 114 name (codes "round") (codes "serve") is other refl refl)
round_is P name (Join link) is other holds = absurd (differ 0 114 name (codes "round") (codes "join") is other refl refl)
