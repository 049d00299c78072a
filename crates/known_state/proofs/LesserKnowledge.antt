-- Knowledge after a selection, and lesser knowledge.
use Rattle.std.specs.Prelude.{◌≡◌, ℕ, true, ◌||◌, ◌==◌, ◌⊎◌, Some, None}
use Rattle.known_state.specs.Cost.{Knowledge}

-- what is known after a table is selected
abbrev pub with_selected : Knowledge → ℕ → Knowledge
with_selected k t = record { is_defined = λ id. id == t || k.is_defined id; selected = Some t; last = k.last }

-- less is known: every table that is defined was defined, and each last number is unchanged or gone
pub record KnowsLess (less more : Knowledge) : Type 0 where
  pub defined : (id : ℕ) → less.is_defined id ≡ true → more.is_defined id ≡ true
  pub selected : less.selected ≡ more.selected
  pub last : (id : ℕ) → (less.last id ≡ more.last id) ⊎ (less.last id ≡ None)
