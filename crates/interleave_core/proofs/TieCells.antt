-- Tables by id, and one of them changed.
use Rattle.std.proofs.Common.{◌≡◌, ◌≢◌, ℕ, true, false, List, [], ◌∷◌, Option, Some, None, sym, ap, subst, ◌∙◌, inl, inr, ◌⊎◌, true≢false}
use Rattle.std.proofs.lemmas.Bool.{cases_Bool, cases_eq, cond-true, cond-false, eq-eqb, ne_eqb, eqb-true}
use Rattle.table_cell.specs.Histories.{CellState}
use Rattle.interleave_core.specs.Worlds.{cell_at, is_table, with_cell}

pub none_there : {A : Type 0} (x : A) → ◌≡◌ {A = Option A} None (Some x) → ⊥
none_there x e = cc

pub same_one : {A : Type 0} (x y : A) → ◌≡◌ {A = Option A} (Some x) (Some y) → x ≡ y
same_one x y e = cc

pub at_here : (t : ℕ) (c : CellState) (cs : List CellState) → is_table t c ≡ true → cell_at t (c ∷ cs) ≡ Some c
at_here t c cs same = cond-true (is_table t c) (Some c) (cell_at t cs) same

pub at_there : (t : ℕ) (c : CellState) (cs : List CellState) → is_table t c ≡ false → cell_at t (c ∷ cs) ≡ cell_at t cs
at_there t c cs other = cond-false (is_table t c) (Some c) (cell_at t cs) other

pub with_here : (t : ℕ) (new c : CellState) (cs : List CellState) → is_table t c ≡ true → with_cell t new (c ∷ cs) ≡ new ∷ cs
with_here t new c cs same = cond-true (is_table t c) (new ∷ cs) (c ∷ with_cell t new cs) same

pub with_there : (t : ℕ) (new c : CellState) (cs : List CellState) → is_table t c ≡ false → with_cell t new (c ∷ cs) ≡ c ∷ with_cell t new cs
with_there t new c cs other = cond-false (is_table t c) (new ∷ cs) (c ∷ with_cell t new cs) other

-- the table that is found has the id `t`
pub found_id : (t : ℕ) (c : CellState) (cells : List CellState) → cell_at t cells ≡ Some c → c.state.definition.id ≡ t
found_id t c [] at = absurd (none_there c at)
found_id t c (x ∷ xs) at = elim (cases_Bool (is_table t x)) [
  | inl here ↦
      let is = same_one x c (sym (at_here t x xs here) ∙ at) in
      eqb-true c.state.definition.id t (ap (is_table t) (sym is) ∙ here)
  | inr other ↦ found_id t c xs (sym (at_there t x xs other) ∙ at)
]

-- a table has no other id
pub apart : (t table : ℕ) (c : CellState) → is_table table c ≡ true → t ≢ table → is_table t c ≡ false
apart t table c is other = ne_eqb c.state.definition.id t (λ same. other (sym same ∙ eqb-true c.state.definition.id table is))

-- a table that is found after a change is the new one, or was found before
after_change : (table : ℕ) (c e : CellState) (cells : List CellState) → cell_at table cells ≡ Some c → e.state.definition.id ≡ table
    → (t : ℕ) (x : CellState) → cell_at t (with_cell table e cells) ≡ Some x → ((t ≡ table) × (x ≡ e)) ⊎ ((t ≢ table) × (cell_at t cells ≡ Some x))
after_change table c e [] at id t x found = absurd (none_there c at)
after_change table c e (y ∷ ys) at id t x found = elim (cases_Bool (is_table table y)) [
  | inl here ↦
      let first : cell_at t (e ∷ ys) ≡ Some x = ap (cell_at t) (sym (with_here table e y ys here)) ∙ found in
      elim (cases_eq t table) [
        | inl same ↦
            let own : is_table t e ≡ true = eq-eqb e.state.definition.id t (id ∙ sym same) in
            inl (same, sym (same_one e x (sym (at_here t e ys own) ∙ first)))
        | inr differs ↦
            let past : is_table t e ≡ false = apart t table e (eq-eqb e.state.definition.id table id) differs in
            inr (differs, at_there t y ys (apart t table y here differs) ∙ sym (at_there t e ys past) ∙ first)
      ]
  | inr there ↦
      let later : cell_at t (y ∷ with_cell table e ys) ≡ Some x = ap (cell_at t) (sym (with_there table e y ys there)) ∙ found in
      elim (cases_Bool (is_table t y)) [
        | inl own ↦
            inr (λ same. true≢false (sym own ∙ ap (λ (k : ℕ). is_table k y) same ∙ there), at_here t y ys own ∙ sym (at_here t y (with_cell table e ys) own) ∙ later)
        | inr past ↦ elim (after_change table c e ys (sym (at_there table y ys there) ∙ at) id t x (sym (at_there t y (with_cell table e ys) past) ∙ later)) [
          | inl new ↦ inl new
          | inr (differs, old) ↦ inr (differs, at_there t y ys past ∙ old)
        ]
      ]
]

-- what holds of the new table and of each other one holds of each table after the change
pub each_after : (P : ℕ → CellState → Type 0) (table : ℕ) (c e : CellState) (cells : List CellState) → cell_at table cells ≡ Some c → e.state.definition.id ≡ table
    → P table e → ((t : ℕ) (x : CellState) → t ≢ table → cell_at t cells ≡ Some x → P t x)
    → (t : ℕ) (x : CellState) → cell_at t (with_cell table e cells) ≡ Some x → P t x
each_after P table c e cells at id new others t x found = elim (after_change table c e cells at id t x found) [
  | inl (same, is) ↦ subst (P t) (sym is) (subst (λ (k : ℕ). P k e) (sym same) new)
  | inr (differs, old) ↦ others t x differs old
]
