-- Connections by session, tables by id, and one of them changed.
use Rattle.std.proofs.Common.{◌≡◌, ◌≢◌, ℕ, zero, suc, Bool, true, false, List, [], ◌∷◌, set, Some, refl, sym, ap, ◌∙◌, inl, inr, ◌⊎◌, arith}
use Rattle.std.specs.Prelude.{MatchBool, slice_get}
use Rattle.std.proofs.lemmas.Bool.{cases_Bool, cond-true, cond-false}
use Rattle.table_types.specs.Rosters.{table_at}
use Rattle.table_cell.specs.Histories.{CellState}
use Rattle.interleave_core.specs.Worlds.{ConnectionState, cell_at, connection_at, is_table, roster_of, with_cell, with_connection}
use Rattle.interleave_core.proofs.TieCells.{at_here, at_there, none_there, same_one, with_here, with_there}

-- ---- connections

found_set : (cs : List ConnectionState) (b a : ℕ) (new x : ConnectionState) → slice_get (set cs b new) a ≡ Some x → ((a ≡ b) × (x ≡ new)) ⊎ ((a ≢ b) × (slice_get cs a ≡ Some x))
found_set [] b a new x found = absurd (none_there x found)
found_set (c ∷ cs) zero zero new x found = inl (refl, sym (same_one new x found))
found_set (c ∷ cs) zero (suc a) new x found = inr ((λ same. let bad : suc a ≡ 0 = same in omega arith), found)
found_set (c ∷ cs) (suc b) zero new x found = inr ((λ same. let bad : 0 ≡ suc b = same in omega arith), found)
found_set (c ∷ cs) (suc b) (suc a) new x found = elim (found_set cs b a new x found) [
  | inl (same, is) ↦ inl (ap suc same, is)
  | inr (differs, old) ↦ inr ((λ same. let bad : suc a ≡ suc b = same in differs (omega arith)), old)
]

-- a connection that is found after a change is the new one, or was found before
pub connection_after : (m n : ℕ) (new x : ConnectionState) (cs : List ConnectionState) → connection_at n (with_connection m new cs) ≡ Some x
    → ((n ≡ m) × (x ≡ new)) ⊎ ((n ≢ m) × (connection_at n cs ≡ Some x))
connection_after zero zero new x cs found = absurd (none_there x found)
connection_after zero (suc a) new x cs found = inr ((λ same. let bad : suc a ≡ 0 = same in omega arith), found)
connection_after (suc b) zero new x cs found = absurd (none_there x found)
connection_after (suc b) (suc a) new x cs found = elim (found_set cs b a new x found) [
  | inl (same, is) ↦ inl (ap suc same, is)
  | inr (differs, old) ↦ inr ((λ same. let bad : suc a ≡ suc b = same in differs (omega arith)), old)
]

got_set : (cs : List ConnectionState) (b : ℕ) (new s : ConnectionState) → slice_get cs b ≡ Some s → slice_get (set cs b new) b ≡ Some new
got_set [] b new s found = absurd (none_there s found)
got_set (c ∷ cs) zero new s found = refl
got_set (c ∷ cs) (suc b) new s found = got_set cs b new s found

-- the one that changed is found
pub connection_set : (n : ℕ) (new s : ConnectionState) (cs : List ConnectionState) → connection_at n cs ≡ Some s → connection_at n (with_connection n new cs) ≡ Some new
connection_set zero new s cs found = absurd (none_there s found)
connection_set (suc b) new s cs found = got_set cs b new s found

same_set : (cs : List ConnectionState) (b : ℕ) (s : ConnectionState) → slice_get cs b ≡ Some s → set cs b s ≡ cs
same_set [] b s found = refl
same_set (c ∷ cs) zero s found = ap (λ (x : ConnectionState). x ∷ cs) (sym (same_one c s found))
same_set (c ∷ cs) (suc b) s found = ap (λ (l : List ConnectionState). c ∷ l) (same_set cs b s found)

-- a connection in its own place changes nothing
pub same_connections : (n : ℕ) (s : ConnectionState) (cs : List ConnectionState) → connection_at n cs ≡ Some s → with_connection n s cs ≡ cs
same_connections zero s cs found = refl
same_connections (suc b) s cs found = same_set cs b s found

-- ---- tables

-- a table in its own place changes nothing
pub same_tables : (t : ℕ) (c : CellState) (cells : List CellState) → cell_at t cells ≡ Some c → with_cell t c cells ≡ cells
same_tables t c [] at = refl
same_tables t c (x ∷ xs) at = elim (cases_Bool (is_table t x)) [
  | inl here ↦ with_here t c x xs here ∙ ap (λ (y : CellState). y ∷ xs) (sym (same_one x c (sym (at_here t x xs here) ∙ at)))
  | inr past ↦ with_there t c x xs past ∙ ap (λ (l : List CellState). x ∷ l) (same_tables t c xs (sym (at_there t x xs past) ∙ at))
]

-- the roster has the definition of a table that is found
pub in_roster : (t : ℕ) (c : CellState) (cells : List CellState) → cell_at t cells ≡ Some c → table_at (roster_of cells) t ≡ Some c.state.definition
in_roster t c [] at = absurd (none_there c at)
in_roster t c (x ∷ xs) at = elim (cases_Bool (is_table t x)) [
  | inl here ↦
      cond-true (is_table t x) (Some x.state.definition) (table_at (roster_of xs) t) here
      ∙ ap (λ (y : CellState). Some y.state.definition) (same_one x c (sym (at_here t x xs here) ∙ at))
  | inr past ↦
      cond-false (is_table t x) (Some x.state.definition) (table_at (roster_of xs) t) past
      ∙ in_roster t c xs (sym (at_there t x xs past) ∙ at)
]

-- ---- tests

-- what follows from each side of a test follows from the test
pub each_side : (b : Bool) (P Q R : Type 0) → MatchBool b P Q → (b ≡ true → P → R) → (b ≡ false → Q → R) → R
each_side true P Q R holds first second = first refl holds
each_side false P Q R holds first second = second refl holds
