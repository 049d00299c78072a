-- The tables of a roster have distinct names, so defining one drops no other.
use Rattle.std.proofs.Common.{◌≡◌, ℕ, Bool, true, false, not, ◌&&◌, ◌||◌, cond, eqb, List, [], ◌∷◌, Some, None, refl, sym, ◌∙◌, subst, inl, inr}
use Rattle.std.specs.Prelude.{is_some, filter, nat_lt, nat_le, length}
use Rattle.std.specs.Cmp.Lexicographic.{same_text}
use Rattle.std.proofs.lemmas.Bool.{cases_eq, eq-eqb, ne_eqb}
use Rattle.table_types.specs.declared.roster.RosterError.TheVariants as errors
use Rattle.table_types.specs.Tables.{Definition}
use Rattle.table_types.specs.Rosters.{table_at, has_id, has_name, is_same_name, repeats_id, repeats_name, roster_fault}
use Rattle.peers_msg.specs.Received.{defined, insert_table, outlives}
use Rattle.known_state.specs.Known.{AreOwn}
use Rattle.known_state.proofs.ReceivedIsOwn.{or-false-left, or-false-right}
use Rattle.known_state.proofs.FitsOrIsRefused.{has_id-table_at}

-- a name equals itself
pub name_itself : (a : List ℕ) → is_same_name a a ≡ true
name_itself [] = refl
name_itself (x ∷ xs) = rw (eq-eqb x x refl) (name_itself xs)

-- if none of the tables has the name, each of them has another
listed_other_name : (name : List ℕ) (ds : List Definition) (id : ℕ) (b : Definition) → has_name name ds ≡ false → table_at ds id ≡ Some b → is_same_name b.name name ≡ false
listed_other_name name [] id b none listed = cc
listed_other_name name (x ∷ xs) id b none listed = elim (cases_eq x.id id) [
  | inl same ↦ let here : Some x ≡ Some b = sym (rw (eq-eqb x.id id same) refl) ∙ listed in let is : x ≡ b = cc in subst (λ (t : Definition). is_same_name t.name name ≡ false) is (or-false-left (is_same_name x.name name) (has_name name xs) none)
  | inr other ↦ listed_other_name name xs id b (or-false-right (is_same_name x.name name) (has_name name xs) none) (sym (rw (ne_eqb x.id id other) refl) ∙ listed)
]

-- two tables of a roster have different names
pub two_names : (roster : List Definition) (a b : Definition) → repeats_name roster ≡ false → table_at roster a.id ≡ Some a → table_at roster b.id ≡ Some b → (a.id ≡ b.id → ⊥) → is_same_name a.name b.name ≡ false
two_names [] a b distinct la lb apart = cc
two_names (x ∷ xs) a b distinct la lb apart =
    let rest : repeats_name xs ≡ false = or-false-right (has_name x.name xs) (repeats_name xs) distinct in
    let none : has_name x.name xs ≡ false = or-false-left (has_name x.name xs) (repeats_name xs) distinct in
    elim (cases_eq x.id a.id) [
      | inl first ↦
          let here : Some x ≡ Some a = sym (rw (eq-eqb x.id a.id first) refl) ∙ la in
          let is_a : x ≡ a = cc in
          let later : table_at xs b.id ≡ Some b = sym (rw (ne_eqb x.id b.id (λ e. apart (sym first ∙ e))) refl) ∙ lb in
          let unlike : is_same_name b.name a.name ≡ false = subst (λ (t : Definition). is_same_name b.name t.name ≡ false) is_a (listed_other_name x.name xs b.id b none later) in
          turned a.name b.name unlike
      | inr other_a ↦
          let later_a : table_at xs a.id ≡ Some a = sym (rw (ne_eqb x.id a.id other_a) refl) ∙ la in
          elim (cases_eq x.id b.id) [
            | inl second ↦
                let here : Some x ≡ Some b = sym (rw (eq-eqb x.id b.id second) refl) ∙ lb in
                let is_b : x ≡ b = cc in
                subst (λ (t : Definition). is_same_name a.name t.name ≡ false) is_b (listed_other_name x.name xs a.id a none later_a)
            | inr other_b ↦ two_names xs a b rest later_a (sym (rw (ne_eqb x.id b.id other_b) refl) ∙ lb) apart
          ]
    ]
  where
    turned : (m n : List ℕ) → is_same_name n m ≡ false → is_same_name m n ≡ false
    turned m n unlike = at (is_same_name m n) refl
      where
        at : (b : Bool) → is_same_name m n ≡ b → is_same_name m n ≡ false
        at false e = e
        at true e = let same : m ≡ n = same_text m n (sym e) in let bad : true ≡ false = sym (name_itself n) ∙ subst (λ (t : List ℕ). is_same_name n t ≡ false) same unlike in cc

-- a roster's names are distinct
pub roster_names : (roster : List Definition) → roster_fault roster ≡ None → repeats_name roster ≡ false
roster_names roster sound = third (nat_le 1 (length roster) && nat_le (length roster) 64) (repeats_id roster) (repeats_name roster) sound
  where
    third : (a b c : Bool) → cond (not a) (Some errors.Count) (cond b (Some errors.RepeatedId) (cond c (Some errors.RepeatedName) None)) ≡ None → c ≡ false
    third true false false h = refl
    third true false true h = cc
    third true true c h = cc
    third false b c h = cc

-- a table of the roster other than the one defined outlives the definition
outlives_own : (roster : List Definition) (d x : Definition) → repeats_name roster ≡ false → table_at roster d.id ≡ Some d → table_at roster x.id ≡ Some x → (x.id ≡ d.id → ⊥) → outlives d x ≡ true
outlives_own roster d x distinct listed own apart = rw (ne_eqb x.id d.id apart, two_names roster x d distinct own listed apart) refl

has_kept : (roster : List Definition) (d : Definition) (ts : List Definition) (id : ℕ) → repeats_name roster ≡ false → table_at roster d.id ≡ Some d → AreOwn roster ts → (id ≡ d.id → ⊥) → has_id id ts ≡ true → has_id id (filter (outlives d) ts) ≡ true
has_kept roster d [] id distinct listed own apart h = h
has_kept roster d (x ∷ xs) id distinct listed own apart h =
    elim (cases_eq x.id id) [
      | inl same ↦
          let lives : outlives d x ≡ true = outlives_own roster d x distinct listed own.0 (λ e. apart (sym same ∙ e)) in
          rw (lives, eq-eqb x.id id same) refl
      | inr other ↦
          let later : has_id id (filter (outlives d) xs) ≡ true = has_kept roster d xs id distinct listed own.1 apart (sym (rw (ne_eqb x.id id other) refl) ∙ h) in
          passed (outlives d x) refl other later
    ]
  where
    passed : (b : Bool) → outlives d x ≡ b → (x.id ≡ id → ⊥) → has_id id (filter (outlives d) xs) ≡ true → has_id id (filter (outlives d) (x ∷ xs)) ≡ true
    passed true e other later = rw (e, ne_eqb x.id id other) later
    passed false e other later = rw e later

pub has_put : (d : Definition) (ts : List Definition) (id : ℕ) → has_id id ts ≡ true → has_id id (insert_table d ts) ≡ true
has_put d [] id h = cc
has_put d (x ∷ xs) id h = at (nat_lt d.id x.id) refl (has_put d xs id)
  where
    or-right : (a b : Bool) → b ≡ true → (a || b) ≡ true
    or-right true b h = refl
    or-right false b h = h

    or-mono : (a b c : Bool) → (b ≡ true → c ≡ true) → (a || b) ≡ true → (a || c) ≡ true
    or-mono true b c f h = refl
    or-mono false b c f h = f h

    at : (b : Bool) → nat_lt d.id x.id ≡ b → (has_id id xs ≡ true → has_id id (insert_table d xs) ≡ true) → has_id id (insert_table d (x ∷ xs)) ≡ true
    at true e later = rw e (or-right (eqb d.id id) (has_id id (x ∷ xs)) h)
    at false e later = rw e (or-mono (eqb x.id id) (has_id id xs) (has_id id (insert_table d xs)) later h)

-- so it is still received afterwards
pub still_received : (roster : List Definition) (d : Definition) (ts : List Definition) (id : ℕ) → repeats_name roster ≡ false → table_at roster d.id ≡ Some d → AreOwn roster ts → (id ≡ d.id → ⊥) → is_some (table_at ts id) ≡ true → is_some (table_at (defined d ts) id) ≡ true
still_received roster d ts id distinct listed own apart h =
    let before : has_id id ts ≡ true = has_id-table_at ts id ∙ h in
    sym (has_id-table_at (defined d ts) id) ∙ has_put d (filter (outlives d) ts) id (has_kept roster d ts id distinct listed own apart before)
