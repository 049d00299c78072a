-- Updates are a batch if and only if they have no fault.
use Rattle.std.proofs.Common.{◌≡◌, ℕ, ◌+◌, ◌≤◌, Bool, true, false, List, [], ◌∷◌, length, Option, Some, None, refl, sym, ap, ◌∙◌, arith, inl, inr}
use Rattle.std.proofs.lemmas.Bool.{cases_eq, eq-eqb, ne_eqb}
use Rattle.std.specs.Prelude.{nat_lt, is_none}
use Rattle.std.specs.List.{AllByRecursion}
use Rattle.std.proofs.lemmas.Bool.Decides.{nat_tests}
use Rattle.table_types.specs.declared.update.Update.{Update}
use Rattle.table_types.specs.Tables.{Definition}
use Rattle.table_types.specs.Updates.{fits}
use Rattle.table_types.specs.Rosters.{table_at}
use Rattle.table_types.specs.declared.batch.BatchError.{BatchError}
use Rattle.table_types.specs.declared.batch.BatchError.TheVariants as errors
use Rattle.table_types.specs.Batches.{IsUpdateFor, IsBatchFor, fault_in, or_else, faults_from, batch_fault}

first-none : (a b : Option BatchError) → or_else a b ≡ None → a ≡ None
first-none None b h = refl
first-none (Some e) b h = cc

second-none : (a b : Option BatchError) → or_else a b ≡ None → b ≡ None
second-none None b h = h
second-none (Some e) b h = cc

-- an update without a fault is one for the roster
faultless : (index : ℕ) (roster : List Definition) (u : Update) → fault_in index (table_at roster u.table) u ≡ None → IsUpdateFor roster u
faultless index roster u h = at (table_at roster u.table) refl
  where
    parts : (d : Definition) (b : Bool) → fits d u ≡ b → fault_in index (Some d) u ≡ None → fits d u ≡ true
    parts d true e none = e
    parts d false e none = let bad : Some (errors.Misfit index) ≡ None = sym (rw e refl) ∙ none in absurd (cc)

    at : (o : Option Definition) → table_at roster u.table ≡ o → IsUpdateFor roster u
    at None e = let bad : Some (errors.NoTable index) ≡ None = sym (rw e refl) ∙ h in absurd (cc)
    at (Some d) e =
        let none : fault_in index (Some d) u ≡ None = ap (λ (o : Option Definition). fault_in index o u) (sym e) ∙ h in
        (d, e, parts d (fits d u) refl none)

all_faultless : (index : ℕ) (roster : List Definition) (us : List Update) → faults_from index roster us ≡ None → AllByRecursion (IsUpdateFor roster) us
all_faultless index roster [] h = tt
all_faultless index roster (u ∷ us) h =
    (faultless index roster u (first-none (fault_in index (table_at roster u.table) u) (faults_from (index + 1) roster us) h), all_faultless (index + 1) roster us (second-none (fault_in index (table_at roster u.table) u) (faults_from (index + 1) roster us) h))

-- and an update for the roster has no fault
no_fault : (index : ℕ) (roster : List Definition) (u : Update) → IsUpdateFor roster u → fault_in index (table_at roster u.table) u ≡ None
no_fault index roster u (d, listed, fit) = rw (listed, fit) refl

no_faults : (index : ℕ) (roster : List Definition) (us : List Update) → AllByRecursion (IsUpdateFor roster) us → faults_from index roster us ≡ None
no_faults index roster [] all = refl
no_faults index roster (u ∷ us) all = rw (no_fault index roster u all.0) (no_faults (index + 1) roster us all.1)

-- at most 4,096 updates without a fault are a batch
pub batch_of_parts : (roster : List Definition) (us : List Update) → length us ≤ 4096 → faults_from 0 roster us ≡ None → IsBatchFor roster us
batch_of_parts roster us few none = (few, all_faultless 0 roster us none)

pub batch_without_fault : (roster : List Definition) (us : List Update) → batch_fault roster us ≡ None → IsBatchFor roster us
batch_without_fault roster us h = at (nat_lt 4096 (length us)) refl
  where
    at : (b : Bool) → nat_lt 4096 (length us) ≡ b → IsBatchFor roster us
    at true e = let bad : Some errors.TooMany ≡ None = sym (rw e refl) ∙ h in absurd (cc)
    at false e = batch_of_parts roster us (grind (arith, nat_tests)) (sym (rw e refl) ∙ h)

pub batch_has_no_fault : (roster : List Definition) (us : List Update) → IsBatchFor roster us → batch_fault roster us ≡ None
batch_has_no_fault roster us (few, all) =
    let small : nat_lt 4096 (length us) ≡ false = grind (arith, nat_tests) in
    rw small (no_faults 0 roster us all)

-- an update for a single table is one for every roster that has the table at its id
update_of_one : (d : Definition) (roster : List Definition) (u : Update) → table_at roster d.id ≡ Some d → IsUpdateFor (d ∷ []) u → IsUpdateFor roster u
update_of_one d roster u listed (e, found, fit) = elim (cases_eq d.id u.table) [
  | inl same ↦
      let is : Some d ≡ Some e = sym (rw (eq-eqb d.id u.table same) refl) ∙ found in
      let there : table_at roster u.table ≡ Some e = ap (table_at roster) (sym same) ∙ listed ∙ is in
      (e, there, fit)
  | inr other ↦ let bad : ◌≡◌ {A = Option Definition} None (Some e) = sym (rw (ne_eqb d.id u.table other) refl) ∙ found in absurd cc
]

updates_of_one : (d : Definition) (roster : List Definition) (us : List Update) → table_at roster d.id ≡ Some d → AllByRecursion (IsUpdateFor (d ∷ [])) us → AllByRecursion (IsUpdateFor roster) us
updates_of_one d roster [] listed all = tt
updates_of_one d roster (u ∷ us) listed all = (update_of_one d roster u listed all.0, updates_of_one d roster us listed all.1)

pub batch_of_one : (d : Definition) (roster : List Definition) (us : List Update) → table_at roster d.id ≡ Some d → IsBatchFor (d ∷ []) us → IsBatchFor roster us
batch_of_one d roster us listed (few, all) = (few, updates_of_one d roster us listed all)

-- at most 4,096 updates are a batch for a roster if and only if they have no fault
pub is_for : (roster : List Definition) (us : List Update) (r : Bool) → length us ≤ 4096 → r ≡ is_none (faults_from 0 roster us) → (r ≡ true → IsBatchFor roster us) × (IsBatchFor roster us → r ≡ true)
is_for roster us r few is = (
  (λ yes. batch_of_parts roster us few (absent (faults_from 0 roster us) (sym is ∙ yes))),
  (λ batch. is ∙ ap is_none (no_faults 0 roster us batch.1)),
)
  where
    absent : (o : Option BatchError) → is_none o ≡ true → o ≡ None
    absent None e = refl
    absent (Some f) e = absurd cc
