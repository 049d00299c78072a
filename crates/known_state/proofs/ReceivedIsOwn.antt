-- All that a known state has received is the roster's own, and stays so.
use Rattle.std.proofs.Common.{◌≡◌, ℕ, Bool, true, false, not, ◌&&◌, ◌||◌, cond, eqb, List, [], ◌∷◌, Option, Some, None, refl, sym, arith, subst, ◌∙◌, inl, inr}
use Rattle.std.specs.Prelude.{filter, fold, nat_lt}
use Rattle.std.specs.List.{AllByRecursion}
use Rattle.std.proofs.lemmas.Bool.{cases_eq, eq-eqb, ne_eqb}
use Rattle.std.proofs.lemmas.Bool.Decides.{nat_tests}
use Rattle.table_types.specs.Tables.{Definition}
use Rattle.table_types.specs.Rosters.{table_at, has_id, is_same_name}
use Rattle.peers_msg.specs.declared.message.Message.TheVariants as messages
use Rattle.peers_msg.specs.Received.{Received, insert_table, outlives, defined, with_own, resumed, selected_table, received_after}
use Rattle.known_state.specs.Known.{AreOwn}

-- the table that an id stands for has that id
pub table_at-id : (ds : List Definition) (id : ℕ) (d : Definition) → table_at ds id ≡ Some d → d.id ≡ id
table_at-id [] id d h = cc
table_at-id (x ∷ xs) id d h = grind (arith, nat_tests, table_at-id xs id d)

-- a table that is found is one of the tables
pub table_at-passes : (p : Definition → Type 0) (ds : List Definition) (id : ℕ) (d : Definition) → AllByRecursion p ds → table_at ds id ≡ Some d → p d
table_at-passes p [] id d all h = cc
table_at-passes p (x ∷ xs) id d all h = elim (cases_eq x.id id) [
  | inl same ↦ let here : Some x ≡ Some d = sym (rw (eq-eqb x.id id same) refl) ∙ h in let is : x ≡ d = cc in subst p is all.0
  | inr other ↦ table_at-passes p xs id d all.1 (sym (rw (ne_eqb x.id id other) refl) ∙ h)
]

-- an id whose table is found is one of their ids
pub table_at-has : (ds : List Definition) (id : ℕ) (d : Definition) → table_at ds id ≡ Some d → has_id id ds ≡ true
table_at-has [] id d h = cc
table_at-has (x ∷ xs) id d h = grind (arith, nat_tests, table_at-has xs id d)

pub or-false-left : (a b : Bool) → (a || b) ≡ false → a ≡ false
or-false-left true b h = h
or-false-left false b h = refl

pub or-false-right : (a b : Bool) → (a || b) ≡ false → b ≡ false
or-false-right true b h = cc
or-false-right false b h = h

pub AreOwn-filter : (roster : List Definition) (p : Definition → Bool) (ds : List Definition) → AreOwn roster ds → AreOwn roster (filter p ds)
AreOwn-filter roster p [] own = tt
AreOwn-filter roster p (x ∷ xs) own =
    let others = AreOwn-filter roster p xs own.1 in
    elim (p x) as (λ b. AreOwn roster (cond b (x ∷ filter p xs) (filter p xs))) [ true ↦ (own.0, others) | false ↦ others ]

pub AreOwn-put : (roster : List Definition) (d : Definition) (ds : List Definition) → table_at roster d.id ≡ Some d → AreOwn roster ds → AreOwn roster (insert_table d ds)
AreOwn-put roster d [] is own = (is, tt)
AreOwn-put roster d (x ∷ xs) is own =
    elim (nat_lt d.id x.id) as (λ b. AreOwn roster (cond b (d ∷ (x ∷ xs)) (x ∷ insert_table d xs))) [ true ↦ (is, own) | false ↦ (own.0, AreOwn-put roster d xs is own.1) ]

-- what is received after the roster's own definition is the roster's own
pub AreOwn-defined : (roster : List Definition) (d : Definition) (ds : List Definition) → table_at roster d.id ≡ Some d → AreOwn roster ds → AreOwn roster (defined d ds)
AreOwn-defined roster d ds is own = AreOwn-put roster d (filter (outlives d) ds) is (AreOwn-filter roster (outlives d) ds own)

-- after the roster's own definition of an id, what is received is the roster's own
AreOwn-with : (roster : List Definition) (ds : List Definition) (id : ℕ) → AreOwn roster ds → AreOwn roster (with_own roster ds id)
AreOwn-with roster ds id own = at (table_at roster id) refl
  where
    at : (o : Option Definition) → table_at roster id ≡ o → AreOwn roster (with_own roster ds id)
    at None e = rw e own
    at (Some d) e = rw e (AreOwn-defined roster d ds (subst (λ (n : ℕ). table_at roster n ≡ Some d) (sym (table_at-id roster id d e)) e) own)

AreOwn-fold : (roster : List Definition) (ids : List ℕ) (ds : List Definition) → AreOwn roster ds → AreOwn roster (fold (with_own roster) ds ids)
AreOwn-fold roster [] ds own = own
AreOwn-fold roster (id ∷ ids) ds own = AreOwn-fold roster ids (with_own roster ds id) (AreOwn-with roster ds id own)

-- and so is what is resumed
pub AreOwn-resumed : (roster : List Definition) (ids : List ℕ) (selected : Option ℕ) → AreOwn roster (resumed roster ids selected).tables
AreOwn-resumed roster ids selected = AreOwn-fold roster ids [] tt

-- a table inserted among tables that lack its id is found there
put_found : (d : Definition) (ds : List Definition) → has_id d.id ds ≡ false → table_at (insert_table d ds) d.id ≡ Some d
put_found d [] none = rw (eq-eqb d.id d.id refl) refl
put_found d (x ∷ xs) none =
    let other : eqb x.id d.id ≡ false = or-false-left (eqb x.id d.id) (has_id d.id xs) none in
    let rest : has_id d.id xs ≡ false = or-false-right (eqb x.id d.id) (has_id d.id xs) none in
    elim (nat_lt d.id x.id) as (λ b. table_at (cond b (d ∷ (x ∷ xs)) (x ∷ insert_table d xs)) d.id ≡ Some d) [
      | true ↦ rw (eq-eqb d.id d.id refl) refl
      | false ↦ rw other (put_found d xs rest)
    ]
  where
    or-false-left : (a b : Bool) → (a || b) ≡ false → a ≡ false
    or-false-left true b h = h
    or-false-left false b h = refl

    or-false-right : (a b : Bool) → (a || b) ≡ false → b ≡ false
    or-false-right true b h = cc
    or-false-right false b h = h

-- no table that outlives a definition has its id
outliving_lacks : (d : Definition) (ds : List Definition) → has_id d.id (filter (outlives d) ds) ≡ false
outliving_lacks d [] = refl
outliving_lacks d (x ∷ xs) = at (outlives d x) refl (outliving_lacks d xs)
  where
    not-first : (a b : Bool) → (not a && b) ≡ true → a ≡ false
    not-first true b h = cc
    not-first false b h = refl

    at : (b : Bool) → outlives d x ≡ b → has_id d.id (filter (outlives d) xs) ≡ false → has_id d.id (cond b (x ∷ filter (outlives d) xs) (filter (outlives d) xs)) ≡ false
    at false e rest = rest
    at true e rest =
        let other : eqb x.id d.id ≡ false = not-first (eqb x.id d.id) (not (is_same_name x.name d.name)) e in
        rw other rest

-- after a definition, its table is selected
pub define_selects : (h : Received) (d : Definition) → selected_table (received_after h (messages.Define d)) ≡ Some d
define_selects h d = put_found d (filter (outlives d) h.tables) (outliving_lacks d h.tables)
