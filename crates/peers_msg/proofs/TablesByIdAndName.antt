-- The tables by id and by name.
use Rattle.std.proofs.Common.{◌≡◌, ◌≢◌, ℕ, ◌<◌, ◌≤◌, Bool, true, false, not, ◌&&◌, cond, eqb, List, [], ◌∷◌, ◌++◌, Option, Some, None, refl, sym, ap, subst, ◌∙◌, inl, inr, append_assoc, arith}
use Rattle.std.specs.Prelude.{filter, map, nat_lt, option_and_then, option_map}
use Rattle.std.specs.List.{AllByRecursion}
use Rattle.std.specs.List.Sorted.{IsStrictlySortedBy}
use Rattle.std.specs.BTreeMap.{is_at}
use Rattle.std.specs.Cmp.{nat_cmp_is}
use Rattle.std.specs.Cmp.Lexicographic.{same_text}
use Rattle.std.specs.Map.{keys_of, lookup, values_of}
use Rattle.std.specs.Ordering.{nat_cmp}
use Rattle.std.specs.declared.cmp.Ordering.TheVariants.{Less, Equal, Greater}
use Rattle.std.proofs.lemmas.Bool.{cases_eq, cases_lt, eq-eqb, ne_eqb, le-ltb}
use Rattle.table_types.specs.Tables.{Definition}
use Rattle.table_types.specs.Rosters.{is_same_name, table_at}
use Rattle.table_types.proofs.OneTableByShape.{same_name}
use Rattle.peers_msg.specs.Received.{IsBelow, AreDistinct, insert_table, outlives, defined, table_named}
use Rattle.peers_msg.specs.ReceivedIndex.{AreIndexed, by_ids, has_that_name, id_named, is_id}
use Rattle.peers_msg.proofs.MapsById.{same_entries}
use Rattle.peers_msg.proofs.ReceivedTablesRise.{distinct-defined, distinct-filter}

-- ---- names

pub unlike : (a b : List ℕ) → a ≢ b → is_same_name a b ≡ false
unlike a b other = at (is_same_name a b) refl
  where
    at : (same : Bool) → is_same_name a b ≡ same → is_same_name a b ≡ false
    at true e = absurd (other (same_text a b (sym e)))
    at false e = e

alike : (a b : List ℕ) → a ≡ b → is_same_name a b ≡ true
alike a b same = subst (λ (n : List ℕ). is_same_name a n ≡ true) same (same_name a)

-- ---- tables above another have another id, and another name

no_id : (d : Definition) (ds : List Definition) → AllByRecursion (IsBelow d) ds → table_at ds d.id ≡ None
no_id d [] above = refl
no_id d (x ∷ xs) above =
    let lt : d.id < x.id = above.0.0 in
    let apart : x.id ≡ d.id → ⊥ = λ same. omega arith in
    rw (ne_eqb x.id d.id apart) (no_id d xs above.1)

no_name : (d : Definition) (ds : List Definition) → AllByRecursion (IsBelow d) ds → table_named ds d.name ≡ None
no_name d [] above = refl
no_name d (x ∷ xs) above = rw (unlike x.name d.name (λ e. above.0.1 (sym e))) (no_name d xs above.1)

-- no table above another is the one with its id
id_apart : (d : Definition) (ds : List Definition) (name : List ℕ) → AllByRecursion (IsBelow d) ds → is_id (id_named ds name) d.id ≡ false
id_apart d [] name above = refl
id_apart d (x ∷ xs) name above = at (is_same_name x.name name) refl (id_apart d xs name above.1)
  where
    at : (b : Bool) → is_same_name x.name name ≡ b → is_id (id_named xs name) d.id ≡ false → is_id (id_named (x ∷ xs) name) d.id ≡ false
    at true e rest =
        let lt : d.id < x.id = above.0.0 in
        let apart : d.id ≡ x.id → ⊥ = λ same. omega arith in
        rw e (ne_eqb d.id x.id apart)
    at false e rest = rw e rest

name_apart : (d : Definition) (ds : List Definition) (id : ℕ) → AllByRecursion (IsBelow d) ds → has_that_name (table_at ds id) d.name ≡ false
name_apart d [] id above = refl
name_apart d (x ∷ xs) id above = elim (cases_eq x.id id) [
  | inl same ↦ rw (eq-eqb x.id id same) (unlike x.name d.name (λ e. above.0.1 (sym e)))
  | inr other ↦ rw (ne_eqb x.id id other) (name_apart d xs id above.1)
]

-- the table that an id stands for has a name exactly if the id is that of the table with the name
pub same_at : (ds : List Definition) (name : List ℕ) (id : ℕ) → AreDistinct ds → has_that_name (table_at ds id) name ≡ is_id (id_named ds name) id
same_at [] name id distinct = refl
same_at (d ∷ ds) name id distinct = elim (cases_eq d.id id) [
  | inl same ↦ here (is_same_name d.name name) refl same
  | inr other ↦ there (is_same_name d.name name) refl other (same_at ds name id distinct.1)
]
  where
    here : (b : Bool) → is_same_name d.name name ≡ b → d.id ≡ id → has_that_name (table_at (d ∷ ds) id) name ≡ is_id (id_named (d ∷ ds) name) id
    here true e same = rw (eq-eqb d.id id same, e, eq-eqb id d.id (sym same)) refl
    here false e same = rw (eq-eqb d.id id same, e) (sym (subst (λ (i : ℕ). is_id (id_named ds name) i ≡ false) same (id_apart d ds name distinct.0)))

    there : (b : Bool) → is_same_name d.name name ≡ b → (d.id ≡ id → ⊥) → has_that_name (table_at ds id) name ≡ is_id (id_named ds name) id → has_that_name (table_at (d ∷ ds) id) name ≡ is_id (id_named (d ∷ ds) name) id
    there true e other rest =
        let none : has_that_name (table_at ds id) name ≡ false = subst (λ (n : List ℕ). has_that_name (table_at ds id) n ≡ false) (same_text d.name name (sym e)) (name_apart d ds id distinct.0) in
        rw (ne_eqb d.id id other, e, ne_eqb id d.id (λ f. other (sym f))) none
    there false e other rest = rw (ne_eqb d.id id other, e) rest

-- the table with a name is the one at its id
pub named_at : (ds : List Definition) (name : List ℕ) → AreDistinct ds → option_and_then (table_at ds) (id_named ds name) ≡ table_named ds name
named_at [] name distinct = refl
named_at (d ∷ ds) name distinct = at (is_same_name d.name name) refl (table_named ds name) refl (named_at ds name distinct.1)
  where
    at : (b : Bool) → is_same_name d.name name ≡ b → (o : Option Definition) → table_named ds name ≡ o → option_and_then (table_at ds) (id_named ds name) ≡ table_named ds name → option_and_then (table_at (d ∷ ds)) (id_named (d ∷ ds) name) ≡ table_named (d ∷ ds) name
    at true e o f rest = rw (e, eq-eqb d.id d.id refl) refl
    at false e None f rest = rw (e, f) refl
    at false e (Some x) f rest =
        let not_here : is_id (id_named ds name) d.id ≡ false = id_apart d ds name distinct.0 in
        let differ : eqb d.id x.id ≡ false = sym (ap (λ (o : Option Definition). is_id (option_map (λ (y : Definition). y.id) o) d.id) f) ∙ not_here in
        let found : table_at ds x.id ≡ Some x = sym (ap (λ (o : Option Definition). option_and_then (table_at ds) (option_map (λ (y : Definition). y.id) o)) f) ∙ rest ∙ f in
        rw (e, f, differ) found

-- ---- a definition, by id and by name

abbrev kept : (Definition → Bool) → Option Definition → Option Definition
kept p None = None
kept p (Some d) = cond (p d) (Some d) None

at_filter : (p : Definition → Bool) (ds : List Definition) (id : ℕ) → AreDistinct ds → table_at (filter p ds) id ≡ kept p (table_at ds id)
at_filter p [] id distinct = refl
at_filter p (d ∷ ds) id distinct = elim (cases_eq d.id id) [
  | inl same ↦ here (p d) refl same (at_filter p ds id distinct.1)
  | inr other ↦ there (p d) refl other (at_filter p ds id distinct.1)
]
  where
    here : (b : Bool) → p d ≡ b → d.id ≡ id → table_at (filter p ds) id ≡ kept p (table_at ds id) → table_at (filter p (d ∷ ds)) id ≡ kept p (table_at (d ∷ ds) id)
    here true e same rest = rw (e, eq-eqb d.id id same, e) refl
    here false e same rest =
        let none : table_at ds id ≡ None = subst (λ (i : ℕ). table_at ds i ≡ None) same (no_id d ds distinct.0) in
        rw (e, eq-eqb d.id id same, e) (rest ∙ ap (kept p) none)

    there : (b : Bool) → p d ≡ b → (d.id ≡ id → ⊥) → table_at (filter p ds) id ≡ kept p (table_at ds id) → table_at (filter p (d ∷ ds)) id ≡ kept p (table_at (d ∷ ds) id)
    there true e other rest = rw (e, ne_eqb d.id id other) rest
    there false e other rest = rw (e, ne_eqb d.id id other) rest

named_filter : (p : Definition → Bool) (ds : List Definition) (name : List ℕ) → AreDistinct ds → table_named (filter p ds) name ≡ kept p (table_named ds name)
named_filter p [] name distinct = refl
named_filter p (d ∷ ds) name distinct = at (is_same_name d.name name) refl (p d) refl (named_filter p ds name distinct.1)
  where
    at : (same : Bool) → is_same_name d.name name ≡ same → (b : Bool) → p d ≡ b → table_named (filter p ds) name ≡ kept p (table_named ds name) → table_named (filter p (d ∷ ds)) name ≡ kept p (table_named (d ∷ ds) name)
    at true f true e rest = rw (e, f, e) refl
    at true f false e rest =
        let none : table_named ds name ≡ None = subst (λ (n : List ℕ). table_named ds n ≡ None) (same_text d.name name (sym f)) (no_name d ds distinct.0) in
        rw (e, f, e) (rest ∙ ap (kept p) none)
    at false f true e rest = rw (e, f) rest
    at false f false e rest = rw (e, f) rest

-- tables with other ids and other names
abbrev AreOthers : Definition → List Definition → Type 0
AreOthers new ds = AllByRecursion (λ d. (d.id ≢ new.id) × (d.name ≢ new.name)) ds

at_insert : (new : Definition) (ds : List Definition) (id : ℕ) → AreOthers new ds → table_at (insert_table new ds) id ≡ cond (eqb id new.id) (Some new) (table_at ds id)
at_insert new [] id others = elim (cases_eq new.id id) [
  | inl same ↦ rw (eq-eqb new.id id same, eq-eqb id new.id (sym same)) refl
  | inr other ↦ rw (ne_eqb new.id id other, ne_eqb id new.id (λ e. other (sym e))) refl
]
at_insert new (d ∷ ds) id others = by (nat_lt new.id d.id) refl (at_insert new ds id others.1)
  where
    by : (b : Bool) → nat_lt new.id d.id ≡ b → table_at (insert_table new ds) id ≡ cond (eqb id new.id) (Some new) (table_at ds id) → table_at (insert_table new (d ∷ ds)) id ≡ cond (eqb id new.id) (Some new) (table_at (d ∷ ds) id)
    by true e rest = elim (cases_eq new.id id) [
      | inl same ↦ rw (e, eq-eqb new.id id same, eq-eqb id new.id (sym same)) refl
      | inr other ↦ rw (e, ne_eqb new.id id other, ne_eqb id new.id (λ f. other (sym f))) refl
    ]
    by false e rest = elim (cases_eq d.id id) [
      | inl same ↦ rw (e, eq-eqb d.id id same, ne_eqb id new.id (λ f. others.0.0 (same ∙ f))) refl
      | inr other ↦ rw (e, ne_eqb d.id id other) rest
    ]

named_insert : (new : Definition) (ds : List Definition) (name : List ℕ) → AreOthers new ds → table_named (insert_table new ds) name ≡ cond (is_same_name new.name name) (Some new) (table_named ds name)
named_insert new [] name others = refl
named_insert new (d ∷ ds) name others = by (nat_lt new.id d.id) refl (is_same_name d.name name) refl (named_insert new ds name others.1)
  where
    by : (b : Bool) → nat_lt new.id d.id ≡ b → (same : Bool) → is_same_name d.name name ≡ same → table_named (insert_table new ds) name ≡ cond (is_same_name new.name name) (Some new) (table_named ds name)
        → table_named (insert_table new (d ∷ ds)) name ≡ cond (is_same_name new.name name) (Some new) (table_named (d ∷ ds) name)
    by true e same f rest = rw e refl
    by false e true f rest =
        let is : d.name ≡ name = same_text d.name name (sym f) in
        let differ : is_same_name new.name name ≡ false = unlike new.name name (λ g. others.0.1 (is ∙ sym g)) in
        rw (e, f, differ) refl
    by false e false f rest = rw (e, f) rest

others_live : (new : Definition) (ds : List Definition) → AreOthers new (filter (outlives new) ds)
others_live new [] = tt
others_live new (d ∷ ds) = at (outlives new d) refl (others_live new ds)
  where
    first : (a b : Bool) → (a && b) ≡ true → (a ≡ true) × (b ≡ true)
    first true true h = (refl, refl)
    first true false h = let bad : false ≡ true = h in absurd cc
    first false b h = let bad : false ≡ true = h in absurd cc

    apart : outlives new d ≡ true → (d.id ≢ new.id) × (d.name ≢ new.name)
    apart lives =
        let two = first (not (eqb d.id new.id)) (not (is_same_name d.name new.name)) lives in
        (λ same. let bad : false ≡ true = sym (ap not (eq-eqb d.id new.id same)) ∙ two.0 in absurd cc, λ same. let bad : false ≡ true = sym (ap not (alike d.name new.name same)) ∙ two.1 in absurd cc)

    at : (b : Bool) → outlives new d ≡ b → AreOthers new (filter (outlives new) ds) → AreOthers new (cond b (d ∷ filter (outlives new) ds) (filter (outlives new) ds))
    at true e rest = (apart e, rest)
    at false e rest = rest

id_at : (ds : List Definition) (id : ℕ) (d : Definition) → table_at ds id ≡ Some d → d.id ≡ id
id_at [] id d h = absurd cc
id_at (x ∷ xs) id d h = elim (cases_eq x.id id) [
  | inl here ↦
      let first : Some x ≡ Some d = sym (rw (eq-eqb x.id id here) refl) ∙ h in
      let found : x ≡ d = cc in
      sym (ap (λ (y : Definition). y.id) found) ∙ here
  | inr other ↦ id_at xs id d (sym (rw (ne_eqb x.id id other) refl) ∙ h)
]

name_at : (ds : List Definition) (name : List ℕ) (d : Definition) → table_named ds name ≡ Some d → d.name ≡ name
name_at [] name d h = absurd cc
name_at (x ∷ xs) name d h = at (is_same_name x.name name) refl h (name_at xs name d)
  where
    at : (b : Bool) → is_same_name x.name name ≡ b → cond b (Some x) (table_named xs name) ≡ Some d → (table_named xs name ≡ Some d → d.name ≡ name) → d.name ≡ name
    at true g h rest =
        let first : Some x ≡ Some d = h in
        let found : x ≡ d = cc in
        sym (ap (λ (y : Definition). y.name) found) ∙ same_text x.name name (sym g)
    at false g h rest = rest h

no_table : (b : Bool) → ◌≡◌ {A = Option Definition} None (cond b None None)
no_table true = refl
no_table false = refl

no_number : (b : Bool) → ◌≡◌ {A = Option ℕ} None (cond b None None)
no_number true = refl
no_number false = refl

unless : (b : Bool) (d : Definition) → cond (not b) (Some d) None ≡ cond b None (Some d)
unless true d = refl
unless false d = refl

one_id : (new d : Definition) → option_map (λ (x : Definition). x.id) (cond (not (eqb d.id new.id) && not false) (Some d) None) ≡ cond (eqb new.id d.id) None (Some d.id)
one_id new d = elim (cases_eq d.id new.id) [
  | inl here ↦ rw (eq-eqb d.id new.id here, eq-eqb new.id d.id (sym here)) refl
  | inr other ↦ rw (ne_eqb d.id new.id other, ne_eqb new.id d.id (λ g. other (sym g))) refl
]

module _ (new : Definition) (ds : List Definition) (distinct : AreDistinct ds) where
  -- what an id stands for after a definition
  pub defined_at : (id : ℕ) → table_at (defined new ds) id ≡ cond (eqb id new.id) (Some new) (cond (is_id (id_named ds new.name) id) None (table_at ds id))
  defined_at id =
      at_insert new (filter (outlives new) ds) id (others_live new ds)
      ∙ ap (λ (o : Option Definition). cond (eqb id new.id) (Some new) o) (at_filter (outlives new) ds id distinct)
      ∙ by (table_at ds id) refl
    where
      by : (o : Option Definition) → table_at ds id ≡ o → cond (eqb id new.id) (Some new) (kept (outlives new) (table_at ds id)) ≡ cond (eqb id new.id) (Some new) (cond (is_id (id_named ds new.name) id) None (table_at ds id))
      by None e =
          rw e (ap (λ (o : Option Definition). cond (eqb id new.id) (Some new) o) (no_table (is_id (id_named ds new.name) id)))
      by (Some d) e =
          let same : is_same_name d.name new.name ≡ is_id (id_named ds new.name) id = sym (ap (λ (o : Option Definition). has_that_name o new.name) e) ∙ same_at ds new.name id distinct in
          let is : d.id ≡ id = id_at ds id d e in
          elim (cases_eq id new.id) [
            | inl here ↦ rw (eq-eqb id new.id here) refl
            | inr other ↦
                let differ : eqb d.id new.id ≡ false = ne_eqb d.id new.id (λ f. other (sym is ∙ f)) in
                rw (ne_eqb id new.id other, e, differ, same) (unless (is_id (id_named ds new.name) id) d)
          ]

  -- and which id a name has
  pub defined_named : (name : List ℕ) → id_named (defined new ds) name ≡ cond (is_same_name new.name name) (Some new.id) (cond (has_that_name (table_at ds new.id) name) None (id_named ds name))
  defined_named name =
      ap (λ (o : Option Definition). option_map (λ (d : Definition). d.id) o)
      (named_insert new (filter (outlives new) ds) name (others_live new ds) ∙ ap (λ (o : Option Definition). cond (is_same_name new.name name) (Some new) o) (named_filter (outlives new) ds name distinct))
      ∙ by (is_same_name new.name name) refl (table_named ds name) refl
    where
      by : (b : Bool) → is_same_name new.name name ≡ b → (o : Option Definition) → table_named ds name ≡ o
          → option_map (λ (d : Definition). d.id) (cond (is_same_name new.name name) (Some new) (kept (outlives new) (table_named ds name))) ≡ cond (is_same_name new.name name) (Some new.id) (cond (has_that_name (table_at ds new.id) name) None (id_named ds name))
      by true f o e = rw f refl
      by false f None e = rw (f, e) (no_number (has_that_name (table_at ds new.id) name))
      by false f (Some d) e =
          let named : d.name ≡ name = name_at ds name d e in
          let differ : is_same_name d.name new.name ≡ false = unlike d.name new.name (λ g. let bad : true ≡ false = sym (alike new.name name (sym g ∙ named)) ∙ f in absurd cc) in
          let same : has_that_name (table_at ds new.id) name ≡ eqb new.id d.id = same_at ds name new.id distinct ∙ ap (λ (o : Option Definition). is_id (option_map (λ (x : Definition). x.id) o) new.id) e in
          rw (f, e, differ, same) (one_id new d)

-- ---- the map by id

pub found_by_id : (ds : List Definition) (id : ℕ) → lookup (is_at (nat_cmp id)) (by_ids ds) ≡ table_at ds id
found_by_id [] id = refl
found_by_id (d ∷ ds) id = elim (cases_eq d.id id) [
  | inl same ↦ rw (sym (nat_cmp_is id d.id Equal (sym same)), eq-eqb d.id id same) refl
  | inr other ↦ elim (cases_lt id d.id) [
    | inl lt ↦ rw (sym (nat_cmp_is id d.id Less lt), ne_eqb d.id id other) (found_by_id ds id)
    | inr le ↦
        let gt : d.id < id = omega arith in
        rw (sym (nat_cmp_is id d.id Greater gt), ne_eqb d.id id other) (found_by_id ds id)
  ]
]

values : (ds : List Definition) → values_of (by_ids ds) ≡ ds
values [] = refl
values (d ∷ ds) = ap (λ (rest : List Definition). d ∷ rest) (values ds)

keys_above : (d : Definition) (ds : List Definition) → AllByRecursion (IsBelow d) ds → AllByRecursion (λ id. nat_cmp d.id id ≡ Less) (keys_of (by_ids ds))
keys_above d [] above = tt
keys_above d (x ∷ xs) above = (sym (nat_cmp_is d.id x.id Less above.0.0), keys_above d xs above.1)

keys_rise : (ds : List Definition) → AreDistinct ds → IsStrictlySortedBy nat_cmp (keys_of (by_ids ds))
unfolding IsStrictlySortedBy
keys_rise [] distinct = tt
keys_rise (d ∷ ds) distinct = (keys_above d ds distinct.0, keys_rise ds distinct.1)

-- a map with these tables at their ids, and no others
pub same_map : (es : List (ℕ × Definition)) (ds : List Definition) → IsStrictlySortedBy nat_cmp (keys_of es) → AreDistinct ds → ((id : ℕ) → lookup (is_at (nat_cmp id)) es ≡ table_at ds id) → es ≡ by_ids ds
same_map es ds rise distinct found =
    same_entries es (by_ids ds) rise (keys_rise ds distinct) (λ id. found id ∙ sym (found_by_id ds id))

-- the tables of such a map
pub indexed_so : (es : List (ℕ × Definition)) (ds : List Definition) (index : List ℕ → Option ℕ) → es ≡ by_ids ds → AreDistinct ds → ((name : List ℕ) → index name ≡ id_named ds name) → AreIndexed es index
indexed_so es ds index is distinct named =
    let all : values_of es ≡ ds = ap (λ (xs : List (ℕ × Definition)). values_of xs) is ∙ values ds in
    record {
      by_id = is ∙ ap by_ids (sym all);
      distinct = subst AreDistinct (sym all) distinct;
      by_name = λ name. named name ∙ ap (λ (xs : List Definition). id_named xs name) (sym all);
    }

pub values_so : (es : List (ℕ × Definition)) (ds : List Definition) → es ≡ by_ids ds → values_of es ≡ ds
values_so es ds is = ap (λ (xs : List (ℕ × Definition)). values_of xs) is ∙ values ds

module _ (es : List (ℕ × Definition)) (index : List ℕ → Option ℕ) (indexed : AreIndexed es index) where
  pub found : (id : ℕ) → lookup (is_at (nat_cmp id)) es ≡ table_at (values_of es) id
  found id = ap (λ (xs : List (ℕ × Definition)). lookup (is_at (nat_cmp id)) xs) indexed.by_id ∙ found_by_id (values_of es) id

  -- a definition is put at its id and its name; it takes the id's name away, and the name's table
  module _ (new : Definition) (after : List (ℕ × Definition)) (index_after : List ℕ → Option ℕ)
      (rise : IsStrictlySortedBy nat_cmp (keys_of after))
      (tables : (id : ℕ) → lookup (is_at (nat_cmp id)) after ≡ cond (eqb id new.id) (Some new) (cond (is_id (index new.name) id) None (lookup (is_at (nat_cmp id)) es)))
      (names : (name : List ℕ) → index_after name ≡ cond (is_same_name new.name name) (Some new.id) (cond (has_that_name (lookup (is_at (nat_cmp new.id)) es) name) None (index name))) where
    tables_are : after ≡ by_ids (defined new (values_of es))
    tables_are = same_map after (defined new (values_of es)) rise (distinct-defined new (values_of es) indexed.distinct)
        (λ id. tables id
        ∙ ap (λ (o : Option ℕ). cond (eqb id new.id) (Some new) (cond (is_id o id) None (lookup (is_at (nat_cmp id)) es))) (indexed.by_name new.name)
        ∙ ap (λ (o : Option Definition). cond (eqb id new.id) (Some new) (cond (is_id (id_named (values_of es) new.name) id) None o)) (found id)
        ∙ sym (defined_at new (values_of es) indexed.distinct id))

    pub tables_defined : values_of after ≡ defined new (values_of es)
    tables_defined = values_so after (defined new (values_of es)) tables_are

    pub indexed_after : AreIndexed after index_after
    indexed_after = indexed_so after (defined new (values_of es)) index_after tables_are (distinct-defined new (values_of es) indexed.distinct)
        (λ name. names name
        ∙ ap (λ (o : Option ℕ). cond (is_same_name new.name name) (Some new.id) (cond (has_that_name (lookup (is_at (nat_cmp new.id)) es) name) None o)) (indexed.by_name name)
        ∙ ap (λ (o : Option Definition). cond (is_same_name new.name name) (Some new.id) (cond (has_that_name o name) None (id_named (values_of es) name))) (found new.id)
        ∙ sym (defined_named new (values_of es) indexed.distinct name))

-- ---- what the maps hold after each call

-- the same tables and the same index
pub indexed_same : (es after : List (ℕ × Definition)) (index index_after : List ℕ → Option ℕ) → AreIndexed es index → after ≡ es → ((name : List ℕ) → index_after name ≡ index name) → AreIndexed after index_after
indexed_same es after index index_after indexed is same = record {
  by_id = subst (λ (xs : List (ℕ × Definition)). xs ≡ by_ids (values_of xs)) (sym is) indexed.by_id;
  distinct = subst (λ (xs : List (ℕ × Definition)). AreDistinct (values_of xs)) (sym is) indexed.distinct;
  by_name = λ name. same name ∙ indexed.by_name name ∙ ap (λ (xs : List (ℕ × Definition)). id_named (values_of xs) name) (sym is);
}

two_names : (o : Option Definition) (one other : List ℕ) → has_that_name o one ≡ true → is_same_name one other ≡ false → has_that_name o other ≡ false
two_names None one other has differ = refl
two_names (Some d) one other has differ = subst (λ (n : List ℕ). is_same_name n other ≡ false) (sym (same_text d.name one (sym has))) differ

two_ids : (o : Option ℕ) (one other : ℕ) → is_id o one ≡ true → (other ≡ one → ⊥) → is_id o other ≡ false
two_ids None one other has differ = refl
two_ids (Some id) one other has differ = elim (cases_eq one id) [
  | inl same ↦ ne_eqb other id (λ e. differ (e ∙ sym same))
  | inr apart ↦ let bad : false ≡ true = sym (ne_eqb one id apart) ∙ has in absurd cc
]

module _ (es : List (ℕ × Definition)) (index : List ℕ → Option ℕ) (indexed : AreIndexed es index) (new : Definition) where
  -- the table of its id has a name exactly if that name is its id's
  same_here : (name : List ℕ) → has_that_name (lookup (is_at (nat_cmp new.id)) es) name ≡ is_id (index name) new.id
  same_here name =
      ap (λ (o : Option Definition). has_that_name o name) (found es index indexed new.id)
      ∙ same_at (values_of es) name new.id indexed.distinct
      ∙ ap (λ (o : Option ℕ). is_id o new.id) (sym (indexed.by_name name))

  -- if the id has the name already, only its table is replaced
  pub own_table : is_id (index new.name) new.id ≡ true → (id : ℕ) (o : Option Definition) → cond (eqb id new.id) (Some new) o ≡ cond (eqb id new.id) (Some new) (cond (is_id (index new.name) id) None o)
  own_table own id o = elim (cases_eq id new.id) [
    | inl same ↦ rw (eq-eqb id new.id same) refl
    | inr other ↦ rw (ne_eqb id new.id other, two_ids (index new.name) new.id id own other) refl
  ]

  pub own_name : is_id (index new.name) new.id ≡ true → (name : List ℕ) (o : Option ℕ) → cond (is_same_name new.name name) (Some new.id) o ≡ cond (is_same_name new.name name) (Some new.id) (cond (has_that_name (lookup (is_at (nat_cmp new.id)) es) name) None o)
  own_name own name o = by (is_same_name new.name name) refl
    where
      by : (b : Bool) → is_same_name new.name name ≡ b → cond (is_same_name new.name name) (Some new.id) o ≡ cond (is_same_name new.name name) (Some new.id) (cond (has_that_name (lookup (is_at (nat_cmp new.id)) es) name) None o)
      by true e = rw e refl
      by false e = rw (e, two_names (lookup (is_at (nat_cmp new.id)) es) new.name name (same_here new.name ∙ own) e) refl

  -- otherwise the name's table and the id's name are removed
  pub other_table : is_id (index new.name) new.id ≡ false → (id : ℕ) (o : Option Definition) → cond (is_id (index new.name) id) None (cond (eqb id new.id) (Some new) o) ≡ cond (eqb id new.id) (Some new) (cond (is_id (index new.name) id) None o)
  other_table other id o = elim (cases_eq id new.id) [
    | inl same ↦
        let none : is_id (index new.name) id ≡ false = subst (λ (n : ℕ). is_id (index new.name) n ≡ false) (sym same) other in
        rw (none, eq-eqb id new.id same) refl
    | inr apart ↦ rw (ne_eqb id new.id apart) refl
  ]

  pub other_name : is_id (index new.name) new.id ≡ false → (name : List ℕ) (o : Option ℕ) → cond (has_that_name (lookup (is_at (nat_cmp new.id)) es) name) None (cond (is_same_name new.name name) (Some new.id) o)
      ≡ cond (is_same_name new.name name) (Some new.id) (cond (has_that_name (lookup (is_at (nat_cmp new.id)) es) name) None o)
  other_name other name o = by (is_same_name new.name name) refl
    where
      by : (b : Bool) → is_same_name new.name name ≡ b → cond (has_that_name (lookup (is_at (nat_cmp new.id)) es) name) None (cond (is_same_name new.name name) (Some new.id) o)
          ≡ cond (is_same_name new.name name) (Some new.id) (cond (has_that_name (lookup (is_at (nat_cmp new.id)) es) name) None o)
      by false e = rw e refl
      by true e =
          let here : has_that_name (lookup (is_at (nat_cmp new.id)) es) name ≡ false = subst (λ (n : List ℕ). has_that_name (lookup (is_at (nat_cmp new.id)) es) n ≡ false) (same_text new.name name (sym e)) (same_here new.name ∙ other) in
          rw (e, here) refl

  -- a table that is put back leaves the map as it was
  pub back_again : (mid after : List (ℕ × Definition)) (before : Option Definition) → IsStrictlySortedBy nat_cmp (keys_of after)
      → ((id : ℕ) → lookup (is_at (nat_cmp id)) mid ≡ cond (eqb id new.id) (Some new) (lookup (is_at (nat_cmp id)) es))
      → ((id : ℕ) → lookup (is_at (nat_cmp id)) after ≡ cond (eqb id new.id) before (lookup (is_at (nat_cmp id)) mid))
      → before ≡ lookup (is_at (nat_cmp new.id)) es → after ≡ es
  back_again mid after before rise put back was =
      same_map after (values_of es) rise indexed.distinct (λ id. at id ∙ found es index indexed id) ∙ sym indexed.by_id
    where
      at : (id : ℕ) → lookup (is_at (nat_cmp id)) after ≡ lookup (is_at (nat_cmp id)) es
      at id = elim (cases_eq id new.id) [
        | inl same ↦ back id ∙ rw (eq-eqb id new.id same) (was ∙ ap (λ (n : ℕ). lookup (is_at (nat_cmp n)) es) (sym same))
        | inr other ↦ back id ∙ rw (ne_eqb id new.id other) (put id ∙ rw (ne_eqb id new.id other) refl)
      ]

-- ---- tables that come after the others

-- tables that are all below the given one
abbrev AreBelow : Definition → List Definition → Type 0
AreBelow d ds = AllByRecursion (λ x. IsBelow x d) ds

-- they outlive its definition
all_live : (d : Definition) (ds : List Definition) → AreBelow d ds → filter (outlives d) ds ≡ ds
all_live d [] below = refl
all_live d (x ∷ xs) below =
    let lt : x.id < d.id = below.0.0 in
    let apart : x.id ≡ d.id → ⊥ = λ same. omega arith in
    let lives : outlives d x ≡ true = rw (ne_eqb x.id d.id apart, unlike x.name d.name below.0.1) refl in
    rw lives (ap (λ (ts : List Definition). x ∷ ts) (all_live d xs below.1))

-- and it comes after them
goes_last : (d : Definition) (ds : List Definition) → AreBelow d ds → insert_table d ds ≡ ds ++ (d ∷ [])
goes_last d [] below = refl
goes_last d (x ∷ xs) below =
    let lt : x.id < d.id = below.0.0 in
    let le : x.id ≤ d.id = omega arith in
    rw (le-ltb d.id x.id le) (ap (λ (ts : List Definition). x ∷ ts) (goes_last d xs below.1))

one_of : (p : Definition → Type 0) (xs : List Definition) (d : Definition) (ds : List Definition) → AllByRecursion p (xs ++ (d ∷ ds)) → p d
one_of p [] d ds all = all.0
one_of p (x ∷ xs) d ds all = one_of p xs d ds all.1

-- a table is above those before it
all_below : (xs : List Definition) (d : Definition) (ds : List Definition) → AreDistinct (xs ++ (d ∷ ds)) → AreBelow d xs
all_below [] d ds distinct = tt
all_below (x ∷ xs) d ds distinct = (one_of (IsBelow x) xs d ds distinct.0, all_below xs d ds distinct.1)

-- so its definition puts it last
pub defined_last : (before : List Definition) (d : Definition) (ds : List Definition) → AreDistinct (before ++ (d ∷ ds)) → defined d before ≡ before ++ (d ∷ [])
defined_last before d ds distinct =
    let below : AreBelow d before = all_below before d ds distinct in
    ap (insert_table d) (all_live d before below) ∙ goes_last d before below

-- the next table is copied
pub next_copied : (all made next after : List Definition) (d : Definition) → AreDistinct all → made ++ (d ∷ next) ≡ all → after ≡ defined d made → after ++ next ≡ all
next_copied all made next after d distinct stood is =
    ap (λ (ds : List Definition). ds ++ next) (is ∙ defined_last made d next (subst AreDistinct (sym stood) distinct)) ∙ append_assoc made (d ∷ []) next ∙ stood

module _ (p : Definition → Bool) (all made next : List Definition) (d : Definition) (distinct : AreDistinct all) (stood : made ++ filter p (d ∷ next) ≡ filter p all) where
  -- the next table is kept
  pub next_kept : (after : List Definition) → p d ≡ true → after ≡ defined d made → after ++ filter p next ≡ filter p all
  next_kept after keeps is =
      next_copied (filter p all) made (filter p next) after d (distinct-filter p all distinct) (subst (λ (b : Bool). made ++ cond b (d ∷ filter p next) (filter p next) ≡ filter p all) keeps stood) is

  -- or it is dropped
  pub next_dropped : p d ≡ false → made ++ filter p next ≡ filter p all
  next_dropped drops = subst (λ (b : Bool). made ++ cond b (d ∷ filter p next) (filter p next) ≡ filter p all) drops stood
