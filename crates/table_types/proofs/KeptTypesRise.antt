-- The entries that a definition keeps of those given: each is one of them, and their ids ascend.
use Rattle.std.proofs.Common.{◌≡◌, ℕ, ◌+◌, ◌≤◌, ◌<◌, ◌^◌, Bool, true, List, [], ◌∷◌, Option, Some, None, arith, refl}
use Rattle.std.specs.List.{list_all, filter_map}
use Rattle.std.proofs.lemmas.Bool.{le-leb, lt-ltb}
use Rattle.std.proofs.lemmas.Bool.Decides.{nat_tests}
use Rattle.table_types.specs.declared.data_type.DataType.{DataType}
use Rattle.table_types.specs.DataTypes.{id_of, all_types}
use Rattle.table_types.specs.declared.key.KeyKind.{KeyKind}
use Rattle.table_types.specs.Names.{is_name}
use Rattle.table_types.specs.Keys.{fits_length}
use Rattle.table_types.specs.Tables.{is_definition, is_id, has_its_period, entry_of, rise_from, in_rising_id}

-- the entry found has the type asked for
pub entry_of-same : (es : List (DataType × Option ℕ)) (t : DataType) (e : DataType × Option ℕ) → entry_of es t ≡ Some e → id_of t ≡ id_of e.0
entry_of-same [] t e h = cc
entry_of-same (x ∷ es) t e h = grind (arith, nat_tests, entry_of-same es t e)

-- a test that all the given entries pass is passed by the entry found
pub entry_of-passes : (p : DataType × Option ℕ → Bool) (es : List (DataType × Option ℕ)) (t : DataType) (e : DataType × Option ℕ) → list_all p es ≡ true → entry_of es t ≡ Some e → p e ≡ true
entry_of-passes p [] t e all h = cc
entry_of-passes p (x ∷ es) t e all h = grind (arith, nat_tests, entry_of-passes p es t e)

-- a test that each result passes is passed by all the results
pub filter_map-passes : {X Y : Type 0} (p : Y → Bool) (f : X → Option Y) → ((x : X) (y : Y) → f x ≡ Some y → p y ≡ true) → (xs : List X) → list_all p (filter_map f xs) ≡ true
filter_map-passes p f each [] = refl
filter_map-passes {X} {Y} p f each (x ∷ xs) =
    let others = filter_map-passes p f each xs in
    let by : (o : Option Y) → f x ≡ o → list_all p (filter_map f (x ∷ xs)) ≡ true = λ o. elim o as (λ o. f x ≡ o → list_all p (filter_map f (x ∷ xs)) ≡ true) [
      | None ↦ λ e. rw e others
      | Some y ↦ λ e. rw (e, each x y e) others
    ] in
    by (f x) refl

-- the types have consecutive ids, from k on
abbrev pub AreFrom : ℕ → List DataType → Type 0
AreFrom k [] = Unit {0}
AreFrom k (t ∷ ts) = (id_of t ≡ k) × AreFrom (k + 1) ts

-- the ids of the entries of such types ascend
pub entries_rise : (es : List (DataType × Option ℕ)) (least k : ℕ) (ts : List DataType) → least ≤ k → AreFrom k ts → rise_from least (filter_map (entry_of es) ts) ≡ true
entries_rise es least k [] le are = refl
entries_rise es least k (t ∷ ts) le are =
    let here : id_of t ≡ k = are.0 in
    let by : (o : Option (DataType × Option ℕ)) → entry_of es t ≡ o → rise_from least (filter_map (entry_of es) (t ∷ ts)) ≡ true = λ o. elim o as (λ o. entry_of es t ≡ o → rise_from least (filter_map (entry_of es) (t ∷ ts)) ≡ true) [
      | None ↦ λ e. rw e (entries_rise es least (k + 1) ts (omega arith) are.1)
      | Some y ↦ λ e.
          let same : id_of t ≡ id_of y.0 = entry_of-same es t y e in
          let reaches : least ≤ id_of y.0 = omega arith in
          rw (e, le-leb least (id_of y.0) reaches) (entries_rise es (id_of y.0 + 1) (k + 1) ts (omega arith) are.1)
    ] in
    by (entry_of es t) refl

all_are : AreFrom 0 all_types
all_are = (refl, (refl, (refl, (refl, (refl, (refl, (refl, (refl, (refl, (refl, (refl, (refl, (refl, (refl, (refl, (refl, (refl, (refl, (refl, (refl, tt))))))))))))))))))))

pub in_rising_id-rises : (es : List (DataType × Option ℕ)) → rise_from 0 (in_rising_id es) ≡ true
in_rising_id-rises es = entries_rise es 0 0 all_types (omega arith) all_are

pub in_rising_id-passes : (p : DataType × Option ℕ → Bool) (es : List (DataType × Option ℕ)) → list_all p es ≡ true → list_all p (in_rising_id es) ≡ true
in_rising_id-passes p es all = filter_map-passes p (entry_of es) (λ t e h. entry_of-passes p es t e all h) all_types

-- parts without a fault make a definition
pub made_is_definition : (id : ℕ) (name called : List ℕ) (kind : KeyKind) (l expire : ℕ) (types kept : List (DataType × Option ℕ)) → is_id id ≡ true → is_name name ≡ true → called ≡ name → fits_length kind l ≡ true → expire < 2 ^ 32 → list_all has_its_period types ≡ true → kept ≡ in_rising_id types → is_definition (record { id = id; name = called; kind = kind; key_length = l; expire = expire; types = kept }) ≡ true
made_is_definition id name called kind l expire types kept a b same c d e are =
    rw (same, are, a, b, c, lt-ltb expire (2 ^ 32) d, in_rising_id-passes has_its_period types e, in_rising_id-rises types) refl
