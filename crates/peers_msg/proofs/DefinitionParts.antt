-- A definition is made again of its parts, and none of them is refused.
use Rattle.std.proofs.Common.{◌≡◌, ℕ, ◌+◌, ◌<◌, ◌≤◌, true, false, leb, List, [], ◌∷◌, length, Option, None, refl, sym, ap, ◌∙◌, arith, inl, inr}
use Rattle.std.specs.List.{list_all, filter_map}
use Rattle.std.proofs.lemmas.Bool.{leb-true, le-leb, eqb-true, eqb-false, and_parts, cases_Bool}
use Rattle.std.proofs.lemmas.Bool.Decides.{nat_tests}
use Rattle.table_types.specs.declared.data_type.DataType.{DataType}
use Rattle.table_types.specs.DataTypes.{id_of, all_types, is_same_type}
use Rattle.table_types.specs.Tables.{Definition, is_definition, is_id, has_its_period, rise_from, stores, repeats, entry_of, in_rising_id, fault_of}
use Rattle.table_types.specs.Names.{is_name}
use Rattle.table_types.specs.Keys.{fits_length}
use Rattle.peers_msg.proofs.TypeRoundTrip.{AreFrom, all_are}

id_below : (t : DataType) → id_of t < 20
id_below t = grind (arith)

none_below : (u : DataType) (least : ℕ) (ts : List (DataType × Option ℕ)) → rise_from least ts ≡ true → id_of u < least → entry_of ts u ≡ None
none_below u least [] rises lt = refl
none_below u least (t ∷ ts) rises lt = grind (arith, nat_tests, none_below u (id_of t.0 + 1) ts)

not_stored : (u : DataType) (least : ℕ) (ts : List (DataType × Option ℕ)) → rise_from least ts ≡ true → id_of u < least → stores u ts ≡ false
not_stored u least [] rises lt = refl
not_stored u least (t ∷ ts) rises lt = grind (arith, nat_tests, not_stored u (id_of t.0 + 1) ts)

no_repeats : (least : ℕ) (ts : List (DataType × Option ℕ)) → rise_from least ts ≡ true → repeats ts ≡ false
no_repeats least [] rises = refl
no_repeats least (t ∷ ts) rises = grind (arith, nat_tests, not_stored t.0 (id_of t.0 + 1) ts, no_repeats (id_of t.0 + 1) ts)

-- types with greater ids don't change which entries are found
skipped : (t : DataType × Option ℕ) (ts : List (DataType × Option ℕ)) (k : ℕ) (us : List DataType) → AreFrom k us → id_of t.0 < k → filter_map (entry_of (t ∷ ts)) us ≡ filter_map (entry_of ts) us
skipped t ts k [] are lt = refl
skipped t ts k (u ∷ us) are lt =
    let other : is_same_type u t.0 ≡ false = grind (arith, nat_tests, are.0) in
    let more : id_of t.0 < k + 1 = omega (arith, lt) in
    rw (other, skipped t ts (k + 1) us are.1 more) refl

rising : (k : ℕ) (us : List DataType) (ts : List (DataType × Option ℕ)) → AreFrom k us → k + length us ≡ 20 → rise_from k ts ≡ true → filter_map (entry_of ts) us ≡ ts
rising k [] [] are all rises = refl
rising k [] (t ∷ ts) are all rises =
    let a = and_parts (leb k (id_of t.0)) (rise_from (id_of t.0 + 1) ts) rises in
    absurd (omega (arith, leb-true k (id_of t.0) a.0, id_below t.0))
rising k (u ∷ us) [] are all rises = rising (k + 1) us [] are.1 (omega (arith, all)) refl
rising k (u ∷ us) (t ∷ ts) are all rises =
    let a = and_parts (leb k (id_of t.0)) (rise_from (id_of t.0 + 1) ts) rises in
    let le : k ≤ id_of t.0 = leb-true k (id_of t.0) a.0 in
    let rest : (k + 1) + length us ≡ 20 = omega (arith, all) in
    elim (cases_Bool (is_same_type u t.0)) [
      | inl same ↦
          let here : id_of t.0 ≡ k = sym (eqb-true _ _ same) ∙ are.0 in
          let lt : id_of t.0 < k + 1 = omega (arith, here) in
          let others : rise_from (k + 1) ts ≡ true = ap (λ (n : ℕ). rise_from (n + 1) ts) (sym here) ∙ a.1 in
          rw same (ap (λ (es : List (DataType × Option ℕ)). t ∷ es) (skipped t ts (k + 1) us are.1 lt ∙ rising (k + 1) us ts are.1 rest others))
      | inr other ↦
          let lt : id_of u < id_of t.0 + 1 = omega (arith, are.0, le) in
          let above : k + 1 ≤ id_of t.0 = omega (arith, are.0, le, eqb-false (id_of u) (id_of t.0) other) in
          let later : rise_from (k + 1) (t ∷ ts) ≡ true = rw (le-leb (k + 1) (id_of t.0) above) a.1 in
          rw (other, none_below u (id_of t.0 + 1) ts a.1 lt) (rising (k + 1) us (t ∷ ts) are.1 rest later)
    ]

-- the types of a definition are in ascending order of id
pub kept : (d : Definition) → is_definition d ≡ true → in_rising_id d.types ≡ d.types
kept d defined =
    let rises : rise_from 0 d.types ≡ true = grind (arith, nat_tests) in
    rising 0 all_types d.types all_are refl rises

pub no_fault : (d : Definition) → is_definition d ≡ true → fault_of d.id d.name d.kind d.key_length d.types ≡ None
no_fault d defined =
    let rises : rise_from 0 d.types ≡ true = grind (arith, nat_tests) in
    let id : is_id d.id ≡ true = grind (arith, nat_tests) in
    let name : is_name d.name ≡ true = grind (arith, nat_tests) in
    let key_length : fits_length d.kind d.key_length ≡ true = grind (arith, nat_tests) in
    let periods : list_all has_its_period d.types ≡ true = grind (arith, nat_tests) in
    rw (id, name, key_length, periods, no_repeats 0 d.types rises) refl
