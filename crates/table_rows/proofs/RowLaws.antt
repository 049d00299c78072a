-- Rows in ascending order of key that are copied one after another.
use Rattle.std.proofs.Common.{◌≡◌, List, [], ◌∷◌, ◌++◌, refl, sym, ap, ◌∙◌, subst}
use Rattle.std.specs.List.{AllByRecursion}
use Rattle.std.proofs.lemmas.List.{append_assoc}
use Rattle.std.specs.List.Sorted.{IsStrictlySortedBy}
use Rattle.std.specs.declared.cmp.Ordering.TheVariants.{Less, Greater}
use Rattle.std.specs.Ordering.{ordering_reverse}
use Rattle.std.specs.Map.{keys_of}
use Rattle.std.specs.BTreeMap.{insert_entry}
use Rattle.table_types.specs.declared.key.Key.{Key}
use Rattle.table_types.specs.Keys.{key_cmp}
use Rattle.table_types.specs.KeyOrder.{key_cmp_total}
use Rattle.table_types.specs.Rows.{StoredRow}

-- a key above all others is put last
pub insert_last : (es fs : List (Key × StoredRow)) (key : Key) (row : StoredRow) → IsStrictlySortedBy key_cmp (keys_of (es ++ (key, row) ∷ fs)) → insert_entry key_cmp es key row ≡ es ++ (key, row) ∷ []
unfolding IsStrictlySortedBy
insert_last [] fs key row rising = refl
insert_last (e ∷ es) fs key row rising =
    let greater : key_cmp key e.0 ≡ Greater = key_cmp_total.antisymm key e.0 ∙ ap ordering_reverse (below es rising.0) in
    rw greater (ap (λ (rest : List (Key × StoredRow)). e ∷ rest) (insert_last es fs key row rising.1))
  where
    below : (gs : List (Key × StoredRow)) → AllByRecursion (λ q. key_cmp e.0 q ≡ Less) (keys_of (gs ++ (key, row) ∷ fs)) → key_cmp e.0 key ≡ Less
    below [] above = above.0
    below (g ∷ gs) above = below gs above.1

-- the next row is copied
pub next_copied : (all es fs after : List (Key × StoredRow)) (key : Key) (row : StoredRow) → IsStrictlySortedBy key_cmp (keys_of all) → es ++ (key, row) ∷ fs ≡ all → after ≡ insert_entry key_cmp es key row → after ++ fs ≡ all
next_copied all es fs after key row rising stood put =
    let last = put ∙ insert_last es fs key row (subst (λ (rs : List (Key × StoredRow)). IsStrictlySortedBy key_cmp (keys_of rs)) (sym stood) rising) in
    ap (λ (rs : List (Key × StoredRow)). rs ++ fs) last ∙ append_assoc es ((key, row) ∷ []) fs ∙ stood
