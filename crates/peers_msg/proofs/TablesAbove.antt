-- The tables above an id, in the map by id.
use Rattle.std.proofs.Common.{◌≡◌, ℕ, ◌<◌, List, [], ◌∷◌, Option, Some, None, refl, sym, ap, ◌∙◌, inl, inr, arith}
use Rattle.std.specs.BTreeMap.Range.{entries_between}
use Rattle.std.specs.Cmp.{nat_cmp_is}
use Rattle.std.specs.Map.{values_of}
use Rattle.std.specs.Ordering.{nat_cmp}
use Rattle.std.specs.declared.cmp.Ordering.TheVariants.{Less, Equal, Greater}
use Rattle.std.specs.declared.ops.Bound.TheVariants.{Excluded, Unbounded}
use Rattle.std.proofs.lemmas.Bool.{cases_eq, cases_lt, lt-ltb, le-ltb}
use Rattle.table_types.specs.Tables.{Definition}
use Rattle.peers_msg.specs.Received.{table_above}
use Rattle.peers_msg.specs.ReceivedIndex.{by_ids}

-- the table of the first entry
abbrev pub first_table : List (ℕ × Definition) → Option Definition
first_table [] = None
first_table (e ∷ es) = Some e.1

pub first_above : (ds : List Definition) (id : ℕ) → first_table (entries_between nat_cmp (Excluded id) Unbounded (by_ids ds)) ≡ table_above ds id
first_above [] id = refl
first_above (d ∷ ds) id = elim (cases_lt id d.id) [
  | inl lt ↦ rw (sym (nat_cmp_is id d.id Less lt), lt-ltb id d.id lt) refl
  | inr le ↦ elim (cases_eq id d.id) [
    | inl same ↦ rw (sym (nat_cmp_is id d.id Equal same), le-ltb id d.id le) (first_above ds id)
    | inr other ↦
        let gt : d.id < id = omega arith in
        rw (sym (nat_cmp_is id d.id Greater gt), le-ltb id d.id le) (first_above ds id)
  ]
]

-- the first table of the range above an id
pub first_of_range : (es range : List (ℕ × Definition)) (id : ℕ) → es ≡ by_ids (values_of es) → range ≡ entries_between nat_cmp (Excluded id) Unbounded es → first_table range ≡ table_above (values_of es) id
first_of_range es range id by_id is = ap first_table is ∙ ap (λ (fs : List (ℕ × Definition)). first_table (entries_between nat_cmp (Excluded id) Unbounded fs)) by_id ∙ first_above (values_of es) id
