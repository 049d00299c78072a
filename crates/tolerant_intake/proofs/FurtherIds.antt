-- Ids that stand for no table.
use Rattle.std.proofs.Common.{◌≡◌, ℕ, ◌≤◌, Bool, true, false, not, ◌&&◌, nat_le, List, length, Option, Some, None, Bor, is_some, option_copied, refl, sym, ap, ◌∙◌}
use Rattle.std.proofs.lemmas.Bool.{le-leb}
use Rattle.table_types.specs.Tables.{Definition}
use Rattle.table_types.specs.Rosters.{has_id, table_at}
use Rattle.known_state.proofs.FitsOrIsRefused.{has_id-table_at}

not_of : (a b : Bool) → a ≡ not b → b ≡ not a
not_of a true h = sym (ap not h)
not_of a false h = sym (ap not h)

copied : (o : Option (Bor Definition)) → is_some (option_copied o) ≡ is_some o
copied None = refl
copied (Some d) = refl

-- a table is absent exactly if none has its id
none_has : (ds : List Definition) (id : ℕ) (o : Option (Bor Definition)) (absent : Bool) → option_copied o ≡ table_at ds id → is_some o ≡ not absent → absent ≡ not (has_id id ds)
none_has ds id o absent found is = not_of (is_some o) absent is ∙ ap not (sym (copied o) ∙ ap (λ (x : Option Definition). is_some x) found ∙ sym (has_id-table_at ds id))

-- so an id is a further one exactly if it stands for no table, while as many tables are defined as may be
pub further : (most : ℕ) (ds : List Definition) (id : ℕ) (o : Option (Bor Definition)) (absent : Bool) → most ≤ length ds → option_copied o ≡ table_at ds id → is_some o ≡ not absent → absent ≡ (nat_le most (length ds) && not (has_id id ds))
further most ds id o absent full found is =
    none_has ds id o absent found is ∙ sym (ap (λ (b : Bool). b && not (has_id id ds)) (le-leb most (length ds) full))
