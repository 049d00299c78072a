-- One audited table after another.
use Rattle.std.proofs.Common.{◌≡◌, ◌≤◌, ◌<◌, ◌+◌, ℕ, List, [], ◌∷◌, drop, get_or, length, subst, sym}
use Rattle.std.proofs.lemmas.List.{drop_all}
use Rattle.table_types.specs.Tables.{Definition}
use Rattle.table_shards.specs.declared.unlocked.UnlockedTable.{UnlockedTable}
use Rattle.node_commands.specs.Auditing.{AreTablesOf, IsTableOf}
use Rattle.node_commands.proofs.Lists.{next_left}

-- the table at a place and those after it, if the first definition that is left is its own
pub one_more_table : (ds others : List Definition) (ts : List UnlockedTable) (i : ℕ) (d : Definition) (t : UnlockedTable) → i < length ts → t ≡ get_or ts i t → ds ≡ d ∷ others
    → IsTableOf d t.cell → AreTablesOf others (drop (i + 1) ts) → AreTablesOf ds (drop i ts)
one_more_table ds others ts i d t lt is same own rest =
    subst (λ (xs : List Definition). AreTablesOf xs (drop i ts)) (sym same)
    (subst (λ (ys : List UnlockedTable). AreTablesOf (d ∷ others) ys) (sym (next_left ts i t lt is)) (own, rest))

-- and no table is left after the last one
pub no_more_tables : (ds : List Definition) (ts : List UnlockedTable) (i : ℕ) → ds ≡ [] → length ts ≤ i → AreTablesOf ds (drop i ts)
no_more_tables ds ts i none most =
    subst (λ (xs : List Definition). AreTablesOf xs (drop i ts)) (sym none)
    (subst (λ (ys : List UnlockedTable). AreTablesOf [] ys) (sym (drop_all i ts most)) tt)
