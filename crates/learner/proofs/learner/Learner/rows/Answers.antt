use Rattle.std.proofs.Common.{List, [], sym, subst}
use Rattle.std.specs.Map.{keys_of}
use Rattle.std.specs.List.Sorted.{IsStrictlySortedBy}
use Rattle.table_types.specs.declared.key.Key.{Key}
use Rattle.table_types.specs.Rows.{StoredRow}
use Rattle.table_types.specs.Keys.{key_cmp}
use Rattle.learner.proofs.learner.Learner.rows.Goals as goal

none_rise : IsStrictlySortedBy key_cmp []
unfolding IsStrictlySortedBy
none_rise = tt

pub returns-in-None-clause-rising : goal.returns-in-None-clause-rising
returns-in-None-clause-rising c =
    subst (λ (es : List (Key × StoredRow)). IsStrictlySortedBy key_cmp (keys_of es)) (sym c.new.ensures.items) none_rise
