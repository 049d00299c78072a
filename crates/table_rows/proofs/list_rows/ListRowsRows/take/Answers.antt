use Rattle.std.proofs.Common.{◌≡◌, ◌∙◌, List, sym, subst}
use Rattle.std.specs.List.Sorted.{IsStrictlySortedBy}
use Rattle.std.specs.Map.{keys_of}
use Rattle.table_types.specs.declared.key.Key.{Key}
use Rattle.table_types.specs.Keys.{key_cmp}
use Rattle.table_types.specs.Rows.{StoredRow}
use Rattle.table_rows.specs.Rows.{rows_without}
use Rattle.table_rows.specs.Places.{IsGap, IsThere}
use Rattle.table_rows.proofs.ListLaws.{absent, found, read, removed_there, rising_taken, there_same, without_none}
use Rattle.table_rows.proofs.list_rows.ListRowsRows.take.Goals as goal

-- the key is there
pub returns-in-Ok-clause-taken : goal.returns-in-Ok-clause-taken
returns-in-Ok-clause-taken c =
    let es = c.self.inside.rows.items in
    let key = c.args.key.now in
    let there : IsThere key es c.in-Ok.index = subst (λ fs. IsThere key fs c.in-Ok.index) c.deref.ensures.value c.in-Ok.ensures.there in
    let e = c.remove-row.result in
    let at = read es c.in-Ok.index e there.0 c.remove-row.ensures.value in
    rw (← c.self.view_is) (sym (found key es c.in-Ok.index e at (there_same key es c.in-Ok.index e there at) there.1))

pub returns-in-Ok-clause-others : goal.returns-in-Ok-clause-others
returns-in-Ok-clause-others c =
    let es = c.self.inside.rows.items in
    let key = c.args.key.now in
    let there : IsThere key es c.in-Ok.index = subst (λ fs. IsThere key fs c.in-Ok.index) c.deref.ensures.value c.in-Ok.ensures.there in
    let e = c.remove-row.result in
    let at = read es c.in-Ok.index e there.0 c.remove-row.ensures.value in
    rw (← c.self.view_is) (c.remove-row.ensures.items ∙ removed_there key es c.in-Ok.index e at (there_same key es c.in-Ok.index e there at) there.1)

pub invariant_of-self : goal.invariant_of-self
invariant_of-self c =
    let es = c.self.inside.rows.items in
    let key = c.args.key.now in
    let there : IsThere key es c.in-Ok.index = subst (λ fs. IsThere key fs c.in-Ok.index) c.deref.ensures.value c.in-Ok.ensures.there in
    let e = c.remove-row.result in
    let at = read es c.in-Ok.index e there.0 c.remove-row.ensures.value in
    let others : c.remove-row.new.self.items ≡ rows_without key es = c.remove-row.ensures.items ∙ removed_there key es c.in-Ok.index e at (there_same key es c.in-Ok.index e there at) there.1 in
    subst (λ (fs : List (Key × StoredRow)). IsStrictlySortedBy key_cmp (keys_of fs)) (sym others) (rising_taken es key c.self.invariant)

-- it isn't
pub returns-in-Err-clause-taken : goal.returns-in-Err-clause-taken
returns-in-Err-clause-taken c =
    let es = c.self.inside.rows.items in
    let gap : IsGap c.args.key.now es c.in-Err.field-0 = subst (λ fs. IsGap c.args.key.now fs c.in-Err.field-0) c.deref.ensures.value c.in-Err.ensures.gap in
    rw (← c.self.view_is) (sym (absent c.args.key.now es c.in-Err.field-0 c.self.invariant gap.1 gap.2))

pub returns-in-Err-clause-others : goal.returns-in-Err-clause-others
returns-in-Err-clause-others c =
    let es = c.self.inside.rows.items in
    let gap : IsGap c.args.key.now es c.in-Err.field-0 = subst (λ fs. IsGap c.args.key.now fs c.in-Err.field-0) c.deref.ensures.value c.in-Err.ensures.gap in
    rw (← c.self.view_is) (without_none c.args.key.now es (absent c.args.key.now es c.in-Err.field-0 c.self.invariant gap.1 gap.2))
