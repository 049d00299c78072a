use Rattle.std.proofs.Common.{◌≡◌, ◌∙◌, List, Some, ap, set, sym, subst}
use Rattle.std.specs.BTreeMap.{insert_entry}
use Rattle.std.specs.List.Sorted.{IsStrictlySortedBy}
use Rattle.std.specs.Map.{keys_of}
use Rattle.table_types.specs.declared.key.Key.{Key}
use Rattle.table_types.specs.Keys.{key_cmp}
use Rattle.table_types.specs.Rows.{StoredRow}
use Rattle.table_rows.specs.Places.{IsGap, IsThere}
use Rattle.table_rows.proofs.ListLaws.{absent, found, put_gap, put_there, read, rising_insert, there_same}
use Rattle.table_rows.proofs.list_rows.ListRowsRows.put.Goals as goal

-- the key is there
pub returns-in-Ok-clause-before : goal.returns-in-Ok-clause-before
returns-in-Ok-clause-before c =
    let es = c.self.inside.rows.items in
    let there : IsThere c.args.key es c.in-Ok.index = subst (λ fs. IsThere c.args.key fs c.in-Ok.index) c.deref.ensures.value c.in-Ok.ensures.there in
    let e = c.index_mut.result.now in
    let at = read es c.in-Ok.index e there.0 c.index_mut.ensures.value in
    let one = found c.args.key es c.in-Ok.index e at (there_same c.args.key es c.in-Ok.index e there at) there.1 in
    rw (← c.self.view_is) (ap (λ (p : Key × StoredRow). Some p.1) c.replace-before.ensures.value ∙ sym one)

pub returns-in-Ok-clause-put : goal.returns-in-Ok-clause-put
returns-in-Ok-clause-put c =
    let es = c.self.inside.rows.items in
    let there : IsThere c.args.key es c.in-Ok.index = subst (λ fs. IsThere c.args.key fs c.in-Ok.index) c.deref.ensures.value c.in-Ok.ensures.there in
    let e = c.index_mut.result.now in
    let at = read es c.in-Ok.index e there.0 c.index_mut.ensures.value in
    rw (← c.self.view_is) (ap (λ (p : Key × StoredRow). set es c.in-Ok.index p) c.replace-before.ensures.after ∙ put_there c.args.key es c.in-Ok.index e c.args.row at (there_same c.args.key es c.in-Ok.index e there at) there.1)

pub invariant_of-self : goal.invariant_of-self
invariant_of-self c =
    let es = c.self.inside.rows.items in
    let there : IsThere c.args.key es c.in-Ok.index = subst (λ fs. IsThere c.args.key fs c.in-Ok.index) c.deref.ensures.value c.in-Ok.ensures.there in
    let e = c.index_mut.result.now in
    let at = read es c.in-Ok.index e there.0 c.index_mut.ensures.value in
    let put : set es c.in-Ok.index c.replace-before.new.dest ≡ insert_entry key_cmp es c.args.key c.args.row = ap (λ (p : Key × StoredRow). set es c.in-Ok.index p) c.replace-before.ensures.after ∙ put_there c.args.key es c.in-Ok.index e c.args.row at (there_same c.args.key es c.in-Ok.index e there at) there.1 in
    subst (λ (fs : List (Key × StoredRow)). IsStrictlySortedBy key_cmp (keys_of fs)) (sym put) (rising_insert es c.args.key c.args.row c.self.invariant)

-- it isn't
pub returns-in_ok-insert-in-Err-clause-before : goal.returns-in_ok-insert-in-Err-clause-before
returns-in_ok-insert-in-Err-clause-before c =
    let es = c.self.inside.rows.items in
    let gap : IsGap c.args.key es c.in-Err.index = subst (λ fs. IsGap c.args.key fs c.in-Err.index) c.deref.ensures.value c.in-Err.ensures.gap in
    rw (← c.self.view_is) (sym (absent c.args.key es c.in-Err.index c.self.invariant gap.1 gap.2))

pub returns-in_ok-insert-in-Err-clause-put : goal.returns-in_ok-insert-in-Err-clause-put
returns-in_ok-insert-in-Err-clause-put c =
    let es = c.self.inside.rows.items in
    let gap : IsGap c.args.key es c.in-Err.index = subst (λ fs. IsGap c.args.key fs c.in-Err.index) c.deref.ensures.value c.in-Err.ensures.gap in
    rw (← c.self.view_is) (c.in_ok-insert-in-Err.ensures.items ∙ put_gap c.args.key es c.in-Err.index c.args.row gap.0 gap.1 gap.2)

pub invariant_of-self-in-Err : goal.invariant_of-self-in-Err
invariant_of-self-in-Err c =
    let es = c.self.inside.rows.items in
    let gap : IsGap c.args.key es c.in-Err.index = subst (λ fs. IsGap c.args.key fs c.in-Err.index) c.deref.ensures.value c.in-Err.ensures.gap in
    let put : c.insert.new.self.items ≡ insert_entry key_cmp es c.args.key c.args.row = c.in_ok-insert-in-Err.ensures.items ∙ put_gap c.args.key es c.in-Err.index c.args.row gap.0 gap.1 gap.2 in
    subst (λ (fs : List (Key × StoredRow)). IsStrictlySortedBy key_cmp (keys_of fs)) (sym put) (rising_insert es c.args.key c.args.row c.self.invariant)
