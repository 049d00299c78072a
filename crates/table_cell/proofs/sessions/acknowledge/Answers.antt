use Rattle.std.proofs.Common.{◌≡◌, ◌<◌, List, ℕ, Some, None, length, slice_set, sym, ap, ◌∙◌, arith}
use Rattle.table_cell.specs.declared.progress.Progress.{Progress}
use Rattle.table_cell.specs.Parts.{index_of}
use Rattle.table_cell.specs.Machine.{acknowledging}
use Rattle.table_cell.proofs.SessionLaws.{index_within, one_default, set_placed, stays_placed, stays_absent, acknowledging_above, acknowledging_older}
use Rattle.table_cell.proofs.sessions.acknowledge.Goals as goal

pub index-requires : goal.index-requires
index-requires c =
    let at : index_of c.args.session c.args.sessions.now.items ≡ Some c.in-Some.index = ap (index_of c.args.session) (sym c.as_slice.ensures.value) ∙ sym c.index_of.ensures ∙ c.in-Some.is in
    let bound = index_within c.args.session c.args.sessions.now.items c.in-Some.index at in
    omega (arith, c.as_slice.ensures.len, ap (λ (l : List (ℕ × Progress)). length l) c.as_slice.ensures.value)

pub index_mut-requires : goal.index_mut-requires
index_mut-requires c =
    let at : index_of c.args.session c.args.sessions.now.items ≡ Some c.in-Some.index = ap (index_of c.args.session) (sym c.as_slice.ensures.value) ∙ sym c.index_of.ensures ∙ c.in-Some.is in
    let bound = index_within c.args.session c.args.sessions.now.items c.in-Some.index at in
    omega (arith, c.as_slice.ensures.len, ap (λ (l : List (ℕ × Progress)). length l) c.as_slice.ensures.value)

pub returns-then-number-index : goal.returns-then-number-index
returns-then-number-index c =
    let at : index_of c.args.session c.args.sessions.now.items ≡ Some c.in-Some.index = ap (index_of c.args.session) (sym c.as_slice.ensures.value) ∙ sym c.index_of.ensures ∙ c.in-Some.is in
    let bound = index_within c.args.session c.args.sessions.now.items c.in-Some.index at in
    let same : c.index_mut.result.now ≡ c.index.result.now =
    c.index_mut.ensures.value ∙ one_default c.args.sessions.now.items c.in-Some.index c.index_mut.result.now c.index.result.now bound ∙ sym c.index.ensures in
    let above : c.index_mut.result.now.1.acknowledged < c.args.number = omega (arith, c.if-number-index.true, ap (λ (e : ℕ × Progress). e.1.acknowledged) same) in
    sym (ap (λ (p : Progress). slice_set c.args.sessions.now.items c.in-Some.index (c.index_mut.result.now.0, p)) (acknowledging_above c.args.number c.index_mut.result.now.1 above))
    ∙ set_placed c.args.session (acknowledging c.args.number) c.args.sessions.now.items c.in-Some.index c.index_mut.result.now at c.index_mut.ensures.value

pub returns-else-number-index : goal.returns-else-number-index
returns-else-number-index c =
    let at : index_of c.args.session c.args.sessions.now.items ≡ Some c.in-Some.index = ap (index_of c.args.session) (sym c.as_slice.ensures.value) ∙ sym c.index_of.ensures ∙ c.in-Some.is in
    stays_placed c.args.session (acknowledging c.args.number) c.args.sessions.now.items c.in-Some.index c.index.result.now at c.index.ensures
    (acknowledging_older c.args.number c.index.result.now.1 (λ above. omega (arith, above, c.if-number-index.false)))

pub returns-in_default : goal.returns-in_default
returns-in_default c =
    let none : index_of c.args.session c.args.sessions.now.items ≡ None = ap (index_of c.args.session) (sym c.as_slice.ensures.value) ∙ sym c.index_of.ensures ∙ cc in
    stays_absent c.args.session (acknowledging c.args.number) c.args.sessions.now.items none
