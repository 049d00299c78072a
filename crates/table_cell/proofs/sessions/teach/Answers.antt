use Rattle.std.proofs.Common.{◌≡◌, List, ℕ, Some, None, length, sym, ap, ◌∙◌, arith}
use Rattle.table_cell.specs.declared.progress.Progress.{Progress}
use Rattle.table_cell.specs.Parts.{index_of}
use Rattle.table_cell.specs.Machine.{teaching}
use Rattle.table_cell.proofs.SessionLaws.{index_within, set_placed, stays_absent}
use Rattle.table_cell.proofs.sessions.teach.Goals as goal

pub index_mut-requires : goal.index_mut-requires
index_mut-requires c =
    let at : index_of c.args.session c.args.sessions.now.items ≡ Some c.in-Some.index = ap (index_of c.args.session) (sym c.as_slice.ensures.value) ∙ sym c.index_of.ensures ∙ c.in-Some.is in
    let bound = index_within c.args.session c.args.sessions.now.items c.in-Some.index at in
    omega (arith, c.as_slice.ensures.len, ap (λ (l : List (ℕ × Progress)). length l) c.as_slice.ensures.value)

pub returns-in-Some : goal.returns-in-Some
returns-in-Some c =
    let at : index_of c.args.session c.args.sessions.now.items ≡ Some c.in-Some.index = ap (index_of c.args.session) (sym c.as_slice.ensures.value) ∙ sym c.index_of.ensures ∙ c.in-Some.is in
    set_placed c.args.session (teaching c.args.last) c.args.sessions.now.items c.in-Some.index c.index_mut.result.now at c.index_mut.ensures.value

pub returns-in_default : goal.returns-in_default
returns-in_default c =
    let none : index_of c.args.session c.args.sessions.now.items ≡ None = ap (index_of c.args.session) (sym c.as_slice.ensures.value) ∙ sym c.index_of.ensures ∙ cc in
    stays_absent c.args.session (teaching c.args.last) c.args.sessions.now.items none
