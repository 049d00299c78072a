use Rattle.std.proofs.Common.{rules, ◌≡◌, ◌∙◌, [], ap, sym, subst}
use Rattle.table_cell.specs.Cells.{IsCell, OriginState}
use Rattle.table_cell.proofs.SlideLaws.{Copies, Entries, slid_cell, slid_origin, slid_to}
use Rattle.table_cell.proofs.cell.TableCell.slide.Goals as goal

pub invariant_of-self : goal.invariant_of-self
invariant_of-self c =
    let a = c.self.inside in
    let copies : Copies = c.retain_open.new.copies.entries in
    let items : c.replace-history.result.items ≡ a.history.items = search rules in
    let none : c.replace-history.new.dest.items ≡ [] = search rules in
    let origin : c.slide.new.self ≡ slid_origin a.origin a.history.items copies = c.slide.ensures.origin ∙ ap (λ (hs : Entries). slid_origin a.origin hs copies) items in
    subst (λ (o : OriginState). IsCell o c.replace-history.new.dest.items a.table copies) (sym origin)
    (subst (λ (hs : Entries). IsCell (slid_origin a.origin a.history.items copies) hs a.table copies) (sym none)
    (subst (λ (cs : Copies). IsCell (slid_origin a.origin a.history.items cs) [] a.table cs) (sym c.retain_open.ensures)
    (slid_cell a.origin a.history.items a.table a.latest_copies.entries c.self.invariant)))

pub returns-clause-slides : goal.returns-clause-slides
returns-clause-slides c =
    let a = c.self.inside in
    let copies : Copies = c.retain_open.new.copies.entries in
    let items : c.replace-history.result.items ≡ a.history.items = search rules in
    let none : c.replace-history.new.dest.items ≡ [] = search rules in
    let handed : c.slide.result.items ≡ a.history.items = search rules in
    let origin : c.slide.new.self ≡ slid_origin a.origin a.history.items copies = c.slide.ensures.origin ∙ ap (λ (hs : Entries). slid_origin a.origin hs copies) items in
    (slid_to a.origin c.slide.new.self a.history.items c.slide.result.items c.replace-history.new.dest.items a.table a.latest_copies.entries copies c.args.self.now c.self.view_is c.self.invariant handed none c.retain_open.ensures origin).0

pub returns-clause-replayed : goal.returns-clause-replayed
returns-clause-replayed c =
    let a = c.self.inside in
    let copies : Copies = c.retain_open.new.copies.entries in
    let items : c.replace-history.result.items ≡ a.history.items = search rules in
    let none : c.replace-history.new.dest.items ≡ [] = search rules in
    let handed : c.slide.result.items ≡ a.history.items = search rules in
    let origin : c.slide.new.self ≡ slid_origin a.origin a.history.items copies = c.slide.ensures.origin ∙ ap (λ (hs : Entries). slid_origin a.origin hs copies) items in
    (slid_to a.origin c.slide.new.self a.history.items c.slide.result.items c.replace-history.new.dest.items a.table a.latest_copies.entries copies c.args.self.now c.self.view_is c.self.invariant handed none c.retain_open.ensures origin).1

pub returns-clause-kept : goal.returns-clause-kept
returns-clause-kept c =
    let a = c.self.inside in
    let copies : Copies = c.retain_open.new.copies.entries in
    let items : c.replace-history.result.items ≡ a.history.items = search rules in
    let none : c.replace-history.new.dest.items ≡ [] = search rules in
    let handed : c.slide.result.items ≡ a.history.items = search rules in
    let origin : c.slide.new.self ≡ slid_origin a.origin a.history.items copies = c.slide.ensures.origin ∙ ap (λ (hs : Entries). slid_origin a.origin hs copies) items in
    (slid_to a.origin c.slide.new.self a.history.items c.slide.result.items c.replace-history.new.dest.items a.table a.latest_copies.entries copies c.args.self.now c.self.view_is c.self.invariant handed none c.retain_open.ensures origin).2
