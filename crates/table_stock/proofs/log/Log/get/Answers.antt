use Rattle.std.proofs.Common.{◌≡◌, ◌+◌, ◌<◌, ◌≤◌, ◌-◌, ap, arith, length, sym, ◌∙◌}
use Rattle.std.specs.Prelude.{slice_get}
use Rattle.std.proofs.lemmas.Option.{slice_get_past}
use Rattle.table_stock.specs.Shelves.{ListInLog}
use Rattle.table_stock.proofs.LogLaws.{got_back, got_front, length_logged}
use Rattle.table_stock.proofs.log.Log.get.Goals as goal

-- before the gap
pub returns-then-index-self : goal.returns-then-index-self
returns-then-index-self c =
    let log = c.self.inside in
    c.copied.ensures ∙ c.get.ensures
    ∙ got_front log.entries.items log.kept log.unswept log.end c.args.index c.self.invariant.0 c.self.invariant.1 c.self.invariant.2 (omega (arith, c.if-index-self.true))
    ∙ ap (λ (l : ListInLog). slice_get l.entries c.args.index) c.self.view_is

-- past the end
pub returns-then-after-count : goal.returns-then-after-count
returns-then-after-count c =
    let log = c.self.inside in
    let size = length_logged log.entries.items log.kept log.unswept log.end c.self.invariant.0 c.self.invariant.1 c.self.invariant.2 in
    let same = ap (λ (l : ListInLog). length l.entries) c.self.view_is in
    sym (slice_get_past c.args.self.now.entries c.args.index (omega (arith, c.if-after-count.true, c.if-index-self.false, size, same, c.self.invariant.0, c.self.invariant.1)))

-- and after the gap
pub returns : goal.returns
returns c =
    let log = c.self.inside in
    let most : log.kept ≤ c.args.index = omega (arith, c.if-index-self.false) in
    let below : c.args.index < log.end - (log.unswept - log.kept) = omega (arith, c.if-after-count.false, most, c.self.invariant.0, c.self.invariant.1) in
    let place : log.end - (log.end - log.unswept - (c.args.index - log.kept)) ≡ c.args.index + (log.unswept - log.kept) =
    omega (arith, c.if-after-count.false, most, c.self.invariant.0, c.self.invariant.1) in
    c.copied-2.ensures ∙ c.get-2.ensures
    ∙ ap (slice_get log.entries.items) place
    ∙ got_back log.entries.items log.kept log.unswept log.end c.args.index c.self.invariant.0 c.self.invariant.1 c.self.invariant.2 most below
    ∙ ap (λ (l : ListInLog). slice_get l.entries c.args.index) c.self.view_is
