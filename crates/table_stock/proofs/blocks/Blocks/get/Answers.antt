use Rattle.std.proofs.Common.{◌≡◌, ◌-◌, ◌*◌, ◌/◌, ◌%◌, ◌≤◌, List, Vec, Global, length, option_copied, sym, ap, subst, ◌∙◌, arith}
use Rattle.std.specs.List.{slice_get}
use Rattle.table_stock.specs.Blocks.{ListInBlocks}
use Rattle.table_stock.proofs.BlockLaws.{after_blocks, in_block, item_copied}
use Rattle.table_stock.proofs.blocks.Blocks.get.Goals as goal

pub returns-in-Some : goal.returns-in-Some
returns-in-Some g c =
    let block = c.in-Some.block.now in
    let listed =
    ap (λ (blocks : List (Vec g.row.T.Denot Global)). slice_get blocks (c.args.index / 1024)) (sym c.deref.ensures.value)
    ∙ sym (item_copied c.deref.result.now (c.args.index / 1024) c.get.result c.get.ensures.lookup)
    ∙ ap option_copied c.in-Some.is
    in
    item_copied c.deref-in-Some.result.now (c.args.index % 1024) c.get-in-Some.result c.get-in-Some.ensures.lookup
    ∙ ap (λ (items : List g.row.T.Denot). slice_get items (c.args.index % 1024)) c.deref-in-Some.ensures.value
    ∙ sym (in_block c.self.inside.full.items c.self.inside.last c.args.index block c.self.invariant.whole listed)
    ∙ ap (λ (list : ListInBlocks g.row.T.Denot). slice_get list.items c.args.index) c.self.view_is

pub returns-in-None : goal.returns-in-None
returns-in-None g c =
    let index : c.args.index - c.len.result * 1024 ≡ c.args.index - length c.self.inside.full.items * 1024 =
    omega (arith, c.len.ensures, c.self.inside.full.ok)
    in
    let past : length c.self.inside.full.items ≤ c.args.index / 1024 =
    subst (λ (blocks : List (Vec g.row.T.Denot Global)). length blocks ≤ c.args.index / 1024) c.deref.ensures.value c.in-None.ensures.lookup.3
    in
    item_copied c.deref-in-None.result.now (c.args.index - c.len.result * 1024) c.get-in-None.result c.get-in-None.ensures.lookup
    ∙ ap (λ (items : List g.row.T.Denot). slice_get items (c.args.index - c.len.result * 1024)) c.deref-in-None.ensures.value
    ∙ ap (slice_get c.self.inside.last.items) index
    ∙ sym (after_blocks c.self.inside.full.items c.self.inside.last c.args.index c.self.invariant.whole past)
    ∙ ap (λ (list : ListInBlocks g.row.T.Denot). slice_get list.items c.args.index) c.self.view_is
