use Rattle.std.proofs.Common.{◌≡◌, ℕ, ◌<◌, ◌≤◌, ◌/◌, ◌-◌, ◌*◌, length, set, Some, ap, sym, ◌∙◌, arith, refl}
use Rattle.std.specs.List.{slice_get}
use Rattle.std.proofs.lemmas.Option.{slice_get_read}
use Rattle.table_stock.specs.Blocks.{ListInBlocks}
use Rattle.table_stock.proofs.BlockLaws.{after_blocks, in_block, length_is, set_after_blocks, set_in_block, whole_at}
use Rattle.table_stock.proofs.blocks.Blocks.replace.Goals as goal

-- in a full block

pub replace_in-requires : goal.replace_in-requires
replace_in-requires g c =
    let full = c.self.inside.full.items in
    let below : c.args.index / 1024 < length full = omega (arith, c.if-block-len.true, c.len.ensures, c.self.inside.full.ok) in
    let found = slice_get_read full (length full) (c.args.index / 1024) c.index_mut.result.now refl below c.index_mut.ensures.value in
    omega (arith, whole_at full (c.args.index / 1024) c.index_mut.result.now c.self.invariant.whole found)

pub returns-then-block-len-clause-older : goal.returns-then-block-len-clause-older
returns-then-block-len-clause-older g c =
    let full = c.self.inside.full.items in
    let below : c.args.index / 1024 < length full = omega (arith, c.if-block-len.true, c.len.ensures, c.self.inside.full.ok) in
    let found = slice_get_read full (length full) (c.args.index / 1024) c.index_mut.result.now refl below c.index_mut.ensures.value in
    sym (ap (λ (list : ListInBlocks g.row.T.Denot). slice_get list.items c.args.index) c.self.view_is)
    ∙ in_block full c.self.inside.last c.args.index c.index_mut.result.now c.self.invariant.whole found
    ∙ c.replace_in.ensures.older

pub returns-then-block-len-clause-put : goal.returns-then-block-len-clause-put
returns-then-block-len-clause-put g c =
    let full = c.self.inside.full.items in
    let below : c.args.index / 1024 < length full = omega (arith, c.if-block-len.true, c.len.ensures, c.self.inside.full.ok) in
    let found = slice_get_read full (length full) (c.args.index / 1024) c.index_mut.result.now refl below c.index_mut.ensures.value in
    set_in_block full c.self.inside.last c.args.index c.index_mut.result.now c.replace_in.new.items c.args.item c.self.invariant.whole found c.replace_in.ensures.put
    ∙ ap (λ (list : ListInBlocks g.row.T.Denot). set list.items c.args.index c.args.item) c.self.view_is

-- in the last one

pub replace_in-requires-2 : goal.replace_in-requires-2
replace_in-requires-2 g c =
    let size = length_is c.self.inside.full.items c.self.inside.last c.self.invariant.whole in
    let same = ap (λ (list : ListInBlocks g.row.T.Denot). length list.items) c.self.view_is in
    omega (arith, size, same, c.requires, c.if-block-len.false, c.len.ensures, c.len-2.ensures, c.self.inside.full.ok)

pub returns-clause-older : goal.returns-clause-older
returns-clause-older g c =
    let full = c.self.inside.full.items in
    let past : length full ≤ c.args.index / 1024 = omega (arith, c.if-block-len.false, c.len.ensures, c.self.inside.full.ok) in
    let place : c.args.index - length full * 1024 ≡ c.args.index - c.len-2.result * 1024 = omega (arith, c.len-2.ensures, c.self.inside.full.ok) in
    sym (ap (λ (list : ListInBlocks g.row.T.Denot). slice_get list.items c.args.index) c.self.view_is)
    ∙ after_blocks full c.self.inside.last c.args.index c.self.invariant.whole past
    ∙ ap (slice_get c.self.inside.last.items) place
    ∙ c.replace_in-2.ensures.older

pub returns-clause-put : goal.returns-clause-put
returns-clause-put g c =
    let full = c.self.inside.full.items in
    let past : length full ≤ c.args.index / 1024 = omega (arith, c.if-block-len.false, c.len.ensures, c.self.inside.full.ok) in
    let place : c.len-2.result * 1024 ≡ length full * 1024 = omega (arith, c.len-2.ensures, c.self.inside.full.ok) in
    let is : c.replace_in-2.new.items.items ≡ set c.self.inside.last.items (c.args.index - length full * 1024) c.args.item =
    c.replace_in-2.ensures.put ∙ ap (λ (n : ℕ). set c.self.inside.last.items (c.args.index - n) c.args.item) place in
    set_after_blocks full c.self.inside.last c.replace_in-2.new.items c.args.index c.args.item c.self.invariant.whole past is
    ∙ ap (λ (list : ListInBlocks g.row.T.Denot). set list.items c.args.index c.args.item) c.self.view_is
