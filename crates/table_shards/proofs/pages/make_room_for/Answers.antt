use Rattle.std.proofs.Common.{List, subst}
use Rattle.table_shards.specs.declared.pages.Page.{Page}
use Rattle.table_shards.specs.Pages.{IsPageAt}
use Rattle.table_shards.proofs.PageLaws.{lent_stays}
use Rattle.table_shards.proofs.pages.make_room_for.Goals as goal

pub returns-in_err-make_room-in-Some-clause-stays : goal.returns-in_err-make_room-in-Some-clause-stays
returns-in_err-make_room-in-Some-clause-stays c =
    let here = subst (λ (ps : List Page). IsPageAt c.args.table ps c.in-Some.index) c.as_slice.ensures.value c.in-Some.ensures.found in
    lent_stays c.args.pages.now.items c.in-Some.index c.index_mut.result.now c.make_room.new.page here.below c.index_mut.ensures.value c.make_room.ensures.stays

pub returns-in_ok-make_room-in-Some-clause-stays : goal.returns-in_ok-make_room-in-Some-clause-stays
returns-in_ok-make_room-in-Some-clause-stays c =
    let here = subst (λ (ps : List Page). IsPageAt c.args.table ps c.in-Some.index) c.as_slice.ensures.value c.in-Some.ensures.found in
    lent_stays c.args.pages.now.items c.in-Some.index c.index_mut.result.now c.make_room.new.page here.below c.index_mut.ensures.value c.make_room.ensures.stays
