use Rattle.std.proofs.Common.{◌+◌, ap, ◌∙◌, zero-add, arith}
use Rattle.known_state.specs.Plans.{kept_from, kept_to}
use Rattle.price_checker.proofs.RoomIsKept.{zero_at, few_from, few_to}
use Rattle.price_checker.proofs.room.kept_ends.Goals as goal

pub loop-link-init : goal.loop-link-init
loop-link-init c = record {
  begin = λ place. ap (λ n. n + kept_from c.args.links.now place) (zero_at 4097 place) ∙ zero-add (kept_from c.args.links.now place);
  end = λ place. ap (λ n. n + kept_to c.args.links.now place) (zero_at 4097 place) ∙ zero-add (kept_to c.args.links.now place);
}

pub count-requires-clause-small : goal.count-requires-clause-small
count-requires-clause-small c = λ place. omega (arith, c.loop-link.invariant.begin place, few_from c.args.links.now place)

pub count-requires-then-link-clause-small : goal.count-requires-then-link-clause-small
count-requires-then-link-clause-small c = λ place. omega (arith, c.loop-link.invariant.end place, few_to c.args.links.now place)
