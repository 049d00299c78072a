use Rattle.std.proofs.Common.{◌≤◌, ◌^◌, arith}
use Rattle.update_numbers.proofs.RisingLaws.{none_numbered}
use Rattle.update_numbers.proofs.numbers.Numbers.new.Goals as goal

pub invariant_of-result : goal.invariant_of-result
invariant_of-result c =
    let most : c.from.result ≤ 2 ^ 32 = omega (arith, c.ranges.first.fits, c.from.ensures) in
    none_numbered c.new.result.entries c.from.result c.new.ensures.empty most
