use Rattle.std.proofs.Common.{◌+◌, ◌*◌, ◌^◌, ◌<◌, ◌≤◌, arith}
use Rattle.std.proofs.lemmas.Nat.{shl_below, shl_whole}
use Rattle.std.proofs.Math.Pow.{pow_mono}
use Rattle.peers_encint.proofs.reading.shifted.Goals as goal

pub returns-clause-below : goal.returns-clause-below
returns-clause-below c =
    let byte : c.from.result < 2 ^ 8 = omega arith in
    let weight : 8 + (4 + 7 * c.args.index) ≤ 68 = omega arith in
    let high : 2 ^ (8 + (4 + 7 * c.args.index)) ≤ 2 ^ 68 = pow_mono weight in
    omega (arith, shl_below c.from.result 8 (4 + 7 * c.args.index) byte, shl_whole c.from.result 8 (4 + 7 * c.args.index) 128 byte (omega arith))
