use Rattle.std.proofs.Common.{◌-◌, ◌≤◌, ap, arith, length, sym}
use Rattle.std.specs.Prelude.{Some}
use Rattle.peers_msg.proofs.FrameEnds.{counted_front, counted_size, never_unread}
use Rattle.peers_msg.proofs.framing.counted_length.Goals as goal

pub returns-then-length-bytes-clause-counted : goal.returns-then-length-bytes-clause-counted
returns-then-length-bytes-clause-counted c =
    counted_front c.args.bytes.now c.in-Value.length c.in-Value.used (omega arith) c.in-Value.ensures.read (omega arith)

pub returns-then-length-bytes-clause-found : goal.returns-then-length-bytes-clause-found
returns-then-length-bytes-clause-found c = λ front rest is same.
    ap Some (counted_size c.args.bytes.now front rest c.in-Value.length c.in-Value.used is same (omega arith) (sym c.in-Value.ensures.computes)).0

pub returns-else-length-bytes-clause-found : goal.returns-else-length-bytes-clause-found
returns-else-length-bytes-clause-found c = λ front rest is same.
    let bytes = c.args.bytes.now in
    let size = counted_size bytes front rest c.in-Value.length c.in-Value.used is same (omega arith) (sym c.in-Value.ensures.computes) in
    let within : c.in-Value.length ≤ length bytes - c.in-Value.used = size.1 in
    absurd (omega (arith, within))

pub returns-in-Short-clause-found : goal.returns-in-Short-clause-found
returns-in-Short-clause-found c = λ front rest is same.
    absurd (never_unread c.args.bytes.now front rest is same (omega arith) c.get.result (sym c.get.ensures.computes) c.in-Short.is)
