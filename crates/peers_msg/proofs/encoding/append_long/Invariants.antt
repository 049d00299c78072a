use Rattle.std.proofs.Common.{◌+◌, ◌≤◌, ◌++◌, length}
use Rattle.std.specs.Prelude.{vec_len, vec_capacity}
use Rattle.peers_encint.specs.Integers.{spelling}
use Rattle.peers_msg.proofs.AppendedIntegers.{Remains}
use Rattle.peers_msg.proofs.encoding.append_long.Given as goal

abbrev pub invariant-loop-rest : goal.invariant-loop-rest
invariant-loop-rest l = record {
  left : Remains l.out.items (vec_len l.out) l.rest (l.fn.out.items ++ spelling l.n) (vec_len l.fn.out + length (spelling l.n));
  capacity : vec_capacity l.fn.out ≤ vec_capacity l.out;
}

abbrev pub decreases-loop-rest : goal.decreases-loop-rest
decreases-loop-rest l = l.rest
