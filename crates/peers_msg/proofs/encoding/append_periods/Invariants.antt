use Rattle.std.proofs.Common.{◌≡◌, ◌+◌, ◌≤◌, ◌++◌, drop, length}
use Rattle.std.specs.Prelude.{vec_len, vec_capacity}
use Rattle.std.specs.List.{flat_map}
use Rattle.peers_msg.specs.Spelling.{period_text}
use Rattle.peers_msg.proofs.encoding.append_periods.Given as goal

abbrev pub invariant-loop-entry : goal.invariant-loop-entry
invariant-loop-entry l = record {
  appended : l.out.items ++ flat_map period_text (drop l.entry-index l.types) ≡ l.fn.out.items ++ flat_map period_text l.types;
  room : vec_len l.out + length (flat_map period_text (drop l.entry-index l.types)) + vec_capacity l.fn.out ≤ vec_len l.fn.out + length (flat_map period_text l.types) + vec_capacity l.out;
}
