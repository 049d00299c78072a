use Rattle.std.proofs.Common.{◌≡◌, ◌+◌, ◌≤◌, ◌++◌, drop, length}
use Rattle.std.specs.Prelude.{vec_len, vec_capacity}
use Rattle.std.specs.List.{flat_map}
use Rattle.peers_msg.specs.Spelling.{value_text}
use Rattle.peers_msg.proofs.encoding.append_values.Given as goal

abbrev pub invariant-loop-value : goal.invariant-loop-value
invariant-loop-value l = record {
  appended : l.out.items ++ flat_map value_text (drop l.value-index l.values) ≡ l.fn.out.items ++ flat_map value_text l.values;
  room : vec_len l.out + length (flat_map value_text (drop l.value-index l.values)) + vec_capacity l.fn.out ≤ vec_len l.fn.out + length (flat_map value_text l.values) + vec_capacity l.out;
}
