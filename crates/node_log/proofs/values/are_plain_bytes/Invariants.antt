use Rattle.std.proofs.Common.{◌≡◌, drop}
use Rattle.std.specs.List.{list_all}
use Rattle.node_log.specs.Values.{is_plain_byte}
use Rattle.node_log.proofs.values.are_plain_bytes.Given as goal

abbrev pub invariant-loop-byte : goal.invariant-loop-byte
invariant-loop-byte l = list_all is_plain_byte (drop l.byte-index l.bytes) ≡ list_all is_plain_byte l.bytes
