use Rattle.std.proofs.Common.{◌≡◌, ◌++◌, flat_map, take}
use Rattle.node_text.specs.Bytes.{digits_of}
use Rattle.node_text.proofs.bytes.push_hexadecimal.Given as goal

abbrev pub invariant-loop-byte : goal.invariant-loop-byte
invariant-loop-byte l = l.text.items ≡ l.fn.text.items ++ flat_map digits_of (take l.byte-index l.bytes)
