use Rattle.std.proofs.Common.{◌≡◌, ◌++◌, drop, map}
use Rattle.node_core.specs.Needs.{shown_byte}
use Rattle.node_core.proofs.needs.push_shown.Given as goal

abbrev pub invariant-loop-byte : goal.invariant-loop-byte
invariant-loop-byte l = l.text.items ++ map shown_byte (drop l.byte-index l.bytes) ≡ l.fn.text.items ++ map shown_byte l.bytes
