use Rattle.std.proofs.Common.{◌≡◌, ◌++◌, drop}
use Rattle.std.specs.List.{flat_map}
use Rattle.admin_port.specs.ShownKeys.{shown_byte}
use Rattle.admin_port.proofs.shown_keys.push_escaped.Given as goal

abbrev pub invariant-loop-byte : goal.invariant-loop-byte
invariant-loop-byte l =
    l.text.items ++ flat_map shown_byte (drop l.byte-index l.bytes) ≡ l.fn.text.items ++ flat_map shown_byte l.bytes
