use Rattle.std.proofs.Common.{◌≡◌, ◌++◌, drop}
use Rattle.std.specs.List.{flat_map}
use Rattle.admin_port.specs.Samples.{label_byte}
use Rattle.admin_port.proofs.samples.push_label_value.Given as goal

abbrev pub invariant-loop-byte : goal.invariant-loop-byte
invariant-loop-byte l =
    l.text.items ++ flat_map label_byte (drop l.byte-index l.value) ≡ l.fn.text.items ++ flat_map label_byte l.value
