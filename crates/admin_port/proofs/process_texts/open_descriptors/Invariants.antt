use Rattle.std.proofs.Common.{◌≡◌, ◌+◌, ◌≤◌, true, drop}
use Rattle.admin_port.specs.ProcessTexts.{begun_names}
use Rattle.admin_port.proofs.process_texts.open_descriptors.Given as goal

abbrev pub invariant-loop-byte : goal.invariant-loop-byte
invariant-loop-byte l =
    (l.count + begun_names l.begins (drop l.byte-index l.names) ≡ begun_names true l.names) × (l.count ≤ l.byte-index)
