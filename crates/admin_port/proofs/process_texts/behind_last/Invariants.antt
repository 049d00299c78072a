use Rattle.std.proofs.Common.{◌≡◌, ◌≤◌, drop, length}
use Rattle.admin_port.specs.ProcessTexts.{last_part}
use Rattle.admin_port.proofs.process_texts.behind_last.Given as goal

abbrev pub invariant-loop-index : goal.invariant-loop-index
invariant-loop-index l =
    (last_part (drop l.start l.text) (drop l.index l.text) ≡ last_part l.text l.text) × (l.start ≤ length l.text)
