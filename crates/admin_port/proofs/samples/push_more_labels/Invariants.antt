use Rattle.std.proofs.Common.{◌≡◌, ◌++◌, drop}
use Rattle.admin_port.specs.Samples.{more_labels, pairs_of}
use Rattle.admin_port.proofs.samples.push_more_labels.Given as goal

abbrev pub invariant-loop-label : goal.invariant-loop-label
invariant-loop-label l =
    l.text.items ++ more_labels (pairs_of (drop l.label-index l.labels)) ≡ l.fn.text.items ++ more_labels (pairs_of l.labels)
