use Rattle.std.proofs.Common.{◌≡◌, drop}
use Rattle.node_log.specs.Told.{has_told}
use Rattle.node_log.proofs.told.has_told.Given as goal

abbrev pub invariant-loop-told : goal.invariant-loop-told
invariant-loop-told l = has_told l.text (drop l.told-index l.texts) ≡ has_told l.text l.texts
