use Rattle.std.proofs.Common.{◌≡◌, ◌++◌, drop}
use Rattle.std.specs.List.{flat_map}
use Rattle.admin_port.specs.Metrics.{fault_sample, faults_family}
use Rattle.admin_port.proofs.metric_families.push_faults.Given as goal

abbrev pub invariant-loop-fault : goal.invariant-loop-fault
invariant-loop-fault l =
    l.text.items ++ flat_map fault_sample (drop l.fault-index l.faults) ≡ l.fn.text.items ++ faults_family l.faults
