use Rattle.std.proofs.Common.{◌≡◌, ◌++◌, drop}
use Rattle.std.specs.List.{flat_map}
use Rattle.admin_port.specs.Metrics.{refused_hellos_family, refused_hellos_sample}
use Rattle.admin_port.proofs.metric_families.push_refused_hellos.Given as goal

abbrev pub invariant-loop-hellos : goal.invariant-loop-hellos
invariant-loop-hellos l =
    l.text.items ++ flat_map refused_hellos_sample (drop l.hellos-index l.refused) ≡ l.fn.text.items ++ refused_hellos_family l.refused
