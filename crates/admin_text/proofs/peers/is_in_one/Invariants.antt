use Rattle.std.proofs.Common.{◌≡◌, drop}
use Rattle.std.specs.List.{list_any}
use Rattle.admin_text.specs.Networks.{contains}
use Rattle.admin_text.proofs.peers.is_in_one.Given as goal

-- whether one holds the address is whether one not yet looked at does
abbrev pub invariant-loop-network : goal.invariant-loop-network
invariant-loop-network l = list_any (λ network. contains network l.address) (drop l.network-index l.networks) ≡ list_any (λ network. contains network l.address) l.networks
