use Rattle.admin_text.specs.Networks.{IsNetworkText}
use Rattle.admin_text.specs.declared.networks.Network.{Network}
use Rattle.admin_text.proofs.NetworkTexts.{no_address, none_met, parted}
use Rattle.admin_text.proofs.networks.network_of.Goals as goal

pub returns-in_err-ip-in-None : goal.returns-in_err-ip-in-None
returns-in_err-ip-in-None c =
    none_met c.from_residual.result ((n : Network) → IsNetworkText c.args.word.now n → ⊥) (IsNetworkText c.args.word.now) c.from_residual.ensures
    (no_address c.args.word.now c.in-None.ensures c.in_err-ip-in-None.ensures)

pub returns-in-Some : goal.returns-in-Some
returns-in-Some c = parted c.args.word.now c.in-Some.host.now c.in-Some.count.now c.part_of.result c.in-Some.ensures.0 c.in-Some.ensures.1 c.part_of.ensures
