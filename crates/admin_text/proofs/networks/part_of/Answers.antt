use Rattle.std.proofs.Common.{◌∙◌, ap, sym}
use Rattle.node_text.specs.Numbers.{number_of}
use Rattle.admin_text.specs.Networks.{IsPart}
use Rattle.admin_text.specs.declared.networks.Network.{Network}
use Rattle.admin_text.proofs.NetworkTexts.{no_count, none_met}
use Rattle.admin_text.proofs.networks.part_of.Goals as goal

pub returns-in_err-count : goal.returns-in_err-count
returns-in_err-count c =
    none_met c.from_residual-in_err-count.result ((n : Network) → IsPart c.args.host.now c.args.count.now n → ⊥) (IsPart c.args.host.now c.args.count.now)
    c.from_residual-in_err-count.ensures
    (no_count c.args.host.now c.args.count.now c.in_ok-ip.ip c.in_ok-ip.ensures (ap (number_of c.args.count.now) (sym c.width-width.ensures ∙ sym c.from.ensures) ∙ sym c.in_err-count.ensures.exactly))
