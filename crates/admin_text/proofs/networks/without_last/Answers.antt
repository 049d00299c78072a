use Rattle.admin_text.proofs.NetworkTexts.{shifted}
use Rattle.admin_text.proofs.networks.without_last.Goals as goal

pub returns : goal.returns
returns c = shifted c.checked_shr.result c.args.bits c.args.free c.unwrap_or.result c.ranges.bits.fits c.checked_shr.ensures c.unwrap_or.ensures
