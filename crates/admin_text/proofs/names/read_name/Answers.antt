use Rattle.std.proofs.Common.{◌∙◌, sym}
use Rattle.admin_text.specs.NameFaults.{name_at}
use Rattle.admin_text.proofs.OutcomeLaws.{fault_is}
use Rattle.admin_text.proofs.names.read_name.Goals as goal

pub returns-in-Some : goal.returns-in-Some
returns-in-Some c = fault_is (name_at c.args.place c.args.word.now) c.in-Some.fault (sym c.in-Some.is ∙ c.fault_at.ensures)
