use Rattle.std.proofs.Common.{sym, rules}
use Rattle.known_state.proofs.Unrefused.{switch_taken}
use Rattle.known_state.proofs.FitsOrIsRefused.{foreign_switch, undefined_switch}
use Rattle.known_state.proofs.known.Known.refusal_of_switch.Goals as goal

pub returns-in_default : goal.returns-in_default
returns-in_default c = sym (foreign_switch c.args.self.now c.args.id (search rules))

pub returns-in_default-table : goal.returns-in_default-table
returns-in_default-table c = sym (undefined_switch c.args.self.now c.args.id (search rules) (search rules))

pub returns : goal.returns
returns c = sym (switch_taken c.args.self.now c.args.id (search rules) (search rules))
