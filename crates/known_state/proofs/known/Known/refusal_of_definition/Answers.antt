use Rattle.std.proofs.Common.{refl, rules}
use Rattle.known_state.proofs.KnownIsOwn.{own_is}
use Rattle.known_state.proofs.LegalEffects.{not_own}
use Rattle.known_state.proofs.known.Known.refusal_of_definition.Goals as goal

pub returns-then-is_own-clause-taken : goal.returns-then-is_own-clause-taken
returns-then-is_own-clause-taken c = λ _. λ e refuses. refuses.0 (own_is c.args.self.now.roster c.args.table.now (search rules))

pub returns-else-is_own-clause-refused : goal.returns-else-is_own-clause-refused
returns-else-is_own-clause-refused c = (not_own c.args.self.now.roster c.args.table.now (search rules), refl)
