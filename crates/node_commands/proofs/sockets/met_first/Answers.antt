use Rattle.std.proofs.lemmas.Result.{IfErr-weaker}
use Rattle.node_commands.proofs.EndingLaws.{early_of}
use Rattle.node_commands.proofs.sockets.met_first.Goals as goal

pub returns-in-Ok-clause-early : goal.returns-in-Ok-clause-early
returns-in-Ok-clause-early g c = IfErr-weaker c.meet_or_fall_back.result _ _ early_of c.meet_or_fall_back.ensures.early
