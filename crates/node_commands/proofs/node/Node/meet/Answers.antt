use Rattle.std.proofs.Common.{◌+◌, refl}
use Rattle.node_commands.specs.Turning.{writer}
use Rattle.node_commands.proofs.NodeLaws.{report_printed, turns_taken}
use Rattle.node_commands.proofs.node.Node.meet.Goals as goal

pub returns-clause-played : goal.returns-clause-played
returns-clause-played g c =
    turns_taken c.args.self c.play-played.new.worker c.args.turns c.saturating_sub-most.result c.play-played.result.turns c.play-played.result.ending
    (g.R.Read.remaining c.args.from.now) (g.R.Read.remaining c.play-played.new.from) (writer (g.W.Write.contents c.args.to.now) c.args.writes.now (g.W.Faults.failed c.args.to.now)) (writer (g.W.Write.contents c.play-played.new.to) c.play-played.new.writes (g.W.Faults.failed c.play-played.new.to))
    c.saturating_sub-most.ensures c.play-played.ensures.plays c.play-played.ensures.within

pub returns-clause-printed : goal.returns-clause-printed
returns-clause-printed g c =
    report_printed c.args.self c.play-played.new.worker c.args.turns c.saturating_sub-most.result c.play-played.result.turns (c.args.self.pace.taken + c.play-played.result.turns) c.play-played.result.ending c.report_of.result
    (g.R.Read.remaining c.args.from.now) (g.R.Read.remaining c.play-played.new.from) (writer (g.W.Write.contents c.args.to.now) c.args.writes.now (g.W.Faults.failed c.args.to.now)) (writer (g.W.Write.contents c.play-played.new.to) c.play-played.new.writes (g.W.Faults.failed c.play-played.new.to))
    c.saturating_sub-most.ensures refl c.play-played.ensures.plays c.play-played.ensures.within c.report_of.ensures.text c.report_of.ensures.ending
