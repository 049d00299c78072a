use Rattle.std.proofs.Common.{◌∙◌, sym}
use Rattle.node_commands.specs.Turning.{writer}
use Rattle.node_commands.proofs.TurningLaws.{all_made_there, begins_there, one_more_there, stops_there, taken_after}
use Rattle.node_commands.proofs.node.turns.play.Goals as goal

pub loop-before-init : goal.loop-before-init
loop-before-init g c = begins_there c.args.shards.now c.args.turns.pace c.args.worker.now c.args.turns.most (g.R.Read.remaining c.args.from.now) (writer (g.W.Write.contents c.args.to.now) c.args.writes.now (g.W.Faults.failed c.args.to.now))

pub returns-in-Some-clause-plays : goal.returns-in-Some-clause-plays
returns-in-Some-clause-plays g c =
    stops_there c.args.shards.now c.args.turns.pace c.args.worker.now c.loop-before.worker c.take_turn-turned.new.worker c.args.turns.most c.loop-before.before c.take_turn-turned.result c.in-Some.ending
    (g.R.Read.remaining c.args.from.now) (g.R.Read.remaining c.loop-before.from) (g.R.Read.remaining c.take_turn-turned.new.from)
    (writer (g.W.Write.contents c.args.to.now) c.args.writes.now (g.W.Faults.failed c.args.to.now))
    (writer (g.W.Write.contents c.loop-before.to) c.loop-before.writes (g.W.Faults.failed c.loop-before.to))
    (writer (g.W.Write.contents c.take_turn-turned.new.to) c.take_turn-turned.new.writes (g.W.Faults.failed c.take_turn-turned.new.to))
    c.loop-before-test.true c.loop-before.invariant (taken_after c.args.shards.now c.args.turns.pace c.loop-before.before c.moment-now.result c.loop-before.worker c.take_turn-turned.new.worker c.take_turn-turned.result
    (g.R.Read.remaining c.loop-before.from) (g.R.Read.remaining c.take_turn-turned.new.from)
    (writer (g.W.Write.contents c.loop-before.to) c.loop-before.writes (g.W.Faults.failed c.loop-before.to))
    (writer (g.W.Write.contents c.take_turn-turned.new.to) c.take_turn-turned.new.writes (g.W.Faults.failed c.take_turn-turned.new.to))
    c.moment-now.ensures c.take_turn-turned.ensures) (sym c.ending_after.ensures ∙ c.in-Some.is)

pub loop-before-preserved : goal.loop-before-preserved
loop-before-preserved g c =
    one_more_there c.args.shards.now c.args.turns.pace c.args.worker.now c.loop-before.worker c.take_turn-turned.new.worker c.args.turns.most c.loop-before.before c.take_turn-turned.result
    (g.R.Read.remaining c.args.from.now) (g.R.Read.remaining c.loop-before.from) (g.R.Read.remaining c.take_turn-turned.new.from)
    (writer (g.W.Write.contents c.args.to.now) c.args.writes.now (g.W.Faults.failed c.args.to.now))
    (writer (g.W.Write.contents c.loop-before.to) c.loop-before.writes (g.W.Faults.failed c.loop-before.to))
    (writer (g.W.Write.contents c.take_turn-turned.new.to) c.take_turn-turned.new.writes (g.W.Faults.failed c.take_turn-turned.new.to))
    c.loop-before-test.true c.loop-before.invariant (taken_after c.args.shards.now c.args.turns.pace c.loop-before.before c.moment-now.result c.loop-before.worker c.take_turn-turned.new.worker c.take_turn-turned.result
    (g.R.Read.remaining c.loop-before.from) (g.R.Read.remaining c.take_turn-turned.new.from)
    (writer (g.W.Write.contents c.loop-before.to) c.loop-before.writes (g.W.Faults.failed c.loop-before.to))
    (writer (g.W.Write.contents c.take_turn-turned.new.to) c.take_turn-turned.new.writes (g.W.Faults.failed c.take_turn-turned.new.to))
    c.moment-now.ensures c.take_turn-turned.ensures) (sym c.ending_after.ensures ∙ c.in_default.is)

pub returns-clause-plays : goal.returns-clause-plays
returns-clause-plays g c =
    all_made_there c.args.shards.now c.args.turns.pace c.args.worker.now c.loop-before.worker c.args.turns.most c.loop-before.before
    (g.R.Read.remaining c.args.from.now) (g.R.Read.remaining c.loop-before.from)
    (writer (g.W.Write.contents c.args.to.now) c.args.writes.now (g.W.Faults.failed c.args.to.now))
    (writer (g.W.Write.contents c.loop-before.to) c.loop-before.writes (g.W.Faults.failed c.loop-before.to))
    c.loop-before-test.false c.loop-before.auto.before-end c.loop-before.invariant
