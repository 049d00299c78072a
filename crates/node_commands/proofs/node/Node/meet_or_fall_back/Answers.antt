use Rattle.std.proofs.Common.{◌∙◌, ◌&&◌, ◌+◌, Bool, None, Some, ap, nat_lt, refl, sym}
use Rattle.std.specs.Prelude.{if◌then◌else◌}
use Rattle.node_commands.specs.Turning.{writer}
use Rattle.node_commands.proofs.FallingBackLaws.{followed_by, told_so}
use Rattle.node_commands.proofs.NodeLaws.{turns_taken}
use Rattle.node_commands.proofs.node.Node.meet_or_fall_back.Goals as goal

pub returns-in-Some-clause-played : goal.returns-in-Some-clause-played
returns-in-Some-clause-played g c =
    turns_taken c.args.self c.play-played.new.worker c.args.turns c.saturating_sub-most.result c.play-played.result.turns c.play-played.result.ending
    (g.R.Read.remaining c.args.from.now) (g.R.Read.remaining c.play-played.new.from) (writer (g.W.Write.contents c.args.to.now) c.args.writes.now (g.W.Faults.failed c.args.to.now)) (writer (g.W.Write.contents c.play-played.new.to) c.play-played.new.writes (g.W.Faults.failed c.play-played.new.to))
    c.saturating_sub-most.ensures c.play-played.ensures.plays c.play-played.ensures.within

pub returns-in_ok-report-in-None-clause-played : goal.returns-in_ok-report-in-None-clause-played
returns-in_ok-report-in-None-clause-played g c =
    turns_taken c.args.self c.play-played.new.worker c.args.turns c.saturating_sub-most.result c.play-played.result.turns c.play-played.result.ending
    (g.R.Read.remaining c.args.from.now) (g.R.Read.remaining c.play-played.new.from) (writer (g.W.Write.contents c.args.to.now) c.args.writes.now (g.W.Faults.failed c.args.to.now)) (writer (g.W.Write.contents c.play-played.new.to) c.play-played.new.writes (g.W.Faults.failed c.play-played.new.to))
    c.saturating_sub-most.ensures c.play-played.ensures.plays c.play-played.ensures.within

pub returns-in_err-report-in-None-clause-played : goal.returns-in_err-report-in-None-clause-played
returns-in_err-report-in-None-clause-played g c =
    turns_taken c.args.self c.play-played.new.worker c.args.turns c.saturating_sub-most.result c.play-played.result.turns c.play-played.result.ending
    (g.R.Read.remaining c.args.from.now) (g.R.Read.remaining c.play-played.new.from) (writer (g.W.Write.contents c.args.to.now) c.args.writes.now (g.W.Faults.failed c.args.to.now)) (writer (g.W.Write.contents c.play-played.new.to) c.play-played.new.writes (g.W.Faults.failed c.play-played.new.to))
    c.saturating_sub-most.ensures c.play-played.ensures.plays c.play-played.ensures.within

pub returns-in-Some-clause-met : goal.returns-in-Some-clause-met
returns-in-Some-clause-met g c =
    let taken = c.args.self.pace.taken + c.play-played.result.turns in
    let next = c.next_session-next.ensures ∙ ap (λ (b : Bool). if b && nat_lt taken c.args.turns then c.args.self.fallback else None) c.fell_back.ensures in
    followed_by c.args.self c.play-played.new.worker c.args.turns c.saturating_sub-most.result c.play-played.result.turns taken c.play-played.result.ending (Some c.in-Some.session) _
    (g.R.Read.remaining c.args.from.now) (g.R.Read.remaining c.play-played.new.from) (writer (g.W.Write.contents c.args.to.now) c.args.writes.now (g.W.Faults.failed c.args.to.now)) (writer (g.W.Write.contents c.play-played.new.to) c.play-played.new.writes (g.W.Faults.failed c.play-played.new.to))
    c.saturating_sub-most.ensures refl (sym c.in-Some.is ∙ next) c.play-played.ensures.plays c.play-played.ensures.within refl

pub returns-in_ok-report-in-None-clause-met : goal.returns-in_ok-report-in-None-clause-met
returns-in_ok-report-in-None-clause-met g c =
    let taken = c.args.self.pace.taken + c.play-played.result.turns in
    let next = c.next_session-next.ensures ∙ ap (λ (b : Bool). if b && nat_lt taken c.args.turns then c.args.self.fallback else None) c.fell_back.ensures in
    let report = c.in_ok-report-in-None.report in
    followed_by c.args.self c.play-played.new.worker c.args.turns c.saturating_sub-most.result c.play-played.result.turns taken c.play-played.result.ending None _
    (g.R.Read.remaining c.args.from.now) (g.R.Read.remaining c.play-played.new.from) (writer (g.W.Write.contents c.args.to.now) c.args.writes.now (g.W.Faults.failed c.args.to.now)) (writer (g.W.Write.contents c.play-played.new.to) c.play-played.new.writes (g.W.Faults.failed c.play-played.new.to))
    c.saturating_sub-most.ensures refl (sym c.in-None.is ∙ next) c.play-played.ensures.plays c.play-played.ensures.within
    (told_so c.args.self c.play-played.result.turns taken c.play-played.new.worker c.play-played.result.ending report refl c.in_ok-report-in-None.ensures.text c.in_ok-report-in-None.ensures.ending)
