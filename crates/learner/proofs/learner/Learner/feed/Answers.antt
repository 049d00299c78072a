use Rattle.std.proofs.Common.{◌≡◌, false, [], List, ℕ, Ok, Err, sym, ap, subst, ◌∙◌}
use Rattle.learner.specs.Intake.{Taking}
use Rattle.learner.specs.Learning.{Learning, IsWaiting, LearnerFeeds}
use Rattle.learner.specs.InPlace.{over}
use Rattle.learner.proofs.ReadInPlace.{feeds_fault, cut_off}
use Rattle.learner.proofs.JoinedPieces.{fed_none}
use Rattle.learner.proofs.learner.Learner.feed.Goals as goal

pub returns-in-Ok-clause-empty : goal.returns-in-Ok-clause-empty
returns-in-Ok-clause-empty c =
    λ none is_open.
    let inside : c.self.inside.keeper.intake.closed ≡ false = ap (λ (l : Learning). l.intake.closed) c.self.view_is ∙ is_open in
    let waits : IsWaiting c.args.self.now.intake = subst (λ (l : Learning). IsWaiting l.intake) c.self.view_is (inside, c.self.invariant.0 inside) in
    let feeds : LearnerFeeds c.args.now c.args.self.now c.args.piece.now (Ok c.in-Ok.count) c.learn_piece.new.self = (is_open, c.in-Ok.ensures) in
    fed_none c.args.now c.args.self.now c.learn_piece.new.self (Ok c.in-Ok.count) waits
    (subst (λ (piece : List ℕ). LearnerFeeds c.args.now c.args.self.now piece (Ok c.in-Ok.count) c.learn_piece.new.self) none feeds)

pub returns-in-Err-clause-feeds : goal.returns-in-Err-clause-feeds
returns-in-Err-clause-feeds c =
    let is_open : c.args.self.now.intake.closed ≡ false = ap (λ (l : Learning). l.intake.closed) (sym c.self.view_is) ∙ ap (λ (t : Taking). t.closed) (sym c.intake.ensures) ∙ sym c.is_closed.ensures ∙ c.if-is_closed.false in
    feeds_fault c.args.now c.args.self.now c.learn_piece.new.self (over c.self-2.inside.keeper c.clear.new.self.items) c.args.piece.now c.in-Err.fault is_open c.in-Err.ensures
    (ap (over c.self-2.inside.keeper) c.clear.ensures.items ∙ ap (λ (l : Learning). over l []) c.self-2.view_is)

pub returns-in-Err-clause-empty : goal.returns-in-Err-clause-empty
returns-in-Err-clause-empty c =
    λ none is_open.
    let inside : c.self.inside.keeper.intake.closed ≡ false = ap (λ (l : Learning). l.intake.closed) c.self.view_is ∙ is_open in
    let waits : IsWaiting c.args.self.now.intake = subst (λ (l : Learning). IsWaiting l.intake) c.self.view_is (inside, c.self.invariant.0 inside) in
    let closed : Learning = over c.self-2.inside.keeper c.clear.new.self.items in
    let feeds : LearnerFeeds c.args.now c.args.self.now c.args.piece.now (Err c.in-Err.fault) closed =
    feeds_fault c.args.now c.args.self.now c.learn_piece.new.self closed c.args.piece.now c.in-Err.fault is_open c.in-Err.ensures
    (ap (over c.self-2.inside.keeper) c.clear.ensures.items ∙ ap (λ (l : Learning). over l []) c.self-2.view_is) in
    fed_none c.args.now c.args.self.now closed (Err c.in-Err.fault) waits
    (subst (λ (piece : List ℕ). LearnerFeeds c.args.now c.args.self.now piece (Err c.in-Err.fault) closed) none feeds)

pub returns-in-Err-clause-kept : goal.returns-in-Err-clause-kept
returns-in-Err-clause-kept c =
    λ _. cut_off c.args.now c.args.self.now c.learn_piece.new.self (over c.self-2.inside.keeper c.clear.new.self.items) c.args.piece.now c.in-Err.fault c.in-Err.ensures
    (ap (over c.self-2.inside.keeper) c.clear.ensures.items ∙ ap (λ (l : Learning). over l []) c.self-2.view_is)
