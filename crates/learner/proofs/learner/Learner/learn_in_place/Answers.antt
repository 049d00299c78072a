use Rattle.std.proofs.Common.{◌≡◌, ◌<◌, ℕ, List, [], length, drop, ap, ◌∙◌, arith}
use Rattle.std.proofs.lemmas.List.{take_rest}
use Rattle.peers_msg.proofs.FieldCanonical.{IsBytes-drop}
use Rattle.learner.specs.Learning.{Learning}
use Rattle.learner.specs.InPlace.{over}
use Rattle.learner.proofs.RoomForMessages.{few_unfinished}
use Rattle.learner.proofs.JoinedPieces.{all_wait}
use Rattle.learner.proofs.learner.Learner.learn_in_place.Goals as goal

pub unwrap-requires : goal.unwrap-requires
unwrap-requires c =
    let piece : List ℕ = c.args.piece.now in
    let rest : List ℕ = drop c.in_ok-progress.progress.used piece in
    let waits = all_wait c.args.now (over c.self.inside.keeper piece) (over c.learn_all.new.self rest) c.in_ok-progress.progress.rows c.in_ok-progress.ensures.learns in
    let few : length rest < 16389 = few_unfinished c.learn_all.new.self.intake.state.received rest (IsBytes-drop c.in_ok-progress.progress.used piece (λ i. omega (arith, c.type_inv.piece i))) waits.1 in
    let none : c.self.inside.held.items ≡ [] = ap (λ (l : Learning). l.intake.unread) c.self.view_is ∙ c.requires.1 in
    c.extend_from_slice.ensures.succeeds (omega (arith, ap length (take_rest piece c.in_ok-progress.progress.used), ap length none, c.self.inside.held.ok.0, c.self.invariant.2))
