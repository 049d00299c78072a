use Rattle.std.proofs.Common.{◌≡◌, ℕ, ◌++◌, [], List, rules, sym, ap, subst, ◌∙◌}
use Rattle.std.proofs.lemmas.List.{append-nil}
use Rattle.std.specs.Prelude.{filter_map}
use Rattle.std.specs.List.Sorted.{IsStrictlySortedBy}
use Rattle.std.specs.Ordering.{nat_cmp}
use Rattle.peers_msg.specs.declared.message.Message.{Message}
use Rattle.peers_msg.specs.Received.{AreDistinct}
use Rattle.learner.specs.Acks.{AreRisingAcks}
use Rattle.learner.specs.Intake.{Taking, ack_of, due_acks}
use Rattle.learner.proofs.AcksRise.{acks_rise}
use Rattle.learner.proofs.DueAcks.{in_order}
use Rattle.learner.proofs.intake.Intake.acks.Goals as goal

pub returns-clause-due : goal.returns-clause-due
returns-clause-due c =
    let t = c.args.self.now in
    let end : c.loop-id.id-iterator ≡ [] = search rules in
    let all : c.loop-id.acks.items ≡ filter_map (ack_of t) t.due =
    sym (append-nil c.loop-id.acks.items) ∙ ap (λ (ids : List ℕ). c.loop-id.acks.items ++ filter_map (ack_of t) ids) (sym end) ∙ c.loop-id.invariant in
    let distinct : AreDistinct t.state.received.tables = search rules in
    let sorted : IsStrictlySortedBy nat_cmp t.due = subst (λ (x : Taking). IsStrictlySortedBy nat_cmp x.due) c.self.view_is c.into_iter-id-iterator.ensures.into_iter_gives.4 in
    all ∙ in_order t distinct sorted

pub returns-clause-rising : goal.returns-clause-rising
returns-clause-rising c =
    let t = c.args.self.now in
    let end : c.loop-id.id-iterator ≡ [] = search rules in
    let all : c.loop-id.acks.items ≡ filter_map (ack_of t) t.due =
    sym (append-nil c.loop-id.acks.items) ∙ ap (λ (ids : List ℕ). c.loop-id.acks.items ++ filter_map (ack_of t) ids) (sym end) ∙ c.loop-id.invariant in
    let distinct : AreDistinct t.state.received.tables = search rules in
    let sorted : IsStrictlySortedBy nat_cmp t.due = subst (λ (x : Taking). IsStrictlySortedBy nat_cmp x.due) c.self.view_is c.into_iter-id-iterator.ensures.into_iter_gives.4 in
    let acks : c.loop-id.acks.items ≡ due_acks t = all ∙ in_order t distinct sorted in
    subst AreRisingAcks (sym acks) (acks_rise t t.state.received.tables distinct)
