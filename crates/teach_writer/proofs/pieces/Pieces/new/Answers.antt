use Rattle.std.proofs.Common.{◌≡◌, ◌+◌, ℕ, None, List, length, sym, ◌∙◌, ap, subst, arith, rules}
use Rattle.table_types.specs.Rosters.{roster_fault}
use Rattle.peers_msg.specs.declared.message.Message.{Message}
use Rattle.peers_msg.specs.Spelling.{stream_of}
use Rattle.known_state.specs.Cost.{full, knowledge_of}
use Rattle.known_state.specs.Known.{AreOwn}
use Rattle.known_state.specs.Plans.{Plan}
use Rattle.known_state.specs.Requests.{Asked, requests_of}
use Rattle.known_state.specs.Shortest.{Shortest}
use Rattle.known_state.proofs.CostsAddUp.{few-asked}
use Rattle.price_checker.specs.Verdicts.{Says, bound_shown}
use Rattle.price_checker.specs.declared.verdict.Verdict.TheVariants as verdicts
use Rattle.teach_writer.specs.Pieces.{bytes_left, plan_left}
use Rattle.teach_writer.specs.Planning.{IsLessonBy, IsPlanFor}
use Rattle.teach_writer.specs.Sending.{GoesThrough}
use Rattle.teach_writer.proofs.SentUpdatesCost.{planned_shortest}
use Rattle.teach_writer.proofs.pieces.Pieces.new.Goals as goal

pub plan-requires-clause-requests : goal.plan-requires-clause-requests
plan-requires-clause-requests c =
    let k = c.args.known.now in
    let us = c.args.batch.now in
    let asked : length c.as_slice-3.result.now ≡ length (requests_of k.roster (knowledge_of k.state) us) = ap (λ (rs : List Asked). length rs) (c.as_slice-3.ensures.value ∙ c.in_ok-requests.ensures) in
    omega (arith, asked, few-asked k.roster (knowledge_of k.state) us, c.requires.batch.0)

-- a lesson that goes through the batch according to an accepted plan
planned : (c : goal.After-drop-requests-2) → IsPlanFor c.args.known.now c.args.batch.now c.in_ok-plan.plan → GoesThrough c.args.known.now c.args.batch.now c.in_ok-plan.plan.keep (bytes_left c.in_ok-pieces.pieces) c.in_ok-pieces.pieces.known.state → (ms : List Message) × ((bytes_left c.in_ok-pieces.pieces) ≡ stream_of ms)
    × (length (stream_of ms) + bound_shown c.args.known.now c.args.batch.now c.in_ok-plan.plan.prices ≡ full c.args.known.now.roster c.args.known.now.state c.args.batch.now) × Shortest c.args.known.now c.args.batch.now ms
    × Says c.args.known.now c.args.batch.now (stream_of ms) c.in_ok-plan.plan.prices (verdicts.Shortest (length (stream_of ms)))
planned c accepted order =
    let k = c.args.known.now in
    let us = c.args.batch.now in
    let sound : roster_fault k.roster ≡ None = search rules in
    let own : AreOwn k.roster k.state.received.tables = search rules in
    let many : length k.state.slots ≡ 128 = search rules in
    let all = planned_shortest k us c.in_ok-plan.plan order.0 c.in_ok-pieces.pieces.known.state sound own many c.requires.batch accepted order.1 in
    (order.0, order.2, all.1, all.2, all.3)

pub returns-clause-order : goal.returns-clause-order
returns-clause-order c =
    let k = c.args.known.now in
    let us = c.args.batch.now in
    let plan = c.in_ok-plan.plan in
    let pieces = c.in_ok-pieces.pieces in
    let same : plan_left pieces ≡ plan = c.in_ok-pieces.ensures.plan in
    let accepted : IsPlanFor k us plan = search rules in
    let order : GoesThrough k us plan.keep (bytes_left pieces) pieces.known.state = search rules in
    subst (λ (p : Plan). IsLessonBy p k us (bytes_left pieces) pieces.known.state) (sym same) (accepted, order)

pub returns-clause-shortest : goal.returns-clause-shortest
returns-clause-shortest c = let p = planned c (search rules) (search rules) in (p.0, p.1, p.3)

pub returns-clause-tight : goal.returns-clause-tight
returns-clause-tight c =
    let p = planned c (search rules) (search rules) in
    let prices : c.in_ok-pieces.pieces.prices ≡ c.in_ok-plan.plan.prices = search rules in
    rw (prices, p.1) p.2

pub returns-clause-said : goal.returns-clause-said
returns-clause-said c =
    let k = c.args.known.now in
    let us = c.args.batch.now in
    let lesson = c.in_ok-pieces.pieces in
    let p = planned c (search rules) (search rules) in
    let prices : lesson.prices ≡ c.in_ok-plan.plan.prices = search rules in
    subst (λ (ns : List ℕ). Says k us (bytes_left lesson) ns (verdicts.Shortest (length (bytes_left lesson)))) (sym prices)
    (subst (λ (bytes : List ℕ). Says k us bytes c.in_ok-plan.plan.prices (verdicts.Shortest (length bytes))) (sym p.1) p.4)
