use Rattle.std.proofs.Common.{◌≡◌, ◌≢◌, None, ℕ, List, [], length, sym, ap, subst, ◌∙◌, inl, inr, ◌⊎◌}
use Rattle.std.specs.Prelude.{◌↔◌}
use Rattle.table_types.specs.declared.update.Update.{Update}
use Rattle.table_types.specs.Tables.{Definition}
use Rattle.table_types.specs.Rosters.{roster_fault}
use Rattle.peers_msg.specs.declared.message.Message.{Message}
use Rattle.peers_msg.specs.Spelling.{stream_of}
use Rattle.known_state.specs.Shortest.{Shortest}
use Rattle.price_checker.specs.declared.verdict.Verdict.{Verdict}
use Rattle.price_checker.specs.declared.verdict.Verdict.TheVariants as verdicts
use Rattle.price_checker.specs.Verdicts.{BeginsUnrefused, Carries, Says, IsNotLegal, IsNotCarried}
use Rattle.price_checker.proofs.OneReading.{carries_unrefused}
use Rattle.price_checker.proofs.OneVerdict.{says_one, not_legal, not_carried}
use Rattle.price_checker.proofs.ShortestIsSaid.{shortest_said}
use Rattle.price_checker.proofs.FoundAsSaid.{of_answer, of_memory}
use Rattle.price_checker.proofs.verifying.verify.Goals as goal

pub returns-clause-exactly : goal.returns-clause-exactly
returns-clause-exactly c =
    let k = c.args.known.now in
    let us = c.args.batch.now in
    let stream = c.args.stream.now in
    let prices = c.args.prices.now in
    of_answer c.said.result (Says k us stream prices) (λ verdict. (other : Verdict) → Says k us stream prices other → verdict ≡ other) (λ verdict says other also. says_one k us stream prices verdict other c.roster.ensures.own says also) c.said.ensures.says

pub returns-clause-legal : goal.returns-clause-legal
returns-clause-legal c =
    let k = c.args.known.now in
    let us = c.args.batch.now in
    let stream = c.args.stream.now in
    let prices = c.args.prices.now in
    of_answer c.said.result (Says k us stream prices) (λ verdict. IsNotLegal verdict ↔ ((carried : List Update) → Carries k stream carried → ⊥)) (λ verdict says. not_legal k us stream prices verdict c.roster.ensures.own says) c.said.ensures.says

pub returns-clause-carried : goal.returns-clause-carried
returns-clause-carried c =
    let k = c.args.known.now in
    let us = c.args.batch.now in
    let stream = c.args.stream.now in
    let prices = c.args.prices.now in
    of_answer c.said.result (Says k us stream prices) (λ verdict. IsNotCarried verdict ↔ ((carried : List Update) × Carries k stream carried × (carried ≢ us))) (λ verdict says. not_carried k us stream prices verdict c.roster.ensures.own says) c.said.ensures.says

pub returns-clause-shortest : goal.returns-clause-shortest
returns-clause-shortest c =
    let k = c.args.known.now in
    let us = c.args.batch.now in
    let stream = c.args.stream.now in
    let prices = c.args.prices.now in
    let sound : roster_fault k.roster ≡ None = subst (λ (ds : List Definition). roster_fault ds ≡ None) c.roster.ensures.roster c.tables-tables.ensures.sound in
    let slots : length k.state.slots ≡ 128 = ap length (sym c.slots.ensures) ∙ sym c.len-slots.ensures.count ∙ c.len-slots.ensures.all in
    of_answer c.said.result (Says k us stream prices) (λ verdict. (bytes : ℕ) → verdict ≡ verdicts.Shortest bytes → (ms : List Message) × (stream ≡ stream_of ms) × (bytes ≡ length stream) × Shortest k us ms)
    (λ verdict says bytes is. shortest_said k us stream prices bytes sound c.roster.ensures.own slots (subst (λ (v : Verdict). Says k us stream prices v) is says)) c.said.ensures.says

pub returns-clause-memory : goal.returns-clause-memory
returns-clause-memory c =
    let k = c.args.known.now in
    let us = c.args.batch.now in
    let stream = c.args.stream.now in
    of_memory c.said.result (BeginsUnrefused k stream ⊎ (Carries k stream us × (us ≢ []))) (BeginsUnrefused k stream) unrefused c.said.ensures.memory
  where
    unrefused : BeginsUnrefused c.args.known.now c.args.stream.now ⊎ (Carries c.args.known.now c.args.stream.now c.args.batch.now × (c.args.batch.now ≢ [])) → BeginsUnrefused c.args.known.now c.args.stream.now
    unrefused (inl begins) = begins
    unrefused (inr (carries, some)) = carries_unrefused c.args.known.now c.args.stream.now c.args.batch.now c.roster.ensures.own carries some
