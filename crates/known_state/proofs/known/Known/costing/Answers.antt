use Rattle.std.proofs.Common.{◌≡◌, ◌≢◌, ◌+◌, ◌++◌, [], ◌∷◌, List, length, take, Result, Ok, Err, sym, ap, ◌∙◌, arith}
use Rattle.std.specs.Prelude.{IfErr}
use Rattle.std.proofs.lemmas.List.{take_more, take_all}
use Rattle.table_types.specs.declared.update.Update.{Update}
use Rattle.table_types.specs.Tables.{Definition}
use Rattle.known_state.specs.Cost.{cost_from, knowledge_of, selection_cost, written_cost}
use Rattle.known_state.specs.Knowing.{known_so_far}
use Rattle.known_state.specs.Requests.{asked, requests_of}
use Rattle.known_state.proofs.FullIsCost.{full_is_cost}
use Rattle.known_state.proofs.CostsAddUp.{costed-more, few-asked}
use Rattle.known_state.proofs.known.Known.costing.Goals as goal

pub loop-update-preserved : goal.loop-update-preserved
loop-update-preserved c =
    let us = c.updates-updates.result.now in
    let i = c.loop-update.update-index in
    let u = c.update-item.result in
    let more : take (i + 1) us ≡ take i us ++ u ∷ [] = take_more us i u c.loop-update-test.true ∙ ap (λ (x : Update). take i us ++ x ∷ []) (sym c.update-item.is) in
    let known = c.loop-update.knowledge in
    costed-more c.args.self.now.roster (knowledge_of c.args.self.now.state) (known_so_far known) (known_so_far c.add.new.knowledge) (take i us) (take (i + 1) us) u i c.loop-update.full c.in_ok-full.field-0 c.loop-update.requests.items c.add.new.requests.items more c.loop-update.invariant
    (c.in_ok-full.ensures.requests ∙ ap (λ (roster : List Definition). c.loop-update.requests.items ++ asked roster (known_so_far known) u u.name) c.roster.ensures.roster)
    (c.in_ok-full.ensures.cost ∙ ap (λ (roster : List Definition). selection_cost roster (known_so_far known) u.table + written_cost roster (known_so_far known) u) c.roster.ensures.roster)
    c.in_ok-full.ensures.after c.in_ok-full.ensures.within

pub returns-clause-full : goal.returns-clause-full
returns-clause-full c =
    let roster = c.args.self.now.roster in
    let s = c.args.self.now.state in
    let us = c.updates-updates.result.now in
    let whole : take c.loop-update.update-index us ≡ c.args.batch.now = take_all c.loop-update.update-index us c.loop-update-test.false ∙ c.updates-updates.ensures.updates in
    c.loop-update.invariant.1 ∙ ap (cost_from roster (knowledge_of s)) whole ∙ sym (full_is_cost roster s c.args.batch.now)

pub returns-clause-few : goal.returns-clause-few
returns-clause-few c =
    let roster = c.args.self.now.roster in
    let s = c.args.self.now.state in
    let us = c.updates-updates.result.now in
    let whole : take c.loop-update.update-index us ≡ c.args.batch.now = take_all c.loop-update.update-index us c.loop-update-test.false ∙ c.updates-updates.ensures.updates in
    let are : c.loop-update.requests.items ≡ requests_of roster (knowledge_of s) c.args.batch.now = c.loop-update.invariant.0 ∙ ap (requests_of roster (knowledge_of s)) whole in
    rw are (few-asked roster (knowledge_of s) c.args.batch.now)

pub returns-in_err-full-clause-memory : goal.returns-in_err-full-clause-memory
returns-in_err-full-clause-memory c =
    let us = c.updates-updates.result.now in
    let some : c.args.batch.now ≢ [] = λ none. let nothing : length us ≡ 0 = ap length (c.updates-updates.ensures.updates ∙ none) in absurd (omega (arith, nothing, c.loop-update-test.true)) in
    of_memory c.from_residual.result some
  where
    of_memory : {X E : Type 0} (result : Result X E) {p : Type 0} → p → IfErr result (λ e. p)
    of_memory (Ok x) is = tt
    of_memory (Err e) is = is
