use Rattle.std.proofs.Common.{◌≡◌, ◌≤◌, ℕ, List, length, length-drop, drop, subst, arith}
use Rattle.std.proofs.lemmas.List.{take_rest}
use Rattle.std.proofs.lemmas.Result.{err_from_is_err_and}
use Rattle.learner.proofs.ReadInPlace.{whole_more, whole_stops}
use Rattle.learner.proofs.keeper.Keeper.learn_all.Goals as goal

pub returns-in_err-progress-clause-learns : goal.returns-in_err-progress-clause-learns
returns-in_err-progress-clause-learns c =
    let before = c.loop-progress.invariant.learned in
    let p = err_from_is_err_and c.from_residual.result c.from_residual.ensures.1 in
    rw (p.1, p.2) (whole_stops c.args.now c.args.self.now c.loop-progress.self c.learn_message.new.self c.args.bytes.now _ c.loop-progress.used before.0 before.1 c.in_err-progress.field-0.0 before.2 (take_rest c.args.bytes.now c.loop-progress.used) c.in_err-progress.ensures.learns)

pub loop-progress-preserved : goal.loop-progress-preserved
loop-progress-preserved c =
    let before = c.loop-progress.invariant in
    let bytes : List ℕ = c.args.bytes.now in
    let learns = rw c.in-Some.is at c.in_ok-progress.ensures.learns in
    let more = whole_more c.args.now c.args.self.now c.loop-progress.self c.learn_message.new.self bytes _ c.loop-progress.used c.in-Some.progress before.learned.0 before.learned.1 before.learned.2 (take_rest bytes c.loop-progress.used) learns in
    let bounds = rw c.in-Some.is at c.in_ok-progress.ensures.within in
    let row : c.in-Some.progress.rows ≤ 1 = bounds.0 in
    let some : 1 ≤ c.in-Some.progress.used = bounds.1 in
    let within : c.in-Some.progress.used ≤ length (drop c.loop-progress.used bytes) = subst (λ (rest : List ℕ). c.in-Some.progress.used ≤ length rest) (take_rest bytes c.loop-progress.used) bounds.2 in
    let so_far : c.loop-progress.count ≡ length before.learned.1 = before.learned.3 in
    let few : c.loop-progress.count ≤ c.loop-progress.used = before.few in
    let most : c.loop-progress.used ≤ length bytes = before.within in
    record {
      learned = (more.0, more.1, more.2, omega (arith, more.3));
      few = omega arith;
      within = omega (arith, length-drop c.loop-progress.used bytes);
    }
