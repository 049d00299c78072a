use Rattle.std.proofs.Common.{◌≡◌, List, ℕ, sym, ap, ◌∙◌, subst}
use Rattle.std.proofs.lemmas.Result.{err_from_is_err_and}
use Rattle.table_types.specs.Tables.{Definition}
use Rattle.known_state.specs.Known.{KnownState, known_of}
use Rattle.known_state.specs.Lessons.{IsLessonFor}
use Rattle.learner.specs.Learning.{HasLearned, IsReadyIn}
use Rattle.tests_play_data.proofs.exchanges.teach_and_learn.Goals as goal

pub returns-in_err-feed_in_pieces-clause-memory : goal.returns-in_err-feed_in_pieces-clause-memory
returns-in_err-feed_in_pieces-clause-memory c =
    let p = err_from_is_err_and c.from_residual.result c.from_residual.ensures.1 in
    let lesson : IsLessonFor c.args.known.now c.args.batch.now c.as_slice.result.now c.in-Ok.lesson.known = subst (λ (bytes : List ℕ). IsLessonFor c.args.known.now c.args.batch.now bytes c.in-Ok.lesson.known) (sym c.as_slice.ensures) c.in-Ok.ensures.taught in
    rw (p.1, p.2) (c.in_err-feed_in_pieces.ensures.memory c.args.known.now c.in-Ok.lesson.known c.args.batch.now lesson c.requires.ready)

learned : (c : goal.In-Ok-known) → HasLearned c.args.now c.args.learner.now c.args.batch.now c.in-Ok.lesson.known c.feed_in_pieces.new.learner
learned c =
    let lesson : IsLessonFor c.args.known.now c.args.batch.now c.as_slice.result.now c.in-Ok.lesson.known = subst (λ (bytes : List ℕ). IsLessonFor c.args.known.now c.args.batch.now bytes c.in-Ok.lesson.known) (sym c.as_slice.ensures) c.in-Ok.ensures.taught in
    c.in_ok-feed_in_pieces.ensures.learned c.args.known.now c.in-Ok.lesson.known c.args.batch.now lesson c.requires.ready

known : (c : goal.In-Ok-known) → c.in-Ok-known.after ≡ c.in-Ok.lesson.known
known c = c.in-Ok-known.ensures.known ∙ ap (λ (roster : List Definition). known_of roster c.feed_in_pieces.new.learner.intake.state) c.roster.ensures ∙ (learned c).1.2

pub returns-in-Ok-known-clause-rows : goal.returns-in-Ok-known-clause-rows
returns-in-Ok-known-clause-rows c = (learned c).0

pub returns-in-Ok-known-clause-known : goal.returns-in-Ok-known-clause-known
returns-in-Ok-known-clause-known c = known c

pub returns-in-Ok-known-clause-ready : goal.returns-in-Ok-known-clause-ready
returns-in-Ok-known-clause-ready c = subst (λ (k : KnownState). IsReadyIn k c.feed_in_pieces.new.learner) (sym (known c)) (learned c).1
