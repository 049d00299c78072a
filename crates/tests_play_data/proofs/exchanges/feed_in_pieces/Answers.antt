use Rattle.std.proofs.Common.{◌≡◌, ℕ, [], ◌++◌, List, Ok, refl, sym, ap, ◌∙◌, subst, inl, inr, append_assoc, arith, rules}
use Rattle.std.proofs.lemmas.List.{append-nil}
use Rattle.std.proofs.lemmas.Result.{err_from_is_err_and}
use Rattle.peers_msg.specs.Integers.{IsBytes}
use Rattle.peers_msg.proofs.CuttingIndependence.{front_good}
use Rattle.known_state.specs.Lessons.{IsLessonFor}
use Rattle.learner.specs.Learning.{LearnerFeeds}
use Rattle.tests_play_data.proofs.FedInPieces.{fed_more, fed_learned, fed_faultless}
use Rattle.tests_play_data.proofs.exchanges.feed_in_pieces.Goals as goal

pub loop-length-init : goal.loop-length-init
loop-length-init c = ([], refl, inl (refl, refl))

pub loop-length-preserved : goal.loop-length-preserved
loop-length-preserved c =
    let bytes : List ℕ = c.args.bytes.now in
    let good : IsBytes bytes = λ i. omega (arith, c.type_inv.bytes i) in
    let way = c.loop-length.invariant in
    let piece : List ℕ = c.split_at.result.0.now in
    let others : List ℕ = c.split_at.result.1.now in
    let cut : c.loop-length.rest.now ≡ piece ++ others = search rules in
    let all : bytes ≡ (way.0 ++ piece) ++ others = way.1 ∙ ap (λ (x : List ℕ). way.0 ++ x) cut ∙ sym (append_assoc way.0 piece others) in
    (way.0 ++ piece, all, inr (fed_more c.args.now c.args.learner.now c.loop-length.learner c.feed.new.self way.0 piece c.in_ok-feed.field-0 c.requires (front_good (way.0 ++ piece) others (subst IsBytes all good)) way.2 c.in_ok-feed.ensures.feeds))

pub returns-in_err-feed-clause-memory : goal.returns-in_err-feed-clause-memory
returns-in_err-feed-clause-memory c =
    let p = err_from_is_err_and c.from_residual.result c.from_residual.ensures.1 in
    let bytes : List ℕ = c.args.bytes.now in
    let good : IsBytes bytes = λ i. omega (arith, c.type_inv.bytes i) in
    let way = c.loop-length.invariant in
    let piece : List ℕ = c.split_at.result.0.now in
    let others : List ℕ = c.split_at.result.1.now in
    let cut : c.loop-length.rest.now ≡ piece ++ others = search rules in
    let all : bytes ≡ way.0 ++ (piece ++ others) = way.1 ∙ ap (λ (x : List ℕ). way.0 ++ x) cut in
    rw (p.1, p.2) (λ k after us lesson ready. fed_faultless c.args.now k after us c.args.learner.now c.loop-length.learner c.feed.new.self way.0 piece others c.in_err-feed.field-0.0 (subst (λ (x : List ℕ). IsLessonFor k us x after) all lesson) (subst IsBytes all good) ready way.2 c.in_err-feed.ensures.feeds)

pub returns-in_err-feed-2-clause-memory : goal.returns-in_err-feed-2-clause-memory
returns-in_err-feed-2-clause-memory c =
    let p = err_from_is_err_and c.from_residual-in_err-feed-2.result c.from_residual-in_err-feed-2.ensures.1 in
    let bytes : List ℕ = c.args.bytes.now in
    let good : IsBytes bytes = λ i. omega (arith, c.type_inv.bytes i) in
    let way = c.loop-length.invariant in
    let rest : List ℕ = c.loop-length.rest.now in
    let all : bytes ≡ way.0 ++ (rest ++ []) = way.1 ∙ ap (λ (x : List ℕ). way.0 ++ x) (sym (append-nil rest)) in
    rw (p.1, p.2) (λ k after us lesson ready. fed_faultless c.args.now k after us c.args.learner.now c.loop-length.learner c.feed-2.new.self way.0 rest [] c.in_err-feed-2.field-0.0 (subst (λ (x : List ℕ). IsLessonFor k us x after) all lesson) (subst IsBytes all good) ready way.2 c.in_err-feed-2.ensures.feeds)

pub returns-clause-learned : goal.returns-clause-learned
returns-clause-learned c = λ k after us lesson ready.
    let bytes : List ℕ = c.args.bytes.now in
    let good : IsBytes bytes = λ i. omega (arith, c.type_inv.bytes i) in
    let way = c.loop-length.invariant in
    let rest : List ℕ = c.loop-length.rest.now in
    let fed = fed_more c.args.now c.args.learner.now c.loop-length.learner c.feed-2.new.self way.0 rest c.in_ok-feed-2.field-0 c.requires (subst IsBytes way.1 good) way.2 c.in_ok-feed-2.ensures.feeds in
    fed_learned c.args.now k after us c.args.learner.now c.feed-2.new.self bytes fed.0 lesson ready (subst (λ (x : List ℕ). LearnerFeeds c.args.now c.args.learner.now x (Ok fed.0) c.feed-2.new.self) (sym way.1) fed.1)
