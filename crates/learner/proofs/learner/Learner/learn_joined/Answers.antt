use Rattle.std.proofs.Common.{rules, ◌≡◌, ◌<◌, ◌≤◌, ◌-◌, ℕ, ◌+◌, false, List, [], ◌++◌, length, length-append, take, drop, Some, None, Ok, Err, ap, subst, ◌∙◌, arith}
use Rattle.std.proofs.lemmas.List.{take_rest, take_all, length-take}
use Rattle.std.proofs.lemmas.Result.{err_from_is_err_and}
use Rattle.peers_msg.specs.Integers.{IsBytes}
use Rattle.learner.specs.Learning.{Learning, LearnsAll, with_piece}
use Rattle.learner.specs.InPlace.{LearnsFront, LearnsPiece, over}
use Rattle.learner.proofs.LegalStreamIsTaught.{waits_at_end}
use Rattle.learner.proofs.RoomForMessages.{few_unfinished, no_bytes_good, both_good}
use Rattle.learner.proofs.JoinedPieces.{bytes_good, joined_waits, joined_stops, joined_learns, joined_beyond, then_learned, then_stops}
use Rattle.learner.proofs.learner.Learner.learn_joined.Goals as goal

pub overflow_sub-before : goal.overflow_sub-before
overflow_sub-before c =
    let inside : c.self.inside.keeper.intake.closed ≡ false = ap (λ (l : Learning). l.intake.closed) c.self.view_is ∙ c.requires in
    let few = few_unfinished c.self.inside.keeper.intake.state.received c.self.inside.held.items c.self.invariant.1 (c.self.invariant.0 inside) in
    omega (arith, c.self.inside.held.ok.0)

pub returns-in_err-first : goal.returns-in_err-first
returns-in_err-first c =
    let unread : List ℕ = c.self.inside.held.items in
    let piece : List ℕ = c.args.piece.now in
    let bytes : List ℕ = c.as_slice.result.now in
    let inside : c.self.inside.keeper.intake.closed ≡ false = ap (λ (l : Learning). l.intake.closed) c.self.view_is ∙ c.requires in
    let is : bytes ≡ unread ++ take c.min-joined.result piece = search rules in
    let good : IsBytes (unread ++ piece) = both_good unread piece c.self.invariant.1 (λ i. omega (arith, c.type_inv.piece i)) in
    let stops = joined_stops c.args.now c.self.inside.keeper c.learn_message.new.self unread piece bytes c.min-joined.result c.in_err-first.field-0.0 good inside is c.in_err-first.ensures.learns in
    let p = err_from_is_err_and c.from_residual.result c.from_residual.ensures.1 in
    let left : Learning = over c.learn_message.new.self c.extend_from_slice.new.self.items in
    let there : LearnsPiece c.args.now (over c.self.inside.keeper unread) piece (Err c.in_err-first.field-0.0) left = (stops.0, stops.1, ap (λ (l : Learning). over l []) stops.2) in
    rw (p.1, p.2) (subst (λ (l : Learning). LearnsPiece c.args.now l piece (Err c.in_err-first.field-0.0) left) c.self.view_is there)

pub returns-in_default : goal.returns-in_default
returns-in_default c =
    let unread : List ℕ = c.self.inside.held.items in
    let piece : List ℕ = c.args.piece.now in
    let bytes : List ℕ = c.as_slice.result.now in
    let n : ℕ = c.min-joined.result in
    let is : bytes ≡ unread ++ take n piece = search rules in
    let good : IsBytes (unread ++ piece) = both_good unread piece c.self.invariant.1 (λ i. omega (arith, c.type_inv.piece i)) in
    let front : LearnsFront c.args.now c.self.inside.keeper bytes (Ok None) c.learn_message.new.self = rw c.in_default.is at c.in_ok-first.ensures.learns in
    let few : length bytes < 16389 = few_unfinished c.self.inside.keeper.intake.state.received bytes (bytes_good unread piece bytes n is good) front.0.1 in
    let all : length piece ≤ n = omega (arith, c.min-joined.ensures, c.len-before.ensures, c.self.inside.held.ok.0, ap length is, length-append unread (take n piece), length-take n piece) in
    let whole : bytes ≡ unread ++ piece = is ∙ ap (λ (b : List ℕ). unread ++ b) (take_all n piece all) in
    let there = joined_waits c.args.now c.self.inside.keeper c.learn_message.new.self unread piece bytes whole front in
    let left : Learning = over c.learn_message.new.self c.extend_from_slice.new.self.items in
    let held : LearnsAll c.args.now (over c.self.inside.keeper (unread ++ piece)) (Ok 0) left = subst (λ (b : List ℕ). LearnsAll c.args.now (over c.self.inside.keeper (unread ++ piece)) (Ok 0) (over c.learn_message.new.self b)) c.as_slice.ensures.value there in
    subst (λ (l : Learning). LearnsAll c.args.now (with_piece l piece) (Ok 0) left) c.self.view_is held

pub invariant_of-self-2 : goal.invariant_of-self-2
invariant_of-self-2 c = (
  λ _. rw c.clear.ensures.items (waits_at_end c.learn_message.new.self.intake.state.received),
  rw c.clear.ensures.items no_bytes_good,
  omega (arith, c.clear.ensures.capacity, c.extend_from_slice.ensures.capacity, c.self.invariant.2),
)

pub overflow_sub-first : goal.overflow_sub-first
overflow_sub-first c =
    let unread : List ℕ = c.self.inside.held.items in
    let piece : List ℕ = c.args.piece.now in
    let bytes : List ℕ = c.as_slice.result.now in
    let n : ℕ = c.min-joined.result in
    let inside : c.self.inside.keeper.intake.closed ≡ false = ap (λ (l : Learning). l.intake.closed) c.self.view_is ∙ c.requires in
    let is : bytes ≡ unread ++ take n piece = search rules in
    let good : IsBytes (unread ++ piece) = both_good unread piece c.self.invariant.1 (λ i. omega (arith, c.type_inv.piece i)) in
    let front : LearnsFront c.args.now c.self.inside.keeper bytes (Ok (Some c.in-Some.first)) c.learn_message.new.self = rw c.in-Some.is at c.in_ok-first.ensures.learns in
    let bounds = rw c.in-Some.is at c.in_ok-first.ensures.within in
    let beyond = joined_beyond c.args.now c.self.inside.keeper c.learn_message.new.self unread (take n piece) bytes c.in-Some.first (bytes_good unread piece bytes n is good) is (c.self.invariant.0 inside) bounds.2 front in
    omega (arith, beyond, c.len-before.ensures, c.self.inside.held.ok.0)

pub returns-in_err-others : goal.returns-in_err-others
returns-in_err-others c =
    let unread : List ℕ = c.self.inside.held.items in
    let piece : List ℕ = c.args.piece.now in
    let bytes : List ℕ = c.as_slice.result.now in
    let n : ℕ = c.min-joined.result in
    let k : Learning = c.self.inside.keeper in
    let e : Learning = c.learn_message.new.self in
    let inside : k.intake.closed ≡ false = ap (λ (l : Learning). l.intake.closed) c.self.view_is ∙ c.requires in
    let is : bytes ≡ unread ++ take n piece = search rules in
    let good : IsBytes (unread ++ piece) = both_good unread piece c.self.invariant.1 (λ i. omega (arith, c.type_inv.piece i)) in
    let front : LearnsFront c.args.now k bytes (Ok (Some c.in-Some.first)) e = rw c.in-Some.is at c.in_ok-first.ensures.learns in
    let bounds = rw c.in-Some.is at c.in_ok-first.ensures.within in
    let beyond = joined_beyond c.args.now k e unread (take n piece) bytes c.in-Some.first (bytes_good unread piece bytes n is good) is (c.self.invariant.0 inside) bounds.2 front in
    let one = joined_learns c.args.now k e unread piece bytes n c.in-Some.first good is (omega (arith, beyond)) bounds.2 front in
    let from : ℕ = c.in-Some.first.used - c.len-before.result in
    let there : from ≡ c.in-Some.first.used - length unread = omega (arith, c.len-before.ensures, c.self.inside.held.ok.0) in
    let rest : List ℕ = take (length piece - from) (drop from piece) in
    let at : with_piece (over e c.clear.new.self.items) rest ≡ over e (drop (c.in-Some.first.used - length unread) piece) =
    ap (over e) (ap (λ (b : List ℕ). b ++ rest) c.clear.ensures.items ∙ take_rest piece from ∙ ap (λ (d : ℕ). drop d piece) there) in
    let learns : LearnsPiece c.args.now (over e c.clear.new.self.items) rest (Err c.in_err-others.field-0.0) c.learn_in_place.new.self = c.in_err-others.ensures.learns in
    let others = subst (λ (l : Learning). LearnsAll c.args.now l (Err c.in_err-others.field-0.0) learns.0) at learns.1 in
    let stops = then_stops c.args.now (over k (unread ++ piece)) (over e (drop (c.in-Some.first.used - length unread) piece)) learns.0 c.in-Some.first.rows c.in_err-others.field-0.0 one others in
    let both : LearnsPiece c.args.now (over k unread) piece (Err c.in_err-others.field-0.0) c.learn_in_place.new.self = (learns.0, stops, learns.2) in
    let p = err_from_is_err_and c.from_residual-in_err-others.result c.from_residual-in_err-others.ensures.1 in
    rw (p.1, p.2) (subst (λ (l : Learning). LearnsPiece c.args.now l piece (Err c.in_err-others.field-0.0) c.learn_in_place.new.self) c.self.view_is both)

pub returns : goal.returns
returns c =
    let unread : List ℕ = c.self.inside.held.items in
    let piece : List ℕ = c.args.piece.now in
    let bytes : List ℕ = c.as_slice.result.now in
    let n : ℕ = c.min-joined.result in
    let k : Learning = c.self.inside.keeper in
    let e : Learning = c.learn_message.new.self in
    let inside : k.intake.closed ≡ false = ap (λ (l : Learning). l.intake.closed) c.self.view_is ∙ c.requires in
    let is : bytes ≡ unread ++ take n piece = search rules in
    let good : IsBytes (unread ++ piece) = both_good unread piece c.self.invariant.1 (λ i. omega (arith, c.type_inv.piece i)) in
    let front : LearnsFront c.args.now k bytes (Ok (Some c.in-Some.first)) e = rw c.in-Some.is at c.in_ok-first.ensures.learns in
    let bounds = rw c.in-Some.is at c.in_ok-first.ensures.within in
    let beyond = joined_beyond c.args.now k e unread (take n piece) bytes c.in-Some.first (bytes_good unread piece bytes n is good) is (c.self.invariant.0 inside) bounds.2 front in
    let one = joined_learns c.args.now k e unread piece bytes n c.in-Some.first good is (omega (arith, beyond)) bounds.2 front in
    let from : ℕ = c.in-Some.first.used - c.len-before.result in
    let there : from ≡ c.in-Some.first.used - length unread = omega (arith, c.len-before.ensures, c.self.inside.held.ok.0) in
    let rest : List ℕ = take (length piece - from) (drop from piece) in
    let at : with_piece (over e c.clear.new.self.items) rest ≡ over e (drop (c.in-Some.first.used - length unread) piece) =
    ap (over e) (ap (λ (b : List ℕ). b ++ rest) c.clear.ensures.items ∙ take_rest piece from ∙ ap (λ (d : ℕ). drop d piece) there) in
    let learns : LearnsAll c.args.now (with_piece (over e c.clear.new.self.items) rest) (Ok c.in_ok-others.others) c.learn_in_place.new.self = c.in_ok-others.ensures.learns in
    let others = subst (λ (l : Learning). LearnsAll c.args.now l (Ok c.in_ok-others.others) c.learn_in_place.new.self) at learns in
    let all = then_learned c.args.now (over k (unread ++ piece)) (over e (drop (c.in-Some.first.used - length unread) piece)) c.learn_in_place.new.self c.in-Some.first.rows c.in_ok-others.others one others in
    subst (λ (l : Learning). LearnsAll c.args.now (with_piece l piece) (Ok (c.in-Some.first.rows + c.in_ok-others.others)) c.learn_in_place.new.self) c.self.view_is all
