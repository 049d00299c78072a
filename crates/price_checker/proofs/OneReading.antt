-- A stream can be read in only one way.
use Rattle.std.proofs.Common.{◌≡◌, ◌≢◌, ℕ, List, [], ◌∷◌, ◌++◌, length, Option, Some, None, Result, Ok, Err, refl, sym, ap, subst, ◌∙◌, inr, append_assoc}
use Rattle.std.proofs.lemmas.List.{append-nil}
use Rattle.table_types.specs.declared.update.Update.{Update}
use Rattle.table_types.specs.Tables.{Definition}
use Rattle.peers_msg.specs.declared.fault.Breach.{Breach}
use Rattle.peers_msg.specs.declared.message.Message.{Message}
use Rattle.peers_msg.specs.declared.message.Message.TheVariants as messages
use Rattle.peers_msg.specs.Reading.{message_at, frame_at}
use Rattle.peers_msg.specs.Spelling.{spelled, stream_of}
use Rattle.peers_msg.proofs.CuttingIndependence.{found, found_is}
use Rattle.peers_msg.proofs.MessageRoundTrip.{message_again}
use Rattle.known_state.specs.State.{State, Step, Teaches, IsOwn, Legal}
use Rattle.known_state.specs.Known.{KnownState, AreOwn, Refuses}
use Rattle.known_state.specs.declared.known.StepError.{StepError}
use Rattle.known_state.proofs.EffectsAreSteps.{step_fits}
use Rattle.known_state.proofs.TeacherAndLearnerInStep.{own_stays}
use Rattle.known_state.proofs.RefusedIsNoStep.{no_step}
use Rattle.known_state.proofs.StepIsDeterministic.{one_step}
use Rattle.price_checker.specs.declared.verdict.Illegal.{Illegal}
use Rattle.price_checker.specs.declared.verdict.Illegal.TheVariants as illegals
use Rattle.price_checker.specs.Verdicts.{BeginsUnrefused, Carries, IsIllegalHere, IsIllegalAt}

never_err : (m : Message) (rest : List ℕ) (breach : Breach) → found m rest ≡ Err breach → ⊥
never_err m rest breach e = cc

never_none : (m : Message) (rest : List ℕ) → found m rest ≡ Ok None → ⊥
never_none m rest e = cc

never_both : (breach : Breach) → ◌≡◌ {A = Result (Option (Message × List ℕ)) Breach} (Err breach) (Ok None) → ⊥
never_both breach e = cc

-- ---- where no legal message begins

-- the bytes begin with no legal message
abbrev pub IsStuck : List Definition → State → List ℕ → Type 0
IsStuck roster s rest = (m : Message) (after : List ℕ) (us : List Update) (e : State) → message_at s.received rest ≡ found m after → IsOwn roster m → Step s m us e → ⊥

pub illegal_is_stuck : (k : KnownState) (rest : List ℕ) (illegal : Illegal) → AreOwn k.roster k.state.received.tables → IsIllegalHere k rest illegal → IsStuck k.roster k.state rest
illegal_is_stuck k rest illegals.Cut own is = λ m after us e at is_own step. never_none m after (sym at ∙ is.1)
illegal_is_stuck k rest (illegals.Decode breach) own is = λ m after us e at is_own step. never_err m after breach (sym at ∙ is)
illegal_is_stuck k rest (illegals.Step error) own is = λ m after us e at is_own step.
    let same = (found_is is.0 m is.1 after (sym is.2 ∙ at)).0 in
    let refuses : Refuses k m error = subst (λ (x : Message). Refuses k x error) same is.3 in
    no_step k m error us e own refuses is_own step

nothing_there : (s : State) → message_at s.received [] ≡ Ok None
unfolding message_at frame_at
nothing_there s = refl

pub end_is_stuck : (roster : List Definition) (s : State) → IsStuck roster s []
end_is_stuck roster s = λ m after us e at is_own step. never_none m after (sym at ∙ nothing_there s)

-- ---- only one way

at_front : (s e : State) (m : Message) (us : List Update) (rest bytes : List ℕ) → bytes ≡ spelled m ++ rest → Step s m us e → message_at s.received bytes ≡ found m rest
at_front s e m us rest bytes is step = ap (message_at s.received) is ∙ message_again s.received m rest (step_fits s e m us step)

-- two lists of legal messages that both go on until no legal message follows are the same list
pub one_reading : (roster : List Definition) (s a b : State) (ms ns : List Message) (us vs : List Update) (x y : List ℕ) → stream_of ms ++ x ≡ stream_of ns ++ y → Legal roster s ms us a → Legal roster s ns vs b → IsStuck roster a x → IsStuck roster b y → (ms ≡ ns) × (us ≡ vs) × (a ≡ b) × (x ≡ y)
one_reading roster s a b [] [] us vs x y same (_, (none, here)) (_, (others, there)) stuck other = (refl, none ∙ sym others, here ∙ sym there, same)
one_reading roster s a b [] (n ∷ ns) us vs x y same (_, (none, here)) ((own, owns), (first, rest, mid, joined, step, later)) stuck other =
    let front = at_front s mid n first (stream_of ns ++ y) x (same ∙ append_assoc (spelled n) (stream_of ns) y) step in
    let stopped : IsStuck roster s x = subst (λ (t : State). IsStuck roster t x) here stuck in
    absurd (stopped n (stream_of ns ++ y) first mid front own step)
one_reading roster s a b (m ∷ ms) [] us vs x y same ((own, owns), (first, rest, mid, joined, step, later)) (_, (none, here)) stuck other =
    let front = at_front s mid m first (stream_of ms ++ x) y (sym same ∙ append_assoc (spelled m) (stream_of ms) x) step in
    let stopped : IsStuck roster s y = subst (λ (t : State). IsStuck roster t y) here other in
    absurd (stopped m (stream_of ms ++ x) first mid front own step)
one_reading roster s a b (m ∷ ms) (n ∷ ns) us vs x y same ((own, owns), (first, rest, mid, joined, step, later)) ((is_own, are_own), (one, others, next, split, begins, goes)) stuck other =
    let bytes : List ℕ = stream_of (m ∷ ms) ++ x in
    let front = at_front s mid m first (stream_of ms ++ x) bytes (append_assoc (spelled m) (stream_of ms) x) step in
    let also = at_front s next n one (stream_of ns ++ y) bytes (same ∙ append_assoc (spelled n) (stream_of ns) y) begins in
    let both = found_is m n (stream_of ms ++ x) (stream_of ns ++ y) (sym front ∙ also) in
    let again : Step s m one next = subst (λ (k : Message). Step s k one next) (sym both.0) begins in
    let moved = one_step s mid next m first one step again in
    let from_there : Teaches mid ns others b = subst (λ (t : State). Teaches t ns others b) (sym moved.1) goes in
    let left = one_reading roster mid a b ms ns rest others x y both.1 (owns, later) (are_own, from_there) stuck other in (
      ap (λ (k : Message). k ∷ ms) both.0 ∙ ap (λ (ks : List Message). n ∷ ks) left.0,
      joined ∙ ap (λ (ws : List Update). ws ++ rest) moved.0 ∙ ap (λ (ws : List Update). one ++ ws) left.1 ∙ sym split,
      left.2,
      left.3,
    )

-- what is received after legal messages is the roster's own
pub own_after : (roster : List Definition) (s e : State) (ms : List Message) (us : List Update) → AreOwn roster s.received.tables → Legal roster s ms us e → AreOwn roster e.received.tables
own_after roster s e [] us own (_, (none, here)) = subst (λ (t : State). AreOwn roster t.received.tables) (sym here) own
own_after roster s e (m ∷ ms) us own ((is, are), (first, rest, mid, joined, step, later)) =
    own_after roster mid e ms rest (own_stays roster s mid m first own is step) (are, later)

-- ---- legal streams and others

-- a legal stream carries only one list of updates
pub carries_one : (k : KnownState) (stream : List ℕ) (us vs : List Update) → Carries k stream us → Carries k stream vs → us ≡ vs
carries_one k stream us vs (ms, a, spells, legal) (ns, b, respells, others) =
    let ended : (xs : List Message) → stream_of xs ++ [] ≡ stream_of xs = λ xs. append-nil (stream_of xs) in
    (one_reading k.roster k.state a b ms ns us vs [] [] (ended ms ∙ sym spells ∙ respells ∙ sym (ended ns)) legal others (end_is_stuck k.roster a) (end_is_stuck k.roster b)).1

-- and doesn't stop being legal
pub stops_or_carries : (k : KnownState) (stream : List ℕ) (us : List Update) (illegal : Illegal) (place : ℕ) → AreOwn k.roster k.state.received.tables → IsIllegalAt k stream illegal place → Carries k stream us → ⊥
stops_or_carries k stream us illegal place own (ms, carried, mid, rest, split, at, legal, is) (ns, e, spells, others) =
    let stuck = illegal_is_stuck (record { roster = k.roster; state = mid }) rest illegal (own_after k.roster k.state mid ms carried own legal) is in
    let one = one_reading k.roster k.state mid e ms ns carried us rest [] (sym split ∙ spells ∙ sym (append-nil (stream_of ns))) legal others stuck (end_is_stuck k.roster e) in
    nothing_is_legal mid rest illegal one.3 is
  where
    nothing_is_legal : (s : State) (left : List ℕ) (why : Illegal) → left ≡ [] → IsIllegalHere (record { roster = k.roster; state = s }) left why → ⊥
    nothing_is_legal s left illegals.Cut none is = is.0 none
    nothing_is_legal s left (illegals.Decode breach) none is = never_both breach (sym is ∙ ap (message_at s.received) none ∙ nothing_there s)
    nothing_is_legal s left (illegals.Step error) none is = never_none is.0 is.1 (sym is.2 ∙ ap (message_at s.received) none ∙ nothing_there s)

-- a stream that carries an update begins with a message that isn't refused
pub carries_unrefused : (k : KnownState) (stream : List ℕ) (us : List Update) → AreOwn k.roster k.state.received.tables → Carries k stream us → us ≢ [] → BeginsUnrefused k stream
carries_unrefused k stream us own ([], e, spells, (_, (none, here))) some = absurd (some none)
carries_unrefused k stream us own (m ∷ ms, e, spells, ((is_own, are_own), (first, rest, mid, joined, step, later))) some =
    (m, stream_of ms, at_front k.state mid m first (stream_of ms) stream spells step, inr (λ error refuses. no_step k m error first mid own refuses is_own step))

-- ---- only one cause

one_refusal : (k : KnownState) (m : Message) (one other : StepError) → Refuses k m one → Refuses k m other → one ≡ other
one_refusal k (messages.Update u) one other p q = let same : Some one ≡ Some other = sym p ∙ q in cc
one_refusal k (messages.Switch id) one other p q = let same : Some one ≡ Some other = sym p ∙ q in cc
one_refusal k (messages.Define d) one other p q = p.1 ∙ sym q.1
one_refusal k (messages.Control c) one other p q = absurd p
one_refusal k (messages.Error e) one other p q = absurd p
one_refusal k (messages.Ack table number) one other p q = absurd p
one_refusal k (messages.Other o) one other p q = absurd p

one_cause : (k : KnownState) (rest : List ℕ) (one other : Illegal) → IsIllegalHere k rest one → IsIllegalHere k rest other → one ≡ other
one_cause k rest illegals.Cut illegals.Cut p q = refl
one_cause k rest illegals.Cut (illegals.Decode breach) p q = absurd (never_both breach (sym q ∙ p.1))
one_cause k rest illegals.Cut (illegals.Step error) p q = absurd (never_none q.0 q.1 (sym q.2 ∙ p.1))
one_cause k rest (illegals.Decode breach) illegals.Cut p q = absurd (never_both breach (sym p ∙ q.1))
one_cause k rest (illegals.Decode breach) (illegals.Decode other) p q =
    let same : ◌≡◌ {A = Result (Option (Message × List ℕ)) Breach} (Err breach) (Err other) = sym p ∙ q in
    let one : breach ≡ other = cc in
    ap (λ (b : Breach). illegals.Decode b) one
one_cause k rest (illegals.Decode breach) (illegals.Step error) p q = absurd (never_err q.0 q.1 breach (sym q.2 ∙ p))
one_cause k rest (illegals.Step error) illegals.Cut p q = absurd (never_none p.0 p.1 (sym p.2 ∙ q.1))
one_cause k rest (illegals.Step error) (illegals.Decode breach) p q = absurd (never_err p.0 p.1 breach (sym p.2 ∙ q))
one_cause k rest (illegals.Step error) (illegals.Step other) p q =
    let same = (found_is p.0 q.0 p.1 q.1 (sym p.2 ∙ q.2)).0 in
    let refuses : Refuses k q.0 error = subst (λ (x : Message). Refuses k x error) same p.3 in
    ap (λ (e : StepError). illegals.Step e) (one_refusal k q.0 error other refuses q.3)

-- a stream stops being legal at only one place, for only one cause
pub stops_once : (k : KnownState) (stream : List ℕ) (one other : Illegal) (place end : ℕ) → AreOwn k.roster k.state.received.tables → IsIllegalAt k stream one place → IsIllegalAt k stream other end → (one ≡ other) × (place ≡ end)
stops_once k stream one other place end own (ms, carried, mid, rest, split, at, legal, is) (ns, us, there, left, joined, ends, goes, was) =
    let stuck = illegal_is_stuck (record { roster = k.roster; state = mid }) rest one (own_after k.roster k.state mid ms carried own legal) is in
    let stays = illegal_is_stuck (record { roster = k.roster; state = there }) left other (own_after k.roster k.state there ns us own goes) was in
    let same = one_reading k.roster k.state mid there ms ns carried us rest left (sym split ∙ joined) legal goes stuck stays in
    let here : IsIllegalHere (record { roster = k.roster; state = there }) left one = subst (λ (t : State). IsIllegalHere (record { roster = k.roster; state = t }) left one) same.2 (subst (λ (bytes : List ℕ). IsIllegalHere (record { roster = k.roster; state = mid }) bytes one) same.3 is) in
    (one_cause (record { roster = k.roster; state = there }) left one other here was, at ∙ ap (λ (xs : List Message). length (stream_of xs)) same.0 ∙ sym ends)
