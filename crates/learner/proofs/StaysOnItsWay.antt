-- A learner stays on its way through a legal stream, and has all of it at its end.
use Rattle.std.proofs.Common.{◌≡◌, ◌≢◌, ℕ, ◌<◌, List, [], ◌∷◌, ◌++◌, length, Result, Ok, Err, sym, ap, ◌∙◌, arith, append-nil, length-append}
use Rattle.peers_msg.specs.declared.message.Message.{Message}
use Rattle.peers_msg.specs.Spelling.{spelled, stream_of}
use Rattle.table_types.specs.declared.update.Update.{Update}
use Rattle.known_state.specs.State.{State}
use Rattle.learner.specs.declared.fault.Fault.{Fault}
use Rattle.learner.specs.declared.fault.Fault.TheVariants as faults
use Rattle.learner.specs.Learning.{Learning, LearnerFeeds, IsWaiting, with_piece}
use Rattle.learner.specs.OnItsWay.{IsFedOnItsWay, IsOnItsWay}
use Rattle.learner.proofs.EachPieceGivesItsOwn.{on_way, fed_on_way, too_few, only_memory}

-- the next bytes are fed
pub fed : (now : ℕ) (l e : Learning) (piece more : List ℕ) (ms : List Message) (us : List Update) (after : State) (answer : Result ℕ Fault)
    → IsOnItsWay l (piece ++ more) ms us after → LearnerFeeds now l piece answer e → answer ≢ Err faults.Memory → IsFedOnItsWay now l piece more ms us after answer e
fed now l e piece more ms us after (Err fault) way feeds unless =
    let is : fault ≡ faults.Memory = only_memory now l e piece more ms us after fault way feeds in
    absurd (unless (ap (λ (f : Fault). Err f) is))
fed now l e piece more ms us after (Ok count) way (is_open, (ns, vs, learned, waits, counted)) unless =
    let begins = on_way now (with_piece l piece) e more ms ns us vs after (fed_on_way l piece more ms us after way) learned in
    (ns, vs, ap (λ (n : ℕ). Ok n) counted, learned, waits, begins)

-- nothing is to come once the learner has all bytes and waits
pub at_the_end : (l : Learning) (ms : List Message) (us : List Update) (after : State) → IsOnItsWay l [] ms us after → IsWaiting l.intake
    → (us ≡ []) × (l.intake.state ≡ after) × (l.intake.unread ≡ [])
at_the_end l [] us after (once, owns, all, (none, here), going, cut, good) waits =
    (none, sym here, sym (append-nil l.intake.unread) ∙ cut)
at_the_end l (m ∷ ms) us after way waits =
    let few : length l.intake.unread < length (spelled m) = too_few l [] (m ∷ ms) us after way waits in
    let sizes : length (l.intake.unread ++ []) ≡ length (spelled m ++ stream_of ms) = ap (λ (x : List ℕ). length x) way.5 in
    absurd (omega (arith, length-append l.intake.unread [], length-append (spelled m) (stream_of ms)))
