-- On the way through a legal stream no fault occurs, unless memory runs out.
use Rattle.std.proofs.Common.{◌≡◌, ℕ, List, ◌++◌, Err, sym, ap, subst, ◌∙◌}
use Rattle.peers_msg.specs.Integers.{IsBytes}
use Rattle.table_types.specs.declared.update.Update.{Update}
use Rattle.peers_msg.specs.declared.message.Message.{Message}
use Rattle.peers_msg.specs.Spelling.{stream_of}
use Rattle.known_state.specs.State.{State, Legal}
use Rattle.learner.specs.declared.fault.Fault.{Fault}
use Rattle.learner.specs.declared.fault.Fault.TheVariants as faults
use Rattle.learner.specs.Learning.{Learning, LearnerFeeds, IsReady}
use Rattle.learner.specs.Moments.{Piece, stream_in, AreFedInTime}
use Rattle.learner.proofs.LegalStreamIsTaught.{once_named}
use Rattle.learner.specs.OnItsWay.{IsOnItsWay}
use Rattle.learner.proofs.EachPieceGivesItsOwn.{fed_along, only_memory}

pub stream_faultless : (now : ℕ) (l mid e : Learning) (ms : List Message) (us : List Update) (after : State) (before : List Piece) (piece more : List ℕ) (counts : List ℕ) (fault : Fault) → IsReady l → Legal l.intake.roster l.intake.state ms us after → IsBytes (stream_of ms) → stream_in before ++ (piece ++ more) ≡ stream_of ms → AreFedInTime l before counts mid → LearnerFeeds now mid piece (Err fault) e → fault ≡ faults.Memory
stream_faultless now l mid e ms us after before piece more counts fault (sound, owns, is_open, unread) legal good cut fed faulty =
    let bytes : List ℕ = stream_in before ++ (piece ++ more) in
    let all_bytes : IsBytes (l.intake.unread ++ bytes) = subst (λ (x : List ℕ). IsBytes (x ++ bytes)) (sym unread) (subst IsBytes (sym cut) good) in
    let way : IsOnItsWay l bytes ms us after = (once_named l.intake.roster sound, owns, legal.0, legal.1, is_open, ap (λ (x : List ℕ). x ++ bytes) unread ∙ cut, all_bytes) in
    let along = fed_along before (piece ++ more) l mid ms us counts after way fed in
    only_memory now mid e piece more along.0 along.1 after fault along.2 faulty
