-- How the stream on its way to a learner grows.
use Rattle.std.proofs.Common.{◌≡◌, ℕ, ◌-◌, List, ◌++◌, length, sym, ap, subst, ◌∙◌, inl, inr, append_assoc}
use Rattle.std.proofs.lemmas.Bool.{cases_lt}
use Rattle.std.proofs.lemmas.List.{get_or_append_left}
use Rattle.std.proofs.Math.Seq.{get_or-append_right}
use Rattle.peers_msg.specs.Integers.{IsBytes}
use Rattle.peers_msg.specs.declared.message.Message.{Message}
use Rattle.peers_msg.specs.Spelling.{stream_of}
use Rattle.table_types.specs.declared.update.Update.{Update}
use Rattle.known_state.specs.State.{State, Legal}
use Rattle.learner.specs.Learning.{Learning}
use Rattle.learner.specs.OnItsWay.{IsOnItsWay}
use Rattle.teach_writer.proofs.UpdateStepsAreLegal.{legal-append, stream-append}

pub IsBytes-append : (a b : List ℕ) → IsBytes a → IsBytes b → IsBytes (a ++ b)
IsBytes-append a b one other i =
    elim (cases_lt i (length a)) [
      | inl lt ↦ rw (get_or_append_left a b 0 i lt) (one i)
      | inr le ↦ rw (get_or-append_right a b i 0 le) (other (i - length a))
    ]

-- messages that are legal where the stream ends lengthen it
pub longer : (l : Learning) (more : List ℕ) (ms ns : List Message) (us vs : List Update) (mid after : State)
    → IsOnItsWay l more ms us mid → Legal l.intake.roster mid ns vs after → IsBytes (stream_of ns)
    → IsOnItsWay l (more ++ stream_of ns) (ms ++ ns) (us ++ vs) after
longer l more ms ns us vs mid after (once, owns, all, teaches, going, cut, good) legal bytes =
    let whole = legal-append l.intake.roster ms ns l.intake.state mid after us vs (all, teaches) legal in
    let grouped : l.intake.unread ++ (more ++ stream_of ns) ≡ (l.intake.unread ++ more) ++ stream_of ns = simp append_assoc in
    let spelled_out : l.intake.unread ++ (more ++ stream_of ns) ≡ stream_of (ms ++ ns) =
    grouped ∙ ap (λ (x : List ℕ). x ++ stream_of ns) cut ∙ sym (stream-append ms ns) in
    (once, owns, whole.0, whole.1, going, spelled_out, subst IsBytes (sym grouped) (IsBytes-append (l.intake.unread ++ more) (stream_of ns) good bytes))
