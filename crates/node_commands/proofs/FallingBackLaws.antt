-- What follows a node's first connection.
use Rattle.std.proofs.Common.{◌≡◌, ◌∙◌, ◌≤◌, ◌+◌, ◌-◌, ◌&&◌, ℕ, List, Option, Some, None, ap, subst}
use Rattle.std.specs.Prelude.{if◌then◌else◌, nat_lt}
use Rattle.std.specs.Io.KnownBytes.{Appends, Consumes}
use Rattle.session_core.specs.Keeping.{KeptSession}
use Rattle.peers_engine.specs.declared.worker.Worker.{Worker}
use Rattle.text_commands.specs.declared.endings.Ending.{Ending}
use Rattle.node_commands.specs.declared.node.Node.{Node}
use Rattle.node_commands.specs.declared.node.Report.{Report}
use Rattle.node_commands.specs.declared.node.falling_back.Meeting.{Meeting}
use Rattle.node_commands.specs.declared.node.falling_back.Meeting.TheVariants as meetings
use Rattle.node_commands.specs.FallingBack.{EndsSo, IsFollowed, IsMeeting, IsPrintedAtLast, fallen_back, next_session}
use Rattle.node_commands.specs.Nodes.{HasMet, IsPrinted, IsTold}
use Rattle.node_commands.specs.Turning.{Plays, Sending, Writer, sending}
use Rattle.node_commands.proofs.NodeLaws.{IsAudited, audited_told}
use Rattle.node_commands.proofs.TurningLaws.{IsPlayed}

-- ---- what follows a connection

-- the connection, with the reader and the writer before and after it
abbrev HasFollowed : Node → ℕ → Meeting → Option (List ℕ) → Option (List ℕ) → Writer → Writer → Type 0
HasFollowed n turns meeting from to a b =
    (received sent : List ℕ) × IsMeeting n turns meeting received (sending sent a b) × Consumes from to received × Appends a.written.contents b.written.contents sent

meeting_of : (n : Node) (e : Worker) (turns made : ℕ) (ending : Ending) (meeting : Meeting) (received : List ℕ) (sent : Sending)
    → HasMet n turns made ending received sent e → IsFollowed (next_session n turns made e) n made e ending meeting → IsMeeting n turns meeting received sent
unfolding IsMeeting
meeting_of n e turns made ending meeting received sent met followed = (made, e, ending, met, followed)

-- what follows, by the session that the code found
pub followed_by : (n : Node) (e : Worker) (turns most made taken : ℕ) (ending : Ending) (next : Option KeptSession) (meeting : Meeting) (from to : Option (List ℕ)) (a b : Writer)
    → most ≡ turns - n.pace.taken → taken ≡ n.pace.taken + made → next ≡ (if e.session.session.fell_back && nat_lt taken turns then n.fallback else None)
    → IsPlayed n.tables.shards n.pace n.worker most made ending e from to a b → made ≤ most → IsFollowed next n made e ending meeting → HasFollowed n turns meeting from to a b
followed_by n e turns most made taken ending next meeting from to a b is_most is_taken is_next (received, sent, plays, consumed, appended) within followed =
    let same : next ≡ next_session n turns made e = is_next ∙ ap (λ (k : ℕ). if e.session.session.fell_back && nat_lt k turns then n.fallback else None) is_taken in
    let all : Sending = sending sent a b in (
      received,
      sent,
      meeting_of n e turns made ending meeting received all
          (subst (λ (m : ℕ). Plays n.tables.shards n.pace 0 n.worker m made ending received all e) is_most plays, subst (λ (m : ℕ). made ≤ m) is_most within)
          (subst (λ (s : Option KeptSession). IsFollowed s n made e ending meeting) same followed),
      consumed,
      appended,
    )

-- the node that connects again
pub falls_back_to : (n again : Node) (session : KeptSession) (made taken : ℕ) (e : Worker) → taken ≡ n.pace.taken + made
    → again ≡ record { tables = n.tables; worker = record { session = session; seat = e.seat; number = e.number }; pace = record { leaves = n.pace.leaves; stands = n.pace.stands; taken = taken }; fallback = None }
    → again ≡ fallen_back n session made e
falls_back_to n again session made taken e is_taken is =
    is ∙ ap (λ (k : ℕ). record { tables = n.tables; worker = record { session = session; seat = e.seat; number = e.number }; pace = record { leaves = n.pace.leaves; stands = n.pace.stands; taken = k }; fallback = None }) is_taken

-- the report after the last connection
pub told_so : (n : Node) (made taken : ℕ) (e : Worker) (ending : Ending) (report : Report) → taken ≡ n.pace.taken + made → IsAudited n e taken report → report.ending ≡ ending → (report.ending ≡ ending) × IsTold n made e report.text.items
told_so n made taken e ending report is_taken audited same = (same, audited_told n e made taken report is_taken audited)

-- ---- both connections

ends_over : (n : Node) (turns made : ℕ) (e : Worker) (ending : Ending) (report : Report) (next : Option KeptSession) → IsFollowed next n made e ending (meetings.Over report)
    → EndsSo next n turns made e ending report.ending report.text.items
ends_over n turns made e ending report None (same, told) = (same, told)
ends_over n turns made e ending report (Some session) followed = absurd followed

-- nothing follows the first
pub over_at_last : (n : Node) (turns : ℕ) (report : Report) (received : List ℕ) (sent : Sending) → IsMeeting n turns (meetings.Over report) received sent → IsPrintedAtLast n turns report.ending report.text.items
unfolding IsMeeting
over_at_last n turns report received sent (made, e, ending, met, followed) = (made, e, ending, received, sent, met, ends_over n turns made e ending report (next_session n turns made e) followed)

ends_again : (n again : Node) (turns made : ℕ) (e : Worker) (first ending : Ending) (received : List ℕ) (sent : Sending) (text : List ℕ) (next : Option KeptSession) → IsFollowed next n made e first (meetings.FellBack again)
    → IsPrinted again turns ending received sent text → EndsSo next n turns made e first ending text
ends_again n again turns made e first ending received sent text None followed printed = absurd followed
ends_again n again turns made e first ending received sent text (Some session) is printed = (received, sent, subst (λ (m : Node). IsPrinted m turns ending received sent text) is printed)

-- the second follows
pub again_at_last : (n again : Node) (turns : ℕ) (ending : Ending) (received : List ℕ) (sent : Sending) (others : List ℕ) (out : Sending) (text : List ℕ) → IsMeeting n turns (meetings.FellBack again) received sent
    → IsPrinted again turns ending others out text → IsPrintedAtLast n turns ending text
unfolding IsMeeting
again_at_last n again turns ending received sent others out text (made, e, first, met, followed) printed =
    (made, e, first, received, sent, met, ends_again n again turns made e first ending others out text (next_session n turns made e) followed printed)
