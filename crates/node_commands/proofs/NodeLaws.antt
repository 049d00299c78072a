-- What a node has, and what it prints.
use Rattle.std.proofs.Common.{◌≡◌, ◌≤◌, ◌+◌, ◌-◌, ℕ, true, false, List, [], ◌∷◌, Option, Some, None, subst, sym}
use Rattle.std.specs.Prelude.{Err, IfOk, Ok, Result}
use Rattle.std.specs.Io.KnownBytes.{Appends, Consumes}
use Rattle.table_types.specs.Tables.{Definition}
use Rattle.table_types.specs.declared.version.Version.TheVariants as versions
use Rattle.table_shards.specs.Receipts.{fresh_seat}
use Rattle.table_shards.specs.Audits.{AuditState}
use Rattle.peers_engine.specs.declared.worker.Worker.{Worker}
use Rattle.node_text.specs.declared.scenes.Scene.{Scene}
use Rattle.text_commands.specs.Learning.{AreInRisingId}
use Rattle.text_commands.specs.declared.endings.Ending.{Ending}
use Rattle.node_commands.specs.declared.node.Node.{Node}
use Rattle.node_commands.specs.declared.node.Report.{Report}
use Rattle.node_commands.specs.Auditing.{IsAuditOf}
use Rattle.node_commands.specs.Loading.{AreOpened}
use Rattle.node_commands.specs.Nodes.{HasMet, HasTakenTurns, IsJoining, IsPrinted, IsServing, IsTold, joining_session}
use Rattle.node_commands.specs.Sharing.{waiting_session}
use Rattle.node_commands.specs.Printing.{IsText}
use Rattle.node_commands.specs.Turning.{Plays, Sending, Writer, sending}
use Rattle.node_commands.proofs.TurningLaws.{IsPlayed}

-- the node that serves the scene
pub serving_with : (scene : Scene) (name peer : List ℕ) (n : Node) (roster : List Definition) → AreInRisingId scene.tables.items roster
    → AreOpened 1 roster scene.updates.items n.tables → n.worker ≡ record { session = waiting_session name peer roster; seat = fresh_seat 2; number = 1 }
    → n.pace ≡ record { leaves = false; stands = false; taken = 0 } → n.fallback ≡ None → IsServing scene name peer n
unfolding IsServing
serving_with scene name peer n roster rising opened worker pace alone = (roster, rising, opened, worker, pace, alone)

-- the node that joins with the scene's tables
pub joining_with : (scene : Scene) (name peer : List ℕ) (n : Node) (roster : List Definition) → AreInRisingId scene.tables.items roster
    → AreOpened 1 roster [] n.tables
    → n.worker ≡ record { session = joining_session name peer versions.V21 roster; seat = fresh_seat 2; number = 1 }
    → n.pace ≡ record { leaves = true; stands = false; taken = 0 } → n.fallback ≡ Some (joining_session name peer versions.V20 roster) → IsJoining scene name peer n
unfolding IsJoining
joining_with scene name peer n roster rising opened worker pace next = (roster, rising, opened, worker, pace, next)

-- ---- a connection

taken_of : (n : Node) (e : Worker) (turns made : ℕ) (ending : Ending) (received : List ℕ) (sent : Sending) → HasMet n turns made ending received sent e → HasTakenTurns n turns received sent
unfolding HasTakenTurns
taken_of n e turns made ending received sent met = (made, e, ending, met)

-- the turns over it, with the reader and the writer before and after them
abbrev AreTaken : Node → ℕ → Option (List ℕ) → Option (List ℕ) → Writer → Writer → Type 0
AreTaken n turns from to a b =
    (received sent : List ℕ) × HasTakenTurns n turns received (sending sent a b) × Consumes from to received × Appends a.written.contents b.written.contents sent

pub turns_taken : (n : Node) (e : Worker) (turns most made : ℕ) (ending : Ending) (from to : Option (List ℕ)) (a b : Writer) → most ≡ turns - n.pace.taken
    → IsPlayed n.tables.shards n.pace n.worker most made ending e from to a b → made ≤ most → AreTaken n turns from to a b
turns_taken n e turns most made ending from to a b is_most (received, sent, plays, consumed, appended) within =
    let all : Sending = sending sent a b in (
      received,
      sent,
      taken_of n e turns made ending received all
          (subst (λ (m : ℕ). Plays n.tables.shards n.pace 0 n.worker m made ending received all e) is_most plays, subst (λ (m : ℕ). made ≤ m) is_most within),
      consumed,
      appended,
    )

-- ---- what is printed

-- the text of an audit with the seat of the last session, after `taken` turns in all
abbrev pub IsAudited : Node → Worker → ℕ → Report → Type 0
IsAudited n e taken report = (a : AuditState) × IsAuditOf n.tables (e.seat ∷ []) a × IsText taken a.unlocked.tables report.text.items

pub audited_told : (n : Node) (e : Worker) (made taken : ℕ) (report : Report) → taken ≡ n.pace.taken + made → IsAudited n e taken report → IsTold n made e report.text.items
audited_told n e made taken report is (a, audit, text) = (a, audit, subst (λ (k : ℕ). IsText k a.unlocked.tables report.text.items) is text)

printed_of : (n : Node) (e : Worker) (turns made : ℕ) (ending : Ending) (received : List ℕ) (sent : Sending) (report : Report)
    → Plays n.tables.shards n.pace 0 n.worker (turns - n.pace.taken) made ending received sent e → made ≤ turns - n.pace.taken → IsTold n made e report.text.items → IsPrinted n turns ending received sent report.text.items
unfolding IsPrinted
printed_of n e turns made ending received sent report plays within told = (made, e, (plays, within), told)

-- what the turns received and sent, and the report after them
abbrev IsReported : Node → ℕ → Option (List ℕ) → Option (List ℕ) → Writer → Writer → Report → Type 0
IsReported n turns from to a b report =
    (received sent : List ℕ) × IsPrinted n turns report.ending received (sending sent a b) report.text.items × Consumes from to received × Appends a.written.contents b.written.contents sent

reported_of : (n : Node) (e : Worker) (turns most made taken : ℕ) (ending : Ending) (report : Report) (from to : Option (List ℕ)) (a b : Writer)
    → most ≡ turns - n.pace.taken → taken ≡ n.pace.taken + made
    → IsPlayed n.tables.shards n.pace n.worker most made ending e from to a b → made ≤ most → IsAudited n e taken report → report.ending ≡ ending → IsReported n turns from to a b report
reported_of n e turns most made taken ending report from to a b is_most is_taken (received, sent, plays, consumed, appended) within audited same =
    let all : Sending = sending sent a b in (
      received,
      sent,
      subst (λ (x : Ending). IsPrinted n turns x received all report.text.items) (sym same)
          (printed_of n e turns made ending received all report
          (subst (λ (m : ℕ). Plays n.tables.shards n.pace 0 n.worker m made ending received all e) is_most plays)
          (subst (λ (m : ℕ). made ≤ m) is_most within)
          (audited_told n e made taken report is_taken audited)),
      consumed,
      appended,
    )

-- the same of a report that may be missing
pub report_printed : (n : Node) (e : Worker) (turns most made taken : ℕ) (ending : Ending) (r : Result Report Ending) (from to : Option (List ℕ)) (a b : Writer)
    → most ≡ turns - n.pace.taken → taken ≡ n.pace.taken + made
    → IsPlayed n.tables.shards n.pace n.worker most made ending e from to a b → made ≤ most
    → IfOk r (IsAudited n e taken) → IfOk r (λ report. report.ending ≡ ending)
    → IfOk r (IsReported n turns from to a b)
report_printed n e turns most made taken ending (Ok report) from to a b is_most is_taken played within audited same =
    reported_of n e turns most made taken ending report from to a b is_most is_taken played within audited same
report_printed n e turns most made taken ending (Err error) from to a b is_most is_taken played within audited same = tt
