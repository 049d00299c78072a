use Rattle.std.proofs.Common.{◌≡◌, ℕ, not, ◌||◌, eqb, List, Option, ap, ◌∙◌}
use Rattle.std.specs.Prelude.{filter}
use Rattle.std.specs.BTreeMap.{insert_entry}
use Rattle.std.specs.Ordering.{nat_cmp}
use Rattle.table_types.specs.Tables.{Definition}
use Rattle.peers_msg.specs.Received.{Received}
use Rattle.peers_msg.specs.ReceivedIndex.{is_id}
use Rattle.known_state.specs.State.{State}
use Rattle.tolerant_intake.specs.declared.loose_table.LooseTable.{LooseTable}
use Rattle.tolerant_intake.specs.declared.passed_over.PassedOver.{PassedOver}
use Rattle.tolerant_intake.specs.Counts.{counted}
use Rattle.tolerant_intake.specs.Tolerance.{Tolerance, outlasting}
use Rattle.tolerant_intake.proofs.ReplacedTables.{inserted_own}
use Rattle.tolerant_intake.proofs.tolerance.Tolerance.replace.Goals as goal
use Rattle.tolerant_intake.proofs.tolerance.Tolerance.replace.Goals.{in-Some-1, in-None-1}

pub returns-in-Ok-clause-replaced : goal.returns-in-Ok-clause-replaced
returns-in-Ok-clause-replaced c =
    let ls : List (ℕ × LooseTable) = c.self.inside.loose.entries in
    let ids : ℕ × Option ℕ = c.replaced_ids-ids.result in
    let h : List Definition = c.args.intake.now.state.received.tables in
    let tables : c.received.result.now ≡ c.args.intake.now.state.received = c.received.ensures ∙ ap (λ (s : State). s.received) c.state.ensures in
    let left : c.remove_other.new.tables.entries ≡ insert_entry nat_cmp (outlasting c.args.table h c.args.self.now.loose) c.args.table.id c.args.loose =
    c.remove_other.ensures
    ∙ ap (λ (xs : List (ℕ × LooseTable)). filter (λ l. eqb l.0 ids.0 || not (is_id ids.1 l.0)) xs) c.in_ok-before.ensures.entries
    ∙ inserted_own ids.0 ids.1 c.args.loose ls c.insert.ensures.was_ordered
    ∙ ap (λ (xs : List (ℕ × LooseTable)). insert_entry nat_cmp xs ids.0 c.args.loose) (c.replaced_ids-ids.ensures.both ls)
    ∙ ap (λ (r : Received). insert_entry nat_cmp (outlasting c.args.table r.tables ls) ids.0 c.args.loose) tables
    ∙ ap (λ (l : Tolerance). insert_entry nat_cmp (outlasting c.args.table h l.loose) ids.0 c.args.loose) c.self.view_is
    ∙ ap (λ (i : ℕ). insert_entry nat_cmp (outlasting c.args.table h c.args.self.now.loose) i c.args.loose) c.replaced_ids-ids.ensures.own in
    let count : c.counted-self-inside.result ≡ counted c.args.cause c.args.self.now.passed_over =
    c.counted-self-inside.ensures ∙ ap (λ (l : Tolerance). counted c.args.cause l.passed_over) c.self.view_is in
    let both : record { loose = c.remove_other.new.tables.entries; passed_over = c.counted-self-inside.result }
    ≡ record { loose = insert_entry nat_cmp (outlasting c.args.table h c.args.self.now.loose) c.args.table.id c.args.loose; passed_over = counted c.args.cause c.args.self.now.passed_over } =
    ap (λ (xs : List (ℕ × LooseTable)). record { loose = xs; passed_over = c.counted-self-inside.result }) left
    ∙ ap (λ (p : PassedOver). record { loose = insert_entry nat_cmp (outlasting c.args.table h c.args.self.now.loose) c.args.table.id c.args.loose; passed_over = p }) count in
    elim c.match-before.branch [ in-Some-1 w ↦ (c.in-Ok.ensures.passed, w.self-is ∙ both) | in-None-1 w ↦ (c.in-Ok.ensures.passed, w.self-is ∙ both) ]
