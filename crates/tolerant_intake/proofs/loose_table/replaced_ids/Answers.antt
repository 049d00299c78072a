use Rattle.std.proofs.Common.{◌≡◌, ℕ, not, eqb, ◌||◌, Option, Some, None, sym, ap, ◌∙◌, arith, rules}
use Rattle.std.specs.Prelude.{option_map}
use Rattle.table_types.specs.Tables.{Definition}
use Rattle.table_types.specs.Rosters.{table_at}
use Rattle.peers_msg.specs.Received.{table_named}
use Rattle.peers_msg.specs.ReceivedIndex.{id_named, is_id}
use Rattle.tolerant_intake.specs.Tolerance.{outlasts}
use Rattle.tolerant_intake.proofs.LooseTablesById.{filter_same, outlasts_by}
use Rattle.tolerant_intake.proofs.loose_table.replaced_ids.Goals as goal

pub returns-in-Some-clause-both : goal.returns-in-Some-clause-both
returns-in-Some-clause-both c =
    λ ls.
    let new = c.args.new.now in
    let ds = c.args.received.now.tables in
    let own : c.id.result ≡ new.id = omega arith in
    let other : c.id-in-Some.result ≡ c.in-Some.named.now.id = omega arith in
    let found : table_named ds new.name ≡ Some c.in-Some.named.now = search rules in
    let named : id_named ds new.name ≡ Some c.id-in-Some.result = ap (λ (o : Option Definition). option_map (λ (x : Definition). x.id) o) found ∙ ap (λ (i : ℕ). Some i) (sym other) in
    filter_same (λ id. not (eqb id c.id.result || is_id (Some c.id-in-Some.result) id)) (λ id. outlasts new id (table_at ds id)) ls (outlasts_by new ds c.named.ensures.distinct c.id.result own (Some c.id-in-Some.result) named)

pub returns-in-None-clause-both : goal.returns-in-None-clause-both
returns-in-None-clause-both c =
    λ ls.
    let new = c.args.new.now in
    let ds = c.args.received.now.tables in
    let own : c.id-in-None.result ≡ new.id = omega arith in
    let none : table_named ds new.name ≡ None = search rules in
    let named : id_named ds new.name ≡ None = ap (λ (o : Option Definition). option_map (λ (x : Definition). x.id) o) none in
    filter_same (λ id. not (eqb id c.id-in-None.result || is_id None id)) (λ id. outlasts new id (table_at ds id)) ls (outlasts_by new ds c.named.ensures.distinct c.id-in-None.result own None named)
