use Rattle.std.proofs.Common.{◌≡◌, true, Some, sym, ◌∙◌, subst, rules}
use Rattle.peers_msg.proofs.DataLimits.{row_small}
use Rattle.table_types.specs.Tables.{Definition}
use Rattle.table_types.specs.Updates.{fits}
use Rattle.table_types.specs.Rosters.{table_at}
use Rattle.known_state.proofs.BatchIsOfRoster.{row_of_fits}
use Rattle.known_state.proofs.costs.add_update.Goals as goal

pub nameless_size-requires : goal.nameless_size-requires
nameless_size-requires c =
    let u = c.args.update.now in
    let d = c.in-Some.table.now in
    let listed : table_at c.args.roster.now u.table ≡ Some d = search rules in
    let same : Some c.requires.0 ≡ Some d = sym c.requires.1 ∙ listed in
    let is : c.requires.0 ≡ d = cc in
    rw c.as_slice-values.ensures (row_small d u.key u.values c.id-id.ensures.defined (row_of_fits d u (subst (λ (t : Definition). fits t u ≡ true) is c.requires.2)))

pub named_sizes-read-requires : goal.named_sizes-read-requires
named_sizes-read-requires c =
    let u = c.args.update.now in
    let d = c.in-Some.table.now in
    let listed : table_at c.args.roster.now u.table ≡ Some d = search rules in
    let same : Some c.requires.0 ≡ Some d = sym c.requires.1 ∙ listed in
    let is : c.requires.0 ≡ d = cc in
    rw c.as_slice-values.ensures (row_small d u.key u.values c.id-id.ensures.defined (row_of_fits d u (subst (λ (t : Definition). fits t u ≡ true) is c.requires.2)))
