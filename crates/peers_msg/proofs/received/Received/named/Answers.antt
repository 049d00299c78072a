use Rattle.std.proofs.Common.{◌≡◌, ℕ, List, Option, Some, sym, ap, ◌∙◌}
use Rattle.std.specs.Prelude.{option_and_then, option_copied}
use Rattle.std.specs.Map.{values_of}
use Rattle.table_types.specs.Tables.{Definition}
use Rattle.table_types.specs.Rosters.{table_at}
use Rattle.peers_msg.proofs.TablesByIdAndName.{found, named_at}
use Rattle.peers_msg.proofs.NamesInMap.{key_bytes}
use Rattle.peers_msg.proofs.DefinedInMaps.{id_in}
use Rattle.peers_msg.proofs.received.Received.named.Goals as goal

pub returns-in-Some-clause-named : goal.returns-in-Some-clause-named
returns-in-Some-clause-named c =
    let ds : List Definition = values_of c.self.inside.tables.entries in
    let index : List ℕ → Option ℕ = id_in key_bytes c.self.inside.names.entries in
    let id : Some c.in-Some.id.now ≡ index c.args.name.now = ap option_copied (sym c.in-Some.is) ∙ c.get.ensures.value in
    rw (← c.self.view_is) (c.get-in-Some.ensures.value
    ∙ found c.self.inside.tables.entries index c.self.invariant c.in-Some.id.now
    ∙ ap (option_and_then (table_at ds)) (id ∙ c.self.invariant.by_name c.args.name.now)
    ∙ named_at ds c.args.name.now c.self.invariant.distinct)
