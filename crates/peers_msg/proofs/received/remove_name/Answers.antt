use Rattle.std.proofs.Common.{ℕ, List, Option, None, cond, sym, ap, ◌∙◌}
use Rattle.table_types.specs.Tables.{Definition}
use Rattle.table_types.specs.Rosters.{is_same_name}
use Rattle.peers_msg.specs.ReceivedIndex.{has_that_name}
use Rattle.peers_msg.proofs.NamesInMap.{after_change, key_bytes}
use Rattle.peers_msg.proofs.DefinedInMaps.{id_in}
use Rattle.peers_msg.proofs.received.remove_name.Goals as goal

pub returns-in-Some : goal.returns-in-Some
returns-in-Some c = λ name.
    after_change key_bytes c.name.result.now None c.args.names.now.entries c.remove.new.self.entries c.remove.ensures.updates.1 c.remove.ensures.updates.3 name
    ∙ ap (λ (n : List ℕ). cond (is_same_name n name) None (id_in key_bytes c.args.names.now.entries name)) c.name.ensures
    ∙ ap (λ (o : Option Definition). cond (has_that_name o name) None (id_in key_bytes c.args.names.now.entries name)) (sym c.in-Some.is)
