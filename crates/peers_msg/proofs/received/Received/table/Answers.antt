use Rattle.std.proofs.Common.{◌∙◌}
use Rattle.peers_msg.proofs.TablesByIdAndName.{found}
use Rattle.peers_msg.proofs.NamesInMap.{key_bytes}
use Rattle.peers_msg.proofs.DefinedInMaps.{id_in}
use Rattle.peers_msg.proofs.received.Received.table.Goals as goal

pub returns : goal.returns
returns c = rw (← c.self.view_is) (c.get.ensures.value ∙ found c.self.inside.tables.entries (id_in key_bytes c.self.inside.names.entries) c.self.invariant c.args.id)
