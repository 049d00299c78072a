use Rattle.std.proofs.Common.{ℕ, List, sym, ap, ◌∙◌, Vec, Global}
use Rattle.peers_msg.proofs.NamesInMap.{key_bytes}
use Rattle.peers_msg.proofs.DefinedInMaps.{id_in, put_and_back, own_defined, own_indexed, other_defined, other_indexed}
use Rattle.peers_msg.proofs.TablesByIdAndName.{indexed_same}
use Rattle.peers_msg.proofs.received.define.Goals as goal

pub returns-in-Err-clause-stays : goal.returns-in-Err-clause-stays
returns-in-Err-clause-stays c =
    put_and_back key_bytes c.args.tables.now.entries c.args.names.now.entries c.requires c.args.table c.id-id.result c.id-id.ensures.value
    c.insert.new.self.entries c.in_ok-before.ensures.updates.0
    c.put_back.new.tables.entries c.in_ok-before.before c.put_back.ensures.ordered c.in_ok-before.ensures.old c.put_back.ensures.back

pub returns-in-Err-clause-indexed : goal.returns-in-Err-clause-indexed
returns-in-Err-clause-indexed c =
    indexed_same c.args.tables.now.entries c.put_back.new.tables.entries (id_in key_bytes c.args.names.now.entries) _ c.requires
    (put_and_back key_bytes c.args.tables.now.entries c.args.names.now.entries c.requires c.args.table c.id-id.result c.id-id.ensures.value
    c.insert.new.self.entries c.in_ok-before.ensures.updates.0
    c.put_back.new.tables.entries c.in_ok-before.before c.put_back.ensures.ordered c.in_ok-before.ensures.old c.put_back.ensures.back)
    (λ name. ap (λ (ns : List (Vec ℕ Global × ℕ)). id_in key_bytes ns name) c.in-Err.ensures.err)

pub returns-then-is_id-clause-defined : goal.returns-then-is_id-clause-defined
returns-then-is_id-clause-defined c =
    own_defined key_bytes c.args.tables.now.entries c.args.names.now.entries c.requires c.args.table c.id-id.result c.id-id.ensures.value
    c.insert.new.self.entries c.in_ok-before.ensures.updates.0
    c.in-Ok.named c.in_ok-name.name.items (c.in_ok-name.ensures.items ∙ c.name.ensures) c.in-Ok.ensures.old
    c.insert-2.new.self.entries c.in-Ok.ensures.updates.1 c.in-Ok.ensures.updates.3
    (sym c.is_id.ensures ∙ c.if-is_id.true) c.insert.ensures.ordered

pub returns-then-is_id-clause-indexed : goal.returns-then-is_id-clause-indexed
returns-then-is_id-clause-indexed c =
    own_indexed key_bytes c.args.tables.now.entries c.args.names.now.entries c.requires c.args.table c.id-id.result c.id-id.ensures.value
    c.insert.new.self.entries c.in_ok-before.ensures.updates.0
    c.in-Ok.named c.in_ok-name.name.items (c.in_ok-name.ensures.items ∙ c.name.ensures) c.in-Ok.ensures.old
    c.insert-2.new.self.entries c.in-Ok.ensures.updates.1 c.in-Ok.ensures.updates.3
    (sym c.is_id.ensures ∙ c.if-is_id.true) c.insert.ensures.ordered

pub returns-clause-defined : goal.returns-clause-defined
returns-clause-defined c =
    other_defined key_bytes c.args.tables.now.entries c.args.names.now.entries c.requires c.args.table c.id-id.result c.id-id.ensures.value
    c.insert.new.self.entries c.in_ok-before.ensures.updates.0
    c.in-Ok.named c.in_ok-name.name.items (c.in_ok-name.ensures.items ∙ c.name.ensures) c.in-Ok.ensures.old
    c.insert-2.new.self.entries c.in-Ok.ensures.updates.1 c.in-Ok.ensures.updates.3
    (sym c.is_id.ensures ∙ c.if-is_id.false) c.in_ok-before.before c.in_ok-before.ensures.old
    c.remove_table.new.tables.entries c.remove_table.ensures.ordered c.remove_table.ensures.removed
    c.remove_name.new.names.entries c.remove_name.ensures

pub returns-clause-indexed : goal.returns-clause-indexed
returns-clause-indexed c =
    other_indexed key_bytes c.args.tables.now.entries c.args.names.now.entries c.requires c.args.table c.id-id.result c.id-id.ensures.value
    c.insert.new.self.entries c.in_ok-before.ensures.updates.0
    c.in-Ok.named c.in_ok-name.name.items (c.in_ok-name.ensures.items ∙ c.name.ensures) c.in-Ok.ensures.old
    c.insert-2.new.self.entries c.in-Ok.ensures.updates.1 c.in-Ok.ensures.updates.3
    (sym c.is_id.ensures ∙ c.if-is_id.false) c.in_ok-before.before c.in_ok-before.ensures.old
    c.remove_table.new.tables.entries c.remove_table.ensures.ordered c.remove_table.ensures.removed
    c.remove_name.new.names.entries c.remove_name.ensures
