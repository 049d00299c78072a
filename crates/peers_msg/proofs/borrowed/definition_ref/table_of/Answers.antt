use Rattle.std.proofs.Common.{◌≡◌, Bool, true, false, None, ◌∙◌, ap, refl}
use Rattle.table_types.specs.Tables.{Definition, fault_of}
use Rattle.peers_msg.proofs.DefinitionParts.{kept, no_fault}
use Rattle.peers_msg.proofs.borrowed.definition_ref.table_of.Goals as goal

pub unreachable-requires : goal.unreachable-requires
unreachable-requires c =
    let wanted : Definition = record { id = c.args.id; name = c.args.name.now; kind = c.args.kind; key_length = c.args.key_length; expire = c.args.expire; types = c.args.types.items } in
    let found = (c.in-Err.ensures.refused c.in-Err.error (λ e. let never : ◌≡◌ {A = Bool} false true = c.if-is_memory.ensures.1 e in absurd cc)).0 refl in
    let none : fault_of c.args.id c.in_ok-name.name.items c.args.kind c.args.key_length c.args.types.items ≡ None = ap (λ name. fault_of c.args.id name c.args.kind c.args.key_length c.args.types.items) c.in_ok-name.ensures.items ∙ no_fault wanted c.requires in
    absurd cc

pub returns-in-Ok : goal.returns-in-Ok
returns-in-Ok c =
    let wanted : Definition = record { id = c.args.id; name = c.args.name.now; kind = c.args.kind; key_length = c.args.key_length; expire = c.args.expire; types = c.args.types.items } in
    c.in-Ok.ensures.made ∙ rw (c.in_ok-name.ensures.items, kept wanted c.requires) refl
