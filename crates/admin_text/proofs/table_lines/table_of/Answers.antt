use Rattle.std.proofs.Common.{◌≡◌, ◌∙◌, Bool, None, ap, false, refl, true}
use Rattle.table_types.specs.Tables.{fault_of}
use Rattle.admin_text.proofs.table_lines.table_of.Goals as goal

pub unreachable-requires : goal.unreachable-requires
unreachable-requires c =
    let parts = c.args.parts.now in
    let found = (c.in-Err.ensures.refused c.in-Err.error (λ e. let never : ◌≡◌ {A = Bool} false true = c.if-is_memory.ensures.1 e in absurd cc)).0 refl in
    let types : c.into_vec.result.items ≡ c.args.types = c.into_vec.ensures in
    let none : fault_of parts.id c.in_ok-name.name.items parts.kind parts.key_length c.into_vec.result.items ≡ None
    = ap (λ ts. fault_of parts.id c.in_ok-name.name.items parts.kind parts.key_length ts) types
    ∙ (ap (λ name. fault_of parts.id name parts.kind parts.key_length c.args.types) c.in_ok-name.ensures.items ∙ c.requires) in
    absurd cc
