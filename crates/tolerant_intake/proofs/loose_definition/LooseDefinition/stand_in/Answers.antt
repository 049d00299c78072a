use Rattle.std.proofs.Common.{◌≡◌, Bool, true, false, None, ◌∙◌, refl}
use Rattle.table_types.specs.declared.key.KeyKind.TheVariants as kinds
use Rattle.table_types.specs.Tables.{fault_of}
use Rattle.tolerant_intake.proofs.StandInsAreDefinitions.{no_fault, in_order}
use Rattle.tolerant_intake.proofs.loose_definition.LooseDefinition.stand_in.Goals as goal

pub unreachable-requires : goal.unreachable-requires
unreachable-requires c =
    let found = (c.in-Err.ensures.refused c.in-Err.error (λ e. let never : ◌≡◌ {A = Bool} false true = c.if-is_memory.ensures.1 e in absurd cc)).0 refl in
    let none : fault_of c.args.self.id c.in_ok-name.name.items kinds.String c.other_length-length.result c.in_ok-types.types.items ≡ None =
    rw (c.in_ok-name.ensures.items, c.other_length-length.ensures, c.tables.ensures.tables, c.in_ok-types.ensures) (no_fault c.args.roster.now c.args.self.id c.args.self.name.now c.args.types.now c.requires.id c.requires.name) in
    absurd cc

pub returns-in-Ok : goal.returns-in-Ok
returns-in-Ok c =
    c.in-Ok.ensures.made ∙ rw (c.in_ok-name.ensures.items, c.other_length-length.ensures, c.tables.ensures.tables, c.in_ok-types.ensures, in_order c.args.types.now, c.requires.types) refl
