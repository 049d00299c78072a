use Rattle.std.proofs.Common.{◌∙◌, subst, sym}
use Rattle.std.specs.Prelude.{IsUtf8}
use Rattle.node_text.proofs.TypeNames.{is_utf8_name}
use Rattle.node_text.proofs.tables.type_named.Goals as goal

pub returns-in-Ok-clause-exactly : goal.returns-in-Ok-clause-exactly
returns-in-Ok-clause-exactly c data_type same = c.from_name.ensures.exactly data_type (same ∙ sym c.in-Ok.ensures.cases.0)

pub returns-in-Err-clause-exactly : goal.returns-in-Err-clause-exactly
returns-in-Err-clause-exactly c data_type same = absurd (c.in-Err.ensures.cases.0 (subst IsUtf8 same (is_utf8_name data_type)))
