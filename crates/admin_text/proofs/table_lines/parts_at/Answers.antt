use Rattle.std.proofs.Common.{◌∙◌}
use Rattle.admin_text.proofs.OutcomeLaws.{err_same}
use Rattle.admin_text.proofs.TableParts.{expire_wrong, name_wrong, parts_good}
use Rattle.admin_text.proofs.table_lines.parts_at.Goals as goal

pub returns-in-Some : goal.returns-in-Some
returns-in-Some c =
    name_wrong c.args.id.now c.args.name.now c.args.keys.now c.args.length.now c.args.expire.now c.in_ok-id.id c.in-Some.fault c.in_ok-id.ensures
    c.in-Some.ensures

pub returns-in_err-expire : goal.returns-in_err-expire
returns-in_err-expire c =
    err_same c.from_residual-in_err-expire.result c.in_err-expire.field-0.0 c.from_residual-in_err-expire.ensures.1
    ∙ expire_wrong c.args.id.now c.args.name.now c.args.keys.now c.args.length.now c.args.expire.now c.in_ok-id.id (c.in_ok-kind.kind, c.in_ok-kind.key_length)
    c.in_err-expire.field-0.0 c.in_ok-id.ensures c.in_default.ensures c.in_ok-kind.ensures c.in_err-expire.ensures

pub returns : goal.returns
returns c =
    parts_good c.args.id.now c.args.name.now c.args.keys.now c.args.length.now c.args.expire.now c.in_ok-id.id (c.in_ok-kind.kind, c.in_ok-kind.key_length)
    c.in_ok-expire.expire c.in_ok-id.ensures c.in_default.ensures c.in_ok-kind.ensures c.in_ok-expire.ensures
