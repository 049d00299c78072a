use Rattle.std.proofs.Common.{◌∙◌, ap}
use Rattle.std.specs.Prelude.{option_copied}
use Rattle.admin_text.proofs.TypeWords.{no_period, period_behind}
use Rattle.admin_text.proofs.type_words.period_part.Goals as goal

pub returns-in_err-period : goal.returns-in_err-period
returns-in_err-period c = ap option_copied c.from_residual.ensures ∙ no_period c.args.word.now c.in_err-period.ensures

pub returns : goal.returns
returns c =
    period_behind c.args.word.now c.in_ok-period.field-0-0.now c.in_ok-period.period.now c.in_ok-period.ensures.0 c.in_ok-period.ensures.1
