use Rattle.std.proofs.Common.{◌≡◌, Err, subst, sym}
use Rattle.std.specs.Prelude.{◌≢◌}
use Rattle.std.specs.Io.KnownBytes.{Appends}
use Rattle.admin_text.specs.declared.error.ConfigurationError.TheVariants as errors
use Rattle.text_commands.specs.Configuring.{IsInput}
use Rattle.text_commands.specs.declared.endings.Ending.TheVariants as endings
use Rattle.text_commands.proofs.ConfigurationEndings.{input_read, input_warned, refusal_said}
use Rattle.text_commands.proofs.configuring.configuration_of.Goals as goal

pub returns-in-Ok-checked_configuration-clause-read : goal.returns-in-Ok-checked_configuration-clause-read
returns-in-Ok-checked_configuration-clause-read g c =
    let input = g.R.Read.remaining c.args.input.now in (
      c.as_slice.result.now,
      subst (IsInput input) (sym c.as_slice.ensures.value) (input_read input _ c.in-Ok.text.items c.in-Ok.ensures.ok c.in-Ok.ensures.end),
      c.in-Ok-checked_configuration.ensures.said,
    )

pub returns-in-Ok-checked_configuration-clause-warned : goal.returns-in-Ok-checked_configuration-clause-warned
returns-in-Ok-checked_configuration-clause-warned g c =
    let input = g.R.Read.remaining c.args.input.now in
    input_warned input c.as_slice.result.now c.in-Ok-checked_configuration.checked.1
    (subst (IsInput input) (sym c.as_slice.ensures.value) (input_read input _ c.in-Ok.text.items c.in-Ok.ensures.ok c.in-Ok.ensures.end))
    c.in-Ok-checked_configuration.ensures.faultless c.in-Ok-checked_configuration.ensures.warned

pub returns-in-Ok-checked_configuration-clause-faultless :
    goal.returns-in-Ok-checked_configuration-clause-faultless
returns-in-Ok-checked_configuration-clause-faultless g c =
    let input = g.R.Read.remaining c.args.input.now in (
      c.as_slice.result.now,
      subst (IsInput input) (sym c.as_slice.ensures.value) (input_read input _ c.in-Ok.text.items c.in-Ok.ensures.ok c.in-Ok.ensures.end),
      c.in-Ok-checked_configuration.ensures.faultless,
    )

pub returns-in-Err-Refused-clause-said : goal.returns-in-Err-Refused-clause-said
returns-in-Err-Refused-clause-said g c =
    let input = g.R.Read.remaining c.args.input.now in
    let refusal = c.in-Err-Refused.refusal in
    let is : c.checked_configuration.result ≡ Err (errors.Refused refusal) = cc in
    refusal_said input _ _ c.said-in-Err-Refused.result c.as_slice.result.now refusal
    (subst (IsInput input) (sym c.as_slice.ensures.value) (input_read input _ c.in-Ok.text.items c.in-Ok.ensures.ok c.in-Ok.ensures.end))
    (c.checked_configuration.ensures.refused refusal is) (c.checked_configuration.ensures.faulty refusal is) c.said-in-Err-Refused.ensures.ends (subst (λ lines. c.said-in-Err-Refused.result ≢ endings.Device → Appends (g.E.Write.contents c.args.errors.now) (g.E.Write.contents c.said-in-Err-Refused.new.errors) lines)
    c.as_slice-in-Err-Refused.ensures.value c.said-in-Err-Refused.ensures.said)
