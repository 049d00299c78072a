use Rattle.std.proofs.Common.{◌≡◌, Err, subst, sym}
use Rattle.std.specs.Prelude.{◌≢◌}
use Rattle.std.specs.Io.KnownBytes.{Appends}
use Rattle.admin_text.specs.declared.error.ConfigurationError.TheVariants as errors
use Rattle.text_commands.specs.Configuring.{IsInput}
use Rattle.text_commands.specs.declared.endings.Ending.TheVariants as endings
use Rattle.text_commands.proofs.ConfigurationEndings.{configuration_ends, input_read, refusal_said, warnings_said}
use Rattle.text_commands.proofs.configuring.check_configuration.Goals as goal

pub returns-in-Ok-checked_configuration-clause-ends : goal.returns-in-Ok-checked_configuration-clause-ends
returns-in-Ok-checked_configuration-clause-ends g c =
    configuration_ends c.said-in-Ok-checked_configuration.result c.in-Ok-checked_configuration.configuration
    c.in-Ok-checked_configuration.ensures.configuration c.said-in-Ok-checked_configuration.ensures.ends

pub returns-in-Ok-checked_configuration-clause-said : goal.returns-in-Ok-checked_configuration-clause-said
returns-in-Ok-checked_configuration-clause-said g c =
    let input = g.R.Read.remaining c.args.input.now in
    warnings_said input _ _ c.said-in-Ok-checked_configuration.result c.as_slice.result.now c.in-Ok-checked_configuration.warnings
    (subst (IsInput input) (sym c.as_slice.ensures.value) (input_read input _ c.in-Ok.text.items c.in-Ok.ensures.ok c.in-Ok.ensures.end))
    c.in-Ok-checked_configuration.ensures.faultless c.in-Ok-checked_configuration.ensures.warned
    c.said-in-Ok-checked_configuration.ensures.ends (subst (λ lines. c.said-in-Ok-checked_configuration.result ≢ endings.Device → Appends (g.E.Write.contents c.args.errors.now) (g.E.Write.contents c.said-in-Ok-checked_configuration.new.errors) lines)
    c.as_slice-in-Ok-checked_configuration.ensures.value c.said-in-Ok-checked_configuration.ensures.said)

pub returns-in-Err-Refused-clause-said : goal.returns-in-Err-Refused-clause-said
returns-in-Err-Refused-clause-said g c =
    let input = g.R.Read.remaining c.args.input.now in
    let refusal = c.in-Err-Refused.refusal in
    let is : c.checked_configuration.result ≡ Err (errors.Refused refusal) = cc in
    refusal_said input _ _ c.said-in-Err-Refused.result c.as_slice.result.now refusal
    (subst (IsInput input) (sym c.as_slice.ensures.value) (input_read input _ c.in-Ok.text.items c.in-Ok.ensures.ok c.in-Ok.ensures.end))
    (c.checked_configuration.ensures.refused refusal is) (c.checked_configuration.ensures.faulty refusal is)
    c.said-in-Err-Refused.ensures.ends (subst (λ lines. c.said-in-Err-Refused.result ≢ endings.Device → Appends (g.E.Write.contents c.args.errors.now) (g.E.Write.contents c.said-in-Err-Refused.new.errors) lines)
    c.as_slice-in-Err-Refused.ensures.value c.said-in-Err-Refused.ensures.said)
