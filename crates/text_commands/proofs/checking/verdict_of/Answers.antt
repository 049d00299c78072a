use Rattle.std.proofs.Common.{◌∙◌}
use Rattle.text_commands.proofs.SceneLaws.{verdict_on_scene}
use Rattle.text_commands.proofs.checking.verdict_of.Goals as goal

pub returns-clause-verdict : goal.returns-clause-verdict
returns-clause-verdict c =
    let said = c.in_ok-setting.ensures in
    verdict_on_scene c.args.scene c.in_ok-setting.setting.known c.in_ok-setting.setting.batch c.as_slice-stream.result.now c.as_slice-prices.result.now c.in_ok-verify.field-0 said.known said.batch (c.as_slice-stream.ensures.value ∙ said.stream) (c.as_slice-prices.ensures.value ∙ said.prices) c.in_ok-verify.ensures.says c.in_ok-verify.ensures.exactly c.in_ok-verify.ensures.shortest
