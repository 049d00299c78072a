use Rattle.admin_text.proofs.AddressTexts.{none_in_brackets}
use Rattle.admin_text.proofs.addresses.host_of.Goals as goal

pub returns-in-Err : goal.returns-in-Err
returns-in-Err c = none_in_brackets c.args.text.now c.in-Some.inner.now c.in-Some.ensures c.in-Err.ensures
