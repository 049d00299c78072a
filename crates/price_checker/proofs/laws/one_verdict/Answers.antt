use Rattle.price_checker.proofs.OneReading.{carries_one}
use Rattle.price_checker.proofs.OneVerdict.{says_one}
use Rattle.price_checker.proofs.laws.one_verdict.Goals as goal

pub returns-clause-carries : goal.returns-clause-carries
returns-clause-carries c = carries_one

pub returns-clause-says : goal.returns-clause-says
returns-clause-says c = says_one
