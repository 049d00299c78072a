use Rattle.price_checker.proofs.OneVerdict.{not_legal, not_carried}
use Rattle.price_checker.proofs.laws.said_of_streams.Goals as goal

pub returns-clause-legal : goal.returns-clause-legal
returns-clause-legal c = not_legal

pub returns-clause-carried : goal.returns-clause-carried
returns-clause-carried c = not_carried
