use Rattle.session_core.proofs.CountedOnce.{counted_once}
use Rattle.session_core.proofs.laws.what_is_counted_is_unique.Goals as goal

pub returns : goal.returns
returns c = counted_once
