use Rattle.interleave_core.proofs.CopiedSince.{new_when_broken, rows_since}
use Rattle.interleave_core.proofs.WorldNew.{connection_new}
use Rattle.interleave_core.proofs.since_laws.what_is_put_was_copied_since.Goals as goal

pub returns-clause-new : goal.returns-clause-new
returns-clause-new c = connection_new

pub returns-clause-broken : goal.returns-clause-broken
returns-clause-broken c = new_when_broken

pub returns-clause-since : goal.returns-clause-since
returns-clause-since c = λ begun w session made timely sound new runs. rows_since begun w session made timely sound new runs
