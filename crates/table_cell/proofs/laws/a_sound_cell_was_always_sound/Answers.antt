use Rattle.table_cell.proofs.RunLaws.{batches_ascend, states_sound}
use Rattle.table_cell.proofs.laws.a_sound_cell_was_always_sound.Goals as goal

pub returns-clause-states : goal.returns-clause-states
returns-clause-states c = states_sound

pub returns-clause-batches : goal.returns-clause-batches
returns-clause-batches c = λ k index session limit now kind us. batches_ascend k index session limit now kind us
