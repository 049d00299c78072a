use Rattle.known_state.proofs.SavingsAreBounded.{reads_save}
use Rattle.known_state.proofs.plan_laws.reads_save_by_links.Goals as goal

pub returns : goal.returns
returns c = reads_save
