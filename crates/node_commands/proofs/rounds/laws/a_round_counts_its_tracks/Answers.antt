use Rattle.node_commands.proofs.CountLaws.{rounds_count}
use Rattle.node_commands.proofs.rounds.laws.a_round_counts_its_tracks.Goals as goal

pub returns : goal.returns
returns c = rounds_count
