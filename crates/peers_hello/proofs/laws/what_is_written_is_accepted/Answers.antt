use Rattle.peers_hello.proofs.HelloLaws.{read_as_written}
use Rattle.peers_hello.proofs.laws.what_is_written_is_accepted.Goals as goal

pub returns : goal.returns
returns c = read_as_written
