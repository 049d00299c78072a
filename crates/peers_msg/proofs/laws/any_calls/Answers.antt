use Rattle.peers_msg.proofs.CallsReadInPieces.{read_in_pieces, called_spelled}
use Rattle.peers_msg.proofs.laws.any_calls.Goals as goal

pub returns-clause-pieces : goal.returns-clause-pieces
returns-clause-pieces c = λ d e calls. read_in_pieces calls d e

pub returns-clause-spelled : goal.returns-clause-spelled
returns-clause-spelled c = λ d e calls. called_spelled calls d e
