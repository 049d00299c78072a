use Rattle.std.proofs.Common.{◌≡◌, drop}
use Rattle.peers_hello.specs.Hellos.{is_among}
use Rattle.peers_hello.proofs.hello.peer_called.Given as goal

abbrev pub invariant-loop-peer : goal.invariant-loop-peer
invariant-loop-peer l = is_among l.name (drop l.peer-index l.peers) ≡ is_among l.name l.peers
