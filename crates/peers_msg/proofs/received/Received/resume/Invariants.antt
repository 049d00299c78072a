use Rattle.std.proofs.Common.{◌≡◌, [], take}
use Rattle.std.specs.Prelude.{fold}
use Rattle.peers_msg.specs.Received.{with_own}
use Rattle.peers_msg.proofs.received.Received.resume.Given as goal

abbrev pub invariant-loop-id : goal.invariant-loop-id
invariant-loop-id l = l.received.tables ≡ fold (with_own l.roster) [] (take l.id-index l.defined)
