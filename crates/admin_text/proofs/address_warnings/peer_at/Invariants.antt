use Rattle.std.proofs.Common.{◌≡◌, drop}
use Rattle.admin_text.specs.Warnings.{peer_at}
use Rattle.admin_text.proofs.address_warnings.peer_at.Given as goal

abbrev pub invariant-loop-place : goal.invariant-loop-place
invariant-loop-place l = peer_at l.number l.address (drop l.place-index l.all) ≡ peer_at l.number l.address l.all
