use Rattle.std.proofs.Common.{◌≡◌, drop}
use Rattle.admin_text.specs.Warnings.{listen_in}
use Rattle.admin_text.proofs.address_warnings.listen_in.Given as goal

abbrev pub invariant-loop-place : goal.invariant-loop-place
invariant-loop-place l = listen_in (drop l.place-index l.all) ≡ listen_in l.all
