use Rattle.std.proofs.Common.{◌≡◌, drop}
use Rattle.admin_text.specs.Warnings.{admin_in}
use Rattle.admin_text.proofs.address_warnings.admin_in.Given as goal

abbrev pub invariant-loop-place : goal.invariant-loop-place
invariant-loop-place l = admin_in (drop l.place-index l.all) ≡ admin_in l.all
