use Rattle.std.proofs.Common.{◌≡◌, drop}
use Rattle.admin_text.specs.Named.{first_named}
use Rattle.admin_text.proofs.named.first_named.Given as goal

abbrev pub invariant-loop-one : goal.invariant-loop-one
invariant-loop-one g l = first_named g.T.Named.called l.name (drop l.one-index l.all) ≡ first_named g.T.Named.called l.name l.all
