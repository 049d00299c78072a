use Rattle.std.proofs.Common.{sym, subst, List, ℕ, arith}
use Rattle.peers_encint.specs.Integers.{SpellsInteger}
use Rattle.peers_encint.proofs.OneSpelling.{spelled}
use Rattle.peers_encint.proofs.spelling.put.Goals as goal

pub returns-clause-means : goal.returns-clause-means
returns-clause-means c = subst (λ (s : List ℕ). SpellsInteger s c.args.n) (sym c.write.ensures.spelled) (spelled c.args.n (omega arith))
