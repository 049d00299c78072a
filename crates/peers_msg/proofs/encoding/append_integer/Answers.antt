use Rattle.std.proofs.Common.{◌++◌, List, ℕ, sym, ap, ◌∙◌, arith}
use Rattle.peers_encint.proofs.OneSpelling.{spelling-low, length-low}
use Rattle.peers_msg.proofs.encoding.append_integer.Goals as goal

pub push_reserved-requires : goal.push_reserved-requires
push_reserved-requires c = omega (arith, c.requires.room, length-low c.args.n c.if-n-lt240.true)

pub returns-then-n-lt240-clause-appended : goal.returns-then-n-lt240-clause-appended
returns-then-n-lt240-clause-appended c = c.push_reserved.ensures.items ∙ ap (λ (l : List ℕ). c.args.out.now.items ++ l) (sym (spelling-low c.args.n c.if-n-lt240.true))

pub returns-then-n-lt240-clause-room : goal.returns-then-n-lt240-clause-room
returns-then-n-lt240-clause-room c = omega (arith, c.push_reserved.ensures.len, c.push_reserved.ensures.capacity, length-low c.args.n c.if-n-lt240.true)
