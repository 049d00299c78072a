use Rattle.std.proofs.Common.{◌≡◌, ◌+◌, ◌-◌, ◌≤◌, length}
use Rattle.peers_encint.specs.Integers.{spelling, tail_of}
use Rattle.peers_encint.proofs.spelling.len.Given as goal

-- the bytes still to count spell the rest
abbrev pub invariant-loop-used : goal.invariant-loop-used
invariant-loop-used l = (l.used + length (tail_of (10 - l.used) l.rest) ≡ 1 + length (spelling l.n)) × (l.used ≤ 10)
