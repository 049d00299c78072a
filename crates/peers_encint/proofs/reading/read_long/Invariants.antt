use Rattle.std.proofs.Common.{◌≡◌, ◌+◌, ◌*◌, ◌^◌, ◌<◌, ◌≤◌, take}
use Rattle.peers_encint.specs.Integers.{added_from, tail_length}
use Rattle.peers_encint.proofs.ReadingLoop.{counted}
use Rattle.peers_encint.proofs.reading.read_long.Given as goal

-- the bytes before the index are added, and none of them ends the number
abbrev pub invariant-loop-index : goal.invariant-loop-index
invariant-loop-index l =
    record {
      within : l.index ≤ 8;
      added : l.sum ≡ l.first + added_from 4 (take l.index l.later);
      below : l.sum < 256 + l.index * 2 ^ 68;
      counts : counted l.index l.later ≡ tail_length 8 l.later;
    }
