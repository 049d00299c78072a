use Rattle.std.proofs.Common.{◌≡◌, ◌-◌, ◌*◌, ◌^◌, ◌<◌, ◌≤◌, ◌++◌, length, take, drop}
use Rattle.peers_encint.specs.Integers.{spelling, tail_of}
use Rattle.peers_encint.proofs.spelling.write.Given as goal

-- the bytes written are the front of the spelling, and the bytes still to write spell the rest
abbrev pub invariant-loop-index : goal.invariant-loop-index
invariant-loop-index l =
    record {
      length : length l.out ≡ 10;
      within : l.index ≤ 9;
      written : take l.index l.out ++ tail_of (9 - l.index) l.rest ≡ spelling l.n;
      below : l.rest < 2 ^ (67 - 7 * l.index);
      kept : drop l.index l.out ≡ drop l.index l.fn.out;
    }
