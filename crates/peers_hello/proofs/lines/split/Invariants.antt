use Rattle.std.proofs.Common.{◌≡◌, ◌++◌, take, drop}
use Rattle.peers_hello.specs.Lines.{until, past}
use Rattle.peers_hello.proofs.lines.split.Given as goal

abbrev pub invariant-loop-index : goal.invariant-loop-index
invariant-loop-index l = record {
  until : take l.index l.bytes ++ until l.stop (drop l.index l.bytes) ≡ until l.stop l.bytes;
  past : past l.stop (drop l.index l.bytes) ≡ past l.stop l.bytes;
}
