use Rattle.std.proofs.Common.{length, ◌-◌, ◌≤◌, take, ◌+◌}
use Rattle.peers_devices.specs.Writing.{AreWritten, written}
use Rattle.peers_devices.proofs.WritingLaws.{HasRetried}
use Rattle.peers_devices.proofs.output.write_all_counted.Given as goal

abbrev pub invariant-loop-sent : goal.invariant-loop-sent
invariant-loop-sent g l = record {
  so_far : AreWritten (written (g.W.Write.contents l.fn.output) l.fn.writes) (written (g.W.Write.contents l.output) l.writes) (take l.sent l.bytes);
  within : l.sent ≤ length l.bytes;
  tries : l.retries ≤ 1000000;
  retried : HasRetried l.fn.writes.retried l.retries l.writes.retried;
}

abbrev pub decreases-loop-sent : goal.decreases-loop-sent
decreases-loop-sent g l = (length l.bytes - l.sent) + (1000000 - l.retries)
