use Rattle.std.proofs.Common.{◌≡◌, ◌<◌}
use Rattle.std.specs.Io.KnownBytes.{Consumes}
use Rattle.std.specs.Prelude.{vec_len}
use Rattle.peers_devices.proofs.input.read_to_end.Given as goal

abbrev pub invariant-loop : goal.invariant-loop
invariant-loop g l = record {
  so_far : Consumes (g.R.Read.remaining l.fn.input) (g.R.Read.remaining l.input) l.bytes.items;
  count : l.earlier ≡ g.R.Faults.failed l.fn.input;
  room : 0 < vec_len l.chunk;
}
