use Rattle.std.proofs.Common.{◌≡◌, ℕ, ◌*◌, ◌<◌, length, slice_index}
use Rattle.retention_flow.proofs.adding.steep_heights.Given as goal

abbrev pub invariant-loop : goal.invariant-loop
invariant-loop l = record {
  height : l.height ≡ l.counter * 32768;
  long : length l.heights.items ≡ l.counter;
  steep : (node : ℕ) → node < l.counter → slice_index l.heights.items node ≡ node * 32768;
}
