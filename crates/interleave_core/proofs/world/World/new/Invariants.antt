use Rattle.std.proofs.Common.{◌≡◌, map, take}
use Rattle.interleave_core.specs.Parts.{connections_of}
use Rattle.interleave_core.specs.Worlds.{roster_of, with_sessions}
use Rattle.interleave_core.proofs.Beginning.{new_connections}
use Rattle.interleave_core.proofs.world.World.new.Given as goal

abbrev pub invariant-loop-version : goal.invariant-loop-version
invariant-loop-version l = record {
  count : l.session ≡ l.version-index;
  cells : l.cells.items ≡ map (with_sessions l.version-index l.fn.versions.items) l.fn.cells.items;
  connections : connections_of l.connections.items ≡ new_connections (roster_of l.fn.cells.items) (take l.version-index l.fn.versions.items);
}
