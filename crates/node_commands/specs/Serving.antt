-- A session that runs beside others (profile).
use Rattle.std.specs.Prelude.{◌≤◌, ℕ, true, false, List}
use Rattle.table_shards.specs.Rounds.{ShardsState}
use Rattle.peers_engine.specs.declared.worker.Worker.{Worker}
use Rattle.node_commands.specs.declared.node.sharing.Served.{Served}
use Rattle.node_commands.specs.Turning.{Plays, Sending}

-- the worker took its turns with these tables, at most as many as given, all at the moment at which the rows were loaded
abbrev pub HasServed : ShardsState → ℕ → Worker → Served → Type 0
HasServed shards turns w s =
    (received : List ℕ)
    × (sent : Sending)
    × Plays shards (record { leaves = false; stands = true; taken = 0 }) 0 w turns s.played.turns s.played.ending received sent s.worker
    × (s.played.turns ≤ turns)
