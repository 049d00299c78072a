-- A node that serves several sessions at once, and what it prints (profile).
use Rattle.std.specs.Prelude.{◌≡◌, ◌-◌, ℕ, Bool, true, false, List, [], ◌∷◌, if◌then◌else◌, map, sum_by}
use Rattle.table_types.specs.Tables.{Definition}
use Rattle.table_shards.specs.Receipts.{SeatState}
use Rattle.table_shards.specs.Rounds.{ShardsState, fresh_from}
use Rattle.table_shards.specs.Audits.{AuditState}
use Rattle.session_core.specs.Keeping.{KeptSession, plain}
use Rattle.session_core.specs.Sessions.{accepting}
use Rattle.peers_engine.specs.declared.worker.Worker.{Worker}
use Rattle.node_text.specs.declared.scenes.Scene.{Scene}
use Rattle.text_commands.specs.Learning.{AreInRisingId}
use Rattle.text_commands.specs.declared.endings.Ending.{Ending}
use Rattle.text_commands.specs.declared.endings.Ending.TheVariants as endings
use Rattle.node_commands.specs.declared.node.loading.NodeTables.{NodeTables}
use Rattle.node_commands.specs.declared.node.server.Server.{Server}
use Rattle.node_commands.specs.declared.node.sharing.Served.{Served}
use Rattle.node_commands.specs.declared.node.sharing.TakesTurns.{TakesTurns}
use Rattle.node_commands.specs.Auditing.{IsAuditOf}
use Rattle.node_commands.specs.Loading.{AreOpened}
use Rattle.node_commands.specs.Printing.{IsSharedText}
use Rattle.node_commands.specs.Serving.{HasServed}

-- the session of a node that waits for the peer to connect: it is plain, and up to date
unfoldable pub waiting_session : List ℕ → List ℕ → List Definition → KeptSession
waiting_session name peer roster = plain (accepting name (peer ∷ []) roster true)

-- the worker of a session at a seat; its number is the one before the seat's
abbrev pub worker_at : KeptSession → SeatState → Worker
worker_at s seat = record { session = s; seat = seat; number = seat.number - 1 }

-- A node that waits for the peer to connect, as often as it has sessions. It has the scene's tables in ascending order of their ids,
-- loaded with the scene's updates. Its sessions have the numbers from 1 in them and the seats from 2, in order, and are up to date.
unfoldable pub IsServer : Scene → List ℕ → List ℕ → ℕ → Server → Type 0
IsServer scene name peer sessions n =
    (roster : List Definition)
    × AreInRisingId scene.tables.items roster
    × AreOpened sessions roster scene.updates.items n.tables
    × (n.workers.items ≡ map (worker_at (waiting_session name peer roster)) (fresh_from 2 sessions))

-- ---- sessions that run side by side

-- each worker took its turns with these tables
abbrev pub AllServed : ShardsState → ℕ → List Worker → List Served → Type 0
AllServed shards turns [] [] = Unit {0}
AllServed shards turns (w ∷ ws) (s ∷ ss) = HasServed shards turns w s × AllServed shards turns ws ss
AllServed shards turns ws ss = ⊥

-- for each worker there is a thread that promises its turns with these tables
abbrev pub AreStarted : {T : Type 0} → (T → TakesTurns) → ShardsState → ℕ → List Worker → List T → Type 0
AreStarted promise shards turns [] [] = Unit {0}
AreStarted promise shards turns (w ∷ ws) (t ∷ ts) = ((promise t).worker.value ≡ w) × ((promise t).shards.value ≡ shards) × ((promise t).turns ≡ turns) × AreStarted promise shards turns ws ts
AreStarted promise shards turns ws ts = ⊥

-- each thread kept its promise
abbrev pub AreKept : {T : Type 0} → (T → TakesTurns) → List T → List Served → Type 0
AreKept promise [] [] = Unit {0}
AreKept promise (t ∷ ts) (s ∷ ss) = HasServed (promise t).shards.value (promise t).turns (promise t).worker.value s × AreKept promise ts ss
AreKept promise ts ss = ⊥

-- ---- what is printed

abbrev pub is_done : Ending → Bool
is_done endings.Done = true
is_done ending = false

-- of several endings, the first that isn't a good one
abbrev pub ending_of : List Ending → Ending
ending_of [] = endings.Done
ending_of (e ∷ es) = if is_done e then ending_of es else e

-- What is printed of sessions that are over: how many turns they made together, and the rows of the node's tables, as an audit found
-- them with the seat that loaded them and the sessions' seats after their turns. The first session that didn't end well decides how
-- the node ends.
abbrev pub IsTotal : NodeTables → List Served → Ending → List ℕ → Type 0
IsTotal t ss ending text =
    (a : AuditState)
    × IsAuditOf t (map (λ s. s.worker.seat) ss) a
    × (ending ≡ ending_of (map (λ s. s.played.ending) ss))
    × IsSharedText (sum_by (λ s. s.played.turns) ss) a.unlocked.tables text

-- what a node prints that serves several sessions of at most `turns` turns each
unfoldable pub IsShared : Server → ℕ → Ending → List ℕ → Type 0
IsShared n turns ending text = (ss : List Served) × AllServed n.tables.shards turns n.workers.items ss × IsTotal n.tables ss ending text
