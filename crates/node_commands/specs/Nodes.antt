-- Nodes that meet, and what they print (profile).
use Rattle.std.specs.Prelude.{◌≡◌, ◌≢◌, ◌≤◌, ◌+◌, ◌-◌, ℕ, Bool, true, false, List, [], ◌∷◌, length, take, Option, Some, None}
use Rattle.std.specs.Io.KnownBytes.{Appends}
use Rattle.table_types.specs.Tables.{Definition}
use Rattle.table_types.specs.declared.version.Version.{Version}
use Rattle.table_types.specs.declared.version.Version.TheVariants as versions
use Rattle.table_shards.specs.Receipts.{fresh_seat}
use Rattle.table_shards.specs.Audits.{AuditState}
use Rattle.peers_hello.specs.declared.hello.Hello.{Hello}
use Rattle.session_core.specs.Keeping.{KeptSession, plain}
use Rattle.session_core.specs.Sessions.{connecting}
use Rattle.peers_engine.specs.declared.worker.Worker.{Worker}
use Rattle.node_text.specs.declared.scenes.Scene.{Scene}
use Rattle.text_commands.specs.Learning.{AreInRisingId}
use Rattle.text_commands.specs.declared.endings.Ending.{Ending}
use Rattle.text_commands.specs.declared.endings.Ending.TheVariants as endings
use Rattle.node_commands.specs.declared.link.Link.{Link}
use Rattle.node_commands.specs.declared.node.Node.{Node}
use Rattle.node_commands.specs.declared.node.server.Server.{Server}
use Rattle.node_commands.specs.Auditing.{IsAuditOf}
use Rattle.node_commands.specs.Loading.{AreOpened}
use Rattle.node_commands.specs.Printing.{IsText}
use Rattle.node_commands.specs.Sharing.{IsServer, IsShared, waiting_session}
use Rattle.node_commands.specs.Turning.{Plays, Sending}

-- A node that waits for the peer to connect. It has the scene's tables in ascending order of their ids, loaded with the scene's
-- updates. Its only session has number 1 in them and the second seat, is up to date, and doesn't leave by itself.
unfoldable pub IsServing : Scene → List ℕ → List ℕ → Node → Type 0
IsServing scene name peer n =
    (roster : List Definition)
    × AreInRisingId scene.tables.items roster
    × AreOpened 1 roster scene.updates.items n.tables
    × (n.worker ≡ record { session = waiting_session name peer roster; seat = fresh_seat 2; number = 1 })
    × (n.pace ≡ record { leaves = false; stands = false; taken = 0 })
    × (n.fallback ≡ None)

-- the hello of the node `name` to the peer
abbrev pub hello_of : List ℕ → List ℕ → Version → Hello
hello_of name peer version = record { remote = peer; local = name; pid = 1; relative = 1; version = version }

-- the session of that node, which says this version: it is plain, and isn't up to date
unfoldable pub joining_session : List ℕ → List ℕ → Version → List Definition → KeptSession
joining_session name peer version roster = plain (connecting (hello_of name peer version) roster false)

-- A node that connects to the peer. It has the scene's tables in ascending order of their ids, without rows. Its session has number
-- 1 in them and the second seat, isn't up to date, and leaves once it has sent `resync confirmed`. It says version 2.1 in its hello;
-- the session that follows it if it falls back says 2.0, and is else the same.
unfoldable pub IsJoining : Scene → List ℕ → List ℕ → Node → Type 0
IsJoining scene name peer n =
    (roster : List Definition)
    × AreInRisingId scene.tables.items roster
    × AreOpened 1 roster [] n.tables
    × (n.worker ≡ record { session = joining_session name peer versions.V21 roster; seat = fresh_seat 2; number = 1 })
    × (n.pace ≡ record { leaves = true; stands = false; taken = 0 })
    × (n.fallback ≡ Some (joining_session name peer versions.V20 roster))

-- Over a connection, a node's session made `made` turns with the node's tables, received and sent the bytes given, and left the worker as `e`. It made at most
-- `turns` turns, together with those of an earlier session.
abbrev pub HasMet : Node → ℕ → ℕ → Ending → List ℕ → Sending → Worker → Type 0
HasMet n turns made ending received sent e = Plays n.tables.shards n.pace 0 n.worker (turns - n.pace.taken) made ending received sent e × (made ≤ turns - n.pace.taken)

-- What is printed then: how many turns the node's sessions made, and the rows of its tables, as an audit found them with the seat that
-- loaded them and the session's seat after its turns.
abbrev pub IsTold : Node → ℕ → Worker → List ℕ → Type 0
IsTold n made e text = (a : AuditState) × IsAuditOf n.tables (e.seat ∷ []) a × IsText (n.pace.taken + made) a.unlocked.tables text

-- what a node prints after its last or only connection
unfoldable pub IsPrinted : Node → ℕ → Ending → List ℕ → Sending → List ℕ → Type 0
IsPrinted n turns ending received sent text = (made : ℕ) × (e : Worker) × HasMet n turns made ending received sent e × IsTold n made e text

-- a node's session took such turns, received and sent the bytes given, and ended in one way or another
unfoldable pub HasTakenTurns : Node → ℕ → List ℕ → Sending → Type 0
HasTakenTurns n turns received sent = (made : ℕ) × (e : Worker) × (ending : Ending) × HasMet n turns made ending received sent e

-- What a node prints that serves the scene in one session; in several; and in as many as the link has.
abbrev pub IsServedAlone : Scene → Link → Ending → List ℕ → Type 0
IsServedAlone scene link ending text =
    (n : Node) × (received : List ℕ) × (sent : Sending) × IsServing scene link.name link.peer n × IsPrinted n link.turns ending received sent text

abbrev pub IsServedShared : Scene → Link → Ending → List ℕ → Type 0
IsServedShared scene link ending text = (n : Server) × IsServer scene link.name link.peer link.sessions n × IsShared n link.turns ending text

abbrev pub IsServed : Scene → Link → Ending → List ℕ → Type 0
IsServed scene link ending text = (link.sessions ≡ 1 → IsServedAlone scene link ending text) × (link.sessions ≢ 1 → IsServedShared scene link ending text)

-- some of the text is appended: none, all, or the beginning of it
abbrev pub AppendsSome : Option (List ℕ) → Option (List ℕ) → List ℕ → Type 0
AppendsSome old new text = (count : ℕ) × (count ≤ length text) × Appends old new (take count text)

-- the rows are printed after a session that ended so
abbrev pub HasRows : Ending → Type 0
HasRows endings.Done = Unit {0}
HasRows (endings.Stream fault) = Unit {0}
HasRows endings.Strange = Unit {0}
HasRows endings.Unasked = Unit {0}
HasRows ending = ⊥

abbrev pub has_rows : Ending → Bool
has_rows endings.Done = true
has_rows (endings.Stream fault) = true
has_rows endings.Strange = true
has_rows endings.Unasked = true
has_rows ending = false

-- and so they are after several sessions, or if one of these lost its connection
abbrev pub is_told : Ending → Bool
is_told endings.Device = true
is_told ending = has_rows ending
