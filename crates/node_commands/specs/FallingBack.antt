-- A node that may fall back: what follows its first connection (profile).
use Rattle.std.specs.Prelude.{◌≡◌, ◌+◌, ℕ, nat_lt, ◌&&◌, List, Option, Some, None, if◌then◌else◌}
use Rattle.session_core.specs.Keeping.{KeptSession}
use Rattle.peers_engine.specs.declared.worker.Worker.{Worker}
use Rattle.node_text.specs.declared.scenes.Scene.{Scene}
use Rattle.text_commands.specs.declared.endings.Ending.{Ending}
use Rattle.node_commands.specs.declared.link.Link.{Link}
use Rattle.node_commands.specs.declared.node.Node.{Node}
use Rattle.node_commands.specs.declared.node.falling_back.Meeting.{Meeting}
use Rattle.node_commands.specs.declared.node.falling_back.Meeting.TheVariants as meetings
use Rattle.node_commands.specs.Nodes.{HasMet, IsJoining, IsPrinted, IsTold}
use Rattle.node_commands.specs.Turning.{Sending}

-- the session of another connection, if the one before fell back, and turns are left
abbrev pub next_session : Node → ℕ → ℕ → Worker → Option KeptSession
next_session n turns made e = if e.session.session.fell_back && nat_lt (n.pace.taken + made) turns then n.fallback else None

-- The node before that connection. The session has the same number and the same seat; nothing in the tables is closed or opened; and
-- the turns are counted on.
abbrev pub fallen_back : Node → KeptSession → ℕ → Worker → Node
fallen_back n session made e = record {
  tables = n.tables;
  worker = record { session = session; seat = e.seat; number = e.number };
  pace = record { leaves = n.pace.leaves; stands = n.pace.stands; taken = n.pace.taken + made };
  fallback = None;
}

-- what follows a connection after which the worker is `e`: another one, or what the node prints
abbrev pub IsFollowed : Option KeptSession → Node → ℕ → Worker → Ending → Meeting → Type 0
IsFollowed None n made e ending (meetings.Over report) = (report.ending ≡ ending) × IsTold n made e report.text.items
IsFollowed (Some session) n made e ending (meetings.FellBack again) = again ≡ fallen_back n session made e
IsFollowed next n made e ending meeting = ⊥

-- a connection that received and sent the bytes given, and what follows it
unfoldable pub IsMeeting : Node → ℕ → Meeting → List ℕ → Sending → Type 0
IsMeeting n turns meeting received sent =
    (made : ℕ)
    × (e : Worker)
    × (ending : Ending)
    × HasMet n turns made ending received sent e
    × IsFollowed (next_session n turns made e) n made e ending meeting

-- how a node ends, and what it prints, after a first connection that ended so, and after the one that follows, if one does
abbrev pub EndsSo : Option KeptSession → Node → ℕ → ℕ → Worker → Ending → Ending → List ℕ → Type 0
EndsSo None n turns made e first ending text = (ending ≡ first) × IsTold n made e text
EndsSo (Some session) n turns made e first ending text = (received : List ℕ) × (sent : Sending) × IsPrinted (fallen_back n session made e) turns ending received sent text

-- What a node prints that may fall back: after its first connection; or after the second, if its session fell back in the first, and
-- turns are left.
abbrev pub IsPrintedAtLast : Node → ℕ → Ending → List ℕ → Type 0
IsPrintedAtLast n turns ending text =
    (made : ℕ)
    × (e : Worker)
    × (first : Ending)
    × (received : List ℕ)
    × (sent : Sending)
    × HasMet n turns made first received sent e
    × EndsSo (next_session n turns made e) n turns made e first ending text

-- what a node prints that joins with the scene
abbrev pub IsJoined : Scene → Link → Ending → List ℕ → Type 0
IsJoined scene link ending text =
    (n : Node) × IsJoining scene link.name link.peer n × IsPrintedAtLast n link.turns ending text
