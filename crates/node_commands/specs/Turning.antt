-- The turns of a node's session (profile).
use Rattle.std.specs.Prelude.{◌≡◌, ◌↔◌, ◌+◌, ℕ, zero, suc, Bool, ◌&&◌, List, [], ◌++◌, Option, Some, None, Result, Ok, Err, if◌then◌else◌}
use Rattle.table_types.specs.Rows.{later_by}
use Rattle.learner.specs.declared.fault.Fault.{Fault}
use Rattle.session_core.specs.declared.error.SessionError.TheVariants as refusals
use Rattle.session_core.specs.declared.event.Event.{Event}
use Rattle.session_core.specs.declared.state.State.TheVariants as states
use Rattle.session_core.specs.Sessions.{SessionState, state_of}
use Rattle.table_shards.specs.Rounds.{ShardsState}
use Rattle.peers_devices.specs.Writing.{AreWritten, Balks, WriteCounts, Written, written}
use Rattle.peers_engine.specs.declared.errors.EngineError.{EngineError}
use Rattle.peers_engine.specs.declared.errors.EngineError.TheVariants as errors
use Rattle.peers_engine.specs.declared.outcome.Outcome.{Outcome}
use Rattle.peers_engine.specs.declared.outcome.Outcome.TheVariants as outcomes
use Rattle.peers_engine.specs.declared.worker.Worker.{Worker}
use Rattle.peers_engine.specs.Acting.{Worker as WorkerAt, worker}
use Rattle.peers_engine.specs.Reading.{IsRead}
use Rattle.peers_engine.specs.Turns.{StopsTurn, TakesTurn}
use Rattle.text_commands.specs.declared.endings.Ending.{Ending}
use Rattle.text_commands.specs.declared.endings.Ending.TheVariants as endings
use Rattle.node_commands.specs.declared.node.turns.Pace.{Pace}
use Rattle.node_commands.specs.Loading.{loaded_at}

-- how a session ends that closed the connection: with the fault of the other node's messages if there was one
abbrev pub closed_by : Option Fault → Ending
closed_by None = endings.Done
closed_by (Some fault) = endings.Stream fault

-- how it ends after a turn fails
abbrev pub broken_by : Option Fault → EngineError → Ending
broken_by fault (errors.Session refusals.Ended) = closed_by fault
broken_by fault (errors.Session refusals.Unasked) = endings.Unasked
broken_by fault (errors.Session refusals.Memory) = endings.Memory
broken_by fault errors.Read = endings.Device
broken_by fault (errors.Write sent) = endings.Device
broken_by fault errors.Memory = endings.Memory
broken_by fault errors.Strange = endings.Strange

-- how it ends after a turn, if it does: one that leaves ends once it has sent `resync confirmed`
abbrev pub ending_after : Bool → SessionState → Result Outcome EngineError → Option Ending
ending_after leaves s (Ok outcomes.Closed) = Some (closed_by s.fault)
ending_after leaves s (Ok outcome) = if leaves && s.confirmed then Some endings.Done else None
ending_after leaves s (Err error) = Some (broken_by s.fault error)

-- The moment of the turn that follows `before` others, and those of an earlier session: each comes a millisecond after the one
-- before, and the first of all a millisecond after the rows were loaded; or all come at that very moment.
abbrev pub moment_of : Pace → ℕ → ℕ
moment_of pace before = if pace.stands then loaded_at else later_by (pace.taken + (before + 1)) loaded_at

-- the worker in a turn at a moment, and in the turn that follows `before` others
abbrev pub turn_at : ℕ → Worker → WorkerAt
turn_at now w = worker w.session w.seat w.number now

abbrev pub turn_after : Pace → ℕ → Worker → WorkerAt
turn_after pace before w = turn_at (moment_of pace before) w

-- A writer: the bytes that it holds, if they are known, and what its writes came to; and how many of its calls failed, by its own count.
pub record Writer : Type 0 where
  pub written : Written
  pub failed : ℕ

-- what turns sent, and the writer before and after them
pub record Sending : Type 0 where
  pub bytes : List ℕ
  pub from : Writer
  pub to : Writer

abbrev pub writer : Option (List ℕ) → WriteCounts → ℕ → Writer
writer contents counts failed = record { written = written contents counts; failed = failed }

abbrev pub sending : List ℕ → Writer → Writer → Sending
sending bytes from to = record { bytes = bytes; from = from; to = to }

-- nothing was sent
abbrev pub nothing_sent : Writer → Sending
nothing_sent writer = record { bytes = []; from = writer; to = writer }

-- first the one was sent, and then the other
abbrev pub both_sent : Sending → Sending → Sending
both_sent first later = record { bytes = first.bytes ++ later.bytes; from = first.from; to = later.to }

-- the writes of a turn took exactly these bytes, all together
abbrev pub AreSent : Sending → Type 0
AreSent sent = AreWritten sent.from.written sent.to.written sent.bytes

-- why the turn gave the writer up, if it ended so
abbrev pub IsGivenUp : EngineError → Sending → Type 0
IsGivenUp (errors.Write count) sent = Balks sent.from.failed sent.to.failed sent.from.written.counts sent.to.written.counts
IsGivenUp error sent = Unit {0}

-- A turn with these tables takes the worker to another state, returns its result, and received and sent the bytes given. After an error
-- the session is over.
abbrev pub Takes : ShardsState → WorkerAt → Result Outcome EngineError → List ℕ → Sending → WorkerAt → Type 0
Takes shards w (Ok gave) received sent e =
    ((event : Option Event) × IsRead (received ≡ []) event received × TakesTurn (received ≡ []) w event sent.bytes e)
    × ((gave ≡ outcomes.Closed) ↔ (state_of e.session.session.phase ≡ states.Ended))
    × AreSent sent
Takes shards w (Err error) received sent e =
    ((event : Option Event) × IsRead (received ≡ []) event received × StopsTurn shards (received ≡ []) w event error sent.bytes e.session e.seat)
    × (state_of e.session.session.phase ≡ states.Ended)
    × AreSent sent
    × IsGivenUp error sent

-- nothing more is received or sent, and the worker stays as it is
abbrev pub Rests : Worker → List ℕ → Sending → Worker → Type 0
Rests w received sent e = (received ≡ []) × (sent ≡ nothing_sent sent.from) × (e ≡ w)

-- the session ends after this turn, or goes on
abbrev pub GoesOn : Option Ending → ℕ → Ending → Type 0 → Type 0 → Type 0
GoesOn None made ending rests on = on
GoesOn (Some by) made ending rests on = (made ≡ 1) × (ending ≡ by) × rests

-- After `before` turns, the worker makes `made` more with these tables, of at most as many as given. It makes them one after another, up to the one
-- after which its session ends; if none ends it, it ends with `Done`. The worker received and sent the bytes given, one turn's after
-- another's, and each turn begins with the writer as the one before left it.
abbrev pub Plays : ShardsState → Pace → ℕ → Worker → ℕ → ℕ → Ending → List ℕ → Sending → Worker → Type 0
Plays shards pace before w zero made ending received sent e = (made ≡ 0) × (ending ≡ endings.Done) × Rests w received sent e
Plays shards pace before w (suc left) made ending received sent e =
    (gave : Result Outcome EngineError)
    × (mid : Worker)
    × (first later_received : List ℕ)
    × (out later_sent : Sending)
    × Takes shards (turn_after pace before w) gave first out (turn_after pace before mid)
    × (received ≡ first ++ later_received)
    × (sent ≡ both_sent out later_sent)
    × (later_sent.from ≡ out.to)
    × GoesOn (ending_after pace.leaves mid.session.session gave) made ending (Rests mid later_received later_sent e)
    ((later : ℕ) × (made ≡ later + 1) × Plays shards pace (before + 1) mid left later ending later_received later_sent e)
