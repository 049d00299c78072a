-- A learner on its way through a legal stream (profile).
use Rattle.std.specs.Prelude.{◌≡◌, ℕ, false, List, ◌++◌, length, Result, Ok}
use Rattle.std.specs.List.{AllByRecursion}
use Rattle.peers_msg.specs.Integers.{IsBytes}
use Rattle.peers_msg.specs.declared.message.Message.{Message}
use Rattle.peers_msg.specs.Spelling.{stream_of}
use Rattle.table_types.specs.declared.update.Update.{Update}
use Rattle.table_types.specs.Rosters.{repeats_name}
use Rattle.known_state.specs.Known.{AreOwn}
use Rattle.known_state.specs.State.{State, Teaches, IsOwn}
use Rattle.learner.specs.declared.fault.Fault.{Fault}
use Rattle.learner.specs.Learning.{AreLearned, IsWaiting, Learning, with_piece}
use Rattle.learner.specs.Rows.{put_all}

-- the unread bytes and those to come are the stream of these messages, which are legal for the learner, carry these
-- updates, and lead it to that state
abbrev pub IsOnItsWay : Learning → List ℕ → List Message → List Update → State → Type 0
IsOnItsWay l more ms us after =
    (repeats_name l.intake.roster ≡ false)
    × AreOwn l.intake.roster l.intake.state.received.tables
    × AllByRecursion (IsOwn l.intake.roster) ms
    × Teaches l.intake.state ms us after
    × (l.intake.closed ≡ false)
    × (l.intake.unread ++ more ≡ stream_of ms)
    × IsBytes (l.intake.unread ++ more)

-- The messages `ns`, which carry the updates `vs`, are the next ones of the stream. After them the learner is `e`: it has put `vs`
-- among its rows, hasn't read the bytes that follow, and is on its way through the rest.
abbrev pub AreNextOf : ℕ → Learning → List ℕ → List Message → List Update → State → List Message → List Update → Learning → Type 0
AreNextOf now l more ms us after ns vs e =
    (later : List Message) × (rest : List Update)
    × (ms ≡ ns ++ later)
    × (us ≡ vs ++ rest)
    × Teaches l.intake.state ns vs e.intake.state
    × (l.intake.unread ≡ stream_of ns ++ e.intake.unread)
    × (e.intake.roster ≡ l.intake.roster)
    × (e.rows ≡ put_all now l.intake.roster vs l.rows)
    × IsOnItsWay e more later rest after

-- The learner is fed the next bytes of the stream: there is no fault, and it then waits for more. It has learned the messages that
-- are whole, and they are the next ones of the stream.
abbrev pub IsFedOnItsWay : ℕ → Learning → List ℕ → List ℕ → List Message → List Update → State → Result ℕ Fault → Learning → Type 0
IsFedOnItsWay now l piece more ms us after answer e =
    (ns : List Message) × (vs : List Update)
    × (answer ≡ Ok (length vs))
    × AreLearned now (with_piece l piece) ns vs e
    × IsWaiting e.intake
    × AreNextOf now (with_piece l piece) more ms us after ns vs e
