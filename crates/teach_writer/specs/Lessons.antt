-- Lessons: the plan that each names, and which are shortest (profile).
use Rattle.std.specs.Prelude.{◌≡◌, ℕ, List}
use Rattle.table_types.specs.declared.update.Update.{Update}
use Rattle.peers_msg.specs.declared.message.Message.{Message}
use Rattle.peers_msg.specs.Spelling.{stream_of}
use Rattle.known_state.specs.Known.{KnownState}
use Rattle.known_state.specs.Plans.{Plan}
use Rattle.known_state.specs.Shortest.{Shortest}
use Rattle.known_state.specs.State.{Legal}
use Rattle.teach_writer.specs.declared.lesson.Lesson.{Lesson}

-- the plan that a lesson names
abbrev pub plan_of : Lesson → Plan
plan_of lesson = record { keep = lesson.keep; prices = lesson.prices }

-- The bytes spell messages that are legal from the known state, carry the batch, and lead to the known state after, which has
-- the same roster. No messages that are legal from the known state and carry the batch are shorter.
abbrev pub IsShortestLesson : KnownState → List Update → List ℕ → KnownState → Type 0
IsShortestLesson known batch bytes after =
    (ms : List Message) × (bytes ≡ stream_of ms) × Legal known.roster known.state ms batch after.state × (after.roster ≡ known.roster)
    × Shortest known batch ms
