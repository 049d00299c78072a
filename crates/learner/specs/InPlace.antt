-- What is learned of bytes in place: the same as by a learner that has just these bytes unread.
use Rattle.std.specs.Prelude.{◌≡◌, ℕ, List, [], drop, Option, Some, None, Result, Ok, Err}
use Rattle.learner.specs.declared.fault.Fault.{Fault}
use Rattle.learner.specs.declared.learned.Learned.{Learned}
use Rattle.learner.specs.Intake.{Stops, with_unread}
use Rattle.learner.specs.Front.{stopped}
use Rattle.learner.specs.Learning.{Learning, IsWaiting, LearnsOne, LearnsAll, shut_off, with_piece}

-- these bytes are unread, and no others
abbrev pub over : Learning → List ℕ → Learning
over l bytes = record { intake = with_unread l.intake bytes; rows = l.rows }

-- what learning the message at the front of these bytes does; the message's bytes are then read
abbrev pub LearnsFront : ℕ → Learning → List ℕ → Result (Option Learned) Fault → Learning → Type 0
LearnsFront now l bytes (Ok None) e = IsWaiting (with_unread l.intake bytes) × (e ≡ l)
LearnsFront now l bytes (Ok (Some progress)) e = LearnsOne now (over l bytes) (Ok (Some progress.rows)) (over e (drop progress.used bytes))
LearnsFront now l bytes (Err fault) e = (left : Learning) × LearnsOne now (over l bytes) (Err fault) left × (e ≡ shut_off left)

-- the same, except that a fault changes nothing yet
abbrev pub FindsFront : ℕ → Learning → List ℕ → Result (Option Learned) Fault → Learning → Type 0
FindsFront now l bytes (Ok found) e = LearnsFront now l bytes (Ok found) e
FindsFront now l bytes (Err fault) e = Stops (with_unread l.intake bytes) fault (stopped (with_unread l.intake bytes) fault) × (e ≡ l)

-- what learning all whole messages in these bytes does
abbrev pub LearnsWhole : ℕ → Learning → List ℕ → Result Learned Fault → Learning → Type 0
LearnsWhole now l bytes (Ok progress) e = LearnsAll now (over l bytes) (Ok progress.rows) (over e (drop progress.used bytes))
LearnsWhole now l bytes (Err fault) e = (left : Learning) × LearnsAll now (over l bytes) (Err fault) left × (e ≡ shut_off left)

-- what feeding a piece to an open learner does, except that bytes are still held after a fault
abbrev pub LearnsPiece : ℕ → Learning → List ℕ → Result ℕ Fault → Learning → Type 0
LearnsPiece now l piece (Ok count) e = LearnsAll now (with_piece l piece) (Ok count) e
LearnsPiece now l piece (Err fault) e = (left : Learning) × LearnsAll now (with_piece l piece) (Err fault) left × (over e [] ≡ shut_off left)
