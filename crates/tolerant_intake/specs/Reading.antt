-- What a reader holds, and what asking it for a message does (profile).
use Rattle.std.specs.Prelude.{◌≡◌, ℕ, List, [], ◌∷◌, Option, Some, None, Result, Ok, Err}
use Rattle.table_types.specs.Tables.{Definition}
use Rattle.peers_msg.specs.declared.fault.Breach.{Breach}
use Rattle.peers_msg.specs.Reading.{Frame, frame_at}
use Rattle.known_state.specs.declared.effect.Effect.{Effect}
use Rattle.known_state.specs.declared.effect.Effect.TheVariants as effects
use Rattle.learner.specs.declared.fault.Fault.{Fault}
use Rattle.learner.specs.declared.fault.Fault.TheVariants as faults
use Rattle.learner.specs.declared.taken.Taken.{Taken}
use Rattle.learner.specs.declared.taken.Taken.TheVariants as taken
use Rattle.learner.specs.Front.{with_effect}
use Rattle.learner.specs.Intake.{Taking, IntakeNext, shut, with_unread}
use Rattle.learner.specs.Intake as intakes
use Rattle.tolerant_intake.specs.declared.passed_over.PassedOver.{PassedOver}
use Rattle.tolerant_intake.specs.Counts.{none_passed}
use Rattle.tolerant_intake.specs.StandIns.{stand_in}
use Rattle.tolerant_intake.specs.declared.loose_table.LooseTable.{LooseTable}
use Rattle.tolerant_intake.specs.Tolerance.{Tolerance, counted_for, loose_at, nothing_passed, redefined, replaced}
use Rattle.tolerant_intake.specs.Policy.{Passage, Strict, Defines, Counts, StandsIn, Unnumbered, Breaks, IsFurther, passage_of}

-- what the intake holds; and what the reader remembers beside it, if it is tolerant
pub record Reading : Type 0 where
  pub intake : Taking
  pub tolerance : Option Tolerance

-- a strict reader, which was fed nothing
abbrev pub begun : List Definition → Reading
begun roster = record { intake = intakes.begun roster; tolerance = None }

-- a reader becomes tolerant
abbrev pub tolerating : Reading → Reading
tolerating r = record r { tolerance = Some nothing_passed }

-- what was passed over
abbrev pub passed_by : Option Tolerance → PassedOver
passed_by None = none_passed
passed_by (Some l) = l.passed_over

-- the table outside the profile with an id, if the reader is tolerant
abbrev pub loose_of : Option Tolerance → ℕ → Option LooseTable
loose_of None id = None
loose_of (Some l) id = loose_at l.loose id

-- ---- one message

-- the bytes after the message at the front
abbrev pub after_front : Result (Option (Frame × List ℕ)) Breach → List ℕ
after_front (Ok (Some front)) = front.1
after_front front = []

-- What is left of an intake that passes over the message at its front with this effect. An update makes its table due even
-- if no row comes of it.
abbrev pub passing : Taking → Effect → Taking
passing t effect = with_unread (with_effect t effect) (after_front (frame_at t.unread))

-- The message is passed over with this effect, and `left` is remembered then. If memory runs out, nothing changes.
abbrev pub Passes : Effect → Tolerance → Tolerance → Taking → Result (Option Taken) Fault → Taking → Option Tolerance → Type 0
Passes effect left l t (Ok (Some taken.Passed)) e after = (e ≡ passing t effect) × (after ≡ Some left)
Passes effect left l t (Err faults.Memory) e after = (e ≡ t) × (after ≡ Some l)
Passes effect left l t answer e after = ⊥

-- the reader stops with this fault
abbrev pub StopsAt : Fault → Tolerance → Taking → Result (Option Taken) Fault → Taking → Option Tolerance → Type 0
StopsAt fault l t answer e after = (answer ≡ Err fault) × (e ≡ shut t) × (after ≡ Some l)

-- The reader stops with this breach. Only at a definition of a further id that the strict intake can read may memory run out before
-- that; then nothing changes.
abbrev pub BreaksAt : Breach → Tolerance → Taking → Result (Option Taken) Fault → Taking → Option Tolerance → Type 0
BreaksAt breach l t (Err faults.Memory) e after = IsFurther t × (e ≡ t) × (after ≡ Some l)
BreaksAt breach l t answer e after = StopsAt (faults.Breach breach) l t answer e after

-- a definition that was taken replaces tables outside the profile
abbrev pub left_by : Definition → Tolerance → Taking → Result (Option Taken) Fault → Tolerance
left_by d l t (Ok (Some answer)) = redefined d t.state.received l
left_by d l t answer = l

-- what becomes of the message at the front, by its passage
abbrev pub ReadsAs : Passage → Tolerance → Taking → Result (Option Taken) Fault → Taking → Option Tolerance → Type 0
ReadsAs Strict l t answer e after = IntakeNext t answer e × (after ≡ Some l)
ReadsAs (Defines d) l t answer e after = IntakeNext t answer e × (after ≡ Some (left_by d l t answer))
ReadsAs (Counts r cause) l t answer e after = Passes (effects.Update r) (counted_for cause l) l t answer e after
ReadsAs (StandsIn d) l t answer e after =
    Passes (effects.Define (stand_in t.roster d)) (replaced d (stand_in t.roster d) t.state.received l) l t answer e after
ReadsAs Unnumbered l t answer e after = StopsAt faults.NoNumber l t answer e after
ReadsAs (Breaks breach) l t answer e after = BreaksAt breach l t answer e after

-- the reader with this tolerance, whose intake is `t`, gives `answer`, and is left so
abbrev pub Reads : Option Tolerance → Taking → Result (Option Taken) Fault → Taking → Option Tolerance → Type 0
Reads None t answer e after = IntakeNext t answer e × (after ≡ None)
Reads (Some l) t answer e after = ReadsAs (passage_of l t) l t answer e after

-- ---- messages one after another

-- messages are read one after another, with these answers
abbrev pub AreRead : Option Tolerance → Taking → List Taken → Taking → Option Tolerance → Type 0
AreRead l t [] e after = (e ≡ t) × (after ≡ l)
AreRead l t (answer ∷ answers) e after =
    (mid : Taking) × (between : Option Tolerance)
    × Reads l t (Ok (Some answer)) mid between
    × AreRead between mid answers e after

-- an answer after which no message is read: none is whole, or a fault other than out of memory
abbrev pub IsLast : Result (Option Taken) Fault → Type 0
IsLast (Ok None) = Unit {0}
IsLast (Ok (Some answer)) = ⊥
IsLast (Err faults.Memory) = ⊥
IsLast (Err fault) = Unit {0}
