-- Streams in pieces that end in a fault (profile).
use Rattle.std.specs.Prelude.{◌≡◌, ℕ, List, [], ◌∷◌, Result, Err}
use Rattle.table_types.specs.declared.update.Update.{Update}
use Rattle.peers_msg.specs.declared.message.Message.{Message}
use Rattle.learner.specs.declared.fault.Fault.{Fault}
use Rattle.learner.specs.Intake.{Stops}
use Rattle.learner.specs.Learning.{Learning, LearnerFeeds, AreFed, AreLearned, with_piece}

-- the pieces are fed one after another, all at one moment and without a fault, and then one more, which ends in this
-- fault
abbrev pub IsStopped : ℕ → Learning → List (List ℕ) → List ℕ → Fault → Learning → Type 0
IsStopped now l pieces last fault e = (count : ℕ) × (mid : Learning) × AreFed now l pieces count mid × LearnerFeeds now mid last (Err fault) e

-- messages at the front of the unread bytes are learned, up to the one with this fault, which is at the front of these
-- bytes
abbrev pub StandsAt : ℕ → Learning → Fault → List ℕ → Learning → Type 0
StandsAt now l fault left e =
    (ms : List Message)
    × (us : List Update)
    × (mid : Learning)
    × AreLearned now l ms us mid
    × Stops mid.intake fault e.intake
    × (left ≡ mid.intake.unread)

-- the pieces end this way, and of what was fed, these bytes are left from the faulty message on
abbrev pub IsStoppedAt : ℕ → Learning → List (List ℕ) → List ℕ → Fault → List ℕ → Learning → Type 0
IsStoppedAt now l pieces last fault left e =
    (count : ℕ)
    × (mid : Learning)
    × AreFed now l pieces count mid
    × LearnerFeeds now mid last (Err fault) e
    × StandsAt now (with_piece mid last) fault left e

-- the pieces are fed one after another, all at one moment, with these answers
abbrev pub AreAnswered : ℕ → Learning → List (List ℕ) → List (Result ℕ Fault) → Learning → Type 0
AreAnswered now l [] answers e = (answers ≡ []) × (e ≡ l)
AreAnswered now l (piece ∷ pieces) answers e =
    (one : Result ℕ Fault)
    × (rest : List (Result ℕ Fault))
    × (mid : Learning)
    × (answers ≡ one ∷ rest)
    × LearnerFeeds now l piece one mid
    × AreAnswered now mid pieces rest e
