-- Calls of an intake one after another, in any order of feeding and asking (profile).
use Rattle.std.specs.Prelude.{◌≡◌, ℕ, List, [], ◌∷◌, ◌++◌, Option, Some, None, Result, Ok, Err}
use Rattle.learner.specs.declared.fault.Fault.{Fault}
use Rattle.learner.specs.declared.fault.Fault.TheVariants as faults
use Rattle.learner.specs.declared.taken.Taken.{Taken}
use Rattle.learner.specs.Intake.{Taking, IntakeFeeds, IntakeNext}

-- no fault other than out of memory
abbrev pub IsFaultless : {A : Type 0} → Result A Fault → Type 0
IsFaultless answer = (fault : Fault) → answer ≡ Err fault → fault ≡ faults.Memory

-- the bytes that were fed, if they were taken
abbrev pub bytes_of : List ℕ → Result (Unit {0}) Fault → List ℕ
bytes_of piece (Ok _) = piece
bytes_of piece (Err fault) = []

-- what a message that was asked for gave, if one was whole
abbrev pub answers_given : Result (Option Taken) Fault → List Taken
answers_given (Ok (Some answer)) = answer ∷ []
answers_given answer = []

-- Calls one after another lead from `t` to `e` without a fault other than out of memory. Some feeds its piece, and None
-- asks for a message. The calls took `bytes`, and gave `answers`.
abbrev pub AreIntakeCalls : Taking → List (Option (List ℕ)) → List ℕ → List Taken → Taking → Type 0
AreIntakeCalls t [] bytes answers e = (bytes ≡ []) × (answers ≡ []) × (e ≡ t)
AreIntakeCalls t (Some piece ∷ calls) bytes answers e =
    (answer : Result (Unit {0}) Fault)
    × (others : List ℕ)
    × (mid : Taking)
    × (bytes ≡ bytes_of piece answer ++ others)
    × IsFaultless answer
    × IntakeFeeds t piece answer mid
    × AreIntakeCalls mid calls others answers e
AreIntakeCalls t (None ∷ calls) bytes answers e =
    (answer : Result (Option Taken) Fault)
    × (others : List Taken)
    × (mid : Taking)
    × (answers ≡ answers_given answer ++ others)
    × IsFaultless answer
    × IntakeNext t answer mid
    × AreIntakeCalls mid calls bytes others e

-- an answer that ends a stream of which these bytes are still to come: a fault other than out of memory, or no whole
-- message if no bytes are to come
abbrev pub IsEndOf : Result (Option Taken) Fault → List ℕ → Type 0
IsEndOf (Ok None) more = more ≡ []
IsEndOf (Ok (Some answer)) more = ⊥
IsEndOf (Err faults.Memory) more = ⊥
IsEndOf (Err fault) more = Unit {0}
