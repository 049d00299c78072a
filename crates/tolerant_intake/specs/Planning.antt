-- What is found of the message at the front before anything changes.
use Rattle.std.specs.Prelude.{◌≡◌, ◌≤◌, ℕ, Bool, false, List, length, drop, Option, Some, None, Result, Ok, Err}
use Rattle.table_types.specs.Tables.{Definition}
use Rattle.peers_msg.specs.Received.{Received}
use Rattle.peers_msg.specs.Reading.{frame_at}
use Rattle.known_state.specs.State.{State}
use Rattle.known_state.specs.declared.effect.Effect.{Effect}
use Rattle.known_state.specs.declared.effect.Effect.TheVariants as effects
use Rattle.learner.specs.declared.fault.Fault.{Fault}
use Rattle.learner.specs.declared.fault.Fault.TheVariants as faults
use Rattle.learner.specs.Front.{stopped}
use Rattle.learner.specs.Front as fronts
use Rattle.learner.specs.Intake.{Taking, Gives}
use Rattle.tolerant_intake.specs.declared.plan.Plan.{Plan}
use Rattle.tolerant_intake.specs.declared.plan.Plan.TheVariants as plans
use Rattle.tolerant_intake.specs.StandIns.{stand_in, loose_table, cause_of}
use Rattle.tolerant_intake.specs.Tolerance.{Tolerance, is_further, redefined}
use Rattle.tolerant_intake.specs.Policy.{Passage, IsPassedOver, Strict, Defines, Counts, StandsIn, Unnumbered, Breaks, passage_of, unless_further}
use Rattle.tolerant_intake.specs.Reading.{Reads, after_front}

-- ---- messages that are passed over

-- a plan to pass over a message of `used` bytes, for a roster
abbrev pub IsPassing : List Definition → Passage → Plan → ℕ → Type 0
IsPassing roster (Counts r cause) (plans.Counts update why n) used = (update ≡ r) × (why ≡ cause) × (n ≡ used)
IsPassing roster (StandsIn d) (plans.StandsIn table loose cause n) used =
    (table ≡ stand_in roster d) × (loose ≡ loose_table d) × (cause ≡ cause_of d) × (n ≡ used)
IsPassing roster p plan used = ⊥

-- what is planned for a message of `used` bytes: nothing if it is left to the strict intake; memory may run out for one that is
-- passed over
abbrev pub Planned : List Definition → Passage → ℕ → Result (Option Plan) Fault → Type 0
Planned roster p used (Ok None) = p ≡ Strict
Planned roster p used (Ok (Some plan)) = IsPassing roster p plan used
Planned roster p used (Err faults.Memory) = IsPassedOver p
Planned roster p used (Err faults.NoNumber) = p ≡ Unnumbered
Planned roster p used (Err (faults.Breach breach)) = p ≡ Breaks breach
Planned roster p used (Err fault) = ⊥

-- ---- any message

-- an effect defines a table under a further id
abbrev pub defines_further : Received → Effect → Bool
defines_further h (effects.Define d) = is_further h d.id
defines_further h effect = false

-- what becomes of a message that the strict intake takes with this effect
abbrev pub passage_for : State → Effect → Passage
passage_for s (effects.Define d) = unless_further s d.id (Defines d)
passage_for s effect = Strict

-- what is remembered after an effect that the strict intake makes
abbrev pub left_after : Effect → Received → Tolerance → Tolerance
left_after (effects.Define d) h l = redefined d h l
left_after effect h l = l

-- the message at the front ends after `used` bytes
abbrev pub Ends : Taking → ℕ → Type 0
Ends t used = (used ≤ length t.unread) × (1 ≤ used) × (drop used t.unread ≡ after_front (frame_at t.unread))

abbrev pub IsPlan : Passage → Taking → Plan → Type 0
IsPlan Strict t (plans.Takes answer a) =
    Gives t (Ok answer) (fronts.passed t a) × ((h : Received) (l : Tolerance) → left_after a.effect h l ≡ l) × (a.used ≤ length t.unread) × (1 ≤ a.used)
IsPlan (Defines d) t (plans.Takes answer a) =
    Gives t (Ok answer) (fronts.passed t a) × (a.effect ≡ effects.Define d) × (a.used ≤ length t.unread) × (1 ≤ a.used)
IsPlan (Counts r cause) t (plans.Counts update why used) = (update ≡ r) × (why ≡ cause) × Ends t used
IsPlan (StandsIn d) t (plans.StandsIn table loose cause used) =
    (table ≡ stand_in t.roster d) × (loose ≡ loose_table d) × (cause ≡ cause_of d) × Ends t used
IsPlan p t plan = ⊥

abbrev pub Plans : Tolerance → Taking → Result (Option Plan) Fault → Type 0
Plans l t (Ok None) = Reads (Some l) t (Ok None) t (Some l)
Plans l t (Ok (Some plan)) = IsPlan (passage_of l t) t plan
Plans l t (Err fault) = Reads (Some l) t (Err fault) (stopped t fault) (Some l)
