-- What a reader holds, whatever it answers.
use Rattle.std.proofs.Common.{◌≡◌, ◌≢◌, ℕ, true, List, ◌++◌, Option, Some, None, Result, Ok, Err, refl, sym, ap, ◌∙◌, subst, append_assoc}
use Rattle.table_types.specs.Tables.{Definition}
use Rattle.peers_msg.specs.Integers.{IsBytes}
use Rattle.peers_msg.specs.declared.fault.Breach.{Breach}
use Rattle.known_state.specs.declared.effect.Effect.{Effect}
use Rattle.known_state.specs.declared.effect.Effect.TheVariants as effects
use Rattle.learner.specs.declared.fault.Fault.{Fault}
use Rattle.learner.specs.declared.fault.Fault.TheVariants as faults
use Rattle.learner.specs.declared.taken.Taken.{Taken}
use Rattle.learner.specs.declared.taken.Taken.TheVariants as taken
use Rattle.learner.specs.Intake.{Taking, IntakeNext}
use Rattle.learner.specs.Intake as intakes
use Rattle.tolerant_intake.specs.StandIns.{stand_in}
use Rattle.tolerant_intake.specs.Tolerance.{Tolerance, counted_for, replaced}
use Rattle.tolerant_intake.specs.Policy.{Passage, Strict, Defines, Counts, StandsIn, Unnumbered, Breaks, passage_of}
use Rattle.tolerant_intake.specs.Reading.{BreaksAt, Passes, Reading, Reads, ReadsAs, left_by, passed_by}
use Rattle.tolerant_intake.proofs.ReadingGoesOn.{faulty_more, given_no_memory, passes_so, reads_more, reads_once, reads_redue}
use Rattle.tolerant_intake.proofs.ReadHoweverCut.{left_good}
use Rattle.session_core.specs.Courses.{Course}

-- what the reader of a course holds
abbrev pub reading_of : Course → Reading
reading_of c = record { intake = c.intake; tolerance = c.tolerance }

-- the reader `r` gives this answer, and is `e` then
abbrev pub Gives : Reading → Result (Option Taken) Fault → Reading → Type 0
Gives r answer e = Reads r.tolerance r.intake answer e.intake e.tolerance

-- bytes are fed
abbrev pub fed : Reading → List ℕ → Reading
fed r bytes = record r { intake = intakes.fed r.intake bytes }

-- other ids are due
abbrev pub with_due : Reading → List ℕ → Reading
with_due r due = record r { intake = record r.intake { due = due } }

pub grouped : (r : Reading) (a b : List ℕ) → fed (fed r a) b ≡ fed r (a ++ b)
grouped r a b =
    let bytes : (r.intake.unread ++ a) ++ b ≡ r.intake.unread ++ (a ++ b) = simp append_assoc in
    ap (λ (all : List ℕ). record r { intake = record r.intake { unread = all } }) bytes

-- ---- only one answer

pub gives_once : (r a b : Reading) (one other : Result (Option Taken) Fault) → Gives r one a → Gives r other b → one ≢ Err faults.Memory → other ≢ Err faults.Memory → (one ≡ other) × (a ≡ b)
gives_once r a b one other gives again p q =
    let same = reads_once r.tolerance r.intake a.intake b.intake one other a.tolerance b.tolerance gives again p q in
    (same.0, ap (λ (t : Taking). record a { intake = t }) same.1 ∙ ap (λ (l : Option Tolerance). record b { tolerance = l }) same.2)

-- ---- messages that are read

pub gives_good : (r e : Reading) (answer : Taken) → IsBytes r.intake.unread → Gives r (Ok (Some answer)) e → IsBytes e.intake.unread
gives_good r e answer good gives = left_good r.tolerance r.intake e.intake answer e.tolerance good gives

pub gives_more : (r e : Reading) (answer : Taken) (more : List ℕ) → IsBytes r.intake.unread → Gives r (Ok (Some answer)) e → Gives (fed r more) (Ok (Some answer)) (fed e more)
gives_more r e answer more good gives = reads_more r.tolerance r.intake e.intake answer more e.tolerance good gives

roster_next : (t e : Taking) (answer : Taken) → IntakeNext t (Ok (Some answer)) e → e.roster ≡ t.roster
roster_next t e answer (m, (is_open, rest, at, us, step, keeps, is), says) = ap (λ (x : Taking). x.roster) is

roster_passes : (effect : Effect) (left l : Tolerance) (t e : Taking) (answer : Taken) (after : Option Tolerance) → Passes effect left l t (Ok (Some answer)) e after → e.roster ≡ t.roster
roster_passes effect left l t e answer after passes =
    ap (λ (x : Taking). x.roster) (passes_so effect left l t e (Ok (Some answer)) after passes (given_no_memory (Some answer))).1

roster_as : (p : Passage) (l : Tolerance) (t e : Taking) (answer : Taken) (after : Option Tolerance) → ReadsAs p l t (Ok (Some answer)) e after → e.roster ≡ t.roster
roster_as Strict l t e answer after (next, then) = roster_next t e answer next
roster_as (Defines d) l t e answer after (next, then) = roster_next t e answer next
roster_as (Counts r cause) l t e answer after passes = roster_passes (effects.Update r) (counted_for cause l) l t e answer after passes
roster_as (StandsIn d) l t e answer after passes =
    roster_passes (effects.Define (stand_in t.roster d)) (replaced d (stand_in t.roster d) t.state.received l) l t e answer after passes
roster_as Unnumbered l t e answer after stops =
    let wrong = stops.0 in
    absurd cc
roster_as (Breaks breach) l t e answer after stops =
    let wrong = stops.0 in
    absurd cc

roster_read : (l : Option Tolerance) (t e : Taking) (answer : Taken) (after : Option Tolerance) → Reads l t (Ok (Some answer)) e after → e.roster ≡ t.roster
roster_read None t e answer after (next, then) = roster_next t e answer next
roster_read (Some l) t e answer after reads = roster_as (passage_of l t) l t e answer after reads

pub gives_roster : (r e : Reading) (answer : Taken) → Gives r (Ok (Some answer)) e → e.intake.roster ≡ r.intake.roster
gives_roster r e answer gives = roster_read r.tolerance r.intake e.intake answer e.tolerance gives

-- ---- faults

pub stops_more : (r e : Reading) (fault : Fault) (more : List ℕ) → IsBytes r.intake.unread → fault ≢ faults.Memory → Gives r (Err fault) e → (x : Reading) × Gives (fed r more) (Err fault) x
stops_more r e fault more good wanted stops =
    let there = faulty_more r.tolerance r.intake e.intake fault more e.tolerance good wanted stops in
    (record { intake = there.0; tolerance = e.tolerance }, there.1)

closed_so : (l : Tolerance) (t : Taking) → t.closed ≡ true → passage_of l t ≡ Strict
closed_so l t closed = rw closed refl

-- a closed reader stays closed
pub closed_stays : (l : Option Tolerance) (t : Taking) → t.closed ≡ true → Reads l t (Err faults.Closed) t l
closed_stays None t closed = ((closed, refl), refl)
closed_stays (Some l) t closed = subst (λ (p : Passage). ReadsAs p l t (Err faults.Closed) t (Some l)) (sym (closed_so l t closed)) ((closed, refl), refl)

-- ---- no message is whole

waits_as : (p : Passage) (l : Tolerance) (t e : Taking) (after : Option Tolerance) → ReadsAs p l t (Ok None) e after → e ≡ t
waits_as Strict l t e after (next, then) = next.2
waits_as (Defines d) l t e after (next, then) = next.2
waits_as (Counts r cause) l t e after passes = absurd passes
waits_as (StandsIn d) l t e after passes = absurd passes
waits_as Unnumbered l t e after stops =
    let wrong = stops.0 in
    absurd cc
waits_as (Breaks breach) l t e after stops =
    let wrong = stops.0 in
    absurd cc

-- the intake stays as it is
waits_so : (l : Option Tolerance) (t e : Taking) (after : Option Tolerance) → Reads l t (Ok None) e after → e ≡ t
waits_so None t e after (next, then) = next.2
waits_so (Some l) t e after reads = waits_as (passage_of l t) l t e after reads

-- ---- other ids due

pub gives_due : (r e : Reading) (due : List ℕ) (answer : Result (Option Taken) Fault) → Gives r answer e → (x : List ℕ) × Gives (with_due r due) answer (with_due e x)
gives_due r e due answer gives = reads_redue r.tolerance r.intake e.intake due answer e.tolerance gives

pub waits_due : (r : Reading) (due : List ℕ) → Gives r (Ok None) r → Gives (with_due r due) (Ok None) (with_due r due)
waits_due r due waits =
    let there = gives_due r r due (Ok None) waits in
    let same = waits_so r.tolerance (with_due r due).intake (with_due r there.0).intake r.tolerance there.1 in
    subst (λ (t : Taking). Reads r.tolerance (with_due r due).intake (Ok None) t r.tolerance) same there.1

-- ---- what is passed over

passed_at : (effect : Effect) (left l : Tolerance) (t e : Taking) (answer : Result (Option Taken) Fault) (after : Option Tolerance) → answer ≢ Ok (Some taken.Passed) → Passes effect left l t answer e after → passed_by after ≡ l.passed_over
passed_at effect left l t e (Ok None) after other passes = absurd passes
passed_at effect left l t e (Ok (Some (taken.Row u))) after other passes = absurd passes
passed_at effect left l t e (Ok (Some taken.Passed)) after other passes = absurd (other refl)
passed_at effect left l t e (Ok (Some (taken.Said c))) after other passes = absurd passes
passed_at effect left l t e (Ok (Some (taken.Failed k))) after other passes = absurd passes
passed_at effect left l t e (Ok (Some (taken.Acked table number))) after other passes = absurd passes
passed_at effect left l t e (Err faults.Memory) after other (is, then) = ap passed_by then
passed_at effect left l t e (Err faults.Closed) after other passes = absurd passes
passed_at effect left l t e (Err faults.NoNumber) after other passes = absurd passes
passed_at effect left l t e (Err faults.EmptySlot) after other passes = absurd passes
passed_at effect left l t e (Err (faults.Breach b)) after other passes = absurd passes

passed_break : (breach : Breach) (l : Tolerance) (t e : Taking) (answer : Result (Option Taken) Fault) (after : Option Tolerance) → BreaksAt breach l t answer e after → passed_by after ≡ l.passed_over
passed_break breach l t e (Ok found) after stops = ap passed_by stops.2
passed_break breach l t e (Err faults.Memory) after (further, is, then) = ap passed_by then
passed_break breach l t e (Err faults.Closed) after stops = ap passed_by stops.2
passed_break breach l t e (Err faults.NoNumber) after stops = ap passed_by stops.2
passed_break breach l t e (Err faults.EmptySlot) after stops = ap passed_by stops.2
passed_break breach l t e (Err (faults.Breach b)) after stops = ap passed_by stops.2

passed_left : (d : Definition) (l : Tolerance) (t : Taking) (answer : Result (Option Taken) Fault) → (left_by d l t answer).passed_over ≡ l.passed_over
passed_left d l t (Ok None) = refl
passed_left d l t (Ok (Some answer)) = refl
passed_left d l t (Err fault) = refl

passed_as : (p : Passage) (l : Tolerance) (t e : Taking) (answer : Result (Option Taken) Fault) (after : Option Tolerance) → answer ≢ Ok (Some taken.Passed) → ReadsAs p l t answer e after → passed_by after ≡ l.passed_over
passed_as Strict l t e answer after other (next, then) = ap passed_by then
passed_as (Defines d) l t e answer after other (next, then) = ap passed_by then ∙ passed_left d l t answer
passed_as (Counts r cause) l t e answer after other passes = passed_at (effects.Update r) (counted_for cause l) l t e answer after other passes
passed_as (StandsIn d) l t e answer after other passes =
    passed_at (effects.Define (stand_in t.roster d)) (replaced d (stand_in t.roster d) t.state.received l) l t e answer after other passes
passed_as Unnumbered l t e answer after other (is, then, left) = ap passed_by left
passed_as (Breaks breach) l t e answer after other stops = passed_break breach l t e answer after stops

-- only a message that is passed over counts as one
pub passed_same : (l : Option Tolerance) (t e : Taking) (answer : Result (Option Taken) Fault) (after : Option Tolerance) → answer ≢ Ok (Some taken.Passed) → Reads l t answer e after → passed_by after ≡ passed_by l
passed_same None t e answer after other (next, then) = ap passed_by then
passed_same (Some l) t e answer after other reads = passed_as (passage_of l t) l t e answer after other reads
