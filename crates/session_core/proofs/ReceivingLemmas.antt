-- Messages received one after another.
use Rattle.std.proofs.Common.{◌≡◌, ◌≢◌, ℕ, List, [], ◌∷◌, ◌++◌, Option, Err, refl, sym, subst, append_assoc}
use Rattle.std.proofs.lemmas.List.{append-nil}
use Rattle.learner.specs.declared.fault.Fault.{Fault}
use Rattle.learner.specs.declared.fault.Fault.TheVariants as faults
use Rattle.learner.specs.declared.taken.Taken.{Taken}
use Rattle.learner.specs.Intake.{Taking, IntakeFeeds, fed}
use Rattle.tolerant_intake.specs.Tolerance.{Tolerance}
use Rattle.tolerant_intake.specs.Reading.{Reads}
use Rattle.session_core.specs.declared.action.Action.{Action}
use Rattle.session_core.specs.declared.controls.Controls.{Controls}
use Rattle.session_core.specs.declared.halt.Halt.TheVariants as halts
use Rattle.session_core.specs.HeardCounts.{all_counted, message_counted}
use Rattle.session_core.specs.Courses.{Course, course_fed, message_received, Receives, AreReceived, IsHalted, halt_of}
use Rattle.session_core.proofs.ReadersGoOn.{closed_stays}

-- one more message
pub received_more : (c mid e : Course) (ts : List Taken) (t : Taken) (acts : List Action) → AreReceived c ts acts mid → Receives mid t e → AreReceived c (ts ++ (t ∷ [])) (acts ++ (message_received e t).0) (message_received e t).1
received_more c mid e [] t acts (none, here) receives =
    let begins : Receives c t e = subst (λ (x : Course). Receives x t e) here receives in
    (e, [], begins, rw none (sym (append-nil (message_received e t).0)), (refl, refl))
received_more c mid e (k ∷ ts) t acts (next, rest, first, all, later) receives =
    let grouped : acts ++ (message_received e t).0 ≡ (message_received next k).0 ++ (rest ++ (message_received e t).0) = rw all (simp append_assoc) in
    (next, rest ++ (message_received e t).0, first, grouped, received_more (message_received next k).1 mid e ts t rest later receives)

-- one message more is counted last
pub counted_more : (ts : List Taken) (t : Taken) (n : Controls) → all_counted (ts ++ (t ∷ [])) n ≡ message_counted t (all_counted ts n)
counted_more [] t n = refl
counted_more (u ∷ us) t n = counted_more us t (message_counted u n)

-- a fault halts the course, unless memory runs out
pub halts_at : (c : Course) (fault : Fault) (e : Taking) (after : Option Tolerance) → Reads c.tolerance c.intake (Err fault) e after → IsHalted c (halt_of fault)
halts_at c faults.Memory e after stops = tt
halts_at c faults.Closed e after stops = ((λ same. cc), e, after, stops)
halts_at c faults.NoNumber e after stops = ((λ same. cc), e, after, stops)
halts_at c faults.EmptySlot e after stops = ((λ same. cc), e, after, stops)
halts_at c (faults.Breach breach) e after stops = ((λ same. cc), e, after, stops)

-- bytes that the intake refuses, though memory suffices
pub feed_halts : (c : Course) (bytes : List ℕ) (fault : Fault) (e : Taking) → IntakeFeeds c.intake bytes (Err fault) e → halt_of fault ≢ halts.Memory → IsHalted (course_fed c bytes) (halt_of fault)
feed_halts c bytes faults.Memory e feeds other = absurd (other refl)
feed_halts c bytes faults.Closed e feeds other = ((λ same. cc), fed c.intake bytes, c.tolerance, closed_stays c.tolerance (fed c.intake bytes) feeds.0)
feed_halts c bytes faults.NoNumber e feeds other = absurd feeds
feed_halts c bytes faults.EmptySlot e feeds other = absurd feeds
feed_halts c bytes (faults.Breach breach) e feeds other = absurd feeds
