-- What is counted at an event is unique.
use Rattle.std.proofs.Common.{◌≡◌, ◌≢◌, ◌⊎◌, ℕ, List, Result, Ok, Err, refl, sym, ap, ◌∙◌, inl, inr, ◌++◌}
use Rattle.peers_hello.specs.Meetings.{Meeting, Opens, Refuses, Waits}
use Rattle.learner.specs.declared.taken.Taken.{Taken}
use Rattle.tolerant_intake.specs.declared.passed_over.PassedOver.{PassedOver}
use Rattle.tolerant_intake.specs.Reading.{passed_by}
use Rattle.session_core.specs.declared.controls.Controls.{Controls}
use Rattle.session_core.specs.declared.event.Event.{Event}
use Rattle.session_core.specs.declared.event.Event.TheVariants as events
use Rattle.session_core.specs.declared.halt.Halt.{Halt}
use Rattle.session_core.specs.declared.halt.Halt.TheVariants as halts
use Rattle.session_core.specs.declared.heard.Heard.{Heard}
use Rattle.session_core.specs.Phases.{Phase}
use Rattle.session_core.specs.Phases as phases
use Rattle.session_core.specs.Courses.{Course, AwaitsMore, IsHalted, course_fed}
use Rattle.session_core.specs.HeardCounts.{CountsAfter, CountsBytes, CountsEvent, CountsIn, TakesIn, all_counted, meeting_of}
use Rattle.session_core.proofs.StepIsUnique.{Ends, all_received_once}

-- how the messages of a course end
pub ending : (e : Course) → AwaitsMore e ⊎ ((halt : Halt) × (halt ≢ halts.Memory) × IsHalted e halt) → (end : Result (Unit {0}) Halt) × Ends e end
ending e (inl waits) = (Ok tt, waits)
ending e (inr (halts.Failed, wanted, halted)) = (Err halts.Failed, halted)
ending e (inr (halts.Fault fault, wanted, halted)) = (Err (halts.Fault fault), halted)
ending e (inr (halts.Memory, wanted, halted)) = absurd (wanted refl)

takes_in_once : (c : Course) (ts us : List Taken) (p q : PassedOver) → TakesIn c ts p → TakesIn c us q → (ts ≡ us) × (p ≡ q)
takes_in_once c ts us p q (acts, e, receives, how, is) (others, e', receives', how', is') =
    let end = ending e how in
    let end' = ending e' how' in
    let same = all_received_once c e e' ts us acts others end.0 end'.0 receives receives' end.1 end'.1 in
    (same.3, is ∙ ap (λ (x : Course). passed_by x.tolerance) same.1 ∙ sym is')

bytes_once : (c : Course) (bytes : List ℕ) (n m k : Heard) → CountsBytes c bytes n m → CountsBytes c bytes n k → m ≡ k
bytes_once c bytes n m k (ts, takes, counts) (us, takes', counts') =
    let same = takes_in_once (course_fed c bytes) ts us m.passed_over k.passed_over takes takes' in
    let controls : m.controls ≡ k.controls = counts ∙ ap (λ (xs : List Taken). all_counted xs n.controls) same.0 ∙ sym counts' in
    ap (λ (x : Controls). record m { controls = x }) controls ∙ ap (λ (x : PassedOver). record k { passed_over = x }) same.1

after_once : (meeting : Meeting) (c : Course) (n m k : Heard) → CountsAfter meeting c n m → CountsAfter meeting c n k → m ≡ k
after_once (Opens version rest) c n m k counts again = bytes_once c rest n m k counts again
after_once (Refuses code) c n m k is same = is ∙ sym same
after_once Waits c n m k is same = is ∙ sym same

in_once : (phase : Phase) (bytes : List ℕ) (n m k : Heard) → CountsIn phase bytes n m → CountsIn phase bytes n k → m ≡ k
in_once (phases.New hello c) bytes n m k is same = is ∙ sym same
in_once (phases.Hello greeter bytes c) piece n m k counts again = after_once (meeting_of greeter (bytes ++ piece)) c n m k counts again
in_once (phases.Open c) bytes n m k counts again = bytes_once c bytes n m k counts again
in_once phases.Ended bytes n m k is same = is ∙ sym same

pub counted_once : (event : Event) (phase : Phase) (n m k : Heard) → CountsEvent event phase n m → CountsEvent event phase n k → m ≡ k
counted_once (events.Bytes bytes) phase n m k counts again = in_once phase bytes n m k counts again
counted_once events.Opened phase n m k is same = is ∙ sym same
counted_once events.Turn phase n m k is same = is ∙ sym same
counted_once events.Tick phase n m k is same = is ∙ sym same
counted_once events.Ask phase n m k is same = is ∙ sym same
counted_once events.CaughtUp phase n m k is same = is ∙ sym same
counted_once (events.Copied table batch) phase n m k is same = is ∙ sym same
counted_once (events.Nothing table) phase n m k is same = is ∙ sym same
counted_once (events.Written known) phase n m k is same = is ∙ sym same
counted_once (events.Settled table settled) phase n m k is same = is ∙ sym same
counted_once (events.Refused table) phase n m k is same = is ∙ sym same
counted_once events.End phase n m k is same = is ∙ sym same
counted_once events.ReadFault phase n m k is same = is ∙ sym same
counted_once events.WriteFault phase n m k is same = is ∙ sym same
