-- However a stream is cut, a reader reads the same.
use Rattle.std.proofs.Common.{◌≡◌, ◌≢◌, ℕ, List, [], ◌∷◌, ◌++◌, Option, Some, None, Result, Ok, Err, refl, sym, ap, subst, ◌∙◌, append_assoc, inl, inr}
use Rattle.peers_msg.specs.Integers.{IsBytes}
use Rattle.peers_msg.proofs.CuttingIndependence.{front_good}
use Rattle.learner.specs.declared.fault.Fault.{Fault}
use Rattle.learner.specs.declared.fault.Fault.TheVariants as faults
use Rattle.learner.specs.declared.taken.Taken.{Taken}
use Rattle.learner.specs.Intake.{Taking, fed}
use Rattle.tolerant_intake.specs.Tolerance.{Tolerance}
use Rattle.tolerant_intake.specs.Reading.{AreRead, IsLast, Reads}
use Rattle.tolerant_intake.proofs.ReadingGoesOn.{always_reads, reads_more, reads_once, given_no_memory}

-- what is left after a message is bytes
pub left_good : (l : Option Tolerance) (t e : Taking) (answer : Taken) (after : Option Tolerance) → IsBytes t.unread → Reads l t (Ok (Some answer)) e after → IsBytes e.unread
left_good l t e answer after good reads = elim (always_reads l t good) [
  | inl waits ↦
      let same = (reads_once l t e t (Ok (Some answer)) (Ok None) after l reads waits (given_no_memory (Some answer)) (given_no_memory None)).0 in
      absurd cc
  | inr (inl (other, left, then, again, fewer, bytes)) ↦
      let same = reads_once l t e left (Ok (Some answer)) (Ok (Some other)) after then reads again (given_no_memory (Some answer)) (given_no_memory (Some other)) in
      subst (λ (x : Taking). IsBytes x.unread) (sym same.1) bytes
  | inr (inr (fault, left, then, wanted, again)) ↦
      let same = (reads_once l t e left (Ok (Some answer)) (Err fault) after then reads again (given_no_memory (Some answer)) (λ is. wanted (fault_is fault is))).0 in
      absurd cc
]
  where
    fault_is : (fault : Fault) → ◌≡◌ {A = Result (Option Taken) Fault} (Err fault) (Err faults.Memory) → fault ≡ faults.Memory
    fault_is fault same = cc

-- messages that are read are read with more bytes after them
pub are_read_more : (answers : List Taken) (l : Option Tolerance) (t e : Taking) (more : List ℕ) (after : Option Tolerance) → IsBytes t.unread → AreRead l t answers e after → AreRead l (fed t more) answers (fed e more) after
are_read_more [] l t e more after good (here, left) = (ap (λ (x : Taking). fed x more) here, left)
are_read_more (answer ∷ answers) l t e more after good (mid, between, one, others) =
    (fed mid more, between, reads_more l t mid answer more between good one, are_read_more answers between mid e more after (left_good l t mid answer between good one) others)

pub then_read : (answers others : List Taken) (l : Option Tolerance) (t mid e : Taking) (between after : Option Tolerance) → AreRead l t answers mid between → AreRead between mid others e after → AreRead l t (answers ++ others) e after
then_read [] others l t mid e between after (here, left) later =
    subst (λ (x : Taking). AreRead l x others e after) here (subst (λ (o : Option Tolerance). AreRead o mid others e after) left later)
then_read (answer ∷ answers) others l t mid e between after (next, held, one, rest) later =
    (next, held, one, then_read answers others held next mid e between after rest later)

-- one piece after another is read as both together
pub two_read : (l : Option Tolerance) (t mid e : Taking) (between after : Option Tolerance) (a b : List ℕ) (answers others : List Taken) → IsBytes (t.unread ++ (a ++ b)) → AreRead l (fed t a) answers mid between → AreRead between (fed mid b) others e after
    → AreRead l (fed t (a ++ b)) (answers ++ others) e after
two_read l t mid e between after a b answers others good first second =
    let grouped : (t.unread ++ a) ++ b ≡ t.unread ++ (a ++ b) = append_assoc t.unread a b in
    let front : IsBytes (t.unread ++ a) = front_good (t.unread ++ a) b (subst IsBytes (sym grouped) good) in
    let on = are_read_more answers l (fed t a) mid b between front first in
    let whole : AreRead l (fed t (a ++ b)) answers (fed mid b) between = subst (λ (bytes : List ℕ). AreRead l (record t { unread = bytes }) answers (fed mid b) between) grouped on in
    then_read answers others l (fed t (a ++ b)) (fed mid b) e between after whole second

-- ---- only one outcome

no_last : (answer : Taken) (last : Result (Option Taken) Fault) → IsLast last → last ≡ Ok (Some answer) → ⊥
no_last answer last ends same = subst IsLast same ends

last_no_memory : (last : Result (Option Taken) Fault) → IsLast last → last ≢ Err faults.Memory
last_no_memory last ends same = subst IsLast same ends

-- the messages and the end that are read are the only ones
pub same_read : (answers others : List Taken) (l : Option Tolerance) (t a b e f : Taking) (x y after then : Option Tolerance) (one other : Result (Option Taken) Fault) → AreRead l t answers a x → AreRead l t others b y
    → Reads x a one e after → Reads y b other f then → IsLast one → IsLast other → (answers ≡ others) × (one ≡ other) × (e ≡ f) × (after ≡ then)
same_read [] [] l t a b e f x y after then one other (here, left) (here', left') ends ends' last last' =
    let first : Reads l t one e after = subst (λ (o : Option Tolerance). Reads o t one e after) left (subst (λ (s : Taking). Reads x s one e after) here ends) in
    let second : Reads l t other f then = subst (λ (o : Option Tolerance). Reads o t other f then) left' (subst (λ (s : Taking). Reads y s other f then) here' ends') in
    let same = reads_once l t e f one other after then first second (last_no_memory one last) (last_no_memory other last') in
    (refl, same.0, same.1, same.2)
same_read [] (answer ∷ others) l t a b e f x y after then one other (here, left) (mid, between, reads, rest) ends ends' last last' =
    let first : Reads l t one e after = subst (λ (o : Option Tolerance). Reads o t one e after) left (subst (λ (s : Taking). Reads x s one e after) here ends) in
    let same = reads_once l t e mid one (Ok (Some answer)) after between first reads (last_no_memory one last) (given_no_memory (Some answer)) in
    absurd (no_last answer one last same.0)
same_read (answer ∷ answers) [] l t a b e f x y after then one other (mid, between, reads, rest) (here, left) ends ends' last last' =
    let second : Reads l t other f then = subst (λ (o : Option Tolerance). Reads o t other f then) left (subst (λ (s : Taking). Reads y s other f then) here ends') in
    let same = reads_once l t f mid other (Ok (Some answer)) then between second reads (last_no_memory other last') (given_no_memory (Some answer)) in
    absurd (no_last answer other last' same.0)
same_read (answer ∷ answers) (given ∷ others) l t a b e f x y after then one other (mid, between, reads, rest) (mid', between', reads', rest') ends ends' last last' =
    let same = reads_once l t mid mid' (Ok (Some answer)) (Ok (Some given)) between between' reads reads' (given_no_memory (Some answer)) (given_no_memory (Some given)) in
    let again : AreRead between mid others b y = subst (λ (o : Option Tolerance). AreRead o mid others b y) (sym same.2) (subst (λ (s : Taking). AreRead between' s others b y) (sym same.1) rest') in
    let all = same_read answers others between mid a b e f x y after then one other rest again ends ends' last last' in
    (ap (λ (z : Taken). z ∷ answers) (one_given answer given same.0) ∙ ap (λ (zs : List Taken). given ∷ zs) all.0, all.1, all.2, all.3)
  where
    one_given : (p q : Taken) → ◌≡◌ {A = Result (Option Taken) Fault} (Ok (Some p)) (Ok (Some q)) → p ≡ q
    one_given p q same = cc
