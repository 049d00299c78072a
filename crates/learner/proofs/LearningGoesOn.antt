-- Messages that are learned one after another.
use Rattle.std.proofs.Common.{◌≡◌, ℕ, false, List, [], ◌∷◌, ◌++◌, Some, Ok, refl, sym, ap, ◌∙◌, subst, append_assoc, length}
use Rattle.std.proofs.lemmas.List.{append-nil}
use Rattle.std.specs.Prelude.{map}
use Rattle.table_types.specs.declared.key.Key.{Key}
use Rattle.table_types.specs.Tables.{Definition}
use Rattle.table_types.specs.Rows.{StoredRow}
use Rattle.table_types.specs.declared.update.Update.{Update}
use Rattle.peers_msg.specs.declared.message.Message.{Message}
use Rattle.learner.specs.Intake.{Taking, Gives, rows_of, begun}
use Rattle.learner.specs.declared.taken.Taken.{Taken}
use Rattle.learner.specs.Rows.{put_all}
use Rattle.learner.specs.Learning.{Learning, unlearned, Learns, AreLearned, LearnsOne}

-- one more message
pub learned_more : (now : ℕ) (l mid e : Learning) (ms : List Message) (us one : List Update) (m : Message) → AreLearned now l ms us mid → Learns now mid m one e → AreLearned now l (ms ++ (m ∷ [])) (us ++ one) e
learned_more now l mid e [] us one m (none, here) learns =
    let begins : Learns now l m one e = subst (λ (x : Learning). Learns now x m one e) here learns in
    (one, [], e, rw none (sym (append-nil one)), begins, (refl, refl))
learned_more now l mid e (k ∷ ms) us one m (first, rest, next, all, begins, later) learns =
    let grouped : us ++ one ≡ first ++ (rest ++ one) = rw all (simp append_assoc) in
    (first, rest ++ one, next, grouped, begins, learned_more now next mid e ms rest one m later learns)

-- an open learner stays open while messages are learned
pub stays_open : (now : ℕ) (l e : Learning) (ms : List Message) (us : List Update) → l.intake.closed ≡ false → AreLearned now l ms us e → e.intake.closed ≡ false
stays_open now l e [] us is_open (none, here) = ap (λ (x : Learning). x.intake.closed) here ∙ is_open
stays_open now l e (m ∷ ms) us is_open (first, rest, next, all, begins, later) =
    stays_open now next e ms rest (ap (λ (x : Taking). x.closed) begins.0.6) later

-- the roster doesn't change
pub roster_stays : (now : ℕ) (l e : Learning) (ms : List Message) (us : List Update) → AreLearned now l ms us e → e.intake.roster ≡ l.intake.roster
roster_stays now l e [] us (none, here) = ap (λ (x : Learning). x.intake.roster) here
roster_stays now l e (m ∷ ms) us (first, rest, next, all, begins, later) =
    roster_stays now next e ms rest later ∙ ap (λ (x : Taking). x.roster) begins.0.6

-- a learner that has been fed nothing
pub begins_so : (roster : List Definition) (t : Taking) (rows : List (List (Key × StoredRow))) → t ≡ begun roster → rows ≡ map (λ _. []) roster → record { intake = t; rows = rows } ≡ unlearned roster
begins_so roster t rows is held =
    ap (λ (x : Taking). record { intake = x; rows = rows }) is ∙ ap (λ (r : List (List (Key × StoredRow))). record { intake = begun roster; rows = r }) held

-- ---- one message

-- the rows that the message gives are put
pub gives_rows : (now : ℕ) (l : Learning) (e : Taking) (answer : Taken) (rows : List (List (Key × StoredRow))) (count : ℕ) → Gives l.intake (Ok answer) e → rows ≡ put_all now e.roster (rows_of answer) l.rows → count ≡ length (rows_of answer) → LearnsOne now l (Ok (Some count)) (record { intake = e; rows = rows })
gives_rows now l e answer rows count (m, takes, says) is counted =
    (m, rows_of answer, (takes, is ∙ ap (λ (ds : List Definition). put_all now ds (rows_of answer) l.rows) (ap (λ (t : Taking). t.roster) takes.6)), counted)
