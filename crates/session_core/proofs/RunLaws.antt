-- A resync ends only once everything is taught.
use Rattle.std.proofs.Common.{◌≡◌, ℕ, Bool, true, false, List, [], ◌∷◌, ◌++◌, Some, None, Option, Ok, Err, Result, refl, sym, ap, ◌∙◌, subst, inl, inr, append_assoc, cond, ◌==◌}
use Rattle.std.specs.Prelude.{drop}
use Rattle.std.specs.List.{AllByRecursion}
use Rattle.std.proofs.lemmas.List.{append-nil}
use Rattle.std.proofs.lemmas.Bool.{false≢true}
use Rattle.table_types.specs.Tables.{Definition}
use Rattle.table_types.specs.declared.copies.CopyKind.TheVariants as kinds
use Rattle.table_types.specs.declared.copies.Settled.{Settled}
use Rattle.table_types.specs.declared.copies.Settled.TheVariants as settles
use Rattle.table_types.specs.declared.version.Version.{Version}
use Rattle.peers_hello.specs.declared.hello.Hello.{Hello}
use Rattle.peers_hello.specs.declared.hello.Answer.{Answer}
use Rattle.peers_hello.specs.declared.hello.Answer.TheVariants as answers
use Rattle.peers_hello.specs.declared.status.Status.{Status}
use Rattle.peers_hello.specs.declared.status.Status.TheVariants as statuses
use Rattle.peers_hello.specs.Hellos.{answer_of}
use Rattle.peers_hello.specs.Statuses.{status_of}
use Rattle.session_core.specs.declared.action.Action.{Action}
use Rattle.session_core.specs.declared.action.Action.TheVariants as actions
use Rattle.session_core.specs.declared.event.Event.{Event}
use Rattle.session_core.specs.declared.event.Event.TheVariants as events
use Rattle.session_core.specs.declared.due.Due.{Due}
use Rattle.session_core.specs.declared.due.Due.TheVariants as dues
use Rattle.session_core.specs.declared.halt.Halt.{Halt}
use Rattle.session_core.specs.declared.halt.Halt.TheVariants as halts
use Rattle.session_core.specs.declared.phase.Greeter.{Greeter}
use Rattle.session_core.specs.declared.phase.Greeter.TheVariants as greeters
use Rattle.session_core.specs.Phases.{Phase}
use Rattle.session_core.specs.Phases as phases
use Rattle.session_core.specs.declared.share.Share.{Share}
use Rattle.session_core.specs.Shares.{any_out, all_quiet, quiet_set}
use Rattle.session_core.specs.Actions.{sends_control, status_text}
use Rattle.session_core.specs.Courses.{Course, course_fed, ReceivesAll, acks_given, table_to_ask}
use Rattle.session_core.specs.Sessions.{SessionState, Goes, GoesIn, GoesNew, GoesHello, GoesOpen, Concludes, ReceivesBytes, IsWelcomed, Connects, Accepts, Greets, Turns, HasNothing, FinishesResync, StartsPendingResync, Settles, first_word, opening, speaking}
use Rattle.session_core.specs.Runs.{IsBegun, ends_resync, HasNothingLeft, HasNothingOut}
use Rattle.session_core.proofs.MachineRuns.{Runs}
use Rattle.session_core.proofs.ShareLemmas.{shares_in, ids_of, shares_begin, none_out, each_quiet}
use Rattle.session_core.proofs.EndLemmas.{is_plain, plain_append, plain_all, plain_acks, plain_ready, plain_status, plain_reopens, plain_word}
use Rattle.session_core.proofs.RunLemmas.{IsKeptIn, IsSound}
use Rattle.session_core.proofs.StepLemmas.{goes_kept, with_step, quieted}

-- ---- runs

pub run_kept : (ids : List ℕ) (before steps : List (Event × List Action)) (s e : SessionState) → IsKeptIn false ids before s.phase → Runs s steps e → IsKeptIn false ids (before ++ steps) e.phase
run_kept ids before [] s e kept here =
    subst (λ (steps : List (Event × List Action)). IsKeptIn false ids steps e.phase) (sym (append-nil before)) (subst (λ (x : SessionState). IsKeptIn false ids before x.phase) (sym here) kept)
run_kept ids before (step ∷ steps) s e kept (mid, goes, runs) =
    let grouped : with_step before step.0 step.1 ++ steps ≡ before ++ (step ∷ steps) = append_assoc before (step ∷ []) steps in
    subst (λ (all : List (Event × List Action)). IsKeptIn false ids all e.phase) grouped
    (run_kept ids (with_step before step.0 step.1) steps mid e (goes_kept false ids before s.phase s step.0 step.1 mid kept goes) runs)

pub begun_kept : (roster : List Definition) (s : SessionState) → IsBegun roster s → IsKeptIn false (ids_of roster) [] s.phase
begun_kept roster s (inl (hello, up_to_date, is)) = subst (λ (x : SessionState). IsKeptIn false (ids_of roster) [] x.phase) (sym is) (shares_begin roster, refl, refl, refl)
begun_kept roster s (inr (own, peers, up_to_date, is)) = subst (λ (x : SessionState). IsKeptIn false (ids_of roster) [] x.phase) (sym is) (shares_begin roster, refl, refl, refl)

-- ---- the step that ends a resync

-- no batch is outstanding before and then, and no table has anything left to teach
abbrev pub HasTaughtAll : List Definition → List (Event × List Action) → SessionState → Event → List Action → SessionState → Type 0
HasTaughtAll roster steps s event acts e = HasNothingOut s × HasNothingOut e × AllByRecursion (λ d. HasNothingLeft kinds.Resync (with_step steps event acts) d.id) roster

-- actions that end no resync
no_end : {X : Type 0} (acts given : List Action) → acts ≡ given → ends_resync given ≡ false → ends_resync acts ≡ true → X
no_end acts given is plain ends = absurd (false≢true (sym plain ∙ (sym (ap ends_resync is) ∙ ends)))

no_end_received : {X : Type 0} (s : SessionState) (c mid : Course) (first acts given : List Action) (e : SessionState) (result : Result (Unit {0}) Halt) → is_plain 0 first → ReceivesAll c result given mid → Concludes s mid result (first ++ given) acts e → ends_resync acts ≡ true → X
no_end_received s c mid first acts given e (Ok u) plain (ts, are, waits) (is, then) ends =
    no_end acts ((first ++ given) ++ acks_given mid) is (plain_append 0 (first ++ given) (acks_given mid) (plain_append 0 first given plain (plain_all 0 c mid ts given are)) (plain_acks 0 mid.intake)).0 ends
no_end_received s c mid first acts given e (Err halts.Failed) plain (ts, left, are, halted) (is, then) ends =
    no_end acts ((first ++ given) ++ (actions.Close ∷ [])) is (plain_append 0 (first ++ given) (actions.Close ∷ []) (plain_append 0 first given plain (plain_all 0 c left ts given are)) (refl, refl)).0 ends
no_end_received s c mid first acts given e (Err (halts.Fault fault)) plain (ts, left, are, halted) (is, then) ends =
    no_end acts ((first ++ given) ++ (actions.Part _ ∷ [])) is (plain_append 0 (first ++ given) (actions.Part _ ∷ []) (plain_append 0 first given plain (plain_all 0 c left ts given are)) (refl, refl)).0 ends
no_end_received s c mid first acts given e (Err halts.Memory) plain receives concludes ends = absurd concludes

no_end_receives : {X : Type 0} (s : SessionState) (c : Course) (first acts : List Action) (e : SessionState) → is_plain 0 first → ReceivesBytes s c first acts e → ends_resync acts ≡ true → X
no_end_receives s c first acts e plain (result, given, mid, receives, concludes) ends = no_end_received s c mid first acts given e result plain receives concludes ends

no_end_new : {X : Type 0} (s : SessionState) (hello : Hello) (c : Course) (event : Event) (acts : List Action) (e : SessionState) → GoesNew s hello c event acts e → ends_resync acts ≡ true → X
no_end_new s hello c events.Opened acts e (is, then) ends = no_end acts _ is refl ends
no_end_new s hello c events.Turn acts e (is, then) ends = no_end acts [] is refl ends
no_end_new s hello c events.Tick acts e (is, then) ends = no_end acts [] is refl ends
no_end_new s hello c events.Ask acts e (is, then) ends = no_end acts [] is refl ends
no_end_new s hello c events.CaughtUp acts e (is, then) ends = no_end acts [] is refl ends
no_end_new s hello c events.End acts e (is, then) ends = no_end acts (actions.Close ∷ []) is refl ends
no_end_new s hello c events.ReadFault acts e (is, then) ends = no_end acts (actions.Close ∷ []) is refl ends
no_end_new s hello c events.WriteFault acts e (is, then) ends = no_end acts (actions.Close ∷ []) is refl ends
no_end_new s hello c (events.Bytes bytes) acts e goes ends = absurd goes
no_end_new s hello c (events.Copied table batch) acts e goes ends = absurd goes
no_end_new s hello c (events.Nothing table) acts e goes ends = absurd goes
no_end_new s hello c (events.Written known) acts e goes ends = absurd goes
no_end_new s hello c (events.Settled table settled) acts e goes ends = absurd goes
no_end_new s hello c (events.Refused table) acts e goes ends = absurd goes

no_end_welcomed : {X : Type 0} (b : Bool) (version : Version) (code : ℕ) (s : SessionState) (c : Course) (rest : List ℕ) (acts : List Action) (e : SessionState) → IsWelcomed b version code s c rest acts e → ends_resync acts ≡ true → X
no_end_welcomed true version code s c rest acts e receives ends = no_end_receives (speaking version s) (course_fed c rest) (sends_control (first_word c.stays) ∷ opening version c.shares) acts e (plain_ready 0 (sends_control (first_word c.stays)) version c.shares (plain_word 0 c.stays)) receives ends
no_end_welcomed false version code s c rest acts e (is, then) ends = no_end acts (actions.Close ∷ []) is refl ends

no_end_connects : {X : Type 0} (version : Version) (status : Status) (s : SessionState) (bytes : List ℕ) (c : Course) (acts : List Action) (e : SessionState) → Connects version status s bytes c acts e → ends_resync acts ≡ true → X
no_end_connects version statuses.More s bytes c acts e (is, then) ends = no_end acts [] is refl ends
no_end_connects version (statuses.Code code used) s bytes c acts e goes ends = no_end_welcomed _ version code s c _ acts e goes ends
no_end_connects version (statuses.Other used) s bytes c acts e (is, then) ends = no_end acts (actions.Close ∷ []) is refl ends

no_end_accepts : {X : Type 0} (answer : Answer) (s : SessionState) (greeter : Greeter) (bytes : List ℕ) (c : Course) (acts : List Action) (e : SessionState) → Accepts answer s greeter bytes c acts e → ends_resync acts ≡ true → X
no_end_accepts answers.More s greeter bytes c acts e (is, then) ends = no_end acts [] is refl ends
no_end_accepts (answers.Accepted name version used) s greeter bytes c acts e goes ends = no_end_receives (speaking version s) (course_fed c (drop used bytes)) (actions.Send (status_text 200) ∷ opening version c.shares) acts e (plain_ready 0 (actions.Send (status_text 200)) version c.shares (plain_status 0 200)) goes ends
no_end_accepts (answers.Refused code used) s greeter bytes c acts e (is, then) ends =
    no_end acts ((actions.Send (status_text code) ∷ []) ++ (actions.Close ∷ [])) is (plain_append 0 (actions.Send (status_text code) ∷ []) (actions.Close ∷ []) (plain_status 0 code) (refl, refl)).0 ends

no_end_greets : {X : Type 0} (s : SessionState) (greeter : Greeter) (bytes : List ℕ) (c : Course) (acts : List Action) (e : SessionState) → Greets s greeter bytes c acts e → ends_resync acts ≡ true → X
no_end_greets s (greeters.Connects version) bytes c acts e goes ends = no_end_connects version (status_of bytes) s bytes c acts e goes ends
no_end_greets s (greeters.Accepts own peers) bytes c acts e goes ends = no_end_accepts (answer_of own peers bytes) s (greeters.Accepts own peers) bytes c acts e goes ends

no_end_hello : {X : Type 0} (s : SessionState) (greeter : Greeter) (bytes : List ℕ) (c : Course) (event : Event) (acts : List Action) (e : SessionState) → GoesHello s greeter bytes c event acts e → ends_resync acts ≡ true → X
no_end_hello s greeter bytes c (events.Bytes piece) acts e goes ends = no_end_greets s greeter (bytes ++ piece) c acts e goes ends
no_end_hello s greeter bytes c events.Turn acts e (is, then) ends = no_end acts [] is refl ends
no_end_hello s greeter bytes c events.Tick acts e (is, then) ends = no_end acts [] is refl ends
no_end_hello s greeter bytes c events.Ask acts e (is, then) ends = no_end acts [] is refl ends
no_end_hello s greeter bytes c events.CaughtUp acts e (is, then) ends = no_end acts [] is refl ends
no_end_hello s greeter bytes c events.End acts e (is, then) ends = no_end acts (actions.Close ∷ []) is refl ends
no_end_hello s greeter bytes c events.ReadFault acts e (is, then) ends = no_end acts (actions.Close ∷ []) is refl ends
no_end_hello s greeter bytes c events.WriteFault acts e (is, then) ends = no_end acts (actions.Close ∷ []) is refl ends
no_end_hello s greeter bytes c events.Opened acts e goes ends = absurd goes
no_end_hello s greeter bytes c (events.Copied table batch) acts e goes ends = absurd goes
no_end_hello s greeter bytes c (events.Nothing table) acts e goes ends = absurd goes
no_end_hello s greeter bytes c (events.Written known) acts e goes ends = absurd goes
no_end_hello s greeter bytes c (events.Settled table settled) acts e goes ends = absurd goes
no_end_hello s greeter bytes c (events.Refused table) acts e goes ends = absurd goes

no_end_turns : {X : Type 0} (asked : Option ℕ) (s : SessionState) (c : Course) (acts : List Action) (e : SessionState) → Turns asked s c acts e → ends_resync acts ≡ true → X
no_end_turns None s c acts e (is, then) ends = no_end acts [] is refl ends
no_end_turns (Some table) s c acts e (is, then) ends = no_end acts _ is refl ends

no_end_starts : {X : Type 0} (b : Bool) (s : SessionState) (c : Course) (acts : List Action) (e : SessionState) → StartsPendingResync b s c acts e → ends_resync acts ≡ true → X
no_end_starts true s c acts e (is, then) ends = no_end acts _ is (plain_reopens 0 c.shares).0 ends
no_end_starts false s c acts e (is, then) ends = no_end acts [] is refl ends

no_end_settles : {X : Type 0} (settled : Settled) (s : SessionState) (c : Course) (table : ℕ) (acts : List Action) (e : SessionState) → Settles settled s c table acts e → ends_resync acts ≡ true → X
no_end_settles settles.All s c table acts e starts ends = no_end_starts _ s _ acts e starts ends
no_end_settles settles.Some s c table acts e (is, then) ends = no_end acts [] is refl ends
no_end_settles settles.Older s c table acts e (is, then) ends = no_end acts [] is refl ends

-- making one table quiet leaves the outstanding batches as they were
quiet_keeps_out : (table : ℕ) (ss : List Share) → any_out (quiet_set table ss) ≡ any_out ss
quiet_keeps_out table [] = refl
quiet_keeps_out table (s ∷ ss) = rw (one_keeps_out (s.table == table) s, quiet_keeps_out table ss) refl
  where
    one_keeps_out : (b : Bool) (s : Share) → (cond b (record { table = s.table; out = s.out; quiet = true }) s).out ≡ s.out
    one_keeps_out true s = refl
    one_keeps_out false s = refl

finishes_taught : (roster : List Definition) (steps : List (Event × List Action)) (b : Bool) (s : SessionState) (c : Course) (table : ℕ) (rest : List Due) (acts : List Action) (e : SessionState) → s.phase ≡ phases.Open c → IsSound false (ids_of roster) steps c → c.due ≡ dues.Copy table ∷ rest → c.teaching ≡ true → all_quiet (quiet_set table c.shares) ≡ b → FinishesResync b s (record c { shares = quiet_set table c.shares; due = rest }) acts e → ends_resync acts ≡ true → HasTaughtAll roster steps s (events.Nothing table) acts e
finishes_taught roster steps false s c table rest acts e stands sound due teaching all (is, then) ends = no_end acts [] is refl ends
finishes_taught roster steps true s c table rest acts e stands sound due teaching all (is, then) ends =
    let q = quieted false (ids_of roster) steps c table rest acts sound due teaching (λ id. rw is (refl, refl)) in
    let quiet : all_quiet (shares_in (ids_of roster) q.0 q.1) ≡ true = sym (ap all_quiet q.2.0) ∙ all in
    let out : any_out (shares_in (ids_of roster) q.0 q.1) ≡ false = none_out (ids_of roster) q.0 q.1 (λ id quiets. (q.2.1 teaching id quiets).0) quiet in (
      (c, stands, sym (quiet_keeps_out table c.shares) ∙ (ap any_out q.2.0 ∙ out)),
      (record c { shares = quiet_set table c.shares; due = rest; teaching = false }, ap (λ (x : SessionState). x.phase) then, ap any_out q.2.0 ∙ out),
      each_quiet (HasNothingLeft kinds.Resync (with_step steps (events.Nothing table) acts)) roster q.0 q.1 (λ id quiets. (q.2.1 teaching id quiets).1) quiet,
    )

nothing_taught : (roster : List Definition) (steps : List (Event × List Action)) (b : Bool) (s : SessionState) (c : Course) (table : ℕ) (rest : List Due) (acts : List Action) (e : SessionState) → s.phase ≡ phases.Open c → IsSound false (ids_of roster) steps c → c.due ≡ dues.Copy table ∷ rest → c.teaching ≡ b → HasNothing b s (record c { due = rest }) table acts e → ends_resync acts ≡ true → HasTaughtAll roster steps s (events.Nothing table) acts e
nothing_taught roster steps true s c table rest acts e stands sound due teaching quiets ends = finishes_taught roster steps _ s c table rest acts e stands sound due teaching refl quiets ends
nothing_taught roster steps false s c table rest acts e stands sound due teaching (is, then) ends = no_end acts [] is refl ends

open_taught : (roster : List Definition) (steps : List (Event × List Action)) (s : SessionState) (c : Course) (event : Event) (acts : List Action) (e : SessionState) → s.phase ≡ phases.Open c → IsSound false (ids_of roster) steps c → GoesOpen s c event acts e → ends_resync acts ≡ true → HasTaughtAll roster steps s event acts e
open_taught roster steps s c events.Turn acts e stands sound (none, turns) ends = no_end_turns (table_to_ask c) s c acts e turns ends
open_taught roster steps s c events.Tick acts e stands sound (none, (is, then)) ends = no_end acts _ is refl ends
open_taught roster steps s c events.Ask acts e stands sound (none, (is, then)) ends = no_end acts _ is refl ends
open_taught roster steps s c events.CaughtUp acts e stands sound (none, (is, then)) ends = no_end acts _ is refl ends
open_taught roster steps s c (events.Bytes bytes) acts e stands sound (none, receives) ends = no_end_receives s (course_fed c bytes) [] acts e (refl, refl) receives ends
open_taught roster steps s c (events.Copied table batch) acts e stands sound (mid, answered, (is, then)) ends = no_end acts (actions.Teach batch ∷ []) is refl ends
open_taught roster steps s c (events.Nothing table) acts e stands sound (mid, answered, nothing) ends =
    nothing_taught roster steps c.teaching s c table mid.due acts e stands sound answered.0 refl (subst (λ (m : Course). HasNothing m.teaching s m table acts e) answered.1 nothing) ends
open_taught roster steps s c (events.Written known) acts e stands sound (mid, answered, is, then) ends = no_end acts [] is refl ends
open_taught roster steps s c (events.Settled table settled) acts e stands sound (mid, answered, settles) ends = no_end_settles settled s mid table acts e settles ends
open_taught roster steps s c (events.Refused table) acts e stands sound (mid, answered, is, then) ends = no_end acts _ is refl ends
open_taught roster steps s c events.End acts e stands sound (is, then) ends = no_end acts (actions.Close ∷ []) is refl ends
open_taught roster steps s c events.ReadFault acts e stands sound (is, then) ends = no_end acts (actions.Close ∷ []) is refl ends
open_taught roster steps s c events.WriteFault acts e stands sound (is, then) ends = no_end acts (actions.Close ∷ []) is refl ends
open_taught roster steps s c events.Opened acts e stands sound goes ends = absurd goes

in_taught : (roster : List Definition) (steps : List (Event × List Action)) (phase : Phase) (s : SessionState) (event : Event) (acts : List Action) (e : SessionState) → s.phase ≡ phase → IsKeptIn false (ids_of roster) steps phase → GoesIn phase s event acts e → ends_resync acts ≡ true → HasTaughtAll roster steps s event acts e
in_taught roster steps (phases.New hello c) s event acts e stands kept goes ends = no_end_new s hello c event acts e goes ends
in_taught roster steps (phases.Hello greeter bytes c) s event acts e stands kept goes ends = no_end_hello s greeter bytes c event acts e goes ends
in_taught roster steps (phases.Open c) s event acts e stands kept goes ends = open_taught roster steps s c event acts e stands kept goes ends
in_taught roster steps phases.Ended s event acts e stands kept goes ends = absurd goes

pub ends_taught : (roster : List Definition) (begun s e : SessionState) (steps : List (Event × List Action)) (event : Event) (acts : List Action) → IsBegun roster begun → Runs begun steps s → Goes s event acts e → ends_resync acts ≡ true → HasTaughtAll roster steps s event acts e
ends_taught roster begun s e steps event acts begins runs goes ends =
    in_taught roster steps s.phase s event acts e refl (run_kept (ids_of roster) [] steps begun s (begun_kept roster begun begins) runs) goes ends

-- no answer is due before the session is open
pub none_due_in_hello : (roster : List Definition) (begun s : SessionState) (steps : List (Event × List Action)) (greeter : Greeter) (bytes : List ℕ) (c : Course) → IsBegun roster begun → Runs begun steps s → s.phase ≡ phases.Hello greeter bytes c → c.due ≡ []
none_due_in_hello roster begun s steps greeter bytes c begins runs is =
    (subst (IsKeptIn false (ids_of roster) steps) is (run_kept (ids_of roster) [] steps begun s (begun_kept roster begun begins) runs)).2
