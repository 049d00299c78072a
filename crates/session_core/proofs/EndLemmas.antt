-- What ends a resync, and what copies: not the answers to the remote peer's messages.
use Rattle.std.proofs.Common.{◌≡◌, ℕ, Bool, true, false, ◌&&◌, List, [], ◌∷◌, ◌++◌, Some, None, Option, refl, ◌∙◌, cond}
use Rattle.std.specs.Prelude.{filter_map, option_map}
use Rattle.std.specs.Fmt.{decimal}
use Rattle.std.specs.List.{AllByRecursion, cons_option}
use Rattle.std.proofs.lemmas.List.Folds.{list_any-append}
use Rattle.table_types.specs.Tables.{Definition}
use Rattle.table_types.specs.declared.version.Version.{Version}
use Rattle.table_types.specs.declared.version.Version.TheVariants as versions
use Rattle.peers_msg.specs.declared.control.Control.{Control}
use Rattle.peers_msg.specs.declared.control.Control.TheVariants as controls
use Rattle.peers_msg.specs.declared.message.Message.{Message}
use Rattle.peers_msg.specs.declared.message.Message.TheVariants as messages
use Rattle.peers_msg.specs.Spelling.{spelled}
use Rattle.peers_hello.specs.Lines.{is_same}
use Rattle.learner.specs.declared.taken.Taken.{Taken}
use Rattle.learner.specs.declared.taken.Taken.TheVariants as taken
use Rattle.learner.specs.Intake.{Taking, due_ack, due_acks}
use Rattle.session_core.specs.declared.share.Share.{Share}
use Rattle.session_core.specs.declared.action.Action.{Action}
use Rattle.session_core.specs.declared.action.Action.TheVariants as actions
use Rattle.session_core.specs.Actions.{control_text, sends_control, sends_acks, status_text, reopens}
use Rattle.session_core.specs.Acks.{ack_of}
use Rattle.session_core.specs.Courses.{Course, message_received, said, requested, ack_received, acknowledged, AreReceived}
use Rattle.session_core.specs.Sessions.{first_word, opening}
use Rattle.session_core.specs.Cutting.{without_acks}
use Rattle.session_core.specs.Runs.{is_end, ends_resync, is_copy_of, copies}

-- the actions neither end a resync nor copy
abbrev pub is_plain : ℕ → List Action → Type 0
is_plain id acts = (ends_resync acts ≡ false) × (copies id acts ≡ false)

pub plain_append : (id : ℕ) (xs ys : List Action) → is_plain id xs → is_plain id ys → is_plain id (xs ++ ys)
plain_append id xs ys (one, other) (ends, copied) =
    (list_any-append is_end xs ys ∙ rw (one, ends) refl, list_any-append (is_copy_of id) xs ys ∙ rw (other, copied) refl)

pub plain_reopens : (id : ℕ) (ss : List Share) → is_plain id (reopens ss)
plain_reopens id [] = (refl, refl)
plain_reopens id (s ∷ ss) = plain_reopens id ss

plain_opening : (id : ℕ) (version : Version) (ss : List Share) → is_plain id (opening version ss)
plain_opening id versions.V20 ss = plain_reopens id ss
plain_opening id versions.V21 ss = (refl, refl)

pub plain_word : (id : ℕ) (stays : Bool) → is_plain id (sends_control (first_word stays) ∷ [])
plain_word id true = (refl, refl)
plain_word id false = (refl, refl)

-- what a session does on becoming Ready
pub plain_ready : (id : ℕ) (first : Action) (version : Version) (ss : List Share) → is_plain id (first ∷ []) → is_plain id (first ∷ opening version ss)
plain_ready id first version ss plain = plain_append id (first ∷ []) (opening version ss) plain (plain_opening id version ss)

plain_requested : (id : ℕ) (b : Bool) (c : Course) → is_plain id (requested b c).0
plain_requested id true c = (refl, refl)
plain_requested id false c = plain_reopens id c.shares

plain_said : (id : ℕ) (c : Course) (control : Control) (b : Bool) → is_plain id (said c control).0
plain_said id c controls.ResyncRequest b = plain_requested id _ c
plain_said id c controls.ResyncFinished b = (refl, refl)
plain_said id c controls.ResyncPartial b = (refl, refl)
plain_said id c controls.ResyncConfirmed b = (refl, refl)
plain_said id c controls.Heartbeat b = (refl, refl)

plain_acknowledged : (id : ℕ) (b : Bool) (c : Course) (table number : ℕ) → is_plain id (acknowledged b c table number).0
plain_acknowledged id true c table number = (refl, refl)
plain_acknowledged id false c table number = (refl, refl)

plain_ack : (id : ℕ) (c : Course) (ack : Option (ℕ × ℕ)) → is_plain id (ack_received c ack).0
plain_ack id c (Some (table, number)) = plain_acknowledged id _ c table number
plain_ack id c None = (refl, refl)

-- what a message asks for is plain
pub plain_received : (id : ℕ) (c : Course) (t : Taken) → is_plain id (message_received c t).0
plain_received id c (taken.Row u) = (refl, refl)
plain_received id c taken.Passed = (refl, refl)
plain_received id c (taken.Said control) = plain_said id c control true
plain_received id c (taken.Acked table number) = plain_ack id c (ack_of c.intake.roster (taken.Acked table number))
plain_received id c (taken.Failed kind) = (refl, refl)

pub plain_all : (id : ℕ) (c e : Course) (ts : List Taken) (acts : List Action) → AreReceived c ts acts e → is_plain id acts
plain_all id c e [] acts (none, here) = rw none (refl, refl)
plain_all id c e (t ∷ ts) acts (mid, rest, receives, all, later) =
    rw all (plain_append id (message_received mid t).0 rest (plain_received id mid t) (plain_all id (message_received mid t).1 e ts rest later))

-- ---- acknowledgements

abbrev IsAck : Message → Type 0
IsAck (messages.Ack table number) = Unit {0}
IsAck m = ⊥

one_ack : (id : ℕ) (n : Option ℕ) (rest : List Message) → AllByRecursion IsAck rest → AllByRecursion IsAck (cons_option (option_map (λ number. messages.Ack id number) n) rest)
one_ack id None rest all = all
one_ack id (Some number) rest all = (tt, all)

ack_or_none : (b : Bool) (id : ℕ) (n : Option ℕ) (rest : List Message) → AllByRecursion IsAck rest → AllByRecursion IsAck (cons_option (cond b (option_map (λ number. messages.Ack id number) n) None) rest)
ack_or_none true id n rest all = one_ack id n rest all
ack_or_none false id n rest all = all

only_acks : (t : Taking) (ds : List Definition) → AllByRecursion IsAck (filter_map (due_ack t) ds)
only_acks t [] = tt
only_acks t (d ∷ ds) = ack_or_none _ d.id _ _ (only_acks t ds)

plain_acks_of : (id : ℕ) (ms : List Message) → AllByRecursion IsAck ms → is_plain id (sends_acks ms)
unfolding spelled
plain_acks_of id [] all = (refl, refl)
plain_acks_of id (messages.Ack table number ∷ ms) all = (refl, refl)
plain_acks_of id (messages.Control c ∷ ms) all = absurd all.0
plain_acks_of id (messages.Error e ∷ ms) all = absurd all.0
plain_acks_of id (messages.Define d ∷ ms) all = absurd all.0
plain_acks_of id (messages.Switch table ∷ ms) all = absurd all.0
plain_acks_of id (messages.Update u ∷ ms) all = absurd all.0
plain_acks_of id (messages.Other o ∷ ms) all = absurd all.0

pub plain_acks : (id : ℕ) (t : Taking) → is_plain id (sends_acks (due_acks t))
plain_acks id t = plain_acks_of id (due_acks t) (only_acks t t.state.received.tables)

-- none of their bytes is resync confirmed
silent_acks_of : (ms : List Message) → AllByRecursion IsAck ms → without_acks (sends_acks ms) ≡ []
unfolding spelled
silent_acks_of [] all = refl
silent_acks_of (messages.Ack table number ∷ ms) all = refl
silent_acks_of (messages.Control c ∷ ms) all = absurd all.0
silent_acks_of (messages.Error e ∷ ms) all = absurd all.0
silent_acks_of (messages.Define d ∷ ms) all = absurd all.0
silent_acks_of (messages.Switch table ∷ ms) all = absurd all.0
silent_acks_of (messages.Update u ∷ ms) all = absurd all.0
silent_acks_of (messages.Other o ∷ ms) all = absurd all.0

pub silent_acks : (t : Taking) → without_acks (sends_acks (due_acks t)) ≡ []
silent_acks t = silent_acks_of (due_acks t) (only_acks t t.state.received.tables)

-- ---- hello and status

and-no : (b : Bool) → (b && false) ≡ false
and-no true = refl
and-no false = refl

-- a text that ends with LF is no control message
pub no_control : (xs : List ℕ) (control : Control) → is_same (xs ++ (10 ∷ [])) (control_text control) ≡ false
no_control [] control = refl
no_control (x ∷ []) controls.ResyncRequest = and-no _
no_control (x ∷ []) controls.ResyncFinished = and-no _
no_control (x ∷ []) controls.ResyncPartial = and-no _
no_control (x ∷ []) controls.ResyncConfirmed = and-no _
no_control (x ∷ []) controls.Heartbeat = and-no _
no_control (x ∷ y ∷ []) control = rw and-no (and-no _)
no_control (x ∷ y ∷ z ∷ zs) control = rw and-no (and-no _)

pub plain_status : (id code : ℕ) → is_plain id (actions.Send (status_text code) ∷ [])
plain_status id code = (rw (no_control (decimal code) controls.ResyncFinished, no_control (decimal code) controls.ResyncPartial) refl, refl)
