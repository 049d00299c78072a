-- One action with its answer, and what it adds to those before it.
use Rattle.std.proofs.Common.{◌≡◌, ℕ, List, [], ◌∷◌, ◌++◌, Option, Some, None, refl, sym, ap, ◌∙◌, subst, append_assoc}
use Rattle.peers_devices.proofs.WritingLaws.{writes_nothing, writes_then}
use Rattle.std.proofs.lemmas.List.{append-nil}
use Rattle.std.proofs.lemmas.List.Concat.{flat_map-append}
use Rattle.std.specs.Prelude.{◌≢◌}
use Rattle.peers_devices.specs.Writing.{AreWritten, Written}
use Rattle.table_shards.specs.Receipts.{SeatState}
use Rattle.table_shards.specs.Rounds.{ShardsState}
use Rattle.session_core.specs.declared.action.Action.{Action}
use Rattle.session_core.specs.declared.event.Event.{Event}
use Rattle.session_core.specs.declared.state.State.TheVariants as states
use Rattle.session_core.specs.Keeping.{KeptSession}
use Rattle.session_core.specs.Sessions.{state_of}
use Rattle.session_core.specs.Hearing.{asked_in}
use Rattle.peers_engine.specs.declared.errors.EngineError.{EngineError}
use Rattle.peers_engine.specs.Acting.{Acts, DoesNotGoOn, IsGiven, Stops, Worker, stands}
use Rattle.peers_engine.proofs.ActLaws.{acts_on, one_act}
use Rattle.peers_engine.proofs.HaltLaws.{cut_more, lost_later}
use Rattle.peers_engine.proofs.TurnLaws.{AreDone, AreStopped, OneDoneBy, OneFailsBy, give_fails, next_fails}

-- an action is performed, its answer, if it has one, is received, what that asks for is kept, and the bytes are written
abbrev pub IsOne : Worker → Action → List Action → List Action → Worker → Written → Written → Type 0
IsOne w act given more e old new =
    (answers : List (Event × List Action)) × (out : List ℕ) × Acts w (act ∷ []) answers out e × (more ≡ given ++ asked_in answers) × AreWritten old new out

-- ---- the action alone

-- it has no answer
pub silently_done : (w : Worker) (seat : SeatState) (act : Action) (given : List Action) (old new : Written)
    → OneDoneBy w seat act old new None → IsOne w act given given (stands w w.session seat) old new
silently_done w seat act given old new (out, done, appended) =
    ([], out, one_act w w.session seat act None [] out done (refl, refl), sym (append-nil given), appended)

-- its answer is received
pub answered : (w : Worker) (e : KeptSession) (seat : SeatState) (act : Action) (answer : Event) (given more : List Action) (old new : Written)
    → OneDoneBy w seat act old new (Some answer)
    → ((steps : List (Event × List Action)) × IsGiven w.session w.now (Some answer) steps e × (more ≡ given ++ asked_in steps))
    → IsOne w act given more (stands w e seat) old new
answered w e seat act answer given more old new (out, done, appended) (steps, gives, kept) =
    (steps, out, one_act w e seat act (Some answer) steps out done gives, kept, appended)

none_yet : (w : Worker) (old : Written) → AreDone w [] [] w old old
none_yet w old = ([], [], (refl, refl, refl), refl, writes_nothing old)

-- it fails
pub fails_alone : (shards : ShardsState) (w : Worker) (seat : SeatState) (act : Action) (error : EngineError) (old new : Written)
    → OneFailsBy shards w seat act old new error → AreStopped shards w (act ∷ []) error w.session seat old new
fails_alone shards w seat act error old new fails =
    next_fails shards w w seat (act ∷ []) [] [] [] act error old old new refl (none_yet w old) fails

-- the session doesn't go on after its answer
pub unanswered : (shards : ShardsState) (w : Worker) (e : KeptSession) (seat : SeatState) (act : Action) (answer : Event) (error : EngineError) (old new : Written)
    → OneDoneBy w seat act old new (Some answer)
    → (state_of w.session.session.phase ≢ states.Ended) × DoesNotGoOn w.session w.now answer error e
    → AreStopped shards w (act ∷ []) error e seat old new
unanswered shards w e seat act answer error old new done (going, stuck) =
    give_fails shards w w e seat (act ∷ []) [] [] [] act (Some answer) error old old new refl (none_yet w old) done (answer, refl, going, stuck)

-- ---- after others

pub one_more : (s mid e : Worker) (before given more : List Action) (act : Action) (a b d : Written)
    → AreDone s before given mid a b → IsOne mid act given more e b d → AreDone s (before ++ (act ∷ [])) more e a d
one_more s mid e before given more act a b d (answers, out, acted, kept, appended) (steps, bytes, one, is, then) = (
  answers ++ steps,
  out ++ bytes,
  acts_on s mid e before (act ∷ []) answers steps out bytes acted one,
  is ∙ (ap (λ (x : List Action). x ++ asked_in steps) kept ∙ sym (flat_map-append (λ (step : Event × List Action). step.1) answers steps)),
  writes_then a b d out bytes appended then,
)

stops_on : (shards : ShardsState) (s mid : Worker) (e : KeptSession) (seat : SeatState) (before rest : List Action) (act : Action) (error : EngineError) (answers more : List (Event × List Action)) (out last : List ℕ)
    → Acts s before answers out mid → Stops shards mid (act ∷ []) error more last e seat → Stops shards s (before ++ (act ∷ rest)) error (answers ++ more) (out ++ last) e seat
stops_on shards s mid e seat before rest act error answers more out last acted (done, left, first, cut, then, is, also, why, written, over) = (
  before ++ done,
  left ++ rest,
  out ++ first,
  cut,
  then,
  ap (λ (x : List Action). before ++ (x ++ rest)) is ∙ (ap (λ (x : List Action). before ++ x) (append_assoc done left rest) ∙ sym (append_assoc before done (left ++ rest))),
  acts_on s mid then before done answers more out first acted also,
  lost_later shards then seat (left ++ rest) answers more error cut (cut_more shards then seat left rest more error cut why),
  ap (λ (x : List ℕ). out ++ x) written ∙ sym (append_assoc out first cut),
  over,
)

pub one_fails : (shards : ShardsState) (s mid : Worker) (e : KeptSession) (seat : SeatState) (all before rest given : List Action) (act : Action) (error : EngineError) (a b d : Written)
    → all ≡ before ++ (act ∷ rest) → AreDone s before given mid a b → AreStopped shards mid (act ∷ []) error e seat b d → AreStopped shards s all error e seat a d
one_fails shards s mid e seat all before rest given act error a b d is (answers, out, acted, kept, appended) (more, last, stops, then) = (
  answers ++ more,
  out ++ last,
  subst (λ (x : List Action). Stops shards s x error (answers ++ more) (out ++ last) e seat) (sym is)
      (stops_on shards s mid e seat before rest act error answers more out last acted stops),
  writes_then a b d out last appended then,
)
