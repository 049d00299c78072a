-- Why there is no session, as it is told.
use Rattle.std.proofs.Common.{◌≡◌, ℕ, Bool, true, false, cond, List, [], ◌∷◌, Some, None, refl, sym, ap, ◌∙◌}
use Rattle.std.proofs.lemmas.Bool.{false≢true}
use Rattle.node_core.specs.declared.last_errors.LastError.{LastError}
use Rattle.node_core.specs.declared.last_errors.LastError.TheVariants as errors
use Rattle.node_core.specs.declared.session_ends.SessionEnd.{SessionEnd}
use Rattle.node_rules.specs.declared.peer_record.PeerRecord.{PeerRecord}
use Rattle.node_rules.specs.PeerRecords.{alone, counted_end, ended, error_after, is_replaced, known_error, late, stands, state_of}
use Rattle.node_rules.specs.PeerRuns.{Happening, Tries, Fails, Refuses, Connects, Begins, GoesOn, Teaches, Learns, Ends, after, after_all}

-- no error is told while a session stands
abbrev IsCalm : PeerRecord → Type 0
IsCalm r = stands r ≡ true → r.last_error ≡ None

known_calm : (error : LastError) (r : PeerRecord) → IsCalm r → IsCalm (known_error error r)
known_calm error r calm = by (stands r) refl
  where
    by : (b : Bool) → stands r ≡ b → IsCalm (cond b r (record r { last_error = Some error }))
    by true is = calm
    by false is = λ up. absurd (false≢true (sym is ∙ up))

gone_on_calm : (asking teaching : Bool) (r : PeerRecord) → IsCalm r → IsCalm (after (GoesOn asking teaching) r)
gone_on_calm asking teaching r calm = by (stands r) refl
  where
    by : (b : Bool) → stands r ≡ b → IsCalm (cond b (record r { state = state_of asking teaching; teaches = teaching }) r)
    by true is = λ up. calm is
    by false is = calm

ended_calm : (end : SessionEnd) (now : ℕ) (r : PeerRecord) → IsCalm (ended end now r)
ended_calm end now r = by (stands r) (is_replaced end)
  where
    by : (b replaced : Bool) → IsCalm (cond b (late end now (record (alone r) { since = now; ended = counted_end end r.ended })) (cond replaced (alone r) (late end now (alone r))))
    by true replaced = λ up. absurd (false≢true up)
    by false true = λ up. absurd (false≢true up)
    by false false = λ up. absurd (false≢true up)

pub calm_after : (hs : List Happening) → stands (after_all hs) ≡ true → (after_all hs).last_error ≡ None
calm_after [] = λ up. absurd (false≢true up)
calm_after (Tries ∷ hs) = calm_after hs
calm_after (Fails failure ∷ hs) = known_calm (error_after failure) (record (after_all hs) { reaching = record (after_all hs).reaching { failure = Some failure } }) (calm_after hs)
calm_after (Refuses status ∷ hs) = known_calm (errors.HelloRefused status) (record (after_all hs) { reaching = record (after_all hs).reaching { refusal = Some status } }) (calm_after hs)
calm_after (Connects role ∷ hs) = calm_after hs
calm_after (Begins now version pid ∷ hs) = λ up. refl
calm_after (GoesOn asking teaching ∷ hs) = gone_on_calm asking teaching (after_all hs) (calm_after hs)
calm_after (Teaches end ∷ hs) = calm_after hs
calm_after (Learns end ∷ hs) = calm_after hs
calm_after (Ends end now ∷ hs) = ended_calm end now (after_all hs)

-- the last one is told while none stands
pub known_then : (error : LastError) (r : PeerRecord) → stands r ≡ false → (known_error error r).last_error ≡ Some error
known_then error r down = ap (λ (b : Bool). PeerRecord.last_error (cond b r (record r { last_error = Some error }))) down
