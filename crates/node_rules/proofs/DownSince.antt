-- Since when there is no session, as it is told.
use Rattle.std.proofs.Common.{◌≡◌, ℕ, Bool, true, false, cond, List, Some, refl, sym}
use Rattle.std.proofs.lemmas.Bool.{false≢true}
use Rattle.node_core.specs.declared.last_errors.LastError.{LastError}
use Rattle.node_core.specs.declared.last_errors.LastError.TheVariants as errors
use Rattle.node_core.specs.declared.session_ends.SessionEnd.{SessionEnd}
use Rattle.node_rules.specs.declared.peer_record.PeerRecord.{PeerRecord}
use Rattle.node_rules.specs.PeerRecords.{alone, counted_end, ended, error_after, is_replaced, known_error, late, stands, state_of}
use Rattle.node_rules.specs.PeerRuns.{Happening, Tries, Fails, Refuses, Connects, Begins, GoesOn, Teaches, Learns, Ends, after, after_all}

known_since : (error : LastError) (r : PeerRecord) → (known_error error r).since ≡ r.since
known_since error r = by (stands r)
  where
    by : (b : Bool) → (cond b r (record r { last_error = Some error })).since ≡ r.since
    by true = refl
    by false = refl

gone_on_since : (asking teaching : Bool) (r : PeerRecord) → (after (GoesOn asking teaching) r).since ≡ r.since
gone_on_since asking teaching r = by (stands r)
  where
    by : (b : Bool) → (cond b (record r { state = state_of asking teaching; teaches = teaching }) r).since ≡ r.since
    by true = refl
    by false = refl

ended_since : (end : SessionEnd) (now : ℕ) (r : PeerRecord) → stands r ≡ false → (ended end now r).since ≡ r.since
ended_since end now r = by (stands r) (is_replaced end)
  where
    by : (b replaced : Bool) → b ≡ false →
        (cond b (late end now (record (alone r) { since = now; ended = counted_end end r.ended })) (cond replaced (alone r) (late end now (alone r)))).since ≡ r.since
    by true replaced = λ is. absurd (false≢true (sym is))
    by false true = λ is. refl
    by false false = λ is. refl

stays_since : (h : Happening) (r : PeerRecord) → stands r ≡ false → stands (after h r) ≡ false → (after h r).since ≡ r.since
stays_since Tries r down still = refl
stays_since (Fails failure) r down still = known_since (error_after failure) (record r { reaching = record r.reaching { failure = Some failure } })
stays_since (Refuses status) r down still = known_since (errors.HelloRefused status) (record r { reaching = record r.reaching { refusal = Some status } })
stays_since (Connects role) r down still = refl
stays_since (Begins now version pid) r down still = absurd (false≢true (sym still))
stays_since (GoesOn asking teaching) r down still = gone_on_since asking teaching r
stays_since (Teaches end) r down still = refl
stays_since (Learns end) r down still = refl
stays_since (Ends end now) r down still = ended_since end now r down

pub down_since : (hs : List Happening) (h : Happening) → stands (after_all hs) ≡ false → stands (after h (after_all hs)) ≡ false → (after h (after_all hs)).since ≡ (after_all hs).since
down_since hs h = stays_since h (after_all hs)
