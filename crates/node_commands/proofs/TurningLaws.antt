-- One turn after another.
use Rattle.std.proofs.Common.{arith, ◌≡◌, ◌≤◌, ◌<◌, ◌+◌, ◌-◌, ◌++◌, ℕ, suc, List, [], Option, Some, None, Result, Ok, Err, IfErr, IfOk, append_assoc, ap, inl, inr, refl, subst, sym}
use Rattle.std.specs.Prelude.{◌↔◌, OnErr, OnOk}
use Rattle.std.proofs.lemmas.List.{append-nil}
use Rattle.std.proofs.KnownBytes.{Appends-nil, Appends-trans, Consumes-nil, Consumes-trans}
use Rattle.std.specs.Io.KnownBytes.{Appends, Consumes}
use Rattle.peers_devices.specs.Writing.{AreWritten, Balks, WriteCounts, written}
use Rattle.session_core.specs.declared.event.Event.{Event}
use Rattle.session_core.specs.declared.event.Event.TheVariants as events
use Rattle.session_core.specs.declared.state.State.TheVariants as states
use Rattle.table_shards.specs.Receipts.{SeatState}
use Rattle.table_shards.specs.Rounds.{ShardsState}
use Rattle.session_core.specs.Keeping.{KeptSession}
use Rattle.session_core.specs.Sessions.{state_of}
use Rattle.peers_engine.specs.declared.errors.EngineError.{EngineError}
use Rattle.peers_engine.specs.declared.errors.EngineError.TheVariants as errors
use Rattle.peers_engine.specs.declared.outcome.Outcome.{Outcome}
use Rattle.peers_engine.specs.declared.outcome.Outcome.TheVariants as outcomes
use Rattle.peers_engine.specs.declared.worker.Worker.{Worker}
use Rattle.peers_engine.specs.Acting.{Worker as WorkerAt, worker}
use Rattle.peers_engine.specs.Reading.{IsRead}
use Rattle.peers_engine.specs.Turns.{StopsTurn, TakesTurn}
use Rattle.text_commands.specs.declared.endings.Ending.{Ending}
use Rattle.text_commands.specs.declared.endings.Ending.TheVariants as endings
use Rattle.node_commands.specs.declared.node.turns.Pace.{Pace}
use Rattle.node_commands.specs.Turning.{GoesOn, IsGivenUp, Plays, Rests, Sending, Takes, Writer, both_sent, ending_after, moment_of, nothing_sent, sending, turn_after, writer}

-- `before` of the turns were made, which received and sent this, and the session goes on
abbrev pub SoFar : ShardsState → Pace → Worker → ℕ → ℕ → List ℕ → Sending → Worker → Type 0
SoFar shards pace start turns before received sent w =
    (made : ℕ) (ending : Ending) (more : List ℕ) (out : Sending) (e : Worker) → out.from ≡ sent.to
    → Plays shards pace before w (turns - before) made ending more out e → Plays shards pace 0 start turns (before + made) ending (received ++ more) (both_sent sent out) e

-- nothing, and then this
first_nothing : (w : Writer) (out : Sending) → out.from ≡ w → out ≡ both_sent (nothing_sent w) out
first_nothing w out is = ap (λ (x : Writer). record out { from = x }) is

-- this, and then nothing
last_nothing : (out : Sending) → out ≡ both_sent out (nothing_sent out.to)
last_nothing out = ap (λ (x : List ℕ). record out { bytes = x }) (sym (append-nil out.bytes))

-- one after another
sent_on : (first out later : Sending) → both_sent first (both_sent out later) ≡ both_sent (both_sent first out) later
sent_on first out later = ap (λ (x : List ℕ). sending x first.from later.to) (sym (append_assoc first.bytes out.bytes later.bytes))

pub begins : (shards : ShardsState) (pace : Pace) (w : Worker) (turns : ℕ) (writer : Writer) → SoFar shards pace w turns 0 [] (nothing_sent writer) w
begins shards pace w turns writer made ending more out e from plays =
    let left : turns - 0 ≡ turns = omega arith in
    let none : 0 + made ≡ made = omega arith in
    subst (λ (m : ℕ). Plays shards pace 0 w turns m ending more (both_sent (nothing_sent writer) out) e) (sym none)
    (subst (λ (s : Sending). Plays shards pace 0 w turns made ending more s e) (first_nothing writer out from)
    (subst (λ (n : ℕ). Plays shards pace 0 w n made ending more out e) left plays))

-- a turn after which the session goes on
goes_first : (shards : ShardsState) (pace : Pace) (before : ℕ) (w mid e : Worker) (left made : ℕ) (gave : Result Outcome EngineError) (ending : Ending) (first more : List ℕ) (out others : Sending)
    → Takes shards (turn_after pace before w) gave first out (turn_after pace before mid) → ending_after pace.leaves mid.session.session gave ≡ None → others.from ≡ out.to → Plays shards pace (before + 1) mid left made ending more others e
    → Plays shards pace before w (suc left) (made + 1) ending (first ++ more) (both_sent out others) e
goes_first shards pace before w mid e left made gave ending first more out others takes none from plays = (
  gave,
  mid,
  first,
  more,
  out,
  others,
  takes,
  refl,
  refl,
  from,
  subst (λ (o : Option Ending). GoesOn o (made + 1) ending (Rests mid more others e) ((later : ℕ) × (made + 1 ≡ later + 1) × Plays shards pace (before + 1) mid left later ending more others e)) (sym none)
      (made, refl, plays),
)

-- the turn after which the session ends
ends_first : (shards : ShardsState) (pace : Pace) (before : ℕ) (w mid : Worker) (left : ℕ) (gave : Result Outcome EngineError) (ending : Ending) (first : List ℕ) (out : Sending)
    → Takes shards (turn_after pace before w) gave first out (turn_after pace before mid) → ending_after pace.leaves mid.session.session gave ≡ Some ending → Plays shards pace before w (suc left) 1 ending first out mid
ends_first shards pace before w mid left gave ending first out takes some = (
  gave,
  mid,
  first,
  [],
  out,
  nothing_sent out.to,
  takes,
  sym (append-nil first),
  last_nothing out,
  refl,
  subst (λ (o : Option Ending). GoesOn o 1 ending (Rests mid [] (nothing_sent out.to) mid) ((later : ℕ) × (1 ≡ later + 1) × Plays shards pace (before + 1) mid left later ending [] (nothing_sent out.to) mid)) (sym some)
      (refl, refl, (refl, refl, refl)),
)

pub one_more : (shards : ShardsState) (pace : Pace) (start w mid : Worker) (turns before : ℕ) (gave : Result Outcome EngineError) (received first : List ℕ) (sent out : Sending) → before < turns → out.from ≡ sent.to
    → SoFar shards pace start turns before received sent w → Takes shards (turn_after pace before w) gave first out (turn_after pace before mid) → ending_after pace.leaves mid.session.session gave ≡ None
    → SoFar shards pace start turns (before + 1) (received ++ first) (both_sent sent out) mid
one_more shards pace start w mid turns before gave received first sent out room from so_far takes none made ending more others e there_from plays =
    let left : turns - before ≡ suc (turns - (before + 1)) = omega arith in
    let counted : before + (made + 1) ≡ (before + 1) + made = omega arith in
    let here = goes_first shards pace before w mid e (turns - (before + 1)) made gave ending first more out others takes none there_from plays in
    let there = so_far (made + 1) ending (first ++ more) (both_sent out others) e from (subst (λ (n : ℕ). Plays shards pace before w n (made + 1) ending (first ++ more) (both_sent out others) e) (sym left) here) in
    subst (λ (m : ℕ). Plays shards pace 0 start turns m ending ((received ++ first) ++ more) (both_sent (both_sent sent out) others) e) counted
    (subst (λ (r : List ℕ). Plays shards pace 0 start turns (before + (made + 1)) ending r (both_sent (both_sent sent out) others) e) (sym (append_assoc received first more))
    (subst (λ (s : Sending). Plays shards pace 0 start turns (before + (made + 1)) ending (received ++ (first ++ more)) s e) (sent_on sent out others) there))

pub stops : (shards : ShardsState) (pace : Pace) (start w mid : Worker) (turns before : ℕ) (gave : Result Outcome EngineError) (ending : Ending) (received first : List ℕ) (sent out : Sending) → before < turns → out.from ≡ sent.to
    → SoFar shards pace start turns before received sent w → Takes shards (turn_after pace before w) gave first out (turn_after pace before mid) → ending_after pace.leaves mid.session.session gave ≡ Some ending
    → Plays shards pace 0 start turns (before + 1) ending (received ++ first) (both_sent sent out) mid
stops shards pace start w mid turns before gave ending received first sent out room from so_far takes some =
    let left : turns - before ≡ suc (turns - (before + 1)) = omega arith in
    so_far 1 ending first out mid from
    (subst (λ (n : ℕ). Plays shards pace before w n 1 ending first out mid) (sym left) (ends_first shards pace before w mid (turns - (before + 1)) gave ending first out takes some))

pub all_made : (shards : ShardsState) (pace : Pace) (start w : Worker) (turns before : ℕ) (received : List ℕ) (sent : Sending) → turns ≤ before → before ≤ turns
    → SoFar shards pace start turns before received sent w → Plays shards pace 0 start turns turns endings.Done received sent w
all_made shards pace start w turns before received sent enough most so_far =
    let none : turns - before ≡ 0 = omega arith in
    let counted : before + 0 ≡ turns = omega arith in
    let here : Plays shards pace before w 0 0 endings.Done [] (nothing_sent sent.to) w = (refl, refl, (refl, refl, refl)) in
    let there = so_far 0 endings.Done [] (nothing_sent sent.to) w refl (subst (λ (n : ℕ). Plays shards pace before w n 0 endings.Done [] (nothing_sent sent.to) w) (sym none) here) in
    subst (λ (m : ℕ). Plays shards pace 0 start turns m endings.Done received sent w) counted
    (subst (λ (r : List ℕ). Plays shards pace 0 start turns (before + 0) endings.Done r sent w) (append-nil received)
    (subst (λ (s : Sending). Plays shards pace 0 start turns (before + 0) endings.Done (received ++ []) s w) (sym (last_nothing sent)) there))

-- ---- what the reader lost, and what the writer gained

-- the turns so far, with the reader and the writer before and after them
abbrev pub HasPlayed : ShardsState → Pace → Worker → ℕ → ℕ → Worker → Option (List ℕ) → Option (List ℕ) → Writer → Writer → Type 0
HasPlayed shards pace start turns before w from to a b =
    (received sent : List ℕ) × SoFar shards pace start turns before received (sending sent a b) w × Consumes from to received × Appends a.written.contents b.written.contents sent

-- one turn, with the same
abbrev pub HasTaken : ShardsState → WorkerAt → Result Outcome EngineError → WorkerAt → Option (List ℕ) → Option (List ℕ) → Writer → Writer → Type 0
HasTaken shards w gave e from to a b =
    (received sent : List ℕ) × Takes shards w gave received (sending sent a b) e × Consumes from to received × Appends a.written.contents b.written.contents sent

-- all turns of the session, with the same
abbrev pub IsPlayed : ShardsState → Pace → Worker → ℕ → ℕ → Ending → Worker → Option (List ℕ) → Option (List ℕ) → Writer → Writer → Type 0
IsPlayed shards pace start turns made ending e from to a b =
    (received sent : List ℕ) × Plays shards pace 0 start turns made ending received (sending sent a b) e × Consumes from to received × Appends a.written.contents b.written.contents sent

pub begins_there : (shards : ShardsState) (pace : Pace) (w : Worker) (turns : ℕ) (from : Option (List ℕ)) (a : Writer) → HasPlayed shards pace w turns 0 w from from a a
begins_there shards pace w turns from a = ([], [], begins shards pace w turns a, Consumes-nil from, Appends-nil a.written.contents)

pub one_more_there : (shards : ShardsState) (pace : Pace) (start w mid : Worker) (turns before : ℕ) (gave : Result Outcome EngineError) (from then to : Option (List ℕ)) (a b d : Writer) → before < turns
    → HasPlayed shards pace start turns before w from then a b → HasTaken shards (turn_after pace before w) gave (turn_after pace before mid) then to b d → ending_after pace.leaves mid.session.session gave ≡ None
    → HasPlayed shards pace start turns (before + 1) mid from to a d
one_more_there shards pace start w mid turns before gave from then to a b d room (received, sent, so_far, consumed, appended) (first, out, takes, more, further) none = (
  received ++ first,
  sent ++ out,
  one_more shards pace start w mid turns before gave received first (sending sent a b) (sending out b d) room refl so_far takes none,
  Consumes-trans from then to received first consumed more,
  Appends-trans a.written.contents b.written.contents d.written.contents sent out appended further,
)

pub stops_there : (shards : ShardsState) (pace : Pace) (start w mid : Worker) (turns before : ℕ) (gave : Result Outcome EngineError) (ending : Ending) (from then to : Option (List ℕ)) (a b d : Writer) → before < turns
    → HasPlayed shards pace start turns before w from then a b → HasTaken shards (turn_after pace before w) gave (turn_after pace before mid) then to b d → ending_after pace.leaves mid.session.session gave ≡ Some ending
    → IsPlayed shards pace start turns (before + 1) ending mid from to a d
stops_there shards pace start w mid turns before gave ending from then to a b d room (received, sent, so_far, consumed, appended) (first, out, takes, more, further) some = (
  received ++ first,
  sent ++ out,
  stops shards pace start w mid turns before gave ending received first (sending sent a b) (sending out b d) room refl so_far takes some,
  Consumes-trans from then to received first consumed more,
  Appends-trans a.written.contents b.written.contents d.written.contents sent out appended further,
)

pub all_made_there : (shards : ShardsState) (pace : Pace) (start w : Worker) (turns before : ℕ) (from to : Option (List ℕ)) (a b : Writer) → turns ≤ before → before ≤ turns
    → HasPlayed shards pace start turns before w from to a b → IsPlayed shards pace start turns turns endings.Done w from to a b
all_made_there shards pace start w turns before from to a b enough most (received, sent, so_far, consumed, appended) =
    (received, sent, all_made shards pace start w turns before received (sending sent a b) enough most so_far, consumed, appended)

-- ---- one turn

-- a turn that reads at the end of the input receives nothing
still_read : (at_end : Type 0) (event : Option Event) (received : List ℕ) → IsRead at_end event received → IsRead (received ≡ []) event received
still_read at_end None received reads = reads
still_read at_end (Some (events.Bytes bytes)) received reads = reads
still_read at_end (Some events.End) received (ends, none) = (none, none)
still_read at_end (Some events.Opened) received reads = absurd reads
still_read at_end (Some events.ReadFault) received reads = absurd reads
still_read at_end (Some events.Tick) received reads = absurd reads
still_read at_end (Some events.Ask) received reads = absurd reads
still_read at_end (Some events.CaughtUp) received reads = absurd reads
still_read at_end (Some events.Turn) received reads = absurd reads
still_read at_end (Some (events.Copied table batch)) received reads = absurd reads
still_read at_end (Some (events.Nothing table)) received reads = absurd reads
still_read at_end (Some (events.Written known)) received reads = absurd reads
still_read at_end (Some events.WriteFault) received reads = absurd reads
still_read at_end (Some (events.Settled table settled)) received reads = absurd reads
still_read at_end (Some (events.Refused table)) received reads = absurd reads

-- a turn whose first event leaves something to do receives nothing
still_takes : {untouched : Type 0} (w e : WorkerAt) (event : Option Event) (received sent : List ℕ) → IsRead (received ≡ []) event received → TakesTurn untouched w event sent e → TakesTurn (received ≡ []) w event sent e
still_takes w e event received sent reads (inl (still, none, reacts)) = inl (subst (λ (x : Option Event). IsRead (received ≡ []) x received) none reads, none, reacts)
still_takes w e event received sent reads (inr more) = inr more

still_stops : (shards : ShardsState) {untouched : Type 0} (w : WorkerAt) (e : KeptSession) (seat : SeatState) (event : Option Event) (error : EngineError) (received sent : List ℕ) → IsRead (received ≡ []) event received → StopsTurn shards untouched w event error sent e seat
    → StopsTurn shards (received ≡ []) w event error sent e seat
still_stops shards w e seat event error received sent reads (inl (still, none, halts)) = inl (subst (λ (x : Option Event). IsRead (received ≡ []) x received) none reads, none, halts)
still_stops shards w e seat event error received sent reads (inr more) = inr more

ok_way : (shards : ShardsState) {untouched : Type 0} (at_end : Type 0) (w e : WorkerAt) (gave : Outcome) (from to a b : Option (List ℕ)) (x y : WriteCounts) (m n : ℕ)
    → (event : Option Event) × (received sent : List ℕ) × IsRead at_end event received × TakesTurn untouched w event sent e × Consumes from to received × AreWritten (written a x) (written b y) sent
    → ((gave ≡ outcomes.Closed) ↔ (state_of e.session.session.phase ≡ states.Ended)) → HasTaken shards w (Ok gave) e from to (writer a x m) (writer b y n)
ok_way shards at_end w e gave from to a b x y m n (event, received, sent, given, takes, consumed, wrote) closed =
    let reads = still_read at_end event received given in
    (received, sent, ((event, reads, still_takes w e event received sent reads takes), closed, wrote), consumed, wrote.0)

-- Why a turn gave its writer up is what the clause `balks` of `Worker::turn` says. It speaks of the error `Write` alone, so after any other there is nothing to show.
given_up : (error : EngineError) (sent : Sending) → ((count : ℕ) → error ≡ errors.Write count → Balks sent.from.failed sent.to.failed sent.from.written.counts sent.to.written.counts) → IsGivenUp error sent
given_up (errors.Write count) sent balks = balks count refl
given_up (errors.Session why) sent balks = tt
given_up errors.Read sent balks = tt
given_up errors.Memory sent balks = tt
given_up errors.Strange sent balks = tt

err_way : (shards : ShardsState) {untouched : Type 0} (at_end : Type 0) (w e : WorkerAt) (error : EngineError) (from to a b : Option (List ℕ)) (x y : WriteCounts) (m n : ℕ)
    → (event : Option Event) × (received sent : List ℕ) × IsRead at_end event received × StopsTurn shards untouched w event error sent e.session e.seat × Consumes from to received × AreWritten (written a x) (written b y) sent
    → state_of e.session.session.phase ≡ states.Ended → ((count : ℕ) → error ≡ errors.Write count → Balks m n x y) → HasTaken shards w (Err error) e from to (writer a x m) (writer b y n)
err_way shards at_end w e error from to a b x y m n (event, received, sent, given, stops, consumed, wrote) over balks =
    let reads = still_read at_end event received given in
    (received, sent, ((event, reads, still_stops shards w e.session e.seat event error received sent reads stops), over, wrote, given_up error (sending sent (writer a x m) (writer b y n)) balks), consumed, wrote.0)

-- a turn, from the contract for its success and the one for its error
pub both_ways : (shards : ShardsState) (at_end untouched : Type 0) (w e : WorkerAt) (gave : Result Outcome EngineError) (from to a b : Option (List ℕ)) (x y : WriteCounts) (m n : ℕ)
    → OnOk gave ((event : Option Event) × (received sent : List ℕ) × IsRead at_end event received × TakesTurn untouched w event sent e × Consumes from to received × AreWritten (written a x) (written b y) sent)
    → IfOk gave (λ t. (t ≡ outcomes.Closed) ↔ (state_of e.session.session.phase ≡ states.Ended))
    → IfErr gave (λ error. (event : Option Event) × (received sent : List ℕ) × IsRead at_end event received × StopsTurn shards untouched w event error sent e.session e.seat × Consumes from to received × AreWritten (written a x) (written b y) sent)
    → OnErr gave (state_of e.session.session.phase ≡ states.Ended) → ((count : ℕ) → gave ≡ Err (errors.Write count) → Balks m n x y) → HasTaken shards w gave e from to (writer a x m) (writer b y n)
both_ways shards at_end untouched w e (Ok gave) from to a b x y m n wrote closed stopped over balks = ok_way shards at_end w e gave from to a b x y m n wrote closed
both_ways shards at_end untouched w e (Err error) from to a b x y m n wrote closed stopped over balks =
    err_way shards at_end w e error from to a b x y m n stopped over (λ count is. balks count (ap (λ (x : EngineError). Err x) is))

-- a turn at the moment that belongs to it is the turn after `before` others
pub taken_after : (shards : ShardsState) (pace : Pace) (before now : ℕ) (w e : Worker) (gave : Result Outcome EngineError) (from to : Option (List ℕ)) (a b : Writer) → now ≡ moment_of pace before
    → HasTaken shards (worker w.session w.seat w.number now) gave (worker e.session e.seat e.number now) from to a b → HasTaken shards (turn_after pace before w) gave (turn_after pace before e) from to a b
taken_after shards pace before now w e gave from to a b is taken =
    subst (λ (n : ℕ). HasTaken shards (worker w.session w.seat w.number n) gave (worker e.session e.seat e.number n) from to a b) is taken
