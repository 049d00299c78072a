-- A stream that is read message by message.
use Rattle.std.proofs.Common.{◌≡◌, ℕ, ◌+◌, ◌-◌, ◌≤◌, List, [], ◌∷◌, ◌++◌, length, take, drop, Option, Some, Result, Ok, refl, sym, ap, subst, ◌∙◌, arith, append_assoc, length-append}
use Rattle.std.specs.List.{AllByRecursion}
use Rattle.std.proofs.lemmas.List.{append-nil, drop-drop, length-drop, take_all}
use Rattle.std.proofs.lemmas.Grind.{flat_map-append}
use Rattle.peers_encint.specs.Integers.{IsBytes}
use Rattle.table_types.specs.declared.update.Update.{Update}
use Rattle.table_types.specs.Tables.{Definition}
use Rattle.peers_msg.specs.declared.message.Message.{Message}
use Rattle.peers_msg.specs.declared.borrowed.message_ref.MessageRef.{MessageRef}
use Rattle.peers_msg.specs.declared.fault.Breach.{Breach}
use Rattle.peers_msg.specs.BorrowedMessages.{owned_message}
use Rattle.peers_msg.specs.Decoding.{IsFrontOf}
use Rattle.peers_msg.specs.Received.{Received}
use Rattle.peers_msg.specs.Reading.{message_at}
use Rattle.peers_msg.specs.Spelling.{spelled, stream_of}
use Rattle.peers_msg.proofs.FieldCanonical.{IsBytes-drop}
use Rattle.peers_msg.proofs.MessageCanonical.{message_takes}
use Rattle.known_state.specs.State.{State, Step, Teaches, IsOwn, Legal}
use Rattle.known_state.specs.Known.{KnownState, Refuses}
use Rattle.known_state.specs.declared.known.StepError.{StepError}
use Rattle.price_checker.specs.declared.comparison.Comparison.{Comparison}
use Rattle.price_checker.specs.declared.reading.Next.TheVariants as nexts
use Rattle.price_checker.specs.declared.verdict.Illegal.TheVariants as illegals
use Rattle.price_checker.specs.Verdicts.{IsIllegalAt}
use Rattle.price_checker.specs.Readings.{Compares, IsNext}

-- a legal list extended by a legal message
teaches-more : (s mid e : State) (ms : List Message) (m : Message) (us one : List Update) → Teaches s ms us mid → Step mid m one e → Teaches s (ms ++ m ∷ []) (us ++ one) e
teaches-more s mid e [] m us one (none, here) step =
    let from_there : Step s m one e = subst (λ (x : State). Step x m one e) here step in
    let all : us ++ one ≡ one ++ [] = ap (λ (xs : List Update). xs ++ one) none ∙ sym (append-nil one) in
    (one, [], e, all, from_there, (refl, refl))
teaches-more s mid e (x ∷ xs) m us one (first, rest, next, joined, begins, later) step =
    (first, rest ++ one, next, ap (λ (vs : List Update). vs ++ one) joined ∙ append_assoc first rest one, begins, teaches-more next mid e xs m rest one later step)

own-more : (roster : List Definition) (ms : List Message) (m : Message) → AllByRecursion (IsOwn roster) ms → IsOwn roster m → AllByRecursion (IsOwn roster) (ms ++ m ∷ [])
own-more roster [] m all own = (own, tt)
own-more roster (x ∷ xs) m all own = (all.0, own-more roster xs m all.1 own)

-- a slice up to the end
pub to_the_end : {A : Type 0} (xs : List A) (i : ℕ) → take (length xs - i) (drop i xs) ≡ drop i xs
to_the_end xs i = take_all (length xs - i) (drop i xs) (rw (length-drop i xs) (omega arith))

pub legal-more : (roster : List Definition) (s mid e : State) (ms : List Message) (m : Message) (us one : List Update) → Legal roster s ms us mid → IsOwn roster m → Step mid m one e → Legal roster s (ms ++ m ∷ []) (us ++ one) e
legal-more roster s mid e ms m us one legal own step = (own-more roster ms m legal.0 own, teaches-more s mid e ms m us one legal.1 step)

-- the bytes of the message at the front are the next bytes read
pub stream-more : (h : Received) (ms : List Message) (m : Message) (stream : List ℕ) (place used : ℕ) → IsBytes stream → stream ≡ stream_of ms ++ drop place stream → place ≡ length (stream_of ms) → message_at h (drop place stream) ≡ Ok (Some (m, drop used (drop place stream))) → used ≤ length (drop place stream)
    → (stream ≡ stream_of (ms ++ m ∷ []) ++ drop (place + used) stream) × (place + used ≡ length (stream_of (ms ++ m ∷ []))) × (place + used ≤ length stream)
stream-more h ms m stream place used good split at front within =
    let rest : List ℕ = drop place stream in
    let begins : rest ≡ spelled m ++ drop used rest = (message_takes h m rest (drop used rest) (IsBytes-drop place stream good) front).0 in
    let joined : stream_of (ms ++ m ∷ []) ≡ stream_of ms ++ stream_of (m ∷ []) = flat_map-append spelled ms (m ∷ []) in
    let one : stream_of (m ∷ []) ≡ spelled m = append-nil (spelled m) in
    let both : stream_of (ms ++ m ∷ []) ≡ stream_of ms ++ spelled m = joined ∙ ap (λ (x : List ℕ). stream_of ms ++ x) one in
    let size : length rest ≡ length (spelled m) + length (drop used rest) = ap length begins ∙ length-append (spelled m) (drop used rest) in
    let left = length-drop used rest in
    let all : length stream ≡ length (stream_of ms) + length rest = ap length split ∙ length-append (stream_of ms) rest in
    let together : length (stream_of ms ++ spelled m) ≡ length (stream_of ms) + length (spelled m) = length-append (stream_of ms) (spelled m) in
    let whole : stream ≡ (stream_of ms ++ spelled m) ++ drop used rest = split ∙ ap (λ (x : List ℕ). stream_of ms ++ x) begins ∙ sym (append_assoc (stream_of ms) (spelled m) (drop used rest)) in (
      whole ∙ ap (λ (x : List ℕ). x ++ drop used rest) (sym both) ∙ ap (λ (x : List ℕ). stream_of (ms ++ m ∷ []) ++ x) (drop-drop used place stream),
      sym (ap length both ∙ together ∙ omega arith),
      omega arith,
    )

-- what was read of a stream up to a place: legal messages, whose updates compare this way with the batch
abbrev pub IsReadTo : KnownState → List Update → List ℕ → ℕ → Comparison → KnownState → Type 0
IsReadTo k us stream place comparison after =
    (ms : List Message)
    × (carried : List Update)
    × (stream ≡ stream_of ms ++ drop place stream)
    × (place ≡ length (stream_of ms))
    × (place ≤ length stream)
    × Legal k.roster k.state ms carried after.state
    × (after.roster ≡ k.roster)
    × Compares comparison carried us

-- and up to the end of the next message
pub read-more : (k before after : KnownState) (us : List Update) (stream : List ℕ) (place used : ℕ) (comparison compared : Comparison) → IsBytes stream → IsReadTo k us stream place comparison before → IsNext before us comparison (drop place stream) (nexts.Read compared used) after → IsReadTo k us stream (place + used) compared after
read-more k before after us stream place used comparison compared good (ms, carried, split, at, within, legal, same, compares) (m, one, front, some, most, own, step, stays, goes) =
    let more = stream-more before.state.received ms m stream place used good split at front most in
    let is_own : IsOwn k.roster m = subst (λ (roster : List Definition). IsOwn roster m) same own in
    (ms ++ m ∷ [], carried ++ one, more.0, more.1, more.2, legal-more k.roster k.state before.state after.state ms m carried one legal is_own step, stays ∙ same, goes carried one after.state compares step)

-- if a message is found at the front of a stream, the stream begins with it
pub front_begins : (k : KnownState) (stream : List ℕ) (received : Received) (found : Result (Option (MessageRef × ℕ)) Breach) (x : MessageRef × ℕ) → received ≡ k.state.received → IsFrontOf received stream found → found ≡ Ok (Some x) → message_at k.state.received stream ≡ Ok (Some (owned_message x.0, drop x.1 stream))
front_begins k stream received found x same front is =
    subst (λ (h : Received). IsFrontOf h stream (Ok (Some x))) same (subst (λ (r : Result (Option (MessageRef × ℕ)) Breach). IsFrontOf received stream r) is front)

-- a stream whose first message is refused isn't legal from its first byte on
pub refused_at_once : (k : KnownState) (stream rest : List ℕ) (m : Message) (error : StepError) → message_at k.state.received stream ≡ Ok (Some (m, rest)) → Refuses k m error → IsIllegalAt k stream (illegals.Step error) 0
refused_at_once k stream rest m error at refuses = ([], [], k.state, stream, refl, refl, (tt, (refl, refl)), (m, rest, at, refuses))
