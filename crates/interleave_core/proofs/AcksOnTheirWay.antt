-- Acknowledgements on their way to a teacher.
use Rattle.std.proofs.Common.{◌≡◌, ◌≢◌, ℕ, zero, suc, ◌^◌, ◌<◌, ◌≤◌, Bool, true, false, ◌&&◌, cond, List, [], ◌∷◌, ◌++◌, length, Option, Some, None, Result, Ok, Err, refl, sym, ap, subst, ◌∙◌, arith, length-append}
use Rattle.std.specs.Prelude.{filter_map, is_some, map, option_map}
use Rattle.std.specs.List.{AllByRecursion}
use Rattle.std.proofs.lemmas.Bool.{le-leb, lt-ltb}
use Rattle.std.proofs.lemmas.Bool.Decides.{nat_tests}
use Rattle.std.proofs.lemmas.List.{map-append}
use Rattle.table_types.specs.Rosters.{has_id}
use Rattle.table_types.specs.Tables.{Definition, is_definition}
use Rattle.peers_encint.proofs.OneSpelling.{bytes as spelling_bytes, within as spelling_size}
use Rattle.peers_msg.specs.Integers.{IsBytes, spelling}
use Rattle.peers_msg.specs.declared.fault.Breach.{Breach}
use Rattle.peers_msg.specs.declared.message.Message.{Message}
use Rattle.peers_msg.specs.declared.message.Message.TheVariants as messages
use Rattle.peers_msg.specs.Decoding.{AreRead}
use Rattle.peers_msg.specs.Fitting.{fits}
use Rattle.peers_msg.specs.Messages.{most_data}
use Rattle.peers_msg.specs.Reading.{message_at, with_more}
use Rattle.peers_msg.specs.Received.{Received, received_after}
use Rattle.peers_msg.specs.Spelling.{data_of, spelled, stream_of, word}
use Rattle.peers_msg.proofs.CuttingIndependence.{found, found_is, front_good, read_on, rest_good}
use Rattle.peers_msg.proofs.MessageRoundTrip.{message_again}
use Rattle.peers_msg.proofs.ReadingStays.{message_stays}
use Rattle.known_state.specs.Known.{AreOwn, is_in}
use Rattle.known_state.specs.LastNumbers.{last_of}
use Rattle.known_state.proofs.FitsOrIsRefused.{has_id-table_at}
use Rattle.learner.specs.Intake.{Taking, due_ack, due_acks}
use Rattle.learner.specs.LocalTables.{local_table}
use Rattle.learner.proofs.LegalStreamIsTaught.{waits_at_end}
use Rattle.table_cell.proofs.HandingRows.{all_append}
use Rattle.teach_writer.proofs.UpdateStepsAreLegal.{stream-append}
use Rattle.interleave_core.specs.Moves.{ack_in}
use Rattle.interleave_core.specs.Sound.{AreAcks, IsAckFor, ack_message}
use Rattle.interleave_core.proofs.OnItsWay.{IsBytes-append}

-- ---- the bytes of a number

pub bytes_cons : (x : ℕ) (xs : List ℕ) → x < 256 → IsBytes xs → IsBytes (x ∷ xs)
bytes_cons x xs small all zero = small
bytes_cons x xs small all (suc i) = all i

pub no_bytes : IsBytes []
no_bytes i = omega arith

pub word_bytes : (n : ℕ) → IsBytes (word n)
word_bytes n zero = omega arith
word_bytes n (suc zero) = omega arith
word_bytes n (suc (suc zero)) = omega arith
word_bytes n (suc (suc (suc zero))) = omega arith
word_bytes n (suc (suc (suc (suc i)))) = omega arith

-- ---- one acknowledgement

-- in range, it fits whatever was received
ack_fits : (h : Received) (ack : ℕ × ℕ) → ack.0 < 2 ^ 64 → ack.1 < 2 ^ 32 → fits h (ack_message ack) ≡ true
unfolding fits data_of
ack_fits h ack small little =
    let short : length (spelling ack.0 ++ word ack.1) ≤ most_data = omega (arith, length-append (spelling ack.0) (word ack.1), (spelling_size ack.0).1) in
    rw (lt-ltb ack.0 (2 ^ 64) small, lt-ltb ack.1 (2 ^ 32) little, le-leb (length (spelling ack.0 ++ word ack.1)) most_data short) refl

ack_bytes : (ack : ℕ × ℕ) → ack.0 < 2 ^ 64 → IsBytes (spelled (ack_message ack))
unfolding spelled
ack_bytes ack small =
    let body : IsBytes (spelling ack.0 ++ word ack.1) = IsBytes-append (spelling ack.0) (word ack.1) (spelling_bytes ack.0 small) (word_bytes ack.1) in
    let size : length (spelling ack.0 ++ word ack.1) < 2 ^ 64 = omega (arith, length-append (spelling ack.0) (word ack.1), (spelling_size ack.0).1) in
    let fields = spelling (length (spelling ack.0 ++ word ack.1)) ++ (spelling ack.0 ++ word ack.1) in
    let data_bytes : IsBytes (spelling (length (spelling ack.0 ++ word ack.1)) ++ (spelling ack.0 ++ word ack.1)) =
    IsBytes-append (spelling (length (spelling ack.0 ++ word ack.1))) (spelling ack.0 ++ word ack.1) (spelling_bytes (length (spelling ack.0 ++ word ack.1)) size) body in
    bytes_cons 10 (132 ∷ fields) (omega arith) (bytes_cons 132 fields (omega arith) data_bytes)

acks_bytes : (roster : List Definition) (acks : List (ℕ × ℕ)) → AllByRecursion (IsAckFor roster) acks → IsBytes (stream_of (map ack_message acks))
acks_bytes roster [] all = no_bytes
acks_bytes roster (ack ∷ acks) (one, rest) = IsBytes-append (spelled (ack_message ack)) (stream_of (map ack_message acks)) (ack_bytes ack one.1) (acks_bytes roster acks rest)

-- ---- acknowledgements go into the pipe

pub more_acks : (roster : List Definition) (bytes : List ℕ) (acks others : List (ℕ × ℕ)) → AreAcks roster bytes acks → AllByRecursion (IsAckFor roster) others → AreAcks roster (bytes ++ stream_of (map ack_message others)) (acks ++ others)
more_acks roster bytes acks others (spelled_out, good, all) rest =
    let streams : stream_of (map ack_message (acks ++ others)) ≡ stream_of (map ack_message acks) ++ stream_of (map ack_message others) =
    ap (λ (ms : List Message). stream_of ms) (map-append ack_message acks others) ∙ stream-append (map ack_message acks) (map ack_message others) in (
      ap (λ (x : List ℕ). x ++ stream_of (map ack_message others)) spelled_out ∙ sym streams,
      IsBytes-append bytes (stream_of (map ack_message others)) good (acks_bytes roster others rest),
      all_append (IsAckFor roster) acks others all rest,
    )

-- what a table's acknowledgement says
is_ack : (t : Taking) (d : Definition) (m : Message) → due_ack t d ≡ Some m → (number : ℕ) × (m ≡ messages.Ack d.id number) × (last_of t.state.last_numbers d.id ≡ Some number)
is_ack t d m e = by (is_some (local_table t.roster d) && is_in d.id t.due) (last_of t.state.last_numbers d.id) e
  where
    by : (b : Bool) (last : Option ℕ) → cond b (option_map (λ n. messages.Ack d.id n) last) None ≡ Some m → (number : ℕ) × (m ≡ messages.Ack d.id number) × (last ≡ Some number)
    by true (Some n) e = let here : Some (messages.Ack d.id n) ≡ Some m = e in let is : messages.Ack d.id n ≡ m = cc in (n, sym is, refl)
    by true None e = let bad : None ≡ Some m = e in absurd cc
    by false last e = let bad : None ≡ Some m = e in absurd cc

id_small : (d : Definition) → is_definition d ≡ true → d.id < 2 ^ 32
id_small d is = grind (arith, nat_tests)

-- all of these messages are acknowledgements of tables of the roster
abbrev AreOnlyAcks : List Definition → List Message → Type 0
AreOnlyAcks roster ms = (ms ≡ map ack_message (filter_map (ack_in roster) ms)) × AllByRecursion (IsAckFor roster) (filter_map (ack_in roster) ms)

only_acks : (roster : List Definition) (t : Taking) (ds : List Definition) → AreOwn roster ds → AllByRecursion (λ d. is_definition d ≡ true) ds → ((table number : ℕ) → last_of t.state.last_numbers table ≡ Some number → number < 2 ^ 32)
    → AreOnlyAcks roster (filter_map (due_ack t) ds)
only_acks roster t [] own valid small = (refl, tt)
only_acks roster t (d ∷ ds) own valid small = at (due_ack t d) refl (only_acks roster t ds own.1 valid.1 small)
  where
    listed : has_id d.id roster ≡ true
    listed = has_id-table_at roster d.id ∙ ap (λ (o : Option Definition). is_some o) own.0

    low : d.id < 2 ^ 64
    low = let word : d.id < 2 ^ 32 = id_small d valid.0 in omega arith

    at : (o : Option Message) → due_ack t d ≡ o → AreOnlyAcks roster (filter_map (due_ack t) ds) → AreOnlyAcks roster (filter_map (due_ack t) (d ∷ ds))
    at None e rest = rw e rest
    at (Some m) e rest =
        let is = is_ack t d m e in
        let number_small : is.0 < 2 ^ 32 = small d.id is.0 is.2 in
        rw (e, is.1, listed) (ap (λ (ms : List Message). messages.Ack d.id is.0 ∷ ms) rest.0, ((listed, low, number_small), rest.1))

-- what a learner owes are acknowledgements of tables of the roster
pub owed : (roster : List Definition) (t : Taking) → AreOwn roster t.state.received.tables → AllByRecursion (λ d. is_definition d ≡ true) t.state.received.tables → ((table number : ℕ) → last_of t.state.last_numbers table ≡ Some number → number < 2 ^ 32)
    → AreOnlyAcks roster (due_acks t)
owed roster t own valid small = only_acks roster t t.state.received.tables own valid small

-- ---- acknowledgements arrive

nothing_before : (a b : List ℕ) → a ++ b ≡ [] → a ≡ []
nothing_before [] b e = refl
nothing_before (x ∷ a) b e = absurd cc

none_found : (h : Received) (bytes more : List ℕ) → bytes ++ more ≡ [] → message_at h bytes ≡ Ok None
none_found h bytes more none = ap (message_at h) (nothing_before bytes more none) ∙ waits_at_end h

ack_found : (roster : List Definition) (h : Received) (bytes : List ℕ) (ack : ℕ × ℕ) (acks : List (ℕ × ℕ)) → AreAcks roster bytes (ack ∷ acks) → message_at h bytes ≡ found (ack_message ack) (stream_of (map ack_message acks))
ack_found roster h bytes ack acks (spelled_out, good, (one, all)) =
    ap (message_at h) spelled_out ∙ message_again h (ack_message ack) (stream_of (map ack_message acks)) (ack_fits h ack one.1 one.2)

-- the messages read are the first acknowledgements, and the others stay on their way
pub acks_taken : (roster : List Definition) (ms : List Message) (h g : Received) (bytes more left : List ℕ) (acks : List (ℕ × ℕ)) → AreAcks roster (bytes ++ more) acks → AreRead h bytes ms g left
    → (later : List (ℕ × ℕ)) × (acks ≡ filter_map (ack_in roster) ms ++ later) × AreAcks roster (left ++ more) later
acks_taken roster [] h g bytes more left acks are (received, rest) = (acks, refl, subst (λ (x : List ℕ). AreAcks roster (x ++ more) acks) (sym rest) are)
acks_taken roster (m ∷ ms) h g bytes more left [] (spelled_out, good, all) (after, at, others) =
    let bad : Ok None ≡ found m after = sym (none_found h bytes more spelled_out) ∙ at in
    absurd cc
acks_taken roster (m ∷ ms) h g bytes more left (ack ∷ acks) are (after, at, others) =
    let on : message_at h (bytes ++ more) ≡ found m (after ++ more) = read_on h m bytes after more (front_good bytes more are.1) at in
    let both = found_is m (ack_message ack) (after ++ more) (stream_of (map ack_message acks)) (sym on ∙ ack_found roster h (bytes ++ more) ack acks are) in
    let good : IsBytes (after ++ more) = rest_good h m (bytes ++ more) (after ++ more) are.1 on in
    let later = acks_taken roster ms (received_after h m) g after more left acks (both.1, good, are.2.1) others in
    let listed : has_id ack.0 roster ≡ true = are.2.0.0 in
    let is : ack_in roster m ≡ Some ack = ap (ack_in roster) both.0 ∙ rw listed refl in
    (later.0, rw is (ap (λ (xs : List (ℕ × ℕ)). ack ∷ xs) later.1), later.2)

-- they are read without a breach
pub no_breach : (roster : List Definition) (h : Received) (bytes more : List ℕ) (acks : List (ℕ × ℕ)) (breach : Breach) → AreAcks roster (bytes ++ more) acks → message_at h bytes ≡ Err breach → ⊥
no_breach roster h bytes more [] breach (spelled_out, good, all) at =
    let bad : ◌≡◌ {A = Result (Option (Message × List ℕ)) Breach} (Ok None) (Err breach) = sym (none_found h bytes more spelled_out) ∙ at in
    cc
no_breach roster h bytes more (ack ∷ acks) breach are at =
    let some : message_at h bytes ≢ Ok None = λ none. let bad : ◌≡◌ {A = Result (Option (Message × List ℕ)) Breach} (Err breach) (Ok None) = sym at ∙ none in cc in
    let on : message_at h (bytes ++ more) ≡ with_more more (message_at h bytes) = message_stays h bytes more (front_good bytes more are.1) some in
    let bad : found (ack_message ack) (stream_of (map ack_message acks)) ≡ Err breach = sym (ack_found roster h (bytes ++ more) ack acks are) ∙ on ∙ ap (with_more more) at in
    cc
