-- How acknowledgements are read, looked at and made.
use Rattle.std.proofs.Common.{◌≡◌, ◌≤◌, ℕ, zero, suc, ◌+◌, ◌-◌, ◌<◌, cond, Bool, true, false, nat_le, ◌==◌, List, [], ◌∷◌, ◌++◌, length, length-append, filter_map, get_or, set, take, drop, Option, Some, None, is_some, is_none, option_and_then, count_by, Ok, refl, sym, ap, subst, ◌∙◌, arith, inl, inr, MatchBool}
use Rattle.std.specs.List.{AllByRecursion}
use Rattle.std.proofs.lemmas.Bool.{cases_Bool, leb-true, leb-false, false≢true, true≢false, eqb-true}
use Rattle.std.proofs.lemmas.List.{drop_at}
use Rattle.std.proofs.lemmas.List.Sums.{sum_by-cons}
use Rattle.std.proofs.lemmas.List.Elements.{filter_map-append}
use Rattle.std.proofs.lemmas.Option.{same_Some}
use Rattle.table_types.specs.Tables.{Definition}
use Rattle.table_types.specs.declared.copies.Settled.{Settled}
use Rattle.peers_msg.specs.Integers.{IsBytes}
use Rattle.peers_msg.specs.declared.message.Message.{Message}
use Rattle.peers_msg.specs.Decoding.{AreRead, Decoding, DecoderFeeds, DecoderNext, begun}
use Rattle.peers_msg.specs.Reading.{message_at}
use Rattle.peers_msg.specs.Received.{Received, nothing_received, received_after}
use Rattle.peers_msg.specs.Spelling.{stream_of}
use Rattle.peers_msg.proofs.MessageCanonical.{rest_is_end}
use Rattle.peers_msg.proofs.StreamRoundTrip.{read_spelled}
use Rattle.table_cell.specs.declared.errors.AckError.{AckError}
use Rattle.table_cell.specs.Histories.{Acknowledges, CellState, room_of}
use Rattle.table_cell.specs.Machine.{ack_refusal}
use Rattle.interleave_core.specs.declared.acks.Acknowledgement.{Acknowledgement}
use Rattle.interleave_core.specs.declared.acks.Read.{Read}
use Rattle.interleave_core.specs.Acks.{AreAcksOf, AreTaught, HasRoom, HaveRoom, IsTaught, is_of, pair_of, pairs_of}
use Rattle.interleave_core.specs.Moves.{ack_in, acked, acked_all}
use Rattle.interleave_core.specs.Parts.{IsCellAt}
use Rattle.interleave_core.specs.Worlds.{cell_at, is_table, with_cell}
use Rattle.interleave_core.proofs.Places.{some_none}
use Rattle.interleave_core.proofs.TieCells.{at_here, at_there}
use Rattle.interleave_core.proofs.Acknowledged.{all_are_taken, all_taken, made, none_from}

-- ---- reading

-- one more message is read
read_push : (before mid : Received) (bytes left rest : List ℕ) (ms : List Message) (m : Message) → AreRead before bytes ms mid left → message_at mid left ≡ Ok (Some (m, rest))
    → AreRead before bytes (ms ++ m ∷ []) (received_after mid m) rest
read_push before mid bytes left rest [] m (received, same) at = (
  rest,
  subst (λ (x : List ℕ). message_at before x ≡ Ok (Some (m, rest))) same (subst (λ (h : Received). message_at h left ≡ Ok (Some (m, rest))) received at),
  (ap (λ (h : Received). received_after h m) received, refl),
)
read_push before mid bytes left rest (n ∷ ms) m (after, first, others) at =
    (after, first, read_push (received_after before n) mid after left rest ms m others at)

-- these messages were read of the bytes, and these are their acknowledgements of tables
abbrev pub AreReadSoFar : List Definition → List ℕ → List Acknowledgement → Decoding → Type 0
AreReadSoFar roster bytes acks d =
    (ms : List Message) × AreRead nothing_received bytes ms d.received d.unread × (pairs_of acks ≡ filter_map (ack_in roster) ms)

-- a decoder that was fed bytes, and then more
pub fed_twice : (first more : List ℕ) (new mid e : Decoding) → new ≡ begun nothing_received → DecoderFeeds new first (Ok tt) mid → DecoderFeeds mid more (Ok tt) e
    → e ≡ record (begun nothing_received) { unread = first ++ more }
fed_twice first more new mid e is (opened, one) (still, two) =
    two ∙ ap (λ (x : Decoding). record x { unread = x.unread ++ more; closed = false }) one ∙ ap (λ (x : Decoding). record x { unread = (x.unread ++ first) ++ more; closed = false }) is

pub none_read : (roster : List Definition) (bytes : List ℕ) (acks : List Acknowledgement) (d : Decoding) → d ≡ record (begun nothing_received) { unread = bytes } → acks ≡ []
    → AreReadSoFar roster bytes acks d
none_read roster bytes acks d is none =
    ([], (ap (λ (x : Decoding). x.received) is, ap (λ (x : Decoding). x.unread) is), ap (λ (xs : List Acknowledgement). pairs_of xs) none)

pub one_read : (roster : List Definition) (bytes : List ℕ) (acks more : List Acknowledgement) (d e : Decoding) (m : Message) → AreReadSoFar roster bytes acks d
    → DecoderNext d (Ok (Some m)) e → pairs_of more ≡ pairs_of acks ++ filter_map (ack_in roster) (m ∷ []) → AreReadSoFar roster bytes more e
one_read roster bytes acks more d e m (ms, read, same) (is_open, rest, at, is) added =
    let next : AreRead nothing_received bytes (ms ++ m ∷ []) (received_after d.received m) rest = read_push nothing_received d.received bytes d.unread rest ms m read at in
    let here : AreRead nothing_received bytes (ms ++ m ∷ []) e.received e.unread =
    subst (λ (x : Decoding). AreRead nothing_received bytes (ms ++ m ∷ []) x.received x.unread) (sym is) next in (
      ms ++ m ∷ [],
      here,
      added ∙ ap (λ (ps : List (ℕ × ℕ)). ps ++ filter_map (ack_in roster) (m ∷ [])) same
          ∙ sym (filter_map-append (ack_in roster) ms (m ∷ [])),
    )

end_is_bytes : (xs ys : List ℕ) → IsBytes (xs ++ ys) → IsBytes ys
end_is_bytes [] ys good = good
end_is_bytes (x ∷ xs) ys good = end_is_bytes xs ys (λ i. good (suc i))

-- the unread bytes are an end of all bytes
unread_end : (roster : List Definition) (bytes : List ℕ) (acks : List Acknowledgement) (d : Decoding) → IsBytes bytes → AreReadSoFar roster bytes acks d
    → (drop (length bytes - length d.unread) bytes ≡ d.unread) × (length d.unread ≤ length bytes) × IsBytes d.unread
unread_end roster bytes acks d good (ms, read, same) =
    let is : bytes ≡ stream_of ms ++ d.unread = (read_spelled nothing_received d.received bytes d.unread ms good read).0 in
    let sizes : length bytes ≡ length (stream_of ms) + length d.unread = ap (λ (x : List ℕ). length x) is ∙ length-append (stream_of ms) d.unread in
    let from : length (stream_of ms) ≡ length bytes - length d.unread = omega (arith, sizes) in (
      ap (drop (length bytes - length d.unread)) is ∙ drop_at (stream_of ms) d.unread (length bytes - length d.unread) from,
      omega (arith, sizes),
      end_is_bytes (stream_of ms) d.unread (subst IsBytes is good),
    )

pub unread_shorter : (roster : List Definition) (bytes : List ℕ) (acks : List Acknowledgement) (d e : Decoding) (m : Message) → IsBytes bytes → AreReadSoFar roster bytes acks d
    → DecoderNext d (Ok (Some m)) e → length e.unread < length d.unread
unread_shorter roster bytes acks d e m good read (is_open, rest, at, is) =
    let shorter : length rest < length d.unread = (rest_is_end d.received m d.unread rest (unread_end roster bytes acks d good read).2 at).1 in
    subst (λ (x : Decoding). length x.unread < length d.unread) (sym is) shorter

pub unread_fewer : (roster : List Definition) (bytes : List ℕ) (acks : List Acknowledgement) (d e : Decoding) → IsBytes bytes → AreReadSoFar roster bytes acks d → e ≡ d → length e.unread ≤ length bytes
unread_fewer roster bytes acks d e good read is = subst (λ (x : Decoding). length x.unread ≤ length bytes) (sym is) (unread_end roster bytes acks d good read).1

pub all_read : (roster : List Definition) (bytes : List ℕ) (read : Read) (d e : Decoding) → IsBytes bytes → AreReadSoFar roster bytes read.acks.items d → DecoderNext d (Ok None) e
    → read.used ≡ length bytes - length e.unread → AreAcksOf roster bytes read
all_read roster bytes read d e good so_far (is_open, none, is) used =
    let end = unread_end roster bytes read.acks.items d good so_far in
    let there : read.used ≡ length bytes - length d.unread = used ∙ ap (λ (x : Decoding). length bytes - length x.unread) is in
    let left : drop read.used bytes ≡ d.unread = ap (λ (n : ℕ). drop n bytes) there ∙ end.0 in
    record {
      within = omega (arith, there);
      messages = (
        so_far.0,
        d.received,
        subst (λ (x : List ℕ). AreRead nothing_received bytes so_far.0 d.received x) (sym left) so_far.1,
        ap (λ (x : List ℕ). message_at d.received x) left ∙ none,
        so_far.2,
      );
    }

-- ---- looking

pub taught_at : (taught : Bool) (session t number i : ℕ) (cells : List CellState) (c : CellState) → IsCellAt t cells i → c ≡ get_or cells i c
    → taught ≡ is_none (ack_refusal false c.state session number) → MatchBool taught (IsTaught session cells (t, number)) (IsTaught session cells (t, number) → ⊥)
taught_at true session t number i cells c here is answer =
    (c, here.here c ∙ ap (λ (x : CellState). Some x) (sym is), none_from (ack_refusal false c.state session number) (sym answer))
taught_at false session t number i cells c here is answer = λ known.
    let at : cell_at t cells ≡ Some c = here.here c ∙ ap (λ (x : CellState). Some x) (sym is) in
    let same : known.0 ≡ c = same_Some known.0 c (sym known.1 ∙ at) in
    let granted : ack_refusal false c.state session number ≡ None = subst (λ (x : CellState). ack_refusal false x.state session number ≡ None) same known.2 in
    false≢true (answer ∙ ap (λ (o : Option AckError). is_none o) granted)

pub untaught : (session t number : ℕ) (cells : List CellState) → cell_at t cells ≡ None → IsTaught session cells (t, number) → ⊥
untaught session t number cells none known = some_none known.0 (sym known.1 ∙ none)

pub pair_at : (P : ℕ × ℕ → Type 0) (acks : List Acknowledgement) (i : ℕ) (d : Acknowledgement) → i < length acks → AllByRecursion P (pairs_of acks) → P (pair_of (get_or acks i d))
pair_at P [] i d below all = absurd (omega arith)
pair_at P (a ∷ acks) zero d below all = all.0
pair_at P (a ∷ acks) (suc i) d below all = pair_at P acks i d (omega arith) all.1

plus_one : (n : ℕ) → n + 1 ≡ suc n
plus_one n = omega arith

pub pairs_more : (P : ℕ × ℕ → Type 0) (acks : List Acknowledgement) (i : ℕ) (d : Acknowledgement) → i < length acks → AllByRecursion P (pairs_of (take i acks)) → P (pair_of (get_or acks i d))
    → AllByRecursion P (pairs_of (take (i + 1) acks))
pairs_more P acks i d below all one = subst (λ (n : ℕ). AllByRecursion P (pairs_of (take n acks))) (sym (plus_one i)) (next acks i below all one)
  where
    next : (acks : List Acknowledgement) (i : ℕ) → i < length acks → AllByRecursion P (pairs_of (take i acks)) → P (pair_of (get_or acks i d)) → AllByRecursion P (pairs_of (take (suc i) acks))
    next [] i below all one = absurd (omega arith)
    next (a ∷ acks) zero below all one = (one, tt)
    next (a ∷ acks) (suc i) below all one = (all.0, next acks i (omega arith) all.1 one)

counted : (t : ℕ) (acks : List Acknowledgement) → count_by (λ ack. ack.0 == t) (pairs_of acks) ≡ count_by (is_of t) acks
counted t [] = refl
counted t (a ∷ acks) =
    sum_by-cons (λ (p : ℕ × ℕ). cond (p.0 == t) 1 0) (pair_of a) (pairs_of acks)
    ∙ ap (λ (n : ℕ). cond (a.table == t) 1 0 + n) (counted t acks)
    ∙ sym (sum_by-cons (λ (x : Acknowledgement). cond (is_of t x) 1 0) a acks)

pub room_at : (has : Bool) (t i count room : ℕ) (cells : List CellState) (c : CellState) (acks : List Acknowledgement) → IsCellAt t cells i → c ≡ get_or cells i c
    → count ≡ count_by (is_of t) acks → room ≡ room_of c → has ≡ nat_le count room → MatchBool has (HasRoom cells (pairs_of acks) t) (HasRoom cells (pairs_of acks) t → ⊥)
room_at true t i count room cells c acks here is counts rooms answer = λ d at.
    let same : d ≡ c = same_Some d c (sym at ∙ here.here c ∙ ap (λ (x : CellState). Some x) (sym is)) in
    let fits : count ≤ room = leb-true count room (sym answer) in
    let all = counted t acks in
    let left : room_of d ≡ room_of c = ap room_of same in
    omega (arith, fits, counts, rooms, all, left)
room_at false t i count room cells c acks here is counts rooms answer = λ has.
    let few : room < count = leb-false count room (sym answer) in
    let all = counted t acks in
    let fits : count_by (λ ack. ack.0 == t) (pairs_of acks) ≤ room_of c = has c (here.here c ∙ ap (λ (x : CellState). Some x) (sym is)) in
    absurd (omega (arith, few, counts, rooms, all, fits))

pub no_room_asked : (t : ℕ) (cells : List CellState) (acks : List (ℕ × ℕ)) → cell_at t cells ≡ None → HasRoom cells acks t
no_room_asked t cells acks none = λ c at. absurd (some_none c (sym at ∙ none))

-- each table of the list has room
abbrev pub EachHasRoom : List CellState → List (ℕ × ℕ) → List CellState → Type 0
EachHasRoom cells acks cs = AllByRecursion (λ c. HasRoom cells acks c.state.definition.id) cs

pub cells_more : (P : CellState → Type 0) (cs : List CellState) (i : ℕ) (c : CellState) → i < length cs → c ≡ get_or cs i c → AllByRecursion P (take i cs) → P c → AllByRecursion P (take (i + 1) cs)
cells_more P cs i c below is all one = subst (λ (n : ℕ). AllByRecursion P (take n cs)) (sym (plus_one i)) (next cs i below is all)
  where
    next : (cs : List CellState) (i : ℕ) → i < length cs → c ≡ get_or cs i c → AllByRecursion P (take i cs) → AllByRecursion P (take (suc i) cs)
    next [] i below is all = absurd (omega arith)
    next (x ∷ cs) zero below is all = (subst P is one, tt)
    next (x ∷ cs) (suc i) below is all = (all.0, next cs i (omega arith) is all.1)

cell_in : (P : CellState → Type 0) (t : ℕ) (c : CellState) (cs : List CellState) → cell_at t cs ≡ Some c → AllByRecursion P cs → P c × (is_table t c ≡ true)
cell_in P t c [] at all = absurd (some_none c (sym at))
cell_in P t c (x ∷ cs) at all = elim (cases_Bool (is_table t x)) [
  | inl here ↦
      let same : x ≡ c = same_Some x c (sym (at_here t x cs here) ∙ at) in
      (subst P same all.0, subst (λ (y : CellState). is_table t y ≡ true) same here)
  | inr there ↦ cell_in P t c cs (sym (at_there t x cs there) ∙ at) all.1
]

pub each_room : (cells : List CellState) (acks : List (ℕ × ℕ)) → EachHasRoom cells acks cells → HaveRoom cells acks
each_room cells acks all t c at =
    let found = cell_in (λ x. HasRoom cells acks x.state.definition.id) t c cells at all in
    let same : c.state.definition.id ≡ t = eqb-true c.state.definition.id t found.1 in
    subst (λ (u : ℕ). HasRoom cells acks u) same found.0 c at

pub taken_with_room : (has : Bool) (session : ℕ) (acks : List (ℕ × ℕ)) (cells : List CellState) → AreTaught session cells acks → MatchBool has (HaveRoom cells acks) (HaveRoom cells acks → ⊥)
    → has ≡ is_some (acked_all session acks cells)
taken_with_room true session acks cells taught room =
    sym (ap (λ (o : Option (List CellState)). is_some o) (all_are_taken session acks cells taught room).1)
taken_with_room false session acks cells taught none = by (acked_all session acks cells) refl
  where
    by : (o : Option (List CellState)) → acked_all session acks cells ≡ o → false ≡ is_some (acked_all session acks cells)
    by None at = sym (ap (λ (o : Option (List CellState)). is_some o) at)
    by (Some e) at = absurd (none (all_taken session acks cells e at).1)

pub not_taken : (taught : Bool) (session : ℕ) (acks : List (ℕ × ℕ)) (cells : List CellState) → taught ≡ false → MatchBool taught (AreTaught session cells acks) (AreTaught session cells acks → ⊥)
    → taught ≡ is_some (acked_all session acks cells)
not_taken true session acks cells e known = absurd (true≢false e)
not_taken false session acks cells e none = by (acked_all session acks cells) refl
  where
    by : (o : Option (List CellState)) → acked_all session acks cells ≡ o → false ≡ is_some (acked_all session acks cells)
    by None at = sym (ap (λ (o : Option (List CellState)). is_some o) at)
    by (Some x) at = absurd (none (all_taken session acks cells x at).0)

-- ---- making

pub make_one : (session t number i : ℕ) (cells : List CellState) (old new : CellState) (settled : Settled) → IsCellAt t cells i → old ≡ get_or cells i old
    → Acknowledges old session number (Ok settled) new → is_some (option_and_then (acked session number) (cell_at t cells)) ≡ true
    → (c : CellState) × (option_and_then (acked session number) (cell_at t cells) ≡ Some c) × (set cells i new ≡ with_cell t c cells)
make_one session t number i cells old new settled here is called takes = by (acked session number old) refl
  where
    at : cell_at t cells ≡ Some old
    at = here.here old ∙ ap (λ (x : CellState). Some x) (sym is)

    there : option_and_then (acked session number) (cell_at t cells) ≡ acked session number old
    there = ap (λ (o : Option CellState). option_and_then (acked session number) o) at

    by : (o : Option CellState) → acked session number old ≡ o → (c : CellState) × (option_and_then (acked session number) (cell_at t cells) ≡ Some c) × (set cells i new ≡ with_cell t c cells)
    by None none = absurd (false≢true (sym (ap (λ (o : Option CellState). is_some o) (there ∙ none)) ∙ takes))
    by (Some d) taken = (d, there ∙ taken, here.changed new ∙ ap (λ (x : CellState). with_cell t x cells) (made session number old d new settled called taken))

pub none_to_make : (session t number : ℕ) (cells : List CellState) → cell_at t cells ≡ None → is_some (option_and_then (acked session number) (cell_at t cells)) ≡ true → ⊥
none_to_make session t number cells none takes =
    false≢true (sym (ap (λ (o : Option CellState). is_some (option_and_then (acked session number) o)) none) ∙ takes)

-- what is still to be made leads to the same tables
abbrev pub AreMadeSoFar : ℕ → List Acknowledgement → ℕ → List CellState → List CellState → Type 0
AreMadeSoFar session acks i old cells = acked_all session (pairs_of (drop i acks)) cells ≡ acked_all session (pairs_of acks) old
