-- Events that were dropped, and receipts that were forgotten, are missed.
use Rattle.std.proofs.Common.{◌≡◌, ◌≢◌, ℕ, ◌+◌, ◌%◌, ◌^◌, ◌<◌, ◌≤◌, ◌==◌, ◌&&◌, Bool, false, true≢false, List, [], ◌∷◌, ◌++◌, length, Ok, Option, Some, None, nat_lt, nat_le, refl, sym, ap, ◌∙◌, arith, inl, inr}
use native.Mathlib.Nat.{mod-eq_of_lt}
use Rattle.std.specs.List.{AllByRecursion}
use Rattle.std.proofs.lemmas.Bool.{and_right, cases_Bool, cases_eq, cases_lt, le-ltb, lt-leb, ne_eqb}
use Rattle.std.proofs.lemmas.List.{length-append, nil_from_length}
use Rattle.table_cell.specs.declared.events.CellEvent.{CellEvent}
use Rattle.table_cell.specs.declared.events.CellReply.{CellReply}
use Rattle.table_cell.specs.Histories.{CellState, Made, Slides, begun_anew, events_of}
use Rattle.table_cell.specs.Renumbering.{Renumbers}
use Rattle.table_shards.specs.declared.unlocked.UnlockedTable.{UnlockedTable}
use Rattle.table_shards.specs.declared.errors.AuditError.{AuditError}
use Rattle.table_shards.specs.declared.errors.AuditError.TheVariants as errors
use Rattle.table_shards.specs.Receipts.{ReceiptState, SeatState, all_receipts, forgotten, receipts_of, times}
use Rattle.table_shards.specs.Roll.{AreSeats}
use Rattle.table_shards.specs.Agreement.{Agree, IsEntry, OneOf, id_of}
use Rattle.table_shards.specs.Audits.{Audits, IsRight, UnlockedState}
use Rattle.table_shards.proofs.AgreeLaws.{receipts_count}
use Rattle.table_shards.proofs.CompareLaws.{none_of_all}
use Rattle.table_shards.proofs.ForgetLaws.{no_receipts}
use Rattle.table_shards.proofs.PageLaws.{eqb_is, some_none}
use Rattle.table_shards.proofs.ReceiptLaws.{times_other}

-- ---- dropped events

-- no receipt is an event that was dropped
not_there : (c : CellState) (began : ℕ) (rs : List ReceiptState) → began < c.dropped + c.slid → AllByRecursion (λ r. (began < r.place) × IsEntry c r) rs → times (began + 1) rs ≡ 1 → ⊥
not_there c began [] lost own once =
    let none : times (began + 1) [] ≡ 0 = refl in
    absurd (omega (arith, none, once))
not_there c began (r ∷ rs) lost (first, rest) once = elim (cases_Bool (r.place == began + 1)) [
  | inl same ↦
      let gone : nat_lt (c.dropped + c.slid) r.place ≡ false = le-ltb (c.dropped + c.slid) r.place (omega (arith, lost, eqb_is r.place (began + 1) same)) in
      let none : None ≡ Some (r.event, r.reply) = rw gone at first.1 in
      some_none (r.event, r.reply) (sym none)
  | inr other ↦ not_there c began rs lost rest (omega (arith, once, times_other (began + 1) r rs other))
]

-- a table with which receipts agree has dropped no event of the round
pub none_dropped : (c : CellState) (began : ℕ) (seats : List SeatState) → c.slid ≤ length c.history → Agree c began seats → c.dropped + c.slid ≤ began
none_dropped c began seats slid agree = elim (cases_lt began (c.dropped + c.slid)) [
  | inl lost ↦ absurd (not_there c began (all_receipts (id_of c) seats) lost agree.own (agree.once (began + 1) (omega arith) (omega (arith, lost, slid))))
  | inr kept ↦ kept
]

pub slide_drops : (c e : CellState) (hs : List (CellEvent × CellReply)) → Slides c hs e → e.dropped + e.slid ≡ events_of c
slide_drops c e hs (given, held, is, batches) =
    let slid : e.slid ≡ length c.history = ap (λ (x : CellState). x.slid) is in
    let dropped : e.dropped ≡ c.dropped = ap (λ (x : CellState). x.dropped) is in
    omega (arith, slid, dropped)

pub anew_drops : (c : CellState) → (begun_anew c).dropped + (begun_anew c).slid ≡ events_of c
anew_drops c = omega arith

pub still_dropped : (c e : CellState) (event : CellEvent) (reply : CellReply) → Made c event reply e → e.dropped + e.slid ≡ c.dropped + c.slid
still_dropped c e event reply made = ap (λ (x : CellState). x.dropped + x.slid) made.1

-- ---- renewals

-- one more renewal changes the count, which starts again after 2^64 - 1
one_more : (n : ℕ) → n < 2 ^ 64 → (n + 1) % 2 ^ 64 ≢ n
one_more n below same = elim (cases_lt (n + 1) (2 ^ 64)) [
  | inl less ↦ let is : (n + 1) % 2 ^ 64 ≡ n + 1 = mod-eq_of_lt less in omega (arith, same, is)
  | inr last ↦
      let top : n + 1 ≡ 2 ^ 64 = omega (arith, below, last) in
      let is : (n + 1) % 2 ^ 64 ≡ 0 = ap (λ (m : ℕ). m % 2 ^ 64) top in
      omega (arith, same, is, top)
]

pub renewal_counts : (c e : CellState) → c.renewals < 2 ^ 64 → Renumbers c (Ok tt) e → e.renewals ≢ c.renewals
renewal_counts c e below (closed, is) same = one_more c.renewals below (sym (ap (λ (x : CellState). x.renewals) is) ∙ same)

pub event_counts : (c e : CellState) (event : CellEvent) (reply : CellReply) → Made c event reply e → e.renewals ≡ c.renewals
event_counts c e event reply (step, is) = ap (λ (x : CellState). x.renewals) is

pub slide_counts : (c e : CellState) (hs : List (CellEvent × CellReply)) → Slides c hs e → e.renewals ≡ c.renewals
slide_counts c e hs (given, held, is, batches) = ap (λ (x : CellState). x.renewals) is

pub anew_counts : (c : CellState) → (begun_anew c).renewals ≡ c.renewals
anew_counts c = refl

-- ---- forgotten receipts

lengths : (t : ℕ) (xs ys : List SeatState) (s : SeatState) → length (all_receipts t (xs ++ s ∷ ys)) ≡ length (all_receipts t xs) + (length (receipts_of t s) + length (all_receipts t ys))
lengths t [] ys s =
    let whole : length (all_receipts t (s ∷ ys)) ≡ length (receipts_of t s) + length (all_receipts t ys) = length-append (receipts_of t s) (all_receipts t ys) in
    let none : length (all_receipts t []) ≡ 0 = refl in
    omega (arith, whole, none)
lengths t (x ∷ xs) ys s =
    let whole : length (all_receipts t (x ∷ xs ++ s ∷ ys)) ≡ length (receipts_of t x) + length (all_receipts t (xs ++ s ∷ ys)) = length-append (receipts_of t x) (all_receipts t (xs ++ s ∷ ys)) in
    let first : length (all_receipts t (x ∷ xs)) ≡ length (receipts_of t x) + length (all_receipts t xs) = length-append (receipts_of t x) (all_receipts t xs) in
    let rest = lengths t xs ys s in
    omega (arith, whole, first, rest)

-- there are too few receipts, also if each further event has one
pub too_few : (c e : CellState) (began more : ℕ) (before behind seats : List SeatState) (s : SeatState)
    → Agree c began (before ++ s ∷ behind) → receipts_of (id_of c) s ≢ [] → events_of e ≡ events_of c + more
    → length (all_receipts (id_of e) seats) ≡ length (all_receipts (id_of c) (before ++ forgotten (id_of c) s ∷ behind)) + more
    → Agree e began seats → ⊥
too_few c e began more before behind seats s agreed some events count agree =
    let t = id_of c in
    let lost : 1 ≤ length (receipts_of t s) = elim (cases_eq (length (receipts_of t s)) 0) [
      | inl zero ↦ absurd (some (nil_from_length (receipts_of t s) zero))
      | inr other ↦ omega (arith, other)
    ] in
    let none : length (receipts_of t (forgotten t s)) ≡ 0 = ap (λ (rs : List ReceiptState). length rs) (no_receipts t s) in
    let had = receipts_count c began (before ++ s ∷ behind) agreed in
    let has = receipts_count e began seats agree in
    absurd (omega (arith, lost, none, had, has, events, count, lengths t before behind s, lengths t before behind (forgotten t s)))

-- ---- what an audit finds

one_so : {A : Type 0} (P Q : A → Type 0) (so : (x : A) → P x → Q x) (xs : List A) → OneOf P xs → OneOf Q xs
one_so P Q so [] one = one
one_so P Q so (x ∷ xs) (inl here) = inl (so x here)
one_so P Q so (x ∷ xs) (inr there) = inr (one_so P Q so xs there)

found_wrong : (u : UnlockedState) (seats : List SeatState) (r : Option AuditError) → Audits u seats r → AreSeats u.seats seats → OneOf (λ t. IsRight seats t → ⊥) u.tables
    → (table seat : ℕ) × (r ≡ Some (errors.Mismatch table seat))
found_wrong u seats None audits present wrong = absurd (none_of_all (IsRight seats) (λ t. IsRight seats t → ⊥) u.tables (λ t right not_so. not_so right) audits.1 wrong)
found_wrong u seats (Some errors.MissingSeat) audits present wrong = absurd (audits present)
found_wrong u seats (Some (errors.Mismatch table seat)) audits present wrong = (table, seat, refl)

pub found_dropped : (u : UnlockedState) (seats : List SeatState) (r : Option AuditError) → Audits u seats r → AreSeats u.seats seats → OneOf (λ t. t.began < t.cell.dropped + t.cell.slid) u.tables
    → (table seat : ℕ) × (r ≡ Some (errors.Mismatch table seat))
found_dropped u seats r audits present lost =
    found_wrong u seats r audits present (one_so (λ (t : UnlockedTable). t.began < t.cell.dropped + t.cell.slid) (λ t. IsRight seats t → ⊥)
    (λ t less right.
    let beyond : nat_le (t.cell.dropped + t.cell.slid) t.began ≡ false = lt-leb (t.cell.dropped + t.cell.slid) t.began less in
    true≢false (sym right.0 ∙ ap (λ (b : Bool). b && t.cell.renewals == t.renewals) (and_right (id_of t.cell == t.table) (nat_le (t.cell.dropped + t.cell.slid) t.began) beyond))) u.tables lost)

pub found_renewed : (u : UnlockedState) (seats : List SeatState) (r : Option AuditError) → Audits u seats r → AreSeats u.seats seats → OneOf (λ t. t.cell.renewals ≢ t.renewals) u.tables
    → (table seat : ℕ) × (r ≡ Some (errors.Mismatch table seat))
found_renewed u seats r audits present renewed =
    found_wrong u seats r audits present (one_so (λ (t : UnlockedTable). t.cell.renewals ≢ t.renewals) (λ t. IsRight seats t → ⊥)
    (λ t other right. true≢false (sym right.0 ∙ and_right (id_of t.cell == t.table && nat_le (t.cell.dropped + t.cell.slid) t.began) (t.cell.renewals == t.renewals) (ne_eqb t.cell.renewals t.renewals other))) u.tables renewed)

pub found_apart : (u : UnlockedState) (seats : List SeatState) (r : Option AuditError) → Audits u seats r → AreSeats u.seats seats → OneOf (λ t. Agree t.cell t.began seats → ⊥) u.tables
    → (table seat : ℕ) × (r ≡ Some (errors.Mismatch table seat))
found_apart u seats r audits present apart =
    found_wrong u seats r audits present (one_so (λ (t : UnlockedTable). Agree t.cell t.began seats → ⊥) (λ t. IsRight seats t → ⊥) (λ t not_so right. not_so right.2) u.tables apart)
