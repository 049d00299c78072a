-- Logs: the rows that their entries have, entries that are swept, and entries above a number.
use Rattle.std.proofs.Common.{◌≡◌, ℕ, zero, suc, ◌+◌, ◌-◌, ◌<◌, ◌≤◌, ◌||◌, Bool, true, false, List, [], ◌∷◌, ◌++◌, length, drop, drop-cons, drop-set-lt, get_or, set, take, Option, Some, None, refl, sym, ap, ◌∙◌, subst, arith, append-nil, append_assoc}
use Rattle.std.specs.Prelude.{◌==◌, filter, filter_map, nat_lt, slice_get}
use Rattle.std.specs.List.{AllByRecursion, cons_option}
use Rattle.std.proofs.lemmas.Bool.{cond-false, cond-true, eq-eqb, eqb-true, le-ltb, lt-ltb, ltb-false, ltb-true, ne_eqb}
use Rattle.std.proofs.lemmas.List.Elements.{filter-append, filter_map-append}
use Rattle.std.proofs.lemmas.Grind.{take-set_at}
use Rattle.std.proofs.lemmas.List.{drop-append-le, drop_all, length-append, length-drop, length-take-le, length_push, take-append-drop, take-append-le, take-take, take_all}
use Rattle.std.proofs.lemmas.Option.{cond_some, get_or_from_slice_get, none-some, slice_get_within}
use Rattle.table_types.specs.declared.key.Key.{Key}
use Rattle.table_types.specs.Rows.{StoredRow}
use Rattle.table_stock.specs.NumberedRows.{NumbersRise}
use Rattle.table_stock.specs.Shelves.{IsSwept, LogRises, current, if_numbered, logged_in, rows_in}
use Rattle.table_stock.proofs.BlockLaws.{get_after, get_before}

-- ---- entries and their rows

pub numbered_is : (number : ℕ) (o : Option (Key × StoredRow)) (e : Key × StoredRow) → if_numbered number o ≡ Some e → (o ≡ Some e) × (e.1.number ≡ number)
numbered_is number None e is = absurd (none-some e is)
numbered_is number (Some f) e is =
    let (same, one) = cond_some (f.1.number == number) f e is in
    (ap (λ (q : Key × StoredRow). Some q) one, sym (ap (λ (q : Key × StoredRow). q.1.number) one) ∙ eqb-true f.1.number number same)

pub numbered_same : (number : ℕ) (e : Key × StoredRow) → e.1.number ≡ number → if_numbered number (Some e) ≡ Some e
numbered_same number e same = cond-true (e.1.number == number) (Some e) None (eq-eqb e.1.number number same)

pub numbered_other : (number : ℕ) (e : Key × StoredRow) → (e.1.number ≡ number → ⊥) → if_numbered number (Some e) ≡ None
numbered_other number e other = cond-false (e.1.number == number) (Some e) None (ne_eqb e.1.number number other)

pub rows-append : (at : ℕ → Option (Key × StoredRow)) (xs ys : List (ℕ × ℕ)) → rows_in at (xs ++ ys) ≡ rows_in at xs ++ rows_in at ys
rows-append at xs ys = filter_map-append (current at) xs ys

-- logs have the same rows if each slot has the same one
pub rows_same : (at after : ℕ → Option (Key × StoredRow)) → ((slot : ℕ) → after slot ≡ at slot) → (log : List (ℕ × ℕ)) → rows_in after log ≡ rows_in at log
rows_same at after same [] = refl
rows_same at after same (entry ∷ log) =
    ap (λ (o : Option (Key × StoredRow)). cons_option (if_numbered entry.0 o) (rows_in after log)) (same entry.1)
    ∙ ap (cons_option (current at entry)) (rows_same at after same log)

-- ---- numbers ascend

pub log_bound : (least next : ℕ) (log : List (ℕ × ℕ)) → LogRises least next log → least ≤ next
log_bound least next [] rise = rise
log_bound least next (entry ∷ log) (first, rest) = let more = log_bound (entry.0 + 1) next log rest in omega (arith, first, more)

pub log_below : (least next : ℕ) (log : List (ℕ × ℕ)) → LogRises least next log → AllByRecursion (λ (entry : ℕ × ℕ). entry.0 < next) log
log_below least next [] rise = tt
log_below least next (entry ∷ log) (first, rest) =
    let more = log_bound (entry.0 + 1) next log rest in
    (omega (arith, more), log_below (entry.0 + 1) next log rest)

pub log_from_less : (a b next : ℕ) (log : List (ℕ × ℕ)) → a ≤ b → LogRises b next log → LogRises a next log
log_from_less a b next [] less rise = omega (arith, less, rise)
log_from_less a b next (entry ∷ log) less (first, rest) = (omega (arith, less, first), rest)

pub log_end : (least next slot : ℕ) (log : List (ℕ × ℕ)) → LogRises least next log → LogRises least (next + 1) (log ++ (next, slot) ∷ [])
log_end least next slot [] rise = (rise, omega arith)
log_end least next slot (entry ∷ log) (first, rest) = (first, log_end (entry.0 + 1) next slot log rest)

log_without : (least next : ℕ) (xs ys : List (ℕ × ℕ)) (entry : ℕ × ℕ) → LogRises least next (xs ++ entry ∷ ys) → LogRises least next (xs ++ ys)
log_without least next [] ys entry (first, rest) = log_from_less least (entry.0 + 1) next ys (omega (arith, first)) rest
log_without least next (x ∷ xs) ys entry (first, rest) = (first, log_without (x.0 + 1) next xs ys entry rest)

-- the rows' numbers ascend as the log's do
pub rows_rise : (at : ℕ → Option (Key × StoredRow)) (least next : ℕ) (log : List (ℕ × ℕ)) → LogRises least next log → NumbersRise least next (rows_in at log)
rows_rise at least next [] rise = rise
rows_rise at least next (entry ∷ log) (first, rest) = by (current at entry) refl (rows_rise at (entry.0 + 1) next log rest)
  where
    less : (a b : ℕ) (es : List (Key × StoredRow)) → a ≤ b → NumbersRise b next es → NumbersRise a next es
    less a b [] below rise = omega (arith, below, rise)
    less a b (e ∷ es) below (over, others) = (omega (arith, below, over), others)

    by : (o : Option (Key × StoredRow)) → current at entry ≡ o → NumbersRise (entry.0 + 1) next (rows_in at log) → NumbersRise least next (cons_option o (rows_in at log))
    by None none rise = less least (entry.0 + 1) (rows_in at log) (omega (arith, first)) rise
    by (Some e) is rise =
        let number = (numbered_is entry.0 (at entry.1) e is).1 in
        (omega (arith, first, number), subst (λ (n : ℕ). NumbersRise (n + 1) next (rows_in at log)) (sym number) rise)

-- ---- sweeping

pub nothing_swept : (at : ℕ → Option (Key × StoredRow)) (log after : List (ℕ × ℕ)) → after ≡ log → IsSwept at log after
nothing_swept at log after same = rw same (record { rows = refl; rising = λ least next rise. rise })

pub swept_twice : (at : ℕ → Option (Key × StoredRow)) (old mid new : List (ℕ × ℕ)) → IsSwept at old mid → IsSwept at mid new → IsSwept at old new
swept_twice at old mid new first second = record { rows = second.rows ∙ first.rows; rising = λ least next rise. second.rising least next (first.rising least next rise) }

-- a stale entry is left out
pub one_swept : (at : ℕ → Option (Key × StoredRow)) (xs ys : List (ℕ × ℕ)) (entry : ℕ × ℕ) → current at entry ≡ None → IsSwept at (xs ++ entry ∷ ys) (xs ++ ys)
one_swept at xs ys entry stale = record {
  rows = rows-append at xs ys
      ∙ ap (λ (o : Option (Key × StoredRow)). rows_in at xs ++ cons_option o (rows_in at ys)) (sym stale)
      ∙ sym (rows-append at xs (entry ∷ ys));
  rising = λ least next rise. log_without least next xs ys entry rise;
}

-- ---- the entries of a log, before and after its gap

get_take : (n : ℕ) (l : List (ℕ × ℕ)) (i : ℕ) → i < n → slice_get (take n l) i ≡ slice_get l i
get_take zero l i below = absurd (omega (arith, below))
get_take (suc n) [] i below = refl
get_take (suc n) (x ∷ xs) zero below = refl
get_take (suc n) (x ∷ xs) (suc i) below = get_take n xs i (omega (arith, below))

get_drop : (n : ℕ) (l : List (ℕ × ℕ)) (i : ℕ) → slice_get (drop n l) i ≡ slice_get l (n + i)
get_drop zero l i = let same : 0 + i ≡ i = omega arith in sym (ap (slice_get l) same)
get_drop (suc n) [] i = refl
get_drop (suc n) (x ∷ xs) i = let next : suc n + i ≡ suc (n + i) = omega arith in get_drop n xs i ∙ sym (ap (slice_get (x ∷ xs)) next)

take_set : (n : ℕ) (l : List (ℕ × ℕ)) (i : ℕ) (entry : ℕ × ℕ) → take n (set l i entry) ≡ set (take n l) i entry
take_set zero l i entry = refl
take_set (suc n) [] i entry = refl
take_set (suc n) (x ∷ xs) zero entry = refl
take_set (suc n) (x ∷ xs) (suc i) entry = ap (λ (l : List (ℕ × ℕ)). x ∷ l) (take_set n xs i entry)

pub length_logged : (entries : List (ℕ × ℕ)) (kept unswept end : ℕ) → kept ≤ unswept → unswept ≤ end → end ≤ length entries → length (logged_in (take end entries) kept unswept) ≡ end - (unswept - kept)
length_logged entries kept unswept end less within most =
    let all = length-take-le end entries most in
    let front = length-take-le kept (take end entries) (omega (arith, less, within, all)) in
    let back = length-drop unswept (take end entries) in
    let both = length-append (take kept (take end entries)) (drop unswept (take end entries)) in
    omega (arith, less, within, all, front, back, both)

pub got_front : (entries : List (ℕ × ℕ)) (kept unswept end index : ℕ) → kept ≤ unswept → unswept ≤ end → end ≤ length entries → index < kept → slice_get entries index ≡ slice_get (logged_in (take end entries) kept unswept) index
got_front entries kept unswept end index less within most below =
    let all = length-take-le end entries most in
    let front = length-take-le kept (take end entries) (omega (arith, less, within, all)) in
    sym (get_take end entries index (omega (arith, below, less, within)))
    ∙ sym (get_take kept (take end entries) index below)
    ∙ sym (get_before (take kept (take end entries)) (drop unswept (take end entries)) index (omega (arith, front, below)))

pub got_back : (entries : List (ℕ × ℕ)) (kept unswept end index : ℕ) → kept ≤ unswept → unswept ≤ end → end ≤ length entries → kept ≤ index → index < end - (unswept - kept)
    → slice_get entries (index + (unswept - kept)) ≡ slice_get (logged_in (take end entries) kept unswept) index
got_back entries kept unswept end index less within most past below =
    let all = length-take-le end entries most in
    let front = length-take-le kept (take end entries) (omega (arith, less, within, all)) in
    let place : index + (unswept - kept) ≡ unswept + (index - kept) = omega (arith, less, past) in
    let here : index ≡ length (take kept (take end entries)) + (index - kept) = omega (arith, front, past) in
    sym (get_take end entries (index + (unswept - kept)) (omega (arith, below, less, within, past)))
    ∙ ap (slice_get (take end entries)) place
    ∙ sym (get_drop unswept (take end entries) (index - kept))
    ∙ sym (get_after (take kept (take end entries)) (drop unswept (take end entries)) (index - kept))
    ∙ sym (ap (slice_get (logged_in (take end entries) kept unswept)) here)

next_entry : (entries : List (ℕ × ℕ)) (index : ℕ) (entry : ℕ × ℕ) → slice_get entries index ≡ Some entry → drop index entries ≡ entry ∷ drop (index + 1) entries
next_entry entries index entry found =
    let next : suc index ≡ index + 1 = omega arith in
    let read : get_or entries index entry ≡ entry = get_or_from_slice_get entries index entry entry found in
    drop-cons entries index entry (slice_get_within entries index entry found)
    ∙ ap (λ (e : ℕ × ℕ). e ∷ drop (suc index) entries) read
    ∙ ap (λ (n : ℕ). entry ∷ drop n entries) next

-- the next entry of a sweep is the first of those that it hasn't looked at
next_unswept : (entries : List (ℕ × ℕ)) (kept unswept end : ℕ) (entry : ℕ × ℕ) → unswept < end → slice_get entries unswept ≡ Some entry
    → logged_in (take end entries) kept unswept ≡ take kept (take end entries) ++ entry ∷ drop (unswept + 1) (take end entries)
next_unswept entries kept unswept end entry within found =
    ap (λ (l : List (ℕ × ℕ)). take kept (take end entries) ++ l) (next_entry (take end entries) unswept entry (get_take end entries unswept within ∙ found))

-- it is kept
pub entry_kept : (at : ℕ → Option (Key × StoredRow)) (entries after : List (ℕ × ℕ)) (kept unswept end : ℕ) (entry : ℕ × ℕ) → kept ≤ unswept → unswept < end → end ≤ length entries → slice_get entries unswept ≡ Some entry → after ≡ set entries kept entry
    → IsSwept at (logged_in (take end entries) kept unswept) (logged_in (take end after) (kept + 1) (unswept + 1))
entry_kept at entries after kept unswept end entry less within most found is =
    let all : length (take end entries) ≡ end = length-take-le end entries most in
    nothing_swept at (logged_in (take end entries) kept unswept) (logged_in (take end after) (kept + 1) (unswept + 1))
    (ap (λ (q : List (ℕ × ℕ)). logged_in q (kept + 1) (unswept + 1)) (ap (take end) is ∙ take_set end entries kept entry)
    ∙ ap (λ (q : List (ℕ × ℕ)). q ++ drop (unswept + 1) (set (take end entries) kept entry)) (take-set_at (take end entries) kept (kept + 1) entry refl (omega (arith, less, within, all)))
    ∙ ap (λ (q : List (ℕ × ℕ)). (take kept (take end entries) ++ entry ∷ []) ++ q) (drop-set-lt (unswept + 1) (take end entries) kept entry (omega (arith, less)))
    ∙ append_assoc (take kept (take end entries)) (entry ∷ []) (drop (unswept + 1) (take end entries))
    ∙ sym (next_unswept entries kept unswept end entry within found))

-- it is stale, and left out
pub entry_left : (at : ℕ → Option (Key × StoredRow)) (entries : List (ℕ × ℕ)) (kept unswept end : ℕ) (entry : ℕ × ℕ) → unswept < end → slice_get entries unswept ≡ Some entry → current at entry ≡ None
    → IsSwept at (logged_in (take end entries) kept unswept) (logged_in (take end entries) kept (unswept + 1))
entry_left at entries kept unswept end entry within found stale =
    subst (λ (l : List (ℕ × ℕ)). IsSwept at l (logged_in (take end entries) kept (unswept + 1))) (sym (next_unswept entries kept unswept end entry within found))
    (one_swept at (take kept (take end entries)) (drop (unswept + 1) (take end entries)) entry stale)

-- there is none, and the entries that were kept are all
pub sweep_ended : (at : ℕ → Option (Key × StoredRow)) (entries : List (ℕ × ℕ)) (kept unswept end : ℕ) → kept ≤ unswept → unswept ≤ end → end ≤ length entries → end ≤ unswept → IsSwept at (logged_in (take end entries) kept unswept) (logged_in (take kept entries) 0 0)
sweep_ended at entries kept unswept end less within most past =
    let all = length-take-le end entries most in
    nothing_swept at (logged_in (take end entries) kept unswept) (logged_in (take kept entries) 0 0)
    (sym (take-take kept end entries (omega (arith, less, within)))
    ∙ sym (append-nil (take kept (take end entries)))
    ∙ ap (λ (l : List (ℕ × ℕ)). take kept (take end entries) ++ l) (sym (drop_all unswept (take end entries) (omega (arith, all, past)))))

-- an entry is added at the end
pushed_in : (entries : List (ℕ × ℕ)) (kept unswept : ℕ) (entry : ℕ × ℕ) → kept ≤ unswept → unswept ≤ length entries → logged_in (entries ++ entry ∷ []) kept unswept ≡ logged_in entries kept unswept ++ entry ∷ []
pushed_in entries kept unswept entry less within =
    ap (λ (l : List (ℕ × ℕ)). l ++ drop unswept (entries ++ entry ∷ [])) (take-append-le kept entries (entry ∷ []) (omega (arith, less, within)))
    ∙ ap (λ (l : List (ℕ × ℕ)). take kept entries ++ l) (drop-append-le unswept entries (entry ∷ []) within)
    ∙ sym (append_assoc (take kept entries) (drop unswept entries) (entry ∷ []))

pub added : (entries after : List (ℕ × ℕ)) (kept unswept end next : ℕ) (entry : ℕ × ℕ) → kept ≤ unswept → unswept ≤ end → end ≤ length entries → next ≡ end + 1 → take (end + 1) after ≡ take end entries ++ entry ∷ []
    → logged_in (take next after) kept unswept ≡ logged_in (take end entries) kept unswept ++ entry ∷ []
added entries after kept unswept end next entry less within most is_next is =
    let all = length-take-le end entries most in
    ap (λ (n : ℕ). logged_in (take n after) kept unswept) is_next
    ∙ ap (λ (l : List (ℕ × ℕ)). logged_in l kept unswept) is
    ∙ pushed_in (take end entries) kept unswept entry less (omega (arith, all, within))

-- there is room for it
pub room_over : (end n : ℕ) (room : Bool) → end < n → (nat_lt end n || room) ≡ true
room_over end n room less = ap (λ (b : Bool). b || room) (lt-ltb end n less)

pub room_after : (old room : Bool) → room ≡ true → (old || room) ≡ true
room_after true room has = refl
room_after false room has = has

-- over an old one
pub written_over : (entries after : List (ℕ × ℕ)) (end : ℕ) (entry : ℕ × ℕ) → end < length entries → after ≡ set entries end entry → take (end + 1) after ≡ take end entries ++ entry ∷ []
written_over entries after end entry most is = ap (take (end + 1)) is ∙ take-set_at entries end (end + 1) entry refl most

-- after the last one
pub pushed_after : (entries after : List (ℕ × ℕ)) (end : ℕ) (entry : ℕ × ℕ) → end ≡ length entries → after ≡ entries ++ entry ∷ [] → take (end + 1) after ≡ take end entries ++ entry ∷ []
pushed_after entries after end entry is_end is =
    let longer = length_push entries entry in
    ap (take (end + 1)) is
    ∙ take_all (end + 1) (entries ++ entry ∷ []) (omega (arith, longer, is_end))
    ∙ ap (λ (l : List (ℕ × ℕ)). l ++ entry ∷ []) (sym (take_all end entries (omega (arith, is_end))))

-- ---- entries above a number

pub above_rows : (at : ℕ → Option (Key × StoredRow)) (number : ℕ) (log : List (ℕ × ℕ)) → rows_in at (filter (λ entry. nat_lt number entry.0) log) ≡ filter (λ e. nat_lt number e.1.number) (rows_in at log)
above_rows at number [] = refl
above_rows at number (entry ∷ log) = by (nat_lt number entry.0) refl (current at entry) refl (above_rows at number log)
  where
    by : (b : Bool) → nat_lt number entry.0 ≡ b → (o : Option (Key × StoredRow)) → current at entry ≡ o → rows_in at (filter (λ q. nat_lt number q.0) log) ≡ filter (λ e. nat_lt number e.1.number) (rows_in at log)
        → rows_in at (filter (λ q. nat_lt number q.0) (entry ∷ log)) ≡ filter (λ e. nat_lt number e.1.number) (rows_in at (entry ∷ log))
    by true is None none rest = rw (is, none) rest
    by true is (Some e) some rest =
        let over : nat_lt number e.1.number ≡ true = ap (nat_lt number) (numbered_is entry.0 (at entry.1) e some).1 ∙ is in
        rw (is, some, over) (ap (λ (es : List (Key × StoredRow)). e ∷ es) rest)
    by false is None none rest = rw (is, none) rest
    by false is (Some e) some rest =
        let under : nat_lt number e.1.number ≡ false = ap (nat_lt number) (numbered_is entry.0 (at entry.1) e some).1 ∙ is in
        rw (is, some, under) rest

log_least : (least next : ℕ) (log : List (ℕ × ℕ)) → LogRises least next log → (j : ℕ) (d : ℕ × ℕ) → j < length log → least ≤ (get_or log j d).0
log_least least next [] rise j d within = absurd (omega (arith, within))
log_least least next (entry ∷ log) (first, rest) zero d within = first
log_least least next (entry ∷ log) (first, rest) (suc j) d within =
    let more = log_least (entry.0 + 1) next log rest j d (omega (arith, within)) in
    omega (arith, first, more)

-- the entries above a number are the same list if their numbers begin above it
all_over : (number least next : ℕ) (log : List (ℕ × ℕ)) → LogRises least next log → number < least → filter (λ entry. nat_lt number entry.0) log ≡ log
all_over number least next [] rise less = refl
all_over number least next (entry ∷ log) (first, rest) less =
    cond-true (nat_lt number entry.0) (entry ∷ filter (λ q. nat_lt number q.0) log) (filter (λ q. nat_lt number q.0) log) (lt-ltb number entry.0 (omega (arith, first, less)))
    ∙ ap (λ (l : List (ℕ × ℕ)). entry ∷ l) (all_over number (entry.0 + 1) next log rest (omega (arith, first, less)))

-- if an entry isn't above it, neither is one before it
none_before : (number least next : ℕ) (log : List (ℕ × ℕ)) → LogRises least next log → (i : ℕ) → i < length log → ((d : ℕ × ℕ) → false ≡ nat_lt number (get_or log i d).0) → filter (λ entry. nat_lt number entry.0) (take (suc i) log) ≡ []
none_before number least next [] rise i within is = absurd (omega (arith, within))
none_before number least next (entry ∷ log) (first, rest) zero within is = cond-false (nat_lt number entry.0) (entry ∷ []) [] (sym (is entry))
none_before number least next (entry ∷ log) (first, rest) (suc i) within is =
    let more = log_least (entry.0 + 1) next log rest i entry (omega (arith, within)) in
    let most = ltb-false number (get_or log i entry).0 (sym (is entry)) in
    cond-false (nat_lt number entry.0) (entry ∷ filter (λ q. nat_lt number q.0) (take (suc i) log)) (filter (λ q. nat_lt number q.0) (take (suc i) log)) (le-ltb number entry.0 (omega (arith, more, most)))
    ∙ none_before number (entry.0 + 1) next log rest i (omega (arith, within)) is

pub none_up_to : (number least next : ℕ) (log : List (ℕ × ℕ)) → LogRises least next log → (i : ℕ) → i < length log → ((d : ℕ × ℕ) → false ≡ nat_lt number (get_or log i d).0) → filter (λ entry. nat_lt number entry.0) (take (i + 1) log) ≡ []
none_up_to number least next log rise i within is =
    let next_is : i + 1 ≡ suc i = omega arith in
    ap (λ (n : ℕ). filter (λ entry. nat_lt number entry.0) (take n log)) next_is ∙ none_before number least next log rise i within is

-- if an entry is above it, so is each one after it
pub all_from : (number least next : ℕ) (log : List (ℕ × ℕ)) → LogRises least next log → (i : ℕ) → i < length log → ((d : ℕ × ℕ) → true ≡ nat_lt number (get_or log i d).0) → filter (λ entry. nat_lt number entry.0) (drop i log) ≡ drop i log
all_from number least next [] rise i within is = absurd (omega (arith, within))
all_from number least next (entry ∷ log) (first, rest) zero within is = all_over number entry.0 next (entry ∷ log) (omega arith, rest) (ltb-true number entry.0 (sym (is entry)))
all_from number least next (entry ∷ log) (first, rest) (suc i) within is = all_from number (entry.0 + 1) next log rest i (omega (arith, within)) is

-- so these are all above it
pub found_above : (number i : ℕ) (log : List (ℕ × ℕ)) → filter (λ entry. nat_lt number entry.0) (take i log) ≡ [] → filter (λ entry. nat_lt number entry.0) (drop i log) ≡ drop i log → drop i log ≡ filter (λ entry. nat_lt number entry.0) log
found_above number i log none all =
    sym all
    ∙ sym (ap (λ (l : List (ℕ × ℕ)). l ++ filter (λ entry. nat_lt number entry.0) (drop i log)) none)
    ∙ sym (filter-append (λ entry. nat_lt number entry.0) (take i log) (drop i log))
    ∙ ap (filter (λ entry. nat_lt number entry.0)) (take-append-drop i log)

-- ---- the first row of a log

pub row_next : (at : ℕ → Option (Key × StoredRow)) (entries : List (ℕ × ℕ)) (index : ℕ) (entry : ℕ × ℕ) (o : Option (Key × StoredRow)) → slice_get entries index ≡ Some entry → o ≡ current at entry → rows_in at (drop index entries) ≡ cons_option o (rows_in at (drop (index + 1) entries))
row_next at entries index entry o found has =
    ap (rows_in at) (next_entry entries index entry found)
    ∙ ap (λ (q : Option (Key × StoredRow)). cons_option q (rows_in at (drop (index + 1) entries))) (sym has)

-- there is none after the last entry
pub no_rows_past : (at : ℕ → Option (Key × StoredRow)) (entries : List (ℕ × ℕ)) (index : ℕ) → length entries ≤ index → rows_in at (drop index entries) ≡ []
no_rows_past at entries index past = ap (rows_in at) (drop_all index entries past)
