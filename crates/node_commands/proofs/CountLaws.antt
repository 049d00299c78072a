-- What the table of a round counts.
use Rattle.std.proofs.Common.{◌≡◌, ℕ, suc, ◌+◌, ◌-◌, ◌*◌, ◌^◌, ◌<◌, ◌≤◌, ◌==◌, ◌&&◌, ◌⊎◌, Bool, true, false, not, cond, if◌then◌else◌, nat_lt, nat_le, List, [], ◌∷◌, ◌++◌, drop, length, get_or, take, Option, Some, None, MatchBool, option_and_then, sum_by, count_by, refl, sym, ap, ◌∙◌, subst, arith, inl, inr, eq-eqb, ne_eqb, lt-ltb, leb-true, length-append, true≢false}
use Rattle.std.specs.List.{AllByRecursion}
use Rattle.std.specs.Io.KnownBytes.{Appends}
use Rattle.std.specs.Ordering.{is_eq}
use Rattle.std.proofs.Math.Nat.{one-le-mul, one-mul}
use Rattle.std.proofs.lemmas.Bool.{and_parts, cases_Bool, cases_eq, cases_lt, cond-true, cond-false, or_right}
use Rattle.std.proofs.lemmas.List.Sums.{sum_by-append, sum_by-cons}
use Rattle.table_types.specs.declared.change.Change.{Change}
use Rattle.table_types.specs.declared.change.Change.TheVariants as changes
use Rattle.table_types.specs.declared.data_type.DataType.TheVariants as types
use Rattle.table_types.specs.declared.key.Key.{Key}
use Rattle.table_types.specs.declared.key.Key.TheVariants as keys
use Rattle.table_types.specs.declared.row.Cell.{Cell}
use Rattle.table_types.specs.declared.row.Cell.TheVariants as cells
use Rattle.table_types.specs.Changes.{cells_before, changed_cells, tracked as tracked_row}
use Rattle.table_types.specs.Keys.{key_cmp}
use Rattle.table_types.specs.Rows.{StoredRow, smaller}
use Rattle.table_types.specs.Tables.{Definition}
use Rattle.table_types.proofs.EqualKeysAreOne.{key_cmp-same, one_key}
use Rattle.table_rows.specs.Rows.{IsFirstToEnd, goes_past, is_live, row_at}
use Rattle.table_cell.specs.declared.events.CellEvent.{CellEvent}
use Rattle.table_cell.specs.declared.events.CellEvent.TheVariants as events
use Rattle.table_cell.specs.declared.events.CellReply.{CellReply}
use Rattle.table_cell.specs.Machine.{Replays, Step, TableState, has_room, has_row, if_live, live_row, new_table, tracked, without}
use Rattle.table_cell.specs.Histories.{CellState}
use Rattle.table_cell.specs.Stock.{AreInRisingKey}
use Rattle.table_cell.proofs.RowsLaws.{filter_shorter}
use Rattle.table_cell.proofs.StockLaws.{rows-put}
use Rattle.table_shards.specs.declared.unlocked.UnlockedTable.{UnlockedTable}
use Rattle.table_shards.specs.Agreement.{Agree, id_of}
use Rattle.table_shards.specs.Audits.{AuditState, IsRight, table_rounds}
use Rattle.table_shards.specs.Receipts.{ReceiptState, SeatState, all_receipts, receipts_of}
use Rattle.table_shards.specs.Roll.{has_number}
use Rattle.table_shards.specs.Rounds.{RoundState}
use Rattle.table_shards.proofs.AllLaws.{all_both, all_so}
use Rattle.table_shards.proofs.MatchLaws.{each_event, summed}
use Rattle.table_shards.proofs.RollLaws.{seats_each}
use Rattle.node_commands.specs.Rounds.{AreRounds, GoesOn, HasCount, HasCountAmong, IsAudited, IsCountingTable, IsCutShort, IsFirst, IsRoundTable, IsTextOf, round_table}
use Rattle.node_commands.specs.Tracks.{HasDoneItsPart, IsTrack, is_work}
use Rattle.node_commands.proofs.Lists.{next_left}

abbrev up : Change
up = changes.Add types.Gpc0 1

-- how many of the tracks of the key the event is
abbrev tracks_of : ℕ → CellEvent → ℕ
tracks_of key (events.Track seat (keys.Int k) change now) = if k == key then 1 else 0
tracks_of key event = 0

abbrev tracks_in : ℕ → List (CellEvent × CellReply) → ℕ
tracks_in key hs = sum_by (λ (h : CellEvent × CellReply). tracks_of key h.0) hs

abbrev tracked_by : ℕ → List ReceiptState → ℕ
tracked_by key rs = sum_by (λ (r : ReceiptState). tracks_of key r.event) rs

-- the event is one of a round
abbrev IsPart : CellEvent → Type 0
IsPart event = (is_work event ≡ true) ⊎ ((seat : ℕ) × (k : ℕ) × (event ≡ events.Track seat (keys.Int k) up 4294967296))

none_of : (key : ℕ) (event : CellEvent) → is_work event ≡ true → tracks_of key event ≡ 0
none_of key (events.Track seat k change now) keeps = absurd (true≢false (sym keeps))
none_of key (events.Learn session u now) keeps = absurd (true≢false (sym keeps))
none_of key (events.Copy session kind limit now) keeps = refl
none_of key (events.Ack session number) keeps = refl
none_of key (events.Open session version) keeps = refl
none_of key (events.Close session) keeps = absurd (true≢false (sym keeps))
none_of key (events.Purge now) keeps = absurd (true≢false (sym keeps))

one_of : (key k : ℕ) → k ≡ key → ◌≡◌ {A = ℕ} (cond (k == key) 1 0) 1
one_of key k same = rw (eq-eqb k key same) refl

not_of : (key k : ℕ) → (k ≡ key → ⊥) → ◌≡◌ {A = ℕ} (cond (k == key) 1 0) 0
not_of key k apart = rw (ne_eqb k key apart) refl

-- ---- keys

key_here : (k key : ℕ) → k ≡ key → is_eq (key_cmp (keys.Int k) (keys.Int key)) ≡ true
key_here k key same = ap (λ (n : ℕ). is_eq (key_cmp (keys.Int k) (keys.Int n))) (sym same) ∙ ap is_eq (key_cmp-same (keys.Int k))

key_apart : (k key : ℕ) → (k ≡ key → ⊥) → is_eq (key_cmp (keys.Int k) (keys.Int key)) ≡ false
key_apart k key apart = elim (cases_Bool (is_eq (key_cmp (keys.Int k) (keys.Int key)))) [
  | inl same ↦
      let one : keys.Int k ≡ keys.Int key = one_key (keys.Int k) (keys.Int key) same in
      let is : k ≡ key = cc in
      absurd (apart is)
  | inr other ↦ other
]

-- ---- the row of a key

-- the row at a key counts `count` and never expires; `count` is 0 if there is no row
abbrev Counts : ℕ → Option StoredRow → Type 0
Counts count None = count ≡ 0
Counts count (Some row) = (row.cells ≡ cells.Count count ∷ []) × (row.ends ≡ None)

one_more : (count : ℕ) → count < 1000000 → smaller (count + 1) (2 ^ 32 - 1) ≡ count + 1
one_more count less = cond-true (nat_lt (count + 1) (2 ^ 32 - 1)) (count + 1) (2 ^ 32 - 1) (lt-ltb (count + 1) (2 ^ 32 - 1) (omega (arith, less)))

counted_row : (now number count : ℕ) (o : Option StoredRow) → count < 1000000 → Counts count o → Counts (count + 1) (Some (tracked_row round_table now number up (option_and_then (if_live now) o)))
counted_row now number count None less none =
    (ap (λ (n : ℕ). cells.Count n ∷ []) (one_more 0 (omega arith)) ∙ ap (λ (n : ℕ). cells.Count (n + 1) ∷ []) (sym none), refl)
counted_row now number count (Some row) less (is, ends) =
    let live : if_live now row ≡ Some row = cond-true (is_live now row) (Some row) None (ap (goes_past now) ends) in (
      ap (λ (o : Option StoredRow). changed_cells now up round_table.types (cells_before now round_table o)) live
          ∙ ap (λ (l : List Cell). changed_cells now up round_table.types l) is
          ∙ ap (λ (n : ℕ). cells.Count n ∷ []) (one_more count less),
      refl,
    )

-- ---- one event

-- after `n` events, `count` of which are tracks of the key
pub record IsOnCount (s : TableState) (key n count : ℕ) : Type 0 where
  pub definition : s.definition ≡ round_table
  pub size : s.size ≡ 1000000
  pub rows : length s.rows ≤ n
  pub below : count ≤ n
  pub counts : Counts count (row_at (keys.Int key) s.rows)

quiet : (s e : TableState) (event : CellEvent) (reply : CellReply) → is_work event ≡ true → Step s event reply e → (e.definition ≡ s.definition) × (e.size ≡ s.size) × (e.rows ≡ s.rows)
quiet s e (events.Track seat k change now) reply keeps step = absurd (true≢false (sym keeps))
quiet s e (events.Learn session u now) reply keeps step = absurd (true≢false (sym keeps))
quiet s e (events.Copy session kind limit now) reply keeps (granted, answer, is) = (ap (λ (x : TableState). x.definition) is, ap (λ (x : TableState). x.size) is, ap (λ (x : TableState). x.rows) is)
quiet s e (events.Ack session number) reply keeps (granted, answer, is) = (ap (λ (x : TableState). x.definition) is, ap (λ (x : TableState). x.size) is, ap (λ (x : TableState). x.rows) is)
quiet s e (events.Open session version) reply keeps (granted, answer, is) = (ap (λ (x : TableState). x.definition) is, ap (λ (x : TableState). x.size) is, ap (λ (x : TableState). x.rows) is)
quiet s e (events.Close session) reply keeps step = absurd (true≢false (sym keeps))
quiet s e (events.Purge now) reply keeps step = absurd (true≢false (sym keeps))

rows_stay : (s e : TableState) (key n count more : ℕ) → e.definition ≡ s.definition → e.size ≡ s.size → e.rows ≡ s.rows → more ≡ 0 → IsOnCount s key n count → IsOnCount e key (n + 1) (count + more)
rows_stay s e key n count more same size rows none on =
    let lengths : length e.rows ≡ length s.rows = ap (λ (l : List (Key × StoredRow)). length l) rows in
    let total : count ≡ count + more = omega (arith, none) in
    record {
      definition = same ∙ on.definition;
      size = size ∙ on.size;
      rows = omega (arith, lengths, on.rows);
      below = omega (arith, none, on.below);
      counts = subst (λ (m : ℕ). Counts m (row_at (keys.Int key) e.rows)) total (subst (λ (l : List (Key × StoredRow)). Counts count (row_at (keys.Int key) l)) (sym rows) on.counts);
    }

if_true : (A B : Type 0) (b : Bool) → b ≡ true → MatchBool b A B → A
if_true A B true is m = m
if_true A B false is m = absurd (true≢false (sym is))

-- there is room, so the row is put after the others
put : (s e : TableState) (seat k now : ℕ) (reply : CellReply) → length s.rows < s.size → Step s (events.Track seat (keys.Int k) up now) reply e
    → e.rows ≡ without (keys.Int k) s.rows ++ (keys.Int k, tracked s (keys.Int k) up now) ∷ []
put s e seat k now reply less (granted, rest, leaves, answer, is) =
    let room : has_room s (keys.Int k) ≡ true = or_right (has_row (keys.Int k) s) (nat_lt (length s.rows) s.size) (lt-ltb (length s.rows) s.size less) in
    let all : rest ≡ s.rows = if_true (rest ≡ s.rows) ((first : Key) × IsFirstToEnd s.rows first × (rest ≡ without first s.rows)) (has_room s (keys.Int k)) room leaves in
    ap (λ (x : TableState). x.rows) is ∙ ap (λ (l : List (Key × StoredRow)). without (keys.Int k) l ++ (keys.Int k, tracked s (keys.Int k) up now) ∷ []) all

kept_parts : (s e : TableState) (seat k now : ℕ) (reply : CellReply) → Step s (events.Track seat (keys.Int k) up now) reply e → (e.definition ≡ s.definition) × (e.size ≡ s.size)
kept_parts s e seat k now reply (granted, rest, leaves, answer, is) = (ap (λ (x : TableState). x.definition) is, ap (λ (x : TableState). x.size) is)

counts_here : (s : TableState) (key k now n count : ℕ) → n < 1000000 → k ≡ key → IsOnCount s key n count → Counts (count + 1) (Some (tracked s (keys.Int k) up now))
counts_here s key k now n count less same on =
    let own : Counts count (row_at (keys.Int k) s.rows) = subst (λ (m : ℕ). Counts count (row_at (keys.Int m) s.rows)) (sym same) on.counts in
    subst (λ (d : Definition). Counts (count + 1) (Some (tracked_row d now s.next up (live_row (keys.Int k) now s)))) (sym on.definition)
    (counted_row now s.next count (row_at (keys.Int k) s.rows) (omega (arith, less, on.below)) own)

counts_after : (s e : TableState) (key k now n count : ℕ) → n < 1000000 → e.rows ≡ without (keys.Int k) s.rows ++ (keys.Int k, tracked s (keys.Int k) up now) ∷ [] → IsOnCount s key n count
    → Counts (count + cond (k == key) 1 0) (row_at (keys.Int key) e.rows)
counts_after s e key k now n count less rows on =
    let row : StoredRow = tracked s (keys.Int k) up now in
    let at : row_at (keys.Int key) e.rows ≡ cond (is_eq (key_cmp (keys.Int k) (keys.Int key))) (Some row) (row_at (keys.Int key) s.rows) =
    ap (row_at (keys.Int key)) rows ∙ rows-put s.rows (keys.Int k) row (keys.Int key) in
    elim (cases_eq k key) [
      | inl same ↦
          let here : row_at (keys.Int key) e.rows ≡ Some row = at ∙ cond-true (is_eq (key_cmp (keys.Int k) (keys.Int key))) (Some row) (row_at (keys.Int key) s.rows) (key_here k key same) in
          let total : count + 1 ≡ count + cond (k == key) 1 0 = omega (arith, one_of key k same) in
          subst (λ (m : ℕ). Counts m (row_at (keys.Int key) e.rows)) total (subst (Counts (count + 1)) (sym here) (counts_here s key k now n count less same on))
      | inr other ↦
          let there : row_at (keys.Int key) e.rows ≡ row_at (keys.Int key) s.rows = at ∙ cond-false (is_eq (key_cmp (keys.Int k) (keys.Int key))) (Some row) (row_at (keys.Int key) s.rows) (key_apart k key other) in
          let total : count ≡ count + cond (k == key) 1 0 = omega (arith, not_of key k other) in
          subst (λ (m : ℕ). Counts m (row_at (keys.Int key) e.rows)) total (subst (Counts count) (sym there) on.counts)
    ]

at_most_one : (b : Bool) → cond b 1 0 ≤ 1
at_most_one true = omega arith
at_most_one false = omega arith

row_comes : (s e : TableState) (key k now n count seat : ℕ) (reply : CellReply) → n < 1000000 → Step s (events.Track seat (keys.Int k) up now) reply e → IsOnCount s key n count → IsOnCount e key (n + 1) (count + cond (k == key) 1 0)
row_comes s e key k now n count seat reply less step on =
    let rows = put s e seat k now reply (omega (arith, less, on.rows, on.size)) step in
    let (same, size) = kept_parts s e seat k now reply step in
    let shorter = filter_shorter (λ (x : Key × StoredRow). not (is_eq (key_cmp (keys.Int k) x.0))) s.rows in
    let lengths : length e.rows ≡ length (without (keys.Int k) s.rows) + 1 =
    ap (λ (l : List (Key × StoredRow)). length l) rows ∙ length-append (without (keys.Int k) s.rows) ((keys.Int k, tracked s (keys.Int k) up now) ∷ []) in
    record {
      definition = same ∙ on.definition;
      size = size ∙ on.size;
      rows = omega (arith, lengths, shorter, on.rows);
      below = omega (arith, on.below, at_most_one (k == key));
      counts = counts_after s e key k now n count less rows on;
    }

stepped : (s e : TableState) (event : CellEvent) (reply : CellReply) (key n count : ℕ) → n < 1000000 → IsPart event → Step s event reply e → IsOnCount s key n count → IsOnCount e key (n + 1) (count + tracks_of key event)
stepped s e event reply key n count less (inl keeps) step on =
    let (same, size, rows) = quiet s e event reply keeps step in
    rows_stay s e key n count (tracks_of key event) same size rows (none_of key event keeps) on
stepped s e event reply key n count less (inr (seat, k, is)) step on =
    let own : Step s (events.Track seat (keys.Int k) up 4294967296) reply e = subst (λ (x : CellEvent). Step s x reply e) is step in
    subst (λ (x : CellEvent). IsOnCount e key (n + 1) (count + tracks_of key x)) (sym is) (row_comes s e key k 4294967296 n count seat reply less own on)

-- ---- a history

counted : (key : ℕ) (hs : List (CellEvent × CellReply)) (s e : TableState) (n count : ℕ) → AllByRecursion (λ (h : CellEvent × CellReply). IsPart h.0) hs → Replays s hs e → n + length hs ≤ 1000000 → IsOnCount s key n count
    → Counts (count + tracks_in key hs) (row_at (keys.Int key) e.rows)
counted key [] s e n count parts is within on =
    let none : tracks_in key [] ≡ 0 = refl in
    let total : count ≡ count + tracks_in key [] = omega (arith, none) in
    subst (λ (m : ℕ). Counts m (row_at (keys.Int key) e.rows)) total (subst (λ (x : TableState). Counts count (row_at (keys.Int key) x.rows)) (sym is) on.counts)
counted key (h ∷ hs) s e n count (first, rest) (mid, step, run) within on =
    let after = stepped s mid h.0 h.1 key n count (omega (arith, within)) first step on in
    let whole : tracks_in key (h ∷ hs) ≡ tracks_of key h.0 + tracks_in key hs = sum_by-cons (λ (x : CellEvent × CellReply). tracks_of key x.0) h hs in
    let total : count + tracks_of key h.0 + tracks_in key hs ≡ count + tracks_in key (h ∷ hs) = omega (arith, whole) in
    subst (λ (m : ℕ). Counts m (row_at (keys.Int key) e.rows)) total (counted key hs mid e (n + 1) (count + tracks_of key h.0) rest run (omega (arith, within)) after)

-- ---- the seats

seat_parts : (threads tracks : ℕ) (s : SeatState) → HasDoneItsPart threads tracks s → AllByRecursion (λ (r : ReceiptState). IsPart r.event) (receipts_of 1 s)
seat_parts threads tracks s (tracked, kept) = elim (cases_lt threads s.number) [
  | inl above ↦ all_so (λ (r : ReceiptState). is_work r.event ≡ true) (λ (r : ReceiptState). IsPart r.event) (λ r keeps. inl keeps) (receipts_of 1 s) (kept above)
  | inr within ↦ all_so (IsTrack s.number s.number) (λ (r : ReceiptState). IsPart r.event) (λ r is. inr (s.number, s.number, is)) (receipts_of 1 s) (tracked within).1
]

all_parts : (threads tracks : ℕ) (ss : List SeatState) → AllByRecursion (HasDoneItsPart threads tracks) ss → AllByRecursion (λ (r : ReceiptState). IsPart r.event) (all_receipts 1 ss)
all_parts threads tracks [] done = tt
all_parts threads tracks (s ∷ ss) (first, rest) = all_both (λ (r : ReceiptState). IsPart r.event) (receipts_of 1 s) (all_receipts 1 ss) (seat_parts threads tracks s first) (all_parts threads tracks ss rest)

by_cons : (key : ℕ) (r : ReceiptState) (rs : List ReceiptState) → tracked_by key (r ∷ rs) ≡ tracks_of key r.event + tracked_by key rs
by_cons key r rs = sum_by-cons (λ (x : ReceiptState). tracks_of key x.event) r rs

of_kept : (key : ℕ) (rs : List ReceiptState) → AllByRecursion (λ (r : ReceiptState). is_work r.event ≡ true) rs → tracked_by key rs ≡ 0
of_kept key [] all = refl
of_kept key (r ∷ rs) (first, rest) = omega (arith, by_cons key r rs, none_of key r.event first, of_kept key rs rest)

of_other : (key number : ℕ) (rs : List ReceiptState) → (number ≡ key → ⊥) → AllByRecursion (IsTrack number number) rs → tracked_by key rs ≡ 0
of_other key number [] apart all = refl
of_other key number (r ∷ rs) apart (first, rest) =
    let none : tracks_of key r.event ≡ 0 = ap (tracks_of key) first ∙ not_of key number apart in
    omega (arith, by_cons key r rs, none, of_other key number rs apart rest)

of_own : (key number : ℕ) (rs : List ReceiptState) → number ≡ key → AllByRecursion (IsTrack number number) rs → tracked_by key rs ≡ length rs
of_own key number [] same all = refl
of_own key number (r ∷ rs) same (first, rest) =
    let one : tracks_of key r.event ≡ 1 = ap (tracks_of key) first ∙ one_of key number same in
    omega (arith, by_cons key r rs, one, of_own key number rs same rest)

own_seat : (threads tracks key : ℕ) (s : SeatState) → key ≤ threads → s.number ≡ key → HasDoneItsPart threads tracks s → tracked_by key (receipts_of 1 s) ≡ tracks
own_seat threads tracks key s low same (tracked, kept) =
    let done = tracked (omega (arith, low, same)) in
    of_own key s.number (receipts_of 1 s) same done.1 ∙ done.0

other_seat : (threads tracks key : ℕ) (s : SeatState) → (s.number ≡ key → ⊥) → HasDoneItsPart threads tracks s → tracked_by key (receipts_of 1 s) ≡ 0
other_seat threads tracks key s apart (tracked, kept) = elim (cases_lt threads s.number) [
  | inl above ↦ of_kept key (receipts_of 1 s) (kept above)
  | inr within ↦ of_other key s.number (receipts_of 1 s) apart (tracked within).1
]

seat_cons : (key : ℕ) (s : SeatState) (ss : List SeatState) → tracked_by key (all_receipts 1 (s ∷ ss)) ≡ tracked_by key (receipts_of 1 s) + tracked_by key (all_receipts 1 ss)
seat_cons key s ss = sum_by-append (λ (x : ReceiptState). tracks_of key x.event) (receipts_of 1 s) (all_receipts 1 ss)

count_cons : (key : ℕ) (s : SeatState) (ss : List SeatState) → count_by (has_number key) (s ∷ ss) ≡ cond (s.number == key) 1 0 + count_by (has_number key) ss
count_cons key s ss = sum_by-cons (λ (x : SeatState). cond (has_number key x) 1 0) s ss

no_seat : (threads tracks key : ℕ) (ss : List SeatState) → count_by (has_number key) ss ≡ 0 → AllByRecursion (HasDoneItsPart threads tracks) ss → tracked_by key (all_receipts 1 ss) ≡ 0
no_seat threads tracks key [] none done = refl
no_seat threads tracks key (s ∷ ss) none (first, rest) = elim (cases_eq s.number key) [
  | inl same ↦ absurd (omega (arith, none, count_cons key s ss, one_of key s.number same))
  | inr other ↦
      let later = no_seat threads tracks key ss (omega (arith, none, count_cons key s ss)) rest in
      omega (arith, seat_cons key s ss, other_seat threads tracks key s other first, later)
]

one_seat : (threads tracks key : ℕ) (ss : List SeatState) → key ≤ threads → count_by (has_number key) ss ≡ 1 → AllByRecursion (HasDoneItsPart threads tracks) ss → tracked_by key (all_receipts 1 ss) ≡ tracks
one_seat threads tracks key [] low once done =
    let none : count_by (has_number key) [] ≡ 0 = refl in
    absurd (omega (arith, none, once))
one_seat threads tracks key (s ∷ ss) low once (first, rest) = elim (cases_eq s.number key) [
  | inl same ↦
      let later = no_seat threads tracks key ss (omega (arith, once, count_cons key s ss, one_of key s.number same)) rest in
      omega (arith, seat_cons key s ss, own_seat threads tracks key s low same first, later)
  | inr other ↦
      let later = one_seat threads tracks key ss low (omega (arith, once, count_cons key s ss, not_of key s.number other)) rest in
      omega (arith, seat_cons key s ss, other_seat threads tracks key s other first, later)
]

-- ---- the audited table

found : (rows : List (Key × StoredRow)) (key tracks : ℕ) (o : Option StoredRow) → row_at (keys.Int key) rows ≡ o → 1 ≤ tracks → Counts tracks o
    → (row : StoredRow) × (row_at (keys.Int key) rows ≡ Some row) × (row.cells ≡ cells.Count tracks ∷ [])
found rows key tracks None at some none = absurd (omega (arith, some, none))
found rows key tracks (Some row) at some (is, ends) = (row, at, is)

begun_count : (key : ℕ) → IsOnCount (new_table round_table 1000000 false 1) key 0 0
begun_count key = record { definition = refl; size = refl; rows = omega arith; below = omega arith; counts = refl }

table_counts : (threads tracks key : ℕ) (seats : List SeatState) (t : UnlockedTable) → key ≤ threads → 1 ≤ tracks → count_by (has_number key) seats ≡ 1 → AllByRecursion (HasDoneItsPart threads tracks) seats
    → t.began ≡ 0 → IsRight seats t → IsRoundTable t.cell → HasCount key tracks t.cell
table_counts threads tracks key seats t low some once done began (own, legal, agree) (definition, base) =
    let kept : t.cell.dropped + t.cell.slid ≤ t.began = leb-true (t.cell.dropped + t.cell.slid) t.began (and_parts (id_of t.cell == t.table) (nat_le (t.cell.dropped + t.cell.slid) t.began) (and_parts (id_of t.cell == t.table && nat_le (t.cell.dropped + t.cell.slid) t.began) (t.cell.renewals == t.renewals) own).0).1 in
    let whole : t.began ≡ t.cell.dropped = omega (arith, kept, began) in
    let here : Agree t.cell t.cell.dropped seats = subst (λ (n : ℕ). Agree t.cell n seats) whole agree in
    let receipts : all_receipts (id_of t.cell) seats ≡ all_receipts 1 seats = ap (λ (d : Definition). all_receipts d.id seats) definition in
    let total : tracks_in key t.cell.history ≡ tracks =
    sym (summed t.cell seats (tracks_of key) here) ∙ ap (tracked_by key) receipts ∙ one_seat threads tracks key seats low once done in
    let parts : AllByRecursion (λ (h : CellEvent × CellReply). IsPart h.0) t.cell.history =
    each_event t.cell seats IsPart here (subst (AllByRecursion (λ (r : ReceiptState). IsPart r.event)) (sym receipts) (all_parts threads tracks seats done)) in
    let run : Replays (new_table round_table 1000000 false 1) t.cell.history t.cell.state = subst (λ (s : TableState). Replays s t.cell.history t.cell.state) base legal.0.replayed in
    let counts = counted key t.cell.history (new_table round_table 1000000 false 1) t.cell.state 0 0 parts run (omega (arith, legal.0.within, kept, began)) (begun_count key) in
    let all : 0 + tracks_in key t.cell.history ≡ tracks = omega (arith, total) in
    found t.cell.state.rows key tracks (row_at (keys.Int key) t.cell.state.rows) refl some (subst (λ (n : ℕ). Counts n (row_at (keys.Int key) t.cell.state.rows)) all counts)

tables_count : (threads tracks key : ℕ) (seats : List SeatState) (ts : List UnlockedTable) → key ≤ threads → 1 ≤ tracks → count_by (has_number key) seats ≡ 1 → AllByRecursion (HasDoneItsPart threads tracks) seats
    → table_rounds ts ≡ (1, 0, 0) ∷ [] → AllByRecursion (IsRight seats) ts → AllByRecursion (λ (t : UnlockedTable). IsRoundTable t.cell) ts → AllByRecursion (λ (t : UnlockedTable). HasCount key tracks t.cell) ts
tables_count threads tracks key seats [] low some once done rounds right are = tt
tables_count threads tracks key seats (t ∷ []) low some once done rounds (right, others) (is, rest) =
    let began : t.began ≡ 0 = ap (λ (l : List (ℕ × ℕ × ℕ)). (get_or l 0 (1, 0, 0)).1) rounds in
    (table_counts threads tracks key seats t low some once done began right is, tt)
tables_count threads tracks key seats (t ∷ u ∷ us) low some once done rounds right are =
    let lengths : suc (suc (length (table_rounds us))) ≡ 1 = ap (λ (l : List (ℕ × ℕ × ℕ)). length l) rounds in
    absurd (omega (arith, lengths))

first_counts : (a : AuditState) (threads tracks key : ℕ) → IsAudited threads tracks a → IsFirst threads a → 1 ≤ key → key ≤ threads → 1 ≤ tracks → AllByRecursion (λ (t : UnlockedTable). HasCount key tracks t.cell) a.unlocked.tables
first_counts a threads tracks key (audited, done) (rounds, new) least low some =
    let seats : a.unlocked.seats ≡ threads + 2 = ap (λ (s : RoundState). s.seats) rounds in
    let once = seats_each a.unlocked.seats a.seats audited.0 key least (omega (arith, seats, low)) in
    tables_count threads tracks key a.seats a.unlocked.tables low some once done (ap (λ (s : RoundState). s.tables) rounds) audited.1 new

-- ---- rounds

later_counts : (a last : AuditState) (threads count key : ℕ) → GoesOn threads count last a → 1 ≤ count → 1 ≤ key → key ≤ threads → AllByRecursion (λ (t : UnlockedTable). HasCount key count t.cell) a.unlocked.tables
later_counts a last threads count key (quiet, rounds, counting) some least low =
    all_so (λ (t : UnlockedTable). IsCountingTable threads count t.cell) (λ (t : UnlockedTable). HasCount key count t.cell) (λ t is. is.counts some key least low) a.unlocked.tables counting

pub rounds_count : (a : AuditState) (earlier : List AuditState) (threads tracks key : ℕ) → AreRounds threads tracks (a ∷ earlier) → 1 ≤ key → key ≤ threads → 1 ≤ tracks
    → AllByRecursion (λ (t : UnlockedTable). HasCount key (length (a ∷ earlier) * tracks) t.cell) a.unlocked.tables
rounds_count a [] threads tracks key (audited, first) least low some =
    subst (λ (n : ℕ). AllByRecursion (λ (t : UnlockedTable). HasCount key n t.cell) a.unlocked.tables) (sym (one-mul tracks)) (first_counts a threads tracks key audited first least low some)
rounds_count a (last ∷ earlier) threads tracks key (audited, on, are) least low some =
    let rounds : 1 ≤ suc (length (last ∷ earlier)) = omega arith in
    later_counts a last threads (length (a ∷ last ∷ earlier) * tracks) key on (one-le-mul rounds some) least low

pub one_more_round : (threads tracks before : ℕ) (a last : AuditState) (earlier : List AuditState) → length (last ∷ earlier) ≡ before → AreRounds threads tracks (last ∷ earlier) → IsAudited threads tracks a → GoesOn threads ((before + 1) * tracks) last a
    → (more : List AuditState) × (length (a ∷ more) ≡ before + 1) × AreRounds threads tracks (a ∷ more)
one_more_round threads tracks before a last earlier so are audited on =
    let total : before + 1 ≡ suc (length (last ∷ earlier)) = omega (arith, so) in
    (last ∷ earlier, sym total, (audited, subst (λ (n : ℕ). GoesOn threads (n * tracks) last a) total on, are))

-- ---- the rows of a table that counts

row_here : (key : Key) (e : Key × StoredRow) (rest : List (Key × StoredRow)) → is_eq (key_cmp key e.0) ≡ true → row_at key (e ∷ rest) ≡ Some e.1
row_here key e rest same = cond-true (is_eq (key_cmp key e.0)) (Some e.1) (row_at key rest) same

row_later : (key : Key) (e : Key × StoredRow) (rest : List (Key × StoredRow)) → is_eq (key_cmp key e.0) ≡ false → row_at key (e ∷ rest) ≡ row_at key rest
row_later key e rest other = cond-false (is_eq (key_cmp key e.0)) (Some e.1) (row_at key rest) other

pub found_here : (key : Key) (rows : List (Key × StoredRow)) (i : ℕ) (e : Key × StoredRow) → i < length rows → e ≡ get_or rows i e → is_eq (key_cmp key e.0) ≡ true
    → row_at key (drop i rows) ≡ row_at key rows → row_at key rows ≡ Some e.1
found_here key rows i e below is same so = sym so ∙ ap (row_at key) (next_left rows i e below is) ∙ row_here key e (drop (i + 1) rows) same

pub found_later : (key : Key) (rows : List (Key × StoredRow)) (i : ℕ) (e : Key × StoredRow) → i < length rows → e ≡ get_or rows i e → is_eq (key_cmp key e.0) ≡ false
    → row_at key (drop i rows) ≡ row_at key rows → row_at key (drop (i + 1) rows) ≡ row_at key rows
found_later key rows i e below is other so = sym (row_later key e (drop (i + 1) rows) other) ∙ sym (ap (row_at key) (next_left rows i e below is)) ∙ so

pub one_more_counted : (rows : List (Key × StoredRow)) (count before found : ℕ) → 1 ≤ count → found ≡ count → (1 ≤ found → HasCountAmong (before + 1) found rows)
    → ((key : ℕ) → 1 ≤ key → key ≤ before → HasCountAmong key count rows) → (key : ℕ) → 1 ≤ key → key ≤ before + 1 → HasCountAmong key count rows
one_more_counted rows count before n some is this earlier key least within = elim (cases_lt before key) [
  | inl above ↦
      let same : before + 1 ≡ key = omega (arith, above, within) in
      subst (λ (k : ℕ). HasCountAmong k count rows) same (subst (λ (m : ℕ). HasCountAmong (before + 1) m rows) is (this (omega (arith, is, some))))
  | inr below ↦ earlier key least below
]

pub counts_so : (c : CellState) (list : List (Key × StoredRow)) (threads count : ℕ) → c.state.definition ≡ round_table → AreInRisingKey c.state.rows list
    → ((key : ℕ) → 1 ≤ key → key ≤ threads → HasCountAmong key count list) → IsCountingTable threads count c
counts_so c list threads count definition rising all = record {
  definition = definition;
  counts = λ some key least within. (let has = all key least within in (has.0, sym (rising.1 (keys.Int key)) ∙ has.1, has.2));
}

pub counts_none : (c : CellState) (threads count : ℕ) → c.state.definition ≡ round_table → count ≡ 0 → IsCountingTable threads count c
counts_none c threads count definition none = record { definition = definition; counts = λ some. absurd (omega (arith, some, none)) }

-- ---- a text that is cut short

pub cut_short : (threads tracks rounds : ℕ) (old new : Option (List ℕ)) (text bytes : List ℕ) (sent : ℕ) → bytes ≡ text → IsTextOf threads tracks rounds text → sent < length bytes → Appends old new (take sent bytes)
    → IsCutShort threads tracks rounds old new
cut_short threads tracks rounds old new text bytes sent same is less appends = (bytes, sent, subst (IsTextOf threads tracks rounds) (sym same) is, less, appends)
