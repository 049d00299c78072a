-- Histories whose events are dropped.
use Rattle.std.proofs.Common.{◌≡◌, ℕ, ◌==◌, Bool, true, false, List, [], ◌∷◌, ◌++◌, length, Option, Some, None, refl, sym, ap, subst, ◌∙◌, arith, inl, inr, true≢false}
use Rattle.std.specs.Prelude.{option_and_then, cond, take, if◌then◌else◌}
use Rattle.std.specs.List.{filter}
use Rattle.std.specs.Cmp.{nat_cmp_is}
use Rattle.std.specs.Ordering.{is_eq, nat_cmp}
use Rattle.std.specs.declared.cmp.Ordering.TheVariants.{Equal}
use Rattle.std.specs.Map.{lookup}
use Rattle.std.specs.BTreeMap.{is_at}
use Rattle.std.proofs.Math.Seq.{take-append_seam}
use Rattle.std.proofs.lemmas.Bool.{cases_Bool, cond-true, cond-false, eq-eqb, eqb-true}
use Rattle.std.proofs.lemmas.List.{append-nil, take-append-drop}
use Rattle.std.proofs.lemmas.Map.Entries.{lookup-filter-keys}
use Rattle.table_types.specs.declared.update.Update.{Update}
use Rattle.table_cell.specs.declared.events.CellEvent.{CellEvent}
use Rattle.table_cell.specs.declared.events.CellReply.{CellReply}
use Rattle.table_cell.specs.Machine.{TableState, Replays, is_open}
use Rattle.table_cell.specs.Soundness.{AreTimely}
use Rattle.table_cell.specs.Histories.{CellState, IsReplayed, IsSoundCell, Kept, Slides, batch_in, batch_of, held_batch, kept_batch, kept_events, latest_batch, or_former}
use Rattle.table_cell.specs.Cells.{AreLatestCopies, IsCell, IsLatestCopy, OriginState, cell_of, latest_of}
use Rattle.table_cell.proofs.HistoryLaws.{batch_is, copied_is, former_twice, is_same, kept_is, none_former, then_some}
use Rattle.table_stock.proofs.RowsLaws.{some_none}
use Rattle.table_cell.proofs.RunLaws.{runs_keep}

abbrev pub Entries : Type 0
Entries = List (CellEvent × CellReply)

abbrev pub Copies : Type 0
Copies = List (ℕ × (CellEvent × CellReply))

abbrev batch_at : Option (CellEvent × CellReply) → Option (List Update)
batch_at o = option_and_then (λ h. batch_in h.1) o

-- ---- looking copies up

-- both ways of looking a session up test its number
same_test : (session k : ℕ) → (k == session) ≡ is_at (nat_cmp session) k
same_test session k = elim (cases_Bool (is_eq (nat_cmp session k))) [
  | inl tied ↦ eq-eqb k session (sym (is_same session k tied)) ∙ sym tied
  | inr other ↦ elim (cases_Bool (k == session)) [
    | inl same ↦ absurd (true≢false (sym (itself session) ∙ ap (λ (q : ℕ). is_eq (nat_cmp session q)) (sym (eqb-true k session same)) ∙ other))
    | inr apart ↦ apart ∙ sym other
  ]
]
  where
    itself : (n : ℕ) → is_eq (nat_cmp n n) ≡ true
    itself n = ap is_eq (sym (nat_cmp_is n n Equal refl))

lookup_by : {X : Type 0} (f g : ℕ → Bool) → ((k : ℕ) → f k ≡ g k) → (es : List (ℕ × X)) → lookup f es ≡ lookup g es
lookup_by f g same [] = refl
lookup_by f g same (e ∷ es) = elim (cases_Bool (g e.0)) [
  | inl found ↦ cond-true (f e.0) (Some e.1) (lookup f es) (same e.0 ∙ found) ∙ sym (cond-true (g e.0) (Some e.1) (lookup g es) found)
  | inr other ↦ cond-false (f e.0) (Some e.1) (lookup f es) (same e.0 ∙ other) ∙ lookup_by f g same es ∙ sym (cond-false (g e.0) (Some e.1) (lookup g es) other)
]

-- a copy found by either test
pub looked_up : (session : ℕ) (copies : Copies) → lookup (λ id. id == session) copies ≡ lookup (is_at (nat_cmp session)) copies
looked_up session copies = lookup_by (λ id. id == session) (is_at (nat_cmp session)) (same_test session) copies

-- the copies for open sessions
abbrev pub open_of : TableState → Copies → Copies
open_of s copies = filter (λ e. is_open e.0 s) copies

found_open : (session : ℕ) (s : TableState) (copies : Copies) → lookup (λ id. id == session) (open_of s copies) ≡ cond (is_open session s) (lookup (λ id. id == session) copies) None
found_open session s copies =
    lookup-filter-keys (λ (id : ℕ). id == session) (λ (id : ℕ). is_open id s) (is_open session s) (λ k same. ap (λ (q : ℕ). is_open q s) (eqb-true k session same)) copies

if_open : {A : Type 0} (b : Bool) (o : Option A) (a : A) → cond b o None ≡ Some a → o ≡ Some a
if_open true o a is = is
if_open false o a is = absurd (some_none a (sym is))

-- a copy for an open session was there before
was_there : (session : ℕ) (s : TableState) (copies : Copies) (h : CellEvent × CellReply) → lookup (λ id. id == session) (open_of s copies) ≡ Some h → lookup (is_at (nat_cmp session)) copies ≡ Some h
was_there session s copies h found =
    sym (looked_up session copies) ∙ if_open (is_open session s) (lookup (λ id. id == session) copies) h (sym (found_open session s copies) ∙ found)

latest_found : (session : ℕ) (held : Copies) (hs : Entries) (copies : Copies) (h : CellEvent × CellReply) → AreLatestCopies copies held hs → lookup (is_at (nat_cmp session)) copies ≡ Some h
    → (us : List Update) × (latest_of session held hs ≡ Some us) × (batch_in h.1 ≡ Some us)
latest_found session held hs copies h latest found = subst (IsLatestCopy held hs session) found (latest session)

-- ---- the latest batch of the whole history

latest_append : (session : ℕ) (xs ys : Entries) → latest_batch session (xs ++ ys) ≡ or_former (latest_batch session xs) (latest_batch session ys)
latest_append session [] ys = sym (none_former (latest_batch session ys))
latest_append session (x ∷ xs) ys =
    ap (or_former (batch_of session x)) (latest_append session xs ys) ∙ former_twice (batch_of session x) (latest_batch session xs) (latest_batch session ys)

some_same : {A : Type 0} (o : Option A) (a b : A) → o ≡ Some a → o ≡ Some b → a ≡ b
some_same o a b one other = let both : Some a ≡ Some b = sym one ∙ other in cc

-- if what slides kept is the latest of what they dropped, what is the latest of both is so of the whole
former_whole : (kept whole later : Option (List Update)) (us : List Update) → ((vs : List Update) → kept ≡ Some vs → whole ≡ Some vs) → or_former kept later ≡ Some us → or_former whole later ≡ Some us
former_whole kept whole None us so is = so us is
former_whole kept whole (Some vs) us so is = is

-- what settles is the latest of the whole history
pub settled_whole : (c : CellState) (session : ℕ) (us : List Update) → IsSoundCell c → kept_batch session c ≡ Some us → latest_batch session c.history ≡ Some us
settled_whole c session us sound is =
    ap (latest_batch session) (sym (take-append-drop c.slid c.history))
    ∙ latest_append session (take c.slid c.history) (kept_events c)
    ∙ former_whole (held_batch session c.held) (latest_batch session (take c.slid c.history)) (latest_batch session (kept_events c)) us was is
  where
    was : (vs : List Update) → held_batch session c.held ≡ Some vs → latest_batch session (take c.slid c.history) ≡ Some vs
    was vs at =
        let found = then_some (λ (h : CellEvent × CellReply). batch_in h.1) (lookup (λ id. id == session) c.held) vs at in
        let held = sound.held session found.0 found.1 in
        held.2 ∙ ap (λ (l : List Update). Some l) (some_same (batch_in found.0.1) held.0 vs held.1 found.2)

pub latest_whole : (session : ℕ) (o : OriginState) (hs : Entries) (s : TableState) (us : List Update) → IsSoundCell (cell_of o hs s) → latest_of session o.held hs ≡ Some us → latest_batch session (o.past ++ hs) ≡ Some us
latest_whole session o hs s us sound is = settled_whole (cell_of o hs s) session us sound (batch_is session o hs s ∙ is)

-- ---- a slide

abbrev pub slid_origin : OriginState → Entries → Copies → OriginState
slid_origin o hs copies = record o { past = o.past ++ hs; held = copies }

pub slid_cell : (o : OriginState) (hs : Entries) (s : TableState) (copies : Copies) → IsCell o hs s copies → IsCell (slid_origin o hs (open_of s copies)) [] s (open_of s copies)
slid_cell o hs s copies cell =
    record {
      sound = record {
        base = cell.sound.base;
        timely = subst AreTimely (sym none_after) cell.sound.timely;
        replayed = subst (λ (l : Entries). Replays o.base l s) (sym none_after) cell.sound.replayed;
        sound = cell.sound.sound;
        slid = (let same = ap (λ (l : Entries). length l) none_after in omega (arith, same));
        held = λ session h found.
            let is = latest_found session o.held hs copies h cell.latest (was_there session s copies h found) in
            (is.0, is.2, ap (latest_batch session) (take-append_seam (o.past ++ hs) []) ∙ latest_whole session o hs s is.0 cell.sound is.1);
        within = (let same = ap (λ (l : Entries). length l) none_after in omega (arith, same));
        few = (let same = ap (λ (l : Entries). length l) none_after in let few = cell.sound.few in omega (arith, same, few));
      };
      latest = λ session. each session (lookup (is_at (nat_cmp session)) (open_of s copies)) refl;
    }
  where
    none_after : (o.past ++ hs) ++ [] ≡ o.past ++ hs
    none_after = append-nil (o.past ++ hs)

    each : (session : ℕ) (found : Option (CellEvent × CellReply)) → lookup (is_at (nat_cmp session)) (open_of s copies) ≡ found → IsLatestCopy (open_of s copies) [] session found
    each session None is = ap batch_at (looked_up session (open_of s copies) ∙ is)
    each session (Some h) is =
        let was = latest_found session o.held hs copies h cell.latest (was_there session s copies h (looked_up session (open_of s copies) ∙ is)) in
        (was.0, ap batch_at (looked_up session (open_of s copies) ∙ is) ∙ was.2, was.2)

-- the batches kept after a slide
pub kept_open : (session : ℕ) (o : OriginState) (hs : Entries) (s : TableState) (copies : Copies) → IsCell o hs s copies
    → kept_batch session (cell_of (slid_origin o hs (open_of s copies)) [] s) ≡ (if is_open session s then kept_batch session (cell_of o hs s) else None)
kept_open session o hs s copies cell =
    batch_is session (slid_origin o hs (open_of s copies)) [] s
    ∙ ap batch_at (found_open session s copies)
    ∙ elim (cases_Bool (is_open session s)) [
      | inl open_yet ↦
          ap batch_at (cond-true (is_open session s) (lookup (λ id. id == session) copies) None open_yet ∙ looked_up session copies)
          ∙ copied_is session o.held hs (lookup (is_at (nat_cmp session)) copies) (cell.latest session)
          ∙ sym (batch_is session o hs s)
          ∙ sym (cond-true (is_open session s) (kept_batch session (cell_of o hs s)) None open_yet)
      | inr gone ↦
          ap batch_at (cond-false (is_open session s) (lookup (λ id. id == session) copies) None gone)
          ∙ sym (cond-false (is_open session s) (kept_batch session (cell_of o hs s)) None gone)
    ]

pub slid_so : (o : OriginState) (hs : Entries) (s : TableState) (copies : Copies) (c : CellState) → cell_of o hs s ≡ c → IsCell o hs s copies
    → Slides c hs (cell_of (slid_origin o hs (open_of s copies)) [] s)
slid_so o hs s copies c view cell = subst (λ (x : CellState). Slides x hs (cell_of (slid_origin o hs (open_of s copies)) [] s)) view (
  sym (kept_is o hs s),
  open_of s copies,
  ap (λ (l : Entries). record { base = o.base; dropped = o.dropped; history = l; state = s; slid = length (o.past ++ hs); held = open_of s copies; renewals = o.renewals }) (append-nil (o.past ++ hs)),
  λ session. kept_open session o hs s copies cell,
)

-- after a slide the state is the replay of the history, and its batches are kept
stays_so : (c e : CellState) (hs : Entries) → IsReplayed c → Slides c hs e → IsReplayed e × Kept e
stays_so c e hs replayed (given, held, is, batches) =
    let still : IsReplayed e = subst IsReplayed (sym is) replayed in
    (still, runs_keep e still)

-- what a slide did, from what each of its steps did
pub slid_to : (o to : OriginState) (hs handed left : Entries) (s : TableState) (copies kept : Copies) (c : CellState) → cell_of o hs s ≡ c → IsCell o hs s copies
    → handed ≡ hs → left ≡ [] → kept ≡ open_of s copies → to ≡ slid_origin o hs kept
    → Slides c handed (cell_of to left s) × IsReplayed (cell_of to left s) × Kept (cell_of to left s)
slid_to o to hs handed left s copies kept c view cell same none opened origin =
    let slides : Slides c handed (cell_of to left s) =
    subst (λ (given : Entries). Slides c given (cell_of to left s)) (sym same)
    (subst (λ (q : OriginState). Slides c hs (cell_of q left s)) (sym origin)
    (subst (λ (rest : Entries). Slides c hs (cell_of (slid_origin o hs kept) rest s)) (sym none)
    (subst (λ (cs : Copies). Slides c hs (cell_of (slid_origin o hs cs) [] s)) (sym opened)
    (slid_so o hs s copies c view cell)))) in
    let stays = stays_so c (cell_of to left s) handed (subst IsReplayed view cell.sound.replayed) slides in
    (slides, stays.0, stays.1)
