-- Events of others between the closing and the opening of a session could as well come before both.
use Rattle.std.proofs.Common.{◌≡◌, ◌≢◌, ◌<◌, ◌≤◌, ◌+◌, ◌-◌, ◌^◌, ℕ, suc, Bool, true, false, not, List, [], ◌∷◌, ◌++◌, length, take, Option, Some, None, Ok, refl, sym, ap, subst, ◌∙◌, inl, inr, arith, append-nil, length-append, true≢false}
use Rattle.std.specs.Prelude.{cond, filter, is_none, is_some, map, nat_eq, nat_le, nat_lt, option_and_then, ◌==◌, if◌then◌else◌}
use Rattle.std.specs.List.{AllByRecursion}
use Rattle.std.specs.Map.{lookup}
use Rattle.std.proofs.lemmas.Bool.{cases_Bool, cases_eq, cond-true, cond-false, eq-eqb, eqb-false, eqb-true, lt-leb, ne_eqb}
use Rattle.std.proofs.lemmas.List.Elements.{filter-append}
use Rattle.std.proofs.lemmas.List.Sums.{fold_push}
use Rattle.table_types.specs.declared.copies.CopyKind.{CopyKind}
use Rattle.table_types.specs.declared.update.Update.{Update}
use Rattle.table_types.specs.declared.version.Version.{Version}
use Rattle.table_cell.specs.Copying.{update_of}
use Rattle.table_cell.specs.declared.errors.AckError.{AckError}
use Rattle.table_cell.specs.declared.errors.AckError.TheVariants as unacknowledged
use Rattle.table_cell.specs.declared.errors.CloseError.TheVariants as unclosed
use Rattle.table_cell.specs.declared.errors.CopyError.{CopyError}
use Rattle.table_cell.specs.declared.errors.CopyError.TheVariants as uncopied
use Rattle.table_cell.specs.declared.errors.LearnError.{LearnError}
use Rattle.table_cell.specs.declared.errors.LearnError.TheVariants as unlearned
use Rattle.table_cell.specs.declared.errors.OpenError.TheVariants as unopened
use Rattle.table_cell.specs.declared.events.CellEvent.{CellEvent}
use Rattle.table_cell.specs.declared.events.CellEvent.TheVariants as events
use Rattle.table_cell.specs.declared.events.CellReply.{CellReply}
use Rattle.table_cell.specs.declared.events.CellReply.TheVariants as replies
use Rattle.table_cell.specs.declared.progress.Progress.{Progress}
use Rattle.table_cell.specs.Machine.{Step, TableState, acknowledged_by, acknowledging, bound_by, close_refusal, in_reach, is_full, is_of_table, is_out, is_unacked, last_number, learned, no_progress, open_refusal, progress_of, settled_by, stored, tracked, unacked, version_by, with_progress}
use Rattle.table_cell.specs.Histories.{CellState, Closes, IsSoundCell, Made, Opens, batch_in, is_copy_of, is_history_full, room_of}
use Rattle.table_cell.specs.Handing.{is_about, resyncs_after, resyncs_since, updates_in}
use Rattle.table_cell.specs.Soundness.{SessionsDiffer}
use Rattle.table_cell.proofs.HandingSessions.{no_copy, other_without, own_without, resyncs_open, same_progress_of}
use Rattle.table_cell.proofs.RowsLaws.{some_none}
use Rattle.table_cell.proofs.SessionLaws.{sessions_differ_end, sessions_differ_filter, sessions_differ_with}
use Rattle.table_cell.proofs.StepLaws.{passes}
use Rattle.interleave_core.specs.Moves.{closed, opened}
use Rattle.interleave_core.specs.Reopened.{AreAlike, AreMade, AreOthers, LeavesRoom, other_events, own_events}
use Rattle.interleave_core.specs.Ties.{IsAmong, WasCopied}
use Rattle.interleave_core.specs.Worlds.{with_session, without_session}
use Rattle.interleave_core.proofs.Reopening.{others, three_pass}
use Rattle.interleave_core.proofs.TiePairs.{made_history, open_tied}

-- ---- the sessions of a table, without one

flip : (a b : ℕ) → nat_eq a b ≡ false → nat_eq b a ≡ false
flip a b other = elim (cases_eq b a) [
  | inl same ↦ absurd (true≢false (sym (eq-eqb a b (sym same)) ∙ other))
  | inr differs ↦ ne_eqb b a differs
]

filter_yes : {A : Type 0} (p : A → Bool) (x : A) (xs : List A) → p x ≡ true → filter p (x ∷ xs) ≡ x ∷ filter p xs
filter_yes p x xs holds = cond-true (p x) (x ∷ filter p xs) (filter p xs) holds

filter_no : {A : Type 0} (p : A → Bool) (x : A) (xs : List A) → p x ≡ false → filter p (x ∷ xs) ≡ filter p xs
filter_no p x xs fails = cond-false (p x) (x ∷ filter p xs) (filter p xs) fails

-- two filters in either order
swapped : {A : Type 0} (p q : A → Bool) (xs : List A) → filter p (filter q xs) ≡ filter q (filter p xs)
swapped p q [] = refl
swapped {A} p q (x ∷ xs) = elim (cases_Bool (p x)) [
  | inl in_p ↦ elim (cases_Bool (q x)) [
    | inl in_q ↦
        ap (filter p) (filter_yes q x xs in_q) ∙ filter_yes p x (filter q xs) in_p ∙ ap (λ (l : List A). x ∷ l) (swapped p q xs)
        ∙ sym (ap (filter q) (filter_yes p x xs in_p) ∙ filter_yes q x (filter p xs) in_q)
    | inr out_q ↦ ap (filter p) (filter_no q x xs out_q) ∙ swapped p q xs ∙ sym (ap (filter q) (filter_yes p x xs in_p) ∙ filter_no q x (filter p xs) out_q)
  ]
  | inr out_p ↦ elim (cases_Bool (q x)) [
    | inl in_q ↦ ap (filter p) (filter_yes q x xs in_q) ∙ filter_no p x (filter q xs) out_p ∙ swapped p q xs ∙ sym (ap (filter q) (filter_no p x xs out_p))
    | inr out_q ↦ ap (filter p) (filter_no q x xs out_q) ∙ swapped p q xs ∙ sym (ap (filter q) (filter_no p x xs out_p))
  ]
]

with_yes : (m : ℕ) (f : Progress → Progress) (e : ℕ × Progress) (es : List (ℕ × Progress)) → nat_eq e.0 m ≡ true → with_progress m f (e ∷ es) ≡ (e.0, f e.1) ∷ es
with_yes m f e es own = cond-true (nat_eq e.0 m) ((e.0, f e.1) ∷ es) (e ∷ with_progress m f es) own

with_no : (m : ℕ) (f : Progress → Progress) (e : ℕ × Progress) (es : List (ℕ × Progress)) → nat_eq e.0 m ≡ false → with_progress m f (e ∷ es) ≡ e ∷ with_progress m f es
with_no m f e es past = cond-false (nat_eq e.0 m) ((e.0, f e.1) ∷ es) (e ∷ with_progress m f es) past

-- another session's progress changes
others_with : (n m : ℕ) (f : Progress → Progress) (es : List (ℕ × Progress)) → nat_eq m n ≡ false → with_progress m f (others n es) ≡ others n (with_progress m f es)
others_with n m f [] other = refl
others_with n m f (e ∷ es) other = elim (cases_Bool (nat_eq e.0 n)) [
  | inl own ↦
      let past : nat_eq e.0 m ≡ false = ap (λ (k : ℕ). nat_eq k m) (eqb-true e.0 n own) ∙ flip m n other in
      ap (with_progress m f) (filter_no (λ (x : ℕ × Progress). not (nat_eq x.0 n)) e es (ap not own)) ∙ others_with n m f es other
      ∙ sym (ap (others n) (with_no m f e es past) ∙ filter_no (λ (x : ℕ × Progress). not (nat_eq x.0 n)) e (with_progress m f es) (ap not own))
  | inr left ↦ elim (cases_Bool (nat_eq e.0 m)) [
    | inl here ↦
        ap (with_progress m f) (filter_yes (λ (x : ℕ × Progress). not (nat_eq x.0 n)) e es (ap not left)) ∙ with_yes m f e (others n es) here
        ∙ sym (ap (others n) (with_yes m f e es here) ∙ filter_yes (λ (x : ℕ × Progress). not (nat_eq x.0 n)) (e.0, f e.1) es (ap not left))
    | inr past ↦
        ap (with_progress m f) (filter_yes (λ (x : ℕ × Progress). not (nat_eq x.0 n)) e es (ap not left)) ∙ with_no m f e (others n es) past
        ∙ ap (λ (l : List (ℕ × Progress)). e ∷ l) (others_with n m f es other)
        ∙ sym (ap (others n) (with_no m f e es past) ∙ filter_yes (λ (x : ℕ × Progress). not (nat_eq x.0 n)) e (with_progress m f es) (ap not left))
  ]
]

-- another session is added
others_end : (n m : ℕ) (p : Progress) (es : List (ℕ × Progress)) → nat_eq m n ≡ false → others n (es ++ (m, p) ∷ []) ≡ others n es ++ (m, p) ∷ []
others_end n m p es other =
    filter-append (λ (x : ℕ × Progress). not (nat_eq x.0 n)) es ((m, p) ∷ [])
    ∙ ap (λ (l : List (ℕ × Progress)). others n es ++ l) (filter_yes (λ (x : ℕ × Progress). not (nat_eq x.0 n)) (m, p) [] (ap not other))

-- no entry is of a session that isn't there
none_lost : (n : ℕ) (es : List (ℕ × Progress)) → lookup (λ id. id == n) es ≡ None → others n es ≡ es
none_lost n [] none = refl
none_lost n (e ∷ es) none = elim (cases_Bool (nat_eq e.0 n)) [
  | inl own ↦ absurd (some_none e.1 (sym (cond-true (nat_eq e.0 n) (Some e.1) (lookup (λ id. id == n) es) own) ∙ none))
  | inr left ↦
      filter_yes (λ (x : ℕ × Progress). not (nat_eq x.0 n)) e es (ap not left)
      ∙ ap (λ (l : List (ℕ × Progress)). e ∷ l) (none_lost n es (sym (cond-false (nat_eq e.0 n) (Some e.1) (lookup (λ id. id == n) es) left) ∙ none))
]

-- at most one is lost
one_lost : (n : ℕ) (es : List (ℕ × Progress)) → SessionsDiffer es → length es ≤ suc (length (others n es))
one_lost n [] differ = omega arith
one_lost n (e ∷ es) (first, rest) = elim (cases_Bool (nat_eq e.0 n)) [
  | inl own ↦
      let same : others n es ≡ es = none_lost n es (ap (λ (k : ℕ). lookup (λ id. id == k) es) (sym (eqb-true e.0 n own)) ∙ first) in
      let is : others n (e ∷ es) ≡ es = filter_no (λ (x : ℕ × Progress). not (nat_eq x.0 n)) e es (ap not own) ∙ same in
      subst (λ (l : List (ℕ × Progress)). suc (length es) ≤ suc (length l)) (sym is) (omega arith)
  | inr left ↦
      let is : others n (e ∷ es) ≡ e ∷ others n es = filter_yes (λ (x : ℕ × Progress). not (nat_eq x.0 n)) e es (ap not left) in
      let fewer = one_lost n es rest in
      subst (λ (l : List (ℕ × Progress)). suc (length es) ≤ suc (length l)) (sym is) (omega (arith, fewer))
]

-- ---- one event

-- the state once the session is closed
abbrev closed_state : ℕ → TableState → TableState
closed_state n s = record s { sessions = others n s.sessions }

-- the machine makes the event while the session is open too, which may be closed afterwards
abbrev Before : ℕ → TableState → CellEvent → CellReply → TableState → Type 0
Before n s event reply e = (next : TableState) × Step s event reply next × (e ≡ closed_state n next) × SessionsDiffer next.sessions

absent_some : (o : Option Progress) → is_some o ≡ false → o ≡ None
absent_some None none = refl
absent_some (Some p) none = absurd (true≢false none)

learns : (n m now : ℕ) (u : Update) (s e : TableState) (reply : CellReply) → SessionsDiffer s.sessions → Step (closed_state n s) (events.Learn m u now) reply e → Before n s (events.Learn m u now) reply e
learns n m now u s e reply differ (granted, rest, leaves, answer, is) = elim (cases_eq n m) [
  | inl same ↦
      let none : progress_of m (closed_state n s) ≡ None = ap (λ (k : ℕ). progress_of k (closed_state n s)) (sym same) ∙ own_without n s.sessions in
      absurd (true≢false (sym (ap (λ (o : Option Progress). is_none o) none) ∙ (passes (is_none (progress_of m (closed_state n s))) _ _ granted).0))
  | inr apart ↦
      let unmoved : progress_of m (closed_state n s) ≡ progress_of m s = other_without m n s.sessions (ne_eqb n m apart) in
      (stored s u.key (learned s u now) now rest, (sym (ap by unmoved) ∙ granted, rest, leaves, answer, refl), is, differ)
]
  where
    by : Option Progress → Option LearnError
    by o =
        if is_none o then Some unlearned.NoSession
        else (if not (is_of_table s.definition u) then Some unlearned.Misfit
        else (if nat_lt now s.latest then Some unlearned.MomentBack
        else (if false then Some unlearned.HistoryFull
        else (if nat_le (2 ^ 32) s.next then Some unlearned.Spent
        else (if is_full s u.key now then Some unlearned.TableFull
        else None)))))

copies : (n m limit now : ℕ) (kind : CopyKind) (s e : TableState) (reply : CellReply) → nat_eq m n ≡ false → SessionsDiffer s.sessions → Step (closed_state n s) (events.Copy m kind limit now) reply e
    → Before n s (events.Copy m kind limit now) reply e
copies n m limit now kind s e reply other differ (granted, answer, is) = (
  record s { sessions = with_progress m to_last s.sessions; latest = now },
  (sym (ap refusal unmoved) ∙ granted, answer ∙ ap (λ (us : List Update). replies.Copy us) same, refl),
  is
      ∙ ap (λ (us : List Update). record (closed_state n s) { sessions = with_progress m (λ (p : Progress). record p { taught = last_number p.taught us }) (others n s.sessions); latest = now }) same
      ∙ ap (λ (l : List (ℕ × Progress)). record (closed_state n s) { sessions = l; latest = now }) (others_with n m to_last s.sessions other),
  sessions_differ_with m to_last s.sessions differ,
)
  where
    given : Option Progress → List Update
    given o = take limit (map (update_of (version_by o) s.definition now) (filter (is_unacked kind (acknowledged_by o) now) (in_reach kind (bound_by o) s.rows)))

    refusal : Option Progress → Option CopyError
    refusal o = of_session o
      where
        of_session : Option Progress → Option CopyError
        of_session None = Some uncopied.NoSession
        of_session (Some progress) =
            if nat_lt now s.latest then Some uncopied.MomentBack
            else (if is_out progress then Some uncopied.BatchOut
            else (if length (given o) == 0 then Some uncopied.Nothing
            else (if false then Some uncopied.HistoryFull
            else None)))

    unmoved : progress_of m (closed_state n s) ≡ progress_of m s
    unmoved = other_without m n s.sessions (flip m n other)

    same : unacked (closed_state n s) m kind now limit ≡ unacked s m kind now limit
    same = ap given unmoved

    to_last : Progress → Progress
    to_last p = record p { taught = last_number p.taught (unacked s m kind now limit) }

acknowledges : (n m number : ℕ) (s e : TableState) (reply : CellReply) → nat_eq m n ≡ false → SessionsDiffer s.sessions → Step (closed_state n s) (events.Ack m number) reply e → Before n s (events.Ack m number) reply e
acknowledges n m number s e reply other differ (granted, answer, is) = (
  record s { sessions = with_progress m (acknowledging number) s.sessions },
  (sym (ap of_session unmoved) ∙ granted, answer ∙ ap (λ (o : Option Progress). replies.Ack (settled_by o number)) unmoved, refl),
  is ∙ ap (λ (l : List (ℕ × Progress)). record s { sessions = l }) (others_with n m (acknowledging number) s.sessions other),
  sessions_differ_with m (acknowledging number) s.sessions differ,
)
  where
    of_session : Option Progress → Option AckError
    of_session None = Some unacknowledged.NoSession
    of_session (Some progress) =
        if nat_lt progress.taught number then Some unacknowledged.AckAhead
        else (if false then Some unacknowledged.HistoryFull
        else None)

    unmoved : progress_of m (closed_state n s) ≡ progress_of m s
    unmoved = other_without m n s.sessions (flip m n other)

opens : (n m : ℕ) (v : Version) (s e : TableState) (reply : CellReply) → nat_eq m n ≡ false → length (others n s.sessions) < 15 → SessionsDiffer s.sessions → Step (closed_state n s) (events.Open m v) reply e → Before n s (events.Open m v) reply e
opens n m v s e reply other few differ (granted, answer, is) =
    let unmoved : progress_of m (closed_state n s) ≡ progress_of m s = other_without m n s.sessions (flip m n other) in
    let absent : is_some (progress_of m s) ≡ false = sym (ap (λ (o : Option Progress). is_some o) unmoved) ∙ (passes (is_some (progress_of m (closed_state n s))) _ _ granted).0 in
    let lost = one_lost n s.sessions differ in
    let room : length s.sessions < 16 = omega (arith, lost, few) in (
      record s { sessions = s.sessions ++ (m, no_progress v s.next) ∷ [] },
      (three_pass (is_some (progress_of m s)) (nat_le 16 (length s.sessions)) false unopened.AlreadyOpen unopened.TooMany unopened.HistoryFull absent (lt-leb 16 (length s.sessions) room) refl, answer, refl),
      is ∙ ap (λ (l : List (ℕ × Progress)). record s { sessions = l }) (sym (others_end n m (no_progress v s.next) s.sessions other)),
      sessions_differ_end m (no_progress v s.next) s.sessions differ (absent_some (progress_of m s) absent),
    )

two_pass : {E : Type 0} (a b : Bool) (x y : E) → a ≡ false → b ≡ false → ◌≡◌ {A = Option E} (cond a (Some x) (cond b (Some y) None)) None
two_pass {E} a b x y first second = cond-false a (Some x) (cond b (Some y) None) first ∙ cond-false b (Some y) None second

closes : (n m : ℕ) (s e : TableState) (reply : CellReply) → nat_eq m n ≡ false → SessionsDiffer s.sessions → Step (closed_state n s) (events.Close m) reply e → Before n s (events.Close m) reply e
closes n m s e reply other differ (granted, answer, is) =
    let unmoved : progress_of m (closed_state n s) ≡ progress_of m s = other_without m n s.sessions (flip m n other) in
    let there : is_none (progress_of m s) ≡ false = sym (ap (λ (o : Option Progress). is_none o) unmoved) ∙ (passes (is_none (progress_of m (closed_state n s))) _ _ granted).0 in (
      record s { sessions = others m s.sessions },
      (two_pass (is_none (progress_of m s)) false unclosed.NoSession unclosed.HistoryFull there refl, answer, refl),
      is ∙ ap (λ (l : List (ℕ × Progress)). record s { sessions = l }) (swapped (λ (x : ℕ × Progress). not (nat_eq x.0 m)) (λ (x : ℕ × Progress). not (nat_eq x.0 n)) s.sessions),
      sessions_differ_filter (λ (x : ℕ × Progress). not (nat_eq x.0 m)) s.sessions differ,
    )

before : (n : ℕ) (s e : TableState) (event : CellEvent) (reply : CellReply) → is_about n event ≡ false → LeavesRoom event (closed_state n s) → SessionsDiffer s.sessions → Step (closed_state n s) event reply e
    → Before n s event reply e
before n s e (events.Track seat key change now) reply other room differ (granted, rest, leaves, answer, is) =
    (stored s key (tracked s key change now) now rest, (granted, rest, leaves, answer, refl), is, differ)
before n s e (events.Learn m u now) reply other room differ step = learns n m now u s e reply differ step
before n s e (events.Copy m kind limit now) reply other room differ step = copies n m limit now kind s e reply other differ step
before n s e (events.Ack m number) reply other room differ step = acknowledges n m number s e reply other differ step
before n s e (events.Open m v) reply other room differ step = opens n m v s e reply other room differ step
before n s e (events.Close m) reply other room differ step = closes n m s e reply other differ step
before n s e (events.Purge now) reply other room differ (granted, answer, is) = (
  record s { rows = e.rows; latest = now },
  (granted, answer, ap (λ (x : TableState). record s { rows = x.rows; latest = now }) is),
  is ∙ sym (ap (λ (x : TableState). record (closed_state n s) { rows = x.rows; latest = now }) is),
  differ,
)

-- ---- the table

-- the table `x` is `y` with the session closed, which took one event
record IsClosedOf (n : ℕ) (x y : CellState) : Type 0 where
  pub state : x.state ≡ closed_state n y.state
  pub longer : length x.history ≡ length y.history + 1
  pub dropped : x.dropped ≡ y.dropped
  pub slid : x.slid ≡ y.slid
  pub differ : SessionsDiffer y.state.sessions
  pub present : is_some (progress_of n y.state) ≡ true

-- it has more room
more_room : (n : ℕ) (x y : CellState) → IsClosedOf n x y → room_of x ≢ 0 → 2 ≤ room_of y
more_room n x y is some = by (length x.history) (length y.history) x.dropped y.dropped x.slid y.slid is.longer is.dropped is.slid some
  where
    by : (a b c d e f : ℕ) → a ≡ b + 1 → c ≡ d → e ≡ f → Rattle.std.specs.Prelude.min (1000000 + e - a) (2 ^ 63 - (c + a)) ≢ 0 → 2 ≤ Rattle.std.specs.Prelude.min (1000000 + f - b) (2 ^ 63 - (d + b))
    by a b c d e f longer dropped slid some = omega (arith, longer, dropped, slid, some)

has_room : (x : CellState) → is_history_full x ≡ false → room_of x ≢ 0
has_room x free = eqb-false (room_of x) 0 free

is_free : (x : CellState) → 2 ≤ room_of x → is_history_full x ≡ false
is_free x room = ne_eqb (room_of x) 0 (λ none. omega (arith, none, room))

-- what comes of both tables after the same events
record IsAfterAll (n : ℕ) (x y : CellState) (hs : List (CellEvent × CellReply)) (far d : CellState) : Type 0 where
  pub made : AreMade y hs d
  pub still : IsClosedOf n far d
  pub others : AllByRecursion (λ (h : CellEvent × CellReply). is_about n h.0 ≡ false) hs
  pub far_history : far.history ≡ x.history ++ hs
  pub near_history : d.history ≡ y.history ++ hs

one_longer : (hs : List (CellEvent × CellReply)) (h : CellEvent × CellReply) → length (hs ++ h ∷ []) ≡ length hs + 1
one_longer hs h = length-append hs (h ∷ [])

all_before : (n : ℕ) (x y far : CellState) (hs : List (CellEvent × CellReply)) → IsClosedOf n x y → AreOthers n x hs far → (d : CellState) × IsAfterAll n x y hs far d
all_before n x y far [] is end = (
  y,
  record {
    made = refl;
    still = subst (λ (z : CellState). IsClosedOf n z y) (sym end) is;
    others = tt;
    far_history = ap (λ (z : CellState). z.history) end ∙ sym (append-nil x.history);
    near_history = sym (append-nil y.history);
  },
)
all_before n x y far (h ∷ hs) is (mid, other, room, free, (step, changed), rest) =
    let one = before n y.state mid.state h.0 h.1 other (subst (LeavesRoom h.0) is.state room) is.differ (subst (λ (s : TableState). Step s h.0 h.1 mid.state) is.state step) in
    let next : CellState = record y { history = y.history ++ h ∷ []; state = one.0 } in
    let follows : IsClosedOf n mid next = record {
      state = one.2;
      longer =
          ap (λ (z : CellState). length z.history) changed ∙ one_longer x.history h ∙ ap (λ (k : ℕ). k + 1) is.longer
          ∙ ap (λ (k : ℕ). k + 1) (sym (one_longer y.history h));
      dropped = ap (λ (z : CellState). z.dropped) changed ∙ is.dropped;
      slid = ap (λ (z : CellState). z.slid) changed ∙ is.slid;
      differ = one.3;
      present = ap (λ (o : Option Progress). is_some o) (same_progress_of n y.state one.0 h.0 h.1 other one.1) ∙ is.present;
    } in
    let later = all_before n mid next far hs follows rest in (
      later.0,
      record {
        made = (next, is_free y (more_room n x y is (has_room x free)), (one.1, refl), later.1.made);
        still = later.1.still;
        others = (other, later.1.others);
        far_history = later.1.far_history ∙ ap (λ (l : List (CellEvent × CellReply)). l ++ hs) (ap (λ (z : CellState). z.history) changed) ∙ Rattle.std.proofs.Common.append_assoc x.history (h ∷ []) hs;
        near_history = later.1.near_history ∙ Rattle.std.proofs.Common.append_assoc y.history (h ∷ []) hs;
      },
    )

-- ---- histories

none_of : (n : ℕ) (hs : List (CellEvent × CellReply)) → AllByRecursion (λ (h : CellEvent × CellReply). is_about n h.0 ≡ false) hs → own_events n hs ≡ []
none_of n [] all = refl
none_of n (h ∷ hs) (one, rest) = filter_no (λ (x : CellEvent × CellReply). is_about n x.0) h hs one ∙ none_of n hs rest

copied_own : (n : ℕ) (u : Update) (hs : List (CellEvent × CellReply)) → WasCopied n hs u → WasCopied n (own_events n hs) u
copied_own n u [] at = at
copied_own n u (h ∷ hs) (inl here) = elim (cases_Bool (is_about n h.0)) [
  | inl own ↦ subst (λ (l : List (CellEvent × CellReply)). WasCopied n l u) (sym (filter_yes (λ (x : CellEvent × CellReply). is_about n x.0) h hs own)) (inl here)
  | inr other ↦
      absurd (subst (λ (o : Option (List Update)). IsAmong u (updates_in o)) (cond-false (is_copy_of n h.0) (batch_in h.1) None (no_copy n h.0 other)) here)
]
copied_own n u (h ∷ hs) (inr later) = elim (cases_Bool (is_about n h.0)) [
  | inl own ↦ subst (λ (l : List (CellEvent × CellReply)). WasCopied n l u) (sym (filter_yes (λ (x : CellEvent × CellReply). is_about n x.0) h hs own)) (inr (copied_own n u hs later))
  | inr other ↦ subst (λ (l : List (CellEvent × CellReply)). WasCopied n l u) (sym (filter_no (λ (x : CellEvent × CellReply). is_about n x.0) h hs other)) (copied_own n u hs later)
]

-- the first event, or the others
first_or : (n : ℕ) (u : Update) (h : CellEvent × CellReply) (hs ks : List (CellEvent × CellReply)) → (WasCopied n ks u → WasCopied n hs u) → WasCopied n (h ∷ ks) u → WasCopied n (h ∷ hs) u
first_or n u h hs ks so (inl here) = inl here
first_or n u h hs ks so (inr later) = inr (so later)

own_copied : (n : ℕ) (u : Update) (hs : List (CellEvent × CellReply)) → WasCopied n (own_events n hs) u → WasCopied n hs u
own_copied n u [] at = at
own_copied n u (h ∷ hs) at = elim (cases_Bool (is_about n h.0)) [
  | inl own ↦
      first_or n u h hs (own_events n hs) (own_copied n u hs) (subst (λ (l : List (CellEvent × CellReply)). WasCopied n l u) (filter_yes (λ (x : CellEvent × CellReply). is_about n x.0) h hs own) at)
  | inr other ↦ inr (own_copied n u hs (subst (λ (l : List (CellEvent × CellReply)). WasCopied n l u) (filter_no (λ (x : CellEvent × CellReply). is_about n x.0) h hs other) at))
]

same_copied : (n : ℕ) (u : Update) (hs ks : List (CellEvent × CellReply)) → own_events n hs ≡ own_events n ks → WasCopied n hs u → WasCopied n ks u
same_copied n u hs ks same at = own_copied n u ks (subst (λ (l : List (CellEvent × CellReply)). WasCopied n l u) same (copied_own n u hs at))

-- a filter of four parts
four : {A : Type 0} (p : A → Bool) (a b c d : List A) → filter p (((a ++ b) ++ c) ++ d) ≡ ((filter p a ++ filter p b) ++ filter p c) ++ filter p d
four {A} p a b c d =
    filter-append p ((a ++ b) ++ c) d ∙ ap (λ (l : List A). l ++ filter p d) (filter-append p (a ++ b) c ∙ ap (λ (l : List A). l ++ filter p c) (filter-append p a b))

-- an empty part of them may stand earlier or later
moved_empty : {A : Type 0} (a b c d : List A) → b ≡ [] → ((a ++ b) ++ c) ++ d ≡ ((a ++ c) ++ b) ++ d
moved_empty {A} a b c d none =
    ap (λ (l : List A). ((a ++ l) ++ c) ++ d) none ∙ ap (λ (l : List A). (l ++ c) ++ d) (append-nil a)
    ∙ sym (ap (λ (l : List A). ((a ++ c) ++ l) ++ d) none ∙ ap (λ (l : List A). l ++ d) (append-nil (a ++ c)))

same_filtered : {A : Type 0} (p : A → Bool) (a b c d : List A) → filter p b ≡ [] → filter p (((a ++ b) ++ c) ++ d) ≡ filter p (((a ++ c) ++ b) ++ d)
same_filtered p a b c d none = four p a b c d ∙ moved_empty (filter p a) (filter p b) (filter p c) (filter p d) none ∙ sym (four p a c b d)

-- ---- the laws

pub session_gone : (c e : CellState) (n : ℕ) → Closes c n (Ok tt) e → progress_of n e.state ≡ None
session_gone c e n (free, ((granted, reply, state), is)) = ap (progress_of n) state ∙ own_without n c.state.sessions

is_present : (o : Option Progress) → is_none o ≡ false → is_some o ≡ true
is_present None none = absurd (true≢false none)
is_present (Some p) none = refl

just_closed : (n : ℕ) (c mid : CellState) → IsSoundCell c → Closes c n (Ok tt) mid → IsClosedOf n mid c
just_closed n c mid sound (free, ((granted, reply, state), is)) = record {
  state = state;
  longer = ap (λ (z : CellState). length z.history) is ∙ one_longer c.history (events.Close n, replies.Close);
  dropped = ap (λ (z : CellState). z.dropped) is;
  slid = ap (λ (z : CellState). z.slid) is;
  differ = sound.sound.sessions;
  present = is_present (progress_of n c.state) (passes (is_none (progress_of n c.state)) _ _ granted).0;
}

absent_none : (o : Option Progress) → is_some o ≡ true → is_none o ≡ false
absent_none None some = absurd (true≢false (sym some))
absent_none (Some p) some = refl

-- the session can be closed and opened at once in the table in which it is still open
both_now : (n : ℕ) (v : Version) (far d : CellState) → IsClosedOf n far d → room_of far ≢ 0 → open_refusal false far.state n ≡ None → option_and_then (opened n v) (closed n d) ≡ Some (with_session n v (without_session n d))
both_now n v far d is room granted =
    let rooms = more_room n far d is room in
    let free = is_free d rooms in
    let closing : closed n d ≡ Some (without_session n d) =
    cond-true (is_none (close_refusal (is_history_full d) d.state n)) (Some (without_session n d)) None
    (ap (λ (o : Option _). is_none o) (two_pass (is_none (progress_of n d.state)) (is_history_full d) unclosed.NoSession unclosed.HistoryFull (absent_none (progress_of n d.state) is.present) free)) in
    let gone : is_some (progress_of n (without_session n d).state) ≡ false = ap (λ (o : Option Progress). is_some o) (own_without n d.state.sessions) in
    let few : nat_le 16 (length (others n d.state.sessions)) ≡ false =
    subst (λ (s : TableState). nat_le 16 (length s.sessions) ≡ false) is.state (passes (nat_le 16 (length far.state.sessions)) _ _ (passes (is_some (progress_of n far.state)) _ _ granted).1).0 in
    let left : is_history_full (without_session n d) ≡ false = still_free d (events.Close n, replies.Close) rooms in
    let opening : opened n v (without_session n d) ≡ Some (with_session n v (without_session n d)) =
    cond-true (is_none (open_refusal (is_history_full (without_session n d)) (without_session n d).state n)) (Some (with_session n v (without_session n d))) None
    (ap (λ (o : Option _). is_none o)
    (three_pass (is_some (progress_of n (without_session n d).state)) (nat_le 16 (length (others n d.state.sessions))) (is_history_full (without_session n d)) unopened.AlreadyOpen unopened.TooMany unopened.HistoryFull gone few left)) in
    ap (λ (o : Option CellState). option_and_then (opened n v) o) closing ∙ opening
  where
    still_free : (c : CellState) (h : CellEvent × CellReply) → 2 ≤ room_of c → Rattle.std.specs.Prelude.min (1000000 + c.slid - length (c.history ++ h ∷ [])) (2 ^ 63 - (c.dropped + length (c.history ++ h ∷ []))) == 0 ≡ false
    still_free c h rooms = ne_eqb _ 0 (by (length (c.history ++ h ∷ [])) (length c.history) c.dropped c.slid (one_longer c.history h) rooms)
      where
        by : (a b d s : ℕ) → a ≡ b + 1 → 2 ≤ Rattle.std.specs.Prelude.min (1000000 + s - b) (2 ^ 63 - (d + b)) → Rattle.std.specs.Prelude.min (1000000 + s - a) (2 ^ 63 - (d + a)) ≢ 0
        by a b d s longer rooms = λ none. omega (arith, longer, rooms, none)

pub reopened_later : (c mid far e : CellState) (n : ℕ) (v : Version) (hs : List (CellEvent × CellReply)) → IsSoundCell c → Closes c n (Ok tt) mid → AreOthers n mid hs far → Opens far n v (Ok tt) e
    → (d : CellState) × (f : CellState) × AreMade c hs d × (option_and_then (opened n v) (closed n d) ≡ Some f) × AreAlike n f e
reopened_later c mid far e n v hs sound closing between (free, ((granted, answer, state), is)) =
    let (d, all) = all_before n mid c far hs (just_closed n c mid sound closing) between in
    let f : CellState = with_session n v (without_session n d) in
    let opening : Made far (events.Open n v) replies.Open e = ((granted, answer, state), is) in
    let opens_again : Made (without_session n d) (events.Open n v) replies.Open f = (
      (
        three_pass (is_some (progress_of n (without_session n d).state)) (nat_le 16 (length (others n d.state.sessions))) false unopened.AlreadyOpen unopened.TooMany unopened.HistoryFull
            (ap (λ (o : Option Progress). is_some o) (own_without n d.state.sessions))
            (subst (λ (s : TableState). nat_le 16 (length s.sessions) ≡ false) all.still.state (passes (nat_le 16 (length far.state.sessions)) _ _ (passes (is_some (progress_of n far.state)) _ _ granted).1).0) refl,
        refl,
        refl,
      ),
      refl,
    ) in
    let last_history : e.history ≡ ((c.history ++ close_entry ∷ []) ++ hs) ++ open_entry ∷ [] =
    made_history far e (events.Open n v) replies.Open opening ∙ ap (λ (l : List (CellEvent × CellReply)). l ++ open_entry ∷ []) (all.far_history
    ∙ ap (λ (l : List (CellEvent × CellReply)). l ++ hs) (ap (λ (z : CellState). z.history) closing.1.1)) in
    let first_history : f.history ≡ ((c.history ++ hs) ++ close_entry ∷ []) ++ open_entry ∷ [] = ap (λ (l : List (CellEvent × CellReply)). (l ++ close_entry ∷ []) ++ open_entry ∷ []) all.near_history in
    let own : own_events n f.history ≡ own_events n e.history =
    ap (own_events n) first_history ∙ same_filtered (λ (h : CellEvent × CellReply). is_about n h.0) c.history hs (close_entry ∷ []) (open_entry ∷ []) (none_of n hs all.others) ∙ sym (ap (own_events n) last_history) in
    let others_same : other_events n f.history ≡ other_events n e.history =
    ap (other_events n) first_history
    ∙ sym (same_filtered (λ (h : CellEvent × CellReply). not (is_about n h.0)) c.history (close_entry ∷ []) hs (open_entry ∷ [])
    (filter_no (λ (h : CellEvent × CellReply). not (is_about n h.0)) close_entry [] (ap not (eq-eqb n n refl))))
    ∙ sym (ap (other_events n) last_history) in (
      d,
      f,
      all.made,
      both_now n v far d all.still (has_room far free) granted,
      record {
        state = sym (state ∙ ap (λ (s : TableState). record s { sessions = s.sessions ++ (n, no_progress v s.next) ∷ [] }) all.still.state);
        own = own;
        others = others_same;
        handed = sym (open_tied n v [] (without_session n d) f replies.Open opens_again tt).same ∙ (open_tied n v [] far e replies.Open opening tt).same;
        resyncs = resyncs_new (without_session n d).history ∙ sym (ap (resyncs_since n) (made_history far e (events.Open n v) replies.Open opening) ∙ resyncs_new far.history);
        copied = λ u. (same_copied n u f.history e.history own, same_copied n u e.history f.history (sym own));
      },
    )
  where
    close_entry : CellEvent × CellReply
    close_entry = (events.Close n, replies.Close)

    open_entry : CellEvent × CellReply
    open_entry = (events.Open n v, replies.Open)

    resyncs_new : (hs : List (CellEvent × CellReply)) → resyncs_since n (hs ++ open_entry ∷ []) ≡ true
    resyncs_new hs = fold_push (resyncs_after n) true hs open_entry ∙ resyncs_open n v (resyncs_since n hs) replies.Open
