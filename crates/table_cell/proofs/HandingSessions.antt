-- The progress of a session, and events that leave it.
use Rattle.std.proofs.Common.{◌≡◌, ℕ, ◌<◌, ◌≤◌, Bool, true, false, not, ◌&&◌, ◌||◌, List, [], ◌∷◌, ◌++◌, Option, Some, None, refl, sym, ap, subst, ◌∙◌, inl, inr}
use Rattle.std.specs.Prelude.{filter, nat_eq, cond, option_map, ◌==◌}
use Rattle.std.specs.List.{AllByRecursion}
use Rattle.std.specs.Map.{lookup}
use Rattle.std.proofs.lemmas.Bool.{cases_Bool, cases_eq, eq-eqb, ne_eqb, cond-true, cond-false}
use Rattle.std.proofs.lemmas.List.{append-nil}
use Rattle.std.proofs.lemmas.List.Sums.{fold_push}
use Rattle.table_types.specs.declared.update.Update.{Update}
use Rattle.table_types.specs.declared.version.Version.{Version}
use Rattle.table_types.specs.declared.copies.CopyKind.{CopyKind}
use Rattle.table_types.specs.declared.copies.CopyKind.TheVariants as kinds
use Rattle.table_cell.specs.declared.events.CellEvent.{CellEvent}
use Rattle.table_cell.specs.declared.events.CellEvent.TheVariants as events
use Rattle.table_cell.specs.declared.events.CellReply.{CellReply}
use Rattle.table_cell.specs.declared.events.CellReply.TheVariants as replies
use Rattle.table_cell.specs.declared.progress.Progress.{Progress}
use Rattle.table_cell.specs.Machine.{TableState, Step, acknowledging, last_number, no_progress, progress_of, unacked, with_progress}
use Rattle.table_cell.specs.Histories.{CellState, Made, batch_in, batch_of, is_copy_of}
use Rattle.table_cell.specs.Soundness.{IsBoundBelow, IsProgressBelow}
use Rattle.table_cell.specs.Handing.{handed_after, handed_since, is_about, is_open_of, is_push_of, resyncs_after, resyncs_since, updates_in}
use Rattle.table_stock.proofs.RowsLaws.{some_none}

-- ---- the progress of a session

pub other_with : (n m : ℕ) (f : Progress → Progress) (es : List (ℕ × Progress)) → nat_eq m n ≡ false → lookup (λ id. id == n) (with_progress m f es) ≡ lookup (λ id. id == n) es
other_with n m f [] apart = refl
other_with n m f (e ∷ es) apart = elim (cases_eq e.0 m) [
  | inl same ↦
      let past : nat_eq e.0 n ≡ false = ap (λ k. nat_eq k n) same ∙ apart in
      ap (lookup (λ id. id == n)) (cond-true (nat_eq e.0 m) ((e.0, f e.1) ∷ es) (e ∷ with_progress m f es) (eq-eqb e.0 m same))
      ∙ cond-false (nat_eq e.0 n) (Some (f e.1)) (lookup (λ id. id == n) es) past
      ∙ sym (cond-false (nat_eq e.0 n) (Some e.1) (lookup (λ id. id == n) es) past)
  | inr differs ↦
      ap (lookup (λ id. id == n)) (cond-false (nat_eq e.0 m) ((e.0, f e.1) ∷ es) (e ∷ with_progress m f es) (ne_eqb e.0 m differs))
      ∙ ap (λ o. cond (nat_eq e.0 n) (Some e.1) o) (other_with n m f es apart)
]

pub own_with : (n : ℕ) (f : Progress → Progress) (es : List (ℕ × Progress)) → lookup (λ id. id == n) (with_progress n f es) ≡ option_map f (lookup (λ id. id == n) es)
own_with n f [] = refl
own_with n f (e ∷ es) = elim (cases_Bool (nat_eq e.0 n)) [
  | inl own ↦
      ap (lookup (λ id. id == n)) (cond-true (nat_eq e.0 n) ((e.0, f e.1) ∷ es) (e ∷ with_progress n f es) own)
      ∙ cond-true (nat_eq e.0 n) (Some (f e.1)) (lookup (λ id. id == n) es) own
      ∙ sym (ap (option_map f) (cond-true (nat_eq e.0 n) (Some e.1) (lookup (λ id. id == n) es) own))
  | inr other ↦
      ap (lookup (λ id. id == n)) (cond-false (nat_eq e.0 n) ((e.0, f e.1) ∷ es) (e ∷ with_progress n f es) other)
      ∙ cond-false (nat_eq e.0 n) (Some e.1) (lookup (λ id. id == n) (with_progress n f es)) other
      ∙ own_with n f es
      ∙ sym (ap (option_map f) (cond-false (nat_eq e.0 n) (Some e.1) (lookup (λ id. id == n) es) other))
]

pub other_end : (n m : ℕ) (p : Progress) (es : List (ℕ × Progress)) → nat_eq m n ≡ false → lookup (λ id. id == n) (es ++ (m, p) ∷ []) ≡ lookup (λ id. id == n) es
other_end n m p [] apart = cond-false (nat_eq m n) (Some p) None apart
other_end n m p (e ∷ es) apart = ap (λ o. cond (nat_eq e.0 n) (Some e.1) o) (other_end n m p es apart)

pub own_end : (n : ℕ) (p : Progress) (es : List (ℕ × Progress)) → lookup (λ id. id == n) es ≡ None → lookup (λ id. id == n) (es ++ (n, p) ∷ []) ≡ Some p
own_end n p [] none = cond-true (nat_eq n n) (Some p) None (eq-eqb n n refl)
own_end n p (e ∷ es) none = elim (cases_Bool (nat_eq e.0 n)) [
  | inl own ↦ absurd (some_none e.1 (sym (cond-true (nat_eq e.0 n) (Some e.1) (lookup (λ id. id == n) es) own) ∙ none))
  | inr other ↦
      cond-false (nat_eq e.0 n) (Some e.1) (lookup (λ id. id == n) (es ++ (n, p) ∷ [])) other
      ∙ own_end n p es (sym (cond-false (nat_eq e.0 n) (Some e.1) (lookup (λ id. id == n) es) other) ∙ none)
]

pub other_without : (n m : ℕ) (es : List (ℕ × Progress)) → nat_eq m n ≡ false → lookup (λ id. id == n) (filter (λ (entry : ℕ × Progress). not (entry.0 == m)) es) ≡ lookup (λ id. id == n) es
other_without n m [] apart = refl
other_without n m (e ∷ es) apart = elim (cases_eq e.0 m) [
  | inl same ↦
      let past : nat_eq e.0 n ≡ false = ap (λ k. nat_eq k n) same ∙ apart in
      ap (lookup (λ id. id == n)) (cond-false (not (nat_eq e.0 m)) (e ∷ filter (λ (entry : ℕ × Progress). not (entry.0 == m)) es) (filter (λ (entry : ℕ × Progress). not (entry.0 == m)) es) (ap not (eq-eqb e.0 m same)))
      ∙ other_without n m es apart
      ∙ sym (cond-false (nat_eq e.0 n) (Some e.1) (lookup (λ id. id == n) es) past)
  | inr differs ↦
      ap (lookup (λ id. id == n)) (cond-true (not (nat_eq e.0 m)) (e ∷ filter (λ (entry : ℕ × Progress). not (entry.0 == m)) es) (filter (λ (entry : ℕ × Progress). not (entry.0 == m)) es) (ap not (ne_eqb e.0 m differs)))
      ∙ ap (λ o. cond (nat_eq e.0 n) (Some e.1) o) (other_without n m es apart)
]

pub own_without : (n : ℕ) (es : List (ℕ × Progress)) → lookup (λ id. id == n) (filter (λ (entry : ℕ × Progress). not (entry.0 == n)) es) ≡ None
own_without n [] = refl
own_without n (e ∷ es) = elim (cases_Bool (nat_eq e.0 n)) [
  | inl own ↦
      ap (lookup (λ id. id == n)) (cond-false (not (nat_eq e.0 n)) (e ∷ filter (λ (entry : ℕ × Progress). not (entry.0 == n)) es) (filter (λ (entry : ℕ × Progress). not (entry.0 == n)) es) (ap not own))
      ∙ own_without n es
  | inr other ↦
      ap (lookup (λ id. id == n)) (cond-true (not (nat_eq e.0 n)) (e ∷ filter (λ (entry : ℕ × Progress). not (entry.0 == n)) es) (filter (λ (entry : ℕ × Progress). not (entry.0 == n)) es) (ap not other))
      ∙ cond-false (nat_eq e.0 n) (Some e.1) (lookup (λ id. id == n) (filter (λ (entry : ℕ × Progress). not (entry.0 == n)) es)) other
      ∙ own_without n es
]

-- a session of a sound table was taught no less than it acknowledged, and a number that was assigned
pub below_next : (n next : ℕ) (p : Progress) (es : List (ℕ × Progress)) → AllByRecursion (IsProgressBelow next) es → lookup (λ id. id == n) es ≡ Some p → (p.acknowledged ≤ p.taught) × (p.taught < next)
below_next n next p [] all at = absurd (some_none p (sym at))
below_next n next p (e ∷ es) (first, rest) at = elim (cases_Bool (nat_eq e.0 n)) [
  | inl own ↦
      let is : e.1 ≡ p = same_some e.1 p (sym (cond-true (nat_eq e.0 n) (Some e.1) (lookup (λ id. id == n) es) own) ∙ at) in
      subst (λ (q : Progress). (q.acknowledged ≤ q.taught) × (q.taught < next)) is first
  | inr other ↦ below_next n next p es rest (sym (cond-false (nat_eq e.0 n) (Some e.1) (lookup (λ id. id == n) es) other) ∙ at)
]
  where
    same_some : (a b : Progress) → ◌≡◌ {A = Option Progress} (Some a) (Some b) → a ≡ b
    same_some a b is = cc

-- and its bound is a number that was assigned
pub bound_next : (n next : ℕ) (p : Progress) (es : List (ℕ × Progress)) → AllByRecursion (IsBoundBelow next) es → lookup (λ id. id == n) es ≡ Some p → p.bound < next
bound_next n next p [] all at = absurd (some_none p (sym at))
bound_next n next p (e ∷ es) (first, rest) at = elim (cases_Bool (nat_eq e.0 n)) [
  | inl own ↦
      let is : e.1 ≡ p = same_some e.1 p (sym (cond-true (nat_eq e.0 n) (Some e.1) (lookup (λ id. id == n) es) own) ∙ at) in
      subst (λ (q : Progress). q.bound < next) is first
  | inr other ↦ bound_next n next p es rest (sym (cond-false (nat_eq e.0 n) (Some e.1) (lookup (λ id. id == n) es) other) ∙ at)
]
  where
    same_some : (a b : Progress) → ◌≡◌ {A = Option Progress} (Some a) (Some b) → a ≡ b
    same_some a b is = cc

pub same_progress : (a b : Progress) → ◌≡◌ {A = Option Progress} (Some a) (Some b) → a ≡ b
same_progress a b is = cc

-- ---- what was handed, as before

no_push : (n : ℕ) (event : CellEvent) → is_copy_of n event ≡ false → is_push_of n event ≡ false
no_push n (events.Copy id kinds.Push limit now) none = none
no_push n (events.Copy id kinds.Resync limit now) none = refl
no_push n (events.Copy id kinds.Standing limit now) none = refl
no_push n (events.Track seat key change now) none = refl
no_push n (events.Learn session u now) none = refl
no_push n (events.Ack session number) none = refl
no_push n (events.Open session version) none = refl
no_push n (events.Close session) none = refl
no_push n (events.Purge now) none = refl

pub handed_as_before : (n : ℕ) (us : List Update) (event : CellEvent) (reply : CellReply) → is_open_of n event ≡ false → is_copy_of n event ≡ false → handed_after n us (event, reply) ≡ us
handed_as_before n us event reply no_open no_copy =
    cond-false (is_open_of n event) [] (us ++ updates_in (batch_of n (event, reply))) no_open
    ∙ ap (λ o. us ++ updates_in o) (cond-false (is_copy_of n event) (batch_in reply) None no_copy)
    ∙ append-nil us

pub resyncs_as_before : (n : ℕ) (resyncs : Bool) (event : CellEvent) (reply : CellReply) → is_open_of n event ≡ false → is_copy_of n event ≡ false → resyncs_after n resyncs (event, reply) ≡ resyncs
resyncs_as_before n resyncs event reply no_open no_copy =
    ap (λ b. b || (resyncs && not (is_push_of n event))) no_open ∙ ap (λ b. resyncs && not b) (no_push n event no_copy) ∙ and_true resyncs
  where
    and_true : (b : Bool) → (b && true) ≡ b
    and_true true = refl
    and_true false = refl

-- ---- what was handed, after a copy for the session and after its opening

abbrev pub is_resync : CopyKind → Bool
is_resync kinds.Push = false
is_resync kinds.Resync = true
is_resync kinds.Standing = true

pub handed_copy : (n : ℕ) (us : List Update) (kind : CopyKind) (limit now : ℕ) (vs : List Update) → handed_after n us (events.Copy n kind limit now, replies.Copy vs) ≡ us ++ vs
handed_copy n us kind limit now vs = ap (λ o. us ++ updates_in o) (cond-true (nat_eq n n) (Some vs) None (eq-eqb n n refl))

pub resyncs_copy : (n : ℕ) (resyncs : Bool) (kind : CopyKind) (limit now : ℕ) (reply : CellReply) → resyncs_after n resyncs (events.Copy n kind limit now, reply) ≡ (resyncs && is_resync kind)
resyncs_copy n resyncs kinds.Push limit now reply = ap (λ b. resyncs && not b) (eq-eqb n n refl)
resyncs_copy n resyncs kinds.Resync limit now reply = refl
resyncs_copy n resyncs kinds.Standing limit now reply = refl

pub handed_open : (n : ℕ) (version : Version) (us : List Update) (reply : CellReply) → handed_after n us (events.Open n version, reply) ≡ []
handed_open n version us reply = cond-true (nat_eq n n) [] (us ++ []) (eq-eqb n n refl)

pub resyncs_open : (n : ℕ) (version : Version) (resyncs : Bool) (reply : CellReply) → resyncs_after n resyncs (events.Open n version, reply) ≡ true
resyncs_open n version resyncs reply = ap (λ b. b || (resyncs && true)) (eq-eqb n n refl)

-- ---- an event that isn't about the session

pub no_open : (n : ℕ) (event : CellEvent) → is_about n event ≡ false → is_open_of n event ≡ false
no_open n (events.Open session version) other = other
no_open n (events.Copy session kind limit now) other = refl
no_open n (events.Track seat key change now) other = refl
no_open n (events.Learn session u now) other = refl
no_open n (events.Ack session number) other = refl
no_open n (events.Close session) other = refl
no_open n (events.Purge now) other = refl

pub no_copy : (n : ℕ) (event : CellEvent) → is_about n event ≡ false → is_copy_of n event ≡ false
no_copy n (events.Copy session kind limit now) other = other
no_copy n (events.Open session version) other = refl
no_copy n (events.Track seat key change now) other = refl
no_copy n (events.Learn session u now) other = refl
no_copy n (events.Ack session number) other = refl
no_copy n (events.Close session) other = refl
no_copy n (events.Purge now) other = refl

pub same_progress_of : (n : ℕ) (s e : TableState) (event : CellEvent) (reply : CellReply) → is_about n event ≡ false → Step s event reply e → progress_of n e ≡ progress_of n s
same_progress_of n s e (events.Track seat key change now) reply other (granted, rest, leaves, answer, is) = ap (progress_of n) is
same_progress_of n s e (events.Learn session u now) reply other (granted, rest, leaves, answer, is) = ap (progress_of n) is
same_progress_of n s e (events.Copy session kind limit now) reply other (granted, answer, is) =
    ap (progress_of n) is ∙ other_with n session (λ (r : Progress). record r { taught = last_number r.taught (unacked s session kind now limit) }) s.sessions other
same_progress_of n s e (events.Ack session number) reply other (granted, answer, is) = ap (progress_of n) is ∙ other_with n session (acknowledging number) s.sessions other
same_progress_of n s e (events.Open session version) reply other (granted, answer, is) = ap (progress_of n) is ∙ other_end n session (no_progress version s.next) s.sessions other
same_progress_of n s e (events.Close session) reply other (granted, answer, is) = ap (progress_of n) is ∙ other_without n session s.sessions other
same_progress_of n s e (events.Purge now) reply other (granted, answer, is) = ap (progress_of n) is

-- an event that isn't about the session
pub others_stay : (c e : CellState) (event : CellEvent) (reply : CellReply) (session : ℕ) → is_about session event ≡ false → Made c event reply e
    → (progress_of session e.state ≡ progress_of session c.state) × (handed_since session e.history ≡ handed_since session c.history) × (resyncs_since session e.history ≡ resyncs_since session c.history)
others_stay c e event reply n other (step, is) = (
  same_progress_of n c.state e.state event reply other step,
  ap (λ (x : CellState). handed_since n x.history) is ∙ fold_push (handed_after n) [] c.history (event, reply) ∙ handed_as_before n (handed_since n c.history) event reply (no_open n event other) (no_copy n event other),
  ap (λ (x : CellState). resyncs_since n x.history) is ∙ fold_push (resyncs_after n) true c.history (event, reply) ∙ resyncs_as_before n (resyncs_since n c.history) event reply (no_open n event other) (no_copy n event other),
)
