-- What a copy returns, and the state that it leaves.
use Rattle.std.proofs.Common.{◌≡◌, ℕ, zero, suc, Bool, true, false, List, [], ◌∷◌, length, Option, Some, None, refl, sym, ap, ◌∙◌, true≢false}
use Rattle.std.specs.Prelude.{filter, is_some, map, option_map, slice_get, take, nat_eq, nat_lt, if◌then◌else◌, ◌==◌}
use Rattle.table_types.specs.declared.key.Key.{Key}
use Rattle.table_types.specs.Rows.{StoredRow}
use Rattle.table_cell.specs.Copying.{update_of}
use Rattle.std.proofs.lemmas.Bool.{cond-true, cond-false}
use Rattle.table_types.specs.declared.update.Update.{Update}
use Rattle.table_types.specs.declared.copies.CopyKind.{CopyKind}
use Rattle.table_cell.specs.declared.errors.CopyError.{CopyError}
use Rattle.table_cell.specs.declared.errors.CopyError.TheVariants as uncopied
use Rattle.table_cell.specs.declared.progress.Progress.{Progress}
use Rattle.table_cell.specs.Machine.{TableState, acknowledged_by, bound_by, in_reach, is_unacked, copied, copy_refusal, is_out, last_number, progress_of, teaching, unacked, with_progress, version_by}
use Rattle.table_stock.proofs.RowsLaws.{some_none}

with_same : (session : ℕ) (f g : Progress → Progress) (es : List (ℕ × Progress)) → ((p : Progress) → f p ≡ g p) → with_progress session f es ≡ with_progress session g es
with_same session f g [] same = refl
with_same session f g (e ∷ es) same =
    ap (λ (p : Progress). if e.0 == session then (e.0, p) ∷ es else e ∷ with_progress session f es) (same e.1)
    ∙ ap (λ (l : List (ℕ × Progress)). if e.0 == session then (e.0, g e.1) ∷ es else e ∷ l) (with_same session f g es same)

last_of_some : (a b : ℕ) (us : List Update) → nat_eq (length us) 0 ≡ false → last_number a us ≡ last_number b us
last_of_some a b [] some = absurd (true≢false some)
last_of_some a b (u ∷ us) some = refl

-- a batch that isn't empty teaches its last number, whatever was taught before
pub teaches_last : (s : TableState) (session now : ℕ) (us : List Update) → nat_eq (length us) 0 ≡ false
    → record s { sessions = with_progress session (teaching (last_number 0 us)) s.sessions; latest = now } ≡ copied s session us now
teaches_last s session now us some =
    ap (λ (l : List (ℕ × Progress)). record s { sessions = l; latest = now })
    (with_same session (teaching (last_number 0 us)) (λ (p : Progress). record p { taught = last_number p.taught us }) s.sessions
    (λ p. ap (λ (n : ℕ). record p { taught = n }) (last_of_some 0 p.taught us some)))

empty_list : {A : Type 0} (xs : List A) → slice_get xs 0 ≡ None → xs ≡ []
empty_list [] none = refl
empty_list (x ∷ xs) none = absurd (some_none x none)

take_none : {A : Type 0} (n : ℕ) → ◌≡◌ {A = List A} (take n []) []
take_none zero = refl
take_none (suc n) = refl

pub none_mapped : {A B : Type 0} (f : A → B) (o : Option A) → is_some o ≡ false → option_map f o ≡ None
none_mapped f None none = refl
none_mapped f (Some a) none = absurd (true≢false none)

-- nothing is copied
pub nothing_unacked : (s : TableState) (session : ℕ) (kind : CopyKind) (now limit : ℕ) (progress : Progress) → progress_of session s ≡ Some progress
    → slice_get (filter (is_unacked kind progress.acknowledged now) (in_reach kind progress.bound s.rows)) 0 ≡ None → nat_eq (length (unacked s session kind now limit)) 0 ≡ true
nothing_unacked s session kind now limit progress at none =
    let number : acknowledged_by (progress_of session s) ≡ progress.acknowledged = ap acknowledged_by at in
    let bound : bound_by (progress_of session s) ≡ progress.bound = ap bound_by at in
    let empty : filter (is_unacked kind (acknowledged_by (progress_of session s)) now) (in_reach kind (bound_by (progress_of session s)) s.rows) ≡ [] =
    ap (λ (n : ℕ). filter (is_unacked kind n now) (in_reach kind (bound_by (progress_of session s)) s.rows)) number
    ∙ ap (λ (n : ℕ). filter (is_unacked kind progress.acknowledged now) (in_reach kind n s.rows)) bound
    ∙ empty_list (filter (is_unacked kind progress.acknowledged now) (in_reach kind progress.bound s.rows)) none in
    ap (λ (l : List (Key × StoredRow)). nat_eq (length (take limit (map (update_of (version_by (progress_of session s)) s.definition now) l))) 0) empty ∙ ap (λ (l : List Update). nat_eq (length l) 0) (take_none limit)

pub nothing_refused : (full : Bool) (s : TableState) (session : ℕ) (kind : CopyKind) (limit now : ℕ) (progress : Progress) → progress_of session s ≡ Some progress
    → nat_lt now s.latest ≡ false → is_out progress ≡ false → nat_eq (length (unacked s session kind now limit)) 0 ≡ true → copy_refusal full s session kind limit now ≡ Some uncopied.Nothing
nothing_refused full s session kind limit now progress at later none_out nothing =
    ap of_session at
    ∙ cond-false (nat_lt now s.latest) (Some uncopied.MomentBack) _ later
    ∙ cond-false (is_out progress) (Some uncopied.BatchOut) _ none_out
    ∙ cond-true (nat_eq (length (unacked s session kind now limit)) 0) (Some uncopied.Nothing) _ nothing
  where
    of_session : Option Progress → Option CopyError
    of_session None = Some uncopied.NoSession
    of_session (Some progress) =
        if nat_lt now s.latest then Some uncopied.MomentBack
        else (if is_out progress then Some uncopied.BatchOut
        else (if length (unacked s session kind now limit) == 0 then Some uncopied.Nothing
        else (if full then Some uncopied.HistoryFull
        else None)))

-- ---- what is copied

pub unacked_is : (s : TableState) (session : ℕ) (kind : CopyKind) (now limit : ℕ) (progress : Progress) (us : List Update) → progress_of session s ≡ Some progress
    → us ≡ take limit (map (update_of progress.version s.definition now) (filter (is_unacked kind progress.acknowledged now) (in_reach kind progress.bound s.rows))) → us ≡ unacked s session kind now limit
unacked_is s session kind now limit progress us at is =
    is ∙ ap (λ (o : Option Progress). take limit (map (update_of (version_by o) s.definition now) (filter (is_unacked kind (acknowledged_by o) now) (in_reach kind (bound_by o) s.rows)))) (sym at)

-- ---- what is taught

pub taught_is : (s e : TableState) (session now last : ℕ) (us : List Update) → e ≡ record s { sessions = with_progress session (teaching last) s.sessions; latest = now } → last ≡ last_number 0 us
    → nat_eq (length us) 0 ≡ false → e ≡ copied s session us now
taught_is s e session now last us taught same some =
    taught ∙ ap (λ (n : ℕ). record s { sessions = with_progress session (teaching n) s.sessions; latest = now }) same ∙ teaches_last s session now us some
