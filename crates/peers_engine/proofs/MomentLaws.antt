-- A call at a table's latest moment, or at a later one, isn't refused for its moment.
use Rattle.std.proofs.Common.{◌≡◌, ◌<◌, ℕ, max, Bool, true, false, nat_lt, cond, Option, Some, None, Err, refl, sym, ap, ◌∙◌, arith, ltb-true, inl, inr}
use Rattle.std.specs.Prelude.{if◌then◌else◌, ◌==◌, length}
use Rattle.std.proofs.lemmas.Bool.{cases_Bool, cond-true, cond-false}
use Rattle.table_types.specs.declared.update.Update.{Update}
use Rattle.table_types.specs.declared.copies.CopyKind.{CopyKind}
use Rattle.table_cell.specs.declared.errors.CopyError.{CopyError}
use Rattle.table_cell.specs.declared.errors.CopyError.TheVariants as uncopied
use Rattle.table_cell.specs.declared.errors.LearnError.{LearnError}
use Rattle.table_cell.specs.declared.errors.LearnError.TheVariants as unlearned
use Rattle.table_cell.specs.declared.progress.Progress.{Progress}
use Rattle.table_cell.specs.Histories.{CellState, is_history_full}
use Rattle.table_cell.specs.Machine.{TableState, copy_refusal, is_out, learn_refusal, progress_of, unacked}
use Rattle.table_shards.specs.declared.errors.ShardError.TheVariants as errors
use Rattle.table_shards.specs.Receipts.{SeatState}
use Rattle.peers_engine.specs.Calls.{CallsCopyOn, CallsLearnOn, moment_at, most_copied}

not_before : (now latest : ℕ) → nat_lt (max now latest) latest ≡ false
not_before now latest = elim (cases_Bool (nat_lt (max now latest) latest)) [
  | inl earlier ↦ let before : max now latest < latest = ltb-true (max now latest) latest earlier in let never : ⊥ = omega (arith, before) in absurd never
  | inr later ↦ later
]

same_error : {E : Type 0} (p q : E) → ◌≡◌ {A = Option E} (Some p) (Some q) → p ≡ q
same_error p q is = cc

no_error : {E : Type 0} (q : E) → ◌≡◌ {A = Option E} None (Some q) → ⊥
no_error q is = cc

-- another error, or a later one
unless : {E : Type 0} (b : Bool) (x y : E) (rest : Option E) → (x ≡ y → ⊥) → (rest ≡ Some y → ⊥) → cond b (Some x) rest ≡ Some y → ⊥
unless b x y rest differs never is = elim (cases_Bool b) [
  | inl first ↦ differs (same_error x y (sym (cond-true b (Some x) rest first) ∙ is))
  | inr later ↦ never (sym (cond-false b (Some x) rest later) ∙ is)
]

past : {E : Type 0} (b : Bool) (x y : E) (rest : Option E) → b ≡ false → (rest ≡ Some y → ⊥) → cond b (Some x) rest ≡ Some y → ⊥
past b x y rest off never is = never (sym (cond-false b (Some x) rest off) ∙ is)

learn_not_back : (full : Bool) (s : TableState) (session : ℕ) (u : Update) (now : ℕ) → nat_lt now s.latest ≡ false → learn_refusal full s session u now ≡ Some unlearned.MomentBack → ⊥
learn_not_back full s session u now later is =
    unless _ unlearned.NoSession unlearned.MomentBack _ (λ e. cc)
    (unless _ unlearned.Misfit unlearned.MomentBack _ (λ e. cc)
    (past _ unlearned.MomentBack unlearned.MomentBack _ later
    (unless _ unlearned.HistoryFull unlearned.MomentBack _ (λ e. cc)
    (unless _ unlearned.Spent unlearned.MomentBack _ (λ e. cc)
    (unless _ unlearned.TableFull unlearned.MomentBack _ (λ e. cc)
    (λ (e : ◌≡◌ {A = Option LearnError} None (Some unlearned.MomentBack)). no_error unlearned.MomentBack e)))))) is

copy_not_back : (full : Bool) (s : TableState) (session : ℕ) (kind : CopyKind) (limit now : ℕ) → nat_lt now s.latest ≡ false → copy_refusal full s session kind limit now ≡ Some uncopied.MomentBack → ⊥
copy_not_back full s session kind limit now later refused = by (progress_of session s) refl
  where
    of_session : Option Progress → Option CopyError
    of_session None = Some uncopied.NoSession
    of_session (Some progress) =
        if nat_lt now s.latest then Some uncopied.MomentBack
        else (if is_out progress then Some uncopied.BatchOut
        else (if length (unacked s session kind now limit) == 0 then Some uncopied.Nothing
        else (if full then Some uncopied.HistoryFull
        else None)))

    none : ◌≡◌ {A = Option CopyError} (Some uncopied.NoSession) (Some uncopied.MomentBack) → ⊥
    none is = cc

    by : (o : Option Progress) → progress_of session s ≡ o → ⊥
    by None at = none (sym (ap of_session at) ∙ refused)
    by (Some progress) at =
        past (nat_lt now s.latest) uncopied.MomentBack uncopied.MomentBack _ later
        (unless _ uncopied.BatchOut uncopied.MomentBack _ (λ e. cc)
        (unless _ uncopied.Nothing uncopied.MomentBack _ (λ e. cc)
        (unless _ uncopied.HistoryFull uncopied.MomentBack _ (λ e. cc)
        (λ (e : ◌≡◌ {A = Option CopyError} None (Some uncopied.MomentBack)). no_error uncopied.MomentBack e))))
        (sym (ap of_session at) ∙ refused)

pub learn_never_back : (c : CellState) (n now : ℕ) (s t : SeatState) (u : Update) → CallsLearnOn c n (moment_at true now c) s u (Err (errors.Cell unlearned.MomentBack)) t → ⊥
learn_never_back c n now s t u (sound, e, (mid, (may, (refused, same), stays), left)) =
    learn_not_back (is_history_full c) c.state n u (moment_at true now c) (not_before now c.state.latest) refused

pub copy_never_back : (c : CellState) (n now : ℕ) (s t : SeatState) (table : ℕ) (kind : CopyKind) → CallsCopyOn c n (moment_at true now c) s table kind (Err (errors.Cell uncopied.MomentBack)) t → ⊥
copy_never_back c n now s t table kind (sound, e, (mid, (may, (refused, same), stays), left)) =
    copy_not_back (is_history_full c) c.state n kind most_copied (moment_at true now c) (not_before now c.state.latest) refused
