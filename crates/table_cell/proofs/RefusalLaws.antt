-- Events that aren't refused, and errors that no refusal returns.
use Rattle.std.proofs.Common.{◌≡◌, ℕ, Bool, false, not, Option, Some, None, refl, sym, ap, subst, ◌∙◌, inl, inr}
use Rattle.std.specs.Prelude.{if◌then◌else◌, cond, nat_lt, nat_le, is_some, is_none, length}
use Rattle.std.proofs.lemmas.Bool.{cases_Bool, cond-true, cond-false}
use Rattle.table_types.specs.declared.key.Key.{Key}
use Rattle.table_types.specs.declared.update.Update.{Update}
use Rattle.table_types.specs.declared.change.Change.{Change}
use Rattle.table_types.specs.Keys.{key_fits}
use Rattle.table_types.specs.Changes.{change_fits}
use Rattle.table_cell.specs.declared.errors.AckError.{AckError}
use Rattle.table_cell.specs.declared.errors.AckError.TheVariants as unacknowledged
use Rattle.table_cell.specs.declared.errors.LearnError.{LearnError}
use Rattle.table_cell.specs.declared.errors.LearnError.TheVariants as unlearned
use Rattle.table_cell.specs.declared.progress.Progress.{Progress}
use Rattle.table_cell.specs.Machine.{TableState, is_of_table, track_refusal, learn_refusal, ack_refusal, open_refusal, close_refusal, purge_refusal, progress_of}
use Rattle.table_stock.proofs.RowsLaws.{some_none}
use Rattle.table_cell.proofs.StepLaws.{passes}

pub close_granted : (full : Bool) (s : TableState) (session : ℕ) → close_refusal full s session ≡ None → (full ≡ false) × (close_refusal false s session ≡ None)
close_granted full s session granted =
    let o = passes (is_none (progress_of session s)) _ _ granted in
    let f = passes full _ _ o.1 in
    (f.0, subst (λ b. close_refusal b s session ≡ None) f.0 granted)

pub open_granted : (full : Bool) (s : TableState) (session : ℕ) → open_refusal full s session ≡ None → (full ≡ false) × (open_refusal false s session ≡ None)
open_granted full s session granted =
    let o = passes (is_some (progress_of session s)) _ _ granted in
    let a = passes (nat_le 16 (length s.sessions)) _ _ o.1 in
    let f = passes full _ _ a.1 in
    (f.0, subst (λ b. open_refusal b s session ≡ None) f.0 granted)

pub purge_granted : (full : Bool) (s : TableState) (now : ℕ) → purge_refusal full s now ≡ None → (full ≡ false) × (purge_refusal false s now ≡ None)
purge_granted full s now granted =
    let o = passes (nat_lt now s.latest) _ _ granted in
    let f = passes full _ _ o.1 in
    (f.0, subst (λ b. purge_refusal b s now ≡ None) f.0 granted)

pub track_free : (full : Bool) (s : TableState) (key : Key) (change : Change) (now : ℕ) → track_refusal full s key change now ≡ None → (full ≡ false) × (track_refusal false s key change now ≡ None)
track_free full s key change now granted =
    let a = passes (not (key_fits s.definition.kind s.definition.key_length key)) _ _ granted in
    let b = passes (not (change_fits s.definition change)) _ _ a.1 in
    let c = passes (nat_lt now s.latest) _ _ b.1 in
    let f = passes full _ _ c.1 in
    (f.0, subst (λ x. track_refusal x s key change now ≡ None) f.0 granted)

pub learn_free : (full : Bool) (s : TableState) (session : ℕ) (u : Update) (now : ℕ) → learn_refusal full s session u now ≡ None → (full ≡ false) × (learn_refusal false s session u now ≡ None)
learn_free full s session u now granted =
    let a = passes (is_none (progress_of session s)) _ _ granted in
    let b = passes (not (is_of_table s.definition u)) _ _ a.1 in
    let c = passes (nat_lt now s.latest) _ _ b.1 in
    let f = passes full _ _ c.1 in
    (f.0, subst (λ x. learn_refusal x s session u now ≡ None) f.0 granted)

pub ack_free : (full : Bool) (s : TableState) (session number : ℕ) → ack_refusal full s session number ≡ None → (full ≡ false) × (ack_refusal false s session number ≡ None)
ack_free full s session number granted =
    let free = by (progress_of session s) refl in
    (free, subst (λ b. ack_refusal b s session number ≡ None) free granted)
  where
    of_session : Option Progress → Option AckError
    of_session None = Some unacknowledged.NoSession
    of_session (Some progress) =
        if nat_lt progress.taught number then Some unacknowledged.AckAhead
        else (if full then Some unacknowledged.HistoryFull
        else None)

    by : (o : Option Progress) → progress_of session s ≡ o → full ≡ false
    by None at = absurd (some_none unacknowledged.NoSession (sym (ap of_session at) ∙ granted))
    by (Some progress) at =
        let c = passes (nat_lt progress.taught number) unacknowledged.AckAhead _ (sym (ap of_session at) ∙ granted) in
        (passes full unacknowledged.HistoryFull _ c.1).0

-- ---- running out of memory is no refusal

same_error : {E : Type 0} (p q : E) → ◌≡◌ {A = Option E} (Some p) (Some q) → p ≡ q
same_error p q is = cc

unless : {E : Type 0} (b : Bool) (x y : E) (rest : Option E) → (x ≡ y → ⊥) → (rest ≡ Some y → ⊥) → cond b (Some x) rest ≡ Some y → ⊥
unless b x y rest differs never at = elim (cases_Bool b) [
  | inl first ↦ differs (same_error x y (sym (cond-true b (Some x) rest first) ∙ at))
  | inr later ↦ never (sym (cond-false b (Some x) rest later) ∙ at)
]

pub memory_is_no_learn_refusal : (full : Bool) (s : TableState) (session : ℕ) (u : Update) (now : ℕ) → learn_refusal full s session u now ≡ Some unlearned.Memory → ⊥
memory_is_no_learn_refusal full s session u now is =
    unless _ unlearned.NoSession unlearned.Memory _ (λ e. cc)
    (unless _ unlearned.Misfit unlearned.Memory _ (λ e. cc)
    (unless _ unlearned.MomentBack unlearned.Memory _ (λ e. cc)
    (unless _ unlearned.HistoryFull unlearned.Memory _ (λ e. cc)
    (unless _ unlearned.Spent unlearned.Memory _ (λ e. cc)
    (unless _ unlearned.TableFull unlearned.Memory _ (λ e. cc)
    (λ (e : ◌≡◌ {A = Option LearnError} None (Some unlearned.Memory)). some_none unlearned.Memory (sym e))))))) is
