-- Endings after which the rows are printed.
use Rattle.std.proofs.Common.{◌≡◌, ◌≢◌, ◌⊎◌, ◌<◌, ℕ, List, Option, true, arith, inl, inr, length, refl, subst, sym, take}
use Rattle.std.proofs.Math.Seq.{take-length}
use Rattle.std.proofs.lemmas.Bool.{false≢true}
use Rattle.std.specs.Prelude.{Err, IfOk, Ok, Result}
use Rattle.std.specs.Io.KnownBytes.{Appends}
use Rattle.text_commands.specs.Endings.{IsEarly}
use Rattle.text_commands.specs.declared.endings.Ending.{Ending}
use Rattle.text_commands.specs.declared.endings.Ending.TheVariants as endings
use Rattle.node_commands.specs.Nodes.{AppendsSome, HasRows, has_rows, is_told}

-- not after a device failed
pub rows_no_device : (e : Ending) → HasRows e → e ≢ endings.Device
rows_no_device e rows is = subst HasRows is rows

-- and not after an early ending
early_no_rows : (e : Ending) → IsEarly e → HasRows e → ⊥
early_no_rows endings.Done early rows = early
early_no_rows (endings.Stream fault) early rows = early
early_no_rows endings.NotShortest early rows = early
early_no_rows endings.Strange early rows = early
early_no_rows endings.Unasked early rows = early
early_no_rows (endings.Line n) early rows = rows
early_no_rows endings.Scene early rows = rows
early_no_rows endings.Configuration early rows = early
early_no_rows endings.Memory early rows = rows
early_no_rows endings.Device early rows = rows

-- nor after the ending that replaces an early one, if its line can't be written
pub said_no_rows : (e after : Ending) → IsEarly e → (after ≡ e) ⊎ ((after ≡ endings.Memory) ⊎ (after ≡ endings.Device)) → HasRows after → ⊥
said_no_rows e after early (inl same) rows = early_no_rows e early (subst HasRows same rows)
said_no_rows e after early (inr (inl memory)) rows = subst HasRows memory rows
said_no_rows e after early (inr (inr device)) rows = subst HasRows device rows

-- the test agrees
pub rows_of : (e : Ending) → has_rows e ≡ true → HasRows e
rows_of endings.Done rows = tt
rows_of (endings.Stream fault) rows = tt
rows_of endings.Strange rows = tt
rows_of endings.Unasked rows = tt
rows_of endings.Device rows = absurd (false≢true rows)
rows_of endings.NotShortest rows = absurd (false≢true rows)
rows_of (endings.Line n) rows = absurd (false≢true rows)
rows_of endings.Scene rows = absurd (false≢true rows)
rows_of endings.Configuration rows = absurd (false≢true rows)
rows_of endings.Memory rows = absurd (false≢true rows)

-- and what is printed and said is of such an ending
told_rows : (e : Ending) → is_told e ≡ true → e ≢ endings.Device → has_rows e ≡ true
told_rows endings.Device told other = absurd (other refl)
told_rows endings.Done told other = told
told_rows (endings.Stream fault) told other = told
told_rows endings.Strange told other = told
told_rows endings.Unasked told other = told
told_rows endings.NotShortest told other = told
told_rows (endings.Line n) told other = told
told_rows endings.Scene told other = told
told_rows endings.Configuration told other = told
told_rows endings.Memory told other = told

pub rows_printed : (e after : Ending) → is_told e ≡ true → after ≡ e → after ≢ endings.Device → (HasRows after → ⊥) → ⊥
rows_printed e after told same other none =
    none (subst HasRows (sym same) (rows_of e (told_rows e told (subst (λ (x : Ending). x ≢ endings.Device) same other))))

-- ---- how much is written

pub whole : (old new : Option (List ℕ)) (text : List ℕ) → Appends old new text → AppendsSome old new text
whole old new text appended = (length text, omega arith, subst (λ (x : List ℕ). Appends old new x) (sym (take-length text)) appended)

pub some_of : (old new : Option (List ℕ)) (text : List ℕ) (sent : ℕ) → sent < length text → Appends old new (take sent text) → AppendsSome old new text
some_of old new text sent within appended = (sent, omega arith, appended)

-- what holds of a result, of its value
pub of_ok : {A E : Type 0} (P : A → Type 0) (r : Result A E) (x : A) → r ≡ Ok x → IfOk r P → P x
of_ok P r x is holds = subst (λ m. IfOk m P) is holds

-- what follows from what holds of a result
pub then_ok : {A E : Type 0} (P Q : A → Type 0) (r : Result A E) → ((x : A) → P x → Q x) → IfOk r P → IfOk r Q
then_ok P Q (Ok x) then holds = then x holds
then_ok P Q (Err e) then holds = tt

-- `Memory` and `Device` are early endings
pub early_of : (e : Ending) → (e ≡ endings.Memory) ⊎ (e ≡ endings.Device) → IsEarly e
early_of e (inl memory) = subst IsEarly (sym memory) tt
early_of e (inr device) = subst IsEarly (sym device) tt
