-- What parts of a table, and of its replies, stand for (profile).
use Rattle.std.specs.Prelude.{◌≡◌, ℕ, ◌+◌, ◌==◌, Bool, true, false, nat_le, List, [], ◌∷◌, Option, Some, None, option_map, if◌then◌else◌}
use Rattle.table_types.specs.declared.copies.CopyKind.{CopyKind}
use Rattle.table_types.specs.declared.copies.CopyKind.TheVariants as kinds
use Rattle.table_types.specs.Rows.{StoredRow}
use Rattle.table_cell.specs.declared.events.Reply.{Reply}
use Rattle.table_cell.specs.declared.progress.Progress.{Progress}
use Rattle.table_types.specs.declared.update.Update.{Update}
use Rattle.table_cell.specs.declared.errors.CopyError.{CopyError}
use Rattle.table_cell.specs.declared.errors.CopyError.TheVariants as uncopied
use Rattle.table_cell.specs.Machine.{TableState, copy_refusal, unacked}

-- the reply for a row
abbrev pub reply_of : StoredRow → Reply
reply_of row = record { number = row.number; row = row }

-- whether a row is in the reach of a copy of `kind` for a session with this bound
abbrev pub is_in_reach : CopyKind → ℕ → StoredRow → Bool
is_in_reach kinds.Push bound row = true
is_in_reach kinds.Resync bound row = true
is_in_reach kinds.Standing bound row = nat_le row.number bound

-- the copy isn't refused, and these are its updates
abbrev pub IsCopy : TableState → ℕ → CopyKind → ℕ → ℕ → List Update → Type 0
IsCopy s session kind limit now us = (copy_refusal false s session kind limit now ≡ None) × (us ≡ unacked s session kind now limit)

-- there is no copy: it is refused, or it isn't, and memory ran out
abbrev pub IsNotCopied : TableState → ℕ → CopyKind → ℕ → ℕ → CopyError → Type 0
IsNotCopied s session kind limit now uncopied.Memory = copy_refusal false s session kind limit now ≡ None
IsNotCopied s session kind limit now error = copy_refusal false s session kind limit now ≡ Some error

-- the index of a session among the sessions
abbrev pub index_of : ℕ → List (ℕ × Progress) → Option ℕ
index_of session [] = None
index_of session (e ∷ es) = if e.0 == session then Some 0 else option_map (λ index. index + 1) (index_of session es)
