-- A table stays sound, and a run continues.
use Rattle.std.proofs.Common.{◌≡◌, ℕ, zero, suc, ◌+◌, ◌-◌, ◌^◌, ◌<◌, ◌≤◌, Bool, true, false, not, ◌&&◌, ◌||◌, List, [], ◌∷◌, ◌++◌, length, Option, Some, None, refl, sym, ap, subst, ◌∙◌, arith, inl, inr, true≢false}
use Rattle.std.specs.Prelude.{filter, map, take, nat_lt, nat_le, nat_eq, cond, is_some, is_none, MatchBool, option_and_then, ◌==◌, if◌then◌else◌}
use Rattle.std.specs.List.{AllByRecursion}
use Rattle.std.specs.Map.{lookup}
use Rattle.std.proofs.lemmas.Bool.{cases_Bool, cond-true, cond-false, cond_both, ltb-true, ltb-false, leb-false, and_parts}
use Rattle.table_types.specs.declared.key.Key.{Key}
use Rattle.table_types.specs.declared.update.Update.{Update}
use Rattle.table_types.specs.declared.version.Version.{Version}
use Rattle.table_types.specs.declared.change.Change.{Change}
use Rattle.table_types.specs.declared.change.Change.TheVariants as changes
use Rattle.table_types.specs.Keys.{key_fits}
use Rattle.table_types.specs.Tables.{Definition, is_definition}
use Rattle.table_types.specs.Updates.{row_fits, values_fit, may_be_named, stores_name}
use Rattle.table_types.specs.Rows.{StoredRow}
use Rattle.table_types.specs.Changes.{change_fits, changed_name, name_before, cells_before, cell_types}
use Rattle.table_rows.specs.Rows.{row_at, is_live, IsFirstToEnd}
use Rattle.table_types.specs.declared.copies.CopyKind.{CopyKind}
use Rattle.table_cell.specs.declared.events.CellEvent.{CellEvent}
use Rattle.table_cell.specs.declared.events.CellEvent.TheVariants as events
use Rattle.table_cell.specs.declared.events.CellReply.{CellReply}
use Rattle.table_cell.specs.declared.progress.Progress.{Progress}
use Rattle.table_cell.specs.declared.errors.CopyError.{CopyError}
use Rattle.table_cell.specs.declared.errors.CopyError.TheVariants as uncopied
use Rattle.table_cell.specs.declared.errors.AckError.{AckError}
use Rattle.table_cell.specs.declared.errors.AckError.TheVariants as unacknowledged
use Rattle.std.specs.Ordering.{is_eq}
use Rattle.std.proofs.lemmas.List.{length-append}
use Rattle.table_types.specs.Keys.{key_cmp}
use Rattle.table_cell.specs.Copying.{update_of}
use Rattle.table_cell.specs.Machine.{TableState, Step, without, has_row, has_room, Leaves, stored, tracked, learned, if_live, live_row, progress_of, with_progress, no_progress, bound_by, in_reach, is_unacked, is_copied, acknowledged_by, unacked, last_number, copied, acknowledging, is_of_table, copy_refusal, ack_refusal, is_out, Replays, new_table, version_by}
use Rattle.table_cell.specs.Soundness.{CellsFit, EntryFits, NumbersRise, KeysDiffer, IsBoundBelow, IsProgressBelow, IsTimely, AreTimely, IsSound}
use Rattle.table_stock.proofs.RowsLaws.{some_none, not_false, all_filter, all_end, all_so, filter_shorter, rise_filter, rise_end, rise_bound, without_none, differ_filter, differ_end, without_shorter}
use Rattle.table_cell.proofs.ReachLaws.{reach_rise}
use Rattle.table_cell.proofs.SessionLaws.{sessions_differ_with, sessions_differ_filter, sessions_differ_end}
use Rattle.table_cell.proofs.CellLaws.{cells_later, end_later, changed_cells_fit, begun_cells_fit, learned_cells_fit, end_of_fits}

-- ---- refusals

-- if a chain of refusals refuses nothing, its first test fails and the rest refuses nothing
pub passes : {E : Type 0} (b : Bool) (x : E) (rest : Option E) → cond b (Some x) rest ≡ None → (b ≡ false) × (rest ≡ None)
passes true x rest none = absurd (some_none x none)
passes false x rest none = (refl, none)

is_absent : {A : Type 0} (o : Option A) → is_some o ≡ false → o ≡ None
is_absent None no_one = refl
is_absent (Some x) no_one = absurd (true≢false no_one)

-- ---- rows that remain

entry_later : (d : Definition) (latest now : ℕ) → latest ≤ now → (e : Key × StoredRow) → EntryFits d latest e → EntryFits d now e
entry_later d latest now later e (key, values, name, end) = (key, cells_later latest now (cell_types d.types) e.1.cells later values, name, end_later latest now d.expire e.1.ends later end)

-- the rows that remain when a row of the key is to be stored, which leave room for it
pub record IsLeft (s : TableState) (key : Key) (rest : List (Key × StoredRow)) : Type 0 where
  pub numbers : NumbersRise 1 s.next rest
  pub keys : KeysDiffer rest
  pub entries : AllByRecursion (EntryFits s.definition s.latest) rest
  pub room : length (without key rest) + 1 ≤ s.size

one_left : (s : TableState) (key : Key) → IsSound s → has_room s key ≡ true → length (without key s.rows) + 1 ≤ s.size
one_left s key sound room = found (row_at key s.rows) refl
  where
    found : (o : Option StoredRow) → row_at key s.rows ≡ o → length (without key s.rows) + 1 ≤ s.size
    found (Some row) at =
        let less = without_shorter key row s.rows at in
        let within = sound.within in
        omega arith
    found None at =
        let none : has_row key s ≡ false = ap is_some at in
        let more : nat_lt (length s.rows) s.size ≡ true = sym (ap (λ b. b || nat_lt (length s.rows) s.size) none) ∙ room in
        let below = ltb-true (length s.rows) s.size more in
        let shorter = filter_shorter (λ (e : Key × StoredRow). not (is_eq (key_cmp key e.0))) s.rows in
        omega arith

first_left : (s : TableState) (key first : Key) → IsSound s → IsFirstToEnd s.rows first → length (without key (without first s.rows)) + 1 ≤ s.size
first_left s key first sound (row, at, least) =
    let less = without_shorter first row s.rows at in
    let shorter = filter_shorter (λ (e : Key × StoredRow). not (is_eq (key_cmp key e.0))) (without first s.rows) in
    let within = sound.within in
    omega arith

pub left_sound : (s : TableState) (key : Key) (rest : List (Key × StoredRow)) → IsSound s → Leaves s key rest → IsLeft s key rest
left_sound s key rest sound leaves = elim (cases_Bool (has_room s key)) [
  | inl room ↦
      let same : rest ≡ s.rows = subst (λ b. MatchBool b (rest ≡ s.rows) ((first : Key) × IsFirstToEnd s.rows first × (rest ≡ without first s.rows))) room leaves in
      subst (IsLeft s key) (sym same) (record { numbers = sound.numbers; keys = sound.keys; entries = sound.entries; room = one_left s key sound room })
  | inr no_room ↦
      let found : (first : Key) × IsFirstToEnd s.rows first × (rest ≡ without first s.rows) = subst (λ b. MatchBool b (rest ≡ s.rows) ((first : Key) × IsFirstToEnd s.rows first × (rest ≡ without first s.rows))) no_room leaves in
      let stays = λ (e : Key × StoredRow). not (is_eq (key_cmp found.0 e.0)) in
      subst (IsLeft s key) (sym found.2) (record {
        numbers = rise_filter stays 1 s.next s.rows sound.numbers;
        keys = differ_filter stays s.rows sound.keys;
        entries = all_filter (EntryFits s.definition s.latest) stays s.rows sound.entries;
        room = first_left s key found.0 sound found.1;
      })
]

progress_later : (next : ℕ) (entry : ℕ × Progress) → IsProgressBelow next entry → IsProgressBelow (next + 1) entry
progress_later next entry (order, below) = (order, omega arith)

bound_later : (next : ℕ) (entry : ℕ × Progress) → IsBoundBelow next entry → IsBoundBelow (next + 1) entry
bound_later next entry below = let under : entry.1.bound < next = below in omega arith

stored_sound : (s : TableState) (key : Key) (row : StoredRow) (now : ℕ) (rest : List (Key × StoredRow)) → IsSound s → Leaves s key rest
    → EntryFits s.definition now (key, row) → row.number ≡ s.next → s.latest ≤ now → now < 2 ^ 63 → s.next < 2 ^ 32 → IsSound (stored s key row now rest)
stored_sound s key row now rest sound leaves fits number later timely unspent =
    let left = left_sound s key rest sound leaves in
    let stays = λ (e : Key × StoredRow). not (is_eq (key_cmp key e.0)) in
    let entries = all_so (EntryFits s.definition s.latest) (EntryFits s.definition now) (entry_later s.definition s.latest now later) (without key rest) (all_filter (EntryFits s.definition s.latest) stays rest left.entries) in
    let room = left.room in
    let sizes : length (without key rest ++ (key, row) ∷ []) ≡ length (without key rest) + 1 = length-append (without key rest) ((key, row) ∷ []) in
    record {
      definition = sound.definition;
      some = sound.some;
      numbers = rise_end 1 s.next (without key rest) key row number (rise_filter stays 1 s.next rest left.numbers);
      keys = differ_end key row (without key rest) (differ_filter stays rest left.keys) (without_none key rest);
      entries = all_end (EntryFits s.definition now) (key, row) (without key rest) entries fits;
      within = omega arith;
      last = omega arith;
      least = let bound = sound.least in omega arith;
      most = timely;
      progress = all_so (IsProgressBelow s.next) (IsProgressBelow (s.next + 1)) (progress_later s.next) s.sessions sound.progress;
      bounds = all_so (IsBoundBelow s.next) (IsBoundBelow (s.next + 1)) (bound_later s.next) s.sessions sound.bounds;
      sessions = sound.sessions;
      few = sound.few;
    }

-- ---- the row that is stored

-- the row that a table has at a key is one of its entries
entry_at : (d : Definition) (latest : ℕ) (key : Key) (row : StoredRow) (es : List (Key × StoredRow)) → AllByRecursion (EntryFits d latest) es → row_at key es ≡ Some row
    → CellsFit latest (cell_types d.types) row.cells × (may_be_named d row.name ≡ true)
entry_at d latest key row [] entries at = absurd (some_none row (sym at))
entry_at d latest key row (e ∷ es) (first, rest) at = elim (cases_Bool (is_eq (key_cmp key e.0))) [
  | inl tied ↦
      let same : Some e.1 ≡ Some row = sym (cond-true (is_eq (key_cmp key e.0)) (Some e.1) (row_at key es) tied) ∙ at in
      let is : e.1 ≡ row = cc in
      subst (λ (r : StoredRow). CellsFit latest (cell_types d.types) r.cells × (may_be_named d r.name ≡ true)) is (first.1, first.2)
  | inr other ↦ entry_at d latest key row es rest (sym (cond-false (is_eq (key_cmp key e.0)) (Some e.1) (row_at key es) other) ∙ at)
]

live_fits : (s : TableState) (key : Key) (now : ℕ) → IsSound s → s.latest ≤ now →
    CellsFit now (cell_types s.definition.types) (cells_before now s.definition (live_row key now s)) × (may_be_named s.definition (name_before (live_row key now s)) ≡ true)
live_fits s key now sound later = found (row_at key s.rows) refl
  where
    Fits : Option StoredRow → Type 0
    Fits live = CellsFit now (cell_types s.definition.types) (cells_before now s.definition live) × (may_be_named s.definition (name_before live) ≡ true)

    begun : Fits None
    begun = (begun_cells_fit now s.definition.types, refl)

    found : (o : Option StoredRow) → row_at key s.rows ≡ o → Fits (option_and_then (if_live now) (row_at key s.rows))
    found None at = subst (λ (o : Option StoredRow). Fits (option_and_then (if_live now) o)) (sym at) begun
    found (Some row) at =
        let fits = entry_at s.definition s.latest key row s.rows sound.entries at in
        let here : Fits (if_live now row) = cond_both (is_live now row) (Some row) None Fits (λ _. (cells_later s.latest now (cell_types s.definition.types) row.cells later fits.0, fits.1)) (λ _. begun) in
        subst (λ (o : Option StoredRow). Fits (option_and_then (if_live now) o)) (sym at) here

name_fits : (d : Definition) (change : Change) (before : Option (List ℕ)) → change_fits d change ≡ true → may_be_named d before ≡ true → may_be_named d (changed_name change before) ≡ true
name_fits d (changes.Add t n) before fits named = named
name_fits d (changes.Take t n) before fits named = named
name_fits d (changes.Put t n) before fits named = named
name_fits d (changes.AddRate t n) before fits named = named
name_fits d (changes.SetName name) before fits named = (and_parts (stores_name d) (may_be_named d name) fits).1

tracked_fits : (s : TableState) (key : Key) (change : Change) (now : ℕ) → IsSound s → s.latest ≤ now → key_fits s.definition.kind s.definition.key_length key ≡ true → change_fits s.definition change ≡ true
    → EntryFits s.definition now (key, tracked s key change now)
tracked_fits s key change now sound later own fits =
    let before = live_fits s key now sound later in (
      own,
      changed_cells_fit now change s.definition.types (cells_before now s.definition (live_row key now s)) before.0,
      name_fits s.definition change (name_before (live_row key now s)) fits before.1,
      end_of_fits now s.definition.expire None,
    )

learned_fits : (s : TableState) (u : Update) (now : ℕ) → is_of_table s.definition u ≡ true → EntryFits s.definition now (u.key, learned s u now)
learned_fits s u now own =
    let both = and_parts (nat_eq u.table s.definition.id && row_fits s.definition u.key u.values) (may_be_named s.definition u.name) own in
    let first = and_parts (nat_eq u.table s.definition.id) (row_fits s.definition u.key u.values) both.0 in
    let row = and_parts (key_fits s.definition.kind s.definition.key_length u.key) (values_fit s.definition.types u.values) first.1 in
    (row.0, learned_cells_fit now s.definition.types u.values row.1, both.1, end_of_fits now s.definition.expire u.life)

-- ---- sessions

-- changing a session's progress keeps the sessions sound if the new progress is
pub progress_below : (next session : ℕ) (f : Progress → Progress) (sessions : List (ℕ × Progress)) (progress : Progress) → AllByRecursion (IsProgressBelow next) sessions
    → lookup (λ id. id == session) sessions ≡ Some progress → ((progress.acknowledged ≤ progress.taught) → (progress.taught < next) → IsProgressBelow next (session, f progress)) → AllByRecursion (IsProgressBelow next) (with_progress session f sessions)
progress_below next session f [] progress all at so = absurd (some_none progress (sym at))
progress_below next session f (e ∷ es) progress (first, rest) at so = elim (cases_Bool (nat_eq e.0 session)) [
  | inl tied ↦
      let same : Some e.1 ≡ Some progress = sym (cond-true (nat_eq e.0 session) (Some e.1) (lookup (λ id. id == session) es) tied) ∙ at in
      let is : e.1 ≡ progress = cc in
      let here : IsProgressBelow next (session, f e.1) = subst (λ (m : Progress). ((m.acknowledged ≤ m.taught) → (m.taught < next) → IsProgressBelow next (session, f m))) (sym is) so first.0 first.1 in
      subst (AllByRecursion (IsProgressBelow next)) (sym (cond-true (nat_eq e.0 session) ((e.0, f e.1) ∷ es) (e ∷ with_progress session f es) tied)) (here, rest)
  | inr other ↦
      subst (AllByRecursion (IsProgressBelow next)) (sym (cond-false (nat_eq e.0 session) ((e.0, f e.1) ∷ es) (e ∷ with_progress session f es) other))
      (first, progress_below next session f es progress rest (sym (cond-false (nat_eq e.0 session) (Some e.1) (lookup (λ id. id == session) es) other) ∙ at) so)
]

-- changing a session's progress but for its bound
bounds_with : (next session : ℕ) (f : Progress → Progress) (sessions : List (ℕ × Progress)) → ((p : Progress) → (f p).bound ≡ p.bound) → AllByRecursion (IsBoundBelow next) sessions → AllByRecursion (IsBoundBelow next) (with_progress session f sessions)
bounds_with next session f [] same all = tt
bounds_with next session f (e ∷ es) same (first, rest) =
    cond_both (nat_eq e.0 session) ((e.0, f e.1) ∷ es) (e ∷ with_progress session f es) (AllByRecursion (IsBoundBelow next))
    (λ _. (subst (λ (n : ℕ). n < next) (sym (same e.1)) first, rest))
    (λ _. (first, bounds_with next session f es same rest))

pub acknowledging_bound : (number : ℕ) (p : Progress) → (acknowledging number p).bound ≡ p.bound
acknowledging_bound number p = cond_both (nat_le number p.acknowledged) p (record p { acknowledged = number }) (λ (q : Progress). q.bound ≡ p.bound) (λ _. refl) (λ _. refl)

pub length-with_progress : (session : ℕ) (f : Progress → Progress) (sessions : List (ℕ × Progress)) → length (with_progress session f sessions) ≡ length sessions
length-with_progress session f [] = refl
length-with_progress session f (e ∷ es) = cond_both (nat_eq e.0 session) ((e.0, f e.1) ∷ es) (e ∷ with_progress session f es) (λ (l : List (ℕ × Progress)). length l ≡ suc (length es)) (λ _. refl) (λ _. ap suc (length-with_progress session f es))

-- ---- copies

abbrev pub IsBetween : ℕ → ℕ → Update → Type 0
IsBetween low next u = (low < u.number) × (u.number < next)

between_unacked : (version : Version) (d : Definition) (kind : CopyKind) (low now a next : ℕ) (es : List (Key × StoredRow)) → NumbersRise a next es → AllByRecursion (IsBetween low next) (map (update_of version d now) (filter (is_unacked kind low now) es))
between_unacked version d kind low now a next [] rise = tt
between_unacked version d kind low now a next (e ∷ es) (first, rise) =
    let rest = between_unacked version d kind low now (e.1.number + 1) next es rise in
    let bound = rise_bound (e.1.number + 1) next es rise in
    cond_both (is_unacked kind low now e) (e ∷ filter (is_unacked kind low now) es) (filter (is_unacked kind low now) es) (λ (l : List (Key × StoredRow)). AllByRecursion (IsBetween low next) (map (update_of version d now) l))
    (λ due.
    let parts = and_parts (nat_lt low e.1.number && is_copied kind e.1) (is_live now e.1) due in
    let above = ltb-true low e.1.number ((and_parts (nat_lt low e.1.number) (is_copied kind e.1) parts.0).0) in
    ((above, omega arith), rest))
    (λ _. rest)

pub all_take : {A : Type 0} (P : A → Type 0) (n : ℕ) (xs : List A) → AllByRecursion P xs → AllByRecursion P (take n xs)
all_take P zero xs all = tt
all_take P (suc n) [] all = tt
all_take P (suc n) (x ∷ xs) (first, rest) = (first, all_take P n xs rest)

last_between : (low next least : ℕ) (us : List Update) → AllByRecursion (IsBetween low next) us → (low < least) → (least < next) → (low < last_number least us) × (last_number least us < next)
last_between low next least [] all above below = (above, below)
last_between low next least (u ∷ us) (first, rest) above below = last_between low next u.number us rest first.0 first.1

pub last_of_some : (low next least : ℕ) (us : List Update) → AllByRecursion (IsBetween low next) us → nat_eq (length us) 0 ≡ false → (low < last_number least us) × (last_number least us < next)
last_of_some low next least [] all some = absurd (true≢false some)
last_of_some low next least (u ∷ us) (first, rest) some = last_between low next u.number us rest first.0 first.1

-- ---- steps

pub later_sound : (s : TableState) (now : ℕ) → IsSound s → s.latest ≤ now → AllByRecursion (EntryFits s.definition now) s.rows
later_sound s now sound later = all_so (EntryFits s.definition s.latest) (EntryFits s.definition now) (entry_later s.definition s.latest now later) s.rows sound.entries

-- the updates of a copy are above the number acknowledged, and have numbers that were assigned
pub copied_between : (s : TableState) (session : ℕ) (kind : CopyKind) (limit now : ℕ) → IsSound s → AllByRecursion (IsBetween (acknowledged_by (progress_of session s)) s.next) (unacked s session kind now limit)
copied_between s session kind limit now sound =
    let low = acknowledged_by (progress_of session s) in
    let bound = bound_by (progress_of session s) in
    let reach = in_reach kind bound s.rows in
    let due = between_unacked (version_by (progress_of session s)) s.definition kind low now 1 s.next reach (reach_rise kind bound 1 s.next s.rows sound.numbers) in
    all_take (IsBetween low s.next) limit (map (update_of (version_by (progress_of session s)) s.definition now) (filter (is_unacked kind low now) reach)) due

taught_below : (s : TableState) (session : ℕ) (kind : CopyKind) (limit now : ℕ) (progress : Progress) → progress_of session s ≡ Some progress → IsSound s → nat_eq (length (unacked s session kind now limit)) 0 ≡ false
    → AllByRecursion (IsProgressBelow s.next) (copied s session (unacked s session kind now limit) now).sessions
taught_below s session kind limit now progress at sound some =
    let us = unacked s session kind now limit in
    let low = acknowledged_by (progress_of session s) in
    let all = copied_between s session kind limit now sound in
    let is : low ≡ progress.acknowledged = ap acknowledged_by at in
    let last = last_of_some low s.next progress.taught us all some in
    progress_below s.next session (λ (m : Progress). record m { taught = last_number m.taught us }) s.sessions progress sound.progress at (λ order below. (omega arith, last.1))

copied_sound : (s : TableState) (session : ℕ) (kind : CopyKind) (limit now : ℕ) (progress : Progress) → progress_of session s ≡ Some progress → IsSound s → s.latest ≤ now → now < 2 ^ 63 → nat_eq (length (unacked s session kind now limit)) 0 ≡ false
    → IsSound (copied s session (unacked s session kind now limit) now)
copied_sound s session kind limit now progress at sound later timely some =
    let us = unacked s session kind now limit in
    let sizes = length-with_progress session (λ (m : Progress). record m { taught = last_number m.taught us }) s.sessions in
    let bound = sound.few in
    record {
      definition = sound.definition;
      some = sound.some;
      numbers = sound.numbers;
      keys = sound.keys;
      entries = later_sound s now sound later;
      within = sound.within;
      last = sound.last;
      least = let bound = sound.least in omega arith;
      most = timely;
      progress = taught_below s session kind limit now progress at sound some;
      bounds = bounds_with s.next session (λ (m : Progress). record m { taught = last_number m.taught us }) s.sessions (λ m. refl) sound.bounds;
      sessions = sessions_differ_with session (λ (m : Progress). record m { taught = last_number m.taught us }) s.sessions sound.sessions;
      few = omega arith;
    }

-- a copy that isn't refused
pub record IsGranted (s : TableState) (session : ℕ) (kind : CopyKind) (limit now : ℕ) (progress : Progress) : Type 0 where
  pub found : progress_of session s ≡ Some progress
  pub later : s.latest ≤ now
  pub some : nat_eq (length (unacked s session kind now limit)) 0 ≡ false

pub copy_granted : (full : Bool) (s : TableState) (session : ℕ) (kind : CopyKind) (limit now : ℕ) → copy_refusal full s session kind limit now ≡ None → (progress : Progress) × IsGranted s session kind limit now progress
copy_granted full s session kind limit now granted = by (progress_of session s) refl
  where
    of_session : Option Progress → Option CopyError
    of_session None = Some uncopied.NoSession
    of_session (Some progress) =
        if nat_lt now s.latest then Some uncopied.MomentBack
        else (if is_out progress then Some uncopied.BatchOut
        else (if length (unacked s session kind now limit) == 0 then Some uncopied.Nothing
        else (if full then Some uncopied.HistoryFull
        else None)))

    by : (o : Option Progress) → progress_of session s ≡ o → (progress : Progress) × IsGranted s session kind limit now progress
    by None at = absurd (some_none uncopied.NoSession (sym (ap of_session at) ∙ granted))
    by (Some progress) at =
        let c = passes (nat_lt now s.latest) uncopied.MomentBack _ (sym (ap of_session at) ∙ granted) in
        let b = passes (is_out progress) uncopied.BatchOut _ c.1 in
        let n = passes (nat_eq (length (unacked s session kind now limit)) 0) uncopied.Nothing _ b.1 in
        (progress, record { found = at; later = ltb-false now s.latest c.0; some = n.0 })

ack_granted : (s : TableState) (session number : ℕ) → ack_refusal false s session number ≡ None → (progress : Progress) × (progress_of session s ≡ Some progress) × (number ≤ progress.taught)
ack_granted s session number granted = by (progress_of session s) refl
  where
    of_session : Option Progress → Option AckError
    of_session None = Some unacknowledged.NoSession
    of_session (Some progress) = if nat_lt progress.taught number then Some unacknowledged.AckAhead else None

    by : (o : Option Progress) → progress_of session s ≡ o → (progress : Progress) × (progress_of session s ≡ Some progress) × (number ≤ progress.taught)
    by None at = absurd (some_none unacknowledged.NoSession (sym (ap of_session at) ∙ granted))
    by (Some progress) at =
        let c = passes (nat_lt progress.taught number) unacknowledged.AckAhead _ (sym (ap of_session at) ∙ granted) in
        (progress, at, ltb-false progress.taught number c.0)

acknowledged_below : (next session number : ℕ) (progress : Progress) → number ≤ progress.taught → progress.acknowledged ≤ progress.taught → progress.taught < next → IsProgressBelow next (session, acknowledging number progress)
acknowledged_below next session number progress sent order below =
    cond_both (nat_le number progress.acknowledged) progress (record progress { acknowledged = number }) (λ (m : Progress). IsProgressBelow next (session, m)) (λ _. (order, below)) (λ _. (sent, below))

pub step_sound : (s e : TableState) (event : CellEvent) (reply : CellReply) → IsTimely event → IsSound s → Step s event reply e → IsSound e
step_sound s e (events.Track seat key change now) reply timely sound (granted, rest, leaves, answer, is) =
    let d = s.definition in
    let a = passes (not (key_fits d.kind d.key_length key)) _ _ granted in
    let b = passes (not (change_fits d change)) _ _ a.1 in
    let c = passes (nat_lt now s.latest) _ _ b.1 in
    let f = passes (nat_le (2 ^ 32) s.next) _ _ c.1 in
    let later = ltb-false now s.latest c.0 in
    let unspent = leb-false (2 ^ 32) s.next f.0 in
    let fits = tracked_fits s key change now sound later (not_false (key_fits d.kind d.key_length key) a.0) (not_false (change_fits d change) b.0) in
    subst IsSound (sym is) (stored_sound s key (tracked s key change now) now rest sound leaves fits refl later timely unspent)
step_sound s e (events.Learn session u now) reply timely sound (granted, rest, leaves, answer, is) =
    let d = s.definition in
    let o = passes (is_none (progress_of session s)) _ _ granted in
    let a = passes (not (is_of_table d u)) _ _ o.1 in
    let c = passes (nat_lt now s.latest) _ _ a.1 in
    let f = passes (nat_le (2 ^ 32) s.next) _ _ c.1 in
    let later = ltb-false now s.latest c.0 in
    let unspent = leb-false (2 ^ 32) s.next f.0 in
    let fits = learned_fits s u now (not_false (is_of_table d u) a.0) in
    subst IsSound (sym is) (stored_sound s u.key (learned s u now) now rest sound leaves fits refl later timely unspent)
step_sound s e (events.Copy session kind limit now) reply timely sound (granted, answer, is) =
    let found = copy_granted false s session kind limit now granted in
    subst IsSound (sym is) (copied_sound s session kind limit now found.0 found.1.found sound found.1.later timely found.1.some)
step_sound s e (events.Ack session number) reply timely sound (granted, answer, is) =
    let found = ack_granted s session number granted in
    let sizes = length-with_progress session (acknowledging number) s.sessions in
    let bound = sound.few in
    subst IsSound (sym is) (record {
      definition = sound.definition;
      some = sound.some;
      numbers = sound.numbers;
      keys = sound.keys;
      entries = sound.entries;
      within = sound.within;
      last = sound.last;
      least = sound.least;
      most = sound.most;
      progress = progress_below s.next session (acknowledging number) s.sessions found.0 sound.progress found.1 (acknowledged_below s.next session number found.0 found.2);
      bounds = bounds_with s.next session (acknowledging number) s.sessions (acknowledging_bound number) sound.bounds;
      sessions = sessions_differ_with session (acknowledging number) s.sessions sound.sessions;
      few = omega arith;
    })
step_sound s e (events.Open session version) reply timely sound (granted, answer, is) =
    let o = passes (is_some (progress_of session s)) _ _ granted in
    let a = passes (nat_le 16 (length s.sessions)) _ _ o.1 in
    let few = leb-false 16 (length s.sessions) a.0 in
    let some = rise_bound 1 s.next s.rows sound.numbers in
    let sizes : length (s.sessions ++ (session, no_progress version s.next) ∷ []) ≡ length s.sessions + 1 = length-append s.sessions ((session, no_progress version s.next) ∷ []) in
    subst IsSound (sym is) (record {
      definition = sound.definition;
      some = sound.some;
      numbers = sound.numbers;
      keys = sound.keys;
      entries = sound.entries;
      within = sound.within;
      last = sound.last;
      least = sound.least;
      most = sound.most;
      progress = all_end (IsProgressBelow s.next) (session, no_progress version s.next) s.sessions sound.progress (omega arith, omega arith);
      bounds = all_end (IsBoundBelow s.next) (session, no_progress version s.next) s.sessions sound.bounds (let less : s.next - 1 < s.next = omega arith in less);
      sessions = sessions_differ_end session (no_progress version s.next) s.sessions sound.sessions (is_absent (lookup (λ id. id == session) s.sessions) o.0);
      few = omega arith;
    })
step_sound s e (events.Close session) reply timely sound (granted, answer, is) =
    let less = filter_shorter (λ (entry : ℕ × Progress). not (entry.0 == session)) s.sessions in
    let bound = sound.few in
    subst IsSound (sym is) (record {
      definition = sound.definition;
      some = sound.some;
      numbers = sound.numbers;
      keys = sound.keys;
      entries = sound.entries;
      within = sound.within;
      last = sound.last;
      least = sound.least;
      most = sound.most;
      progress = all_filter (IsProgressBelow s.next) (λ (entry : ℕ × Progress). not (entry.0 == session)) s.sessions sound.progress;
      bounds = all_filter (IsBoundBelow s.next) (λ (entry : ℕ × Progress). not (entry.0 == session)) s.sessions sound.bounds;
      sessions = sessions_differ_filter (λ (entry : ℕ × Progress). not (entry.0 == session)) s.sessions sound.sessions;
      few = omega arith;
    })
step_sound s e (events.Purge now) reply timely sound (granted, answer, is) =
    let c = passes (nat_lt now s.latest) _ _ granted in
    let later = ltb-false now s.latest c.0 in
    let live = λ (row : Key × StoredRow). is_live now row.1 in
    let less = filter_shorter live s.rows in
    let bound = sound.within in
    subst IsSound (sym is) (record {
      definition = sound.definition;
      some = sound.some;
      numbers = rise_filter live 1 s.next s.rows sound.numbers;
      keys = differ_filter live s.rows sound.keys;
      entries = all_filter (EntryFits s.definition now) live s.rows (later_sound s now sound later);
      within = omega arith;
      last = sound.last;
      least = let bound = sound.least in omega arith;
      most = timely;
      progress = sound.progress;
      bounds = sound.bounds;
      sessions = sound.sessions;
      few = sound.few;
    })

pub run_longer : (s mid e : TableState) (hs : List (CellEvent × CellReply)) (event : CellEvent) (reply : CellReply) → Replays s hs mid → Step mid event reply e → Replays s (hs ++ (event, reply) ∷ []) e
run_longer s mid e [] event reply same step = (e, subst (λ (x : TableState). Step x event reply e) same step, refl)
run_longer s mid e (h ∷ hs) event reply (next, first, rest) step = (next, first, run_longer next mid e hs event reply rest step)

pub run_sound : (s e : TableState) (hs : List (CellEvent × CellReply)) → AreTimely hs → IsSound s → Replays s hs e → IsSound e
run_sound s e [] timely sound same = subst IsSound (sym same) sound
run_sound s e (h ∷ hs) (now, later) sound (mid, step, rest) = run_sound mid e hs later (step_sound s mid h.0 h.1 now sound step) rest

pub new_sound : (d : Definition) (size first : ℕ) (nopurge : Bool) → is_definition d ≡ true → 1 ≤ size → 1 ≤ first → first ≤ 2 ^ 32 → IsSound (new_table d size nopurge first)
new_sound d size first nopurge is some least most =
    record { definition = is; some = some; numbers = least; keys = tt; entries = tt; within = omega arith; last = most; least = omega arith; most = omega arith; progress = tt; bounds = tt; sessions = tt; few = omega arith }
