-- Histories that begin anew, and tables that are as new ones are.
use Rattle.std.proofs.Common.{◌≡◌, ℕ, ◌^◌, ◌<◌, ◌≤◌, Bool, List, [], ◌∷◌, length, Some, None, refl, sym, ap, ◌∙◌, arith}
use Rattle.table_types.specs.declared.key.Key.{Key}
use Rattle.table_types.specs.Tables.{Definition}
use Rattle.table_types.specs.Rows.{StoredRow}
use Rattle.table_cell.specs.declared.progress.Progress.{Progress}
use Rattle.table_cell.specs.declared.events.CellEvent.{CellEvent}
use Rattle.table_cell.specs.declared.events.CellEvent.TheVariants as events
use Rattle.table_cell.specs.declared.events.CellReply.{CellReply}
use Rattle.table_cell.specs.Machine.{TableState, Step, Replays, new_table}
use Rattle.table_cell.specs.Histories.{CellState, IsSoundCell, begun_anew}
use Rattle.table_cell.specs.Cells.{IsNewFrom}
use Rattle.table_stock.proofs.RowsLaws.{some_none}

-- ---- a history that begins anew

pub begun_sound : (c : CellState) → IsSoundCell c → IsSoundCell (begun_anew c)
begun_sound c cell =
    let few = cell.few in
    record { base = cell.sound; timely = tt; replayed = refl; sound = cell.sound; slid = omega arith; held = λ session h none. absurd (some_none h (sym none)); within = omega arith; few = omega arith }

-- ---- the parameters of a table stay

abbrev parameters : TableState → Definition × ℕ × Bool
parameters s = (s.definition, s.size, s.nopurge)

step_keeps : (s e : TableState) (event : CellEvent) (reply : CellReply) → Step s event reply e → parameters e ≡ parameters s
step_keeps s e (events.Track seat key change now) reply (granted, rest, leaves, answer, is) = ap parameters is
step_keeps s e (events.Learn session u now) reply (granted, rest, leaves, answer, is) = ap parameters is
step_keeps s e (events.Copy session kind limit now) reply (granted, answer, is) = ap parameters is
step_keeps s e (events.Ack session number) reply (granted, answer, is) = ap parameters is
step_keeps s e (events.Open session version) reply (granted, answer, is) = ap parameters is
step_keeps s e (events.Close session) reply (granted, answer, is) = ap parameters is
step_keeps s e (events.Purge now) reply (granted, answer, is) = ap parameters is

run_keeps : (s e : TableState) (hs : List (CellEvent × CellReply)) → Replays s hs e → parameters e ≡ parameters s
run_keeps s e [] run = ap parameters run
run_keeps s e (h ∷ hs) (mid, step, rest) = run_keeps mid e hs rest ∙ step_keeps s mid h.0 h.1 step

-- ---- whether a history begins with a new table

pub begins_so : (base s : TableState) (hs : List (CellEvent × CellReply)) (size begun first : ℕ) (nopurge : Bool) → Replays base hs s → IsNewFrom base (Some begun)
    → s.size ≡ size → s.nopurge ≡ nopurge → begun ≡ first → base ≡ new_table s.definition size nopurge first
begins_so base s hs size begun first nopurge run new sizes purges firsts =
    let same = run_keeps base s hs run in
    new
    ∙ ap (λ (d : Definition). new_table d base.size base.nopurge begun) (sym (ap (λ (p : Definition × ℕ × Bool). p.0) same))
    ∙ ap (λ (n : ℕ). new_table s.definition n base.nopurge begun) (sym (ap (λ (p : Definition × ℕ × Bool). p.1) same) ∙ sizes)
    ∙ ap (λ (b : Bool). new_table s.definition size b begun) (sym (ap (λ (p : Definition × ℕ × Bool). p.2) same) ∙ purges)
    ∙ ap (λ (n : ℕ). new_table s.definition size nopurge n) firsts

pub same_limits : (base s : TableState) (hs : List (CellEvent × CellReply)) (size first : ℕ) (nopurge : Bool) → Replays base hs s → base ≡ new_table s.definition size nopurge first
    → (s.size ≡ size) × (s.nopurge ≡ nopurge)
same_limits base s hs size first nopurge run is =
    let same = run_keeps base s hs run in (
      ap (λ (p : Definition × ℕ × Bool). p.1) same ∙ ap (λ (x : TableState). x.size) is,
      ap (λ (p : Definition × ℕ × Bool). p.2) same ∙ ap (λ (x : TableState). x.nopurge) is,
    )

pub same_first : (base : TableState) (d : Definition) (size begun first : ℕ) (nopurge : Bool) → IsNewFrom base (Some begun) → base ≡ new_table d size nopurge first → begun ≡ first
same_first base d size begun first nopurge new is = sym (ap (λ (x : TableState). x.next) new) ∙ ap (λ (x : TableState). x.next) is

pub not_begun : (base : TableState) (d : Definition) (size first : ℕ) (nopurge : Bool) → IsNewFrom base None → base ≡ new_table d size nopurge first → ⊥
not_begun base d size first nopurge new is =
    new first (is
    ∙ ap (λ (x : Definition). new_table x size nopurge first) (sym (ap (λ (x : TableState). x.definition) is))
    ∙ ap (λ (n : ℕ). new_table base.definition n nopurge first) (sym (ap (λ (x : TableState). x.size) is))
    ∙ ap (λ (b : Bool). new_table base.definition base.size b first) (sym (ap (λ (x : TableState). x.nopurge) is)))

-- ---- whether a table is as a new one is

none_left : {A : Type 0} (xs : List A) → length xs ≤ 0 → xs ≡ []
none_left [] none = refl
none_left (x ∷ xs) none = absurd (omega arith)

pub is_new : (s : TableState) → length s.rows ≤ 0 → length s.sessions ≤ 0 → s.latest ≤ 2 ^ 32 → 2 ^ 32 ≤ s.latest → IsNewFrom s (Some s.next)
is_new s rows sessions most least =
    let latest : s.latest ≡ 2 ^ 32 = omega arith in
    ap (λ (es : List (Key × StoredRow)). record s { rows = es }) (none_left s.rows rows)
    ∙ ap (λ (es : List (ℕ × Progress)). record s { rows = []; sessions = es }) (none_left s.sessions sessions)
    ∙ ap (λ (n : ℕ). record s { rows = []; sessions = []; latest = n }) latest

pub has_rows : (s : TableState) → 0 < length s.rows → IsNewFrom s None
has_rows s some first is = let none : length s.rows ≡ 0 = ap (λ (x : TableState). length x.rows) is in omega (arith, none)

pub has_sessions : (s : TableState) → 0 < length s.sessions → IsNewFrom s None
has_sessions s some first is = let none : length s.sessions ≡ 0 = ap (λ (x : TableState). length x.sessions) is in omega (arith, none)

pub has_moved : (s : TableState) → 2 ^ 32 < s.latest → IsNewFrom s None
has_moved s later first is = let least : s.latest ≡ 2 ^ 32 = ap (λ (x : TableState). x.latest) is in omega (arith, least)
