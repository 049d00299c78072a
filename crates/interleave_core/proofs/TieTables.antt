-- The tables stay sound, and keep up with every session.
use Rattle.std.proofs.Common.{◌≡◌, ℕ, false, List, [], ◌∷◌, Some, refl, sym, ap, subst, ◌∙◌, inl, inr}
use Rattle.std.specs.List.{AllByRecursion}
use Rattle.std.proofs.lemmas.Bool.{cases_Bool}
use Rattle.table_types.specs.Tables.{Definition}
use Rattle.table_types.specs.declared.version.Version.{Version}
use Rattle.table_cell.specs.declared.events.CellEvent.{CellEvent}
use Rattle.table_cell.specs.declared.events.CellEvent.TheVariants as events
use Rattle.table_cell.specs.declared.events.CellReply.{CellReply}
use Rattle.table_cell.specs.declared.events.CellReply.TheVariants as replies
use Rattle.table_cell.specs.Machine.{progress_of, settled_by}
use Rattle.table_cell.specs.Soundness.{IsTimely}
use Rattle.table_cell.specs.Histories.{CellState, IsSoundCell, Made, is_history_full}
use Rattle.table_cell.specs.Handing.{KeepsUp}
use Rattle.table_cell.proofs.HandingSteps.{made_keeps}
use Rattle.table_cell.proofs.RunLaws.{made_sound}
use Rattle.interleave_core.specs.Moves.{acked_all, reopened_all}
use Rattle.interleave_core.specs.Ties.{AreSoundTables}
use Rattle.interleave_core.specs.Worlds.{cell_at, is_table, roster_of, with_cell}
use Rattle.interleave_core.proofs.TieAnswers.{after_one}
use Rattle.interleave_core.proofs.TieCells.{at_here, at_there, none_there, same_one, with_here, with_there}
use Rattle.interleave_core.proofs.TieOpenings.{between, parts, same_cells}
use Rattle.interleave_core.proofs.TiePairs.{acked_made, acked_room, closed_made, closed_room, opened_made, opened_room, same_table}

-- ---- one table changes

pub all_at : (P : CellState → Type 0) (t : ℕ) (c : CellState) (cells : List CellState) → AllByRecursion P cells → cell_at t cells ≡ Some c → P c
all_at P t c [] all at = absurd (none_there c at)
all_at P t c (x ∷ xs) (first, rest) at = elim (cases_Bool (is_table t x)) [
  | inl here ↦ subst P (same_one x c (sym (at_here t x xs here) ∙ at)) first
  | inr past ↦ all_at P t c xs rest (sym (at_there t x xs past) ∙ at)
]

all_with : (P : CellState → Type 0) (t : ℕ) (e : CellState) (cells : List CellState) → AllByRecursion P cells → P e → AllByRecursion P (with_cell t e cells)
all_with P t e [] all new = tt
all_with P t e (x ∷ xs) (first, rest) new = elim (cases_Bool (is_table t x)) [
  | inl here ↦ subst (AllByRecursion P) (sym (with_here t e x xs here)) (new, rest)
  | inr past ↦ subst (AllByRecursion P) (sym (with_there t e x xs past)) (first, all_with P t e xs rest new)
]

pub roster_with : (t : ℕ) (c e : CellState) (cells : List CellState) → cell_at t cells ≡ Some c → e.state.definition ≡ c.state.definition → roster_of (with_cell t e cells) ≡ roster_of cells
roster_with t c e [] at same = refl
roster_with t c e (x ∷ xs) at same = elim (cases_Bool (is_table t x)) [
  | inl here ↦
      let is = same_one x c (sym (at_here t x xs here) ∙ at) in
      ap roster_of (with_here t e x xs here) ∙ ap (λ (d : Definition). d ∷ roster_of xs) (same ∙ ap (λ (y : CellState). y.state.definition) (sym is))
  | inr past ↦ ap roster_of (with_there t e x xs past) ∙ ap (λ (ds : List Definition). x.state.definition ∷ ds) (roster_with t c e xs (sym (at_there t x xs past) ∙ at) same)
]

pub table_changed : (t : ℕ) (cells : List CellState) (c e : CellState) (event : CellEvent) (reply : CellReply) → IsTimely event → is_history_full c ≡ false → cell_at t cells ≡ Some c → Made c event reply e
    → AreSoundTables cells → AreSoundTables (with_cell t e cells) × (roster_of (with_cell t e cells) ≡ roster_of cells)
table_changed t cells c e event reply timely room at made tables = (
  record {
    sound = all_with IsSoundCell t e cells tables.sound (made_sound c e event reply timely room sound made);
    keep = λ n. all_with (KeepsUp n) t e cells (tables.keep n) (made_keeps c e event reply n sound made (all_at (KeepsUp n) t c cells (tables.keep n) at));
  },
  roster_with t c e cells at (same_table c e event reply made),
)
  where
    sound : IsSoundCell c
    sound = all_at IsSoundCell t c cells tables.sound at

-- ---- acknowledgements

pub tables_acked : (n : ℕ) (acks : List (ℕ × ℕ)) (cells after : List CellState) → acked_all n acks cells ≡ Some after → AreSoundTables cells → AreSoundTables after × (roster_of after ≡ roster_of cells)
tables_acked n [] cells after all tables = let is = same_cells cells after all in (subst AreSoundTables is tables, ap roster_of (sym is))
tables_acked n (ack ∷ acks) cells after all tables =
    let (c, e, at, is, later) = after_one n ack acks cells after all in
    let one = table_changed ack.0 cells c e (events.Ack n ack.1) (replies.Ack (settled_by (progress_of n c.state) ack.1)) tt (acked_room n ack.1 c e is) at (acked_made n ack.1 c e is) tables in
    let rest = tables_acked n acks (with_cell ack.0 e cells) after later one.0 in
    (rest.0, rest.1 ∙ one.1)

-- ---- the session is opened anew in each

-- a cell that is sound and keeps up with every session
record IsSoundTable (c : CellState) : Type 0 where
  pub sound : IsSoundCell c
  pub keep : (n : ℕ) → KeepsUp n c

one_made : (c e : CellState) (event : CellEvent) (reply : CellReply) → IsTimely event → is_history_full c ≡ false → Made c event reply e → IsSoundTable c → IsSoundTable e
one_made c e event reply timely room made table = record {
  sound = made_sound c e event reply timely room table.sound made;
  keep = λ n. made_keeps c e event reply n table.sound made (table.keep n);
}

pub tables_reopened : (n : ℕ) (v : Version) (cells after : List CellState) → reopened_all n v cells ≡ Some after → AreSoundTables cells → AreSoundTables after × (roster_of after ≡ roster_of cells)
tables_reopened n v [] after all tables = let is = same_cells [] after all in (subst AreSoundTables is tables, ap roster_of (sym is))
tables_reopened n v (c ∷ cs) after all tables =
    let (first, rest, at_first, at_rest, is) = parts n v c cs after all in
    let (mid, closing, opening) = between n v c first at_first in
    let closed_now = closed_made n c mid closing in
    let opened_now = opened_made n v mid first opening in
    let table = one_made mid first (events.Open n v) replies.Open tt (opened_room n v mid first opening) opened_now
    (one_made c mid (events.Close n) replies.Close tt (closed_room n c mid closing) closed_now (record { sound = tables.sound.0; keep = λ m. (tables.keep m).0 })) in
    let others = tables_reopened n v cs rest at_rest (record { sound = tables.sound.1; keep = λ m. (tables.keep m).1 }) in
    let same : first.state.definition ≡ c.state.definition = same_table mid first (events.Open n v) replies.Open opened_now ∙ same_table c mid (events.Close n) replies.Close closed_now in
    let all_sound : AreSoundTables (first ∷ rest) = record { sound = (table.sound, others.0.sound); keep = λ m. (table.keep m, others.0.keep m) } in
    let rosters : roster_of (first ∷ rest) ≡ roster_of (c ∷ cs) =
    ap (λ (d : Definition). d ∷ roster_of rest) same ∙ ap (λ (ds : List Definition). c.state.definition ∷ ds) others.1 in
    (subst AreSoundTables is all_sound, ap roster_of (sym is) ∙ rosters)
