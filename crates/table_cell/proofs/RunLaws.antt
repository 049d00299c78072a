-- Runs of a table.
use Rattle.std.proofs.Common.{◌≡◌, ℕ, zero, suc, ◌+◌, ◌^◌, ◌<◌, ◌≤◌, ◌==◌, Bool, true, false, List, [], ◌∷◌, ◌++◌, length, Some, refl, sym, ap, subst, ◌∙◌, arith, inl, inr, true≢false}
use Rattle.std.proofs.lemmas.Bool.{cases_eq, eq-eqb}
use Rattle.std.proofs.lemmas.List.{length-append, take-append-le}
use Rattle.std.specs.Map.{lookup}
use Rattle.table_types.specs.Tables.{Definition, is_definition}
use Rattle.std.specs.Prelude.{take, slice_get}
use Rattle.table_types.specs.declared.update.Update.{Update}
use Rattle.table_types.specs.declared.copies.CopyKind.{CopyKind}
use Rattle.table_cell.specs.declared.events.CellEvent.{CellEvent}
use Rattle.table_cell.specs.declared.events.CellEvent.TheVariants as events
use Rattle.table_cell.specs.declared.events.CellReply.{CellReply}
use Rattle.table_cell.specs.declared.events.CellReply.TheVariants as replies
use Rattle.table_cell.specs.Machine.{TableState, Step, Replays, unacked}
use Rattle.table_cell.specs.Histories.{AreAscending, CellState, IsHeld, IsSoundCell, IsReplayed, Kept, Made, events_of, is_history_full, latest_batch, new_cell, room_of}
use Rattle.table_cell.specs.Soundness.{AreTimely, IsSound, IsTimely}
use Rattle.table_cell.proofs.AscendingLaws.{unacked_ascend}
use Rattle.table_stock.proofs.RowsLaws.{all_end, some_none}
use Rattle.table_cell.proofs.StepLaws.{all_take, run_longer, run_sound, step_sound, new_sound}

pub made_longer : (c e : CellState) (event : CellEvent) (reply : CellReply) → IsReplayed c → Made c event reply e → IsReplayed e
made_longer c e event reply run (step, is) =
    subst (λ (x : CellState). Replays x.base x.history e.state) (sym is) (run_longer c.base c.state e.state c.history event reply run step)

-- the batch of a copy within a run
copied_at : (s e : TableState) (hs : List (CellEvent × CellReply)) (index session limit now : ℕ) (kind : CopyKind) (us : List Update) → Replays s hs e
    → slice_get hs index ≡ Some (events.Copy session kind limit now, replies.Copy us)
    → (mid : TableState) × Replays s (take index hs) mid × (us ≡ unacked mid session kind now limit)
copied_at s e [] index session limit now kind us run at = absurd cc
copied_at s e (h ∷ hs) zero session limit now kind us (mid, step, rest) at =
    let is : h ≡ (events.Copy session kind limit now, replies.Copy us) = cc in
    let this : Step s (events.Copy session kind limit now) (replies.Copy us) mid = subst (λ (x : CellEvent × CellReply). Step s x.0 x.1 mid) is step in
    let answer : replies.Copy us ≡ replies.Copy (unacked s session kind now limit) = this.1 in
    (s, refl, cc)
copied_at s e (h ∷ hs) (suc index) session limit now kind us (next, step, rest) at =
    let later = copied_at next e hs index session limit now kind us rest at in
    (later.0, (next, step, later.1), later.2)

pub runs_keep : (c : CellState) → IsReplayed c → Kept c
runs_keep c run index session limit now kind us at = copied_at c.base c.state c.history index session limit now kind us run at

-- ---- room

has_room_for : (c : CellState) → is_history_full c ≡ false → (length c.history < 1000000 + c.slid) × (events_of c < 2 ^ 63)
has_room_for c room = elim (cases_eq (room_of c) 0) [
  | inl none ↦ absurd (true≢false (sym (eq-eqb (room_of c) 0 none) ∙ room))
  | inr some ↦ (omega arith, omega arith)
]

-- what slides kept stays as it was
still_held : (c : CellState) (s : TableState) (x : CellEvent × CellReply) → c.slid ≤ length c.history → ((session : ℕ) (h : CellEvent × CellReply) → lookup (λ id. id == session) c.held ≡ Some h → IsHeld c session h)
    → (session : ℕ) (h : CellEvent × CellReply) → lookup (λ id. id == session) c.held ≡ Some h → IsHeld (record c { history = c.history ++ x ∷ []; state = s }) session h
still_held c s x within held session h found =
    let is = held session h found in
    (is.0, is.1, ap (latest_batch session) (take-append-le c.slid c.history (x ∷ []) within) ∙ is.2)

pub made_sound : (c e : CellState) (event : CellEvent) (reply : CellReply) → IsTimely event → is_history_full c ≡ false → IsSoundCell c → Made c event reply e → IsSoundCell e
made_sound c e event reply timely room sound (step, is) =
    let fits = has_room_for c room in
    let sizes : length (c.history ++ (event, reply) ∷ []) ≡ length c.history + 1 = length-append c.history ((event, reply) ∷ []) in
    let history : length e.history ≡ length (c.history ++ (event, reply) ∷ []) = ap (λ (x : CellState). length x.history) is in
    let dropped : e.dropped ≡ c.dropped = ap (λ (x : CellState). x.dropped) is in
    let slid : e.slid ≡ c.slid = ap (λ (x : CellState). x.slid) is in
    let within = sound.slid in
    record {
      base = subst IsSound (sym (ap (λ (x : CellState). x.base) is)) sound.base;
      timely = subst AreTimely (sym (ap (λ (x : CellState). x.history) is)) (all_end (λ (h : CellEvent × CellReply). IsTimely h.0) (event, reply) c.history sound.timely timely);
      replayed = made_longer c e event reply sound.replayed (step, is);
      sound = step_sound c.state e.state event reply timely sound.sound step;
      slid = omega arith;
      held = subst (λ (x : CellState). (session : ℕ) (h : CellEvent × CellReply) → lookup (λ id. id == session) x.held ≡ Some h → IsHeld x session h) (sym is)
          (still_held c e.state (event, reply) within sound.held);
      within = omega arith;
      few = omega arith;
    }

pub new_cell_sound : (d : Definition) (size first : ℕ) (nopurge : Bool) → is_definition d ≡ true → 1 ≤ size → 1 ≤ first → first ≤ 2 ^ 32 → IsSoundCell (new_cell d size nopurge first)
new_cell_sound d size first nopurge is some least most =
    let new = new_sound d size first nopurge is some least most in
    record { base = new; timely = tt; replayed = refl; sound = new; slid = omega arith; held = λ session h none. absurd (some_none h (sym none)); within = omega arith; few = omega arith }

-- ---- what was before

run_begins : (s e : TableState) (hs : List (CellEvent × CellReply)) (count : ℕ) → Replays s hs e → (mid : TableState) × Replays s (take count hs) mid
run_begins s e hs zero run = (s, refl)
run_begins s e [] (suc count) run = (e, run)
run_begins s e (h ∷ hs) (suc count) (mid, step, rest) =
    let more = run_begins mid e hs count rest in
    (more.0, (mid, step, more.1))

beginning_sound : (s mid : TableState) (hs : List (CellEvent × CellReply)) (count : ℕ) → IsSound s → AreTimely hs → Replays s (take count hs) mid → IsSound mid
beginning_sound s mid hs count sound timely run = run_sound s mid (take count hs) (all_take (λ (h : CellEvent × CellReply). IsTimely h.0) count hs timely) sound run

pub states_sound : (c : CellState) (count : ℕ) → IsSoundCell c → (mid : TableState) × Replays c.base (take count c.history) mid × IsSound mid
states_sound c count cell =
    let begun = run_begins c.base c.state c.history count cell.replayed in
    (begun.0, begun.1, beginning_sound c.base begun.0 c.history count cell.base cell.timely begun.1)

pub batches_ascend : (c : CellState) (index session limit now : ℕ) (kind : CopyKind) (us : List Update) → IsSoundCell c → slice_get c.history index ≡ Some (events.Copy session kind limit now, replies.Copy us) → AreAscending us
batches_ascend c index session limit now kind us cell at =
    let kept = runs_keep c cell.replayed index session limit now kind us at in
    let sound = beginning_sound c.base kept.0 c.history index cell.base cell.timely kept.1 in
    subst AreAscending (sym kept.2) (unacked_ascend kept.0 session kind limit now sound.numbers)
