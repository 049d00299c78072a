-- A session that is closed in a table and opened there again later, while others use the table (profile).
use Rattle.std.specs.Prelude.{◌≡◌, ◌↔◌, ℕ, ◌<◌, false, not, List, [], ◌∷◌, filter, length}
use Rattle.table_types.specs.declared.update.Update.{Update}
use Rattle.table_cell.specs.declared.events.CellEvent.{CellEvent}
use Rattle.table_cell.specs.declared.events.CellEvent.TheVariants as events
use Rattle.table_cell.specs.declared.events.CellReply.{CellReply}
use Rattle.table_cell.specs.Machine.{TableState}
use Rattle.table_cell.specs.Histories.{CellState, Made, is_history_full}
use Rattle.table_cell.specs.Handing.{handed_since, is_about, resyncs_since}
use Rattle.interleave_core.specs.Ties.{WasCopied}

-- these events are made in the table one after another, with their replies, each while the history has room
abbrev pub AreMade : CellState → List (CellEvent × CellReply) → CellState → Type 0
AreMade c [] e = e ≡ c
AreMade c (h ∷ hs) e = (mid : CellState) × (is_history_full c ≡ false) × Made c h.0 h.1 mid × AreMade mid hs e

-- the event opens no session, or the table has room for one more besides: of its 16 sessions at most 14 are open
abbrev pub LeavesRoom : CellEvent → TableState → Type 0
LeavesRoom (events.Open session version) s = length s.sessions < 15
LeavesRoom event s = Unit {0}

-- the same of events that aren't about the session, and leave room to open it again
abbrev pub AreOthers : ℕ → CellState → List (CellEvent × CellReply) → CellState → Type 0
AreOthers session c [] e = e ≡ c
AreOthers session c (h ∷ hs) e =
    (mid : CellState) × (is_about session h.0 ≡ false) × LeavesRoom h.0 c.state × (is_history_full c ≡ false) × Made c h.0 h.1 mid × AreOthers session mid hs e

-- the events about the session, and all others
abbrev pub own_events : ℕ → List (CellEvent × CellReply) → List (CellEvent × CellReply)
own_events session history = filter (λ h. is_about session h.0) history

abbrev pub other_events : ℕ → List (CellEvent × CellReply) → List (CellEvent × CellReply)
other_events session history = filter (λ h. not (is_about session h.0)) history

-- The tables have the same state. Their histories have the same events about the session, with the same replies in the same order,
-- and the same other events in the same order. So the same was handed to the session since it was last opened, by the same kinds
-- of copies, and the same was ever copied for it.
pub record AreAlike (session : ℕ) (a b : CellState) : Type 0 where
  pub state : a.state ≡ b.state
  pub own : own_events session a.history ≡ own_events session b.history
  pub others : other_events session a.history ≡ other_events session b.history
  pub handed : handed_since session a.history ≡ handed_since session b.history
  pub resyncs : resyncs_since session a.history ≡ resyncs_since session b.history
  pub copied : (u : Update) → WasCopied session a.history u ↔ WasCopied session b.history u
