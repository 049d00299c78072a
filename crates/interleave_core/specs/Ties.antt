-- What ties a session to a table (profile).
use Rattle.std.specs.Prelude.{◌≡◌, ◌⊎◌, ℕ, ◌<◌, ◌≤◌, ◌==◌, Bool, true, false, List, [], ◌∷◌, ◌++◌, drop, filter, fold, length, Some}
use Rattle.std.specs.List.{AllByRecursion, flat_map}
use Rattle.table_types.specs.declared.update.Update.{Update}
use Rattle.table_types.specs.declared.version.Version.{Version}
use Rattle.known_state.specs.Known.{is_in}
use Rattle.table_cell.specs.declared.events.CellEvent.{CellEvent}
use Rattle.table_cell.specs.declared.events.CellReply.{CellReply}
use Rattle.table_cell.specs.declared.progress.Progress.{Progress}
use Rattle.table_cell.specs.Machine.{no_progress, progress_of}
use Rattle.table_cell.specs.Histories.{CellState, IsSoundCell, batch_of}
use Rattle.table_cell.specs.Handing.{Ascend, KeepsUp, handed_since, numbers, updates_in}
use Rattle.interleave_core.specs.Sound.{acked_numbers}
use Rattle.interleave_core.specs.Worlds.{ConnectionState, cell_at}

-- ---- by numbers

-- one of the elements is `x`
abbrev pub IsAmong : {A : Type 0} → A → List A → Type 0
IsAmong x [] = ⊥
IsAmong x (y ∷ ys) = (x ≡ y) ⊎ IsAmong x ys

-- the last of the numbers, or `least` if there are none
abbrev pub end_of : ℕ → List ℕ → ℕ
end_of least ns = fold (λ _ n. n) least ns

-- The numbers handed out ascend and end at the number taught; those that are done are the first of them. The number
-- acknowledged is 0 or one that is done. The acknowledgements on their way ascend above it, each of a number that is done.
-- If one more is due, a number is done that is above them all.
pub record IsTied (handed done : List ℕ) (acknowledged taught : ℕ) (acks : List ℕ) (is_due : Bool) : Type 0 where
  pub ascend : Ascend 0 handed
  pub last : taught ≡ end_of 0 handed
  pub front : (rest : List ℕ) × (handed ≡ done ++ rest)
  pub acked : (acknowledged ≡ 0) ⊎ IsAmong acknowledged done
  pub way : Ascend acknowledged acks
  pub known : AllByRecursion (λ n. IsAmong n done) acks
  pub due : is_due ≡ true → end_of acknowledged acks < end_of 0 done

-- ---- what a connection has of a table

-- the updates of a table, in order
abbrev pub of_table : ℕ → List Update → List Update
of_table table us = filter (λ u. u.table == table) us

-- the updates of these batches, in order
abbrev pub joined : List (List Update) → List Update
joined batches = flat_map (λ batch. batch) batches

-- What a connection has of one table: all its updates that were taught or wait to be; those that were copied since the
-- session was last opened; those of the latter that the learner has put; the numbers of the acknowledgements on their way;
-- and whether one more is due.
pub record Share : Type 0 where
  pub all : List Update
  pub handed : List Update
  pub done : List Update
  pub acks : List ℕ
  pub is_due : Bool

-- the share of a table, if the session was last opened after `before` updates were taught
abbrev pub share_of : ℕ → ℕ → ConnectionState → List (ℕ × ℕ) → Share
share_of table before s acks =
    record { all = of_table table (s.taught ++ joined s.copied); handed = of_table table (drop before s.taught ++ joined s.copied); done = of_table table (drop before s.applied); acks = acked_numbers table acks; is_due = is_in table s.learner.intake.due }

-- the share when the session has just been opened
abbrev pub opened_share : List Update → Share
opened_share all = record { all = all; handed = []; done = []; acks = []; is_due = false }

-- ---- the tie

-- a copy for the session had the update
abbrev pub WasCopied : ℕ → List (CellEvent × CellReply) → Update → Type 0
WasCopied session [] u = ⊥
WasCopied session (h ∷ hs) u = IsAmong u (updates_in (batch_of session h)) ⊎ WasCopied session hs u

-- The session is open in the table, with this progress. Its share was handed out by the table since it was last opened, the
-- numbers are tied, and each update of the share was copied for the session.
pub record IsTiedTo (session : ℕ) (share : Share) (c : CellState) (p : Progress) : Type 0 where
  pub progress : progress_of session c.state ≡ Some p
  pub same : share.handed ≡ handed_since session c.history
  pub tied : IsTied (numbers share.handed) (numbers share.done) p.acknowledged p.taught share.acks share.is_due
  pub from : AllByRecursion (WasCopied session c.history) share.all

-- the session was last opened after `before` updates were taught, which the learner has put, and is tied to each table
pub record AreTied (session before : ℕ) (s : ConnectionState) (acks : List (ℕ × ℕ)) (cells : List CellState) : Type 0 where
  pub within : before ≤ length s.applied
  pub each : (table : ℕ) (c : CellState) → cell_at table cells ≡ Some c → (p : Progress) × IsTiedTo session (share_of table before s acks) c p

-- the session was opened in the table, and nothing was handed out, taught or acknowledged in it since then
abbrev pub IsJustOpened : ℕ → CellState → Type 0
IsJustOpened session c =
    (version : Version) × (next : ℕ) × (progress_of session c.state ≡ Some (no_progress version next)) × (handed_since session c.history ≡ [])

-- ---- the tables

-- every table is sound, and keeps up with every session
pub record AreSoundTables (cells : List CellState) : Type 0 where
  pub sound : AllByRecursion IsSoundCell cells
  pub keep : (session : ℕ) → AllByRecursion (KeepsUp session) cells
