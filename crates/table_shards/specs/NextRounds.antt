-- Another round with the same tables (profile), once an audit has shown that nothing is wrong with the last one.
use Rattle.std.specs.Prelude.{◌≡◌, ℕ, ◌==◌, Bool, true, false, List, [], ◌∷◌, None, map, if◌then◌else◌}
use Rattle.std.specs.List.{list_any}
use Rattle.table_cell.specs.Histories.{begun_anew, events_of}
use Rattle.table_cell.specs.Machine.{is_any_out}
use Rattle.table_shards.specs.declared.unlocked.UnlockedTable.{UnlockedTable}
use Rattle.table_shards.specs.declared.errors.RoundError.{RoundError}
use Rattle.table_shards.specs.declared.errors.RoundError.TheVariants as errors
use Rattle.table_shards.specs.Receipts.{SeatState, receipts_of, seen_of}
use Rattle.table_shards.specs.Rounds.{ShardsState}
use Rattle.table_shards.specs.Audits.{AuditState, UnlockedState}

-- whether a batch of some open session of some table is out
abbrev pub has_batch_out : List UnlockedTable → Bool
has_batch_out ts = list_any (λ t. is_any_out t.cell.state) ts

-- how many events there are of the table with this id, and 0 if there is no such table
abbrev pub events_among : ℕ → List UnlockedTable → ℕ
events_among table [] = 0
events_among table (t ∷ ts) = if t.table == table then events_of t.cell else events_among table ts

-- a seat for another round: its number is the old one, it has no receipts and no answers, and it has seen every event
pub record IsSeatAnew (ts : List UnlockedTable) (old new : SeatState) : Type 0 where
  pub number : new.number ≡ old.number
  pub receipts : (table : ℕ) → receipts_of table new ≡ []
  pub seen : (table : ℕ) → seen_of table new ≡ events_among table ts
  pub answers : (new.answers ≡ 0) × (new.latest ≡ None)

-- the same of each seat, in the same order
abbrev pub AreSeatsAnew : List UnlockedTable → List SeatState → List SeatState → Type 0
AreSeatsAnew ts [] [] = Unit {0}
AreSeatsAnew ts (old ∷ olds) (new ∷ news) = IsSeatAnew ts old new × AreSeatsAnew ts olds news
AreSeatsAnew ts olds news = ⊥

-- as many seats, and each table as a checkpoint leaves it
abbrev pub round_anew : UnlockedState → ShardsState
round_anew u = record { seats = u.seats; cells = map (λ t. begun_anew t.cell) u.tables }

-- why there is no other round
abbrev pub HasNoRound : AuditState → RoundError → Type 0
HasNoRound a errors.BatchOut = has_batch_out a.unlocked.tables ≡ true
HasNoRound a errors.Memory = has_batch_out a.unlocked.tables ≡ false
