-- A sound world is on track, and its sessions are open in each table.
use Rattle.std.proofs.Common.{◌≡◌, ℕ, suc, List, [], ◌∷◌, Some, refl}
use Rattle.std.specs.Prelude.{slice_get}
use Rattle.std.specs.List.{AllByRecursion}
use Rattle.table_cell.specs.declared.progress.Progress.{Progress}
use Rattle.table_cell.specs.Machine.{progress_of}
use Rattle.table_cell.specs.Histories.{CellState}
use Rattle.interleave_core.specs.Kept.{AreOnTrack, IsOnTrack}
use Rattle.interleave_core.specs.SoundWorlds.{IsSoundWorld}
use Rattle.interleave_core.specs.Worlds.{ConnectionState, WorldState, cell_at, connection_at, roster_of}

each_got : (P : ConnectionState → Type 0) (cs : List ConnectionState) → ((i : ℕ) (s : ConnectionState) → slice_get cs i ≡ Some s → P s) → AllByRecursion P cs
each_got P [] so = tt
each_got P (c ∷ cs) so = (so 0 c refl, each_got P cs (λ i s found. so (suc i) s found))

pub all_on_track : (w : WorldState) → IsSoundWorld w → AreOnTrack w
all_on_track w sound = each_got (IsOnTrack (roster_of w.cells)) w.connections (λ i s found. (sound.sessions (suc i) s found).2.track)

pub session_open : (w : WorldState) (session t : ℕ) (s : ConnectionState) (c : CellState) → IsSoundWorld w → connection_at session w.connections ≡ Some s → cell_at t w.cells ≡ Some c
    → (p : Progress) × (progress_of session c.state ≡ Some p)
session_open w session t s c sound found at =
    let (before, acks, connection, ties) = sound.sessions session s found in
    let (p, tie) = ties.each t c at in
    (p, tie.progress)
