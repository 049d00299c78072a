-- Names of a table's refusals, as they are printed (profile).
use Rattle.std.specs.Prelude.{ℕ, List, Option, Some, None, codes}
use Rattle.table_cell.specs.declared.errors.TrackError.{TrackError}
use Rattle.table_cell.specs.declared.errors.TrackError.TheVariants as untracked
use Rattle.table_cell.specs.declared.errors.LearnError.{LearnError}
use Rattle.table_cell.specs.declared.errors.LearnError.TheVariants as unlearned
use Rattle.table_cell.specs.declared.errors.CopyError.{CopyError}
use Rattle.table_cell.specs.declared.errors.CopyError.TheVariants as uncopied
use Rattle.table_cell.specs.declared.errors.AckError.{AckError}
use Rattle.table_cell.specs.declared.errors.AckError.TheVariants as unacknowledged
use Rattle.table_cell.specs.declared.errors.OpenError.{OpenError}
use Rattle.table_cell.specs.declared.errors.OpenError.TheVariants as unopened
use Rattle.table_cell.specs.declared.errors.CloseError.{CloseError}
use Rattle.table_cell.specs.declared.errors.CloseError.TheVariants as unclosed
use Rattle.table_cell.specs.declared.errors.PurgeError.{PurgeError}
use Rattle.table_cell.specs.declared.errors.PurgeError.TheVariants as unpurged
use Rattle.table_cell.specs.declared.errors.CheckpointError.{CheckpointError}
use Rattle.table_cell.specs.declared.errors.CheckpointError.TheVariants as unbegun
use Rattle.table_cell.specs.declared.errors.RenumberError.{RenumberError}
use Rattle.table_cell.specs.declared.errors.RenumberError.TheVariants as unrenumbered

-- Each refusal has its name. Out of memory has none, since it ends the program.

abbrev pub track_refusal : TrackError → Option (List ℕ)
track_refusal untracked.TableFull = Some (codes "TableFull")
track_refusal untracked.WrongKey = Some (codes "WrongKey")
track_refusal untracked.NoSuchData = Some (codes "NoSuchData")
track_refusal untracked.Spent = Some (codes "Spent")
track_refusal untracked.HistoryFull = Some (codes "HistoryFull")
track_refusal untracked.MomentBack = Some (codes "MomentBack")
track_refusal untracked.Memory = None

abbrev pub learn_refusal : LearnError → Option (List ℕ)
learn_refusal unlearned.NoSession = Some (codes "NoSession")
learn_refusal unlearned.Misfit = Some (codes "Misfit")
learn_refusal unlearned.MomentBack = Some (codes "MomentBack")
learn_refusal unlearned.HistoryFull = Some (codes "HistoryFull")
learn_refusal unlearned.Spent = Some (codes "Spent")
learn_refusal unlearned.TableFull = Some (codes "TableFull")
learn_refusal unlearned.Memory = None

abbrev pub copy_refusal : CopyError → Option (List ℕ)
copy_refusal uncopied.BatchOut = Some (codes "BatchOut")
copy_refusal uncopied.Nothing = Some (codes "Nothing")
copy_refusal uncopied.NoSession = Some (codes "NoSession")
copy_refusal uncopied.HistoryFull = Some (codes "HistoryFull")
copy_refusal uncopied.MomentBack = Some (codes "MomentBack")
copy_refusal uncopied.Memory = None

abbrev pub ack_refusal : AckError → Option (List ℕ)
ack_refusal unacknowledged.AckAhead = Some (codes "AckAhead")
ack_refusal unacknowledged.NoSession = Some (codes "NoSession")
ack_refusal unacknowledged.HistoryFull = Some (codes "HistoryFull")
ack_refusal unacknowledged.Memory = None

abbrev pub open_refusal : OpenError → Option (List ℕ)
open_refusal unopened.AlreadyOpen = Some (codes "AlreadyOpen")
open_refusal unopened.TooMany = Some (codes "TooMany")
open_refusal unopened.HistoryFull = Some (codes "HistoryFull")
open_refusal unopened.Memory = None

abbrev pub close_refusal : CloseError → Option (List ℕ)
close_refusal unclosed.NoSession = Some (codes "NoSession")
close_refusal unclosed.HistoryFull = Some (codes "HistoryFull")
close_refusal unclosed.Memory = None

abbrev pub purge_refusal : PurgeError → Option (List ℕ)
purge_refusal unpurged.MomentBack = Some (codes "MomentBack")
purge_refusal unpurged.HistoryFull = Some (codes "HistoryFull")
purge_refusal unpurged.Memory = None

abbrev pub checkpoint_refusal : CheckpointError → Option (List ℕ)
checkpoint_refusal unbegun.BatchOut = Some (codes "BatchOut")
checkpoint_refusal unbegun.Memory = None

abbrev pub renumber_refusal : RenumberError → Option (List ℕ)
renumber_refusal unrenumbered.SessionOpen = Some (codes "SessionOpen")
renumber_refusal unrenumbered.Memory = None
