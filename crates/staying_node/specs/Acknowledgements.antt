-- Whether a peer has acknowledged what it was taught.
use Rattle.std.specs.Prelude.{Bool, ◌||◌, ◌==◌}
use Rattle.std.specs.Option.{unwrap_or}
use Rattle.session_core.specs.declared.progress.Progress.{Progress}

-- the last number of the table that was taught is acknowledged
abbrev pub has_acknowledged_last : Progress → Bool
has_acknowledged_last p = p.last == unwrap_or p.acknowledged 0

-- it is, or the table was left
abbrev pub is_acknowledged : Progress → Bool
is_acknowledged p = p.left || has_acknowledged_last p
