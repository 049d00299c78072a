-- Levels of the log.
use Rattle.std.specs.Prelude.{ℕ, Bool, nat_le}
use Rattle.node_core.specs.declared.levels.Level.{Level}
use Rattle.node_core.specs.declared.levels.Level.TheVariants as levels

-- how many levels matter more
abbrev pub rank : Level → ℕ
rank levels.Error = 0
rank levels.Warn = 1
rank levels.Info = 2
rank levels.Debug = 3

-- the lines of a level are written if those of the last one are
abbrev pub covers : Level → Level → Bool
covers last level = nat_le (rank level) (rank last)
