-- How values are printed (profile).
use Rattle.std.specs.Prelude.{◌++◌, ℕ, List, ◌∷◌}
use Rattle.std.specs.Fmt.{decimal}
use Rattle.table_types.specs.declared.row.Cell.{Cell}
use Rattle.table_types.specs.declared.row.Cell.TheVariants as cells
use Rattle.table_types.specs.declared.update.Value.{Value}
use Rattle.table_types.specs.declared.update.Value.TheVariants as values
use Rattle.node_text.specs.Numbers.{spaced}

-- the three numbers of a rate with `/` (47) between them, after a space
abbrev pub rate_text : ℕ → ℕ → ℕ → List ℕ
rate_text first current previous = spaced first ++ (47 ∷ (decimal current ++ (47 ∷ decimal previous)))

-- a value of an update: a count, or a rate as elapsed/current/previous, after a space
abbrev pub value_text : Value → List ℕ
value_text (values.Count count) = spaced count
value_text (values.Rate elapsed current previous) = rate_text elapsed current previous

-- a value of a row: a count, or a rate as start/current/previous, after a space
abbrev pub cell_text : Cell → List ℕ
cell_text (cells.Count count) = spaced count
cell_text (cells.Rate start current previous) = rate_text start current previous
