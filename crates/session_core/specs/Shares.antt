-- The tables of a roster, as a session shares them.
use Rattle.std.specs.Prelude.{ℕ, Bool, true, false, not, ◌&&◌, ◌==◌, List, [], ◌∷◌, map, Option, Some, None, if◌then◌else◌}
use Rattle.std.specs.List.{list_any, list_all}
use Rattle.std.specs.Option.{option_or}
use Rattle.table_types.specs.Tables.{Definition}
use Rattle.session_core.specs.declared.share.Share.{Share}

-- what delays the beginning of a resync: an outstanding batch
abbrev pub holds_up : Share → Bool
holds_up s = s.out

abbrev pub any_out : List Share → Bool
any_out ss = list_any holds_up ss

-- `table` is in the roster, and a batch of it is outstanding
abbrev pub is_out : ℕ → List Share → Bool
is_out table ss = list_any (λ s. s.table == table && s.out) ss

-- every table has answered that it has nothing to teach
abbrev pub all_quiet : List Share → Bool
all_quiet ss = list_all (λ s. s.quiet) ss

-- ---- changes

-- no batch is outstanding, and no table is quiet
abbrev pub shares_of : List Definition → List Share
shares_of roster = map (λ d. record { table = d.id; out = false; quiet = false }) roster

abbrev pub out_set : ℕ → Bool → List Share → List Share
out_set table out ss = map (λ s. if s.table == table then record { table = s.table; out = out; quiet = s.quiet } else s) ss

abbrev pub quiet_set : ℕ → List Share → List Share
quiet_set table ss = map (λ s. if s.table == table then record { table = s.table; out = s.out; quiet = true } else s) ss

abbrev pub unquieted : List Share → List Share
unquieted ss = map (λ s. record { table = s.table; out = s.out; quiet = false }) ss

-- ---- the next table

-- a batch may be copied unless one is outstanding or, in a resync, the table is quiet
abbrev pub may_copy : Bool → Share → Bool
may_copy teaching s = not s.out && not (teaching && s.quiet)

abbrev pub first_to_copy : Bool → List Share → Option ℕ
first_to_copy teaching [] = None
first_to_copy teaching (s ∷ ss) = if may_copy teaching s then Some s.table else first_to_copy teaching ss

-- the tables up to and including `table`; all if it isn't among them
abbrev pub through : ℕ → List Share → List Share
through table [] = []
through table (s ∷ ss) = if s.table == table then s ∷ [] else s ∷ through table ss

-- the tables after it; none if it isn't among them
abbrev pub past : ℕ → List Share → List Share
past table [] = []
past table (s ∷ ss) = if s.table == table then ss else past table ss

-- the first table from which a batch may be copied, in roster order from the one after the table asked last, round to
-- that table itself
abbrev pub next_table : Bool → Option ℕ → List Share → Option ℕ
next_table teaching None ss = first_to_copy teaching ss
next_table teaching (Some asked) ss = option_or (first_to_copy teaching (past asked ss)) (first_to_copy teaching (through asked ss))
