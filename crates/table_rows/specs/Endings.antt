-- The order in which the rows of a table end.
use Rattle.std.specs.Prelude.{ℕ, ◌-◌, ◌^◌, Bool, List, Option, Some, None}
use Rattle.std.specs.List.{list_any}
use Rattle.std.specs.declared.cmp.Ordering.{Ordering}
use Rattle.std.specs.Ordering.{is_eq, nat_cmp, ordering_then}
use Rattle.std.specs.BTreeMap.{is_at}
use Rattle.table_types.specs.Rows.{StoredRow}
use Rattle.table_rows.specs.declared.row_end.RowEnd.{RowEnd}

-- the end of a row in milliseconds; the value for no end is later than every moment
abbrev pub end_or_last : Option ℕ → ℕ
end_or_last (Some end) = end
end_or_last None = 2 ^ 64 - 1

-- where a row stands in that order
abbrev pub ending_of : StoredRow → RowEnd
ending_of row = record { end = end_or_last row.ends; number = row.number }

-- by end, then by number
abbrev pub ending_cmp : RowEnd → RowEnd → Ordering
ending_cmp a b = ordering_then (nat_cmp a.end b.end) (nat_cmp a.number b.number)

-- the reverse: the last to end comes first
abbrev pub later_cmp : RowEnd → RowEnd → Ordering
later_cmp a b = ending_cmp b a

abbrev pub are_same : RowEnd → RowEnd → Bool
are_same a b = is_eq (later_cmp a b)

abbrev pub is_among : List RowEnd → RowEnd → Bool
is_among endings ending = list_any (is_at (later_cmp ending)) endings
