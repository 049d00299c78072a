-- The families of metrics that have a sample for each table (the first two as HAProxy's exporter has them).
use Rattle.std.specs.Prelude.{◌++◌, ℕ, List, [], ◌∷◌, Option, codes, flat_map}
use Rattle.table_types.specs.Tables.{Definition}
use Rattle.admin_port.specs.Samples.{family_head, sample_line}
use Rattle.admin_port.specs.ShownTables.{shown_kind}
use Rattle.admin_port.specs.TableNames.{shown_name}
use Rattle.admin_port.specs.declared.table_metrics.Column.{Column}
use Rattle.admin_port.specs.declared.table_metrics.Column.TheVariants as columns
use Rattle.admin_port.specs.declared.table_metrics.TableMetrics.{TableMetrics}

-- a sample of a table, with its name
unfoldable pub named_sample : List ℕ → Option (List ℕ) → Definition → ℕ → List ℕ
named_sample name section table value = sample_line name ((codes "name", shown_name section table.name) ∷ []) value

-- a sample of a table, with its name and its type
unfoldable pub typed_sample : List ℕ → Option (List ℕ) → Definition → ℕ → List ℕ
typed_sample name section table value =
    sample_line name ((codes "name", shown_name section table.name) ∷ (codes "type", shown_kind table.kind) ∷ []) value

-- ---- what a family has of each table

abbrev pub column_name : Column → List ℕ
column_name columns.Size = codes "haproxy_sticktable_size"
column_name columns.Used = codes "haproxy_sticktable_used"
column_name columns.Events = codes "digbaro_table_events_total"
column_name columns.NextNumber = codes "digbaro_table_next_number"
column_name columns.Displaced = codes "digbaro_rows_displaced_total"

abbrev pub column_kind : Column → List ℕ
column_kind columns.Size = codes "gauge"
column_kind columns.Used = codes "gauge"
column_kind columns.Events = codes "counter"
column_kind columns.NextNumber = codes "gauge"
column_kind columns.Displaced = codes "counter"

abbrev pub column_help : Column → List ℕ
column_help columns.Size = codes "Stick table size."
column_help columns.Used = codes "Number of entries used in this stick table."
column_help columns.Events = codes "Events of this table."
column_help columns.NextNumber = codes "Number that the next change of this table takes."
column_help columns.Displaced = codes "Rows of this table that new ones displaced, since it was full."

-- the sample of a table
unfoldable pub column_sample : Option (List ℕ) → Column → TableMetrics → List ℕ
column_sample section columns.Size t = typed_sample (column_name columns.Size) section t.table.now t.size
column_sample section columns.Used t = typed_sample (column_name columns.Used) section t.table.now t.used
column_sample section columns.Events t = named_sample (column_name columns.Events) section t.table.now t.events
column_sample section columns.NextNumber t = named_sample (column_name columns.NextNumber) section t.table.now t.next_number
column_sample section columns.Displaced t = named_sample (column_name columns.Displaced) section t.table.now t.displaced

-- ---- families

unfoldable pub column_family : Option (List ℕ) → Column → List TableMetrics → List ℕ
column_family section column ts =
    family_head (column_name column) (column_kind column) (column_help column) ++ flat_map (column_sample section column) ts

abbrev pub table_families : Option (List ℕ) → List TableMetrics → List ℕ
table_families section ts =
    column_family section columns.Size ts ++ (column_family section columns.Used ts
    ++ (column_family section columns.Events ts ++ (column_family section columns.NextNumber ts
    ++ column_family section columns.Displaced ts)))
