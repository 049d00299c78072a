-- What a line of a table says, or the first thing wrong with it (profile). It is read by its own words, and by those of the lines
-- before it.
use Rattle.std.specs.Prelude.{◌==◌, ◌+◌, ◌-◌, ◌^◌, ◌++◌, ℕ, List, [], ◌∷◌, Option, Some, None, Result, Ok, Err, if◌then◌else◌, nat_le}
use Rattle.std.specs.Option.{option_or}
use Rattle.table_types.specs.DataTypes.{is_rate}
use Rattle.table_types.specs.Keys.{fits_length}
use Rattle.table_types.specs.Tables.{Definition, in_rising_id, stores}
use Rattle.table_types.specs.declared.data_type.DataType.{DataType}
use Rattle.table_types.specs.declared.key.KeyKind.{KeyKind}
use Rattle.node_text.specs.Numbers.{from_one, number_of}
use Rattle.admin_text.specs.Before.{count_of, line_with}
use Rattle.admin_text.specs.NameFaults.{name_at}
use Rattle.admin_text.specs.Named.{keys_named, type_named}
use Rattle.admin_text.specs.Outcomes.{led_on, or_fault, unless}
use Rattle.admin_text.specs.Statements.{Said}
use Rattle.admin_text.specs.declared.line_kinds.LineKind.TheVariants as kinds
use Rattle.admin_text.specs.declared.faults.Fault.{Fault}
use Rattle.admin_text.specs.declared.faults.Fault.TheVariants as faults
use Rattle.admin_text.specs.declared.faults.TableFault.TheVariants as tables
use Rattle.admin_text.specs.declared.faults.TypeFault.{TypeFault}
use Rattle.admin_text.specs.declared.faults.TypeFault.TheVariants as types
use Rattle.admin_text.specs.declared.settings.Setting.{Setting}
use Rattle.admin_text.specs.declared.settings.Setting.TheVariants as settings
use Rattle.admin_text.specs.declared.table_lines.TableParts.{TableParts}

-- ---- data types

-- what comes before the first `:` (58) of a word
abbrev pub name_part : List ℕ → List ℕ
name_part [] = []
name_part (byte ∷ rest) = if byte == 58 then [] else byte ∷ name_part rest

-- what comes behind it, if it is there
abbrev pub period_part : List ℕ → Option (List ℕ)
period_part [] = None
period_part (byte ∷ rest) = if byte == 58 then Some rest else period_part rest

-- a period of 1 to 2^32 - 1 ms
abbrev pub period_of : List ℕ → Option ℕ
period_of word = from_one (number_of word (2 ^ 32 - 1))

-- the word at this place isn't a data type that a table may store
abbrev pub stored : ℕ → TypeFault → Fault
stored place fault = faults.Table (tables.Stored place fault)

-- a data type with what stands behind the `:` of its word: a rate has a period, and nothing else has one
abbrev pub with_period : ℕ → DataType → Option (List ℕ) → Result (DataType × Option ℕ) Fault
with_period place type None = if is_rate type then Err (stored place types.NoPeriod) else Ok (type, None)
with_period place type (Some word) =
    if is_rate type then led_on (or_fault (period_of word) (stored place types.NoPeriod)) (λ period. Ok (type, Some period))
    else Err (stored place types.Period)

-- the data type of a word at this place, behind these others
abbrev pub named_entry : ℕ → List (DataType × Option ℕ) → DataType → Option (List ℕ) → Result (DataType × Option ℕ) Fault
named_entry place earlier type period =
    if stores type earlier then Err (stored place types.Repeated) else with_period place type period

-- the same, from the word: `name`, or `name:period`
abbrev pub entry_at : ℕ → List (DataType × Option ℕ) → List ℕ → Result (DataType × Option ℕ) Fault
entry_at place earlier word =
    led_on (or_fault (type_named (name_part word)) (stored place types.Unknown)) (λ type. named_entry place earlier type (period_part word))

-- the data types of these words, the first of which is at this place, behind these others
abbrev pub entries_behind : ℕ → List (DataType × Option ℕ) → List (List ℕ) → Result (List (DataType × Option ℕ)) Fault
entries_behind place earlier [] = Ok earlier
entries_behind place earlier (word ∷ words) =
    led_on (entry_at place earlier word) (λ entry. entries_behind (place + 1) (earlier ++ entry ∷ []) words)

-- ---- keys

-- the length, if keys of this kind have it
abbrev pub if_fits : KeyKind → Option ℕ → Option ℕ
if_fits kind None = None
if_fits kind (Some size) = if fits_length kind size then Some size else None

-- a kind of keys, and a length that they have
abbrev pub keys_at : List ℕ → List ℕ → Result (KeyKind × ℕ) Fault
keys_at word size =
    led_on (or_fault (keys_named word) (faults.Table tables.Keys))
    (λ kind. led_on (or_fault (if_fits kind (number_of size (2 ^ 64 - 1))) (faults.Table (tables.Length kind))) (λ length. Ok (kind, length)))

-- ---- tables

-- an id of 1 to 2^31 - 1
abbrev pub id_at : List ℕ → Result ℕ Fault
id_at word = or_fault (from_one (number_of word (2 ^ 31 - 1))) (faults.Table tables.Id)

-- how long a row lives, in ms, below 2^32
abbrev pub expire_at : List ℕ → Result ℕ Fault
expire_at word = or_fault (number_of word (2 ^ 32 - 1)) (faults.Table tables.Expire)

abbrev pub taken_id : Option ℕ → Option Fault
taken_id None = None
taken_id (Some line) = Some (faults.Table (tables.TakenId line))

abbrev pub taken_name : Option ℕ → Option Fault
taken_name None = None
taken_name (Some line) = Some (faults.Table (tables.TakenName line))

-- a table behind 64 others
abbrev pub many_fault : List Said → Option Fault
many_fault before = if nat_le 64 (count_of kinds.Table before) then Some (faults.Table tables.Many) else None

-- an id or a name that an earlier table has
unfoldable pub place_fault : List Said → List ℕ → List ℕ → Option Fault
place_fault before id name =
    option_or (option_or (taken_id (line_with kinds.Table 1 id before)) (taken_name (line_with kinds.Table 2 name before))) (many_fault before)

-- a table's id, the kind and the length of its keys, and how long its rows live, if its name is one
abbrev pub parts_at : List ℕ → List ℕ → List ℕ → List ℕ → List ℕ → Result TableParts Fault
parts_at id name keys size expire =
    led_on (id_at id)
    (λ number. led_on (name_at 2 name)
    (λ name. led_on (keys_at keys size)
    (λ keys. led_on (expire_at expire)
    (λ expire. Ok (record { id = number; kind = keys.0; key_length = keys.1; expire = expire })))))

-- a table of these parts
abbrev pub definition_with : TableParts → List ℕ → List (DataType × Option ℕ) → Definition
definition_with parts name entries = record {
  id = parts.id;
  name = name;
  kind = parts.kind;
  key_length = parts.key_length;
  expire = parts.expire;
  types = in_rising_id entries;
}

-- a table, from the words behind `table`
unfoldable pub table_at : List Said → List (List ℕ) → Result Setting Fault
table_at before (id ∷ name ∷ keys ∷ size ∷ expire ∷ types) =
    led_on (parts_at id name keys size expire)
    (λ parts. led_on (entries_behind 6 [] types)
    (λ entries. unless (place_fault before id name) (Ok (settings.Table (definition_with parts name entries)))))
table_at before words = Err (faults.Form kinds.Table)
