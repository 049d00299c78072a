-- What the system says of a process (Linux, proc(5)).
use Rattle.std.specs.Prelude.{ℕ, ◌+◌, ◌-◌, ◌*◌, ◌^◌, ◌==◌, ◌&&◌, Bool, true, false, min, List, [], ◌∷◌, drop, Option, None, Some, option_and_then, slice_get, if◌then◌else◌}
use Rattle.std.specs.List.{list_all}
use Rattle.node_text.specs.Numbers.{is_digit, number_of}
use Rattle.admin_port.specs.RequestWords.{is_word, line_words}
use Rattle.admin_port.specs.declared.process_texts.ProcessStat.{ProcessStat}

-- ---- the file `stat`

-- what stands behind the last `)` (41) of the rest, or `part` if there is none
abbrev pub last_part : List ℕ → List ℕ → List ℕ
last_part part [] = part
last_part part (byte ∷ rest) = last_part (if byte == 41 then rest else part) rest

-- what stands behind the last `)` and the space behind it
abbrev pub behind_last : List ℕ → List ℕ
behind_last text = drop 1 (last_part text text)

-- the number that the word with this index writes
abbrev pub number_at : ℕ → List (List ℕ) → Option ℕ
number_at index words = option_and_then (λ word. number_of word (2 ^ 64 - 1)) (slice_get words index)

-- the time in user mode and that in the kernel, in ticks of 10 ms, and the pages of 4,096 bytes
abbrev pub stat_of_numbers : Option ℕ → Option ℕ → Option ℕ → Option ProcessStat
stat_of_numbers None system pages = None
stat_of_numbers (Some user) None pages = None
stat_of_numbers (Some user) (Some system) None = None
stat_of_numbers (Some user) (Some system) (Some pages) =
    Some (record { cpu_time = min (min (user + system) (2 ^ 64 - 1) * 10) (2 ^ 64 - 1); resident_memory_bytes = min (pages * 4096) (2 ^ 64 - 1) })

-- `utime`, `stime` and `rss` are the 14th, the 15th and the 24th field, of which the first two stand before these words
abbrev pub stat_of_words : List (List ℕ) → Option ProcessStat
stat_of_words words = stat_of_numbers (number_at 11 words) (number_at 12 words) (number_at 21 words)

-- what the file says, in which no word is empty
abbrev pub process_stat : List ℕ → Option ProcessStat
process_stat text =
    if list_all is_word (line_words (behind_last text)) then stat_of_words (line_words (behind_last text)) else None

-- ---- the folder `fd`

-- how many names that are numbers begin: a name begins behind each zero, and here if `begins`
abbrev pub begun_names : Bool → List ℕ → ℕ
begun_names begins [] = 0
begun_names begins (byte ∷ rest) = (if begins && is_digit byte then 1 else 0) + begun_names (byte == 0) rest

-- the descriptors that are open, but for that of the folder
abbrev pub open_descriptors : List ℕ → ℕ
open_descriptors names = begun_names true names - 1
