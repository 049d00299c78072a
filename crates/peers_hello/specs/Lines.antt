-- Lines, each ended by LF (10), and their parts (HAProxy, doc/peers-v2.0.txt).
use Rattle.std.specs.Prelude.{ℕ, zero, suc, Bool, ◌-◌, ◌==◌, nat_eq, nat_lt, List, [], ◌∷◌, length, take, drop, Option, Some, None, if◌then◌else◌}
use Rattle.std.specs.Cmp.Lexicographic.{pointwise}
use Rattle.peers_hello.specs.declared.lines.NoLine.{NoLine}
use Rattle.peers_hello.specs.declared.lines.NoLine.TheVariants.{TooLong, More}

abbrev pub is_same : List ℕ → List ℕ → Bool
is_same a b = pointwise nat_eq a b

-- the bytes before the first `stop`, or all of them if there is none
abbrev pub until : ℕ → List ℕ → List ℕ
until stop [] = []
until stop (byte ∷ bytes) = if byte == stop then [] else byte ∷ until stop bytes

-- the bytes after the first `stop`, or none if there is none
abbrev pub past : ℕ → List ℕ → List ℕ
past stop [] = []
past stop (byte ∷ bytes) = if byte == stop then bytes else past stop bytes

-- a text without a CR (13) at its end (profile)
abbrev pub without_cr : List ℕ → List ℕ
without_cr text = if is_same (drop (length text - 1) text) (13 ∷ []) then take (length text - 1) text else text

-- the first line
abbrev pub line : List ℕ → List ℕ
line bytes = without_cr (until 10 bytes)

-- why there is no line at the front: more than 512 bytes come before the LF, or the LF hasn't come yet (profile)
abbrev pub no_line : List ℕ → Option NoLine
no_line bytes =
    if nat_lt 512 (length (until 10 bytes)) then Some TooLong
    else (if nat_lt (length (until 10 bytes)) (length bytes) then None else Some More)

-- the bytes after the first `count` lines
abbrev pub after_lines : ℕ → List ℕ → List ℕ
after_lines zero bytes = bytes
after_lines (suc count) bytes = after_lines count (past 10 bytes)

abbrev pub reason_before : Option NoLine → Option NoLine → Option NoLine
reason_before None later = later
reason_before (Some reason) later = Some reason

-- why the first `count` lines aren't all there: the reason of the first that is missing
abbrev pub no_lines : ℕ → List ℕ → Option NoLine
no_lines zero bytes = None
no_lines (suc count) bytes = reason_before (no_line bytes) (no_lines count (past 10 bytes))
