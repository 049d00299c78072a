-- The status that answers a hello (HAProxy, doc/peers-v2.0.txt).
use Rattle.std.specs.Prelude.{ℕ, ◌-◌, List, length, Option, Some, None, if◌then◌else◌, codes}
use Rattle.peers_hello.specs.declared.lines.NoLine.{NoLine}
use Rattle.peers_hello.specs.declared.lines.NoLine.TheVariants as lacks
use Rattle.peers_hello.specs.declared.status.Status.{Status}
use Rattle.peers_hello.specs.declared.status.Status.TheVariants.{Code, Other, More}
use Rattle.peers_hello.specs.Lines.{is_same, line, past, no_line}

-- succeeded; try again later; protocol error; bad version; remote name mismatch; unknown local peer
abbrev pub code_of : List ℕ → Option ℕ
code_of text =
    if is_same text (codes "200") then Some 200
    else (if is_same text (codes "300") then Some 300
    else (if is_same text (codes "501") then Some 501
    else (if is_same text (codes "502") then Some 502
    else (if is_same text (codes "503") then Some 503
    else (if is_same text (codes "504") then Some 504
    else None)))))

abbrev pub status_of_code : Option ℕ → ℕ → Status
status_of_code (Some code) used = Code code used
status_of_code None used = Other used

abbrev pub status_at : Option NoLine → Status → ℕ → Status
status_at None status all = status
status_at (Some lacks.TooLong) status all = Other all
status_at (Some lacks.More) status all = More

-- the status at the front of the bytes: a code, another line, all the bytes if the line is too long, or that the line
-- isn't complete yet
abbrev pub status_of : List ℕ → Status
status_of bytes = status_at (no_line bytes) (status_of_code (code_of (line bytes)) (length bytes - length (past 10 bytes))) (length bytes)
