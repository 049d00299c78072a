-- The hello: its bytes, and the answer to it (HAProxy, doc/peers-v2.0.txt).
use Rattle.std.specs.Prelude.{ℕ, Bool, true, false, not, ◌-◌, ◌≡◌, ◌<◌, ◌^◌, ◌==◌, ◌&&◌, ◌||◌, nat_le, List, ◌++◌, length, take, drop, Option, Some, None, Result, Ok, Err, if◌then◌else◌, codes}
use Rattle.std.specs.Fmt.{decimal}
use Rattle.std.specs.List.{list_all, list_any}
use Rattle.table_types.specs.Names.{is_name}
use Rattle.table_types.specs.declared.version.Version.{Version}
use Rattle.table_types.specs.declared.version.Version.TheVariants as versions
use Rattle.peers_hello.specs.declared.hello.Hello.{Hello}
use Rattle.peers_hello.specs.declared.hello.Answer.{Answer}
use Rattle.peers_hello.specs.declared.hello.Answer.TheVariants as answers
use Rattle.peers_hello.specs.declared.lines.NoLine.{NoLine}
use Rattle.peers_hello.specs.declared.lines.NoLine.TheVariants as lacks
use Rattle.peers_hello.specs.Lines.{is_same, until, past, line, after_lines, no_lines}

-- the third line: the local name, the process id and the relative pid
abbrev pub introduction_text : Hello → List ℕ
introduction_text h = h.local ++ (codes " " ++ (decimal h.pid ++ (codes " " ++ (decimal h.relative ++ codes "\n"))))

-- a version in the first line
abbrev pub version_text : Version → List ℕ
version_text versions.V20 = codes "2.0"
version_text versions.V21 = codes "2.1"

-- the three lines: the protocol and its version, the remote name, and the introduction of the sender
abbrev pub hello_text : Hello → List ℕ
hello_text h = codes "HAProxyS " ++ (version_text h.version ++ (codes "\n" ++ (h.remote ++ (codes "\n" ++ introduction_text h))))

-- a first line, of any version
abbrev pub is_greeting : List ℕ → Bool
is_greeting text = nat_le 9 (length text) && is_same (take 9 text) (codes "HAProxyS ")

-- the version that has this text, letter for letter
abbrev pub version_of : List ℕ → Option Version
version_of text =
    if is_same text (version_text versions.V20) then Some versions.V20
    else (if is_same text (version_text versions.V21) then Some versions.V21
    else None)

-- one or more digits
abbrev pub is_number : List ℕ → Bool
is_number text = not (length text == 0) && list_all (λ byte. nat_le 48 byte && nat_le byte 57) text

-- the local name in a third line
abbrev pub local_of : List ℕ → List ℕ
local_of text = until 32 text

-- a third line: a name without a space, and two numbers, separated by single spaces
abbrev pub is_introduction : List ℕ → Bool
is_introduction text =
    is_name (local_of text)
    && (is_number (until 32 (past 32 text))
    && is_number (past 32 (past 32 text)))

-- the version of a hello with this second line, unless its version is unknown (502) or it is meant for another peer
-- (503)
abbrev pub versioned : Option Version → Bool → Result Version ℕ
versioned None is_own = Err 502
versioned (Some version) false = Err 503
versioned (Some version) true = Ok version

-- what the three lines are, whichever peers are known: a hello of this version for `own`, or what is wrong with them,
-- that they are no hello (501) first
abbrev pub judged : List ℕ → List ℕ → List ℕ → List ℕ → Result Version ℕ
judged own first second third =
    if not (is_greeting first && is_introduction third) then Err 501
    else versioned (version_of (drop 9 first)) (is_same second own)

abbrev pub is_among : List ℕ → List (List ℕ) → Bool
is_among name peers = list_any (λ peer. is_same peer name) peers

-- the answer to three complete lines of `used` bytes: what is wrong with them, or that no known peer has the local name
-- (504), or that they are accepted
abbrev pub decided : Result Version ℕ → Bool → List ℕ → ℕ → Answer
decided (Err code) is_peer name used = answers.Refused code used
decided (Ok version) false name used = answers.Refused 504 used
decided (Ok version) true name used = answers.Accepted name version used

abbrev pub answer_of_lines : List ℕ → List (List ℕ) → List ℕ → List ℕ → List ℕ → ℕ → Answer
answer_of_lines own peers first second third used =
    decided (judged own first second third) (is_among (local_of third) peers) (local_of third) used

-- if a line is too long, all the bytes are refused; while a line isn't complete, there is no answer yet
abbrev pub answered : Option NoLine → Answer → ℕ → Answer
answered None answer all = answer
answered (Some lacks.TooLong) answer all = answers.Refused 501 all
answered (Some lacks.More) answer all = answers.More

-- the answer of the peer `own`, which knows `peers`, to the bytes
abbrev pub answer_of : List ℕ → List (List ℕ) → List ℕ → Answer
answer_of own peers bytes =
    answered (no_lines 3 bytes)
    (answer_of_lines own peers (line bytes) (line (after_lines 1 bytes)) (line (after_lines 2 bytes)) (length bytes - length (after_lines 3 bytes)))
    (length bytes)

abbrev pub IsAccepted : Answer → Type 0
IsAccepted (answers.Accepted name version used) = Unit {0}
IsAccepted (answers.Refused code used) = ⊥
IsAccepted answers.More = ⊥

-- no space, CR or LF
abbrev pub is_one_word : List ℕ → Bool
is_one_word name = list_all (λ byte. not (byte == 32 || (byte == 13 || byte == 10))) name

abbrev pub IsReadAsWritten : Type 0
IsReadAsWritten =
    (h : Hello) (peers : List (List ℕ)) (rest : List ℕ)
    → (is_name h.remote ≡ true)
    → (is_name h.local ≡ true)
    → (h.pid < 2 ^ 32)
    → (h.relative < 2 ^ 32)
    → (is_one_word h.remote ≡ true)
    → (is_one_word h.local ≡ true)
    → (is_among h.local peers ≡ true)
    → answer_of h.remote peers (hello_text h ++ rest) ≡ answers.Accepted h.local h.version (length (hello_text h))
