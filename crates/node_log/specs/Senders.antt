-- Who sent a hello (HAProxy, doc/peers-v2.0.txt): three lines, the third of which is the sender's name, its pid and its relative pid.
use Rattle.std.specs.Prelude.{◌==◌, ◌-◌, ◌^◌, ℕ, Bool, List, [], ◌∷◌, Option, codes, if◌then◌else◌}
use Rattle.table_types.specs.Rosters.{is_same_name}
use Rattle.node_text.specs.Numbers.{number_of}

-- what stands before the first such byte, or all if there is none
abbrev pub before_byte : ℕ → List ℕ → List ℕ
before_byte byte [] = []
before_byte byte (b ∷ rest) = if b == byte then [] else b ∷ before_byte byte rest

-- what stands behind the first such byte, or nothing if there is none
abbrev pub behind_byte : ℕ → List ℕ → List ℕ
behind_byte byte [] = []
behind_byte byte (b ∷ rest) = if b == byte then rest else behind_byte byte rest

-- the first line of a hello: its first word is the protocol's name
abbrev pub is_greeting : List ℕ → Bool
is_greeting line = is_same_name (before_byte 32 line) (codes "HAProxyS")

-- what stands between the second LF (10) and the third
abbrev pub third_line : List ℕ → List ℕ
third_line hello = before_byte 10 (behind_byte 10 (behind_byte 10 hello))

-- the first word (up to a space, 32) of the third line
abbrev pub sender_of : List ℕ → List ℕ
sender_of hello = before_byte 32 (third_line hello)

-- the first line up to its LF, and to a CR (13) before that
abbrev pub text_of_line : List ℕ → List ℕ
text_of_line text = before_byte 13 (before_byte 10 text)

-- the name by which a hello calls whom it greets, its second line
abbrev pub called_by : List ℕ → List ℕ
called_by hello = text_of_line (behind_byte 10 hello)

-- what stands behind the first space of the first line
abbrev pub said_version : List ℕ → List ℕ
said_version hello = behind_byte 32 (text_of_line hello)

-- the number of 64 bits that the second word of the third line writes, if it writes one
abbrev pub pid_of : List ℕ → Option ℕ
pid_of hello = number_of (before_byte 32 (behind_byte 32 (third_line hello))) (2 ^ 64 - 1)
