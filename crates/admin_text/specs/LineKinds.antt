-- The kinds of lines of a configuration (profile).
use Rattle.std.specs.Prelude.{◌&&◌, ℕ, Bool, true, false, not, List, [], ◌∷◌, Option, Some, None, bytes_eq, codes, if◌then◌else◌, slice_get, take}
use Rattle.admin_text.specs.declared.line_kinds.LineKind.{LineKind}
use Rattle.admin_text.specs.declared.line_kinds.LineKind.TheVariants.{Node, Listen, Admin, Socket, Metrics, Section, Peer, Table, Size, Nopurge, Log, Journal}

-- the first word of a line of each kind
abbrev pub line_word : LineKind → List ℕ
line_word Node = codes "node"
line_word Listen = codes "listen"
line_word Admin = codes "admin"
line_word Socket = codes "admin"
line_word Metrics = codes "metrics"
line_word Section = codes "section"
line_word Peer = codes "peer"
line_word Table = codes "table"
line_word Size = codes "size"
line_word Nopurge = codes "nopurge"
line_word Log = codes "log"
line_word Journal = codes "log"

-- the word that is there is this one
abbrev pub is_word : Option (List ℕ) → List ℕ → Bool
is_word None word = false
is_word (Some other) word = bytes_eq other word

-- the word that is there begins with `unix:`
abbrev pub is_socket : Option (List ℕ) → Bool
is_socket None = false
is_socket (Some word) = bytes_eq (codes "unix:") (take 5 word)

-- the second word is one of a line of this kind, of the lines with its first word
abbrev pub is_told : LineKind → Option (List ℕ) → Bool
is_told Node word = true
is_told Listen word = true
is_told Admin word = not (is_socket word)
is_told Socket word = is_socket word
is_told Metrics word = true
is_told Section word = true
is_told Peer word = true
is_told Table word = true
is_told Size word = true
is_told Nopurge word = true
is_told Log word = not (is_word word (codes "journal"))
is_told Journal word = is_word word (codes "journal")

-- the words are those of a line of this kind
abbrev pub is_of_kind : LineKind → List (List ℕ) → Bool
is_of_kind kind words = is_word (slice_get words 0) (line_word kind) && is_told kind (slice_get words 1)

abbrev pub all_kinds : List LineKind
all_kinds = Node ∷ Listen ∷ Admin ∷ Socket ∷ Metrics ∷ Section ∷ Peer ∷ Table ∷ Size ∷ Nopurge ∷ Log ∷ Journal ∷ []

-- the first of these kinds to which the words belong
abbrev pub first_kind : List (List ℕ) → List LineKind → Option LineKind
first_kind words [] = None
first_kind words (kind ∷ kinds) = if is_of_kind kind words then Some kind else first_kind words kinds

-- the kind of the line with these words
unfoldable pub kind_of : List (List ℕ) → Option LineKind
kind_of words = first_kind words all_kinds
