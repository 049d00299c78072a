-- Words with which no line of a configuration begins, and the kinds of lines that are plainly meant (profile).
use Rattle.std.specs.Prelude.{◌==◌, ◌||◌, ◌&&◌, ℕ, Bool, false, List, [], ◌∷◌, bytes_eq, codes, if◌then◌else◌, map, slice_get}
use Rattle.std.specs.Char.{to_ascii_lowercase}
use Rattle.std.specs.List.{list_any}
use Rattle.admin_text.specs.LineKinds.{is_word, line_word}
use Rattle.admin_text.specs.Statements.{Said}
use Rattle.admin_text.specs.declared.line_kinds.LineKind.{LineKind}
use Rattle.admin_text.specs.declared.line_kinds.LineKind.TheVariants as kinds

-- both are one word but for capitals
abbrev pub is_alike : List ℕ → List ℕ → Bool
is_alike word other = bytes_eq (map to_ascii_lowercase word) (map to_ascii_lowercase other)

-- `:` or `=`
abbrev pub is_mark : ℕ → Bool
is_mark byte = byte == 58 || byte == 61

-- a word without the mark that it may end with
abbrev pub without_mark : List ℕ → List ℕ
without_mark [] = []
without_mark (byte ∷ []) = if is_mark byte then [] else byte ∷ []
without_mark (byte ∷ next ∷ rest) = byte ∷ without_mark (next ∷ rest)

-- the word is one of these three
abbrev pub is_one_of : List ℕ → List ℕ → List ℕ → List ℕ → Bool
is_one_of word first second third = bytes_eq word first || (bytes_eq word second || bytes_eq word third)

-- the word is a common mistake for the first word of a line of this kind
abbrev pub is_mistake : LineKind → List ℕ → Bool
is_mistake kinds.Node word = is_one_of word (codes "nodes") (codes "name") (codes "localpeer")
is_mistake kinds.Listen word = bytes_eq word (codes "listener")
is_mistake kinds.Metrics word = bytes_eq word (codes "metric")
is_mistake kinds.Section word = bytes_eq word (codes "peers")
is_mistake kinds.Peer word = bytes_eq word (codes "pear") || bytes_eq word (codes "server")
is_mistake kinds.Table word = is_one_of word (codes "tabel") (codes "tables") (codes "stick-table")
is_mistake kinds.Nopurge word = bytes_eq word (codes "no-purge")
is_mistake kinds.Admin word = false
is_mistake kinds.Socket word = false
is_mistake kinds.Size word = false
is_mistake kinds.Log word = false
is_mistake kinds.Journal word = false

-- a line with these words is plainly meant to be of this kind: its first word is that of the kind, but for capitals and a mark behind it,
-- or a common mistake for it
abbrev pub is_meant : LineKind → List (List ℕ) → Bool
is_meant kind [] = false
is_meant kind (word ∷ words) = is_alike (without_mark word) (line_word kind) || is_mistake kind word

-- one of the lines is plainly meant to be of this kind
abbrev pub has_meant : LineKind → List Said → Bool
has_meant kind lines = list_any (λ line. is_meant kind line.1) lines

-- one of the lines is plainly meant to be of this kind, and has this word at this place
abbrev pub has_meant_with : LineKind → ℕ → List ℕ → List Said → Bool
has_meant_with kind place word lines = list_any (λ line. is_meant kind line.1 && is_word (slice_get line.1 place) word) lines
