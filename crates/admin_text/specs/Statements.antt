-- The lines of a configuration, and their words (profile).
use Rattle.std.specs.Prelude.{◌==◌, ◌||◌, ◌+◌, ◌++◌, ℕ, Bool, true, false, List, [], ◌∷◌, bytes_eq, drop, map, if◌then◌else◌, take}
use Rattle.admin_text.specs.declared.statements.Statement.{Statement}

-- ---- the lines of a text

-- the byte begins the first of these
abbrev pub onto_first : ℕ → List (List ℕ) → List (List ℕ)
onto_first byte [] = (byte ∷ []) ∷ []
onto_first byte (first ∷ more) = (byte ∷ first) ∷ more

-- the lines of a text, without the LF that ends each; LF is 10, and what comes after the last one is a line too
abbrev pub lines_of : List ℕ → List (List ℕ)
lines_of [] = [] ∷ []
lines_of (byte ∷ rest) = if byte == 10 then [] ∷ lines_of rest else onto_first byte (lines_of rest)

-- a line without the CR (13) that it may end with
abbrev pub without_return : List ℕ → List ℕ
without_return [] = []
without_return (byte ∷ []) = if byte == 13 then [] else byte ∷ []
without_return (byte ∷ next ∷ rest) = byte ∷ without_return (next ∷ rest)

-- the lines without the CR before an LF, so all but the last, behind which no LF comes
abbrev pub ended : List (List ℕ) → List (List ℕ)
ended [] = []
ended (last ∷ []) = last ∷ []
ended (line ∷ next ∷ lines) = without_return line ∷ ended (next ∷ lines)

-- ---- the words of a line

-- a space or a tab
abbrev pub is_blank : ℕ → Bool
is_blank byte = byte == 32 || byte == 9

-- the first byte is one
abbrev pub begins_blank : List ℕ → Bool
begins_blank [] = false
begins_blank (byte ∷ _) = is_blank byte

-- the words of what is left of a line, the first of which is the rest of one that has begun, if `inside` it; where a word could
-- begin, `#` (35) begins a comment
abbrev pub words_from : Bool → List ℕ → List (List ℕ)
words_from false [] = []
words_from true [] = [] ∷ []
words_from false (byte ∷ rest) =
    if is_blank byte then words_from false rest else (if byte == 35 then [] else onto_first byte (words_from true rest))
words_from true (byte ∷ rest) = if is_blank byte then [] ∷ words_from false rest else onto_first byte (words_from true rest)

-- the words of a line, with any spaces and tabs between them, before the first and behind the last
abbrev pub words_of : List ℕ → List (List ℕ)
words_of line = words_from false line

-- ---- the lines that say something

-- the number of a line, and its words
abbrev pub Said : Type 0
Said = ℕ × List (List ℕ)

-- a line without words says nothing
abbrev pub said_at : ℕ → List (List ℕ) → List Said
said_at number [] = []
said_at number (word ∷ words) = (number, word ∷ words) ∷ []

-- what the lines say, the first of which has this number
abbrev pub numbered : ℕ → List (List ℕ) → List Said
numbered number [] = []
numbered number (line ∷ lines) = said_at number (words_of line) ++ numbered (number + 1) lines

-- what the lines of a text say; they count from 1
abbrev pub said_in : List ℕ → List Said
said_in text = numbered 1 (ended (lines_of text))

-- a byte order mark
abbrev pub mark : List ℕ
mark = 0xef ∷ 0xbb ∷ 0xbf ∷ []

-- what a text says: one that begins with a byte order mark has that in line 1, and then its lines say what they say without it
abbrev pub statements_of : List ℕ → List Said
statements_of text = if bytes_eq mark (take 3 text) then (1, mark ∷ []) ∷ said_in (drop 3 text) else said_in text

-- a line as the code has it
abbrev pub said_by : Statement → Said
said_by s = (s.number, map (λ word. word.now) s.words.items)
