-- What the lines before a line say (profile).
use Rattle.std.specs.Prelude.{◌&&◌, ◌+◌, ℕ, Bool, List, [], ◌∷◌, Option, Some, None, if◌then◌else◌, slice_get}
use Rattle.admin_text.specs.LineKinds.{is_of_kind, is_word, line_word}
use Rattle.admin_text.specs.Statements.{Said}
use Rattle.admin_text.specs.declared.line_kinds.LineKind.{LineKind}

-- the words are those of a line of this kind, and have this word at this place
abbrev pub has_word : LineKind → ℕ → List ℕ → List (List ℕ) → Bool
has_word kind place word words = is_of_kind kind words && is_word (slice_get words place) word

-- the number of the first line of this kind that has this word at this place
abbrev pub line_with : LineKind → ℕ → List ℕ → List Said → Option ℕ
line_with kind place word [] = None
line_with kind place word (line ∷ lines) = if has_word kind place word line.1 then Some line.0 else line_with kind place word lines

-- the number of the first line of this kind
abbrev pub line_of : LineKind → List Said → Option ℕ
line_of kind lines = line_with kind 0 (line_word kind) lines

-- the number of lines of this kind
abbrev pub count_of : LineKind → List Said → ℕ
count_of kind [] = 0
count_of kind (line ∷ lines) = (if is_of_kind kind line.1 then 1 else 0) + count_of kind lines
