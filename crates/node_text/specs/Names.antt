-- How names are printed (profile).
use Rattle.std.specs.Prelude.{◌&&◌, ◌==◌, ℕ, Bool, true, false, not, List, [], ◌∷◌, Option, Some, None, codes, flat_map, if◌then◌else◌}
use Rattle.node_text.specs.Bytes.{digits_of}
use Rattle.node_text.specs.Words.{is_text}

-- the one byte is `-` (45)
abbrev pub is_dash : List ℕ → Bool
is_dash [] = false
is_dash (byte ∷ []) = byte == 45
is_dash (byte ∷ _ ∷ _) = false

-- a text that isn't `-`
abbrev pub may_name : List ℕ → Bool
may_name word = not (is_dash word) && is_text word

-- the first byte is `~` (126)
abbrev pub begins_with_tilde : List ℕ → Bool
begins_with_tilde [] = false
begins_with_tilde (byte ∷ _) = byte == 126

-- a text that neither begins with `~` nor is `-`
abbrev pub is_plain : List ℕ → Bool
is_plain name = not (is_dash name) && (not (begins_with_tilde name) && is_text name)

-- a plain name as it is, or `~` and the bytes of any other name in hexadecimal
abbrev pub name_text : List ℕ → List ℕ
name_text name = if is_plain name then name else 126 ∷ flat_map digits_of name

-- the name, or `-` for none, after a space; nothing unless the table stores a name
abbrev pub stored_text : Bool → Option (List ℕ) → List ℕ
stored_text false name = []
stored_text true None = codes " -"
stored_text true (Some name) = 32 ∷ name_text name
