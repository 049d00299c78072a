-- Changes of rows, as they are read and printed (profile).
use Rattle.std.specs.Prelude.{◌≡◌, ◌++◌, ◌^◌, ◌-◌, ℕ, List, [], ◌∷◌, Some, None, true, codes}
use Rattle.table_types.specs.declared.change.Change.{Change}
use Rattle.table_types.specs.declared.change.Change.TheVariants as changes
use Rattle.table_types.specs.declared.data_type.DataType.{DataType}
use Rattle.table_types.specs.DataTypes.{name_of}
use Rattle.table_types.specs.Names.{is_name}
use Rattle.node_text.specs.Names.{may_name, stored_text}
use Rattle.node_text.specs.Numbers.{number_of, spaced}

-- a change, after a space
abbrev pub change_text : Change → List ℕ
change_text (changes.Add t number) = codes " add " ++ (name_of t ++ spaced number)
change_text (changes.Take t number) = codes " take " ++ (name_of t ++ spaced number)
change_text (changes.Put t number) = codes " put " ++ (name_of t ++ spaced number)
change_text (changes.AddRate t number) = codes " rate " ++ (name_of t ++ spaced number)
change_text (changes.SetName name) = codes " name" ++ stored_text true name

-- ---- read

-- the words write a number of at most `most` for a data type
abbrev pub IsNumberChange : List ℕ → ℕ → DataType → ℕ → List (List ℕ) → Type 0
IsNumberChange kind most t number words = (word : List ℕ) × (words ≡ kind ∷ name_of t ∷ word ∷ []) × (number_of word most ≡ Some number)

-- the change that words write
abbrev pub IsChange : List (List ℕ) → Change → Type 0
IsChange words (changes.Add t number) = IsNumberChange (codes "add") (2 ^ 64 - 1) t number words
IsChange words (changes.Take t number) = IsNumberChange (codes "take") (2 ^ 64 - 1) t number words
IsChange words (changes.Put t number) = IsNumberChange (codes "put") (2 ^ 64 - 1) t number words
IsChange words (changes.AddRate t number) = IsNumberChange (codes "rate") (2 ^ 32 - 1) t number words
IsChange words (changes.SetName None) = words ≡ codes "name" ∷ codes "-" ∷ []
IsChange words (changes.SetName (Some name)) = (words ≡ codes "name" ∷ name ∷ []) × (is_name name ≡ true) × (may_name name ≡ true)

-- the words write no change
abbrev pub IsNoChange : List (List ℕ) → Type 0
IsNoChange words = (change : Change) → IsChange words change → ⊥
