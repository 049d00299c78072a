-- How copies of rows are printed: as a script has the calls that make them (profile).
use Rattle.std.specs.Prelude.{◌++◌, ℕ, List, ◌∷◌, codes}
use Rattle.std.specs.Fmt.{decimal}
use Rattle.table_types.specs.declared.copies.CopyKind.{CopyKind}
use Rattle.table_types.specs.declared.copies.CopyKind.TheVariants as kinds
use Rattle.node_text.specs.Numbers.{spaced}

-- the word for which rows are copied
abbrev pub copy_kind_name : CopyKind → List ℕ
copy_kind_name kinds.Push = codes "push"
copy_kind_name kinds.Resync = codes "resync"
copy_kind_name kinds.Standing = codes "standing"

-- the call of a copy
abbrev pub copy_text : ℕ → CopyKind → ℕ → ℕ → List ℕ
copy_text session kind limit moment =
    codes "copy " ++ (decimal session ++ (32 ∷ (copy_kind_name kind ++ (spaced limit ++ spaced moment))))
