-- Samples of metrics (Prometheus, text format 0.0.4).
use Rattle.std.specs.Prelude.{◌+◌, ◌/◌, ◌%◌, ◌++◌, ◌==◌, ◌||◌, ◌&&◌, ℕ, List, [], ◌∷◌, codes, flat_map, if◌then◌else◌, map, nat_le}
use Rattle.std.specs.Fmt.{decimal}
use Rattle.admin_port.specs.declared.samples.Label.{Label}

-- what stands before the samples of a family
unfoldable pub family_head : List ℕ → List ℕ → List ℕ → List ℕ
family_head name kind help =
    codes "# HELP " ++ (name ++ (32 ∷ (help ++ (codes "\n# TYPE " ++ (name ++ (32 ∷ (kind ++ 10 ∷ [])))))))

-- a byte of a label's value: with a backslash (92) before `"` (34) and a backslash; `?` (63) if it can't be printed
abbrev pub label_byte : ℕ → List ℕ
label_byte byte =
    if byte == 34 || byte == 92 then 92 ∷ byte ∷ [] else (if nat_le 32 byte && nat_le byte 126 then byte ∷ [] else 63 ∷ [])

-- a label: its name and its value
abbrev pub label_text : List ℕ × List ℕ → List ℕ
label_text l = l.0 ++ (codes "=\"" ++ (flat_map label_byte l.1 ++ 34 ∷ []))

-- labels after the first, each behind a comma (44)
abbrev pub more_labels : List (List ℕ × List ℕ) → List ℕ
more_labels ls = flat_map (λ l. 44 ∷ label_text l) ls

-- labels in braces
abbrev pub labels_text : List (List ℕ × List ℕ) → List ℕ
labels_text [] = []
labels_text (l ∷ ls) = 123 ∷ (label_text l ++ (more_labels ls ++ 125 ∷ []))

-- the line of a sample
unfoldable pub sample_line : List ℕ → List (List ℕ × List ℕ) → ℕ → List ℕ
sample_line name labels value = name ++ (labels_text labels ++ (32 ∷ (decimal value ++ 10 ∷ [])))

-- the last digit of a number (48 is `0`)
abbrev pub digit : ℕ → ℕ
digit number = 48 + number % 10

-- a number of milliseconds in seconds, with three places behind the point (46)
unfoldable pub in_seconds : ℕ → List ℕ
in_seconds milliseconds =
    decimal (milliseconds / 1000) ++ 46 ∷ digit (milliseconds / 100) ∷ digit (milliseconds / 10) ∷ digit milliseconds ∷ []

-- the line of a sample whose value is a time
unfoldable pub seconds_line : List ℕ → List (List ℕ × List ℕ) → ℕ → List ℕ
seconds_line name labels milliseconds = name ++ (labels_text labels ++ (32 ∷ (in_seconds milliseconds ++ 10 ∷ [])))

-- the name and the value of a label as the code has it
abbrev pub pair_of : Label → List ℕ × List ℕ
pair_of l = (l.name.now, l.value.now)

abbrev pub pairs_of : List Label → List (List ℕ × List ℕ)
pairs_of ls = map pair_of ls
