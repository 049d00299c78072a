-- What a node needs of the system before it runs, and how it says that it can't have it (profile).
use Rattle.std.specs.Prelude.{◌≡◌, ◌⊎◌, ◌++◌, ◌≤◌, ◌&&◌, ℕ, List, [], ◌∷◌, codes, if◌then◌else◌, length, map, nat_le}
use Rattle.node_core.specs.declared.needs.Need.{Need}
use Rattle.node_core.specs.declared.needs.Need.TheVariants as needs

abbrev pub need_word : Need → List ℕ
need_word needs.Listen = codes "listen"
need_word needs.Admin = codes "admin"
need_word needs.Metrics = codes "metrics"
need_word needs.Threads = codes "threads"
need_word needs.Clock = codes "clock"

-- the byte itself, or `?` in the place of one that can't be printed
abbrev pub shown_byte : ℕ → ℕ
shown_byte byte = if nat_le 32 byte && nat_le byte 126 then byte else 63

-- a space and the place, if there is one
abbrev pub place_text : List ℕ → List ℕ
place_text [] = []
place_text (byte ∷ bytes) = 32 ∷ map shown_byte (byte ∷ bytes)

-- the line: `WHAT PLACE: REASON`, or `WHAT: REASON`
abbrev pub lacking_line : Need → List ℕ → List ℕ → List ℕ
lacking_line need place reason = need_word need ++ (place_text place ++ (codes ": " ++ (map shown_byte reason ++ 10 ∷ [])))

-- what stands between an error of the system and its number
abbrev pub number_mark : List ℕ
number_mark = codes " (os error "

-- the mark stands somewhere in the text, behind these bytes
abbrev pub HasMark : List ℕ → List ℕ → Type 0
HasMark text before = (behind : List ℕ) × (text ≡ before ++ (number_mark ++ behind))

-- the text up to the first mark, or all of it if it has none
abbrev pub IsReason : List ℕ → List ℕ → Type 0
IsReason text reason =
    (HasMark text reason × ((before : List ℕ) → HasMark text before → length reason ≤ length before))
    ⊎ ((reason ≡ text) × ((before : List ℕ) → HasMark text before → ⊥))
