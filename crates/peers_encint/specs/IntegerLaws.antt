-- Laws of encoded integers.
use Rattle.std.specs.Prelude.{◌≡◌, ◌≢◌, ℕ, ◌^◌, ◌<◌, ◌≤◌, List, ◌++◌, length, drop}
use Rattle.peers_encint.specs.declared.reading.Read.TheVariants.{Value, Short}
use Rattle.peers_encint.specs.Integers.{SpellsInteger, spelling, IsBytes, read_of}

-- each number below 2 ^ 64 has a spelling
abbrev pub IsSpelled : Type 0
IsSpelled = (n : ℕ) → n < 2 ^ 64 → SpellsInteger (spelling n) n

abbrev pub HasOneSpelling : Type 0
HasOneSpelling = (a b : List ℕ) (n : ℕ) → SpellsInteger a n → SpellsInteger b n → a ≡ b

abbrev pub MeansOneNumber : Type 0
MeansOneNumber = (a : List ℕ) (m n : ℕ) → SpellsInteger a m → SpellsInteger a n → m ≡ n

-- no spelling is a prefix of another, so the bytes that follow are the same too
abbrev pub BeginsNoOther : Type 0
BeginsNoOther = (a b x y : List ℕ) (m n : ℕ) → SpellsInteger a m → SpellsInteger b n → a ++ x ≡ b ++ y → (a ≡ b) × (m ≡ n) × (x ≡ y)

abbrev pub SpellsBytes : Type 0
SpellsBytes = (n : ℕ) → n < 2 ^ 64 → IsBytes (spelling n)

abbrev pub IsLongerForGreater : Type 0
IsLongerForGreater = (m n : ℕ) → m ≤ n → length (spelling m) ≤ length (spelling n)

abbrev pub HasLengthWithin : Type 0
HasLengthWithin = (n : ℕ) → (1 ≤ length (spelling n)) × (length (spelling n) ≤ 10)

-- the greatest number of bytes below each limit
abbrev pub FitsTheTable : Type 0
FitsTheTable =
    (n : ℕ)
    → (n < 240 → length (spelling n) ≡ 1)
    × (n < 2288 → length (spelling n) ≤ 2)
    × (n < 264432 → length (spelling n) ≤ 3)
    × (n < 33818864 → length (spelling n) ≤ 4)
    × (n < 4328786160 → length (spelling n) ≤ 5)

-- reading a spelling returns its number, whatever follows
abbrev pub IsReadAgain : Type 0
IsReadAgain = (n : ℕ) (rest : List ℕ) → n < 2 ^ 64 → read_of (spelling n ++ rest) ≡ Value n (length (spelling n))

-- the bytes of a number read are its spelling
abbrev pub IsSpelledAsRead : Type 0
IsSpelledAsRead =
    (bytes : List ℕ) (n used : ℕ)
    → IsBytes bytes
    → read_of bytes ≡ Value n used
    → (bytes ≡ spelling n ++ drop used bytes) × (used ≤ length bytes) × (n < 2 ^ 64) × (used ≡ length (spelling n))

-- appending bytes changes no result but `Short`
abbrev pub StaysRead : Type 0
StaysRead = (bytes more : List ℕ) → read_of bytes ≢ Short → read_of (bytes ++ more) ≡ read_of bytes
