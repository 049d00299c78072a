-- The encoded integers of HAProxy, doc/peers-v2.0.txt: the spelling of a number, and the result of reading one.
use Rattle.std.specs.Prelude.{◌≡◌, ℕ, zero, suc, ◌+◌, ◌-◌, ◌*◌, ◌/◌, ◌%◌, ◌^◌, ◌<◌, ◌≤◌, List, [], ◌∷◌, length, take, Option, Some, None, nat_lt, if◌then◌else◌, slice_index}
use Rattle.std.specs.List.{AllByRecursion}
use Rattle.std.specs.Option.{option_map}
use Rattle.peers_encint.specs.declared.reading.Read.{Read}
use Rattle.peers_encint.specs.declared.reading.Read.TheVariants.{Value, Short, Over}

-- what the later bytes add to the first: the first of them shifted left by `w`, each one after it by seven more
abbrev pub added_from : ℕ → List ℕ → ℕ
added_from w [] = 0
added_from w (c ∷ cs) = c * 2 ^ w + added_from (w + 7) cs

-- the later bytes of a number: the first of them below 128 is the last
abbrev pub IsTail : List ℕ → Type 0
IsTail [] = ⊥
IsTail (c ∷ []) = c < 128
IsTail (c ∷ d ∷ cs) = (128 ≤ c) × (c < 256) × IsTail (d ∷ cs)

-- The bytes spell `n`: one byte below 240, or a first byte from 240 up and what the later bytes add to it.
abbrev pub SpellsInteger : List ℕ → ℕ → Type 0
SpellsInteger [] n = ⊥
SpellsInteger (f ∷ []) n = (f < 240) × (n ≡ f)
SpellsInteger (f ∷ c ∷ cs) n = (240 ≤ f) × (f < 256) × IsTail (c ∷ cs) × (n ≡ f + added_from 4 (c ∷ cs)) × (n < 2 ^ 64)

-- the later bytes that spell i: seven bits a byte, plus 128 while 128 or more is left and fewer than `most` bytes are
-- written
unfoldable pub tail_of : ℕ → ℕ → List ℕ
tail_of zero i = i ∷ []
tail_of (suc most) i = if nat_lt i 128 then i ∷ [] else (128 + i % 128) ∷ tail_of most ((i - 128) / 128)

-- the spelling of a number below 2 ^ 64: the number itself, or 240 plus its low four bits and then the rest
unfoldable pub spelling : ℕ → List ℕ
spelling n = if nat_lt n 240 then n ∷ [] else (240 + n % 16) ∷ tail_of 8 ((n - 240) / 16)

-- each element is a byte
abbrev pub IsBytes : List ℕ → Type 0
IsBytes bytes = (i : ℕ) → slice_index bytes i < 256

-- The result is right for the front of the bytes: a number and the length of its spelling; `Short` if the bytes end
-- before the number does; or `Over` if the number is 2 ^ 64 or more, which takes ten bytes of which none of the first
-- nine is the last.
abbrev pub Reads : List ℕ → Read → Type 0
Reads bytes (Value n used) = (used ≤ length bytes) × SpellsInteger (take used bytes) n
Reads [] Short = Unit {0}
Reads (f ∷ cs) Short = (240 ≤ f) × (length cs < 9) × AllByRecursion (λ c. 128 ≤ c) cs
Reads [] Over = ⊥
Reads (f ∷ cs) Over = (240 ≤ f) × (9 ≤ length cs) × AllByRecursion (λ c. 128 ≤ c) (take 8 cs) × (2 ^ 64 ≤ f + added_from 4 (take 9 cs))

-- the length of a tail: up to and including the first byte below 128, or `most` + 1; None if the bytes end before that
abbrev pub tail_length : ℕ → List ℕ → Option ℕ
tail_length most [] = None
tail_length zero (c ∷ cs) = Some 1
tail_length (suc most) (c ∷ cs) = if nat_lt c 128 then Some 1 else option_map suc (tail_length most cs)

-- a number and the length of its spelling, unless the number is too great
abbrev pub whole_of : ℕ → ℕ → Read
whole_of n used = if nat_lt n (2 ^ 64) then Value n used else Over

-- the result for a first byte of 240 or more and the bytes after it, of which the first `k` belong to the number
abbrev pub long_of : ℕ → List ℕ → Option ℕ → Read
long_of f cs None = Short
long_of f cs (Some k) = whole_of (f + added_from 4 (take k cs)) (suc k)

-- the one result that Reads allows, computed
unfoldable pub read_of : List ℕ → Read
read_of [] = Short
read_of (f ∷ cs) = if nat_lt f 240 then Value f 1 else long_of f cs (tail_length 8 cs)
