-- Writes one after another.
use Rattle.std.proofs.Common.{ap, ◌<◌, ◌⊎◌, inl, inr, ◌≡◌, ◌+◌, ◌-◌, ◌^◌, ◌≤◌, ℕ, Bool, true, false, List, [], ◌++◌, length, take, drop, arith, length-append, length-take, subst, sym, refl, Option, Some, None, Ok, Err}
use Rattle.std.specs.Io.KnownBytes.{Appends, Keeps}
use Rattle.std.proofs.KnownBytes.{Appends-nil, Appends-trans}
use Rattle.std.proofs.lemmas.Bool.{cases_lt, ne_eqb}
use Rattle.std.proofs.lemmas.List.{append-nil, take_rest}
use Rattle.std.proofs.Math.Seq.{take-add}
use Rattle.peers_devices.specs.declared.writes.Unwritten.{Unwritten}
use Rattle.peers_devices.specs.declared.writes.Unwritten.TheVariants as unwritten
use Rattle.peers_devices.specs.Failures.{Rose}
use Rattle.peers_devices.specs.Writing.{AreWritten, Balks, CountsIf, CountsOne, IsOneWrite, IsWornOut, RoseBy, WriteCounts, Written, most_retries, took_none}
use Rattle.peers_devices.proofs.Written.{rest_of}

-- ---- counts that rise

-- a count rose by so much, and then by more
pub rose_twice : (first more a b c : ℕ) → RoseBy first a b → RoseBy more b c → RoseBy (first + more) a c
rose_twice first more a b c (inl rose) (inl rose') = inl (omega (arith, rose, rose'))
rose_twice first more a b c (inl rose) (inr (full, most)) = inr (full, omega (arith, rose, most))
rose_twice first more a b c (inr (full, most)) (inl rose') = inr (omega (arith, full, rose'), omega (arith, most, rose'))
rose_twice first more a b c (inr (full, most)) (inr (full', most')) = inr (full', omega (arith, most, most'))

-- a count that is no less at first rose too
pub rose_before : (a b c : ℕ) → a ≤ b → Rose b c → Rose a c
rose_before a b c less (inl more) = inl (omega (arith, less, more))
rose_before a b c less (inr greatest) = inr greatest

worn_before : (a b c : ℕ) → a ≤ b → IsWornOut b c → IsWornOut a c
worn_before a b c less (inl more) = inl (omega (arith, less, more))
worn_before a b c less (inr greatest) = inr greatest

one_rises : (a b : ℕ) → CountsOne a b → Rose a b
one_rises a b (one, no_less) = elim (cases_lt a (2 ^ 64 - 1)) [
  | inl fewer ↦ inl (omega (arith, one, fewer))
  | inr greatest ↦ inr (omega (arith, one, greatest))
]

-- ---- writes

-- nothing was written
pub writes_nothing : (a : Written) → AreWritten a a []
writes_nothing a = (Appends-nil a.contents, inl (omega arith), omega arith, omega arith)

-- these bytes, and then more
pub writes_then : (a b c : Written) (bytes more : List ℕ) → AreWritten a b bytes → AreWritten b c more → AreWritten a c (bytes ++ more)
writes_then a b c bytes more (known, taken, idle, retried) (known', taken', idle', retried') = (
  Appends-trans a.contents b.contents c.contents bytes more known known',
  subst (λ (n : ℕ). RoseBy n a.counts.taken c.counts.taken) (sym (length-append bytes more)) (rose_twice (length bytes) (length more) _ _ _ taken taken'),
  omega (arith, idle, idle'),
  omega (arith, retried, retried'),
)

-- a writer balked after other writes
pub balks_later : (before after : ℕ) (a b : Written) (c : WriteCounts) (bytes : List ℕ) → AreWritten a b bytes → Balks before after b.counts c → Balks before after a.counts c
balks_later before after a b c bytes (known, taken, idle, retried) (inl rose) = inl rose
balks_later before after a b c bytes (known, taken, idle, retried) (inr (inl rose)) = inr (inl (rose_before a.counts.idle b.counts.idle c.idle idle rose))
balks_later before after a b c bytes (known, taken, idle, retried) (inr (inr worn)) = inr (inr (worn_before a.counts.retried b.counts.retried c.retried retried worn))

-- ---- one write

keeps_appends : (a b : Option (List ℕ)) → Keeps a b → Appends a b []
keeps_appends None b keeps = tt
keeps_appends (Some xs) None keeps = absurd keeps
keeps_appends (Some xs) (Some ys) keeps = rw (append-nil xs) keeps

counts_no_less : (one : Bool) (a b : ℕ) → CountsIf one a b → a ≤ b
counts_no_less true a b counts = counts.1
counts_no_less false a b counts = omega (arith, counts)

-- it took these bytes
pub wrote_some : (a b : Written) (bytes : List ℕ) (count : ℕ) → IsOneWrite a bytes (Ok count) b → AreWritten a b (take count bytes)
wrote_some a b bytes count (within, appends, taken, idle, retried) =
    let all : length (take count bytes) ≡ count = omega (arith, within, length-take count bytes) in (
      appends,
      subst (λ (n : ℕ). RoseBy n a.counts.taken b.counts.taken) (sym all) taken,
      counts_no_less (took_none count bytes) a.counts.idle b.counts.idle idle,
      omega (arith, retried),
    )

-- it failed, and took none
pub wrote_none : (a b : Written) (bytes : List ℕ) (why : Unwritten) → IsOneWrite a bytes (Err why) b → AreWritten a b []
wrote_none a b bytes unwritten.Failed (keeps, same) =
    let taken : b.counts.taken ≡ a.counts.taken = ap (λ (c : WriteCounts). c.taken) same in
    let idle : b.counts.idle ≡ a.counts.idle = ap (λ (c : WriteCounts). c.idle) same in
    let retried : b.counts.retried ≡ a.counts.retried = ap (λ (c : WriteCounts). c.retried) same in
    (keeps_appends a.contents b.contents keeps, inl (omega (arith, taken)), omega (arith, idle), omega (arith, retried))
wrote_none a b bytes unwritten.Uncounted (keeps, taken, idle, retried) =
    (keeps_appends a.contents b.contents keeps, inl (omega (arith, taken)), omega (arith, idle), retried.1)

-- it took none of its bytes
pub none_rises : (a b : Written) (bytes : List ℕ) → 0 < length bytes → IsOneWrite a bytes (Ok 0) b → Rose a.counts.idle b.counts.idle
none_rises a b bytes some (within, appends, taken, idle, retried) =
    let none : took_none 0 bytes ≡ true = rw (ne_eqb (length bytes) 0 (λ (is : length bytes ≡ 0). let bad : ⊥ = omega (arith, some, is) in bad)) refl in
    one_rises a.counts.idle b.counts.idle (subst (λ (t : Bool). CountsIf t a.counts.idle b.counts.idle) none idle)

-- at least `times` more writes failed without being counted since the count was `start`, or the count is full
abbrev pub HasRetried : ℕ → ℕ → ℕ → Type 0
HasRetried start times now = (start + times ≤ now) ⊎ (now ≡ 2 ^ 64 - 1)

pub retried_once_more : (start times now then : ℕ) → HasRetried start times now → CountsOne now then → HasRetried start (times + 1) then
retried_once_more start times now then (inl so_far) (one, no_less) = elim (cases_lt now (2 ^ 64 - 1)) [
  | inl fewer ↦ inl (omega (arith, one, fewer, so_far))
  | inr greatest ↦ inr (omega (arith, one, greatest))
]
retried_once_more start times now then (inr full) (one, no_less) = inr (omega (arith, one, full))

-- one more than a million
pub worn_out : (start now : ℕ) → HasRetried start (most_retries + 1) now → IsWornOut start now
worn_out start now (inl so_far) = inl (omega (arith, so_far))
worn_out start now (inr full) = inr full

-- ---- writes of what is left

-- the first bytes, and then the first of the rest
pub writes_more : (a b c : Written) (sent count : ℕ) (bytes : List ℕ) → AreWritten a b (take sent bytes) → AreWritten b c (take count (rest_of sent bytes)) → AreWritten a c (take (sent + count) bytes)
writes_more a b c sent count bytes before after =
    let more : AreWritten b c (take count (drop sent bytes)) = subst (λ (r : List ℕ). AreWritten b c (take count r)) (take_rest bytes sent) after in
    subst (λ (r : List ℕ). AreWritten a c r) (sym (take-add sent count bytes)) (writes_then a b c _ _ before more)

-- the first bytes, and then none
pub writes_no_more : (a b c : Written) (bytes : List ℕ) → AreWritten a b bytes → AreWritten b c [] → AreWritten a c bytes
writes_no_more a b c bytes before after = subst (λ (r : List ℕ). AreWritten a c r) (append-nil bytes) (writes_then a b c bytes [] before after)
