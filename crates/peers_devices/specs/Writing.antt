-- What the writes to a device come to.
use Rattle.std.specs.Prelude.{◌≡◌, ◌⊎◌, ◌≤◌, ◌<◌, ℕ, ◌+◌, ◌-◌, ◌^◌, Bool, true, false, ◌==◌, ◌&&◌, not, min, List, length, take, Option, Result, Ok, Err}
use Rattle.std.specs.Io.KnownBytes.{Appends, Keeps}
use Rattle.peers_devices.specs.declared.writes.Unwritten.{Unwritten}
use Rattle.peers_devices.specs.declared.writes.Unwritten.TheVariants as unwritten
use Rattle.peers_devices.specs.declared.output.WriteError.{WriteError}
use Rattle.peers_devices.specs.declared.output.WriteError.TheVariants as errors
use Rattle.peers_devices.specs.Failures.{Rose}

-- how many bytes writes took; how many of them took none of theirs without failing; and how many failed, and the device didn't count it
pub record WriteCounts : Type 0 where
  pub taken : ℕ
  pub idle : ℕ
  pub retried : ℕ

-- no write yet
abbrev pub no_writes : WriteCounts
no_writes = record { taken = 0; idle = 0; retried = 0 }

-- the bytes that a writer holds, if they are known, and what its writes came to
pub record Written : Type 0 where
  pub contents : Option (List ℕ)
  pub counts : WriteCounts

abbrev pub written : Option (List ℕ) → WriteCounts → Written
written contents counts = record { contents = contents; counts = counts }

-- a count rose by so much; or by no more, and is at its greatest value, where it stays
abbrev pub RoseBy : ℕ → ℕ → ℕ → Type 0
RoseBy more before after = (after ≡ before + more) ⊎ ((2 ^ 64 - 1 ≤ after) × (after ≤ before + more))

-- one more is counted, up to the greatest count
abbrev pub CountsOne : ℕ → ℕ → Type 0
CountsOne before after = (after ≡ min (before + 1) (2 ^ 64 - 1)) × (before ≤ after)

abbrev pub CountsIf : Bool → ℕ → ℕ → Type 0
CountsIf true before after = CountsOne before after
CountsIf false before after = after ≡ before

-- a write took none of its bytes, and had some
abbrev pub took_none : ℕ → List ℕ → Bool
took_none count bytes = count == 0 && not (length bytes == 0)

-- What one write of these bytes comes to: it takes the first of them, or none and fails, which the device counts or doesn't.
abbrev pub IsOneWrite : Written → List ℕ → Result ℕ Unwritten → Written → Type 0
IsOneWrite a bytes (Ok count) b =
    (count ≤ length bytes)
    × Appends a.contents b.contents (take count bytes)
    × RoseBy count a.counts.taken b.counts.taken
    × CountsIf (took_none count bytes) a.counts.idle b.counts.idle
    × (b.counts.retried ≡ a.counts.retried)
IsOneWrite a bytes (Err unwritten.Failed) b = Keeps a.contents b.contents × (b.counts ≡ a.counts)
IsOneWrite a bytes (Err unwritten.Uncounted) b =
    Keeps a.contents b.contents
    × (b.counts.taken ≡ a.counts.taken)
    × (b.counts.idle ≡ a.counts.idle)
    × CountsOne a.counts.retried b.counts.retried

-- Writes took exactly these bytes, all together.
abbrev pub AreWritten : Written → Written → List ℕ → Type 0
AreWritten a b bytes =
    Appends a.contents b.contents bytes
    × RoseBy (length bytes) a.counts.taken b.counts.taken
    × (a.counts.idle ≤ b.counts.idle)
    × (a.counts.retried ≤ b.counts.retried)

-- the most writes that may fail without being counted before a writer is given up
abbrev pub most_retries : ℕ
most_retries = 1000000

-- more than a million writes failed without being counted; or they are at the greatest count, where it stays
abbrev pub IsWornOut : ℕ → ℕ → Type 0
IsWornOut before after = (before + most_retries < after) ⊎ (after ≡ 2 ^ 64 - 1)

-- Why a writer is given up, whose own count of failed calls went from `before` to `after` and what its writes came to from `a` to `b`:
-- that count rose; or a write took none of its bytes, or more than a million failed without being counted.
abbrev pub Balks : ℕ → ℕ → WriteCounts → WriteCounts → Type 0
Balks before after a b = Rose before after ⊎ (Rose a.idle b.idle ⊎ IsWornOut a.retried b.retried)

-- the same, by the error
abbrev pub BalksBy : WriteError → ℕ → ℕ → WriteCounts → WriteCounts → Type 0
BalksBy (errors.Failed sent) before after a b = Rose before after
BalksBy (errors.Stuck sent) before after a b = Rose a.idle b.idle ⊎ IsWornOut a.retried b.retried
