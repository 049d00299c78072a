-- How a device counts its failed calls, and what the counts say.
use Rattle.std.specs.Prelude.{◌≡◌, ◌⊎◌, ℕ, ◌+◌, ◌-◌, ◌^◌, ◌<◌, min, Result, Ok, Err}
use Rattle.peers_devices.specs.declared.output.WriteError.{WriteError}
use Rattle.peers_devices.specs.declared.output.WriteError.TheVariants.{Failed, Stuck}

-- a call that fails adds one, up to the greatest count; any other call adds nothing
abbrev pub IsCounted : {A E : Type 0} → Result A E → ℕ → ℕ → Type 0
IsCounted (Ok x) old new = new ≡ old
IsCounted (Err e) old new = new ≡ min (old + 1) (2 ^ 64 - 1)

-- the count rose: it is greater, or is at its greatest value, where it stays
abbrev pub Rose : ℕ → ℕ → Type 0
Rose before after = (before < after) ⊎ (after ≡ 2 ^ 64 - 1)

-- the number of bytes written before a write failed
abbrev pub sent_of : WriteError → ℕ
sent_of (Failed sent) = sent
sent_of (Stuck sent) = sent
