-- A learner's faults: those of a decoder and two more (profile).
use Rattle.std.specs.Prelude.{ℕ, List, codes}
use Rattle.peers_msg.specs.Breaches.{breach_name}
use Rattle.known_state.specs.declared.effect.Refusal.{Refusal}
use Rattle.known_state.specs.declared.effect.Refusal.TheVariants as refusals
use Rattle.learner.specs.declared.fault.Fault.{Fault}
use Rattle.learner.specs.declared.fault.Fault.TheVariants as faults

-- why an update makes no step, as a learner's fault
abbrev pub as_fault : Refusal → Fault
as_fault refusals.NoNumber = faults.NoNumber
as_fault refusals.EmptySlot = faults.EmptySlot
as_fault refusals.Memory = faults.Memory

-- the name of a fault
abbrev pub fault_name : Fault → List ℕ
fault_name (faults.Breach breach) = breach_name breach
fault_name faults.Memory = codes "Memory"
fault_name faults.Closed = codes "Closed"
fault_name faults.EmptySlot = codes "EmptySlot"
fault_name faults.NoNumber = codes "NoNumber"
