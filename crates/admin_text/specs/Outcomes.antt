-- What is read of a line, or what is wrong with it (profile).
use Rattle.std.specs.Prelude.{Option, Some, None, Result, Ok, Err}
use Rattle.admin_text.specs.declared.faults.Fault.{Fault}
use Rattle.admin_text.specs.declared.line_refusals.LineRefusal.{LineRefusal}
use Rattle.admin_text.specs.declared.line_refusals.LineRefusal.TheVariants as refusals

-- what was read leads on, unless something is wrong with it
abbrev pub led_on : {A B : Type 0} → Result A Fault → (A → Result B Fault) → Result B Fault
led_on (Err fault) next = Err fault
led_on (Ok value) next = next value

-- this, unless something else is wrong
abbrev pub unless : {A : Type 0} → Option Fault → Result A Fault → Result A Fault
unless None outcome = outcome
unless (Some fault) outcome = Err fault

-- a value, or the fault if there is none
abbrev pub or_fault : {A : Type 0} → Option A → Fault → Result A Fault
or_fault None fault = Err fault
or_fault (Some value) fault = Ok value

-- what is wrong, if something is
abbrev pub fault_in : {A : Type 0} → Result A Fault → Option Fault
fault_in (Ok value) = None
fault_in (Err fault) = Some fault

-- P holds of what was read or is wrong; nothing was, if memory ran out
abbrev pub Gives : {A : Type 0} → (Result A Fault → Type 0) → Result A LineRefusal → Type 0
Gives P (Ok value) = P (Ok value)
Gives P (Err (refusals.Fault fault)) = P (Err fault)
Gives P (Err refusals.Memory) = Unit {0}
