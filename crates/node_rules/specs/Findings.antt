-- What looks at the tables that a peer defines find of those of this node.
use Rattle.std.specs.Prelude.{ℕ, Bool, true, false, not, ◌&&◌, ◌==◌, nat_lt, List, Option, None, if◌then◌else◌}
use Rattle.node_core.specs.Ticks.{later}
use Rattle.node_rules.specs.declared.findings.Found.{Found}
use Rattle.node_rules.specs.declared.findings.Found.TheVariants as found
use Rattle.node_rules.specs.declared.findings.LookTimes.{LookTimes}

-- a look comes if the peer has defined another number of tables than at the last one, or that was 2.5 s ago
abbrev pub is_look : ℕ → ℕ → LookTimes → Bool
is_look count now t = not (count == t.count && nat_lt now t.next)

abbrev pub looked : ℕ → ℕ → LookTimes → LookTimes
looked count now t = if is_look count now t then record { count = count; next = later 2500 now } else t

-- ---- what a look finds of a table: it is defined alike or otherwise, or isn't defined, and may be or would have been

abbrev pub found_of : Bool → Bool → Bool → Found
found_of true differs all_defined = if differs then found.Unlike else found.Alike
found_of false differs all_defined = if all_defined then found.Undefined else found.Awaited

-- it isn't defined, although it would have been, and hasn't been since
abbrev pub undefined_after : Found → Bool → Bool
undefined_after found.Awaited undefined = undefined
undefined_after found.Undefined undefined = true
undefined_after found.Alike undefined = false
undefined_after found.Unlike undefined = false

-- whatever comes after the log had room to say that a table is alike is news
abbrev pub said_after : Found → Bool → Option (List ℕ) → Option (List ℕ)
said_after found.Awaited has_room said = said
said_after found.Undefined has_room said = said
said_after found.Alike has_room said = if has_room then None else said
said_after found.Unlike has_room said = said
