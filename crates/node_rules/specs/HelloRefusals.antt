-- Why hellos are refused, and what of them is said.
use Rattle.std.specs.Prelude.{ℕ, Bool, true, false, ◌==◌, Option, None, Some, if◌then◌else◌}
use Rattle.node_core.specs.declared.events.HelloRefusal.{HelloRefusal}
use Rattle.node_core.specs.declared.events.HelloRefusal.TheVariants as refusals
use Rattle.node_rules.specs.declared.hello_refusals.SaidPart.{SaidPart}
use Rattle.node_rules.specs.declared.hello_refusals.SaidPart.TheVariants as parts

-- what the protocol's statuses say
abbrev pub refusal_of : ℕ → HelloRefusal
refusal_of status =
    if status == 502 then refusals.Version
    else (if status == 503 then refusals.OtherNode else (if status == 504 then refusals.Stranger else refusals.Garbled))

-- the protocol refuses it; or its sender is a peer, and may not come from where it came
abbrev pub refusal : Option ℕ → Bool → Option HelloRefusal
refusal (Some status) may_come = Some (refusal_of status)
refusal None may_come = if may_come then None else Some refusals.Elsewhere

-- one that isn't whole in time: something of it came, or nothing
abbrev pub late_refusal : Bool → HelloRefusal
late_refusal came = if came then refusals.Unfinished else refusals.Missing

-- what isn't a hello names nobody
abbrev pub names_sender : HelloRefusal → Bool
names_sender refusals.Garbled = false
names_sender refusals.Version = true
names_sender refusals.OtherNode = true
names_sender refusals.Stranger = true
names_sender refusals.Elsewhere = true
names_sender refusals.Missing = false
names_sender refusals.Unfinished = false

-- what is wrong in it
abbrev pub said_in : HelloRefusal → SaidPart
said_in refusals.Version = parts.Version
said_in refusals.OtherNode = parts.CalledNode
said_in refusals.Garbled = parts.Nothing
said_in refusals.Stranger = parts.Nothing
said_in refusals.Elsewhere = parts.Nothing
said_in refusals.Missing = parts.Nothing
said_in refusals.Unfinished = parts.Nothing
