-- Why bytes are not a message (profile).
use Rattle.std.specs.Prelude.{ℕ, List, codes}
use Rattle.peers_msg.specs.declared.fault.Breach.{Breach}
use Rattle.peers_msg.specs.declared.fault.Breach.TheVariants as breaches

-- the name of a breach
abbrev pub breach_name : Breach → List ℕ
breach_name breaches.BadInteger = codes "BadInteger"
breach_name breaches.SizeLimit = codes "SizeLimit"
breach_name breaches.BadDefinition = codes "BadDefinition"
breach_name breaches.UnknownDataType = codes "UnknownDataType"
breach_name breaches.NoTable = codes "NoTable"
breach_name breaches.BadKey = codes "BadKey"
breach_name breaches.BadValue = codes "BadValue"
breach_name breaches.Trailing = codes "Trailing"
