-- Why sessions end, in a word.
use Rattle.std.specs.Prelude.{ℕ, List, codes}
use Rattle.node_core.specs.declared.session_ends.SessionEnd.{SessionEnd}
use Rattle.node_core.specs.declared.session_ends.SessionEnd.TheVariants as ends

abbrev pub end_name : SessionEnd → List ℕ
end_name ends.End = codes "end"
end_name ends.Silent = codes "silent"
end_name ends.Fault = codes "fault"
end_name ends.Replaced = codes "replaced"
end_name ends.Device = codes "device"
end_name ends.Error = codes "error"
