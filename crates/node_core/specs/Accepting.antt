-- Whether connections can be accepted at a port, as far as the log says it.
use Rattle.std.specs.Prelude.{ℕ, Bool, true, false, ◌==◌, ◌||◌, Option, None, Some, is_some, if◌then◌else◌}
use Rattle.node_core.specs.declared.accepting.Want.{Want}
use Rattle.node_core.specs.declared.accepting.Want.TheVariants as wants

-- what the process lacks, by the number of the system for a call that failed (Linux: EMFILE, ENFILE, ENOMEM and ENOBUFS)
abbrev pub want_of : ℕ → Option Want
want_of code =
    if code == 24 then Some wants.Descriptors
    else (if code == 23 then Some wants.HostDescriptors else (if code == 12 || code == 105 then Some wants.Memory else None))

-- what the log is to say: what the process lacks, unless it says that already
abbrev pub news : Bool → ℕ → Option Want
news true code = None
news false code = want_of code

-- whether the log says it behind that
abbrev pub failed : Bool → ℕ → Bool
failed true code = true
failed false code = is_some (want_of code)
