-- Whether a peer is another process than before, by the pids that its hellos say.
use Rattle.std.specs.Prelude.{◌==◌, ℕ, Option, None, Some, if◌then◌else◌}
use Rattle.node_core.specs.declared.processes.Process.{Process}
use Rattle.node_core.specs.declared.processes.Process.TheVariants as processes

-- what the pid of a hello says, given that of the hello before
abbrev pub process_by : Option ℕ → Option ℕ → Process
process_by last None = processes.Unknown
process_by None (Some pid) = processes.Unknown
process_by (Some last) (Some pid) = if last == pid then processes.Same else processes.New

-- a connection without a hello that says a pid changes nothing
abbrev pub pid_after : Option ℕ → Option ℕ → Option ℕ
pid_after last None = last
pid_after last (Some pid) = Some pid
