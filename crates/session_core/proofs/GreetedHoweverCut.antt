-- What the first bytes of a session amount to, with more bytes after them.
use Rattle.std.proofs.Common.{ℕ, List, ◌++◌}
use Rattle.peers_hello.specs.Hellos.{answer_of}
use Rattle.peers_hello.specs.Statuses.{status_of}
use Rattle.peers_hello.specs.Meetings.{Meeting, Stays, by_answer, by_status}
use Rattle.peers_hello.proofs.MoreBytes.{answer_stays, status_stays}
use Rattle.session_core.specs.declared.phase.Greeter.{Greeter}
use Rattle.session_core.specs.declared.phase.Greeter.TheVariants as greeters

abbrev pub meeting : Greeter → List ℕ → Meeting
meeting (greeters.Connects version) bytes = by_status version (status_of bytes) bytes
meeting (greeters.Accepts own peers) bytes = by_answer (answer_of own peers bytes) bytes

pub meeting_stays : (greeter : Greeter) (bytes more : List ℕ) → Stays (meeting greeter bytes) more (meeting greeter (bytes ++ more))
meeting_stays (greeters.Connects version) bytes more = status_stays version bytes more
meeting_stays (greeters.Accepts own peers) bytes more = answer_stays own peers bytes more
