-- What the first bytes of a session amount to (profile).
use Rattle.std.specs.Prelude.{◌≡◌, ℕ, Bool, true, false, ◌==◌, List, ◌++◌, Option, Some, None, drop}
use Rattle.table_types.specs.declared.version.Version.{Version}
use Rattle.peers_hello.specs.declared.hello.Answer.{Answer}
use Rattle.peers_hello.specs.declared.hello.Answer.TheVariants as answers
use Rattle.peers_hello.specs.declared.status.Status.{Status}
use Rattle.peers_hello.specs.declared.status.Status.TheVariants as statuses

-- the session opens with this version, and these bytes are messages; it is refused, with this code if there is one; or it
-- awaits more
pub data Meeting : Type 0 where
  Opens : Version → List ℕ → Meeting
  Refuses : Option ℕ → Meeting
  Waits : Meeting

abbrev pub opens_if : Bool → Version → ℕ → List ℕ → Meeting
opens_if true version code rest = Opens version rest
opens_if false version code rest = Refuses (Some code)

-- by the status that answers a hello of this version
abbrev pub by_status : Version → Status → List ℕ → Meeting
by_status version statuses.More bytes = Waits
by_status version (statuses.Code code used) bytes = opens_if (code == 200) version code (drop used bytes)
by_status version (statuses.Other used) bytes = Refuses None

abbrev pub by_answer : Answer → List ℕ → Meeting
by_answer answers.More bytes = Waits
by_answer (answers.Accepted name version used) bytes = Opens version (drop used bytes)
by_answer (answers.Refused code used) bytes = Refuses (Some code)

-- with more bytes after it, `m` is decided so
abbrev pub Stays : Meeting → List ℕ → Meeting → Type 0
Stays (Opens version rest) more m = m ≡ Opens version (rest ++ more)
Stays (Refuses code) more m = m ≡ Refuses code
Stays Waits more m = Unit {0}
