-- The phases of a session (profile).
use Rattle.std.specs.Prelude.{ℕ, List}
use Rattle.peers_hello.specs.declared.hello.Hello.{Hello as OwnHello}
use Rattle.session_core.specs.declared.phase.Greeter.{Greeter}
use Rattle.session_core.specs.Courses.{Course}

-- New: the connection isn't established yet, and the session sends this hello first. Hello: the hello or the status is
-- incomplete, and these bytes of it were received. Open: both sides send messages. Ended: the session is over.
pub data Phase : Type 0 where
  New : OwnHello → Course → Phase
  Hello : Greeter → List ℕ → Course → Phase
  Open : Course → Phase
  Ended : Phase
