-- What became of the attempts to have a session with a peer.
use Rattle.std.specs.Prelude.{false, None}
use Rattle.node_core.specs.declared.reaching.Reaching.{Reaching}

abbrev pub untried : Reaching
untried = record { tried = false; failure = None; refusal = None }
