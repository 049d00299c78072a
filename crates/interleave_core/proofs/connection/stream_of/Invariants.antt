use Rattle.std.proofs.Common.{◌≡◌, ◌++◌, drop}
use Rattle.peers_msg.specs.Spelling.{stream_of}
use Rattle.interleave_core.proofs.connection.stream_of.Given as goal

abbrev pub invariant-loop-message : goal.invariant-loop-message
invariant-loop-message l = l.bytes.items ++ stream_of (drop l.message-index l.messages) ≡ stream_of l.messages
