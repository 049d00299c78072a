-- A list is shortest if its byte count is.
use Rattle.std.proofs.Common.{◌≡◌, ◌≤◌, ℕ, List, sym, ap, ◌∙◌, length, arith}
use Rattle.std.proofs.lemmas.List.Concat.{length-flat_map}
use Rattle.table_types.specs.declared.update.Update.{Update}
use Rattle.peers_msg.specs.declared.message.Message.{Message}
use Rattle.peers_msg.specs.Spelling.{spelled, stream_of, size_of, size_of_all}
use Rattle.known_state.specs.State.{State, Legal}
use Rattle.known_state.specs.Known.{KnownState}
use Rattle.known_state.specs.Shortest.{Shortest}

-- messages have together as many bytes as their stream
pub size_of_stream : (ms : List Message) → size_of_all ms ≡ length (stream_of ms)
unfolding size_of
size_of_stream ms = sym (length-flat_map spelled ms)

-- a legal list with as many bytes as a shortest one is a shortest one
pub same_bytes : (k : KnownState) (us : List Update) (ms ns : List Message) (e : State) → Legal k.roster k.state ms us e → Shortest k us ns → stream_of ms ≡ stream_of ns → Shortest k us ms
same_bytes k us ms ns e legal shortest same = (e, legal, λ others end fits. no_longer others (shortest.2 others end fits))
  where
    sizes : size_of_all ms ≡ size_of_all ns
    sizes = size_of_stream ms ∙ ap (λ (bytes : List ℕ). length bytes) same ∙ sym (size_of_stream ns)

    no_longer : (others : List Message) → size_of_all ns ≤ size_of_all others → size_of_all ms ≤ size_of_all others
    no_longer others le = omega (arith, sizes)
