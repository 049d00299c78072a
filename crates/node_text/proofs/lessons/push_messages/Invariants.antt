use Rattle.std.proofs.Common.{◌≡◌, ◌++◌, ℕ, List, flat_map, length}
use Rattle.std.specs.List.{AllByRecursion}
use Rattle.peers_msg.specs.Framing.{IsFrame}
use Rattle.node_text.specs.Lessons.{joined, line_of}
use Rattle.node_text.proofs.lessons.push_messages.Given as goal

abbrev pub invariant-loop-message : goal.invariant-loop-message
invariant-loop-message l =
    (frames : List (List ℕ)) → AllByRecursion IsFrame frames → l.bytes ≡ joined frames
    → (left : List (List ℕ)) × AllByRecursion IsFrame left × (l.rest ≡ joined left)
    × (l.text.items ++ flat_map line_of left ≡ l.fn.text.items ++ flat_map line_of frames)

abbrev pub decreases-loop-message : goal.decreases-loop-message
decreases-loop-message l = length l.rest
