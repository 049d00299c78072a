use Rattle.std.proofs.Common.{◌≡◌}
use Rattle.std.specs.List.{AllByRecursion}
use Rattle.std.specs.Vec.Iter.{into_iter_items}
use Rattle.node_commands.specs.Tracks.{HasDoneItsPart}
use Rattle.node_commands.proofs.rounds.join_all.Given as goal

abbrev pub invariant-loop-handle : goal.invariant-loop-handle
invariant-loop-handle g l =
    AllByRecursion (λ handle. handle.promise ≡ l.fn.asked) (into_iter_items l.handle-iterator)
    × AllByRecursion (HasDoneItsPart l.fn.asked.threads l.fn.asked.tracks) l.seats.items
