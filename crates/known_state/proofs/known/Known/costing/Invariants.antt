use Rattle.std.proofs.Common.{take}
use Rattle.known_state.specs.Cost.{knowledge_of}
use Rattle.known_state.specs.Knowing.{known_so_far}
use Rattle.known_state.proofs.CostsAddUp.{AreCosted}
use Rattle.known_state.proofs.known.Known.costing.Given as goal

abbrev pub invariant-loop-update : goal.invariant-loop-update
invariant-loop-update l =
    AreCosted l.self.roster (knowledge_of l.self.state) (take l.update-index l.updates) l.update-index l.requests.items l.full (known_so_far l.knowledge)
