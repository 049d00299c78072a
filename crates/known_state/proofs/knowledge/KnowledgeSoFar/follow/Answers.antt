use Rattle.std.proofs.Common.{List, ℕ, Some, ap, ◌∙◌}
use Rattle.known_state.specs.Knowing.{known_so_far}
use Rattle.known_state.proofs.KnowledgeFollowsUpdates.{followed}
use Rattle.known_state.proofs.knowledge.KnowledgeSoFar.follow.Goals as goal

pub returns-clause-followed : goal.returns-clause-followed
returns-clause-followed c =
    ap (λ (sent : List (ℕ × ℕ)). known_so_far (record { known = c.args.self.now.known; selected = Some c.args.update.now.table; sent = sent })) c.in_ok-set.ensures.set
    ∙ followed c.args.self.now c.args.update.now
