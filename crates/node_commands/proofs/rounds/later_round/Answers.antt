use Rattle.std.proofs.Common.{◌+◌, ◌*◌, ℕ, ap, subst, ◌∙◌}
use Rattle.std.specs.List.{AllByRecursion}
use Rattle.table_shards.specs.Rounds.{round_of_shards}
use Rattle.node_commands.specs.Rounds.{IsCountingTable}
use Rattle.node_commands.proofs.rounds.later_round.Goals as goal

pub returns-then-branch-clause-goes_on : goal.returns-then-branch-clause-goes_on
returns-then-branch-clause-goes_on g c =
    let total = ap (λ (n : ℕ). (n + 1) * c.from-2.result) c.from.ensures ∙ ap (λ (n : ℕ). (c.args.before + 1) * n) c.from-2.ensures in (
      c.in-Ok.ensures.quiet,
      c.in_ok-audit.ensures.audit.2 ∙ ap round_of_shards c.in-Ok.ensures.shards,
      subst (λ (n : ℕ). AllByRecursion (λ t. IsCountingTable c.args.asked.threads n t.cell) c.in_ok-audit.audit.unlocked.tables) total (c.in_ok-has_counting_table.ensures c.if-branch.true),
    )
