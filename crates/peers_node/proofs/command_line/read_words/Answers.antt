use Rattle.std.proofs.Common.{Ok, ap, subst, sym, ◌∙◌}
use Rattle.clap.specs.Kinds.{HasKind}
use Rattle.clap.specs.Words.{fault_of, is_simple, is_simple_and_free, subcommand_of}
use Rattle.peers_node.specs.CommandLine.{Meets, texts}
use Rattle.peers_node.proofs.Choices.{program_is_free, program_is_simple, some_meets}
use Rattle.peers_node.proofs.command_line.read_words.Goals as goal

pub returns-in-Some-clause-ok : goal.returns-in-Some-clause-ok
returns-in-Some-clause-ok c =
    let words = texts c.args.words.now in
    let simple = ap is_simple c.in_ok-command.ensures ∙ program_is_simple in
    let free = ap is_simple_and_free c.in_ok-command.ensures ∙ program_is_free in
    let rows = (c.in-Ok.ensures.matches simple).1 ∙ ap (λ app. subcommand_of app words) c.in_ok-command.ensures in (
      subst (λ met. Meets met c.in-Some.choice) rows (some_meets _ _ _ c.in-Some.is c.in_ok-choice-in-Ok.ensures.some),
      ap (λ app. fault_of app words) (sym c.in_ok-command.ensures) ∙ c.in-Ok.ensures.kinds free,
    )

pub returns-in-Some-subcommand-clause-refused : goal.returns-in-Some-subcommand-clause-refused
returns-in-Some-subcommand-clause-refused c =
    let words = texts c.args.words.now in
    let simple = ap is_simple c.in_ok-command.ensures ∙ program_is_simple in
    let free = ap is_simple_and_free c.in_ok-command.ensures ∙ program_is_free in
    let rows = (c.in-Ok.ensures.matches simple).1 ∙ ap (λ app. subcommand_of app words) c.in_ok-command.ensures in (
      ap (λ app. fault_of app words) (sym c.in_ok-command.ensures) ∙ c.in-Ok.ensures.kinds free,
      λ chosen meets. c.in_ok-choice-in-Ok.ensures.none (ap (λ found. Ok found) c.in-None.is) chosen (subst (λ met. Meets met chosen) (sym rows) meets),
    )

pub returns-clause-refused : goal.returns-clause-refused
returns-clause-refused c =
    let words = texts c.args.words.now in
    let free = ap is_simple_and_free c.in_ok-command.ensures ∙ program_is_free in
    subst (λ app. HasKind (fault_of app words) c.in-Err.error) c.in_ok-command.ensures (c.in-Err.ensures.kinds free)
