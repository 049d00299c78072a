use Rattle.std.proofs.Common.{◌≡◌, ◌∙◌, ap, codes, refl, sym}
use Rattle.std.specs.Prelude.{None, Some}
use Rattle.clap.specs.Words.{found_of, rows_of, subcommand_rows_of}
use Rattle.peers_node.specs.CommandLine.{HasOptions}
use Rattle.peers_node.proofs.Choices.{meets_by, named}
use Rattle.peers_node.proofs.NamesApart.{round_is}
use Rattle.peers_node.proofs.command_line.chosen.Goals as goal

pub returns-in-Some-round-default-clause-none : goal.returns-in-Some-round-default-clause-none
returns-in-Some-round-default-clause-none c = λ none chosen meets.
    let m = c.args.matches.now in
    let arm = c.in-Some-round-default in
    let rows = rows_of (found_of arm.options.now) in
    let name = sym (named m) ∙ sym arm.ensures.name ∙ ap (λ t. Some t) arm.is-round in
    let by = meets_by (subcommand_rows_of m) (codes "round") rows chosen name (sym arm.ensures.rows) meets in
    let round = round_is (λ o. HasOptions rows o) (codes "round") chosen refl by.0 by.1 in
    let gone : c.round_met.result ≡ None = cc in
    c.round_met.ensures.none gone round.0 round.1 round.2 round.3
