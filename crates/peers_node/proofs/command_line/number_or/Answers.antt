use Rattle.std.proofs.Common.{ap, inr, refl, sym, ◌∙◌}
use Rattle.std.specs.Prelude.{option_map}
use Rattle.clap.specs.Words.{found_of, rows_of}
use Rattle.peers_node.proofs.Numbers.{number_or_met, number_or_not}
use Rattle.peers_node.proofs.command_line.number_or.Goals as goal

pub returns-in-Some-clause-some : goal.returns-in-Some-clause-some
returns-in-Some-clause-some c = number_or_met (rows_of (found_of c.args.matches.now)) c.args.option.now c.args.most c.args.otherwise c.number_met.result c.number_met.ensures.some

pub returns-in-Some-clause-none : goal.returns-in-Some-clause-none
returns-in-Some-clause-none c = λ gone n has.
    number_or_not (rows_of (found_of c.args.matches.now)) c.args.option.now c.in-Some.field-0.now c.args.most c.args.otherwise n (sym c.text_met.ensures ∙ ap (option_map (λ t. t.now)) c.in-Some.is) (c.number_met.ensures.none gone n) has

pub returns-in-None-clause-some : goal.returns-in-None-clause-some
returns-in-None-clause-some c = inr (sym c.text_met.ensures ∙ ap (option_map (λ t. t.now)) c.in-None.is, refl)
