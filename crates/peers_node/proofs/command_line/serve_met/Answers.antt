use Rattle.clap.specs.Words.{found_of, rows_of}
use Rattle.peers_node.proofs.Choices.{served_so}
use Rattle.peers_node.proofs.command_line.serve_met.Goals as goal

pub returns-in_default-clause-none : goal.returns-in_default-clause-none
returns-in_default-clause-none c = λ _ link has. c.number_or.ensures.none c.in_default.is link.sessions has.1

pub returns-clause-some : goal.returns-clause-some
returns-clause-some c = served_so (rows_of (found_of c.args.options.now)) _ c.link_met.result c.in-Some.ensures.some c.link_met.ensures.some

pub returns-clause-none : goal.returns-clause-none
returns-clause-none c = λ none link has. c.link_met.ensures.none none link has.0
