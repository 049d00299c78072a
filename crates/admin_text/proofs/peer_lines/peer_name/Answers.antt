use Rattle.std.proofs.Common.{◌∙◌, List, ap, map, ℕ}
use Rattle.std.specs.Prelude.{Ok, Option}
use Rattle.std.specs.Option.{option_or}
use Rattle.admin_text.specs.PeerLines.{peers_fault, taken_name}
use Rattle.admin_text.specs.Statements.{said_by}
use Rattle.admin_text.specs.declared.faults.Fault.{Fault}
use Rattle.admin_text.proofs.OutcomeLaws.{named_fault}
use Rattle.admin_text.proofs.peer_lines.peer_name.Goals as goal

pub returns-in-Some : goal.returns-in-Some
returns-in-Some c =
    let before = map said_by c.args.before.now in
    let word = c.args.word.now in
    let wrong : List ℕ → Option Fault = λ n. option_or (taken_name before n) (peers_fault before) in
    named_fault 1 word c.in_ok-name.name c.in-Some.fault wrong (λ n. Ok n) c.in_ok-name.ensures
    (c.in-Some.ensures ∙ (ap (λ f. option_or f c.peers_fault.result) c.taken_name.ensures ∙ ap (λ f. option_or (taken_name before word) f) c.peers_fault.ensures))
