use Rattle.std.proofs.Common.{◌∙◌, List, ap, map, ℕ}
use Rattle.std.specs.Prelude.{Ok, Option}
use Rattle.std.specs.Option.{option_or}
use Rattle.admin_text.specs.Before.{line_of}
use Rattle.admin_text.specs.PeerLines.{repeated, taken_name}
use Rattle.admin_text.specs.Statements.{said_by}
use Rattle.admin_text.specs.declared.faults.Fault.{Fault}
use Rattle.admin_text.specs.declared.line_kinds.LineKind.TheVariants.{Node}
use Rattle.admin_text.specs.declared.settings.Setting.TheVariants as settings
use Rattle.admin_text.proofs.OutcomeLaws.{named_fault}
use Rattle.admin_text.proofs.lines.node_named.Goals as goal

pub returns-in-Some : goal.returns-in-Some
returns-in-Some c =
    let before = map said_by c.args.before.now in
    let word = c.args.word.now in
    let wrong : List ℕ → Option Fault = λ n. option_or (repeated (line_of Node before)) (taken_name before n) in
    named_fault 1 word c.in_ok-name.name c.in-Some.fault wrong (λ n. Ok (settings.Node n)) c.in_ok-name.ensures
    (c.in-Some.ensures
    ∙ (ap (λ f. option_or f c.taken_name.result) (c.repeated.ensures ∙ ap repeated c.line_of.ensures)
    ∙ ap (λ f. option_or (repeated (line_of Node before)) f) c.taken_name.ensures))
