use Rattle.std.proofs.Common.{◌∙◌, ◌++◌, ap, arith, map}
use Rattle.admin_text.specs.Statements.{said_by}
use Rattle.admin_text.proofs.StatementLaws.{some_said}
use Rattle.std.proofs.lemmas.List.{length-map, map-append}
use Rattle.admin_text.proofs.statements.push_statement.Goals as goal

pub returns-in_ok-push : goal.returns-in_ok-push
returns-in_ok-push c =
    let before = c.args.statements.now.items in
    let long = length-map c.in_ok-words.words.items (λ word. word.now) in
    ap (map said_by) c.in_ok-push.ensures.items
    ∙ map-append said_by before _
    ∙ ap (λ more. map said_by before ++ more)
    (some_said c.args.number (map (λ word. word.now) c.in_ok-words.words.items) _ _ c.is_empty.result c.in_ok-words.ensures
    (omega (arith, long, c.in_ok-words.words.ok.0)) c.is_empty.ensures c.if-not-is_empty.true)
