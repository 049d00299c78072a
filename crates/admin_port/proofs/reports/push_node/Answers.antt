use Rattle.std.proofs.Common.{◌∙◌, ◌++◌, [], ◌∷◌, ap, codes}
use Rattle.std.specs.Fmt.{decimal}
use Rattle.admin_port.specs.Reports.{node_line, yes_or_no}
use Rattle.admin_port.proofs.Chains.{joined_pair}
use Rattle.admin_port.proofs.reports.push_node.Goals as goal

pub returns : goal.returns
unfolding node_line
returns c =
    let text = c.args.text.now.items in
    let one = c.push_field.new.text.items in
    let two = c.push_word_and_number.new.text.items in
    let three = c.push_field-2.new.text.items in
    let all = c.push_line_end.new.text.items in
    let up_to_date = codes " up_to_date=" ++ (yes_or_no c.args.up_to_date ++ 10 ∷ []) in
    let moment = codes " moment=" ++ (decimal c.args.moment ++ up_to_date) in
    joined_pair text (codes "node ") c.args.name.now moment one all
    (c.in_ok-push_field.ensures ∙ ap (λ name. text ++ (codes "node " ++ name)) c.as_slice.ensures.bytes)
    (joined_pair one (codes " moment=") (decimal c.args.moment) up_to_date two all
    (c.in_ok-push_word_and_number.ensures ∙ ap (λ number. one ++ (codes " moment=" ++ decimal number)) c.milliseconds.ensures.value)
    (joined_pair two (codes " up_to_date=") (yes_or_no c.args.up_to_date) (10 ∷ []) three all
    (c.in_ok-push_field-2.ensures ∙ ap (λ word. two ++ (codes " up_to_date=" ++ word)) (c.as_bytes.ensures.value ∙ c.yes_or_no.ensures))
    c.in_ok-push_line_end.ensures))
