use Rattle.std.proofs.Common.{◌∙◌, ◌++◌, ap, codes}
use Rattle.std.specs.Fmt.{decimal}
use Rattle.admin_port.specs.Pages.{answer_head}
use Rattle.admin_port.proofs.Chains.{joined_pair}
use Rattle.admin_port.proofs.pages.push_answer_head.Goals as goal

pub returns : goal.returns
unfolding answer_head
returns c =
    let text = c.args.text.now.items in
    let one = c.push_field.new.text.items in
    let two = c.push_field-2.new.text.items in
    let three = c.push_word_and_number.new.text.items in
    let all = c.push_words.new.text.items in
    let close = codes "\r\nConnection: close\r\n\r\n" in
    let length = codes "\r\nContent-Length: " ++ (decimal c.args.length ++ close) in
    let type = codes "\r\nContent-Type: " ++ (c.args.kind.now ++ length) in
    joined_pair text (codes "HTTP/1.1 ") c.args.status.now type one all
    (c.in_ok-push_field.ensures ∙ ap (λ word. text ++ (codes "HTTP/1.1 " ++ word)) c.as_bytes.ensures.value)
    (joined_pair one (codes "\r\nContent-Type: ") c.args.kind.now length two all
    (c.in_ok-push_field-2.ensures ∙ ap (λ word. one ++ (codes "\r\nContent-Type: " ++ word)) c.as_bytes-2.ensures.value)
    (joined_pair two (codes "\r\nContent-Length: ") (decimal c.args.length) close three all c.in_ok-push_word_and_number.ensures
    c.in_ok-push_words.ensures))
