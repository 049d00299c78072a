use Rattle.std.proofs.Common.{◌∙◌, ◌-◌, ◌++◌, ap, codes}
use Rattle.std.specs.Fmt.{decimal}
use Rattle.admin_port.specs.DefinitionWords.{key_length_text, string_text}
use Rattle.admin_port.proofs.Chains.{joined}
use Rattle.admin_port.proofs.definition_words.push_string_length.Goals as goal

pub returns : goal.returns
unfolding string_text
returns c =
    let text = c.args.text.now.items in
    let one = c.push_words.new.text.items in
    let two = c.push_number.new.text.items in
    let all = c.push_key_length.new.text.items in
    let len = decimal (c.args.key_length - 1) in
    let behind = key_length_text c.args.key_length in
    joined text (codes "type string len ") (len ++ behind) one all c.in_ok-push_words.ensures
    (joined one len behind two all (c.in_ok-push_number.ensures ∙ ap (λ number. one ++ decimal number) c.saturating_sub.ensures) c.in_ok-push_key_length.ensures)
