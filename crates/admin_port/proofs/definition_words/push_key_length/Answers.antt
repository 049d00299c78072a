use Rattle.std.proofs.Common.{◌++◌, codes}
use Rattle.std.specs.Fmt.{decimal}
use Rattle.admin_port.specs.DefinitionWords.{key_length_text}
use Rattle.admin_port.proofs.Chains.{joined}
use Rattle.admin_port.proofs.definition_words.push_key_length.Goals as goal

pub returns : goal.returns
unfolding key_length_text
returns c =
    let text = c.args.text.now.items in
    let one = c.push_words.new.text.items in
    let two = c.push_number.new.text.items in
    let all = c.push_words-2.new.text.items in
    let number = decimal c.args.key_length in
    joined text (codes " (key length ") (number ++ codes ")") one all c.in_ok-push_words.ensures
    (joined one number (codes ")") two all c.in_ok-push_number.ensures c.in_ok-push_words-2.ensures)
