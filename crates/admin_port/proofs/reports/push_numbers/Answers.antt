use Rattle.std.proofs.Common.{◌∙◌, ◌++◌, ap, codes}
use Rattle.std.specs.Fmt.{decimal}
use Rattle.node_text.specs.Numbers.{number_or_dash}
use Rattle.admin_port.specs.Reports.{numbers_text}
use Rattle.admin_port.proofs.Chains.{joined, joined_pair}
use Rattle.admin_port.proofs.reports.push_numbers.Goals as goal

pub returns : goal.returns
unfolding numbers_text
returns c =
    let text = c.args.text.now.items in
    let report = c.args.report.now in
    let one = c.push_word_and_number.new.text.items in
    let two = c.push_word_and_number-2.new.text.items in
    let three = c.push_words.new.text.items in
    let all = c.push_optional_number.new.text.items in
    let received = codes " received=" ++ number_or_dash report.received in
    let acknowledged = codes " acknowledged=" ++ (decimal report.acknowledged ++ received) in
    joined_pair text (codes " taught=") (decimal report.taught) acknowledged one all
    (c.in_ok-push_word_and_number.ensures ∙ ap (λ number. text ++ (codes " taught=" ++ decimal number)) c.from.ensures)
    (joined_pair one (codes " acknowledged=") (decimal report.acknowledged) received two all
    (c.in_ok-push_word_and_number-2.ensures ∙ ap (λ number. one ++ (codes " acknowledged=" ++ decimal number)) c.from-2.ensures)
    (joined two (codes " received=") (number_or_dash report.received) three all c.in_ok-push_words.ensures c.in_ok-push_optional_number.ensures))
