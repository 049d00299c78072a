use Rattle.std.proofs.Common.{◌++◌, codes}
use Rattle.std.specs.Fmt.{decimal}
use Rattle.admin_port.specs.Reports.{unlike_text}
use Rattle.admin_port.proofs.Chains.{joined_pair}
use Rattle.admin_port.proofs.reports.push_unlike.Goals as goal

pub returns : goal.returns
unfolding unlike_text
returns c =
    let text = c.args.text.now.items in
    let peer = c.args.peer.now in
    let one = c.push_word_and_number.new.text.items in
    let two = c.push_word_and_number-2.new.text.items in
    let all = c.push_word_and_number-3.new.text.items in
    let undefined = codes " undefined=" ++ decimal peer.undefined in
    let unshared = codes " unshared=" ++ (decimal peer.unshared ++ undefined) in
    joined_pair text (codes " mismatched=") (decimal peer.mismatched) unshared one all c.in_ok-push_word_and_number.ensures
    (joined_pair one (codes " unshared=") (decimal peer.unshared) undefined two all c.in_ok-push_word_and_number-2.ensures
    c.in_ok-push_word_and_number-3.ensures)
