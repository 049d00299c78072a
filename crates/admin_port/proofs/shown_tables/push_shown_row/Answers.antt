use Rattle.std.proofs.Common.{◌∙◌, ◌++◌, [], ◌∷◌, ap, codes}
use Rattle.std.specs.Fmt.{decimal}
use Rattle.admin_port.specs.ShownKeys.{shown_key}
use Rattle.admin_port.specs.ShownTables.{left_at, shown_row, shown_values}
use Rattle.admin_port.proofs.Chains.{joined, joined_pair}
use Rattle.admin_port.proofs.shown_tables.push_shown_row.Goals as goal

pub returns : goal.returns
unfolding shown_row
returns c =
    let text = c.args.text.now.items in
    let row = c.args.row.now in
    let one = c.push_words.new.text.items in
    let two = c.push_shown_key.new.text.items in
    let three = c.push_word_and_number.new.text.items in
    let four = c.push_shown_values.new.text.items in
    let all = c.push_line_end.new.text.items in
    let left = decimal (left_at c.args.moment row.ends) in
    let values = shown_values c.args.moment row.name c.args.table.now.types row.cells in
    let behind = codes " use=0 exp=" ++ (left ++ (values ++ 10 ∷ [])) in
    joined text (codes "0x0: key=") (shown_key c.args.key.now ++ behind) one all c.in_ok-push_words.ensures
    (joined one (shown_key c.args.key.now) behind two all c.in_ok-push_shown_key.ensures
    (joined_pair two (codes " use=0 exp=") left (values ++ 10 ∷ []) three all
    (c.in_ok-push_word_and_number.ensures
    ∙ ap (λ number. two ++ (codes " use=0 exp=" ++ decimal number)) (c.left_at.ensures ∙ ap (left_at c.args.moment) c.ends.ensures))
    (joined three values (10 ∷ []) four all c.in_ok-push_shown_values.ensures c.in_ok-push_line_end.ensures)))
