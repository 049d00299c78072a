use Rattle.std.proofs.Common.{◌-◌, List, [], drop, get_or, length, map, take, ℕ}
use Rattle.admin_text.proofs.TableParts.{parts_make_one}
use Rattle.admin_text.proofs.table_lines.read_table.Goals as goal

pub table_of-requires : goal.table_of-requires
table_of-requires c =
    let words = c.args.words.now in
    let word : ℕ → List ℕ = λ i. (get_or words i (record { ref_ptr = (0, 0); now = [] })).now in
    parts_make_one (word 0) (word 1) (word 2) (word 3) (word 4) (map (λ w. w.now) (take (length words - 5) (drop 5 words))) c.in_ok-parts.parts
    c.in_ok-types.types c.in_ok-parts.ensures c.in_ok-types.ensures
