use Rattle.std.proofs.Common.{◌∙◌, rules, sym}
use Rattle.admin_text.proofs.MeantLaws.{dropped_mark, kept_word}
use Rattle.admin_text.proofs.meant_kinds.without_mark.Goals as goal

pub returns-then-is_mark : goal.returns-then-is_mark
returns-then-is_mark c =
    dropped_mark c.args.word.now c.in-Some.before.now c.in-Some.last.now (search rules) (sym c.is_mark.ensures ∙ c.if-is_mark.true)

pub returns-else-is_mark : goal.returns-else-is_mark
returns-else-is_mark c =
    kept_word c.args.word.now c.in-Some.before.now c.in-Some.last.now (search rules) (sym c.is_mark.ensures ∙ c.if-is_mark.false)
