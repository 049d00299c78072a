use Rattle.std.proofs.Common.{◌∙◌, refl, rules, sym}
use Rattle.std.proofs.lemmas.Bool.{eq-eqb, ne_eqb}
use Rattle.node_log.proofs.ValueLaws.{is_word_by_last}
use Rattle.node_log.proofs.values.is_word.Goals as goal

pub returns-then-last-ne58 : goal.returns-then-last-ne58
returns-then-last-ne58 c =
    c.is_text.ensures
    ∙ sym (is_word_by_last c.args.bytes.now c.in-Some.field-0-1.now c.in-Some.last.now (search rules) ∙ rw (ne_eqb c.in-Some.last.now 58 (search rules)) refl)

pub returns-else-last-ne58 : goal.returns-else-last-ne58
returns-else-last-ne58 c =
    rw (eq-eqb c.in-Some.last.now 58 (search rules))
    (sym (is_word_by_last c.args.bytes.now c.in-Some.field-0-1.now c.in-Some.last.now (search rules) ∙ rw (eq-eqb c.in-Some.last.now 58 (search rules)) refl))
