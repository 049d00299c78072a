use Rattle.admin_text.proofs.TypeWords.{all_name, name_before}
use Rattle.admin_text.proofs.type_words.name_part.Goals as goal

pub returns-in-Some : goal.returns-in-Some
returns-in-Some c = name_before c.args.word.now c.in-Some.name.now c.in-Some.field-0-1.now c.in-Some.ensures.0 c.in-Some.ensures.1

pub returns-in-None : goal.returns-in-None
returns-in-None c = all_name c.args.word.now c.in-None.ensures
