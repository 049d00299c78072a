use Rattle.std.proofs.Common.{sym, subst, ◌∙◌, arith}
use Rattle.peers_encint.specs.declared.reading.Read.{Read}
use Rattle.peers_encint.specs.Integers.{Reads}
use Rattle.peers_encint.proofs.ReadAsSpelled.{reads, right_answer}
use Rattle.peers_encint.proofs.reading.get.Goals as goal

pub returns-clause-read : goal.returns-clause-read
returns-clause-read c =
    let b = c.args.b.now in
    subst (λ (r : Read). Reads b r) (sym c.answer.ensures) (reads b (λ i. omega (arith, c.type_inv.b i)))

pub returns-clause-only : goal.returns-clause-only
returns-clause-only c = λ r h. sym (right_answer c.args.b.now r h) ∙ sym c.answer.ensures
