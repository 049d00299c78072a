use Rattle.std.proofs.Common.{ℕ, List, drop, subst, arith}
use Rattle.price_checker.specs.Readings.{IsNext}
use Rattle.price_checker.specs.declared.reading.Next.{Next}
use Rattle.price_checker.proofs.StreamIsReadOn.{read-more, to_the_end}
use Rattle.price_checker.proofs.reading.read_messages.Goals as goal

pub loop-place-preserved : goal.loop-place-preserved
loop-place-preserved c =
    let stream = c.args.stream.now in
    let before = c.loop-place.after in
    let after = c.read_message.new.known in
    let us = c.args.updates.now in
    let place = c.loop-place.place in
    let here = subst (λ (rest : List ℕ). IsNext before us c.loop-place.comparison rest c.in_ok-compared.field-0 after) (to_the_end stream place) c.in_ok-compared.ensures in
    let next = subst (λ (found : Next). IsNext before us c.loop-place.comparison (drop place stream) found after) c.in-Read.is here in
    read-more c.args.known.now before after us stream place c.in-Read.used c.loop-place.comparison c.in-Read.compared (λ i. omega (arith, c.type_inv.stream i)) c.loop-place.invariant next
