use Rattle.std.proofs.Common.{List, subst}
use Rattle.table_types.specs.declared.update.Update.{Update}
use Rattle.price_checker.specs.declared.comparison.Comparison.{Comparison}
use Rattle.price_checker.specs.declared.reading.Reading.{Reading}
use Rattle.price_checker.specs.Readings.{Compares, IsReading}
use Rattle.price_checker.specs.Verdicts.{AreApartFrom}
use Rattle.price_checker.proofs.FoundAsSaid.{ends_early}
use Rattle.price_checker.proofs.verifying.said.Goals as goal

pub returns-in-Legal-Same-clause-says : goal.returns-in-Legal-Same-clause-says
returns-in-Legal-Same-clause-says c =
    let us = c.updates-updates.result.now in
    let reading = subst (λ (r : Reading). IsReading c.args.known.now us c.args.stream.now r) c.in-Legal-Same.is c.in_ok-illegal.ensures.read in
    let same = subst (λ (x : Comparison). Compares x reading.0 us) c.in-Legal-Same.field-0-is reading.2 in
    (reading.0, reading.1, subst (λ (xs : List Update). AreApartFrom c.in-Legal-Same.count reading.0 xs) c.updates-updates.ensures.updates (ends_early us reading.0 c.in-Legal-Same.count c.if-count-updates.true same.0))
