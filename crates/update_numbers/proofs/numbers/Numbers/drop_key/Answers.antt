use Rattle.std.proofs.Common.{◌≡◌, List, length, ap, ◌∙◌}
use Rattle.std.specs.Prelude.{nat_lt}
use Rattle.update_numbers.specs.Numbers.{Numbering, dropped, without_below}
use Rattle.update_numbers.proofs.NumberLaws.{dropped_all, fewer_without, numbering}
use Rattle.update_numbers.proofs.numbers.Numbers.drop_key.Goals as goal

pub returns-clause-dropped : goal.returns-clause-dropped
returns-clause-dropped c =
    let before = c.args.self.now in
    c.drop_below.ensures
    ∙ ap (λ n. numbering before.next (without_below n c.args.key.now before.pairs)) c.next.ensures.next
    ∙ ap (numbering before.next) (dropped_all before.next c.args.key.now before.pairs c.next.ensures.below)

pub returns-clause-had : goal.returns-clause-had
returns-clause-had c =
    rw (c.len.ensures ∙ ap (λ (s : Numbering). length s.pairs) (returns-clause-dropped c), c.len-before.ensures) (fewer_without c.args.key.now c.args.self.now.pairs)
