use Rattle.std.proofs.Common.{◌+◌, [], ◌∷◌, ◌++◌, ap, ◌∙◌}
use Rattle.table_types.specs.declared.key.Key.{Key}
use Rattle.update_numbers.specs.Numbers.{Numbering, pushed, without_below}
use Rattle.update_numbers.proofs.NumberLaws.{given_last, numbering}
use Rattle.update_numbers.proofs.numbers.Numbers.give.Goals as goal

pub returns-clause-given : goal.returns-clause-given
returns-clause-given c =
    let before = c.args.self.now in
    let key = c.args.key.now in
    let put = c.in-Ok-push.ensures.pushed ∙ ap (λ (k : Key). pushed k before) c.in-Ok-copy.ensures in
    c.drop_below.ensures
    ∙ ap (λ (s : Numbering). numbering s.next (without_below c.next-next.result key s.pairs)) put
    ∙ ap (λ n. numbering (before.next + 1) (without_below n key (before.pairs ++ (before.next, key) ∷ []))) c.next-next.ensures.next
    ∙ ap (numbering (before.next + 1)) (given_last before.next key before.pairs c.next-next.ensures.below)
