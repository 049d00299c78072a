use Rattle.std.proofs.Common.{◌≡◌, ◌+◌, ◌∷◌, ◌++◌, ◌∙◌, [], ap, arith}
use Rattle.update_numbers.specs.Numbers.{Numbering}
use Rattle.update_numbers.specs.Rising.{rising}
use Rattle.update_numbers.proofs.NumberLaws.{below_append, numbering}
use Rattle.update_numbers.proofs.RisingLaws.{insert_first, sorted_rising}
use Rattle.update_numbers.proofs.numbers.Numbers.push.Goals as goal

pub invariant_of-self-2 : goal.invariant_of-self-2
invariant_of-self-2 c =
    let pairs = rising c.self.inside.keys.entries in
    let next = c.self.inside.next in
    let placed : rising c.insert.new.self.entries ≡ pairs ++ (next, c.args.key) ∷ [] =
    ap rising (c.in_ok-insert.ensures.entries ∙ insert_first c.self.inside.keys.entries (record { 0 = next }) c.args.key c.self.invariant.below) in
    let left = c.requires in
    record {
      rising = sorted_rising c.insert.new.self.entries c.in_ok-insert.ensures.ordered;
      below = rw placed (below_append pairs next c.args.key c.self.invariant.below);
      most = omega (arith, left, ap (λ (s : Numbering). s.next) c.self.view_is);
    }

pub returns-clause-pushed : goal.returns-clause-pushed
returns-clause-pushed c =
    let next = c.self.inside.next in
    rw (← c.self.view_is) (ap (λ es. numbering (next + 1) (rising es)) (c.in_ok-insert.ensures.entries ∙ insert_first c.self.inside.keys.entries (record { 0 = next }) c.args.key c.self.invariant.below))
