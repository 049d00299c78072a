use Rattle.std.proofs.Common.{◌≡◌, ap, not, ◌||◌, rules, ◌∙◌}
use Rattle.std.specs.Prelude.{filter, nat_lt}
use Rattle.std.proofs.lemmas.Map.Made.{filter_same_pairs}
use Rattle.update_numbers.specs.Numbers.{is_of, without_below}
use Rattle.update_numbers.specs.Rising.{rising}
use Rattle.update_numbers.proofs.NumberLaws.{filtered, numbering}
use Rattle.update_numbers.proofs.RisingLaws.{filter_rising, sorted_rising}
use Rattle.update_numbers.proofs.numbers.Numbers.drop_below.Goals as goal

kept : (c : goal.After-retain) → rising c.retain.new.self.entries ≡ without_below c.args.number c.args.key.now (rising c.self.inside.keys.entries)
kept c =
    ap rising (filter_same_pairs _ (λ e. not (nat_lt e.0.0 c.args.number) || not (is_of c.args.key.now (e.0.0, e.1))) _ (λ k v b w f t. search rules) c.self.inside.keys.entries c.retain.new.self.entries c.retain.ensures.filtered)
    ∙ filter_rising (λ q. not (nat_lt q.0 c.args.number) || not (is_of c.args.key.now q)) c.self.inside.keys.entries

pub invariant_of-self : goal.invariant_of-self
invariant_of-self c =
    filtered (λ q. not (nat_lt q.0 c.args.number) || not (is_of c.args.key.now q)) (rising c.self.inside.keys.entries) (rising c.retain.new.self.entries) c.self.inside.next c.self.invariant (kept c) (sorted_rising c.retain.new.self.entries c.retain.ensures.ordered)

pub returns : goal.returns
returns c = rw (← c.self.view_is) (ap (numbering c.self.inside.next) (kept c))
