use Rattle.std.proofs.Common.{◌≡◌, ◌+◌, ◌-◌, ◌/◌, ◌<◌, ℕ, [], ap, drop, length, refl, subst, sym, ◌∙◌, arith}
use Rattle.std.specs.Prelude.{filter, nat_lt}
use Rattle.std.proofs.lemmas.List.{drop_all}
use Rattle.table_stock.proofs.LogLaws.{all_from, found_above, none_up_to}
use Rattle.table_stock.proofs.log.Log.first_above.Goals as goal

pub loop-low-init : goal.loop-low-init
loop-low-init c =
    let none : drop c.len-high.result c.args.self.now.entries ≡ [] = drop_all c.len-high.result c.args.self.now.entries (omega (arith, c.len-high.ensures)) in
    record {
      ordered = omega arith;
      within = omega (arith, c.len-high.ensures);
      none = λ least next rise. refl;
      all = λ least next rise. ap (filter (λ entry. nat_lt c.args.number entry.0)) none ∙ sym none;
    }

pub loop-low-preserved-then-is_above : goal.loop-low-preserved-then-is_above
loop-low-preserved-then-is_above c =
    let middle = c.loop-low.low + (c.loop-low.high - c.loop-low.low) / 2 in
    let below : middle < length c.args.self.now.entries = omega (arith, c.loop-low-test.true, c.loop-low.invariant.within) in
    record {
      ordered = omega (arith, c.loop-low-test.true);
      within = omega (arith, below);
      none = c.loop-low.invariant.none;
      all = λ least next rise. all_from c.args.number least next c.args.self.now.entries rise middle below (λ d. sym c.if-is_above.true ∙ c.is_above.ensures d);
    }

pub loop-low-preserved : goal.loop-low-preserved
loop-low-preserved c =
    let middle = c.loop-low.low + (c.loop-low.high - c.loop-low.low) / 2 in
    let below : middle < length c.args.self.now.entries = omega (arith, c.loop-low-test.true, c.loop-low.invariant.within) in
    record {
      ordered = omega (arith, c.loop-low-test.true);
      within = c.loop-low.invariant.within;
      none = λ least next rise. none_up_to c.args.number least next c.args.self.now.entries rise middle below (λ d. sym c.if-is_above.false ∙ c.is_above.ensures d);
      all = c.loop-low.invariant.all;
    }

-- no index is left between those that are and those that aren't
pub returns : goal.returns
returns c = λ least next rise.
    let log = c.args.self.now.entries in
    let same : c.loop-low.high ≡ c.loop-low.low = omega (arith, c.loop-low-test.false, c.loop-low.invariant.ordered) in
    found_above c.args.number c.loop-low.low log (c.loop-low.invariant.none least next rise)
    (subst (λ (n : ℕ). filter (λ entry. nat_lt c.args.number entry.0) (drop n log) ≡ drop n log) same (c.loop-low.invariant.all least next rise))
