use Rattle.std.proofs.Common.{◌≡◌, ◌++◌, flat_map, take}
use Rattle.node_text.specs.Numbers.{spaced}
use Rattle.node_text.proofs.lessons.push_sums.Given as goal

abbrev pub invariant-loop-price : goal.invariant-loop-price
invariant-loop-price l = l.text.items ≡ l.initial.text.items ++ flat_map spaced (take l.price-index l.prices)
