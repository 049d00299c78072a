use Rattle.std.proofs.Common.{◌≡◌, ℕ, ◌-◌, ◌<◌, ◌≤◌}
use Rattle.known_state.specs.Plans.{kept_over}
use Rattle.price_checker.proofs.room.have_room.Given as goal

abbrev pub invariant-loop-place : goal.invariant-loop-place
invariant-loop-place l = record {
  counted : l.over ≡ kept_over l.links (l.place - 1);
  room : (place : ℕ) → place < l.place → kept_over l.links place ≤ l.slots - 1;
}
