use Rattle.std.proofs.Common.{◌≡◌, ◌↔◌, drop}
use Rattle.table_types.proofs.update.are_same_updates.Given as goal

-- the rests are the same if and only if the whole lists are
abbrev pub invariant-loop-update : goal.invariant-loop-update
invariant-loop-update l = (drop l.update-index l.one ≡ l.rest) ↔ (l.one ≡ l.other)
