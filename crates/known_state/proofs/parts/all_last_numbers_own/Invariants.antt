use Rattle.std.proofs.Common.{◌≡◌, drop}
use Rattle.std.specs.List.{list_all}
use Rattle.table_types.specs.Rosters.{has_id}
use Rattle.known_state.proofs.parts.all_last_numbers_own.Given as goal

abbrev pub invariant-loop-last : goal.invariant-loop-last
invariant-loop-last l =
    list_all (λ last. has_id last.0 l.roster) (drop l.last-index l.last_numbers) ≡ list_all (λ last. has_id last.0 l.roster) l.last_numbers
