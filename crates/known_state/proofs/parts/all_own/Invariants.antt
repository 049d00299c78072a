use Rattle.std.proofs.Common.{◌≡◌, drop}
use Rattle.std.specs.List.{list_all}
use Rattle.table_types.specs.Rosters.{has_id}
use Rattle.known_state.proofs.parts.all_own.Given as goal

abbrev pub invariant-loop-id : goal.invariant-loop-id
invariant-loop-id l =
    list_all (λ id. has_id id l.roster) (drop l.id-index l.ids) ≡ list_all (λ id. has_id id l.roster) l.ids
