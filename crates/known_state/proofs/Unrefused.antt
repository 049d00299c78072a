-- A message that makes a step isn't refused for any cause.
use Rattle.std.proofs.Common.{◌≡◌, ℕ, true, Option, Some, None, refl}
use Rattle.std.specs.Prelude.{is_some}
use Rattle.table_types.specs.Tables.{Definition}
use Rattle.table_types.specs.Rosters.{table_at}
use Rattle.known_state.specs.Known.{KnownState, switch_refusal}
use Rattle.known_state.proofs.FitsOrIsRefused.{has_id-table_at}

-- a switch to a table that is in the roster and defined
pub switch_taken : (k : KnownState) (id : ℕ) → is_some (table_at k.roster id) ≡ true → is_some (table_at k.state.received.tables id) ≡ true → switch_refusal k id ≡ None
switch_taken k id own found = at (table_at k.state.received.tables id) refl found
  where
    at : (o : Option Definition) → table_at k.state.received.tables id ≡ o → is_some (table_at k.state.received.tables id) ≡ true → switch_refusal k id ≡ None
    at None is found = cc
    at (Some d) is found = rw (has_id-table_at k.roster id, own, is) refl
