-- Plans of which names a lesson reads (profile).
use Rattle.std.specs.Prelude.{◌≡◌, ℕ, Bool, true, List, Some}
use Rattle.table_types.specs.declared.update.Update.{Update}
use Rattle.table_types.specs.Rosters.{table_at}
use Rattle.table_types.specs.SlotIds.{slot_count}
use Rattle.table_types.specs.Tables.{Definition, is_definition}
use Rattle.table_types.specs.Updates.{stores_name}
use Rattle.known_state.specs.Known.{KnownState}
use Rattle.known_state.specs.Plans.{Plan, Accepts, names_in}
use Rattle.known_state.specs.State.{State}
use Rattle.price_checker.specs.Verdicts.{requests}
use Rattle.teach_writer.specs.Sending.{GoesThrough}

-- The plan is accepted for a batch from a known state: for the batch's requests, with 128 slots, and with the names
-- that these slots hold.
abbrev pub IsPlanFor : KnownState → List Update → Plan → Type 0
IsPlanFor k us plan = Accepts slot_count (names_in k.state.slots) (requests k us) plan

-- The bytes are the lesson of a batch by this plan: the plan is accepted for the batch from the known state, and the bytes
-- go through the batch, read the names that the plan keeps and write the others, and lead to the state e.
abbrev pub IsLessonBy : Plan → KnownState → List Update → List ℕ → State → Type 0
IsLessonBy plan k us bytes e = IsPlanFor k us plan × GoesThrough k us plan.keep bytes e

-- the roster's table of this id is well formed, and this says whether it stores names
abbrev pub StoresNames : List Definition → ℕ → Bool → Type 0
StoresNames roster id stored = (d : Definition) → table_at roster id ≡ Some d → (stores_name d ≡ stored) × (is_definition d ≡ true)
