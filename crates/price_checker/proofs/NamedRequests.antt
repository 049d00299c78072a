-- There are as many requests as updates with a name.
use Rattle.std.proofs.Common.{◌≡◌, ℕ, ◌+◌, cond, List, [], ◌∷◌, ◌++◌, length, Option, Some, None, refl, arith}
use Rattle.std.specs.Prelude.{is_some}
use Rattle.table_types.specs.declared.update.Update.{Update}
use Rattle.table_types.specs.Tables.{Definition}
use Rattle.known_state.specs.Cost.{Knowledge, knowledge_after}
use Rattle.known_state.specs.Requests.{asked, requests_of}
use Rattle.price_checker.specs.NamedUpdates.{named_count}

pub requests-named : (roster : List Definition) (k : Knowledge) (us : List Update) → length (requests_of roster k us) ≡ named_count us
requests-named roster k [] = refl
requests-named roster k (u ∷ us) = one u.name (requests-named roster (knowledge_after k u) us)
  where
    one : (name : Option (List ℕ)) → length (requests_of roster (knowledge_after k u) us) ≡ named_count us → length (asked roster k u name ++ requests_of roster (knowledge_after k u) us) ≡ cond (is_some name) 1 0 + named_count us
    one None later = omega (arith, later)
    one (Some name) later = omega (arith, later)
