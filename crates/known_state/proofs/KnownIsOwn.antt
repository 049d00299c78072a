-- All that a teacher knows of a learner is the roster's own.
use Rattle.std.proofs.Common.{◌≡◌, Bool, true, false, cond, List, [], ◌∷◌, Option, Some, None, refl, sym, ap, ◌∙◌}
use Rattle.std.specs.Prelude.{filter}
use Rattle.table_types.specs.Tables.{Definition}
use Rattle.table_types.specs.Rosters.{table_at}
use Rattle.table_types.specs.Shapes.{is_same_definition}
use Rattle.peers_msg.specs.OwnTables.{is_own}
use Rattle.table_types.proofs.OneTableByShape.{same_definition}
use Rattle.known_state.specs.Known.{AreOwn}

-- a table that is the roster's own is the one that its id stands for
pub own_is : (roster : List Definition) (d : Definition) → is_own roster d ≡ true → table_at roster d.id ≡ Some d
own_is roster d h = at (table_at roster d.id) refl
  where
    at : (o : Option Definition) → table_at roster d.id ≡ o → table_at roster d.id ≡ Some d
    at None e = let bad : false ≡ true = sym (rw e refl) ∙ h in absurd cc
    at (Some own) e =
        let same : is_same_definition own d ≡ true = sym (rw e refl) ∙ h in
        e ∙ ap (λ (t : Definition). Some t) (same_definition own d same)

pub AreOwn-own : (roster : List Definition) (ds : List Definition) → AreOwn roster (filter (is_own roster) ds)
AreOwn-own roster [] = tt
AreOwn-own roster (d ∷ ds) = at (is_own roster d) refl (AreOwn-own roster ds)
  where
    at : (b : Bool) → is_own roster d ≡ b → AreOwn roster (filter (is_own roster) ds) → AreOwn roster (cond b (d ∷ filter (is_own roster) ds) (filter (is_own roster) ds))
    at true e rest = (own_is roster d e, rest)
    at false e rest = rest
