-- Which ids lose their last numbers at a definition.
use Rattle.std.proofs.Common.{◌≡◌, ℕ, Bool, true, false, not, ◌||◌, cond, eqb, List, Option, Some, None, refl, sym, ap, ◌∙◌, inl, inr}
use Rattle.std.specs.Prelude.{option_map}
use Rattle.std.proofs.lemmas.Bool.{cases_eq, eq-eqb, ne_eqb}
use Rattle.table_types.specs.Tables.{Definition}
use Rattle.table_types.specs.Rosters.{table_at}
use Rattle.peers_msg.specs.Received.{AreDistinct, table_named}
use Rattle.peers_msg.specs.ReceivedIndex.{has_that_name, id_named, is_id}
use Rattle.peers_msg.proofs.TablesByIdAndName.{same_at}
use Rattle.known_state.specs.LastNumbers.{keeps_last, is_lost}

-- what keeps a last number, by whether the table that the id stood for has the new name
keeps_by : (new : Definition) (o : Option Definition) (id : ℕ) → keeps_last new o id ≡ cond (eqb id new.id) (has_that_name o new.name) (not (has_that_name o new.name))
keeps_by new None id = at (eqb id new.id)
  where
    at : (b : Bool) → not b ≡ cond b false (not false)
    at true = refl
    at false = refl
keeps_by new (Some d) id = refl

keeps_so : (new : Definition) (ds : List Definition) (named : Option ℕ) (id : ℕ) → AreDistinct ds → id_named ds new.name ≡ named → keeps_last new (table_at ds id) id ≡ cond (eqb id new.id) (is_id named id) (not (is_id named id))
keeps_so new ds named id distinct is =
    keeps_by new (table_at ds id) id
    ∙ ap (λ (b : Bool). cond (eqb id new.id) b (not b)) (same_at ds new.name id distinct ∙ ap (λ (o : Option ℕ). is_id o id) is)

module _ (new : Definition) (ds : List Definition) (distinct : AreDistinct ds) where
  -- no id loses its last number if the defined one stood for a table of the new name
  pub none_lost : (d : Definition) (id : ℕ) → table_named ds new.name ≡ Some d → d.id ≡ new.id → not (is_lost (record { defined = None; other = None }) id) ≡ keeps_last new (table_at ds id) id
  none_lost d id named same = sym (keeps_so new ds (Some new.id) id distinct (ap (λ (o : Option Definition). option_map (λ (x : Definition). x.id) o) named ∙ ap (λ (i : ℕ). Some i) same) ∙ at (eqb id new.id))
    where
      at : (b : Bool) → cond b b (not b) ≡ true
      at true = refl
      at false = refl

  -- the defined id does otherwise, and so does the one of another table of that name
  pub two_lost : (own other : ℕ) (d : Definition) (id : ℕ) → own ≡ new.id → other ≡ d.id → table_named ds new.name ≡ Some d → (other ≡ own → ⊥) → not (is_lost (record { defined = Some own; other = Some other }) id) ≡ keeps_last new (table_at ds id) id
  two_lost own other d id is_own is_other named differ = rw (is_own, is_other) (sym (keeps_so new ds (Some d.id) id distinct (ap (λ (o : Option Definition). option_map (λ (x : Definition). x.id) o) named) ∙ by))
    where
      apart : d.id ≡ new.id → ⊥
      apart same = differ (is_other ∙ same ∙ sym is_own)

      by : cond (eqb id new.id) (eqb id d.id) (not (eqb id d.id)) ≡ not (eqb id new.id || eqb id d.id)
      by = elim (cases_eq id new.id) [
        | inl same ↦ rw (eq-eqb id new.id same, ne_eqb id d.id (λ e. apart (sym e ∙ same))) refl
        | inr other ↦ rw (ne_eqb id new.id other) refl
      ]

  pub one_lost : (own id : ℕ) → own ≡ new.id → table_named ds new.name ≡ None → not (is_lost (record { defined = Some own; other = None }) id) ≡ keeps_last new (table_at ds id) id
  one_lost own id is_own named = rw is_own (sym (keeps_so new ds None id distinct (ap (λ (o : Option Definition). option_map (λ (x : Definition). x.id) o) named) ∙ at (eqb id new.id)))
    where
      at : (b : Bool) → cond b false (not false) ≡ not (b || false)
      at true = refl
      at false = refl
