-- Tables outside the profile in a map by id.
use Rattle.std.proofs.Common.{◌≡◌, ℕ, Bool, true, false, not, ◌||◌, cond, eqb, List, [], ◌∷◌, Option, refl, sym, ap, subst, ◌∙◌}
use Rattle.std.specs.Prelude.{filter}
use Rattle.std.specs.List.{AllByRecursion}
use Rattle.std.specs.List.Sorted.{IsStrictlySortedBy}
use Rattle.std.specs.BTreeMap.{is_at}
use Rattle.std.specs.Map.{keys_of, remove_entry}
use Rattle.std.specs.Ordering.{is_eq, nat_cmp}
use Rattle.std.specs.declared.cmp.Ordering.TheVariants.{Less}
use Rattle.std.proofs.lemmas.Bool.{eqb-true}
use Rattle.table_types.specs.Tables.{Definition}
use Rattle.table_types.specs.Rosters.{table_at}
use Rattle.peers_msg.specs.Received.{AreDistinct}
use Rattle.peers_msg.specs.ReceivedIndex.{id_named, is_id}
use Rattle.peers_msg.proofs.MapsById.{tested}
use Rattle.peers_msg.proofs.TablesByIdAndName.{same_at}
use Rattle.tolerant_intake.specs.Tolerance.{outlasts}

module _ {X : Type 0} where
  pub all_other : (id : ℕ) (ls : List (ℕ × X)) → AllByRecursion (λ other. nat_cmp id other ≡ Less) (keys_of ls) → filter (λ l. not (eqb l.0 id)) ls ≡ ls
  all_other id [] above = refl
  all_other id (l ∷ ls) above =
      let other : eqb l.0 id ≡ false = sym (tested id l.0) ∙ ap is_eq above.0 in
      rw other (ap (λ (rest : List (ℕ × X)). l ∷ rest) (all_other id ls above.1))

  -- what is left once the table of an id is removed
  pub removed : (id : ℕ) (ls : List (ℕ × X)) → IsStrictlySortedBy nat_cmp (keys_of ls) → remove_entry (is_at (nat_cmp id)) ls ≡ filter (λ l. not (eqb l.0 id)) ls
  unfolding IsStrictlySortedBy
  removed id [] rise = refl
  removed id (l ∷ ls) rise = at (eqb l.0 id) refl (removed id ls rise.1)
    where
      at : (b : Bool) → eqb l.0 id ≡ b → remove_entry (is_at (nat_cmp id)) ls ≡ filter (λ x. not (eqb x.0 id)) ls → remove_entry (is_at (nat_cmp id)) (l ∷ ls) ≡ filter (λ x. not (eqb x.0 id)) (l ∷ ls)
      at true e rest = rw (tested id l.0, e) (sym (all_other id ls (subst (λ (i : ℕ). AllByRecursion (λ other. nat_cmp i other ≡ Less) (keys_of ls)) (eqb-true l.0 id e) rise.0)))
      at false e rest = rw (tested id l.0, e) (ap (λ (xs : List (ℕ × X)). l ∷ xs) rest)

  pub filter_same : (p q : ℕ → Bool) (ls : List (ℕ × X)) → ((id : ℕ) → p id ≡ q id) → filter (λ l. p l.0) ls ≡ filter (λ l. q l.0) ls
  filter_same p q [] same = refl
  filter_same p q (l ∷ ls) same = rw (same l.0) (ap (λ (rest : List (ℕ × X)). cond (q l.0) (l ∷ rest) rest) (filter_same p q ls same))

  pub filter_both : (p q : ℕ → Bool) (ls : List (ℕ × X)) → filter (λ l. not (q l.0)) (filter (λ l. not (p l.0)) ls) ≡ filter (λ l. not (p l.0 || q l.0)) ls
  filter_both p q [] = refl
  filter_both p q (l ∷ ls) = at (p l.0) refl (filter_both p q ls)
    where
      at : (b : Bool) → p l.0 ≡ b → filter (λ x. not (q x.0)) (filter (λ x. not (p x.0)) ls) ≡ filter (λ x. not (p x.0 || q x.0)) ls
          → filter (λ x. not (q x.0)) (filter (λ x. not (p x.0)) (l ∷ ls)) ≡ filter (λ x. not (p x.0 || q x.0)) (l ∷ ls)
      at true e rest = rw e rest
      at false e rest = rw e (ap (λ (ms : List (ℕ × X)). cond (not (q l.0)) (l ∷ ms) ms) rest)

-- a table is left after a definition unless it has its id, or the id that stands for its name
pub outlasts_by : (new : Definition) (ds : List Definition) → AreDistinct ds → (own : ℕ) → own ≡ new.id → (named : Option ℕ) → id_named ds new.name ≡ named → (id : ℕ)
    → not (eqb id own || is_id named id) ≡ outlasts new id (table_at ds id)
outlasts_by new ds distinct own is named e id =
    ap (λ (i : ℕ). not (eqb id i || is_id named id)) is
    ∙ ap (λ (b : Bool). not (eqb id new.id || b)) (sym (same_at ds new.name id distinct ∙ ap (λ (o : Option ℕ). is_id o id) e))
