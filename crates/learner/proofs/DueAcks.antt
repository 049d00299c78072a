-- The acknowledgements that are due, id by id.
use Rattle.std.proofs.Common.{◌≡◌, ℕ, ◌<◌, ◌≤◌, Bool, true, false, ◌&&◌, ◌||◌, cond, eqb, List, [], ◌∷◌, Option, Some, None, refl, sym, ap, ◌∙◌, subst, inl, inr, arith}
use Rattle.std.specs.Prelude.{filter_map, is_some, option_map, option_and_then}
use Rattle.std.specs.List.{AllByRecursion, cons_option, list_any}
use Rattle.std.specs.List.Sorted.{IsStrictlySortedBy}
use Rattle.std.specs.BTreeMap.{is_at}
use Rattle.std.specs.BTreeSet.{insert_key}
use Rattle.std.specs.Set.{remove_key}
use Rattle.std.specs.Ordering.{is_eq, nat_cmp}
use Rattle.std.specs.Cmp.{nat_cmp_is}
use Rattle.std.specs.declared.cmp.Ordering.{Ordering}
use Rattle.std.specs.declared.cmp.Ordering.TheVariants.{Less, Equal, Greater}
use Rattle.std.proofs.lemmas.Bool.{cases_eq, cases_lt, eq-eqb, ne_eqb}
use Rattle.table_types.specs.Tables.{Definition}
use Rattle.table_types.specs.Rosters.{table_at}
use Rattle.peers_msg.specs.declared.message.Message.{Message}
use Rattle.peers_msg.specs.declared.message.Message.TheVariants as messages
use Rattle.peers_msg.specs.Received.{IsBelow, AreDistinct}
use Rattle.known_state.specs.Known.{is_in}
use Rattle.known_state.specs.LastNumbers.{last_of}
use Rattle.known_state.proofs.ReceivedIsOwn.{table_at-id}
use Rattle.learner.specs.LocalTables.{local_table}
use Rattle.learner.specs.Intake.{Taking, ack_of, due_ack, due_acks}

-- ---- one more due id, and without it again

pub undone : (id : ℕ) (ids : List ℕ) → list_any (is_at (nat_cmp id)) ids ≡ false → remove_key (is_at (nat_cmp id)) (insert_key nat_cmp ids id) ≡ ids
undone id [] none = rw (sym (nat_cmp_is id id Equal refl)) refl
undone id (x ∷ xs) none = at (nat_cmp id x) refl (undone id xs)
  where
    at : (o : Ordering) → nat_cmp id x ≡ o → (list_any (is_at (nat_cmp id)) xs ≡ false → remove_key (is_at (nat_cmp id)) (insert_key nat_cmp xs id) ≡ xs) → remove_key (is_at (nat_cmp id)) (insert_key nat_cmp (x ∷ xs) id) ≡ x ∷ xs
    at Less e rest = rw (e, sym (nat_cmp_is id id Equal refl)) refl
    at Equal e rest = let bad : true ≡ false = sym (ap (λ (o : Ordering). is_eq o || list_any (is_at (nat_cmp id)) xs) e) ∙ none in absurd cc
    at Greater e rest =
        let none_later : list_any (is_at (nat_cmp id)) xs ≡ false = sym (ap (λ (o : Ordering). is_eq o || list_any (is_at (nat_cmp id)) xs) e) ∙ none in
        rw (e, e) (ap (λ (ys : List ℕ). x ∷ ys) (rest none_later))

-- ---- tables and ids in ascending order

abbrev AreAbove : ℕ → List ℕ → Type 0
AreAbove id ids = AllByRecursion (λ other. id < other) ids

abbrev RiseBy : List ℕ → Type 0
RiseBy [] = Unit {0}
RiseBy (id ∷ ids) = AreAbove id ids × RiseBy ids

is_below : (a b : ℕ) → nat_cmp a b ≡ Less → a < b
is_below a b less = elim (cases_lt a b) [
  | inl lt ↦ lt
  | inr le ↦ elim (cases_eq a b) [
    | inl same ↦ let bad : Equal ≡ Less = nat_cmp_is a b Equal same ∙ less in absurd cc
    | inr other ↦
        let gt : b < a = omega arith in
        let bad : Greater ≡ Less = nat_cmp_is a b Greater gt ∙ less in
        absurd cc
  ]
]

all_below : (id : ℕ) (ids : List ℕ) → AllByRecursion (λ other. nat_cmp id other ≡ Less) ids → AreAbove id ids
all_below id [] above = tt
all_below id (other ∷ ids) above = (is_below id other above.0, all_below id ids above.1)

rise : (ids : List ℕ) → IsStrictlySortedBy nat_cmp ids → RiseBy ids
unfolding IsStrictlySortedBy
rise [] sorted = tt
rise (id ∷ ids) sorted = (all_below id ids sorted.0, rise ids sorted.1)

above_lower : (low id : ℕ) (ids : List ℕ) → low < id → AreAbove id ids → AreAbove low ids
above_lower low id [] lt above = tt
above_lower low id (other ∷ ids) lt above =
    let first : id < other = above.0 in
    (omega arith, above_lower low id ids lt above.1)

none_in : (id : ℕ) (ids : List ℕ) → AreAbove id ids → is_in id ids ≡ false
none_in id [] above = refl
none_in id (other ∷ ids) above =
    let lt : id < other = above.0 in
    let apart : other ≡ id → ⊥ = λ same. omega arith in
    rw (ne_eqb other id apart) (none_in id ids above.1)

none_at : (id : ℕ) (ds : List Definition) → AllByRecursion (λ d. id < d.id) ds → table_at ds id ≡ None
none_at id [] above = refl
none_at id (d ∷ ds) above =
    let lt : id < d.id = above.0 in
    let apart : d.id ≡ id → ⊥ = λ same. omega arith in
    rw (ne_eqb d.id id apart) (none_at id ds above.1)

ids_above : (d : Definition) (ds : List Definition) → AllByRecursion (IsBelow d) ds → AllByRecursion (λ x. d.id < x.id) ds
ids_above d [] above = tt
ids_above d (x ∷ xs) above = (above.0.0, ids_above d xs above.1)

tables_above : (low : ℕ) (d : Definition) (ds : List Definition) → low < d.id → AllByRecursion (λ x. d.id < x.id) ds → AllByRecursion (λ x. low < x.id) ds
tables_above low d [] lt above = tt
tables_above low d (x ∷ xs) lt above =
    let first : d.id < x.id = above.0 in
    (omega arith, tables_above low d xs lt above.1)

-- ---- going over the tables, or over the due ids

module _ (ack : Definition → Option Message) where
  abbrev if_due : List ℕ → Definition → Option Message
  if_due ids d = cond (is_in d.id ids) (ack d) None

  abbrev if_there : List Definition → ℕ → Option Message
  if_there ds id = option_and_then ack (table_at ds id)

  none_due : (ds : List Definition) → filter_map (if_due []) ds ≡ []
  none_due [] = refl
  none_due (d ∷ ds) = none_due ds

  none_there : (ids : List ℕ) → filter_map (if_there []) ids ≡ []
  none_there [] = refl
  none_there (id ∷ ids) = none_there ids

  -- an id below those of all tables makes none due
  due_above : (id : ℕ) (ids : List ℕ) (ds : List Definition) → AllByRecursion (λ d. id < d.id) ds → filter_map (if_due (id ∷ ids)) ds ≡ filter_map (if_due ids) ds
  due_above id ids [] above = refl
  due_above id ids (d ∷ ds) above =
      let lt : id < d.id = above.0 in
      let apart : id ≡ d.id → ⊥ = λ same. omega arith in
      rw (ne_eqb id d.id apart) (ap (λ (ms : List Message). cons_option (if_due ids d) ms) (due_above id ids ds above.1))

  -- a table with an id below all due ones is none of theirs
  there_above : (d : Definition) (ds : List Definition) (ids : List ℕ) → AreAbove d.id ids → filter_map (if_there (d ∷ ds)) ids ≡ filter_map (if_there ds) ids
  there_above d ds [] above = refl
  there_above d ds (id ∷ ids) above =
      let lt : d.id < id = above.0 in
      let apart : d.id ≡ id → ⊥ = λ same. omega arith in
      rw (ne_eqb d.id id apart) (ap (λ (ms : List Message). cons_option (if_there ds id) ms) (there_above d ds ids above.1))

  one_more : (d : Definition) (ds : List Definition) → AllByRecursion (λ x. d.id < x.id) ds → ((ids : List ℕ) → RiseBy ids → filter_map (if_due ids) ds ≡ filter_map (if_there ds) ids)
      → (ids : List ℕ) → RiseBy ids → filter_map (if_due ids) (d ∷ ds) ≡ filter_map (if_there (d ∷ ds)) ids
  one_more d ds above rest [] rises = none_due (d ∷ ds)
  one_more d ds above rest (id ∷ ids) rises = elim (cases_eq id d.id) [
    | inl same ↦
        let above_id : AllByRecursion (λ x. id < x.id) ds = subst (λ (n : ℕ). AllByRecursion (λ x. n < x.id) ds) (sym same) above in
        let ids_later : AreAbove d.id ids = subst (λ (n : ℕ). AreAbove n ids) same rises.0 in
        let left : filter_map (if_due (id ∷ ids)) (d ∷ ds) ≡ cons_option (ack d) (filter_map (if_due ids) ds) =
        rw (eq-eqb id d.id same) (ap (λ (ms : List Message). cons_option (ack d) ms) (due_above id ids ds above_id)) in
        let right : filter_map (if_there (d ∷ ds)) (id ∷ ids) ≡ cons_option (ack d) (filter_map (if_there ds) ids) =
        rw (eq-eqb d.id id (sym same)) (ap (λ (ms : List Message). cons_option (ack d) ms) (there_above d ds ids ids_later)) in
        left ∙ ap (λ (ms : List Message). cons_option (ack d) ms) (rest ids rises.1) ∙ sym right
    | inr other ↦ elim (cases_lt id d.id) [
      | inl lt ↦
          let all_above : AllByRecursion (λ x. id < x.id) (d ∷ ds) = (lt, tables_above id d ds lt above) in
          let nothing : table_at (d ∷ ds) id ≡ None = none_at id (d ∷ ds) all_above in
          let right : filter_map (if_there (d ∷ ds)) (id ∷ ids) ≡ filter_map (if_there (d ∷ ds)) ids = ap (λ (o : Option Definition). cons_option (option_and_then ack o) (filter_map (if_there (d ∷ ds)) ids)) nothing in
          due_above id ids (d ∷ ds) all_above ∙ one_more d ds above rest ids rises.1 ∙ sym right
      | inr le ↦
          let gt : d.id < id = omega arith in
          let later : AreAbove d.id (id ∷ ids) = (gt, above_lower d.id id ids gt rises.0) in
          let left : filter_map (if_due (id ∷ ids)) (d ∷ ds) ≡ filter_map (if_due (id ∷ ids)) ds = ap (λ (b : Bool). cons_option (cond b (ack d) None) (filter_map (if_due (id ∷ ids)) ds)) (none_in d.id (id ∷ ids) later) in
          left ∙ rest (id ∷ ids) rises ∙ sym (there_above d ds (id ∷ ids) later)
    ]
  ]

  in_step : (ds : List Definition) → AreDistinct ds → (ids : List ℕ) → RiseBy ids → filter_map (if_due ids) ds ≡ filter_map (if_there ds) ids
  in_step [] distinct ids rises = sym (none_there ids)
  in_step (d ∷ ds) distinct ids rises = one_more d ds (ids_above d ds distinct.0) (λ others rise_others. in_step ds distinct.1 others rise_others) ids rises

-- ---- the acknowledgements

abbrev own_ack : Taking → Definition → Option Message
own_ack t d = cond (is_some (local_table t.roster d)) (option_map (λ n. messages.Ack d.id n) (last_of t.state.last_numbers d.id)) None

same_each : {A : Type 0} (f g : A → Option Message) (xs : List A) → ((x : A) → f x ≡ g x) → filter_map f xs ≡ filter_map g xs
same_each f g [] same = refl
same_each f g (x ∷ xs) same = rw (same x) (ap (λ (ms : List Message). cons_option (g x) ms) (same_each f g xs same))

as_due : (t : Taking) (d : Definition) → due_ack t d ≡ if_due (own_ack t) t.due d
as_due t d = by (is_some (local_table t.roster d)) (is_in d.id t.due) (option_map (λ n. messages.Ack d.id n) (last_of t.state.last_numbers d.id))
  where
    by : (a b : Bool) (o : Option Message) → cond (a && b) o None ≡ cond b (cond a o None) None
    by true true o = refl
    by true false o = refl
    by false true o = refl
    by false false o = refl

as_there : (t : Taking) (id : ℕ) → ack_of t id ≡ if_there (own_ack t) t.state.received.tables id
as_there t id = by (table_at t.state.received.tables id) refl
  where
    some_id : (o : Option Definition) → is_some (option_map (λ (d : Definition). d.id) o) ≡ is_some o
    some_id None = refl
    some_id (Some d) = refl

    by : (o : Option Definition) → table_at t.state.received.tables id ≡ o → ack_of t id ≡ if_there (own_ack t) t.state.received.tables id
    by None e = rw e refl
    by (Some d) e =
        let is : d.id ≡ id = table_at-id t.state.received.tables id d e in
        rw (e, some_id (local_table t.roster d), is) refl

-- those of the due ids, one after another, are those of the tables
pub in_order : (t : Taking) → AreDistinct t.state.received.tables → IsStrictlySortedBy nat_cmp t.due → filter_map (ack_of t) t.due ≡ due_acks t
in_order t distinct sorted =
    same_each (ack_of t) (if_there (own_ack t) t.state.received.tables) t.due (as_there t)
    ∙ sym (in_step (own_ack t) t.state.received.tables distinct t.due (rise t.due sorted))
    ∙ sym (same_each (due_ack t) (if_due (own_ack t) t.due) t.state.received.tables (as_due t))
