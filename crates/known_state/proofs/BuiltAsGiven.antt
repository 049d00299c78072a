-- The contents of a built state.
use Rattle.std.proofs.Common.{◌≡◌, ℕ, Bool, true, false, not, ◌&&◌, ◌||◌, cond, eqb, ◌==◌, List, [], ◌∷◌, Option, Some, None, refl, sym, ap, ◌∙◌, subst, inl, inr}
use Rattle.std.specs.Prelude.{is_some, fold}
use Rattle.std.specs.List.{list_all}
use Rattle.std.proofs.lemmas.Bool.{cases_eq, eq-eqb, ne_eqb}
use Rattle.table_types.specs.Tables.{Definition}
use Rattle.table_types.specs.Rosters.{table_at, has_id, repeats_name, roster_fault}
use Rattle.peers_msg.specs.Received.{defined, with_own}
use Rattle.known_state.specs.LastNumbers.{last_of, set_last}
use Rattle.known_state.specs.declared.known.KnownError.TheVariants as build_errors
use Rattle.known_state.specs.Known.{AreOwn, is_in, repeats, has_last, repeats_last, or_none, are_known, are_defined, build_fault, built}
use Rattle.known_state.proofs.ReceivedIsOwn.{or-false-left, or-false-right, table_at-id, define_selects, AreOwn-defined, AreOwn-resumed}
use Rattle.known_state.proofs.FitsOrIsRefused.{has_id-table_at}
use Rattle.known_state.proofs.RosterNamesDiffer.{roster_names, still_received}
use Rattle.known_state.proofs.KnowingMoreCostsLess.{found_before, last-put}
use Rattle.known_state.proofs.ReadsPay.{received_is_own}

and-left : (a b : Bool) → (a && b) ≡ true → a ≡ true
and-left true b h = refl
and-left false b h = h

and-right : (a b : Bool) → (a && b) ≡ true → b ≡ true
and-right true b h = h
and-right false b h = cc

-- ---- what holds if there is no fault

no_fault : (a b c d : Bool) → cond (not a) (Some build_errors.NoTable) (cond (not b) (Some build_errors.NotDefined) (cond (c || d) (Some build_errors.Repeated) None)) ≡ None → (a ≡ true) × (d ≡ false)
no_fault true true c d h = (refl, last c d h)
  where
    last : (c d : Bool) → cond (c || d) (Some build_errors.Repeated) None ≡ None → d ≡ false
    last true d h = cc
    last false true h = cc
    last false false h = refl
no_fault true false c d h = cc
no_fault false b c d h = cc

each_listed : (roster : List Definition) (selected : Option ℕ) (ids : List ℕ) (last_numbers : List (ℕ × ℕ)) → are_known roster selected ids last_numbers ≡ true → list_all (λ id. has_id id roster) ids ≡ true
each_listed roster selected ids last_numbers known =
    and-right (or_none (λ id. has_id id roster) selected) (list_all (λ id. has_id id roster) ids) (and-left (or_none (λ id. has_id id roster) selected && list_all (λ id. has_id id roster) ids) (list_all (λ (l : ℕ × ℕ). has_id l.0 roster) last_numbers) known)

-- ---- tables

or_swap : (a b c : Bool) → (b || (a || c)) ≡ ((a || b) || c)
or_swap true true c = refl
or_swap true false c = refl
or_swap false true c = refl
or_swap false false c = refl

-- a definition of the roster's adds its id and removes none
one_more : (roster : List Definition) (d : Definition) (ds : List Definition) (id : ℕ) → repeats_name roster ≡ false → table_at roster d.id ≡ Some d → AreOwn roster ds → is_some (table_at (defined d ds) id) ≡ (d.id == id || is_some (table_at ds id))
one_more roster d ds id distinct listed own = elim (cases_eq d.id id) [
  | inl same ↦ subst (λ (n : ℕ). is_some (table_at (defined d ds) n) ≡ (eqb d.id n || is_some (table_at ds n))) same (rw (define_selects (record { tables = ds; selected = None }) d, eq-eqb d.id d.id refl) refl)
  | inr apart ↦ rw (ne_eqb d.id id apart) (by (is_some (table_at ds id)) refl (is_some (table_at (defined d ds) id)) refl (λ e. apart (sym e)))
]
  where
    by : (b : Bool) → is_some (table_at ds id) ≡ b → (c : Bool) → is_some (table_at (defined d ds) id) ≡ c → (id ≡ d.id → ⊥) → is_some (table_at (defined d ds) id) ≡ is_some (table_at ds id)
    by true e c f apart = still_received roster d ds id distinct listed own apart e ∙ sym e
    by false e false f apart = f ∙ sym e
    by false e true f apart = let bad : false ≡ true = sym (rw (ne_eqb id d.id apart, e) refl) ∙ found_before d ds id f in cc

-- so after the definitions of these ids, these ids and the earlier ones are defined
all_more : (roster : List Definition) (ids : List ℕ) (ds : List Definition) (id : ℕ) → repeats_name roster ≡ false → list_all (λ other. has_id other roster) ids ≡ true → AreOwn roster ds → is_some (table_at (fold (with_own roster) ds ids) id) ≡ (is_in id ids || is_some (table_at ds id))
all_more roster [] ds id distinct listed own = refl
all_more roster (i ∷ ids) ds id distinct listed own =
    let rest : list_all (λ other. has_id other roster) ids ≡ true = and-right (has_id i roster) (list_all (λ other. has_id other roster) ids) listed in
    at (λ ts own_ts. all_more roster ids ts id distinct rest own_ts) (table_at roster i) refl
  where
    first : has_id i roster ≡ true
    first = and-left (has_id i roster) (list_all (λ other. has_id other roster) ids) listed

    at : ((ts : List Definition) → AreOwn roster ts → is_some (table_at (fold (with_own roster) ts ids) id) ≡ (is_in id ids || is_some (table_at ts id))) → (o : Option Definition) → table_at roster i ≡ o → is_some (table_at (fold (with_own roster) (with_own roster ds i) ids) id) ≡ ((i == id || is_in id ids) || is_some (table_at ds id))
    at more None e = let bad : false ≡ true = sym (has_id-table_at roster i ∙ rw e refl) ∙ first in cc
    at more (Some d) e =
        let id_is : d.id ≡ i = table_at-id roster i d e in
        let listed_d : table_at roster d.id ≡ Some d = subst (λ (n : ℕ). table_at roster n ≡ Some d) (sym id_is) e in
        let put : with_own roster ds i ≡ defined d ds = rw e refl in
        let later : is_some (table_at (fold (with_own roster) (defined d ds) ids) id) ≡ (is_in id ids || is_some (table_at (defined d ds) id)) = more (defined d ds) (AreOwn-defined roster d ds listed_d own) in
        let one : is_some (table_at (defined d ds) id) ≡ (i == id || is_some (table_at ds id)) = subst (λ (n : ℕ). is_some (table_at (defined d ds) id) ≡ (eqb n id || is_some (table_at ds id))) id_is (one_more roster d ds id distinct listed_d own) in
        subst (λ (ts : List Definition). is_some (table_at (fold (with_own roster) ts ids) id) ≡ ((eqb i id || is_in id ids) || is_some (table_at ds id))) (sym put)
        (later ∙ ap (λ (b : Bool). is_in id ids || b) one ∙ or_swap (eqb i id) (is_in id ids) (is_some (table_at ds id)))

-- a table that is received is the roster's
own_at : (roster ds : List Definition) (id : ℕ) → AreOwn roster ds → table_at ds id ≡ cond (is_some (table_at ds id)) (table_at roster id) None
own_at roster ds id own = at (table_at ds id) refl
  where
    at : (o : Option Definition) → table_at ds id ≡ o → table_at ds id ≡ cond (is_some (table_at ds id)) (table_at roster id) None
    at None e = rw e refl
    at (Some t) e = e ∙ sym (received_is_own roster ds id t own e) ∙ rw e refl

or_false : (b : Bool) → (b || false) ≡ b
or_false true = refl
or_false false = refl

pub built_tables : (roster : List Definition) (selected : Option ℕ) (ids : List ℕ) (last_numbers : List (ℕ × ℕ)) (slots : List (Option (List ℕ))) (id : ℕ) → roster_fault roster ≡ None → build_fault roster selected ids last_numbers ≡ None → table_at (built roster selected ids last_numbers slots).state.received.tables id ≡ cond (is_in id ids) (table_at roster id) None
built_tables roster selected ids last_numbers slots id sound none =
    let listed : list_all (λ other. has_id other roster) ids ≡ true = each_listed roster selected ids last_numbers (no_fault (are_known roster selected ids last_numbers) (are_defined selected ids last_numbers) (repeats ids) (repeats_last last_numbers) none).0 in
    let received : is_some (table_at (fold (with_own roster) [] ids) id) ≡ is_in id ids = all_more roster ids [] id (roster_names roster sound) listed tt ∙ or_false (is_in id ids) in
    own_at roster (fold (with_own roster) [] ids) id (AreOwn-resumed roster ids selected) ∙ ap (λ (b : Bool). cond b (table_at roster id) None) received

-- ---- last numbers

last_numbers_more : (ls placed : List (ℕ × ℕ)) (id : ℕ) → repeats_last ls ≡ false → last_of (fold (λ (placed : List (ℕ × ℕ)) (l : ℕ × ℕ). set_last l.0 l.1 placed) placed ls) id ≡ cond (has_last id ls) (last_of ls id) (last_of placed id)
last_numbers_more [] placed id distinct = refl
last_numbers_more (l ∷ ls) placed id distinct =
    let later = last_numbers_more ls (set_last l.0 l.1 placed) id (or-false-right (has_last l.0 ls) (repeats_last ls) distinct) in
    let put = last-put l.0 l.1 placed id in
    elim (cases_eq l.0 id) [
      | inl same ↦
          let alone : has_last id ls ≡ false = subst (λ (n : ℕ). has_last n ls ≡ false) same (or-false-left (has_last l.0 ls) (repeats_last ls) distinct) in
          later ∙ rw (alone, eq-eqb l.0 id same) (put ∙ rw (eq-eqb id l.0 (sym same)) refl)
      | inr apart ↦ later ∙ rw (ne_eqb l.0 id apart) (ap (λ (o : Option ℕ). cond (has_last id ls) (last_of ls id) o) (put ∙ rw (ne_eqb id l.0 (λ e. apart (sym e))) refl))
    ]

none_there : (ls : List (ℕ × ℕ)) (id : ℕ) → has_last id ls ≡ false → last_of ls id ≡ None
none_there [] id none = refl
none_there (l ∷ ls) id none = rw (or-false-left (eqb l.0 id) (has_last id ls) none) (none_there ls id (or-false-right (eqb l.0 id) (has_last id ls) none))

pub built_last_numbers : (roster : List Definition) (selected : Option ℕ) (ids : List ℕ) (last_numbers : List (ℕ × ℕ)) (slots : List (Option (List ℕ))) (id : ℕ) → build_fault roster selected ids last_numbers ≡ None → last_of (built roster selected ids last_numbers slots).state.last_numbers id ≡ last_of last_numbers id
built_last_numbers roster selected ids last_numbers slots id none =
    last_numbers_more last_numbers [] id (no_fault (are_known roster selected ids last_numbers) (are_defined selected ids last_numbers) (repeats ids) (repeats_last last_numbers) none).1 ∙ at (has_last id last_numbers) refl
  where
    at : (b : Bool) → has_last id last_numbers ≡ b → cond (has_last id last_numbers) (last_of last_numbers id) None ≡ last_of last_numbers id
    at true e = rw e refl
    at false e = rw e (sym (none_there last_numbers id e))
