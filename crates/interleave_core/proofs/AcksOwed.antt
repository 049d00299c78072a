-- The acknowledgements that a learner owes of a table.
use Rattle.std.proofs.Common.{◌≡◌, ℕ, ◌<◌, Bool, true, false, cond, eqb, List, [], ◌∷◌, ◌++◌, Option, Some, None, refl, sym, ap, ◌∙◌, inl, inr, arith, append-nil}
use Rattle.std.specs.Prelude.{filter_map, is_some, option_map, option_to_list}
use Rattle.std.specs.List.{AllByRecursion, cons_option}
use Rattle.std.proofs.lemmas.Bool.{cases_eq, eq-eqb, ne_eqb}
use Rattle.table_types.specs.Rosters.{has_id, repeats_name, table_at}
use Rattle.table_types.specs.Tables.{Definition}
use Rattle.peers_msg.specs.declared.message.Message.{Message}
use Rattle.peers_msg.specs.declared.message.Message.TheVariants as messages
use Rattle.peers_msg.specs.Received.{AreDistinct, IsBelow}
use Rattle.known_state.specs.Known.{AreOwn, is_in}
use Rattle.known_state.specs.LastNumbers.{last_of}
use Rattle.known_state.proofs.FitsOrIsRefused.{has_id-table_at}
use Rattle.learner.specs.Intake.{Taking, due_ack, due_acks}
use Rattle.learner.specs.LocalTables.{local_table}
use Rattle.learner.proofs.LegalStreamIsTaught.{own_found}
use Rattle.interleave_core.specs.Moves.{ack_in}
use Rattle.interleave_core.specs.Sound.{acked_numbers}

abbrev no_numbers : List ℕ
no_numbers = []

-- the number of a table that is due, if it has one
abbrev owes : Taking → ℕ → List ℕ
owes t table = cond (is_in table t.due) (option_to_list (last_of t.state.last_numbers table)) []

-- the numbers of a table's acknowledgements among those of some tables
abbrev owed_by : List Definition → ℕ → Taking → List Definition → List ℕ
owed_by roster table t ds = acked_numbers table (filter_map (ack_in roster) (filter_map (due_ack t) ds))

-- the same, with one more acknowledgement or none before them
abbrev owed_with : List Definition → ℕ → Taking → List Definition → Option Message → List ℕ
owed_with roster table t ds o = acked_numbers table (filter_map (ack_in roster) (cons_option o (filter_map (due_ack t) ds)))

-- a table's acknowledgement
own_ack : (roster : List Definition) (t : Taking) (d : Definition) → t.roster ≡ roster → repeats_name roster ≡ false → table_at roster d.id ≡ Some d
    → due_ack t d ≡ cond (is_in d.id t.due) (option_map (λ n. messages.Ack d.id n) (last_of t.state.last_numbers d.id)) None
own_ack roster t d rosters once own =
    let local : local_table t.roster d ≡ Some d = ap (λ (ds : List Definition). local_table ds d) rosters ∙ own_found roster d once own in
    rw local refl

-- the first of the tables, and then the others
first_owed : (roster : List Definition) (table : ℕ) (t : Taking) (d : Definition) (ds : List Definition) → t.roster ≡ roster → repeats_name roster ≡ false → table_at roster d.id ≡ Some d
    → owed_by roster table t (d ∷ ds) ≡ cond (eqb d.id table) (owes t d.id) [] ++ owed_by roster table t ds
first_owed roster table t d ds rosters once own =
    ap (λ (o : Option Message). owed_with roster table t ds o) (own_ack roster t d rosters once own) ∙ by (is_in d.id t.due) (last_of t.state.last_numbers d.id)
  where
    listed : has_id d.id roster ≡ true
    listed = has_id-table_at roster d.id ∙ ap (λ (o : Option Definition). is_some o) own

    nothing : (b : Bool) → owed_by roster table t ds ≡ cond b [] [] ++ owed_by roster table t ds
    nothing true = refl
    nothing false = refl

    one : (b : Bool) (n : ℕ) → eqb d.id table ≡ b → owed_with roster table t ds (Some (messages.Ack d.id n)) ≡ cond b (n ∷ []) [] ++ owed_by roster table t ds
    one true n e = rw (listed, e) refl
    one false n e = rw (listed, e) refl

    by : (b : Bool) (last : Option ℕ) → owed_with roster table t ds (cond b (option_map (λ n. messages.Ack d.id n) last) None) ≡ cond (eqb d.id table) (cond b (option_to_list last) []) [] ++ owed_by roster table t ds
    by false last = nothing (eqb d.id table)
    by true None = nothing (eqb d.id table)
    by true (Some n) = one (eqb d.id table) n refl

-- no table above another has its id
none_below : (d : Definition) (ds : List Definition) → AllByRecursion (IsBelow d) ds → has_id d.id ds ≡ false
none_below d [] below = refl
none_below d (x ∷ xs) below =
    let lt : d.id < x.id = below.0.0 in
    let apart : x.id ≡ d.id → ⊥ = λ same. omega arith in
    rw (ne_eqb x.id d.id apart) (none_below d xs below.1)

all_owed : (roster : List Definition) (table : ℕ) (t : Taking) (ds : List Definition) → t.roster ≡ roster → repeats_name roster ≡ false → AreOwn roster ds → AreDistinct ds
    → owed_by roster table t ds ≡ cond (has_id table ds) (owes t table) []
all_owed roster table t [] rosters once own distinct = refl
all_owed roster table t (d ∷ ds) rosters once own distinct = elim (cases_eq d.id table) [
  | inl same ↦
      let none : has_id table ds ≡ false = ap (λ (id : ℕ). has_id id ds) (sym same) ∙ none_below d ds distinct.0 in
      let rest : owed_by roster table t ds ≡ [] = all_owed roster table t ds rosters once own.1 distinct.1 ∙ rw none refl in
      let first : owed_by roster table t (d ∷ ds) ≡ owes t d.id ++ owed_by roster table t ds = first_owed roster table t d ds rosters once own.0 ∙ rw (eq-eqb d.id table same) refl in
      let whole : owed_by roster table t (d ∷ ds) ≡ owes t table =
      first ∙ ap (λ (ns : List ℕ). owes t d.id ++ ns) rest ∙ append-nil (owes t d.id) ∙ ap (owes t) same in
      whole ∙ rw (eq-eqb d.id table same) refl
  | inr other ↦
      let first : owed_by roster table t (d ∷ ds) ≡ owed_by roster table t ds = first_owed roster table t d ds rosters once own.0 ∙ rw (ne_eqb d.id table other) refl in
      first ∙ all_owed roster table t ds rosters once own.1 distinct.1 ∙ rw (ne_eqb d.id table other) refl
]

-- a learner owes one acknowledgement of a table that is due, of its last number, and none of another
pub owed_of : (roster : List Definition) (table : ℕ) (t : Taking) (last : Option ℕ) → t.roster ≡ roster → repeats_name roster ≡ false → AreOwn roster t.state.received.tables → AreDistinct t.state.received.tables
    → (is_some (last_of t.state.last_numbers table) ≡ true → is_some (table_at t.state.received.tables table) ≡ true) → last_of t.state.last_numbers table ≡ last
    → acked_numbers table (filter_map (ack_in roster) (due_acks t)) ≡ cond (is_in table t.due) (option_to_list last) []
owed_of roster table t last rosters once own distinct received is =
    all_owed roster table t t.state.received.tables rosters once own distinct
    ∙ by (last_of t.state.last_numbers table) refl (has_id table t.state.received.tables) refl
    ∙ ap (λ (o : Option ℕ). cond (is_in table t.due) (option_to_list o) []) is
  where
    same : (b : Bool) → cond b no_numbers no_numbers ≡ no_numbers
    same true = refl
    same false = refl

    by : (o : Option ℕ) → last_of t.state.last_numbers table ≡ o → (b : Bool) → has_id table t.state.received.tables ≡ b
        → cond b (owes t table) [] ≡ cond (is_in table t.due) (option_to_list (last_of t.state.last_numbers table)) []
    by o e true h = refl
    by None e false h = rw e (sym (same (is_in table t.due)))
    by (Some n) e false h =
        let found : has_id table t.state.received.tables ≡ true = has_id-table_at t.state.received.tables table ∙ received (ap (λ (x : Option ℕ). is_some x) e) in
        let bad : true ≡ false = sym found ∙ h in
        cc
