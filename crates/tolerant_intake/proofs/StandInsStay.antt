-- Each table outside the profile keeps its stand-in.
use Rattle.std.proofs.Common.{◌≡◌, ℕ, ◌<◌, Bool, true, false, not, ◌&&◌, ◌||◌, cond, eqb, ltb, List, [], ◌∷◌, Option, Some, None, Result, Ok, Err, refl, sym, ap, subst, ◌∙◌, inl, inr, arith}
use Rattle.std.specs.Prelude.{filter, option_and_then, option_map}
use Rattle.std.specs.List.{AllByRecursion}
use Rattle.std.specs.BTreeMap.{insert_entry}
use Rattle.std.specs.Cmp.{nat_cmp_is}
use Rattle.std.specs.Ordering.{nat_cmp}
use Rattle.std.specs.declared.cmp.Ordering.TheVariants.{Less, Equal, Greater}
use Rattle.std.proofs.lemmas.Bool.{cases_Bool, cases_eq, cases_lt, eqb-true, ne_eqb}
use Rattle.table_types.specs.Tables.{Definition}
use Rattle.table_types.specs.Rosters.{is_same_name, roster_fault, table_at}
use Rattle.peers_msg.specs.declared.fault.Breach.{Breach}
use Rattle.peers_msg.specs.declared.name_field.NameField.{NameField}
use Rattle.peers_msg.specs.Received.{insert_table, outlives, defined}
use Rattle.peers_msg.specs.Reading.{frame_at}
use Rattle.peers_msg.proofs.MapsById.{tested}
use Rattle.peers_msg.proofs.ReceivedTablesRise.{lives_apart}
use Rattle.known_state.specs.State.{State}
use Rattle.known_state.specs.Effects.{made}
use Rattle.known_state.specs.declared.effect.Effect.{Effect}
use Rattle.known_state.specs.declared.effect.Effect.TheVariants as effects
use Rattle.known_state.proofs.EffectsAreSteps.{no_other}
use Rattle.known_state.proofs.ReceivedIsOwn.{table_at-id, define_selects}
use Rattle.learner.specs.declared.taken.Taken.{Taken}
use Rattle.learner.specs.LocalTables.{local_id, local_table}
use Rattle.learner.specs.Intake.{Taking, IntakeNext, ack_of, fed}
use Rattle.tolerant_intake.specs.declared.loose_table.LooseTable.{LooseTable}
use Rattle.tolerant_intake.specs.declared.passed_over.Cause.{Cause}
use Rattle.tolerant_intake.specs.Loose.{LooseUpdate}
use Rattle.tolerant_intake.specs.StandIns.{stand_in, loose_table}
use Rattle.tolerant_intake.specs.Tolerance.{Tolerance, counted_for, is_further, loose_at, outlasting, outlasts, redefined, replaced, selected_loose}
use Rattle.tolerant_intake.specs.Policy.{Passage, Strict, Defines, Counts, StandsIn, Unnumbered, Breaks, loose_front, numbered, of_loose_update, passage_by, passage_of, passed, slot_cause}
use Rattle.tolerant_intake.specs.Planning.{passage_for}
use Rattle.tolerant_intake.specs.Reading.{Reads, ReadsAs}
use Rattle.tolerant_intake.specs.Agreement.{AreApart, IsApart}
use Rattle.tolerant_intake.proofs.AgreesWithStrict.{has_effect}
use Rattle.tolerant_intake.proofs.FrontRead.{opened, takes_so}
use Rattle.tolerant_intake.proofs.ReadingGoesOn.{passes_so, given_no_memory}
use Rattle.tolerant_intake.proofs.StandInsAreNoLocalTables.{no_local_stand_in}

-- ---- tables that a definition doesn't replace

at_filtered : (new d : Definition) (ds : List Definition) (id : ℕ) → table_at ds id ≡ Some d → outlives new d ≡ true → table_at (filter (outlives new) ds) id ≡ Some d
at_filtered new d [] id e out = absurd cc
at_filtered new d (x ∷ ds) id e out = elim (cases_Bool (eqb x.id id)) [
  | inl here ↦
      let same : ◌≡◌ {A = Option Definition} (Some x) (Some d) = rw here at e in
      let is : x ≡ d = cc in
      let kept : outlives new x ≡ true = ap (outlives new) is ∙ out in
      rw (kept, here) same
  | inr there ↦
      let later : table_at ds id ≡ Some d = rw there at e in
      elim (cases_Bool (outlives new x)) [
        | inl kept ↦ rw (kept, there) (at_filtered new d ds id later out)
        | inr gone ↦ rw gone (at_filtered new d ds id later out)
      ]
]

at_inserted : (new : Definition) (ds : List Definition) (id : ℕ) → eqb new.id id ≡ false → table_at (insert_table new ds) id ≡ table_at ds id
at_inserted new [] id other = rw other refl
at_inserted new (x ∷ ds) id other = elim (cases_Bool (ltb new.id x.id)) [
  | inl lower ↦ rw (lower, other) refl
  | inr later ↦ elim (cases_Bool (eqb x.id id)) [
    | inl here ↦ rw (later, here) refl
    | inr there ↦ rw (later, there) (at_inserted new ds id other)
  ]
]

table_stays : (new d : Definition) (ds : List Definition) (id : ℕ) → table_at ds id ≡ Some d → outlives new d ≡ true → table_at (defined new ds) id ≡ Some d
table_stays new d ds id e out =
    let is : d.id ≡ id = table_at-id ds id d e in
    let other : eqb new.id id ≡ false = ne_eqb new.id id (λ same. (lives_apart new d out).0 (is ∙ sym same)) in
    at_inserted new (filter (outlives new) ds) id other ∙ at_filtered new d ds id e out

-- ---- stand-ins

neither : (a b : Bool) → not (a || b) ≡ (not a && not b)
neither true b = refl
neither false b = refl

apart_still : (roster : List Definition) (new : Definition) (ds : List Definition) (l : ℕ × LooseTable) → IsApart roster ds l → outlasts new l.0 (table_at ds l.0) ≡ true → IsApart roster (defined new ds) l
apart_still roster new ds l (d, at, none) kept =
    let stays_on : not (eqb l.0 new.id || is_same_name d.name new.name) ≡ true = rw at at kept in
    let out : outlives new d ≡ true =
    ap (λ (i : ℕ). not (eqb i new.id) && not (is_same_name d.name new.name)) (table_at-id ds l.0 d at) ∙ sym (neither (eqb l.0 new.id) (is_same_name d.name new.name)) ∙ stays_on in
    (d, table_stays new d ds l.0 at out, none)

all_stay : (roster : List Definition) (new : Definition) (ds : List Definition) (ls : List (ℕ × LooseTable)) → AllByRecursion (IsApart roster ds) ls → AllByRecursion (IsApart roster (defined new ds)) (outlasting new ds ls)
all_stay roster new ds [] all = tt
all_stay roster new ds (l ∷ ls) all = elim (cases_Bool (outlasts new l.0 (table_at ds l.0))) [
  | inl kept ↦ rw kept (apart_still roster new ds l all.0 kept, all_stay roster new ds ls all.1)
  | inr gone ↦ rw gone (all_stay roster new ds ls all.1)
]

all_more : (roster ds : List Definition) (ls : List (ℕ × LooseTable)) (id : ℕ) (l : LooseTable) → AllByRecursion (IsApart roster ds) ls → IsApart roster ds (id, l) → AllByRecursion (IsApart roster ds) (insert_entry nat_cmp ls id l)
all_more roster ds [] id l all is = (is, tt)
all_more roster ds (x ∷ ls) id l all is = elim (cases_eq x.0 id) [
  | inl same ↦ rw (sym (nat_cmp_is id x.0 Equal (sym same))) (subst (λ (i : ℕ). IsApart roster ds (i, l)) (sym same) is, all.1)
  | inr other ↦ elim (cases_lt id x.0) [
    | inl lt ↦ rw (sym (nat_cmp_is id x.0 Less lt)) (is, all)
    | inr le ↦
        let gt : x.0 < id = omega arith in
        rw (sym (nat_cmp_is id x.0 Greater gt)) (all.0, all_more roster ds ls id l all.1 is)
  ]
]

-- ---- the tables received after a message that the strict intake takes

abbrev Leaves : Passage → List Definition → List Definition → Type 0
Leaves Strict before after = after ≡ before
Leaves (Defines d) before after = after ≡ defined d before
Leaves (Counts r cause) before after = Unit {0}
Leaves (StandsIn d) before after = Unit {0}
Leaves Unnumbered before after = Unit {0}
Leaves (Breaks breach) before after = Unit {0}

made_leaves : (s : State) (effect : Effect) → Leaves (passage_for s effect) s.received.tables (made s effect).received.tables
made_leaves s effects.Nothing = refl
made_leaves s (effects.Select id) = refl
made_leaves s (effects.Update r) = refl
made_leaves s (effects.Define d) = elim (cases_Bool (is_further s.received d.id)) [ inl further ↦ rw further tt | inr known ↦ rw known refl ]

passed_leaves : (number : Option (ℕ × ℕ)) (field : NameField) (cause : Option Cause) (before after : List Definition) → Leaves (passed number field cause Unnumbered) before after
passed_leaves None field cause before after = tt
passed_leaves (Some n) field cause before after = tt

loosely_leaves : (s : State) (read : Result LooseUpdate Breach) (before after : List Definition) → Leaves (of_loose_update s read) before after
loosely_leaves s (Ok u) before after = passed_leaves (numbered s u.number) u.name (slot_cause s u.name) before after
loosely_leaves s (Err breach) before after = tt

roster_same : (t e : Taking) (answer : Taken) → IntakeNext t (Ok (Some answer)) e → e.roster ≡ t.roster
roster_same t e answer (m, (is_open, rest, at, us, step, keeps, is), says) = ap (λ (x : Taking). x.roster) is

taken_leaves : (l : Tolerance) (t e : Taking) (answer : Taken) → IntakeNext t (Ok (Some answer)) e → Leaves (passage_of l t) t.state.received.tables e.state.received.tables
taken_leaves l t e answer (m, (is_open, rest, at, us, step, keeps, is), says) = by (loose_front (selected_loose l t.state.received) (frame_at t.unread)) refl
  where
    before : List Definition
    before = t.state.received.tables

    after : List Definition
    after = e.state.received.tables

    by : (read : Option (Result LooseUpdate Breach)) → loose_front (selected_loose l t.state.received) (frame_at t.unread) ≡ read → Leaves (passage_of l t) t.state.received.tables e.state.received.tables
    by None none =
        let has = has_effect t.state e.state m us step in
        let leads : e.state ≡ made t.state has.0 = (no_other t.state e.state m us has.0 has.1 step).1 in
        let passage : passage_of l t ≡ passage_for t.state has.0 = takes_so l t m rest has.0 is_open at has.1 none in
        let leaves : Leaves (passage_for t.state has.0) before after = subst (λ (s : State). Leaves (passage_for t.state has.0) before s.received.tables) (sym leads) (made_leaves t.state has.0) in
        subst (λ (p : Passage). Leaves p before after) (sym passage) leaves
    by (Some read) loose =
        let passage : passage_of l t ≡ of_loose_update t.state read =
        opened l t (frame_at t.unread) is_open refl ∙ ap (λ (o : Option (Result LooseUpdate Breach)). passage_by t.state o (frame_at t.unread)) loose in
        subst (λ (p : Passage). Leaves p before after) (sym passage) (loosely_leaves t.state read before after)

-- ---- after a message

moved : (l : Tolerance) (t e : Taking) (ds : List Definition) → e.roster ≡ t.roster → e.state.received.tables ≡ ds → AllByRecursion (IsApart t.roster ds) l.loose → AreApart (Some l) e
moved l t e ds roster tables all =
    subst (λ (r : List Definition). AllByRecursion (IsApart r e.state.received.tables) l.loose) (sym roster) (subst (λ (x : List Definition). AllByRecursion (IsApart t.roster x) l.loose) (sym tables) all)

counted_apart : (cause : Option Cause) (l : Tolerance) (t e : Taking) → AreApart (Some l) t → e.roster ≡ t.roster → e.state.received.tables ≡ t.state.received.tables → AreApart (Some (counted_for cause l)) e
counted_apart None l t e all roster tables = moved l t e t.state.received.tables roster tables all
counted_apart (Some cause) l t e all roster tables = moved l t e t.state.received.tables roster tables all

as_apart : (p : Passage) (l : Tolerance) (t e : Taking) (answer : Taken) (after : Option Tolerance) → roster_fault t.roster ≡ None → AreApart (Some l) t → (IntakeNext t (Ok (Some answer)) e → Leaves p t.state.received.tables e.state.received.tables)
    → ReadsAs p l t (Ok (Some answer)) e after → (e.roster ≡ t.roster) × AreApart after e
as_apart Strict l t e answer after sound all leaves (next, then) =
    let roster = roster_same t e answer next in
    (roster, subst (λ (o : Option Tolerance). AreApart o e) (sym then) (moved l t e t.state.received.tables roster (leaves next) all))
as_apart (Defines d) l t e answer after sound all leaves (next, then) =
    let roster = roster_same t e answer next in
    let ds : List Definition = t.state.received.tables in
    (roster, subst (λ (o : Option Tolerance). AreApart o e) (sym then) (moved (redefined d t.state.received l) t e (defined d ds) roster (leaves next) (all_stay t.roster d ds l.loose all)))
as_apart (Counts r cause) l t e answer after sound all leaves passes =
    let so = passes_so (effects.Update r) (counted_for cause l) l t e (Ok (Some answer)) after passes (given_no_memory (Some answer)) in
    let roster : e.roster ≡ t.roster = ap (λ (x : Taking). x.roster) so.1 in
    let tables : e.state.received.tables ≡ t.state.received.tables = ap (λ (x : Taking). x.state.received.tables) so.1 in
    (roster, subst (λ (o : Option Tolerance). AreApart o e) (sym so.2) (counted_apart cause l t e all roster tables))
as_apart (StandsIn d) l t e answer after sound all leaves passes =
    let new : Definition = stand_in t.roster d in
    let ds : List Definition = t.state.received.tables in
    let left : Tolerance = replaced d new t.state.received l in
    let so = passes_so (effects.Define new) left l t e (Ok (Some answer)) after passes (given_no_memory (Some answer)) in
    let roster : e.roster ≡ t.roster = ap (λ (x : Taking). x.roster) so.1 in
    let tables : e.state.received.tables ≡ defined new ds = ap (λ (x : Taking). x.state.received.tables) so.1 in
    let own : table_at (defined new ds) d.id ≡ Some new = define_selects t.state.received new in
    let more : AllByRecursion (IsApart t.roster (defined new ds)) left.loose =
    all_more t.roster (defined new ds) (outlasting new ds l.loose) d.id (loose_table d) (all_stay t.roster new ds l.loose all) (new, own, no_local_stand_in t.roster d sound) in
    (roster, subst (λ (o : Option Tolerance). AreApart o e) (sym so.2) (moved left t e (defined new ds) roster tables more))
as_apart Unnumbered l t e answer after sound all leaves stops =
    let wrong = stops.0 in
    absurd cc
as_apart (Breaks breach) l t e answer after sound all leaves stops =
    let wrong = stops.0 in
    absurd cc

pub reads_apart : (l after : Option Tolerance) (t e : Taking) (answer : Taken) → roster_fault t.roster ≡ None → AreApart l t → Reads l t (Ok (Some answer)) e after → (e.roster ≡ t.roster) × AreApart after e
reads_apart None after t e answer sound all (next, then) = (roster_same t e answer next, subst (λ (o : Option Tolerance). AreApart o e) (sym then) tt)
reads_apart (Some l) after t e answer sound all reads = as_apart (passage_of l t) l t e answer after sound all (taken_leaves l t e answer) reads

pub fed_apart : (l : Option Tolerance) (t : Taking) (piece : List ℕ) → AreApart l t → AreApart l (fed t piece)
fed_apart None t piece all = tt
fed_apart (Some l) t piece all = all

-- ---- acknowledgements

found_apart : (roster ds : List Definition) (ls : List (ℕ × LooseTable)) (id : ℕ) (l : LooseTable) → AllByRecursion (IsApart roster ds) ls → loose_at ls id ≡ Some l → (d : Definition) × (table_at ds id ≡ Some d) × (local_table roster d ≡ None)
found_apart roster ds [] id l all e = absurd cc
found_apart roster ds (x ∷ ls) id l all e = elim (cases_Bool (eqb x.0 id)) [
  | inl here ↦
      let one = all.0 in
      (one.0, ap (table_at ds) (sym (eqb-true x.0 id here)) ∙ one.1, one.2)
  | inr there ↦ found_apart roster ds ls id l all.1 (sym (ap found (tested id x.0 ∙ there)) ∙ e)
]
  where
    found : Bool → Option LooseTable
    found b = cond b (Some x.1) (loose_at ls id)

pub none_due : (l : Tolerance) (t : Taking) (id : ℕ) (table : LooseTable) → AreApart (Some l) t → loose_at l.loose id ≡ Some table → (local_id t.roster t.state.received id ≡ None) × (ack_of t id ≡ None)
none_due l t id table all e =
    let one = found_apart t.roster t.state.received.tables l.loose id table all e in
    let there : local_id t.roster t.state.received id ≡ None =
    ap (λ (o : Option Definition). option_map (λ (x : Definition). x.id) (option_and_then (local_table t.roster) o)) one.1 ∙ ap (option_map (λ (x : Definition). x.id)) one.2 in
    (there, rw there refl)
