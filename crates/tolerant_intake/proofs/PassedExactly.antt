-- Which of the messages at which the strict intake stops are passed over, with no table outside the profile.
use Rattle.std.proofs.Common.{◌≡◌, ◌≢◌, ◌⊎◌, ◌↔◌, ℕ, Bool, true, false, List, [], Option, Some, None, Result, Ok, Err, refl, sym, ap, subst, ◌∙◌, inl, inr, length}
use Rattle.std.specs.Prelude.{◌==◌, option_map}
use Rattle.std.proofs.lemmas.Bool.{cases_Bool, eqb-true}
use Rattle.std.proofs.lemmas.List.{nil_from_length}
use Rattle.table_types.specs.Tables.{Definition}
use Rattle.table_types.specs.Keys.{number_of}
use Rattle.peers_msg.specs.declared.fault.Breach.{Breach}
use Rattle.peers_msg.specs.declared.fault.Breach.TheVariants as breaches
use Rattle.peers_msg.specs.declared.meaning.Meaning.{Meaning}
use Rattle.peers_msg.specs.declared.meaning.Meaning.TheVariants as meanings
use Rattle.peers_msg.specs.declared.name_field.NameField.{NameField}
use Rattle.peers_msg.specs.Received.{selected_table}
use Rattle.peers_msg.specs.Reading.{Frame, frame_at, meant, message_at}
use Rattle.known_state.specs.State.{State}
use Rattle.learner.specs.declared.fault.Fault.{Fault}
use Rattle.learner.specs.declared.fault.Fault.TheVariants as faults
use Rattle.learner.specs.Intake.{Taking, IntakeNext}
use Rattle.tolerant_intake.specs.declared.loose_table.LooseTable.{LooseTable}
use Rattle.tolerant_intake.specs.declared.passed_over.Cause.TheVariants as causes
use Rattle.tolerant_intake.specs.Loose.{LooseDefinition, LooseUpdate, loose_definition_at, loose_update_at}
use Rattle.tolerant_intake.specs.Tolerance.{Tolerance, is_further, selected_loose}
use Rattle.tolerant_intake.specs.Policy.{Passage, Strict, Defines, Counts, StandsIn, Unnumbered, Breaks, loose_front, loose_in, numbered, of_bad_values, of_breach, of_loose_definition, of_values, passage_of, passed, writes}
use Rattle.tolerant_intake.specs.Reading.{Reads}
use Rattle.tolerant_intake.specs.Agreement.{DefinesLoosely, IsListed, IsLooselyDefined, IsPassable, IsSilent, StandsInUnlessFurther, as_loose}
use Rattle.tolerant_intake.proofs.AgreesWithStrict.{Lists, stops_too}
use Rattle.tolerant_intake.proofs.FrontRead.{FrontRead, bodied, faulty_front, none_loose, unloosed, whole_front}
use Rattle.tolerant_intake.proofs.RefusedUpdates.{empty_update, silent_writes}
use Rattle.tolerant_intake.proofs.StrictReading.{body_fails}

-- ---- updates with a value out of its range

abbrev bad_value : Fault
bad_value = faults.Breach breaches.BadValue

-- an update that is read so ends there, has a number, and writes no name
abbrev IsSilentAs : State → Option (Result LooseUpdate Breach) → Type 0
IsSilentAs s read = (u : LooseUpdate) × (n : ℕ × ℕ) × (read ≡ Some (Ok u)) × (u.rest ≡ []) × (numbered s u.number ≡ Some n) × (writes u.name ≡ false)

has_number : (number : Option (ℕ × ℕ)) (field : NameField) → Lists bad_value (passed number field (Some causes.Value) Strict) → (n : ℕ × ℕ) × (number ≡ Some n)
has_number None field listed = absurd listed
has_number (Some n) field listed = (n, refl)

silent_values : (s : State) (read : Result LooseUpdate Breach) → Lists bad_value (of_values s read) → IsSilentAs s (Some read)
silent_values s (Err breach) listed = absurd listed
silent_values s (Ok u) listed = elim (cases_Bool (length u.rest == 0)) [
  | inr more ↦
      let strict : of_values s (Ok u) ≡ Strict = rw more refl in
      absurd (subst (Lists bad_value) strict listed)
  | inl end ↦ elim (cases_Bool (writes u.name)) [
    | inl written ↦
        let strict : of_values s (Ok u) ≡ Strict = rw (end, written) refl in
        absurd (subst (Lists bad_value) strict listed)
    | inr silent ↦
        let is : of_values s (Ok u) ≡ passed (numbered s u.number) u.name (Some causes.Value) Strict = rw (end, silent) refl in
        let number = has_number (numbered s u.number) u.name (subst (Lists bad_value) is listed) in
        (u, number.0, refl, nil_from_length u.rest (eqb-true (length u.rest) 0 end), number.1, silent)
  ]
]

values_silent : (s : State) (u : LooseUpdate) (n : ℕ × ℕ) → u.rest ≡ [] → numbered s u.number ≡ Some n → writes u.name ≡ false → Lists bad_value (of_values s (Ok u))
values_silent s u n rest number silent =
    let end : (length u.rest == 0) ≡ true = ap (λ (bytes : List ℕ). length bytes == 0) rest in
    let is : of_values s (Ok u) ≡ passed (numbered s u.number) u.name (Some causes.Value) Strict = rw (end, silent) refl in
    subst (Lists bad_value) (sym (is ∙ ap (λ (o : Option (ℕ × ℕ)). passed o u.name (Some causes.Value) Strict) number)) (refl, silent_writes u.name silent)

-- an update of the selected table, read loosely
abbrev loosely : Option Definition → Meaning → List ℕ → Option (Result LooseUpdate Breach)
loosely None meaning body = None
loosely (Some d) meaning body = loose_in (as_loose d) meaning body

front_loosely : (selected : Option Definition) (f : Frame) (rest : List ℕ) → loose_front (option_map as_loose selected) (Ok (Some (f, rest))) ≡ loosely selected (meant f.class f.message_type) f.body
front_loosely None f rest = refl
front_loosely (Some d) f rest = refl

silent_update : (s : State) (with_number timed : Bool) (body : List ℕ) (selected : Option Definition) → Lists bad_value (of_bad_values s with_number timed body selected) → IsSilentAs s (loosely selected (meanings.Update with_number timed) body)
silent_update s with_number timed body None listed = absurd listed
silent_update s with_number timed body (Some d) listed = silent_values s (loose_update_at (number_of d.kind) d.key_length d.types with_number timed body) listed

update_silent : (s : State) (with_number timed : Bool) (body : List ℕ) (selected : Option Definition) → IsSilentAs s (loosely selected (meanings.Update with_number timed) body) → Lists bad_value (of_bad_values s with_number timed body selected)
update_silent s with_number timed body None (u, n, is, rest, number, silent) = absurd cc
update_silent s with_number timed body (Some d) (u, n, is, rest, number, silent) =
    let read : loose_update_at (number_of d.kind) d.key_length d.types with_number timed body ≡ Ok u = cc in
    subst (λ (r : Result LooseUpdate Breach). Lists bad_value (of_values s r)) (sym read) (values_silent s u n rest number silent)

-- no other message is an update
other_silent : (s : State) (selected : Option Definition) (meaning : Meaning) (body : List ℕ) → ((d : Definition) → loose_in (as_loose d) meaning body ≡ None) → IsSilentAs s (loosely selected meaning body) → ⊥
other_silent s None meaning body none (u, n, is, rest, number, silent) = cc
other_silent s (Some d) meaning body none (u, n, is, rest, number, silent) =
    let wrong : ◌≡◌ {A = Option (Result LooseUpdate Breach)} None (Some (Ok u)) = sym (none d) ∙ is in
    cc

silent_breach : (s : State) (meaning : Meaning) (body : List ℕ) → Lists bad_value (of_breach s meaning body breaches.BadValue) → IsSilentAs s (loosely (selected_table s.received) meaning body)
silent_breach s (meanings.Control c) body listed = absurd listed
silent_breach s (meanings.Error e) body listed = absurd listed
silent_breach s (meanings.Update with_number timed) body listed = silent_update s with_number timed body (selected_table s.received) listed
silent_breach s meanings.Define body listed = absurd listed
silent_breach s meanings.Switch body listed = absurd listed
silent_breach s meanings.Ack body listed = absurd listed
silent_breach s meanings.Other body listed = absurd listed

breach_silent : (s : State) (meaning : Meaning) (body : List ℕ) → IsSilentAs s (loosely (selected_table s.received) meaning body) → Lists bad_value (of_breach s meaning body breaches.BadValue)
breach_silent s (meanings.Control c) body silent = other_silent s (selected_table s.received) (meanings.Control c) body (λ d. refl) silent
breach_silent s (meanings.Error e) body silent = other_silent s (selected_table s.received) (meanings.Error e) body (λ d. refl) silent
breach_silent s (meanings.Update with_number timed) body silent = update_silent s with_number timed body (selected_table s.received) silent
breach_silent s meanings.Define body silent = other_silent s (selected_table s.received) meanings.Define body (λ d. refl) silent
breach_silent s meanings.Switch body silent = other_silent s (selected_table s.received) meanings.Switch body (λ d. refl) silent
breach_silent s meanings.Ack body silent = other_silent s (selected_table s.received) meanings.Ack body (λ d. refl) silent
breach_silent s meanings.Other body silent = other_silent s (selected_table s.received) meanings.Other body (λ d. refl) silent

-- nothing is read loosely of bytes that can't begin a message
never_silent : (s : State) (selected : Option LooseTable) (breach : Breach) → IsSilentAs s (loose_front selected (Err breach)) → ⊥
never_silent s None breach (u, n, is, rest, number, silent) = cc
never_silent s (Some l) breach (u, n, is, rest, number, silent) = cc

bad_values : (l : Tolerance) (t e : Taking) → l.loose ≡ [] → IntakeNext t (Err bad_value) e → Lists bad_value (passage_of l t) ↔ IsSilent t
bad_values l t e none (is_open, at, is) = elim (faulty_front t.state.received t.unread breaches.BadValue at) [
  | inl never ↦
      let strict : passage_of l t ≡ Strict = unloosed l t (Err breaches.BadValue) is_open never (none_loose l t.state.received (frame_at t.unread) none) in
      let selected : Option LooseTable = option_map as_loose (selected_table t.state.received) in (
        (λ listed. absurd (subst (Lists bad_value) strict listed)),
        (λ silent. absurd (never_silent t.state selected breaches.BadValue (subst (λ (r : FrontRead). IsSilentAs t.state (loose_front selected r)) never silent))),
      )
  | inr (rest, has) ↦
      let f : Frame = has.0 in
      let passage : passage_of l t ≡ of_breach t.state (meant f.class f.message_type) f.body breaches.BadValue =
      bodied l t (Err breaches.BadValue) rest is_open (none_loose l t.state.received (frame_at t.unread) none) has in
      let read : loose_front (option_map as_loose (selected_table t.state.received)) (frame_at t.unread) ≡ loosely (selected_table t.state.received) (meant f.class f.message_type) f.body =
      ap (loose_front (option_map as_loose (selected_table t.state.received))) has.1 ∙ front_loosely (selected_table t.state.received) f rest in (
        (λ listed. subst (IsSilentAs t.state) (sym read) (silent_breach t.state (meant f.class f.message_type) f.body (subst (Lists bad_value) passage listed))),
        (λ silent. subst (Lists bad_value) (sym passage) (breach_silent t.state (meant f.class f.message_type) f.body (subst (IsSilentAs t.state) read silent))),
      )
]

-- ---- definitions

-- a definition that can be read loosely
abbrev IsDefined : Meaning → List ℕ → Type 0
IsDefined meaning body = (meaning ≡ meanings.Define) × (d : LooseDefinition) × (loose_definition_at body ≡ Ok d)

read_by : (fault : Fault) (s : State) (read : Result LooseDefinition Breach) → (Lists fault Strict → ⊥) → Lists fault (of_loose_definition s read) → (d : LooseDefinition) × (read ≡ Ok d)
read_by fault s (Err breach) never listed = absurd (never listed)
read_by fault s (Ok d) never listed = (d, refl)

unknown_type : (s : State) (meaning : Meaning) (body : List ℕ) → Lists (faults.Breach breaches.UnknownDataType) (of_breach s meaning body breaches.UnknownDataType) → IsDefined meaning body
unknown_type s (meanings.Control c) body listed = absurd listed
unknown_type s (meanings.Error e) body listed = absurd listed
unknown_type s (meanings.Update with_number timed) body listed = absurd listed
unknown_type s meanings.Define body listed =
    let read = read_by (faults.Breach breaches.UnknownDataType) s (loose_definition_at body) (λ never. never) listed in
    (refl, read.0, read.1)
unknown_type s meanings.Switch body listed = absurd listed
unknown_type s meanings.Ack body listed = absurd listed
unknown_type s meanings.Other body listed = absurd listed

bad_definition : (s : State) (meaning : Meaning) (body : List ℕ) → Lists (faults.Breach breaches.BadDefinition) (of_breach s meaning body breaches.BadDefinition) → IsDefined meaning body
bad_definition s (meanings.Control c) body listed = absurd listed
bad_definition s (meanings.Error e) body listed = absurd listed
bad_definition s (meanings.Update with_number timed) body listed = absurd listed
bad_definition s meanings.Define body listed =
    let read = read_by (faults.Breach breaches.BadDefinition) s (loose_definition_at body) (λ never. never) listed in
    (refl, read.0, read.1)
bad_definition s meanings.Switch body listed = absurd listed
bad_definition s meanings.Ack body listed = absurd listed
bad_definition s meanings.Other body listed = absurd listed

loosely_read : (l : Tolerance) (t e : Taking) (breach : Breach) → l.loose ≡ [] → IntakeNext t (Err (faults.Breach breach)) e
    → ((meaning : Meaning) (body : List ℕ) → Lists (faults.Breach breach) (of_breach t.state meaning body breach) → IsDefined meaning body)
    → (Lists (faults.Breach breach) Strict → ⊥)
    → Lists (faults.Breach breach) (passage_of l t) → IsLooselyDefined t
loosely_read l t e breach none (is_open, at, is) defines never listed =
    let unread = none_loose l t.state.received (frame_at t.unread) none in
    elim (faulty_front t.state.received t.unread breach at) [
      | inl faulty ↦
          let strict : passage_of l t ≡ Strict = unloosed l t (Err breach) is_open faulty unread in
          absurd (never (subst (Lists (faults.Breach breach)) strict listed))
      | inr (rest, has) ↦
          let f : Frame = has.0 in
          let passage : passage_of l t ≡ of_breach t.state (meant f.class f.message_type) f.body breach = bodied l t (Err breach) rest is_open unread has in
          let defined = defines (meant f.class f.message_type) f.body (subst (Lists (faults.Breach breach)) passage listed) in
          (defined.1, (f, rest, has.1, defined.0, defined.2))
    ]

-- what becomes of a definition that is read so
passage_as_defined : (l : Tolerance) (t e : Taking) (breach : Breach) (d : LooseDefinition) → l.loose ≡ [] → IntakeNext t (Err (faults.Breach breach)) e
    → ((body : List ℕ) → of_breach t.state meanings.Define body breach ≡ of_loose_definition t.state (loose_definition_at body))
    → DefinesLoosely t d → passage_of l t ≡ of_loose_definition t.state (Ok d)
passage_as_defined l t e breach d none (is_open, at, is) loosely (f, rest, front, means, read) =
    let passage : passage_of l t ≡ of_breach t.state (meant f.class f.message_type) f.body breach =
    bodied l t (Err breach) rest is_open (none_loose l t.state.received (frame_at t.unread) none) (f, front, body_fails t.state.received t.unread f rest breach front at) in
    let defined : of_breach t.state (meant f.class f.message_type) f.body breach ≡ of_breach t.state meanings.Define f.body breach =
    ap (λ (meaning : Meaning). of_breach t.state meaning f.body breach) means in
    passage ∙ (defined ∙ (loosely f.body ∙ ap (λ (r : Result LooseDefinition Breach). of_loose_definition t.state r) read))

by_id : (t : Taking) (d : LooseDefinition) (p : Passage) → DefinesLoosely t d → p ≡ of_loose_definition t.state (Ok d) → StandsInUnlessFurther t p
by_id t d p defines is = elim (cases_Bool (is_further t.state.received d.id)) [
  | inl further ↦
      let breaks : p ≡ Breaks breaches.SizeLimit = is ∙ rw further refl in
      subst (λ (q : Passage). StandsInUnlessFurther t q) (sym breaks) (d, defines, further)
  | inr known ↦
      let stands : p ≡ StandsIn d = is ∙ rw known refl in
      subst (λ (q : Passage). StandsInUnlessFurther t q) (sym stands) (defines, known)
]

-- only a definition that can be read loosely becomes that
only_defined : (t : Taking) (p : Passage) → StandsInUnlessFurther t p → IsLooselyDefined t
only_defined t Strict so = absurd so
only_defined t (Defines d) so = absurd so
only_defined t (Counts r cause) so = absurd so
only_defined t (StandsIn d) so = (d, so.0)
only_defined t Unnumbered so = absurd so
only_defined t (Breaks breaches.SizeLimit) so = (so.0, so.1)
only_defined t (Breaks breaches.BadInteger) so = absurd so
only_defined t (Breaks breaches.BadDefinition) so = absurd so
only_defined t (Breaks breaches.UnknownDataType) so = absurd so
only_defined t (Breaks breaches.NoTable) so = absurd so
only_defined t (Breaks breaches.BadKey) so = absurd so
only_defined t (Breaks breaches.BadValue) so = absurd so
only_defined t (Breaks breaches.Trailing) so = absurd so

exactly_defined : (l : Tolerance) (t e : Taking) (breach : Breach) → l.loose ≡ [] → IntakeNext t (Err (faults.Breach breach)) e
    → ((body : List ℕ) → of_breach t.state meanings.Define body breach ≡ of_loose_definition t.state (loose_definition_at body))
    → IsLooselyDefined t → StandsInUnlessFurther t (passage_of l t)
exactly_defined l t e breach none stops loosely (d, defines) = by_id t d (passage_of l t) defines (passage_as_defined l t e breach d none stops loosely defines)

-- ---- any fault

listed_so : (l : Tolerance) (t e : Taking) (fault : Fault) → l.loose ≡ [] → IntakeNext t (Err fault) e → Lists fault (passage_of l t) → IsListed t fault (passage_of l t)
listed_so l t e faults.Memory none stops listed = listed
listed_so l t e faults.Closed none stops listed = listed
listed_so l t e faults.NoNumber none stops listed = listed
listed_so l t e faults.EmptySlot none stops listed = listed
listed_so l t e (faults.Breach breaches.BadInteger) none stops listed = listed
listed_so l t e (faults.Breach breaches.SizeLimit) none stops listed = listed
listed_so l t e (faults.Breach breaches.NoTable) none stops listed = listed
listed_so l t e (faults.Breach breaches.BadKey) none stops listed = listed
listed_so l t e (faults.Breach breaches.Trailing) none stops listed = listed
listed_so l t e (faults.Breach breaches.BadValue) none stops listed = listed
listed_so l t e (faults.Breach breaches.UnknownDataType) none stops listed =
    exactly_defined l t e breaches.UnknownDataType none stops (λ body. refl) (loosely_read l t e breaches.UnknownDataType none stops (unknown_type t.state) (λ never. never) listed)
listed_so l t e (faults.Breach breaches.BadDefinition) none stops listed =
    exactly_defined l t e breaches.BadDefinition none stops (λ body. refl) (loosely_read l t e breaches.BadDefinition none stops (bad_definition t.state) (λ never. never) listed)

pub stops_or_passes : (l : Tolerance) (t e : Taking) (fault : Fault) → l.loose ≡ [] → fault ≢ faults.Memory → IntakeNext t (Err fault) e → Reads (Some l) t (Err fault) e (Some l) ⊎ IsListed t fault (passage_of l t)
stops_or_passes l t e fault none wanted stops = elim (stops_too l t e fault none wanted stops) [
  | inl stands ↦ inl stands
  | inr listed ↦ inr (listed_so l t e fault none stops listed)
]

pub passes_exactly : (l : Tolerance) (t e : Taking) (fault : Fault) → l.loose ≡ [] → IntakeNext t (Err fault) e → IsListed t fault (passage_of l t) ↔ IsPassable fault t
passes_exactly l t e faults.Memory none stops = ((λ listed. listed), (λ passable. passable))
passes_exactly l t e faults.Closed none stops = ((λ listed. listed), (λ passable. passable))
passes_exactly l t e faults.NoNumber none stops = ((λ listed. listed), (λ passable. passable))
passes_exactly l t e faults.EmptySlot none (is_open, m, rest, at, refused, is) =
    let passage = bodied l t (Ok m) rest is_open (none_loose l t.state.received (frame_at t.unread) none) (whole_front t.state.received t.unread m rest at) in
    let empty = empty_update t.state m refused in
    ((λ listed. tt), (λ passable. subst (Lists faults.EmptySlot) (sym (passage ∙ empty.4)) (refl, refl)))
passes_exactly l t e (faults.Breach breaches.BadInteger) none stops = ((λ listed. listed), (λ passable. passable))
passes_exactly l t e (faults.Breach breaches.SizeLimit) none stops = ((λ listed. listed), (λ passable. passable))
passes_exactly l t e (faults.Breach breaches.NoTable) none stops = ((λ listed. listed), (λ passable. passable))
passes_exactly l t e (faults.Breach breaches.BadKey) none stops = ((λ listed. listed), (λ passable. passable))
passes_exactly l t e (faults.Breach breaches.Trailing) none stops = ((λ listed. listed), (λ passable. passable))
passes_exactly l t e (faults.Breach breaches.BadValue) none stops = bad_values l t e none stops
passes_exactly l t e (faults.Breach breaches.UnknownDataType) none stops =
    ((λ listed. only_defined t (passage_of l t) listed), (λ passable. exactly_defined l t e breaches.UnknownDataType none stops (λ body. refl) passable))
passes_exactly l t e (faults.Breach breaches.BadDefinition) none stops =
    ((λ listed. only_defined t (passage_of l t) listed), (λ passable. exactly_defined l t e breaches.BadDefinition none stops (λ body. refl) passable))
