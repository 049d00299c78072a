-- With no table outside the profile, a tolerant reader does what the strict intake does, up to its first fault.
use Rattle.std.proofs.Common.{◌≡◌, ◌≢◌, ◌⊎◌, ℕ, Bool, false, List, [], ◌∷◌, Option, Some, None, Result, Ok, Err, refl, sym, ap, subst, ◌∙◌, inl, inr}
use Rattle.std.specs.Prelude.{length, ◌==◌}
use Rattle.std.proofs.lemmas.Bool.{cases_Bool}
use Rattle.table_types.specs.Tables.{Definition}
use Rattle.table_types.specs.declared.update.Update.{Update}
use Rattle.peers_msg.specs.declared.fault.Breach.{Breach}
use Rattle.peers_msg.specs.declared.fault.Breach.TheVariants as breaches
use Rattle.peers_msg.specs.declared.meaning.Meaning.{Meaning}
use Rattle.peers_msg.specs.declared.meaning.Meaning.TheVariants as meanings
use Rattle.peers_msg.specs.declared.message.Message.{Message}
use Rattle.peers_msg.specs.declared.message.Message.TheVariants as messages
use Rattle.peers_msg.specs.declared.name_field.NameField.{NameField}
use Rattle.peers_msg.specs.declared.name_field.NameField.TheVariants as names
use Rattle.peers_msg.specs.Received.{selected_table}
use Rattle.peers_msg.specs.Reading.{frame_at, meant, message_at}
use Rattle.table_types.specs.Keys.{number_of}
use Rattle.known_state.specs.State.{State, Step}
use Rattle.known_state.specs.Effects.{IsEffect, written_by}
use Rattle.known_state.specs.declared.effect.Effect.{Effect}
use Rattle.known_state.specs.declared.effect.Effect.TheVariants as effects
use Rattle.known_state.specs.declared.effect.ResolvedUpdate.{ResolvedUpdate}
use Rattle.known_state.proofs.NamedAsResolved.{named_so}
use Rattle.learner.specs.declared.fault.Fault.{Fault}
use Rattle.learner.specs.declared.fault.Fault.TheVariants as faults
use Rattle.learner.specs.declared.taken.Taken.{Taken}
use Rattle.learner.specs.Intake.{Taking, Gives, IntakeNext, Stops, shut}
use Rattle.tolerant_intake.specs.declared.passed_over.Cause.{Cause}
use Rattle.tolerant_intake.specs.declared.passed_over.Cause.TheVariants as causes
use Rattle.tolerant_intake.specs.declared.loose_table.LooseTable.{LooseTable}
use Rattle.tolerant_intake.specs.Loose.{LooseDefinition, LooseUpdate, loose_definition_at, loose_update_at}
use Rattle.tolerant_intake.specs.Tolerance.{Tolerance, counted_for, is_further, outlasting, redefined}
use Rattle.tolerant_intake.specs.Policy.{Passage, Strict, Defines, Counts, StandsIn, Unnumbered, Breaks, IsFurther, numbered, of_bad_values, of_breach, of_loose_definition, of_read, of_values, passage_of, passed, writes}
use Rattle.tolerant_intake.specs.Planning.{passage_for}
use Rattle.tolerant_intake.specs.Reading.{AreRead, Reads, ReadsAs}
use Rattle.tolerant_intake.specs.Agreement.{AreReadToo, CountsAs}
use Rattle.tolerant_intake.proofs.FrontRead.{bodied, faulty_front, none_front, none_loose, takes_so, unloosed, whole_front}
use Rattle.tolerant_intake.proofs.ReadingGoesOn.{passes_so, given_no_memory}
use Rattle.tolerant_intake.proofs.RefusedUpdates.{empty_update, unnumbered}

-- ---- messages that the strict intake takes

pub has_effect : (s e : State) (m : Message) (us : List Update) → Step s m us e → (effect : Effect) × IsEffect s m effect
has_effect s e (messages.Update u) us (fit, table, selected, number, resolved, name, named, carried, received, last) =
    let r : ResolvedUpdate = record { table = table; number = number; written = written_by u.name } in
    (effects.Update r, (r, refl, (selected, resolved, (named_so s.slots u.name name e.slots named).0, refl)))
has_effect s e (messages.Define d) us step = (effects.Define d, refl)
has_effect s e (messages.Switch id) us step = (effects.Select id, refl)
has_effect s e (messages.Control c) us step = (effects.Nothing, refl)
has_effect s e (messages.Error k) us step = (effects.Nothing, refl)
has_effect s e (messages.Ack table number) us step = (effects.Nothing, refl)
has_effect s e (messages.Other o) us step = (effects.Nothing, refl)

defines_so : (s : State) (m : Message) (d : Definition) → IsEffect s m (effects.Define d) → m ≡ messages.Define d
defines_so s (messages.Update u) d (r, is, resolves) = absurd cc
defines_so s (messages.Define own) d is = let same : d ≡ own = cc in ap (λ (x : Definition). messages.Define x) (sym same)
defines_so s (messages.Switch id) d is = absurd cc
defines_so s (messages.Control c) d is = absurd cc
defines_so s (messages.Error k) d is = absurd cc
defines_so s (messages.Ack table number) d is = absurd cc
defines_so s (messages.Other o) d is = absurd cc

still_none : (d : Definition) (t : Taking) (l : Tolerance) → l.loose ≡ [] → redefined d t.state.received l ≡ l
still_none d t l none = ap (λ (ls : List (ℕ × LooseTable)). record l { loose = outlasting d t.state.received.tables ls }) none ∙ ap (λ (ls : List (ℕ × LooseTable)). record l { loose = ls }) (sym none)

as_passage : (l : Tolerance) (t e : Taking) (answer : Result (Option Taken) Fault) (p : Passage) → passage_of l t ≡ p → ReadsAs p l t answer e (Some l) → Reads (Some l) t answer e (Some l)
as_passage l t e answer p is reads = subst (λ (q : Passage). ReadsAs q l t answer e (Some l)) (sym is) reads

take_by : (l : Tolerance) (t e : Taking) (answer : Taken) (m : Message) (rest : List ℕ) (effect : Effect) → l.loose ≡ [] → message_at t.state.received t.unread ≡ Ok (Some (m, rest)) → IsEffect t.state m effect
    → passage_of l t ≡ passage_for t.state effect → Gives t (Ok answer) e → Reads (Some l) t (Ok (Some answer)) e (Some l) ⊎ IsFurther t
take_by l t e answer m rest effects.Nothing none at is passage gives = inl (as_passage l t e (Ok (Some answer)) Strict passage (gives, refl))
take_by l t e answer m rest (effects.Select id) none at is passage gives = inl (as_passage l t e (Ok (Some answer)) Strict passage (gives, refl))
take_by l t e answer m rest (effects.Update r) none at is passage gives = inl (as_passage l t e (Ok (Some answer)) Strict passage (gives, refl))
take_by l t e answer m rest (effects.Define d) none at is passage gives = elim (cases_Bool (is_further t.state.received d.id)) [
  | inl further ↦ inr (d, rest, at ∙ ap (λ (n : Message). Ok (Some (n, rest))) (defines_so t.state m d is), further)
  | inr known ↦
      let defines : passage_of l t ≡ Defines d = passage ∙ rw known refl in
      inl (as_passage l t e (Ok (Some answer)) (Defines d) defines (gives, ap (λ (x : Tolerance). Some x) (sym (still_none d t l none))))
]

pub takes_too : (l : Tolerance) (t e : Taking) (answer : Taken) → l.loose ≡ [] → IntakeNext t (Ok (Some answer)) e → Reads (Some l) t (Ok (Some answer)) e (Some l) ⊎ IsFurther t
takes_too l t e answer none (m, (is_open, rest, at, us, step, keeps, is), says) =
    let has = has_effect t.state e.state m us step in
    let passage = takes_so l t m rest has.0 is_open at has.1 (none_loose l t.state.received (frame_at t.unread) none) in
    take_by l t e answer m rest has.0 none at has.1 passage (m, (is_open, rest, at, us, step, keeps, is), says)

-- a further definition is refused
pub further_stops : (l : Tolerance) (t : Taking) → l.loose ≡ [] → t.closed ≡ false → IsFurther t → Reads (Some l) t (Err (faults.Breach breaches.SizeLimit)) (shut t) (Some l)
further_stops l t none is_open (d, rest, at, further) =
    let passage = bodied l t (Ok (messages.Define d)) rest is_open (none_loose l t.state.received (frame_at t.unread) none) (whole_front t.state.received t.unread (messages.Define d) rest at) in
    let breaks : passage_of l t ≡ Breaks breaches.SizeLimit = passage ∙ rw further refl in
    as_passage l t (shut t) (Err (faults.Breach breaches.SizeLimit)) (Breaks breaches.SizeLimit) breaks (refl, refl, refl)

-- ---- bytes that aren't a whole message

pub waits_too : (l : Tolerance) (t e : Taking) → l.loose ≡ [] → IntakeNext t (Ok None) e → Reads (Some l) t (Ok None) e (Some l)
waits_too l t e none (is_open, at, is) =
    let strict : passage_of l t ≡ Strict = unloosed l t (Ok None) is_open (none_front t.state.received t.unread at) (none_loose l t.state.received (frame_at t.unread) none) in
    as_passage l t e (Ok None) Strict strict ((is_open, at, is), refl)

-- ---- faults

-- what may become of a message at which the strict intake stops with this fault
abbrev StandsOrBreaks : Passage → Type 0
StandsOrBreaks (StandsIn d) = Unit {0}
StandsOrBreaks (Breaks breaches.SizeLimit) = Unit {0}
StandsOrBreaks p = ⊥

abbrev pub Lists : Fault → Passage → Type 0
Lists faults.EmptySlot p = CountsAs causes.Slot p
Lists (faults.Breach breaches.BadValue) p = CountsAs causes.Value p
Lists (faults.Breach breaches.UnknownDataType) p = StandsOrBreaks p
Lists (faults.Breach breaches.BadDefinition) p = StandsOrBreaks p
Lists fault p = ⊥

abbrev IsEither : Fault → Passage → Type 0
IsEither fault p = (p ≡ Strict) ⊎ Lists fault p

by_number : (number : Option (ℕ × ℕ)) (field : NameField) → writes field ≡ false → IsEither (faults.Breach breaches.BadValue) (passed number field (Some causes.Value) Strict)
by_number None field silent = inl refl
by_number (Some n) names.NotStored silent = inr (refl, refl)
by_number (Some n) names.NoName silent = inr (refl, refl)
by_number (Some n) (names.Held slot) silent = inr (refl, refl)
by_number (Some n) (names.Written slot name) silent = absurd cc

by_values : (s : State) (read : Result LooseUpdate Breach) → IsEither (faults.Breach breaches.BadValue) (of_values s read)
by_values s (Err breach) = inl refl
by_values s (Ok u) = elim (cases_Bool (length u.rest == 0)) [
  | inr more ↦ inl (rw more refl)
  | inl end ↦ elim (cases_Bool (writes u.name)) [
    | inl written ↦ inl (rw (end, written) refl)
    | inr silent ↦
        let is : of_values s (Ok u) ≡ passed (numbered s u.number) u.name (Some causes.Value) Strict = rw (end, silent) refl in
        subst (IsEither (faults.Breach breaches.BadValue)) (sym is) (by_number (numbered s u.number) u.name silent)
  ]
]

by_bad_values : (s : State) (with_number timed : Bool) (body : List ℕ) (table : Option Definition) → IsEither (faults.Breach breaches.BadValue) (of_bad_values s with_number timed body table)
by_bad_values s with_number timed body None = inl refl
by_bad_values s with_number timed body (Some d) = by_values s (loose_update_at (number_of d.kind) d.key_length d.types with_number timed body)

-- a definition that can be read loosely, if a fault lists both what becomes of it
definition_listed : (fault : Fault) (s : State) (d : LooseDefinition) → Lists fault (StandsIn d) → Lists fault (Breaks breaches.SizeLimit) → Lists fault (of_loose_definition s (Ok d))
definition_listed fault s d stands breaks = elim (cases_Bool (is_further s.received d.id)) [
  | inl further ↦
      let is : of_loose_definition s (Ok d) ≡ Breaks breaches.SizeLimit = rw further refl in
      subst (Lists fault) (sym is) breaks
  | inr known ↦
      let is : of_loose_definition s (Ok d) ≡ StandsIn d = rw known refl in
      subst (Lists fault) (sym is) stands
]

unknown_type : (s : State) (read : Result LooseDefinition Breach) → IsEither (faults.Breach breaches.UnknownDataType) (of_loose_definition s read)
unknown_type s (Err breach) = inl refl
unknown_type s (Ok d) = inr (definition_listed (faults.Breach breaches.UnknownDataType) s d tt tt)

bad_definition : (s : State) (read : Result LooseDefinition Breach) → IsEither (faults.Breach breaches.BadDefinition) (of_loose_definition s read)
bad_definition s (Err breach) = inl refl
bad_definition s (Ok d) = inr (definition_listed (faults.Breach breaches.BadDefinition) s d tt tt)

by_breach : (s : State) (meaning : Meaning) (body : List ℕ) (breach : Breach) → IsEither (faults.Breach breach) (of_breach s meaning body breach)
by_breach s (meanings.Control c) body breach = inl refl
by_breach s (meanings.Error e) body breach = inl refl
by_breach s meanings.Switch body breach = inl refl
by_breach s meanings.Ack body breach = inl refl
by_breach s meanings.Other body breach = inl refl
by_breach s (meanings.Update with_number timed) body breaches.BadValue = by_bad_values s with_number timed body (selected_table s.received)
by_breach s (meanings.Update with_number timed) body breaches.BadInteger = inl refl
by_breach s (meanings.Update with_number timed) body breaches.SizeLimit = inl refl
by_breach s (meanings.Update with_number timed) body breaches.BadDefinition = inl refl
by_breach s (meanings.Update with_number timed) body breaches.UnknownDataType = inl refl
by_breach s (meanings.Update with_number timed) body breaches.NoTable = inl refl
by_breach s (meanings.Update with_number timed) body breaches.BadKey = inl refl
by_breach s (meanings.Update with_number timed) body breaches.Trailing = inl refl
by_breach s meanings.Define body breaches.BadDefinition = bad_definition s (loose_definition_at body)
by_breach s meanings.Define body breaches.UnknownDataType = unknown_type s (loose_definition_at body)
by_breach s meanings.Define body breaches.BadInteger = inl refl
by_breach s meanings.Define body breaches.SizeLimit = inl refl
by_breach s meanings.Define body breaches.NoTable = inl refl
by_breach s meanings.Define body breaches.BadKey = inl refl
by_breach s meanings.Define body breaches.BadValue = inl refl
by_breach s meanings.Define body breaches.Trailing = inl refl

stands_or_listed : (l : Tolerance) (t e : Taking) (fault : Fault) (p : Passage) → passage_of l t ≡ p → IsEither fault p → Stops t fault e → Reads (Some l) t (Err fault) e (Some l) ⊎ Lists fault (passage_of l t)
stands_or_listed l t e fault p is (inl strict) stops = inl (as_passage l t e (Err fault) Strict (is ∙ strict) (stops, refl))
stands_or_listed l t e fault p is (inr listed) stops = inr (subst (Lists fault) (sym is) listed)

pub stops_too : (l : Tolerance) (t e : Taking) (fault : Fault) → l.loose ≡ [] → fault ≢ faults.Memory → IntakeNext t (Err fault) e → Reads (Some l) t (Err fault) e (Some l) ⊎ Lists fault (passage_of l t)
stops_too l t e faults.Memory none wanted stops = absurd (wanted refl)
stops_too l t e faults.Closed none wanted (shut, is) =
    let strict : passage_of l t ≡ Strict = rw shut refl in
    inl (as_passage l t e (Err faults.Closed) Strict strict ((shut, is), refl))
stops_too l t e faults.NoNumber none wanted (is_open, m, rest, at, refused, is) =
    let passage = bodied l t (Ok m) rest is_open (none_loose l t.state.received (frame_at t.unread) none) (whole_front t.state.received t.unread m rest at) in
    stands_or_listed l t e faults.NoNumber (of_read t.state m) passage (inl (unnumbered t.state m refused)) (is_open, m, rest, at, refused, is)
stops_too l t e faults.EmptySlot none wanted (is_open, m, rest, at, refused, is) =
    let passage = bodied l t (Ok m) rest is_open (none_loose l t.state.received (frame_at t.unread) none) (whole_front t.state.received t.unread m rest at) in
    let empty = empty_update t.state m refused in
    inr (subst (Lists faults.EmptySlot) (sym (passage ∙ empty.4)) (refl, refl))
stops_too l t e (faults.Breach breach) none wanted (is_open, at, is) = elim (faulty_front t.state.received t.unread breach at) [
  | inl never ↦
      let strict : passage_of l t ≡ Strict = unloosed l t (Err breach) is_open never (none_loose l t.state.received (frame_at t.unread) none) in
      inl (as_passage l t e (Err (faults.Breach breach)) Strict strict ((is_open, at, is), refl))
  | inr (rest, has) ↦
      let passage = bodied l t (Err breach) rest is_open (none_loose l t.state.received (frame_at t.unread) none) has in
      stands_or_listed l t e (faults.Breach breach) (of_breach t.state (meant has.0.class has.0.message_type) has.0.body breach) passage
      (by_breach t.state (meant has.0.class has.0.message_type) has.0.body breach) (is_open, at, is)
]

-- ---- what is remembered

some_is : (a b : Tolerance) → ◌≡◌ {A = Option Tolerance} (Some a) (Some b) → a ≡ b
some_is a b same = cc

passed_none : (l left : Tolerance) (cause : Option Cause) → l.loose ≡ [] → left ≡ counted_for cause l → left.loose ≡ []
passed_none l left None none is = ap (λ (x : Tolerance). x.loose) is ∙ none
passed_none l left (Some cause) none is = ap (λ (x : Tolerance). x.loose) is ∙ none

by_passage : (p : Passage) (l left : Tolerance) (t e : Taking) (answer : Taken) → l.loose ≡ [] → passage_of l t ≡ p → ReadsAs p l t (Ok (Some answer)) e (Some left) → (left.loose ≡ []) ⊎ ((d : LooseDefinition) × (passage_of l t ≡ StandsIn d))
by_passage Strict l left t e answer none is (next, then) = inl (ap (λ (x : Tolerance). x.loose) (some_is left l then) ∙ none)
by_passage (Defines d) l left t e answer none is (next, then) =
    inl (ap (λ (x : Tolerance). x.loose) (some_is left (redefined d t.state.received l) then ∙ still_none d t l none) ∙ none)
by_passage (Counts r cause) l left t e answer none is passes =
    let then = (passes_so (effects.Update r) (counted_for cause l) l t e (Ok (Some answer)) (Some left) passes (given_no_memory (Some answer))).2 in
    inl (passed_none l left cause none (some_is left (counted_for cause l) then))
by_passage (StandsIn d) l left t e answer none is passes = inr (d, is)
by_passage Unnumbered l left t e answer none is stops =
    let wrong = stops.0 in
    absurd cc
by_passage (Breaks breach) l left t e answer none is stops =
    let wrong = stops.0 in
    absurd cc

pub none_again : (l left : Tolerance) (t e : Taking) (answer : Taken) → l.loose ≡ [] → Reads (Some l) t (Ok (Some answer)) e (Some left) → (left.loose ≡ []) ⊎ ((d : LooseDefinition) × (passage_of l t ≡ StandsIn d))
none_again l left t e answer none reads = by_passage (passage_of l t) l left t e answer none refl reads

-- ---- messages one after another

pub reads_too : (answers : List Taken) (l : Tolerance) (t e : Taking) → l.loose ≡ [] → AreRead None t answers e None → AreReadToo l t answers e
reads_too [] l t e none (here, left) = inl (here, refl)
reads_too (answer ∷ answers) l t e none (mid, between, (next, then), later) =
    by (takes_too l t mid answer none next) (reads_too answers l mid e none (subst (λ (o : Option Tolerance). AreRead o mid answers e None) then later))
  where
    by : Reads (Some l) t (Ok (Some answer)) mid (Some l) ⊎ IsFurther t → AreReadToo l mid answers e → AreReadToo l t (answer ∷ answers) e
    by (inr further) rest = inr ([], answer ∷ answers, t, refl, (refl, refl), further)
    by (inl one) (inl all) = inl (mid, Some l, one, all)
    by (inl one) (inr (first, others, last, is, reads, further)) =
        inr (answer ∷ first, others, last, ap (λ (xs : List Taken). answer ∷ xs) is, (mid, Some l, one, reads), further)
