-- What is planned for the message at the front is what becomes of it.
use Rattle.std.proofs.Common.{◌≡◌, ℕ, ◌-◌, ◌<◌, ◌≤◌, Bool, true, false, List, [], length, drop, arith, Option, Some, None, Result, Ok, Err, refl, sym, ap, subst, ◌∙◌, inl, inr}
use Rattle.std.specs.Prelude.{IfOk, IfSome, ◌==◌}
use Rattle.std.proofs.lemmas.Bool.{cases_Bool}
use Rattle.std.proofs.lemmas.List.{length-drop}
use Rattle.table_types.specs.Tables.{Definition}
use Rattle.peers_msg.specs.Integers.{IsBytes}
use Rattle.peers_msg.specs.declared.fault.Breach.{Breach}
use Rattle.peers_msg.specs.declared.fault.Breach.TheVariants.{SizeLimit}
use Rattle.peers_msg.specs.declared.message.Message.{Message}
use Rattle.peers_msg.specs.declared.message.Message.TheVariants as messages
use Rattle.peers_msg.specs.declared.name_field.NameField.{NameField}
use Rattle.peers_msg.specs.declared.name_field.NameField.TheVariants as names
use Rattle.peers_msg.specs.Messages.{UpdateFields}
use Rattle.peers_msg.specs.Received.{selected_table}
use Rattle.table_types.specs.Keys.{number_of}
use Rattle.known_state.specs.State.{State, reads_empty}
use Rattle.peers_msg.specs.Reading.{Frame, frame_at, meant, message_at}
use Rattle.known_state.specs.Effects.{written_by}
use Rattle.known_state.specs.declared.effect.Effect.{Effect}
use Rattle.known_state.specs.declared.effect.Effect.TheVariants as effects
use Rattle.known_state.specs.declared.effect.ResolvedUpdate.{ResolvedUpdate}
use Rattle.known_state.proofs.EffectsAreSteps.{effect_unrefused, step_unrefused}
use Rattle.learner.specs.declared.advance.Advance.{Advance}
use Rattle.learner.specs.declared.fault.Fault.{Fault}
use Rattle.learner.specs.declared.fault.Fault.TheVariants as faults
use Rattle.learner.specs.declared.taken.Taken.{Taken}
use Rattle.learner.specs.declared.taken.Taken.TheVariants as taken
use Rattle.learner.specs.declared.taken.TakenRef.{TakenRef}
use Rattle.learner.specs.Front.{Looks, owned, stopped, with_effect}
use Rattle.learner.specs.Front as fronts
use Rattle.learner.specs.Intake.{Taking, Gives, Stops, shut, with_unread}
use Rattle.learner.proofs.TakingOneMessage.{shown_taken}
use Rattle.tolerant_intake.specs.declared.passed_over.Cause.{Cause}
use Rattle.tolerant_intake.specs.declared.passed_over.Cause.TheVariants as causes
use Rattle.tolerant_intake.specs.declared.loose_table.LooseTable.{LooseTable}
use Rattle.tolerant_intake.specs.declared.plan.Plan.{Plan}
use Rattle.tolerant_intake.specs.declared.plan.Plan.TheVariants as plans
use Rattle.tolerant_intake.specs.StandIns.{stand_in, loose_table}
use Rattle.tolerant_intake.specs.Loose.{LooseUpdate, loose_update_at}
use Rattle.tolerant_intake.specs.Tolerance.{Tolerance, counted_for, is_further, outlasting, selected_loose}
use Rattle.tolerant_intake.specs.Counts.{counted}
use Rattle.tolerant_intake.specs.Policy.{Passage, IsPassedOver, Strict, Defines, Counts, StandsIn, Unnumbered, Breaks, loose_front, loose_in, numbered, of_bad_values, of_breach, of_loose_update, of_read, passage_by, passage_of, passed, slot_cause, writes}
use Rattle.tolerant_intake.specs.Planning.{Ends, IsPassing, IsPlan, Planned, defines_further, left_after, passage_for}
use Rattle.tolerant_intake.specs.Reading.{ReadsAs, after_front, passing}
use Rattle.tolerant_intake.proofs.FrontRead.{bodied, none_front, opened, rest_is_end, takes_so, unloosed, whole_front}
use Rattle.tolerant_intake.proofs.RefusedUpdates.{empty_update, silent_writes, unnumbered}
use Rattle.tolerant_intake.proofs.StrictReading.{body_fails}
use Rattle.std.specs.BTreeMap.{insert_entry}
use Rattle.std.specs.Ordering.{nat_cmp}

-- ---- memory

gives_memory : (t e : Taking) (answer : Taken) → Gives t (Ok answer) e → Stops t faults.Memory t
gives_memory t e answer (m, (is_open, rest, at, us, step, keeps, is), says) = (is_open, (m, rest, at, step_unrefused t.state e.state m us step), refl)

-- memory may run out for any plan
pub memory_left : (p : Passage) (l : Tolerance) (t : Taking) (plan : Plan) → IsPlan p t plan → ReadsAs p l t (Err faults.Memory) t (Some l)
memory_left Strict l t (plans.Takes answer a) (gives, same, within, some) = (gives_memory t (fronts.passed t a) answer gives, refl)
memory_left Strict l t (plans.Counts r cause used) plan = absurd plan
memory_left Strict l t (plans.StandsIn table loose cause used) plan = absurd plan
memory_left (Defines d) l t (plans.Takes answer a) (gives, same, within, some) = (gives_memory t (fronts.passed t a) answer gives, refl)
memory_left (Defines d) l t (plans.Counts r cause used) plan = absurd plan
memory_left (Defines d) l t (plans.StandsIn table loose cause used) plan = absurd plan
memory_left (Counts r cause) l t plan is = (refl, refl)
memory_left (StandsIn d) l t plan is = (refl, refl)
memory_left Unnumbered l t plan is = absurd is
memory_left (Breaks breach) l t plan is = absurd is

-- and for one that is passed over
passed_over_memory : (p : Passage) (l : Tolerance) (t : Taking) → IsPassedOver p → ReadsAs p l t (Err faults.Memory) t (Some l)
passed_over_memory Strict l t is = absurd is
passed_over_memory (Defines d) l t is = absurd is
passed_over_memory (Counts r cause) l t is = (refl, refl)
passed_over_memory (StandsIn d) l t is = (refl, refl)
passed_over_memory Unnumbered l t is = absurd is
passed_over_memory (Breaks breach) l t is = absurd is

-- ---- what is planned is made

abbrev pub Within : Taking → ℕ → Type 0
Within t used = (used ≤ length t.unread) × (1 ≤ used)

pub within_takes : (p : Passage) (t : Taking) (answer : Taken) (a : Advance) → IsPlan p t (plans.Takes answer a) → Within t a.used
within_takes Strict t answer a (gives, same, within, some) = (within, some)
within_takes (Defines d) t answer a (gives, same, within, some) = (within, some)
within_takes (Counts r cause) t answer a plan = absurd plan
within_takes (StandsIn d) t answer a plan = absurd plan
within_takes Unnumbered t answer a plan = absurd plan
within_takes (Breaks breach) t answer a plan = absurd plan

pub within_counts : (p : Passage) (t : Taking) (r : ResolvedUpdate) (cause : Option Cause) (used : ℕ) → IsPlan p t (plans.Counts r cause used) → Within t used
within_counts Strict t r cause used plan = absurd plan
within_counts (Defines d) t r cause used plan = absurd plan
within_counts (Counts r' cause') t r cause used (is, why, (within, some, rest)) = (within, some)
within_counts (StandsIn d) t r cause used plan = absurd plan
within_counts Unnumbered t r cause used plan = absurd plan
within_counts (Breaks breach) t r cause used plan = absurd plan

pub within_stands : (p : Passage) (t : Taking) (table : Definition) (loose : LooseTable) (cause : Cause) (used : ℕ) → IsPlan p t (plans.StandsIn table loose cause used) → Within t used
within_stands Strict t table loose cause used plan = absurd plan
within_stands (Defines d) t table loose cause used plan = absurd plan
within_stands (Counts r cause') t table loose cause used plan = absurd plan
within_stands (StandsIn d) t table loose cause used (is, loosely, why, (within, some, rest)) = (within, some)
within_stands Unnumbered t table loose cause used plan = absurd plan
within_stands (Breaks breach) t table loose cause used plan = absurd plan

pub fewer : (t e : Taking) (a : Advance) → Within t a.used → e ≡ fronts.passed t a → length e.unread < length t.unread
fewer t e a (within, some) is =
    let left : length e.unread ≡ length t.unread - a.used = ap (λ (x : Taking). length x.unread) is ∙ length-drop a.used t.unread in
    omega (arith, within, some, left)

pub takes_made : (p : Passage) (l left : Tolerance) (t e : Taking) (answer : Taken) (a : Advance) → IsPlan p t (plans.Takes answer a) → e ≡ fronts.passed t a → left ≡ left_after a.effect t.state.received l → ReadsAs p l t (Ok (Some answer)) e (Some left)
takes_made Strict l left t e answer a (gives, same, within, some) is then =
    (subst (λ (x : Taking). Gives t (Ok answer) x) (sym is) gives, ap (λ (x : Tolerance). Some x) (then ∙ same t.state.received l))
takes_made (Defines d) l left t e answer a (gives, defines, within, some) is then =
    (subst (λ (x : Taking). Gives t (Ok answer) x) (sym is) gives, ap (λ (x : Tolerance). Some x) (then ∙ ap (λ (effect : Effect). left_after effect t.state.received l) defines))
takes_made (Counts r cause) l left t e answer a plan is then = absurd plan
takes_made (StandsIn d) l left t e answer a plan is then = absurd plan
takes_made Unnumbered l left t e answer a plan is then = absurd plan
takes_made (Breaks breach) l left t e answer a plan is then = absurd plan

-- past the message at the front
past : (t e : Taking) (effect : Effect) (used : ℕ) → drop used t.unread ≡ after_front (frame_at t.unread) → e ≡ fronts.passed t (record { effect = effect; used = used }) → e ≡ passing t effect
past t e effect used rest is = is ∙ ap (λ (bytes : List ℕ). with_unread (with_effect t effect) bytes) rest

pub counts_made : (p : Passage) (l left : Tolerance) (t e : Taking) (r : ResolvedUpdate) (cause : Option Cause) (used : ℕ) → IsPlan p t (plans.Counts r cause used) → e ≡ fronts.passed t (record { effect = effects.Update r; used = used }) → left ≡ counted_for cause l
    → ReadsAs p l t (Ok (Some taken.Passed)) e (Some left)
counts_made Strict l left t e r cause used plan is then = absurd plan
counts_made (Defines d) l left t e r cause used plan is then = absurd plan
counts_made (Counts r' cause') l left t e r cause used (same, why, (within, some, rest)) is then =
    (past t e (effects.Update r) used rest is ∙ ap (λ (x : ResolvedUpdate). passing t (effects.Update x)) same, ap (λ (x : Tolerance). Some x) (then ∙ ap (λ (x : Option Cause). counted_for x l) why))
counts_made (StandsIn d) l left t e r cause used plan is then = absurd plan
counts_made Unnumbered l left t e r cause used plan is then = absurd plan
counts_made (Breaks breach) l left t e r cause used plan is then = absurd plan

abbrev replaced_by : Definition → LooseTable → Cause → Taking → Tolerance → Tolerance
replaced_by table loose cause t l = record { loose = insert_entry nat_cmp (outlasting table t.state.received.tables l.loose) table.id loose; passed_over = counted cause l.passed_over }

pub stands_made : (p : Passage) (l left : Tolerance) (t e : Taking) (table : Definition) (loose : LooseTable) (cause : Cause) (used : ℕ) → IsPlan p t (plans.StandsIn table loose cause used) → e ≡ fronts.passed t (record { effect = effects.Define table; used = used })
    → left ≡ record { loose = insert_entry nat_cmp (outlasting table t.state.received.tables l.loose) table.id loose; passed_over = counted cause l.passed_over } → ReadsAs p l t (Ok (Some taken.Passed)) e (Some left)
stands_made Strict l left t e table loose cause used plan is then = absurd plan
stands_made (Defines d) l left t e table loose cause used plan is then = absurd plan
stands_made (Counts r why) l left t e table loose cause used plan is then = absurd plan
stands_made (StandsIn d) l left t e table loose cause used (same, loosely, why, (within, some, rest)) is then = (
  past t e (effects.Define table) used rest is ∙ ap (λ (x : Definition). passing t (effects.Define x)) same,
  ap (λ (x : Tolerance). Some x) (
      then
      ∙ ap (λ (x : Definition). replaced_by x loose cause t l) same
      ∙ ap (λ (x : LooseTable). replaced_by (stand_in t.roster d) x cause t l) loosely
      ∙ ap (λ (x : Cause). replaced_by (stand_in t.roster d) (loose_table d) x t l) why),
)
stands_made Unnumbered l left t e table loose cause used plan is then = absurd plan
stands_made (Breaks breach) l left t e table loose cause used plan is then = absurd plan

-- ---- messages that the strict intake takes

abbrev pub IsUnloosed : Tolerance → Taking → Type 0
IsUnloosed l t = loose_front (selected_loose l t.state.received) (frame_at t.unread) ≡ None

looked_passage : (l : Tolerance) (t : Taking) (shown : TakenRef) (a : Advance) → IsUnloosed l t → Looks t (Ok (Some (shown, a))) → passage_of l t ≡ passage_for t.state a.effect
looked_passage l t shown a none (m, (is_open, at, fit, some, within), effect, shows) = takes_so l t m (drop a.used t.unread) a.effect is_open at effect none

pub further_planned : (l : Tolerance) (t : Taking) (shown : TakenRef) (a : Advance) → IsUnloosed l t → Looks t (Ok (Some (shown, a))) → defines_further t.state.received a.effect ≡ true → ReadsAs (passage_of l t) l t (Err (faults.Breach SizeLimit)) (shut t) (Some l)
further_planned l t shown a none looks further =
    subst (λ (p : Passage). ReadsAs p l t (Err (faults.Breach SizeLimit)) (shut t) (Some l)) (sym (looked_passage l t shown a none looks ∙ by a.effect further)) (refl, refl, refl)
  where
    by : (effect : Effect) → defines_further t.state.received effect ≡ true → passage_for t.state effect ≡ Breaks SizeLimit
    by effects.Nothing is = absurd cc
    by (effects.Select id) is = absurd cc
    by (effects.Update r) is = absurd cc
    by (effects.Define d) is = rw is refl

pub memory_planned : (l : Tolerance) (t : Taking) (shown : TakenRef) (a : Advance) → IsUnloosed l t → Looks t (Ok (Some (shown, a))) → defines_further t.state.received a.effect ≡ false → ReadsAs (passage_of l t) l t (Err faults.Memory) t (Some l)
memory_planned l t shown a none (m, (is_open, at, fit, some, within), effect, shows) known =
    let stops : Stops t faults.Memory t = (is_open, (m, drop a.used t.unread, at, effect_unrefused t.state m a.effect effect), refl) in
    subst (λ (p : Passage). ReadsAs p l t (Err faults.Memory) t (Some l)) (sym (looked_passage l t shown a none (m, (is_open, at, fit, some, within), effect, shows))) (by a.effect known stops)
  where
    by : (effect : Effect) → defines_further t.state.received effect ≡ false → Stops t faults.Memory t → ReadsAs (passage_for t.state effect) l t (Err faults.Memory) t (Some l)
    by effects.Nothing few stops = (stops, refl)
    by (effects.Select id) few stops = (stops, refl)
    by (effects.Update r) few stops = (stops, refl)
    by (effects.Define d) few stops =
        let defines : passage_for t.state (effects.Define d) ≡ Defines d = rw few refl in
        subst (λ (p : Passage). ReadsAs p l t (Err faults.Memory) t (Some l)) (sym defines) (stops, refl)

pub takes_planned : (l : Tolerance) (t : Taking) (shown : TakenRef) (a : Advance) (answer : Taken) → IsUnloosed l t → Looks t (Ok (Some (shown, a))) → defines_further t.state.received a.effect ≡ false → answer ≡ owned shown
    → IsPlan (passage_of l t) t (plans.Takes answer a)
takes_planned l t shown a answer none (m, front, effect, shows) known is =
    let gives : Gives t (Ok answer) (fronts.passed t a) = subst (λ (x : Taken). Gives t (Ok x) (fronts.passed t a)) (sym is) (shown_taken t (fronts.passed t a) m a shown front effect shows refl) in
    subst (λ (p : Passage). IsPlan p t (plans.Takes answer a)) (sym (looked_passage l t shown a none (m, front, effect, shows))) (by a.effect refl known gives)
  where
    by : (x : Effect) → a.effect ≡ x → defines_further t.state.received x ≡ false → Gives t (Ok answer) (fronts.passed t a) → IsPlan (passage_for t.state x) t (plans.Takes answer a)
    by effects.Nothing same few gives = (gives, (λ h l. ap (λ (y : Effect). left_after y h l) same), front.4, front.3)
    by (effects.Select id) same few gives = (gives, (λ h l. ap (λ (y : Effect). left_after y h l) same), front.4, front.3)
    by (effects.Update r) same few gives = (gives, (λ h l. ap (λ (y : Effect). left_after y h l) same), front.4, front.3)
    by (effects.Define d) same few gives =
        let defines : passage_for t.state (effects.Define d) ≡ Defines d = rw few refl in
        subst (λ (p : Passage). IsPlan p t (plans.Takes answer a)) (sym defines) (gives, same, front.4, front.3)

-- ---- messages that it doesn't take

some_is : (a b : Plan) → ◌≡◌ {A = Option Plan} (Some a) (Some b) → a ≡ b
some_is a b same = cc

-- where the message ends, by its frame
ends_so : (t : Taking) (front : Frame × List ℕ) (used : ℕ) → IsBytes t.unread → frame_at t.unread ≡ Ok (Some front) → length front.1 < length t.unread → used ≡ length t.unread - length front.1 → Ends t used
ends_so t front used good is few same =
    let rest : drop used t.unread ≡ after_front (frame_at t.unread) = ap (λ (n : ℕ). drop n t.unread) same ∙ sym (rest_is_end t.unread front good is) ∙ sym (ap after_front is) in
    (omega (arith, few, same), omega (arith, few, same), rest)

passing_plan : (roster : List Definition) (p : Passage) (t : Taking) (plan : Plan) (used : ℕ) → t.roster ≡ roster → Ends t used → IsPassing roster p plan used → IsPlan p t plan
passing_plan roster Strict t plan used same ends passing = absurd passing
passing_plan roster (Defines d) t plan used same ends passing = absurd passing
passing_plan roster (Counts r cause) t (plans.Takes answer a) used same ends passing = absurd passing
passing_plan roster (Counts r cause) t (plans.Counts update why n) used same ends (is, because, counted) = (is, because, subst (Ends t) (sym counted) ends)
passing_plan roster (Counts r cause) t (plans.StandsIn table loose why n) used same ends passing = absurd passing
passing_plan roster (StandsIn d) t (plans.Takes answer a) used same ends passing = absurd passing
passing_plan roster (StandsIn d) t (plans.Counts update why n) used same ends passing = absurd passing
passing_plan roster (StandsIn d) t (plans.StandsIn table loose why n) used same ends (is, loosely, because, counted) =
    (is ∙ ap (λ (r : List Definition). stand_in r d) (sym same), loosely, because, subst (Ends t) (sym counted) ends)
passing_plan roster Unnumbered t plan used same ends passing = absurd passing
passing_plan roster (Breaks breach) t plan used same ends passing = absurd passing

-- an update that reads an empty slot
pub empty_planned : (l : Tolerance) (t : Taking) (u : UpdateFields) (used : ℕ) (plan : Plan) → IsUnloosed l t → Looks t (Err faults.EmptySlot) → message_at t.state.received t.unread ≡ Ok (Some (messages.Update u, drop used t.unread)) → 1 ≤ used → used ≤ length t.unread
    → ((n : ℕ × ℕ) → numbered t.state u.number ≡ Some n → Some plan ≡ Some (plans.Counts (record { table = n.0; number = n.1; written = None }) (Some causes.Slot) used)) → IsPlan (passage_of l t) t plan
empty_planned l t u used plan none (is_open, m, rest, at, refused, is) found some within planned =
    let has = whole_front t.state.received t.unread m rest at in
    let passage = bodied l t (Ok m) rest is_open none has in
    let empty = empty_update t.state m refused in
    let same : ◌≡◌ {A = Message × List ℕ} (messages.Update u, drop used t.unread) (m, rest) = pair_is _ _ (sym found ∙ at) in
    let own : u ≡ empty.0 = update_is u empty.0 (ap (λ (x : Message × List ℕ). x.0) same ∙ empty.2) in
    let counted : numbered t.state u.number ≡ Some empty.1 = ap (λ (x : UpdateFields). numbered t.state x.number) own ∙ empty.3 in
    let chosen : plan ≡ plans.Counts (record { table = empty.1.0; number = empty.1.1; written = None }) (Some causes.Slot) used = some_is plan _ (planned empty.1 counted) in
    let end : drop used t.unread ≡ after_front (frame_at t.unread) = ap (λ (x : Message × List ℕ). x.1) same ∙ sym (ap after_front has.1) in
    let there : IsPlan (passage_of l t) t (plans.Counts (record { table = empty.1.0; number = empty.1.1; written = None }) (Some causes.Slot) used) =
    subst (λ (p : Passage). IsPlan p t (plans.Counts (record { table = empty.1.0; number = empty.1.1; written = None }) (Some causes.Slot) used)) (sym (passage ∙ empty.4)) (refl, refl, (within, some, end)) in
    subst (λ (x : Plan). IsPlan (passage_of l t) t x) (sym chosen) there
  where
    pair_is : (a b : Message × List ℕ) → ◌≡◌ {A = Result (Option (Message × List ℕ)) Breach} (Ok (Some a)) (Ok (Some b)) → a ≡ b
    pair_is a b same = cc

    update_is : (a b : UpdateFields) → messages.Update a ≡ messages.Update b → a ≡ b
    update_is a b same = cc

-- bytes that the strict intake can't read
unread_passage : (l : Tolerance) (t : Taking) (f : Frame) (rest : List ℕ) (breach : Breach) → IsUnloosed l t → Looks t (Err (faults.Breach breach)) → frame_at t.unread ≡ Ok (Some (f, rest)) → passage_of l t ≡ of_breach t.state (meant f.class f.message_type) f.body breach
unread_passage l t f rest breach none (is_open, at, is) front = bodied l t (Err breach) rest is_open none (f, front, body_fails t.state.received t.unread f rest breach front at)

pub unread_planned : (l : Tolerance) (t : Taking) (f : Frame) (rest : List ℕ) (breach : Breach) (used : ℕ) (plan : Plan) → IsBytes t.unread → IsUnloosed l t → Looks t (Err (faults.Breach breach)) → frame_at t.unread ≡ Ok (Some (f, rest)) → length rest < length t.unread
    → used ≡ length t.unread - length rest → Planned t.roster (of_breach t.state (meant f.class f.message_type) f.body breach) used (Ok (Some plan)) → IsPlan (passage_of l t) t plan
unread_planned l t f rest breach used plan good none looks front few same planned =
    passing_plan t.roster (passage_of l t) t plan used refl (ends_so t (f, rest) used good front few same)
    (subst (λ (p : Passage). IsPassing t.roster p plan used) (sym (unread_passage l t f rest breach none looks front)) planned)

pub breach_stands : (l : Tolerance) (t : Taking) (f : Frame) (rest : List ℕ) (breach : Breach) → IsUnloosed l t → Looks t (Err (faults.Breach breach)) → frame_at t.unread ≡ Ok (Some (f, rest))
    → of_breach t.state (meant f.class f.message_type) f.body breach ≡ Strict → ReadsAs (passage_of l t) l t (Err (faults.Breach breach)) (shut t) (Some l)
breach_stands l t f rest breach none looks front strict =
    subst (λ (p : Passage). ReadsAs p l t (Err (faults.Breach breach)) (shut t) (Some l)) (sym (unread_passage l t f rest breach none looks front ∙ strict)) (looks, refl)

planned_fault : (roster : List Definition) (p : Passage) (l : Tolerance) (t : Taking) (used : ℕ) (fault : Fault) → passage_of l t ≡ p → Planned roster p used (Err fault) → ReadsAs (passage_of l t) l t (Err fault) (stopped t fault) (Some l)
planned_fault roster p l t used faults.Memory is planned = subst (λ (q : Passage). ReadsAs q l t (Err faults.Memory) t (Some l)) (sym is) (passed_over_memory p l t planned)
planned_fault roster p l t used faults.NoNumber is planned = subst (λ (q : Passage). ReadsAs q l t (Err faults.NoNumber) (shut t) (Some l)) (sym (is ∙ planned)) (refl, refl, refl)
planned_fault roster p l t used (faults.Breach b) is planned = subst (λ (q : Passage). ReadsAs q l t (Err (faults.Breach b)) (shut t) (Some l)) (sym (is ∙ planned)) (refl, refl, refl)
planned_fault roster p l t used faults.Closed is planned = absurd planned
planned_fault roster p l t used faults.EmptySlot is planned = absurd planned

pub fault_planned : (l : Tolerance) (t : Taking) (f : Frame) (rest : List ℕ) (breach : Breach) (used : ℕ) (fault : Fault) → IsUnloosed l t → Looks t (Err (faults.Breach breach)) → frame_at t.unread ≡ Ok (Some (f, rest))
    → Planned t.roster (of_breach t.state (meant f.class f.message_type) f.body breach) used (Err fault) → ReadsAs (passage_of l t) l t (Err fault) (stopped t fault) (Some l)
fault_planned l t f rest breach used fault none looks front planned =
    planned_fault t.roster (of_breach t.state (meant f.class f.message_type) f.body breach) l t used fault (unread_passage l t f rest breach none looks front) planned

-- ---- updates of tables outside the profile

loose_passage : (l : Tolerance) (t : Taking) (table : LooseTable) (f : Frame) (rest : List ℕ) (read : Result LooseUpdate Breach) → t.closed ≡ false → selected_loose l t.state.received ≡ Some table → frame_at t.unread ≡ Ok (Some (f, rest))
    → loose_in table (meant f.class f.message_type) f.body ≡ Some read → passage_of l t ≡ of_loose_update t.state read
loose_passage l t table f rest read is_open selected front is =
    opened l t (Ok (Some (f, rest))) is_open front
    ∙ ap (λ (o : Option LooseTable). passage_by t.state (loose_front o (Ok (Some (f, rest)))) (Ok (Some (f, rest)))) selected
    ∙ ap (λ (o : Option (Result LooseUpdate Breach)). passage_by t.state o (Ok (Some (f, rest)))) is

pub loose_planned : (l : Tolerance) (t : Taking) (table : LooseTable) (f : Frame) (rest : List ℕ) (u : LooseUpdate) (used : ℕ) (found : Result (Option Plan) Fault) → IsBytes t.unread → t.closed ≡ false → selected_loose l t.state.received ≡ Some table
    → frame_at t.unread ≡ Ok (Some (f, rest)) → loose_in table (meant f.class f.message_type) f.body ≡ Some (Ok u) → length rest < length t.unread → used ≡ length t.unread - length rest
    → Planned [] (of_loose_update t.state (Ok u)) used found → IfOk found (λ o. IfSome o (λ plan. IsPlan (passage_of l t) t plan))
loose_planned l t table f rest u used found good is_open selected front is few same planned = by found planned
  where
    passage : passage_of l t ≡ of_loose_update t.state (Ok u)
    passage = loose_passage l t table f rest (Ok u) is_open selected front is

    counts : (number : Option (ℕ × ℕ)) (cause : Option Cause) (plan : Plan) → IsPassing [] (passed number u.name cause Unnumbered) plan used → IsPlan (passed number u.name cause Unnumbered) t plan
    counts None cause plan passing = absurd passing
    counts (Some n) cause (plans.Takes answer a) passing = absurd passing
    counts (Some n) cause (plans.Counts update why k) (is, because, counted) = (is, because, subst (Ends t) (sym counted) (ends_so t (f, rest) used good front few same))
    counts (Some n) cause (plans.StandsIn table loose why k) passing = absurd passing

    by : (x : Result (Option Plan) Fault) → Planned [] (of_loose_update t.state (Ok u)) used x → IfOk x (λ o. IfSome o (λ plan. IsPlan (passage_of l t) t plan))
    by (Ok None) planned = tt
    by (Ok (Some plan)) planned = subst (λ (p : Passage). IsPlan p t plan) (sym passage) (counts (numbered t.state u.number) (slot_cause t.state u.name) plan planned)
    by (Err fault) planned = tt

pub loose_fault : (l : Tolerance) (t : Taking) (table : LooseTable) (f : Frame) (rest : List ℕ) (u : LooseUpdate) (used : ℕ) (fault : Fault) → t.closed ≡ false → selected_loose l t.state.received ≡ Some table → frame_at t.unread ≡ Ok (Some (f, rest))
    → loose_in table (meant f.class f.message_type) f.body ≡ Some (Ok u) → Planned [] (of_loose_update t.state (Ok u)) used (Err fault) → ReadsAs (passage_of l t) l t (Err fault) (stopped t fault) (Some l)
loose_fault l t table f rest u used fault is_open selected front is planned =
    planned_fault [] (of_loose_update t.state (Ok u)) l t used fault (loose_passage l t table f rest (Ok u) is_open selected front is) planned

-- ---- what the strict intake does anyway

pub waits_planned : (l : Tolerance) (t : Taking) → IsUnloosed l t → Looks t (Ok None) → ReadsAs (passage_of l t) l t (Ok None) t (Some l)
waits_planned l t none (is_open, at) =
    subst (λ (p : Passage). ReadsAs p l t (Ok None) t (Some l)) (sym (unloosed l t (Ok None) is_open (none_front t.state.received t.unread at) none)) ((is_open, at, refl), refl)

pub memory_stands : (l : Tolerance) (t : Taking) → IsUnloosed l t → Stops t faults.Memory t → ReadsAs (passage_of l t) l t (Err faults.Memory) t (Some l)
memory_stands l t none (is_open, (m, rest, at, unrefused), is) =
    let passage = bodied l t (Ok m) rest is_open none (whole_front t.state.received t.unread m rest at) in
    subst (λ (p : Passage). ReadsAs p l t (Err faults.Memory) t (Some l)) (sym passage) (by m at (is_open, (m, rest, at, unrefused), refl))
  where
    updated : (number : Option (ℕ × ℕ)) (field : NameField) → Stops t faults.Memory t → ReadsAs (passed number field (Some causes.Slot) Strict) l t (Err faults.Memory) t (Some l)
    updated None field stops = (stops, refl)
    updated (Some n) field stops = (refl, refl)

    by : (n : Message) → message_at t.state.received t.unread ≡ Ok (Some (n, rest)) → Stops t faults.Memory t → ReadsAs (of_read t.state n) l t (Err faults.Memory) t (Some l)
    by (messages.Update u) found stops = elim (cases_Bool (reads_empty t.state.slots u.name)) [
      | inl empty ↦
          let counts : of_read t.state (messages.Update u) ≡ passed (numbered t.state u.number) u.name (Some causes.Slot) Strict = rw empty refl in
          subst (λ (p : Passage). ReadsAs p l t (Err faults.Memory) t (Some l)) (sym counts) (updated (numbered t.state u.number) u.name stops)
      | inr held ↦
          let strict : of_read t.state (messages.Update u) ≡ Strict = rw held refl in
          subst (λ (p : Passage). ReadsAs p l t (Err faults.Memory) t (Some l)) (sym strict) (stops, refl)
    ]
    by (messages.Define d) found stops = elim (cases_Bool (is_further t.state.received d.id)) [
      | inl further ↦
          let breaks : of_read t.state (messages.Define d) ≡ Breaks SizeLimit = rw further refl in
          subst (λ (p : Passage). ReadsAs p l t (Err faults.Memory) t (Some l)) (sym breaks) ((d, rest, found, further), refl, refl)
      | inr known ↦
          let defines : of_read t.state (messages.Define d) ≡ Defines d = rw known refl in
          subst (λ (p : Passage). ReadsAs p l t (Err faults.Memory) t (Some l)) (sym defines) (stops, refl)
    ]
    by (messages.Switch id) found stops = (stops, refl)
    by (messages.Control c) found stops = (stops, refl)
    by (messages.Error e) found stops = (stops, refl)
    by (messages.Ack table number) found stops = (stops, refl)
    by (messages.Other o) found stops = (stops, refl)

pub closed_stands : (l : Tolerance) (t : Taking) → Stops t faults.Closed t → ReadsAs (passage_of l t) l t (Err faults.Closed) t (Some l)
closed_stands l t (closed, is) =
    let strict : passage_of l t ≡ Strict = rw closed refl in
    subst (λ (p : Passage). ReadsAs p l t (Err faults.Closed) t (Some l)) (sym strict) ((closed, is), refl)

pub unnumbered_stands : (l : Tolerance) (t : Taking) → IsUnloosed l t → Stops t faults.NoNumber (shut t) → ReadsAs (passage_of l t) l t (Err faults.NoNumber) (shut t) (Some l)
unnumbered_stands l t none (is_open, m, rest, at, refused, is) =
    let strict = bodied l t (Ok m) rest is_open none (whole_front t.state.received t.unread m rest at) ∙ unnumbered t.state m refused in
    subst (λ (p : Passage). ReadsAs p l t (Err faults.NoNumber) (shut t) (Some l)) (sym strict) ((is_open, m, rest, at, refused, is), refl)

-- ---- updates with a value out of its range

pub values_planned : (s : State) (with_number timed : Bool) (body : List ℕ) (d : Definition) (u : LooseUpdate) (used : ℕ) (found : Option Plan) → selected_table s.received ≡ Some d
    → loose_update_at (number_of d.kind) d.key_length d.types with_number timed body ≡ Ok u → (length u.rest == 0) ≡ true → writes u.name ≡ false → (numbered s u.number ≡ None → found ≡ None)
    → ((n : ℕ × ℕ) → numbered s u.number ≡ Some n → found ≡ Some (plans.Counts (record { table = n.0; number = n.1; written = None }) (Some causes.Value) used))
    → Planned [] (of_bad_values s with_number timed body (selected_table s.received)) used (Ok found)
values_planned s with_number timed body d u used found selected read end silent lacks has = at (numbered s u.number) refl
  where
    passage : of_bad_values s with_number timed body (selected_table s.received) ≡ passed (numbered s u.number) u.name (Some causes.Value) Strict
    passage = rw (selected, read, end, silent) refl

    at : (number : Option (ℕ × ℕ)) → numbered s u.number ≡ number → Planned [] (of_bad_values s with_number timed body (selected_table s.received)) used (Ok found)
    at None is =
        let strict : of_bad_values s with_number timed body (selected_table s.received) ≡ Strict = passage ∙ rw is refl in
        subst (λ (o : Option Plan). Planned [] (of_bad_values s with_number timed body (selected_table s.received)) used (Ok o)) (sym (lacks is)) strict
    at (Some n) is =
        let counts : of_bad_values s with_number timed body (selected_table s.received) ≡ Counts (record { table = n.0; number = n.1; written = None }) (Some causes.Value) =
        passage ∙ ap (λ (o : Option (ℕ × ℕ)). passed o u.name (Some causes.Value) Strict) is ∙ ap (λ (w : Option (ℕ × List ℕ)). Counts (record { table = n.0; number = n.1; written = w }) (Some causes.Value)) (silent_writes u.name silent) in
        subst (λ (o : Option Plan). Planned [] (of_bad_values s with_number timed body (selected_table s.received)) used (Ok o)) (sym (has n is))
        (subst (λ (p : Passage). Planned [] p used (Ok (Some (plans.Counts (record { table = n.0; number = n.1; written = None }) (Some causes.Value) used)))) (sym counts) (refl, refl, refl))
