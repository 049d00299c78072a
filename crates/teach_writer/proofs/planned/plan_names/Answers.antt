use Rattle.std.proofs.Common.{◌≡◌, ◌↔◌, ℕ, zero, suc, Bool, true, false, ◌+◌, ◌<◌, ◌≤◌, take, drop, get_or, [], ◌∷◌, ◌++◌, Option, Some, None, rules, refl, sym, ap, ◌∙◌, subst, List, length, arith}
use Rattle.std.specs.List.{AllByRecursion}
use Rattle.std.proofs.lemmas.List.{drop_all, drop_more, take_more, take_all}
use Rattle.table_types.specs.declared.update.Update.{Update}
use Rattle.table_types.specs.Batches.{IsUpdateFor}
use Rattle.table_types.specs.Rosters.{roster_fault}
use Rattle.table_types.specs.SlotIds.{is_slot}
use Rattle.table_types.specs.Tables.{is_definition}
use Rattle.table_types.specs.Updates.{stores_name}
use Rattle.peers_msg.specs.declared.message.Message.{Message}
use Rattle.peers_msg.specs.declared.name_field.NameField.{NameField}
use Rattle.peers_msg.specs.Spelling.{stream_of}
use Rattle.known_state.specs.Cost.{knowledge_of}
use Rattle.known_state.specs.Known.{AreOwn}
use Rattle.known_state.specs.Plans.{AreLinked, at_start, names_in}
use Rattle.known_state.specs.Requests.{IsUpdateOf}
use Rattle.known_state.specs.State.{State, slots_after}
use Rattle.teach_writer.specs.declared.planned_name.PlannedName.{PlannedName}
use Rattle.teach_writer.specs.NextRequests.{is_first_kept, kept_next, IsAsMarked, IsRetainedFirst, retained_after, index_after}
use Rattle.teach_writer.specs.Pieces.{AreSendable, messages_left, messages_of, planned_field, state_left}
use Rattle.teach_writer.specs.Planning.{StoresNames}
use Rattle.teach_writer.specs.Retained.{retained_at, IsNameField}
use Rattle.teach_writer.specs.Sending.{slot_of, is_stored}
use Rattle.teach_writer.proofs.MarkedSteps.{IsUnderWay, way_start, way_step, way_room, way_unkept, way_end}
use Rattle.teach_writer.proofs.PlannedNames.{ArePlanned, planned_start, planned_more}
use Rattle.teach_writer.proofs.UpdateStepsAreLegal.{SpellsLegal}
use Rattle.teach_writer.proofs.planned.plan_names.Goals as goal

here : (raw us : List Update) (i : ℕ) (u : Update) → raw ≡ us → i < length raw → u ≡ get_or raw i u → drop i us ≡ u ∷ drop (i + 1) us
here raw us i u same lt is = subst (λ (l : List Update). drop i l ≡ u ∷ drop (i + 1) l) same (drop_more raw i u lt ∙ ap (λ (x : Update). x ∷ drop (i + 1) raw) (sym is))

-- the updates planned so far, and one more
planned : (raw us : List Update) (i : ℕ) (u : Update) → raw ≡ us → i < length raw → u ≡ get_or raw i u → take (i + 1) us ≡ take i us ++ u ∷ []
planned raw us i u same lt is = subst (λ (l : List Update). take (i + 1) l ≡ take i l ++ u ∷ []) same (take_more raw i u lt ∙ ap (λ (x : Update). take i raw ++ x ∷ []) (sym is))

-- what holds of all updates holds of the one at an index
at_index : (P : Update → Type 0) (us rest : List Update) (i : ℕ) (u : Update) → drop i us ≡ u ∷ rest → AllByRecursion P us → P u
at_index P [] rest zero u is all = absurd (cc)
at_index P [] rest (suc i) u is all = absurd (cc)
at_index P (v ∷ us) rest zero u is all = let same : v ≡ u = cc in subst P same all.0
at_index P (v ∷ us) rest (suc i) u is all = at_index P us rest i u is all.1

index_grows : (index : ℕ) (slot : Option ℕ) → index_after index slot ≤ index + 1
index_grows index None = omega arith
index_grows index (Some slot) = omega arith

pub loop-update-init : goal.loop-update-init
loop-update-init c =
    let k = c.args.known.now in
    let us = c.args.batch.now in
    let rs = c.args.requests.now in
    let keep : List Bool = c.args.keep.now in
    let first = c.in_ok-next.first in
    let retained : List Bool = c.retained_first-retained.result in
    let slots_are : c.in_ok-slots.slots ≡ k.state.slots = search rules in
    let own : AreOwn k.roster k.state.received.tables = search rules in
    let empty : c.new-names.result.items ≡ [] = search rules in
    let many : length k.state.slots ≡ 128 = subst (λ (ss : List (Option (List ℕ))). length ss ≡ 128) slots_are c.retained_first-retained.ensures.slots in
    let exact : (slot : ℕ) → is_slot slot ≡ true → (retained_at retained slot ≡ true) ↔ IsRetainedFirst k.state.slots (λ name. is_first_kept first name) slot =
    subst (λ (ss : List (Option (List ℕ))). (slot : ℕ) → is_slot slot ≡ true → (retained_at retained slot ≡ true) ↔ IsRetainedFirst ss (λ name. is_first_kept first name) slot) slots_are c.retained_first-retained.ensures.retained in
    let start : AreLinked (at_start (names_in k.state.slots)) rs keep → IsUnderWay k.roster k.state us rs keep [] k.state retained 0 us = λ linked.
    way_start k.roster k.state us (knowledge_of k.state) rs keep retained (λ name. is_first_kept first name) c.requires.requests c.requires.keep linked many c.retained_first-retained.ensures.count exact c.in_ok-next.ensures.first in
    record {
      few = omega arith;
      before = search rules;
      planned = subst (λ (ns : List PlannedName). ArePlanned k.roster k.state [] ns c.in_ok-slots.slots) (sym empty)
          (subst (λ (ss : List (Option (List ℕ))). ArePlanned k.roster k.state [] [] ss) (sym slots_are) (planned_start k.roster k.state own));
      way = λ linked room. subst (λ (ns : List PlannedName). IsUnderWay k.roster k.state us rs keep (stream_of (messages_left k.roster k.state [] ns)) (state_left k.roster k.state [] ns) retained 0 us) (sym empty) (start linked);
    }

pub loop-update-preserved : goal.loop-update-preserved
loop-update-preserved c =
    let k = c.args.known.now in
    let us = c.args.batch.now in
    let rs = c.args.requests.now in
    let keep : List Bool = c.args.keep.now in
    let i = c.loop-update.update-index in
    let u = c.update-item.result in
    let raw = c.updates-update-items.result.now in
    let next : List Bool = c.as_slice.result.now in
    let index = c.loop-update.index in
    let retained : List Bool = c.loop-update.retained in
    let names : List PlannedName = c.loop-update.names.items in
    let slots : List (Option (List ℕ)) = c.loop-update.slots in
    let kept : Bool = c.mark_at-kept.result in
    let stored : Bool = c.table_of-table.result.stores_name in
    let name : PlannedName = c.plan_name-name.result in
    let field : NameField = planned_field u.name name in
    let mid : State = state_left k.roster k.state (take i us) names in
    let sound : roster_fault k.roster ≡ None = search rules in
    let left : drop i us ≡ u ∷ drop (i + 1) us = here raw us i u c.updates-update-items.ensures.updates c.loop-update-test.true c.update-item.is in
    let asked : IsUpdateFor k.roster u = at_index (IsUpdateFor k.roster) us (drop (i + 1) us) i u left c.requires.batch.1 in
    let of : IsUpdateOf k.roster u = (asked.0, asked.1, asked.2) in
    let table : (stores_name of.0 ≡ stored) × (is_definition of.0 ≡ true) = c.table_of-table.ensures.table of.0 of.1 in
    let done : take (i + 1) us ≡ take i us ++ u ∷ [] = planned raw us i u c.updates-update-items.ensures.updates c.loop-update-test.true c.update-item.is in
    let pushed : c.push.new.self.items ≡ names ++ name ∷ [] = search rules in
    let written : c.use_name.new.slots ≡ slots_after slots field = search rules in
    let slot_is : c.in_ok-slot.slot ≡ slot_of field = search rules in
    let more = planned_more k.roster k.state (take i us) names u of.0 name slots sound c.loop-update.invariant.planned of.1 table.1 of.2 c.table_of-table.ensures.word
    (c.plan_name-name.ensures.fits of.0 table.0 of.2) c.plan_name-name.ensures.reads c.plan_name-name.ensures.named in
    let flags : next ≡ kept_next rs keep = c.as_slice.ensures.value ∙ c.in_ok-next.ensures.next in
    let retained_is : c.retain_or_free.new.retained ≡ retained_after retained (slot_of field) (get_or next index false) = c.retain_or_free.ensures.retained ∙ ap (λ (o : Option ℕ). retained_after retained o (get_or next index false)) slot_is in
    let index_is : c.retain_or_free.new.index ≡ index_after index (slot_of field) = c.retain_or_free.ensures.index ∙ ap (index_after index) slot_is in
    let sent : List Message = messages_left k.roster k.state (take i us) names in
    let one : List Message = messages_of k.roster mid u name in
    record {
      few = omega (arith, c.loop-update.invariant.few, index_is, index_grows index (slot_of field));
      before = subst (λ (id : ℕ). StoresNames k.roster id stored) (sym c.table_of-table.ensures.id) c.table_of-table.ensures.table;
      planned = subst (λ (l : List Update). ArePlanned k.roster k.state l c.push.new.self.items c.use_name.new.slots) (sym done)
          (subst (λ (ns : List PlannedName). ArePlanned k.roster k.state (take i us ++ u ∷ []) ns c.use_name.new.slots) (sym pushed)
          (subst (λ (ss : List (Option (List ℕ))). ArePlanned k.roster k.state (take i us ++ u ∷ []) (names ++ name ∷ []) ss) (sym written) more.0));
      way = λ linked room.
          let way = subst (λ (l : List Update). IsUnderWay k.roster k.state us rs keep (stream_of sent) mid retained index l) left (c.loop-update.invariant.way linked room) in
          let marked : IsAsMarked retained mid.slots kept u.name = (λ other. way_unkept k.roster k.state mid us (drop (i + 1) us) u rs keep (stream_of sent) retained index way (sym c.mark_at-kept.ensures ∙ other), way_room k.roster k.state mid us (drop (i + 1) us) u rs keep (stream_of sent) retained index way room) in
          let field_is : IsAsMarked retained mid.slots kept u.name → IsNameField retained mid.slots stored u.name field =
          subst (λ (ss : List (Option (List ℕ))). IsAsMarked retained ss kept u.name → IsNameField retained ss stored u.name field) (sym c.loop-update.invariant.planned.1) c.plan_name-name.ensures.field in
          let named : IsNameField retained mid.slots (is_stored k.roster u) u.name field = subst (λ (b : Bool). IsNameField retained mid.slots b u.name field) c.table_of-table.ensures.stored (field_is marked) in
          let step = way_step k.roster k.state mid (state_left k.roster k.state (take i us ++ u ∷ []) (names ++ name ∷ [])) us (drop (i + 1) us) u rs keep next (stream_of sent) (stream_of (messages_left k.roster k.state (take i us ++ u ∷ []) (names ++ name ∷ []))) retained index field one way more.1 named more.2 flags in
          let by_flags = subst (λ (flags : List Bool). IsUnderWay k.roster k.state us rs keep (stream_of (messages_left k.roster k.state (take i us ++ u ∷ []) (names ++ name ∷ []))) (state_left k.roster k.state (take i us ++ u ∷ []) (names ++ name ∷ [])) flags (index_after index (slot_of field)) (drop (i + 1) us)) (sym retained_is) step in
          let by_index = subst (λ (n : ℕ). IsUnderWay k.roster k.state us rs keep (stream_of (messages_left k.roster k.state (take i us ++ u ∷ []) (names ++ name ∷ []))) (state_left k.roster k.state (take i us ++ u ∷ []) (names ++ name ∷ [])) c.retain_or_free.new.retained n (drop (i + 1) us)) (sym index_is) by_flags in
          let by_names = subst (λ (ns : List PlannedName). IsUnderWay k.roster k.state us rs keep (stream_of (messages_left k.roster k.state (take i us ++ u ∷ []) ns)) (state_left k.roster k.state (take i us ++ u ∷ []) ns) c.retain_or_free.new.retained c.retain_or_free.new.index (drop (i + 1) us)) (sym pushed) by_index in
          subst (λ (l : List Update). IsUnderWay k.roster k.state us rs keep (stream_of (messages_left k.roster k.state l c.push.new.self.items)) (state_left k.roster k.state l c.push.new.self.items) c.retain_or_free.new.retained c.retain_or_free.new.index (drop (i + 1) us)) (sym done) by_names;
    }

pub returns-clause-sendable : goal.returns-clause-sendable
returns-clause-sendable c =
    let k = c.args.known.now in
    let us = c.args.batch.now in
    let i = c.loop-update.update-index in
    let names : List PlannedName = c.loop-update.names.items in
    let all : take i us ≡ us = take_all i us (subst (λ (l : List Update). length l ≤ i) c.updates-update-items.ensures.updates (omega arith)) in
    subst (λ (l : List Update). AreSendable k.roster k.state l names) all c.loop-update.invariant.planned.0

pub returns-clause-taught : goal.returns-clause-taught
returns-clause-taught c =
    let k = c.args.known.now in
    let us = c.args.batch.now in
    let i = c.loop-update.update-index in
    let names : List PlannedName = c.loop-update.names.items in
    let all : take i us ≡ us = take_all i us (subst (λ (l : List Update). length l ≤ i) c.updates-update-items.ensures.updates (omega arith)) in
    let legal = subst (λ (l : List Update). SpellsLegal k.roster k.state (stream_of (messages_left k.roster k.state l names)) l (state_left k.roster k.state l names)) all c.loop-update.invariant.planned.3 in
    (legal.0, legal.1, legal.2, refl)

pub returns-clause-order : goal.returns-clause-order
returns-clause-order c = λ linked room.
    let k = c.args.known.now in
    let us = c.args.batch.now in
    let rs = c.args.requests.now in
    let keep : List Bool = c.args.keep.now in
    let i = c.loop-update.update-index in
    let names : List PlannedName = c.loop-update.names.items in
    let all : take i us ≡ us = take_all i us (subst (λ (l : List Update). length l ≤ i) c.updates-update-items.ensures.updates (omega arith)) in
    let ended : drop i us ≡ [] = drop_all i us (subst (λ (l : List Update). length l ≤ i) c.updates-update-items.ensures.updates (omega arith)) in
    let way = subst (λ (l : List Update). IsUnderWay k.roster k.state us rs keep (stream_of (messages_left k.roster k.state (take i us) names)) (state_left k.roster k.state (take i us) names) c.loop-update.retained c.loop-update.index l) ended (c.loop-update.invariant.way linked room) in
    let whole = subst (λ (l : List Update). IsUnderWay k.roster k.state us rs keep (stream_of (messages_left k.roster k.state l names)) (state_left k.roster k.state l names) c.loop-update.retained c.loop-update.index []) all way in
    way_end k.roster k.state (state_left k.roster k.state us names) us rs keep (stream_of (messages_left k.roster k.state us names)) c.loop-update.retained c.loop-update.index whole
