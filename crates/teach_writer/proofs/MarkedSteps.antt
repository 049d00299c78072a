-- Updates that are sent one after another as the marks of their requests say.
use Rattle.std.proofs.Common.{◌≡◌, ◌↔◌, cond, ℕ, zero, suc, ◌+◌, ◌-◌, ◌<◌, ◌≤◌, Bool, true, false, ◌||◌, List, [], ◌∷◌, ◌++◌, length, Option, Some, None, refl, sym, ap, ◌∙◌, subst, inl, inr, ◌⊎◌, arith, get_or, length-append, append_assoc}
use Rattle.std.specs.Prelude.{slice_set, is_some}
use Rattle.std.specs.List.{AllByRecursion, IsDistinct, list_any}
use Rattle.std.proofs.lemmas.Bool.{cases_eq}
use Rattle.std.proofs.lemmas.Bool.Decides.{nat_tests}
use Rattle.std.proofs.lemmas.List.{get_or-set_same, get_or-set_other, length-set, append-nil}
use Rattle.table_types.specs.declared.update.Update.{Update}
use Rattle.table_types.specs.Tables.{Definition}
use Rattle.table_types.specs.Rosters.{is_same_name}
use Rattle.table_types.specs.SlotIds.{is_slot}
use Rattle.dict_slots.specs.Slots.{slot_at}
use Rattle.peers_msg.specs.declared.name_field.NameField.{NameField}
use Rattle.peers_msg.specs.declared.name_field.NameField.TheVariants as names
use Rattle.peers_msg.specs.declared.message.Message.{Message}
use Rattle.peers_msg.specs.Spelling.{stream_of}
use Rattle.known_state.specs.State.{State, Named}
use Rattle.known_state.specs.Cost.{Knowledge, knowledge_after, written_field}
use Rattle.known_state.specs.Requests.{Asked, asked, requests_of}
use Rattle.known_state.specs.Plans.{Asking, at_start, after_requests, AreLinked, keeps_next, kept_over, links, names_in}
use Rattle.known_state.proofs.RosterNamesDiffer.{name_itself}
use Rattle.known_state.proofs.LinkPlaces.{after-append}
use Rattle.known_state.proofs.NamesToKeep.{names_to_keep}
use Rattle.known_state.proofs.SlotsNeeded.{turned}
use Rattle.teach_writer.specs.Naming.{is_that_name, lowest_from, starts_at_first, starts_after, first_mark, marks_after, keeps_next_update, IsRetainedOver, IsNamed}
use Rattle.teach_writer.specs.Retained.{retained_at, Retains, IsFree, IsNameField}
use Rattle.teach_writer.specs.NextRequests.{IsRetainedFirst, HasRoomFor, IsNotRetained, kept_next, retained_after, index_after}
use Rattle.teach_writer.specs.Sending.{slot_of, is_stored, IsSent, AreSent}
use Rattle.teach_writer.proofs.KeptNext.{kept_next-at}
use Rattle.teach_writer.proofs.UpdateStepsAreLegal.{stream-append}
use Rattle.teach_writer.proofs.MarksAreReads.{AreMarked, places_apart, in_range, one_name, start_apart, retains_same, retains_other, retains_none, start_same, start_other, flag_stays, sent_slots, slots_long, lowest_found}

-- ---- one update

-- whether a mark is set only if a link begins for the name
abbrev IsLinkedMark : (List ℕ → Option ℕ) → List ℕ → Bool → Type 0
IsLinkedMark starts name mark = mark ≡ true → is_some (starts name) ≡ true

abbrev pub AreSlots : (List ℕ → Option ℕ) → Type 0
AreSlots starts = (name : List ℕ) (slot : ℕ) → starts name ≡ Some slot → is_slot slot ≡ true

-- after an update whose name used a slot that retained no other name and is now retained for that name alone
marked_after : (retained : List Bool) (starts : List ℕ → Option ℕ) (slots after : List (Option (List ℕ))) (u : Update) (us : List Update) (name : List ℕ) (slot : ℕ) (mark : Bool) (marks : List Bool) → u.name ≡ Some name → is_slot slot ≡ true → length retained ≡ 128 → AreMarked retained starts slots (u ∷ us) (mark ∷ marks) → slot_at after slot ≡ Some name
    → ((other : ℕ) → is_slot other ≡ true → (other ≡ slot → ⊥) → slot_at after other ≡ slot_at slots other)
    → ((other : ℕ) (n : List ℕ) → (other ≡ slot → ⊥) → starts n ≡ Some other → keeps_next_update n (u ∷ us) (mark ∷ marks) ≡ true → is_same_name name n ≡ false)
    → ((n : List ℕ) → starts n ≡ Some slot → is_same_name name n ≡ false → keeps_next_update n (u ∷ us) (mark ∷ marks) ≡ true → ⊥)
    → AreMarked (slice_set retained (slot - 1) (keeps_next_update name us marks)) (starts_after starts (Some name) (Some slot)) after us marks
marked_after retained starts slots after u us name slot mark marks is slotted long are here stays unlike alone = (first, second)
  where
    flag : Bool
    flag = keeps_next_update name us marks

    next : List Bool
    next = slice_set retained (slot - 1) flag

    in_flags : slot - 1 < length retained
    in_flags = rw long (grind (arith, nat_tests))

    set : retained_at next slot ≡ flag
    set = get_or-set_same retained (slot - 1) flag false in_flags

    first : (other : ℕ) → is_slot other ≡ true → retained_at next other ≡ true → IsRetainedOver (starts_after starts (Some name) (Some slot)) us marks other
    first other is_other flagged = elim (cases_eq other slot) [
      | inl same ↦
          let here_flagged : retained_at next slot ≡ true = subst (λ (n : ℕ). retained_at next n ≡ true) same flagged in
          (name, start_same starts name name slot (name_itself name) ∙ ap (λ (n : ℕ). Some n) (sym same), sym set ∙ here_flagged)
      | inr apart ↦
          let was : retained_at retained other ≡ true = sym (flag_stays retained next flag slot other refl slotted is_other apart) ∙ flagged in
          let over = are.0 other is_other was in
          let differs : is_same_name name over.0 ≡ false = unlike other over.0 apart over.1 over.2 in
          (over.0, start_other starts name over.0 slot differs ∙ over.1, sym (retains_other u us mark marks name over.0 is differs) ∙ over.2)
    ]

    second : (n : List ℕ) (other : ℕ) → is_slot other ≡ true → starts_after starts (Some name) (Some slot) n ≡ Some other → keeps_next_update n us marks ≡ true → Retains next after other n
    second n other is_other start retains = by (is_same_name name n) refl
      where
        by : (t : Bool) → is_same_name name n ≡ t → Retains next after other n
        by true e =
            let one : name ≡ n = one_name name n e in
            let both : Some slot ≡ Some other = sym (start_same starts name n slot e) ∙ start in
            let same : slot ≡ other = cc in
            let retains_name : flag ≡ true = subst (λ (x : List ℕ). keeps_next_update x us marks ≡ true) (sym one) retains in
            subst (λ (x : List ℕ). Retains next after other x) one (subst (λ (p : ℕ). Retains next after p name) same (set ∙ retains_name, (slotted, here)))
        by false e =
            let began : starts n ≡ Some other = sym (start_other starts name n slot e) ∙ start in
            let over : keeps_next_update n (u ∷ us) (mark ∷ marks) ≡ true = retains_other u us mark marks name n is e ∙ retains in
            let was = are.1 n other is_other began over in
            elim (cases_eq other slot) [
              | inl same ↦ absurd (alone n (began ∙ ap (λ (p : ℕ). Some p) same) e over)
              | inr apart ↦ (flag_stays retained next flag slot other refl slotted is_other apart ∙ was.0, (is_other, stays other is_other apart ∙ was.1.1))
            ]

-- What an update's mark says of it, and what the later marks say of the slots after it.
abbrev pub IsMarkedStep : List Bool → (List ℕ → Option ℕ) → List (Option (List ℕ)) → Update → List Update → List Bool → Bool → Option (List ℕ) → NameField → List Bool → Type 0
IsMarkedStep next starts after u us marks stored name field left = IsNamed starts (u ∷ us) marks stored name field × AreMarked next (starts_after starts name (slot_of field)) after us left

-- a request that is kept
held_marked : (retained : List Bool) (starts : List ℕ → Option ℕ) (slots after : List (Option (List ℕ))) (u : Update) (us : List Update) (stored : Bool) (name : List ℕ) (slot : ℕ) (mark : Bool) (marks : List Bool) → u.name ≡ Some name → length retained ≡ 128 → AreMarked retained starts slots (u ∷ us) (mark ∷ marks) → Retains retained slots slot name → after ≡ slots
    → IsMarkedStep (slice_set retained (slot - 1) (keeps_next_update name us marks)) starts after u us (mark ∷ marks) stored (Some name) (names.Held slot) marks
held_marked retained starts slots after u us stored name slot mark marks is long are retains stay = (
  subst (λ (m : Bool). IsNamed starts (u ∷ us) (m ∷ marks) stored (Some name) (names.Held slot)) (sym marked) begun,
  marked_after retained starts slots after u us name slot mark marks is retains.1.0 long are (ap (λ (ss : List (Option (List ℕ))). slot_at ss slot) stay ∙ retains.1.1) (λ other is_other apart. ap (λ (ss : List (Option (List ℕ))). slot_at ss other) stay)
      (λ other n apart start over. start_apart starts name n slot other begun start apart) alone,
)
  where
    over : IsRetainedOver starts (u ∷ us) (mark ∷ marks) slot
    over = are.0 slot retains.1.0 retains.0

    one : over.0 ≡ name
    one = let both : Some over.0 ≡ Some name = sym (are.1 over.0 slot retains.1.0 over.1 over.2).1.1 ∙ retains.1.1 in cc

    begun : starts name ≡ Some slot
    begun = subst (λ (n : List ℕ). starts n ≡ Some slot) one over.1

    marked : mark ≡ true
    marked = sym (retains_same u us mark marks name name is (name_itself name)) ∙ subst (λ (n : List ℕ). keeps_next_update n (u ∷ us) (mark ∷ marks) ≡ true) one over.2

    alone : (n : List ℕ) → starts n ≡ Some slot → is_same_name name n ≡ false → keeps_next_update n (u ∷ us) (mark ∷ marks) ≡ true → ⊥
    alone n start differs next =
        let both : Some n ≡ Some name = sym (are.1 n slot retains.1.0 start next).1.1 ∙ retains.1.1 in
        let same : n ≡ name = cc in
        let bad : true ≡ false = sym (name_itself name) ∙ subst (λ (x : List ℕ). is_same_name name x ≡ false) same differs in
        cc

-- if no slot retains the name, its request isn't kept
unmarked : (retained : List Bool) (starts : List ℕ → Option ℕ) (slots : List (Option (List ℕ))) (u : Update) (us : List Update) (name : List ℕ) (mark : Bool) (marks : List Bool) → u.name ≡ Some name → AreMarked retained starts slots (u ∷ us) (mark ∷ marks) → AreSlots starts → IsLinkedMark starts name mark → ((other : ℕ) → Retains retained slots other name → ⊥) → mark ≡ false
unmarked retained starts slots u us name false marks is are slotted linked none = refl
unmarked retained starts slots u us name true marks is are slotted linked none = by (starts name) refl (linked refl)
  where
    by : (o : Option ℕ) → starts name ≡ o → is_some o ≡ true → true ≡ false
    by None e some = cc
    by (Some slot) e some = absurd (none slot (are.1 name slot (slotted name slot e) e (retains_same u us true marks name name is (name_itself name))))

-- a request that isn't kept
written_marked : (retained : List Bool) (starts : List ℕ → Option ℕ) (slots after : List (Option (List ℕ))) (u : Update) (us : List Update) (stored : Bool) (name written : List ℕ) (slot : ℕ) (marks : List Bool) → u.name ≡ Some name → length retained ≡ 128 → length slots ≡ 128 → AreMarked retained starts slots (u ∷ us) (false ∷ marks) → written ≡ name → IsFree retained slot → ((other : ℕ) → IsFree retained other → slot ≤ other) → after ≡ slice_set slots (slot - 1) (Some name)
    → IsMarkedStep (slice_set retained (slot - 1) (keeps_next_update name us marks)) starts after u us (false ∷ marks) stored (Some name) (names.Written slot written) marks
written_marked retained starts slots after u us stored name written slot marks is long many are same_name free lowest put = (
  (same_name, (free.0, λ over. closed over.0 over.1 over.2), λ other is_open. lowest other (is_open.0, unflagged other is_open.0 is_open.1 (retained_at retained other) refl)),
  marked_after retained starts slots after u us name slot false marks is free.0 long are here stays unlike (λ n start differs next. closed n start next),
)
  where
    closed : (n : List ℕ) → starts n ≡ Some slot → keeps_next_update n (u ∷ us) (false ∷ marks) ≡ true → ⊥
    closed n start next = let bad : true ≡ false = sym (are.1 n slot free.0 start next).0 ∙ free.1 in cc

    unflagged : (other : ℕ) → is_slot other ≡ true → (IsRetainedOver starts (u ∷ us) (false ∷ marks) other → ⊥) → (t : Bool) → retained_at retained other ≡ t → retained_at retained other ≡ false
    unflagged other is_other not_over false e = e
    unflagged other is_other not_over true e = absurd (not_over (are.0 other is_other e))

    here : slot_at after slot ≡ Some name
    here = ap (λ (ss : List (Option (List ℕ))). slot_at ss slot) put ∙ get_or-set_same slots (slot - 1) (Some name) None (in_range slots slot many free.0)

    stays : (other : ℕ) → is_slot other ≡ true → (other ≡ slot → ⊥) → slot_at after other ≡ slot_at slots other
    stays = λ other is_other apart. ap (λ (ss : List (Option (List ℕ))). slot_at ss other) put ∙ get_or-set_other_slot other is_other apart
      where
        get_or-set_other_slot : (other : ℕ) → is_slot other ≡ true → (other ≡ slot → ⊥) → slot_at (slice_set slots (slot - 1) (Some name)) other ≡ slot_at slots other
        get_or-set_other_slot other is_other apart = get_or-set_other slots (slot - 1) (other - 1) (Some name) None (places_apart other slot is_other free.0 apart)

    unlike : (other : ℕ) (n : List ℕ) → (other ≡ slot → ⊥) → starts n ≡ Some other → keeps_next_update n (u ∷ us) (false ∷ marks) ≡ true → is_same_name name n ≡ false
    unlike other n apart start next = at (is_same_name name n) refl
      where
        at : (t : Bool) → is_same_name name n ≡ t → is_same_name name n ≡ false
        at false e = e
        at true e = let bad : false ≡ true = sym (retains_same u us false marks name n is e) ∙ next in cc

-- an update without a name
nameless_marked : (retained : List Bool) (starts : List ℕ → Option ℕ) (slots after : List (Option (List ℕ))) (u : Update) (us : List Update) (stored : Bool) (field : NameField) (marks : List Bool) → u.name ≡ None → AreMarked retained starts slots (u ∷ us) marks → field ≡ written_field stored None → after ≡ slots
    → IsMarkedStep retained starts after u us marks stored None field marks
nameless_marked retained starts slots after u us stored field marks none are bare stay = (
  bare,
  subst (λ (ss : List (Option (List ℕ))). AreMarked retained starts ss us marks) (sym stay)
      ((λ slot is flag. (let over = are.0 slot is flag in (over.0, over.1, sym (retains_none u us marks over.0 none) ∙ over.2))), λ name slot is start next. are.1 name slot is start (retains_none u us marks name none ∙ next)),
)

-- a request has a mark, which is set only if a link begins for its name
abbrev pub IsMarkFor : (List ℕ → Option ℕ) → Option (List ℕ) → List Bool → Type 0
IsMarkFor starts None marks = Unit {0}
IsMarkFor starts (Some name) marks = (mark : Bool) × (later : List Bool) × (marks ≡ mark ∷ later) × IsLinkedMark starts name mark

-- an update that is sent as the slots retain their names is sent as its mark says
one_marked : (retained : List Bool) (starts : List ℕ → Option ℕ) (slots after : List (Option (List ℕ))) (u : Update) (us : List Update) (stored flag : Bool) (field : NameField) (name asked : Option (List ℕ)) (marks : List Bool) → u.name ≡ asked → length retained ≡ 128 → length slots ≡ 128 → AreMarked retained starts slots (u ∷ us) marks → AreSlots starts → IsMarkFor starts asked marks → IsNameField retained slots stored asked field → Named slots field name after
    → ((n : List ℕ) → asked ≡ Some n → flag ≡ keeps_next_update n us (marks_after asked marks))
    → IsMarkedStep (retained_after retained (slot_of field) flag) starts after u us marks stored asked field (marks_after asked marks)
one_marked retained starts slots after u us stored flag names.NotStored name None marks is long many are slotted mark named moved flagged = nameless_marked retained starts slots after u us stored names.NotStored marks is are named moved.1
one_marked retained starts slots after u us stored flag names.NoName name None marks is long many are slotted mark named moved flagged = nameless_marked retained starts slots after u us stored names.NoName marks is are named moved.1
one_marked retained starts slots after u us stored flag (names.Held slot) name None marks is long many are slotted mark named moved flagged = absurd (not_held stored named)
  where
    not_held : (b : Bool) → names.Held slot ≡ written_field b None → ⊥
    not_held true h = cc
    not_held false h = cc
one_marked retained starts slots after u us stored flag (names.Written slot written) name None marks is long many are slotted mark named moved flagged = absurd (not_written stored named)
  where
    not_written : (b : Bool) → names.Written slot written ≡ written_field b None → ⊥
    not_written true h = cc
    not_written false h = cc
one_marked retained starts slots after u us stored flag names.NotStored name (Some n) marks is long many are slotted mark named moved flagged = absurd named
one_marked retained starts slots after u us stored flag names.NoName name (Some n) marks is long many are slotted mark named moved flagged = absurd named
one_marked retained starts slots after u us stored flag (names.Held slot) name (Some n) marks is long many are slotted (mark, later, marks_are, linked) named (bytes, held, sent, stay) flagged =
    let marked : AreMarked retained starts slots (u ∷ us) (mark ∷ later) = subst (λ (l : List Bool). AreMarked retained starts slots (u ∷ us) l) marks_are are in
    let flag_is : flag ≡ keeps_next_update n us later = flagged n refl ∙ ap (λ (l : List Bool). keeps_next_update n us (marks_after (Some n) l)) marks_are in
    subst (λ (l : List Bool). IsMarkedStep (slice_set retained (slot - 1) flag) starts after u us l stored (Some n) (names.Held slot) (marks_after (Some n) l)) (sym marks_are)
    (subst (λ (b : Bool). IsMarkedStep (slice_set retained (slot - 1) b) starts after u us (mark ∷ later) stored (Some n) (names.Held slot) later) (sym flag_is)
    (held_marked retained starts slots after u us stored n slot mark later is long marked named stay))
one_marked retained starts slots after u us stored flag (names.Written slot written) name (Some n) marks is long many are slotted (mark, later, marks_are, linked) named moved flagged =
    let marked : AreMarked retained starts slots (u ∷ us) (mark ∷ later) = subst (λ (l : List Bool). AreMarked retained starts slots (u ∷ us) l) marks_are are in
    let none : mark ≡ false = unmarked retained starts slots u us n mark later is marked slotted linked named.1 in
    let so : marks ≡ false ∷ later = marks_are ∙ ap (λ (b : Bool). b ∷ later) none in
    let closed : AreMarked retained starts slots (u ∷ us) (false ∷ later) = subst (λ (l : List Bool). AreMarked retained starts slots (u ∷ us) l) so are in
    let flag_is : flag ≡ keeps_next_update n us later = flagged n refl ∙ ap (λ (l : List Bool). keeps_next_update n us (marks_after (Some n) l)) so in
    subst (λ (l : List Bool). IsMarkedStep (slice_set retained (slot - 1) flag) starts after u us l stored (Some n) (names.Written slot written) (marks_after (Some n) l)) (sym so)
    (subst (λ (b : Bool). IsMarkedStep (slice_set retained (slot - 1) b) starts after u us (false ∷ later) stored (Some n) (names.Written slot written) later) (sym flag_is)
    (written_marked retained starts slots after u us stored n written slot later is long many closed named.0 named.2 named.3 (moved.1 ∙ ap (λ (x : List ℕ). slice_set slots (slot - 1) (Some x)) named.0)))

-- ---- room for a name that is written

-- some flag is false, or all flags are true
free_or_full : (flags : List Bool) → ((i : ℕ) × (i < length flags) × (get_or flags i false ≡ false)) ⊎ ((i : ℕ) → i < length flags → get_or flags i false ≡ true)
free_or_full [] = inr (λ i lt. absurd (omega arith))
free_or_full (false ∷ flags) = inl (0, omega arith, refl)
free_or_full (true ∷ flags) = elim (free_or_full flags) [
  | inl free ↦ inl (suc free.0, omega (arith, free.1), free.2)
  | inr full ↦ inr (λ i lt. later full i lt)
]
  where
    later : ((i : ℕ) → i < length flags → get_or flags i false ≡ true) → (i : ℕ) → i < length (true ∷ flags) → get_or (true ∷ flags) i false ≡ true
    later full zero lt = refl
    later full (suc i) lt = full i (omega arith)

-- a name that is retained in one of the first slots
abbrev IsOver : (List ℕ → Option ℕ) → List Update → List Bool → ℕ → List ℕ → Type 0
IsOver starts us marks n name = (slot : ℕ) × (slot ≤ n) × (starts name ≡ Some slot) × (keeps_next_update name us marks ≡ true)

-- if all slots are retained, as many distinct names are retained
names_over : (starts : List ℕ → Option ℕ) (us : List Update) (marks : List Bool) → ((slot : ℕ) → is_slot slot ≡ true → IsRetainedOver starts us marks slot) → (n : ℕ) → n ≤ 128
    → (names : List (List ℕ)) × (length names ≡ n) × IsDistinct is_same_name names × AllByRecursion (IsOver starts us marks n) names
unfolding IsDistinct
names_over starts us marks over zero le = ([], refl, tt, tt)
names_over starts us marks over (suc n) le =
    let others = names_over starts us marks over n (omega arith) in
    let here = over (suc n) (grind (arith, nat_tests)) in
    (here.0 ∷ others.0, ap suc others.1, (apart here.0 here.1 others.0 others.3, others.2), ((suc n, omega arith, here.1, here.2), further others.0 others.3))
  where
    apart : (name : List ℕ) → starts name ≡ Some (suc n) → (names : List (List ℕ)) → AllByRecursion (IsOver starts us marks n) names → AllByRecursion (λ other. is_same_name name other ≡ false) names
    apart name start [] all = tt
    apart name start (x ∷ xs) all = (start_apart starts name x (suc n) all.0.0 start all.0.2 (λ same. below all.0.0 all.0.1 same), apart name start xs all.1)
      where
        below : (slot : ℕ) → slot ≤ n → slot ≡ suc n → ⊥
        below slot le same = omega arith

    further : (names : List (List ℕ)) → AllByRecursion (IsOver starts us marks n) names → AllByRecursion (IsOver starts us marks (suc n)) names
    further [] all = tt
    further (x ∷ xs) all = ((all.0.0, omega (arith, all.0.1), all.0.2, all.0.3), further xs all.1)

-- whether a name's next request is kept depends only on the requests
pub retains_keeps : (roster : List Definition) (k : Knowledge) (us : List Update) (marks : List Bool) (name : List ℕ) → keeps_next_update name us marks ≡ keeps_next name (requests_of roster k us) marks
retains_keeps roster k [] marks name = refl
retains_keeps roster k (u ∷ us) marks name = by u.name refl marks (λ left. retains_keeps roster (knowledge_after k u) us left name)
  where
    rest : List Asked
    rest = requests_of roster (knowledge_after k u) us

    none_left : (rs : List Asked) → keeps_next name rs [] ≡ false
    none_left [] = refl
    none_left (r ∷ rs) = refl

    pass : (b : Bool) → keeps_next_update name us [] ≡ false → cond b false (keeps_next_update name us []) ≡ false
    pass true h = refl
    pass false h = h

    by : (asked_name : Option (List ℕ)) → u.name ≡ asked_name → (marks : List Bool) → ((left : List Bool) → keeps_next_update name us left ≡ keeps_next name rest left) → keeps_next_update name (u ∷ us) marks ≡ keeps_next name (requests_of roster k (u ∷ us)) marks
    by None e marks later = rw e (later marks)
    by (Some n) e [] later = rw e (pass (is_same_name n name) (later [] ∙ none_left rest))
    by (Some n) e (mark ∷ marks) later = rw e (ap (λ (b : Bool). cond (is_same_name n name) mark b) (later marks))

-- ---- all updates

-- a link begins for a name if and only if the name was requested or held
abbrev pub AreBegun : (List ℕ → Option ℕ) → Asking → Type 0
AreBegun starts asking = (name : List ℕ) → is_some (starts name) ≡ is_some (asking.last name)

-- Messages that send the remaining updates from the state mid and its marks send all updates from the start, with these
-- messages before them.
abbrev pub Leads : List Definition → State → List Update → List Bool → List Message → State → (List ℕ → Option ℕ) → List Update → List Bool → Type 0
Leads roster s us keep ms mid starts left marks = (rest : List Message) (e : State) → AreSent roster mid starts left marks rest e → AreSent roster s (starts_at_first s.slots) us keep (ms ++ rest) e

-- The updates were sent as their marks say, except the remaining ones, with `index` requests so far.
abbrev pub IsUnderWay : List Definition → State → List Update → List Asked → List Bool → List ℕ → State → List Bool → ℕ → List Update → Type 0
IsUnderWay roster s us rs keep bytes mid retained index left =
    (ms : List Message) × (starts : List ℕ → Option ℕ) × (k : Knowledge) × (done : List Asked) × (kept : List Bool) × (marks : List Bool)
    × (bytes ≡ stream_of ms)
    × (rs ≡ done ++ requests_of roster k left)
    × (keep ≡ kept ++ marks)
    × (length done ≡ index)
    × (length kept ≡ index)
    × (length marks ≡ length (requests_of roster k left))
    × AreLinked (after_requests (at_start (names_in s.slots)) done) (requests_of roster k left) marks
    × AreBegun starts (after_requests (at_start (names_in s.slots)) done)
    × AreSlots starts
    × AreMarked retained starts mid.slots left marks
    × (length retained ≡ 128)
    × (length mid.slots ≡ 128)
    × Leads roster s us keep ms mid starts left marks

-- the mark of the first request
mark_first : (roster : List Definition) (k : Knowledge) (starts : List ℕ → Option ℕ) (asking : Asking) (u : Update) (us : List Update) (name : Option (List ℕ)) (marks : List Bool) → u.name ≡ name → length marks ≡ length (requests_of roster k (u ∷ us)) → AreLinked asking (requests_of roster k (u ∷ us)) marks → AreBegun starts asking → IsMarkFor starts name marks
mark_first roster k starts asking u us None marks is long linked begun = tt
mark_first roster k starts asking u us (Some n) [] is long linked begun =
    let bad : 0 ≡ suc (length (requests_of roster (knowledge_after k u) us)) = subst (λ (o : Option (List ℕ)). 0 ≡ length (asked roster k u o ++ requests_of roster (knowledge_after k u) us)) is long in
    absurd (omega arith)
mark_first roster k starts asking u us (Some n) (mark ∷ marks) is long linked begun =
    (mark, marks, refl, by mark (subst (λ (o : Option (List ℕ)). AreLinked asking (asked roster k u o ++ requests_of roster (knowledge_after k u) us) (mark ∷ marks)) is linked))
  where
    by : (mark : Bool) → AreLinked asking (asked roster k u (Some n) ++ requests_of roster (knowledge_after k u) us) (mark ∷ marks) → IsLinkedMark starts n mark
    by true l = λ set. begun n ∙ ap is_some l.0.1
    by false l = λ set. cc

-- the mark of an update's request, if it has a name
abbrev taken : Option (List ℕ) → List Bool → List Bool
taken None marks = []
taken (Some name) marks = first_mark marks ∷ []

-- what holds after an update whose name used a slot
abbrev IsAdvanced : List Definition → Knowledge → Update → Option (List ℕ) → Option ℕ → (List ℕ → Option ℕ) → Asking → List Asked → List Bool → Type 0
IsAdvanced roster k u name slot starts asking rest marks =
    (marks ≡ taken name marks ++ marks_after name marks)
    × (length (marks_after name marks) ≡ length rest)
    × AreLinked (after_requests asking (asked roster k u name)) rest (marks_after name marks)
    × AreBegun (starts_after starts name slot) (after_requests asking (asked roster k u name))
    × AreSlots (starts_after starts name slot)
    × ((index : ℕ) → index + length (taken name marks) ≡ index_after index slot)
    × ((index : ℕ) → index + length (asked roster k u name) ≡ index_after index slot)

advanced : (roster : List Definition) (k : Knowledge) (u : Update) (name : Option (List ℕ)) (slot : Option ℕ) (starts : List ℕ → Option ℕ) (asking : Asking) (rest : List Asked) (marks : List Bool) → is_some slot ≡ is_some name → ((id : ℕ) → slot ≡ Some id → is_slot id ≡ true) → length marks ≡ length (asked roster k u name ++ rest) → AreLinked asking (asked roster k u name ++ rest) marks → AreBegun starts asking → AreSlots starts → IsAdvanced roster k u name slot starts asking rest marks
advanced roster k u None None starts asking rest marks same slotted long linked begun slots = (refl, long, linked, begun, slots, λ index. omega arith, λ index. omega arith)
advanced roster k u None (Some slot) starts asking rest marks same slotted long linked begun slots = let bad : true ≡ false = same in cc
advanced roster k u (Some name) None starts asking rest marks same slotted long linked begun slots = let bad : false ≡ true = same in cc
advanced roster k u (Some name) (Some slot) starts asking rest [] same slotted long linked begun slots = absurd (omega arith)
advanced roster k u (Some name) (Some slot) starts asking rest (mark ∷ marks) same slotted long linked begun slots =
    (refl, omega arith, by mark linked, λ other. begins (is_same_name name other) (starts other) (asking.last other) (begun other), λ other id start. of_slot other id (is_same_name name other) start, λ index. omega arith, λ index. omega arith)
  where
    by : (mark : Bool) → AreLinked asking (asked roster k u (Some name) ++ rest) (mark ∷ marks) → AreLinked (after_requests asking (asked roster k u (Some name))) rest marks
    by true l = l.1
    by false l = l

    begins : (b : Bool) (start last : Option ℕ) → is_some start ≡ is_some last → is_some (cond b (Some slot) start) ≡ is_some (cond b (Some (asking.place + 1)) last)
    begins true start last alike = refl
    begins false start last alike = alike

    of_slot : (other : List ℕ) (id : ℕ) (b : Bool) → cond b (Some slot) (starts other) ≡ Some id → is_slot id ≡ true
    of_slot other id true e = let same_id : slot ≡ id = cc in subst (λ (n : ℕ). is_slot n ≡ true) same_id (slotted slot refl)
    of_slot other id false e = slots other id e

-- a name field has a slot if and only if the update has a name
slot_of_named : (retained : List Bool) (slots : List (Option (List ℕ))) (stored : Bool) (name : Option (List ℕ)) (field : NameField) → IsNameField retained slots stored name field → (is_some (slot_of field) ≡ is_some name) × ((id : ℕ) → slot_of field ≡ Some id → is_slot id ≡ true)
slot_of_named retained slots stored None names.NotStored named = (refl, λ id e. cc)
slot_of_named retained slots stored None names.NoName named = (refl, λ id e. cc)
slot_of_named retained slots stored None (names.Held slot) named = absurd (not_held stored named)
  where
    not_held : (b : Bool) → names.Held slot ≡ written_field b None → ⊥
    not_held true h = cc
    not_held false h = cc
slot_of_named retained slots stored None (names.Written slot written) named = absurd (not_written stored named)
  where
    not_written : (b : Bool) → names.Written slot written ≡ written_field b None → ⊥
    not_written true h = cc
    not_written false h = cc
slot_of_named retained slots stored (Some name) names.NotStored named = absurd named
slot_of_named retained slots stored (Some name) names.NoName named = absurd named
slot_of_named retained slots stored (Some name) (names.Held slot) named = (refl, λ id e. (let same : slot ≡ id = cc in subst (λ (n : ℕ). is_slot n ≡ true) same named.1.0))
slot_of_named retained slots stored (Some name) (names.Written slot written) named = (refl, λ id e. (let same : slot ≡ id = cc in subst (λ (n : ℕ). is_slot n ≡ true) same named.2.0))

-- the flag at the index of an update's request
flag_at : (roster : List Definition) (k : Knowledge) (u : Update) (left : List Update) (rs done : List Asked) (keep kept marks : List Bool) (starts : List ℕ → Option ℕ) (index : ℕ) (n : List ℕ) → u.name ≡ Some n → rs ≡ done ++ requests_of roster k (u ∷ left) → keep ≡ kept ++ marks → length done ≡ index → length kept ≡ index → IsMarkFor starts u.name marks
    → get_or (kept_next rs keep) index false ≡ keeps_next_update n left (marks_after u.name marks)
flag_at roster k u left rs done keep kept marks starts index n is rs_is keep_is so_far kept_so_far mark =
    let m = subst (λ (o : Option (List ℕ)). IsMarkFor starts o marks) is mark in
    let r : Asked = record { name = n; read_cost = r_of.read_cost; write_cost = r_of.write_cost } in
    let rest : List Asked = requests_of roster (knowledge_after k u) left in
    let first : requests_of roster k (u ∷ left) ≡ r ∷ rest = ap (λ (o : Option (List ℕ)). asked roster k u o ++ rest) is in
    let all : rs ≡ done ++ r ∷ rest = rs_is ∙ ap (λ (l : List Asked). done ++ l) first in
    let marks_all : keep ≡ kept ++ m.0 ∷ m.1 = keep_is ∙ ap (λ (l : List Bool). kept ++ l) m.2 in
    let flag : get_or (kept_next (done ++ r ∷ rest) (kept ++ m.0 ∷ m.1)) (length done) false ≡ keeps_next n rest m.1 = kept_next-at done rest r kept m.1 m.0 (kept_so_far ∙ sym so_far) in
    let later : marks_after u.name marks ≡ m.1 = ap (λ (o : Option (List ℕ)). marks_after o marks) is ∙ ap (marks_after (Some n)) m.2 in
    ap (λ (p : ℕ). get_or (kept_next rs keep) p false) (sym so_far) ∙ ap (λ (l : List Asked). get_or (kept_next l keep) (length done) false) all ∙ ap (λ (l : List Bool). get_or (kept_next (done ++ r ∷ rest) l) (length done) false) marks_all
    ∙ flag ∙ sym (retains_keeps roster (knowledge_after k u) left m.1 n) ∙ ap (keeps_next_update n left) (sym later)
  where
    r_of : Asked
    r_of = one (asked roster k u (Some n))
      where
        one : List Asked → Asked
        one [] = record { name = n; read_cost = 0; write_cost = 0 }
        one (x ∷ xs) = x

-- one more update
pub way_step : (roster : List Definition) (s mid after : State) (us left : List Update) (u : Update) (rs : List Asked) (keep next : List Bool) (bytes more : List ℕ) (retained : List Bool) (index : ℕ) (field : NameField) (first : List Message) → IsUnderWay roster s us rs keep bytes mid retained index (u ∷ left) → IsSent roster mid u field first after → IsNameField retained mid.slots (is_stored roster u) u.name field → more ≡ bytes ++ stream_of first → next ≡ kept_next rs keep
    → IsUnderWay roster s us rs keep more after (retained_after retained (slot_of field) (get_or next index false)) (index_after index (slot_of field)) left
way_step roster s mid after us left u rs keep next bytes more retained index field first (ms, starts, k, done, kept, marks, bytes_are, rs_is, keep_is, so_far, kept_so_far, long, linked, begun, slots, are, long_flags, many, leads) sent named grown next_is =
    let held = names_in s.slots in
    let asking = after_requests (at_start held) done in
    let rest : List Asked = requests_of roster (knowledge_after k u) left in
    let moved = sent_slots roster mid after u field first sent in
    let slotted = slot_of_named retained mid.slots (is_stored roster u) u.name field named in
    let mark = mark_first roster k starts asking u left u.name marks refl long linked begun in
    let ahead = advanced roster k u u.name (slot_of field) starts asking rest marks slotted.0 slotted.1 long linked begun slots in
    let flag : Bool = get_or next index false in
    let flag_is : (n : List ℕ) → u.name ≡ Some n → flag ≡ keeps_next_update n left (marks_after u.name marks) =
    λ n is. ap (λ (l : List Bool). get_or l index false) next_is ∙ flag_at roster k u left rs done keep kept marks starts index n is rs_is keep_is so_far kept_so_far mark in
    let step = one_marked retained starts mid.slots after.slots u left (is_stored roster u) flag field moved.0 u.name marks refl long_flags many are slots mark named moved.1 flag_is in
    let then : after_requests (at_start held) (done ++ asked roster k u u.name) ≡ after_requests asking (asked roster k u u.name) = after-append (at_start held) done (asked roster k u u.name) in (
      ms ++ first,
      starts_after starts u.name (slot_of field),
      knowledge_after k u,
      done ++ asked roster k u u.name,
      kept ++ taken u.name marks,
      marks_after u.name marks,
      grown ∙ ap (λ (l : List ℕ). l ++ stream_of first) bytes_are ∙ sym (stream-append ms first),
      rs_is ∙ sym (append_assoc done (asked roster k u u.name) rest),
      keep_is ∙ ap (λ (l : List Bool). kept ++ l) ahead.0 ∙ sym (append_assoc kept (taken u.name marks) (marks_after u.name marks)),
      length-append done (asked roster k u u.name) ∙ ap (λ (n : ℕ). n + length (asked roster k u u.name)) so_far ∙ ahead.6 index,
      length-append kept (taken u.name marks) ∙ ap (λ (n : ℕ). n + length (taken u.name marks)) kept_so_far ∙ ahead.5 index,
      ahead.1,
      subst (λ (a : Asking). AreLinked a rest (marks_after u.name marks)) (sym then) ahead.2,
      subst (λ (a : Asking). AreBegun (starts_after starts u.name (slot_of field)) a) (sym then) ahead.3,
      ahead.4,
      step.1,
      length_after (slot_of field) flag,
      slots_long mid.slots after.slots field moved.0 many moved.1,
      λ others e sent_more. subst (λ (l : List Message). AreSent roster s (starts_at_first s.slots) us keep l e) (sym (append_assoc ms first others)) (leads (first ++ others) e (field, first, after, others, sent, step.0, sent_more, refl)),
    )
  where
    length_after : (slot : Option ℕ) (flag : Bool) → length (retained_after retained slot flag) ≡ 128
    length_after None flag = long_flags
    length_after (Some slot) flag = length-set retained (slot - 1) flag ∙ long_flags

-- if a name is written, some slot is free
pub way_room : (roster : List Definition) (s mid : State) (us left : List Update) (u : Update) (rs : List Asked) (keep : List Bool) (bytes : List ℕ) (retained : List Bool) (index : ℕ) → IsUnderWay roster s us rs keep bytes mid retained index (u ∷ left) → ((p : ℕ) → kept_over (links (names_in s.slots) rs keep) p ≤ 127) → HasRoomFor retained mid.slots u.name
way_room roster s mid us left u rs keep bytes retained index (ms, starts, k, done, kept, marks, bytes_are, rs_is, keep_is, so_far, kept_so_far, long, linked, begun, slots, are, long_flags, many, leads) room = by u.name refl
  where
    held : List (List ℕ)
    held = names_in s.slots

    rest : List Asked
    rest = requests_of roster (knowledge_after k u) left

    full_not : (n : List ℕ) (later : List Bool) → u.name ≡ Some n → marks ≡ false ∷ later → ((i : ℕ) → i < length retained → get_or retained i false ≡ true) → ⊥
    full_not n later is marks_are full =
        let over : (slot : ℕ) → is_slot slot ≡ true → IsRetainedOver starts (u ∷ left) marks slot = λ slot is_id. are.0 slot is_id (full (slot - 1) (rw long_flags (grind (arith, nat_tests)))) in
        let names = names_over starts (u ∷ left) marks over 128 (omega arith) in
        let r : Asked = of (asked roster k u (Some n)) in
        let first : requests_of roster k (u ∷ left) ≡ r ∷ rest = ap (λ (o : Option (List ℕ)). asked roster k u o ++ rest) is in
        let whole : rs ≡ done ++ (r ∷ rest) = rs_is ∙ ap (λ (l : List Asked). done ++ l) first in
        let marks_all : keep ≡ kept ++ (false ∷ later) = keep_is ∙ ap (λ (l : List Bool). kept ++ l) marks_are in
        let keeps : (name : List ℕ) → keeps_next_update name (u ∷ left) marks ≡ keeps_next name (r ∷ rest) (false ∷ later) =
        λ name. retains_keeps roster k (u ∷ left) marks name ∙ ap (λ (l : List Asked). keeps_next name l marks) first ∙ ap (keeps_next name (r ∷ rest)) marks_are in
        let fits = names_to_keep held done rest r kept later names.0 (kept_so_far ∙ sym so_far) names.2 (each (r ∷ rest) (false ∷ later) keeps names.0 names.3) in
        let all : length names.0 ≤ kept_over (links held rs keep) (length done + 1) =
        subst (λ (l : List Asked). length names.0 ≤ kept_over (links held l keep) (length done + 1)) (sym whole) (subst (λ (l : List Bool). length names.0 ≤ kept_over (links held (done ++ (r ∷ rest)) l) (length done + 1)) (sym marks_all) fits) in
        let most = room (length done + 1) in
        omega (arith, names.1)
      where
        of : List Asked → Asked
        of [] = record { name = n; read_cost = 0; write_cost = 0 }
        of (x ∷ xs) = x

        each : (ls : List Asked) (ms : List Bool) → ((name : List ℕ) → keeps_next_update name (u ∷ left) marks ≡ keeps_next name ls ms) → (names : List (List ℕ)) → AllByRecursion (IsOver starts (u ∷ left) marks 128) names
            → AllByRecursion (λ name. (is_some ((after_requests (at_start held) done).last name) ≡ true) × (keeps_next name ls ms ≡ true)) names
        each ls ms keeps [] all = tt
        each ls ms keeps (x ∷ xs) all = ((sym (begun x) ∙ ap is_some all.0.2, sym (keeps x) ∙ all.0.3), each ls ms keeps xs all.1)

    by : (name : Option (List ℕ)) → u.name ≡ name → HasRoomFor retained mid.slots name
    by None is = tt
    by (Some n) is = λ none.
        let m = subst (λ (o : Option (List ℕ)). IsMarkFor starts o marks) is (mark_first roster k starts (after_requests (at_start held) done) u left u.name marks refl long linked begun) in
        let marked : AreMarked retained starts mid.slots (u ∷ left) (m.0 ∷ m.1) = subst (λ (l : List Bool). AreMarked retained starts mid.slots (u ∷ left) l) m.2 are in
        let off : m.0 ≡ false = unmarked retained starts mid.slots u left n m.0 m.1 is marked slots m.3 none in
        let marks_are : marks ≡ false ∷ m.1 = m.2 ∙ ap (λ (b : Bool). b ∷ m.1) off in
        elim (free_or_full retained) [
          | inl free ↦ (suc free.0, (slot_of_place free.0 (omega (arith, free.1, long_flags)), ap (λ (p : ℕ). get_or retained p false) (back free.0) ∙ free.2))
          | inr full ↦ absurd (full_not n m.1 is marks_are full)
        ]
      where
        slot_of_place : (j : ℕ) → j < 128 → is_slot (suc j) ≡ true
        slot_of_place j lt = grind (arith, nat_tests)

        back : (j : ℕ) → suc j - 1 ≡ j
        back j = omega arith

-- the request of a name that a slot retains is kept
retained_marked : (retained : List Bool) (starts : List ℕ → Option ℕ) (slots : List (Option (List ℕ))) (u : Update) (us : List Update) (name : List ℕ) (slot : ℕ) (mark : Bool) (marks : List Bool) → u.name ≡ Some name → AreMarked retained starts slots (u ∷ us) (mark ∷ marks) → Retains retained slots slot name → mark ≡ true
retained_marked retained starts slots u us name slot mark marks is are retains = sym (retains_same u us mark marks name name is (name_itself name)) ∙ subst (λ (n : List ℕ). keeps_next_update n (u ∷ us) (mark ∷ marks) ≡ true) one over.2
  where
    over : IsRetainedOver starts (u ∷ us) (mark ∷ marks) slot
    over = are.0 slot retains.1.0 retains.0

    one : over.0 ≡ name
    one = let both : Some over.0 ≡ Some name = sym (are.1 over.0 slot retains.1.0 over.1 over.2).1.1 ∙ retains.1.1 in cc

-- the mark after `index` requests
mark_behind : (kept marks : List Bool) (mark : Bool) (index : ℕ) → length kept ≡ index → get_or (kept ++ mark ∷ marks) index false ≡ mark
mark_behind [] marks mark zero many = refl
mark_behind [] marks mark (suc index) many = absurd (omega arith)
mark_behind (k ∷ kept) marks mark zero many = absurd (omega arith)
mark_behind (k ∷ kept) marks mark (suc index) many = mark_behind kept marks mark index (omega arith)

-- if the request of an update isn't kept, no slot retains its name
pub way_unkept : (roster : List Definition) (s mid : State) (us left : List Update) (u : Update) (rs : List Asked) (keep : List Bool) (bytes : List ℕ) (retained : List Bool) (index : ℕ) → IsUnderWay roster s us rs keep bytes mid retained index (u ∷ left) → get_or keep index false ≡ false → IsNotRetained retained mid.slots u.name
way_unkept roster s mid us left u rs keep bytes retained index (ms, starts, k, done, kept, marks, bytes_are, rs_is, keep_is, so_far, kept_so_far, long, linked, begun, slots, are, long_flags, many, leads) off = by u.name refl
  where
    by : (name : Option (List ℕ)) → u.name ≡ name → IsNotRetained retained mid.slots name
    by None is = tt
    by (Some n) is = λ slot retains.
        let m = subst (λ (o : Option (List ℕ)). IsMarkFor starts o marks) is (mark_first roster k starts (after_requests (at_start (names_in s.slots)) done) u left u.name marks refl long linked begun) in
        let marked : AreMarked retained starts mid.slots (u ∷ left) (m.0 ∷ m.1) = subst (λ (l : List Bool). AreMarked retained starts mid.slots (u ∷ left) l) m.2 are in
        let whole : keep ≡ kept ++ (m.0 ∷ m.1) = keep_is ∙ ap (λ (l : List Bool). kept ++ l) m.2 in
        let here : get_or keep index false ≡ m.0 = ap (λ (l : List Bool). get_or l index false) whole ∙ mark_behind kept m.1 m.0 index kept_so_far in
        let on : m.0 ≡ true = retained_marked retained starts mid.slots u left n slot m.0 m.1 is marked retains in
        let bad : true ≡ false = sym on ∙ sym here ∙ off in
        cc

-- ---- at the start, and at the end

-- a link begins at the start for each name that a slot holds
begun_first : (slots : List (Option (List ℕ))) (from : ℕ) (name : List ℕ) → is_some (lowest_from from slots name) ≡ list_any (is_same_name name) (names_in slots)
begun_first [] from name = refl
begun_first (None ∷ slots) from name = begun_first slots (from + 1) name
begun_first (Some x ∷ slots) from name = ap (λ (b : Bool). is_some (cond b (Some from) (lowest_from (from + 1) slots name))) (turned x name) ∙ by (is_same_name name x) (begun_first slots (from + 1) name)
  where
    by : (b : Bool) → is_some (lowest_from (from + 1) slots name) ≡ list_any (is_same_name name) (names_in slots) → is_some (cond b (Some from) (lowest_from (from + 1) slots name)) ≡ (b || list_any (is_same_name name) (names_in slots))
    by true h = refl
    by false h = h

-- where it begins, the slot is the lowest that holds the name
lowest_is : (slots : List (Option (List ℕ))) (from : ℕ) (name : List ℕ) (slot : ℕ) → lowest_from from slots name ≡ Some slot → (i : ℕ) × (slot ≡ from + i) × (i < length slots) × (get_or slots i None ≡ Some name) × ((j : ℕ) → get_or slots j None ≡ Some name → i ≤ j)
lowest_is [] from name slot found = let bad : None ≡ Some slot = found in cc
lowest_is (held ∷ slots) from name slot found = by held (is_that_name name held) refl found (λ e. lowest_is slots (from + 1) name slot e)
  where
    none_holds : (h : Option (List ℕ)) → is_that_name name h ≡ false → h ≡ Some name → ⊥
    none_holds None t e = cc
    none_holds (Some x) t e =
        let same : x ≡ name = cc in
        let bad : true ≡ false = sym (name_itself name) ∙ subst (λ (y : List ℕ). is_same_name y name ≡ false) same t in
        cc

    further : (h : Option (List ℕ)) → is_that_name name h ≡ false → (i : ℕ) → ((j : ℕ) → get_or slots j None ≡ Some name → i ≤ j) → (j : ℕ) → get_or (h ∷ slots) j None ≡ Some name → suc i ≤ j
    further h t i least zero e = absurd (none_holds h t e)
    further h t i least (suc j) e = omega (arith, least j e)

    by : (h : Option (List ℕ)) (b : Bool) → is_that_name name h ≡ b → cond b (Some from) (lowest_from (from + 1) slots name) ≡ Some slot → (lowest_from (from + 1) slots name ≡ Some slot → (i : ℕ) × (slot ≡ from + 1 + i) × (i < length slots) × (get_or slots i None ≡ Some name) × ((j : ℕ) → get_or slots j None ≡ Some name → i ≤ j)) → (i : ℕ) × (slot ≡ from + i) × (i < length (h ∷ slots)) × (get_or (h ∷ slots) i None ≡ Some name) × ((j : ℕ) → get_or (h ∷ slots) j None ≡ Some name → i ≤ j)
    by None true t e deeper = cc
    by (Some x) true t e deeper = let first : from ≡ slot = cc in (0, omega arith, omega arith, ap (λ (y : List ℕ). Some y) (one_name x name t), λ j same. omega arith)
    by h false t e deeper =
        let later = deeper e in
        (suc later.0, omega (arith, later.1), omega (arith, later.2), later.3, further h t later.0 later.4)

-- before the first update
pub way_start : (roster : List Definition) (s : State) (us : List Update) (k : Knowledge) (rs : List Asked) (keep retained : List Bool) (is_kept : List ℕ → Bool) → rs ≡ requests_of roster k us → length keep ≡ length rs → AreLinked (at_start (names_in s.slots)) rs keep → length s.slots ≡ 128 → length retained ≡ 128
    → ((slot : ℕ) → is_slot slot ≡ true → (retained_at retained slot ≡ true) ↔ IsRetainedFirst s.slots is_kept slot)
    → ((name : List ℕ) → is_kept name ≡ keeps_next name rs keep)
    → IsUnderWay roster s us rs keep [] s retained 0 us
way_start roster s us k rs keep retained is_kept rs_is long linked many long_flags exact keeps =
    ([], starts_at_first s.slots, k, [], [], keep, refl, rs_is, refl, refl, refl, long ∙ ap (λ (l : List Asked). length l) rs_is, subst (λ (l : List Asked). AreLinked (at_start (names_in s.slots)) l keep) rs_is linked, begun, slots, (first, second), long_flags, many, λ rest e sent. sent)
  where
    begun : AreBegun (starts_at_first s.slots) (at_start (names_in s.slots))
    begun = λ name. begun_first s.slots 1 name ∙ sym (tested (list_any (is_same_name name) (names_in s.slots)))
      where
        tested : (b : Bool) → is_some {T = ℕ} (cond b (Some 0) None) ≡ b
        tested true = refl
        tested false = refl

    slots : AreSlots (starts_at_first s.slots)
    slots = λ name slot found.
        let at = lowest_is s.slots 1 name slot found in
        subst (λ (n : ℕ). is_slot n ≡ true) (sym at.1) (within at.0 (subst (λ (n : ℕ). at.0 < n) many at.2))
      where
        within : (i : ℕ) → i < 128 → is_slot (1 + i) ≡ true
        within i lt = grind (arith, nat_tests)

    kept_next_is : (name : List ℕ) → is_kept name ≡ keeps_next_update name us keep
    kept_next_is name = keeps name ∙ ap (λ (l : List Asked). keeps_next name l keep) rs_is ∙ sym (retains_keeps roster k us keep name)

    first : (slot : ℕ) → is_slot slot ≡ true → retained_at retained slot ≡ true → IsRetainedOver (starts_at_first s.slots) us keep slot
    first slot is flag =
        let may = (exact slot is).0 flag in
        let place : slot - 1 < length s.slots = in_range s.slots slot many is in
        let one : 1 ≤ slot = grind (arith, nat_tests) in
        let last : slot ≤ 128 = grind (arith, nat_tests) in
        let found : lowest_from 1 s.slots may.0 ≡ Some (1 + (slot - 1)) = lowest_found s.slots 1 (slot - 1) may.0 place may.1.1 (λ j lt held. (let low : slot ≤ suc j = may.2 (suc j) (slot_of_place j (omega arith), ap (λ (n : ℕ). get_or s.slots n None) (before j) ∙ held) in absurd (omega arith))) in
        (may.0, found ∙ ap (λ (n : ℕ). Some n) (omega arith), sym (kept_next_is may.0) ∙ may.3)
      where
        before : (j : ℕ) → suc j - 1 ≡ j
        before j = omega arith

        slot_of_place : (j : ℕ) → j < 128 → is_slot (suc j) ≡ true
        slot_of_place j lt = grind (arith, nat_tests)

    second : (name : List ℕ) (slot : ℕ) → is_slot slot ≡ true → starts_at_first s.slots name ≡ Some slot → keeps_next_update name us keep ≡ true → Retains retained s.slots slot name
    second name slot is found next =
        let at = lowest_is s.slots 1 name slot found in
        let holds : slot_at s.slots slot ≡ Some name = ap (λ (n : ℕ). get_or s.slots (n - 1) None) at.1 ∙ ap (λ (n : ℕ). get_or s.slots n None) (less at.0) ∙ at.3 in
        let may : IsRetainedFirst s.slots is_kept slot = (name, (is, holds), λ other there. lowest other there at.0 at.1 at.4, kept_next_is name ∙ next) in
        ((exact slot is).1 may, (is, holds))
      where
        less : (i : ℕ) → 1 + i - 1 ≡ i
        less i = omega arith

        lowest : (other : ℕ) → (is_slot other ≡ true) × (slot_at s.slots other ≡ Some name) → (i : ℕ) → slot ≡ 1 + i → ((j : ℕ) → get_or s.slots j None ≡ Some name → i ≤ j) → slot ≤ other
        lowest other there i at least =
            let one : 1 ≤ other = from_one other there.0 in
            omega (arith, least (other - 1) there.1)
          where
            from_one : (n : ℕ) → is_slot n ≡ true → 1 ≤ n
            from_one n is = grind (arith, nat_tests)

-- after the last update
pub way_end : (roster : List Definition) (s mid : State) (us : List Update) (rs : List Asked) (keep : List Bool) (bytes : List ℕ) (retained : List Bool) (index : ℕ) → IsUnderWay roster s us rs keep bytes mid retained index [] → (ms : List Message) × AreSent roster s (starts_at_first s.slots) us keep ms mid × (bytes ≡ stream_of ms)
way_end roster s mid us rs keep bytes retained index (ms, starts, k, done, kept, marks, bytes_are, rs_is, keep_is, so_far, kept_so_far, long, linked, begun, slots, are, long_flags, many, leads) =
    (ms, subst (λ (l : List Message). AreSent roster s (starts_at_first s.slots) us keep l mid) (append-nil ms) (leads [] mid (none marks long, refl, refl)), bytes_are)
  where
    none : (l : List Bool) → length l ≡ 0 → l ≡ []
    none [] e = refl
    none (x ∷ xs) e = absurd (omega arith)
