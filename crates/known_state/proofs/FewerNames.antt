-- A list that is legal if few names are known is legal if more are, and carries the same updates.
use Rattle.std.proofs.Common.{◌≡◌, arith, ℕ, zero, suc, ◌-◌, true, List, [], ◌∷◌, ◌++◌, Option, Some, None, refl, sym, ap, ◌∙◌, subst}
use Rattle.std.specs.Prelude.{filter, length, replicate, slice_index_or, slice_set}
use Rattle.std.specs.List.{AllByRecursion}
use Rattle.dict_slots.specs.Slots.{no_names, slot_at}
use Rattle.table_types.specs.SlotIds.{slot_count}
use Rattle.table_types.specs.Tables.{Definition}
use Rattle.table_types.specs.declared.update.Update.{Update}
use Rattle.peers_msg.specs.declared.name_field.NameField.{NameField}
use Rattle.peers_msg.specs.declared.name_field.NameField.TheVariants as names
use Rattle.peers_msg.specs.declared.message.Message.{Message}
use Rattle.peers_msg.specs.declared.message.Message.TheVariants as messages
use Rattle.peers_msg.specs.Received.{Received, received_after}
use Rattle.peers_msg.specs.Fitting.{fits}
use Rattle.known_state.specs.State.{State, Named, Step, Teaches, IsOwn, Legal, last_numbers_after, resolved_number}
use Rattle.known_state.specs.LastNumbers.{keeps_last, last_of, set_last}
use Rattle.table_types.specs.Rosters.{table_at}
use Rattle.known_state.specs.Known.{KnownState, without_names}
use Rattle.known_state.specs.FewerNames.{Holds, HoldAll, LacksNames}

-- a name that is known to be at an index is there
known_at : (known held : List (Option (List ℕ))) (index : ℕ) (name : List ℕ) → HoldAll known held → slice_index_or known index None ≡ Some name → slice_index_or held index None ≡ Some name
known_at [] held index name all e = cc
known_at (k ∷ known) [] index name all e = absurd all
known_at (None ∷ known) (h ∷ held) zero name all e = cc
known_at (Some other ∷ known) (h ∷ held) zero name all e = all.0 ∙ e
known_at (k ∷ known) (h ∷ held) (suc index) name all e = known_at known held index name all.1 e

-- a write keeps it so
known_set : (known held : List (Option (List ℕ))) (index : ℕ) (name : List ℕ) → HoldAll known held → HoldAll (slice_set known index (Some name)) (slice_set held index (Some name))
known_set [] [] index name all = tt
known_set [] (h ∷ held) index name all = absurd all
known_set (k ∷ known) [] index name all = absurd all
known_set (k ∷ known) (h ∷ held) zero name all = (refl, all.1)
known_set (k ∷ known) (h ∷ held) (suc index) name all = (all.0, known_set known held index name all.1)

none_known : (n : ℕ) (held : List (Option (List ℕ))) → length held ≡ n → HoldAll (replicate n None) held
none_known zero [] is = tt
none_known zero (h ∷ held) is = cc
none_known (suc n) [] is = cc
none_known (suc n) (h ∷ held) is = (tt, none_known n held (omega (arith, is)))

-- a field names an update as before
named_alike : (known held after : List (Option (List ℕ))) (field : NameField) (name : Option (List ℕ)) → HoldAll known held → Named known field name after → (end : List (Option (List ℕ))) × Named held field name end × HoldAll after end
named_alike known held after names.NotStored name all named = (held, (named.0, refl), subst (λ (slots : List (Option (List ℕ))). HoldAll slots held) (sym named.1) all)
named_alike known held after names.NoName name all named = (held, (named.0, refl), subst (λ (slots : List (Option (List ℕ))). HoldAll slots held) (sym named.1) all)
named_alike known held after (names.Written slot bytes) name all named = (
  slice_set held (slot - 1) (Some bytes),
  (named.0, refl),
  subst (λ (slots : List (Option (List ℕ))). HoldAll slots (slice_set held (slot - 1) (Some bytes))) (sym named.1) (known_set known held (slot - 1) bytes all),
)
named_alike known held after (names.Held slot) name all named = (
  held,
  (named.0, known_at known held (slot - 1) named.0 all named.1, named.2, refl),
  subst (λ (slots : List (Option (List ℕ))). HoldAll slots held) (sym named.3) all,
)

-- a message that isn't an update leaves the names
other_alike : (known s after : State) (m : Message) (us : List Update) → LacksNames known s →
    (fits known.received m ≡ true) × (us ≡ []) × (after ≡ record { received = received_after known.received m; last_numbers = last_numbers_after known m; slots = known.slots }) →
    last_numbers_after known m ≡ last_numbers_after s m →
    (e : State) × ((fits s.received m ≡ true) × (us ≡ []) × (e ≡ record { received = received_after s.received m; last_numbers = last_numbers_after s m; slots = s.slots })) × LacksNames after e
other_alike known s after m us lacks step numbers = (
  record { received = received_after s.received m; last_numbers = last_numbers_after s m; slots = s.slots },
  (subst (λ (r : Received). fits r m ≡ true) lacks.0 step.0, step.1, refl),
  (
    ap (λ (a : State). a.received) step.2 ∙ ap (λ (r : Received). received_after r m) lacks.0,
    ap (λ (a : State). a.last_numbers) step.2 ∙ numbers,
    subst (λ (slots : List (Option (List ℕ))). HoldAll slots s.slots) (sym (ap (λ (a : State). a.slots) step.2)) lacks.2,
  ),
)

step_alike : (known s after : State) (m : Message) (us : List Update) → LacksNames known s → Step known m us after → (e : State) × Step s m us e × LacksNames after e
step_alike known s after (messages.Update u) us lacks step =
    let named = named_alike known.slots s.slots after.slots u.name step.5 lacks.2 step.6 in
    let number : resolved_number u.number (last_of s.last_numbers step.1) ≡ _ = subst (λ (ls : List (ℕ × ℕ)). resolved_number u.number (last_of ls step.1) ≡ Some step.3) lacks.1 step.4 in (
      record { received = s.received; last_numbers = set_last step.1 step.3 s.last_numbers; slots = named.0 },
      (
        subst (λ (r : Received). fits r (messages.Update u) ≡ true) lacks.0 step.0,
        step.1,
        subst (λ (r : Received). r.selected ≡ Some step.1) lacks.0 step.2,
        step.3,
        number,
        step.5,
        named.1,
        step.7,
        refl,
        refl,
      ),
      (step.8 ∙ lacks.0, step.9 ∙ ap (λ (ls : List (ℕ × ℕ)). set_last step.1 step.3 ls) lacks.1, named.2),
    )
step_alike known s after (messages.Control c) us lacks step = other_alike known s after (messages.Control c) us lacks step lacks.1
step_alike known s after (messages.Error e) us lacks step = other_alike known s after (messages.Error e) us lacks step lacks.1
step_alike known s after (messages.Define d) us lacks step =
    other_alike known s after (messages.Define d) us lacks step
    (ap (λ (r : Received). filter (λ l. keeps_last d (table_at r.tables l.0) l.0) known.last_numbers) lacks.0
    ∙ ap (λ (ls : List (ℕ × ℕ)). filter (λ l. keeps_last d (table_at s.received.tables l.0) l.0) ls) lacks.1)
step_alike known s after (messages.Switch id) us lacks step = other_alike known s after (messages.Switch id) us lacks step lacks.1
step_alike known s after (messages.Ack table number) us lacks step = other_alike known s after (messages.Ack table number) us lacks step lacks.1
step_alike known s after (messages.Other o) us lacks step = other_alike known s after (messages.Other o) us lacks step lacks.1

teaches_alike : (known s after : State) (ms : List Message) (us : List Update) → LacksNames known s → Teaches known ms us after → (e : State) × Teaches s ms us e × LacksNames after e
teaches_alike known s after [] us lacks taught = (s, (taught.0, refl), subst (λ (k : State). LacksNames k s) (sym taught.1) lacks)
teaches_alike known s after (m ∷ ms) us lacks taught =
    let first = step_alike known s taught.2 m taught.0 lacks taught.4 in
    let rest = teaches_alike taught.2 first.0 after ms taught.1 first.2 taught.5 in
    (rest.0, (taught.0, taught.1, first.0, taught.3, first.1, rest.1), rest.2)

pub legal_alike : (roster : List Definition) (known s after : State) (ms : List Message) (us : List Update) → LacksNames known s → Legal roster known ms us after → (e : State) × Legal roster s ms us e × LacksNames after e
legal_alike roster known s after ms us lacks legal =
    let taught = teaches_alike known s after ms us lacks legal.1 in
    (taught.0, (legal.0, taught.1), taught.2)

pub forgotten_alike : (k : KnownState) → length k.state.slots ≡ slot_count → LacksNames (without_names k).state k.state
forgotten_alike k is = (refl, refl, none_known slot_count k.state.slots is)
