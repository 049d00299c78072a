-- The bytes of a message read are its spelling, and the message fits what was received.
use Rattle.std.proofs.Common.{◌≡◌, ℕ, suc, ◌+◌, ◌-◌, ◌*◌, ◌^◌, ◌<◌, ◌≤◌, Bool, true, false, not, cond, ltb, leb, eqb, List, [], ◌∷◌, ◌++◌, length, take, drop, Option, Some, None, Result, Ok, Err, refl, sym, ap, subst, ◌∙◌, append_assoc, arith, inl, inr}
use Rattle.std.specs.Prelude.{is_some}
use Rattle.std.specs.List.{flat_map, list_all}
use Rattle.std.proofs.lemmas.Bool.{cases_lt, ltb-true, ltb-false, eqb-true, eqb-false, lt-ltb, le-leb, lt-leb, and_from}
use Rattle.std.proofs.lemmas.List.{drop_at, take-append-drop, length-append, length-take-le, append-nil, nil_from_length}
use Rattle.peers_encint.specs.declared.reading.Read.{Read}
use Rattle.peers_encint.specs.declared.reading.Read.TheVariants.{Value, Short, Over}
use Rattle.peers_encint.specs.Integers.{spelling, read_of, IsBytes}
use Rattle.peers_encint.proofs.ReadAsSpelled.{takes}
use Rattle.table_types.specs.declared.data_type.DataType.{DataType}
use Rattle.table_types.specs.declared.key.KeyKind.{KeyKind}
use Rattle.table_types.specs.Names.{is_name}
use Rattle.table_types.specs.Keys.{number_of, kind_at, fits_length}
use Rattle.table_types.proofs.KindRoundTrip.{kind_numbered}
use Rattle.table_types.specs.DataTypes.{all_types}
use Rattle.table_types.specs.Tables.{Definition, is_id, is_definition, has_its_period, rise_from}
use Rattle.table_types.specs.Updates.{stores_name}
use Rattle.table_types.specs.Rosters.{table_at}
use Rattle.peers_msg.specs.declared.control.Control.TheVariants as controls
use Rattle.peers_msg.specs.declared.control.ErrorKind.TheVariants as errors
use Rattle.peers_msg.specs.declared.message.Message.{Message}
use Rattle.peers_msg.specs.declared.message.Message.TheVariants as messages
use Rattle.peers_msg.specs.declared.meaning.Meaning.{Meaning}
use Rattle.peers_msg.specs.declared.meaning.Meaning.TheVariants as meanings
use Rattle.peers_msg.specs.declared.fault.Breach.{Breach}
use Rattle.peers_msg.specs.declared.fault.Breach.TheVariants.{BadInteger, BadDefinition, NoTable, UnknownDataType, SizeLimit, Trailing}
use Rattle.peers_msg.specs.Messages.{UpdateFields, OtherFields, is_known_pair, most_data}
use Rattle.peers_msg.specs.Received.{Received, selected_table}
use Rattle.peers_msg.specs.Spelling.{word, optional_word, counted, key_text, value_text, name_text, update_text, update_type, bits_of, period_text, definition_text, control_type, error_type, data_of, spelled}
use Rattle.peers_msg.specs.Fitting.{update_fits, has_shape, fits}
use Rattle.peers_msg.specs.Reading.{integer_at, word_at, bytes_at, ended, optional_at, key_at, values_at, name_at, update_at, kind_of, known_kind, types_at, named_at, keyed_at, stored_at, definition_at, switch_at, ack_at, update_of, control_meant, error_meant, table_meant, meant, message_of, body_at, Frame, whole_data, data_from, data_at, frame_with, frame_at, message_in, message_at}
use Rattle.peers_msg.proofs.FieldRoundTrip.{is_there}
use Rattle.peers_msg.proofs.TypeRoundTrip.{all_are}
use Rattle.peers_msg.proofs.MessageRoundTrip.{frame_of, control_below, error_below, update_has_data}
use Rattle.peers_msg.proofs.FieldCanonical.{IsBytes-drop, IsBytes-take, Takes, Takes-then, bind_ok, wanted_ok, ok_is, chosen, integer_takes, word_takes, bytes_take, optional_takes, key_takes, values_take, name_takes}
use Rattle.peers_msg.proofs.TypeCanonical.{types_take}

-- a complete result
abbrev read_whole : {A : Type 0} → A → Result (Option A) Breach
read_whole x = Ok (Some x)

some_is : {A : Type 0} (x y : A) → read_whole x ≡ read_whole y → x ≡ y
some_is x y e = cc

-- the data ended with their last field
ended_ok : {A : Type 0} (x y : A) (rest : List ℕ) → ended x rest ≡ Ok y → (rest ≡ []) × (x ≡ y)
ended_ok x y rest e =
    elim (chosen (eqb (length rest) 0) (Ok x) (Err Trailing) (Ok y) e) [
      | inl c ↦ (nil_from_length rest (eqb-true _ _ c.0), ok_is x y c.1)
      | inr c ↦ let wrong = c.1 in absurd cc
    ]

-- all the bytes were taken
all_taken : (bytes text rest : List ℕ) → Takes bytes text rest → rest ≡ [] → bytes ≡ text
all_taken bytes text rest t e = t.parts ∙ ap (λ (x : List ℕ). text ++ x) e ∙ append-nil text

-- ---- updates

abbrev IsUpdate : Definition → Bool → Bool → List ℕ → UpdateFields → Type 0
IsUpdate d numbered timed bytes u = (bytes ≡ update_text u) × (update_fits d u ≡ true) × (is_there u.number ≡ numbered) × (is_there u.life ≡ timed)

pub update_takes : (d : Definition) (numbered timed : Bool) (bytes : List ℕ) (u : UpdateFields) → IsBytes bytes → update_at d numbered timed bytes ≡ Ok u → IsUpdate d numbered timed bytes u
unfolding update_at
update_takes d numbered timed bytes u fits e =
    let number = bind_ok (optional_at numbered bytes) _ _ e in
    let life = bind_ok (optional_at timed number.0.1) _ _ number.2 in
    let key = bind_ok (key_at d.kind d.key_length life.0.1) _ _ life.2 in
    let row = bind_ok (values_at d.types key.0.1) _ _ key.2 in
    let name = bind_ok (name_at (stores_name d) row.0.1) _ _ row.2 in
    let t0 = optional_takes numbered bytes number.0 fits number.1 in
    let t1 = optional_takes timed number.0.1 life.0 t0.0.fits life.1 in
    let t2 = key_takes d.kind d.key_length life.0.1 key.0 t1.0.fits key.1 in
    let t3 = values_take d.types key.0.1 row.0 t2.0.fits row.1 in
    let t4 = name_takes d (stores_name d) row.0.1 name.0 refl t3.0.fits name.1 in
    let e34 = Takes-then key.0.1 (flat_map value_text row.0.0) row.0.1 (name_text name.0.0) name.0.1 t3.0 t4.0 in
    let e24 = Takes-then life.0.1 (key_text key.0.0) key.0.1 (flat_map value_text row.0.0 ++ name_text name.0.0) name.0.1 t2.0 e34 in
    let e14 = Takes-then number.0.1 (optional_word life.0.0) life.0.1 (key_text key.0.0 ++ (flat_map value_text row.0.0 ++ name_text name.0.0)) name.0.1 t1.0 e24 in
    let e04 = Takes-then bytes (optional_word number.0.0) number.0.1 (optional_word life.0.0 ++ (key_text key.0.0 ++ (flat_map value_text row.0.0 ++ name_text name.0.0))) name.0.1 t0.0 e14 in
    let made : UpdateFields = record { number = number.0.0; life = life.0.0; key = key.0.0; values = row.0.0; name = name.0.0 } in
    let end = ended_ok made u name.0.1 name.2 in
    let all : bytes ≡ update_text made = all_taken bytes (update_text made) name.0.1 e04 end.0 in
    let good : update_fits d made ≡ true = and_from _ _ (and_from _ _ (and_from _ _ t0.1 t1.1) (and_from _ _ t2.1 t3.1)) t4.1 in
    subst (IsUpdate d numbered timed bytes) end.1 (all, good, t0.2, t1.2)

-- ---- definitions, switches and acknowledgements

kind_takes : (n : ℕ) (kind : KeyKind) → kind_of n ≡ Ok kind → n ≡ number_of kind
kind_takes n kind e = by (kind_at n) refl e
  where
    by : (k : Option KeyKind) → kind_at n ≡ k → known_kind k ≡ Ok kind → n ≡ number_of kind
    by None is e = absurd cc
    by (Some k) is e = kind_numbered n k is ∙ ap number_of (ok_is k kind e)

all_bits : (sum bits : ℕ) → sum ≡ 2 ^ 0 * bits → bits ≡ sum
all_bits sum bits e = omega arith

abbrev IsNamed : List ℕ → (ℕ × List ℕ) × List ℕ → Type 0
IsNamed bytes x = Takes bytes (spelling x.0.0 ++ counted x.0.1) x.1 × (is_id x.0.0 ≡ true) × (is_name x.0.1 ≡ true)

named_takes : (bytes : List ℕ) (x : (ℕ × List ℕ) × List ℕ) → IsBytes bytes → named_at bytes ≡ Ok x → IsNamed bytes x
unfolding named_at
named_takes bytes x good e =
    let id = bind_ok (integer_at BadDefinition bytes) _ _ e in
    let id_ok = wanted_ok (is_id id.0.0) BadDefinition _ _ id.2 in
    let size = bind_ok (integer_at BadDefinition id.0.1) _ _ id_ok.1 in
    let name = bind_ok (bytes_at BadDefinition size.0.0 size.0.1) _ _ size.2 in
    let name_ok = wanted_ok (is_name name.0.0) BadDefinition _ _ name.2 in
    let t0 = integer_takes BadDefinition bytes id.0 good id.1 in
    let t1 = integer_takes BadDefinition id.0.1 size.0 t0.0.fits size.1 in
    let t2 = bytes_take BadDefinition size.0.0 size.0.1 name.0 t1.0.fits name.1 in
    let both = Takes-then id.0.1 (spelling size.0.0) size.0.1 name.0.0 name.0.1 t1.0 t2.0 in
    let named : Takes id.0.1 (counted name.0.0) name.0.1 = subst (λ (n : ℕ). Takes id.0.1 (spelling n ++ name.0.0) name.0.1) (sym t2.1) both in
    let all = Takes-then bytes (spelling id.0.0) id.0.1 (counted name.0.0) name.0.1 t0.0 named in
    let found : (ℕ × List ℕ) × List ℕ = ((id.0.0, name.0.0), name.0.1) in
    subst (IsNamed bytes) (ok_is found x name_ok.1) (all, id_ok.0, name_ok.0)

abbrev IsKeyed : List ℕ → (KeyKind × ℕ) × List ℕ → Type 0
IsKeyed bytes x = Takes bytes (spelling (number_of x.0.0) ++ spelling x.0.1) x.1 × (fits_length x.0.0 x.0.1 ≡ true)

keyed_takes : (bytes : List ℕ) (x : (KeyKind × ℕ) × List ℕ) → IsBytes bytes → keyed_at bytes ≡ Ok x → IsKeyed bytes x
unfolding keyed_at
keyed_takes bytes x good e =
    let number = bind_ok (integer_at BadDefinition bytes) _ _ e in
    let kind = bind_ok (kind_of number.0.0) _ _ number.2 in
    let key_length = bind_ok (integer_at BadDefinition number.0.1) _ _ kind.2 in
    let ok = wanted_ok (fits_length kind.0 key_length.0.0) BadDefinition _ _ key_length.2 in
    let t0 = integer_takes BadDefinition bytes number.0 good number.1 in
    let t1 = integer_takes BadDefinition number.0.1 key_length.0 t0.0.fits key_length.1 in
    let first : Takes bytes (spelling (number_of kind.0)) number.0.1 = subst (λ (n : ℕ). Takes bytes (spelling n) number.0.1) (kind_takes number.0.0 kind.0 kind.1) t0.0 in
    let all = Takes-then bytes (spelling (number_of kind.0)) number.0.1 (spelling key_length.0.0) key_length.0.1 first t1.0 in
    let found : (KeyKind × ℕ) × List ℕ = ((kind.0, key_length.0.0), key_length.0.1) in
    subst (IsKeyed bytes) (ok_is found x ok.1) (all, ok.0)

abbrev IsStored : List ℕ → (ℕ × List (DataType × Option ℕ)) × List ℕ → Type 0
IsStored bytes x =
    Takes bytes (spelling (bits_of x.0.1) ++ (spelling x.0.0 ++ flat_map period_text x.0.1)) x.1
    × (ltb x.0.0 (2 ^ 32) ≡ true)
    × (list_all has_its_period x.0.1 ≡ true)
    × (rise_from 0 x.0.1 ≡ true)

stored_takes : (bytes : List ℕ) (x : (ℕ × List (DataType × Option ℕ)) × List ℕ) → IsBytes bytes → stored_at bytes ≡ Ok x → IsStored bytes x
unfolding stored_at
stored_takes bytes x good e =
    let bits = bind_ok (integer_at BadDefinition bytes) _ _ e in
    let bits_ok = wanted_ok (ltb bits.0.0 (2 ^ 20)) UnknownDataType _ _ bits.2 in
    let expire = bind_ok (integer_at BadDefinition bits.0.1) _ _ bits_ok.1 in
    let expire_ok = wanted_ok (ltb expire.0.0 (2 ^ 32)) BadDefinition _ _ expire.2 in
    let types = bind_ok (types_at all_types bits.0.0 expire.0.1) _ _ expire_ok.1 in
    let t0 = integer_takes BadDefinition bytes bits.0 good bits.1 in
    let t1 = integer_takes BadDefinition bits.0.1 expire.0 t0.0.fits expire.1 in
    let t2 = types_take 0 all_types bits.0.0 expire.0.1 types.0 all_are (ltb-true _ _ bits_ok.0) t1.0.fits types.1 in
    let sum : bits.0.0 ≡ bits_of types.0.0 = all_bits (bits_of types.0.0) bits.0.0 t2.1 in
    let first : Takes bytes (spelling (bits_of types.0.0)) bits.0.1 = subst (λ (n : ℕ). Takes bytes (spelling n) bits.0.1) sum t0.0 in
    let later = Takes-then bits.0.1 (spelling expire.0.0) expire.0.1 (flat_map period_text types.0.0) types.0.1 t1.0 t2.0 in
    let all = Takes-then bytes (spelling (bits_of types.0.0)) bits.0.1 (spelling expire.0.0 ++ flat_map period_text types.0.0) types.0.1 first later in
    let found : (ℕ × List (DataType × Option ℕ)) × List ℕ = ((expire.0.0, types.0.0), types.0.1) in
    subst (IsStored bytes) (ok_is found x types.2) (all, expire_ok.0, t2.2, t2.3)

regrouped : (id name_text kind l bits expire periods : List ℕ) → (id ++ name_text) ++ ((kind ++ l) ++ (bits ++ (expire ++ periods))) ≡ id ++ (name_text ++ (kind ++ (l ++ (bits ++ (expire ++ periods)))))
regrouped id name_text kind l bits expire periods = simp append_assoc

abbrev IsDefinition : List ℕ → Definition → Type 0
IsDefinition bytes d = (bytes ≡ definition_text d) × (is_definition d ≡ true)

pub definition_takes : (bytes : List ℕ) (d : Definition) → IsBytes bytes → definition_at bytes ≡ Ok d → IsDefinition bytes d
unfolding definition_at
definition_takes bytes d good e =
    let named = bind_ok (named_at bytes) _ _ e in
    let keyed = bind_ok (keyed_at named.0.1) _ _ named.2 in
    let stored = bind_ok (stored_at keyed.0.1) _ _ keyed.2 in
    let t0 = named_takes bytes named.0 good named.1 in
    let t1 = keyed_takes named.0.1 keyed.0 t0.0.fits keyed.1 in
    let t2 = stored_takes keyed.0.1 stored.0 t1.0.fits stored.1 in
    let text0 : List ℕ = spelling named.0.0.0 ++ counted named.0.0.1 in
    let text1 : List ℕ = spelling (number_of keyed.0.0.0) ++ spelling keyed.0.0.1 in
    let text2 : List ℕ = spelling (bits_of stored.0.0.1) ++ (spelling stored.0.0.0 ++ flat_map period_text stored.0.0.1) in
    let e12 = Takes-then named.0.1 text1 keyed.0.1 text2 stored.0.1 t1.0 t2.0 in
    let e02 = Takes-then bytes text0 named.0.1 (text1 ++ text2) stored.0.1 t0.0 e12 in
    let made : Definition = record { id = named.0.0.0; name = named.0.0.1; kind = keyed.0.0.0; key_length = keyed.0.0.1; expire = stored.0.0.0; types = stored.0.0.1 } in
    let end = ended_ok made d stored.0.1 stored.2 in
    let all : bytes ≡ definition_text made =
    all_taken bytes (text0 ++ (text1 ++ text2)) stored.0.1 e02 end.0
    ∙ regrouped (spelling named.0.0.0) (counted named.0.0.1) (spelling (number_of keyed.0.0.0)) (spelling keyed.0.0.1) (spelling (bits_of stored.0.0.1)) (spelling stored.0.0.0) (flat_map period_text stored.0.0.1)
    in
    let whole : is_definition made ≡ true = and_from _ _ (and_from _ _ (and_from _ _ (and_from _ _ (and_from _ _ t0.1 t0.2) t1.1) t2.1) t2.2) t2.3 in
    subst (IsDefinition bytes) end.1 (all, whole)

pub switch_takes : (h : Received) (bytes : List ℕ) (m : Message) → IsBytes bytes → switch_at h bytes ≡ Ok m → (id : ℕ) × (m ≡ messages.Switch id) × (bytes ≡ spelling id) × (has_shape h (messages.Switch id) ≡ true)
unfolding switch_at
switch_takes h bytes m fits e =
    let id = bind_ok (integer_at BadInteger bytes) _ _ e in
    let ok = wanted_ok (is_some (table_at h.tables id.0.0)) NoTable _ _ id.2 in
    let t = integer_takes BadInteger bytes id.0 fits id.1 in
    let end = ended_ok (messages.Switch id.0.0) m id.0.1 ok.1 in
    (id.0.0, sym end.1, all_taken bytes (spelling id.0.0) id.0.1 t.0 end.0, and_from _ _ (lt-ltb _ _ t.1) ok.0)

pub ack_takes : (bytes : List ℕ) (m : Message) → IsBytes bytes → ack_at bytes ≡ Ok m → (table : ℕ) × (number : ℕ) × (m ≡ messages.Ack table number) × (bytes ≡ spelling table ++ word number) × (table < 2 ^ 64) × (number < 2 ^ 32)
unfolding ack_at
ack_takes bytes m fits e =
    let table = bind_ok (integer_at BadInteger bytes) _ _ e in
    let number = bind_ok (word_at BadInteger table.0.1) _ _ table.2 in
    let t0 = integer_takes BadInteger bytes table.0 fits table.1 in
    let t1 = word_takes BadInteger table.0.1 number.0 t0.0.fits number.1 in
    let both = Takes-then bytes (spelling table.0.0) table.0.1 (word number.0.0) number.0.1 t0.0 t1.0 in
    let end = ended_ok (messages.Ack table.0.0 number.0.0) m number.0.1 number.2 in
    (table.0.0, number.0.0, sym end.1, all_taken bytes (spelling table.0.0 ++ word number.0.0) number.0.1 both end.0, t0.1, t1.1)

-- ---- pairs of class and type

-- the type of an update, with or without a number and a life
abbrev pub type_of_update : Bool → Bool → ℕ
type_of_update true false = 128
type_of_update false false = 129
type_of_update true true = 133
type_of_update false true = 134

-- the pairs that have a meaning
abbrev pub IsPair : Meaning → ℕ → ℕ → Type 0
IsPair (meanings.Control c) class message_type = (class ≡ 0) × (message_type ≡ control_type c)
IsPair (meanings.Error e) class message_type = (class ≡ 1) × (message_type ≡ error_type e)
IsPair meanings.Define class message_type = (class ≡ 10) × (message_type ≡ 130)
IsPair meanings.Switch class message_type = (class ≡ 10) × (message_type ≡ 131)
IsPair meanings.Ack class message_type = (class ≡ 10) × (message_type ≡ 132)
IsPair (meanings.Update numbered timed) class message_type = (class ≡ 10) × (message_type ≡ type_of_update numbered timed)
IsPair meanings.Other class message_type = is_known_pair class message_type ≡ false

control_pair : (message_type : ℕ) (mean : Meaning) → control_meant message_type ≡ mean → IsPair mean 0 message_type
control_pair message_type mean e =
    elim (chosen (eqb message_type 0) (meanings.Control controls.ResyncRequest) _ mean e) [
      | inl c ↦ subst (λ (m : Meaning). IsPair m 0 message_type) c.1 (refl, eqb-true message_type 0 c.0)
      | inr c0 ↦ elim (chosen (eqb message_type 1) (meanings.Control controls.ResyncFinished) _ mean c0.1) [
        | inl c ↦ subst (λ (m : Meaning). IsPair m 0 message_type) c.1 (refl, eqb-true message_type 1 c.0)
        | inr c1 ↦ elim (chosen (eqb message_type 2) (meanings.Control controls.ResyncPartial) _ mean c1.1) [
          | inl c ↦ subst (λ (m : Meaning). IsPair m 0 message_type) c.1 (refl, eqb-true message_type 2 c.0)
          | inr c2 ↦ elim (chosen (eqb message_type 3) (meanings.Control controls.ResyncConfirmed) _ mean c2.1) [
            | inl c ↦ subst (λ (m : Meaning). IsPair m 0 message_type) c.1 (refl, eqb-true message_type 3 c.0)
            | inr c3 ↦ elim (chosen (eqb message_type 4) (meanings.Control controls.Heartbeat) meanings.Other mean c3.1) [
              | inl c ↦ subst (λ (m : Meaning). IsPair m 0 message_type) c.1 (refl, eqb-true message_type 4 c.0)
              | inr c4 ↦
                  let above : 4 < message_type = omega (arith, eqb-false message_type 0 c0.0, eqb-false message_type 1 c1.0, eqb-false message_type 2 c2.0, eqb-false message_type 3 c3.0, eqb-false message_type 4 c4.0) in
                  let unknown : is_known_pair 0 message_type ≡ false = rw (lt-leb message_type 4 above) refl in
                  subst (λ (m : Meaning). IsPair m 0 message_type) c4.1 unknown
            ]
          ]
        ]
      ]
    ]

error_pair : (message_type : ℕ) (mean : Meaning) → error_meant message_type ≡ mean → IsPair mean 1 message_type
error_pair message_type mean e =
    elim (chosen (eqb message_type 0) (meanings.Error errors.Protocol) _ mean e) [
      | inl c ↦ subst (λ (m : Meaning). IsPair m 1 message_type) c.1 (refl, eqb-true message_type 0 c.0)
      | inr c0 ↦ elim (chosen (eqb message_type 1) (meanings.Error errors.SizeLimit) meanings.Other mean c0.1) [
        | inl c ↦ subst (λ (m : Meaning). IsPair m 1 message_type) c.1 (refl, eqb-true message_type 1 c.0)
        | inr c1 ↦
            let above : 1 < message_type = omega (arith, eqb-false message_type 0 c0.0, eqb-false message_type 1 c1.0) in
            let unknown : is_known_pair 1 message_type ≡ false = rw (lt-leb message_type 1 above) refl in
            subst (λ (m : Meaning). IsPair m 1 message_type) c1.1 unknown
      ]
    ]

no_table_pair : (message_type : ℕ) → (128 ≤ message_type → message_type ≤ 134 → ⊥) → is_known_pair 10 message_type ≡ false
no_table_pair message_type h =
    elim (cases_lt message_type 128) [
      | inl low ↦ rw (lt-leb 128 message_type low) refl
      | inr high ↦ elim (cases_lt 134 message_type) [
        | inl above ↦ rw (lt-leb message_type 134 above, le-leb 128 message_type high) refl
        | inr within ↦ absurd (h high within)
      ]
    ]

table_pair : (message_type : ℕ) (mean : Meaning) → table_meant message_type ≡ mean → IsPair mean 10 message_type
table_pair message_type mean e =
    elim (chosen (eqb message_type 128) (meanings.Update true false) _ mean e) [
      | inl c ↦ subst (λ (m : Meaning). IsPair m 10 message_type) c.1 (refl, eqb-true message_type 128 c.0)
      | inr c0 ↦ elim (chosen (eqb message_type 129) (meanings.Update false false) _ mean c0.1) [
        | inl c ↦ subst (λ (m : Meaning). IsPair m 10 message_type) c.1 (refl, eqb-true message_type 129 c.0)
        | inr c1 ↦ elim (chosen (eqb message_type 130) meanings.Define _ mean c1.1) [
          | inl c ↦ subst (λ (m : Meaning). IsPair m 10 message_type) c.1 (refl, eqb-true message_type 130 c.0)
          | inr c2 ↦ elim (chosen (eqb message_type 131) meanings.Switch _ mean c2.1) [
            | inl c ↦ subst (λ (m : Meaning). IsPair m 10 message_type) c.1 (refl, eqb-true message_type 131 c.0)
            | inr c3 ↦ elim (chosen (eqb message_type 132) meanings.Ack _ mean c3.1) [
              | inl c ↦ subst (λ (m : Meaning). IsPair m 10 message_type) c.1 (refl, eqb-true message_type 132 c.0)
              | inr c4 ↦ elim (chosen (eqb message_type 133) (meanings.Update true true) _ mean c4.1) [
                | inl c ↦ subst (λ (m : Meaning). IsPair m 10 message_type) c.1 (refl, eqb-true message_type 133 c.0)
                | inr c5 ↦ elim (chosen (eqb message_type 134) (meanings.Update false true) meanings.Other mean c5.1) [
                  | inl c ↦ subst (λ (m : Meaning). IsPair m 10 message_type) c.1 (refl, eqb-true message_type 134 c.0)
                  | inr c6 ↦
                      let outside : 128 ≤ message_type → message_type ≤ 134 → ⊥ = λ low high. omega (arith, eqb-false message_type 128 c0.0, eqb-false message_type 129 c1.0, eqb-false message_type 130 c2.0, eqb-false message_type 131 c3.0, eqb-false message_type 132 c4.0, eqb-false message_type 133 c5.0, eqb-false message_type 134 c6.0) in
                      subst (λ (m : Meaning). IsPair m 10 message_type) c6.1 (no_table_pair message_type outside)
                ]
              ]
            ]
          ]
        ]
      ]
    ]

pub meant_pair : (class message_type : ℕ) (mean : Meaning) → meant class message_type ≡ mean → IsPair mean class message_type
unfolding meant
meant_pair class message_type mean e =
    elim (chosen (eqb class 0) (control_meant message_type) _ mean e) [
      | inl c ↦ subst (λ (n : ℕ). IsPair mean n message_type) (sym (eqb-true class 0 c.0)) (control_pair message_type mean c.1)
      | inr c0 ↦ elim (chosen (eqb class 1) (error_meant message_type) _ mean c0.1) [
        | inl c ↦ subst (λ (n : ℕ). IsPair mean n message_type) (sym (eqb-true class 1 c.0)) (error_pair message_type mean c.1)
        | inr c1 ↦ elim (chosen (eqb class 10) (table_meant message_type) meanings.Other mean c1.1) [
          | inl c ↦ subst (λ (n : ℕ). IsPair mean n message_type) (sym (eqb-true class 10 c.0)) (table_pair message_type mean c.1)
          | inr c2 ↦
              let unknown : is_known_pair class message_type ≡ false = rw (c0.0, c1.0, c2.0) refl in
              subst (λ (m : Meaning). IsPair m class message_type) c2.1 unknown
        ]
      ]
    ]

pub update_type_is : (u : UpdateFields) (number life : Option ℕ) → u.number ≡ number → u.life ≡ life → update_type u ≡ type_of_update (is_there number) (is_there life)
update_type_is u (Some number) None p q = rw (p, q) refl
update_type_is u None None p q = rw (p, q) refl
update_type_is u (Some number) (Some life) p q = rw (p, q) refl
update_type_is u None (Some life) p q = rw (p, q) refl

-- ---- frames

-- what follows class and type
abbrev pub data_text : ℕ → List ℕ → List ℕ
data_text message_type body = cond (ltb message_type 128) [] (counted body)

-- whether a type can have these data: none if it is below 128
abbrev pub has_size : ℕ → List ℕ → Bool
has_size message_type body = cond (ltb message_type 128) (eqb (length body) 0) (leb (length body) most_data)

abbrev IsData : ℕ → List ℕ → List ℕ × List ℕ → Type 0
IsData message_type bytes y = (bytes ≡ data_text message_type y.0 ++ y.1) × IsBytes y.0 × (has_size message_type y.0 ≡ true) × (length y.0 ≤ most_data)

whole_takes : (message_type n used : ℕ) (bytes : List ℕ) (y : List ℕ × List ℕ) → ltb message_type 128 ≡ false → IsBytes bytes → bytes ≡ spelling n ++ drop used bytes → whole_data n (drop used bytes) ≡ Ok (Some y) → IsData message_type bytes y
whole_takes message_type n used bytes y high good parts e =
    let rest : List ℕ = drop used bytes in
    elim (chosen (ltb most_data n) (Err SizeLimit) _ (Ok (Some y)) e) [
      | inl c ↦ let wrong = c.1 in absurd cc
      | inr small ↦ elim (chosen (ltb (length rest) n) (Ok None) _ (Ok (Some y)) small.1) [
        | inl c ↦ let wrong = c.1 in absurd cc
        | inr long ↦
            let found : List ℕ × List ℕ = (take n rest, drop n rest) in
            let is : found ≡ y = some_is found y long.1 in
            let size : length (take n rest) ≡ n = length-take-le n rest (ltb-false _ _ long.0) in
            let short : length (take n rest) ≤ most_data = omega (arith, ltb-false most_data n small.0) in
            let split : bytes ≡ counted (take n rest) ++ drop n rest =
            parts
            ∙ ap (λ (x : List ℕ). spelling n ++ x) (sym (take-append-drop n rest))
            ∙ sym (append_assoc (spelling n) (take n rest) (drop n rest))
            ∙ ap (λ (k : ℕ). (spelling k ++ take n rest) ++ drop n rest) (sym size)
            in
            let taken : IsData message_type bytes found = (rw high split, IsBytes-take n rest (IsBytes-drop used bytes good), rw high (le-leb _ _ short), short) in
            subst (IsData message_type bytes) is taken
      ]
    ]

data_from_takes : (message_type : ℕ) (bytes : List ℕ) (r : Read) (y : List ℕ × List ℕ) → ltb message_type 128 ≡ false → IsBytes bytes → read_of bytes ≡ r → data_from bytes r ≡ Ok (Some y) → IsData message_type bytes y
data_from_takes message_type bytes (Value n used) y high good read e = whole_takes message_type n used bytes y high good (takes bytes n used good read).0 e
data_from_takes message_type bytes Short y high good read e = absurd cc
data_from_takes message_type bytes Over y high good read e = absurd cc

data_takes : (message_type : ℕ) (bytes : List ℕ) (y : List ℕ × List ℕ) → IsBytes bytes → data_at message_type bytes ≡ Ok (Some y) → IsData message_type bytes y
unfolding data_at
data_takes message_type bytes y good e =
    elim (chosen (ltb message_type 128) (Ok (Some ([], bytes))) _ (Ok (Some y)) e) [
      | inl low ↦
          let found : List ℕ × List ℕ = ([], bytes) in
          let taken : IsData message_type bytes found = (rw low.0 refl, λ i. omega arith, rw low.0 refl, omega arith) in
          subst (IsData message_type bytes) (some_is found y low.1) taken
      | inr high ↦ data_from_takes message_type bytes (read_of bytes) y high.0 good refl high.1
    ]

-- the bytes of class, type and data
abbrev pub frame_text : Frame → List ℕ
frame_text f = f.class ∷ (f.message_type ∷ data_text f.message_type f.body)

abbrev pub IsFrame : List ℕ → Frame × List ℕ → Type 0
IsFrame bytes x =
    (bytes ≡ frame_text x.0 ++ x.1)
    × IsBytes x.0.body
    × (has_size x.0.message_type x.0.body ≡ true)
    × (length x.0.body ≤ most_data)
    × (x.0.class < 256)
    × (x.0.message_type < 256)

frame_with_takes : (class message_type : ℕ) (bytes : List ℕ) (found : Option (List ℕ × List ℕ)) (x : Frame × List ℕ) → IsBytes (class ∷ (message_type ∷ bytes)) → data_at message_type bytes ≡ Ok found → frame_with class message_type found ≡ Some x → IsFrame (class ∷ (message_type ∷ bytes)) x
frame_with_takes class message_type bytes None x good read e = absurd cc
frame_with_takes class message_type bytes (Some y) x good read e =
    let taken = data_takes message_type bytes y (λ i. good (suc (suc i))) read in
    let found : Frame × List ℕ = (record { class = class; message_type = message_type; body = y.0 }, y.1) in
    let is : found ≡ x = cc in
    let all : IsFrame (class ∷ (message_type ∷ bytes)) found = (ap (λ (t : List ℕ). class ∷ (message_type ∷ t)) taken.0, taken.1, taken.2, taken.3, good 0, good 1) in
    subst (IsFrame (class ∷ (message_type ∷ bytes))) is all

pub frame_takes : (bytes : List ℕ) (x : Frame × List ℕ) → IsBytes bytes → frame_at bytes ≡ Ok (Some x) → IsFrame bytes x
unfolding frame_at
frame_takes [] x good e = absurd cc
frame_takes (class ∷ []) x good e = absurd cc
frame_takes (class ∷ (message_type ∷ bytes)) x good e =
    let found = bind_ok (data_at message_type bytes) _ _ e in
    frame_with_takes class message_type bytes found.0 x good found.1 (ok_is _ _ found.2)

-- ---- messages

same_frame : (a b : Frame) → a.class ≡ b.class → a.message_type ≡ b.message_type → a.body ≡ b.body → a ≡ b
same_frame a b p q r =
    ap (λ (n : ℕ). record { class = n; message_type = a.message_type; body = a.body }) p
    ∙ ap (λ (n : ℕ). record { class = b.class; message_type = n; body = a.body }) q
    ∙ ap (λ (x : List ℕ). record { class = b.class; message_type = b.message_type; body = x }) r

no_body : (message_type : ℕ) (body : List ℕ) → message_type < 128 → has_size message_type body ≡ true → body ≡ []
no_body message_type body low h =
    let none : eqb (length body) 0 ≡ true = rw (lt-ltb message_type 128 low) at h in
    nil_from_length body (eqb-true _ _ none)

-- the message has this class, type and data, and the shape and ranges
abbrev pub IsMessage : Received → Frame → Message → Type 0
IsMessage h f m = (frame_of m ≡ f) × (has_shape h m ≡ true)

update_of_takes : (h : Received) (f : Frame) (table : Option Definition) (numbered timed : Bool) (m : Message) → selected_table h ≡ table → f.class ≡ 10 → f.message_type ≡ type_of_update numbered timed → IsBytes f.body → update_of table numbered timed f.body ≡ Ok m → IsMessage h f m
update_of_takes h f None numbered timed m at p q good e = absurd cc
update_of_takes h f (Some d) numbered timed m at p q good e =
    let u = bind_ok (update_at d numbered timed f.body) _ _ e in
    let t = update_takes d numbered timed f.body u.0 good u.1 in
    let message_type : update_type u.0 ≡ f.message_type = update_type_is u.0 u.0.number u.0.life refl refl ∙ ap (λ (b : Bool). type_of_update b (is_there u.0.life)) t.2 ∙ ap (type_of_update numbered) t.3 ∙ sym q in
    let shape : has_shape h (messages.Update u.0) ≡ true = rw at t.1 in
    subst (IsMessage h f) (ok_is (messages.Update u.0) m u.2) (same_frame (frame_of (messages.Update u.0)) f (sym p) message_type (sym t.0), shape)

data_takes_message : (h : Received) (f : Frame) (mean : Meaning) (m : Message) → IsPair mean f.class f.message_type → IsBytes f.body → has_size f.message_type f.body ≡ true → f.class < 256 → f.message_type < 256 → message_of h mean f.class f.message_type f.body ≡ Ok m → IsMessage h f m
data_takes_message h f (meanings.Control c) m pair good size cl kl e =
    let empty : f.body ≡ [] = no_body f.message_type f.body (omega (arith, pair.1, control_below c)) size in
    subst (IsMessage h f) (ok_is (messages.Control c) m e) (same_frame (frame_of (messages.Control c)) f (sym pair.0) (sym pair.1) (sym empty), refl)
data_takes_message h f (meanings.Error r) m pair good size cl kl e =
    let empty : f.body ≡ [] = no_body f.message_type f.body (omega (arith, pair.1, error_below r)) size in
    subst (IsMessage h f) (ok_is (messages.Error r) m e) (same_frame (frame_of (messages.Error r)) f (sym pair.0) (sym pair.1) (sym empty), refl)
data_takes_message h f meanings.Define m pair good size cl kl e =
    let d = bind_ok (definition_at f.body) _ _ e in
    let t = definition_takes f.body d.0 good d.1 in
    subst (IsMessage h f) (ok_is (messages.Define d.0) m d.2) (same_frame (frame_of (messages.Define d.0)) f (sym pair.0) (sym pair.1) (sym t.0), t.1)
data_takes_message h f meanings.Switch m pair good size cl kl e =
    let t = switch_takes h f.body m good e in
    subst (IsMessage h f) (sym t.1) (same_frame (frame_of (messages.Switch t.0)) f (sym pair.0) (sym pair.1) (sym t.2), t.3)
data_takes_message h f meanings.Ack m pair good size cl kl e =
    let t = ack_takes f.body m good e in
    subst (IsMessage h f) (sym t.2) (same_frame (frame_of (messages.Ack t.0 t.1)) f (sym pair.0) (sym pair.1) (sym t.3), and_from _ _ (lt-ltb _ _ t.4) (lt-ltb _ _ t.5))
data_takes_message h f (meanings.Update numbered timed) m pair good size cl kl e =
    update_of_takes h f (selected_table h) numbered timed m refl pair.0 pair.1 good e
data_takes_message h f meanings.Other m pair good size cl kl e =
    let o : OtherFields = record { class = f.class; message_type = f.message_type; body = f.body } in
    let shape : has_shape h (messages.Other o) ≡ true = and_from _ _ (and_from _ _ (and_from _ _ (lt-ltb _ _ cl) (lt-ltb _ _ kl)) (ap not pair)) size in
    subst (IsMessage h f) (ok_is (messages.Other o) m e) (refl, shape)

pub body_takes : (h : Received) (f : Frame) (m : Message) → IsBytes f.body → has_size f.message_type f.body ≡ true → f.class < 256 → f.message_type < 256 → body_at h f.class f.message_type f.body ≡ Ok m → IsMessage h f m
unfolding body_at
body_takes h f m good size cl kl e = data_takes_message h f (meant f.class f.message_type) m (meant_pair f.class f.message_type (meant f.class f.message_type) refl) good size cl kl e

-- the bytes of a message are those of its class, type and data
either : (b : Bool) (class message_type : ℕ) (x : List ℕ) → cond b (class ∷ (message_type ∷ [])) (class ∷ (message_type ∷ x)) ≡ class ∷ (message_type ∷ cond b [] x)
either true class message_type x = refl
either false class message_type x = refl

pub spelled_frame : (m : Message) → spelled m ≡ frame_text (frame_of m)
unfolding spelled
spelled_frame (messages.Control c) = rw (lt-ltb (control_type c) 128 (control_below c)) refl
spelled_frame (messages.Error e) = rw (lt-ltb (error_type e) 128 (error_below e)) refl
spelled_frame (messages.Define d) = refl
spelled_frame (messages.Switch id) = refl
spelled_frame (messages.Ack table number) = refl
spelled_frame (messages.Update u) = rw (update_has_data u u.number u.life refl refl) refl
spelled_frame (messages.Other o) = either (ltb o.message_type 128) o.class o.message_type (counted o.body)

data_of_frame : (m : Message) → data_of m ≡ (frame_of m).body
unfolding data_of
data_of_frame (messages.Control c) = refl
data_of_frame (messages.Error e) = refl
data_of_frame (messages.Define d) = refl
data_of_frame (messages.Switch id) = refl
data_of_frame (messages.Ack table number) = refl
data_of_frame (messages.Update u) = refl
data_of_frame (messages.Other o) = refl

pub fits_from : (h : Received) (m : Message) (f : Frame) → IsMessage h f m → length f.body ≤ most_data → fits h m ≡ true
unfolding fits
fits_from h m f is short =
    let size : length (data_of m) ≡ length f.body = ap length (data_of_frame m) ∙ ap (λ (g : Frame). length g.body) is.0 in
    and_from _ _ is.1 (le-leb _ _ (omega arith))

message_in_takes : (h : Received) (bytes rest : List ℕ) (m : Message) (found : Option (Frame × List ℕ)) → IsBytes bytes → frame_at bytes ≡ Ok found → message_in h found ≡ Ok (Some (m, rest)) → (bytes ≡ spelled m ++ rest) × (fits h m ≡ true)
message_in_takes h bytes rest m None good read e = absurd cc
message_in_takes h bytes rest m (Some x) good read e =
    let frame = frame_takes bytes x good read in
    let made = bind_ok (body_at h x.0.class x.0.message_type x.0.body) _ _ e in
    let is = body_takes h x.0 made.0 frame.1 frame.2 frame.4 frame.5 made.1 in
    let one : Message × List ℕ = (made.0, x.1) in
    let two : Message × List ℕ = (m, rest) in
    let same : one ≡ two = some_is one two made.2 in
    let whole : bytes ≡ spelled made.0 ++ x.1 = frame.0 ∙ ap (λ (f : Frame). frame_text f ++ x.1) (sym is.0) ∙ ap (λ (t : List ℕ). t ++ x.1) (sym (spelled_frame made.0)) in
    subst (λ (y : Message × List ℕ). (bytes ≡ spelled y.0 ++ y.1) × (fits h y.0 ≡ true)) same (whole, fits_from h made.0 x.0 is frame.3)

-- the bytes of a message read are its spelling, and the message fits
pub message_takes : (h : Received) (m : Message) (bytes rest : List ℕ) → IsBytes bytes → message_at h bytes ≡ Ok (Some (m, rest)) → (bytes ≡ spelled m ++ rest) × (fits h m ≡ true)
unfolding message_at
message_takes h m bytes rest good e =
    let found = bind_ok (frame_at bytes) _ _ e in
    message_in_takes h bytes rest m found.0 good found.1 found.2

-- what is left after a message is a suffix of the bytes, and shorter
pub rest_is_end : (h : Received) (m : Message) (bytes rest : List ℕ) → IsBytes bytes → message_at h bytes ≡ Ok (Some (m, rest)) → (drop (length bytes - length rest) bytes ≡ rest) × (length rest < length bytes)
rest_is_end h m bytes rest good e =
    let t = message_takes h m bytes rest good e in
    let sizes : length bytes ≡ length (spelled m) + length rest = ap length t.0 ∙ length-append (spelled m) rest in
    let used : length (spelled m) ≡ length bytes - length rest = omega arith in
    let some : 2 ≤ length (spelled m) = rw (spelled_frame m) (omega arith) in
    (ap (drop (length bytes - length rest)) t.0 ∙ drop_at (spelled m) rest (length bytes - length rest) used, omega arith)
