-- Reading the spelling of a message that fits returns the message, whatever follows.
use Rattle.std.proofs.Common.{◌≡◌, ℕ, ◌^◌, ◌<◌, ◌≤◌, true, false, not, ◌&&◌, ◌||◌, cond, ltb, leb, eqb, List, [], ◌∷◌, ◌++◌, length, Option, Some, None, Ok, refl, sym, ap, ◌∙◌, append_assoc, arith, inl, inr}
use Rattle.std.specs.Prelude.{is_some}
use Rattle.std.specs.List.{flat_map, list_all}
use Rattle.std.proofs.lemmas.Bool.{cases_Bool, cases_eq, ltb-true, leb-true, leb-false, le-leb, eqb-true, lt-ltb, le-ltb, eq-eqb, ne_eqb, and_parts, or_parts, not-true}
use Rattle.std.proofs.lemmas.List.{take_at, drop_at, length-append, append-nil, nil_from_length}
use Rattle.peers_encint.specs.declared.reading.Read.TheVariants.{Value}
use Rattle.peers_encint.specs.Integers.{spelling, read_of}
use Rattle.peers_encint.proofs.ReadAsSpelled.{again}
use Rattle.table_types.specs.declared.data_type.DataType.{DataType}
use Rattle.table_types.specs.declared.key.KeyKind.{KeyKind}
use Rattle.table_types.specs.declared.key.KeyKind.TheVariants as kinds
use Rattle.table_types.specs.Names.{is_name}
use Rattle.table_types.specs.Keys.{number_of, fits_length, key_fits}
use Rattle.table_types.specs.DataTypes.{all_types}
use Rattle.table_types.specs.Tables.{Definition, is_id, is_definition, has_its_period, rise_from}
use Rattle.table_types.specs.Updates.{is_word, is_optional_word, row_fits, values_fit, stores_name}
use Rattle.table_types.specs.Rosters.{table_at}
use Rattle.peers_msg.specs.declared.name_field.NameField.{NameField}
use Rattle.peers_msg.specs.declared.name_field.NameField.TheVariants as names
use Rattle.peers_msg.specs.declared.control.Control.{Control}
use Rattle.peers_msg.specs.declared.control.Control.TheVariants as controls
use Rattle.peers_msg.specs.declared.control.ErrorKind.{ErrorKind}
use Rattle.peers_msg.specs.declared.control.ErrorKind.TheVariants as errors
use Rattle.peers_msg.specs.declared.message.Message.{Message}
use Rattle.peers_msg.specs.declared.message.Message.TheVariants as messages
use Rattle.peers_msg.specs.declared.meaning.Meaning.{Meaning}
use Rattle.peers_msg.specs.declared.meaning.Meaning.TheVariants as meanings
use Rattle.peers_msg.specs.declared.fault.Breach.TheVariants.{BadInteger, BadDefinition}
use Rattle.peers_msg.specs.Messages.{UpdateFields, OtherFields, is_known_pair, is_other, most_data}
use Rattle.peers_msg.specs.Received.{Received, selected_table}
use Rattle.peers_msg.specs.Spelling.{word, optional_word, counted, framed, key_text, value_text, name_text, update_text, update_type, bits_of, period_text, definition_text, control_type, error_type, data_of, spelled}
use Rattle.table_types.specs.SlotIds.{is_slot}
use Rattle.peers_msg.specs.Fitting.{name_fits, update_fits, fits_table, has_shape, fits}
use Rattle.peers_msg.specs.Reading.{integer_at, word_at, name_at, update_at, kind_of, named_at, keyed_at, stored_at, definition_at, switch_at, ack_at, update_of, control_meant, error_meant, table_meant, meant, message_of, body_at, Frame, data_at, frame_at, message_at}
use Rattle.peers_msg.proofs.FieldRoundTrip.{then, integer_again, word_again, bytes_again, is_there, optional_again, key_again, values_again, not_stored_again, no_name_again, held_field_again, written_field_again, name_below}
use Rattle.peers_msg.proofs.TypeRoundTrip.{all_are, bits_within, types_again}

-- ---- updates

pub name_again : (d : Definition) (f : NameField) (rest : List ℕ) → name_fits d f ≡ true → name_at (stores_name d) (name_text f ++ rest) ≡ Ok (f, rest)
name_again d names.NotStored rest h = rw (not-true (stores_name d) h) (not_stored_again rest)
name_again d names.NoName rest h = rw h (no_name_again rest)
name_again d (names.Held slot) rest h =
    let a = and_parts (stores_name d) (is_slot slot) h in
    rw a.0 (held_field_again slot rest a.1)
name_again d (names.Written slot name) rest h =
    let ab = and_parts (stores_name d && is_slot slot) (is_name name) h in
    let a = and_parts (stores_name d) (is_slot slot) ab.0 in
    rw a.0 (written_field_again slot name rest a.1 ab.1)

pub update_again : (d : Definition) (u : UpdateFields) → length (update_text u) ≤ most_data → update_fits d u ≡ true → update_at d (is_there u.number) (is_there u.life) (update_text u) ≡ Ok u
unfolding update_at
update_again d u short h =
    let abc = and_parts (is_optional_word u.number && is_optional_word u.life && row_fits d u.key u.values) (name_fits d u.name) h in
    let ab = and_parts (is_optional_word u.number && is_optional_word u.life) (row_fits d u.key u.values) abc.0 in
    let a = and_parts (is_optional_word u.number) (is_optional_word u.life) ab.0 in
    let row = and_parts (key_fits d.kind d.key_length u.key) (values_fit d.types u.values) ab.1 in
    let less : length (key_text u.key) < 2 ^ 64 = omega (
      arith,
      length-append (optional_word u.number) (optional_word u.life ++ (key_text u.key ++ (flat_map value_text u.values ++ name_text u.name))),
      length-append (optional_word u.life) (key_text u.key ++ (flat_map value_text u.values ++ name_text u.name)),
      length-append (key_text u.key) (flat_map value_text u.values ++ name_text u.name),
    ) in
    let named : name_at (stores_name d) (name_text u.name) ≡ Ok (u.name, []) = ap (name_at (stores_name d)) (sym (append-nil (name_text u.name))) ∙ name_again d u.name [] abc.1 in
    rw (
      optional_again u.number (optional_word u.life ++ (key_text u.key ++ (flat_map value_text u.values ++ name_text u.name))) a.0,
      optional_again u.life (key_text u.key ++ (flat_map value_text u.values ++ name_text u.name)) a.1,
      key_again d.kind d.key_length u.key (flat_map value_text u.values ++ name_text u.name) less row.0,
      values_again d.types u.values (name_text u.name) row.1,
      named,
    ) refl

-- ---- definitions, switches and acknowledgements

kind_again : (kind : KeyKind) → kind_of (number_of kind) ≡ Ok kind
kind_again kinds.Integer = refl
kind_again kinds.Ip4 = refl
kind_again kinds.Ip6 = refl
kind_again kinds.String = refl
kind_again kinds.Binary = refl

number_below : (kind : KeyKind) → number_of kind < 2 ^ 64
number_below kinds.Integer = omega arith
number_below kinds.Ip4 = omega arith
number_below kinds.Ip6 = omega arith
number_below kinds.String = omega arith
number_below kinds.Binary = omega arith

length_below : (kind : KeyKind) (l : ℕ) → fits_length kind l ≡ true → l < 2 ^ 64
length_below kinds.Integer l h = omega (arith, eqb-true l 4 h)
length_below kinds.Ip4 l h = omega (arith, eqb-true l 4 h)
length_below kinds.Ip6 l h = omega (arith, eqb-true l 16 h)
length_below kinds.String l h = omega (arith, leb-true l 8192 (and_parts (leb 1 l) (leb l 8192) h).1)
length_below kinds.Binary l h = omega (arith, leb-true l 8192 (and_parts (leb 1 l) (leb l 8192) h).1)

named_again : (id : ℕ) (name rest : List ℕ) → is_id id ≡ true → is_name name ≡ true → named_at (spelling id ++ (counted name ++ rest)) ≡ Ok ((id, name), rest)
unfolding named_at
named_again id name rest h is =
    let id_below : id < 2 ^ 64 = omega (arith, ltb-true id (2 ^ 32) (and_parts (leb 1 id) (ltb id (2 ^ 32)) h).1) in
    let size_below : length name < 2 ^ 64 = omega (arith, name_below name is) in
    ap (λ (x : List ℕ). named_at (spelling id ++ x)) (append_assoc (spelling (length name)) name rest)
    ∙ rw (
      integer_again BadDefinition id (spelling (length name) ++ (name ++ rest)) id_below,
      h,
      integer_again BadDefinition (length name) (name ++ rest) size_below,
      bytes_again BadDefinition (length name) name rest refl,
      is,
    ) refl

keyed_again : (kind : KeyKind) (l : ℕ) (rest : List ℕ) → fits_length kind l ≡ true → keyed_at (spelling (number_of kind) ++ (spelling l ++ rest)) ≡ Ok ((kind, l), rest)
unfolding keyed_at
keyed_again kind l rest h =
    rw (
      integer_again BadDefinition (number_of kind) (spelling l ++ rest) (number_below kind),
      kind_again kind,
      integer_again BadDefinition l rest (length_below kind l h),
      h,
    ) refl

stored_again : (expire : ℕ) (types : List (DataType × Option ℕ)) (rest : List ℕ) → ltb expire (2 ^ 32) ≡ true → list_all has_its_period types ≡ true → rise_from 0 types ≡ true → stored_at (spelling (bits_of types) ++ (spelling expire ++ (flat_map period_text types ++ rest))) ≡ Ok ((expire, types), rest)
unfolding stored_at
stored_again expire types rest h periods rise =
    let below : bits_of types < 2 ^ 20 = omega (arith, bits_within 0 types (omega arith) rise) in
    let bits_below : bits_of types < 2 ^ 64 = omega arith in
    let expire_below : expire < 2 ^ 64 = omega (arith, ltb-true expire (2 ^ 32) h) in
    rw (
      integer_again BadDefinition (bits_of types) (spelling expire ++ (flat_map period_text types ++ rest)) bits_below,
      lt-ltb (bits_of types) (2 ^ 20) below,
      integer_again BadDefinition expire (flat_map period_text types ++ rest) expire_below,
      h,
      types_again 0 all_types types (bits_of types) rest all_are refl rise periods (omega arith),
    ) refl

pub definition_again : (d : Definition) → is_definition d ≡ true → definition_at (definition_text d) ≡ Ok d
unfolding definition_at
definition_again d h =
    let e = and_parts (is_id d.id && is_name d.name && fits_length d.kind d.key_length && ltb d.expire (2 ^ 32) && list_all has_its_period d.types) (rise_from 0 d.types) h in
    let p = and_parts (is_id d.id && is_name d.name && fits_length d.kind d.key_length && ltb d.expire (2 ^ 32)) (list_all has_its_period d.types) e.0 in
    let x = and_parts (is_id d.id && is_name d.name && fits_length d.kind d.key_length) (ltb d.expire (2 ^ 32)) p.0 in
    let l = and_parts (is_id d.id && is_name d.name) (fits_length d.kind d.key_length) x.0 in
    let i = and_parts (is_id d.id) (is_name d.name) l.0 in
    let r4 : List ℕ = spelling (bits_of d.types) ++ (spelling d.expire ++ flat_map period_text d.types) in
    let r2 : List ℕ = spelling (number_of d.kind) ++ (spelling d.key_length ++ r4) in
    let whole : flat_map period_text d.types ≡ flat_map period_text d.types ++ [] = sym (append-nil (flat_map period_text d.types)) in
    let stored : stored_at r4 ≡ Ok ((d.expire, d.types), []) = ap (λ (t : List ℕ). stored_at (spelling (bits_of d.types) ++ (spelling d.expire ++ t))) whole ∙ stored_again d.expire d.types [] x.1 p.1 e.1 in
    rw (named_again d.id d.name r2 i.0 i.1, keyed_again d.kind d.key_length r4 l.1, stored) refl

pub switch_again : (h : Received) (id : ℕ) → id < 2 ^ 64 → is_some (table_at h.tables id) ≡ true → switch_at h (spelling id) ≡ Ok (messages.Switch id)
unfolding switch_at
switch_again h id less is =
    let read : integer_at BadInteger (spelling id) ≡ Ok (id, []) = ap (integer_at BadInteger) (sym (append-nil (spelling id))) ∙ integer_again BadInteger id [] less in
    rw (read, is) refl

pub ack_again : (table number : ℕ) → table < 2 ^ 64 → number < 2 ^ 32 → ack_at (spelling table ++ word number) ≡ Ok (messages.Ack table number)
unfolding ack_at
ack_again table number less less_number =
    let read : word_at BadInteger (word number) ≡ Ok (number, []) = word_again BadInteger number [] less_number in
    rw (integer_again BadInteger table (word number) less, read) refl

-- ---- pairs of class and type

-- the meaning of a message's class and type
abbrev pub meaning_of : Message → Meaning
meaning_of (messages.Control c) = meanings.Control c
meaning_of (messages.Error e) = meanings.Error e
meaning_of (messages.Define d) = meanings.Define
meaning_of (messages.Switch id) = meanings.Switch
meaning_of (messages.Ack table number) = meanings.Ack
meaning_of (messages.Update u) = meanings.Update (is_there u.number) (is_there u.life)
meaning_of (messages.Other o) = meanings.Other

-- class, type and data of a message
abbrev pub frame_of : Message → Frame
frame_of (messages.Control c) = record { class = 0; message_type = control_type c; body = [] }
frame_of (messages.Error e) = record { class = 1; message_type = error_type e; body = [] }
frame_of (messages.Define d) = record { class = 10; message_type = 130; body = definition_text d }
frame_of (messages.Switch id) = record { class = 10; message_type = 131; body = spelling id }
frame_of (messages.Ack table number) = record { class = 10; message_type = 132; body = spelling table ++ word number }
frame_of (messages.Update u) = record { class = 10; message_type = update_type u; body = update_text u }
frame_of (messages.Other o) = record { class = o.class; message_type = o.message_type; body = o.body }

control_means : (c : Control) → meant 0 (control_type c) ≡ meanings.Control c
unfolding meant
control_means controls.ResyncRequest = refl
control_means controls.ResyncFinished = refl
control_means controls.ResyncPartial = refl
control_means controls.ResyncConfirmed = refl
control_means controls.Heartbeat = refl

error_means : (e : ErrorKind) → meant 1 (error_type e) ≡ meanings.Error e
unfolding meant
error_means errors.Protocol = refl
error_means errors.SizeLimit = refl

update_means : (u : UpdateFields) (number life : Option ℕ) → u.number ≡ number → u.life ≡ life → meant 10 (update_type u) ≡ meanings.Update (is_there number) (is_there life)
unfolding meant
update_means u (Some number) None p q = rw (p, q) refl
update_means u None None p q = rw (p, q) refl
update_means u (Some number) (Some life) p q = rw (p, q) refl
update_means u None (Some life) p q = rw (p, q) refl

pub update_has_data : (u : UpdateFields) (number life : Option ℕ) → u.number ≡ number → u.life ≡ life → ltb (update_type u) 128 ≡ false
update_has_data u (Some number) None p q = rw (p, q) refl
update_has_data u None None p q = rw (p, q) refl
update_has_data u (Some number) (Some life) p q = rw (p, q) refl
update_has_data u None (Some life) p q = rw (p, q) refl

no_control : (message_type : ℕ) → 4 < message_type → control_meant message_type ≡ meanings.Other
no_control message_type h =
    rw (ne_eqb message_type 0 (λ e. omega arith), ne_eqb message_type 1 (λ e. omega arith), ne_eqb message_type 2 (λ e. omega arith), ne_eqb message_type 3 (λ e. omega arith), ne_eqb message_type 4 (λ e. omega arith)) refl

no_error : (message_type : ℕ) → 1 < message_type → error_meant message_type ≡ meanings.Other
no_error message_type h = rw (ne_eqb message_type 0 (λ e. omega arith), ne_eqb message_type 1 (λ e. omega arith)) refl

no_table_message : (message_type : ℕ) → (128 ≤ message_type → message_type ≤ 134 → ⊥) → table_meant message_type ≡ meanings.Other
no_table_message message_type h =
    let apart : (n : ℕ) → 128 ≤ n → n ≤ 134 → eqb message_type n ≡ false = λ n low high. ne_eqb message_type n (λ e. h (omega arith) (omega arith)) in
    rw (apart 128 (omega arith) (omega arith), apart 129 (omega arith) (omega arith), apart 130 (omega arith) (omega arith), apart 131 (omega arith) (omega arith), apart 132 (omega arith) (omega arith), apart 133 (omega arith) (omega arith), apart 134 (omega arith) (omega arith)) refl

other_means : (class message_type : ℕ) → is_known_pair class message_type ≡ false → meant class message_type ≡ meanings.Other
unfolding meant
other_means class message_type h =
    let table = or_parts (eqb class 0 && leb message_type 4 || eqb class 1 && leb message_type 1) (eqb class 10 && (leb 128 message_type && leb message_type 134)) h in
    let others = or_parts (eqb class 0 && leb message_type 4) (eqb class 1 && leb message_type 1) table.0 in
    elim (cases_eq class 0) [
      | inl is ↦
          let beyond : leb message_type 4 ≡ false = rw (eq-eqb class 0 is) at others.0 in
          rw (eq-eqb class 0 is) (no_control message_type (leb-false message_type 4 beyond))
      | inr not_0 ↦ elim (cases_eq class 1) [
        | inl is ↦
            let beyond : leb message_type 1 ≡ false = rw (eq-eqb class 1 is) at others.1 in
            rw (ne_eqb class 0 not_0, eq-eqb class 1 is) (no_error message_type (leb-false message_type 1 beyond))
        | inr not_1 ↦ elim (cases_eq class 10) [
          | inl is ↦
              let beyond : (leb 128 message_type && leb message_type 134) ≡ false = rw (eq-eqb class 10 is) at table.1 in
              let apart : 128 ≤ message_type → message_type ≤ 134 → ⊥ = λ low high. let wrong : true ≡ false = rw (le-leb 128 message_type low, le-leb message_type 134 high) at beyond in absurd cc in
              rw (ne_eqb class 0 not_0, ne_eqb class 1 not_1, eq-eqb class 10 is) (no_table_message message_type apart)
          | inr not_10 ↦ rw (ne_eqb class 0 not_0, ne_eqb class 1 not_1, ne_eqb class 10 not_10) refl
        ]
      ]
    ]

other_parts : (o : OtherFields) → is_other o ≡ true → (is_known_pair o.class o.message_type ≡ false) × (cond (ltb o.message_type 128) (eqb (length o.body) 0) (leb (length o.body) most_data) ≡ true)
other_parts o h =
    let a = and_parts (ltb o.class 256 && ltb o.message_type 256 && not (is_known_pair o.class o.message_type)) (cond (ltb o.message_type 128) (eqb (length o.body) 0) (leb (length o.body) most_data)) h in
    (not-true (is_known_pair o.class o.message_type) (and_parts (ltb o.class 256 && ltb o.message_type 256) (not (is_known_pair o.class o.message_type)) a.0).1, a.1)

pub meaning_again : (h : Received) (m : Message) → has_shape h m ≡ true → meant (frame_of m).class (frame_of m).message_type ≡ meaning_of m
unfolding meant
meaning_again h (messages.Control c) is = control_means c
meaning_again h (messages.Error e) is = error_means e
meaning_again h (messages.Define d) is = refl
meaning_again h (messages.Switch id) is = refl
meaning_again h (messages.Ack table number) is = refl
meaning_again h (messages.Update u) is = update_means u u.number u.life refl refl
meaning_again h (messages.Other o) is = other_means o.class o.message_type (other_parts o is).0

-- ---- frames

pub short_frame_again : (class message_type : ℕ) (rest : List ℕ) → message_type < 128 → frame_at (class ∷ (message_type ∷ rest)) ≡ Ok (Some (record { class = class; message_type = message_type; body = [] }, rest))
unfolding frame_at data_at
short_frame_again class message_type rest less = rw (lt-ltb message_type 128 less) refl

pub long_frame_again : (class message_type : ℕ) (body rest : List ℕ) → ltb message_type 128 ≡ false → length body ≤ most_data → frame_at (framed class message_type body ++ rest) ≡ Ok (Some (record { class = class; message_type = message_type; body = body }, rest))
unfolding frame_at data_at
long_frame_again class message_type body rest has_data short =
    let read : read_of (spelling (length body) ++ (body ++ rest)) ≡ Value (length body) (length (spelling (length body))) = again (length body) (body ++ rest) (omega arith) in
    let within : ltb most_data (length body) ≡ false = le-ltb _ _ short in
    let whole : ltb (length (body ++ rest)) (length body) ≡ false = le-ltb _ _ (omega (arith, length-append body rest)) in
    ap (λ (x : List ℕ). frame_at (class ∷ (message_type ∷ x))) (append_assoc (spelling (length body)) body rest)
    ∙ rw (has_data, read, drop_at (spelling (length body)) (body ++ rest) (length (spelling (length body))) refl, within, whole, take_at body rest (length body) refl, drop_at body rest (length body) refl) refl

pub control_below : (c : Control) → control_type c < 128
control_below controls.ResyncRequest = omega arith
control_below controls.ResyncFinished = omega arith
control_below controls.ResyncPartial = omega arith
control_below controls.ResyncConfirmed = omega arith
control_below controls.Heartbeat = omega arith

pub error_below : (e : ErrorKind) → error_type e < 128
error_below errors.Protocol = omega arith
error_below errors.SizeLimit = omega arith

-- a message without meaning here, whose data are empty if its type is below 128
other_frame_again : (o : OtherFields) (rest : List ℕ) → length o.body ≤ most_data → is_other o ≡ true → frame_at (spelled (messages.Other o) ++ rest) ≡ Ok (Some (frame_of (messages.Other o), rest))
unfolding spelled
other_frame_again o rest short is =
    let sizes : cond (ltb o.message_type 128) (eqb (length o.body) 0) (leb (length o.body) most_data) ≡ true = (other_parts o is).1 in
    elim (cases_Bool (ltb o.message_type 128)) [
      | inl low ↦
          let no_data : eqb (length o.body) 0 ≡ true = rw low at sizes in
          let empty : o.body ≡ [] = nil_from_length o.body (eqb-true _ _ no_data) in
          rw (low, empty) (short_frame_again o.class o.message_type rest (ltb-true _ _ low))
      | inr high ↦ rw high (long_frame_again o.class o.message_type o.body rest high short)
    ]

pub frame_again : (h : Received) (m : Message) (rest : List ℕ) → fits h m ≡ true → frame_at (spelled m ++ rest) ≡ Ok (Some (frame_of m, rest))
unfolding fits spelled data_of
frame_again h (messages.Control c) rest is = short_frame_again 0 (control_type c) rest (control_below c)
frame_again h (messages.Error e) rest is = short_frame_again 1 (error_type e) rest (error_below e)
frame_again h (messages.Define d) rest is = long_frame_again 10 130 (definition_text d) rest refl (leb-true _ _ (and_parts _ _ is).1)
frame_again h (messages.Switch id) rest is = long_frame_again 10 131 (spelling id) rest refl (leb-true _ _ (and_parts _ _ is).1)
frame_again h (messages.Ack table number) rest is = long_frame_again 10 132 (spelling table ++ word number) rest refl (leb-true _ _ (and_parts _ _ is).1)
frame_again h (messages.Update u) rest is = long_frame_again 10 (update_type u) (update_text u) rest (update_has_data u u.number u.life refl refl) (leb-true _ _ (and_parts _ _ is).1)
frame_again h (messages.Other o) rest is = other_frame_again o rest (leb-true _ _ (and_parts _ _ is).1) (and_parts _ _ is).0

-- ---- messages

update_of_again : (table : Option Definition) (u : UpdateFields) → length (update_text u) ≤ most_data → fits_table table u ≡ true → update_of table (is_there u.number) (is_there u.life) (update_text u) ≡ Ok (messages.Update u)
update_of_again None u short is = absurd cc
update_of_again (Some d) u short is = then _ _ _ (update_again d u short is)

pub data_again : (h : Received) (m : Message) → fits h m ≡ true → message_of h (meaning_of m) (frame_of m).class (frame_of m).message_type (frame_of m).body ≡ Ok m
unfolding fits data_of
data_again h (messages.Control c) is = refl
data_again h (messages.Error e) is = refl
data_again h (messages.Define d) is = then _ _ _ (definition_again d (and_parts _ _ is).0)
data_again h (messages.Switch id) is =
    let a = and_parts (ltb id (2 ^ 64)) (is_some (table_at h.tables id)) (and_parts _ _ is).0 in
    switch_again h id (ltb-true _ _ a.0) a.1
data_again h (messages.Ack table number) is =
    let a = and_parts (ltb table (2 ^ 64)) (is_word number) (and_parts _ _ is).0 in
    ack_again table number (ltb-true _ _ a.0) (ltb-true _ _ a.1)
data_again h (messages.Update u) is = update_of_again (selected_table h) u (leb-true _ _ (and_parts _ _ is).1) (and_parts _ _ is).0
data_again h (messages.Other o) is = refl

pub shape : (h : Received) (m : Message) → fits h m ≡ true → has_shape h m ≡ true
unfolding fits
shape h m is = (and_parts _ _ is).0

pub body_again : (h : Received) (m : Message) → fits h m ≡ true → body_at h (frame_of m).class (frame_of m).message_type (frame_of m).body ≡ Ok m
unfolding body_at
body_again h m is = rw (meaning_again h m (shape h m is)) (data_again h m is)

-- reading a spelling returns the message, whatever follows
pub message_again : (h : Received) (m : Message) (rest : List ℕ) → fits h m ≡ true → message_at h (spelled m ++ rest) ≡ Ok (Some (m, rest))
unfolding message_at
message_again h m rest is = rw (frame_again h m rest is, body_again h m is) refl
