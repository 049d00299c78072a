-- The parts that are read make valid values.
use Rattle.std.proofs.Common.{◌≡◌, ℕ, Bool, true, false, eqb, List, length, Option, Some, Result, Ok, Err, if◌then◌else◌, refl, sym, ap, ◌∙◌}
use Rattle.std.proofs.lemmas.Bool.{lt-ltb, and_from}
use Rattle.peers_encint.specs.Integers.{IsBytes}
use Rattle.table_types.specs.Tables.{Definition, is_definition}
use Rattle.table_types.specs.declared.data_type.DataType.{DataType}
use Rattle.table_types.specs.declared.key.Key.{Key}
use Rattle.table_types.specs.declared.key.KeyKind.{KeyKind}
use Rattle.table_types.specs.declared.update.Value.{Value}
use Rattle.table_types.specs.Keys.{key_fits}
use Rattle.table_types.specs.Updates.{values_fit}
use Rattle.peers_msg.specs.declared.fault.Breach.{Breach}
use Rattle.peers_msg.specs.declared.fault.Breach.TheVariants.{Trailing}
use Rattle.peers_msg.specs.declared.meaning.Meaning.TheVariants as meanings
use Rattle.peers_msg.specs.Messages.{is_other, is_small}
use Rattle.peers_msg.specs.Reading.{Frame, frame_at, meant, ended, optional_at, key_at, values_at, named_at, keyed_at, stored_at, definition_at}
use Rattle.peers_msg.proofs.MessageCanonical.{frame_takes, meant_pair, definition_takes}
use Rattle.peers_msg.proofs.FieldCanonical.{optional_takes, key_takes, values_take}
use Rattle.peers_msg.proofs.DataLimits.{row_small}

pub other_made : (bytes : List ℕ) (x : Frame × List ℕ) → IsBytes bytes → frame_at bytes ≡ Ok (Some x) → meant x.0.class x.0.message_type ≡ meanings.Other → is_other (record { class = x.0.class; message_type = x.0.message_type; body = x.0.body }) ≡ true
other_made bytes x good read other =
    let f = frame_takes bytes x good read in
    let unknown = meant_pair x.0.class x.0.message_type meanings.Other other in
    rw (lt-ltb x.0.class 256 f.4, lt-ltb x.0.message_type 256 f.5, unknown) f.2

ends : (b : Bool) → ◌≡◌ {A = Result Bool Breach} (if b then Ok true else Err Trailing) (Ok true) → b ≡ true
ends true e = refl
ends false e = absurd cc

pub update_made : (d : Definition) (kind : KeyKind) (l : ℕ) (ts : List (DataType × Option ℕ)) (bytes : List ℕ) (key : Key) (after : List ℕ) (values : List Value) (rest : List ℕ) → is_definition d ≡ true → kind ≡ d.kind → l ≡ d.key_length → ts ≡ d.types
    → IsBytes bytes → key_at kind l bytes ≡ Ok (key, after) → values_at ts after ≡ Ok (values, rest) → is_small key values ≡ true
update_made d kind l ts bytes key after values rest defined a b e good read read_values =
    let t0 = key_takes kind l bytes (key, after) good read in
    let t1 = values_take ts after (values, rest) t0.0.fits read_values in
    let of_kind : key_fits d.kind d.key_length key ≡ true = ap (λ (k : KeyKind). key_fits k d.key_length key) (sym a) ∙ ap (λ (n : ℕ). key_fits kind n key) (sym b) ∙ t0.1 in
    let of_types : values_fit d.types values ≡ true = ap (λ us. values_fit us values) (sym e) ∙ t1.1 in
    row_small d key values defined (and_from _ _ of_kind of_types)

pub rest_is_bytes : (stands : Bool) (bytes : List ℕ) (number : Option ℕ) (rest : List ℕ) → IsBytes bytes → optional_at stands bytes ≡ Ok (number, rest) → IsBytes rest
rest_is_bytes stands bytes number rest good read = (optional_takes stands bytes (number, rest) good read).0.fits

pub definition_made : (bytes : List ℕ) (id : ℕ) (name after : List ℕ) (kind : KeyKind) (l : ℕ) (later : List ℕ) (expire : ℕ) (types : List (DataType × Option ℕ)) (rest : List ℕ) → IsBytes bytes
    → named_at bytes ≡ Ok ((id, name), after) → keyed_at after ≡ Ok ((kind, l), later) → stored_at later ≡ Ok ((expire, types), rest) → ended true rest ≡ Ok true
    → is_definition (record { id = id; name = name; kind = kind; key_length = l; expire = expire; types = types }) ≡ true
unfolding definition_at
definition_made bytes id name after kind l later expire types rest good named keyed stored all =
    let end : eqb (length rest) 0 ≡ true = ends (eqb (length rest) 0) all in
    (definition_takes bytes (record { id = id; name = name; kind = kind; key_length = l; expire = expire; types = types }) good (rw (named, keyed, stored, end) refl)).1
