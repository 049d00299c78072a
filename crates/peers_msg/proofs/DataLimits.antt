-- The data of a definition, and of an update that fits a table, are within the limit.
use Rattle.std.proofs.Common.{◌≡◌, ℕ, ◌+◌, ◌*◌, ◌≤◌, true, List, [], ◌∷◌, ◌++◌, length, Option, Some, None, arith, refl, ap, ◌∙◌, length-append}
use Rattle.std.specs.List.{flat_map}
use Rattle.std.proofs.lemmas.Bool.{le-leb}
use Rattle.std.proofs.lemmas.Bool.Decides.{nat_tests}
use Rattle.std.proofs.lemmas.List.Concat.{flat_map-cons}
use Rattle.peers_encint.specs.Integers.{spelling}
use Rattle.peers_encint.proofs.OneSpelling.{within}
use Rattle.table_types.specs.declared.data_type.DataType.{DataType}
use Rattle.table_types.specs.declared.key.KeyKind.{KeyKind}
use Rattle.table_types.specs.declared.key.KeyKind.TheVariants as kinds
use Rattle.table_types.specs.declared.key.Key.{Key}
use Rattle.table_types.specs.declared.key.Key.TheVariants as keys
use Rattle.table_types.specs.declared.update.Value.{Value}
use Rattle.table_types.specs.declared.update.Value.TheVariants as values
use Rattle.table_types.specs.Keys.{number_of, fits_length, key_fits}
use Rattle.table_types.specs.DataTypes.{id_of}
use Rattle.table_types.specs.Tables.{Definition, is_definition}
use Rattle.table_types.specs.Updates.{values_fit, row_fits}
use Rattle.peers_msg.specs.declared.name_field.NameField.{NameField}
use Rattle.peers_msg.specs.declared.name_field.NameField.TheVariants as names
use Rattle.peers_msg.specs.Messages.{UpdateFields, key_bytes, is_small, most_data}
use Rattle.peers_msg.specs.Spelling.{optional_word, counted, key_text, value_text, name_text, update_text, period_text, bits_of, definition_text}
use Rattle.peers_msg.specs.Fitting.{name_fits, update_fits}
use Rattle.peers_msg.proofs.DataLengths.{types_short}

-- ---- limits of keys and values

-- a key that fits a table has at most 8,192 bytes
key_small : (kind : KeyKind) (l : ℕ) (key : Key) → fits_length kind l ≡ true → key_fits kind l key ≡ true → key_bytes key ≤ 8192
key_small kinds.Integer l (keys.Int n) a b = omega arith
key_small kinds.Ip4 l (keys.Ip4 bytes) a b = grind (arith, nat_tests)
key_small kinds.Ip6 l (keys.Ip6 bytes) a b = grind (arith, nat_tests)
key_small kinds.String l (keys.Str bytes) a b = grind (arith, nat_tests)
key_small kinds.Binary l (keys.Bin bytes) a b = grind (arith, nat_tests)
key_small kind l key a b = cc

-- there are at most as many values as types
values_short : (ts : List (DataType × Option ℕ)) (vs : List Value) → values_fit ts vs ≡ true → length vs ≤ length ts
values_short [] [] h = omega arith
values_short [] (v ∷ vs) h = cc
values_short (t ∷ ts) [] h = omega arith
values_short (t ∷ ts) (v ∷ vs) h = grind (arith, values_short ts vs, values_short ts (v ∷ vs))

pub row_small : (d : Definition) (key : Key) (vs : List Value) → is_definition d ≡ true → row_fits d key vs ≡ true → is_small key vs ≡ true
row_small d key vs defined fits =
    let few = types_short d defined in
    let key_length : fits_length d.kind d.key_length ≡ true = grind (arith, nat_tests) in
    let of_kind : key_fits d.kind d.key_length key ≡ true = grind (arith, nat_tests) in
    let of_types : values_fit d.types vs ≡ true = grind (arith, nat_tests) in
    rw (le-leb (key_bytes key) 8192 (key_small d.kind d.key_length key key_length of_kind), le-leb (length vs) 20 (omega (arith, values_short d.types vs of_types))) refl

-- ---- lengths

counted_most : (bytes : List ℕ) → length (counted bytes) ≤ 10 + length bytes
counted_most bytes = omega (arith, length-append (spelling (length bytes)) bytes, (within (length bytes)).1)

optional_most : (n : Option ℕ) → length (optional_word n) ≤ 4
optional_most None = omega arith
optional_most (Some n) = omega arith

key_most : (key : Key) → key_bytes key ≤ 8192 → length (key_text key) ≤ 8202
key_most (keys.Int n) h = omega arith
key_most (keys.Ip4 bytes) h = omega arith
key_most (keys.Ip6 bytes) h = omega arith
key_most (keys.Str bytes) h = omega (arith, counted_most bytes)
key_most (keys.Bin bytes) h = omega arith

value_most : (v : Value) → length (value_text v) ≤ 30
value_most (values.Count n) = omega (arith, (within n).1)
value_most (values.Rate e c p) =
    omega (arith, length-append (spelling e) (spelling c ++ spelling p), length-append (spelling c) (spelling p), (within e).1, (within c).1, (within p).1)

values_most : (vs : List Value) → length (flat_map value_text vs) ≤ 30 * length vs
values_most [] = omega arith
values_most (v ∷ vs) =
    let one = ap (λ (b : List ℕ). length b) (flat_map-cons value_text v vs) ∙ length-append (value_text v) (flat_map value_text vs) in
    omega (arith, one, value_most v, values_most vs)

name_most : (d : Definition) (name : NameField) → name_fits d name ≡ true → length (name_text name) ≤ 295
name_most d names.NotStored h = omega arith
name_most d names.NoName h = omega (arith, (within 0).1)
name_most d (names.Held slot) h = omega (arith, counted_most (spelling slot), (within slot).1)
name_most d (names.Written slot name) h =
    let short : length name ≤ 255 = grind (arith, nat_tests) in
    omega (arith, counted_most (spelling slot ++ counted name), length-append (spelling slot) (counted name), counted_most name, (within slot).1)

period_most : (t : DataType × Option ℕ) → length (period_text t) ≤ 20
period_most (t, None) = omega arith
period_most (t, Some p) = omega (arith, length-append (spelling (id_of t)) (spelling p), (within (id_of t)).1, (within p).1)

periods_most : (ts : List (DataType × Option ℕ)) → length (flat_map period_text ts) ≤ 20 * length ts
periods_most [] = omega arith
periods_most (t ∷ ts) =
    let one = ap (λ (b : List ℕ). length b) (flat_map-cons period_text t ts) ∙ length-append (period_text t) (flat_map period_text ts) in
    omega (arith, one, period_most t, periods_most ts)

pub update_small : (d : Definition) (u : UpdateFields) → is_definition d ≡ true → update_fits d u ≡ true → length (update_text u) ≤ most_data
update_small d u defined fits =
    let row : row_fits d u.key u.values ≡ true = grind (arith, nat_tests) in
    let named : name_fits d u.name ≡ true = grind (arith, nat_tests) in
    let small = row_small d u.key u.values defined row in
    let key : key_bytes u.key ≤ 8192 = grind (arith, nat_tests) in
    let few : length u.values ≤ 20 = grind (arith, nat_tests) in
    omega (
      arith,
      length-append (optional_word u.number) (optional_word u.life ++ (key_text u.key ++ (flat_map value_text u.values ++ name_text u.name))),
      length-append (optional_word u.life) (key_text u.key ++ (flat_map value_text u.values ++ name_text u.name)),
      length-append (key_text u.key) (flat_map value_text u.values ++ name_text u.name),
      length-append (flat_map value_text u.values) (name_text u.name),
      optional_most u.number,
      optional_most u.life,
      key_most u.key key,
      values_most u.values,
      name_most d u.name named,
    )

pub definition_small : (d : Definition) → is_definition d ≡ true → length (definition_text d) ≤ most_data
definition_small d defined =
    let few = types_short d defined in
    let short : length d.name ≤ 255 = grind (arith, nat_tests) in
    omega (
      arith,
      length-append (spelling d.id) (counted d.name ++ (spelling (number_of d.kind) ++ (spelling d.key_length ++ (spelling (bits_of d.types) ++ (spelling d.expire ++ flat_map period_text d.types))))),
      length-append (counted d.name) (spelling (number_of d.kind) ++ (spelling d.key_length ++ (spelling (bits_of d.types) ++ (spelling d.expire ++ flat_map period_text d.types)))),
      length-append (spelling (number_of d.kind)) (spelling d.key_length ++ (spelling (bits_of d.types) ++ (spelling d.expire ++ flat_map period_text d.types))),
      length-append (spelling d.key_length) (spelling (bits_of d.types) ++ (spelling d.expire ++ flat_map period_text d.types)),
      length-append (spelling (bits_of d.types)) (spelling d.expire ++ flat_map period_text d.types),
      length-append (spelling d.expire) (flat_map period_text d.types),
      (within d.id).1,
      counted_most d.name,
      (within (number_of d.kind)).1,
      (within d.key_length).1,
      (within (bits_of d.types)).1,
      (within d.expire).1,
      periods_most d.types,
    )
