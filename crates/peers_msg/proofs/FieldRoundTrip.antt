-- Reading a field's spelling returns the field, whatever follows.
use Rattle.std.proofs.Common.{◌≡◌, ℕ, ◌^◌, ◌<◌, ◌≤◌, Bool, true, false, ◌&&◌, ltb, leb, eqb, List, [], ◌∷◌, ◌++◌, length, Option, Some, None, Result, Ok, refl, sym, ap, ◌∙◌, append_assoc, arith, inl, inr}
use Rattle.std.specs.List.{flat_map}
use Rattle.std.proofs.lemmas.Bool.{cases_Bool, ltb-true, leb-true, eqb-true, le-ltb, eq-eqb, and_parts}
use Rattle.std.proofs.lemmas.List.{take_at, drop_at, length-append, append-nil}
use Rattle.std.proofs.lemmas.List.Concat.{flat_map-cons}
use Rattle.std.proofs.lemmas.Nat.{from_be_bytes-to_be_bytes_4}
use Rattle.peers_encint.specs.Integers.{spelling}
use Rattle.peers_encint.proofs.ReadAsSpelled.{again}
use Rattle.peers_encint.proofs.OneSpelling.{within}
use Rattle.table_types.specs.declared.data_type.DataType.{DataType}
use Rattle.table_types.specs.declared.data_type.Shape.{Shape}
use Rattle.table_types.specs.declared.data_type.Shape.TheVariants as shapes
use Rattle.table_types.specs.declared.key.KeyKind.{KeyKind}
use Rattle.table_types.specs.declared.key.KeyKind.TheVariants as kinds
use Rattle.table_types.specs.declared.key.Key.{Key}
use Rattle.table_types.specs.declared.key.Key.TheVariants as keys
use Rattle.table_types.specs.declared.update.Value.{Value as RowValue}
use Rattle.table_types.specs.declared.update.Value.TheVariants as values
use Rattle.table_types.specs.Names.{is_name}
use Rattle.table_types.specs.Keys.{key_fits}
use Rattle.table_types.specs.DataTypes.{shape_of}
use Rattle.table_types.specs.Updates.{is_word, is_optional_word, value_fits, is_name_type, values_fit}
use Rattle.peers_msg.specs.declared.name_field.NameField.{NameField}
use Rattle.peers_msg.specs.declared.name_field.NameField.TheVariants as names
use Rattle.peers_msg.specs.declared.fault.Breach.{Breach}
use Rattle.peers_msg.specs.declared.fault.Breach.TheVariants.{BadKey, BadValue}
use Rattle.peers_msg.specs.Spelling.{word, optional_word, counted, key_text, value_text, name_text}
use Rattle.table_types.specs.SlotIds.{is_slot}
use Rattle.peers_msg.specs.Reading.{◌>>=◌, wanted, integer_from, integer_at, word_at, bytes_at, optional_at, key_at, count_at, value_at, values_at, slot_holds, field_of, name_at}

-- the step after one that succeeded
pub then : {A B : Type 0} (r : Result A Breach) (f : A → Result B Breach) (x : A) → r ≡ Ok x → (r >>= f) ≡ f x
then r f x e = ap (λ r. r >>= f) e

pub passed : (b : Bool) (breach : Breach) → b ≡ true → wanted b breach ≡ Ok true
passed b breach e = ap (λ b. wanted b breach) e

-- ---- integers, words and bytes

pub integer_again : (short : Breach) (n : ℕ) (rest : List ℕ) → n < 2 ^ 64 → integer_at short (spelling n ++ rest) ≡ Ok (n, rest)
unfolding integer_at
integer_again short n rest h =
    ap (integer_from short (spelling n ++ rest)) (again n rest h) ∙ rw (drop_at (spelling n) rest (length (spelling n)) refl) refl

pub word_again : (short : Breach) (n : ℕ) (rest : List ℕ) → n < 2 ^ 32 → word_at short (word n ++ rest) ≡ Ok (n, rest)
unfolding word_at
word_again short n rest h =
    let long : ltb (length (word n ++ rest)) 4 ≡ false = le-ltb _ _ (omega (arith, length-append (word n) rest)) in
    rw (long, from_be_bytes-to_be_bytes_4 n h) refl

pub bytes_again : (short : Breach) (n : ℕ) (text rest : List ℕ) → length text ≡ n → bytes_at short n (text ++ rest) ≡ Ok (text, rest)
unfolding bytes_at
bytes_again short n text rest len =
    let long : ltb (length (text ++ rest)) n ≡ false = le-ltb _ _ (omega (arith, length-append text rest)) in
    rw (long, take_at text rest n len, drop_at text rest n len) refl

-- ---- numbers and keys

abbrev pub is_there : Option ℕ → Bool
is_there None = false
is_there (Some n) = true

pub optional_again : (o : Option ℕ) (rest : List ℕ) → is_optional_word o ≡ true → optional_at (is_there o) (optional_word o ++ rest) ≡ Ok (o, rest)
unfolding optional_at
optional_again None rest h = refl
optional_again (Some n) rest h = then _ _ _ (word_again BadKey n rest (ltb-true n (2 ^ 32) h))

pub key_again : (kind : KeyKind) (l : ℕ) (key : Key) (rest : List ℕ) → length (key_text key) < 2 ^ 64 → key_fits kind l key ≡ true → key_at kind l (key_text key ++ rest) ≡ Ok (key, rest)
unfolding key_at
key_again kinds.Integer l (keys.Int n) rest short h = then _ _ _ (word_again BadKey n rest (ltb-true n (2 ^ 32) h))
key_again kinds.Ip4 l (keys.Ip4 bytes) rest short h = then _ _ _ (bytes_again BadKey 4 bytes rest (eqb-true _ _ h))
key_again kinds.Ip6 l (keys.Ip6 bytes) rest short h = then _ _ _ (bytes_again BadKey 16 bytes rest (eqb-true _ _ h))
key_again kinds.String l (keys.Str bytes) rest short h =
    let less : length bytes < 2 ^ 64 = omega (arith, length-append (spelling (length bytes)) bytes) in
    ap (key_at kinds.String l) (append_assoc (spelling (length bytes)) bytes rest)
    ∙ rw (integer_again BadKey (length bytes) (bytes ++ rest) less, h, bytes_again BadKey (length bytes) bytes rest refl) refl
key_again kinds.Binary l (keys.Bin bytes) rest short h = then _ _ _ (bytes_again BadKey l bytes rest (eqb-true _ _ h))
key_again kind l key rest short h = absurd cc

-- ---- values

pub count_again : (n : ℕ) (rest : List ℕ) → is_word n ≡ true → count_at (spelling n ++ rest) ≡ Ok (n, rest)
unfolding count_at
count_again n rest h = let less : n < 2 ^ 64 = omega (arith, ltb-true n (2 ^ 32) h) in rw (integer_again BadValue n rest less, h) refl

pub value_again : (shape : Shape) (v : RowValue) (rest : List ℕ) → value_fits shape v ≡ true → value_at shape (value_text v ++ rest) ≡ Ok (v, rest)
unfolding value_at
value_again shapes.Count (values.Count n) rest h = then _ _ _ (count_again n rest h)
value_again shapes.LongCount (values.Count n) rest h = then _ _ _ (integer_again BadValue n rest (ltb-true n (2 ^ 64) h))
value_again shapes.Rate (values.Rate elapsed current previous) rest h =
    let ab = and_parts (is_word elapsed && is_word current) (is_word previous) h in
    let a = and_parts (is_word elapsed) (is_word current) ab.0 in
    let regrouped : value_text (values.Rate elapsed current previous) ++ rest ≡ spelling elapsed ++ (spelling current ++ (spelling previous ++ rest)) = simp append_assoc in
    ap (value_at shapes.Rate) regrouped
    ∙ rw (count_again elapsed (spelling current ++ (spelling previous ++ rest)) a.0, count_again current (spelling previous ++ rest) a.1, count_again previous rest ab.1) refl
value_again shape v rest h = absurd cc

pub values_again : (ts : List (DataType × Option ℕ)) (vs : List RowValue) (rest : List ℕ) → values_fit ts vs ≡ true → values_at ts (flat_map value_text vs ++ rest) ≡ Ok (vs, rest)
unfolding values_at
values_again [] [] rest h = refl
values_again [] (v ∷ vs) rest h = absurd cc
values_again (t ∷ ts) [] rest h =
    let a = and_parts (is_name_type t.0) (values_fit ts []) h in
    rw a.0 (values_again ts [] rest a.1)
values_again (t ∷ ts) (v ∷ vs) rest h =
    elim (cases_Bool (is_name_type t.0)) [
      | inl is ↦
          let others : values_fit ts (v ∷ vs) ≡ true = rw is at h in
          rw is (values_again ts (v ∷ vs) rest others)
      | inr isnt ↦
          let here : (value_fits (shape_of t.0) v && values_fit ts vs) ≡ true = rw isnt at h in
          let a = and_parts (value_fits (shape_of t.0) v) (values_fit ts vs) here in
          let regrouped : flat_map value_text (v ∷ vs) ++ rest ≡ value_text v ++ (flat_map value_text vs ++ rest) = ap (λ (x : List ℕ). x ++ rest) (flat_map-cons value_text v vs) ∙ append_assoc (value_text v) (flat_map value_text vs) rest in
          ap (values_at (t ∷ ts)) regrouped
          ∙ rw (isnt, value_again (shape_of t.0) v (flat_map value_text vs ++ rest) a.0, values_again ts vs rest a.1) refl
    ]

-- ---- the name field

some_field : (bytes : List ℕ) → 1 ≤ length bytes → field_of bytes ≡ (integer_at BadValue bytes >>= λ slot. wanted (is_slot slot.0) BadValue >>= λ ok. slot_holds slot.0 slot.1)
unfolding field_of
some_field [] h = absurd (omega arith)
some_field (b ∷ bytes) h = refl

some_name : (slot : ℕ) (bytes : List ℕ) → 1 ≤ length bytes → slot_holds slot bytes ≡ (integer_at BadValue bytes >>= λ n. wanted (eqb n.0 (length n.1) && is_name n.1) BadValue >>= λ ok. Ok (names.Written slot n.1))
unfolding slot_holds
some_name slot [] h = absurd (omega arith)
some_name slot (b ∷ bytes) h = refl

slot_below : (slot : ℕ) → is_slot slot ≡ true → slot < 2 ^ 64
slot_below slot h = omega (arith, leb-true slot 128 (and_parts (leb 1 slot) (leb slot 128) h).1)

pub name_below : (name : List ℕ) → is_name name ≡ true → length name ≤ 255
name_below name h = leb-true (length name) 255 (and_parts _ _ (and_parts _ _ h).0).1

pub held_again : (slot : ℕ) → is_slot slot ≡ true → field_of (spelling slot) ≡ Ok (names.Held slot)
unfolding slot_holds
held_again slot h =
    let read : integer_at BadValue (spelling slot) ≡ Ok (slot, []) = ap (integer_at BadValue) (sym (append-nil (spelling slot))) ∙ integer_again BadValue slot [] (slot_below slot h) in
    some_field (spelling slot) (within slot).0 ∙ rw (read, h) refl

pub written_again : (slot : ℕ) (name : List ℕ) → is_slot slot ≡ true → is_name name ≡ true → field_of (spelling slot ++ counted name) ≡ Ok (names.Written slot name)
written_again slot name h is =
    let some : 1 ≤ length (spelling slot ++ counted name) = omega (arith, (within slot).0, length-append (spelling slot) (counted name)) in
    let some_counted : 1 ≤ length (counted name) = omega (arith, (within (length name)).0, length-append (spelling (length name)) name) in
    let less : length name < 2 ^ 64 = omega (arith, name_below name is) in
    some_field (spelling slot ++ counted name) some
    ∙ rw (integer_again BadValue slot (counted name) (slot_below slot h), h) (some_name slot (counted name) some_counted
    ∙ rw (integer_again BadValue (length name) name less, eq-eqb (length name) (length name) refl, is) refl)

-- a field within its length
within_length : (inner rest : List ℕ) (f : NameField) → length inner < 2 ^ 64 → field_of inner ≡ Ok f → name_at true (counted inner ++ rest) ≡ Ok (f, rest)
unfolding name_at
within_length inner rest f less e =
    ap (name_at true) (append_assoc (spelling (length inner)) inner rest)
    ∙ rw (integer_again BadValue (length inner) (inner ++ rest) less, bytes_again BadValue (length inner) inner rest refl, e) refl

pub not_stored_again : (rest : List ℕ) → name_at false rest ≡ Ok (names.NotStored, rest)
unfolding name_at
not_stored_again rest = refl

pub no_name_again : (rest : List ℕ) → name_at true (spelling 0 ++ rest) ≡ Ok (names.NoName, rest)
unfolding field_of
no_name_again rest = ap (λ (x : List ℕ). name_at true (x ++ rest)) (sym (append-nil (spelling 0))) ∙ within_length [] rest names.NoName (omega arith) refl

pub held_field_again : (slot : ℕ) (rest : List ℕ) → is_slot slot ≡ true → name_at true (name_text (names.Held slot) ++ rest) ≡ Ok (names.Held slot, rest)
held_field_again slot rest h = within_length (spelling slot) rest (names.Held slot) (omega (arith, (within slot).1)) (held_again slot h)

pub written_field_again : (slot : ℕ) (name rest : List ℕ) → is_slot slot ≡ true → is_name name ≡ true → name_at true (name_text (names.Written slot name) ++ rest) ≡ Ok (names.Written slot name, rest)
written_field_again slot name rest h is =
    let less : length (spelling slot ++ counted name) < 2 ^ 64 = omega (arith, (within slot).1, (within (length name)).1, name_below name is, length-append (spelling slot) (counted name), length-append (spelling (length name)) name) in
    within_length (spelling slot ++ counted name) rest (names.Written slot name) less (written_again slot name h is)
