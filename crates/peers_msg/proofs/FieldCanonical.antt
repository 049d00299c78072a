-- The bytes of a field read are its spelling.
use Rattle.std.proofs.Common.{◌≡◌, ℕ, ◌+◌, ◌^◌, ◌<◌, ◌≤◌, Bool, true, false, not, cond, ltb, eqb, List, [], ◌∷◌, ◌++◌, length, take, drop, Option, Some, None, Result, Ok, Err, refl, sym, ap, subst, ◌∙◌, append_assoc, arith, ◌⊎◌, inl, inr}
use Rattle.std.specs.Int.{w32, from_be_bytes}
use Rattle.std.specs.List.{flat_map}
use Rattle.std.proofs.lemmas.Bool.{cases_lt, ltb-false, eqb-true, lt-ltb, eq-eqb, and_parts, and_from}
use Rattle.std.proofs.lemmas.List.{take-append-drop, length-take, length-take-le, append-nil, get_or-take, get_or-drop, get_or_past}
use Rattle.std.proofs.lemmas.List.Concat.{flat_map-cons}
use Rattle.std.proofs.lemmas.Nat.{be_bytes_4}
use Rattle.peers_encint.specs.declared.reading.Read.{Read}
use Rattle.peers_encint.specs.declared.reading.Read.TheVariants.{Value, Short, Over}
use Rattle.peers_encint.specs.Integers.{spelling, read_of, IsBytes}
use Rattle.peers_encint.proofs.ReadAsSpelled.{takes}
use Rattle.table_types.specs.declared.data_type.DataType.{DataType}
use Rattle.table_types.specs.declared.data_type.Shape.{Shape}
use Rattle.table_types.specs.declared.data_type.Shape.TheVariants as shapes
use Rattle.table_types.specs.declared.key.KeyKind.{KeyKind}
use Rattle.table_types.specs.declared.key.KeyKind.TheVariants as kinds
use Rattle.table_types.specs.declared.key.Key.{Key}
use Rattle.table_types.specs.declared.key.Key.TheVariants as keys
use Rattle.table_types.specs.declared.update.Value.{Value as RowValue}
use Rattle.table_types.specs.declared.update.Value.TheVariants as values
use Rattle.table_types.specs.Names.{is_name}
use Rattle.table_types.specs.Keys.{key_fits}
use Rattle.table_types.specs.DataTypes.{shape_of}
use Rattle.table_types.specs.Tables.{Definition}
use Rattle.table_types.specs.Updates.{is_word, is_optional_word, value_fits, is_name_type, values_fit, stores_name}
use Rattle.peers_msg.specs.declared.name_field.NameField.{NameField}
use Rattle.peers_msg.specs.declared.name_field.NameField.TheVariants as names
use Rattle.peers_msg.specs.declared.fault.Breach.{Breach}
use Rattle.peers_msg.specs.declared.fault.Breach.TheVariants.{BadKey, BadValue}
use Rattle.peers_msg.specs.Spelling.{word, optional_word, counted, key_text, value_text, name_text}
use Rattle.table_types.specs.SlotIds.{is_slot}
use Rattle.peers_msg.specs.Fitting.{name_fits}
use Rattle.peers_msg.specs.Reading.{◌>>=◌, wanted, integer_from, integer_at, word_at, bytes_at, optional_at, key_at, count_at, value_at, values_at, slot_holds, field_of, name_at}
use Rattle.peers_msg.proofs.FieldRoundTrip.{is_there}

-- the result of the first of two steps if both succeed
pub bind_ok : {A B : Type 0} (r : Result A Breach) (f : A → Result B Breach) (y : B) → (r >>= f) ≡ Ok y → (x : A) × (r ≡ Ok x) × (f x ≡ Ok y)
bind_ok (Ok x) f y e = (x, refl, e)
bind_ok (Err d) f y e = absurd cc

-- a test that held, and what was read after it
pub wanted_ok : {B : Type 0} (b : Bool) (breach : Breach) (f : Bool → Result B Breach) (y : B) → (wanted b breach >>= f) ≡ Ok y → (b ≡ true) × (f true ≡ Ok y)
wanted_ok true breach f y e = (refl, e)
wanted_ok false breach f y e = absurd cc

guard_ok : {A : Type 0} (b : Bool) (breach : Breach) (x y : A) → cond b (Err breach) (Ok x) ≡ Ok y → (b ≡ false) × (x ≡ y)
guard_ok true breach x y e = absurd cc
guard_ok false breach x y e = (refl, cc)

abbrev done : {A : Type 0} → A → Result A Breach
done x = Ok x

pub ok_is : {A : Type 0} (x y : A) → done x ≡ done y → x ≡ y
ok_is x y e = cc

-- the bytes are a text taken from the front, and the rest
pub record Takes (bytes text rest : List ℕ) : Type 0 where
  pub parts : bytes ≡ text ++ rest
  pub fits : IsBytes rest

pub Takes-then : (a x b y c : List ℕ) → Takes a x b → Takes b y c → Takes a (x ++ y) c
Takes-then a x b y c p q = record { parts = p.parts ∙ ap (λ (t : List ℕ). x ++ t) q.parts ∙ sym (append_assoc x y c); fits = q.fits }

pub nothing_taken : (bytes : List ℕ) → IsBytes bytes → Takes bytes [] bytes
nothing_taken bytes fits = record { parts = refl; fits = fits }

pub IsBytes-drop : (n : ℕ) (bytes : List ℕ) → IsBytes bytes → IsBytes (drop n bytes)
IsBytes-drop n bytes h i = rw get_or-drop (h (n + i))

pub IsBytes-take : (n : ℕ) (bytes : List ℕ) → IsBytes bytes → IsBytes (take n bytes)
IsBytes-take n bytes h i =
    elim (cases_lt i n) [
      | inl lt ↦ rw (get_or-take n bytes i 0 lt) (h i)
      | inr le ↦ rw (get_or_past (take n bytes) i 0 (omega (arith, length-take n bytes))) (omega arith)
    ]

-- ---- integers, words and bytes

integer_from_takes : (short : Breach) (bytes : List ℕ) (r : Read) (x : ℕ × List ℕ) → IsBytes bytes → read_of bytes ≡ r → integer_from short bytes r ≡ Ok x → Takes bytes (spelling x.0) x.1 × (x.0 < 2 ^ 64)
integer_from_takes short bytes (Value n used) x fits read e =
    let t = takes bytes n used fits read in
    let found : ℕ × List ℕ = (n, drop used bytes) in
    subst (λ (y : ℕ × List ℕ). Takes bytes (spelling y.0) y.1 × (y.0 < 2 ^ 64)) (ok_is found x e) (record { parts = t.0; fits = IsBytes-drop used bytes fits }, t.2)
integer_from_takes short bytes Short x fits read e = absurd cc
integer_from_takes short bytes Over x fits read e = absurd cc

pub integer_takes : (short : Breach) (bytes : List ℕ) (x : ℕ × List ℕ) → IsBytes bytes → integer_at short bytes ≡ Ok x → Takes bytes (spelling x.0) x.1 × (x.0 < 2 ^ 64)
unfolding integer_at
integer_takes short bytes x fits e = integer_from_takes short bytes (read_of bytes) x fits refl e

pub word_takes : (short : Breach) (bytes : List ℕ) (x : ℕ × List ℕ) → IsBytes bytes → word_at short bytes ≡ Ok x → Takes bytes (word x.0) x.1 × (x.0 < 2 ^ 32)
unfolding word_at
word_takes short bytes x fits e =
    let found : ℕ × List ℕ = (from_be_bytes w32 (take 4 bytes), drop 4 bytes) in
    let g = guard_ok (ltb (length bytes) 4) short found x e in
    let long : 4 ≤ length bytes = ltb-false _ _ g.0 in
    let front : word (from_be_bytes w32 (take 4 bytes)) ≡ take 4 bytes = be_bytes_4 (take 4 bytes) _ (length-take-le 4 bytes long) (IsBytes-take 4 bytes fits) refl in
    let parts : bytes ≡ word (from_be_bytes w32 (take 4 bytes)) ++ drop 4 bytes = sym (take-append-drop 4 bytes) ∙ ap (λ (t : List ℕ). t ++ drop 4 bytes) (sym front) in
    let some = IsBytes-take 4 bytes fits in
    let below : from_be_bytes w32 (take 4 bytes) < 2 ^ 32 = omega (arith, some 0, some 1, some 2, some 3) in
    subst (λ (y : ℕ × List ℕ). Takes bytes (word y.0) y.1 × (y.0 < 2 ^ 32)) g.1 (record { parts = parts; fits = IsBytes-drop 4 bytes fits }, below)

pub bytes_take : (short : Breach) (n : ℕ) (bytes : List ℕ) (x : List ℕ × List ℕ) → IsBytes bytes → bytes_at short n bytes ≡ Ok x → Takes bytes x.0 x.1 × (length x.0 ≡ n) × IsBytes x.0
unfolding bytes_at
bytes_take short n bytes x fits e =
    let found : List ℕ × List ℕ = (take n bytes, drop n bytes) in
    let g = guard_ok (ltb (length bytes) n) short found x e in
    let long : n ≤ length bytes = ltb-false _ _ g.0 in
    subst (λ (y : List ℕ × List ℕ). Takes bytes y.0 y.1 × (length y.0 ≡ n) × IsBytes y.0) g.1 (record { parts = sym (take-append-drop n bytes); fits = IsBytes-drop n bytes fits }, length-take-le n bytes long, IsBytes-take n bytes fits)

-- ---- numbers and keys

pub optional_takes : (there : Bool) (bytes : List ℕ) (x : Option ℕ × List ℕ) → IsBytes bytes → optional_at there bytes ≡ Ok x → Takes bytes (optional_word x.0) x.1 × (is_optional_word x.0 ≡ true) × (is_there x.0 ≡ there)
unfolding optional_at
optional_takes false bytes x fits e =
    let found : Option ℕ × List ℕ = (None, bytes) in
    subst (λ (y : Option ℕ × List ℕ). Takes bytes (optional_word y.0) y.1 × (is_optional_word y.0 ≡ true) × (is_there y.0 ≡ false)) (ok_is found x e) (nothing_taken bytes fits, refl, refl)
optional_takes true bytes x fits e =
    let a = bind_ok _ _ _ e in
    let t = word_takes BadKey bytes a.0 fits a.1 in
    let found : Option ℕ × List ℕ = (Some a.0.0, a.0.1) in
    subst (λ (y : Option ℕ × List ℕ). Takes bytes (optional_word y.0) y.1 × (is_optional_word y.0 ≡ true) × (is_there y.0 ≡ true)) (ok_is found x a.2) (t.0, lt-ltb _ _ t.1, refl)

pub key_takes : (kind : KeyKind) (l : ℕ) (bytes : List ℕ) (x : Key × List ℕ) → IsBytes bytes → key_at kind l bytes ≡ Ok x → Takes bytes (key_text x.0) x.1 × (key_fits kind l x.0 ≡ true)
unfolding key_at
key_takes kinds.Integer l bytes x fits e =
    let a = bind_ok _ _ _ e in
    let t = word_takes BadKey bytes a.0 fits a.1 in
    let found : Key × List ℕ = (keys.Int a.0.0, a.0.1) in
    subst (λ (y : Key × List ℕ). Takes bytes (key_text y.0) y.1 × (key_fits kinds.Integer l y.0 ≡ true)) (ok_is found x a.2) (t.0, lt-ltb _ _ t.1)
key_takes kinds.Ip4 l bytes x fits e =
    let a = bind_ok _ _ _ e in
    let t = bytes_take BadKey 4 bytes a.0 fits a.1 in
    let found : Key × List ℕ = (keys.Ip4 a.0.0, a.0.1) in
    subst (λ (y : Key × List ℕ). Takes bytes (key_text y.0) y.1 × (key_fits kinds.Ip4 l y.0 ≡ true)) (ok_is found x a.2) (t.0, eq-eqb _ _ t.1)
key_takes kinds.Ip6 l bytes x fits e =
    let a = bind_ok _ _ _ e in
    let t = bytes_take BadKey 16 bytes a.0 fits a.1 in
    let found : Key × List ℕ = (keys.Ip6 a.0.0, a.0.1) in
    subst (λ (y : Key × List ℕ). Takes bytes (key_text y.0) y.1 × (key_fits kinds.Ip6 l y.0 ≡ true)) (ok_is found x a.2) (t.0, eq-eqb _ _ t.1)
key_takes kinds.String l bytes x fits e =
    let a = bind_ok _ _ _ e in
    let w = wanted_ok (ltb a.0.0 l) BadKey _ _ a.2 in
    let b = bind_ok _ _ _ w.1 in
    let t0 = integer_takes BadKey bytes a.0 fits a.1 in
    let t1 = bytes_take BadKey a.0.0 a.0.1 b.0 t0.0.fits b.1 in
    let both = Takes-then bytes (spelling a.0.0) a.0.1 b.0.0 b.0.1 t0.0 t1.0 in
    let whole : Takes bytes (counted b.0.0) b.0.1 = subst (λ (n : ℕ). Takes bytes (spelling n ++ b.0.0) b.0.1) (sym t1.1) both in
    let short : ltb (length b.0.0) l ≡ true = rw t1.1 w.0 in
    let found : Key × List ℕ = (keys.Str b.0.0, b.0.1) in
    subst (λ (y : Key × List ℕ). Takes bytes (key_text y.0) y.1 × (key_fits kinds.String l y.0 ≡ true)) (ok_is found x b.2) (whole, short)
key_takes kinds.Binary l bytes x fits e =
    let a = bind_ok _ _ _ e in
    let t = bytes_take BadKey l bytes a.0 fits a.1 in
    let found : Key × List ℕ = (keys.Bin a.0.0, a.0.1) in
    subst (λ (y : Key × List ℕ). Takes bytes (key_text y.0) y.1 × (key_fits kinds.Binary l y.0 ≡ true)) (ok_is found x a.2) (t.0, eq-eqb _ _ t.1)

-- ---- values

-- which branch was taken
pub chosen : {A : Type 0} (b : Bool) (x y z : A) → cond b x y ≡ z → ((b ≡ true) × (x ≡ z)) ⊎ ((b ≡ false) × (y ≡ z))
chosen true x y z e = inl (refl, e)
chosen false x y z e = inr (refl, e)

pub count_takes : (bytes : List ℕ) (x : ℕ × List ℕ) → IsBytes bytes → count_at bytes ≡ Ok x → Takes bytes (spelling x.0) x.1 × (is_word x.0 ≡ true)
unfolding count_at
count_takes bytes x fits e =
    let a = bind_ok _ _ _ e in
    let w = wanted_ok _ _ _ _ a.2 in
    let t = integer_takes BadValue bytes a.0 fits a.1 in
    subst (λ (y : ℕ × List ℕ). Takes bytes (spelling y.0) y.1 × (is_word y.0 ≡ true)) (ok_is a.0 x w.1) (t.0, w.0)

pub value_takes : (shape : Shape) (bytes : List ℕ) (x : RowValue × List ℕ) → IsBytes bytes → value_at shape bytes ≡ Ok x → Takes bytes (value_text x.0) x.1 × (value_fits shape x.0 ≡ true)
unfolding value_at
value_takes shapes.Count bytes x fits e =
    let a = bind_ok _ _ _ e in
    let t = count_takes bytes a.0 fits a.1 in
    let found : RowValue × List ℕ = (values.Count a.0.0, a.0.1) in
    subst (λ (y : RowValue × List ℕ). Takes bytes (value_text y.0) y.1 × (value_fits shapes.Count y.0 ≡ true)) (ok_is found x a.2) t
value_takes shapes.LongCount bytes x fits e =
    let a = bind_ok _ _ _ e in
    let t = integer_takes BadValue bytes a.0 fits a.1 in
    let found : RowValue × List ℕ = (values.Count a.0.0, a.0.1) in
    subst (λ (y : RowValue × List ℕ). Takes bytes (value_text y.0) y.1 × (value_fits shapes.LongCount y.0 ≡ true)) (ok_is found x a.2) (t.0, lt-ltb _ _ t.1)
value_takes shapes.Rate bytes x fits e =
    let a = bind_ok _ _ _ e in
    let b = bind_ok _ _ _ a.2 in
    let c = bind_ok _ _ _ b.2 in
    let t0 = count_takes bytes a.0 fits a.1 in
    let t1 = count_takes a.0.1 b.0 t0.0.fits b.1 in
    let t2 = count_takes b.0.1 c.0 t1.0.fits c.1 in
    let e12 = Takes-then a.0.1 (spelling b.0.0) b.0.1 (spelling c.0.0) c.0.1 t1.0 t2.0 in
    let e02 = Takes-then bytes (spelling a.0.0) a.0.1 (spelling b.0.0 ++ spelling c.0.0) c.0.1 t0.0 e12 in
    let found : RowValue × List ℕ = (values.Rate a.0.0 b.0.0 c.0.0, c.0.1) in
    subst (λ (y : RowValue × List ℕ). Takes bytes (value_text y.0) y.1 × (value_fits shapes.Rate y.0 ≡ true)) (ok_is found x c.2) (e02, and_from _ _ (and_from _ _ t0.1 t1.1) t2.1)
value_takes shapes.Name bytes x fits e = absurd cc

passed_over : (t : DataType × Option ℕ) (ts : List (DataType × Option ℕ)) (vs : List RowValue) → is_name_type t.0 ≡ true → values_fit ts vs ≡ true → values_fit (t ∷ ts) vs ≡ true
passed_over t ts [] is h = and_from _ _ is h
passed_over t ts (v ∷ vs) is h = rw is h

pub values_take : (ts : List (DataType × Option ℕ)) (bytes : List ℕ) (x : List RowValue × List ℕ) → IsBytes bytes → values_at ts bytes ≡ Ok x → Takes bytes (flat_map value_text x.0) x.1 × (values_fit ts x.0 ≡ true)
unfolding values_at
values_take [] bytes x fits e =
    let found : List RowValue × List ℕ = ([], bytes) in
    subst (λ (y : List RowValue × List ℕ). Takes bytes (flat_map value_text y.0) y.1 × (values_fit [] y.0 ≡ true)) (ok_is found x e) (nothing_taken bytes fits, refl)
values_take (t ∷ ts) bytes x fits e =
    elim (chosen (is_name_type t.0) (values_at ts bytes) _ (Ok x) e) [
      | inl is ↦
          let others = values_take ts bytes x fits is.1 in
          (others.0, passed_over t ts x.0 is.0 others.1)
      | inr isnt ↦
          let a = bind_ok _ _ _ isnt.1 in
          let b = bind_ok _ _ _ a.2 in
          let t0 = value_takes (shape_of t.0) bytes a.0 fits a.1 in
          let t1 = values_take ts a.0.1 b.0 t0.0.fits b.1 in
          let both = Takes-then bytes (value_text a.0.0) a.0.1 (flat_map value_text b.0.0) b.0.1 t0.0 t1.0 in
          let here : values_fit (t ∷ ts) (a.0.0 ∷ b.0.0) ≡ true = rw isnt.0 (and_from _ _ t0.1 t1.1) in
          let found : List RowValue × List ℕ = (a.0.0 ∷ b.0.0, b.0.1) in
          subst (λ (y : List RowValue × List ℕ). Takes bytes (flat_map value_text y.0) y.1 × (values_fit (t ∷ ts) y.0 ≡ true)) (ok_is found x b.2) (rw flat_map-cons both, here)
    ]

-- ---- the name field

-- a text is what is within the length of a name field
abbrev IsField : List ℕ → NameField → Type 0
IsField inner f = (name_text f ≡ counted inner) × ((d : Definition) → stores_name d ≡ true → name_fits d f ≡ true)

slot_holds_takes : (slot : ℕ) (bytes : List ℕ) (f : NameField) → is_slot slot ≡ true → IsBytes bytes → slot_holds slot bytes ≡ Ok f → IsField (spelling slot ++ bytes) f
unfolding slot_holds
slot_holds_takes slot [] f is fits e =
    let field : IsField (spelling slot ++ []) (names.Held slot) = (ap counted (sym (append-nil (spelling slot))), λ d stored. and_from _ _ stored is) in
    subst (IsField (spelling slot ++ [])) (ok_is (names.Held slot) f e) field
slot_holds_takes slot (b ∷ bytes) f is fits e =
    let a = bind_ok _ _ _ e in
    let w = wanted_ok _ _ _ _ a.2 in
    let p = and_parts (eqb a.0.0 (length a.0.1)) (is_name a.0.1) w.0 in
    let t = integer_takes BadValue (b ∷ bytes) a.0 fits a.1 in
    let whole : b ∷ bytes ≡ counted a.0.1 = t.0.parts ∙ ap (λ (n : ℕ). spelling n ++ a.0.1) (eqb-true _ _ p.0) in
    let field : IsField (spelling slot ++ (b ∷ bytes)) (names.Written slot a.0.1) = (ap (λ (x : List ℕ). counted (spelling slot ++ x)) (sym whole), λ d stored. and_from _ _ (and_from _ _ stored is) p.1) in
    subst (IsField (spelling slot ++ (b ∷ bytes))) (ok_is (names.Written slot a.0.1) f w.1) field

field_takes : (bytes : List ℕ) (f : NameField) → IsBytes bytes → field_of bytes ≡ Ok f → IsField bytes f
unfolding field_of
field_takes [] f fits e =
    let field : IsField [] names.NoName = (sym (append-nil (spelling 0)), λ d stored. stored) in
    subst (IsField []) (ok_is names.NoName f e) field
field_takes (b ∷ bytes) f fits e =
    let a = bind_ok _ _ _ e in
    let w = wanted_ok _ _ _ _ a.2 in
    let t = integer_takes BadValue (b ∷ bytes) a.0 fits a.1 in
    subst (λ (x : List ℕ). IsField x f) (sym t.0.parts) (slot_holds_takes a.0.0 a.0.1 f w.0 t.0.fits w.1)

pub name_takes : (d : Definition) (there : Bool) (bytes : List ℕ) (x : NameField × List ℕ) → stores_name d ≡ there → IsBytes bytes → name_at there bytes ≡ Ok x → Takes bytes (name_text x.0) x.1 × (name_fits d x.0 ≡ true)
unfolding name_at
name_takes d false bytes x stored fits e =
    let found : NameField × List ℕ = (names.NotStored, bytes) in
    subst (λ (y : NameField × List ℕ). Takes bytes (name_text y.0) y.1 × (name_fits d y.0 ≡ true)) (ok_is found x e) (nothing_taken bytes fits, ap not stored)
name_takes d true bytes x stored fits e =
    let a = bind_ok _ _ _ e in
    let b = bind_ok _ _ _ a.2 in
    let c = bind_ok _ _ _ b.2 in
    let t0 = integer_takes BadValue bytes a.0 fits a.1 in
    let t1 = bytes_take BadValue a.0.0 a.0.1 b.0 t0.0.fits b.1 in
    let field = field_takes b.0.0 c.0 t1.2 c.1 in
    let both = Takes-then bytes (spelling a.0.0) a.0.1 b.0.0 b.0.1 t0.0 t1.0 in
    let whole : Takes bytes (counted b.0.0) b.0.1 = subst (λ (n : ℕ). Takes bytes (spelling n ++ b.0.0) b.0.1) (sym t1.1) both in
    let named : Takes bytes (name_text c.0) b.0.1 = subst (λ (t : List ℕ). Takes bytes t b.0.1) (sym field.0) whole in
    let found : NameField × List ℕ = (c.0, b.0.1) in
    subst (λ (y : NameField × List ℕ). Takes bytes (name_text y.0) y.1 × (name_fits d y.0 ≡ true)) (ok_is found x c.2) (named, field.1 d stored)
