-- No table of the roster has the shape of a stand-in.
use Rattle.std.proofs.Common.{◌≡◌, ℕ, Bool, true, false, ◌&&◌, ◌||◌, eqb, List, [], ◌∷◌, Option, None, refl, sym, subst, inl, inr}
use Rattle.std.specs.List.{list_any}
use Rattle.std.specs.Cmp.Lexicographic.{same_text}
use Rattle.std.proofs.lemmas.Bool.{cases_Bool, eqb-true}
use Rattle.table_types.specs.declared.data_type.DataType.{DataType}
use Rattle.table_types.specs.declared.key.KeyKind.TheVariants as kinds
use Rattle.table_types.specs.Keys.{number_of}
use Rattle.table_types.specs.Tables.{Definition}
use Rattle.table_types.specs.Rosters.{has_name, is_same_name, repeats_name, roster_fault}
use Rattle.table_types.specs.Shapes.{are_same_types, is_shape_of}
use Rattle.known_state.proofs.ReceivedIsOwn.{or-false-left, or-false-right}
use Rattle.known_state.proofs.RosterNamesDiffer.{roster_names}
use Rattle.tolerant_intake.specs.Loose.{LooseDefinition, known_types}
use Rattle.tolerant_intake.specs.StandIns.{has_short_keys, name_type_of, stand_in}

no_shape : (a b c e : Bool) → (a && c) ≡ false → (a && b && c && e) ≡ false
no_shape false b c e h = refl
no_shape true false c e h = refl
no_shape true true c e h = rw h refl

-- whether a table has the name and the key length
abbrev has_length : List ℕ → ℕ → Definition → Bool
has_length name l own = is_same_name own.name name && eqb own.key_length l

no_shapes : (id l : ℕ) (name : List ℕ) (types : List (DataType × Option ℕ)) (ds : List Definition) → list_any (has_length name l) ds ≡ false
    → list_any (λ own. is_shape_of own (record { id = id; name = name; kind = kinds.String; key_length = l; expire = 0; types = types })) ds ≡ false
no_shapes id l name types [] none = refl
no_shapes id l name types (d ∷ ds) none =
    let head = or-false-left (has_length name l d) (list_any (has_length name l) ds) none in
    let tail = or-false-right (has_length name l d) (list_any (has_length name l) ds) none in
    rw (no_shape (is_same_name d.name name) (eqb (number_of d.kind) 6) (eqb d.key_length l) (are_same_types d.types types) head) (no_shapes id l name types ds tail)

unnamed : (name : List ℕ) (l : ℕ) (ds : List Definition) → has_name name ds ≡ false → list_any (has_length name l) ds ≡ false
unnamed name l [] none = refl
unnamed name l (d ∷ ds) none =
    let head = or-false-left (is_same_name d.name name) (has_name name ds) none in
    let tail = or-false-right (is_same_name d.name name) (has_name name ds) none in
    rw head (unnamed name l ds tail)

one_of : (n : ℕ) → (eqb n 1 || false) ≡ true → n ≡ 1
one_of n e = elim (cases_Bool (eqb n 1)) [ inl is ↦ eqb-true n 1 is | inr isnt ↦ (let wrong : false ≡ true = rw isnt at e in absurd cc) ]

-- the one table of a name whose keys have the length 1
only_short : (name : List ℕ) (ds : List Definition) → repeats_name ds ≡ false → list_any (has_length name 1) ds ≡ true → list_any (has_length name 2) ds ≡ false
only_short name [] distinct short = refl
only_short name (d ∷ ds) distinct short =
    let others = or-false-left (has_name d.name ds) (repeats_name ds) distinct in
    let rest = or-false-right (has_name d.name ds) (repeats_name ds) distinct in
    elim (cases_Bool (is_same_name d.name name)) [
      | inl same ↦
          let is : d.name ≡ name = same_text d.name name (sym same) in
          let none : has_name name ds ≡ false = subst (λ (n : List ℕ). has_name n ds ≡ false) is others in
          let one : (eqb d.key_length 1 || false) ≡ true = rw (same, unnamed name 1 ds none) at short in
          let long : d.key_length ≡ 1 = one_of d.key_length one in
          rw (same, long, unnamed name 2 ds none) refl
      | inr other ↦ rw other (only_short name ds rest (rw other at short))
    ]

pub none_has_shape : (roster : List Definition) (d : LooseDefinition) → roster_fault roster ≡ None → list_any (λ own. is_shape_of own (stand_in roster d)) roster ≡ false
none_has_shape roster d sound = elim (cases_Bool (has_short_keys roster d.name)) [
  | inl short ↦ rw short (no_shapes d.id 2 d.name (name_type_of (known_types d)) roster (only_short d.name roster (roster_names roster sound) short))
  | inr long ↦ rw long (no_shapes d.id 1 d.name (name_type_of (known_types d)) roster long)
]
