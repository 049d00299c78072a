-- Reading values and types one after another, as the loops do.
use Rattle.std.proofs.Common.{◌≡◌, ◌≢◌, ℕ, suc, Bool, if◌then◌else◌, ◌+◌, ◌/◌, ◌%◌, ◌<◌, ◌≤◌, true, false, List, [], ◌∷◌, ◌++◌, length, drop, get_or, Option, Result, Ok, Err, refl, sym, ap, ◌∙◌, append_assoc, arith}
use Rattle.std.proofs.lemmas.List.{append-nil, at_drop_more, drop_all}
use Rattle.table_types.specs.declared.data_type.DataType.{DataType}
use Rattle.table_types.specs.declared.data_type.DataType.TheVariants.{ServerKey}
use Rattle.table_types.specs.declared.data_type.Shape.{Shape}
use Rattle.table_types.specs.declared.update.Value.{Value}
use Rattle.table_types.specs.DataTypes.{shape_of}
use Rattle.table_types.specs.Updates.{is_name_shape, is_name_type}
use Rattle.peers_msg.specs.declared.fault.Breach.{Breach}
use Rattle.peers_msg.specs.Borrowed.{is_read, list_read, value_count, with_values}
use Rattle.peers_msg.specs.Reading.{◌>>=◌, value_at, values_at, period_at, types_at}

-- what was read before, followed by what is still to be read
abbrev pub with_front : {A : Type 0} → List A → Result (List A × List ℕ) Breach → Result (List A × List ℕ) Breach
with_front front read = read >>= λ x. Ok (front ++ x.0, x.1)

abbrev pub with_first : {A : Type 0} → A → Result (List A × List ℕ) Breach → Result (List A × List ℕ) Breach
with_first a read = read >>= λ x. Ok (a ∷ x.0, x.1)

regroup : {A : Type 0} (front : List A) (a : A) (read : Result (List A × List ℕ) Breach) → with_front front (with_first a read) ≡ with_front (front ++ a ∷ []) read
regroup {A} front a (Ok x) = ap (λ (xs : List A). Ok (xs, x.1)) (simp append_assoc)
regroup front a (Err f) = refl

pub begins : {A : Type 0} (read : Result (List A × List ℕ) Breach) → with_front [] read ≡ read
begins (Ok x) = refl
begins (Err f) = refl

-- the result of reading to the end
pub all_read : {A : Type 0} (read : Result (List A × List ℕ) Breach) (front : List A) (rest : List ℕ) → read ≡ Ok (front, rest) → read ≡ Ok (list_read read, rest)
all_read read front rest e = rw e refl

pub list_found : {A : Type 0} (read : Result (List A × List ℕ) Breach) (front : List A) (rest : List ℕ) → read ≡ Ok (front, rest) → front ≡ list_read read
list_found read front rest e = rw e refl

-- reading that finds no breach doesn't fail
pub never_fails : {A : Type 0} (read : Result A Breach) (f : Breach) → read ≡ Err f → is_read read ≡ true → ⊥
never_fails (Ok x) f e is = absurd cc
never_fails (Err g) f e is = absurd cc

-- ---- values

at_value : (front : List Value) (ts : List (DataType × Option ℕ)) (i : ℕ) (d : DataType × Option ℕ) (bytes : List ℕ) (total : Result (List Value × List ℕ) Breach) → i < length ts → with_front front (values_at (drop i ts) bytes) ≡ total → with_front front (values_at (get_or ts i d ∷ drop (i + 1) ts) bytes) ≡ total
at_value front ts i d bytes total lt so_far = sym (at_drop_more (λ us. with_front front (values_at us bytes)) ts i d lt) ∙ so_far

pub value_passed : (front : List Value) (ts : List (DataType × Option ℕ)) (i : ℕ) (d : DataType × Option ℕ) (bytes : List ℕ) (shape : Shape) (total : Result (List Value × List ℕ) Breach) → i < length ts → shape ≡ shape_of (get_or ts i d).0 → is_name_shape shape ≡ true
    → with_front front (values_at (drop i ts) bytes) ≡ total → with_front front (values_at (drop (i + 1) ts) bytes) ≡ total
unfolding values_at
value_passed front ts i d bytes shape total lt shaped is so_far =
    let t = get_or ts i d in
    let name : is_name_shape (shape_of t.0) ≡ true = ap is_name_shape (sym shaped) ∙ is in
    let one : with_front front (values_at (t ∷ drop (i + 1) ts) bytes) ≡ with_front front (values_at (drop (i + 1) ts) bytes) = rw name refl in
    sym one ∙ at_value front ts i d bytes total lt so_far

pub value_read : (front : List Value) (ts : List (DataType × Option ℕ)) (i : ℕ) (d : DataType × Option ℕ) (bytes : List ℕ) (shape : Shape) (value : Value) (after : List ℕ) (total : Result (List Value × List ℕ) Breach) → i < length ts → shape ≡ shape_of (get_or ts i d).0 → is_name_shape shape ≡ false
    → value_at shape bytes ≡ Ok (value, after) → with_front front (values_at (drop i ts) bytes) ≡ total → with_front (front ++ value ∷ []) (values_at (drop (i + 1) ts) after) ≡ total
unfolding values_at
value_read front ts i d bytes shape value after total lt shaped isnt read so_far =
    let t = get_or ts i d in
    let none : is_name_shape (shape_of t.0) ≡ false = ap is_name_shape (sym shaped) ∙ isnt in
    let found : value_at (shape_of t.0) bytes ≡ Ok (value, after) = ap (λ (s : Shape). value_at s bytes) (sym shaped) ∙ read in
    let one : with_front front (values_at (t ∷ drop (i + 1) ts) bytes) ≡ with_front (front ++ value ∷ []) (values_at (drop (i + 1) ts) after) = rw (none, found) (regroup front value (values_at (drop (i + 1) ts) after)) in
    sym one ∙ at_value front ts i d bytes total lt so_far

pub value_fails : (f : Breach) (front : List Value) (ts : List (DataType × Option ℕ)) (i : ℕ) (d : DataType × Option ℕ) (bytes : List ℕ) (shape : Shape) (total : Result (List Value × List ℕ) Breach) → i < length ts → shape ≡ shape_of (get_or ts i d).0 → is_name_shape shape ≡ false
    → value_at shape bytes ≡ Err f → with_front front (values_at (drop i ts) bytes) ≡ total → total ≡ Err f
unfolding values_at
value_fails f front ts i d bytes shape total lt shaped isnt read so_far =
    let t = get_or ts i d in
    let none : is_name_shape (shape_of t.0) ≡ false = ap is_name_shape (sym shaped) ∙ isnt in
    let found : value_at (shape_of t.0) bytes ≡ Err f = ap (λ (s : Shape). value_at s bytes) (sym shaped) ∙ read in
    let one : with_front front (values_at (t ∷ drop (i + 1) ts) bytes) ≡ Err f = rw (none, found) refl in
    sym (at_value front ts i d bytes total lt so_far) ∙ one

pub values_done : (front : List Value) (ts : List (DataType × Option ℕ)) (i : ℕ) (bytes : List ℕ) (total : Result (List Value × List ℕ) Breach) → length ts ≤ i → with_front front (values_at (drop i ts) bytes) ≡ total → total ≡ Ok (front, bytes)
unfolding values_at
values_done front ts i bytes total le so_far =
    let none : with_front front (values_at [] bytes) ≡ total = ap (λ us. with_front front (values_at us bytes)) (sym (drop_all i ts le)) ∙ so_far in
    sym none ∙ ap (λ (vs : List Value). Ok (vs, bytes)) (append-nil front)

-- as many values are read as types have one
others_counted : (ts : List (DataType × Option ℕ)) (value : Value) (read : Result (List Value × List ℕ) Breach) → (is_read read ≡ true → length (list_read read) ≡ value_count ts)
    → is_read (with_first value read) ≡ true → length (list_read (with_first value read)) ≡ suc (value_count ts)
others_counted ts value (Ok x) counted is = ap suc (counted refl)
others_counted ts value (Err f) counted is = absurd cc

with_counted : (ts : List (DataType × Option ℕ)) → ((bytes : List ℕ) → is_read (values_at ts bytes) ≡ true → length (list_read (values_at ts bytes)) ≡ value_count ts)
    → (first : Result (Value × List ℕ) Breach) → is_read (with_values ts first) ≡ true → length (list_read (with_values ts first)) ≡ suc (value_count ts)
with_counted ts counted (Ok value) is = others_counted ts value.0 (values_at ts value.1) (counted value.1) is
with_counted ts counted (Err f) is = absurd cc

chosen_counted : (ts : List (DataType × Option ℕ)) → ((bytes : List ℕ) → is_read (values_at ts bytes) ≡ true → length (list_read (values_at ts bytes)) ≡ value_count ts)
    → (shape : Shape) (bytes : List ℕ) (named : Bool) → is_read (if named then values_at ts bytes else with_values ts (value_at shape bytes)) ≡ true
    → length (list_read (if named then values_at ts bytes else with_values ts (value_at shape bytes))) ≡ (if named then value_count ts else suc (value_count ts))
chosen_counted ts counted shape bytes true is = counted bytes is
chosen_counted ts counted shape bytes false is = with_counted ts counted (value_at shape bytes) is

pub values_counted : (ts : List (DataType × Option ℕ)) (bytes : List ℕ) → is_read (values_at ts bytes) ≡ true → length (list_read (values_at ts bytes)) ≡ value_count ts
unfolding values_at
values_counted [] bytes is = refl
values_counted (t ∷ ts) bytes is = chosen_counted ts (values_counted ts) (shape_of t.0) bytes (is_name_type t.0) is

pub name_passed : (ts : List (DataType × Option ℕ)) (i : ℕ) (d : DataType × Option ℕ) (bytes : List ℕ) (shape : Shape) → i < length ts → shape ≡ shape_of (get_or ts i d).0 → is_name_shape shape ≡ true → values_at (drop i ts) bytes ≡ values_at (drop (i + 1) ts) bytes
unfolding values_at
name_passed ts i d bytes shape lt shaped is =
    let t = get_or ts i d in
    let name : is_name_shape (shape_of t.0) ≡ true = ap is_name_shape (sym shaped) ∙ is in
    let one : values_at (t ∷ drop (i + 1) ts) bytes ≡ values_at (drop (i + 1) ts) bytes = rw name refl in
    at_drop_more (λ us. values_at us bytes) ts i d lt ∙ one

pub value_first : (ts : List (DataType × Option ℕ)) (i : ℕ) (d : DataType × Option ℕ) (bytes : List ℕ) (shape : Shape) → i < length ts → shape ≡ shape_of (get_or ts i d).0 → is_name_shape shape ≡ false → values_at (drop i ts) bytes ≡ with_values (drop (i + 1) ts) (value_at shape bytes)
unfolding values_at
value_first ts i d bytes shape lt shaped isnt =
    let t = get_or ts i d in
    let none : is_name_shape (shape_of t.0) ≡ false = ap is_name_shape (sym shaped) ∙ isnt in
    let one : values_at (t ∷ drop (i + 1) ts) bytes ≡ with_values (drop (i + 1) ts) (value_at (shape_of t.0) bytes) = rw none refl in
    at_drop_more (λ us. values_at us bytes) ts i d lt ∙ one ∙ ap (λ (s : Shape). with_values (drop (i + 1) ts) (value_at s bytes)) (sym shaped)

pub no_value : (ts : List (DataType × Option ℕ)) (i : ℕ) (bytes : List ℕ) → length ts ≤ i → values_at (drop i ts) bytes ≡ Ok ([], bytes)
unfolding values_at
no_value ts i bytes le = ap (λ us. values_at us bytes) (drop_all i ts le)

-- ---- types

at_type : (front : List (DataType × Option ℕ)) (ts : List DataType) (i : ℕ) (d : DataType) (bits : ℕ) (bytes : List ℕ) (total : Result (List (DataType × Option ℕ) × List ℕ) Breach) → i < length ts → with_front front (types_at (drop i ts) bits bytes) ≡ total → with_front front (types_at (get_or ts i d ∷ drop (i + 1) ts) bits bytes) ≡ total
at_type front ts i d bits bytes total lt so_far = sym (at_drop_more (λ us. with_front front (types_at us bits bytes)) ts i d lt) ∙ so_far

pub type_passed : (front : List (DataType × Option ℕ)) (ts : List DataType) (i : ℕ) (bits : ℕ) (bytes : List ℕ) (total : Result (List (DataType × Option ℕ) × List ℕ) Breach) → i < length ts → bits % 2 ≡ 0
    → with_front front (types_at (drop i ts) bits bytes) ≡ total → with_front front (types_at (drop (i + 1) ts) (bits / 2) bytes) ≡ total
unfolding types_at
type_passed front ts i bits bytes total lt even so_far =
    let t = get_or ts i ServerKey in
    let one : with_front front (types_at (t ∷ drop (i + 1) ts) bits bytes) ≡ with_front front (types_at (drop (i + 1) ts) (bits / 2) bytes) = rw even refl in
    sym one ∙ at_type front ts i ServerKey bits bytes total lt so_far

pub type_read : (front : List (DataType × Option ℕ)) (ts : List DataType) (i : ℕ) (d : DataType) (bits : ℕ) (bytes : List ℕ) (period : Option ℕ) (after : List ℕ) (total : Result (List (DataType × Option ℕ) × List ℕ) Breach) → i < length ts → bits % 2 ≢ 0
    → period_at (get_or ts i d) bytes ≡ Ok (period, after) → with_front front (types_at (drop i ts) bits bytes) ≡ total → with_front (front ++ (get_or ts i d, period) ∷ []) (types_at (drop (i + 1) ts) (bits / 2) after) ≡ total
unfolding types_at
type_read front ts i d bits bytes period after total lt odd read so_far =
    let t = get_or ts i d in
    let entry : DataType × Option ℕ = (t, period) in
    let one_bit : bits % 2 ≡ 1 = omega (arith, odd) in
    let one : with_front front (types_at (t ∷ drop (i + 1) ts) bits bytes) ≡ with_front (front ++ entry ∷ []) (types_at (drop (i + 1) ts) (bits / 2) after) = rw (one_bit, read) (regroup front entry (types_at (drop (i + 1) ts) (bits / 2) after)) in
    sym one ∙ at_type front ts i d bits bytes total lt so_far

pub type_fails : (f : Breach) (front : List (DataType × Option ℕ)) (ts : List DataType) (i : ℕ) (d : DataType) (bits : ℕ) (bytes : List ℕ) (total : Result (List (DataType × Option ℕ) × List ℕ) Breach) → i < length ts → bits % 2 ≢ 0
    → period_at (get_or ts i d) bytes ≡ Err f → with_front front (types_at (drop i ts) bits bytes) ≡ total → total ≡ Err f
unfolding types_at
type_fails f front ts i d bits bytes total lt odd read so_far =
    let t = get_or ts i d in
    let one_bit : bits % 2 ≡ 1 = omega (arith, odd) in
    let one : with_front front (types_at (t ∷ drop (i + 1) ts) bits bytes) ≡ Err f = rw (one_bit, read) refl in
    sym (at_type front ts i d bits bytes total lt so_far) ∙ one

pub types_done : (front : List (DataType × Option ℕ)) (ts : List DataType) (i : ℕ) (bits : ℕ) (bytes : List ℕ) (total : Result (List (DataType × Option ℕ) × List ℕ) Breach) → length ts ≤ i → with_front front (types_at (drop i ts) bits bytes) ≡ total → total ≡ Ok (front, bytes)
unfolding types_at
types_done front ts i bits bytes total le so_far =
    let none : with_front front (types_at [] bits bytes) ≡ total = ap (λ us. with_front front (types_at us bits bytes)) (sym (drop_all i ts le)) ∙ so_far in
    sym none ∙ ap (λ (ts : List (DataType × Option ℕ)). Ok (ts, bytes)) (append-nil front)
