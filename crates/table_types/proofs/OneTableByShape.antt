-- Tables of the same shape are equal except for id and expire.
use Rattle.std.proofs.Common.{◌≡◌, ℕ, ◌<◌, length, length-drop, drop, Bool, true, false, IsTrue, ◌&&◌, eqb, List, [], ◌∷◌, get_or, Option, Some, None, refl, sym, ap, ◌∙◌, subst, arith, inl, inr}
use Rattle.std.proofs.lemmas.Bool.{cases_eq, eq-eqb, ne_eqb}
use Rattle.table_types.specs.declared.key.KeyKind.{KeyKind}
use Rattle.table_types.specs.declared.key.KeyKind.TheVariants as kinds
use Rattle.table_types.specs.declared.data_type.DataType.{DataType}
use Rattle.table_types.specs.declared.data_type.DataType.TheVariants.{ServerId, Gpt0, Gpc0, Gpc0Rate, ConnCnt, ConnRate, ConnCur, SessCnt, SessRate, HttpReqCnt, HttpReqRate, HttpErrCnt, HttpErrRate, BytesInCnt, BytesInRate, BytesOutCnt, BytesOutRate, Gpc1, Gpc1Rate, ServerKey}
use Rattle.table_types.specs.Keys.{number_of}
use Rattle.table_types.specs.DataTypes.{id_of, all_types, is_same_type}
use Rattle.table_types.specs.Tables.{Definition}
use Rattle.table_types.specs.Rosters.{is_same_name}
use Rattle.table_types.specs.Shapes.{is_same_period, are_same_types, is_shape_of, is_same_definition}

and-left : (a b : Bool) → (a && b) ≡ true → a ≡ true
and-left true b h = refl
and-left false b h = cc

and-right : (a b : Bool) → (a && b) ≡ true → b ≡ true
and-right true b h = h
and-right false b h = cc

eqb-is : (a b : ℕ) → eqb a b ≡ true → a ≡ b
eqb-is a b h = elim (cases_eq a b) [
  | inl same ↦ same
  | inr other ↦ let no_way : false ≡ true = sym (ne_eqb a b other) ∙ h in absurd cc
]

-- each data type is the one at its id
type_at : (t : DataType) → get_or all_types (id_of t) ServerId ≡ t
type_at ServerId = refl
type_at Gpt0 = refl
type_at Gpc0 = refl
type_at Gpc0Rate = refl
type_at ConnCnt = refl
type_at ConnRate = refl
type_at ConnCur = refl
type_at SessCnt = refl
type_at SessRate = refl
type_at HttpReqCnt = refl
type_at HttpReqRate = refl
type_at HttpErrCnt = refl
type_at HttpErrRate = refl
type_at BytesInCnt = refl
type_at BytesInRate = refl
type_at BytesOutCnt = refl
type_at BytesOutRate = refl
type_at Gpc1 = refl
type_at Gpc1Rate = refl
type_at ServerKey = refl

one_type : (a b : DataType) → is_same_type a b ≡ true → a ≡ b
one_type a b h = sym (type_at a) ∙ ap (λ (n : ℕ). get_or all_types n ServerId) (eqb-is (id_of a) (id_of b) h) ∙ type_at b

kind_list : List KeyKind
kind_list = kinds.Integer ∷ kinds.Integer ∷ kinds.Integer ∷ kinds.Integer ∷ kinds.Ip4 ∷ kinds.Ip6 ∷ kinds.String ∷ kinds.Binary ∷ []

kind_at : (k : KeyKind) → get_or kind_list (number_of k) kinds.Integer ≡ k
unfolding kind_list
kind_at kinds.Integer = refl
kind_at kinds.Ip4 = refl
kind_at kinds.Ip6 = refl
kind_at kinds.String = refl
kind_at kinds.Binary = refl

one_kind : (a b : KeyKind) → eqb (number_of a) (number_of b) ≡ true → a ≡ b
one_kind a b h = sym (kind_at a) ∙ ap (λ (n : ℕ). get_or kind_list n kinds.Integer) (eqb-is (number_of a) (number_of b) h) ∙ kind_at b

one_name : (a b : List ℕ) → is_same_name a b ≡ true → a ≡ b
one_name [] [] h = refl
one_name [] (y ∷ ys) h = absurd cc
one_name (x ∷ xs) [] h = absurd cc
one_name (x ∷ xs) (y ∷ ys) h =
    let first : x ≡ y = eqb-is x y (and-left (eqb x y) (is_same_name xs ys) h) in
    let rest : xs ≡ ys = one_name xs ys (and-right (eqb x y) (is_same_name xs ys) h) in
    cc

pub same_name : (a : List ℕ) → is_same_name a a ≡ true
same_name [] = refl
same_name (x ∷ xs) = rw (eq-eqb x x refl) (same_name xs)

one_period : (a b : Option ℕ) → is_same_period a b ≡ true → a ≡ b
one_period None None h = refl
one_period None (Some b) h = absurd cc
one_period (Some a) None h = absurd cc
one_period (Some a) (Some b) h = ap (λ (n : ℕ). Some n) (eqb-is a b h)

same_period : (a : Option ℕ) → is_same_period a a ≡ true
same_period None = refl
same_period (Some a) = eq-eqb a a refl

one_types : (ts us : List (DataType × Option ℕ)) → are_same_types ts us ≡ true → ts ≡ us
one_types [] [] h = refl
one_types [] (b ∷ us) h = absurd cc
one_types (a ∷ ts) [] h = absurd cc
one_types (a ∷ ts) (b ∷ us) h =
    let front = and-left (is_same_type a.0 b.0 && is_same_period a.1 b.1) (are_same_types ts us) h in
    let types : a.0 ≡ b.0 = one_type a.0 b.0 (and-left (is_same_type a.0 b.0) (is_same_period a.1 b.1) front) in
    let period : a.1 ≡ b.1 = one_period a.1 b.1 (and-right (is_same_type a.0 b.0) (is_same_period a.1 b.1) front) in
    let rest : ts ≡ us = one_types ts us (and-right (is_same_type a.0 b.0 && is_same_period a.1 b.1) (are_same_types ts us) h) in
    let first : a ≡ b = ap (λ (t : DataType). (t, a.1)) types ∙ ap (λ (p : Option ℕ). (b.0, p)) period in
    cc

same_types : (ts : List (DataType × Option ℕ)) → are_same_types ts ts ≡ true
same_types [] = refl
same_types (a ∷ ts) = rw (eq-eqb (id_of a.0) (id_of a.0) refl, same_period a.1) (same_types ts)

pub shape_means : (own received : Definition) → is_shape_of own received ≡ true → own ≡ record received { id = own.id; expire = own.expire }
shape_means own received h =
    let three : Bool = is_same_name own.name received.name && eqb (number_of own.kind) (number_of received.kind) && eqb own.key_length received.key_length in
    let two : Bool = is_same_name own.name received.name && eqb (number_of own.kind) (number_of received.kind) in
    let first = and-left three (are_same_types own.types received.types) h in
    let before = and-left two (eqb own.key_length received.key_length) first in
    let name = one_name own.name received.name (and-left (is_same_name own.name received.name) (eqb (number_of own.kind) (number_of received.kind)) before) in
    let kind = one_kind own.kind received.kind (and-right (is_same_name own.name received.name) (eqb (number_of own.kind) (number_of received.kind)) before) in
    let size = eqb-is own.key_length received.key_length (and-right two (eqb own.key_length received.key_length) first) in
    let types = one_types own.types received.types (and-right three (are_same_types own.types received.types) h) in
    ap (λ (n : List ℕ). record own { name = n }) name
    ∙ ap (λ (k : KeyKind). record own { name = received.name; kind = k }) kind
    ∙ ap (λ (l : ℕ). record own { name = received.name; kind = received.kind; key_length = l }) size
    ∙ ap (λ (ts : List (DataType × Option ℕ)). record own { name = received.name; kind = received.kind; key_length = received.key_length; types = ts }) types

pub means_shape : (own received : Definition) → own ≡ record received { id = own.id; expire = own.expire } → is_shape_of own received ≡ true
means_shape own received is =
    let name : own.name ≡ received.name = ap (λ (d : Definition). d.name) is in
    let kind : own.kind ≡ received.kind = ap (λ (d : Definition). d.kind) is in
    let size : own.key_length ≡ received.key_length = ap (λ (d : Definition). d.key_length) is in
    let types : own.types ≡ received.types = ap (λ (d : Definition). d.types) is in
    subst (λ (d : List ℕ). (is_same_name d received.name && eqb (number_of own.kind) (number_of received.kind) && eqb own.key_length received.key_length && are_same_types own.types received.types) ≡ true) (sym name)
    (subst (λ (k : KeyKind). (is_same_name received.name received.name && eqb (number_of k) (number_of received.kind) && eqb own.key_length received.key_length && are_same_types own.types received.types) ≡ true) (sym kind)
    (subst (λ (l : ℕ). (is_same_name received.name received.name && eqb (number_of received.kind) (number_of received.kind) && eqb l received.key_length && are_same_types own.types received.types) ≡ true) (sym size)
    (subst (λ (ts : List (DataType × Option ℕ)). (is_same_name received.name received.name && eqb (number_of received.kind) (number_of received.kind) && eqb received.key_length received.key_length && are_same_types ts received.types) ≡ true) (sym types)
    (rw (same_name received.name, eq-eqb (number_of received.kind) (number_of received.kind) refl, eq-eqb received.key_length received.key_length refl, same_types received.types) refl))))

-- definitions that test as the same are equal
pub same_definition : (own received : Definition) → is_same_definition own received ≡ true → own ≡ received
same_definition own received h =
    let ids : Bool = eqb own.id received.id && eqb own.expire received.expire in
    let shape = shape_means own received (and-right ids (is_shape_of own received) (grouped (eqb own.id received.id) (eqb own.expire received.expire) (is_shape_of own received) h)) in
    let both = and-left ids (is_shape_of own received) (grouped (eqb own.id received.id) (eqb own.expire received.expire) (is_shape_of own received) h) in
    let id = eqb-is own.id received.id (and-left (eqb own.id received.id) (eqb own.expire received.expire) both) in
    let expire = eqb-is own.expire received.expire (and-right (eqb own.id received.id) (eqb own.expire received.expire) both) in
    shape ∙ ap (λ (n : ℕ). record received { id = n; expire = own.expire }) id ∙ ap (λ (n : ℕ). record received { expire = n }) expire
  where
    grouped : (a b c : Bool) → (a && b && c) ≡ true → ((a && b) && c) ≡ true
    grouped a b c h = h

-- and equal definitions test as the same
pub definition_same : (own received : Definition) → own ≡ received → is_same_definition own received ≡ true
definition_same own received is =
    let shape : is_shape_of own received ≡ true = means_shape own received (is ∙ ap (λ (d : Definition). record received { id = d.id; expire = d.expire }) (sym is)) in
    rw (eq-eqb own.id received.id (ap (λ (d : Definition). d.id) is), eq-eqb own.expire received.expire (ap (λ (d : Definition). d.expire) is), shape) refl

first_differs : (xs : List (DataType × Option ℕ)) → 0 < length xs → are_same_types xs [] ≡ false
first_differs [] lt = absurd (omega arith)
first_differs (x ∷ xs) lt = refl

-- a list with types left differs from the empty list
pub some_left : (ts hs : List (DataType × Option ℕ)) (i : ℕ) (r : Bool) → i < length ts → length hs ≡ 0 → are_same_types (drop i ts) hs ≡ r → false ≡ r
some_left ts [] i r lt none e = sym (first_differs (drop i ts) (omega (arith, length-drop i ts))) ∙ e
some_left ts (h ∷ hs) i r lt none e = absurd (omega arith)

-- what a decision procedure for a definition says about it, in both directions
pub said_so : {P : Type 0} → (b test : Bool) → b ≡ test → (test ≡ true → P) → (P → test ≡ true) → (IsTrue b → P) × (P → IsTrue b)
said_so b test is only if = ((λ t. only (sym is ∙ t)), (λ p. is ∙ if p))
