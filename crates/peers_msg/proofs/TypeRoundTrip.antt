-- The types of a definition are read back from the spelling of their bits and periods.
use Rattle.std.proofs.Common.{◌≡◌, ℕ, ◌+◌, ◌-◌, ◌*◌, ◌/◌, ◌%◌, ◌^◌, ◌<◌, ◌≤◌, true, false, ltb, leb, eqb, List, [], ◌∷◌, ◌++◌, length, get_or, Option, Some, None, Ok, refl, sym, ap, ◌∙◌, append_assoc, arith, inl, inr}
use Rattle.std.specs.List.{flat_map, list_all}
use Rattle.std.proofs.lemmas.Bool.{cases_Bool, cases_eq, le-leb, ltb-true, leb-true, eq-eqb, ne_eqb, and_parts}
use Rattle.std.proofs.lemmas.List.Concat.{flat_map-cons}
use Rattle.std.proofs.lemmas.List.Sums.{sum_by-cons}
use Rattle.std.proofs.Math.Nat.{pow-le-pow_right, eq_of_mul-eq-mul_left}
use Rattle.std.proofs.lemmas.Nat.{pow-add, pow_pos}
use Rattle.peers_encint.specs.Integers.{spelling}
use Rattle.table_types.specs.declared.data_type.DataType.{DataType}
use Rattle.table_types.specs.declared.data_type.DataType.TheVariants.{ServerId, Gpt0, Gpc0, Gpc0Rate, ConnCnt, ConnRate, ConnCur, SessCnt, SessRate, HttpReqCnt, HttpReqRate, HttpErrCnt, HttpErrRate, BytesInCnt, BytesInRate, BytesOutCnt, BytesOutRate, Gpc1, Gpc1Rate, ServerKey}
use Rattle.table_types.specs.DataTypes.{id_of, all_types, is_rate}
use Rattle.table_types.specs.Tables.{is_period, has_its_period, rise_from}
use Rattle.peers_msg.specs.declared.fault.Breach.TheVariants.{BadDefinition}
use Rattle.peers_msg.specs.Spelling.{bits_of, period_text}
use Rattle.peers_msg.specs.Reading.{◌>>=◌, period_at, types_at}
use Rattle.peers_msg.proofs.FieldRoundTrip.{integer_again}

-- ---- types and their ids

-- the types have consecutive ids, from k on
abbrev pub AreFrom : ℕ → List DataType → Type 0
AreFrom k [] = Unit {0}
AreFrom k (t ∷ ts) = (id_of t ≡ k) × AreFrom (k + 1) ts

pub all_are : AreFrom 0 all_types
all_are = (refl, (refl, (refl, (refl, (refl, (refl, (refl, (refl, (refl, (refl, (refl, (refl, (refl, (refl, (refl, (refl, (refl, (refl, (refl, (refl, tt))))))))))))))))))))

type_of_id : (t : DataType) → get_or all_types (id_of t) ServerId ≡ t
type_of_id ServerId = refl
type_of_id Gpt0 = refl
type_of_id Gpc0 = refl
type_of_id Gpc0Rate = refl
type_of_id ConnCnt = refl
type_of_id ConnRate = refl
type_of_id ConnCur = refl
type_of_id SessCnt = refl
type_of_id SessRate = refl
type_of_id HttpReqCnt = refl
type_of_id HttpReqRate = refl
type_of_id HttpErrCnt = refl
type_of_id HttpErrRate = refl
type_of_id BytesInCnt = refl
type_of_id BytesInRate = refl
type_of_id BytesOutCnt = refl
type_of_id BytesOutRate = refl
type_of_id Gpc1 = refl
type_of_id Gpc1Rate = refl
type_of_id ServerKey = refl

-- each id belongs to one type
pub one_type : (a b : DataType) → id_of a ≡ id_of b → a ≡ b
one_type a b e = sym (type_of_id a) ∙ ap (λ (id : ℕ). get_or all_types id ServerId) e ∙ type_of_id b

id_below : (t : DataType) → ltb (id_of t) 20 ≡ true
id_below ServerId = refl
id_below Gpt0 = refl
id_below Gpc0 = refl
id_below Gpc0Rate = refl
id_below ConnCnt = refl
id_below ConnRate = refl
id_below ConnCur = refl
id_below SessCnt = refl
id_below SessRate = refl
id_below HttpReqCnt = refl
id_below HttpReqRate = refl
id_below HttpErrCnt = refl
id_below HttpErrRate = refl
id_below BytesInCnt = refl
id_below BytesInRate = refl
id_below BytesOutCnt = refl
id_below BytesOutRate = refl
id_below Gpc1 = refl
id_below Gpc1Rate = refl
id_below ServerKey = refl

pub is_below : (t : DataType) → id_of t < 20
is_below t = ltb-true (id_of t) 20 (id_below t)

-- ---- periods

pub period_again : (t : DataType) (p : Option ℕ) (rest : List ℕ) → has_its_period (t, p) ≡ true → period_at t (period_text (t, p) ++ rest) ≡ Ok (p, rest)
unfolding period_at
period_again t None rest h =
    elim (cases_Bool (is_rate t)) [
      | inl is ↦ absurd (let wrong : false ≡ true = rw is at h in cc)
      | inr isnt ↦ rw isnt refl
    ]
period_again t (Some p) rest h =
    elim (cases_Bool (is_rate t)) [
      | inl is ↦
          let fits : is_period (Some p) ≡ true = rw is at h in
          let less : p < 2 ^ 64 = omega (arith, ltb-true p (2 ^ 32) (and_parts (leb 1 p) (ltb p (2 ^ 32)) fits).1) in
          let less_id : id_of t < 2 ^ 64 = omega (arith, is_below t) in
          ap (period_at t) (append_assoc (spelling (id_of t)) (spelling p) rest)
          ∙ rw (is, integer_again BadDefinition (id_of t) (spelling p ++ rest) less_id, eq-eqb (id_of t) (id_of t) refl, integer_again BadDefinition p rest less, fits) refl
      | inr isnt ↦ absurd (let wrong : false ≡ true = rw isnt at h in cc)
    ]

-- ---- bits

-- the other factors of equal multiples of 2 ^ k are equal
left_of : (k x y : ℕ) → 2 ^ k * x ≡ 2 ^ k * y → x ≡ y
left_of k x y e = eq_of_mul-eq-mul_left (2 ^ k) (pow_pos k) x y e

-- the bits of types with ids from k on are a multiple of 2 ^ k
multiple : (k : ℕ) (es : List (DataType × Option ℕ)) → rise_from k es ≡ true → (m : ℕ) × (bits_of es ≡ 2 ^ k * m)
multiple k [] h = (0, omega arith)
multiple k (e ∷ es) h =
    let a = and_parts (leb k (id_of e.0)) (rise_from (id_of e.0 + 1) es) h in
    let le : k ≤ id_of e.0 = leb-true k (id_of e.0) a.0 in
    let others = multiple (id_of e.0 + 1) es a.1 in
    let split : id_of e.0 ≡ k + (id_of e.0 - k) = omega arith in
    let here : 2 ^ id_of e.0 ≡ 2 ^ k * 2 ^ (id_of e.0 - k) = ap (λ (n : ℕ). 2 ^ n) split ∙ pow-add 2 k (id_of e.0 - k) in
    let more : 2 ^ (id_of e.0 + 1) ≡ 2 ^ id_of e.0 * 2 = pow-add 2 (id_of e.0) 1 in
    let cell : bits_of (e ∷ es) ≡ 2 ^ id_of e.0 + bits_of es = sum_by-cons (λ (t : DataType × Option ℕ). 2 ^ id_of t.0) e es in
    (2 ^ (id_of e.0 - k) + (2 ^ (id_of e.0 - k) * 2) * others.0, rw (cell, others.1, more, here) (omega arith))

-- and added to 2 ^ k they are at most 2 ^ 20
pub bits_within : (k : ℕ) (es : List (DataType × Option ℕ)) → k ≤ 20 → rise_from k es ≡ true → bits_of es + 2 ^ k ≤ 2 ^ 20
bits_within k [] le h =
    let within : 2 ^ k ≤ 2 ^ 20 = pow-le-pow_right {n = 2} (omega arith) {i = k} {j = 20} le in
    omega arith
bits_within k (e ∷ es) le h =
    let a = and_parts (leb k (id_of e.0)) (rise_from (id_of e.0 + 1) es) h in
    let le : k ≤ id_of e.0 = leb-true k (id_of e.0) a.0 in
    let others = bits_within (id_of e.0 + 1) es (omega (arith, is_below e.0)) a.1 in
    let more : 2 ^ (id_of e.0 + 1) ≡ 2 ^ id_of e.0 * 2 = pow-add 2 (id_of e.0) 1 in
    let cell : bits_of (e ∷ es) ≡ 2 ^ id_of e.0 + bits_of es = sum_by-cons (λ (t : DataType × Option ℕ). 2 ^ id_of t.0) e es in
    let less : 2 ^ k ≤ 2 ^ id_of e.0 = pow-le-pow_right {n = 2} (omega arith) {i = k} {j = id_of e.0} le in
    rw cell (omega arith)

-- the bit of the first type is not set
passed_over : (t : DataType) (ts : List DataType) (bits m : ℕ) (bytes : List ℕ) → bits ≡ 2 * m → types_at (t ∷ ts) bits bytes ≡ types_at ts m bytes
unfolding types_at
passed_over t ts bits m bytes e =
    let even : eqb (bits % 2) 0 ≡ true = eq-eqb (bits % 2) 0 (omega arith) in
    let half : bits / 2 ≡ m = omega arith in
    rw (even, half) refl

-- the bit of the first type is set
taken : (t : DataType) (ts : List DataType) (bits m : ℕ) (bytes : List ℕ) → bits ≡ 1 + 2 * m → types_at (t ∷ ts) bits bytes ≡ (period_at t bytes >>= λ period. types_at ts m period.1 >>= λ others. Ok ((t, period.0) ∷ others.0, others.1))
unfolding types_at
taken t ts bits m bytes e =
    let odd : eqb (bits % 2) 0 ≡ false = ne_eqb (bits % 2) 0 (λ even. omega arith) in
    let half : bits / 2 ≡ m = omega arith in
    rw (odd, half) refl

pub types_again : (k : ℕ) (ts : List DataType) (es : List (DataType × Option ℕ)) (bits : ℕ) (rest : List ℕ) → AreFrom k ts → k + length ts ≡ 20 → rise_from k es ≡ true → list_all has_its_period es ≡ true → bits_of es ≡ 2 ^ k * bits → types_at ts bits (flat_map period_text es ++ rest) ≡ Ok (es, rest)
unfolding types_at
types_again k [] [] bits rest are len rise periods sum = refl
types_again k [] (e ∷ es) bits rest are len rise periods sum =
    let le : k ≤ id_of e.0 = leb-true k (id_of e.0) (and_parts (leb k (id_of e.0)) (rise_from (id_of e.0 + 1) es) rise).0 in
    absurd (omega (arith, is_below e.0))
types_again k (t ∷ ts) [] bits rest are len rise periods sum =
    let none : bits ≡ 0 = left_of k bits 0 (sym sum ∙ omega arith) in
    passed_over t ts bits 0 rest (omega arith) ∙ types_again (k + 1) ts [] 0 rest are.1 (omega arith) refl refl (omega arith)
types_again k (t ∷ ts) (e ∷ es) bits rest are len rise periods sum =
    let a = and_parts (leb k (id_of e.0)) (rise_from (id_of e.0 + 1) es) rise in
    let le : k ≤ id_of e.0 = leb-true k (id_of e.0) a.0 in
    let p = and_parts (has_its_period e) (list_all has_its_period es) periods in
    let more : 2 ^ (k + 1) ≡ 2 ^ k * 2 = pow-add 2 k 1 in
    elim (cases_eq k (id_of e.0)) [
      | inl same ↦
          let is : t ≡ e.0 = one_type t e.0 (are.0 ∙ same) in
          let rises : rise_from (k + 1) es ≡ true = ap (λ (id : ℕ). rise_from (id + 1) es) same ∙ a.1 in
          let others = multiple (k + 1) es rises in
          let cell : bits_of (e ∷ es) ≡ 2 ^ id_of e.0 + bits_of es = sum_by-cons (λ (t : DataType × Option ℕ). 2 ^ id_of t.0) e es in
          let here : 2 ^ id_of e.0 ≡ 2 ^ k = ap (λ (n : ℕ). 2 ^ n) (sym same) in
          let odd : bits ≡ 1 + 2 * others.0 = left_of k bits (1 + 2 * others.0) (sym sum ∙ rw (cell, here, others.1, more) (omega arith)) in
          let regrouped : flat_map period_text (e ∷ es) ++ rest ≡ period_text e ++ (flat_map period_text es ++ rest) = ap (λ (x : List ℕ). x ++ rest) (flat_map-cons period_text e es) ∙ append_assoc (period_text e) (flat_map period_text es) rest in
          let read : period_at t (period_text e ++ (flat_map period_text es ++ rest)) ≡ Ok (e.1, flat_map period_text es ++ rest) = rw is (period_again e.0 e.1 (flat_map period_text es ++ rest) p.0) in
          let after : types_at ts others.0 (flat_map period_text es ++ rest) ≡ Ok (es, rest) = types_again (k + 1) ts es others.0 rest are.1 (omega arith) rises p.1 others.1 in
          ap (types_at (t ∷ ts) bits) regrouped
          ∙ taken t ts bits others.0 (period_text e ++ (flat_map period_text es ++ rest)) odd
          ∙ rw (read, after) (ap (λ (t : DataType). Ok ((t, e.1) ∷ es, rest)) is)
      | inr other ↦
          let above : k + 1 ≤ id_of e.0 = omega (arith, other) in
          let rises : rise_from (k + 1) (e ∷ es) ≡ true = rw (le-leb (k + 1) (id_of e.0) above) a.1 in
          let all = multiple (k + 1) (e ∷ es) rises in
          let even : bits ≡ 2 * all.0 = left_of k bits (2 * all.0) (sym sum ∙ rw (all.1, more) (omega arith)) in
          passed_over t ts bits all.0 (flat_map period_text (e ∷ es) ++ rest) even ∙ types_again (k + 1) ts (e ∷ es) all.0 rest are.1 (omega arith) rises periods all.1
    ]
