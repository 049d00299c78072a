-- The bits and periods of a definition read are the spelling of its types.
use Rattle.std.proofs.Common.{◌≡◌, ℕ, ◌+◌, ◌*◌, ◌/◌, ◌%◌, ◌^◌, ◌<◌, true, leb, eqb, List, [], ◌∷◌, ◌++◌, length, Option, Some, None, Ok, refl, ap, subst, ◌∙◌, arith, inl, inr}
use Rattle.std.specs.List.{flat_map, list_all}
use Rattle.std.proofs.lemmas.Bool.{leb-true, le-leb, eqb-true, eqb-false, and_parts, and_from}
use Rattle.std.proofs.lemmas.List.Concat.{flat_map-cons}
use Rattle.std.proofs.lemmas.List.Sums.{sum_by-cons}
use Rattle.std.proofs.lemmas.Nat.{pow-add}
use Rattle.peers_encint.specs.Integers.{spelling, IsBytes}
use Rattle.table_types.specs.declared.data_type.DataType.{DataType}
use Rattle.table_types.specs.DataTypes.{id_of, is_rate}
use Rattle.table_types.specs.Tables.{is_period, has_its_period, rise_from}
use Rattle.peers_msg.specs.declared.fault.Breach.TheVariants.{BadDefinition}
use Rattle.peers_msg.specs.Spelling.{bits_of, period_text}
use Rattle.peers_msg.specs.Reading.{integer_at, period_at, types_at}
use Rattle.peers_msg.proofs.FieldCanonical.{Takes, Takes-then, nothing_taken, bind_ok, wanted_ok, ok_is, chosen, integer_takes}
use Rattle.peers_msg.proofs.TypeRoundTrip.{AreFrom}

-- a type with its period, or without one
abbrev IsEntry : DataType → List ℕ → Option ℕ × List ℕ → Type 0
IsEntry t bytes x = Takes bytes (period_text (t, x.0)) x.1 × (has_its_period (t, x.0) ≡ true)

pub period_takes : (t : DataType) (bytes : List ℕ) (x : Option ℕ × List ℕ) → IsBytes bytes → period_at t bytes ≡ Ok x → IsEntry t bytes x
unfolding period_at
period_takes t bytes x fits e =
    elim (chosen (is_rate t) _ (Ok (None, bytes)) (Ok x) e) [
      | inl is ↦
          let a = bind_ok (integer_at BadDefinition bytes) _ _ is.1 in
          let w = wanted_ok (eqb a.0.0 (id_of t)) BadDefinition _ _ a.2 in
          let b = bind_ok (integer_at BadDefinition a.0.1) _ _ w.1 in
          let v = wanted_ok (is_period (Some b.0.0)) BadDefinition _ _ b.2 in
          let t0 = integer_takes BadDefinition bytes a.0 fits a.1 in
          let t1 = integer_takes BadDefinition a.0.1 b.0 t0.0.fits b.1 in
          let both = Takes-then bytes (spelling a.0.0) a.0.1 (spelling b.0.0) b.0.1 t0.0 t1.0 in
          let whole : Takes bytes (period_text (t, Some b.0.0)) b.0.1 = subst (λ (id : ℕ). Takes bytes (spelling id ++ spelling b.0.0) b.0.1) (eqb-true _ _ w.0) both in
          let found : Option ℕ × List ℕ = (Some b.0.0, b.0.1) in
          let period : has_its_period (t, Some b.0.0) ≡ true = rw is.0 v.0 in
          subst (IsEntry t bytes) (ok_is found x v.1) (whole, period)
      | inr isnt ↦
          let found : Option ℕ × List ℕ = (None, bytes) in
          let none : has_its_period (t, None) ≡ true = rw isnt.0 refl in
          subst (IsEntry t bytes) (ok_is found x isnt.1) (nothing_taken bytes fits, none)
    ]

rise_sooner : (k : ℕ) (es : List (DataType × Option ℕ)) → rise_from (k + 1) es ≡ true → rise_from k es ≡ true
rise_sooner k [] h = refl
rise_sooner k (e ∷ es) h =
    let a = and_parts (leb (k + 1) (id_of e.0)) (rise_from (id_of e.0 + 1) es) h in
    and_from _ _ (le-leb k (id_of e.0) (omega (arith, leb-true (k + 1) (id_of e.0) a.0))) a.1

even_sum : (unit bits half : ℕ) → bits ≡ 2 * half → (unit * 2) * half ≡ unit * bits
even_sum unit bits half e = rw e (omega arith)

odd_sum : (unit bits half : ℕ) → bits ≡ 1 + 2 * half → unit + (unit * 2) * half ≡ unit * bits
odd_sum unit bits half e = rw e (omega arith)

-- types with ids from k on that have these bits
abbrev AreEntries : ℕ → ℕ → List ℕ → List (DataType × Option ℕ) × List ℕ → Type 0
AreEntries k bits bytes x =
    Takes bytes (flat_map period_text x.0) x.1 × (bits_of x.0 ≡ 2 ^ k * bits) × (list_all has_its_period x.0 ≡ true) × (rise_from k x.0 ≡ true)

pub types_take : (k : ℕ) (ts : List DataType) (bits : ℕ) (bytes : List ℕ) (x : List (DataType × Option ℕ) × List ℕ) → AreFrom k ts → bits < 2 ^ length ts → IsBytes bytes → types_at ts bits bytes ≡ Ok x → AreEntries k bits bytes x
unfolding types_at
types_take k [] bits bytes x are less fits e =
    let found : List (DataType × Option ℕ) × List ℕ = ([], bytes) in
    let none : bits ≡ 0 = omega arith in
    subst (AreEntries k bits bytes) (ok_is found x e) (nothing_taken bytes fits, rw none (omega arith), refl, refl)
types_take k (t ∷ ts) bits bytes x are less fits e =
    let more : 2 ^ (k + 1) ≡ 2 ^ k * 2 = pow-add 2 k 1 in
    let room : 2 ^ (length ts + 1) ≡ 2 ^ length ts * 2 = pow-add 2 (length ts) 1 in
    let long : length (t ∷ ts) ≡ length ts + 1 = omega arith in
    let less_all : bits < 2 ^ (length ts + 1) = subst (λ (n : ℕ). bits < 2 ^ n) long less in
    let less_half : bits / 2 < 2 ^ length ts = omega arith in
    elim (chosen (eqb (bits % 2) 0) (types_at ts (bits / 2) bytes) _ (Ok x) e) [
      | inl even ↦
          let others = types_take (k + 1) ts (bits / 2) bytes x are.1 less_half fits even.1 in
          let twice : bits ≡ 2 * (bits / 2) = omega (arith, eqb-true (bits % 2) 0 even.0) in
          let sum : bits_of x.0 ≡ 2 ^ k * bits = others.1 ∙ rw more (even_sum (2 ^ k) bits (bits / 2) twice) in
          (others.0, sum, others.2, rise_sooner k x.0 others.3)
      | inr odd ↦
          let a = bind_ok (period_at t bytes) _ _ odd.1 in
          let b = bind_ok (types_at ts (bits / 2) a.0.1) _ _ a.2 in
          let one = period_takes t bytes a.0 fits a.1 in
          let others = types_take (k + 1) ts (bits / 2) a.0.1 b.0 are.1 less_half one.0.fits b.1 in
          let es : List (DataType × Option ℕ) = (t, a.0.0) ∷ b.0.0 in
          let both = Takes-then bytes (period_text (t, a.0.0)) a.0.1 (flat_map period_text b.0.0) b.0.1 one.0 others.0 in
          let whole : Takes bytes (flat_map period_text es) b.0.1 = rw (flat_map-cons period_text (t, a.0.0) b.0.0) both in
          let twice : bits ≡ 1 + 2 * (bits / 2) = omega (arith, eqb-false (bits % 2) 0 odd.0) in
          let here : 2 ^ id_of t ≡ 2 ^ k = ap (λ (n : ℕ). 2 ^ n) are.0 in
          let cell : bits_of es ≡ 2 ^ id_of t + bits_of b.0.0 = sum_by-cons (λ (t : DataType × Option ℕ). 2 ^ id_of t.0) (t, a.0.0) b.0.0 in
          let sum : bits_of es ≡ 2 ^ k * bits = cell ∙ rw (here, others.1, more) (odd_sum (2 ^ k) bits (bits / 2) twice) in
          let rises : rise_from k es ≡ true = and_from _ _ (le-leb k (id_of t) (omega (arith, are.0))) (ap (λ (id : ℕ). rise_from (id + 1) b.0.0) are.0 ∙ others.3) in
          let found : List (DataType × Option ℕ) × List ℕ = (es, b.0.1) in
          subst (AreEntries k bits bytes) (ok_is found x b.2) (whole, sum, and_from _ _ one.1 others.2, rises)
    ]
