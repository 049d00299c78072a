-- What clap reads as a number is the number that a text writes.
use Rattle.std.proofs.Common.{◌≡◌, ◌<◌, ◌≤◌, ◌^◌, ℕ, List, arith, inl, inr, refl, sym, ap, ◌∙◌}
use Rattle.std.specs.Prelude.{IfSome, Option, None, Some, Result, Ok, Err}
use Rattle.std.specs.Str.Parse.{ParsesUnsigned}
use Rattle.clap.specs.Matches.{ReadsOne, one_text}
use Rattle.clap.specs.Words.{Row, first_of, rows_of}
use Rattle.clap.specs.declared.parser.matches.Found.{Found}
use Rattle.clap.proofs.WalkLemmas.{one_text-rows}
use Rattle.peers_node.specs.CommandLine.{HasNumber, HasNumberOr}

none_some : (n : ℕ) → None ≡ Some n → ⊥
none_some n is = absurd (cc)

-- what was read is the option's number
pub number_read : {E : Type 0} (gives : List ℕ → Result ℕ E → Type 0) → ((t : List ℕ) (r : Result ℕ E) → gives t r → ParsesUnsigned 32 10 t r) → (f : Found) (id : List ℕ) (most n : ℕ) → (one_text f id ≡ None → Some n ≡ None)
    → ((t : List ℕ) → one_text f id ≡ Some t → ReadsOne gives t (Some n)) → 1 ≤ n → n ≤ most → HasNumber (rows_of f) id most n
number_read gives parses f id most n none value least greatest = go (one_text f id) refl
  where
    go : (o : Option (List ℕ)) → one_text f id ≡ o → HasNumber (rows_of f) id most n
    go None is = absurd (none_some n (sym (none is)))
    go (Some t) is =
        let parsed = parses t (Ok n) (value t is) in
        (t, sym (one_text-rows f id) ∙ is, (parsed.0.0, sym parsed.1, least, greatest))

-- the option has a number, so it is read
pub number_is_read : {E : Type 0} (gives : List ℕ → Result ℕ E → Type 0) → ((t : List ℕ) (r : Result ℕ E) → gives t r → ParsesUnsigned 32 10 t r) → (f : Found) (id : List ℕ) (most n : ℕ) (r : Option ℕ) → most < 2 ^ 32
    → ((t : List ℕ) → one_text f id ≡ Some t → ReadsOne gives t r) → HasNumber (rows_of f) id most n → r ≡ Some n
number_is_read gives parses f id most n None small value (t, is, writes) =
    let refused = value t (one_text-rows f id ∙ is) in
    absurd (parses t (Err refused.0) refused.1 (writes.0, (let w = writes.1 in omega (arith, w, writes.3, small))))
number_is_read gives parses f id most n (Some k) small value (t, is, writes) =
    let parsed = parses t (Ok k) (value t (one_text-rows f id ∙ is)) in
    ap (λ x. Some x) (parsed.1 ∙ writes.1)

pub number_within : (rows : List Row) (id : List ℕ) (most n : ℕ) → HasNumber rows id most n → (1 ≤ n) × (n ≤ most)
number_within rows id most n (t, is, writes) = (writes.2, writes.3)

pub number_or_least : (rows : List Row) (id : List ℕ) (most otherwise n : ℕ) → 1 ≤ otherwise → HasNumberOr rows id most otherwise n → 1 ≤ n
number_or_least rows id most otherwise n least (inl has) = (number_within rows id most n has).0
number_or_least rows id most otherwise n least (inr (none, is)) = omega (arith, is, least)

pub number_or_met : (rows : List Row) (id : List ℕ) (most otherwise : ℕ) (r : Option ℕ) → IfSome r (HasNumber rows id most) → IfSome r (HasNumberOr rows id most otherwise)
number_or_met rows id most otherwise None has = has
number_or_met rows id most otherwise (Some n) has = inl has

-- the option was met with another text than such a number
pub number_or_not : (rows : List Row) (id text : List ℕ) (most otherwise n : ℕ) → first_of id rows ≡ Some text → (HasNumber rows id most n → ⊥) → HasNumberOr rows id most otherwise n → ⊥
number_or_not rows id text most otherwise n met not (inl has) = not has
number_or_not rows id text most otherwise n met not (inr (none, is)) = absurd (text_none text (sym none ∙ met))
  where
    text_none : (t : List ℕ) → None ≡ Some t → ⊥
    text_none t is = absurd (cc)

pub same_number : (k n : ℕ) → Some k ≡ Some n → k ≡ n
same_number k n is = cc
