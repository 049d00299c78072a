-- Lines of one cause that come one after another.
use Rattle.std.proofs.Common.{◌≡◌, ◌∙◌, ◌+◌, ◌-◌, ◌^◌, ◌<◌, ◌≤◌, inl, inr, Bool, true, ℕ, List, [], ◌∷◌, ap, arith, length, refl}
use Rattle.std.specs.Prelude.{Option, None, Some, if◌then◌else◌, min}
use Rattle.std.proofs.lemmas.Bool.{cases_Bool}
use Rattle.std.proofs.lemmas.Bool.Decides.{nat_tests}
use Rattle.node_log.specs.declared.limits.Limit.{Limit}
use Rattle.node_log.specs.Limits.{AreApart, IsSecondAfter, after_all, has_room, is_past, left_out, said_at, said_of, unsaid}

second_after : (now : ℕ) (a : Option ℕ) → is_past now a ≡ true → IsSecondAfter a now
second_after now None past = tt
second_after now (Some moment) past =
    let apart : 1000 ≤ now - moment = grind (arith, nat_tests) in
    omega (arith, apart)

apart_from : (moments : List ℕ) (a b c d e : Option ℕ) (omitted : ℕ) (since : Option ℕ)
    → AreApart a b c d e (said_of moments (record { said = e ∷ d ∷ c ∷ b ∷ a ∷ []; omitted = omitted; since = since }))
apart_from [] a b c d e omitted since = tt
apart_from (now ∷ more) a b c d e omitted since = elim (cases_Bool (is_past now a)) [
  | inl room ↦ rw room (second_after now a room, apart_from more b c d e (Some now) omitted since)
  | inr full ↦ rw full (apart_from more a b c d e _ _)
]

pub apart : (moments : List ℕ) → AreApart None None None None None (said_of moments unsaid)
apart moments = apart_from moments None None None None None 0 None

one_more : (now : ℕ) (moments : List ℕ) → length (now ∷ moments) ≡ 1 + length moments
one_more now moments = omega arith

counted_with : (omitted omitted' said said' all : ℕ) → omitted ≡ omitted' → said ≡ said' → omitted' + said' ≡ all → omitted + said ≡ all
counted_with omitted omitted' said said' all same same' sum = omega (arith, same, same', sum)

counted_from : (moments : List ℕ) (l : Limit) → l.omitted + length moments < 2 ^ 64
    → (after_all moments l).omitted + length (said_of moments l) ≡ l.omitted + length moments
counted_from [] l small = refl
counted_from (now ∷ more) l small = elim (cases_Bool (has_room now l)) [
  | inl room ↦
      let state = ap (λ (b : Bool). (after_all more (if b then said_at now l else left_out now l)).omitted) room in
      let said = ap (λ (b : Bool). length (if b then now ∷ said_of more (said_at now l) else said_of more (left_out now l))) room in
      let rest = counted_from more (said_at now l) (omega arith) in
      counted_with (after_all (now ∷ more) l).omitted _ (length (said_of (now ∷ more) l)) (1 + length (said_of more (said_at now l))) _ state
      (said ∙ one_more now (said_of more (said_at now l))) (omega (arith, rest))
  | inr full ↦
      let one : min (l.omitted + 1) (2 ^ 64 - 1) ≡ l.omitted + 1 = omega arith in
      let state = ap (λ (b : Bool). (after_all more (if b then said_at now l else left_out now l)).omitted) full in
      let said = ap (λ (b : Bool). length (if b then now ∷ said_of more (said_at now l) else said_of more (left_out now l))) full in
      let rest = counted_from more (left_out now l) (omega (arith, one)) in
      counted_with (after_all (now ∷ more) l).omitted _ (length (said_of (now ∷ more) l)) _ _ state said (omega (arith, one, rest))
]

pub counted : (moments : List ℕ) → length moments < 2 ^ 64 → (after_all moments unsaid).omitted + length (said_of moments unsaid) ≡ length moments
counted moments small = let all = counted_from moments unsaid (omega arith) in omega (arith, all)
