-- What the code finds is what the definitions say.
use Rattle.std.proofs.Common.{◌≡◌, ℕ, ◌<◌, ◌≤◌, ◌^◌, true, List, [], ◌∷◌, length, take, drop, Result, Ok, Err, refl, sym, ap, ◌∙◌, inl, inr, arith}
use Rattle.std.specs.Prelude.{nat_lt, IfErr, IfOk}
use Rattle.std.specs.List.{AllByRecursion, list_any}
use Rattle.std.proofs.lemmas.Bool.{cases_lt, lt-ltb, le-ltb}
use Rattle.std.proofs.lemmas.List.{append-nil, take-append-drop, length-take-le, length-drop}
use Rattle.table_types.specs.declared.update.Update.{Update}
use Rattle.price_checker.specs.Verdicts.{AreApartFrom, BeginApart}

-- what holds of a result other than out of memory
pub of_answer : {X E : Type 0} (result : Result X E) (p q : X → Type 0) → ((x : X) → p x → q x) → IfOk result p → IfOk result q
of_answer (Ok x) p q implied is = implied x is
of_answer (Err e) p q implied is = tt

-- what follows from out of memory
pub of_memory : {X E : Type 0} (result : Result X E) (p q : Type 0) → (p → q) → IfErr result (λ e. p) → IfErr result (λ e. q)
of_memory (Ok x) p q implied is = tt
of_memory (Err e) p q implied is = implied is

-- a price is above 2^32 if not all are at most that
pub some_above : (prices : List ℕ) → (AllByRecursion (λ price. price ≤ 2 ^ 32) prices → ⊥) → list_any (λ price. nat_lt (2 ^ 32) price) prices ≡ true
some_above [] none = absurd (none tt)
some_above (p ∷ ps) none = elim (cases_lt (2 ^ 32) p) [
  | inl lt ↦ rw (lt-ltb (2 ^ 32) p lt) refl
  | inr le ↦ rw (le-ltb (2 ^ 32) p le) (some_above ps (λ all. none (le, all)))
]

-- a list that begins a longer one differs from it where it ends
pub ends_early : (us carried : List Update) (count : ℕ) → count < length us → carried ≡ take count us → AreApartFrom count carried us
ends_early us carried count lt same = (
  take count us,
  [],
  drop count us,
  same ∙ sym (append-nil (take count us)),
  sym (take-append-drop count us),
  sym (length-take-le count us (omega arith)),
  goes_on (drop count us) refl,
)
  where
    goes_on : (rest : List Update) → drop count us ≡ rest → BeginApart [] (drop count us)
    goes_on [] e = let none : length (drop count us) ≡ 0 = ap length e in absurd (omega (arith, length-drop count us))
    goes_on (x ∷ xs) e = rw e tt
