-- The kind found for a number has that number.
use Rattle.std.proofs.Common.{◌≡◌, ℕ, Bool, true, false, if◌then◌else◌, eqb, Option, Some, None, refl, sym, ap, ◌∙◌, inl, inr, ◌⊎◌}
use Rattle.std.proofs.lemmas.Bool.{cases_eq, ne_eqb, eq-eqb}
use Rattle.table_types.specs.declared.key.KeyKind.{KeyKind}
use Rattle.table_types.specs.declared.key.KeyKind.TheVariants as kinds
use Rattle.table_types.specs.Keys.{number_of, kind_at}

-- at each number either its kind is found, or the search goes on
step : (n number : ℕ) (there kind : KeyKind) (rest : Option KeyKind) → number ≡ number_of there → (if eqb n number then Some there else rest) ≡ Some kind → (rest ≡ Some kind → n ≡ number_of kind) → n ≡ number_of kind
step n number there kind rest is e later = elim (cases_eq n number) [
  | inl same ↦ same ∙ is ∙ ap number_of (one there kind (sym (ap (λ (b : Bool). if b then Some there else rest) (eq-eqb n number same)) ∙ e))
  | inr other ↦ later (sym (ap (λ (b : Bool). if b then Some there else rest) (ne_eqb n number other)) ∙ e)
]
  where
    one : (a b : KeyKind) → Some a ≡ Some b → a ≡ b
    one a b e = cc

none : (kind : KeyKind) (n : ℕ) → ◌≡◌ {A = Option KeyKind} None (Some kind) → n ≡ number_of kind
none kind n e = absurd cc

pub kind_numbered : (n : ℕ) (kind : KeyKind) → kind_at n ≡ Some kind → n ≡ number_of kind
kind_numbered n kind e =
    step n 2 kinds.Integer kind _ refl e (λ e.
    step n 4 kinds.Ip4 kind _ refl e (λ e.
    step n 5 kinds.Ip6 kind _ refl e (λ e.
    step n 6 kinds.String kind _ refl e (λ e.
    step n 7 kinds.Binary kind _ refl e (λ e. none kind n e)))))
