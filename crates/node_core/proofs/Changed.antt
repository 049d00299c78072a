-- A peer in a list that is set is changed.
use Rattle.std.proofs.Common.{◌≡◌, refl, ap, ℕ, zero, suc, List, [], ◌∷◌, Some, slice_set, length, ◌≤◌, arith}
use Rattle.std.specs.Prelude.{slice_get}
use Rattle.node_core.specs.declared.asking.Candidate.{Candidate}
use Rattle.node_core.specs.CatchingUp.{changed}

pub set_changed : (f : Candidate → Candidate) (ps : List Candidate) (i : ℕ) (p : Candidate) → slice_get ps i ≡ Some p → slice_set ps i (f p) ≡ changed f i ps
set_changed f [] i p found = refl
set_changed f (q ∷ ps) zero p found = cc
set_changed f (q ∷ ps) (suc i) p found = ap (λ (rest : List Candidate). q ∷ rest) (set_changed f ps i p found)

pub past_changed : (f : Candidate → Candidate) (ps : List Candidate) (i : ℕ) → length ps ≤ i → ps ≡ changed f i ps
past_changed f [] i past = refl
past_changed f (q ∷ ps) zero past = absurd (omega (arith, past))
past_changed f (q ∷ ps) (suc i) past = ap (λ (rest : List Candidate). q ∷ rest) (past_changed f ps i (omega (arith, past)))

pub constant_changed : (c : Candidate) (ps : List Candidate) (i : ℕ) → slice_set ps i c ≡ changed (λ _. c) i ps
constant_changed c [] i = refl
constant_changed c (q ∷ ps) zero = refl
constant_changed c (q ∷ ps) (suc i) = ap (λ (rest : List Candidate). q ∷ rest) (constant_changed c ps i)
