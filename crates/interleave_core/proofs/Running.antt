-- A run goes on by one step, and a loop over a list by one element.
use Rattle.std.proofs.Common.{◌≡◌, ℕ, ◌+◌, ◌<◌, ◌≤◌, List, ◌∷◌, length, get_or, drop, refl, sym, ap, subst, ◌∙◌}
use Rattle.std.proofs.lemmas.List.{drop_more, drop_all}
use Rattle.std.specs.List.{AllByRecursion}
use Rattle.interleave_core.specs.declared.step.Step.{Step}
use Rattle.interleave_core.specs.Moves.{Moves, RunsTo}
use Rattle.interleave_core.specs.Worlds.{WorldState}

-- whatever the remaining steps lead to, the whole run leads to
abbrev pub LeadsOn : WorldState → List Step → WorldState → List Step → Type 0
LeadsOn start steps now rest = (e : WorldState) → RunsTo now rest e → RunsTo start steps e

pub leads_further : (start now next : WorldState) (steps : List Step) (i : ℕ) (step : Step) → i < length steps → step ≡ get_or steps i step → Moves now step next
    → LeadsOn start steps now (drop i steps) → LeadsOn start steps next (drop (i + 1) steps)
leads_further start now next steps i step below is moves leads = λ (e : WorldState) (runs : RunsTo next (drop (i + 1) steps) e).
    let split : drop i steps ≡ step ∷ drop (i + 1) steps = drop_more steps i step below ∙ ap (λ (x : Step). x ∷ drop (i + 1) steps) (sym is) in
    leads e (subst (λ (rest : List Step). RunsTo now rest e) (sym split) (next, moves, runs))

pub led : (start now : WorldState) (steps : List Step) (i : ℕ) → length steps ≤ i → LeadsOn start steps now (drop i steps) → RunsTo start steps now
led start now steps i past leads = leads now (subst (λ (rest : List Step). RunsTo now rest now) (sym (drop_all i steps past)) refl)

-- what holds of all elements if it holds of the rest, holds of them if it holds of the rest after one more
pub all_further : {A : Type 0} (P : A → Type 0) (xs : List A) (i : ℕ) (x : A) → i < length xs → x ≡ get_or xs i x → P x
    → (AllByRecursion P (drop i xs) → AllByRecursion P xs) → AllByRecursion P (drop (i + 1) xs) → AllByRecursion P xs
all_further {A} P xs i x below is one all = λ (rest : AllByRecursion P (drop (i + 1) xs)).
    let split : drop i xs ≡ x ∷ drop (i + 1) xs = drop_more xs i x below ∙ ap (λ (y : A). y ∷ drop (i + 1) xs) (sym is) in
    all (subst (λ (l : List A). AllByRecursion P l) (sym split) (one, rest))
