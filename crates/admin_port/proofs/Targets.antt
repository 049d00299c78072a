-- Targets of HTTP requests.
use Rattle.std.proofs.Common.{◌≡◌, ◌∙◌, ◌++◌, ℕ, List, [], ◌∷◌, ap, refl, subst, sym}
use Rattle.std.specs.Prelude.{◌==◌, Contains, if◌then◌else◌}
use Rattle.std.proofs.lemmas.Bool.{cond-false, ne_eqb}
use Rattle.admin_port.specs.HttpRequests.{path_of}
use Rattle.admin_port.proofs.LineWords.{here, later}

byte_before : (b : ℕ) (xs path : List ℕ) → (Contains (b ∷ xs) 63 → ⊥) → (if b == 63 then [] else b ∷ path) ≡ b ∷ path
byte_before b xs path none =
    cond-false (b == 63) [] (b ∷ path) (ne_eqb b 63 (λ same. none (subst (λ x. Contains (x ∷ xs) 63) (sym same) (here 63 xs))))

before : (path query : List ℕ) → (Contains path 63 → ⊥) → path_of (path ++ 63 ∷ query) ≡ path
before [] query none = refl
before (b ∷ path) query none =
    byte_before b path (path_of (path ++ 63 ∷ query)) none ∙ ap (λ p. b ∷ p) (before path query (λ has. none (later b 63 path has)))

-- a target with a query
pub before_query : (target path query : List ℕ) → target ≡ path ++ 63 ∷ query → (Contains path 63 → ⊥) → path_of target ≡ path
before_query target path query cut none = ap path_of cut ∙ before path query none

-- a target without one
pub without_query : (target : List ℕ) → (Contains target 63 → ⊥) → path_of target ≡ target
without_query [] none = refl
without_query (b ∷ target) none =
    byte_before b target (path_of target) none ∙ ap (λ p. b ∷ p) (without_query target (λ has. none (later b 63 target has)))
