-- The first line of some bytes.
use Rattle.std.proofs.Common.{◌≡◌, ◌∙◌, ◌++◌, false, ℕ, List, [], ◌∷◌, None, Option, Some, ap, refl, subst, sym}
use Rattle.std.specs.Prelude.{◌==◌, Contains, if◌then◌else◌, is_some, option_and_then, option_map}
use Rattle.std.proofs.lemmas.Bool.{cond-false, ne_eqb}
use Rattle.admin_port.specs.HttpRequests.{begins_http, first_line, http_request}
use Rattle.admin_port.proofs.LineWords.{here, later}

byte_before : (b : ℕ) (xs : List ℕ) (line : Option (List ℕ)) → (Contains (b ∷ xs) 10 → ⊥)
    → (if b == 10 then Some [] else option_map (λ rest. b ∷ rest) line) ≡ option_map (λ rest. b ∷ rest) line
byte_before b xs line none =
    cond-false (b == 10) (Some []) (option_map (λ rest. b ∷ rest) line)
    (ne_eqb b 10 (λ same. none (subst (λ x. Contains (x ∷ xs) 10) (sym same) (here 10 xs))))

ended : (line rest : List ℕ) → (Contains line 10 → ⊥) → first_line (line ++ 10 ∷ rest) ≡ Some line
ended [] rest none = refl
ended (b ∷ line) rest none =
    byte_before b line (first_line (line ++ 10 ∷ rest)) none
    ∙ ap (option_map (λ more. b ∷ more)) (ended line rest (λ has. none (later b 10 line has)))

endless : (bytes : List ℕ) → (Contains bytes 10 → ⊥) → first_line bytes ≡ None
endless [] none = refl
endless (b ∷ bytes) none =
    byte_before b bytes (first_line bytes) none
    ∙ ap (option_map (λ more. b ∷ more)) (endless bytes (λ has. none (later b 10 bytes has)))

-- bytes with a whole line
pub some_line : (bytes line rest : List ℕ) → bytes ≡ line ++ 10 ∷ rest → (Contains line 10 → ⊥)
    → begins_http bytes ≡ is_some (http_request line)
some_line bytes line rest cut none = ap (λ l. is_some (option_and_then http_request l)) (ap first_line cut ∙ ended line rest none)

-- bytes without one
pub no_line : (bytes : List ℕ) → (Contains bytes 10 → ⊥) → begins_http bytes ≡ false
no_line bytes none = ap (λ l. is_some (option_and_then http_request l)) (endless bytes none)
