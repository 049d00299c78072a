-- Texts that are appended one after another.
use Rattle.std.proofs.Common.{◌≡◌, ◌∙◌, ◌++◌, ℕ, List, ap}
use Rattle.std.proofs.lemmas.List.{append_assoc}

-- one text, and then another
pub joined : (text a b x y : List ℕ) → x ≡ text ++ a → y ≡ x ++ b → y ≡ text ++ (a ++ b)
joined text a b x y first next = next ∙ ap (λ t. t ++ b) first ∙ append_assoc text a b

-- two texts at once, and then another
pub joined_pair : (text a b rest x y : List ℕ) → x ≡ text ++ (a ++ b) → y ≡ x ++ rest → y ≡ text ++ (a ++ (b ++ rest))
joined_pair text a b rest x y first next = joined text (a ++ b) rest x y first next ∙ ap (λ t. text ++ t) (append_assoc a b rest)

-- one text, and what is still to come
pub before_rest : (text a rest x : List ℕ) → x ≡ text ++ a → x ++ rest ≡ text ++ (a ++ rest)
before_rest text a rest x first = ap (λ t. t ++ rest) first ∙ append_assoc text a rest
