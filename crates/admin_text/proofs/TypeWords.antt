-- The name and the period in the word of a data type.
use Rattle.std.proofs.Common.{◌≡◌, ◌∙◌, ◌++◌, ℕ, List, [], ◌∷◌, ap, arith, refl, sym}
use Rattle.std.specs.Prelude.{Contains, None, Some}
use Rattle.std.proofs.lemmas.Bool.{ne_eqb}
use Rattle.std.proofs.lemmas.List.Elements.{Contains-append_right}
use Rattle.admin_text.specs.TableLines.{name_part, period_part}

other_byte : (b byte : ℕ) (bytes : List ℕ) → (Contains (b ∷ bytes) byte → ⊥) → b ≡ byte → ⊥
other_byte b byte bytes none same = none (0, omega arith, same)

none_behind : (b byte : ℕ) (bytes : List ℕ) → (Contains (b ∷ bytes) byte → ⊥) → Contains bytes byte → ⊥
none_behind b byte bytes none has = none (Contains-append_right (b ∷ []) bytes byte has)

before_colon : (name period : List ℕ) → (Contains name 58 → ⊥) → name_part (name ++ 58 ∷ period) ≡ name
before_colon [] period none = refl
before_colon (b ∷ name) period none =
    rw (ne_eqb b 58 (other_byte b 58 name none)) (ap (λ bytes. b ∷ bytes) (before_colon name period (none_behind b 58 name none)))

behind_colon : (name period : List ℕ) → (Contains name 58 → ⊥) → period_part (name ++ 58 ∷ period) ≡ Some period
behind_colon [] period none = refl
behind_colon (b ∷ name) period none = rw (ne_eqb b 58 (other_byte b 58 name none)) (behind_colon name period (none_behind b 58 name none))

pub name_before : (word name period : List ℕ) → word ≡ name ++ 58 ∷ period → (Contains name 58 → ⊥) → name ≡ name_part word
name_before word name period same none = sym (ap name_part same ∙ before_colon name period none)

pub period_behind : (word name period : List ℕ) → word ≡ name ++ 58 ∷ period → (Contains name 58 → ⊥) → Some period ≡ period_part word
period_behind word name period same none = sym (ap period_part same ∙ behind_colon name period none)

pub all_name : (word : List ℕ) → (Contains word 58 → ⊥) → word ≡ name_part word
all_name [] none = refl
all_name (b ∷ word) none = rw (ne_eqb b 58 (other_byte b 58 word none)) (ap (λ bytes. b ∷ bytes) (all_name word (none_behind b 58 word none)))

pub no_period : (word : List ℕ) → (Contains word 58 → ⊥) → None ≡ period_part word
no_period [] none = refl
no_period (b ∷ word) none = rw (ne_eqb b 58 (other_byte b 58 word none)) (no_period word (none_behind b 58 word none))
