-- What stands before a byte, and behind it.
use Rattle.std.proofs.Common.{◌≡◌, ◌∙◌, ◌++◌, ℕ, List, [], ◌∷◌, ap, arith, refl, sym}
use Rattle.std.specs.Prelude.{Contains}
use Rattle.std.proofs.lemmas.Bool.{eq-eqb, ne_eqb}
use Rattle.std.proofs.lemmas.List.Elements.{Contains-append_right}
use Rattle.node_log.specs.Senders.{before_byte, behind_byte}

other : (b byte : ℕ) (bytes : List ℕ) → (Contains (b ∷ bytes) byte → ⊥) → b ≡ byte → ⊥
other b byte bytes none same = none (0, omega arith, same)

none_left : (b byte : ℕ) (bytes : List ℕ) → (Contains (b ∷ bytes) byte → ⊥) → Contains bytes byte → ⊥
none_left b byte bytes none has = none (Contains-append_right (b ∷ []) bytes byte has)

before_found : (byte : ℕ) (before behind : List ℕ) → (Contains before byte → ⊥) → before_byte byte (before ++ byte ∷ behind) ≡ before
before_found byte [] behind none = rw (eq-eqb byte byte refl) refl
before_found byte (b ∷ before) behind none =
    rw (ne_eqb b byte (other b byte before none)) (ap (λ bytes. b ∷ bytes) (before_found byte before behind (none_left b byte before none)))

behind_found : (byte : ℕ) (before behind : List ℕ) → (Contains before byte → ⊥) → behind_byte byte (before ++ byte ∷ behind) ≡ behind
behind_found byte [] behind none = rw (eq-eqb byte byte refl) refl
behind_found byte (b ∷ before) behind none =
    rw (ne_eqb b byte (other b byte before none)) (behind_found byte before behind (none_left b byte before none))

pub is_before : (byte : ℕ) (text before behind : List ℕ) → text ≡ before ++ byte ∷ behind → (Contains before byte → ⊥) → before ≡ before_byte byte text
is_before byte text before behind same none = sym (ap (before_byte byte) same ∙ before_found byte before behind none)

pub is_behind : (byte : ℕ) (text before behind : List ℕ) → text ≡ before ++ byte ∷ behind → (Contains before byte → ⊥) → behind ≡ behind_byte byte text
is_behind byte text before behind same none = sym (ap (behind_byte byte) same ∙ behind_found byte before behind none)

pub all_before : (byte : ℕ) (text : List ℕ) → (Contains text byte → ⊥) → text ≡ before_byte byte text
all_before byte [] none = refl
all_before byte (b ∷ text) none =
    rw (ne_eqb b byte (other b byte text none)) (ap (λ bytes. b ∷ bytes) (all_before byte text (none_left b byte text none)))

pub none_behind : (byte : ℕ) (text : List ℕ) → (Contains text byte → ⊥) → [] ≡ behind_byte byte text
none_behind byte [] none = refl
none_behind byte (b ∷ text) none = rw (ne_eqb b byte (other b byte text none)) (none_behind byte text (none_left b byte text none))
