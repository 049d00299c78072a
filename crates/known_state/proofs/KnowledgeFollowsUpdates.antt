-- What is known after one more update of a lesson.
use Rattle.std.proofs.Common.{◌≡◌, ℕ, Bool, true, false, ◌||◌, cond, eqb, Option, Some, refl}
use Rattle.std.proofs.Math.Path.{fun_ext}
use Rattle.std.specs.Prelude.{is_some}
use Rattle.std.specs.Option.{option_or}
use Rattle.table_types.specs.declared.update.Update.{Update}
use Rattle.known_state.specs.declared.knowledge.KnowledgeSoFar.{KnowledgeSoFar}
use Rattle.known_state.specs.LastNumbers.{last_of, set_last}
use Rattle.known_state.specs.Cost.{Knowledge, knowledge_of, knowledge_after}
use Rattle.known_state.specs.Knowing.{known_so_far}
use Rattle.known_state.proofs.KnowingMoreCostsLess.{last-put}

abbrev made : ℕ → (ℕ → Bool) → (ℕ → Option ℕ) → Knowledge
made table is_defined last = record { is_defined = is_defined; selected = Some table; last = last }

-- the update's number becomes the last number sent
pub followed : (k : KnowledgeSoFar) (u : Update) → known_so_far (record { known = k.known; selected = Some u.table; sent = set_last u.table u.number k.sent }) ≡ knowledge_after (known_so_far k) u
followed k u = together (fun_ext defined) (fun_ext last)
  where
    is_known : ℕ → Bool
    is_known id = (knowledge_of k.known.now.state).is_defined id

    last_known : ℕ → Option ℕ
    last_known id = (knowledge_of k.known.now.state).last id

    defined-by : (b x : Bool) (l : Option ℕ) → (is_some (cond b (Some u.number) l) || x) ≡ (b || (is_some l || x))
    defined-by true x l = refl
    defined-by false x l = refl

    last-by : (b : Bool) (x l : Option ℕ) → option_or (cond b (Some u.number) l) x ≡ cond b (Some u.number) (option_or l x)
    last-by true x l = refl
    last-by false x l = refl

    defined : (id : ℕ) → (is_some (last_of (set_last u.table u.number k.sent) id) || is_known id) ≡ (eqb id u.table || (is_some (last_of k.sent id) || is_known id))
    defined id = rw (last-put u.table u.number k.sent id) (defined-by (eqb id u.table) (is_known id) (last_of k.sent id))

    last : (id : ℕ) → option_or (last_of (set_last u.table u.number k.sent) id) (last_known id) ≡ cond (eqb id u.table) (Some u.number) (option_or (last_of k.sent id) (last_known id))
    last id = rw (last-put u.table u.number k.sent id) (last-by (eqb id u.table) (last_known id) (last_of k.sent id))

    together : {f g : ℕ → Bool} {p q : ℕ → Option ℕ} → f ≡ g → p ≡ q → made u.table f p ≡ made u.table g q
    together same alike = rw (same, alike) refl
