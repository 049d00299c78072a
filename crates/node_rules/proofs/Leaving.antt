-- Who has been idle, or answered, for long.
use Rattle.std.proofs.Common.{◌≡◌, ◌-◌, ◌⊎◌, ℕ, Bool, true, false, not, ◌&&◌, List, [], ◌∷◌, Option, Some, None, refl, sym, ◌∙◌, subst, inl, inr, arith}
use Rattle.std.specs.Prelude.{MatchOption, nat_le, slice_get}
use Rattle.std.specs.List.{list_all}
use Rattle.std.proofs.lemmas.Bool.{cases_Bool, false≢true, le-leb, leb-true}
use Rattle.admin_port.specs.Idle.{IsLongest, is_at_work, is_no_longer}
use Rattle.node_rules.specs.Seats.{Stays, is_long}

both : (a b : Bool) → a ≡ true → b ≡ true → (a && b) ≡ true
both true b first second = second
both false b first second = absurd (false≢true first)

first_of : (a b : Bool) → (a && b) ≡ true → a ≡ true
first_of true b all = refl
first_of false b all = all

second_of : (a b : Bool) → (a && b) ≡ true → b ≡ true
second_of true b all = all
second_of false b all = absurd (false≢true all)

-- none that is at work has been idle for long
pub at_work_stays : (least now : ℕ) (since : List (Option ℕ)) → list_all is_at_work since ≡ true → Stays least now since
at_work_stays least now [] all = refl
at_work_stays least now (None ∷ since) all = at_work_stays least now since all
at_work_stays least now (Some own ∷ since) all = absurd (false≢true all)

-- one that has been so for less than another one that isn't long
shorter : (least now own other : ℕ) → nat_le least (now - own) ≡ false → nat_le own other ≡ true → not (nat_le least (now - other)) ≡ true
shorter least now own other short no_longer = elim (cases_Bool (nat_le least (now - other))) [
  | inl long ↦ absurd (false≢true (sym short ∙ le-leb least (now - own) (omega (arith, leb-true least (now - other) long, leb-true own other no_longer))))
  | inr is ↦ rw is refl
]

no_longer_stays : (least now own : ℕ) (since : List (Option ℕ)) → nat_le least (now - own) ≡ false → list_all (is_no_longer own) since ≡ true → Stays least now since
no_longer_stays least now own [] short all = refl
no_longer_stays least now own (None ∷ since) short all = no_longer_stays least now own since short all
no_longer_stays least now own (Some other ∷ since) short all =
    both (not (nat_le least (now - other))) (list_all (λ one. not (is_long least now (Some one))) since)
    (shorter least now own other short (first_of (nat_le own other) (list_all (is_no_longer own) since) all))
    (no_longer_stays least now own since short (second_of (nat_le own other) (list_all (is_no_longer own) since) all))

-- if the longest one isn't long, none is
pub longest_stays : (least now place : ℕ) (since : List (Option ℕ)) → IsLongest since place → is_long least now (slice_get since place) ≡ false → Stays least now since
longest_stays least now place since (own, there, all) short =
    no_longer_stays least now own since (subst (λ (found : Option (Option ℕ)). is_long least now found ≡ false) there short) all

-- who goes if none of the first kind does
pub else_leaves : (A B : Type 0) (C D : ℕ → Type 0) (result : Option ℕ) → A → MatchOption result B D → MatchOption result (A × B) (λ place. C place ⊎ (A × D place))
else_leaves A B C D None a found = (a, found)
else_leaves A B C D (Some place) a found = inr (a, found)
