-- The connection that has been idle longest, of those at the first places.
use Rattle.std.proofs.Common.{◌≡◌, ◌∙◌, ◌+◌, ◌<◌, ◌≤◌, ◌&&◌, ℕ, Bool, true, false, List, [], ◌∷◌, MatchOption, None, Option, Some, ap, arith, get_or, length, refl, subst, take}
use Rattle.std.specs.List.{list_all, slice_get}
use Rattle.std.proofs.lemmas.Bool.{le-leb, leb-true}
use Rattle.std.proofs.lemmas.List.{take_all}
use Rattle.std.proofs.lemmas.List.Folds.{list_all_more}
use Rattle.std.proofs.lemmas.Option.{slice_get-get_or}
use Rattle.admin_port.specs.Idle.{IsLongest, is_at_work, is_no_longer}

-- of the first `n` places none is idle, or this one has been so longest
abbrev pub AreSeen : List (Option ℕ) → ℕ → Option (ℕ × ℕ) → Type 0
AreSeen idle n longest =
    MatchOption longest (list_all is_at_work (take n idle) ≡ true)
    (λ l. (slice_get idle l.0 ≡ Some (Some l.1)) × (list_all (is_no_longer l.1) (take n idle) ≡ true))

both : (a b : Bool) → a ≡ true → b ≡ true → (a && b) ≡ true
both true true one other = refl
both true false one other = other
both false b one other = absurd (cc)

split : (a b : Bool) → (a && b) ≡ true → (a ≡ true) × (b ≡ true)
split true b is = (refl, is)
split false b is = absurd (cc)

more : (p : Option ℕ → Bool) (idle : List (Option ℕ)) (n : ℕ) → n < length idle → list_all p (take n idle) ≡ true
    → p (get_or idle n None) ≡ true → list_all p (take (n + 1) idle) ≡ true
more p idle n within before is = list_all_more p idle n None within ∙ both _ _ before is

-- ---- the next place

-- it isn't idle
pub at_work : (idle : List (Option ℕ)) (n : ℕ) (longest : Option (ℕ × ℕ)) → n < length idle → get_or idle n None ≡ None
    → AreSeen idle n longest → AreSeen idle (n + 1) longest
at_work idle n None within is seen = more is_at_work idle n within seen (ap is_at_work is)
at_work idle n (Some (place, own)) within is (there, seen) = (there, more (is_no_longer own) idle n within seen (ap (is_no_longer own) is))

-- it has been idle no longer
pub no_longer : (idle : List (Option ℕ)) (n place own since : ℕ) → n < length idle → get_or idle n None ≡ Some since → own ≤ since
    → AreSeen idle n (Some (place, own)) → AreSeen idle (n + 1) (Some (place, own))
no_longer idle n place own since within is least (there, seen) =
    (there, more (is_no_longer own) idle n within seen (ap (is_no_longer own) is ∙ le-leb own since least))

-- what is no longer than since `own` is no longer than since before
sooner : (own since : ℕ) (idle : Option ℕ) → since ≤ own → is_no_longer own idle ≡ true → is_no_longer since idle ≡ true
sooner own since None before is = refl
sooner own since (Some other) before is = le-leb since other (omega (arith, before, leb-true own other is))

all_sooner : (own since : ℕ) (idle : List (Option ℕ)) → since ≤ own → list_all (is_no_longer own) idle ≡ true
    → list_all (is_no_longer since) idle ≡ true
all_sooner own since [] before are = refl
all_sooner own since (first ∷ rest) before are =
    let parts = split (is_no_longer own first) (list_all (is_no_longer own) rest) are in
    both _ _ (sooner own since first before parts.0) (all_sooner own since rest before parts.1)

no_idle : (since : ℕ) (idle : List (Option ℕ)) → list_all is_at_work idle ≡ true → list_all (is_no_longer since) idle ≡ true
no_idle since [] are = refl
no_idle since (None ∷ rest) are = no_idle since rest are
no_idle since (Some other ∷ rest) are = absurd (cc)

here : (idle : List (Option ℕ)) (n since : ℕ) → n < length idle → get_or idle n None ≡ Some since → slice_get idle n ≡ Some (Some since)
here idle n since within is = slice_get-get_or idle n None within ∙ ap Some is

itself : (idle : List (Option ℕ)) (n since : ℕ) → get_or idle n None ≡ Some since → is_no_longer since (get_or idle n None) ≡ true
itself idle n since is = ap (is_no_longer since) is ∙ le-leb since since (omega arith)

-- it is the first that is idle
pub first : (idle : List (Option ℕ)) (n since : ℕ) → n < length idle → get_or idle n None ≡ Some since → AreSeen idle n None
    → AreSeen idle (n + 1) (Some (n, since))
first idle n since within is seen =
    (here idle n since within is, more (is_no_longer since) idle n within (no_idle since (take n idle) seen) (itself idle n since is))

-- it has been idle for longer
pub longer : (idle : List (Option ℕ)) (n place own since : ℕ) → n < length idle → get_or idle n None ≡ Some since → since ≤ own
    → AreSeen idle n (Some (place, own)) → AreSeen idle (n + 1) (Some (n, since))
longer idle n place own since within is before (there, seen) = (
  here idle n since within is,
  more (is_no_longer since) idle n within (all_sooner own since (take n idle) before seen) (itself idle n since is),
)

-- ---- all places

pub none : (idle : List (Option ℕ)) (n : ℕ) → length idle ≤ n → AreSeen idle n None → list_all is_at_work idle ≡ true
none idle n all seen = subst (λ xs. list_all is_at_work xs ≡ true) (take_all n idle all) seen

pub some : (idle : List (Option ℕ)) (n place own : ℕ) → length idle ≤ n → AreSeen idle n (Some (place, own)) → IsLongest idle place
some idle n place own all (there, seen) = (own, there, subst (λ xs. list_all (is_no_longer own) xs ≡ true) (take_all n idle all) seen)
