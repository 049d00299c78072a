-- Prices, each multiplied by a count for its place.
use Rattle.std.proofs.Common.{◌≡◌, ℕ, zero, suc, ◌+◌, ◌-◌, ◌*◌, ◌<◌, ◌≤◌, Bool, true, false, ◌&&◌, ◌⊎◌, cond, List, [], ◌∷◌, length, take, drop, slice_index, refl, sym, ap, ◌∙◌, subst, inl, inr, arith}
use Rattle.std.proofs.lemmas.Bool.{cases_lt}
use Rattle.std.proofs.lemmas.Bool.Decides.{nat_tests}
use Rattle.known_state.specs.Plans.{Link, total, sum_of, is_inside, kept_over, price_inside}

-- the prices of the places after q, each multiplied by what c gives for its place
abbrev pub weighed : (ℕ → ℕ) → ℕ → List ℕ → ℕ
weighed c q [] = 0
weighed c q (p ∷ ps) = p * c (q + 1) + weighed c (q + 1) ps

weighed-none : (q : ℕ) (ps : List ℕ) → weighed (λ place. 0) q ps ≡ 0
weighed-none q [] = refl
weighed-none q (p ∷ ps) = omega (arith, weighed-none (q + 1) ps)

weighed-add : (f g : ℕ → ℕ) (q : ℕ) (ps : List ℕ) → weighed (λ place. f place + g place) q ps ≡ weighed f q ps + weighed g q ps
weighed-add f g q [] = refl
weighed-add f g q (p ∷ ps) = omega (arith, weighed-add f g (q + 1) ps)

times_const : (p c k : ℕ) → (c ≡ k) ⊎ (p ≡ 0) → p * c ≡ k * p
times_const p c k (inl same) = rw same (omega arith)
times_const p c k (inr none) = rw none (omega arith)

-- if each place with a price above 0 counts k times, all prices together do
pub weighed-const : (c : ℕ → ℕ) (k q : ℕ) (ps : List ℕ) → ((i : ℕ) → i < length ps → (c (q + i + 1) ≡ k) ⊎ (slice_index ps i ≡ 0)) → weighed c q ps ≡ k * sum_of ps
weighed-const c k q [] each = omega arith
weighed-const c k q (p ∷ ps) each =
    let here : q + 0 + 1 ≡ q + 1 = omega arith in
    let first : (c (q + 1) ≡ k) ⊎ (p ≡ 0) = subst (λ (n : ℕ). (c n ≡ k) ⊎ (p ≡ 0)) here (each 0 (omega arith)) in
    let later : weighed c (q + 1) ps ≡ k * sum_of ps = weighed-const c k (q + 1) ps (λ i below.
    let there : q + suc i + 1 ≡ q + 1 + i + 1 = omega arith in
    subst (λ (n : ℕ). (c n ≡ k) ⊎ (slice_index ps i ≡ 0)) there (each (suc i) (omega arith))) in
    omega (arith, times_const p (c (q + 1)) k first, later)

-- whether a place is inside, as a number
abbrev inside : Link → ℕ → ℕ
inside l place = cond (is_inside place l) 1 0

inside_yes : (l : Link) (place : ℕ) → l.from < place → place < l.to → inside l place ≡ 1
inside_yes l place after before = grind (arith, nat_tests)

inside_beyond : (l : Link) (place : ℕ) → l.to ≤ place → inside l place ≡ 0
inside_beyond l place beyond = grind (arith, nat_tests)

inside_before : (l : Link) (place : ℕ) → place ≤ l.from → inside l place ≡ 0
inside_before l place before = grind (arith, nat_tests)

take_none : (n : ℕ) (ps : List ℕ) → n ≡ 0 → sum_of (take n ps) ≡ 0
take_none n ps is = rw is refl

take_nil : (n : ℕ) → sum_of (take n []) ≡ 0
take_nil zero = refl
take_nil (suc n) = refl

drop_nil : (n m : ℕ) → sum_of (take n (drop m [])) ≡ 0
drop_nil n zero = take_nil n
drop_nil n (suc m) = take_nil n

take_one : (n m p : ℕ) (ps : List ℕ) → n ≡ suc m → sum_of (take n (p ∷ ps)) ≡ p + sum_of (take m ps)
take_one n m p ps is = rw is refl

drop_one : (n m k p : ℕ) (ps : List ℕ) → m ≡ suc k → sum_of (take n (drop m (p ∷ ps))) ≡ sum_of (take n (drop k ps))
drop_one n m k p ps is = rw is refl

weighed_after : (l : Link) (q : ℕ) (ps : List ℕ) → l.from ≤ q → weighed (inside l) q ps ≡ sum_of (take (l.to - 1 - q) ps)
weighed_after l q [] after = sym (take_nil (l.to - 1 - q))
weighed_after l q (p ∷ ps) after =
    let later : weighed (inside l) (q + 1) ps ≡ sum_of (take (l.to - 1 - (q + 1)) ps) = weighed_after l (q + 1) ps (omega arith) in
    elim (cases_lt (q + 1) l.to) [
      | inl before ↦ omega (arith, later, inside_yes l (q + 1) (omega arith) before, ap (λ n. p * n) (inside_yes l (q + 1) (omega arith) before), take_one (l.to - 1 - q) (l.to - 1 - (q + 1)) p ps (omega arith))
      | inr beyond ↦ omega (arith, later, ap (λ n. p * n) (inside_beyond l (q + 1) beyond), take_none (l.to - 1 - q) (p ∷ ps) (omega arith), take_none (l.to - 1 - (q + 1)) ps (omega arith))
    ]

weighed_before : (l : Link) (q : ℕ) (ps : List ℕ) → q ≤ l.from → weighed (inside l) q ps ≡ sum_of (take (l.to - 1 - l.from) (drop (l.from - q) ps))
weighed_before l q [] before = sym (drop_nil (l.to - 1 - l.from) (l.from - q))
weighed_before l q (p ∷ ps) before = elim (cases_lt q l.from) [
  | inl less ↦
      let later : weighed (inside l) (q + 1) ps ≡ sum_of (take (l.to - 1 - l.from) (drop (l.from - (q + 1)) ps)) = weighed_before l (q + 1) ps (omega arith) in
      omega (arith, later, ap (λ n. p * n) (inside_before l (q + 1) (omega arith)), drop_one (l.to - 1 - l.from) (l.from - q) (l.from - (q + 1)) p ps (omega arith))
  | inr least ↦
      let here : q ≡ l.from = omega arith in
      let none : l.from - q ≡ 0 = omega arith in
      weighed_after l q (p ∷ ps) least ∙ ap (λ (n : ℕ). sum_of (take (l.to - 1 - n) (p ∷ ps))) here ∙ ap (λ (n : ℕ). sum_of (take (l.to - 1 - l.from) (drop n (p ∷ ps)))) (sym none)
]

-- the prices inside a link
weighed_inside : (l : Link) (ps : List ℕ) → weighed (inside l) 0 ps ≡ price_inside ps l
weighed_inside l ps = weighed_before l 0 ps (omega arith) ∙ ap (λ (n : ℕ). sum_of (take (l.to - 1 - l.from) (drop n ps))) (omega arith)

one_over : (l : Link) (kept : Bool) (ps : List ℕ) → weighed (λ place. cond (kept && is_inside place l) 1 0) 0 ps ≡ cond kept (price_inside ps l) 0
one_over l true ps = weighed_inside l ps
one_over l false ps = weighed-none 0 ps

-- the prices inside the kept links are those of the places, each as often as links are kept over its place
pub weighed_over : (ls : List Link) (ps : List ℕ) → weighed (kept_over ls) 0 ps ≡ total (λ l. cond l.kept (price_inside ps l) 0) ls
weighed_over [] ps = weighed-none 0 ps
weighed_over (l ∷ ls) ps =
    weighed-add (λ place. cond (l.kept && is_inside place l) 1 0) (kept_over ls) 0 ps
    ∙ ap (λ (n : ℕ). n + weighed (kept_over ls) 0 ps) (one_over l l.kept ps)
    ∙ ap (λ (n : ℕ). cond l.kept (price_inside ps l) 0 + n) (weighed_over ls ps)
