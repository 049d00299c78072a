-- A plan is accepted if the code's findings say so.
use Rattle.std.proofs.Common.{◌≡◌, ℕ, ◌+◌, ◌-◌, ◌*◌, ◌≤◌, ◌^◌, ◌↔◌, Bool, true, List, [], ◌∷◌, length, map, arith, eqb, sym, ap, ◌∙◌, subst, inl, inr}
use Rattle.std.specs.List.{AllByRecursion}
use Rattle.std.proofs.lemmas.Bool.{cases_eq, eq-eqb, ne_eqb}
use Rattle.std.proofs.lemmas.List.{length-map}
use Rattle.known_state.specs.Requests.{Asked}
use Rattle.known_state.specs.Plans.{Plan, Link, sum_of, at_start, links, all_links, AreLinked, kept_over, kept_savings, bound, Accepts}
use Rattle.known_state.proofs.SavingsAreBounded.{above_alike}
use Rattle.known_state.proofs.LinkPlaces.{links_forward}
use Rattle.price_checker.specs.Links.{AreWithin}

-- links within some places are within more
within_more : (places more : ℕ) (ls : List Link) → places ≤ more → AreWithin places ls → AreWithin more ls
within_more places more [] le within = tt
within_more places more (l ∷ ls) le ((forward, to), others) = ((forward, omega arith), within_more places more ls le others)

-- the links found end at places of the requests
pub found_within : (places : ℕ) (held : List (List ℕ)) (rs : List Asked) (keep : List Bool) (ls : List Link) → length rs ≤ places → ls ≡ links held rs keep → AreWithin places ls
found_within places held rs keep ls few is = subst (λ (l : List Link). AreWithin places l) (sym is) (within_more (length rs) places (links held rs keep) few (links_forward held rs keep))

-- the bound depends on all links, whichever are kept
bound-marked : (slots : ℕ) (held : List (List ℕ)) (rs : List Asked) (keep : List Bool) (prices : List ℕ) → length keep ≡ length rs → bound slots (links held rs keep) prices ≡ bound slots (all_links held rs) prices
bound-marked slots held rs keep prices marks =
    ap (λ (n : ℕ). (slots - 1) * sum_of prices + n) (above_alike prices (at_start held) rs keep (map (λ (r : Asked). true) rs) marks (length-map rs (λ (r : Asked). true)))

eqb-is : (a b : ℕ) → eqb a b ≡ true → a ≡ b
eqb-is a b h = elim (cases_eq a b) [ inl same ↦ same | inr other ↦ absurd (let bad = sym (ne_eqb a b other) ∙ h in cc) ]

-- everything but the two sums is as it must be, so the plan is accepted if and only if the sums are equal
pub accepted : (slots : ℕ) (held : List (List ℕ)) (rs : List Asked) (plan : Plan) (ls : List Link) (saved most : ℕ)
    → length plan.keep ≡ length rs → length plan.prices ≡ length rs → AllByRecursion (λ price. price ≤ 2 ^ 32) plan.prices → AreLinked (at_start held) rs plan.keep
    → ls ≡ links held rs plan.keep → ((place : ℕ) → kept_over ls place ≤ slots - 1) → saved ≡ kept_savings ls → most ≡ bound slots ls plan.prices
    → (eqb saved most ≡ true) ↔ Accepts slots held rs plan
accepted slots held rs plan ls saved most marks prices range linked found room saved_is most_is =
    let saved_all : saved ≡ kept_savings (links held rs plan.keep) = saved_is ∙ ap kept_savings found in
    let most_all : most ≡ bound slots (all_links held rs) plan.prices = most_is ∙ ap (λ (l : List Link). bound slots l plan.prices) found ∙ bound-marked slots held rs plan.keep plan.prices marks in (
      λ same. record {
        keep = marks;
        prices = prices;
        range = range;
        linked = linked;
        room = subst (λ (l : List Link). (place : ℕ) → kept_over l place ≤ slots - 1) found room;
        tight = sym saved_all ∙ eqb-is saved most same ∙ most_all;
      },
      λ accepts. eq-eqb saved most (saved_all ∙ accepts.tight ∙ sym most_all),
    )
