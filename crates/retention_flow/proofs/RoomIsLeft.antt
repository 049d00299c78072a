-- Counts of the arcs that begin at nodes, and of those that pass places.
use Rattle.std.proofs.Common.{◌≡◌, ℕ, zero, suc, ◌+◌, ◌<◌, ◌≤◌, Bool, true, false, ◌&&◌, cond, eqb, List, [], ◌∷◌, length, drop, slice_index, slice_index_or, refl, sym, ap, ◌∙◌, subst, inl, inr, arith}
use Rattle.std.specs.Prelude.{slice_set}
use Rattle.std.specs.List.{AllByRecursion}
use Rattle.std.proofs.lemmas.Bool.{cases_eq, cases_lt, eq-eqb, ne_eqb}
use Rattle.std.proofs.lemmas.Bool.Decides.{nat_tests}
use Rattle.std.proofs.lemmas.List.{drop_more, get_or-set_same, get_or-set_other}
use Rattle.known_state.specs.Plans.{is_inside, kept_from, kept_over, kept_to}
use Rattle.known_state.proofs.LinkPlaces.{over_start, over_none, over_next}
use Rattle.retention_flow.specs.declared.arcs.RequestArc.{RequestArc}
use Rattle.retention_flow.specs.Network.{link_at, links_of, arc_at, GoBack}

-- ---- counts are at most the number of arcs

-- at most as many links are kept over a place as there are arcs, and at most as many begin at one
pub few_over : (node : ℕ) (arcs : List RequestArc) (place : ℕ) → kept_over (links_of node arcs) place ≤ length arcs
few_over node [] place = omega arith
few_over node (arc ∷ arcs) place = by (arc.kept && is_inside place (link_at node arc)) (few_over (node + 1) arcs place)
  where
    by : (b : Bool) → kept_over (links_of (node + 1) arcs) place ≤ length arcs → cond b 1 0 + kept_over (links_of (node + 1) arcs) place ≤ length (arc ∷ arcs)
    by true few = omega arith
    by false few = omega arith

pub few_from : (node : ℕ) (arcs : List RequestArc) (place : ℕ) → kept_from (links_of node arcs) place ≤ length arcs
few_from node [] place = omega arith
few_from node (arc ∷ arcs) place = by (arc.kept && eqb arc.from place) (few_from (node + 1) arcs place)
  where
    by : (b : Bool) → kept_from (links_of (node + 1) arcs) place ≤ length arcs → cond b 1 0 + kept_from (links_of (node + 1) arcs) place ≤ length (arc ∷ arcs)
    by true few = omega arith
    by false few = omega arith

pub counts-few : (arcs : List RequestArc) (over : List ℕ) → length arcs ≤ 4096 → ((place : ℕ) → slice_index over place ≡ kept_over (links_of 0 arcs) (place + 1)) → (place : ℕ) → slice_index over place ≤ 4096
counts-few arcs over most counted place = omega (arith, counted place, few_over 0 arcs (place + 1))

-- ---- arcs that begin at nodes

-- the counts so far, and the remaining arcs
abbrev pub AreCounted : List RequestArc → ℕ → List ℕ → Type 0
AreCounted arcs node begun = (place : ℕ) → slice_index begun place + kept_from (links_of node (drop node arcs)) place ≡ kept_from (links_of 0 arcs) place

pub counted-few : (arcs : List RequestArc) (node : ℕ) (begun : List ℕ) → length arcs ≤ 4096 → AreCounted arcs node begun → (place : ℕ) → slice_index begun place ≤ 4096
counted-few arcs node begun most counted place = omega (arith, counted place, few_from 0 arcs place)

-- the element at an index within a list, whatever follows the list
pub any_default : (counts : List ℕ) (index default : ℕ) → index < length counts → slice_index_or counts index default ≡ slice_index counts index
any_default [] index default within = absurd (omega arith)
any_default (n ∷ counts) zero default within = refl
any_default (n ∷ counts) (suc index) default within = any_default counts index default (omega arith)

from_more : (arcs : List RequestArc) (node place : ℕ) → node < length arcs
    → kept_from (links_of node (drop node arcs)) place ≡ cond ((arc_at arcs node).kept && eqb (arc_at arcs node).from place) 1 0 + kept_from (links_of (node + 1) (drop (node + 1) arcs)) place
from_more arcs node place below = ap (λ (l : List RequestArc). kept_from (links_of node l) place) (drop_more arcs node (record { from = 0; saving = 0; kept = false }) below)

-- one more arc that is kept
pub counted_kept : (arcs : List RequestArc) (node : ℕ) (begun : List ℕ) → node < length arcs → (arc_at arcs node).kept ≡ true → (arc_at arcs node).from < length begun → AreCounted arcs node begun
    → AreCounted arcs (node + 1) (slice_set begun (arc_at arcs node).from (slice_index begun (arc_at arcs node).from + 1))
counted_kept arcs node begun below kept within counted place =
    let from : ℕ = (arc_at arcs node).from in
    let more : List ℕ = slice_set begun from (slice_index begun from + 1) in
    let here : ◌≡◌ {A = ℕ} (cond ((arc_at arcs node).kept && eqb from place) 1 0) (cond (eqb from place) 1 0) = ap (λ (b : Bool). cond (b && eqb from place) 1 0) kept in
    let set : slice_index more place ≡ slice_index begun place + cond (eqb from place) 1 0 = one_more begun from place within in
    omega (arith, counted place, here, set, from_more arcs node place below)
  where
    one_more : (begun : List ℕ) (from place : ℕ) → from < length begun → slice_index (slice_set begun from (slice_index begun from + 1)) place ≡ slice_index begun place + cond (eqb from place) 1 0
    one_more begun from place within = elim (cases_eq from place) [
      | inl same ↦
          let set : slice_index (slice_set begun from (slice_index begun from + 1)) place ≡ slice_index begun from + 1 =
          ap (λ (n : ℕ). slice_index (slice_set begun from (slice_index begun from + 1)) n) (sym same) ∙ get_or-set_same begun from (slice_index begun from + 1) 0 within in
          rw (eq-eqb from place same) (omega (arith, set, ap (λ (n : ℕ). slice_index begun n) same))
      | inr differs ↦ rw (ne_eqb from place differs) (omega (arith, get_or-set_other begun from place (slice_index begun from + 1) 0 (λ same. differs (sym same))))
    ]

-- or isn't kept
pub counted_other : (arcs : List RequestArc) (node : ℕ) (begun : List ℕ) → node < length arcs → (arc_at arcs node).kept ≡ false → AreCounted arcs node begun → AreCounted arcs (node + 1) begun
counted_other arcs node begun below other counted place =
    let here : ◌≡◌ {A = ℕ} (cond ((arc_at arcs node).kept && eqb (arc_at arcs node).from place) 1 0) 0 = ap (λ (b : Bool). cond (b && eqb (arc_at arcs node).from place) 1 0) other in
    omega (arith, counted place, here, from_more arcs node place below)

-- ---- from place to place

-- links of arcs go forward
forward_links : (n node : ℕ) (arcs : List RequestArc) → ((i : ℕ) → i < length arcs → (arc_at arcs i).from ≤ node + i) → node + length arcs ≤ n → AllByRecursion (λ l. (l.from < l.to) × (l.to ≤ n)) (links_of node arcs)
forward_links n node [] back within = tt
forward_links n node (arc ∷ arcs) back within =
    let first : arc.from ≤ node + 0 = back 0 (omega arith) in
    ((omega (arith, first), omega arith), forward_links n (node + 1) arcs (λ i below. omega (arith, back (suc i) (omega arith))) (omega arith))

go_forward : (arcs : List RequestArc) → GoBack arcs → AllByRecursion (λ l. (l.from < l.to) × (l.to ≤ length arcs)) (links_of 0 arcs)
go_forward arcs back = forward_links (length arcs) 0 arcs (λ i below. omega (arith, back i below)) (omega arith)

-- the link of an arc ends at the place after its node, and no other link does
none_to : (place node : ℕ) (arcs : List RequestArc) → place ≤ node → kept_to (links_of node arcs) place ≡ 0
none_to place node [] le = refl
none_to place node (arc ∷ arcs) le = let later = none_to place (node + 1) arcs (omega arith) in let here = by arc.kept in omega arith
  where
    by : (kept : Bool) → cond (kept && eqb (node + 1) place) 1 0 ≡ zero
    by true = grind (arith, nat_tests)
    by false = refl

ends_at : (node i : ℕ) (arcs : List RequestArc) → i < length arcs → kept_to (links_of node arcs) (node + i + 1) ≡ cond (arc_at arcs i).kept 1 0
ends_at node i [] below = absurd (omega arith)
ends_at node zero (arc ∷ arcs) below = let later = none_to (node + 0 + 1) (node + 1) arcs (omega arith) in let here = by arc.kept in omega arith
  where
    by : (kept : Bool) → ◌≡◌ {A = ℕ} (cond (kept && eqb (node + 1) (node + 0 + 1)) 1 0) (cond kept 1 0)
    by true = grind (arith, nat_tests)
    by false = refl
ends_at node (suc i) (arc ∷ arcs) below =
    let at : node + 1 + i + 1 ≡ node + suc i + 1 = omega arith in
    let later = subst (λ (place : ℕ). kept_to (links_of (node + 1) arcs) place ≡ cond (arc_at arcs i).kept 1 0) at (ends_at (node + 1) i arcs (omega arith)) in
    let here = by arc.kept in
    omega arith
  where
    by : (kept : Bool) → cond (kept && eqb (node + 1) (node + suc i + 1)) 1 0 ≡ zero
    by true = grind (arith, nat_tests)
    by false = refl

-- from a place to the next, the links that begin at it are added, and the link of the next place's request is dropped
pub passing_next : (arcs : List RequestArc) (node : ℕ) → GoBack arcs → node < length arcs
    → kept_over (links_of 0 arcs) (node + 1) + cond (arc_at arcs node).kept 1 0 ≡ kept_over (links_of 0 arcs) node + kept_from (links_of 0 arcs) node
passing_next arcs node back below =
    let at : 0 + node + 1 ≡ node + 1 = omega arith in
    let ends = subst (λ (place : ℕ). kept_to (links_of 0 arcs) place ≡ cond (arc_at arcs node).kept 1 0) at (ends_at 0 node arcs below) in
    omega (arith, ends, over_next (length arcs) node (links_of 0 arcs) (go_forward arcs back))

-- no link passes before the first place or after the last
pub passing_first : (arcs : List RequestArc) → kept_over (links_of 0 arcs) 0 ≡ 0
passing_first arcs = over_start (links_of 0 arcs)

pub passing_none : (arcs : List RequestArc) (place : ℕ) → GoBack arcs → length arcs ≤ place → kept_over (links_of 0 arcs) place ≡ 0
passing_none arcs place back beyond = over_none (length arcs) place (links_of 0 arcs) (go_forward arcs back) beyond

-- the counts up to a node are those of the arcs that pass the next place, and the other counts are unchanged
pub passed_more : (arcs : List RequestArc) (counts : List ℕ) (node passing : ℕ) → node < length counts → passing ≡ kept_over (links_of 0 arcs) (node + 1) → ((place : ℕ) → place < node → slice_index counts place ≡ kept_over (links_of 0 arcs) (place + 1))
    → (place : ℕ) → place < node + 1 → slice_index (slice_set counts node passing) place ≡ kept_over (links_of 0 arcs) (place + 1)
passed_more arcs counts node passing within is done place below = elim (cases_eq place node) [
  | inl same ↦
      ap (λ (n : ℕ). slice_index (slice_set counts node passing) n) same ∙ get_or-set_same counts node passing 0 within ∙ is ∙ ap (λ (n : ℕ). kept_over (links_of 0 arcs) (n + 1)) (sym same)
  | inr differs ↦ get_or-set_other counts node place passing 0 differs ∙ done place (omega (arith, differs))
]

pub left_more : (counts first : List ℕ) (node passing : ℕ) → ((place : ℕ) → node ≤ place → slice_index counts place ≡ slice_index first place) → (place : ℕ) → node + 1 ≤ place → slice_index (slice_set counts node passing) place ≡ slice_index first place
left_more counts first node passing rest place beyond = get_or-set_other counts node place passing 0 (λ same. absurd (omega (arith, same))) ∙ rest place (omega arith)

none_beyond : (counts : List ℕ) (place : ℕ) → length counts ≤ place → slice_index counts place ≡ 0
none_beyond [] place beyond = refl
none_beyond (n ∷ counts) zero beyond = absurd (omega arith)
none_beyond (n ∷ counts) (suc place) beyond = none_beyond counts place (omega arith)

pub passed_all : (arcs : List RequestArc) (counts : List ℕ) → GoBack arcs → length counts ≡ length arcs → ((place : ℕ) → place < length arcs → slice_index counts place ≡ kept_over (links_of 0 arcs) (place + 1)) → (place : ℕ) → slice_index counts place ≡ kept_over (links_of 0 arcs) (place + 1)
passed_all arcs counts back long done place = elim (cases_lt place (length arcs)) [
  | inl before ↦ done place before
  | inr beyond ↦ none_beyond counts place (omega arith) ∙ sym (passing_none arcs (place + 1) back (omega arith))
]
