-- The requests of updates and their costs, one update after another.
use Rattle.std.proofs.Common.{◌≡◌, ℕ, ◌+◌, ◌*◌, ◌≤◌, true, false, ◌&&◌, Bool, List, [], ◌∷◌, ◌++◌, length, Option, Some, None, refl, sym, ap, ◌∙◌, arith, append_assoc, length-append}
use Rattle.std.specs.Prelude.{fold}
use Rattle.table_types.specs.declared.update.Update.{Update}
use Rattle.table_types.specs.Tables.{Definition}
use Rattle.table_types.specs.Updates.{fits, stores_name, may_be_named}
use Rattle.table_types.specs.Names.{is_name}
use Rattle.known_state.specs.Cost.{Knowledge, knowledge_after, written_cost, selection_cost, cost_from}
use Rattle.known_state.specs.Requests.{Asked, asked, requests_of}

-- what is known after the updates
abbrev pub knowledge_after_all : Knowledge → List Update → Knowledge
knowledge_after_all k us = fold knowledge_after k us

append-none : (xs : List Asked) → xs ++ [] ≡ xs
append-none [] = refl
append-none (x ∷ xs) = ap (λ (l : List Asked). x ∷ l) (append-none xs)

-- the request of one more update comes after those of the others
pub requests-more : (roster : List Definition) (k : Knowledge) (us : List Update) (u : Update) → requests_of roster k (us ++ u ∷ []) ≡ requests_of roster k us ++ asked roster (knowledge_after_all k us) u u.name
requests-more roster k [] u = append-none (asked roster k u u.name)
requests-more roster k (x ∷ xs) u =
    ap (λ (l : List Asked). asked roster k x x.name ++ l) (requests-more roster (knowledge_after k x) xs u)
    ∙ sym (append_assoc (asked roster k x x.name) (requests_of roster (knowledge_after k x) xs) (asked roster (knowledge_after_all k (x ∷ xs)) u u.name))

-- and its cost adds to theirs
pub cost-more : (roster : List Definition) (k : Knowledge) (us : List Update) (u : Update) → cost_from roster k (us ++ u ∷ []) ≡ cost_from roster k us + (selection_cost roster (knowledge_after_all k us) u.table + written_cost roster (knowledge_after_all k us) u)
cost-more roster k [] u = omega arith
cost-more roster k (x ∷ xs) u =
    let later = cost-more roster (knowledge_after k x) xs u in
    omega arith

-- what is known after one more update
pub knowledge-more : (k : Knowledge) (us : List Update) (u : Update) → knowledge_after_all k (us ++ u ∷ []) ≡ knowledge_after (knowledge_after_all k us) u
knowledge-more k [] u = refl
knowledge-more k (x ∷ xs) u = knowledge-more (knowledge_after k x) xs u

-- what was computed from the updates: their requests, their costs, which updates they are, and what is known after them
abbrev pub AreCosted : List Definition → Knowledge → List Update → ℕ → List Asked → ℕ → Knowledge → Type 0
AreCosted roster k us count requests full after =
    (requests ≡ requests_of roster k us)
    × (full ≡ cost_from roster k us)
    × (after ≡ knowledge_after_all k us)
    × (full ≤ 49164 * count)

-- and from one more
pub costed-more : (roster : List Definition) (k before after : Knowledge) (us more : List Update) (u : Update) (count full cost : ℕ) (requests others : List Asked) → more ≡ us ++ u ∷ [] → AreCosted roster k us count requests full before
    → others ≡ requests ++ asked roster before u u.name → cost ≡ selection_cost roster before u.table + written_cost roster before u → after ≡ knowledge_after before u → cost ≤ 49164
    → AreCosted roster k more (count + 1) others (full + cost) after
costed-more roster k before after us more u count full cost requests others joined (are, is, known, within) added costs follows fits =
    let asks : asked roster before u u.name ≡ asked roster (knowledge_after_all k us) u u.name = ap (λ (x : Knowledge). asked roster x u u.name) known in
    let pays : cost ≡ selection_cost roster (knowledge_after_all k us) u.table + written_cost roster (knowledge_after_all k us) u = costs ∙ ap (λ (x : Knowledge). selection_cost roster x u.table + written_cost roster x u) known in
    let sum : full + cost ≡ cost_from roster k (us ++ u ∷ []) = omega (arith, cost-more roster k us u) in (
      added ∙ ap (λ (l : List Asked). l ++ asked roster before u u.name) are ∙ ap (λ (l : List Asked). requests_of roster k us ++ l) asks ∙ sym (requests-more roster k us u) ∙ ap (requests_of roster k) (sym joined),
      sum ∙ ap (cost_from roster k) (sym joined),
      follows ∙ ap (λ (x : Knowledge). knowledge_after x u) known ∙ sym (knowledge-more k us u) ∙ ap (knowledge_after_all k) (sym joined),
      omega arith,
    )

pub named-stores : (d : Definition) (u : Update) (name : List ℕ) → u.name ≡ Some name → may_be_named d u.name ≡ true → stores_name d ≡ true
named-stores d u name is fit = left (stores_name d) (is_name name) (ap (may_be_named d) (sym is) ∙ fit)
  where
    left : (a b : Bool) → (a && b) ≡ true → a ≡ true
    left true b h = refl
    left false b h = h

-- there are no more requests than updates
pub few-asked : (roster : List Definition) (k : Knowledge) (us : List Update) → length (requests_of roster k us) ≤ length us
few-asked roster k [] = omega arith
few-asked roster k (u ∷ us) =
    let later = few-asked roster (knowledge_after k u) us in
    let both = length-append (asked roster k u u.name) (requests_of roster (knowledge_after k u) us) in
    let first = one u.name in
    omega arith
  where
    one : (name : Option (List ℕ)) → length (asked roster k u name) ≤ 1
    one None = omega arith
    one (Some name) = omega arith
