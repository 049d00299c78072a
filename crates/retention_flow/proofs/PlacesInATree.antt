-- The places at which names were last requested, kept in a tree.
use Rattle.std.proofs.Common.{◌≡◌, ℕ, ◌+◌, ◌<◌, Bool, true, false, ◌||◌, cond, List, [], ◌∷◌, ◌++◌, length, get_or, take, drop, Option, Some, None, refl, sym, ap, ◌∙◌}
use Rattle.std.specs.List.{list_any}
use Rattle.std.specs.BTreeMap as tree
use Rattle.std.specs.BTreeMap.{BTreeMap}
use Rattle.std.specs.Cmp.Lexicographic.{slice_cmp, nat_list_eq_equiv}
use Rattle.std.specs.Ordering.{nat_cmp}
use Rattle.std.proofs.lemmas.List.{drop_more}
use Rattle.std.proofs.lemmas.List.Folds.{list_any_more}
use Rattle.std.proofs.lemmas.Map.Text.{btree_map_updates_str}
use denote.Ref.{Bor}
use Rattle.table_types.specs.Rosters.{is_same_name}
use Rattle.known_state.specs.Requests.{Asked}
use Rattle.known_state.specs.Plans.{Asking, at_start, after_request}
use Rattle.retention_flow.specs.declared.arcs.RequestArc.{RequestArc}
use Rattle.retention_flow.specs.Network.{arc_of, arcs_from}

-- the place that a tree has for a name
abbrev pub place_in : BTreeMap (Bor (List ℕ)) ℕ → List ℕ → Option ℕ
place_in places name = tree.get_by (λ key. slice_cmp nat_cmp name key.now) places

-- a tree with a new place for one name
abbrev pub Puts : List ℕ → ℕ → BTreeMap (Bor (List ℕ)) ℕ → BTreeMap (Bor (List ℕ)) ℕ → Type 0
Puts name place old new = tree.UpdatesBy (λ x y. slice_cmp nat_cmp x.now y.now) (λ key. slice_cmp nat_cmp name key.now) old new (Some place)

-- it has the new place for `name`, and the old places for the others
place_put : (name : List ℕ) (place : ℕ) (old new : BTreeMap (Bor (List ℕ)) ℕ) → Puts name place old new → (other : List ℕ) → place_in new other ≡ cond (is_same_name name other) (Some place) (place_in old other)
place_put name place old new puts other = btree_map_updates_str name old new (Some place) puts other

either_held : (x y : Option ℕ) (a b : Bool) → cond b x (cond a x y) ≡ cond (a || b) x y
either_held x y true true = refl
either_held x y true false = refl
either_held x y false true = refl
either_held x y false false = refl

-- one more name is held at the start
pub held_more : (held : List (List ℕ)) (i : ℕ) (name bytes : List ℕ) (old new : BTreeMap (Bor (List ℕ)) ℕ) → i < length held → name ≡ get_or held i name → bytes ≡ name → Puts bytes 0 old new
    → ((other : List ℕ) → place_in old other ≡ (at_start (take i held)).last other) → (other : List ℕ) → place_in new other ≡ (at_start (take (i + 1) held)).last other
held_more held i name bytes old new below is bytes_are puts so_far = λ other.
    let more : list_any (is_same_name other) (take (i + 1) held) ≡ (list_any (is_same_name other) (take i held) || is_same_name other name) =
    list_any_more (is_same_name other) held i name below ∙ ap (λ (n : List ℕ). list_any (is_same_name other) (take i held) || is_same_name other n) (sym is) in
    let same : is_same_name bytes other ≡ is_same_name other name = ap (λ (n : List ℕ). is_same_name n other) bytes_are ∙ nat_list_eq_equiv.symm name other in
    place_put bytes 0 old new puts other
    ∙ ap (λ (b : Bool). cond b (Some 0) (place_in old other)) same
    ∙ ap (λ (o : Option ℕ). cond (is_same_name other name) (Some 0) o) (so_far other)
    ∙ either_held (Some 0) None (list_any (is_same_name other) (take i held)) (is_same_name other name)
    ∙ ap (λ (b : Bool). cond b (Some 0) None) (sym more)

-- arcs depend only on the places of the names
arcs-same : (one other : Asking) (rs : List Asked) → one.place ≡ other.place → ((name : List ℕ) → one.last name ≡ other.last name) → arcs_from one rs ≡ arcs_from other rs
arcs-same one other [] place last = refl
arcs-same one other (r ∷ rs) place last =
    let later : arcs_from (after_request one r) rs ≡ arcs_from (after_request other r) rs = arcs-same (after_request one r) (after_request other r) rs (ap (λ n. n + 1) place)
    (λ name. ap (λ (n : ℕ). cond (is_same_name r.name name) (Some (n + 1)) (one.last name)) place ∙ ap (λ (o : Option ℕ). cond (is_same_name r.name name) (Some (other.place + 1)) o) (last name)) in
    ap (λ (o : Option ℕ). arc_of o one.place r ∷ arcs_from (after_request one r) rs) (last r.name)
    ∙ ap (λ (n : ℕ). arc_of (other.last r.name) n r ∷ arcs_from (after_request one r) rs) place
    ∙ ap (λ (l : List RequestArc). arc_of (other.last r.name) other.place r ∷ l) later

-- the places of a tree after `place` requests
abbrev pub asking_in : ℕ → BTreeMap (Bor (List ℕ)) ℕ → Asking
asking_in place places = record { place = place; last = λ name. place_in places name }

-- the arcs of the first requests, from the start
pub arcs_first : (held : List (List ℕ)) (rs : List Asked) (places : BTreeMap (Bor (List ℕ)) ℕ) → ((name : List ℕ) → place_in places name ≡ (at_start held).last name) → arcs_from (asking_in 0 places) rs ≡ arcs_from (at_start held) rs
arcs_first held rs places last = arcs-same (asking_in 0 places) (at_start held) rs refl last

-- one more request: its arc, and those of the requests after it
pub arcs_more : (rs : List Asked) (i : ℕ) (r : Asked) (name : List ℕ) (from : Option ℕ) (arc : RequestArc) (old new : BTreeMap (Bor (List ℕ)) ℕ) → i < length rs → r ≡ get_or rs i r → name ≡ r.name → from ≡ place_in old name → arc ≡ arc_of from i r → Puts name (i + 1) old new
    → arcs_from (asking_in i old) (drop i rs) ≡ (arc ∷ []) ++ arcs_from (asking_in (i + 1) new) (drop (i + 1) rs)
arcs_more rs i r name from arc old new below is name_is from_is arc_is puts =
    let rest : drop i rs ≡ r ∷ drop (i + 1) rs = drop_more rs i r below ∙ ap (λ (x : Asked). x ∷ drop (i + 1) rs) (sym is) in
    let here : arc ≡ arc_of (place_in old r.name) i r = arc_is ∙ ap (λ (o : Option ℕ). arc_of o i r) (from_is ∙ ap (place_in old) name_is) in
    let later : arcs_from (after_request (asking_in i old) r) (drop (i + 1) rs) ≡ arcs_from (asking_in (i + 1) new) (drop (i + 1) rs) =
    arcs-same (after_request (asking_in i old) r) (asking_in (i + 1) new) (drop (i + 1) rs) refl
    (λ other. ap (λ (n : List ℕ). cond (is_same_name n other) (Some (i + 1)) (place_in old other)) (sym name_is) ∙ sym (place_put name (i + 1) old new puts other)) in
    ap (arcs_from (asking_in i old)) rest
    ∙ ap (λ (a : RequestArc). a ∷ arcs_from (after_request (asking_in i old) r) (drop (i + 1) rs)) (sym here)
    ∙ ap (λ (l : List RequestArc). arc ∷ l) later
