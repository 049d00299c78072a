-- The names that are held at the start, slot by slot, and their last places.
use Rattle.std.proofs.Common.{◌≡◌, ℕ, zero, suc, ◌+◌, ◌<◌, Bool, true, false, ◌||◌, cond, List, [], ◌∷◌, ◌++◌, length, get_or, map, take, Option, Some, None, refl, sym, ap, ◌∙◌, arith}
use Rattle.std.specs.List.{list_any}
use Rattle.std.specs.Ordering.{is_eq, ordering_reverse}
use Rattle.std.specs.declared.cmp.Ordering.{Ordering}
use Rattle.std.specs.declared.cmp.Ordering.TheVariants.{Less, Equal, Greater}
use Rattle.std.proofs.lemmas.Cmp.{nat_list_cmp_total}
use Rattle.std.proofs.lemmas.List.{append-nil, take_more}
use Rattle.table_types.specs.Rosters.{is_same_name}
use Rattle.known_state.specs.Plans.{at_start, name_held, names_in}
use Rattle.price_checker.specs.declared.names_held.Held.{Held}
use Rattle.price_checker.specs.declared.names_held.Held.TheVariants as held
use Rattle.price_checker.specs.LastPlaces.{name_cmp}
use Rattle.price_checker.specs.NamesHeld.{names_held, slots_held}
use Rattle.price_checker.proofs.NamesInOrder.{same_is}

listed : (names : List (List ℕ)) → names_in (map (λ name. Some name) names) ≡ names
listed [] = refl
listed (n ∷ ns) = ap (λ (l : List (List ℕ)). n ∷ l) (listed ns)

-- slots that hold the names hold no others
pub all_held : (h : Held) → names_in (slots_held h) ≡ names_held h
all_held (held.Names names) = listed names.now
all_held (held.Slots slots) = refl

-- each name of a list is in a slot of its own
pub name_at : (names : List (List ℕ)) (i : ℕ) → i < length names → (n : List ℕ) → get_or (map (λ name. Some name) names) i None ≡ Some (get_or names i n)
name_at [] i below n = absurd (omega arith)
name_at (x ∷ xs) zero below n = refl
name_at (x ∷ xs) (suc i) below n = name_at xs i (omega arith) n

both : (slots : List (Option (List ℕ))) (h : Option (List ℕ)) → names_in (slots ++ h ∷ []) ≡ names_in slots ++ name_held h
both [] None = refl
both [] (Some n) = refl
both (None ∷ slots) h = both slots h
both (Some n ∷ slots) h = ap (λ (l : List (List ℕ)). n ∷ l) (both slots h)

any_more : (f : List ℕ → Bool) (names : List (List ℕ)) (n : List ℕ) → list_any f (names ++ n ∷ []) ≡ (list_any f names || f n)
any_more f [] n = by (f n)
  where
    by : (b : Bool) → (b || false) ≡ b
    by true = refl
    by false = refl
any_more f (x ∷ xs) n = ap (λ (b : Bool). f x || b) (any_more f xs n) ∙ by (f x) (list_any f xs) (f n)
  where
    by : (a b c : Bool) → (a || (b || c)) ≡ ((a || b) || c)
    by true b c = refl
    by false b c = refl

same_back : (a b : List ℕ) → is_same_name a b ≡ is_same_name b a
same_back a b = same_is a b ∙ ap is_eq (nat_list_cmp_total.antisymm a b) ∙ by (name_cmp b a) ∙ sym (same_is b a)
  where
    by : (o : Ordering) → is_eq (ordering_reverse o) ≡ is_eq o
    by Less = refl
    by Equal = refl
    by Greater = refl

one_more : (slots : List (Option (List ℕ))) (i : ℕ) (h : Option (List ℕ)) → i < length slots → get_or slots i None ≡ h → names_in (take (i + 1) slots) ≡ names_in (take i slots) ++ name_held h
one_more slots i h below is =
    ap names_in (take_more slots i None below)
    ∙ both (take i slots) (get_or slots i None)
    ∙ ap (λ (o : Option (List ℕ)). names_in (take i slots) ++ name_held o) is

-- one more slot: an empty one changes nothing
pub empty_slot : (slots : List (Option (List ℕ))) (i : ℕ) → i < length slots → get_or slots i None ≡ None → (name : List ℕ)
    → (at_start (names_in (take (i + 1) slots))).last name ≡ (at_start (names_in (take i slots))).last name
empty_slot slots i below is name =
    ap (λ (ns : List (List ℕ)). (at_start ns).last name) (one_more slots i None below is ∙ append-nil (names_in (take i slots)))

-- and the name of any other has place 0
pub named_slot : (slots : List (Option (List ℕ))) (i : ℕ) (n : List ℕ) → i < length slots → get_or slots i None ≡ Some n → (name : List ℕ)
    → (at_start (names_in (take (i + 1) slots))).last name ≡ cond (is_same_name n name) (Some 0) ((at_start (names_in (take i slots))).last name)
named_slot slots i n below is name =
    ap (λ (ns : List (List ℕ)). (at_start ns).last name) (one_more slots i (Some n) below is)
    ∙ ap at (any_more (is_same_name name) (names_in (take i slots)) n)
    ∙ ap (λ (b : Bool). at (list_any (is_same_name name) (names_in (take i slots)) || b)) (same_back name n)
    ∙ by (list_any (is_same_name name) (names_in (take i slots))) (is_same_name n name)
  where
    at : Bool → Option ℕ
    at b = cond b (Some 0) None

    by : (a b : Bool) → at (a || b) ≡ cond b (Some 0) (at a)
    by true true = refl
    by true false = refl
    by false true = refl
    by false false = refl
