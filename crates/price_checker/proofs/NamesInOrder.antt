-- Names in ascending order, each with its last place: what a search finds, and what an edit at that index does.
use Rattle.std.proofs.Common.{◌≡◌, ℕ, zero, suc, ◌+◌, ◌-◌, ◌<◌, ◌≤◌, Bool, true, false, cond, List, [], ◌∷◌, ◌++◌, length, get_or, set, take, drop, Option, Some, None, Result, Ok, Err, IfOk, IfErr, refl, sym, ap, ◌∙◌, subst, inl, inr, arith}
use Rattle.std.specs.Prelude.{◌⊎◌}
use Rattle.std.specs.List.{AllByRecursion, insert}
use Rattle.std.specs.List.Sorted.{IsBinarySearchResult, IsSearchInRange, IsNonDecreasingBy}
use Rattle.std.specs.Ordering.{nat_cmp, ordering_index, ordering_reverse, is_lt, is_eq}
use Rattle.std.specs.declared.cmp.Ordering.TheVariants.{Less, Greater}
use Rattle.std.specs.Cmp.{unsigned_ties}
use Rattle.std.specs.Cmp.Lexicographic.{lists_ties, same_text}
use Rattle.std.proofs.lemmas.Bool.{cases_lt}
use Rattle.std.proofs.lemmas.Cmp.{nat_list_cmp_total}
use Rattle.std.proofs.lemmas.List.{drop_more, drop_all, drop-take, take-take, take_at, set_at, get_or-take, length-take-le, length-drop, length-append}
use Rattle.std.proofs.lemmas.List.Edits.{length-insert}
use Rattle.std.proofs.lemmas.List.Sorted.{searchable_from_sorted}
use Rattle.table_types.specs.Rosters.{is_same_name}
use Rattle.known_state.proofs.RosterNamesDiffer.{name_itself}
use Rattle.price_checker.specs.declared.last_places.LastPlace.{LastPlace}
use Rattle.price_checker.specs.LastPlaces.{place_of, name_cmp, NamesRise, HasNameAt, IsGapFor}

-- ---- two names

-- they are the same if and only if they compare as equal
pub same_is : (a b : List ℕ) → is_same_name a b ≡ is_eq (name_cmp a b)
same_is = lists_ties nat_cmp unsigned_ties

other_if_less : (a b : List ℕ) → name_cmp a b ≡ Less → is_same_name a b ≡ false
other_if_less a b less = same_is a b ∙ ap is_eq less

greater_back : (a b : List ℕ) → name_cmp a b ≡ Less → name_cmp b a ≡ Greater
greater_back a b less = nat_list_cmp_total.antisymm b a ∙ ap ordering_reverse less

less_back : (a b : List ℕ) → name_cmp a b ≡ Greater → name_cmp b a ≡ Less
less_back a b greater = nat_list_cmp_total.antisymm b a ∙ ap ordering_reverse greater

same_bytes : (a b : List ℕ) → is_same_name a b ≡ true → a ≡ b
same_bytes a b same = same_text a b (sym same)

-- a third name is not the same as both of two that differ
not_both : (a b other : List ℕ) → is_same_name a b ≡ false → is_same_name a other ≡ true → is_same_name b other ≡ true → ⊥
not_both a b other apart first second =
    let one : a ≡ b = same_bytes a other first ∙ sym (same_bytes b other second) in
    let bad : true ≡ false = sym (name_itself b) ∙ subst (λ (n : List ℕ). is_same_name n b ≡ false) one apart in
    cc

-- so it doesn't matter which of the two is looked at first
either_first : (a b : Bool) (x y z : Option ℕ) → (a ≡ true → b ≡ true → ⊥) → cond a x (cond b y z) ≡ cond b y (cond a x z)
either_first true true x y z apart = absurd (apart refl refl)
either_first true false x y z apart = refl
either_first false true x y z apart = refl
either_first false false x y z apart = refl

-- ---- what holds of all elements

all_at : (P : LastPlace → Type 0) (ls : List LastPlace) (i : ℕ) (d : LastPlace) → AllByRecursion P ls → i < length ls → P (get_or ls i d)
all_at P [] i d all below = absurd (omega arith)
all_at P (l ∷ ls) zero d all below = all.0
all_at P (l ∷ ls) (suc i) d all below = all_at P ls i d all.1 (omega arith)

all_if : (P : LastPlace → Type 0) (ls : List LastPlace) → ((k : ℕ) (d : LastPlace) → k < length ls → P (get_or ls k d)) → AllByRecursion P ls
all_if P [] each = tt
all_if P (l ∷ ls) each = (each 0 l (omega arith), all_if P ls (λ k d below. each (suc k) d (omega arith)))

all_set : (P : LastPlace → Type 0) (ls : List LastPlace) (i : ℕ) (x : LastPlace) → AllByRecursion P ls → P x → AllByRecursion P (set ls i x)
all_set P [] i x all one = tt
all_set P (l ∷ ls) zero x all one = (one, all.1)
all_set P (l ∷ ls) (suc i) x all one = (all.0, all_set P ls i x all.1 one)

all_insert : (P : LastPlace → Type 0) (ls : List LastPlace) (i : ℕ) (x : LastPlace) → AllByRecursion P ls → P x → AllByRecursion P (insert ls i x)
all_insert P ls zero x all one = (one, all)
all_insert P [] (suc i) x all one = (one, tt)
all_insert P (l ∷ ls) (suc i) x all one = (all.0, all_insert P ls i x all.1 one)

-- ---- the search

-- names before the one at an index differ from it
first_differs : (l : LastPlace) (ls : List LastPlace) (name : List ℕ) (i : ℕ) (d : LastPlace) → NamesRise (l ∷ ls) → i < length ls → is_same_name (get_or ls i d).name.now name ≡ true → is_same_name l.name.now name ≡ false
first_differs l ls name i d rise below same =
    other_if_less l.name.now name
    (subst (λ (n : List ℕ). name_cmp l.name.now n ≡ Less) (same_bytes (get_or ls i d).name.now name same)
    (all_at (λ other. name_cmp l.name.now other.name.now ≡ Less) ls i d rise.0 below))

-- the name at an index has the place there
pub place_here : (ls : List LastPlace) (name : List ℕ) (i : ℕ) (d : LastPlace) → NamesRise ls → i < length ls → is_same_name (get_or ls i d).name.now name ≡ true → place_of ls name ≡ Some (get_or ls i d).place
place_here [] name i d rise below same = absurd (omega arith)
place_here (l ∷ ls) name zero d rise below same = ap (λ (b : Bool). cond b (Some l.place) (place_of ls name)) same
place_here (l ∷ ls) name (suc i) d rise below same =
    ap (λ (b : Bool). cond b (Some l.place) (place_of ls name)) (first_differs l ls name i d rise (omega arith) same)
    ∙ place_here ls name i d rise.1 (omega arith) same

place_none : (ls : List LastPlace) (name : List ℕ) → ((k : ℕ) (d : LastPlace) → k < length ls → is_same_name (get_or ls k d).name.now name ≡ false) → place_of ls name ≡ None
place_none [] name others = refl
place_none (l ∷ ls) name others =
    ap (λ (b : Bool). cond b (Some l.place) (place_of ls name)) (others 0 l (omega arith))
    ∙ place_none ls name (λ k d below. others (suc k) d (omega arith))

-- a name with a gap has no place
pub place_in_gap : (ls : List LastPlace) (name : List ℕ) (i : ℕ) → IsGapFor ls name i → place_of ls name ≡ None
place_in_gap ls name i gap = place_none ls name (λ k d below. by k d below (cases_lt k i))
  where
    by : (k : ℕ) (d : LastPlace) → k < length ls → (k < i) ⊎ (i ≤ k) → is_same_name (get_or ls k d).name.now name ≡ false
    by k d below (inl before) = other_if_less (get_or ls k d).name.now name (gap.1 k d before)
    by k d below (inr from) = same_is (get_or ls k d).name.now name ∙ ap is_eq (gap.2 k d from below)

adjacent : (ls : List LastPlace) (k : ℕ) (d : LastPlace) → NamesRise ls → suc k < length ls → is_lt (name_cmp (get_or ls (suc k) d).name.now (get_or ls k d).name.now) ≡ false
adjacent [] k d rise below = absurd (omega arith)
adjacent (l ∷ ls) zero d rise below =
    ap is_lt (greater_back l.name.now (get_or ls 0 d).name.now (all_at (λ other. name_cmp l.name.now other.name.now ≡ Less) ls 0 d rise.0 (omega arith)))
adjacent (l ∷ ls) (suc k) d rise below = adjacent ls k d rise.1 (omega arith)

-- the comparisons with a name rise along the list, as a binary search asks
comparisons_rise : (ls : List LastPlace) (name : List ℕ) → NamesRise ls → IsNonDecreasingBy (λ l. ordering_index (name_cmp l.name.now name)) ls
comparisons_rise ls name rise =
    searchable_from_sorted nat_list_cmp_total (λ (l : LastPlace). l.name.now) ls name (λ k d from below.
    let next : suc k ≡ k + 1 = omega arith in
    subst (λ (n : ℕ). is_lt (name_cmp (get_or ls n d).name.now (get_or ls k d).name.now) ≡ false) next (adjacent ls k d rise (omega arith)))

-- a binary search ends at the name, or at the gap for it
pub found_here : (ls : List LastPlace) (name : List ℕ) (r : Result ℕ ℕ) → IsSearchInRange r (length ls) → IsBinarySearchResult (λ l. name_cmp l.name.now name) ls r → IfOk r (HasNameAt ls name)
found_here ls name (Ok i) within equal = (within, λ d. same_is (get_or ls i d).name.now name ∙ ap is_eq (equal d))
found_here ls name (Err i) within parted = tt

pub gap_here : (ls : List LastPlace) (name : List ℕ) (r : Result ℕ ℕ) → NamesRise ls → IsSearchInRange r (length ls) → IsBinarySearchResult (λ l. name_cmp l.name.now name) ls r → IfErr r (IsGapFor ls name)
gap_here ls name (Ok i) rise within equal = tt
gap_here ls name (Err i) rise within parted =
    let parts = parted (comparisons_rise ls name rise) in (
      within,
      λ k d before. parts.0 k d (omega arith) before,
      λ k d from below. parts.1 k d from below,
    )

-- ---- a new place for a name that is there

-- the name stays
abbrev pub moved_to : LastPlace → ℕ → LastPlace
moved_to l place = record { name = l.name; place = place }

pub rise_moved : (ls : List LastPlace) (i : ℕ) (d : LastPlace) (place : ℕ) → NamesRise ls → i < length ls → NamesRise (set ls i (moved_to (get_or ls i d) place))
rise_moved [] i d place rise below = absurd (omega arith)
rise_moved (l ∷ ls) zero d place rise below = rise
rise_moved (l ∷ ls) (suc i) d place rise below =
    let less = all_at (λ other. name_cmp l.name.now other.name.now ≡ Less) ls i d rise.0 (omega arith) in
    (all_set (λ other. name_cmp l.name.now other.name.now ≡ Less) ls i (moved_to (get_or ls i d) place) rise.0 less, rise_moved ls i d place rise.1 (omega arith))

pub place_moved : (ls : List LastPlace) (name other : List ℕ) (i : ℕ) (d : LastPlace) (place : ℕ) → NamesRise ls → i < length ls → is_same_name (get_or ls i d).name.now name ≡ true
    → place_of (set ls i (moved_to (get_or ls i d) place)) other ≡ cond (is_same_name name other) (Some place) (place_of ls other)
place_moved [] name other i d place rise below same = absurd (omega arith)
place_moved (l ∷ ls) name other zero d place rise below same =
    by (is_same_name l.name.now other)
    ∙ ap (λ (n : List ℕ). cond (is_same_name n other) (Some place) (place_of (l ∷ ls) other)) (same_bytes l.name.now name same)
  where
    by : (b : Bool) → cond b (Some place) (place_of ls other) ≡ cond b (Some place) (cond b (Some l.place) (place_of ls other))
    by true = refl
    by false = refl
place_moved (l ∷ ls) name other (suc i) d place rise below same =
    ap (λ (o : Option ℕ). cond (is_same_name l.name.now other) (Some l.place) o) (place_moved ls name other i d place rise.1 (omega arith) same)
    ∙ either_first (is_same_name l.name.now other) (is_same_name name other) (Some l.place) (Some place) (place_of ls other) (not_both l.name.now name other (first_differs l ls name i d rise (omega arith) same))

-- ---- a new name in its gap

pub rise_inserted : (ls : List LastPlace) (i : ℕ) (new : LastPlace) → NamesRise ls → IsGapFor ls new.name.now i → NamesRise (insert ls i new)
rise_inserted ls zero new rise gap =
    (all_if (λ other. name_cmp new.name.now other.name.now ≡ Less) ls (λ k d below. less_back (get_or ls k d).name.now new.name.now (gap.2 k d (omega arith) below)), rise)
rise_inserted [] (suc i) new rise gap = absurd (omega (arith, gap.0))
rise_inserted (l ∷ ls) (suc i) new rise gap = (
  all_insert (λ other. name_cmp l.name.now other.name.now ≡ Less) ls i new rise.0 (gap.1 0 l (omega arith)),
  rise_inserted ls i new rise.1 (omega (arith, gap.0), λ k d before. gap.1 (suc k) d (omega arith), λ k d from below. gap.2 (suc k) d (omega arith) (omega arith)),
)

pub place_inserted : (ls : List LastPlace) (other : List ℕ) (i : ℕ) (new : LastPlace) → IsGapFor ls new.name.now i → place_of (insert ls i new) other ≡ cond (is_same_name new.name.now other) (Some new.place) (place_of ls other)
place_inserted ls other zero new gap = refl
place_inserted [] other (suc i) new gap = absurd (omega (arith, gap.0))
place_inserted (l ∷ ls) other (suc i) new gap =
    ap (λ (o : Option ℕ). cond (is_same_name l.name.now other) (Some l.place) o)
    (place_inserted ls other i new (omega (arith, gap.0), λ k d before. gap.1 (suc k) d (omega arith), λ k d from below. gap.2 (suc k) d (omega arith) (omega arith)))
    ∙ either_first (is_same_name l.name.now other) (is_same_name new.name.now other) (Some l.place) (Some new.place) (place_of ls other) (not_both l.name.now new.name.now other (other_if_less l.name.now new.name.now (gap.1 0 l (omega arith))))

-- ---- in the array

pub take-set : (ls : List LastPlace) (n i : ℕ) (x : LastPlace) → i < n → take n (set ls i x) ≡ set (take n ls) i x
take-set ls zero i x below = absurd (omega arith)
take-set [] (suc n) i x below = refl
take-set (l ∷ ls) (suc n) zero x below = refl
take-set (l ∷ ls) (suc n) (suc i) x below = ap (λ (rest : List LastPlace). l ∷ rest) (take-set ls n i x (omega arith))

-- a turn by one and a write insert an element, and drop the last one
pub turned : (ls ys : List LastPlace) (i : ℕ) (new : LastPlace) → i < length ls → ys ≡ drop (length (drop i ls) - 1) (drop i ls) ++ take (length (drop i ls) - 1) (drop i ls) → set (take i ls ++ ys) i new ≡ insert (take (length ls - 1) ls) i new
turned ls ys i new below is =
    let m = drop i ls in
    let n = length m - 1 in
    let x = get_or m n new in
    let long : length m ≡ length ls - i = length-drop i ls in
    let last : drop n m ≡ x ∷ [] = drop_more m n new (omega arith) ∙ ap (λ (t : List LastPlace). x ∷ t) (drop_all (n + 1) m (omega arith)) in
    let whole : take i ls ++ ys ≡ take i ls ++ x ∷ take n m = ap (λ (t : List LastPlace). take i ls ++ t) (is ∙ ap (λ (t : List LastPlace). t ++ take n m) last) in
    let front : take i (take (length ls - 1) ls) ≡ take i ls = take-take i (length ls - 1) ls (omega arith) in
    let size : length ls - 1 ≡ i + n = omega arith in
    let back : drop i (take (length ls - 1) ls) ≡ take n m = ap (λ (k : ℕ). drop i (take k ls)) size ∙ drop-take i n ls in
    ap (λ (t : List LastPlace). set t i new) whole
    ∙ set_at (take i ls) x (take n m) new i (length-take-le i ls (omega arith))
    ∙ ap (λ (t : List LastPlace). t ++ new ∷ take n m) (sym front)
    ∙ ap (λ (t : List LastPlace). take i (take (length ls - 1) ls) ++ new ∷ t) (sym back)

-- the array after an insertion among its first elements
pub grown : (places made : List LastPlace) (count i : ℕ) (new : LastPlace) → count < length places → i ≤ count → made ≡ insert (take (length (take (count + 1) places) - 1) (take (count + 1) places)) i new
    → (take (count + 1) (made ++ drop (count + 1) places) ≡ insert (take count places) i new) × (length (made ++ drop (count + 1) places) ≡ length places)
grown places made count i new below within is =
    let long : length (take (count + 1) places) ≡ count + 1 = length-take-le (count + 1) places (omega arith) in
    let one_less : length (take (count + 1) places) - 1 ≡ count = omega arith in
    let front : take (length (take (count + 1) places) - 1) (take (count + 1) places) ≡ take count places = ap (λ (k : ℕ). take k (take (count + 1) places)) one_less ∙ take-take count (count + 1) places (omega arith) in
    let inserted : made ≡ insert (take count places) i new = is ∙ ap (λ (t : List LastPlace). insert t i new) front in
    let few : length (take count places) ≡ count = length-take-le count places (omega arith) in
    let size : length made ≡ count + 1 = ap length inserted ∙ length-insert (take count places) i new (omega arith) ∙ omega arith in (
      take_at made (drop (count + 1) places) (count + 1) size ∙ inserted,
      omega (arith, length-append made (drop (count + 1) places), length-drop (count + 1) places),
    )

pub count_is : (places ls : List LastPlace) (count : ℕ) → count ≤ length places → take count places ≡ ls → count ≡ length ls
count_is places ls count within is = sym (length-take-le count places within) ∙ ap length is

-- the array after a new place for a name among its first elements
pub renewed : (places : List LastPlace) (count i : ℕ) (d : LastPlace) (place : ℕ) → i < count → take count (set places i (moved_to (get_or places i d) place)) ≡ set (take count places) i (moved_to (get_or (take count places) i d) place)
renewed places count i d place below =
    take-set places count i (moved_to (get_or places i d) place) below
    ∙ ap (λ (l : LastPlace). set (take count places) i (moved_to l place)) (sym (get_or-take count places i d below))
