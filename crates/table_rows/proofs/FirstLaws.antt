-- Which row is the first to end.
use Rattle.std.proofs.Common.{◌≡◌, ◌⊎◌, ℕ, suc, ◌+◌, ◌<◌, ◌≤◌, Bool, true, false, List, [], ◌∷◌, ◌++◌, length, take, get_or, Option, Some, None, IfSome, option_map, refl, sym, ap, ◌∙◌, subst, arith, inl, inr, append_assoc}
use Rattle.std.specs.Prelude.{is_some, nat_lt}
use Rattle.std.specs.List.{AllByRecursion}
use Rattle.std.specs.List.Sorted.{IsStrictlySortedBy}
use Rattle.std.specs.Map.{keys_of}
use Rattle.std.specs.declared.cmp.Ordering.{Ordering}
use Rattle.std.specs.declared.cmp.Ordering.TheVariants.{Less, Equal, Greater}
use Rattle.std.specs.Ordering.{is_gt, is_lt, ordering_reverse}
use Rattle.std.specs.Cmp.{IsTotalOrder, nat_cmp_total, on_total, then_total}
use Rattle.std.proofs.lemmas.Bool.{lt-ltb}
use Rattle.std.proofs.lemmas.Cmp.{tied_itself}
use Rattle.std.proofs.lemmas.List.{append-nil, take_all, take_more}
use Rattle.table_types.specs.declared.key.Key.{Key}
use Rattle.table_types.specs.Keys.{key_cmp}
use Rattle.table_types.specs.KeyOrder.{key_cmp_total}
use Rattle.table_types.specs.Rows.{StoredRow}
use Rattle.table_rows.specs.Rows.{IsFirstOf, IsFirstToEnd, end_cmp, ends_cmp, row_at}

-- ---- the order in which rows end is total

reversed : (o : Ordering) → ordering_reverse (ordering_reverse o) ≡ o
reversed Less = refl
reversed Equal = refl
reversed Greater = refl

ends_total : IsTotalOrder ends_cmp
ends_total = record { antisymm = turns; trans = goes_on; congr = ties }
  where
    turns : (a b : Option ℕ) → ends_cmp a b ≡ ordering_reverse (ends_cmp b a)
    turns (Some a) (Some b) = nat_cmp_total.antisymm a b
    turns (Some a) None = refl
    turns None (Some b) = refl
    turns None None = refl

    goes_on : (a b c : Option ℕ) → ends_cmp a b ≡ Less → ends_cmp b c ≡ Less → ends_cmp a c ≡ Less
    goes_on (Some a) (Some b) (Some c) one two = nat_cmp_total.trans a b c one two
    goes_on (Some a) (Some b) None one two = refl
    goes_on (Some a) None (Some c) one two = cc
    goes_on (Some a) None None one two = refl
    goes_on None (Some b) (Some c) one two = cc
    goes_on None (Some b) None one two = cc
    goes_on None None (Some c) one two = cc
    goes_on None None None one two = cc

    ties : (a b c : Option ℕ) → ends_cmp a b ≡ Equal → ends_cmp a c ≡ ends_cmp b c
    ties (Some a) (Some b) (Some c) tied = nat_cmp_total.congr a b c tied
    ties (Some a) (Some b) None tied = refl
    ties (Some a) None c tied = absurd cc
    ties None (Some b) c tied = absurd cc
    ties None None c tied = refl

pub end_cmp_total : IsTotalOrder end_cmp
end_cmp_total =
    then_total (on_total (λ (e : Key × StoredRow). e.1.ends) ends_total)
    (then_total (on_total (λ (e : Key × StoredRow). e.1.number) nat_cmp_total) (on_total (λ (e : Key × StoredRow). e.0) key_cmp_total))

-- ---- which comes first

abbrev IsNotAfter : Key × StoredRow → Key × StoredRow → Type 0
IsNotAfter a b = is_gt (end_cmp a b) ≡ false

not_after_itself : (e : Key × StoredRow) → IsNotAfter e e
not_after_itself e = ap is_gt (tied_itself end_cmp_total e)

not_after_later : (a b c : Key × StoredRow) → IsNotAfter a b → IsNotAfter b c → IsNotAfter a c
not_after_later a b c first second = by (end_cmp a b) (end_cmp b c) refl refl first second
  where
    by : (o p : Ordering) → end_cmp a b ≡ o → end_cmp b c ≡ p → is_gt o ≡ false → is_gt p ≡ false → IsNotAfter a c
    by Greater p is next holds holds_too = absurd cc
    by o Greater is next holds holds_too = absurd cc
    by Less Less is next holds holds_too = ap is_gt (end_cmp_total.trans a b c is next)
    by Less Equal is next holds holds_too =
        let back : end_cmp c b ≡ Equal = end_cmp_total.antisymm c b ∙ ap ordering_reverse next in
        let same : end_cmp c a ≡ end_cmp b a = end_cmp_total.congr c b a back in
        let turned : end_cmp b a ≡ Greater = end_cmp_total.antisymm b a ∙ ap ordering_reverse is in
        ap is_gt (end_cmp_total.antisymm a c ∙ ap ordering_reverse (same ∙ turned))
    by Equal Less is next holds holds_too = ap is_gt (end_cmp_total.congr a b c is ∙ next)
    by Equal Equal is next holds holds_too = ap is_gt (end_cmp_total.congr a b c is ∙ next)

less_not_after : (a b : Key × StoredRow) → is_lt (end_cmp a b) ≡ true → IsNotAfter a b
less_not_after a b less = by (end_cmp a b) less
  where
    by : (o : Ordering) → is_lt o ≡ true → is_gt o ≡ false
    by Less holds = refl
    by Equal holds = refl
    by Greater holds = absurd cc

not_less : (a b : Key × StoredRow) → is_lt (end_cmp b a) ≡ false → IsNotAfter a b
not_less a b holds = ap is_gt (end_cmp_total.antisymm a b) ∙ turned (end_cmp b a) ∙ holds
  where
    turned : (o : Ordering) → is_gt (ordering_reverse o) ≡ is_lt o
    turned Less = refl
    turned Equal = refl
    turned Greater = refl

-- ---- one of some rows

abbrev pub IsOne : Key × StoredRow → List (Key × StoredRow) → Type 0
IsOne e [] = ⊥
IsOne e (x ∷ xs) = (e ≡ x) ⊎ IsOne e xs

above_one : (least : Key) (e : Key × StoredRow) (es : List (Key × StoredRow)) → AllByRecursion (λ q. key_cmp least q ≡ Less) (keys_of es) → IsOne e es → key_cmp least e.0 ≡ Less
above_one least e [] above one = absurd one
above_one least e (x ∷ xs) above (inl same) = subst (λ (y : Key × StoredRow). key_cmp least y.0 ≡ Less) (sym same) above.0
above_one least e (x ∷ xs) above (inr later) = above_one least e xs above.1 later

row_of_one : (e : Key × StoredRow) (es : List (Key × StoredRow)) → IsStrictlySortedBy key_cmp (keys_of es) → IsOne e es → row_at e.0 es ≡ Some e.1
unfolding IsStrictlySortedBy
row_of_one e [] rising one = absurd one
row_of_one e (x ∷ xs) rising (inl same) =
    subst (λ (y : Key × StoredRow). row_at y.0 (x ∷ xs) ≡ Some y.1) (sym same) (rw (tied_itself key_cmp_total x.0) refl)
row_of_one e (x ∷ xs) rising (inr later) =
    let greater : key_cmp e.0 x.0 ≡ Greater = key_cmp_total.antisymm e.0 x.0 ∙ ap ordering_reverse (above_one x.0 e xs rising.0 later) in
    rw greater (row_of_one e xs rising.1 later)

-- ---- the first to end of some rows

-- one of them, which comes after none of them; or there are none
abbrev pub IsFirst : List (Key × StoredRow) → Option (Key × StoredRow) → Type 0
IsFirst rows None = rows ≡ []
IsFirst rows (Some e) = IsOne e rows × AllByRecursion (IsNotAfter e) rows

one_more : (e x : Key × StoredRow) (rows : List (Key × StoredRow)) → IsOne e rows → IsOne e (rows ++ x ∷ [])
one_more e x [] one = absurd one
one_more e x (y ∷ ys) (inl here) = inl here
one_more e x (y ∷ ys) (inr later) = inr (one_more e x ys later)

last_one : (e : Key × StoredRow) (rows : List (Key × StoredRow)) → IsOne e (rows ++ e ∷ [])
last_one e [] = inl refl
last_one e (y ∷ ys) = inr (last_one e ys)

before_all : (e first : Key × StoredRow) (rows : List (Key × StoredRow)) → IsNotAfter e first → AllByRecursion (IsNotAfter first) rows → AllByRecursion (IsNotAfter e) rows
before_all e first [] here all = tt
before_all e first (y ∷ ys) here (next, all) = (not_after_later e first y here next, before_all e first ys here all)

before_more : (e x : Key × StoredRow) (rows : List (Key × StoredRow)) → AllByRecursion (IsNotAfter e) rows → IsNotAfter e x → AllByRecursion (IsNotAfter e) (rows ++ x ∷ [])
before_more e x [] all here = (here, tt)
before_more e x (y ∷ ys) (next, all) here = (next, before_more e x ys all here)

-- of one row more, the one of the first so far and the next that doesn't come after the other
pub first_more : (rows : List (Key × StoredRow)) (first : Option (Key × StoredRow)) (x e : Key × StoredRow) → IsFirst rows first → IsFirstOf first x e → IsFirst (rows ++ x ∷ []) (Some e)
first_more rows None x e none is =
    (subst (λ (y : Key × StoredRow). IsOne y (rows ++ x ∷ [])) (sym is) (last_one x rows), before_more e x rows (subst (AllByRecursion (IsNotAfter e)) (sym none) tt) (subst (λ (y : Key × StoredRow). IsNotAfter y x) (sym is) (not_after_itself x)))
first_more rows (Some f) x e (one, all) (either, before, not_after) = (chosen either, before_more e x rows (before_all e f rows before all) not_after)
  where
    chosen : (e ≡ f) ⊎ (e ≡ x) → IsOne e (rows ++ x ∷ [])
    chosen (inl same) = subst (λ (y : Key × StoredRow). IsOne y (rows ++ x ∷ [])) (sym same) (one_more f x rows one)
    chosen (inr same) = subst (λ (y : Key × StoredRow). IsOne y (rows ++ x ∷ [])) (sym same) (last_one x rows)

-- the key of the first of all rows
pub key_found : {A : Type 0} (entry : A → Key × StoredRow) (found : Option A) (key : Option Key) (rows : List (Key × StoredRow)) → IsStrictlySortedBy key_cmp (keys_of rows)
    → key ≡ option_map (λ a. (entry a).0) found → IsFirst rows (option_map entry found) → IfSome key (IsFirstToEnd rows)
key_found entry None key rows rising is none = subst (λ (o : Option Key). IfSome o (IsFirstToEnd rows)) (sym is) tt
key_found entry (Some a) key rows rising is (one, all) =
    subst (λ (o : Option Key). IfSome o (IsFirstToEnd rows)) (sym is) ((entry a).1, row_of_one (entry a) rows rising one, all)

has_one : (e : Key × StoredRow) (rows : List (Key × StoredRow)) → IsOne e rows → nat_lt 0 (length rows) ≡ true
has_one e [] one = absurd one
has_one e (x ∷ xs) one = lt-ltb 0 (suc (length xs)) (omega arith)

-- and whether there is one
pub any_found : {A : Type 0} (entry : A → Key × StoredRow) (found : Option A) (some : Bool) (rows : List (Key × StoredRow)) → some ≡ is_some found → IsFirst rows (option_map entry found) → some ≡ nat_lt 0 (length rows)
any_found entry None some rows is none = is ∙ ap (λ (l : List (Key × StoredRow)). nat_lt 0 (length l)) (sym none)
any_found entry (Some a) some rows is (one, all) = is ∙ sym (has_one (entry a) rows one)

-- ---- of two rows

pub earlier : (f x : Key × StoredRow) → is_lt (end_cmp x f) ≡ true → IsFirstOf (Some f) x x
earlier f x less = (inr refl, less_not_after x f less, not_after_itself x)

pub not_earlier : (f x : Key × StoredRow) → is_lt (end_cmp x f) ≡ false → IsFirstOf (Some f) x f
not_earlier f x less = (inl refl, not_after_itself f, not_less f x less)

-- ---- a walk over the rows of a list, and of a map

-- a walk that has come to an index has found the first of the rows before it
pub next_taken : (rows : List (Key × StoredRow)) (i : ℕ) (first : Option (Key × StoredRow)) (x e : Key × StoredRow) → i < length rows → x ≡ get_or rows i x → IsFirstOf first x e → IsFirst (take i rows) first → IsFirst (take (i + 1) rows) (Some e)
next_taken rows i first x e within at is found =
    subst (λ (l : List (Key × StoredRow)). IsFirst l (Some e)) (sym (take_more rows i x within ∙ ap (λ (y : Key × StoredRow). take i rows ++ y ∷ []) (sym at))) (first_more (take i rows) first x e found is)

pub all_taken : (rows : List (Key × StoredRow)) (i : ℕ) (first : Option (Key × StoredRow)) → length rows ≤ i → IsFirst (take i rows) first → IsFirst rows first
all_taken rows i first past found = subst (λ (l : List (Key × StoredRow)). IsFirst l first) (take_all i rows past) found

-- a walk that has these rows left has found the first of those before them
abbrev pub IsFoundBefore : List (Key × StoredRow) → List (Key × StoredRow) → Option (Key × StoredRow) → Type 0
IsFoundBefore left rows first = (passed : List (Key × StoredRow)) × (passed ++ left ≡ rows) × IsFirst passed first

pub next_passed : (left rest rows : List (Key × StoredRow)) (first : Option (Key × StoredRow)) (x e : Key × StoredRow) → left ≡ x ∷ rest → IsFirstOf first x e → IsFoundBefore left rows first → IsFoundBefore rest rows (Some e)
next_passed left rest rows first x e steps is (passed, whole, found) =
    (passed ++ x ∷ [], append_assoc passed (x ∷ []) rest ∙ ap (λ (l : List (Key × StoredRow)). passed ++ l) (sym steps) ∙ whole, first_more passed first x e found is)

pub all_passed : (left rows : List (Key × StoredRow)) (first : Option (Key × StoredRow)) → left ≡ [] → IsFoundBefore left rows first → IsFirst rows first
all_passed left rows first none (passed, whole, found) =
    subst (λ (l : List (Key × StoredRow)). IsFirst l first) (sym (append-nil passed) ∙ ap (λ (l : List (Key × StoredRow)). passed ++ l) (sym none) ∙ whole) found
