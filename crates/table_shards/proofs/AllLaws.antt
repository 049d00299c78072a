-- What holds of all elements of a list.
use Rattle.std.proofs.Common.{◌≡◌, ℕ, zero, suc, ◌+◌, ◌<◌, List, [], ◌∷◌, ◌++◌, length, get_or, take, sym, subst, arith}
use Rattle.std.specs.List.{AllByRecursion}
use Rattle.std.proofs.lemmas.List.{take_more}

pub all_end : {A : Type 0} (P : A → Type 0) (x : A) (xs : List A) → AllByRecursion P xs → P x → AllByRecursion P (xs ++ x ∷ [])
all_end P x [] all last = (last, tt)
all_end P x (y ∷ ys) (first, rest) last = (first, all_end P x ys rest last)

pub all_both : {A : Type 0} (P : A → Type 0) (xs ys : List A) → AllByRecursion P xs → AllByRecursion P ys → AllByRecursion P (xs ++ ys)
all_both P [] ys left right = right
all_both P (x ∷ xs) ys (first, rest) right = (first, all_both P xs ys rest right)

pub all_left : {A : Type 0} (P : A → Type 0) (xs ys : List A) → AllByRecursion P (xs ++ ys) → AllByRecursion P xs
all_left P [] ys all = tt
all_left P (x ∷ xs) ys (first, rest) = (first, all_left P xs ys rest)

pub all_right : {A : Type 0} (P : A → Type 0) (xs ys : List A) → AllByRecursion P (xs ++ ys) → AllByRecursion P ys
all_right P [] ys all = all
all_right P (x ∷ xs) ys (first, rest) = all_right P xs ys rest

pub all_so : {A : Type 0} (P Q : A → Type 0) (so : (x : A) → P x → Q x) (xs : List A) → AllByRecursion P xs → AllByRecursion Q xs
all_so P Q so [] all = all
all_so P Q so (x ∷ xs) (first, rest) = (so x first, all_so P Q so xs rest)

-- one more element
pub all_more : {A : Type 0} (P : A → Type 0) (xs : List A) (i : ℕ) (x : A) → i < length xs → x ≡ get_or xs i x → P x → AllByRecursion P (take i xs) → AllByRecursion P (take (i + 1) xs)
all_more P xs i x lt is one all =
    subst (AllByRecursion P) (sym (take_more xs i x lt)) (all_end P (get_or xs i x) (take i xs) all (subst P is one))

pub all_get : {A : Type 0} (P : A → Type 0) (xs : List A) (i : ℕ) (d : A) → i < length xs → AllByRecursion P xs → P (get_or xs i d)
all_get P [] i d lt all = absurd (omega arith)
all_get P (x ∷ xs) zero d lt (first, rest) = first
all_get P (x ∷ xs) (suc i) d lt (first, rest) = all_get P xs i d (omega arith) rest
