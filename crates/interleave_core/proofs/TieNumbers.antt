-- A session stays tied to a table, by numbers.
use Rattle.std.proofs.Common.{◌≡◌, ◌≢◌, ℕ, ◌<◌, ◌≤◌, Bool, true, false, List, [], ◌∷◌, ◌++◌, refl, sym, ap, subst, ◌∙◌, arith, inl, inr, ◌⊎◌, append_assoc, append-nil, true≢false}
use Rattle.std.specs.List.{AllByRecursion}
use Rattle.std.proofs.lemmas.List.Sums.{fold-append}
use Rattle.table_cell.specs.Handing.{Ascend}
use Rattle.interleave_core.specs.Ties.{IsAmong, IsTied, end_of}

-- ---- elements

among_front : {A : Type 0} (x : A) (xs ys : List A) → IsAmong x xs → IsAmong x (xs ++ ys)
among_front x [] ys at = absurd at
among_front x (y ∷ xs) ys (inl same) = inl same
among_front x (y ∷ xs) ys (inr at) = inr (among_front x xs ys at)

end_among : (least x : ℕ) (xs : List ℕ) → IsAmong (end_of least (x ∷ xs)) (x ∷ xs)
end_among least x [] = inl refl
end_among least x (y ∷ ys) = inr (end_among x y ys)

-- the last of some is among them
end_is_among : (n : ℕ) (xs : List ℕ) → n < end_of 0 xs → IsAmong (end_of 0 xs) xs
end_is_among n [] over = absurd (omega arith)
end_is_among n (x ∷ xs) over = end_among 0 x xs

all_so : {A : Type 0} (P Q : A → Type 0) → ((x : A) → P x → Q x) → (xs : List A) → AllByRecursion P xs → AllByRecursion Q xs
all_so P Q so [] all = tt
all_so P Q so (x ∷ xs) (first, rest) = (so x first, all_so P Q so xs rest)

all_end : {A : Type 0} (P : A → Type 0) (xs : List A) (x : A) → AllByRecursion P xs → P x → AllByRecursion P (xs ++ x ∷ [])
all_end P [] x all last = (last, tt)
all_end P (y ∷ ys) x (first, rest) last = (first, all_end P ys x rest last)

-- ---- numbers that ascend

end_append : (least : ℕ) (xs ys : List ℕ) → end_of least (xs ++ ys) ≡ end_of (end_of least xs) ys
end_append least xs ys = fold-append (λ _ n. n) least xs ys

ascend_append : (least : ℕ) (xs ys : List ℕ) → Ascend least xs → Ascend (end_of least xs) ys → Ascend least (xs ++ ys)
ascend_append least [] ys first second = second
ascend_append least (x ∷ xs) ys (up, rest) second = (up, ascend_append x xs ys rest second)

pub ascend_front : (least : ℕ) (xs ys : List ℕ) → Ascend least (xs ++ ys) → Ascend least xs
ascend_front least [] ys up = tt
ascend_front least (x ∷ xs) ys (first, rest) = (first, ascend_front x xs ys rest)

pub ascend_back : (least : ℕ) (xs ys : List ℕ) → Ascend least (xs ++ ys) → Ascend (end_of least xs) ys
ascend_back least [] ys up = up
ascend_back least (x ∷ xs) ys (first, rest) = ascend_back x xs ys rest

end_above : (least : ℕ) (xs : List ℕ) → Ascend least xs → least ≤ end_of least xs
end_above least [] up = omega arith
end_above least (x ∷ xs) (first, rest) = let on : x ≤ end_of x xs = end_above x xs rest in omega arith

-- each number is above the least, and at most the last
above : (least n : ℕ) (xs : List ℕ) → Ascend least xs → IsAmong n xs → least < n
above least n [] up at = absurd at
above least n (x ∷ xs) (first, rest) (inl same) = subst (λ m. least < m) (sym same) first
above least n (x ∷ xs) (first, rest) (inr later) = let on : x < n = above x n xs rest later in omega arith

pub below : (least n : ℕ) (xs : List ℕ) → Ascend least xs → IsAmong n xs → n ≤ end_of least xs
below least n [] up at = absurd at
below least n (x ∷ xs) (first, rest) (inl same) = subst (λ m. m ≤ end_of x xs) (sym same) (end_above x xs rest)
below least n (x ∷ xs) (first, rest) (inr later) = below x n xs rest later

-- the front has all that is no higher than one of its elements
front_covers : (least a n : ℕ) (xs ys : List ℕ) → Ascend least (xs ++ ys) → IsAmong a xs → IsAmong n (xs ++ ys) → n ≤ a → IsAmong n xs
front_covers least a n [] ys up at here le = absurd at
front_covers least a n (x ∷ xs) ys (first, later) at (inl same) le = inl same
front_covers least a n (x ∷ xs) ys (first, later) (inl same) (inr here) le =
    let over : x < n = above x n (xs ++ ys) later here in
    absurd (omega arith)
front_covers least a n (x ∷ xs) ys (first, later) (inr at) (inr here) le = inr (front_covers x a n xs ys later at here le)

-- nothing is behind the front that ends no lower than the whole
nothing_behind : (least : ℕ) (xs ys : List ℕ) → Ascend least (xs ++ ys) → end_of least (xs ++ ys) ≤ end_of least xs → ys ≡ []
nothing_behind least xs [] up le = refl
nothing_behind least xs (y ∷ ys) up le =
    let back : Ascend (end_of least xs) (y ∷ ys) = ascend_back least xs (y ∷ ys) up in
    let on : y ≤ end_of y ys = end_above y ys back.1 in
    let first : end_of least xs < y = back.0 in
    let whole : end_of least (xs ++ (y ∷ ys)) ≡ end_of (end_of least xs) (y ∷ ys) = end_append least xs (y ∷ ys) in
    absurd (omega arith)

-- ---- what a tie tells

-- what is done ascends
done_ascends : (handed done acks : List ℕ) (a t : ℕ) (d : Bool) → IsTied handed done a t acks d → Ascend 0 done
done_ascends handed done acks a t d tie = ascend_front 0 done tie.front.0 (subst (Ascend 0) tie.front.1 tie.ascend)

-- what is done is at most the number taught
done_below : (handed done acks : List ℕ) (a t n : ℕ) (d : Bool) → IsTied handed done a t acks d → IsAmong n done → n ≤ t
done_below handed done acks a t n d tie at =
    let here : IsAmong n handed = subst (IsAmong n) (sym tie.front.1) (among_front n done tie.front.0 at) in
    let most : n ≤ end_of 0 handed = below 0 n handed tie.ascend here in
    let is : t ≡ end_of 0 handed = tie.last in
    omega arith

pub is_granted : (handed done acks : List ℕ) (a t x : ℕ) (d : Bool) → IsTied handed done a t (x ∷ acks) d → (a < x) × (x ≤ t)
is_granted handed done acks a t x d tie = (tie.way.0, done_below handed done (x ∷ acks) a t x d tie tie.known.0)

pub all_done : (handed done acks : List ℕ) (a t n : ℕ) (d : Bool) → IsTied handed done a t acks d → IsAmong n handed → n ≤ a → IsAmong n done
all_done handed done acks a t n d tie at le = by tie.acked
  where
    by : (a ≡ 0) ⊎ IsAmong a done → IsAmong n done
    by (inl none) = let up : 0 < n = above 0 n handed tie.ascend at in absurd (omega arith)
    by (inr acked) =
        front_covers 0 a n done tie.front.0 (subst (Ascend 0) tie.front.1 tie.ascend) acked (subst (IsAmong n) tie.front.1 at) le

pub is_quiet : (handed done acks : List ℕ) (a t : ℕ) (d : Bool) → t ≤ a → IsTied handed done a t acks d → (handed ≡ done) × (acks ≡ []) × (d ≡ false)
is_quiet handed done acks a t d none_out tie = (tie.front.1 ∙ ap (λ (l : List ℕ). done ++ l) nothing_left ∙ append-nil done, no_acks acks refl, not_due d refl)
  where
    reached : (a ≡ 0) ⊎ IsAmong a done → t ≤ end_of 0 done
    reached (inl none) = omega arith
    reached (inr acked) = let up : a ≤ end_of 0 done = below 0 a done (done_ascends handed done acks a t d tie) acked in omega arith

    nothing_left : tie.front.0 ≡ []
    nothing_left =
        let is : t ≡ end_of 0 handed = tie.last in
        let same : end_of 0 handed ≡ end_of 0 (done ++ tie.front.0) = ap (end_of 0) tie.front.1 in
        let far : t ≤ end_of 0 done = reached tie.acked in
        nothing_behind 0 done tie.front.0 (subst (Ascend 0) tie.front.1 tie.ascend) (omega arith)

    no_acks : (xs : List ℕ) → acks ≡ xs → acks ≡ []
    no_acks [] is = is
    no_acks (x ∷ xs) is =
        let granted = is_granted handed done xs a t x d (subst (λ (l : List ℕ). IsTied handed done a t l d) is tie) in
        let up : a < x = granted.0 in
        let most : x ≤ t = granted.1 in
        absurd (omega arith)

    not_due : (b : Bool) → d ≡ b → d ≡ false
    not_due false is = is
    not_due true is =
        let over : end_of a acks < end_of 0 done = tie.due is in
        let up : a ≤ end_of a acks = end_above a acks tie.way in
        let most : end_of 0 done ≤ t = done_below handed done acks a t (end_of 0 done) d tie (end_is_among (end_of a acks) done over) in
        absurd (omega arith)

-- ---- steps

pub none_tied : IsTied [] [] 0 0 [] false
none_tied = record { ascend = tt; last = refl; front = ([], refl); acked = inl refl; way = tt; known = tt; due = λ is. absurd (true≢false (sym is)) }

pub ack_taken : (handed done acks : List ℕ) (a t x : ℕ) (d : Bool) → IsTied handed done a t (x ∷ acks) d → IsTied handed done x t acks d
ack_taken handed done acks a t x d tie =
    record { ascend = tie.ascend; last = tie.last; front = tie.front; acked = inr tie.known.0; way = tie.way.1; known = tie.known.1; due = tie.due }

pub ack_sent : (handed done acks : List ℕ) (a t : ℕ) → IsTied handed done a t acks true → IsTied handed done a t (acks ++ end_of 0 done ∷ []) false
ack_sent handed done acks a t tie = record {
  ascend = tie.ascend;
  last = tie.last;
  front = tie.front;
  acked = tie.acked;
  way = ascend_append a acks (end_of 0 done ∷ []) tie.way (tie.due refl, tt);
  known = all_end (λ n. IsAmong n done) acks (end_of 0 done) tie.known (end_is_among (end_of a acks) done (tie.due refl));
  due = λ is. absurd (true≢false (sym is));
}

pub learned : (handed done more rest acks : List ℕ) (a t : ℕ) (d e : Bool) → handed ≡ (done ++ more) ++ rest → (e ≡ true → (d ≡ true) ⊎ (more ≢ []))
    → IsTied handed done a t acks d → IsTied handed (done ++ more) a t acks e
learned handed done more rest acks a t d e is cause tie = record {
  ascend = tie.ascend;
  last = tie.last;
  front = (rest, is);
  acked = still tie.acked;
  way = tie.way;
  known = all_so (λ n. IsAmong n done) (λ n. IsAmong n (done ++ more)) (λ n at. among_front n done more at) acks tie.known;
  due = λ due. over (cause due);
}
  where
    still : (a ≡ 0) ⊎ IsAmong a done → (a ≡ 0) ⊎ IsAmong a (done ++ more)
    still (inl none) = inl none
    still (inr at) = inr (among_front a done more at)

    whole : Ascend 0 (done ++ more)
    whole = ascend_front 0 (done ++ more) rest (subst (Ascend 0) is tie.ascend)

    highest : (n : ℕ) → IsAmong n done → n ≤ end_of 0 done
    highest n at = below 0 n done (ascend_front 0 done more whole) at

    way_below : (from : ℕ) (ns : List ℕ) → from ≤ end_of 0 done → AllByRecursion (λ n. IsAmong n done) ns → end_of from ns ≤ end_of 0 done
    way_below from [] le all = le
    way_below from (n ∷ ns) le (first, later) = way_below n ns (highest n first) later

    from_acked : (a ≡ 0) ⊎ IsAmong a done → a ≤ end_of 0 done
    from_acked (inl none) = omega arith
    from_acked (inr at) = highest a at

    grows : end_of 0 done ≤ end_of 0 (done ++ more)
    grows =
        let up : end_of 0 done ≤ end_of (end_of 0 done) more = end_above (end_of 0 done) more (ascend_back 0 done more whole) in
        let is_end : end_of 0 (done ++ more) ≡ end_of (end_of 0 done) more = end_append 0 done more in
        omega arith

    past : (more : List ℕ) → more ≢ [] → Ascend (end_of 0 done) more → end_of 0 done < end_of (end_of 0 done) more
    past [] some up = absurd (some refl)
    past (x ∷ xs) some (first, later) = let on : x ≤ end_of x xs = end_above x xs later in omega arith

    over : (d ≡ true) ⊎ (more ≢ []) → end_of a acks < end_of 0 (done ++ more)
    over (inl was) = let before : end_of a acks < end_of 0 done = tie.due was in let up = grows in omega arith
    over (inr some) =
        let up : end_of 0 done < end_of (end_of 0 done) more = past more some (ascend_back 0 done more whole) in
        let is_end : end_of 0 (done ++ more) ≡ end_of (end_of 0 done) more = end_append 0 done more in
        let under : end_of a acks ≤ end_of 0 done = way_below a acks (from_acked tie.acked) tie.known in
        omega arith

pub copied : (handed done acks more : List ℕ) (a t : ℕ) (d : Bool) → Ascend t more → IsTied handed done a t acks d → IsTied (handed ++ more) done a (end_of t more) acks d
copied handed done acks more a t d up tie = record {
  ascend = ascend_append 0 handed more tie.ascend (subst (λ n. Ascend n more) tie.last up);
  last = ap (λ n. end_of n more) tie.last ∙ sym (end_append 0 handed more);
  front = (tie.front.0 ++ more, ap (λ (l : List ℕ). l ++ more) tie.front.1 ∙ append_assoc done tie.front.0 more);
  acked = tie.acked;
  way = tie.way;
  known = tie.known;
  due = tie.due;
}
