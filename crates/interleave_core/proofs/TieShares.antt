-- What a connection has of a table, before and after it changes.
use Rattle.std.proofs.Common.{◌≡◌, ◌≢◌, ◌<◌, ◌≤◌, ℕ, Bool, true, List, [], ◌∷◌, ◌++◌, length, drop, take, Option, Some, None, refl, sym, ap, ◌∙◌, arith, append_assoc, append-nil, length-append, true≢false}
use Rattle.std.specs.Prelude.{fold, is_some, nat_eq, ◌==◌, if◌then◌else◌}
use Rattle.std.specs.List.{AllByRecursion, cons_option, last_or}
use Rattle.std.proofs.lemmas.Bool.{cond-true, cond-false, cond_both, eq-eqb, ne_eqb}
use Rattle.std.proofs.lemmas.Grind.{flat_map-append}
use Rattle.std.proofs.lemmas.List.{drop-append-le, map-append, take-append-drop}
use Rattle.std.proofs.lemmas.List.Elements.{filter-append, filter_map-append}
use Rattle.table_types.specs.declared.update.Update.{Update}
use Rattle.table_cell.specs.Handing.{numbers}
use Rattle.interleave_core.specs.Sound.{acked_numbers, last_number_of, number_after}
use Rattle.interleave_core.specs.Ties.{Share, end_of, joined, of_table, share_of}
use Rattle.interleave_core.specs.Worlds.{ConnectionState}

-- ---- the updates of a table

pub of_append : (t : ℕ) (xs ys : List Update) → of_table t (xs ++ ys) ≡ of_table t xs ++ of_table t ys
of_append t xs ys = filter-append (λ (u : Update). u.table == t) xs ys

-- updates of one table
pub all_of_it : (t : ℕ) (us : List Update) → AllByRecursion (λ (u : Update). u.table ≡ t) us → of_table t us ≡ us
all_of_it t [] all = refl
all_of_it t (u ∷ us) (this, rest) = cond-true (nat_eq u.table t) (u ∷ of_table t us) (of_table t us) (eq-eqb u.table t this) ∙ ap (λ (l : List Update). u ∷ l) (all_of_it t us rest)

pub none_of_others : (t table : ℕ) (us : List Update) → t ≢ table → AllByRecursion (λ (u : Update). u.table ≡ table) us → of_table t us ≡ []
none_of_others t table [] other all = refl
none_of_others t table (u ∷ us) other (this, rest) =
    cond-false (nat_eq u.table t) (u ∷ of_table t us) (of_table t us) (ne_eqb u.table t (λ same. other (sym same ∙ this))) ∙ none_of_others t table us other rest

-- ---- a batch waits

pub joined_end : (batches : List (List Update)) (us : List Update) → joined (batches ++ us ∷ []) ≡ joined batches ++ us
joined_end batches us = flat_map-append (λ (b : List Update). b) batches (us ∷ []) ∙ ap (λ (l : List Update). joined batches ++ l) (append-nil us)

pub waits : (t : ℕ) (xs : List Update) (batches : List (List Update)) (us : List Update)
    → of_table t (xs ++ joined (batches ++ us ∷ [])) ≡ of_table t (xs ++ joined batches) ++ of_table t us
waits t xs batches us =
    ap (λ (l : List Update). of_table t (xs ++ l)) (joined_end batches us)
    ∙ ap (of_table t) (sym (append_assoc xs (joined batches) us))
    ∙ of_append t (xs ++ joined batches) us

-- ---- shares

-- two shares that agree in each part
pub same_share : (a b : Share) → a.all ≡ b.all → a.handed ≡ b.handed → a.done ≡ b.done → a.acks ≡ b.acks → a.is_due ≡ b.is_due → a ≡ b
same_share a b all handed done acks due =
    ap (λ (l : List Update). record a { all = l }) all
    ∙ ap (λ (l : List Update). record a { all = b.all; handed = l }) handed
    ∙ ap (λ (l : List Update). record a { all = b.all; handed = b.handed; done = l }) done
    ∙ ap (λ (l : List ℕ). record a { all = b.all; handed = b.handed; done = b.done; acks = l }) acks
    ∙ ap (λ (d : Bool). record b { is_due = d }) due

-- with a batch that waits
abbrev pub with_more : Share → List Update → Share
with_more share us = record share { all = share.all ++ us; handed = share.handed ++ us }

pub copied_share : (t before : ℕ) (s : ConnectionState) (acks : List (ℕ × ℕ)) (us : List Update)
    → share_of t before (record s { copied = s.copied ++ us ∷ [] }) acks ≡ with_more (share_of t before s acks) (of_table t us)
copied_share t before s acks us =
    same_share (share_of t before (record s { copied = s.copied ++ us ∷ [] }) acks) (with_more (share_of t before s acks) (of_table t us))
    (waits t s.taught s.copied us) (waits t (drop before s.taught) s.copied us) refl refl refl

-- nothing is added
pub no_more : (share : Share) → with_more share [] ≡ share
no_more share = same_share (with_more share []) share (append-nil share.all) (append-nil share.handed) refl refl refl

-- ---- the oldest batch is taught

pub taught_handed : (t before : ℕ) (taught batch : List Update) (copied rest : List (List Update)) → before ≤ length taught → copied ≡ batch ∷ rest
    → of_table t (drop before (taught ++ batch) ++ joined rest) ≡ of_table t (drop before taught ++ joined copied)
taught_handed t before taught batch copied rest within oldest =
    ap (λ (l : List Update). of_table t (l ++ joined rest)) (drop-append-le before taught batch within)
    ∙ ap (of_table t) (append_assoc (drop before taught) batch (joined rest))
    ∙ ap (λ (l : List (List Update)). of_table t (drop before taught ++ joined l)) (sym oldest)

pub taught_all : (t : ℕ) (taught batch : List Update) (copied rest : List (List Update)) → copied ≡ batch ∷ rest
    → of_table t ((taught ++ batch) ++ joined rest) ≡ of_table t (taught ++ joined copied)
taught_all t taught batch copied rest oldest =
    ap (of_table t) (append_assoc taught batch (joined rest))
    ∙ ap (λ (l : List (List Update)). of_table t (taught ++ joined l)) (sym oldest)

-- ---- what is to come

-- what was handed out is what is done, and then what is on its way or waits
pub split_handed : (t before : ℕ) (taught applied to_come : List Update) (copied : List (List Update)) → before ≤ length applied → taught ≡ applied ++ to_come
    → of_table t (drop before taught ++ joined copied) ≡ of_table t (drop before applied) ++ of_table t (to_come ++ joined copied)
split_handed t before taught applied to_come copied within split =
    ap (λ (l : List Update). of_table t (drop before l ++ joined copied)) split
    ∙ ap (λ (l : List Update). of_table t (l ++ joined copied)) (drop-append-le before applied to_come within)
    ∙ ap (of_table t) (append_assoc (drop before applied) to_come (joined copied))
    ∙ of_append t (drop before applied) (to_come ++ joined copied)

-- more of it is done
pub more_done : (t before : ℕ) (applied us : List Update) → before ≤ length applied → of_table t (drop before (applied ++ us)) ≡ of_table t (drop before applied) ++ of_table t us
more_done t before applied us within = ap (of_table t) (drop-append-le before applied us within) ∙ of_append t (drop before applied) us

pub within_more : (before : ℕ) (applied us : List Update) → before ≤ length applied → before ≤ length (applied ++ us)
within_more before applied us within = let sizes = length-append applied us in omega arith

-- nothing is behind a front with the same numbers
pub none_behind : (us vs : List Update) → numbers (us ++ vs) ≡ numbers us → vs ≡ []
none_behind [] [] same = refl
none_behind [] (v ∷ vs) same = absurd (some_one v.number (numbers vs) same)
  where
    some_one : (n : ℕ) (ns : List ℕ) → n ∷ ns ≡ [] → ⊥
    some_one n ns e = cc
none_behind (u ∷ us) vs same = none_behind us vs (ap (λ (l : List ℕ). drop 1 l) same)

-- ---- acknowledgements

-- the number of an acknowledgement of the table `t`
abbrev of_it : ℕ → ℕ × ℕ → Option ℕ
of_it t ack = if ack.0 == t then Some ack.1 else None

pub acks_append : (t : ℕ) (xs ys : List (ℕ × ℕ)) → acked_numbers t (xs ++ ys) ≡ acked_numbers t xs ++ acked_numbers t ys
acks_append t xs ys = filter_map-append (of_it t) xs ys

pub own_ack : (t number : ℕ) (acks : List (ℕ × ℕ)) → acked_numbers t ((t, number) ∷ acks) ≡ number ∷ acked_numbers t acks
own_ack t number acks = ap (λ (o : Option ℕ). cons_option o (acked_numbers t acks)) (cond-true (nat_eq t t) (Some number) None (eq-eqb t t refl))

pub other_ack : (t table number : ℕ) (acks : List (ℕ × ℕ)) → t ≢ table → acked_numbers t ((table, number) ∷ acks) ≡ acked_numbers t acks
other_ack t table number acks other =
    ap (λ (o : Option ℕ). cons_option o (acked_numbers t acks)) (cond-false (nat_eq table t) (Some number) None (ne_eqb table t (λ same. other (sym same))))

-- ---- last numbers

-- the last number of a table is that of its last update
last_of_it : (t : ℕ) (o : Option ℕ) (us : List Update) → fold (number_after t) o us ≡ last_or o (numbers (of_table t us))
last_of_it t o [] = refl
last_of_it t o (u ∷ us) =
    last_of_it t (number_after t o u) us
    ∙ cond_both (nat_eq u.table t) (u ∷ of_table t us) (of_table t us) (λ (l : List Update). last_or (number_after t o u) (numbers (of_table t us)) ≡ last_or o (numbers l))
    (λ own. ap (λ (x : Option ℕ). last_or x (numbers (of_table t us))) (cond-true (nat_eq u.table t) (Some u.number) o own))
    (λ other. ap (λ (x : Option ℕ). last_or x (numbers (of_table t us))) (cond-false (nat_eq u.table t) (Some u.number) o other))

last_some : (x : ℕ) (ns : List ℕ) → last_or (Some x) ns ≡ Some (end_of x ns)
last_some x [] = refl
last_some x (n ∷ ns) = last_some n ns

last_behind : (o : Option ℕ) (ms ns : List ℕ) → 0 < end_of 0 ns → last_or o (ms ++ ns) ≡ Some (end_of 0 ns)
last_behind o [] [] over = absurd (omega arith)
last_behind o [] (n ∷ ns) over = last_some n ns
last_behind o (m ∷ ms) ns over = last_behind (Some m) ms ns over

-- of the updates after the first ones there is some with a number, so the last of all is the last of them
pub last_since : (t before : ℕ) (us : List Update) → 0 < end_of 0 (numbers (of_table t (drop before us))) → last_number_of t us ≡ Some (end_of 0 (numbers (of_table t (drop before us))))
last_since t before us over =
    last_of_it t None us
    ∙ ap (λ (l : List Update). last_or None (numbers (of_table t l))) (sym (take-append-drop before us))
    ∙ ap (λ (l : List Update). last_or None (numbers l)) (of_append t (take before us) (drop before us))
    ∙ ap (λ (l : List ℕ). last_or None l) (map-append (λ (u : Update). u.number) (of_table t (take before us)) (of_table t (drop before us)))
    ∙ last_behind None (numbers (of_table t (take before us))) (numbers (of_table t (drop before us))) over

-- if there is a last number, there is an update
pub some_of_it : (t : ℕ) (us : List Update) → is_some (last_number_of t us) ≡ true → of_table t us ≢ []
some_of_it t us some none =
    true≢false (sym some ∙ ap (λ (o : Option ℕ). is_some o) (last_of_it t None us) ∙ ap (λ (l : List Update). is_some (last_or None (numbers l))) none)
