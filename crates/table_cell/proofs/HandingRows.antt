-- Rows and what was handed out of them: lists.
use Rattle.std.proofs.Common.{◌≡◌, ◌≢◌, ℕ, zero, suc, ◌+◌, ◌<◌, ◌≤◌, Bool, true, ◌&&◌, List, [], ◌∷◌, ◌++◌, Option, Some, None, refl, sym, ap, subst, ◌∙◌, arith, inl, inr, ◌⊎◌, true≢false}
use Rattle.std.specs.Prelude.{filter, map, take, nat_lt}
use Rattle.std.specs.List.{AllByRecursion}
use Rattle.std.specs.Ordering.{is_eq}
use Rattle.std.proofs.lemmas.Bool.{cond-true, cond_both, ltb-true, lt-ltb, and_parts}
use Rattle.table_types.specs.declared.key.Key.{Key}
use Rattle.table_types.specs.declared.update.Update.{Update}
use Rattle.table_types.specs.declared.version.Version.{Version}
use Rattle.table_types.specs.declared.copies.CopyKind.{CopyKind}
use Rattle.table_types.specs.declared.copies.CopyKind.TheVariants as kinds
use Rattle.table_types.specs.Keys.{key_cmp}
use Rattle.table_types.specs.Tables.{Definition}
use Rattle.table_types.specs.Rows.{StoredRow}
use Rattle.table_types.proofs.EqualKeysAreOne.{key_cmp-same}
use Rattle.table_rows.specs.Rows.{goes_past, is_live, row_at}
use Rattle.table_cell.specs.Copying.{update_of}
use Rattle.table_cell.specs.Machine.{in_reach, is_copied, is_unacked, last_number}
use Rattle.table_cell.specs.Parts.{is_in_reach}
use Rattle.table_cell.specs.Soundness.{KeysDiffer, NumbersRise}
use Rattle.table_cell.specs.Handing.{Ascend, IsHanded, IsLastOfItsKey, IsNoOlder, numbers}
use Rattle.table_stock.proofs.RowsLaws.{none_parts}
use Rattle.table_cell.proofs.ReachLaws.{is_up_to}

-- ---- elements

-- `x` is an element of the list
abbrev pub IsIn : {A : Type 0} → A → List A → Type 0
IsIn x [] = ⊥
IsIn x (y ∷ ys) = (x ≡ y) ⊎ IsIn x ys

pub each_in : {A : Type 0} (P : A → Type 0) (xs : List A) → ((x : A) → IsIn x xs → P x) → AllByRecursion P xs
each_in P [] so = tt
each_in P (x ∷ xs) so = (so x (inl refl), each_in P xs (λ y at. so y (inr at)))

pub of_each : {A : Type 0} (P : A → Type 0) (x : A) (xs : List A) → AllByRecursion P xs → IsIn x xs → P x
of_each P x [] all at = absurd at
of_each P x (y ∷ ys) (first, rest) (inl same) = subst P (sym same) first
of_each P x (y ∷ ys) (first, rest) (inr at) = of_each P x ys rest at

pub from_filter : {A : Type 0} (p : A → Bool) (x : A) (xs : List A) → IsIn x (filter p xs) → IsIn x xs
from_filter p x [] at = at
from_filter p x (y ∷ ys) at =
    cond_both (p y) (y ∷ filter p ys) (filter p ys) (λ (l : List _). IsIn x l → IsIn x (y ∷ ys))
    (λ _ both. elim both [
      | inl same ↦ inl same
      | inr later ↦ inr (from_filter p x ys later)
    ])
    (λ _ later. inr (from_filter p x ys later))
    at

pub in_filter : {A : Type 0} (p : A → Bool) (x : A) (xs : List A) → IsIn x xs → p x ≡ true → IsIn x (filter p xs)
in_filter p x [] at passes = at
in_filter p x (y ∷ ys) (inl same) passes =
    subst (IsIn x) (sym (cond-true (p y) (y ∷ filter p ys) (filter p ys) (ap p (sym same) ∙ passes))) (inl same)
in_filter p x (y ∷ ys) (inr later) passes =
    cond_both (p y) (y ∷ filter p ys) (filter p ys) (IsIn x) (λ _. inr (in_filter p x ys later passes)) (λ _. in_filter p x ys later passes)

pub passing : {A : Type 0} (p : A → Bool) (x : A) (xs : List A) → IsIn x (filter p xs) → p x ≡ true
passing p x [] at = absurd at
passing p x (y ∷ ys) at =
    cond_both (p y) (y ∷ filter p ys) (filter p ys) (λ (l : List _). IsIn x l → p x ≡ true)
    (λ passes both. elim both [
      | inl same ↦ ap p same ∙ passes
      | inr later ↦ passing p x ys later
    ])
    (λ _ later. passing p x ys later)
    at

-- a row in the reach of a copy
pub reach_in : (kind : CopyKind) (bound : ℕ) (e : Key × StoredRow) (rows : List (Key × StoredRow)) → IsIn e rows → is_in_reach kind bound e.1 ≡ true → IsIn e (in_reach kind bound rows)
reach_in kinds.Push bound e rows at near = at
reach_in kinds.Resync bound e rows at near = at
reach_in kinds.Standing bound e rows at near = in_filter (is_up_to bound) e rows at near

pub reach_from : (kind : CopyKind) (bound : ℕ) (e : Key × StoredRow) (rows : List (Key × StoredRow)) → IsIn e (in_reach kind bound rows) → IsIn e rows
reach_from kinds.Push bound e rows at = at
reach_from kinds.Resync bound e rows at = at
reach_from kinds.Standing bound e rows at = from_filter (is_up_to bound) e rows at

pub all_append : {A : Type 0} (P : A → Type 0) (xs ys : List A) → AllByRecursion P xs → AllByRecursion P ys → AllByRecursion P (xs ++ ys)
all_append P [] ys front back = back
all_append P (x ∷ xs) ys (first, rest) back = (first, all_append P xs ys rest back)

pub all_map : {A B : Type 0} (P : B → Type 0) (f : A → B) (xs : List A) → AllByRecursion (λ x. P (f x)) xs → AllByRecursion P (map f xs)
all_map P f [] all = tt
all_map P f (x ∷ xs) (first, rest) = (first, all_map P f xs rest)

-- ---- keys

none_in : (key : Key) (e : Key × StoredRow) (es : List (Key × StoredRow)) → row_at key es ≡ None → IsIn e es → key ≡ e.0 → ⊥
none_in key e [] none at same = at
none_in key e (x ∷ xs) none (inl is) same =
    let apart = (none_parts key x xs none).0 in
    let own : key ≡ x.0 = same ∙ ap (λ (y : Key × StoredRow). y.0) is in
    true≢false (sym (ap (λ (k : Key). is_eq (key_cmp key k)) (sym own) ∙ ap is_eq (key_cmp-same key)) ∙ apart)
none_in key e (x ∷ xs) none (inr later) same = none_in key e xs (none_parts key x xs none).1 later same

-- of two rows with the same key, one is the other
pub one_row : (e x : Key × StoredRow) (es : List (Key × StoredRow)) → KeysDiffer es → IsIn e es → IsIn x es → e.0 ≡ x.0 → e ≡ x
one_row e x [] differ at there same = absurd at
one_row e x (y ∷ ys) differ (inl is) (inl too) same = is ∙ sym too
one_row e x (y ∷ ys) (first, rest) (inl is) (inr later) same =
    absurd (none_in y.0 x ys first later (sym (ap (λ (z : Key × StoredRow). z.0) is) ∙ same))
one_row e x (y ∷ ys) (first, rest) (inr later) (inl is) same =
    absurd (none_in y.0 e ys first later (sym (ap (λ (z : Key × StoredRow). z.0) is) ∙ sym same))
one_row e x (y ∷ ys) (first, rest) (inr at) (inr there) same = one_row e x ys rest at there same

-- ---- what is live later is live now

pub still_live : (latest now : ℕ) (row : StoredRow) → latest ≤ now → is_live now row ≡ true → is_live latest row ≡ true
still_live latest now row later live = by row.ends live
  where
    by : (end : Option ℕ) → goes_past now end ≡ true → goes_past latest end ≡ true
    by None live = refl
    by (Some end) live = let bound : now < end = ltb-true now end live in lt-ltb latest end (omega arith)

-- ---- numbers that ascend

pub ascend_append : (least : ℕ) (us vs : List Update) → Ascend least (numbers us) → Ascend (last_number least us) (numbers vs) → Ascend least (numbers (us ++ vs))
ascend_append least [] vs first second = second
ascend_append least (u ∷ us) vs (up, rest) second = (up, ascend_append u.number us vs rest second)

pub ascend_take : (least k : ℕ) (us : List Update) → Ascend least (numbers us) → Ascend least (numbers (take k us))
ascend_take least zero us up = tt
ascend_take least (suc k) [] up = tt
ascend_take least (suc k) (u ∷ us) (first, rest) = (first, ascend_take u.number k us rest)

last_above : (least : ℕ) (us : List Update) → Ascend least (numbers us) → least ≤ last_number least us
last_above least [] up = omega arith
last_above least (u ∷ us) (first, rest) = let more = last_above u.number us rest in omega arith

-- no number is above the last
pub up_to_last : (least : ℕ) (us : List Update) → Ascend least (numbers us) → AllByRecursion (λ (u : Update). u.number ≤ last_number least us) us
up_to_last least [] up = tt
up_to_last least (u ∷ us) (first, rest) = (last_above u.number us rest, up_to_last u.number us rest)

-- each number is above the least
pub above_least : (least : ℕ) (us : List Update) → Ascend least (numbers us) → AllByRecursion (λ (u : Update). least < u.number) us
above_least least [] up = tt
above_least least (u ∷ us) (first, rest) = (first, below least u.number us first (above_least u.number us rest))
  where
    below : (least more : ℕ) (vs : List Update) → least < more → AllByRecursion (λ (v : Update). more < v.number) vs → AllByRecursion (λ (v : Update). least < v.number) vs
    below least more [] less all = tt
    below least more (v ∷ vs) less (this, others) = (omega arith, below least more vs less others)

-- ---- what a copy takes

filter_ascends : (version : Version) (d : Definition) (now least a next : ℕ) (p : Key × StoredRow → Bool) (es : List (Key × StoredRow)) → least < a → NumbersRise a next es → Ascend least (numbers (map (update_of version d now) (filter p es)))
filter_ascends version d now least a next p [] less rise = tt
filter_ascends version d now least a next p (e ∷ es) less (first, rest) =
    cond_both (p e) (e ∷ filter p es) (filter p es) (λ (l : List (Key × StoredRow)). Ascend least (numbers (map (update_of version d now) l)))
    (λ _. (omega arith, filter_ascends version d now e.1.number (e.1.number + 1) next p es (omega arith) rest))
    (λ _. filter_ascends version d now least (e.1.number + 1) next p es (omega arith) rest)

-- the rows above a number ascend from it
pub unacked_ascend : (version : Version) (d : Definition) (kind : CopyKind) (low now a next : ℕ) (es : List (Key × StoredRow)) → NumbersRise a next es → Ascend low (numbers (map (update_of version d now) (filter (is_unacked kind low now) es)))
unacked_ascend version d kind low now a next [] rise = tt
unacked_ascend version d kind low now a next (e ∷ es) (first, rest) =
    cond_both (is_unacked kind low now e) (e ∷ filter (is_unacked kind low now) es) (filter (is_unacked kind low now) es) (λ (l : List (Key × StoredRow)). Ascend low (numbers (map (update_of version d now) l)))
    (λ due.
    let parts = and_parts (nat_lt low e.1.number && is_copied kind e.1) (is_live now e.1) due in
    let above = ltb-true low e.1.number ((and_parts (nat_lt low e.1.number) (is_copied kind e.1) parts.0).0) in
    (above, filter_ascends version d now e.1.number (e.1.number + 1) next (is_unacked kind low now) es (omega arith) rest))
    (λ _. unacked_ascend version d kind low now (e.1.number + 1) next es rest)

above_in : (version : Version) (d : Definition) (now least : ℕ) (e : Key × StoredRow) (es : List (Key × StoredRow)) → Ascend least (numbers (map (update_of version d now) es)) → IsIn e es → least < e.1.number
above_in version d now least e [] up at = absurd at
above_in version d now least e (x ∷ xs) (first, rest) (inl same) = subst (λ (y : Key × StoredRow). least < y.1.number) (sym same) first
above_in version d now least e (x ∷ xs) (first, rest) (inr later) = let more = above_in version d now x.1.number e xs rest later in omega arith

-- a row of which the number is at most the last of the first few is one of them
pub take_covers : (version : Version) (d : Definition) (now least k : ℕ) (e : Key × StoredRow) (es : List (Key × StoredRow)) → Ascend least (numbers (map (update_of version d now) es)) → IsIn e es
    → e.1.number ≤ last_number least (take k (map (update_of version d now) es)) → IsHanded (take k (map (update_of version d now) es)) e
take_covers version d now least zero e es up at within = let over = above_in version d now least e es up at in absurd (omega arith)
take_covers version d now least (suc k) e [] up at within = at
take_covers version d now least (suc k) e (x ∷ xs) up (inl same) within = inl (ap (λ (y : Key × StoredRow). y.0) (sym same), ap (λ (y : Key × StoredRow). y.1.number) (sym same))
take_covers version d now least (suc k) e (x ∷ xs) (first, rest) (inr later) within = inr (take_covers version d now x.1.number k e xs rest later within)

-- ---- what was handed

pub handed_front : (e : Key × StoredRow) (us vs : List Update) → IsHanded us e → IsHanded (us ++ vs) e
handed_front e [] vs at = absurd at
handed_front e (u ∷ us) vs (inl this) = inl this
handed_front e (u ∷ us) vs (inr later) = inr (handed_front e us vs later)

pub handed_back : (e : Key × StoredRow) (us vs : List Update) → IsHanded vs e → IsHanded (us ++ vs) e
handed_back e [] vs at = at
handed_back e (u ∷ us) vs at = inr (handed_back e us vs at)

-- what was handed out of a row that is no older is the last of its key
pub last_of_key : (least : ℕ) (e : Key × StoredRow) (us : List Update) → Ascend least (numbers us) → IsHanded us e → IsNoOlder us e → IsLastOfItsKey us e
last_of_key least e [] up at no_older = absurd at
last_of_key least e (u ∷ us) (first, rest) (inl (key, number)) (here, later) = ([], us, u, refl, key, number, others us (above_least u.number us rest) later)
  where
    others : (vs : List Update) → AllByRecursion (λ (v : Update). u.number < v.number) vs → IsNoOlder vs e → AllByRecursion (λ (v : Update). v.key ≢ e.0) vs
    others [] above low = tt
    others (v ∷ vs) (up, above) (down, low) = ((λ same. let most : v.number ≤ e.1.number = down same in absurd (omega arith)), others vs above low)
last_of_key least e (u ∷ us) (first, rest) (inr at) (here, later) =
    let (before, after, v, is, key, number, others) = last_of_key u.number e us rest at later in
    (u ∷ before, after, v, ap (λ (l : List Update). u ∷ l) is, key, number, others)

-- ---- a front of what was handed

pub all_front : {A : Type 0} (P : A → Type 0) (xs ys : List A) → AllByRecursion P (xs ++ ys) → AllByRecursion P xs
all_front P [] ys all = tt
all_front P (x ∷ xs) ys (first, rest) = (first, all_front P xs ys rest)

pub ascend_front : (least : ℕ) (us vs : List Update) → Ascend least (numbers (us ++ vs)) → Ascend least (numbers us)
ascend_front least [] vs up = tt
ascend_front least (u ∷ us) vs (first, rest) = (first, ascend_front u.number us vs rest)

above_handed : (least : ℕ) (e : Key × StoredRow) (us : List Update) → Ascend least (numbers us) → IsHanded us e → least < e.1.number
above_handed least e [] up at = absurd at
above_handed least e (u ∷ us) (first, rest) (inl (key, number)) = omega arith
above_handed least e (u ∷ us) (first, rest) (inr at) = let more = above_handed u.number e us rest at in omega arith

-- what was handed under a number up to the front's last is in the front
pub in_front : (least : ℕ) (e : Key × StoredRow) (us vs : List Update) → Ascend least (numbers (us ++ vs)) → IsHanded (us ++ vs) e → e.1.number ≤ last_number least us → IsHanded us e
in_front least e [] vs up at within = let more = above_handed least e vs up at in absurd (omega arith)
in_front least e (u ∷ us) vs up (inl this) within = inl this
in_front least e (u ∷ us) vs (first, rest) (inr at) within = inr (in_front u.number e us vs rest at within)
