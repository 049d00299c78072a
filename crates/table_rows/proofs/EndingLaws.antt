-- The order in which rows end, and the end of a row beside a moment.
use Rattle.std.proofs.Common.{◌≡◌, ℕ, ◌-◌, ◌<◌, ◌≤◌, ◌^◌, Bool, true, false, List, [], ◌∷◌, length, Option, Some, None, IfSome, refl, sym, ap, ◌∙◌, arith, inl, inr}
use mathlib.Core.Bool.{false≢true}
use Rattle.std.specs.declared.cmp.Ordering.{Ordering}
use Rattle.std.specs.declared.cmp.Ordering.TheVariants.{Less, Equal, Greater}
use Rattle.std.specs.Ordering.{is_gt, is_lt, nat_cmp, ordering_reverse, ordering_then}
use Rattle.std.specs.Cmp.{nat_cmp_is}
use Rattle.std.proofs.lemmas.Bool.{cases_lt}
use Rattle.std.proofs.lemmas.Bool.Decides.{nat_tests}
use Rattle.std.proofs.lemmas.Map.Lookups.{exact_pairs, exact_unsigned}
use Rattle.std.proofs.lemmas.Map.Views.{tells_apart}
use Rattle.table_types.specs.declared.key.Key.{Key}
use Rattle.table_types.specs.Keys.{key_cmp}
use Rattle.table_types.specs.Rows.{StoredRow}
use Rattle.table_rows.specs.declared.row_end.RowEnd.{RowEnd}
use Rattle.table_rows.specs.EndingOrder.{ending_cmp_total}
use Rattle.table_rows.specs.Endings.{are_same, end_or_last, ending_cmp, ending_of, later_cmp}
use Rattle.table_rows.specs.Rows.{end_cmp, ends_cmp, goes_past, is_live}

-- ---- ends that are the same

abbrev ending_from : ℕ × ℕ → RowEnd
ending_from p = record { end = p.0; number = p.1 }

exact_endings : (a b : RowEnd) → ending_cmp a b ≡ Equal → a ≡ b
exact_endings a b h = ap ending_from (exact_pairs nat_cmp nat_cmp exact_unsigned exact_unsigned (a.end, a.number) (b.end, b.number) h)

exact_later : (a b : RowEnd) → later_cmp a b ≡ Equal → a ≡ b
exact_later a b h = sym (exact_endings b a h)

pub one_ending : (a b : RowEnd) → are_same a b ≡ true → a ≡ b
one_ending a b same = tells_apart exact_later a b same

nat_cmp-same : (n : ℕ) → nat_cmp n n ≡ Equal
nat_cmp-same n = sym (nat_cmp_is n n Equal refl)

pub ending-same : (a : RowEnd) → are_same a a ≡ true
ending-same a = rw (nat_cmp-same a.end, nat_cmp-same a.number) refl

-- ---- which ends first

true_or_false : (b : Bool) → b ≡ true → b ≡ false → ⊥
true_or_false b holds fails = let both : true ≡ false = sym holds ∙ fails in cc

ends_are : (a b : Option ℕ) → IfSome a (λ end. end < 2 ^ 63) → IfSome b (λ end. end < 2 ^ 63) → ends_cmp a b ≡ nat_cmp (end_or_last a) (end_or_last b)
ends_are (Some a) (Some b) short_a short_b = refl
ends_are (Some a) None short_a short_b = nat_cmp_is a (2 ^ 64 - 1) Less (omega (arith, short_a))
ends_are None (Some b) short_a short_b = nat_cmp_is (2 ^ 64 - 1) b Greater (omega (arith, short_b))
ends_are None None short_a short_b = refl

-- rows are ordered as their ends are, and then by key
pub end_is : (k : Key) (row : StoredRow) (q : Key) (other : StoredRow) → IfSome row.ends (λ end. end < 2 ^ 63) → IfSome other.ends (λ end. end < 2 ^ 63) → end_cmp (k, row) (q, other) ≡ ordering_then (ending_cmp (ending_of row) (ending_of other)) (key_cmp k q)
end_is k row q other short short_other =
    ap (λ (o : Ordering). ordering_then o (ordering_then (nat_cmp row.number other.number) (key_cmp k q))) (ends_are row.ends other.ends short short_other)
    ∙ grouped (nat_cmp (end_or_last row.ends) (end_or_last other.ends)) (nat_cmp row.number other.number) (key_cmp k q)
  where
    grouped : (a b c : Ordering) → ordering_then a (ordering_then b c) ≡ ordering_then (ordering_then a b) c
    grouped Less b c = refl
    grouped Equal b c = refl
    grouped Greater b c = refl

not_after : (a b : ℕ) (o : Ordering) → is_gt (ordering_then (nat_cmp a b) o) ≡ false → a ≤ b
not_after a b o first = elim (cases_lt b a) [
  | inl less ↦ absurd (true_or_false (is_gt (ordering_then (nat_cmp a b) o)) (rw (sym (nat_cmp_is a b Greater less)) refl) first)
  | inr at_most ↦ at_most
]

-- if the one doesn't come before the other in one order, it doesn't come after it in the reverse
pub not_before : (f e : RowEnd) → is_lt (later_cmp f e) ≡ false → is_gt (ending_cmp f e) ≡ false
not_before f e first = ap is_gt (ending_cmp_total.antisymm f e) ∙ turned (ending_cmp e f) ∙ first
  where
    turned : (o : Ordering) → is_gt (ordering_reverse o) ≡ is_lt o
    turned Less = refl
    turned Equal = refl
    turned Greater = refl

-- and it ends no later
pub ends_no_later : (f e : RowEnd) → is_lt (later_cmp f e) ≡ false → f.end ≤ e.end
ends_no_later f e first = not_after f.end e.end (nat_cmp f.number e.number) (not_before f e first)

-- ---- ends and moments

pub lives : (now : ℕ) (row : StoredRow) → now < end_or_last row.ends → is_live now row ≡ true
lives now row later = by row.ends later
  where
    by : (o : Option ℕ) → now < end_or_last o → goes_past now o ≡ true
    by None later = refl
    by (Some end) later = grind (arith, nat_tests, later)

pub has_ended : (now : ℕ) (row : StoredRow) → now < 2 ^ 63 → end_or_last row.ends ≤ now → is_live now row ≡ false
has_ended now row short ended = by row.ends ended
  where
    by : (o : Option ℕ) → end_or_last o ≤ now → goes_past now o ≡ false
    by None ended = absurd (omega (arith, short, ended))
    by (Some end) ended = grind (arith, nat_tests, ended)

pub no_endings : (endings : List RowEnd) → (0 < length endings → ◌≡◌ {A = Bool} false true) → endings ≡ []
no_endings [] none = refl
no_endings (e ∷ es) none = absurd (false≢true (none (omega arith)))
