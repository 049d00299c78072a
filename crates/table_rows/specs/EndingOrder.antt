-- The order of row ends is total, and row ends that compare as equal are equal. The laws of `Ord` cite these.
use Rattle.std.proofs.Common.{◌≡◌, Bool, refl, ◌∙◌, ◌&&◌}
use Rattle.std.specs.Ordering.{eq_by_cmp, nat_cmp}
use Rattle.std.specs.Cmp.{IsTotalOrder, back_total, eq_by_cmp_equiv, nat_cmp_total, on_total, then_total, tied_then, unsigned_ties}
use Rattle.table_rows.specs.declared.row_end.RowEnd.{RowEnd}
use Rattle.table_rows.specs.contracts.row_end.RowEndPartialEq.TheImpl as ending_eq
use Rattle.table_rows.specs.Endings.{ending_cmp, later_cmp}

pub ending_cmp_total : IsTotalOrder ending_cmp
ending_cmp_total = then_total (on_total (λ (e : RowEnd). e.end) nat_cmp_total) (on_total (λ (e : RowEnd). e.number) nat_cmp_total)

-- the order is total
pub later_cmp_total : IsTotalOrder later_cmp
later_cmp_total = back_total ending_cmp_total

abbrev are_equal : RowEnd → RowEnd → Bool
are_equal = (ending_eq.ghosts).eq

both_same : (p q r s : Bool) → p ≡ r → q ≡ s → (p && q) ≡ (r && s)
both_same p q r s one two = rw (one, two) refl

equal_endings : (a b : RowEnd) → are_equal a b ≡ eq_by_cmp ending_cmp a b
equal_endings a b =
    both_same _ _ _ _ (unsigned_ties a.end b.end) (unsigned_ties a.number b.number)
    ∙ tied_then (nat_cmp a.end b.end) (nat_cmp a.number b.number)

-- row ends are equal exactly if they compare as equal
pub later_cmp_ties : (a b : RowEnd) → are_equal a b ≡ eq_by_cmp later_cmp a b
later_cmp_ties a b = equal_endings a b ∙ (eq_by_cmp_equiv ending_cmp_total).symm a b
