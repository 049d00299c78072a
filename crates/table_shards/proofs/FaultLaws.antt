-- The first fault that an audit finds.
use Rattle.std.proofs.Common.{◌≡◌, ℕ, ◌<◌, ◌≤◌, List, [], ◌∷◌, ◌++◌, Option, Some, None, true, false, nat_le, refl, arith, inl, inr, leb-true, leb-false}
use Rattle.std.proofs.lemmas.Bool.{cond_both}
use Rattle.table_shards.specs.declared.unlocked.UnlockedTable.{UnlockedTable}
use Rattle.table_shards.specs.Receipts.{SeatState}
use Rattle.table_shards.specs.Agreement.{Compares}
use Rattle.table_shards.specs.Audits.{Faults, Finds, IsLegal, IsRight, is_intact, lesser_fault}
use Rattle.table_shards.proofs.AllLaws.{all_end, all_so}
use Rattle.table_shards.proofs.CompareLaws.{one_last, one_left}

-- one more table, with nothing wrong
pub fault_stays : (ss : List SeatState) (ts : List UnlockedTable) (t : UnlockedTable) (least : Option (ℕ × ℕ)) → Faults ss ts least → IsRight ss t → Faults ss (ts ++ t ∷ []) least
fault_stays ss ts t None all right = all_end (IsRight ss) t ts all right
fault_stays ss ts t (Some fault) (one, all) right =
    (one_left (λ (u : UnlockedTable). (u.table ≡ fault.0) × Finds ss u (Some fault.1)) ts (t ∷ []) one, all_end (λ (u : UnlockedTable). u.table < fault.0 → IsRight ss u) t ts all (λ less. right))

-- one more table, with no lesser id
pub fault_kept : (ss : List SeatState) (ts : List UnlockedTable) (t : UnlockedTable) (fault : ℕ × ℕ) → Faults ss ts (Some fault) → fault.0 ≤ t.table → Faults ss (ts ++ t ∷ []) (Some fault)
fault_kept ss ts t fault (one, all) le =
    (one_left (λ (u : UnlockedTable). (u.table ≡ fault.0) × Finds ss u (Some fault.1)) ts (t ∷ []) one, all_end (λ (u : UnlockedTable). u.table < fault.0 → IsRight ss u) t ts all (λ less. absurd (omega arith)))

-- the first table with a fault, and one with a lesser id
pub fault_first : (ss : List SeatState) (ts : List UnlockedTable) (t : UnlockedTable) (seat : ℕ) → Faults ss ts None → Finds ss t (Some seat) → Faults ss (ts ++ t ∷ []) (Some (t.table, seat))
fault_first ss ts t seat all found = (
  one_last (λ (u : UnlockedTable). (u.table ≡ t.table) × Finds ss u (Some seat)) ts t (refl, found),
  all_end (λ (u : UnlockedTable). u.table < t.table → IsRight ss u) t ts (all_so (IsRight ss) (λ (u : UnlockedTable). u.table < t.table → IsRight ss u) (λ u right less. right) ts all) (λ less. absurd (omega arith)),
)

pub fault_lesser : (ss : List SeatState) (ts : List UnlockedTable) (t : UnlockedTable) (fault : ℕ × ℕ) (seat : ℕ) → Faults ss ts (Some fault) → t.table < fault.0 → Finds ss t (Some seat) → Faults ss (ts ++ t ∷ []) (Some (t.table, seat))
fault_lesser ss ts t fault seat (one, all) less found = (
  one_last (λ (u : UnlockedTable). (u.table ≡ t.table) × Finds ss u (Some seat)) ts t (refl, found),
  all_end (λ (u : UnlockedTable). u.table < t.table → IsRight ss u) t ts
      (all_so (λ (u : UnlockedTable). u.table < fault.0 → IsRight ss u) (λ (u : UnlockedTable). u.table < t.table → IsRight ss u) (λ u right lesser. right (omega arith)) ts all) (λ same. absurd (omega arith)),
)

pub fault_found : (ss : List SeatState) (ts : List UnlockedTable) (t : UnlockedTable) (least : Option (ℕ × ℕ)) (seat : ℕ) → Faults ss ts least → Finds ss t (Some seat) → Faults ss (ts ++ t ∷ []) (lesser_fault least (t.table, seat))
fault_found ss ts t None seat faults found = fault_first ss ts t seat faults found
fault_found ss ts t (Some least) seat faults found =
    cond_both (nat_le least.0 t.table) (Some least) (Some (t.table, seat)) (Faults ss (ts ++ t ∷ []))
    (λ before. let le : least.0 ≤ t.table = leb-true least.0 t.table before in fault_kept ss ts t least faults le)
    (λ after. let less : t.table < least.0 = leb-false least.0 t.table after in fault_lesser ss ts t least seat faults less found)

-- what is wrong with one table
pub finds_own : (ss : List SeatState) (t : UnlockedTable) (o : Option ℕ) → is_intact t ≡ true → IsLegal t.cell → Compares t.cell t.began ss o → Finds ss t o
finds_own ss t None own legal agree = (own, legal, agree)
finds_own ss t (Some seat) own legal compares = inr (own, compares)

pub finds_other : (ss : List SeatState) (t : UnlockedTable) → is_intact t ≡ false → Finds ss t (Some 0)
finds_other ss t other = inl (other, refl)
