-- The types whose bits are set, one after another, as the loop finds them.
use Rattle.std.proofs.Common.{◌≡◌, ◌≢◌, ℕ, ◌+◌, ◌/◌, ◌%◌, ◌<◌, ◌≤◌, List, [], ◌∷◌, ◌++◌, length, drop, get_or, Option, refl, sym, ap, subst, ◌∙◌, append_assoc, arith}
use Rattle.std.proofs.lemmas.List.{append-nil, at_drop_more, drop_all}
use Rattle.table_types.specs.declared.data_type.DataType.{DataType}
use Rattle.table_types.specs.declared.data_type.DataType.TheVariants.{ServerKey}
use Rattle.peers_msg.specs.Reading.{period_at}
use Rattle.tolerant_intake.specs.Loose.{period_or_none, types_stored}

at_type : (front : List (DataType × Option ℕ)) (ts : List DataType) (i : ℕ) (d : DataType) (bits : ℕ) (bytes : List ℕ) (total : List (DataType × Option ℕ)) → i < length ts → front ++ types_stored (drop i ts) bits bytes ≡ total
    → front ++ types_stored (get_or ts i d ∷ drop (i + 1) ts) bits bytes ≡ total
at_type front ts i d bits bytes total lt so_far = sym (at_drop_more (λ us. front ++ types_stored us bits bytes) ts i d lt) ∙ so_far

pub type_passed : (front : List (DataType × Option ℕ)) (ts : List DataType) (i : ℕ) (bits : ℕ) (bytes : List ℕ) (total : List (DataType × Option ℕ)) → i < length ts → bits % 2 ≡ 0 → front ++ types_stored (drop i ts) bits bytes ≡ total
    → front ++ types_stored (drop (i + 1) ts) (bits / 2) bytes ≡ total
unfolding types_stored
type_passed front ts i bits bytes total lt even so_far =
    let one : front ++ types_stored (get_or ts i ServerKey ∷ drop (i + 1) ts) bits bytes ≡ front ++ types_stored (drop (i + 1) ts) (bits / 2) bytes = rw even refl in
    sym one ∙ at_type front ts i ServerKey bits bytes total lt so_far

type_read : (front : List (DataType × Option ℕ)) (ts : List DataType) (i : ℕ) (d : DataType) (bits : ℕ) (bytes : List ℕ) (total : List (DataType × Option ℕ)) → i < length ts → bits % 2 ≢ 0 → front ++ types_stored (drop i ts) bits bytes ≡ total
    → (front ++ (get_or ts i d, (period_or_none (period_at (get_or ts i d) bytes)).0) ∷ []) ++ types_stored (drop (i + 1) ts) (bits / 2) (period_or_none (period_at (get_or ts i d) bytes)).1 ≡ total
unfolding types_stored
type_read front ts i d bits bytes total lt odd so_far =
    let one_bit : bits % 2 ≡ 1 = omega (arith, odd) in
    let read : Option ℕ × List ℕ = period_or_none (period_at (get_or ts i d) bytes) in
    let entry : DataType × Option ℕ = (get_or ts i d, read.0) in
    let one : front ++ types_stored (get_or ts i d ∷ drop (i + 1) ts) bits bytes ≡ front ++ entry ∷ types_stored (drop (i + 1) ts) (bits / 2) read.1 = rw one_bit refl in
    append_assoc front (entry ∷ []) (types_stored (drop (i + 1) ts) (bits / 2) read.1) ∙ sym one ∙ at_type front ts i d bits bytes total lt so_far

pub type_found : (front : List (DataType × Option ℕ)) (ts : List DataType) (i : ℕ) (d : DataType) (bits : ℕ) (bytes : List ℕ) (total : List (DataType × Option ℕ)) (period : Option ℕ) (rest : List ℕ) → i < length ts → bits % 2 ≢ 0
    → front ++ types_stored (drop i ts) bits bytes ≡ total → period ≡ (period_or_none (period_at (get_or ts i d) bytes)).0 → rest ≡ (period_or_none (period_at (get_or ts i d) bytes)).1
    → (front ++ (get_or ts i d, period) ∷ []) ++ types_stored (drop (i + 1) ts) (bits / 2) rest ≡ total
type_found front ts i d bits bytes total period rest lt odd so_far is after =
    subst (λ (p : Option ℕ). (front ++ (get_or ts i d, p) ∷ []) ++ types_stored (drop (i + 1) ts) (bits / 2) rest ≡ total) (sym is)
    (subst (λ (bs : List ℕ). (front ++ (get_or ts i d, (period_or_none (period_at (get_or ts i d) bytes)).0) ∷ []) ++ types_stored (drop (i + 1) ts) (bits / 2) bs ≡ total) (sym after)
    (type_read front ts i d bits bytes total lt odd so_far))

pub types_done : (front : List (DataType × Option ℕ)) (ts : List DataType) (i : ℕ) (bits : ℕ) (bytes : List ℕ) (total : List (DataType × Option ℕ)) → length ts ≤ i → front ++ types_stored (drop i ts) bits bytes ≡ total → front ≡ total
unfolding types_stored
types_done front ts i bits bytes total le so_far = sym (append-nil front) ∙ ap (λ us. front ++ types_stored us bits bytes) (sym (drop_all i ts le)) ∙ so_far
