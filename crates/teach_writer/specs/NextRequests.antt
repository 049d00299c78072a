-- The next request for each name, and which names are retained for the requests that are kept (profile).
use Rattle.std.specs.Prelude.{◌≡◌, ◌≤◌, ℕ, ◌+◌, ◌-◌, slice_set, Bool, false, true, List, [], ◌∷◌, Option, Some, None}
use Rattle.std.specs.Borrow.{Bor}
use Rattle.std.specs.BTreeMap.{BTreeMap}
use Rattle.std.specs.BTreeMap as tree
use Rattle.std.specs.Cmp.Lexicographic.{slice_cmp}
use Rattle.std.specs.Ordering.{nat_cmp}
use Rattle.dict_slots.specs.Slots.{Holds}
use Rattle.known_state.specs.Requests.{Asked}
use Rattle.teach_writer.specs.declared.next_requests.NextRequest.{NextRequest}
use Rattle.known_state.specs.Plans.{keeps_next}
use Rattle.teach_writer.specs.Retained.{Retains, IsFree}

-- whether there is a next request and it is kept
abbrev pub is_kept : Option NextRequest → Bool
is_kept None = false
is_kept (Some next) = next.kept

-- whether the first request for a name is kept, given a map from names
abbrev pub is_first_kept : BTreeMap (Bor (List ℕ)) NextRequest → List ℕ → Bool
is_first_kept first name = is_kept (tree.get_by (λ k. slice_cmp nat_cmp name k.now) first)

-- for each request, whether the next one for its name is kept
abbrev pub kept_next : List Asked → List Bool → List Bool
kept_next [] keep = []
kept_next (r ∷ rs) [] = []
kept_next (r ∷ rs) (kept ∷ keep) = keeps_next r.name rs keep ∷ kept_next rs keep

-- A slot retains its name at the start: it is the lowest slot that holds that name, and the first request for the name
-- is kept.
abbrev pub IsRetainedFirst : List (Option (List ℕ)) → (List ℕ → Bool) → ℕ → Type 0
IsRetainedFirst slots is_kept slot =
    (name : List ℕ) × Holds slots slot name
    × ((other : ℕ) → Holds slots other name → slot ≤ other)
    × (is_kept name ≡ true)

-- no slot retains the name, if there is one
abbrev pub IsNotRetained : List Bool → List (Option (List ℕ)) → Option (List ℕ) → Type 0
IsNotRetained retained slots None = Unit {0}
IsNotRetained retained slots (Some name) = (slot : ℕ) → Retains retained slots slot name → ⊥

-- if no retained slot holds the name, some slot is free
abbrev pub HasRoomFor : List Bool → List (Option (List ℕ)) → Option (List ℕ) → Type 0
HasRoomFor retained slots None = Unit {0}
HasRoomFor retained slots (Some name) = ((slot : ℕ) → Retains retained slots slot name → ⊥) → (slot : ℕ) × IsFree retained slot

-- An update's name can be sent as its mark says: if it isn't kept, no slot retains it; and if no slot retains it, some
-- slot is free.
abbrev pub IsAsMarked : List Bool → List (Option (List ℕ)) → Bool → Option (List ℕ) → Type 0
IsAsMarked retained slots kept name = (kept ≡ false → IsNotRetained retained slots name) × HasRoomFor retained slots name

-- what is retained after an update whose name used a slot, if it has one
abbrev pub retained_after : List Bool → Option ℕ → Bool → List Bool
retained_after retained None flag = retained
retained_after retained (Some slot) flag = slice_set retained (slot - 1) flag

-- and the index of the next request after it
abbrev pub index_after : ℕ → Option ℕ → ℕ
index_after index None = index
index_after index (Some slot) = index + 1
