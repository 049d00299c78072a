-- The numbers of a table's updates (HAProxy, doc/peers-v2.0.txt, "Update Messages"): each change of a row takes the
-- next number, and the row's key drops its older number.
use Rattle.std.specs.Prelude.{◌≡◌, ℕ, ◌+◌, ◌≤◌, ◌<◌, ◌^◌, ◌||◌, Bool, not, nat_lt, List, [], ◌∷◌, ◌++◌, filter, Option, Some, None}
use Rattle.std.specs.List.{AllByRecursion}
use Rattle.std.specs.List.Sorted.{IsStrictlySortedBy}
use Rattle.std.specs.Ordering.{is_eq, nat_cmp}
use Rattle.std.specs.Map.{keys_of, lookup, remove_entry}
use Rattle.std.specs.BTreeMap.{is_at}
use Rattle.table_types.specs.declared.key.Key.{Key}
use Rattle.table_types.specs.Keys.{key_cmp}

-- the numbers that have a key, each with its key, in ascending order, and the next number to assign
pub record Numbering : Type 0 where
  pub pairs : List (ℕ × Key)
  pub next : ℕ

-- the numbers ascend, and are below `next`
pub record AreNumbered (pairs : List (ℕ × Key)) (next : ℕ) : Type 0 where
  pub rising : IsStrictlySortedBy nat_cmp (keys_of pairs)
  pub below : AllByRecursion (λ pair. pair.0 < next) pairs
  pub most : next ≤ 2 ^ 32

abbrev pub is_of : Key → ℕ × Key → Bool
is_of key pair = is_eq (key_cmp key pair.1)

-- the pairs without that of the key
abbrev pub without : Key → List (ℕ × Key) → List (ℕ × Key)
without key pairs = filter (λ pair. not (is_of key pair)) pairs

-- the key drops its number, and takes the next one
abbrev pub given : Key → Numbering → Numbering
given key ns = record { pairs = without key ns.pairs ++ (ns.next, key) ∷ []; next = ns.next + 1 }

-- the key takes the next number, and keeps its older one
abbrev pub pushed : Key → Numbering → Numbering
pushed key ns = record { pairs = ns.pairs ++ (ns.next, key) ∷ []; next = ns.next + 1 }

-- the key drops its number
abbrev pub dropped : Key → Numbering → Numbering
dropped key ns = record { pairs = without key ns.pairs; next = ns.next }

-- the pairs above a number
abbrev pub above : ℕ → List (ℕ × Key) → List (ℕ × Key)
above number pairs = filter (λ pair. nat_lt number pair.0) pairs

-- the key that has a number
abbrev pub key_at : List (ℕ × Key) → ℕ → Option Key
key_at pairs number = lookup (is_at (nat_cmp number)) pairs

-- the pairs without that of the number, if there is one
abbrev pub pairs_without : Option ℕ → List (ℕ × Key) → List (ℕ × Key)
pairs_without None pairs = pairs
pairs_without (Some number) pairs = remove_entry (is_at (nat_cmp number)) pairs

-- the pairs without those of the key below a number
abbrev pub without_below : ℕ → Key → List (ℕ × Key) → List (ℕ × Key)
without_below number key pairs = filter (λ pair. not (nat_lt pair.0 number) || not (is_of key pair)) pairs
