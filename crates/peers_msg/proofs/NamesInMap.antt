-- The names of tables in a map of bytes.
use Rattle.std.proofs.Common.{◌≡◌, ℕ, Bool, true, false, cond, List, Option, refl, sym, ap, subst, ◌∙◌, Vec, Global}
use Rattle.std.specs.Map.{KeepsOthers, lookup}
use Rattle.std.specs.Cmp.Lexicographic.{nat_list_cmp_total, same_text, slice_cmp}
use Rattle.std.specs.Ordering.{is_eq, nat_cmp}
use Rattle.std.specs.declared.cmp.Ordering.{Ordering}
use Rattle.std.specs.declared.cmp.Ordering.TheVariants.{Less, Equal, Greater}
use Rattle.std.proofs.lemmas.Map.Lookups.{exact_bytes}
use Rattle.table_types.specs.Rosters.{is_same_name}
use Rattle.table_types.proofs.OneTableByShape.{same_name}

-- the bytes of a key
abbrev pub key_bytes : Vec ℕ Global → List ℕ
key_bytes key = key.items

is_equal : (o : Ordering) → is_eq o ≡ true → o ≡ Equal
is_equal Equal h = refl
is_equal Less h = let bad : false ≡ true = h in absurd cc
is_equal Greater h = let bad : false ≡ true = h in absurd cc

-- a name is found under the key with the same bytes
module _ {V : Type 0} (bytes_of : V → List ℕ) where
  abbrev is_name_of : List ℕ → V → Bool
  is_name_of name key = is_eq (slice_cmp nat_cmp name (bytes_of key))

  -- after a change at one name, the others are found as before
  pub after_change : (changed : List ℕ) (id : Option ℕ) (old new : List (V × ℕ)) → lookup (is_name_of changed) new ≡ id
      → KeepsOthers (λ one other. is_eq (slice_cmp nat_cmp (bytes_of one) (bytes_of other))) (is_name_of changed) old new
      → (name : List ℕ) → lookup (is_name_of name) new ≡ cond (is_same_name changed name) id (lookup (is_name_of name) old)
  unfolding KeepsOthers
  after_change changed id old new here others name = by (is_same_name changed name) refl
    where
      one_key : (x y : V) → is_name_of name x ≡ true → is_name_of name y ≡ is_eq (slice_cmp nat_cmp (bytes_of x) (bytes_of y))
      one_key x y h = ap is_eq (nat_list_cmp_total.congr name (bytes_of x) (bytes_of y) (is_equal (slice_cmp nat_cmp name (bytes_of x)) h))

      apart : is_same_name changed name ≡ false → (key : V) → is_name_of changed key ≡ true → is_name_of name key ≡ false
      apart differ key h = at (is_name_of name key) refl
        where
          at : (b : Bool) → is_name_of name key ≡ b → is_name_of name key ≡ false
          at false e = e
          at true e =
              let one : changed ≡ bytes_of key = exact_bytes changed (bytes_of key) (is_equal (slice_cmp nat_cmp changed (bytes_of key)) h) in
              let other : name ≡ bytes_of key = exact_bytes name (bytes_of key) (is_equal (slice_cmp nat_cmp name (bytes_of key)) e) in
              let same : is_same_name changed name ≡ true = subst (λ (n : List ℕ). is_same_name changed n ≡ true) (one ∙ sym other) (same_name changed) in
              let bad : true ≡ false = sym same ∙ differ in
              absurd cc

      by : (b : Bool) → is_same_name changed name ≡ b → lookup (is_name_of name) new ≡ cond (is_same_name changed name) id (lookup (is_name_of name) old)
      by true e = rw e (subst (λ (n : List ℕ). lookup (is_name_of n) new ≡ id) (same_text changed name (sym e)) here)
      by false e = rw e (others (is_name_of name) one_key (apart e))
