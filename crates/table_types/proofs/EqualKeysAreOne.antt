-- Keys that compare as equal are the same, and a key compares as equal to itself.
use Rattle.std.proofs.Common.{◌≡◌, ℕ, true, false, List, [], ◌∷◌, refl, sym, ap}
use Rattle.std.specs.declared.cmp.Ordering.{Ordering}
use Rattle.std.specs.declared.cmp.Ordering.TheVariants.{Less, Equal, Greater}
use Rattle.std.specs.Ordering.{is_eq, nat_cmp}
use Rattle.std.specs.Cmp.{nat_cmp_is}
use Rattle.std.specs.Cmp.Lexicographic.{slice_cmp}
use Rattle.std.proofs.lemmas.Map.Lookups.{exact_bytes, exact_unsigned}
use Rattle.table_types.specs.declared.key.Key.{Key}
use Rattle.table_types.specs.declared.key.Key.TheVariants as keys
use Rattle.table_types.specs.Keys.{key_cmp}

pub exact_keys : (a b : Key) → key_cmp a b ≡ Equal → a ≡ b
exact_keys (keys.Int a) (keys.Int b) h = ap (λ (n : ℕ). keys.Int n) (exact_unsigned a b h)
exact_keys (keys.Ip4 a) (keys.Ip4 b) h = ap (λ (n : List ℕ). keys.Ip4 n) (exact_bytes a b h)
exact_keys (keys.Ip6 a) (keys.Ip6 b) h = ap (λ (n : List ℕ). keys.Ip6 n) (exact_bytes a b h)
exact_keys (keys.Str a) (keys.Str b) h = ap (λ (n : List ℕ). keys.Str n) (exact_bytes a b h)
exact_keys (keys.Bin a) (keys.Bin b) h = ap (λ (n : List ℕ). keys.Bin n) (exact_bytes a b h)
exact_keys (keys.Int a) (keys.Ip4 b) h = absurd cc
exact_keys (keys.Int a) (keys.Ip6 b) h = absurd cc
exact_keys (keys.Int a) (keys.Str b) h = absurd cc
exact_keys (keys.Int a) (keys.Bin b) h = absurd cc
exact_keys (keys.Ip4 a) (keys.Int b) h = absurd cc
exact_keys (keys.Ip4 a) (keys.Ip6 b) h = absurd cc
exact_keys (keys.Ip4 a) (keys.Str b) h = absurd cc
exact_keys (keys.Ip4 a) (keys.Bin b) h = absurd cc
exact_keys (keys.Ip6 a) (keys.Int b) h = absurd cc
exact_keys (keys.Ip6 a) (keys.Ip4 b) h = absurd cc
exact_keys (keys.Ip6 a) (keys.Str b) h = absurd cc
exact_keys (keys.Ip6 a) (keys.Bin b) h = absurd cc
exact_keys (keys.Str a) (keys.Int b) h = absurd cc
exact_keys (keys.Str a) (keys.Ip4 b) h = absurd cc
exact_keys (keys.Str a) (keys.Ip6 b) h = absurd cc
exact_keys (keys.Str a) (keys.Bin b) h = absurd cc
exact_keys (keys.Bin a) (keys.Int b) h = absurd cc
exact_keys (keys.Bin a) (keys.Ip4 b) h = absurd cc
exact_keys (keys.Bin a) (keys.Ip6 b) h = absurd cc
exact_keys (keys.Bin a) (keys.Str b) h = absurd cc

nat_cmp-same : (n : ℕ) → nat_cmp n n ≡ Equal
nat_cmp-same n = sym (nat_cmp_is n n Equal refl)

bytes-same : (bs : List ℕ) → slice_cmp nat_cmp bs bs ≡ Equal
bytes-same [] = refl
bytes-same (b ∷ bs) = rw (nat_cmp-same b) (bytes-same bs)

pub key_cmp-same : (key : Key) → key_cmp key key ≡ Equal
key_cmp-same (keys.Int n) = nat_cmp-same n
key_cmp-same (keys.Ip4 bytes) = bytes-same bytes
key_cmp-same (keys.Ip6 bytes) = bytes-same bytes
key_cmp-same (keys.Str bytes) = bytes-same bytes
key_cmp-same (keys.Bin bytes) = bytes-same bytes

pub one_key : (a b : Key) → is_eq (key_cmp a b) ≡ true → a ≡ b
one_key a b same = at (key_cmp a b) refl
  where
    apart : is_eq (key_cmp a b) ≡ false → ⊥
    apart other = cc

    at : (o : Ordering) → key_cmp a b ≡ o → a ≡ b
    at Equal e = exact_keys a b e
    at Less e = absurd (apart (rw e refl))
    at Greater e = absurd (apart (rw e refl))
