-- The order of keys is total, and keys that compare as equal are equal. The laws of `Ord` cite these.
use Rattle.std.proofs.Common.{◌≡◌, ℕ, List, [], ◌∷◌, Bool, refl, sym, ap, ◌∙◌}
use Rattle.std.specs.declared.cmp.Ordering.{Ordering}
use Rattle.std.specs.declared.cmp.Ordering.TheVariants.{Less, Equal, Greater}
use Rattle.std.specs.Ordering.{nat_cmp, on, then_cmp, ordering_then, ordering_reverse, eq_by_cmp}
use Rattle.std.specs.Cmp.{IsTotalOrder, unsigned_ties, nat_cmp_total, on_total, then_total}
use Rattle.std.specs.Cmp.Lexicographic.{slice_cmp, texts_ties, nat_list_cmp_total}
use Rattle.table_types.specs.declared.key.Key.{Key}
use Rattle.table_types.specs.declared.key.Key.TheVariants as keys
use Rattle.table_types.specs.contracts.key.KeyPartialEq.TheImpl as key_eq
use Rattle.table_types.specs.Keys.{kind_rank, key_cmp}

-- a number as a list of one, any other key as its bytes
abbrev content : Key → List ℕ
content (keys.Int n) = n ∷ []
content (keys.Ip4 bytes) = bytes
content (keys.Ip6 bytes) = bytes
content (keys.Str bytes) = bytes
content (keys.Bin bytes) = bytes

-- first by kind, then by content
abbrev kind_then_content : Key → Key → Ordering
kind_then_content = then_cmp (on kind_rank nat_cmp) (on content (slice_cmp nat_cmp))

then_equal : (o : Ordering) → o ≡ ordering_then o Equal
then_equal Less = refl
then_equal Equal = refl
then_equal Greater = refl

abbrev are_equal : Key → Key → Bool
are_equal = (key_eq.ghosts).eq

-- how two keys compare, and whether they are equal
compared : (a b : Key) → (key_cmp a b ≡ kind_then_content a b) × (are_equal a b ≡ eq_by_cmp key_cmp a b)
compared (keys.Int a) (keys.Int b) = (then_equal (nat_cmp a b), unsigned_ties a b)
compared (keys.Ip4 a) (keys.Ip4 b) = (refl, texts_ties a b)
compared (keys.Ip6 a) (keys.Ip6 b) = (refl, texts_ties a b)
compared (keys.Str a) (keys.Str b) = (refl, texts_ties a b)
compared (keys.Bin a) (keys.Bin b) = (refl, texts_ties a b)
compared (keys.Int a) (keys.Ip4 b) = (refl, refl)
compared (keys.Int a) (keys.Ip6 b) = (refl, refl)
compared (keys.Int a) (keys.Str b) = (refl, refl)
compared (keys.Int a) (keys.Bin b) = (refl, refl)
compared (keys.Ip4 a) (keys.Int b) = (refl, refl)
compared (keys.Ip4 a) (keys.Ip6 b) = (refl, refl)
compared (keys.Ip4 a) (keys.Str b) = (refl, refl)
compared (keys.Ip4 a) (keys.Bin b) = (refl, refl)
compared (keys.Ip6 a) (keys.Int b) = (refl, refl)
compared (keys.Ip6 a) (keys.Ip4 b) = (refl, refl)
compared (keys.Ip6 a) (keys.Str b) = (refl, refl)
compared (keys.Ip6 a) (keys.Bin b) = (refl, refl)
compared (keys.Str a) (keys.Int b) = (refl, refl)
compared (keys.Str a) (keys.Ip4 b) = (refl, refl)
compared (keys.Str a) (keys.Ip6 b) = (refl, refl)
compared (keys.Str a) (keys.Bin b) = (refl, refl)
compared (keys.Bin a) (keys.Int b) = (refl, refl)
compared (keys.Bin a) (keys.Ip4 b) = (refl, refl)
compared (keys.Bin a) (keys.Ip6 b) = (refl, refl)
compared (keys.Bin a) (keys.Str b) = (refl, refl)

by_kind : (a b : Key) → key_cmp a b ≡ kind_then_content a b
by_kind a b = (compared a b).0

kind_then_content_total : IsTotalOrder kind_then_content
kind_then_content_total = then_total (on_total kind_rank nat_cmp_total) (on_total content nat_list_cmp_total)

-- the order of keys is total
pub key_cmp_total : IsTotalOrder key_cmp
key_cmp_total = record {
  antisymm = λ x y. by_kind x y ∙ kind_then_content_total.antisymm x y ∙ ap ordering_reverse (sym (by_kind y x));
  trans = λ x y z before after. by_kind x z ∙ kind_then_content_total.trans x y z (sym (by_kind x y) ∙ before) (sym (by_kind y z) ∙ after);
  congr = λ x y z tied. by_kind x z ∙ kind_then_content_total.congr x y z (sym (by_kind x y) ∙ tied) ∙ sym (by_kind y z);
}

-- keys are equal if and only if they compare as equal
pub key_cmp_ties : (a b : Key) → are_equal a b ≡ eq_by_cmp key_cmp a b
key_cmp_ties a b = (compared a b).1
