-- No difference between two definitions of one name is the same shape.
use Rattle.std.proofs.Common.{◌≡◌, ℕ, ◌<◌, Bool, true, false, not, ◌&&◌, ◌||◌, cond, List, [], ◌∷◌, ◌++◌, length, drop, Option, Some, None, refl, sym, ap, ◌∙◌, inl, inr, arith}
use Rattle.std.specs.Prelude.{◌==◌, is_none}
use Rattle.std.specs.Cmp.Lexicographic.{pointwise, unequal}
use Rattle.std.proofs.lemmas.Bool.{cases_Bool}
use Rattle.std.proofs.lemmas.List.{append-nil, length-drop}
use Rattle.table_types.specs.declared.data_type.DataType.{DataType}
use Rattle.table_types.specs.DataTypes.{is_same_type}
use Rattle.table_types.specs.Keys.{number_of}
use Rattle.table_types.specs.Rosters.{is_same_name}
use Rattle.table_types.specs.Shapes.{are_same_types, is_same_period, is_shape_of}
use Rattle.table_types.specs.Tables.{Definition}
use Rattle.node_core.specs.declared.differences.Difference.{Difference}
use Rattle.node_core.specs.declared.differences.Difference.TheVariants.{Kind, Length, Types, Period}
use Rattle.node_core.specs.Differences.{defined_shape, difference, differing_rates, have_same_periods, have_same_types}

-- entries left on one side differ from none on the other
pub none_left : (same : DataType × Option ℕ → DataType × Option ℕ → Bool) (ts hs : List (DataType × Option ℕ)) (i : ℕ) (r : Bool) → i < length ts → length hs ≡ 0 → pointwise same (drop i ts) hs ≡ r → false ≡ r
none_left same ts hs i r lt none e = sym (unequal same (drop i ts) hs (λ as_long. omega (arith, as_long, length-drop i ts))) ∙ e

-- ---- types and periods

each : (a b p q : Bool) → (a && b && (p && q)) ≡ ((a && p) && (b && q))
each false b p q = refl
each true false false q = refl
each true false true q = refl
each true true p q = refl

both : (ts hs : List (DataType × Option ℕ)) → are_same_types ts hs ≡ (have_same_types ts hs && have_same_periods ts hs)
both [] [] = refl
both [] (h ∷ hs) = refl
both (t ∷ ts) [] = refl
both (t ∷ ts) (h ∷ hs) =
    ap (λ (b : Bool). is_same_type t.0 h.0 && is_same_period t.1 h.1 && b) (both ts hs) ∙ each (is_same_type t.0 h.0) (is_same_period t.1 h.1) (have_same_types ts hs) (have_same_periods ts hs)

-- ---- the first that differs

no_first : (n k l s p : Bool)
    → (n && k && l && (s && p)) ≡ (n && is_none (cond (not k) (Some Kind) (cond (not l) (Some Length) (cond (false || (false || not s)) (Some Types) (cond (not p) (Some Period) None)))))
no_first false k l s p = refl
no_first true false l s p = refl
no_first true true false s p = refl
no_first true true true false p = refl
no_first true true true true false = refl
no_first true true true true true = refl

pub learned : (own theirs : Definition) → is_shape_of own theirs ≡ (is_same_name own.name theirs.name && is_none (difference (defined_shape own) (defined_shape theirs)))
learned own theirs =
    ap (λ (b : Bool). is_same_name own.name theirs.name && (number_of own.kind == number_of theirs.kind) && (own.key_length == theirs.key_length) && b) (both own.types theirs.types)
    ∙ no_first (is_same_name own.name theirs.name) (number_of own.kind == number_of theirs.kind) (own.key_length == theirs.key_length) (have_same_types own.types theirs.types) (have_same_periods own.types theirs.types)

-- ---- periods that differ

none_beside : (ts hs : List (DataType × Option ℕ)) → length hs ≡ 0 → differing_rates ts hs ≡ []
none_beside [] hs none = refl
none_beside (t ∷ ts) [] none = refl
none_beside (t ∷ ts) (h ∷ hs) none = absurd (omega arith)

-- beside none, nothing differs
pub all_found : (found ts hs total : List (DataType × Option ℕ)) → length hs ≡ 0 → found ++ differing_rates ts hs ≡ total → found ≡ total
all_found found ts hs total none so_far = sym (append-nil found) ∙ ap (λ (rates : List (DataType × Option ℕ)). found ++ rates) (sym (none_beside ts hs none)) ∙ so_far
