-- A stream and prices have only one verdict.
use Rattle.std.proofs.Common.{◌≡◌, ◌≢◌, ℕ, suc, ◌≤◌, ◌^◌, true, false, List, [], ◌∷◌, ◌++◌, length, refl, sym, ap, subst, ◌∙◌, inl, inr, ◌⊎◌}
use Rattle.std.specs.Prelude.{nat_lt, ◌↔◌}
use Rattle.std.specs.List.{AllByRecursion, list_any}
use Rattle.std.proofs.lemmas.Bool.{le-ltb}
use Rattle.table_types.specs.declared.update.Update.{Update}
use Rattle.known_state.specs.Known.{KnownState, AreOwn}
use Rattle.price_checker.specs.declared.verdict.Verdict.{Verdict}
use Rattle.price_checker.specs.declared.verdict.Verdict.TheVariants as verdicts
use Rattle.price_checker.specs.Verdicts.{AreApartFrom, BeginApart, Carries, Says, Show, IsNotLegal, IsNotCarried}
use Rattle.price_checker.proofs.OneReading.{carries_one, stops_or_carries, stops_once}

-- ---- where lists differ

never_from_itself : (xs : List Update) → BeginApart xs xs → ⊥
never_from_itself [] apart = apart
never_from_itself (x ∷ xs) apart = apart refl

rest_same : (same others rest : List Update) → same ++ others ≡ same ++ rest → others ≡ rest
rest_same [] others rest e = e
rest_same (x ∷ xs) others rest e = rest_same xs others rest (tail e)
  where
    tail : x ∷ (xs ++ others) ≡ x ∷ (xs ++ rest) → xs ++ others ≡ xs ++ rest
    tail e = cc

pub apart_is_other : (index : ℕ) (carried us : List Update) → AreApartFrom index carried us → carried ≢ us
apart_is_other index carried us (same, others, rest, begins, starts, at, apart) = λ is.
    let both : others ≡ rest = rest_same same others rest (sym begins ∙ is ∙ starts) in
    never_from_itself rest (subst (λ (xs : List Update). BeginApart xs rest) both apart)

head_same : (x y : Update) (xs ys : List Update) → ◌≡◌ {A = List Update} (x ∷ xs) (y ∷ ys) → (x ≡ y) × (xs ≡ ys)
head_same x y xs ys e = (cc, cc)

one_length : (p q o1 o2 r1 r2 : List Update) → p ++ o1 ≡ q ++ o2 → p ++ r1 ≡ q ++ r2 → BeginApart o1 r1 → BeginApart o2 r2 → length p ≡ length q
one_length [] [] o1 o2 r1 r2 a b first second = refl
one_length [] (x ∷ q) o1 o2 r1 r2 a b first second =
    let left : BeginApart (x ∷ (q ++ o2)) r1 = subst (λ (xs : List Update). BeginApart xs r1) a first in
    let bad : BeginApart (x ∷ (q ++ o2)) (x ∷ (q ++ r2)) = subst (λ (xs : List Update). BeginApart (x ∷ (q ++ o2)) xs) b left in
    absurd (bad refl)
one_length (x ∷ p) [] o1 o2 r1 r2 a b first second =
    let left : BeginApart (x ∷ (p ++ o1)) r2 = subst (λ (xs : List Update). BeginApart xs r2) (sym a) second in
    let bad : BeginApart (x ∷ (p ++ o1)) (x ∷ (p ++ r1)) = subst (λ (xs : List Update). BeginApart (x ∷ (p ++ o1)) xs) (sym b) left in
    absurd (bad refl)
one_length (x ∷ p) (y ∷ q) o1 o2 r1 r2 a b first second =
    ap suc (one_length p q o1 o2 r1 r2 (head_same x y (p ++ o1) (q ++ o2) a).1 (head_same x y (p ++ r1) (q ++ r2) b).1 first second)

one_index : (one other : ℕ) (carried us : List Update) → AreApartFrom one carried us → AreApartFrom other carried us → one ≡ other
one_index one other carried us (same, others, rest, begins, starts, at, apart) (also, others', rest', begins', starts', at', apart') =
    at ∙ one_length same also others others' rest rest' (sym begins ∙ begins') (sym starts ∙ starts') apart apart' ∙ sym at'

-- ---- what prices prove

none_above : (prices : List ℕ) → AllByRecursion (λ price. price ≤ 2 ^ 32) prices → list_any (λ price. nat_lt (2 ^ 32) price) prices ≡ true → ⊥
none_above [] all any = let bad : false ≡ true = any in cc
none_above (p ∷ ps) (le, all) any = none_above ps all (sym (rw (le-ltb (2 ^ 32) p le) refl) ∙ any)

shows_one : (k : KnownState) (us : List Update) (prices : List ℕ) (size : ℕ) (one other : Verdict) → Show k us prices size one → Show k us prices size other → one ≡ other
shows_one k us prices size verdicts.PriceCount verdicts.PriceCount p q = refl
shows_one k us prices size verdicts.PriceCount verdicts.PriceRange p q = absurd (p q.0)
shows_one k us prices size verdicts.PriceCount (verdicts.Gap saved most) p q = absurd (p q.0.0)
shows_one k us prices size verdicts.PriceCount (verdicts.Shortest bytes) p q = absurd (p q.0.0)
shows_one k us prices size verdicts.PriceRange verdicts.PriceCount p q = absurd (q p.0)
shows_one k us prices size verdicts.PriceRange verdicts.PriceRange p q = refl
shows_one k us prices size verdicts.PriceRange (verdicts.Gap saved most) p q = absurd (none_above prices q.0.1 p.1)
shows_one k us prices size verdicts.PriceRange (verdicts.Shortest bytes) p q = absurd (none_above prices q.0.1 p.1)
shows_one k us prices size (verdicts.Gap saved most) verdicts.PriceCount p q = absurd (q p.0.0)
shows_one k us prices size (verdicts.Gap saved most) verdicts.PriceRange p q = absurd (none_above prices p.0.1 q.1)
shows_one k us prices size (verdicts.Gap saved most) (verdicts.Gap other bound) p q = gap (p.1 ∙ sym q.1) (p.2 ∙ sym q.2)
  where
    gap : saved ≡ other → most ≡ bound → verdicts.Gap saved most ≡ verdicts.Gap other bound
    gap a b = cc
shows_one k us prices size (verdicts.Gap saved most) (verdicts.Shortest bytes) p q = absurd (p.3 q.2)
shows_one k us prices size (verdicts.Shortest bytes) verdicts.PriceCount p q = absurd (q p.0.0)
shows_one k us prices size (verdicts.Shortest bytes) verdicts.PriceRange p q = absurd (none_above prices p.0.1 q.1)
shows_one k us prices size (verdicts.Shortest bytes) (verdicts.Gap saved most) p q = absurd (q.3 p.2)
shows_one k us prices size (verdicts.Shortest bytes) (verdicts.Shortest other) p q = ap (λ (n : ℕ). verdicts.Shortest n) (p.1 ∙ sym q.1)
shows_one k us prices size (verdicts.NotLegal illegal place) other p q = absurd p
shows_one k us prices size (verdicts.NotCarried index) other p q = absurd p
shows_one k us prices size one (verdicts.NotLegal illegal place) p q = absurd q
shows_one k us prices size one (verdicts.NotCarried index) p q = absurd q

-- ---- verdicts

pub says_one : (k : KnownState) (us : List Update) (stream prices : List ℕ) (one other : Verdict) → AreOwn k.roster k.state.received.tables → Says k us stream prices one → Says k us stream prices other → one ≡ other
says_one k us stream prices (verdicts.NotLegal illegal place) (verdicts.NotLegal why end) own p q = both (stops_once k stream illegal why place end own p q)
  where
    both : (illegal ≡ why) × (place ≡ end) → verdicts.NotLegal illegal place ≡ verdicts.NotLegal why end
    both (a, b) = cc
says_one k us stream prices (verdicts.NotLegal illegal place) (verdicts.NotCarried index) own p q = absurd (stops_or_carries k stream q.0 illegal place own p q.1)
says_one k us stream prices (verdicts.NotLegal illegal place) verdicts.PriceCount own p q = absurd (stops_or_carries k stream us illegal place own p q.0)
says_one k us stream prices (verdicts.NotLegal illegal place) verdicts.PriceRange own p q = absurd (stops_or_carries k stream us illegal place own p q.0)
says_one k us stream prices (verdicts.NotLegal illegal place) (verdicts.Gap saved most) own p q = absurd (stops_or_carries k stream us illegal place own p q.0)
says_one k us stream prices (verdicts.NotLegal illegal place) (verdicts.Shortest bytes) own p q = absurd (stops_or_carries k stream us illegal place own p q.0)
says_one k us stream prices (verdicts.NotCarried index) (verdicts.NotLegal illegal place) own p q = absurd (stops_or_carries k stream p.0 illegal place own q p.1)
says_one k us stream prices (verdicts.NotCarried index) (verdicts.NotCarried other) own p q =
    let same : p.0 ≡ q.0 = carries_one k stream p.0 q.0 p.1 q.1 in
    ap (λ (n : ℕ). verdicts.NotCarried n) (one_index index other q.0 us (subst (λ (vs : List Update). AreApartFrom index vs us) same p.2) q.2)
says_one k us stream prices (verdicts.NotCarried index) verdicts.PriceCount own p q = absurd (apart_is_other index p.0 us p.2 (carries_one k stream p.0 us p.1 q.0))
says_one k us stream prices (verdicts.NotCarried index) verdicts.PriceRange own p q = absurd (apart_is_other index p.0 us p.2 (carries_one k stream p.0 us p.1 q.0))
says_one k us stream prices (verdicts.NotCarried index) (verdicts.Gap saved most) own p q = absurd (apart_is_other index p.0 us p.2 (carries_one k stream p.0 us p.1 q.0))
says_one k us stream prices (verdicts.NotCarried index) (verdicts.Shortest bytes) own p q = absurd (apart_is_other index p.0 us p.2 (carries_one k stream p.0 us p.1 q.0))
says_one k us stream prices verdicts.PriceCount (verdicts.NotLegal illegal place) own p q = absurd (stops_or_carries k stream us illegal place own q p.0)
says_one k us stream prices verdicts.PriceRange (verdicts.NotLegal illegal place) own p q = absurd (stops_or_carries k stream us illegal place own q p.0)
says_one k us stream prices (verdicts.Gap saved most) (verdicts.NotLegal illegal place) own p q = absurd (stops_or_carries k stream us illegal place own q p.0)
says_one k us stream prices (verdicts.Shortest bytes) (verdicts.NotLegal illegal place) own p q = absurd (stops_or_carries k stream us illegal place own q p.0)
says_one k us stream prices verdicts.PriceCount (verdicts.NotCarried index) own p q = absurd (apart_is_other index q.0 us q.2 (carries_one k stream q.0 us q.1 p.0))
says_one k us stream prices verdicts.PriceRange (verdicts.NotCarried index) own p q = absurd (apart_is_other index q.0 us q.2 (carries_one k stream q.0 us q.1 p.0))
says_one k us stream prices (verdicts.Gap saved most) (verdicts.NotCarried index) own p q = absurd (apart_is_other index q.0 us q.2 (carries_one k stream q.0 us q.1 p.0))
says_one k us stream prices (verdicts.Shortest bytes) (verdicts.NotCarried index) own p q = absurd (apart_is_other index q.0 us q.2 (carries_one k stream q.0 us q.1 p.0))
says_one k us stream prices verdicts.PriceCount verdicts.PriceCount own p q = shows_one k us prices (length stream) verdicts.PriceCount verdicts.PriceCount p.1 q.1
says_one k us stream prices verdicts.PriceCount verdicts.PriceRange own p q = shows_one k us prices (length stream) verdicts.PriceCount verdicts.PriceRange p.1 q.1
says_one k us stream prices verdicts.PriceCount (verdicts.Gap other bound) own p q = shows_one k us prices (length stream) verdicts.PriceCount (verdicts.Gap other bound) p.1 q.1
says_one k us stream prices verdicts.PriceCount (verdicts.Shortest size) own p q = shows_one k us prices (length stream) verdicts.PriceCount (verdicts.Shortest size) p.1 q.1
says_one k us stream prices verdicts.PriceRange verdicts.PriceCount own p q = shows_one k us prices (length stream) verdicts.PriceRange verdicts.PriceCount p.1 q.1
says_one k us stream prices verdicts.PriceRange verdicts.PriceRange own p q = shows_one k us prices (length stream) verdicts.PriceRange verdicts.PriceRange p.1 q.1
says_one k us stream prices verdicts.PriceRange (verdicts.Gap other bound) own p q = shows_one k us prices (length stream) verdicts.PriceRange (verdicts.Gap other bound) p.1 q.1
says_one k us stream prices verdicts.PriceRange (verdicts.Shortest size) own p q = shows_one k us prices (length stream) verdicts.PriceRange (verdicts.Shortest size) p.1 q.1
says_one k us stream prices (verdicts.Gap saved most) verdicts.PriceCount own p q = shows_one k us prices (length stream) (verdicts.Gap saved most) verdicts.PriceCount p.1 q.1
says_one k us stream prices (verdicts.Gap saved most) verdicts.PriceRange own p q = shows_one k us prices (length stream) (verdicts.Gap saved most) verdicts.PriceRange p.1 q.1
says_one k us stream prices (verdicts.Gap saved most) (verdicts.Gap other bound) own p q = shows_one k us prices (length stream) (verdicts.Gap saved most) (verdicts.Gap other bound) p.1 q.1
says_one k us stream prices (verdicts.Gap saved most) (verdicts.Shortest size) own p q = shows_one k us prices (length stream) (verdicts.Gap saved most) (verdicts.Shortest size) p.1 q.1
says_one k us stream prices (verdicts.Shortest bytes) verdicts.PriceCount own p q = shows_one k us prices (length stream) (verdicts.Shortest bytes) verdicts.PriceCount p.1 q.1
says_one k us stream prices (verdicts.Shortest bytes) verdicts.PriceRange own p q = shows_one k us prices (length stream) (verdicts.Shortest bytes) verdicts.PriceRange p.1 q.1
says_one k us stream prices (verdicts.Shortest bytes) (verdicts.Gap other bound) own p q = shows_one k us prices (length stream) (verdicts.Shortest bytes) (verdicts.Gap other bound) p.1 q.1
says_one k us stream prices (verdicts.Shortest bytes) (verdicts.Shortest size) own p q = shows_one k us prices (length stream) (verdicts.Shortest bytes) (verdicts.Shortest size) p.1 q.1

-- a stream with a verdict is legal, or the verdict says that it isn't
legal_or_not : (k : KnownState) (us : List Update) (stream prices : List ℕ) (verdict : Verdict) → Says k us stream prices verdict → IsNotLegal verdict ⊎ ((carried : List Update) × Carries k stream carried)
legal_or_not k us stream prices (verdicts.NotLegal illegal place) says = inl (illegal, place, refl)
legal_or_not k us stream prices (verdicts.NotCarried index) says = inr (says.0, says.1)
legal_or_not k us stream prices verdicts.PriceCount says = inr (us, says.0)
legal_or_not k us stream prices verdicts.PriceRange says = inr (us, says.0)
legal_or_not k us stream prices (verdicts.Gap saved most) says = inr (us, says.0)
legal_or_not k us stream prices (verdicts.Shortest bytes) says = inr (us, says.0)

-- the verdict says that a stream isn't legal if and only if it isn't
pub not_legal : (k : KnownState) (us : List Update) (stream prices : List ℕ) (verdict : Verdict) → AreOwn k.roster k.state.received.tables → Says k us stream prices verdict → IsNotLegal verdict ↔ ((carried : List Update) → Carries k stream carried → ⊥)
not_legal k us stream prices verdict own says = (there, back (legal_or_not k us stream prices verdict says))
  where
    there : IsNotLegal verdict → (carried : List Update) → Carries k stream carried → ⊥
    there (illegal, place, is) carried carries = stops_or_carries k stream carried illegal place own (subst (λ (v : Verdict). Says k us stream prices v) is says) carries

    back : IsNotLegal verdict ⊎ ((carried : List Update) × Carries k stream carried) → ((carried : List Update) → Carries k stream carried → ⊥) → IsNotLegal verdict
    back (inl is) none = is
    back (inr (carried, carries)) none = absurd (none carried carries)

-- and that it carries other updates if and only if it does
pub not_carried : (k : KnownState) (us : List Update) (stream prices : List ℕ) (verdict : Verdict) → AreOwn k.roster k.state.received.tables → Says k us stream prices verdict → IsNotCarried verdict ↔ ((carried : List Update) × Carries k stream carried × (carried ≢ us))
not_carried k us stream prices verdict own says = (there, λ other. back verdict says other)
  where
    there : IsNotCarried verdict → (carried : List Update) × Carries k stream carried × (carried ≢ us)
    there (index, is) =
        let apart = subst (λ (v : Verdict). Says k us stream prices v) is says in
        (apart.0, apart.1, apart_is_other index apart.0 us apart.2)

    back : (v : Verdict) → Says k us stream prices v → (carried : List Update) × Carries k stream carried × (carried ≢ us) → IsNotCarried v
    back (verdicts.NotLegal illegal place) says (carried, carries, other) = absurd (stops_or_carries k stream carried illegal place own says carries)
    back (verdicts.NotCarried index) says (carried, carries, other) = (index, refl)
    back verdicts.PriceCount says (carried, carries, other) = absurd (other (carries_one k stream carried us carries says.0))
    back verdicts.PriceRange says (carried, carries, other) = absurd (other (carries_one k stream carried us carries says.0))
    back (verdicts.Gap saved most) says (carried, carries, other) = absurd (other (carries_one k stream carried us carries says.0))
    back (verdicts.Shortest bytes) says (carried, carries, other) = absurd (other (carries_one k stream carried us carries says.0))
