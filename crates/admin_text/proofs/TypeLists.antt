-- The data types of a table: each has its period, and none comes twice.
use Rattle.std.proofs.Common.{◌≡◌, ◌∙◌, ◌+◌, ◌≤◌, ◌-◌, ◌^◌, ◌++◌, ◌&&◌, Bool, true, false, ℕ, List, [], ◌∷◌, ap, arith, refl, subst, sym}
use Rattle.std.specs.Prelude.{◌||◌, Err, None, Ok, Option, Some, if◌then◌else◌, nat_le, nat_lt}
use Rattle.std.specs.List.{list_all}
use Rattle.std.proofs.lemmas.Bool.Decides.{nat_tests}
use Rattle.std.proofs.lemmas.Cmp.{nat_eq_equiv}
use Rattle.std.proofs.lemmas.List.Folds.{list_all-append}
use Rattle.table_types.specs.DataTypes.{id_of, is_rate, is_same_type}
use Rattle.table_types.specs.Tables.{has_its_period, repeats, stores}
use Rattle.table_types.specs.declared.data_type.DataType.{DataType}
use Rattle.admin_text.specs.Named.{type_named}
use Rattle.admin_text.specs.Outcomes.{led_on, or_fault}
use Rattle.admin_text.specs.TableLines.{entries_behind, entry_at, named_entry, name_part, period_of, period_part, stored, with_period}
use Rattle.admin_text.specs.declared.faults.Fault.{Fault}
use Rattle.admin_text.specs.declared.faults.TypeFault.TheVariants as types
use Rattle.admin_text.proofs.LineFacts.{number_within}
use Rattle.admin_text.proofs.OutcomeLaws.{led_ok, ok_same, or_fault_led}

neither : (a b : Bool) → (a || b) ≡ false → (a ≡ false) × (b ≡ false)
neither true b is = absurd (cc)
neither false b is = (refl, is)

both : (a b : Bool) → a ≡ false → b ≡ false → (a || b) ≡ false
both a b first second = rw first second

-- ---- one more

stores_pushed : (type : DataType) (ts : List (DataType × Option ℕ)) (t : DataType × Option ℕ) → stores type ts ≡ false → is_same_type type t.0 ≡ false
    → stores type (ts ++ t ∷ []) ≡ false
stores_pushed type [] t none other = both _ _ other refl
stores_pushed type (e ∷ ts) t none other =
    let parts = neither (is_same_type type e.0) (stores type ts) none in
    both (is_same_type type e.0) (stores type (ts ++ t ∷ [])) parts.0 (stores_pushed type ts t parts.1 other)

repeats_pushed : (ts : List (DataType × Option ℕ)) (t : DataType × Option ℕ) → repeats ts ≡ false → stores t.0 ts ≡ false
    → repeats (ts ++ t ∷ []) ≡ false
repeats_pushed [] t none new = refl
repeats_pushed (e ∷ ts) t none new =
    let others = neither (stores e.0 ts) (repeats ts) none in
    let news = neither (is_same_type t.0 e.0) (stores t.0 ts) new in
    both (stores e.0 (ts ++ t ∷ [])) (repeats (ts ++ t ∷ []))
    (stores_pushed e.0 ts t others.0 (nat_eq_equiv.symm (id_of e.0) (id_of t.0) ∙ news.0)) (repeats_pushed ts t others.1 news.1)

periods_pushed : (ts : List (DataType × Option ℕ)) (t : DataType × Option ℕ) → list_all has_its_period ts ≡ true → has_its_period t ≡ true
    → list_all has_its_period (ts ++ t ∷ []) ≡ true
periods_pushed ts t all is = list_all-append has_its_period ts (t ∷ []) ∙ ap (λ b. b && (has_its_period t && true)) all ∙ ap (λ b. b && true) is

-- ---- what a word gives

no_period : (type : DataType) (entry : DataType × Option ℕ) (fault : Fault) (b : Bool) → is_rate type ≡ b
    → (if b then Err fault else Ok (type, None)) ≡ Ok entry → (entry.0 ≡ type) × (has_its_period entry ≡ true)
no_period type entry fault true rate is = absurd (cc)
no_period type entry fault false rate is =
    subst (λ (e : DataType × Option ℕ). (e.0 ≡ type) × (has_its_period e ≡ true)) (ok_same (type, None) entry is) (refl, rw rate refl)

is_period : (period : ℕ) → 1 ≤ period → period ≤ 2 ^ 32 - 1 → (nat_le 1 period && nat_lt period (2 ^ 32)) ≡ true
is_period period least most = grind (arith, nat_tests, least, most)

some_period : (type : DataType) (word : List ℕ) (entry : DataType × Option ℕ) (one other : Fault) (b : Bool) → is_rate type ≡ b
    → (if b then led_on (or_fault (period_of word) one) (λ period. Ok (type, Some period)) else Err other) ≡ Ok entry
    → (entry.0 ≡ type) × (has_its_period entry ≡ true)
some_period type word entry one other true rate is =
    let (period, read, end) = or_fault_led (period_of word) one (λ p. Ok (type, Some p)) entry (sym is) in
    let within = number_within word (2 ^ 32 - 1) period read in
    subst (λ (e : DataType × Option ℕ). (e.0 ≡ type) × (has_its_period e ≡ true)) (sym (ok_same entry (type, Some period) end))
    (refl, rw rate (is_period period within.0 within.1))
some_period type word entry one other false rate is = absurd (cc)

with_its_period : (place : ℕ) (type : DataType) (period : Option (List ℕ)) (entry : DataType × Option ℕ) → with_period place type period ≡ Ok entry
    → (entry.0 ≡ type) × (has_its_period entry ≡ true)
with_its_period place type None entry is = no_period type entry (stored place types.NoPeriod) (is_rate type) refl is
with_its_period place type (Some word) entry is =
    some_period type word entry (stored place types.NoPeriod) (stored place types.Period) (is_rate type) refl is

named_new : (place : ℕ) (earlier : List (DataType × Option ℕ)) (type : DataType) (period : Option (List ℕ)) (entry : DataType × Option ℕ) (fault : Fault) (b : Bool)
    → stores type earlier ≡ b → (if b then Err fault else with_period place type period) ≡ Ok entry
    → (stores entry.0 earlier ≡ false) × (has_its_period entry ≡ true)
named_new place earlier type period entry fault true has is = absurd (cc)
named_new place earlier type period entry fault false has is =
    let (same, its) = with_its_period place type period entry is in
    (subst (λ t. stores t earlier ≡ false) (sym same) has, its)

new_entry : (place : ℕ) (earlier : List (DataType × Option ℕ)) (word : List ℕ) (entry : DataType × Option ℕ) → entry_at place earlier word ≡ Ok entry
    → (stores entry.0 earlier ≡ false) × (has_its_period entry ≡ true)
new_entry place earlier word entry is =
    let (type, named, rest) = or_fault_led (type_named (name_part word)) (stored place types.Unknown)
    (λ t. named_entry place earlier t (period_part word)) entry (sym is) in
    named_new place earlier type (period_part word) entry (stored place types.Repeated) (stores type earlier) refl (sym rest)

-- what words give may be the data types of a table
pub good_entries : (place : ℕ) (earlier : List (DataType × Option ℕ)) (words : List (List ℕ)) (entries : List (DataType × Option ℕ))
    → list_all has_its_period earlier ≡ true → repeats earlier ≡ false → Ok entries ≡ entries_behind place earlier words
    → (list_all has_its_period entries ≡ true) × (repeats entries ≡ false)
good_entries place earlier [] entries all apart is =
    subst (λ es. (list_all has_its_period es ≡ true) × (repeats es ≡ false)) (sym (ok_same entries earlier is)) (all, apart)
good_entries place earlier (word ∷ words) entries all apart is =
    let (entry, read, rest) = led_ok (entry_at place earlier word) (λ e. entries_behind (place + 1) (earlier ++ e ∷ []) words) entries is in
    let (new, its) = new_entry place earlier word entry read in
    good_entries (place + 1) (earlier ++ entry ∷ []) words entries (periods_pushed earlier entry all its) (repeats_pushed earlier entry apart new) rest
