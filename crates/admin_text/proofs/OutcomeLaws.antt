-- What was read leads on, step by step.
use Rattle.std.proofs.Common.{◌≡◌, Bool, true, false, ℕ, List, ap, refl}
use Rattle.std.specs.Prelude.{Err, None, Ok, Option, Result, Some, if◌then◌else◌}
use Rattle.std.specs.Option.{option_or}
use Rattle.std.specs.Result.{IsErrAnd}
use Rattle.admin_text.specs.NameFaults.{is_label, name_at, name_fault}
use Rattle.admin_text.specs.Outcomes.{fault_in, led_on, or_fault, unless}
use Rattle.admin_text.specs.declared.faults.Fault.{Fault}
use Rattle.admin_text.specs.declared.faults.Fault.TheVariants as faults

-- ---- on the way

pub fault_is : {A : Type 0} (r : Result A Fault) (fault : Fault) → Some fault ≡ fault_in r → Err fault ≡ r
fault_is (Ok v) fault is = absurd (cc)
fault_is (Err other) fault is = cc

-- ---- from the end

pub led_ok : {A B : Type 0} (r : Result A Fault) (next : A → Result B Fault) (x : B) → Ok x ≡ led_on r next
    → (v : A) × (r ≡ Ok v) × (Ok x ≡ next v)
led_ok (Ok v) next x is = (v, refl, is)
led_ok (Err fault) next x is = absurd (cc)

pub unless_ok : {A : Type 0} (f : Option Fault) (r : Result A Fault) (x : A) → Ok x ≡ unless f r → (f ≡ None) × (Ok x ≡ r)
unless_ok None r x is = (refl, is)
unless_ok (Some fault) r x is = absurd (cc)

pub neither_fault : (a b : Option Fault) → option_or a b ≡ None → (a ≡ None) × (b ≡ None)
neither_fault None b is = (refl, is)
neither_fault (Some fault) b is = absurd (cc)

pub ok_same : {A : Type 0} (x y : A) → ◌≡◌ {A = Result A Fault} (Ok x) (Ok y) → x ≡ y
ok_same x y is = cc

name_led : {B : Type 0} (b : Bool) (word : List ℕ) (fault : Fault) (next : List ℕ → Result B Fault) (x : B)
    → Ok x ≡ led_on (if b then Ok word else Err fault) next → (b ≡ true) × (Ok x ≡ next word)
name_led true word fault next x is = (refl, is)
name_led false word fault next x is = absurd (cc)

pub name_read : {B : Type 0} (place : ℕ) (word : List ℕ) (next : List ℕ → Result B Fault) (x : B) → Ok x ≡ led_on (name_at place word) next
    → (is_label word ≡ true) × (Ok x ≡ next word)
name_read place word next x is = name_led (is_label word) word (faults.Name place (name_fault word)) next x is

pub or_fault_led : {A B : Type 0} (o : Option A) (fault : Fault) (next : A → Result B Fault) (x : B) → Ok x ≡ led_on (or_fault o fault) next
    → (v : A) × (o ≡ Some v) × (Ok x ≡ next v)
or_fault_led None fault next x is = absurd (cc)
or_fault_led (Some v) fault next x is = (v, refl, is)

named_wrong : {B : Type 0} (b : Bool) (word name : List ℕ) (other fault : Fault) (wrong : List ℕ → Option Fault) (next : List ℕ → Result B Fault)
    → Ok name ≡ (if b then Ok word else Err other) → Some fault ≡ wrong word
    → Err fault ≡ led_on (if b then Ok word else Err other) (λ n. unless (wrong n) (next n))
named_wrong true word name other fault wrong next read is = ap (λ f. unless f (next word)) is
named_wrong false word name other fault wrong next read is = absurd (cc)

-- a name is read, and something else is wrong
pub named_fault : {B : Type 0} (place : ℕ) (word name : List ℕ) (fault : Fault) (wrong : List ℕ → Option Fault) (next : List ℕ → Result B Fault)
    → Ok name ≡ name_at place word → Some fault ≡ wrong word → Err fault ≡ led_on (name_at place word) (λ n. unless (wrong n) (next n))
named_fault place word name fault wrong next read is =
    named_wrong (is_label word) word name (faults.Name place (name_fault word)) fault wrong next read is

pub good_name : {A : Type 0} (r : Result A Fault) → None ≡ fault_in r → (v : A) × (Ok v ≡ r)
good_name (Ok v) is = (v, refl)
good_name (Err fault) is = absurd (cc)

pub err_same : {A E : Type 0} (r : Result A E) (e : E) → IsErrAnd r (λ x. x ≡ e) → r ≡ Err e
err_same (Ok x) e is = absurd is
err_same (Err x) e is = ap Err is
