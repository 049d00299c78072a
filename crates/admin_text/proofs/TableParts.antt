-- The parts of a table make one.
use Rattle.std.proofs.Common.{◌≡◌, ◌∙◌, ◌≤◌, ◌-◌, ◌^◌, Bool, true, false, ℕ, List, [], ap, arith, refl, subst, sym}
use Rattle.std.specs.Prelude.{Err, None, Ok, Option, Result, Some, if◌then◌else◌, not}
use Rattle.std.specs.List.{list_all}
use Rattle.std.proofs.lemmas.Bool.Decides.{nat_tests}
use Rattle.table_types.specs.Keys.{fits_length}
use Rattle.table_types.specs.Names.{is_name}
use Rattle.table_types.specs.Tables.{fault_of, has_its_period, is_id, repeats}
use Rattle.table_types.specs.declared.data_type.DataType.{DataType}
use Rattle.table_types.specs.declared.key.KeyKind.{KeyKind}
use Rattle.table_types.specs.declared.table_def.DefError.{DefError}
use Rattle.table_types.specs.declared.table_def.DefError.TheVariants as errors
use Rattle.node_text.specs.Names.{may_name}
use Rattle.node_text.specs.Numbers.{number_of}
use Rattle.admin_text.specs.NameFaults.{name_at}
use Rattle.admin_text.specs.Named.{keys_named}
use Rattle.admin_text.specs.Outcomes.{fault_in, led_on, or_fault}
use Rattle.admin_text.specs.TableLines.{entries_behind, expire_at, id_at, if_fits, keys_at, parts_at}
use Rattle.admin_text.specs.declared.faults.Fault.{Fault}
use Rattle.admin_text.specs.declared.faults.Fault.TheVariants as faults
use Rattle.admin_text.specs.declared.faults.TableFault.TheVariants as tables
use Rattle.admin_text.specs.declared.table_lines.TableParts.{TableParts}
use Rattle.admin_text.proofs.LineFacts.{and_parts, number_within, parts_read}
use Rattle.admin_text.proofs.OutcomeLaws.{fault_is, good_name, ok_same, or_fault_led}
use Rattle.admin_text.proofs.TypeLists.{good_entries}

fits_test : (kind : KeyKind) (size length : ℕ) (b : Bool) → fits_length kind size ≡ b → (if b then Some size else None) ≡ Some length
    → fits_length kind length ≡ true
fits_test kind size length true fit is = let same : size ≡ length = cc in subst (λ l. fits_length kind l ≡ true) same fit
fits_test kind size length false fit is = absurd (cc)

fits : (kind : KeyKind) (size : Option ℕ) (length : ℕ) → if_fits kind size ≡ Some length → fits_length kind length ≡ true
fits kind None length is = absurd (cc)
fits kind (Some size) length is = fits_test kind size length (fits_length kind size) refl is

no_fault : (a b c d e : Bool) (f g h i j : DefError) → a ≡ true → b ≡ true → c ≡ true → d ≡ true → e ≡ false
    → (if not a then Some f else (if not b then Some g else (if not c then Some h else (if not d then Some i else (if e then Some j else None))))) ≡ None
no_fault a b c d e f g h i j one two three four five = rw one (rw two (rw three (rw four (rw five refl))))

is_an_id : (id : ℕ) → 1 ≤ id → id ≤ 2 ^ 31 - 1 → is_id id ≡ true
is_an_id id least most = grind (arith, nat_tests, least, most)

pub parts_make_one : (id name keys size expire : List ℕ) (types : List (List ℕ)) (parts : TableParts) (entries : List (DataType × Option ℕ))
    → Ok parts ≡ parts_at id name keys size expire → Ok entries ≡ entries_behind 6 [] types
    → fault_of parts.id name parts.kind parts.key_length entries ≡ None
parts_make_one id name keys size expire types parts entries is stores =
    let facts = parts_read id name keys size expire parts is in
    let next : KeyKind → ℕ → Result (KeyKind × ℕ) Fault = λ k l. Ok (k, l) in
    let written = number_of size (2 ^ 64 - 1) in
    let second : KeyKind → Result (KeyKind × ℕ) Fault = λ k. led_on (or_fault (if_fits k written) (faults.Table (tables.Length k))) (next k) in
    let (kind, known, rest) = or_fault_led (keys_named keys) (faults.Table tables.Keys) second (parts.kind, parts.key_length) (sym facts.keyed) in
    let (length, fitting, end) = or_fault_led (if_fits kind written) (faults.Table (tables.Length kind)) (next kind) (parts.kind, parts.key_length) rest in
    let (all, apart) = good_entries 6 [] types entries refl refl stores in
    let within = number_within id (2 ^ 31 - 1) parts.id facts.number in
    let same = ok_same (parts.kind, parts.key_length) (kind, length) end in
    let fit : fits_length parts.kind parts.key_length ≡ true
    = subst (λ (k : KeyKind × ℕ). fits_length k.0 k.1 ≡ true) (sym same) (fits kind written length fitting) in
    no_fault (is_id parts.id) (is_name name) (fits_length parts.kind parts.key_length) (list_all has_its_period entries) (repeats entries)
    errors.Id errors.Name errors.KeyLength errors.Period errors.RepeatedType (is_an_id parts.id within.0 within.1)
    (and_parts (is_name name) (may_name name) facts.label).0 fit all apart

-- ---- part by part

led_is : {A B : Type 0} (r : Result A Fault) (next : A → Result B Fault) (v : A) → Ok v ≡ r → next v ≡ led_on r next
led_is r next v is = ap (λ o. led_on o next) is

led_err : {A B : Type 0} (r : Result A Fault) (next : A → Result B Fault) (fault : Fault) → Err fault ≡ r → ◌≡◌ {A = Result B Fault} (Err fault) (led_on r next)
led_err r next fault is = ap (λ o. led_on o next) is

abbrev pub made : ℕ → KeyKind × ℕ → ℕ → TableParts
made n k e = record { id = n; kind = k.0; key_length = k.1; expire = e }

abbrev third : List ℕ → ℕ → KeyKind × ℕ → Result TableParts Fault
third expire n k = led_on (expire_at expire) (λ e. Ok (made n k e))

abbrev second : List ℕ → List ℕ → List ℕ → ℕ → Result TableParts Fault
second keys size expire n = led_on (keys_at keys size) (third expire n)

abbrev first : List ℕ → List ℕ → List ℕ → List ℕ → ℕ → Result TableParts Fault
first name keys size expire n = led_on (name_at 2 name) (λ l. second keys size expire n)

pub name_wrong : (id name keys size expire : List ℕ) (n : ℕ) (fault : Fault) → Ok n ≡ id_at id → Some fault ≡ fault_in (name_at 2 name)
    → Err fault ≡ parts_at id name keys size expire
name_wrong id name keys size expire n fault number wrong =
    led_err (name_at 2 name) (λ l. second keys size expire n) fault (fault_is (name_at 2 name) fault wrong)
    ∙ led_is (id_at id) (first name keys size expire) n number

pub expire_wrong : (id name keys size expire : List ℕ) (n : ℕ) (k : KeyKind × ℕ) (fault : Fault) → Ok n ≡ id_at id
    → None ≡ fault_in (name_at 2 name) → Ok k ≡ keys_at keys size → Err fault ≡ expire_at expire → Err fault ≡ parts_at id name keys size expire
expire_wrong id name keys size expire n k fault number named keyed wrong =
    let (label, labelled) = good_name (name_at 2 name) named in
    led_err (expire_at expire) (λ e. Ok (made n k e)) fault wrong
    ∙ (led_is (keys_at keys size) (third expire n) k keyed
    ∙ (led_is (name_at 2 name) (λ l. second keys size expire n) label labelled ∙ led_is (id_at id) (first name keys size expire) n number))

pub parts_good : (id name keys size expire : List ℕ) (n : ℕ) (k : KeyKind × ℕ) (e : ℕ) → Ok n ≡ id_at id → None ≡ fault_in (name_at 2 name)
    → Ok k ≡ keys_at keys size → Ok e ≡ expire_at expire → Ok (made n k e) ≡ parts_at id name keys size expire
parts_good id name keys size expire n k e number named keyed expires =
    let (label, labelled) = good_name (name_at 2 name) named in
    led_is (expire_at expire) (λ x. Ok (made n k x)) e expires
    ∙ (led_is (keys_at keys size) (third expire n) k keyed
    ∙ (led_is (name_at 2 name) (λ l. second keys size expire n) label labelled ∙ led_is (id_at id) (first name keys size expire) n number))
