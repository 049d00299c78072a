-- A stand-in is a definition.
use Rattle.std.proofs.Common.{◌≡◌, ℕ, true, false, List, Option, None, refl, inl, inr}
use Rattle.std.specs.List.{list_all}
use Rattle.std.proofs.lemmas.Bool.{cases_Bool}
use Rattle.table_types.specs.declared.data_type.DataType.{DataType}
use Rattle.table_types.specs.declared.key.KeyKind.TheVariants as kinds
use Rattle.table_types.specs.Names.{is_name}
use Rattle.table_types.specs.Keys.{fits_length}
use Rattle.table_types.specs.Tables.{Definition, is_id, has_its_period, repeats, fault_of, in_rising_id}
use Rattle.tolerant_intake.specs.Loose.{has_name_type}
use Rattle.tolerant_intake.specs.StandIns.{has_short_keys, other_length, name_type_of}

pub in_order : (types : List (DataType × Option ℕ)) → in_rising_id (name_type_of types) ≡ name_type_of types
in_order types = elim (cases_Bool (has_name_type types)) [ inl named ↦ rw named refl | inr none ↦ rw none refl ]

length_fits : (roster : List Definition) (name : List ℕ) → fits_length kinds.String (other_length roster name) ≡ true
length_fits roster name = elim (cases_Bool (has_short_keys roster name)) [ inl short ↦ rw short refl | inr other ↦ rw other refl ]

types_have_periods : (types : List (DataType × Option ℕ)) → list_all has_its_period (name_type_of types) ≡ true
types_have_periods types = elim (cases_Bool (has_name_type types)) [ inl named ↦ rw named refl | inr none ↦ rw none refl ]

none_repeats : (types : List (DataType × Option ℕ)) → repeats (name_type_of types) ≡ false
none_repeats types = elim (cases_Bool (has_name_type types)) [ inl named ↦ rw named refl | inr none ↦ rw none refl ]

pub no_fault : (roster : List Definition) (id : ℕ) (name : List ℕ) (types : List (DataType × Option ℕ)) → is_id id ≡ true → is_name name ≡ true
    → fault_of id name kinds.String (other_length roster name) (name_type_of types) ≡ None
no_fault roster id name types good named = rw (good, named, length_fits roster name, types_have_periods types, none_repeats types) refl
