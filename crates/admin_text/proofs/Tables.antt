-- The tables of a configuration: distinct ids and names stay distinct.
use Rattle.std.proofs.Common.{◌≡◌, ◌≤◌, ◌∙◌, ◌++◌, ◌==◌, Bool, true, false, inl, inr, ℕ, List, [], ◌∷◌, ap, length, refl, subst, suc, sym}
use Rattle.std.specs.Prelude.{◌||◌, ◌⊎◌, Some, if◌then◌else◌}
use Rattle.std.specs.List.{AllByRecursion}
use Rattle.std.proofs.lemmas.Cmp.{nat_eq_equiv, nat_list_eq_equiv}
use Rattle.std.proofs.lemmas.List.{map-append}
use Rattle.table_types.specs.Rosters.{has_id, has_name, is_same_name, repeats_id, repeats_name}
use Rattle.table_types.specs.Tables.{Definition}
use Rattle.node_text.specs.Worlds.{are_alike, has_like}
use Rattle.node_text.proofs.WorldTables.{ids_pushed, line_pushed, names_pushed}
use Rattle.admin_text.specs.TableSettings.{AreTables, IsTableSetting, definitions, kept_in, with_rows}
use Rattle.admin_text.specs.declared.table_settings.TableSetting.{TableSetting}

neither : (a b : Bool) → (a || b) ≡ false → (a ≡ false) × (b ≡ false)
neither true b is = absurd (cc)
neither false b is = (refl, is)

both : (a b : Bool) → a ≡ false → b ≡ false → (a || b) ≡ false
both a b first second = rw first second

-- ---- one more table

unlike : (d : Definition) (ds : List Definition) → has_id d.id ds ≡ false → has_name d.name ds ≡ false → has_like d ds ≡ false
unlike d [] ids names = refl
unlike d (e ∷ ds) ids names =
    let id = neither (e.id == d.id) (has_id d.id ds) ids in
    let name = neither (is_same_name e.name d.name) (has_name d.name ds) names in
    both (are_alike d e) (has_like d ds)
    (both (d.id == e.id) (is_same_name d.name e.name) (nat_eq_equiv.symm d.id e.id ∙ id.0) (nat_list_eq_equiv.symm d.name e.name ∙ name.0))
    (unlike d ds id.1 name.1)

pub all_definitions : (ts : List TableSetting) (t : TableSetting) → definitions (ts ++ t ∷ []) ≡ definitions ts ++ t.definition ∷ []
all_definitions ts t = map-append (λ (u : TableSetting). u.definition) ts (t ∷ [])

pub table_pushed : (ts : List TableSetting) (t : TableSetting) → AreTables ts → IsTableSetting t → has_id t.definition.id (definitions ts) ≡ false
    → has_name t.definition.name (definitions ts) ≡ false → length (ts ++ t ∷ []) ≤ 64 → AreTables (ts ++ t ∷ [])
table_pushed ts t are is id name most =
    let none = unlike t.definition (definitions ts) id name in
    record {
      most = most;
      ids = subst (λ ds. repeats_id ds ≡ false) (sym (all_definitions ts t)) (ids_pushed (definitions ts) t.definition none are.ids);
      names = subst (λ ds. repeats_name ds ≡ false) (sym (all_definitions ts t)) (names_pushed (definitions ts) t.definition none are.names);
      each = line_pushed IsTableSetting ts t are.each is;
    }

only : (a : Bool) → (a || false) ≡ true → (a ≡ true) ⊎ (false ≡ true)
only true is = inl refl
only false is = absurd (cc)

next : (a b c d : Bool) → (c ≡ true → (d ≡ true) ⊎ (b ≡ true)) → (a || c) ≡ true → (d ≡ true) ⊎ ((a || b) ≡ true)
next true b c d more is = inr refl
next false b c d more is = more is

-- which id a table has, with one more table
pub id_of_last : (id : ℕ) (ds : List Definition) (d : Definition) → has_id id (ds ++ d ∷ []) ≡ true → ((d.id == id) ≡ true) ⊎ (has_id id ds ≡ true)
id_of_last id [] d has = only (d.id == id) has
id_of_last id (e ∷ ds) d has = next (e.id == id) (has_id id ds) (has_id id (ds ++ d ∷ [])) (d.id == id) (id_of_last id ds d) has

pub name_of_last : (name : List ℕ) (ds : List Definition) (d : Definition) → has_name name (ds ++ d ∷ []) ≡ true
    → (is_same_name d.name name ≡ true) ⊎ (has_name name ds ≡ true)
name_of_last name [] d has = only (is_same_name d.name name) has
name_of_last name (e ∷ ds) d has =
    next (is_same_name e.name name) (has_name name ds) (has_name name (ds ++ d ∷ [])) (is_same_name d.name name) (name_of_last name ds d) has

-- ---- other settings of a table

definition_sized : (b : Bool) (t : TableSetting) (rows : ℕ) → (if b then record t { size = Some rows } else t).definition ≡ t.definition
definition_sized true t rows = refl
definition_sized false t rows = refl

pub rows_same : (id rows : ℕ) (ts : List TableSetting) → definitions (with_rows id rows ts) ≡ definitions ts
rows_same id rows [] = refl
rows_same id rows (t ∷ ts) = rw (definition_sized (t.definition.id == id) t rows) (ap (λ ds. t.definition ∷ ds) (rows_same id rows ts))

pub long_sized : (id rows : ℕ) (ts : List TableSetting) → length (with_rows id rows ts) ≡ length ts
long_sized id rows [] = refl
long_sized id rows (t ∷ ts) = ap suc (long_sized id rows ts)

setting_sized : (b : Bool) (t : TableSetting) (rows : ℕ) → 1 ≤ rows → rows ≤ 1000000 → IsTableSetting t
    → IsTableSetting (if b then record t { size = Some rows } else t)
setting_sized true t rows least most is = record { definition = is.definition; id = is.id; name = is.name; size = (least, most) }
setting_sized false t rows least most is = is

all_sized : (id rows : ℕ) (ts : List TableSetting) → 1 ≤ rows → rows ≤ 1000000 → AllByRecursion IsTableSetting ts
    → AllByRecursion IsTableSetting (with_rows id rows ts)
all_sized id rows [] least most all = tt
all_sized id rows (t ∷ ts) least most (first, all) =
    (setting_sized (t.definition.id == id) t rows least most first, all_sized id rows ts least most all)

pub tables_sized : (id rows : ℕ) (ts : List TableSetting) → 1 ≤ rows → rows ≤ 1000000 → AreTables ts → AreTables (with_rows id rows ts)
tables_sized id rows ts least most are = record {
  most = subst (λ n. n ≤ 64) (sym (long_sized id rows ts)) are.most;
  ids = subst (λ ds. repeats_id ds ≡ false) (sym (rows_same id rows ts)) are.ids;
  names = subst (λ ds. repeats_name ds ≡ false) (sym (rows_same id rows ts)) are.names;
  each = all_sized id rows ts least most are.each;
}

definition_kept : (b : Bool) (t : TableSetting) → (if b then record t { nopurge = Some tt } else t).definition ≡ t.definition
definition_kept true t = refl
definition_kept false t = refl

pub kept_same : (id : ℕ) (ts : List TableSetting) → definitions (kept_in id ts) ≡ definitions ts
kept_same id [] = refl
kept_same id (t ∷ ts) = rw (definition_kept (t.definition.id == id) t) (ap (λ ds. t.definition ∷ ds) (kept_same id ts))

pub long_kept : (id : ℕ) (ts : List TableSetting) → length (kept_in id ts) ≡ length ts
long_kept id [] = refl
long_kept id (t ∷ ts) = ap suc (long_kept id ts)

setting_kept : (b : Bool) (t : TableSetting) → IsTableSetting t → IsTableSetting (if b then record t { nopurge = Some tt } else t)
setting_kept true t is = record { definition = is.definition; id = is.id; name = is.name; size = is.size }
setting_kept false t is = is

all_kept : (id : ℕ) (ts : List TableSetting) → AllByRecursion IsTableSetting ts → AllByRecursion IsTableSetting (kept_in id ts)
all_kept id [] all = tt
all_kept id (t ∷ ts) (first, all) = (setting_kept (t.definition.id == id) t first, all_kept id ts all)

pub tables_kept : (id : ℕ) (ts : List TableSetting) → AreTables ts → AreTables (kept_in id ts)
tables_kept id ts are = record {
  most = subst (λ n. n ≤ 64) (sym (long_kept id ts)) are.most;
  ids = subst (λ ds. repeats_id ds ≡ false) (sym (kept_same id ts)) are.ids;
  names = subst (λ ds. repeats_name ds ≡ false) (sym (kept_same id ts)) are.names;
  each = all_kept id ts are.each;
}
