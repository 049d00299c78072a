-- The tables of a world's script: distinct ids and names stay distinct.
use Rattle.std.proofs.Common.{◌≡◌, ◌≤◌, ◌∙◌, ◌++◌, ◌==◌, Bool, true, false, ℕ, List, [], ◌∷◌, ap, arith, get_or, length, refl, set, subst, suc, sym, zero}
use Rattle.std.specs.Prelude.{◌||◌, IfSome, OnErr, OnOk, Result, Ok, Err, vec_len}
use Rattle.std.specs.List.{AllByRecursion}
use Rattle.std.proofs.lemmas.List.{length-set, map-append}
use Rattle.table_types.specs.Tables.{Definition}
use Rattle.table_types.specs.Rosters.{has_id, has_name, is_same_name, repeats_id, repeats_name}
use Rattle.node_text.specs.ScriptTables.{IsScriptTable}
use Rattle.node_text.specs.Worlds.{IsAnswerableLine, IsWorldScriptSoFar, are_alike, definitions, has_like, session_count}
use Rattle.node_text.specs.declared.script_tables.ScriptTable.{ScriptTable}
use Rattle.node_text.specs.declared.worlds.WorldScript.{WorldScript}

neither : (a b : Bool) → (a || b) ≡ false → (a ≡ false) × (b ≡ false)
neither true b is = absurd (cc)
neither false b is = (refl, is)

both : (a b : Bool) → a ≡ false → b ≡ false → (a || b) ≡ false
both a b first second = rw first second

-- the last of some tables
id_pushed : (id : ℕ) (ds : List Definition) (d : Definition) → has_id id ds ≡ false → (d.id == id) ≡ false → has_id id (ds ++ d ∷ []) ≡ false
id_pushed id [] d none other = both _ _ other refl
id_pushed id (e ∷ ds) d none other =
    let parts = neither (e.id == id) (has_id id ds) none in
    both (e.id == id) (has_id id (ds ++ d ∷ [])) parts.0 (id_pushed id ds d parts.1 other)

name_pushed : (name : List ℕ) (ds : List Definition) (d : Definition) → has_name name ds ≡ false → is_same_name d.name name ≡ false
    → has_name name (ds ++ d ∷ []) ≡ false
name_pushed name [] d none other = both _ _ other refl
name_pushed name (e ∷ ds) d none other =
    let parts = neither (is_same_name e.name name) (has_name name ds) none in
    both (is_same_name e.name name) (has_name name (ds ++ d ∷ [])) parts.0 (name_pushed name ds d parts.1 other)

-- a table that is like none of them
pub ids_pushed : (ds : List Definition) (d : Definition) → has_like d ds ≡ false → repeats_id ds ≡ false → repeats_id (ds ++ d ∷ []) ≡ false
ids_pushed [] d unlike apart = refl
ids_pushed (e ∷ ds) d unlike apart =
    let others = neither (are_alike d e) (has_like d ds) unlike in
    let other = neither (d.id == e.id) (is_same_name d.name e.name) others.0 in
    let parts = neither (has_id e.id ds) (repeats_id ds) apart in
    both (has_id e.id (ds ++ d ∷ [])) (repeats_id (ds ++ d ∷ [])) (id_pushed e.id ds d parts.0 other.0) (ids_pushed ds d others.1 parts.1)

pub names_pushed : (ds : List Definition) (d : Definition) → has_like d ds ≡ false → repeats_name ds ≡ false → repeats_name (ds ++ d ∷ []) ≡ false
names_pushed [] d unlike apart = refl
names_pushed (e ∷ ds) d unlike apart =
    let others = neither (are_alike d e) (has_like d ds) unlike in
    let other = neither (d.id == e.id) (is_same_name d.name e.name) others.0 in
    let parts = neither (has_name e.name ds) (repeats_name ds) apart in
    both (has_name e.name (ds ++ d ∷ [])) (repeats_name (ds ++ d ∷ [])) (name_pushed e.name ds d parts.0 other.1) (names_pushed ds d others.1 parts.1)

pub definitions_pushed : (ts : List ScriptTable) (t : ScriptTable) → definitions (ts ++ t ∷ []) ≡ definitions ts ++ t.definition ∷ []
definitions_pushed ts t = map-append (λ (u : ScriptTable). u.definition) ts (t ∷ [])

-- a table whose settings change
pub definitions_set : (ts : List ScriptTable) (i : ℕ) (old t : ScriptTable) → old ≡ get_or ts i old → t.definition ≡ old.definition
    → definitions (set ts i t) ≡ definitions ts
definitions_set [] i old t is same = refl
definitions_set (u ∷ ts) zero old t is same = ap (λ d. d ∷ definitions ts) (same ∙ ap (λ (x : ScriptTable). x.definition) is)
definitions_set (u ∷ ts) (suc i) old t is same = ap (λ ds. u.definition ∷ ds) (definitions_set ts i old t is same)

pub all_set : (ts : List ScriptTable) (i : ℕ) (old t : ScriptTable) → AllByRecursion IsScriptTable ts → old ≡ get_or ts i old
    → (IsScriptTable old → IsScriptTable t) → AllByRecursion IsScriptTable (set ts i t)
all_set [] i old t all is keeps = tt
all_set (u ∷ ts) zero old t (first, all) is keeps = (keeps (subst IsScriptTable (sym is) first), all)
all_set (u ∷ ts) (suc i) old t (first, all) is keeps = (first, all_set ts i old t all is keeps)

-- a list without elements
pub no_lines : {A : Type 0} (P : A → Type 0) (xs : List A) → xs ≡ [] → AllByRecursion P xs
no_lines P xs none = subst (AllByRecursion P) (sym none) tt

-- there are no lines
empty_items : {A : Type 0} (xs : List A) (n : ℕ) → length xs ≡ n → (n == 0) ≡ true → xs ≡ []
empty_items [] n len none = refl
empty_items (x ∷ xs) n len none = absurd (grind arith)

pub none_are : (s : WorldScript) (empty : Bool) → empty ≡ (vec_len s.lines == 0) → empty ≡ true → s.lines.items ≡ []
none_are s empty is none = empty_items s.lines.items (vec_len s.lines) (omega (arith, s.lines.ok.0)) (sym is ∙ none)

-- one more line
pub line_pushed : {A : Type 0} (P : A → Type 0) (xs : List A) (x : A) → AllByRecursion P xs → P x → AllByRecursion P (xs ++ x ∷ [])
line_pushed P [] x all is = (is, tt)
line_pushed P (y ∷ xs) x (first, all) is = (first, line_pushed P xs x all is)

-- one more table
pub table_pushed : (s e : WorldScript) (t : ScriptTable) → e.tables.items ≡ s.tables.items ++ t ∷ [] → e.versions ≡ s.versions
    → length e.tables.items ≤ 64 → e.lines.items ≡ [] → IsScriptTable t → has_like t.definition (definitions s.tables.items) ≡ false
    → IsWorldScriptSoFar s → IsWorldScriptSoFar e
table_pushed s e t pushed versions most none is unlike sound =
    let ds = definitions s.tables.items in
    let all : definitions e.tables.items ≡ ds ++ t.definition ∷ [] = ap definitions pushed ∙ definitions_pushed s.tables.items t in
    record {
      most = most;
      ids = subst (λ x. repeats_id x ≡ false) (sym all) (ids_pushed ds t.definition unlike sound.ids);
      names = subst (λ x. repeats_name x ≡ false) (sym all) (names_pushed ds t.definition unlike sound.names);
      tables = subst (AllByRecursion IsScriptTable) (sym pushed) (line_pushed IsScriptTable s.tables.items t sound.tables is);
      versions = subst (λ n. IfSome n (λ vs. (1 ≤ length vs.items) × (length vs.items ≤ 16))) (sym versions) sound.versions;
      lines = no_lines (IsAnswerableLine (session_count e) (definitions e.tables.items)) e.lines.items none;
    }

-- other settings of a table
pub table_set : (s e : WorldScript) (i : ℕ) (old t : ScriptTable) → e.tables.items ≡ set s.tables.items i t → e.versions ≡ s.versions
    → old ≡ get_or s.tables.items i old → t.definition ≡ old.definition → (IsScriptTable old → IsScriptTable t)
    → e.lines.items ≡ [] → IsWorldScriptSoFar s → IsWorldScriptSoFar e
table_set s e i old t changed versions is same keeps none sound =
    let all : definitions e.tables.items ≡ definitions s.tables.items
    = ap definitions changed ∙ definitions_set s.tables.items i old t is same in
    let most : length e.tables.items ≡ length s.tables.items = ap length changed ∙ length-set s.tables.items i t in
    record {
      most = subst (λ n. n ≤ 64) (sym most) sound.most;
      ids = subst (λ x. repeats_id x ≡ false) (sym all) sound.ids;
      names = subst (λ x. repeats_name x ≡ false) (sym all) sound.names;
      tables = subst (AllByRecursion IsScriptTable) (sym changed) (all_set s.tables.items i old t sound.tables is keeps);
      versions = subst (λ n. IfSome n (λ vs. (1 ≤ length vs.items) × (length vs.items ≤ 16))) (sym versions) sound.versions;
      lines = no_lines (IsAnswerableLine (session_count e) (definitions e.tables.items)) e.lines.items none;
    }

-- one more table, unless it is refused
pub table_read : {E : Type 0} (s e : WorldScript) (t : ScriptTable) (r : Result (Unit {0}) E) → e.versions ≡ s.versions
    → OnOk r ((e.tables.items ≡ s.tables.items ++ t ∷ []) × (vec_len e.tables ≤ 64)) → OnErr r (e.tables.items ≡ s.tables.items)
    → IsScriptTable t → has_like t.definition (definitions s.tables.items) ≡ false → e.lines.items ≡ [] → IsWorldScriptSoFar s
    → IsWorldScriptSoFar e
table_read s e t (Ok done) versions (pushed, most) stays is unlike none sound =
    table_pushed s e t pushed versions (omega (arith, most, e.tables.ok.0)) none is unlike sound
table_read s e t (Err error) versions pushed stays is unlike none sound = record {
  most = subst (λ ts. length ts ≤ 64) (sym stays) sound.most;
  ids = subst (λ ts. repeats_id (definitions ts) ≡ false) (sym stays) sound.ids;
  names = subst (λ ts. repeats_name (definitions ts) ≡ false) (sym stays) sound.names;
  tables = subst (AllByRecursion IsScriptTable) (sym stays) sound.tables;
  versions = subst (λ n. IfSome n (λ vs. (1 ≤ length vs.items) × (length vs.items ≤ 16))) (sym versions) sound.versions;
  lines = no_lines (IsAnswerableLine (session_count e) (definitions e.tables.items)) e.lines.items none;
}
