-- What a copy takes from a sound table is a batch of that table.
use Rattle.std.proofs.Common.{◌≡◌, ℕ, zero, suc, ◌+◌, ◌-◌, ◌*◌, ◌^◌, ◌<◌, ◌≤◌, true, false, not, ◌&&◌, List, [], ◌∷◌, length, Option, Some, None, refl, sym, ap, subst, ◌∙◌, arith, inl, inr, true≢false}
use Rattle.std.specs.Prelude.{filter, map, take, nat_lt, nat_le, nat_eq, cond}
use Rattle.std.specs.List.{AllByRecursion, zip, list_all}
use Rattle.std.proofs.lemmas.Bool.{cases_Bool, eq-eqb, ne_eqb, cond-true, cond-false, cond_both, ltb-true, lt-ltb, leb-true, le-leb, and_parts, and_from}
use Rattle.table_types.specs.declared.key.Key.{Key}
use Rattle.table_types.specs.declared.data_type.DataType.{DataType}
use Rattle.table_types.specs.declared.data_type.Shape.{Shape}
use Rattle.table_types.specs.declared.data_type.Shape.TheVariants as shapes
use Rattle.table_types.specs.declared.row.Cell.{Cell}
use Rattle.table_types.specs.declared.row.Cell.TheVariants as cells
use Rattle.table_types.specs.declared.update.Value.{Value}
use Rattle.table_types.specs.declared.version.Version.{Version}
use Rattle.table_types.specs.declared.version.Version.TheVariants as versions
use Rattle.table_types.specs.Keys.{key_fits, fits_length}
use Rattle.table_types.specs.Names.{is_name}
use Rattle.table_types.specs.DataTypes.{shape_of, is_rate, is_rate_shape}
use Rattle.table_types.specs.Tables.{Definition, is_definition, is_id, is_period, is_absent, has_its_period, rise_from}
use Rattle.table_types.specs.Updates.{is_word, value_fits, values_fit, row_fits, may_be_named, life_fits, is_name_type}
use Rattle.table_types.specs.Rosters.{table_at}
use Rattle.table_types.specs.Rows.{StoredRow}
use Rattle.table_types.specs.Rotation.{rotated, turned}
use Rattle.table_types.specs.Changes.{cell_types}
use Rattle.table_types.specs.Batches.{IsUpdateFor, IsBatchFor}
use Rattle.table_rows.specs.Rows.{is_live}
use Rattle.table_types.specs.declared.copies.CopyKind.{CopyKind}
use Rattle.table_cell.specs.Copying.{value_of, life_left, life_of, update_of}
use Rattle.table_cell.specs.Machine.{TableState, bound_by, in_reach, is_unacked, is_copied, acknowledged_by, progress_of, unacked, version_by}
use Rattle.table_cell.specs.Soundness.{CellFits, CellsFit, EndFits, EntryFits, IsSound}
use Rattle.table_cell.proofs.ReachLaws.{reach_all}
use Rattle.table_cell.proofs.StepLaws.{all_take, later_sound}

-- ---- values

turned_count : (now : ℕ) (period : Option ℕ) (n : ℕ) → turned now period (cells.Count n) ≡ cells.Count n
turned_count now None n = refl
turned_count now (Some period) n = refl

rate_copied : (now period start current previous : ℕ) → 1 ≤ period → period < 2 ^ 32 → start ≤ now → current < 2 ^ 32 → previous < 2 ^ 32
    → value_fits shapes.Rate (value_of now (rotated period now (cells.Rate start current previous))) ≡ true
rate_copied now period start current previous some short begun below before =
    let nothing = lt-ltb 0 (2 ^ 32) (omega arith) in
    let now_word = lt-ltb current (2 ^ 32) below in
    let old_word = lt-ltb previous (2 ^ 32) before in
    cond_both (nat_lt (now - start) period) (cells.Rate start current previous) (cond (nat_lt (now - start) (2 * period)) (cells.Rate (start + period) 0 current) (cells.Rate now 0 0)) (λ c. value_fits shapes.Rate (value_of now c) ≡ true)
    (λ within.
    let bound = ltb-true (now - start) period within in
    let elapsed = lt-ltb (now - start) (2 ^ 32) (omega arith) in
    and_from (is_word (now - start) && is_word current) (is_word previous) (and_from (is_word (now - start)) (is_word current) elapsed now_word) old_word)
    (λ past.
    cond_both (nat_lt (now - start) (2 * period)) (cells.Rate (start + period) 0 current) (cells.Rate now 0 0) (λ c. value_fits shapes.Rate (value_of now c) ≡ true)
    (λ next.
    let bound = ltb-true (now - start) (2 * period) next in
    let elapsed = lt-ltb (now - (start + period)) (2 ^ 32) (omega arith) in
    and_from (is_word (now - (start + period)) && is_word 0) (is_word current) (and_from (is_word (now - (start + period))) (is_word 0) elapsed nothing) now_word)
    (λ _.
    let elapsed = lt-ltb (now - now) (2 ^ 32) (omega arith) in
    and_from (is_word (now - now) && is_word 0) (is_word 0) (and_from (is_word (now - now)) (is_word 0) elapsed nothing) nothing))

value_copied : (now : ℕ) (type : DataType) (period : Option ℕ) (shape : Shape) (c : Cell) → shape_of type ≡ shape → has_its_period (type, period) ≡ true → CellFits now shape c → value_fits shape (value_of now (turned now period c)) ≡ true
value_copied now type period shapes.Count (cells.Count n) is has fits = ap (λ c. value_fits shapes.Count (value_of now c)) (turned_count now period n) ∙ lt-ltb n (2 ^ 32) fits
value_copied now type period shapes.LongCount (cells.Count n) is has fits = ap (λ c. value_fits shapes.LongCount (value_of now c)) (turned_count now period n) ∙ lt-ltb n (2 ^ 64) fits
value_copied now type None shapes.Rate (cells.Rate start current previous) is has fits =
    let rate : is_rate type ≡ true = ap is_rate_shape is in
    absurd (true≢false (sym has ∙ cond-true (is_rate type) false true rate))
value_copied now type (Some period) shapes.Rate (cells.Rate start current previous) is has (begun, below, before) =
    let rate : is_rate type ≡ true = ap is_rate_shape is in
    let bounds : is_period (Some period) ≡ true = sym (cond-true (is_rate type) (is_period (Some period)) (is_absent (Some period)) rate) ∙ has in
    let parts = and_parts (nat_le 1 period) (nat_lt period (2 ^ 32)) bounds in
    rate_copied now period start current previous (leb-true 1 period parts.0) (ltb-true period (2 ^ 32) parts.1) begun below before
value_copied now type period shapes.Count (cells.Rate start current previous) is has fits = absurd fits
value_copied now type period shapes.LongCount (cells.Rate start current previous) is has fits = absurd fits
value_copied now type period shapes.Rate (cells.Count n) is has fits = absurd fits
value_copied now type period shapes.Name (cells.Count n) is has fits = absurd fits
value_copied now type period shapes.Name (cells.Rate start current previous) is has fits = absurd fits

past_name : (t : DataType × Option ℕ) (ts : List (DataType × Option ℕ)) (vs : List Value) → is_name_type t.0 ≡ true → values_fit ts vs ≡ true → values_fit (t ∷ ts) vs ≡ true
past_name t ts [] named fits = and_from (is_name_type t.0) (values_fit ts []) named fits
past_name t ts (v ∷ vs) named fits = cond-true (is_name_type t.0) (values_fit ts (v ∷ vs)) (value_fits (shape_of t.0) v && values_fit ts vs) named ∙ fits

abbrev copied_values : ℕ → List (DataType × Option ℕ) → List Cell → List Value
copied_values now ts cs = map (λ e. value_of now (turned now e.0.1 e.1)) (zip ts cs)

values_copied : (now : ℕ) (types : List (DataType × Option ℕ)) (cs : List Cell) → list_all has_its_period types ≡ true → CellsFit now (cell_types types) cs → values_fit types (copied_values now (cell_types types) cs) ≡ true
values_copied now [] [] has fits = refl
values_copied now [] (c ∷ cs) has fits = absurd fits
values_copied now (t ∷ ts) cs has fits = elim (cases_Bool (is_name_type t.0)) [
  | inl named ↦
      let same : cell_types (t ∷ ts) ≡ cell_types ts = cond-false (not (is_name_type t.0)) (t ∷ cell_types ts) (cell_types ts) (ap not named) in
      let rest : CellsFit now (cell_types ts) cs = subst (λ (l : List (DataType × Option ℕ)). CellsFit now l cs) same fits in
      subst (λ (l : List (DataType × Option ℕ)). values_fit (t ∷ ts) (copied_values now l cs) ≡ true) (sym same) (past_name t ts (copied_values now (cell_types ts) cs) named (values_copied now ts cs parts.1 rest))
  | inr other ↦
      let same : cell_types (t ∷ ts) ≡ t ∷ cell_types ts = cond-true (not (is_name_type t.0)) (t ∷ cell_types ts) (cell_types ts) (ap not other) in
      let here : CellsFit now (t ∷ cell_types ts) cs = subst (λ (l : List (DataType × Option ℕ)). CellsFit now l cs) same fits in
      subst (λ (l : List (DataType × Option ℕ)). values_fit (t ∷ ts) (copied_values now l cs) ≡ true) (sym same) (by (λ (l : List Cell) row. values_copied now ts l parts.1 row) cs other here)
]
  where
    parts : (has_its_period t ≡ true) × (list_all has_its_period ts ≡ true)
    parts = and_parts (has_its_period t) (list_all has_its_period ts) has

    by : ((l : List Cell) → CellsFit now (cell_types ts) l → values_fit ts (copied_values now (cell_types ts) l) ≡ true) → (l : List Cell) → is_name_type t.0 ≡ false → CellsFit now (t ∷ cell_types ts) l → values_fit (t ∷ ts) (copied_values now (t ∷ cell_types ts) l) ≡ true
    by so [] other here = absurd here
    by so (c ∷ rest) other (first, later) =
        let v = value_of now (turned now t.1 c) in
        let vs = copied_values now (cell_types ts) rest in
        cond-false (is_name_type t.0) (values_fit ts (v ∷ vs)) (value_fits (shape_of t.0) v && values_fit ts vs) other
        ∙ and_from (value_fits (shape_of t.0) v) (values_fit ts vs) (value_copied now t.0 t.1 (shape_of t.0) c refl parts.0 first) (so rest later)

-- ---- lives

life_left_fits : (d : Definition) (now : ℕ) (row : StoredRow) → EndFits now d.expire row.ends → is_live now row ≡ true → life_fits d (Some (life_left now row.ends)) ≡ true
life_left_fits d now row fits live = by row.ends refl
  where
    by : (o : Option ℕ) → row.ends ≡ o → life_fits d (Some (life_left now row.ends)) ≡ true
    by None at =
        let never : d.expire ≡ 0 = subst (EndFits now d.expire) at fits in
        let zero_left : life_left now row.ends ≡ 0 = ap (life_left now) at in
        ap (λ life. life_fits d (Some life)) zero_left ∙ cond-true (nat_eq d.expire 0) true (nat_le 1 0 && nat_le 0 d.expire) (eq-eqb d.expire 0 never)
    by (Some end) at =
        let bound = subst (EndFits now d.expire) at fits in
        let lives : nat_lt now end ≡ true = subst (λ o. is_live now (record row { ends = o }) ≡ true) at live in
        let after = ltb-true now end lives in
        let most = bound.1 in
        let left : life_left now row.ends ≡ end - now = ap (life_left now) at in
        let least = le-leb 1 (end - now) (omega arith) in
        let within = le-leb (end - now) d.expire (omega arith) in
        ap (λ life. life_fits d (Some life)) left
        ∙ cond-false (nat_eq d.expire 0) (nat_eq (end - now) 0) (nat_le 1 (end - now) && nat_le (end - now) d.expire) (ne_eqb d.expire 0 bound.0)
        ∙ and_from (nat_le 1 (end - now)) (nat_le (end - now) d.expire) least within

life_copied : (version : Version) (d : Definition) (now : ℕ) (row : StoredRow) → EndFits now d.expire row.ends → is_live now row ≡ true → life_fits d (life_of version now row.ends) ≡ true
life_copied versions.V20 d now row fits live = refl
life_copied versions.V21 d now row fits live = life_left_fits d now row fits live

-- ---- updates

pub periods : (d : Definition) → is_definition d ≡ true → list_all has_its_period d.types ≡ true
periods d is =
    let all = and_parts (is_id d.id && is_name d.name && fits_length d.kind d.key_length && nat_lt d.expire (2 ^ 32) && list_all has_its_period d.types) (rise_from 0 d.types) is in
    (and_parts (is_id d.id && is_name d.name && fits_length d.kind d.key_length && nat_lt d.expire (2 ^ 32)) (list_all has_its_period d.types) all.0).1

update_fits : (version : Version) (d : Definition) (now : ℕ) (e : Key × StoredRow) → is_definition d ≡ true → EntryFits d now e → is_live now e.1 ≡ true → IsUpdateFor (d ∷ []) (update_of version d now e)
update_fits version d now e is (key, row, name, end) live =
    let u = update_of version d now e in
    let values = values_copied now d.types e.1.cells (periods d is) row in
    let fits_row : row_fits d e.0 u.values ≡ true = and_from (key_fits d.kind d.key_length e.0) (values_fit d.types u.values) key values in
    let named = and_from (row_fits d e.0 u.values) (may_be_named d e.1.name) fits_row name in
    let lives = life_copied version d now e.1 end live in (
      d,
      cond-true (nat_eq d.id d.id) (Some d) (table_at [] d.id) (eq-eqb d.id d.id refl),
      and_from (row_fits d e.0 u.values && may_be_named d e.1.name) (life_fits d u.life) named lives,
    )

due_fit : (version : Version) (d : Definition) (kind : CopyKind) (low now : ℕ) (es : List (Key × StoredRow)) → is_definition d ≡ true → AllByRecursion (EntryFits d now) es
    → AllByRecursion (IsUpdateFor (d ∷ [])) (map (update_of version d now) (filter (is_unacked kind low now) es))
due_fit version d kind low now [] is all = tt
due_fit version d kind low now (e ∷ es) is (first, rest) =
    let others = due_fit version d kind low now es is rest in
    cond_both (is_unacked kind low now e) (e ∷ filter (is_unacked kind low now) es) (filter (is_unacked kind low now) es) (λ (l : List (Key × StoredRow)). AllByRecursion (IsUpdateFor (d ∷ [])) (map (update_of version d now) l))
    (λ due.
    let parts = and_parts (nat_lt low e.1.number && is_copied kind e.1) (is_live now e.1) due in
    (update_fits version d now e is first parts.1, others))
    (λ _. others)

take_short : {A : Type 0} (n : ℕ) (xs : List A) → length (take n xs) ≤ n
take_short zero xs = omega arith
take_short (suc n) [] = omega arith
take_short (suc n) (x ∷ xs) = let rest = take_short n xs in omega arith

pub copied_batch : (s : TableState) (session : ℕ) (kind : CopyKind) (limit now : ℕ) → IsSound s → s.latest ≤ now → limit ≤ 4096 → IsBatchFor (s.definition ∷ []) (unacked s session kind now limit)
copied_batch s session kind limit now sound later few =
    let d = s.definition in
    let version = version_by (progress_of session s) in
    let low = acknowledged_by (progress_of session s) in
    let bound = bound_by (progress_of session s) in
    let all = map (update_of version d now) (filter (is_unacked kind low now) (in_reach kind bound s.rows)) in
    let short : length (unacked s session kind now limit) ≤ limit = take_short limit all in
    (omega arith, all_take (IsUpdateFor (d ∷ [])) limit all (due_fit version d kind low now (in_reach kind bound s.rows) sound.definition (reach_all (EntryFits d now) kind bound s.rows (later_sound s now sound later))))
