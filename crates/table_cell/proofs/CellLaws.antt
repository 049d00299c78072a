-- The cells of rows keep to their ranges.
use Rattle.std.proofs.Common.{◌≡◌, ℕ, ◌+◌, ◌-◌, ◌*◌, ◌^◌, ◌≤◌, true, false, not, ◌&&◌, List, [], ◌∷◌, Option, Some, None, refl, sym, ap, subst, ◌∙◌, arith, inl, inr, true≢false}
use Rattle.std.specs.Prelude.{map, nat_lt, nat_eq, cond}
use Rattle.std.specs.List.{AllByRecursion, zip}
use Rattle.std.proofs.lemmas.Bool.{cases_Bool, cases_eq, eq-eqb, ne_eqb, cond-true, cond-false, cond_both, ltb-true, ltb-false, and_parts}
use Rattle.table_types.specs.declared.data_type.DataType.{DataType}
use Rattle.table_types.specs.declared.data_type.Shape.{Shape}
use Rattle.table_types.specs.declared.data_type.Shape.TheVariants as shapes
use Rattle.table_types.specs.declared.row.Cell.{Cell}
use Rattle.table_types.specs.declared.row.Cell.TheVariants as cells
use Rattle.table_types.specs.declared.update.Value.{Value}
use Rattle.table_types.specs.declared.update.Value.TheVariants as values
use Rattle.table_types.specs.declared.change.Change.{Change}
use Rattle.table_types.specs.declared.change.Change.TheVariants as changes
use Rattle.table_types.specs.DataTypes.{shape_of, is_same_type}
use Rattle.table_types.specs.Updates.{is_word, value_fits, values_fit, is_name_shape, is_name_type}
use Rattle.table_types.specs.Rows.{smaller, later_by, life_within, end_of, cell_of}
use Rattle.table_types.specs.Rotation.{rotated, turned}
use Rattle.table_types.specs.Changes.{most, changed_count, raised, changed_rate, changed_cell, changed_cells, begun_cell, begun_cells, cell_types}
use Rattle.table_cell.specs.Soundness.{CellFits, CellsFit, EndFits}
use Rattle.table_stock.proofs.RowsLaws.{not_true}

pub cell_later : (latest now : ℕ) (shape : Shape) (c : Cell) → latest ≤ now → CellFits latest shape c → CellFits now shape c
cell_later latest now shapes.Count (cells.Count n) later fits = fits
cell_later latest now shapes.Count (cells.Rate start current previous) later fits = fits
cell_later latest now shapes.LongCount (cells.Count n) later fits = fits
cell_later latest now shapes.LongCount (cells.Rate start current previous) later fits = fits
cell_later latest now shapes.Rate (cells.Count n) later fits = fits
cell_later latest now shapes.Rate (cells.Rate start current previous) later (begun, current_fits, previous_fits) = (omega arith, current_fits, previous_fits)
cell_later latest now shapes.Name (cells.Count n) later fits = fits
cell_later latest now shapes.Name (cells.Rate start current previous) later fits = fits

pub cells_later : (latest now : ℕ) (ts : List (DataType × Option ℕ)) (cs : List Cell) → latest ≤ now → CellsFit latest ts cs → CellsFit now ts cs
cells_later latest now [] [] later fits = fits
cells_later latest now [] (c ∷ cs) later fits = fits
cells_later latest now (t ∷ ts) [] later fits = fits
cells_later latest now (t ∷ ts) (c ∷ cs) later (first, rest) = (cell_later latest now (shape_of t.0) c later first, cells_later latest now ts cs later rest)

smaller_right : (a b : ℕ) → smaller a b ≤ b
smaller_right a b = cond_both (nat_lt a b) a b (λ x. x ≤ b) (λ less. let bound = ltb-true a b less in omega arith) (λ _. omega arith)

-- ---- changes

count_within : (change : Change) (type : DataType) (count : ℕ) → count ≤ most (shape_of type) → changed_count change type count ≤ most (shape_of type)
count_within (changes.Add t n) type count within = cond_both (is_same_type t type) (smaller (count + n) (most (shape_of type))) count (λ x. x ≤ most (shape_of type)) (λ _. smaller_right (count + n) (most (shape_of type))) (λ _. within)
count_within (changes.Take t n) type count within = cond_both (is_same_type t type) (count - n) count (λ x. x ≤ most (shape_of type)) (λ _. omega arith) (λ _. within)
count_within (changes.Put t n) type count within = cond_both (is_same_type t type) (smaller n (most (shape_of type))) count (λ x. x ≤ most (shape_of type)) (λ _. smaller_right n (most (shape_of type))) (λ _. within)
count_within (changes.AddRate t n) type count within = within
count_within (changes.SetName name) type count within = within

raised_fits : (now n : ℕ) (c : Cell) → CellFits now shapes.Rate c → CellFits now shapes.Rate (raised n c)
raised_fits now n (cells.Count count) fits = fits
raised_fits now n (cells.Rate start current previous) (begun, below, before) =
    let bound = smaller_right (current + n) (2 ^ 32 - 1) in
    (begun, omega arith, before)

rotated_fits : (now period : ℕ) (c : Cell) → CellFits now shapes.Rate c → CellFits now shapes.Rate (rotated period now c)
rotated_fits now period (cells.Count count) fits = fits
rotated_fits now period (cells.Rate start current previous) (begun, below, before) =
    cond_both (nat_lt (now - start) period) (cells.Rate start current previous) (cond (nat_lt (now - start) (2 * period)) (cells.Rate (start + period) 0 current) (cells.Rate now 0 0)) (CellFits now shapes.Rate)
    (λ _. (begun, below, before))
    (λ past.
    let gone = ltb-false (now - start) period past in
    cond_both (nat_lt (now - start) (2 * period)) (cells.Rate (start + period) 0 current) (cells.Rate now 0 0) (CellFits now shapes.Rate)
    (λ _. (omega arith, omega arith, below))
    (λ _. (omega arith, omega arith, omega arith)))

pub turned_fits : (now : ℕ) (period : Option ℕ) (c : Cell) → CellFits now shapes.Rate c → CellFits now shapes.Rate (turned now period c)
turned_fits now None c fits = fits
turned_fits now (Some period) c fits = rotated_fits now period c fits

rate_fits : (now : ℕ) (change : Change) (t : DataType × Option ℕ) (c : Cell) → CellFits now shapes.Rate c → CellFits now shapes.Rate (changed_rate now change t c)
rate_fits now (changes.AddRate changed n) t c fits =
    cond_both (is_same_type changed t.0) (raised n (turned now t.1 c)) c (CellFits now shapes.Rate) (λ _. raised_fits now n (turned now t.1 c) (turned_fits now t.1 c fits)) (λ _. fits)
rate_fits now (changes.Add changed n) t c fits = fits
rate_fits now (changes.Take changed n) t c fits = fits
rate_fits now (changes.Put changed n) t c fits = fits
rate_fits now (changes.SetName name) t c fits = fits

changed_fits : (now : ℕ) (change : Change) (t : DataType × Option ℕ) (shape : Shape) (c : Cell) → shape_of t.0 ≡ shape → CellFits now shape c → CellFits now shape (changed_cell now change t c)
changed_fits now change t shapes.Count (cells.Count n) is fits =
    let least : most (shape_of t.0) ≡ 2 ^ 32 - 1 = ap most is in
    let bound = count_within change t.0 n (omega arith) in
    omega arith
changed_fits now change t shapes.LongCount (cells.Count n) is fits =
    let least : most (shape_of t.0) ≡ 2 ^ 64 - 1 = ap most is in
    let bound = count_within change t.0 n (omega arith) in
    omega arith
changed_fits now change t shapes.Rate (cells.Rate start current previous) is fits = rate_fits now change t (cells.Rate start current previous) fits
changed_fits now change t shapes.Count (cells.Rate start current previous) is fits = absurd fits
changed_fits now change t shapes.LongCount (cells.Rate start current previous) is fits = absurd fits
changed_fits now change t shapes.Rate (cells.Count n) is fits = absurd fits
changed_fits now change t shapes.Name (cells.Count n) is fits = absurd fits
changed_fits now change t shapes.Name (cells.Rate start current previous) is fits = absurd fits

each_changed : (now : ℕ) (change : Change) (ts : List (DataType × Option ℕ)) (cs : List Cell) → CellsFit now ts cs → CellsFit now ts (map (λ e. changed_cell now change e.0 e.1) (zip ts cs))
each_changed now change [] [] fits = fits
each_changed now change [] (c ∷ cs) fits = absurd fits
each_changed now change (t ∷ ts) [] fits = absurd fits
each_changed now change (t ∷ ts) (c ∷ cs) (first, rest) = (changed_fits now change t (shape_of t.0) c refl first, each_changed now change ts cs rest)

pub changed_cells_fit : (now : ℕ) (change : Change) (types : List (DataType × Option ℕ)) (cs : List Cell) → CellsFit now (cell_types types) cs → CellsFit now (cell_types types) (changed_cells now change types cs)
changed_cells_fit now change types cs fits = each_changed now change (cell_types types) cs fits

-- ---- new rows

begun_fits : (now : ℕ) (shape : Shape) → is_name_shape shape ≡ false → CellFits now shape (begun_cell now shape)
begun_fits now shapes.Count other = omega arith
begun_fits now shapes.LongCount other = omega arith
begun_fits now shapes.Rate other = (omega arith, omega arith, omega arith)
begun_fits now shapes.Name other = absurd (true≢false other)

no_names : (types : List (DataType × Option ℕ)) → AllByRecursion (λ (t : DataType × Option ℕ). is_name_type t.0 ≡ false) (cell_types types)
no_names [] = tt
no_names (t ∷ ts) =
    let rest = no_names ts in
    cond_both (not (is_name_type t.0)) (t ∷ cell_types ts) (cell_types ts) (AllByRecursion (λ (x : DataType × Option ℕ). is_name_type x.0 ≡ false)) (λ other. (not_true (is_name_type t.0) other, rest)) (λ _. rest)

each_begun : (now : ℕ) (ts : List (DataType × Option ℕ)) → AllByRecursion (λ (t : DataType × Option ℕ). is_name_type t.0 ≡ false) ts → CellsFit now ts (map (λ t. begun_cell now (shape_of t.0)) ts)
each_begun now [] others = tt
each_begun now (t ∷ ts) (first, rest) = (begun_fits now (shape_of t.0) first, each_begun now ts rest)

pub begun_cells_fit : (now : ℕ) (types : List (DataType × Option ℕ)) → CellsFit now (cell_types types) (begun_cells now types)
begun_cells_fit now types = each_begun now (cell_types types) (no_names types)

-- ---- rows that are learned

value_cell : (now : ℕ) (shape : Shape) (v : Value) → value_fits shape v ≡ true → CellFits now shape (cell_of now v)
value_cell now shapes.Count (values.Count n) fits = ltb-true n (2 ^ 32) fits
value_cell now shapes.LongCount (values.Count n) fits = ltb-true n (2 ^ 64) fits
value_cell now shapes.Rate (values.Rate elapsed current previous) fits =
    let both = and_parts (is_word elapsed && is_word current) (is_word previous) fits in
    let first = and_parts (is_word elapsed) (is_word current) both.0 in
    (omega arith, ltb-true current (2 ^ 32) first.1, ltb-true previous (2 ^ 32) both.1)
value_cell now shapes.Count (values.Rate elapsed current previous) fits = absurd (true≢false (sym fits))
value_cell now shapes.LongCount (values.Rate elapsed current previous) fits = absurd (true≢false (sym fits))
value_cell now shapes.Rate (values.Count n) fits = absurd (true≢false (sym fits))
value_cell now shapes.Name (values.Count n) fits = absurd (true≢false (sym fits))
value_cell now shapes.Name (values.Rate elapsed current previous) fits = absurd (true≢false (sym fits))

pub learned_cells_fit : (now : ℕ) (types : List (DataType × Option ℕ)) (vs : List Value) → values_fit types vs ≡ true → CellsFit now (cell_types types) (map (cell_of now) vs)
learned_cells_fit now [] [] fits = tt
learned_cells_fit now [] (v ∷ vs) fits = absurd (true≢false (sym fits))
learned_cells_fit now (t ∷ ts) [] fits =
    let parts = and_parts (is_name_type t.0) (values_fit ts []) fits in
    let same : cell_types (t ∷ ts) ≡ cell_types ts = cond-false (not (is_name_type t.0)) (t ∷ cell_types ts) (cell_types ts) (ap not parts.0) in
    subst (λ (l : List (DataType × Option ℕ)). CellsFit now l []) (sym same) (learned_cells_fit now ts [] parts.1)
learned_cells_fit now (t ∷ ts) (v ∷ vs) fits = elim (cases_Bool (is_name_type t.0)) [
  | inl named ↦
      let same : cell_types (t ∷ ts) ≡ cell_types ts = cond-false (not (is_name_type t.0)) (t ∷ cell_types ts) (cell_types ts) (ap not named) in
      let rest : values_fit ts (v ∷ vs) ≡ true = sym (cond-true (is_name_type t.0) (values_fit ts (v ∷ vs)) (value_fits (shape_of t.0) v && values_fit ts vs) named) ∙ fits in
      subst (λ (l : List (DataType × Option ℕ)). CellsFit now l (map (cell_of now) (v ∷ vs))) (sym same) (learned_cells_fit now ts (v ∷ vs) rest)
  | inr other ↦
      let same : cell_types (t ∷ ts) ≡ t ∷ cell_types ts = cond-true (not (is_name_type t.0)) (t ∷ cell_types ts) (cell_types ts) (ap not other) in
      let both : (value_fits (shape_of t.0) v && values_fit ts vs) ≡ true = sym (cond-false (is_name_type t.0) (values_fit ts (v ∷ vs)) (value_fits (shape_of t.0) v && values_fit ts vs) other) ∙ fits in
      let parts = and_parts (value_fits (shape_of t.0) v) (values_fit ts vs) both in
      subst (λ (l : List (DataType × Option ℕ)). CellsFit now l (map (cell_of now) (v ∷ vs))) (sym same) (value_cell now (shape_of t.0) v parts.0, learned_cells_fit now ts vs parts.1)
]

-- ---- ends

pub end_later : (latest now expire : ℕ) (end : Option ℕ) → latest ≤ now → EndFits latest expire end → EndFits now expire end
end_later latest now expire None later fits = fits
end_later latest now expire (Some end) later (mortal, bound) = (mortal, omega arith)

within_expire : (expire : ℕ) (life : Option ℕ) → life_within expire life ≤ expire
within_expire expire None = omega arith
within_expire expire (Some life) = smaller_right life expire

later_most : (life now : ℕ) → later_by life now ≤ now + life
later_most life now = cond_both (nat_lt (now + life) (2 ^ 63)) (now + life) (2 ^ 63 - 1) (λ x. x ≤ now + life) (λ _. omega arith) (λ past. let bound = ltb-false (now + life) (2 ^ 63) past in omega arith)

pub end_of_fits : (now expire : ℕ) (life : Option ℕ) → EndFits now expire (end_of now expire life)
end_of_fits now expire life = elim (cases_eq expire 0) [
  | inl never ↦
      let none : end_of now expire life ≡ None = cond-true (nat_eq expire 0) None (Some (later_by (life_within expire life) now)) (eq-eqb expire 0 never) in
      subst (EndFits now expire) (sym none) never
  | inr mortal ↦
      let most_ = later_most (life_within expire life) now in
      let short = within_expire expire life in
      let bound : later_by (life_within expire life) now ≤ now + expire = omega arith in
      let some : end_of now expire life ≡ Some (later_by (life_within expire life) now) = cond-false (nat_eq expire 0) None (Some (later_by (life_within expire life) now)) (ne_eqb expire 0 mortal) in
      subst (EndFits now expire) (sym some) (mortal, bound)
]
