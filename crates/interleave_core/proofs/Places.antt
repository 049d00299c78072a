-- Where tables and connections stand.
use Rattle.std.proofs.Common.{◌≡◌, ℕ, zero, suc, ◌+◌, ◌<◌, true, false, List, [], ◌∷◌, length, get_or, set, take, Option, Some, None, sym, ap, subst, ◌∙◌, arith, inl, inr}
use Rattle.std.specs.Prelude.{option_map}
use Rattle.std.proofs.lemmas.Bool.{cases_Bool}
use Rattle.std.proofs.lemmas.List.{map-set}
use Rattle.std.proofs.lemmas.Option.{slice_get-get_or, slice_get-map}
use Rattle.table_cell.specs.Histories.{CellState}
use Rattle.interleave_core.specs.declared.connection.Connection.{Connection}
use Rattle.interleave_core.specs.Moves.{InConnection}
use Rattle.interleave_core.specs.Parts.{IsCellAt, IsConnectionAt, connection_of, connections_of}
use Rattle.interleave_core.specs.Worlds.{ConnectionState, is_table, cell_at, connection_at, with_connection}
use Rattle.interleave_core.proofs.TieCells.{at_here, at_there, with_here, with_there}

pub some_none : {A : Type 0} (x : A) → ◌≡◌ {A = Option A} (Some x) None → ⊥
some_none x e = cc

-- if no table before the place has the id `t`, the table with the id `t` is the one at the place
pub cell_here : (t : ℕ) (cells : List CellState) (i : ℕ) (x : CellState) → i < length cells → x ≡ get_or cells i x → is_table t x ≡ true
    → cell_at t (take i cells) ≡ None → IsCellAt t cells i
cell_here t [] i x below is same none = absurd (omega arith)
cell_here t (c ∷ cs) zero x below is same none =
    let here : is_table t c ≡ true = ap (is_table t) (sym is) ∙ same in
    record {
      below = below;
      here = λ other. at_here t c cs here;
      changed = λ new. sym (with_here t new c cs here);
    }
cell_here t (c ∷ cs) (suc i) x below is same none = elim (cases_Bool (is_table t c)) [
  | inl first ↦ absurd (some_none c (sym (at_here t c (take i cs) first) ∙ none))
  | inr other ↦
      let later = cell_here t cs i x (omega arith) is same (sym (at_there t c (take i cs) other) ∙ none) in
      record {
        below = below;
        here = λ d. at_there t c cs other ∙ later.here d;
        changed = λ new. ap (λ rest. c ∷ rest) (later.changed new) ∙ sym (with_there t new c cs other);
      }
]

-- the next table doesn't have the id `t` either
pub none_more : (t : ℕ) (cells : List CellState) (i : ℕ) (x : CellState) → i < length cells → x ≡ get_or cells i x → is_table t x ≡ false
    → cell_at t (take i cells) ≡ None → cell_at t (take (i + 1) cells) ≡ None
none_more t cells i x below is other none = subst (λ (n : ℕ). cell_at t (take n cells) ≡ None) (sym (plus_one i)) (next cells i x below is other none)
  where
    plus_one : (n : ℕ) → n + 1 ≡ suc n
    plus_one n = omega arith

    next : (cells : List CellState) (i : ℕ) (x : CellState) → i < length cells → x ≡ get_or cells i x → is_table t x ≡ false
        → cell_at t (take i cells) ≡ None → cell_at t (take (suc i) cells) ≡ None
    next [] i x below is other none = absurd (omega arith)
    next (c ∷ cs) zero x below is other none = at_there t c [] (ap (is_table t) (sym is) ∙ other)
    next (c ∷ cs) (suc i) x below is other none = elim (cases_Bool (is_table t c)) [
      | inl first ↦ absurd (some_none c (sym (at_here t c (take i cs) first) ∙ none))
      | inr apart ↦
          at_there t c (take (suc i) cs) apart
          ∙ next cs i x (omega arith) is other (sym (at_there t c (take i cs) apart) ∙ none)
    ]

-- ---- connections

plus_one : (n : ℕ) → n + 1 ≡ suc n
plus_one n = omega arith

pub connection_found : (session : ℕ) (cs : List Connection) (i : ℕ) (old : Connection) → IsConnectionAt session cs i → old ≡ get_or cs i old
    → connection_at session (connections_of cs) ≡ Some (connection_of old)
connection_found session cs i old here is =
    ap (λ (n : ℕ). connection_at n (connections_of cs)) (here.number ∙ plus_one i)
    ∙ slice_get-map connection_of cs i
    ∙ ap (λ (o : Option Connection). option_map connection_of o) (slice_get-get_or cs i old here.below)
    ∙ ap (λ (x : Connection). Some (connection_of x)) (sym is)

pub connection_changed : (session : ℕ) (cs : List Connection) (i : ℕ) (new : Connection) → IsConnectionAt session cs i
    → connections_of (set cs i new) ≡ with_connection session (connection_of new) (connections_of cs)
connection_changed session cs i new here =
    map-set connection_of cs i new ∙ ap (λ (n : ℕ). with_connection n (connection_of new) (connections_of cs)) (sym (here.number ∙ plus_one i))

-- a connection that changes, at its place
pub in_connection : (change : ConnectionState → ConnectionState → Type 0) (session : ℕ) (cs : List Connection) (i : ℕ) (old new : Connection)
    → IsConnectionAt session cs i → old ≡ get_or cs i old → change (connection_of old) (connection_of new)
    → InConnection change session (connection_at session (connections_of cs)) (connections_of cs) (connections_of (set cs i new))
in_connection change session cs i old new here is so =
    subst (λ (o : Option ConnectionState). InConnection change session o (connections_of cs) (connections_of (set cs i new)))
    (sym (connection_found session cs i old here is))
    (connection_of new, so, connection_changed session cs i new here)
