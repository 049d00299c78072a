-- Sessions of a table: no session occurs twice.
use Rattle.std.proofs.Common.{◌≡◌, ℕ, suc, ◌+◌, ◌<◌, Bool, false, List, [], ◌∷◌, ◌++◌, Option, Some, None, refl, sym, ap, subst, ◌∙◌, inl, inr, true≢false, arith, length, slice_index_or, slice_set}
use Rattle.std.specs.Prelude.{filter, nat_eq, nat_le, ◌==◌, option_map}
use Rattle.std.specs.Map.{lookup}
use Rattle.std.proofs.lemmas.Option.{slice_get-get_or}
use Rattle.std.proofs.lemmas.List.{set-get_or}
use Rattle.std.proofs.lemmas.Bool.{lt-leb, le-leb, cases_Bool, cases_eq, eq-eqb, ne_eqb, cond-true, cond-false, cond_both}
use Rattle.table_cell.specs.declared.progress.Progress.{Progress}
use Rattle.table_cell.specs.Parts.{index_of}
use Rattle.table_cell.specs.Machine.{acknowledging, with_progress}
use Rattle.table_cell.specs.Soundness.{SessionsDiffer}
use Rattle.table_stock.proofs.RowsLaws.{some_none}

absent_parts : (session : ℕ) (e : ℕ × Progress) (es : List (ℕ × Progress)) → lookup (λ id. id == session) (e ∷ es) ≡ None → (nat_eq e.0 session ≡ false) × (lookup (λ id. id == session) es ≡ None)
absent_parts session e es none = elim (cases_Bool (nat_eq e.0 session)) [
  | inl tied ↦ absurd (some_none e.1 (sym (cond-true (nat_eq e.0 session) (Some e.1) (lookup (λ id. id == session) es) tied) ∙ none))
  | inr other ↦ (other, sym (cond-false (nat_eq e.0 session) (Some e.1) (lookup (λ id. id == session) es) other) ∙ none)
]

absent_from : (session : ℕ) (e : ℕ × Progress) (es : List (ℕ × Progress)) → nat_eq e.0 session ≡ false → lookup (λ id. id == session) es ≡ None → lookup (λ id. id == session) (e ∷ es) ≡ None
absent_from session e es other none = cond-false (nat_eq e.0 session) (Some e.1) (lookup (λ id. id == session) es) other ∙ none

absent_with : (session changed : ℕ) (f : Progress → Progress) (es : List (ℕ × Progress)) → lookup (λ id. id == session) es ≡ None → lookup (λ id. id == session) (with_progress changed f es) ≡ None
absent_with session changed f [] none = none
absent_with session changed f (e ∷ es) none =
    let parts = absent_parts session e es none in
    cond_both (nat_eq e.0 changed) ((e.0, f e.1) ∷ es) (e ∷ with_progress changed f es) (λ (l : List (ℕ × Progress)). lookup (λ id. id == session) l ≡ None)
    (λ _. absent_from session (e.0, f e.1) es parts.0 parts.1)
    (λ _. absent_from session e (with_progress changed f es) parts.0 (absent_with session changed f es parts.1))

pub sessions_differ_with : (changed : ℕ) (f : Progress → Progress) (es : List (ℕ × Progress)) → SessionsDiffer es → SessionsDiffer (with_progress changed f es)
sessions_differ_with changed f [] differ = differ
sessions_differ_with changed f (e ∷ es) (first, rest) =
    cond_both (nat_eq e.0 changed) ((e.0, f e.1) ∷ es) (e ∷ with_progress changed f es) SessionsDiffer
    (λ _. (first, rest))
    (λ _. (absent_with e.0 changed f es first, sessions_differ_with changed f es rest))

absent_filter : (session : ℕ) (p : ℕ × Progress → Bool) (es : List (ℕ × Progress)) → lookup (λ id. id == session) es ≡ None → lookup (λ id. id == session) (filter p es) ≡ None
absent_filter session p [] none = none
absent_filter session p (e ∷ es) none =
    let parts = absent_parts session e es none in
    let kept = absent_filter session p es parts.1 in
    cond_both (p e) (e ∷ filter p es) (filter p es) (λ (l : List (ℕ × Progress)). lookup (λ id. id == session) l ≡ None) (λ _. absent_from session e (filter p es) parts.0 kept) (λ _. kept)

pub sessions_differ_filter : (p : ℕ × Progress → Bool) (es : List (ℕ × Progress)) → SessionsDiffer es → SessionsDiffer (filter p es)
sessions_differ_filter p [] differ = differ
sessions_differ_filter p (e ∷ es) (first, rest) =
    let kept = sessions_differ_filter p es rest in
    cond_both (p e) (e ∷ filter p es) (filter p es) SessionsDiffer (λ _. (absent_filter e.0 p es first, kept)) (λ _. kept)

apart : (a b : ℕ) → nat_eq a b ≡ false → nat_eq b a ≡ false
apart a b other = elim (cases_eq b a) [
  | inl same ↦ absurd (true≢false (sym (eq-eqb a b (sym same)) ∙ other))
  | inr differs ↦ ne_eqb b a differs
]

absent_end : (session added : ℕ) (progress : Progress) (es : List (ℕ × Progress)) → lookup (λ id. id == session) es ≡ None → nat_eq added session ≡ false → lookup (λ id. id == session) (es ++ (added, progress) ∷ []) ≡ None
absent_end session added progress [] none other = absent_from session (added, progress) [] other none
absent_end session added progress (e ∷ es) none other =
    let parts = absent_parts session e es none in
    absent_from session e (es ++ (added, progress) ∷ []) parts.0 (absent_end session added progress es parts.1 other)

pub sessions_differ_end : (added : ℕ) (progress : Progress) (es : List (ℕ × Progress)) → SessionsDiffer es → lookup (λ id. id == added) es ≡ None → SessionsDiffer (es ++ (added, progress) ∷ [])
sessions_differ_end added progress [] differ none = (refl, tt)
sessions_differ_end added progress (e ∷ es) (first, rest) none =
    let parts = absent_parts added e es none in
    (absent_end e.0 added progress es first (apart e.0 added parts.0), sessions_differ_end added progress es rest parts.1)

-- ---- the index of a session

next_index : (o : Option ℕ) (index : ℕ) → option_map (λ i. i + 1) o ≡ Some index → (k : ℕ) × (o ≡ Some k) × (suc k ≡ index)
next_index None index at = absurd (some_none index (sym at))
next_index (Some k) index at =
    let is : k + 1 ≡ index = cc in
    (k, refl, omega arith)

pub index_within : (session : ℕ) (es : List (ℕ × Progress)) (index : ℕ) → index_of session es ≡ Some index → index < length es
index_within session [] index at = absurd (some_none index (sym at))
index_within session (e ∷ es) index at = elim (cases_Bool (nat_eq e.0 session)) [
  | inl tied ↦
      let first : Some 0 ≡ Some index = sym (cond-true (nat_eq e.0 session) (Some 0) (option_map (λ i. i + 1) (index_of session es)) tied) ∙ at in
      let is : 0 ≡ index = cc in
      omega arith
  | inr other ↦
      let next = next_index (index_of session es) index (sym (cond-false (nat_eq e.0 session) (Some 0) (option_map (λ i. i + 1) (index_of session es)) other) ∙ at) in
      let bound = index_within session es next.0 next.1 in
      let is = next.2 in
      omega arith
]

pub set_placed : (session : ℕ) (f : Progress → Progress) (es : List (ℕ × Progress)) (index : ℕ) (x : ℕ × Progress) → index_of session es ≡ Some index → x ≡ slice_index_or es index x
    → slice_set es index (x.0, f x.1) ≡ with_progress session f es
set_placed session f [] index x at here = absurd (some_none index (sym at))
set_placed session f (e ∷ es) index x at here = elim (cases_Bool (nat_eq e.0 session)) [
  | inl tied ↦
      let first : Some 0 ≡ Some index = sym (cond-true (nat_eq e.0 session) (Some 0) (option_map (λ i. i + 1) (index_of session es)) tied) ∙ at in
      let is : 0 ≡ index = cc in
      let with : with_progress session f (e ∷ es) ≡ (e.0, f e.1) ∷ es = cond-true (nat_eq e.0 session) ((e.0, f e.1) ∷ es) (e ∷ with_progress session f es) tied in
      subst (λ (i : ℕ). x ≡ slice_index_or (e ∷ es) i x → slice_set (e ∷ es) i (x.0, f x.1) ≡ with_progress session f (e ∷ es)) is
      (λ same. ap (λ (q : ℕ × Progress). (q.0, f q.1) ∷ es) same ∙ sym with) here
  | inr other ↦
      let next = next_index (index_of session es) index (sym (cond-false (nat_eq e.0 session) (Some 0) (option_map (λ i. i + 1) (index_of session es)) other) ∙ at) in
      let with : with_progress session f (e ∷ es) ≡ e ∷ with_progress session f es = cond-false (nat_eq e.0 session) ((e.0, f e.1) ∷ es) (e ∷ with_progress session f es) other in
      subst (λ (i : ℕ). x ≡ slice_index_or (e ∷ es) i x → slice_set (e ∷ es) i (x.0, f x.1) ≡ with_progress session f (e ∷ es)) next.2
      (λ same. ap (λ (l : List (ℕ × Progress)). e ∷ l) (set_placed session f es next.0 x next.1 same) ∙ sym with) here
]

pub stays_placed : (session : ℕ) (f : Progress → Progress) (es : List (ℕ × Progress)) (index : ℕ) (x : ℕ × Progress) → index_of session es ≡ Some index → x ≡ slice_index_or es index x
    → f x.1 ≡ x.1 → es ≡ with_progress session f es
stays_placed session f es index x at here same =
    sym (set-get_or es index x) ∙ ap (λ (q : ℕ × Progress). slice_set es index q) (sym here) ∙ sym (ap (λ (p : Progress). slice_set es index (x.0, p)) same) ∙ set_placed session f es index x at here

pub stays_absent : (session : ℕ) (f : Progress → Progress) (es : List (ℕ × Progress)) → index_of session es ≡ None → es ≡ with_progress session f es
stays_absent session f [] none = refl
stays_absent session f (e ∷ es) none = elim (cases_Bool (nat_eq e.0 session)) [
  | inl tied ↦ absurd (some_none 0 (sym (cond-true (nat_eq e.0 session) (Some 0) (option_map (λ i. i + 1) (index_of session es)) tied) ∙ none))
  | inr other ↦
      let with : with_progress session f (e ∷ es) ≡ e ∷ with_progress session f es = cond-false (nat_eq e.0 session) ((e.0, f e.1) ∷ es) (e ∷ with_progress session f es) other in
      ap (λ (l : List (ℕ × Progress)). e ∷ l) (stays_absent session f es (no_next (index_of session es) (sym (cond-false (nat_eq e.0 session) (Some 0) (option_map (λ i. i + 1) (index_of session es)) other) ∙ none))) ∙ sym with
]
  where
    no_next : (o : Option ℕ) → option_map (λ i. i + 1) o ≡ None → o ≡ None
    no_next None is = refl
    no_next (Some k) is = absurd (some_none (k + 1) is)

pub acknowledging_above : (number : ℕ) (p : Progress) → p.acknowledged < number → acknowledging number p ≡ record { acknowledged = number; taught = p.taught; bound = p.bound; version = p.version }
acknowledging_above number p above = cond-false (nat_le number p.acknowledged) p (record p { acknowledged = number }) (lt-leb number p.acknowledged above)

pub acknowledging_older : (number : ℕ) (p : Progress) → (p.acknowledged < number → ⊥) → acknowledging number p ≡ p
acknowledging_older number p older = cond-true (nat_le number p.acknowledged) p (record p { acknowledged = number }) (le-leb number p.acknowledged (omega arith))

same_some : {A : Type 0} (a b : A) → ◌≡◌ {A = Option A} (Some a) (Some b) → a ≡ b
same_some a b is = cc

pub one_default : {A : Type 0} (xs : List A) (index : ℕ) (x y : A) → index < length xs → slice_index_or xs index x ≡ slice_index_or xs index y
one_default xs index x y within = same_some (slice_index_or xs index x) (slice_index_or xs index y) (sym (slice_get-get_or xs index x within) ∙ slice_get-get_or xs index y within)
