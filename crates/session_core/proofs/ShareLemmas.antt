-- Tables whose flags depend on their ids alone.
use Rattle.std.proofs.Common.{◌≡◌, ℕ, Bool, true, false, ◌&&◌, ◌==◌, not, List, [], ◌∷◌, Some, None, Option, refl, sym, ap, ◌∙◌, cond, subst, ◌⊎◌, inl, inr}
use Rattle.std.specs.Prelude.{map, is_some}
use Rattle.std.specs.List.{AllByRecursion}
use Rattle.std.specs.Option.{option_or}
use Rattle.std.proofs.lemmas.Bool.{false≢true}
use Rattle.table_types.specs.Tables.{Definition}
use Rattle.session_core.specs.declared.share.Share.{Share}
use Rattle.session_core.specs.Shares.{any_out, all_quiet, shares_of, out_set, quiet_set, unquieted, may_copy, first_to_copy, through, past, next_table}

abbrev pub share_in : (ℕ → Bool) → (ℕ → Bool) → ℕ → Share
share_in out quiet id = record { table = id; out = out id; quiet = quiet id }

abbrev pub shares_in : List ℕ → (ℕ → Bool) → (ℕ → Bool) → List Share
shares_in ids out quiet = map (share_in out quiet) ids

abbrev pub ids_of : List Definition → List ℕ
ids_of roster = map (λ d. d.id) roster

abbrev pub never : ℕ → Bool
never id = false

-- the flags, with that of one id set
abbrev pub set_at : ℕ → Bool → (ℕ → Bool) → ℕ → Bool
set_at table flag flags id = cond (id == table) flag (flags id)

pub true_or_false : (b : Bool) → (b ≡ true) ⊎ (b ≡ false)
true_or_false true = inl refl
true_or_false false = inr refl

pub no_clash : {X : Type 0} (b : Bool) → b ≡ false → b ≡ true → X
no_clash b not_so so = absurd (false≢true (sym not_so ∙ so))

pub shares_begin : (roster : List Definition) → shares_of roster ≡ shares_in (ids_of roster) never never
shares_begin [] = refl
shares_begin (d ∷ ds) = ap (λ (ss : List Share). share_in never never d.id ∷ ss) (shares_begin ds)

out_one : (b flag : Bool) (id : ℕ) (out quiet : ℕ → Bool) → cond b (record { table = id; out = flag; quiet = quiet id }) (share_in out quiet id) ≡ record { table = id; out = cond b flag (out id); quiet = quiet id }
out_one true flag id out quiet = refl
out_one false flag id out quiet = refl

pub out_set_in : (table : ℕ) (flag : Bool) (ids : List ℕ) (out quiet : ℕ → Bool) → out_set table flag (shares_in ids out quiet) ≡ shares_in ids (set_at table flag out) quiet
out_set_in table flag [] out quiet = refl
out_set_in table flag (id ∷ ids) out quiet = rw (out_one (id == table) flag id out quiet, out_set_in table flag ids out quiet) refl

quiet_one : (b : Bool) (id : ℕ) (out quiet : ℕ → Bool) → cond b (record { table = id; out = out id; quiet = true }) (share_in out quiet id) ≡ record { table = id; out = out id; quiet = cond b true (quiet id) }
quiet_one true id out quiet = refl
quiet_one false id out quiet = refl

pub quiet_set_in : (table : ℕ) (ids : List ℕ) (out quiet : ℕ → Bool) → quiet_set table (shares_in ids out quiet) ≡ shares_in ids out (set_at table true quiet)
quiet_set_in table [] out quiet = refl
quiet_set_in table (id ∷ ids) out quiet = rw (quiet_one (id == table) id out quiet, quiet_set_in table ids out quiet) refl

pub unquieted_in : (ids : List ℕ) (out quiet : ℕ → Bool) → unquieted (shares_in ids out quiet) ≡ shares_in ids out never
unquieted_in [] out quiet = refl
unquieted_in (id ∷ ids) out quiet = ap (λ (ss : List Share). share_in out never id ∷ ss) (unquieted_in ids out quiet)

-- ---- the next table

may_facts : (teaching out quiet : Bool) → (not out && not (teaching && quiet)) ≡ true → (out ≡ false) × (teaching ≡ true → quiet ≡ false)
may_facts teaching true quiet may = absurd (false≢true may)
may_facts true false true may = absurd (false≢true may)
may_facts true false false may = (refl, λ _. refl)
may_facts false false quiet may = (refl, λ is. absurd (false≢true is))

-- a batch may be copied from the table `id`
abbrev pub IsFree : Bool → (ℕ → Bool) → (ℕ → Bool) → ℕ → Type 0
IsFree teaching out quiet id = (out id ≡ false) × (teaching ≡ true → quiet id ≡ false)

abbrev FindsFree : Bool → (ℕ → Bool) → (ℕ → Bool) → List Share → Type 0
FindsFree teaching out quiet ss = (id : ℕ) → first_to_copy teaching ss ≡ Some id → IsFree teaching out quiet id

free_head : (teaching : Bool) (out quiet : ℕ → Bool) (id : ℕ) (ss : List Share) → FindsFree teaching out quiet ss → FindsFree teaching out quiet (share_in out quiet id ∷ ss)
free_head teaching out quiet id ss later found first =
    elim (true_or_false (may_copy teaching (share_in out quiet id))) [
      | inl may ↦
          let here : Some id ≡ Some found = sym (rw may refl) ∙ first in
          let same : id ≡ found = cc in
          subst (IsFree teaching out quiet) same (may_facts teaching (out id) (quiet id) may)
      | inr not_here ↦ later found (sym (rw not_here refl) ∙ first)
    ]

free_none : (teaching : Bool) (out quiet : ℕ → Bool) → FindsFree teaching out quiet []
free_none teaching out quiet found first = absurd (false≢true (ap (λ (x : Option ℕ). is_some x) first))

free_first : (teaching : Bool) (out quiet : ℕ → Bool) (ids : List ℕ) → FindsFree teaching out quiet (shares_in ids out quiet)
free_first teaching out quiet [] = free_none teaching out quiet
free_first teaching out quiet (id ∷ ids) = free_head teaching out quiet id (shares_in ids out quiet) (free_first teaching out quiet ids)

free_past : (asked : ℕ) (teaching : Bool) (out quiet : ℕ → Bool) (ids : List ℕ) → FindsFree teaching out quiet (past asked (shares_in ids out quiet))
free_past asked teaching out quiet [] = free_none teaching out quiet
free_past asked teaching out quiet (id ∷ ids) =
    elim (true_or_false (id == asked)) [
      | inl here ↦ rw here (free_first teaching out quiet ids)
      | inr not_here ↦ rw not_here (free_past asked teaching out quiet ids)
    ]

free_through : (asked : ℕ) (teaching : Bool) (out quiet : ℕ → Bool) (ids : List ℕ) → FindsFree teaching out quiet (through asked (shares_in ids out quiet))
free_through asked teaching out quiet [] = free_none teaching out quiet
free_through asked teaching out quiet (id ∷ ids) =
    elim (true_or_false (id == asked)) [
      | inl here ↦ rw here (free_head teaching out quiet id [] (free_none teaching out quiet))
      | inr not_here ↦ rw not_here (free_head teaching out quiet id (through asked (shares_in ids out quiet)) (free_through asked teaching out quiet ids))
    ]

either_some : (a b : Option ℕ) (found : ℕ) → option_or a b ≡ Some found → (a ≡ Some found) ⊎ (b ≡ Some found)
either_some None b found is = inr is
either_some (Some x) b found is = inl is

-- the next table is one from which a batch may be copied
pub next_free : (teaching : Bool) (asked : Option ℕ) (out quiet : ℕ → Bool) (ids : List ℕ) (id : ℕ) → next_table teaching asked (shares_in ids out quiet) ≡ Some id → IsFree teaching out quiet id
next_free teaching None out quiet ids id next = free_first teaching out quiet ids id next
next_free teaching (Some asked) out quiet ids id next =
    elim (either_some (first_to_copy teaching (past asked (shares_in ids out quiet))) (first_to_copy teaching (through asked (shares_in ids out quiet))) id next) [
      | inl after ↦ free_past asked teaching out quiet ids id after
      | inr before ↦ free_through asked teaching out quiet ids id before
    ]

-- ---- all quiet

and_left : (a b : Bool) → (a && b) ≡ true → a ≡ true
and_left true b both = refl
and_left false b both = absurd (false≢true both)

and_right : (a b : Bool) → (a && b) ≡ true → b ≡ true
and_right true b both = both
and_right false b both = absurd (false≢true both)

-- if no quiet table has a batch outstanding, and all are quiet, no batch is outstanding
pub none_out : (ids : List ℕ) (out quiet : ℕ → Bool) → ((id : ℕ) → quiet id ≡ true → out id ≡ false) → all_quiet (shares_in ids out quiet) ≡ true → any_out (shares_in ids out quiet) ≡ false
none_out [] out quiet not_out all = refl
none_out (id ∷ ids) out quiet not_out all =
    rw (not_out id (and_left (quiet id) _ all)) (none_out ids out quiet not_out (and_right (quiet id) _ all))

pub each_quiet : (P : ℕ → Type 0) (ds : List Definition) (out quiet : ℕ → Bool) → ((id : ℕ) → quiet id ≡ true → P id) → all_quiet (shares_in (ids_of ds) out quiet) ≡ true → AllByRecursion (λ d. P d.id) ds
each_quiet P [] out quiet holds all = tt
each_quiet P (d ∷ ds) out quiet holds all =
    (holds d.id (and_left (quiet d.id) _ all), each_quiet P ds out quiet holds (and_right (quiet d.id) _ all))
