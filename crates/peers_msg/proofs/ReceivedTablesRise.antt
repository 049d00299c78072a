-- The tables received are in ascending order of id, with distinct names.
use Rattle.std.proofs.Common.{◌≡◌, ◌≢◌, ℕ, ◌<◌, Bool, true, false, not, ◌&&◌, cond, eqb, List, [], ◌∷◌, Option, Some, None, refl, sym, ap, subst, ◌∙◌, inl, inr, arith}
use Rattle.std.specs.Prelude.{filter, fold, nat_lt}
use Rattle.std.specs.List.{AllByRecursion}
use Rattle.std.proofs.lemmas.Bool.{cases_lt, eq-eqb, lt-ltb, le-ltb}
use Rattle.table_types.specs.Tables.{Definition}
use Rattle.table_types.specs.Rosters.{is_same_name, table_at}
use Rattle.peers_msg.specs.declared.message.Message.{Message}
use Rattle.peers_msg.specs.declared.message.Message.TheVariants as messages
use Rattle.peers_msg.specs.Received.{Received, IsBelow, AreDistinct, insert_table, outlives, defined, received_after, with_own, resumed}
use Rattle.peers_msg.specs.OwnTables.{is_own, own_part}
use Rattle.table_types.proofs.OneTableByShape.{same_name}

-- ---- filtering a list of tables

all-filter : (p : Definition → Type 0) (passes : Definition → Bool) (ds : List Definition) → AllByRecursion p ds → AllByRecursion p (filter passes ds)
all-filter p passes [] all = tt
all-filter p passes (d ∷ ds) all =
    let others = all-filter p passes ds all.1 in
    elim (passes d) as (λ b. AllByRecursion p (cond b (d ∷ filter passes ds) (filter passes ds))) [ true ↦ (all.0, others) | false ↦ others ]

pub distinct-filter : (passes : Definition → Bool) (ds : List Definition) → AreDistinct ds → AreDistinct (filter passes ds)
distinct-filter passes [] distinct = tt
distinct-filter passes (d ∷ ds) distinct =
    let others = distinct-filter passes ds distinct.1 in
    elim (passes d) as (λ b. AreDistinct (cond b (d ∷ filter passes ds) (filter passes ds))) [ true ↦ (all-filter (IsBelow d) passes ds distinct.0, others) | false ↦ others ]

-- ---- inserting a table

second : (a b : Bool) → (a && b) ≡ true → b ≡ true
second true b h = h
second false b h = let bad : false ≡ true = h in absurd cc

-- a table that a definition keeps has another id and another name
pub lives_apart : (new d : Definition) → outlives new d ≡ true → (d.id ≢ new.id) × (d.name ≢ new.name)
lives_apart new d lives = (λ same. ids same, λ same. names same)
  where
    ids : d.id ≡ new.id → ⊥
    ids same = let bad : false ≡ true = sym (rw (eq-eqb d.id new.id same) refl) ∙ lives in absurd cc

    names : d.name ≡ new.name → ⊥
    names same =
        let unlike : not (is_same_name d.name new.name) ≡ true = second (not (eqb d.id new.id)) (not (is_same_name d.name new.name)) lives in
        let like : is_same_name d.name new.name ≡ true = subst (λ (n : List ℕ). is_same_name d.name n ≡ true) same (same_name d.name) in
        let bad : false ≡ true = sym (ap not like) ∙ unlike in
        absurd cc

abbrev pub AllOutlive : Definition → List Definition → Type 0
AllOutlive new ds = AllByRecursion (λ d. outlives new d ≡ true) ds

all_outlive : (new : Definition) (ds : List Definition) → AllOutlive new (filter (outlives new) ds)
all_outlive new [] = tt
all_outlive new (d ∷ ds) = at (outlives new d) refl (all_outlive new ds)
  where
    at : (b : Bool) → outlives new d ≡ b → AllOutlive new (filter (outlives new) ds) → AllOutlive new (cond b (d ∷ filter (outlives new) ds) (filter (outlives new) ds))
    at true e rest = (e, rest)
    at false e rest = rest

all-insert : (p : Definition → Type 0) (new : Definition) (ds : List Definition) → p new → AllByRecursion p ds → AllByRecursion p (insert_table new ds)
all-insert p new [] is all = (is, tt)
all-insert p new (d ∷ ds) is all =
    elim (nat_lt new.id d.id) as (λ b. AllByRecursion p (cond b (new ∷ (d ∷ ds)) (d ∷ insert_table new ds))) [ true ↦ (is, all) | false ↦ (all.0, all-insert p new ds is all.1) ]

-- tables above a table that is above a new one are above the new one too
all_above : (new d : Definition) (ds : List Definition) → new.id < d.id → AllByRecursion (IsBelow d) ds → AllOutlive new ds → AllByRecursion (IsBelow new) ds
all_above new d [] lt above live = tt
all_above new d (x ∷ xs) lt above live =
    let first : d.id < x.id = above.0.0 in
    let unlike = lives_apart new x live.0 in
    ((omega arith, λ same. unlike.1 (sym same)), all_above new d xs lt above.1 live.1)

distinct-insert : (new : Definition) (ds : List Definition) → AreDistinct ds → AllOutlive new ds → AreDistinct (insert_table new ds)
distinct-insert new [] distinct live = (tt, tt)
distinct-insert new (d ∷ ds) distinct live =
    let unlike = lives_apart new d live.0 in
    elim (cases_lt new.id d.id) [
      | inl lt ↦ rw (lt-ltb new.id d.id lt) (((lt, λ same. unlike.1 (sym same)), all_above new d ds lt distinct.0 live.1), distinct)
      | inr le ↦
          let other : d.id ≡ new.id → ⊥ = unlike.0 in
          let below : d.id < new.id = omega arith in
          rw (le-ltb new.id d.id le) (all-insert (IsBelow d) new ds (below, unlike.1) distinct.0, distinct-insert new ds distinct.1 live.1)
    ]

-- ---- the tables received

pub distinct-defined : (new : Definition) (ds : List Definition) → AreDistinct ds → AreDistinct (defined new ds)
distinct-defined new ds distinct = distinct-insert new (filter (outlives new) ds) (distinct-filter (outlives new) ds distinct) (all_outlive new ds)

pub distinct-received : (h : Received) (m : Message) → AreDistinct h.tables → AreDistinct (received_after h m).tables
distinct-received h (messages.Define d) distinct = distinct-defined d h.tables distinct
distinct-received h (messages.Control c) distinct = distinct
distinct-received h (messages.Error e) distinct = distinct
distinct-received h (messages.Switch id) distinct = distinct
distinct-received h (messages.Ack table number) distinct = distinct
distinct-received h (messages.Update u) distinct = distinct
distinct-received h (messages.Other o) distinct = distinct

distinct-with : (roster ds : List Definition) (id : ℕ) → AreDistinct ds → AreDistinct (with_own roster ds id)
distinct-with roster ds id distinct = at (table_at roster id) refl
  where
    at : (o : Option Definition) → table_at roster id ≡ o → AreDistinct (with_own roster ds id)
    at None e = rw e distinct
    at (Some d) e = rw e (distinct-defined d ds distinct)

distinct-fold : (roster : List Definition) (ids : List ℕ) (ds : List Definition) → AreDistinct ds → AreDistinct (fold (with_own roster) ds ids)
distinct-fold roster [] ds distinct = distinct
distinct-fold roster (id ∷ ids) ds distinct = distinct-fold roster ids (with_own roster ds id) (distinct-with roster ds id distinct)

pub distinct-resumed : (roster : List Definition) (ids : List ℕ) (selected : Option ℕ) → AreDistinct (resumed roster ids selected).tables
distinct-resumed roster ids selected = distinct-fold roster ids [] tt

pub distinct-own : (roster : List Definition) (h : Received) → AreDistinct h.tables → AreDistinct (own_part roster h).tables
distinct-own roster h distinct = distinct-filter (is_own roster) h.tables distinct
