-- Resuming from the ids that a known state has received gives what it has received.
use Rattle.std.proofs.Common.{◌≡◌, ◌≢◌, ℕ, ◌<◌, ◌≤◌, Bool, true, false, List, [], ◌∷◌, ◌++◌, refl, sym, ap, subst, ◌∙◌, append_assoc, arith}
use Rattle.std.specs.Prelude.{filter, fold, map}
use Rattle.std.specs.List.{AllByRecursion}
use Rattle.std.specs.Cmp.Lexicographic.{same_text}
use Rattle.std.proofs.lemmas.Bool.{ne_eqb, le-ltb}
use Rattle.std.proofs.lemmas.List.{append-nil}
use Rattle.table_types.specs.Tables.{Definition}
use Rattle.table_types.specs.Rosters.{is_same_name}
use Rattle.peers_msg.specs.Received.{IsBelow, AreDistinct, insert_table, outlives, with_own, resumed}
use Rattle.known_state.specs.Known.{KnownState, AreOwn}

-- tables that are all below the given one
abbrev AreBelow : Definition → List Definition → Type 0
AreBelow d ds = AllByRecursion (λ x. IsBelow x d) ds

unlike : (a b : List ℕ) → a ≢ b → is_same_name a b ≡ false
unlike a b other = at (is_same_name a b) refl
  where
    at : (same : Bool) → is_same_name a b ≡ same → is_same_name a b ≡ false
    at true e = absurd (other (same_text a b (sym e)))
    at false e = e

-- they outlive its definition
all_live : (d : Definition) (ds : List Definition) → AreBelow d ds → filter (outlives d) ds ≡ ds
all_live d [] below = refl
all_live d (x ∷ xs) below =
    let lt : x.id < d.id = below.0.0 in
    let apart : x.id ≡ d.id → ⊥ = λ same. omega arith in
    let lives : outlives d x ≡ true = rw (ne_eqb x.id d.id apart, unlike x.name d.name below.0.1) refl in
    rw lives (ap (λ (ts : List Definition). x ∷ ts) (all_live d xs below.1))

-- and it comes after them
goes_last : (d : Definition) (ds : List Definition) → AreBelow d ds → insert_table d ds ≡ ds ++ (d ∷ [])
goes_last d [] below = refl
goes_last d (x ∷ xs) below =
    let lt : x.id < d.id = below.0.0 in
    let le : x.id ≤ d.id = omega arith in
    rw (le-ltb d.id x.id le) (ap (λ (ts : List Definition). x ∷ ts) (goes_last d xs below.1))

one_of : (p : Definition → Type 0) (xs : List Definition) (d : Definition) (ds : List Definition) → AllByRecursion p (xs ++ (d ∷ ds)) → p d
one_of p [] d ds all = all.0
one_of p (x ∷ xs) d ds all = one_of p xs d ds all.1

-- a table is above those before it
all_below : (xs : List Definition) (d : Definition) (ds : List Definition) → AreDistinct (xs ++ (d ∷ ds)) → AreBelow d xs
all_below [] d ds distinct = tt
all_below (x ∷ xs) d ds distinct = (one_of (IsBelow x) xs d ds distinct.0, all_below xs d ds distinct.1)

resumed_so : (roster before ds : List Definition) → AreOwn roster ds → AreDistinct (before ++ ds) → fold (with_own roster) before (map (λ d. d.id) ds) ≡ before ++ ds
resumed_so roster before [] own distinct = sym (append-nil before)
resumed_so roster before (d ∷ ds) own distinct =
    let below : AreBelow d before = all_below before d ds distinct in
    let put : with_own roster before d.id ≡ before ++ (d ∷ []) = rw own.0 (ap (insert_table d) (all_live d before below) ∙ goes_last d before below) in
    let grouped : (before ++ (d ∷ [])) ++ ds ≡ before ++ (d ∷ ds) = simp append_assoc in
    let later = resumed_so roster (before ++ (d ∷ [])) ds own.1 (subst AreDistinct (sym grouped) distinct) in
    ap (λ (ts : List Definition). fold (with_own roster) ts (map (λ x. x.id) ds)) put ∙ later ∙ grouped

pub gives_back : (k : KnownState) → AreOwn k.roster k.state.received.tables → AreDistinct k.state.received.tables → resumed k.roster (map (λ d. d.id) k.state.received.tables) k.state.received.selected ≡ k.state.received
gives_back k own distinct =
    ap (λ (ds : List Definition). record { tables = ds; selected = k.state.received.selected }) (resumed_so k.roster [] k.state.received.tables own distinct)
