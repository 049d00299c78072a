-- What is read of more and more lines.
use Rattle.std.proofs.Common.{◌≡◌, ◌∙◌, ◌+◌, ◌<◌, ◌≤◌, ◌++◌, ap, append_assoc, arith, drop, get_or, inl, inr, length, List, [], ◌∷◌, map, refl, subst, sym, take, true, true≢false, ℕ}
use Rattle.std.specs.Prelude.{Err, IfSome, None, Ok, Option, Result}
use Rattle.std.specs.declared.alloc.Global.{Global}
use Rattle.std.specs.declared.vec.Vec.{Vec}
use Rattle.std.proofs.lemmas.List.{append-nil, length-append, map-append, take-append-drop}
use Rattle.table_types.specs.Rosters.{has_id, has_name}
use Rattle.admin_text.specs.Addresses.{IsAddress, IsLocal}
use Rattle.admin_text.specs.Lines.{IsRead}
use Rattle.admin_text.specs.Readings.{AreRead, IsFirst, IsNoted}
use Rattle.admin_text.specs.Refusals.{AreFaultsOf, head_of}
use Rattle.admin_text.specs.SaidLines.{AreLines}
use Rattle.admin_text.specs.Peers.{AreNamed, IsLabel, names_of}
use Rattle.admin_text.specs.Peers.{has_name as has_peer_name}
use Rattle.admin_text.specs.SoFar.{AreAdded, ComesFrom, HasNeeded, IsAdded, IsFresh, IsSoFar}
use Rattle.admin_text.specs.Sockets.{is_path}
use Rattle.admin_text.specs.Statements.{Said, said_by}
use Rattle.admin_text.specs.TableSettings.{AreTables, definitions}
use Rattle.admin_text.specs.declared.faults.Fault.{Fault}
use Rattle.admin_text.specs.declared.faults.FaultyLine.{FaultyLine}
use Rattle.admin_text.specs.declared.readings.Reading.{Reading}
use Rattle.admin_text.specs.declared.settings.Setting.{Setting}
use Rattle.admin_text.specs.declared.so_far.ConfigurationSoFar.{ConfigurationSoFar}
use Rattle.admin_text.specs.declared.statements.Statement.{Statement}
use Rattle.admin_text.proofs.KindLaws.{has_kind}
use Rattle.admin_text.proofs.LineFacts.{kind_in, line_facts}
use Rattle.admin_text.proofs.PlaceLaws.{taken_more}
use Rattle.admin_text.proofs.RefusalLaws.{faults_more, next_lines}
use Rattle.admin_text.proofs.SoFarLaws.{comes_on, needed_on, same_come, valid_on}

-- what is read of all these lines
pub record Reads (lines : List Said) (r : Reading) : Type 0 where
  pub valid : IsSoFar r.so_far
  pub comes : ComesFrom lines r.so_far
  pub faults : AreFaultsOf [] lines r.faults.items
  pub said : AreLines (map head_of r.faults.items) r.said.items
  pub needed : r.faults.items ≡ [] → HasNeeded lines r.so_far
  pub added : r.faults.items ≡ [] → (fresh : ConfigurationSoFar) × IsFresh fresh × AreAdded [] lines fresh r.so_far

-- ---- no line

fresh_names : (s : ConfigurationSoFar) → IsFresh s → names_of s.node s.peers.items ≡ []
fresh_names s fresh =
    ap (λ (n : Option (List ℕ)). names_of n s.peers.items) fresh.node ∙ ap (λ ps. names_of None ps) fresh.peers

fresh_definitions : (s : ConfigurationSoFar) → IsFresh s → definitions s.tables.items ≡ []
fresh_definitions s fresh = ap definitions fresh.tables

pub fresh_valid : (s : ConfigurationSoFar) → IsFresh s → IsSoFar s
fresh_valid s fresh = record {
  named =
      subst (λ (n : Option (List ℕ)). AreNamed n s.peers.items) (sym fresh.node)
      (subst (AreNamed None) (sym fresh.peers) (record { own = tt; most = omega arith; each = tt; apart = refl }));
  listen = subst (λ a. IfSome a IsAddress) (sym fresh.listen) tt;
  admin = subst (λ x. IfSome x (λ a. IsAddress a × IsLocal a)) (sym fresh.admin) tt;
  admin_socket = subst (λ (x : Option (Vec ℕ Global)). IfSome x (λ path. is_path path.items ≡ true)) (sym fresh.admin_socket) tt;
  metrics = subst (λ a. IfSome a IsAddress) (sym fresh.metrics) tt;
  section = subst (λ n. IfSome n IsLabel) (sym fresh.section) tt;
  tables = subst AreTables (sym fresh.tables) (record { most = omega arith; ids = refl; names = refl; each = tt });
}

fresh_comes : (s : ConfigurationSoFar) → IsFresh s → ComesFrom [] s
fresh_comes s fresh = record {
  names = λ name has. absurd (true≢false (sym has ∙ ap (has_peer_name name) (fresh_names s fresh)));
  peers = let none = ap length fresh.peers in omega (arith, none);
  ids = λ id has. absurd (true≢false (sym has ∙ ap (has_id id) (fresh_definitions s fresh)));
  table_names = λ name has. absurd (true≢false (sym has ∙ ap (has_name name) (fresh_definitions s fresh)));
  tables = let none = ap length fresh.tables in omega (arith, none);
}

fresh_needed : (s : ConfigurationSoFar) → HasNeeded [] s
fresh_needed s = record { node = λ there. absurd (cc); listen = λ there. absurd (cc); tables = λ there. absurd (cc) }

pub reads_none : (r : Reading) → IsFirst r → Reads [] r
reads_none r first = record {
  valid = fresh_valid r.so_far first.so_far;
  comes = fresh_comes r.so_far first.so_far;
  faults = first.faults;
  said = subst (λ found. AreLines (map head_of found) r.said.items) (sym first.faults) first.said;
  needed = λ none. fresh_needed r.so_far;
  added = λ none. (r.so_far, first.so_far, refl);
}

-- ---- one more line

some_more : (found : List FaultyLine) (line : FaultyLine) → found ++ line ∷ [] ≡ [] → ⊥
some_more [] line is = cc
some_more (first ∷ found) line is = cc

-- what one line more says is added
added_on : (before lines : List Said) (line : Said) (setting : Setting) (s m e : ConfigurationSoFar) → AreAdded before lines s m
    → IsRead (before ++ lines) line.1 (Ok setting) → IsAdded setting m e → AreAdded before (lines ++ line ∷ []) s e
added_on before [] line setting s m e none read adds = (
  setting,
  e,
  subst (λ said. IsRead said line.1 (Ok setting)) (append-nil before) read,
  subst (λ x. IsAdded setting x e) none adds,
  refl,
)
added_on before (first ∷ lines) line setting s m e (one, next, is, added, rest) read adds = (
  one,
  next,
  is,
  added,
  added_on (before ++ first ∷ []) lines line setting next m e rest
      (subst (λ said. IsRead said line.1 (Ok setting)) (sym (append_assoc before (first ∷ []) lines)) read) adds,
)

reads_on : (lines : List Said) (line : Said) (outcome : Result Setting Fault) (r e : Reading) → Reads lines r → IsRead lines line.1 outcome
    → IsNoted line.0 outcome r e → Reads (lines ++ line ∷ []) e
reads_on lines line (Ok setting) r e so_far read (added, faults, said) =
    let (word, rest, same, of, facts) = line_facts lines line.1 setting read in
    let found : e.faults.items ≡ r.faults.items = ap (λ (v : Vec FaultyLine Global). v.items) faults in
    let text : e.said.items ≡ r.said.items = ap (λ (v : Vec ℕ Global). v.items) said in
    record {
      valid = valid_on lines setting r.so_far e.so_far rest facts added so_far.comes so_far.valid;
      comes = comes_on lines line setting r.so_far e.so_far word rest same (has_kind line.1 (kind_in setting) of) facts added so_far.comes;
      faults =
          subst (AreFaultsOf [] (lines ++ line ∷ [])) (append-nil r.faults.items ∙ sym found)
          (faults_more [] lines line (Ok setting) r.faults.items so_far.faults read);
      said =
          subst (λ all. AreLines (map head_of all) e.said.items) (sym found)
          (subst (AreLines (map head_of r.faults.items)) (sym text) so_far.said);
      needed = λ none. needed_on lines line setting r.so_far e.so_far of added (so_far.needed (sym found ∙ none));
      added =
          λ none.
          let (fresh, is, adds) = so_far.added (sym found ∙ none) in
          (fresh, is, added_on [] lines line setting fresh r.so_far e.so_far adds read added);
    }
reads_on lines line (Err fault) r e so_far read (same, pushed, said) =
    let one : FaultyLine = record { number = line.0; fault = fault } in
    record {
      valid = subst IsSoFar (sym same) so_far.valid;
      comes =
          subst (ComesFrom (lines ++ line ∷ [])) (sym same) (same_come lines line r.so_far r.so_far so_far.comes refl refl refl refl);
      faults =
          subst (AreFaultsOf [] (lines ++ line ∷ [])) (sym pushed) (faults_more [] lines line (Err fault) r.faults.items so_far.faults read);
      said =
          subst (λ heads. AreLines heads e.said.items) (sym (ap (map head_of) pushed ∙ map-append head_of r.faults.items (one ∷ [])))
          (next_lines (map head_of r.faults.items) (head_of one) r.said.items e.said.items said so_far.said);
      needed = λ none. absurd (some_more r.faults.items one (sym pushed ∙ none));
      added = λ none. absurd (some_more r.faults.items one (sym pushed ∙ none));
    }

-- ---- as the code has the lines

pub reads_next : (lines : List Statement) (i : ℕ) (s : Statement) (outcome : Result Setting Fault) (r e : Reading) → i < length lines
    → s ≡ get_or lines i s → Reads (map said_by (take i lines)) r
    → IsRead (map said_by (take i lines)) (map (λ word. word.now) s.words.items) outcome → IsNoted s.number outcome r e
    → Reads (map said_by (take (i + 1) lines)) e
reads_next lines i s outcome r e less is so_far read noted =
    subst (λ some. Reads some e) (sym (taken_more lines i s less is))
    (reads_on (map said_by (take i lines)) (said_by s) outcome r e so_far read noted)

-- all lines, or as many as it takes to find twenty faults
pub read_all : (lines : List Statement) (r : Reading) → Reads (map said_by lines) r → length r.faults.items ≤ 20 → AreRead (map said_by lines) r
read_all lines r all most = record {
  so_far = all.valid;
  faults = (map said_by lines, [], sym (append-nil (map said_by lines)), all.faults, inl refl);
  most = most;
  said = all.said;
  needed = all.needed;
  added = all.added;
}

not_none : (found : List FaultyLine) → length found ≡ 20 → found ≡ [] → ⊥
not_none found many none = let few : length found ≡ 0 = ap length none in omega (arith, many, few)

pub read_some : (lines : List Statement) (n : ℕ) (r : Reading) → Reads (map said_by (take n lines)) r → length r.faults.items ≡ 20
    → AreRead (map said_by lines) r
read_some lines n r some many = record {
  so_far = some.valid;
  faults = (
    map said_by (take n lines),
    map said_by (drop n lines),
    ap (map said_by) (sym (take-append-drop n lines)) ∙ map-append said_by (take n lines) (drop n lines),
    some.faults,
    inr many,
  );
  most = omega (arith, many);
  said = some.said;
  needed = λ none. absurd (not_none r.faults.items many none);
  added = λ none. absurd (not_none r.faults.items many none);
}

pub one_more : (number : ℕ) (outcome : Result Setting Fault) (r e : Reading) → IsNoted number outcome r e → length r.faults.items < 20
    → length e.faults.items ≤ 20
one_more number (Ok setting) r e (added, faults, said) few =
    let same : length e.faults.items ≡ length r.faults.items = ap (λ (v : Vec FaultyLine Global). length v.items) faults in
    omega (arith, same, few)
one_more number (Err fault) r e (same, pushed, said) few =
    let long = ap length pushed ∙ length-append r.faults.items (record { number = number; fault = fault } ∷ []) in
    omega (arith, long, few)
