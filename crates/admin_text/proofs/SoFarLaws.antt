-- What the lines have come to, one line more.
use Rattle.std.proofs.Common.{◌≡◌, ◌∙◌, ◌<◌, ◌≤◌, ◌-◌, ◌^◌, ◌++◌, ◌==◌, Bool, true, false, true≢false, inl, inr, ℕ, List, [], ◌∷◌, ap, arith, length, refl, subst, sym}
use Rattle.std.specs.Prelude.{◌⊎◌, IfSome, None, Option, Some, if◌then◌else◌, is_some, nat_le, option_map}
use Rattle.std.specs.Fmt.{decimal}
use Rattle.std.specs.Option.{option_or}
use Rattle.std.proofs.lemmas.Bool.{eqb-true, leb-false}
use Rattle.std.proofs.lemmas.Slice.Eq.{bytes_eq-Decides}
use Rattle.std.proofs.lemmas.List.{length-append}
use Rattle.std.specs.declared.net.socket_addr.SocketAddr.{SocketAddr}
use Rattle.std.specs.declared.vec.Vec.{Vec}
use Rattle.std.specs.declared.alloc.Global.{Global}
use Rattle.table_types.specs.Names.{is_name}
use Rattle.table_types.specs.Rosters.{has_id, has_name, is_same_name}
use Rattle.table_types.specs.Tables.{Definition, is_definition}
use Rattle.node_text.specs.Names.{may_name}
use Rattle.node_text.specs.Numbers.{from_one, number_of}
use Rattle.admin_text.specs.Before.{count_of, line_of, line_with}
use Rattle.admin_text.specs.LineKinds.{is_of_kind, kind_of, line_word}
use Rattle.admin_text.specs.NameFaults.{is_label}
use Rattle.admin_text.specs.PeerLines.{named_line, peers_fault}
use Rattle.admin_text.specs.Peers.{AreNamed, IsLabel, IsPeer, names_of}
use Rattle.admin_text.specs.Peers.{has_name as has_peer_name}
use Rattle.admin_text.specs.SoFar.{ComesFrom, HasNeeded, IsAdded, IsSoFar}
use Rattle.admin_text.specs.Sockets.{is_path}
use Rattle.admin_text.specs.Statements.{Said}
use Rattle.admin_text.specs.TableLines.{many_fault, place_fault, taken_id, taken_name}
use Rattle.admin_text.specs.TableSettings.{AreTables, IsTableSetting, definitions}
use Rattle.admin_text.specs.declared.faults.Fault.{Fault}
use Rattle.admin_text.specs.declared.faults.Fault.TheVariants as faults
use Rattle.admin_text.specs.declared.faults.TableFault.TheVariants as tables
use Rattle.admin_text.specs.declared.line_kinds.LineKind.{LineKind}
use Rattle.admin_text.specs.declared.line_kinds.LineKind.TheVariants as kinds
use Rattle.admin_text.specs.declared.peers.Peer.{Peer}
use Rattle.admin_text.specs.declared.settings.Setting.{Setting}
use Rattle.admin_text.specs.declared.settings.Setting.TheVariants as settings
use Rattle.admin_text.specs.declared.so_far.ConfigurationSoFar.{ConfigurationSoFar}
use Rattle.admin_text.specs.declared.table_settings.TableSetting.{TableSetting}
use Rattle.admin_text.proofs.KindLaws.{count_more, count_one, has_there, has_third, listen_line, node_line, not_of, now_there, only_before, still_there, table_line}
use Rattle.admin_text.proofs.LineFacts.{Facts, and_parts, kind_in, number_within}
use Rattle.admin_text.proofs.OutcomeLaws.{neither_fault}
use Rattle.admin_text.proofs.NumberWords.{written_from_one}
use Rattle.admin_text.proofs.PeerNames.{named_node, named_peer, node_set, peer_pushed}
use Rattle.admin_text.proofs.Tables.{all_definitions, id_of_last, kept_same, long_kept, long_sized, name_of_last, rows_same, table_pushed, tables_kept, tables_sized}

-- ---- one of two

either_line : (a b : Option ℕ) → is_some (option_or a b) ≡ true → (is_some a ≡ true) ⊎ (is_some b ≡ true)
either_line None b is = inr is
either_line (Some line) b is = inl refl

first_line : (a b : Option ℕ) → is_some a ≡ true → is_some (option_or a b) ≡ true
first_line None b is = absurd (cc)
first_line (Some line) b is = refl

second_line : (a b : Option ℕ) → is_some b ≡ true → is_some (option_or a b) ≡ true
second_line None b is = is
second_line (Some line) b is = refl

no_line : (line : Option ℕ) → line ≡ None → is_some line ≡ true → ⊥
no_line line none some = true≢false (sym some ∙ ap (λ (l : Option ℕ). is_some l) none)

not_true : (b : Bool) → (b ≡ true → ⊥) → b ≡ false
not_true true never = absurd (never refl)
not_true false never = refl

-- ---- names that lines give

still_either : (lines : List Said) (line : Said) (name : List ℕ)
    → ((is_some (line_with kinds.Node 1 name lines) ≡ true) ⊎ (is_some (line_with kinds.Peer 1 name lines) ≡ true))
    → is_some (named_line (lines ++ line ∷ []) name) ≡ true
still_either lines line name (inl is) = first_line _ _ (still_there kinds.Node 1 name lines line is)
still_either lines line name (inr is) = second_line _ _ (still_there kinds.Peer 1 name lines line is)

still_named : (lines : List Said) (line : Said) (name : List ℕ) → is_some (named_line lines name) ≡ true
    → is_some (named_line (lines ++ line ∷ []) name) ≡ true
still_named lines line name is = still_either lines line name (either_line _ _ is)

-- the names so far are distinct from one that no line gives
free_name : (lines : List Said) (s : ConfigurationSoFar) (name : List ℕ) → ComesFrom lines s → named_line lines name ≡ None
    → has_peer_name name (names_of s.node s.peers.items) ≡ false
free_name lines s name comes none = not_true _ (λ has. no_line (named_line lines name) none (comes.names name has))

free_id : (lines : List Said) (s : ConfigurationSoFar) (id : ℕ) → ComesFrom lines s → line_with kinds.Table 1 (decimal id) lines ≡ None
    → has_id id (definitions s.tables.items) ≡ false
free_id lines s id comes none = not_true _ (λ has. no_line _ none (comes.ids id has))

free_table_name : (lines : List Said) (s : ConfigurationSoFar) (name : List ℕ) → ComesFrom lines s → line_with kinds.Table 2 name lines ≡ None
    → has_name name (definitions s.tables.items) ≡ false
free_table_name lines s name comes none = not_true _ (λ has. no_line _ none (comes.table_names name has))

-- ---- where names and ids come from

-- a line that changes neither names nor tables
pub same_come : (lines : List Said) (line : Said) (s e : ConfigurationSoFar) → ComesFrom lines s → e.node ≡ s.node
    → e.peers.items ≡ s.peers.items → definitions e.tables.items ≡ definitions s.tables.items → length e.tables.items ≡ length s.tables.items
    → ComesFrom (lines ++ line ∷ []) e
same_come lines line s e comes node peers tables long =
    let more_peers = count_more kinds.Peer lines line in
    let more_tables = count_more kinds.Table lines line in
    let some_peers = comes.peers in
    let some_tables = comes.tables in
    let long_peers = ap length peers in
    record {
      names =
          λ name has.
          still_named lines line name
          (comes.names name
          (subst (λ n. has_peer_name name (names_of n s.peers.items) ≡ true) node
          (subst (λ ps. has_peer_name name (names_of e.node ps) ≡ true) peers has)));
      peers = omega (arith, some_peers, more_peers, long_peers);
      ids = λ id has. still_there kinds.Table 1 (decimal id) lines line (comes.ids id (subst (λ ds. has_id id ds ≡ true) tables has));
      table_names = λ name has. still_there kinds.Table 2 name lines line (comes.table_names name (subst (λ ds. has_name name ds ≡ true) tables has));
      tables = omega (arith, some_tables, more_tables, long);
    }

-- the node's name
node_gives : (lines : List Said) (line : Said) (s : ConfigurationSoFar) (own name word : List ℕ) (rest : List (List ℕ)) → ComesFrom lines s
    → is_of_kind kinds.Node line.1 ≡ true → line.1 ≡ word ∷ (own ∷ rest)
    → ((is_same_name own name ≡ true) ⊎ (has_peer_name name (names_of s.node s.peers.items) ≡ true))
    → is_some (named_line (lines ++ line ∷ []) name) ≡ true
node_gives lines line s own name word rest comes of same (inl is) =
    first_line _ _ (now_there kinds.Node 1 name lines line (has_there kinds.Node line.1 word own name rest same of is))
node_gives lines line s own name word rest comes of same (inr has) = still_named lines line name (comes.names name has)

node_comes : (lines : List Said) (line : Said) (s : ConfigurationSoFar) (own word : List ℕ) (rest : List (List ℕ)) → ComesFrom lines s
    → is_of_kind kinds.Node line.1 ≡ true → line.1 ≡ word ∷ (own ∷ rest) → ComesFrom (lines ++ line ∷ []) (record s { node = Some own })
node_comes lines line s own word rest comes of same =
    let more_peers = count_more kinds.Peer lines line in
    let more_tables = count_more kinds.Table lines line in
    let some_peers = comes.peers in
    let some_tables = comes.tables in
    record {
      names = λ name has. node_gives lines line s own name word rest comes of same (named_node name own s.node s.peers.items has);
      peers = omega (arith, some_peers, more_peers);
      ids = λ id has. still_there kinds.Table 1 (decimal id) lines line (comes.ids id has);
      table_names = λ name has. still_there kinds.Table 2 name lines line (comes.table_names name has);
      tables = omega (arith, some_tables, more_tables);
    }

-- a peer
peer_gives : (lines : List Said) (line : Said) (s : ConfigurationSoFar) (own name word : List ℕ) (rest : List (List ℕ)) → ComesFrom lines s
    → is_of_kind kinds.Peer line.1 ≡ true → line.1 ≡ word ∷ (own ∷ rest)
    → ((is_same_name own name ≡ true) ⊎ (has_peer_name name (names_of s.node s.peers.items) ≡ true))
    → is_some (named_line (lines ++ line ∷ []) name) ≡ true
peer_gives lines line s own name word rest comes of same (inl is) =
    second_line _ _ (now_there kinds.Peer 1 name lines line (has_there kinds.Peer line.1 word own name rest same of is))
peer_gives lines line s own name word rest comes of same (inr has) = still_named lines line name (comes.names name has)

peer_comes : (lines : List Said) (line : Said) (s e : ConfigurationSoFar) (p : Peer) (word : List ℕ) (rest : List (List ℕ)) → ComesFrom lines s
    → is_of_kind kinds.Peer line.1 ≡ true → line.1 ≡ word ∷ (p.name ∷ rest) → e ≡ record s { peers = e.peers }
    → e.peers.items ≡ s.peers.items ++ p ∷ [] → ComesFrom (lines ++ line ∷ []) e
peer_comes lines line s e p word rest comes of same is pushed =
    let more_tables = count_more kinds.Table lines line in
    let some_tables = comes.tables in
    let one_peer = count_one kinds.Peer lines line of in
    let some_peers = comes.peers in
    let long = ap length pushed ∙ length-append s.peers.items (p ∷ []) in
    subst (ComesFrom (lines ++ line ∷ [])) (sym is) (record {
      names =
          λ name has.
          peer_gives lines line s p.name name word rest comes of same
          (named_peer name s.node s.peers.items p (subst (λ ps. has_peer_name name (names_of s.node ps) ≡ true) pushed has));
      peers = omega (arith, some_peers, one_peer, long);
      ids = λ id has. still_there kinds.Table 1 (decimal id) lines line (comes.ids id has);
      table_names = λ name has. still_there kinds.Table 2 name lines line (comes.table_names name has);
      tables = omega (arith, some_tables, more_tables);
    })

-- a table
id_gives : (lines : List Said) (line : Said) (s : ConfigurationSoFar) (d : Definition) (id : ℕ) (word : List ℕ) (rest : List (List ℕ))
    → ComesFrom lines s → is_of_kind kinds.Table line.1 ≡ true → line.1 ≡ word ∷ (decimal d.id ∷ (d.name ∷ rest))
    → (((d.id == id) ≡ true) ⊎ (has_id id (definitions s.tables.items) ≡ true))
    → is_some (line_with kinds.Table 1 (decimal id) (lines ++ line ∷ [])) ≡ true
id_gives lines line s d id word rest comes of same (inl is) =
    let one : d.id ≡ id = eqb-true d.id id is in
    now_there kinds.Table 1 (decimal id) lines line
    (has_there kinds.Table line.1 word (decimal d.id) (decimal id) (d.name ∷ rest) same of ((bytes_eq-Decides (decimal d.id) (decimal id)).1 (ap decimal one)))
id_gives lines line s d id word rest comes of same (inr has) = still_there kinds.Table 1 (decimal id) lines line (comes.ids id has)

name_gives : (lines : List Said) (line : Said) (s : ConfigurationSoFar) (d : Definition) (name id word : List ℕ) (rest : List (List ℕ))
    → ComesFrom lines s → is_of_kind kinds.Table line.1 ≡ true → line.1 ≡ word ∷ (id ∷ (d.name ∷ rest))
    → ((is_same_name d.name name ≡ true) ⊎ (has_name name (definitions s.tables.items) ≡ true))
    → is_some (line_with kinds.Table 2 name (lines ++ line ∷ [])) ≡ true
name_gives lines line s d name id word rest comes of same (inl is) =
    now_there kinds.Table 2 name lines line (has_third kinds.Table line.1 word id d.name name rest same of is)
name_gives lines line s d name id word rest comes of same (inr has) = still_there kinds.Table 2 name lines line (comes.table_names name has)

table_comes : (lines : List Said) (line : Said) (s e : ConfigurationSoFar) (t : TableSetting) (word : List ℕ) (rest : List (List ℕ)) → ComesFrom lines s
    → is_of_kind kinds.Table line.1 ≡ true → line.1 ≡ word ∷ (decimal t.definition.id ∷ (t.definition.name ∷ rest))
    → e ≡ record s { tables = e.tables } → e.tables.items ≡ s.tables.items ++ t ∷ [] → ComesFrom (lines ++ line ∷ []) e
table_comes lines line s e t word rest comes of same is pushed =
    let more_peers = count_more kinds.Peer lines line in
    let some_peers = comes.peers in
    let one_table = count_one kinds.Table lines line of in
    let some_tables = comes.tables in
    let long = ap length pushed ∙ length-append s.tables.items (t ∷ []) in
    let all : definitions e.tables.items ≡ definitions s.tables.items ++ t.definition ∷ [] = ap definitions pushed ∙ all_definitions s.tables.items t in
    subst (ComesFrom (lines ++ line ∷ [])) (sym is) (record {
      names = λ name has. still_named lines line name (comes.names name has);
      peers = omega (arith, some_peers, more_peers);
      ids =
          λ id has.
          id_gives lines line s t.definition id word rest comes of same
          (id_of_last id (definitions s.tables.items) t.definition (subst (λ ds. has_id id ds ≡ true) all has));
      table_names =
          λ name has.
          name_gives lines line s t.definition name (decimal t.definition.id) word rest comes of same
          (name_of_last name (definitions s.tables.items) t.definition (subst (λ ds. has_name name ds ≡ true) all has));
      tables = omega (arith, some_tables, one_table, long);
    })

id_written : (id word name : List ℕ) (n : ℕ) (line rest : List (List ℕ)) → line ≡ word ∷ (id ∷ (name ∷ rest))
    → from_one (number_of id (2 ^ 31 - 1)) ≡ Some n → line ≡ word ∷ (decimal n ∷ (name ∷ rest))
id_written id word name n line rest same is =
    same ∙ ap (λ w. word ∷ (w ∷ (name ∷ rest))) (written_from_one id (2 ^ 31 - 1) n (omega arith) is)

pub comes_on : (lines : List Said) (line : Said) (setting : Setting) (s e : ConfigurationSoFar) (word : List ℕ) (rest : List (List ℕ))
    → line.1 ≡ word ∷ rest → is_of_kind (kind_in setting) line.1 ≡ true → Facts lines rest setting → IsAdded setting s e → ComesFrom lines s
    → ComesFrom (lines ++ line ∷ []) e
comes_on lines line (settings.Node name) s e word rest same of (more, is, labelled, free) added comes =
    subst (ComesFrom (lines ++ line ∷ [])) (sym added)
    (node_comes lines line s name word more comes of (same ∙ ap (λ ws. word ∷ ws) is))
comes_on lines line (settings.Listen a) s e word rest same of facts added comes =
    subst (ComesFrom (lines ++ line ∷ [])) (sym added) (same_come lines line s (record s { listen = Some a }) comes refl refl refl refl)
comes_on lines line (settings.Admin a) s e word rest same of facts added comes =
    subst (ComesFrom (lines ++ line ∷ [])) (sym added) (same_come lines line s (record s { admin = Some a }) comes refl refl refl refl)
comes_on lines line (settings.Socket path) s e word rest same of facts (added, is) comes =
    subst (ComesFrom (lines ++ line ∷ [])) (sym added) (same_come lines line s (record s { admin_socket = e.admin_socket }) comes refl refl refl refl)
comes_on lines line (settings.Metrics a) s e word rest same of facts added comes =
    subst (ComesFrom (lines ++ line ∷ [])) (sym added) (same_come lines line s (record s { metrics = Some a }) comes refl refl refl refl)
comes_on lines line (settings.Section name) s e word rest same of facts added comes =
    subst (ComesFrom (lines ++ line ∷ [])) (sym added) (same_come lines line s (record s { section = Some name }) comes refl refl refl refl)
comes_on lines line (settings.Peer p) s e word rest same of (more, is, valid, free, few) (added, pushed) comes =
    peer_comes lines line s e p word more comes of (same ∙ ap (λ ws. word ∷ ws) is) added pushed
comes_on lines line (settings.Table d) s e word rest same of (id, more, is, number, labelled, free) (added, pushed, valid) comes =
    table_comes lines line s e (record { definition = d; size = None; nopurge = None }) word more comes of
    (id_written id word d.name d.id line.1 more (same ∙ ap (λ ws. word ∷ ws) is) number) added pushed
comes_on lines line (settings.Size None rows) s e word rest same of facts added comes =
    subst (ComesFrom (lines ++ line ∷ [])) (sym added) (same_come lines line s s comes refl refl refl refl)
comes_on lines line (settings.Size (Some id) rows) s e word rest same of facts (added, sized) comes =
    same_come lines line s e comes (ap (λ (x : ConfigurationSoFar). x.node) added) (ap (λ (x : ConfigurationSoFar). x.peers.items) added)
    (ap definitions sized ∙ rows_same id rows s.tables.items) (ap length sized ∙ long_sized id rows s.tables.items)
comes_on lines line (settings.Nopurge None) s e word rest same of facts added comes =
    subst (ComesFrom (lines ++ line ∷ [])) (sym added) (same_come lines line s s comes refl refl refl refl)
comes_on lines line (settings.Nopurge (Some id)) s e word rest same of facts (added, kept) comes =
    same_come lines line s e comes (ap (λ (x : ConfigurationSoFar). x.node) added) (ap (λ (x : ConfigurationSoFar). x.peers.items) added)
    (ap definitions kept ∙ kept_same id s.tables.items) (ap length kept ∙ long_kept id s.tables.items)
comes_on lines line (settings.Log level) s e word rest same of facts added comes =
    subst (ComesFrom (lines ++ line ∷ [])) (sym added) (same_come lines line s (record s { log = record s.log { level = level } }) comes refl refl refl refl)
comes_on lines line settings.Journal s e word rest same of facts added comes =
    subst (ComesFrom (lines ++ line ∷ [])) (sym added) (same_come lines line s (record s { log = record s.log { journal = true } }) comes refl refl refl refl)

-- ---- what has come keeps the rules

few_test : (b : Bool) (n most : ℕ) (fault : Fault) → nat_le most n ≡ b → (if b then Some fault else None) ≡ None → n < most
few_test true n most fault test is = absurd (cc)
few_test false n most fault test is = leb-false most n test

few_fault : (n most : ℕ) (fault : Fault) → (if nat_le most n then Some fault else None) ≡ None → n < most
few_fault n most fault is = few_test (nat_le most n) n most fault refl is

free_line_id : (line : Option ℕ) → taken_id line ≡ None → line ≡ None
free_line_id None is = refl
free_line_id (Some line) is = absurd (cc)

free_line_name : (line : Option ℕ) → taken_name line ≡ None → line ≡ None
free_line_name None is = refl
free_line_name (Some line) is = absurd (cc)

place_free : (lines : List Said) (id name : List ℕ) → place_fault lines id name ≡ None
    → (line_with kinds.Table 1 id lines ≡ None) × (line_with kinds.Table 2 name lines ≡ None) × (count_of kinds.Table lines < 64)
unfolding place_fault
place_free lines id name is =
    let by_id = taken_id (line_with kinds.Table 1 id lines) in
    let by_name = taken_name (line_with kinds.Table 2 name lines) in
    let first = neither_fault (option_or by_id by_name) (many_fault lines) is in
    let second = neither_fault by_id by_name first.0 in (
      free_line_id (line_with kinds.Table 1 id lines) second.0,
      free_line_name (line_with kinds.Table 2 name lines) second.1,
      few_fault (count_of kinds.Table lines) 64 (faults.Table tables.Many) first.1,
    )

named_with : (lines : List Said) (s : ConfigurationSoFar) (name : List ℕ) → ComesFrom lines s → IsSoFar s → IsLabel name → named_line lines name ≡ None
    → AreNamed (Some name) s.peers.items
named_with lines s name comes valid is free = node_set s.node s.peers.items name valid.named is (free_name lines s name comes free)

peer_with : (lines : List Said) (s : ConfigurationSoFar) (p : Peer) (items : List Peer) → ComesFrom lines s → IsSoFar s → IsPeer p
    → named_line lines p.name ≡ None → peers_fault lines ≡ None → items ≡ s.peers.items ++ p ∷ [] → AreNamed s.node items
peer_with lines s p items comes valid is free few pushed =
    let less = few_fault (count_of kinds.Peer lines) 15 faults.Peers few in
    let some = comes.peers in
    let long = length-append s.peers.items (p ∷ []) in
    subst (AreNamed s.node) (sym pushed)
    (peer_pushed s.node s.peers.items p valid.named is (free_name lines s p.name comes free) (omega (arith, less, some, long)))

table_with : (lines : List Said) (s : ConfigurationSoFar) (d : Definition) (id : List ℕ) (items : List TableSetting) → ComesFrom lines s → IsSoFar s
    → is_definition d ≡ true → from_one (number_of id (2 ^ 31 - 1)) ≡ Some d.id → is_label d.name ≡ true → place_fault lines id d.name ≡ None
    → items ≡ s.tables.items ++ record { definition = d; size = None; nopurge = None } ∷ [] → AreTables items
table_with lines s d id items comes valid is number labelled free pushed =
    let (id_free, name_free, few) = place_free lines id d.name free in
    let t : TableSetting = record { definition = d; size = None; nopurge = None } in
    let within = number_within id (2 ^ 31 - 1) d.id number in
    let most = within.1 in
    let names = and_parts (is_name d.name) (may_name d.name) labelled in
    let setting : IsTableSetting t = record { definition = is; id = omega (arith, most); name = names.1; size = tt } in
    let some = comes.tables in
    let long = length-append s.tables.items (t ∷ []) in
    let none : line_with kinds.Table 1 (decimal d.id) lines ≡ None
    = subst (λ w. line_with kinds.Table 1 w lines ≡ None) (written_from_one id (2 ^ 31 - 1) d.id (omega arith) number) id_free in
    subst AreTables (sym pushed)
    (table_pushed s.tables.items t valid.tables setting (free_id lines s d.id comes none) (free_table_name lines s d.name comes name_free)
    (omega (arith, few, some, long)))

path_is : (path : Option (Vec ℕ Global)) (bytes : List ℕ) → option_map (λ p. p.items) path ≡ Some bytes → is_path bytes ≡ true
    → IfSome path (λ p. is_path p.items ≡ true)
path_is None bytes is good = absurd (cc)
path_is (Some p) bytes is good = let same : p.items ≡ bytes = cc in subst (λ b. is_path b ≡ true) (sym same) good

pub valid_on : (lines : List Said) (setting : Setting) (s e : ConfigurationSoFar) (rest : List (List ℕ)) → Facts lines rest setting
    → IsAdded setting s e → ComesFrom lines s → IsSoFar s → IsSoFar e
valid_on lines (settings.Node name) s e rest (more, is, labelled, free) added comes valid =
    subst IsSoFar (sym added) (record {
      named = named_with lines s name comes valid labelled free;
      listen = valid.listen;
      admin = valid.admin;
      admin_socket = valid.admin_socket;
      metrics = valid.metrics;
      section = valid.section;
      tables = valid.tables;
    })
valid_on lines (settings.Listen a) s e rest facts added comes valid =
    subst IsSoFar (sym added) (record {
      named = valid.named;
      listen = facts;
      admin = valid.admin;
      admin_socket = valid.admin_socket;
      metrics = valid.metrics;
      section = valid.section;
      tables = valid.tables;
    })
valid_on lines (settings.Admin a) s e rest facts added comes valid =
    subst IsSoFar (sym added) (record {
      named = valid.named;
      listen = valid.listen;
      admin = facts;
      admin_socket = valid.admin_socket;
      metrics = valid.metrics;
      section = valid.section;
      tables = valid.tables;
    })
valid_on lines (settings.Socket path) s e rest facts (added, is) comes valid =
    subst IsSoFar (sym added) (record {
      named = valid.named;
      listen = valid.listen;
      admin = valid.admin;
      admin_socket = path_is e.admin_socket path is facts;
      metrics = valid.metrics;
      section = valid.section;
      tables = valid.tables;
    })
valid_on lines (settings.Metrics a) s e rest facts added comes valid =
    subst IsSoFar (sym added) (record {
      named = valid.named;
      listen = valid.listen;
      admin = valid.admin;
      admin_socket = valid.admin_socket;
      metrics = facts;
      section = valid.section;
      tables = valid.tables;
    })
valid_on lines (settings.Section name) s e rest facts added comes valid =
    subst IsSoFar (sym added) (record {
      named = valid.named;
      listen = valid.listen;
      admin = valid.admin;
      admin_socket = valid.admin_socket;
      metrics = valid.metrics;
      section = facts;
      tables = valid.tables;
    })
valid_on lines (settings.Peer p) s e rest (more, is, good, free, few) (added, pushed) comes valid =
    subst IsSoFar (sym added) (record {
      named = peer_with lines s p e.peers.items comes valid good free few pushed;
      listen = valid.listen;
      admin = valid.admin;
      admin_socket = valid.admin_socket;
      metrics = valid.metrics;
      section = valid.section;
      tables = valid.tables;
    })
valid_on lines (settings.Table d) s e rest (id, more, is, number, labelled, free) (added, pushed, good) comes valid =
    subst IsSoFar (sym added) (record {
      named = valid.named;
      listen = valid.listen;
      admin = valid.admin;
      admin_socket = valid.admin_socket;
      metrics = valid.metrics;
      section = valid.section;
      tables = table_with lines s d id e.tables.items comes valid good number labelled free pushed;
    })
valid_on lines (settings.Size None rows) s e rest facts added comes valid = subst IsSoFar (sym added) valid
valid_on lines (settings.Size (Some id) rows) s e rest facts (added, sized) comes valid =
    subst IsSoFar (sym added) (record {
      named = valid.named;
      listen = valid.listen;
      admin = valid.admin;
      admin_socket = valid.admin_socket;
      metrics = valid.metrics;
      section = valid.section;
      tables = subst AreTables (sym sized) (tables_sized id rows s.tables.items facts.0 facts.1 valid.tables);
    })
valid_on lines (settings.Nopurge None) s e rest facts added comes valid = subst IsSoFar (sym added) valid
valid_on lines (settings.Nopurge (Some id)) s e rest facts (added, kept) comes valid =
    subst IsSoFar (sym added) (record {
      named = valid.named;
      listen = valid.listen;
      admin = valid.admin;
      admin_socket = valid.admin_socket;
      metrics = valid.metrics;
      section = valid.section;
      tables = subst AreTables (sym kept) (tables_kept id s.tables.items valid.tables);
    })
valid_on lines (settings.Log level) s e rest facts added comes valid =
    subst IsSoFar (sym added) (record {
      named = valid.named;
      listen = valid.listen;
      admin = valid.admin;
      admin_socket = valid.admin_socket;
      metrics = valid.metrics;
      section = valid.section;
      tables = valid.tables;
    })
valid_on lines settings.Journal s e rest facts added comes valid =
    subst IsSoFar (sym added) (record {
      named = valid.named;
      listen = valid.listen;
      admin = valid.admin;
      admin_socket = valid.admin_socket;
      metrics = valid.metrics;
      section = valid.section;
      tables = valid.tables;
    })

-- ---- what has come that is needed

was_there : (kind : LineKind) (lines : List Said) (line : Said) (P : Type 0) → is_of_kind kind line.1 ≡ false → (is_some (line_of kind lines) ≡ true → P)
    → is_some (line_of kind (lines ++ line ∷ [])) ≡ true → P
was_there kind lines line P other was is = was (only_before kind 0 (line_word kind) lines line other is)

-- a line of a kind that isn't needed
needed_still : (lines : List Said) (line : Said) (kind : LineKind) (s e : ConfigurationSoFar) → kind_of line.1 ≡ Some kind → (kind ≡ kinds.Node → ⊥)
    → (kind ≡ kinds.Listen → ⊥) → (kind ≡ kinds.Table → ⊥) → e.node ≡ s.node → e.listen ≡ s.listen
    → length e.tables.items ≡ length s.tables.items → HasNeeded lines s → HasNeeded (lines ++ line ∷ []) e
needed_still lines line kind s e of no_node no_listen no_table node listen tables has = record {
  node =
      λ there.
      ap (λ (n : Option (List ℕ)). is_some n) node
      ∙ was_there kinds.Node lines line (is_some s.node ≡ true) (not_of kinds.Node kind line.1 (node_line line.1) of no_node) has.node there;
  listen =
      λ there.
      ap (λ (a : Option SocketAddr). is_some a) listen
      ∙ was_there kinds.Listen lines line (is_some s.listen ≡ true) (not_of kinds.Listen kind line.1 (listen_line line.1) of no_listen) has.listen there;
  tables =
      λ there.
      subst (λ n. 1 ≤ n) (sym tables)
      (was_there kinds.Table lines line (1 ≤ length s.tables.items) (not_of kinds.Table kind line.1 (table_line line.1) of no_table) has.tables there);
}

needed_node : (lines : List Said) (line : Said) (s : ConfigurationSoFar) (name : List ℕ) → kind_of line.1 ≡ Some kinds.Node → HasNeeded lines s
    → HasNeeded (lines ++ line ∷ []) (record s { node = Some name })
needed_node lines line s name of has = record {
  node = λ there. refl;
  listen =
      λ there.
      was_there kinds.Listen lines line (is_some s.listen ≡ true) (not_of kinds.Listen kinds.Node line.1 (listen_line line.1) of (λ same. absurd (cc)))
      has.listen there;
  tables =
      λ there.
      was_there kinds.Table lines line (1 ≤ length s.tables.items) (not_of kinds.Table kinds.Node line.1 (table_line line.1) of (λ same. absurd (cc)))
      has.tables there;
}

needed_listen : (lines : List Said) (line : Said) (s : ConfigurationSoFar) (a : SocketAddr) → kind_of line.1 ≡ Some kinds.Listen → HasNeeded lines s
    → HasNeeded (lines ++ line ∷ []) (record s { listen = Some a })
needed_listen lines line s a of has = record {
  node =
      λ there.
      was_there kinds.Node lines line (is_some s.node ≡ true) (not_of kinds.Node kinds.Listen line.1 (node_line line.1) of (λ same. absurd (cc)))
      has.node there;
  listen = λ there. refl;
  tables =
      λ there.
      was_there kinds.Table lines line (1 ≤ length s.tables.items) (not_of kinds.Table kinds.Listen line.1 (table_line line.1) of (λ same. absurd (cc)))
      has.tables there;
}

needed_table : (lines : List Said) (line : Said) (s e : ConfigurationSoFar) (t : TableSetting) → kind_of line.1 ≡ Some kinds.Table
    → e ≡ record s { tables = e.tables } → e.tables.items ≡ s.tables.items ++ t ∷ [] → HasNeeded lines s → HasNeeded (lines ++ line ∷ []) e
needed_table lines line s e t of is pushed has =
    let long = ap length pushed ∙ length-append s.tables.items (t ∷ []) in
    record {
      node =
          λ there.
          ap (λ (x : ConfigurationSoFar). is_some x.node) is
          ∙ was_there kinds.Node lines line (is_some s.node ≡ true) (not_of kinds.Node kinds.Table line.1 (node_line line.1) of (λ same. absurd (cc)))
          has.node there;
      listen =
          λ there.
          ap (λ (x : ConfigurationSoFar). is_some x.listen) is
          ∙ was_there kinds.Listen lines line (is_some s.listen ≡ true)
          (not_of kinds.Listen kinds.Table line.1 (listen_line line.1) of (λ same. absurd (cc))) has.listen there;
      tables = λ there. omega (arith, long);
    }

pub needed_on : (lines : List Said) (line : Said) (setting : Setting) (s e : ConfigurationSoFar) → kind_of line.1 ≡ Some (kind_in setting)
    → IsAdded setting s e → HasNeeded lines s → HasNeeded (lines ++ line ∷ []) e
needed_on lines line (settings.Node name) s e of added has = subst (HasNeeded (lines ++ line ∷ [])) (sym added) (needed_node lines line s name of has)
needed_on lines line (settings.Listen a) s e of added has = subst (HasNeeded (lines ++ line ∷ [])) (sym added) (needed_listen lines line s a of has)
needed_on lines line (settings.Table d) s e of (added, pushed, good) has =
    needed_table lines line s e (record { definition = d; size = None; nopurge = None }) of added pushed has
needed_on lines line (settings.Admin a) s e of added has =
    needed_still lines line kinds.Admin s e of (λ same. absurd (cc)) (λ same. absurd (cc)) (λ same. absurd (cc))
    (ap (λ (x : ConfigurationSoFar). x.node) added) (ap (λ (x : ConfigurationSoFar). x.listen) added) (ap (λ (x : ConfigurationSoFar). length x.tables.items) added) has
needed_on lines line (settings.Socket path) s e of (added, is) has =
    needed_still lines line kinds.Socket s e of (λ same. absurd (cc)) (λ same. absurd (cc)) (λ same. absurd (cc))
    (ap (λ (x : ConfigurationSoFar). x.node) added) (ap (λ (x : ConfigurationSoFar). x.listen) added) (ap (λ (x : ConfigurationSoFar). length x.tables.items) added) has
needed_on lines line (settings.Metrics a) s e of added has =
    needed_still lines line kinds.Metrics s e of (λ same. absurd (cc)) (λ same. absurd (cc)) (λ same. absurd (cc))
    (ap (λ (x : ConfigurationSoFar). x.node) added) (ap (λ (x : ConfigurationSoFar). x.listen) added) (ap (λ (x : ConfigurationSoFar). length x.tables.items) added) has
needed_on lines line (settings.Section name) s e of added has =
    needed_still lines line kinds.Section s e of (λ same. absurd (cc)) (λ same. absurd (cc)) (λ same. absurd (cc))
    (ap (λ (x : ConfigurationSoFar). x.node) added) (ap (λ (x : ConfigurationSoFar). x.listen) added) (ap (λ (x : ConfigurationSoFar). length x.tables.items) added) has
needed_on lines line (settings.Peer p) s e of (added, pushed) has =
    needed_still lines line kinds.Peer s e of (λ same. absurd (cc)) (λ same. absurd (cc)) (λ same. absurd (cc))
    (ap (λ (x : ConfigurationSoFar). x.node) added) (ap (λ (x : ConfigurationSoFar). x.listen) added) (ap (λ (x : ConfigurationSoFar). length x.tables.items) added) has
needed_on lines line (settings.Size None rows) s e of added has =
    needed_still lines line kinds.Size s e of (λ same. absurd (cc)) (λ same. absurd (cc)) (λ same. absurd (cc))
    (ap (λ (x : ConfigurationSoFar). x.node) added) (ap (λ (x : ConfigurationSoFar). x.listen) added) (ap (λ (x : ConfigurationSoFar). length x.tables.items) added) has
needed_on lines line (settings.Size (Some id) rows) s e of (added, sized) has =
    needed_still lines line kinds.Size s e of (λ same. absurd (cc)) (λ same. absurd (cc)) (λ same. absurd (cc))
    (ap (λ (x : ConfigurationSoFar). x.node) added) (ap (λ (x : ConfigurationSoFar). x.listen) added) (ap length sized ∙ long_sized id rows s.tables.items) has
needed_on lines line (settings.Nopurge None) s e of added has =
    needed_still lines line kinds.Nopurge s e of (λ same. absurd (cc)) (λ same. absurd (cc)) (λ same. absurd (cc))
    (ap (λ (x : ConfigurationSoFar). x.node) added) (ap (λ (x : ConfigurationSoFar). x.listen) added) (ap (λ (x : ConfigurationSoFar). length x.tables.items) added) has
needed_on lines line (settings.Nopurge (Some id)) s e of (added, kept) has =
    needed_still lines line kinds.Nopurge s e of (λ same. absurd (cc)) (λ same. absurd (cc)) (λ same. absurd (cc))
    (ap (λ (x : ConfigurationSoFar). x.node) added) (ap (λ (x : ConfigurationSoFar). x.listen) added) (ap length kept ∙ long_kept id s.tables.items) has
needed_on lines line (settings.Log level) s e of added has =
    needed_still lines line kinds.Log s e of (λ same. absurd (cc)) (λ same. absurd (cc)) (λ same. absurd (cc))
    (ap (λ (x : ConfigurationSoFar). x.node) added) (ap (λ (x : ConfigurationSoFar). x.listen) added) (ap (λ (x : ConfigurationSoFar). length x.tables.items) added) has
needed_on lines line settings.Journal s e of added has =
    needed_still lines line kinds.Journal s e of (λ same. absurd (cc)) (λ same. absurd (cc)) (λ same. absurd (cc))
    (ap (λ (x : ConfigurationSoFar). x.node) added) (ap (λ (x : ConfigurationSoFar). x.listen) added) (ap (λ (x : ConfigurationSoFar). length x.tables.items) added) has
