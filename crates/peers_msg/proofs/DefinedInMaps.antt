-- A definition in the map of tables and in that of their names.
use Rattle.std.proofs.Common.{◌≡◌, ℕ, Bool, true, false, cond, eqb, List, Option, Some, None, sym, ap, ◌∙◌}
use Rattle.std.specs.List.Sorted.{IsStrictlySortedBy}
use Rattle.std.specs.BTreeMap.{is_at}
use Rattle.std.specs.Cmp.Lexicographic.{slice_cmp}
use Rattle.std.specs.Map.{KeepsOthers, keys_of, lookup, values_of}
use Rattle.std.specs.Ordering.{is_eq, nat_cmp}
use Rattle.table_types.specs.Tables.{Definition}
use Rattle.table_types.specs.Rosters.{is_same_name}
use Rattle.peers_msg.specs.Received.{defined}
use Rattle.peers_msg.specs.ReceivedIndex.{AreIndexed, has_that_name, is_id}
use Rattle.peers_msg.proofs.MapsById.{tested}
use Rattle.peers_msg.proofs.NamesInMap.{after_change}
use Rattle.peers_msg.proofs.TablesByIdAndName.{back_again, indexed_after, other_name, other_table, own_name, own_table, tables_defined}

module _ {V : Type 0} (bytes_of : V → List ℕ) where
  -- the id that a map of names has for a name
  abbrev pub id_in : List (V × ℕ) → List ℕ → Option ℕ
  id_in ns name = lookup (λ key. is_eq (slice_cmp nat_cmp name (bytes_of key))) ns

  -- the table is put at its id
  module _ (es : List (ℕ × Definition)) (ns : List (V × ℕ)) (indexed : AreIndexed es (id_in ns)) (new : Definition) (id : ℕ) (is : id ≡ new.id) (mid : List (ℕ × Definition))
      (put : (q : ℕ) → lookup (is_at (nat_cmp q)) mid ≡ cond (is_at (nat_cmp id) q) (Some new) (lookup (is_at (nat_cmp q)) es)) where
    put_at : (q : ℕ) → lookup (is_at (nat_cmp q)) mid ≡ cond (eqb q new.id) (Some new) (lookup (is_at (nat_cmp q)) es)
    put_at q = put q ∙ ap (λ (b : Bool). cond b (Some new) (lookup (is_at (nat_cmp q)) es)) (tested id q ∙ ap (λ (i : ℕ). eqb q i) is)

    -- and the one before it is put back
    pub put_and_back : (after : List (ℕ × Definition)) (before : Option Definition) → IsStrictlySortedBy nat_cmp (keys_of after) → before ≡ lookup (is_at (nat_cmp id)) es
        → ((q : ℕ) → lookup (is_at (nat_cmp q)) after ≡ cond (eqb q id) before (lookup (is_at (nat_cmp q)) mid)) → after ≡ es
    put_and_back after before rise was back =
        back_again es (id_in ns) indexed new mid after before rise put_at
        (λ q. back q ∙ ap (λ (i : ℕ). cond (eqb q i) before (lookup (is_at (nat_cmp q)) mid)) is)
        (was ∙ ap (λ (i : ℕ). lookup (is_at (nat_cmp i)) es) is)

    -- its id is put at its name, which had the id `named`
    module _ (named : Option ℕ) (key : List ℕ) (key_is : key ≡ new.name) (was_named : named ≡ id_in ns key) (ms : List (V × ℕ)) (here : id_in ms key ≡ Some id)
        (others : KeepsOthers (λ one other. is_eq (slice_cmp nat_cmp (bytes_of one) (bytes_of other))) (λ k. is_eq (slice_cmp nat_cmp key (bytes_of k))) ns ms) where
      named_is : named ≡ id_in ns new.name
      named_is = was_named ∙ ap (λ (n : List ℕ). id_in ns n) key_is

      put_named : (name : List ℕ) → id_in ms name ≡ cond (is_same_name new.name name) (Some new.id) (id_in ns name)
      put_named name =
          after_change bytes_of key (Some id) ns ms here others name
          ∙ ap (λ (k : List ℕ). cond (is_same_name k name) (Some id) (id_in ns name)) key_is
          ∙ ap (λ (i : ℕ). cond (is_same_name new.name name) (Some i) (id_in ns name)) is

      named_by : (b : Bool) → is_id named id ≡ b → is_id (id_in ns new.name) new.id ≡ b
      named_by b e = ap (λ (o : Option ℕ). is_id o new.id) (sym named_is) ∙ ap (λ (i : ℕ). is_id named i) (sym is) ∙ e

      -- that is its own
      module _ (own : is_id named id ≡ true) (rise : IsStrictlySortedBy nat_cmp (keys_of mid)) where
        own_tables : (q : ℕ) → lookup (is_at (nat_cmp q)) mid ≡ cond (eqb q new.id) (Some new) (cond (is_id (id_in ns new.name) q) None (lookup (is_at (nat_cmp q)) es))
        own_tables q = put_at q ∙ own_table es (id_in ns) indexed new (named_by true own) q (lookup (is_at (nat_cmp q)) es)

        own_names : (name : List ℕ) → id_in ms name ≡ cond (is_same_name new.name name) (Some new.id) (cond (has_that_name (lookup (is_at (nat_cmp new.id)) es) name) None (id_in ns name))
        own_names name = put_named name ∙ own_name es (id_in ns) indexed new (named_by true own) name (id_in ns name)

        pub own_defined : values_of mid ≡ defined new (values_of es)
        own_defined = tables_defined es (id_in ns) indexed new mid (id_in ms) rise own_tables own_names

        pub own_indexed : AreIndexed mid (id_in ms)
        own_indexed = indexed_after es (id_in ns) indexed new mid (id_in ms) rise own_tables own_names

      -- or another's, which is removed, as is the name that the id had before
      module _ (other : is_id named id ≡ false) (before : Option Definition) (was : before ≡ lookup (is_at (nat_cmp id)) es) (after : List (ℕ × Definition)) (rise : IsStrictlySortedBy nat_cmp (keys_of after))
          (removed : (q : ℕ) → lookup (is_at (nat_cmp q)) after ≡ cond (is_id named q) None (lookup (is_at (nat_cmp q)) mid)) (ls : List (V × ℕ))
          (unnamed : (name : List ℕ) → id_in ls name ≡ cond (has_that_name before name) None (id_in ms name)) where
        other_tables : (q : ℕ) → lookup (is_at (nat_cmp q)) after ≡ cond (eqb q new.id) (Some new) (cond (is_id (id_in ns new.name) q) None (lookup (is_at (nat_cmp q)) es))
        other_tables q =
            removed q
            ∙ ap (λ (o : Option Definition). cond (is_id named q) None o) (put_at q)
            ∙ ap (λ (o : Option ℕ). cond (is_id o q) None (cond (eqb q new.id) (Some new) (lookup (is_at (nat_cmp q)) es))) named_is
            ∙ other_table es (id_in ns) indexed new (named_by false other) q (lookup (is_at (nat_cmp q)) es)

        other_names : (name : List ℕ) → id_in ls name ≡ cond (is_same_name new.name name) (Some new.id) (cond (has_that_name (lookup (is_at (nat_cmp new.id)) es) name) None (id_in ns name))
        other_names name =
            unnamed name
            ∙ ap (λ (o : Option ℕ). cond (has_that_name before name) None o) (put_named name)
            ∙ ap (λ (o : Option Definition). cond (has_that_name o name) None (cond (is_same_name new.name name) (Some new.id) (id_in ns name))) (was ∙ ap (λ (i : ℕ). lookup (is_at (nat_cmp i)) es) is)
            ∙ other_name es (id_in ns) indexed new (named_by false other) name (id_in ns name)

        pub other_defined : values_of after ≡ defined new (values_of es)
        other_defined = tables_defined es (id_in ns) indexed new after (id_in ls) rise other_tables other_names

        pub other_indexed : AreIndexed after (id_in ls)
        other_indexed = indexed_after es (id_in ns) indexed new after (id_in ls) rise other_tables other_names
