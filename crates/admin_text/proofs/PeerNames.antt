-- The names of a node and its peers stay distinct.
use Rattle.std.proofs.Common.{◌≡◌, ◌≤◌, ◌∙◌, ◌++◌, Bool, true, false, inl, inr, ℕ, List, [], ◌∷◌, ap, length, refl, subst, sym}
use Rattle.std.specs.Prelude.{◌||◌, ◌⊎◌, None, Option, Some, option_to_list}
use Rattle.std.specs.List.{AllByRecursion}
use Rattle.std.proofs.lemmas.Cmp.{nat_list_eq_equiv}
use Rattle.std.proofs.lemmas.List.{append_assoc, map-append}
use Rattle.table_types.specs.Rosters.{is_same_name}
use Rattle.admin_text.specs.Peers.{AreNamed, IsLabel, IsPeer, has_name, names_of, peer_names, repeats_name}
use Rattle.admin_text.specs.declared.peers.Peer.{Peer}

neither : (a b : Bool) → (a || b) ≡ false → (a ≡ false) × (b ≡ false)
neither true b is = absurd (cc)
neither false b is = (refl, is)

both : (a b : Bool) → a ≡ false → b ≡ false → (a || b) ≡ false
both a b first second = rw first second

-- ---- one more name

has_pushed : (sought : List ℕ) (names : List (List ℕ)) (name : List ℕ) → has_name sought names ≡ false → is_same_name name sought ≡ false
    → has_name sought (names ++ name ∷ []) ≡ false
has_pushed sought [] name none other = both _ _ other refl
has_pushed sought (n ∷ names) name none other =
    let parts = neither (is_same_name n sought) (has_name sought names) none in
    both (is_same_name n sought) (has_name sought (names ++ name ∷ [])) parts.0 (has_pushed sought names name parts.1 other)

names_pushed : (names : List (List ℕ)) (name : List ℕ) → has_name name names ≡ false → repeats_name names ≡ false
    → repeats_name (names ++ name ∷ []) ≡ false
names_pushed [] name new apart = refl
names_pushed (n ∷ names) name new apart =
    let others = neither (is_same_name n name) (has_name name names) new in
    let parts = neither (has_name n names) (repeats_name names) apart in
    both (has_name n (names ++ name ∷ [])) (repeats_name (names ++ name ∷ []))
    (has_pushed n names name parts.0 (nat_list_eq_equiv.symm name n ∙ others.0)) (names_pushed names name others.1 parts.1)

all_pushed : (peers : List Peer) (p : Peer) → AllByRecursion IsPeer peers → IsPeer p → AllByRecursion IsPeer (peers ++ p ∷ [])
all_pushed [] p all is = (is, tt)
all_pushed (q ∷ peers) p (first, all) is = (first, all_pushed peers p all is)

-- ---- the node's name

apart_before : (name : List ℕ) (known : Option (List ℕ)) (peers : List Peer) → has_name name (names_of known peers) ≡ false
    → has_name name (peer_names peers) ≡ false
apart_before name None peers new = new
apart_before name (Some other) peers new = (neither (is_same_name other name) (has_name name (peer_names peers)) new).1

distinct_peers : (known : Option (List ℕ)) (peers : List Peer) → repeats_name (names_of known peers) ≡ false → repeats_name (peer_names peers) ≡ false
distinct_peers None peers apart = apart
distinct_peers (Some name) peers apart = (neither (has_name name (peer_names peers)) (repeats_name (peer_names peers)) apart).1

pub node_set : (known : Option (List ℕ)) (peers : List Peer) (name : List ℕ) → AreNamed known peers → IsLabel name
    → has_name name (names_of known peers) ≡ false → AreNamed (Some name) peers
node_set known peers name named is new = record {
  own = is;
  most = named.most;
  each = named.each;
  apart =
      both (has_name name (peer_names peers)) (repeats_name (peer_names peers)) (apart_before name known peers new)
      (distinct_peers known peers named.apart);
}

either : (a b : Bool) → (a || b) ≡ true → (a ≡ true) ⊎ (b ≡ true)
either true b is = inl refl
either false b is = inr is

right : (a b : Bool) → b ≡ true → (a || b) ≡ true
right true b is = refl
right false b is = is

among_peers : (name : List ℕ) (known : Option (List ℕ)) (peers : List Peer) → has_name name (peer_names peers) ≡ true
    → has_name name (names_of known peers) ≡ true
among_peers name None peers has = has
among_peers name (Some other) peers has = right (is_same_name other name) _ has

named_or : (name own : List ℕ) (known : Option (List ℕ)) (peers : List Peer)
    → ((is_same_name own name ≡ true) ⊎ (has_name name (peer_names peers) ≡ true))
    → (is_same_name own name ≡ true) ⊎ (has_name name (names_of known peers) ≡ true)
named_or name own known peers (inl is) = inl is
named_or name own known peers (inr has) = inr (among_peers name known peers has)

-- who has a name, once the node has one
pub named_node : (name own : List ℕ) (known : Option (List ℕ)) (peers : List Peer) → has_name name (names_of (Some own) peers) ≡ true
    → (is_same_name own name ≡ true) ⊎ (has_name name (names_of known peers) ≡ true)
named_node name own known peers has = named_or name own known peers (either (is_same_name own name) (has_name name (peer_names peers)) has)

-- ---- one more peer

pub all_names : (known : Option (List ℕ)) (peers : List Peer) (p : Peer) → names_of known (peers ++ p ∷ []) ≡ names_of known peers ++ p.name ∷ []
all_names known peers p =
    ap (λ names. option_to_list known ++ names) (map-append (λ (q : Peer). q.name) peers (p ∷ []))
    ∙ sym (append_assoc (option_to_list known) (peer_names peers) (p.name ∷ []))

last_only : (a : Bool) → (a || false) ≡ true → (a ≡ true) ⊎ (false ≡ true)
last_only true is = inl refl
last_only false is = absurd (cc)

either_named : (name last : List ℕ) (b c : Bool) → (c ≡ true → (is_same_name last name ≡ true) ⊎ (b ≡ true)) → (a : Bool)
    → ((a ≡ true) ⊎ (c ≡ true)) → (is_same_name last name ≡ true) ⊎ ((a || b) ≡ true)
either_named name last b c more true found = inr refl
either_named name last b c more false (inl is) = absurd (cc)
either_named name last b c more false (inr is) = more is

last_named : (name last : List ℕ) (names : List (List ℕ)) → has_name name (names ++ last ∷ []) ≡ true
    → (is_same_name last name ≡ true) ⊎ (has_name name names ≡ true)
last_named name last [] has = last_only (is_same_name last name) has
last_named name last (other ∷ names) has =
    either_named name last (has_name name names) (has_name name (names ++ last ∷ [])) (last_named name last names) (is_same_name other name)
    (either (is_same_name other name) _ has)

-- who has a name, with one more peer
pub named_peer : (name : List ℕ) (known : Option (List ℕ)) (peers : List Peer) (p : Peer) → has_name name (names_of known (peers ++ p ∷ [])) ≡ true
    → (is_same_name p.name name ≡ true) ⊎ (has_name name (names_of known peers) ≡ true)
named_peer name known peers p has =
    last_named name p.name (names_of known peers) (subst (λ names. has_name name names ≡ true) (all_names known peers p) has)

pub peer_pushed : (known : Option (List ℕ)) (peers : List Peer) (p : Peer) → AreNamed known peers → IsPeer p
    → has_name p.name (names_of known peers) ≡ false → length (peers ++ p ∷ []) ≤ 15 → AreNamed known (peers ++ p ∷ [])
peer_pushed known peers p named is new most = record {
  own = named.own;
  most = most;
  each = all_pushed peers p named.each is;
  apart =
      subst (λ names. repeats_name names ≡ false) (sym (all_names known peers p))
      (names_pushed (names_of known peers) p.name new named.apart);
}
