-- A lesson costs less the more is known, and no message saves more than its own size.
use Rattle.std.proofs.Common.{◌≡◌, ℕ, ◌==◌, ◌+◌, ◌-◌, ◌%◌, ◌^◌, ◌≤◌, Bool, true, false, not, ◌&&◌, ◌||◌, cond, eqb, List, [], ◌∷◌, ◌++◌, length, Option, Some, None, refl, sym, ap, ◌∙◌, subst, inl, inr, ◌⊎◌, arith, length-append}
use Rattle.std.specs.Prelude.{is_some, flat_map, filter, nat_lt}
use Rattle.std.specs.List.{AllByRecursion}
use Rattle.std.proofs.lemmas.Bool.{cases_eq, eq-eqb, ne_eqb}
use Rattle.std.proofs.lemmas.Bool.Decides.{nat_tests}
use Rattle.peers_encint.specs.Integers.{spelling}
use Rattle.peers_encint.proofs.OneSpelling as integers
use Rattle.table_types.specs.declared.update.Update.{Update}
use Rattle.table_types.specs.Tables.{Definition}
use Rattle.table_types.specs.Updates.{stores_name}
use Rattle.table_types.specs.Names.{is_name}
use Rattle.table_types.specs.Rosters.{table_at, has_id}
use Rattle.peers_msg.specs.Received.{insert_table, outlives, defined}
use Rattle.peers_msg.specs.declared.name_field.NameField.{NameField}
use Rattle.peers_msg.specs.declared.name_field.NameField.TheVariants as names
use Rattle.peers_msg.specs.declared.message.Message.TheVariants as messages
use Rattle.table_types.specs.declared.key.Key.{Key}
use Rattle.table_types.specs.declared.update.Value.{Value}
use Rattle.table_types.specs.SlotIds.{is_slot}
use Rattle.peers_msg.specs.Fitting.{name_fits}
use Rattle.known_state.specs.State.{Named, resolved_number}
use Rattle.known_state.specs.LastNumbers.{last_of, set_last}
use Rattle.peers_msg.specs.Messages.{UpdateFields}
use Rattle.peers_msg.specs.Spelling.{spelled, size_of, framed, counted, definition_text, update_text, update_type, optional_word, word, key_text, value_text, name_text}
use Rattle.known_state.proofs.ReceivedIsOwn.{table_at-id}
use Rattle.known_state.proofs.FitsOrIsRefused.{has_id-table_at}
use Rattle.known_state.specs.Cost.{Knowledge, knowledge_after, follows, number_sent, sent_as, written_field, is_named_table, written_cost, is_selected, definition_cost, selection_cost, cost_from, saving, is_held, IsOfRoster}
use Rattle.known_state.proofs.LesserKnowledge.{KnowsLess, with_selected}

-- longer data make a longer frame
pub framed_longer : (c k c' k' : ℕ) (a b : List ℕ) → length a ≤ length b → length (framed c k a) ≤ length (framed c' k' b)
framed_longer c k c' k' a b le =
    omega (arith, length-append (spelling (length a)) a, length-append (spelling (length b)) b, integers.longer (length a) (length b) le)

-- a switch is no longer than a definition
pub switch_shorter : (d : Definition) → size_of (messages.Switch d.id) ≤ size_of (messages.Define d)
unfolding size_of spelled
switch_shorter d = framed_longer 10 131 10 130 (spelling d.id) (definition_text d) (omega (arith, length-append {A = ℕ}))

-- an update without its number is no longer than with it
pub incremental_shorter : (n : ℕ) (u : UpdateFields) → size_of (messages.Update (record u { number = None })) ≤ size_of (messages.Update (record u { number = Some n }))
unfolding size_of spelled
incremental_shorter n u =
    let rest : List ℕ = optional_word u.life ++ (key_text u.key ++ (flat_map value_text u.values ++ name_text u.name)) in
    framed_longer 10 (update_type (record u { number = None })) 10 (update_type (record u { number = Some n })) rest (word n ++ rest) (omega (arith, length-append (word n) rest))

-- an update in its shortest number form is no longer than with its number
pub sent_shorter : (last : Option ℕ) (field : NameField) (u : Update) → size_of (messages.Update (sent_as last field u)) ≤ size_of (messages.Update (sent_as None field u))
sent_shorter None field u = omega arith
sent_shorter (Some last) field u = at (follows (Some last) u.number) refl
  where
    at : (b : Bool) → follows (Some last) u.number ≡ b → size_of (messages.Update (sent_as (Some last) field u)) ≤ size_of (messages.Update (sent_as None field u))
    at true e = rw e (incremental_shorter u.number (sent_as None field u))
    at false e = rw e (omega arith)

-- a switch costs no more than a definition of the roster
switch_cheaper : (roster : List Definition) (u : Update) → IsOfRoster roster u → size_of (messages.Switch u.table) ≤ definition_cost (table_at roster u.table)
switch_cheaper roster u (d, listed) =
    let id : d.id ≡ u.table = table_at-id roster u.table d listed in
    rw listed (subst (λ (n : ℕ). size_of (messages.Switch n) ≤ size_of (messages.Define d)) id (switch_shorter d))

choice : (sel a b : Bool) (w d : ℕ) → w ≤ d → (a ≡ true → b ≡ true) → cond sel 0 (cond b w d) ≤ cond sel 0 (cond a w d)
choice true a b w d le implied = omega arith
choice false true true w d le implied = omega arith
choice false true false w d le implied = let bad : false ≡ true = implied refl in cc
choice false false true w d le implied = omega arith
choice false false false w d le implied = omega arith

pub selection_falls : (roster : List Definition) (less more : Knowledge) (u : Update) → KnowsLess less more → IsOfRoster roster u → selection_cost roster more u.table ≤ selection_cost roster less u.table
selection_falls roster less more u knows of_roster =
    rw knows.selected (choice (is_selected more.selected u.table) (less.is_defined u.table) (more.is_defined u.table) (size_of (messages.Switch u.table)) (definition_cost (table_at roster u.table)) (switch_cheaper roster u of_roster) (knows.defined u.table))

written_falls : (roster : List Definition) (less more : Knowledge) (u : Update) → KnowsLess less more → written_cost roster more u ≤ written_cost roster less u
written_falls roster less more u knows =
    let field = written_field (is_named_table (table_at roster u.table)) u.name in
    elim (knows.last u.table) [
      | inl same ↦ rw same (omega arith)
      | inr none ↦ rw none (sent_shorter (more.last u.table) field u)
    ]

-- lesser knowledge stays lesser after an update
pub knows_after : (less more : Knowledge) (u : Update) → KnowsLess less more → KnowsLess (knowledge_after less u) (knowledge_after more u)
knows_after less more u knows = record {
  defined = λ id h. or-implied (eqb id u.table) (less.is_defined id) (more.is_defined id) (knows.defined id) h;
  selected = refl;
  last = λ id. last-chosen (eqb id u.table) (less.last id) (more.last id) (knows.last id);
}
  where
    or-implied : (a b c : Bool) → (b ≡ true → c ≡ true) → (a || b) ≡ true → (a || c) ≡ true
    or-implied true b c implied h = refl
    or-implied false b c implied h = implied h

    last-chosen : (a : Bool) (x y : Option ℕ) → (x ≡ y) ⊎ (x ≡ None) → (cond a (Some u.number) x ≡ cond a (Some u.number) y) ⊎ (cond a (Some u.number) x ≡ None)
    last-chosen true x y h = inl refl
    last-chosen false x y h = h

-- a lesson costs no more if more is known
pub falls : (roster : List Definition) (less more : Knowledge) (us : List Update) → KnowsLess less more → AllByRecursion (IsOfRoster roster) us → cost_from roster more us ≤ cost_from roster less us
falls roster less more [] knows all = omega arith
falls roster less more (u ∷ us) knows all =
    let a = selection_falls roster less more u knows all.0 in
    let b = written_falls roster less more u knows in
    let c = falls roster (knowledge_after less u) (knowledge_after more u) us (knows_after less more u knows) all.1 in
    omega arith

-- one more table is defined
abbrev pub with_defined : Knowledge → ℕ → Knowledge
with_defined k t = record { is_defined = λ id. id == t || k.is_defined id; selected = k.selected; last = k.last }

or_swap : (a b c : Bool) → (a || (b || c)) ≡ true → (b || (a || c)) ≡ true
or_swap true true c h = refl
or_swap true false c h = refl
or_swap false true c h = refl
or_swap false false c h = h

-- after an update of that table, nothing is gained
gains_nothing : (k : Knowledge) (more : Knowledge) (t : ℕ) (u : Update) → u.table ≡ t → ((id : ℕ) → more.is_defined id ≡ true → (id == t || k.is_defined id) ≡ true) → ((id : ℕ) → more.last id ≡ k.last id) → KnowsLess (knowledge_after more u) (knowledge_after k u)
gains_nothing k more t u same defined last = record {
  defined = λ id h. again id (eqb id u.table) refl h;
  selected = refl;
  last = λ id. inl (ap (λ (l : Option ℕ). cond (eqb id u.table) (Some u.number) l) (last id));
}
  where
    again : (id : ℕ) (b : Bool) → eqb id u.table ≡ b → (eqb id u.table || more.is_defined id) ≡ true → (eqb id u.table || k.is_defined id) ≡ true
    again id true e h = rw e refl
    again id false e h =
        let is : more.is_defined id ≡ true = sym (rw e refl) ∙ h in
        let here : (eqb id t || k.is_defined id) ≡ true = defined id is in
        subst (λ (n : ℕ). (eqb id n || k.is_defined id) ≡ true) (sym same) here

-- an early definition saves no more than its own size
defined_pays : (roster : List Definition) (k : Knowledge) (t : ℕ) (us : List Update) → AllByRecursion (IsOfRoster roster) us → cost_from roster k us ≤ definition_cost (table_at roster t) + cost_from roster (with_defined k t) us
defined_pays roster k t [] all = omega arith
defined_pays roster k t (u ∷ us) all =
    elim (cases_eq u.table t) [
      | inl same ↦
          let cheap = switch_cheaper roster u all.0 in
          let dear : definition_cost (table_at roster u.table) ≡ definition_cost (table_at roster t) = ap (λ (n : ℕ). definition_cost (table_at roster n)) same in
          let first = choice_most (is_selected k.selected u.table) (k.is_defined u.table) (size_of (messages.Switch u.table)) (definition_cost (table_at roster u.table)) cheap in
          let rest = falls roster (knowledge_after (with_defined k t) u) (knowledge_after k u) us (gains_nothing k (with_defined k t) t u same (λ id h. h) (λ id. refl)) all.1 in
          omega arith
      | inr other ↦
          let alike : selection_cost roster (with_defined k t) u.table ≡ selection_cost roster k u.table = rw (ne_eqb u.table t other) refl in
          let later = defined_pays roster (knowledge_after k u) t us all.1 in
          let rest = falls roster (knowledge_after (with_defined k t) u) (with_defined (knowledge_after k u) t) us (swapped k t u) all.1 in
          omega arith
    ]
  where
    choice_most : (sel b : Bool) (w d : ℕ) → w ≤ d → cond sel 0 (cond b w d) ≤ d
    choice_most true b w d le = omega arith
    choice_most false true w d le = le
    choice_most false false w d le = omega arith

    swapped : (k : Knowledge) (t : ℕ) (u : Update) → KnowsLess (knowledge_after (with_defined k t) u) (with_defined (knowledge_after k u) t)
    swapped k t u = record { defined = λ id h. or_swap (eqb id u.table) (eqb id t) (k.is_defined id) h; selected = refl; last = λ id. inl refl }

-- selecting the selected table costs nothing, and selecting another costs no less than before
selection_other : (roster : List Definition) (k : Knowledge) (t : ℕ) (u : Update) → (u.table ≡ t → ⊥) → selection_cost roster k u.table ≤ selection_cost roster (with_selected k t) u.table
selection_other roster k t u other =
    rw (ne_eqb t u.table (λ e. other (sym e)), ne_eqb u.table t other) (none_least (is_selected k.selected u.table) (cond (k.is_defined u.table) (size_of (messages.Switch u.table)) (definition_cost (table_at roster u.table))))
  where
    none_least : (sel : Bool) (n : ℕ) → cond sel 0 n ≤ n
    none_least true n = omega arith
    none_least false n = omega arith

selection_same : (roster : List Definition) (k : Knowledge) (t : ℕ) (u : Update) → u.table ≡ t → selection_cost roster (with_selected k t) u.table ≡ 0
selection_same roster k t u same = rw (eq-eqb t u.table (sym same)) refl

-- a switch saves no more than its own size
pub switched_pays : (roster : List Definition) (k : Knowledge) (t : ℕ) (us : List Update) → k.is_defined t ≡ true → AllByRecursion (IsOfRoster roster) us → cost_from roster k us ≤ size_of (messages.Switch t) + cost_from roster (with_selected k t) us
switched_pays roster k t [] known all = omega arith
switched_pays roster k t (u ∷ us) known all =
    elim (cases_eq u.table t) [
      | inl same ↦
          let first : selection_cost roster k u.table ≤ size_of (messages.Switch t) = rw (same, known) (at_most (is_selected k.selected t) (size_of (messages.Switch t))) in
          let none = selection_same roster k t u same in
          let rest = falls roster (knowledge_after (with_selected k t) u) (knowledge_after k u) us (gains_nothing k (with_selected k t) t u same (λ id h. h) (λ id. refl)) all.1 in
          omega arith
      | inr other ↦
          let first = selection_other roster k t u other in
          let rest = falls roster (knowledge_after (with_selected k t) u) (knowledge_after k u) us (known_already k t u known) all.1 in
          omega arith
    ]
  where
    at_most : (sel : Bool) (n : ℕ) → cond sel 0 n ≤ n
    at_most true n = omega arith
    at_most false n = omega arith

    absorbed : (k : Knowledge) (t id : ℕ) → k.is_defined t ≡ true → (id == t || k.is_defined id) ≡ true → k.is_defined id ≡ true
    absorbed k t id known h = elim (cases_eq id t) [
      | inl same ↦ subst (λ (n : ℕ). k.is_defined n ≡ true) (sym same) known
      | inr other ↦ sym (rw (ne_eqb id t other) refl) ∙ h
    ]

    or_right : (a b c : Bool) → (b ≡ true → c ≡ true) → (a || b) ≡ true → (a || c) ≡ true
    or_right true b c implied h = refl
    or_right false b c implied h = implied h

    known_already : (k : Knowledge) (t : ℕ) (u : Update) → k.is_defined t ≡ true → KnowsLess (knowledge_after (with_selected k t) u) (knowledge_after k u)
    known_already k t u known = record { defined = λ id h. or_right (eqb id u.table) (id == t || k.is_defined id) (k.is_defined id) (absorbed k t id known) h; selected = refl; last = λ id. inl refl }

-- nor does a definition
pub defining_pays : (roster : List Definition) (k : Knowledge) (t : ℕ) (us : List Update) → AllByRecursion (IsOfRoster roster) us → cost_from roster k us ≤ definition_cost (table_at roster t) + cost_from roster (with_selected k t) us
defining_pays roster k t [] all = omega arith
defining_pays roster k t (u ∷ us) all =
    elim (cases_eq u.table t) [
      | inl same ↦
          let cheap = switch_cheaper roster u all.0 in
          let dear : definition_cost (table_at roster u.table) ≡ definition_cost (table_at roster t) = ap (λ (n : ℕ). definition_cost (table_at roster n)) same in
          let first = choice_most (is_selected k.selected u.table) (k.is_defined u.table) (size_of (messages.Switch u.table)) (definition_cost (table_at roster u.table)) cheap in
          let none = selection_same roster k t u same in
          let rest = falls roster (knowledge_after (with_selected k t) u) (knowledge_after k u) us (gains_nothing k (with_selected k t) t u same (λ id h. h) (λ id. refl)) all.1 in
          omega arith
      | inr other ↦
          let first = selection_other roster k t u other in
          let later = defined_pays roster (knowledge_after k u) t us all.1 in
          let rest = falls roster (knowledge_after (with_selected k t) u) (with_defined (knowledge_after k u) t) us (swapped k t u) all.1 in
          omega arith
    ]
  where
    choice_most : (sel b : Bool) (w d : ℕ) → w ≤ d → cond sel 0 (cond b w d) ≤ d
    choice_most true b w d le = omega arith
    choice_most false true w d le = le
    choice_most false false w d le = omega arith

    swapped : (k : Knowledge) (t : ℕ) (u : Update) → KnowsLess (knowledge_after (with_selected k t) u) (with_defined (knowledge_after k u) t)
    swapped k t u = record { defined = λ id h. or_swap (eqb id u.table) (eqb id t) (k.is_defined id) h; selected = refl; last = λ id. inl refl }

not-true : (b : Bool) → not b ≡ true → b ≡ false
not-true true h = cc
not-true false h = refl

and-left : (a b : Bool) → (a && b) ≡ true → a ≡ true
and-left true b h = refl
and-left false b h = h

and-right : (a b : Bool) → (a && b) ≡ true → b ≡ true
and-right true b h = h
and-right false b h = cc

-- an update in its shortest number form is no longer than in any other form that resolves to its number
pub sent_least : (number last : Option ℕ) (field : NameField) (u : Update) → resolved_number number last ≡ Some u.number → size_of (messages.Update (sent_as last field u)) ≤ size_of (messages.Update (record { number = number; life = u.life; key = u.key; values = u.values; name = field }))
sent_least (Some n) last field u is =
    let same : n ≡ u.number = cc in
    let numbered : size_of (messages.Update (sent_as None field u)) ≡ size_of (messages.Update (record { number = Some n; life = u.life; key = u.key; values = u.values; name = field })) = rw same refl in
    let le = sent_shorter last field u in
    omega arith
sent_least None None field u is = cc
sent_least None (Some last) field u is =
    let same : (last + 1) % 2 ^ 32 ≡ u.number = cc in
    rw (eq-eqb ((last + 1) % 2 ^ 32) u.number same) (omega arith)

-- a slot takes one byte
slot_byte : (slot : ℕ) → is_slot slot ≡ true → length (spelling slot) ≡ 1
slot_byte slot is = (integers.table slot).0 (grind (arith, nat_tests))

counted_alike : (a b : List ℕ) → length a ≡ length b → length (counted a) ≡ length (counted b)
counted_alike a b same =
    let digits : length (spelling (length a)) ≡ length (spelling (length b)) = ap (λ (n : ℕ). length (spelling n)) same in
    omega (arith, length-append (spelling (length a)) a, length-append (spelling (length b)) b)

-- a written name has the same length in every slot
pub name_alike : (slot : ℕ) (name : List ℕ) → is_slot slot ≡ true → length (name_text (names.Written 1 name)) ≡ length (name_text (names.Written slot name))
name_alike slot name is =
    let here = slot_byte slot is in
    let first = slot_byte 1 refl in
    counted_alike (spelling 1 ++ counted name) (spelling slot ++ counted name) (omega (arith, length-append (spelling 1) (counted name), length-append (spelling slot) (counted name)))

-- reading a name takes the same number of bytes in every slot
pub read_alike : (slot : ℕ) → is_slot slot ≡ true → length (name_text (names.Held slot)) ≡ length (name_text (names.Held 1))
read_alike slot is = counted_alike (spelling slot) (spelling 1) (omega (arith, slot_byte slot is, slot_byte 1 refl))

-- and no more than writing it
pub read_shorter : (name : List ℕ) → length (name_text (names.Held 1)) ≤ length (name_text (names.Written 1 name))
read_shorter name =
    let digits = integers.longer (length (spelling 1)) (length (spelling 1 ++ counted name)) (omega (arith, length-append (spelling 1) (counted name))) in
    omega (arith, length-append (spelling (length (spelling 1))) (spelling 1), length-append (spelling (length (spelling 1 ++ counted name))) (spelling 1 ++ counted name), length-append (spelling 1) (counted name))

pub written_alike : (number life : Option ℕ) (key : Key) (values : List Value) (slot : ℕ) (name : List ℕ) → is_slot slot ≡ true → size_of (messages.Update (record { number = number; life = life; key = key; values = values; name = names.Written 1 name })) ≤ size_of (messages.Update (record { number = number; life = life; key = key; values = values; name = names.Written slot name }))
unfolding size_of spelled
written_alike number life key values slot name is =
    let one : UpdateFields = record { number = number; life = life; key = key; values = values; name = names.Written 1 name } in
    let two : UpdateFields = record { number = number; life = life; key = key; values = values; name = names.Written slot name } in
    framed_longer 10 (update_type one) 10 (update_type two) (update_text one) (update_text two)
    (rows_alike (optional_word number) (optional_word life) (key_text key) (flat_map value_text values) (name_text (names.Written 1 name)) (name_text (names.Written slot name)) (name_alike slot name is))
  where
    rows_alike : (a b c d x y : List ℕ) → length x ≡ length y → length (a ++ (b ++ (c ++ (d ++ x)))) ≤ length (a ++ (b ++ (c ++ (d ++ y))))
    rows_alike a b c d x y same =
        omega (arith, length-append a (b ++ (c ++ (d ++ x))), length-append b (c ++ (d ++ x)), length-append c (d ++ x), length-append d x, length-append a (b ++ (c ++ (d ++ y))), length-append b (c ++ (d ++ y)), length-append c (d ++ y), length-append d y)

-- an update's cost with its name written is at most the size of the message that carries it plus what that message
-- saves
pub update_pays : (roster : List Definition) (k : Knowledge) (d : Definition) (m : UpdateFields) (u : Update) (slots after : List (Option (List ℕ))) → table_at roster u.table ≡ Some d → name_fits d m.name ≡ true → Named slots m.name u.name after → m.life ≡ u.life → m.key ≡ u.key → m.values ≡ u.values → resolved_number m.number (k.last u.table) ≡ Some u.number → written_cost roster k u ≤ size_of (messages.Update m) + saving roster k (messages.Update m) (u ∷ [])
update_pays roster k d m u slots after listed fit named life key values number = by m.name refl fit named
  where
    as_meant : (field : NameField) → m.name ≡ field → size_of (messages.Update (sent_as (k.last u.table) field u)) ≤ size_of (messages.Update m)
    as_meant field e =
        let least = sent_least m.number (k.last u.table) field u number in
        let same : record { number = m.number; life = u.life; key = u.key; values = u.values; name = field } ≡ m = rw (← life, ← key, ← values, ← e) refl in
        subst (λ (f : UpdateFields). size_of (messages.Update (sent_as (k.last u.table) field u)) ≤ size_of (messages.Update f)) same least

    by : (field : NameField) → m.name ≡ field → name_fits d field ≡ true → Named slots field u.name after → written_cost roster k u ≤ size_of (messages.Update m) + saving roster k (messages.Update m) (u ∷ [])
    by names.NotStored e f n =
        let none : stores_name d ≡ false = not-true (stores_name d) f in
        let whole : written_cost roster k u ≡ size_of (messages.Update (sent_as (k.last u.table) names.NotStored u)) = rw (listed, none) refl in
        omega (arith, as_meant names.NotStored e)
    by names.NoName e f n =
        let whole : written_cost roster k u ≡ size_of (messages.Update (sent_as (k.last u.table) names.NoName u)) = rw (listed, f, n.0) refl in
        omega (arith, as_meant names.NoName e)
    by (names.Written slot bytes) e f n =
        let stored : stores_name d ≡ true = and-left (stores_name d) (is_slot slot) (and-left (stores_name d && is_slot slot) (is_name bytes) f) in
        let slotted : is_slot slot ≡ true = and-right (stores_name d) (is_slot slot) (and-left (stores_name d && is_slot slot) (is_name bytes) f) in
        let whole : written_cost roster k u ≡ size_of (messages.Update (sent_as (k.last u.table) (names.Written 1 bytes) u)) = rw (listed, stored, n.0) refl in
        let alike = written_alike (number_sent (k.last u.table) u.number) u.life u.key u.values slot bytes slotted in
        omega (arith, as_meant (names.Written slot bytes) e)
    by (names.Held slot) e f n =
        let reads : is_held m.name ≡ true = rw e refl in
        let saved : saving roster k (messages.Update m) (u ∷ []) ≡ written_cost roster k u - size_of (messages.Update (sent_as (k.last u.table) m.name u)) = rw reads refl in
        let least = as_meant m.name refl in
        omega arith

put_has : (d : Definition) (ds : List Definition) (id : ℕ) → (id ≡ d.id → ⊥) → has_id id (insert_table d ds) ≡ true → has_id id ds ≡ true
put_has d [] id other h = sym (rw (ne_eqb d.id id (λ e. other (sym e))) refl) ∙ h
put_has d (x ∷ xs) id other h = at (nat_lt d.id x.id) refl (put_has d xs id other)
  where
    skip : (b : Bool) → (false || b) ≡ true → b ≡ true
    skip b h = h

    or_rest : (a b c : Bool) → (b ≡ true → c ≡ true) → (a || b) ≡ true → (a || c) ≡ true
    or_rest true b c f h = refl
    or_rest false b c f h = f h

    at : (b : Bool) → nat_lt d.id x.id ≡ b → (has_id id (insert_table d xs) ≡ true → has_id id xs ≡ true) → has_id id (x ∷ xs) ≡ true
    at true e later = sym (rw (e, ne_eqb d.id id (λ e. other (sym e))) refl) ∙ h
    at false e later = or_rest (eqb x.id id) (has_id id (insert_table d xs)) (has_id id xs) later (sym (rw e refl) ∙ h)

filter_has : (p : Definition → Bool) (ds : List Definition) (id : ℕ) → has_id id (filter p ds) ≡ true → has_id id ds ≡ true
filter_has p [] id h = h
filter_has p (x ∷ xs) id h = at (p x) refl (filter_has p xs id)
  where
    or_rest : (a b c : Bool) → (b ≡ true → c ≡ true) → (a || b) ≡ true → (a || c) ≡ true
    or_rest true b c f h = refl
    or_rest false b c f h = f h

    or_true : (a b : Bool) → b ≡ true → (a || b) ≡ true
    or_true true b h = refl
    or_true false b h = h

    at : (b : Bool) → p x ≡ b → (has_id id (filter p xs) ≡ true → has_id id xs ≡ true) → has_id id (x ∷ xs) ≡ true
    at true e later = or_rest (eqb x.id id) (has_id id (filter p xs)) (has_id id xs) later (sym (rw e refl) ∙ h)
    at false e later = or_true (eqb x.id id) (has_id id xs) (later (sym (rw e refl) ∙ h))

-- a definition found after another was found before, or is the new one
pub found_before : (d : Definition) (ds : List Definition) (id : ℕ) → is_some (table_at (defined d ds) id) ≡ true → (id == d.id || is_some (table_at ds id)) ≡ true
found_before d ds id h =
    let listed : has_id id (insert_table d (filter (outlives d) ds)) ≡ true = has_id-table_at (defined d ds) id ∙ h in
    elim (cases_eq id d.id) [
      | inl same ↦ rw (eq-eqb id d.id same) refl
      | inr other ↦
          let kept : has_id id (filter (outlives d) ds) ≡ true = put_has d (filter (outlives d) ds) id other listed in
          let before : has_id id ds ≡ true = filter_has (outlives d) ds id kept in
          or_true (eqb id d.id) (is_some (table_at ds id)) (sym (has_id-table_at ds id) ∙ before)
    ]
  where
    or_true : (a b : Bool) → b ≡ true → (a || b) ≡ true
    or_true true b h = refl
    or_true false b h = h

-- an id that doesn't keep its last number has none
pub last-dropped : (q : ℕ → Bool) (ls : List (ℕ × ℕ)) (id : ℕ) → q id ≡ false → last_of (filter (λ l. q l.0) ls) id ≡ None
last-dropped q [] id e = refl
last-dropped q (l ∷ ls) id e = at (q l.0) refl (last-dropped q ls id e)
  where
    at : (b : Bool) → q l.0 ≡ b → last_of (filter (λ l. q l.0) ls) id ≡ None → last_of (filter (λ l. q l.0) (l ∷ ls)) id ≡ None
    at false f later = rw f later
    at true f later = elim (cases_eq l.0 id) [
      | inl same ↦ let bad : true ≡ false = sym f ∙ subst (λ (n : ℕ). q n ≡ false) (sym same) e in cc
      | inr other ↦ rw (f, ne_eqb l.0 id other) later
    ]

-- the last numbers of the ids that keep them
pub last-kept : (q : ℕ → Bool) (ls : List (ℕ × ℕ)) (id : ℕ) → q id ≡ true → last_of (filter (λ l. q l.0) ls) id ≡ last_of ls id
last-kept q [] id e = refl
last-kept q (l ∷ ls) id e =
    let later = last-kept q ls id e in
    elim (cases_eq l.0 id) [
      | inl same ↦ let keeps : q l.0 ≡ true = subst (λ (n : ℕ). q n ≡ true) (sym same) e in rw (keeps, eq-eqb l.0 id same) refl
      | inr other ↦ passed (q l.0) refl other later
    ]
  where
    passed : (b : Bool) → q l.0 ≡ b → (l.0 ≡ id → ⊥) → last_of (filter (λ l. q l.0) ls) id ≡ last_of ls id → last_of (filter (λ l. q l.0) (l ∷ ls)) id ≡ last_of (l ∷ ls) id
    passed true f other later = rw (f, ne_eqb l.0 id other) later
    passed false f other later = rw (f, ne_eqb l.0 id other) later

-- last numbers filtered by id
pub last-filter : (q : ℕ → Bool) (ls : List (ℕ × ℕ)) (id : ℕ) → (last_of (filter (λ l. q l.0) ls) id ≡ last_of ls id) ⊎ (last_of (filter (λ l. q l.0) ls) id ≡ None)
last-filter q ls id = at (q id) refl
  where
    at : (b : Bool) → q id ≡ b → (last_of (filter (λ l. q l.0) ls) id ≡ last_of ls id) ⊎ (last_of (filter (λ l. q l.0) ls) id ≡ None)
    at true e = inl (last-kept q ls id e)
    at false e = inr (last-dropped q ls id e)

-- the last number that was put is found, and the others are unchanged
pub last-put : (t n : ℕ) (ls : List (ℕ × ℕ)) (id : ℕ) → last_of (set_last t n ls) id ≡ cond (eqb id t) (Some n) (last_of ls id)
last-put t n [] id = elim (cases_eq t id) [
  | inl same ↦ rw (eq-eqb t id same, eq-eqb id t (sym same)) refl
  | inr other ↦ rw (ne_eqb t id other, ne_eqb id t (λ e. other (sym e))) refl
]
last-put t n (l ∷ ls) id =
    let later = last-put t n ls id in
    elim (cases_eq l.0 t) [
      | inl same ↦ elim (cases_eq t id) [
        | inl here ↦ rw (eq-eqb l.0 t same, eq-eqb t id here, eq-eqb id t (sym here)) refl
        | inr other ↦ rw (eq-eqb l.0 t same, ne_eqb t id other, ne_eqb id t (λ e. other (sym e)), ne_eqb l.0 id (λ e. other (sym same ∙ e))) refl
      ]
      | inr apart ↦ before (nat_lt t l.0) refl apart later
    ]
  where
    before : (b : Bool) → nat_lt t l.0 ≡ b → (l.0 ≡ t → ⊥) → last_of (set_last t n ls) id ≡ cond (eqb id t) (Some n) (last_of ls id) → last_of (set_last t n (l ∷ ls)) id ≡ cond (eqb id t) (Some n) (last_of (l ∷ ls) id)
    before true e apart later = elim (cases_eq t id) [
      | inl here ↦ rw (ne_eqb l.0 t apart, e, eq-eqb t id here, eq-eqb id t (sym here)) refl
      | inr other ↦ rw (ne_eqb l.0 t apart, e, ne_eqb t id other, ne_eqb id t (λ f. other (sym f))) refl
    ]
    before false e apart later = elim (cases_eq l.0 id) [
      | inl here ↦ rw (ne_eqb l.0 t apart, e, eq-eqb l.0 id here, ne_eqb id t (λ f. apart (here ∙ f))) refl
      | inr other ↦ rw (ne_eqb l.0 t apart, e, ne_eqb l.0 id other) later
    ]
