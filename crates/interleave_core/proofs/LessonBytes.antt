-- A shortest lesson has bytes alone if the names of its tables, and the keys and names of its updates, have.
use Rattle.std.proofs.Common.{◌≡◌, ℕ, ◌≤◌, ◌<◌, ◌^◌, Bool, true, false, not, ◌&&◌, List, [], ◌∷◌, ◌++◌, length, Option, Some, None, sym, ap, subst, ◌∙◌, inl, inr, ◌⊎◌, arith, length-append}
use Rattle.std.specs.Prelude.{filter, nat_lt, nat_le, ◌==◌}
use Rattle.std.specs.List.{AllByRecursion, flat_map, list_all}
use Rattle.std.proofs.lemmas.Bool.{and_parts, cases_Bool, cond-true, cond-false, cond_both, leb-true, ltb-true}
use Rattle.std.proofs.lemmas.Bool.Decides.{nat_tests}
use Rattle.std.proofs.lemmas.List.Concat.{flat_map-cons}
use Rattle.std.proofs.lemmas.List.Sums.{sum_by-cons}
use Rattle.table_types.specs.declared.data_type.DataType.{DataType}
use Rattle.table_types.specs.declared.data_type.Shape.{Shape}
use Rattle.table_types.specs.declared.data_type.Shape.TheVariants as shapes
use Rattle.table_types.specs.declared.key.Key.{Key}
use Rattle.table_types.specs.declared.key.Key.TheVariants as keys
use Rattle.table_types.specs.declared.key.KeyKind.{KeyKind}
use Rattle.table_types.specs.declared.key.KeyKind.TheVariants as kinds
use Rattle.table_types.specs.declared.update.Update.{Update}
use Rattle.table_types.specs.declared.update.Value.{Value}
use Rattle.table_types.specs.declared.update.Value.TheVariants as values
use Rattle.table_types.specs.DataTypes.{id_of, shape_of}
use Rattle.table_types.specs.Keys.{fits_length, number_of}
use Rattle.table_types.specs.Rosters.{table_at}
use Rattle.table_types.specs.Tables.{Definition, has_its_period, is_definition, is_period, is_absent}
use Rattle.table_types.specs.Updates.{is_name_type, row_fits, value_fits, values_fit}
use Rattle.peers_encint.proofs.OneSpelling.{bytes as spelling_bytes, within as spelling_size}
use Rattle.peers_msg.specs.Integers.{IsBytes, spelling}
use Rattle.peers_msg.specs.declared.control.Control.{Control}
use Rattle.peers_msg.specs.declared.control.Control.TheVariants as controls
use Rattle.peers_msg.specs.declared.control.ErrorKind.{ErrorKind}
use Rattle.peers_msg.specs.declared.control.ErrorKind.TheVariants as errors
use Rattle.peers_msg.specs.declared.message.Message.{Message}
use Rattle.peers_msg.specs.declared.message.Message.TheVariants as messages
use Rattle.peers_msg.specs.declared.name_field.NameField.{NameField}
use Rattle.peers_msg.specs.declared.name_field.NameField.TheVariants as names
use Rattle.peers_msg.specs.Fitting.{fits, fits_table, has_shape, name_fits, update_fits}
use Rattle.peers_msg.specs.Messages.{UpdateFields, most_data}
use Rattle.peers_msg.specs.Received.{Received, selected_table}
use Rattle.peers_msg.specs.Spelling.{bits_of, control_type, counted, data_of, definition_text, error_type, framed, key_text, name_text, optional_word, period_text, size_of, size_of_all, spelled, stream_of, update_text, update_type, value_text, word}
use Rattle.peers_msg.proofs.DataLengths.{bits_small, types_rise}
use Rattle.known_state.specs.Known.{KnownState}
use Rattle.known_state.specs.State.{IsOwn, Named, State, Step, Teaches}
use Rattle.teach_writer.specs.Lessons.{IsShortestLesson}
use Rattle.interleave_core.specs.Bytes.{IsKeyOfBytes, IsNamedInBytes, IsNameOfBytes, IsOfBytes}
use Rattle.interleave_core.proofs.AcksOnTheirWay.{bytes_cons, no_bytes, word_bytes}
use Rattle.interleave_core.proofs.OnItsWay.{IsBytes-append}

-- ---- parts of messages

spelling_is : (n : ℕ) → n < 2 ^ 32 → IsBytes (spelling n)
spelling_is n small = spelling_bytes n (let wide : n < 2 ^ 64 = omega (arith, small) in wide)

counted_is : (bs : List ℕ) → length bs ≤ most_data → IsBytes bs → IsBytes (counted bs)
counted_is bs few good = IsBytes-append (spelling (length bs)) bs (spelling_is (length bs) (omega (arith, few))) good

framed_is : (class kind : ℕ) (body : List ℕ) → class < 256 → kind < 256 → length body ≤ most_data → IsBytes body → IsBytes (framed class kind body)
framed_is class kind body small little few good = bytes_cons class (kind ∷ counted body) small (bytes_cons kind (counted body) little (counted_is body few good))

optional_is : (o : Option ℕ) → IsBytes (optional_word o)
optional_is None = no_bytes
optional_is (Some n) = word_bytes n

key_is : (key : Key) → length (key_text key) ≤ most_data → IsKeyOfBytes key → IsBytes (key_text key)
key_is (keys.Int n) few good = word_bytes n
key_is (keys.Ip4 bs) few good = good
key_is (keys.Ip6 bs) few good = good
key_is (keys.Str bs) few good = let sizes = length-append (spelling (length bs)) bs in counted_is bs (omega (arith, few, sizes)) good
key_is (keys.Bin bs) few good = good

value_is : (shape : Shape) (v : Value) → value_fits shape v ≡ true → IsBytes (value_text v)
value_is shapes.Count (values.Count n) fit = spelling_is n (ltb-true n (2 ^ 32) fit)
value_is shapes.LongCount (values.Count n) fit = spelling_bytes n (ltb-true n (2 ^ 64) fit)
value_is shapes.Rate (values.Rate elapsed current previous) fit =
    let both = and_parts (nat_lt elapsed (2 ^ 32) && nat_lt current (2 ^ 32)) (nat_lt previous (2 ^ 32)) fit in
    let first = and_parts (nat_lt elapsed (2 ^ 32)) (nat_lt current (2 ^ 32)) both.0 in
    IsBytes-append (spelling elapsed) (spelling current ++ spelling previous) (spelling_is elapsed (ltb-true elapsed (2 ^ 32) first.0))
    (IsBytes-append (spelling current) (spelling previous) (spelling_is current (ltb-true current (2 ^ 32) first.1)) (spelling_is previous (ltb-true previous (2 ^ 32) both.1)))
value_is shape v fit = cc

values_are : (ts : List (DataType × Option ℕ)) (vs : List Value) → values_fit ts vs ≡ true → IsBytes (flat_map value_text vs)
values_are [] [] fit = no_bytes
values_are [] (v ∷ vs) fit = cc
values_are (t ∷ ts) [] fit = no_bytes
values_are (t ∷ ts) (v ∷ vs) fit = elim (cases_Bool (is_name_type t.0)) [
  | inl name ↦ values_are ts (v ∷ vs) (sym (cond-true (is_name_type t.0) (values_fit ts (v ∷ vs)) (value_fits (shape_of t.0) v && values_fit ts vs) name) ∙ fit)
  | inr other ↦
      let both = and_parts (value_fits (shape_of t.0) v) (values_fit ts vs) (sym (cond-false (is_name_type t.0) (values_fit ts (v ∷ vs)) (value_fits (shape_of t.0) v && values_fit ts vs) other) ∙ fit) in
      subst IsBytes (sym (flat_map-cons value_text v vs)) (IsBytes-append (value_text v) (flat_map value_text vs) (value_is (shape_of t.0) v both.0) (values_are ts vs both.1))
]

-- the name that a field writes is the update's
field_is : (d : Definition) (slots after : List (Option (List ℕ))) (field : NameField) (name : Option (List ℕ)) → name_fits d field ≡ true → Named slots field name after → IsNameOfBytes name → IsBytes (name_text field)
field_is d slots after names.NotStored name fit named good = no_bytes
field_is d slots after names.NoName name fit named good = spelling_is 0 (omega arith)
field_is d slots after (names.Held slot) name fit named good =
    let small : slot ≤ 128 = grind (arith, nat_tests) in
    counted_is (spelling slot) (omega (arith, (spelling_size slot).1)) (spelling_is slot (omega (arith, small)))
field_is d slots after (names.Written slot bs) name fit named good =
    let small : slot ≤ 128 = grind (arith, nat_tests) in
    let short : length bs ≤ 255 = grind (arith, nat_tests) in
    let own : IsBytes bs = subst IsNameOfBytes named.0 good in
    let few : length (spelling slot ++ counted bs) ≤ most_data =
    omega (arith, length-append (spelling slot) (counted bs), length-append (spelling (length bs)) bs, (spelling_size slot).1, (spelling_size (length bs)).1, short) in
    counted_is (spelling slot ++ counted bs) few
    (IsBytes-append (spelling slot) (counted bs) (spelling_is slot (omega (arith, small))) (counted_is bs (omega (arith, short)) own))

update_is : (d : Definition) (u : UpdateFields) (slots after : List (Option (List ℕ))) (name : Option (List ℕ)) → update_fits d u ≡ true → length (update_text u) ≤ most_data → Named slots u.name name after
    → IsKeyOfBytes u.key → IsNameOfBytes name → IsBytes (update_text u)
update_is d u slots after name fit few named key good =
    let row : row_fits d u.key u.values ≡ true = grind (arith, nat_tests) in
    let field : name_fits d u.name ≡ true = grind (arith, nat_tests) in
    let of_types : values_fit d.types u.values ≡ true = grind (arith, nat_tests) in
    let short : length (key_text u.key) ≤ most_data =
    omega (
      arith,
      few,
      length-append (optional_word u.number) (optional_word u.life ++ (key_text u.key ++ (flat_map value_text u.values ++ name_text u.name))),
      length-append (optional_word u.life) (key_text u.key ++ (flat_map value_text u.values ++ name_text u.name)),
      length-append (key_text u.key) (flat_map value_text u.values ++ name_text u.name),
    ) in
    IsBytes-append (optional_word u.number) (optional_word u.life ++ (key_text u.key ++ (flat_map value_text u.values ++ name_text u.name))) (optional_is u.number)
    (IsBytes-append (optional_word u.life) (key_text u.key ++ (flat_map value_text u.values ++ name_text u.name)) (optional_is u.life)
    (IsBytes-append (key_text u.key) (flat_map value_text u.values ++ name_text u.name) (key_is u.key short key)
    (IsBytes-append (flat_map value_text u.values) (name_text u.name) (values_are d.types u.values of_types) (field_is d slots after u.name name field named good))))

-- ---- definitions

kind_small : (kind : KeyKind) → number_of kind < 2 ^ 32
kind_small kinds.Integer = omega arith
kind_small kinds.Ip4 = omega arith
kind_small kinds.Ip6 = omega arith
kind_small kinds.String = omega arith
kind_small kinds.Binary = omega arith

length_small : (kind : KeyKind) (l : ℕ) → fits_length kind l ≡ true → l < 2 ^ 32
length_small kinds.Integer l fit = grind (arith, nat_tests)
length_small kinds.Ip4 l fit = grind (arith, nat_tests)
length_small kinds.Ip6 l fit = grind (arith, nat_tests)
length_small kinds.String l fit = grind (arith, nat_tests)
length_small kinds.Binary l fit = grind (arith, nat_tests)

id_small : (t : DataType) → id_of t < 2 ^ 32
id_small t = let most = Rattle.peers_msg.proofs.DataLengths.id_most t in omega (arith, most)

period_is : (t : DataType) (period : Option ℕ) → (is_period period ≡ true) ⊎ (is_absent period ≡ true) → IsBytes (period_text (t, period))
period_is t None its = no_bytes
period_is t (Some p) (inl its) =
    let both = and_parts (nat_le 1 p) (nat_lt p (2 ^ 32)) its in
    IsBytes-append (spelling (id_of t)) (spelling p) (spelling_is (id_of t) (id_small t)) (spelling_is p (ltb-true p (2 ^ 32) both.1))
period_is t (Some p) (inr none) = absurd cc

has_either : (t : DataType × Option ℕ) → has_its_period t ≡ true → (is_period t.1 ≡ true) ⊎ (is_absent t.1 ≡ true)
has_either t its =
    cond_both (Rattle.table_types.specs.DataTypes.is_rate t.0) (is_period t.1) (is_absent t.1) (λ (b : Bool). b ≡ true → (is_period t.1 ≡ true) ⊎ (is_absent t.1 ≡ true)) (λ rate so. inl so) (λ other so. inr so) its

periods_are : (ts : List (DataType × Option ℕ)) → list_all has_its_period ts ≡ true → IsBytes (flat_map period_text ts)
periods_are [] all = no_bytes
periods_are (t ∷ ts) all =
    let both = and_parts (has_its_period t) (list_all has_its_period ts) all in
    subst IsBytes (sym (flat_map-cons period_text t ts)) (IsBytes-append (period_text t) (flat_map period_text ts) (period_is t.0 t.1 (has_either t both.0)) (periods_are ts both.1))

definition_is : (d : Definition) → is_definition d ≡ true → IsBytes d.name → IsBytes (definition_text d)
definition_is d defined name =
    let id : d.id < 2 ^ 32 = grind (arith, nat_tests) in
    let short : length d.name ≤ 255 = grind (arith, nat_tests) in
    let key_length : fits_length d.kind d.key_length ≡ true = grind (arith, nat_tests) in
    let expire : d.expire < 2 ^ 32 = grind (arith, nat_tests) in
    let periods : list_all has_its_period d.types ≡ true = grind (arith, nat_tests) in
    let bits = bits_small 0 d.types (omega arith) (types_rise d defined) in
    IsBytes-append (spelling d.id) (counted d.name ++ (spelling (number_of d.kind) ++ (spelling d.key_length ++ (spelling (bits_of d.types) ++ (spelling d.expire ++ flat_map period_text d.types))))) (spelling_is d.id id)
    (IsBytes-append (counted d.name) (spelling (number_of d.kind) ++ (spelling d.key_length ++ (spelling (bits_of d.types) ++ (spelling d.expire ++ flat_map period_text d.types)))) (counted_is d.name (omega (arith, short)) name)
    (IsBytes-append (spelling (number_of d.kind)) (spelling d.key_length ++ (spelling (bits_of d.types) ++ (spelling d.expire ++ flat_map period_text d.types))) (spelling_is (number_of d.kind) (kind_small d.kind))
    (IsBytes-append (spelling d.key_length) (spelling (bits_of d.types) ++ (spelling d.expire ++ flat_map period_text d.types)) (spelling_is d.key_length (length_small d.kind d.key_length key_length))
    (IsBytes-append (spelling (bits_of d.types)) (spelling d.expire ++ flat_map period_text d.types) (spelling_is (bits_of d.types) (omega (arith, bits)))
    (IsBytes-append (spelling d.expire) (flat_map period_text d.types) (spelling_is d.expire expire) (periods_are d.types periods))))))

-- ---- messages

-- a message whose pair of class and type has no meaning
abbrev is_foreign : Message → Bool
is_foreign (messages.Other o) = true
is_foreign m = false

control_small : (c : Control) → control_type c < 256
control_small controls.ResyncRequest = omega arith
control_small controls.ResyncFinished = omega arith
control_small controls.ResyncPartial = omega arith
control_small controls.ResyncConfirmed = omega arith
control_small controls.Heartbeat = omega arith

error_small : (e : ErrorKind) → error_type e < 256
error_small errors.Protocol = omega arith
error_small errors.SizeLimit = omega arith

type_small : (u : UpdateFields) → update_type u < 256
type_small u = by u.number u.life
  where
    type_for : Option ℕ → Option ℕ → ℕ
    type_for (Some number) None = 128
    type_for None None = 129
    type_for (Some number) (Some life) = 133
    type_for None (Some life) = 134

    by : (a b : Option ℕ) → type_for a b < 256
    by (Some number) None = omega arith
    by None None = omega arith
    by (Some number) (Some life) = omega arith
    by None (Some life) = omega arith

named_at : (roster : List Definition) (id : ℕ) (d : Definition) → AllByRecursion IsNamedInBytes roster → table_at roster id ≡ Some d → IsBytes d.name
named_at [] id d all at = absurd cc
named_at (x ∷ xs) id d (first, rest) at = elim (cases_Bool (x.id == id)) [
  | inl here ↦
      let is : ◌≡◌ {A = Option Definition} (Some x) (Some d) = sym (cond-true (x.id == id) (Some x) (table_at xs id) here) ∙ at in
      subst IsNamedInBytes (same x d is) first
  | inr there ↦ named_at xs id d rest (sym (cond-false (x.id == id) (Some x) (table_at xs id) there) ∙ at)
]
  where
    same : (a b : Definition) → ◌≡◌ {A = Option Definition} (Some a) (Some b) → a ≡ b
    same a b is = cc

selected_fits : (o : Option Definition) (u : UpdateFields) → fits_table o u ≡ true → (d : Definition) × (update_fits d u ≡ true)
selected_fits None u fit = absurd cc
selected_fits (Some d) u fit = (d, fit)

-- what fits has the shape and few data
parts_of : (h : Received) (m : Message) → fits h m ≡ true → (has_shape h m ≡ true) × (length (data_of m) ≤ most_data)
unfolding fits
parts_of h m fit =
    let both = and_parts (has_shape h m) (nat_le (length (data_of m)) most_data) fit in
    (both.0, leb-true (length (data_of m)) most_data both.1)

message_is : (roster : List Definition) (s mid : State) (m : Message) (one : List Update) → AllByRecursion IsNamedInBytes roster → IsOwn roster m → is_foreign m ≡ false → Step s m one mid → AllByRecursion IsOfBytes one → IsBytes (spelled m)
unfolding spelled data_of
message_is roster s mid (messages.Control c) one named own plain step good = bytes_cons 0 (control_type c ∷ []) (omega arith) (bytes_cons (control_type c) [] (control_small c) no_bytes)
message_is roster s mid (messages.Error e) one named own plain step good = bytes_cons 1 (error_type e ∷ []) (omega arith) (bytes_cons (error_type e) [] (error_small e) no_bytes)
message_is roster s mid (messages.Define d) one named own plain (fit, none, is) good =
    let parts = parts_of s.received (messages.Define d) fit in
    framed_is 10 130 (definition_text d) (omega arith) (omega arith) parts.1 (definition_is d parts.0 (named_at roster d.id d named own))
message_is roster s mid (messages.Switch id) one named own plain (fit, none, is) good =
    let parts = parts_of s.received (messages.Switch id) fit in
    framed_is 10 131 (spelling id) (omega arith) (omega arith) parts.1 (spelling_bytes id (ltb-true id (2 ^ 64) (and_parts (nat_lt id (2 ^ 64)) _ parts.0).0))
message_is roster s mid (messages.Ack table number) one named own plain (fit, none, is) good =
    let parts = parts_of s.received (messages.Ack table number) fit in
    framed_is 10 132 (spelling table ++ word number) (omega arith) (omega arith) parts.1
    (IsBytes-append (spelling table) (word number) (spelling_bytes table (ltb-true table (2 ^ 64) (and_parts (nat_lt table (2 ^ 64)) _ parts.0).0)) (word_bytes number))
message_is roster s mid (messages.Update u) one named own plain (fit, table, selected, number, resolved, name, has, is, received, lasts) good =
    let parts = parts_of s.received (messages.Update u) fit in
    let (d, fitting) = selected_fits (selected_table s.received) u parts.0 in
    let own_bytes = (subst (AllByRecursion IsOfBytes) is good).0 in
    framed_is 10 (update_type u) (update_text u) (omega arith) (type_small u) parts.1 (update_is d u s.slots mid.slots name fitting parts.1 has own_bytes.0 own_bytes.1)
message_is roster s mid (messages.Other o) one named own plain step good = absurd cc

-- ---- lists of messages

front_of : {A : Type 0} (P : A → Type 0) (xs ys : List A) → AllByRecursion P (xs ++ ys) → AllByRecursion P xs
front_of P [] ys all = tt
front_of P (x ∷ xs) ys (first, rest) = (first, front_of P xs ys rest)

back_of : {A : Type 0} (P : A → Type 0) (xs ys : List A) → AllByRecursion P (xs ++ ys) → AllByRecursion P ys
back_of P [] ys all = all
back_of P (x ∷ xs) ys (first, rest) = back_of P xs ys rest

stream_is : (roster : List Definition) (ms : List Message) (s e : State) (us : List Update) → AllByRecursion IsNamedInBytes roster → AllByRecursion (IsOwn roster) ms → AllByRecursion (λ (m : Message). is_foreign m ≡ false) ms
    → Teaches s ms us e → AllByRecursion IsOfBytes us → IsBytes (stream_of ms)
stream_is roster [] s e us named own plain teaches good = no_bytes
stream_is roster (m ∷ ms) s e us named (own, owns) (plain, plains) (one, rest, mid, split, step, later) good =
    let all = subst (AllByRecursion IsOfBytes) split good in
    subst IsBytes (sym (flat_map-cons spelled m ms))
    (IsBytes-append (spelled m) (stream_of ms) (message_is roster s mid m one named own plain step (front_of IsOfBytes one rest all)) (stream_is roster ms mid e rest named owns plains later (back_of IsOfBytes one rest all)))

-- a message without meaning carries nothing and changes nothing
foreign_step : (s mid : State) (m : Message) (one : List Update) → is_foreign m ≡ true → Step s m one mid → (one ≡ []) × (mid ≡ s)
foreign_step s mid (messages.Other o) one foreign (fit, none, is) = (none, is)
foreign_step s mid (messages.Control c) one foreign step = absurd cc
foreign_step s mid (messages.Error e) one foreign step = absurd cc
foreign_step s mid (messages.Define d) one foreign step = absurd cc
foreign_step s mid (messages.Switch id) one foreign step = absurd cc
foreign_step s mid (messages.Ack table number) one foreign step = absurd cc
foreign_step s mid (messages.Update u) one foreign step = absurd cc

-- the messages but those
abbrev kept : List Message → List Message
kept ms = filter (λ m. not (is_foreign m)) ms

kept_yes : (m : Message) (ms : List Message) → is_foreign m ≡ false → kept (m ∷ ms) ≡ m ∷ kept ms
kept_yes m ms own = cond-true (not (is_foreign m)) (m ∷ kept ms) (kept ms) (ap not own)

kept_no : (m : Message) (ms : List Message) → is_foreign m ≡ true → kept (m ∷ ms) ≡ kept ms
kept_no m ms foreign = cond-false (not (is_foreign m)) (m ∷ kept ms) (kept ms) (ap not foreign)

owns_kept : (roster : List Definition) (ms : List Message) → AllByRecursion (IsOwn roster) ms → AllByRecursion (IsOwn roster) (kept ms)
owns_kept roster [] all = tt
owns_kept roster (m ∷ ms) (first, rest) = elim (cases_Bool (is_foreign m)) [
  | inl foreign ↦ subst (AllByRecursion (IsOwn roster)) (sym (kept_no m ms foreign)) (owns_kept roster ms rest)
  | inr own ↦ subst (AllByRecursion (IsOwn roster)) (sym (kept_yes m ms own)) (first, owns_kept roster ms rest)
]

teaches_kept : (ms : List Message) (s e : State) (us : List Update) → Teaches s ms us e → Teaches s (kept ms) us e
teaches_kept [] s e us teaches = teaches
teaches_kept (m ∷ ms) s e us (one, rest, mid, split, step, later) = elim (cases_Bool (is_foreign m)) [
  | inl foreign ↦
      let (none, same) = foreign_step s mid m one foreign step in
      let is : us ≡ rest = split ∙ ap (λ (l : List Update). l ++ rest) none in
      subst (λ (l : List Message). Teaches s l us e) (sym (kept_no m ms foreign))
      (subst (λ (l : List Update). Teaches s (kept ms) l e) (sym is) (subst (λ (x : State). Teaches x (kept ms) rest e) same (teaches_kept ms mid e rest later)))
  | inr own ↦ subst (λ (l : List Message). Teaches s l us e) (sym (kept_yes m ms own)) (one, rest, mid, split, step, teaches_kept ms mid e rest later)
]

foreign_size : (m : Message) → is_foreign m ≡ true → 2 ≤ size_of m
unfolding size_of spelled
foreign_size (messages.Other o) foreign =
    cond_both (nat_lt o.message_type 128) (o.class ∷ (o.message_type ∷ [])) (framed o.class o.message_type o.body) (λ (l : List ℕ). 2 ≤ length l) (λ _. omega arith) (λ _. omega arith)
foreign_size (messages.Control c) foreign = absurd cc
foreign_size (messages.Error e) foreign = absurd cc
foreign_size (messages.Define d) foreign = absurd cc
foreign_size (messages.Switch id) foreign = absurd cc
foreign_size (messages.Ack table number) foreign = absurd cc
foreign_size (messages.Update u) foreign = absurd cc

kept_size : (ms : List Message) → size_of_all (kept ms) ≤ size_of_all ms
kept_size [] = omega arith
kept_size (m ∷ ms) = elim (cases_Bool (is_foreign m)) [
  | inl foreign ↦
      let whole = sum_by-cons size_of m ms in
      subst (λ (l : List Message). size_of_all l ≤ size_of_all (m ∷ ms)) (sym (kept_no m ms foreign)) (omega (arith, whole, kept_size ms))
  | inr own ↦
      let whole = sum_by-cons size_of m ms in
      let less = sum_by-cons size_of m (kept ms) in
      subst (λ (l : List Message). size_of_all l ≤ size_of_all (m ∷ ms)) (sym (kept_yes m ms own)) (omega (arith, whole, less, kept_size ms))
]

-- if they are no shorter without such messages, there are none
none_foreign : (ms : List Message) → size_of_all ms ≤ size_of_all (kept ms) → AllByRecursion (λ (m : Message). is_foreign m ≡ false) ms
none_foreign [] least = tt
none_foreign (m ∷ ms) least = elim (cases_Bool (is_foreign m)) [
  | inl foreign ↦
      let whole = sum_by-cons size_of m ms in
      let shorter : size_of_all (m ∷ ms) ≤ size_of_all (kept ms) = subst (λ (l : List Message). size_of_all (m ∷ ms) ≤ size_of_all l) (kept_no m ms foreign) least in
      absurd (omega (arith, whole, shorter, kept_size ms, foreign_size m foreign))
  | inr own ↦
      let whole = sum_by-cons size_of m ms in
      let less = sum_by-cons size_of m (kept ms) in
      let shorter : size_of_all (m ∷ ms) ≤ size_of_all (m ∷ kept ms) = subst (λ (l : List Message). size_of_all (m ∷ ms) ≤ size_of_all l) (kept_yes m ms own) least in
      (own, none_foreign ms (omega (arith, whole, less, shorter)))
]

pub lesson_is : (known after : KnownState) (batch : List Update) (bytes : List ℕ) → AllByRecursion IsNamedInBytes known.roster → AllByRecursion IsOfBytes batch → IsShortestLesson known batch bytes after → IsBytes bytes
lesson_is known after batch bytes named good (ms, is, (own, teaches), roster, (e, legal, least)) =
    let plain = none_foreign ms (least (kept ms) e (owns_kept known.roster ms legal.0, teaches_kept ms known.state e batch legal.1)) in
    subst IsBytes (sym is) (stream_is known.roster ms known.state after.state batch named own plain teaches good)
