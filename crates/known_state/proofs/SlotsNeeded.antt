-- A name that is read is in a slot from its previous request on, and so is the name of each request in between.
use Rattle.std.proofs.Common.{◌≡◌, ℕ, zero, suc, ◌+◌, ◌<◌, ◌≤◌, Bool, true, false, ◌||◌, cond, ltb, List, [], ◌∷◌, ◌++◌, length, Option, Some, None, ◌⊎◌, refl, sym, ap, ◌∙◌, subst, inl, inr, arith}
use Rattle.std.specs.Prelude.{slice_set}
use Rattle.std.specs.List.{AllByRecursion, IsDistinct, list_any}
use Rattle.std.specs.Cmp.Lexicographic.{same_text}
use Rattle.std.proofs.lemmas.Bool.{cases_eq}
use Rattle.std.proofs.lemmas.Bool.Decides.{nat_tests}
use Rattle.std.proofs.lemmas.Cmp.{nat_list_eq_equiv}
use Rattle.std.proofs.lemmas.Map.Keys.{IsDistinct-cons}
use Rattle.std.proofs.lemmas.Map.Made.{length-le_from_is_member, IsDistinct-from_count}
use Rattle.table_types.specs.Rosters.{is_same_name}
use Rattle.known_state.specs.Requests.{Asked}
use Rattle.known_state.specs.Plans.{Asking, at_start, after_request, Link, link_of, links_from, links, AreLinked, kept_over, name_held, names_in}
use Rattle.known_state.proofs.RosterNamesDiffer.{name_itself}

-- a name is among names
abbrev pub is_among : List ℕ → List (List ℕ) → Bool
is_among name names = list_any (is_same_name name) names

-- Requests are served one after another from these slots: a request that is read finds its name in a slot, and the name
-- of any other is written to some slot.
abbrev pub AreMet : List (Option (List ℕ)) → List Asked → List Bool → Type 0
AreMet slots [] marks = Unit {0}
AreMet slots (r ∷ rs) [] = ⊥
AreMet slots (r ∷ rs) (true ∷ marks) = (is_among r.name (names_in slots) ≡ true) × AreMet slots rs marks
AreMet slots (r ∷ rs) (false ∷ marks) = (place : ℕ) × (place < length slots) × AreMet (slice_set slots place (Some r.name)) rs marks

-- ---- names in slots

pub or_first : (a b : Bool) → a ≡ true → (a || b) ≡ true
or_first true b h = refl
or_first false b h = cc

pub or_second : (a b : Bool) → b ≡ true → (a || b) ≡ true
or_second true b h = refl
or_second false b h = h

or_not_first : (a b : Bool) → (a || b) ≡ true → a ≡ false → b ≡ true
or_not_first true b h no_a = cc
or_not_first false b h no_a = h

pub turned : (a b : List ℕ) → is_same_name a b ≡ is_same_name b a
turned a b = nat_list_eq_equiv.symm a b

-- the name that a slot holds is among the slots' names
pub held_among : (slots : List (Option (List ℕ))) (place : ℕ) (name : List ℕ) → place < length slots → is_among name (names_in (slice_set slots place (Some name))) ≡ true
held_among [] place name lt = absurd (omega arith)
held_among (s ∷ slots) zero name lt = rw (name_itself name) refl
held_among (s ∷ slots) (suc place) name lt = by s (held_among slots place name (omega arith))
  where
    by : (s : Option (List ℕ)) → is_among name (names_in (slice_set slots place (Some name))) ≡ true → is_among name (name_held s ++ names_in (slice_set slots place (Some name))) ≡ true
    by None later = later
    by (Some other) later = or_second (is_same_name name other) _ later

-- a name in the slots after a write is the one written, or was in them before
pub among_before : (slots : List (Option (List ℕ))) (place : ℕ) (name other : List ℕ) → is_same_name name other ≡ false → is_among name (names_in (slice_set slots place (Some other))) ≡ true → is_among name (names_in slots) ≡ true
among_before [] place name other apart h = h
among_before (s ∷ slots) zero name other apart h = by s (or_not_first (is_same_name name other) (is_among name (names_in slots)) h apart)
  where
    by : (s : Option (List ℕ)) → is_among name (names_in slots) ≡ true → is_among name (name_held s ++ names_in slots) ≡ true
    by None later = later
    by (Some x) later = or_second (is_same_name name x) _ later
among_before (s ∷ slots) (suc place) name other apart h = by s h (among_before slots place name other apart)
  where
    by : (s : Option (List ℕ)) → is_among name (name_held s ++ names_in (slice_set slots place (Some other))) ≡ true → (is_among name (names_in (slice_set slots place (Some other))) ≡ true → is_among name (names_in slots) ≡ true) → is_among name (name_held s ++ names_in slots) ≡ true
    by None h later = later h
    by (Some x) h later = first (is_same_name name x) h
      where
        first : (b : Bool) → (b || is_among name (names_in (slice_set slots place (Some other)))) ≡ true → (b || is_among name (names_in slots)) ≡ true
        first true h = refl
        first false h = later h

-- there are no more names than slots
names_fit : (slots : List (Option (List ℕ))) → length (names_in slots) ≤ length slots
names_fit [] = omega arith
names_fit (None ∷ slots) = let later = names_fit slots in omega arith
names_fit (Some name ∷ slots) = let later = names_fit slots in omega arith

-- ---- each request that is read has a link

-- each name in the slots was requested, or was in them at the start
abbrev HaveBeenRequested : Asking → List (Option (List ℕ)) → Type 0
HaveBeenRequested asking slots = (name : List ℕ) → is_among name (names_in slots) ≡ true → (from : ℕ) × (asking.last name ≡ Some from)

at_first : (slots : List (Option (List ℕ))) → HaveBeenRequested (at_start (names_in slots)) slots
at_first slots = λ name h. (0, rw h refl)

-- the place of a name's last request, after one more request
after_more : (asking : Asking) (r : Asked) (name : List ℕ) (b : Bool) → is_same_name r.name name ≡ b → (b ≡ false → (from : ℕ) × (asking.last name ≡ Some from)) → (from : ℕ) × ((after_request asking r).last name ≡ Some from)
after_more asking r name true is before = (asking.place + 1, rw is refl)
after_more asking r name false is before = let earlier = before refl in (earlier.0, rw is earlier.1)

pub met_linked : (asking : Asking) (slots : List (Option (List ℕ))) (rs : List Asked) (keep : List Bool) → HaveBeenRequested asking slots → AreMet slots rs keep → AreLinked asking rs keep
met_linked asking slots [] [] requested met = tt
met_linked asking slots [] (k ∷ keep) requested met = tt
met_linked asking slots (r ∷ rs) [] requested met = tt
met_linked asking slots (r ∷ rs) (true ∷ keep) requested met =
    (requested r.name met.0, met_linked (after_request asking r) slots rs keep (λ name h. after_more asking r name (is_same_name r.name name) refl (λ apart. requested name h)) met.1)
met_linked asking slots (r ∷ rs) (false ∷ keep) requested met =
    met_linked (after_request asking r) (slice_set slots met.0 (Some r.name)) rs keep (λ name h. after_more asking r name (is_same_name r.name name) refl (λ apart. requested name (among_before slots met.0 name r.name (turned name r.name ∙ apart) h))) met.2

-- ---- the names that are kept over a place

abbrev pub is_before : ℕ → Option ℕ → Bool
is_before place None = false
is_before place (Some from) = ltb from place

-- the names of kept requests to come that were last requested before a place
abbrev pub names_over : ℕ → Asking → List Asked → List Bool → List (List ℕ)
names_over place asking [] keep = []
names_over place asking (r ∷ rs) [] = []
names_over place asking (r ∷ rs) (true ∷ keep) = cond (is_before place (asking.last r.name)) (r.name ∷ names_over place (after_request asking r) rs keep) (names_over place (after_request asking r) rs keep)
names_over place asking (r ∷ rs) (false ∷ keep) = names_over place (after_request asking r) rs keep

-- there are as many of them as there are kept links with the place inside
pub as_many : (place : ℕ) (asking : Asking) (rs : List Asked) (keep : List Bool) → place ≤ asking.place → kept_over (links_from asking rs keep) place ≡ length (names_over place asking rs keep)
as_many place asking [] keep le = refl
as_many place asking (r ∷ rs) [] le = refl
as_many place asking (r ∷ rs) (true ∷ keep) le = by (asking.last r.name) (links_from (after_request asking r) rs keep) (names_over place (after_request asking r) rs keep) (as_many place (after_request asking r) rs keep (omega arith))
  where
    by : (o : Option ℕ) (rest : List Link) (names : List (List ℕ)) → kept_over rest place ≡ length names → kept_over (link_of o (asking.place + 1) r true ++ rest) place ≡ length (cond (is_before place o) (r.name ∷ names) names)
    by None rest names later = later
    by (Some from) rest names later = grind (arith, nat_tests)
as_many place asking (r ∷ rs) (false ∷ keep) le = by (asking.last r.name) (links_from (after_request asking r) rs keep) (as_many place (after_request asking r) rs keep (omega arith))
  where
    by : (o : Option ℕ) (rest : List Link) → kept_over rest place ≡ length (names_over place (after_request asking r) rs keep) → kept_over (link_of o (asking.place + 1) r false ++ rest) place ≡ length (names_over place (after_request asking r) rs keep)
    by None rest later = later
    by (Some from) rest later = omega arith

-- a name that was last requested before a place isn't the name of a request after that place
before_it : (place : ℕ) (asking : Asking) (r : Asked) (name : List ℕ) → place ≤ asking.place → is_before place ((after_request asking r).last name) ≡ true → (is_same_name r.name name ≡ false) × (is_before place (asking.last name) ≡ true)
before_it place asking r name le h = by (is_same_name r.name name) refl h
  where
    by : (b : Bool) → is_same_name r.name name ≡ b → is_before place (cond b (Some (asking.place + 1)) (asking.last name)) ≡ true → (is_same_name r.name name ≡ false) × (is_before place (asking.last name) ≡ true)
    by true is h = absurd (grind (arith, nat_tests))
    by false is h = (is, h)

-- a name among those kept over a place is the name of the first request, or is among those of the rest
first_or_rest : (b : Bool) (name other : List ℕ) (names : List (List ℕ)) → is_among name (cond b (other ∷ names) names) ≡ true → ((b ≡ true) × (name ≡ other)) ⊎ (is_among name names ≡ true)
first_or_rest false name other names h = inr h
first_or_rest true name other names h = at (is_same_name name other) refl h
  where
    at : (b : Bool) → is_same_name name other ≡ b → (b || is_among name names) ≡ true → ((true ≡ true) × (name ≡ other)) ⊎ (is_among name names ≡ true)
    at true same h = inl (refl, same_text name other (sym same))
    at false apart h = inr h

-- each of them was last requested before the place
requested_before : (place : ℕ) (asking : Asking) (rs : List Asked) (keep : List Bool) (name : List ℕ) → place ≤ asking.place → is_among name (names_over place asking rs keep) ≡ true → is_before place (asking.last name) ≡ true
requested_before place asking [] keep name le h = cc
requested_before place asking (r ∷ rs) [] name le h = cc
requested_before place asking (r ∷ rs) (true ∷ keep) name le h = elim (first_or_rest (is_before place (asking.last r.name)) name r.name (names_over place (after_request asking r) rs keep) h) [
  | inl (is, same) ↦ subst (λ (n : List ℕ). is_before place (asking.last n) ≡ true) (sym same) is
  | inr more ↦ (before_it place asking r name le (requested_before place (after_request asking r) rs keep name (omega arith) more)).1
]
requested_before place asking (r ∷ rs) (false ∷ keep) name le h = (before_it place asking r name le (requested_before place (after_request asking r) rs keep name (omega arith) h)).1

-- and is in a slot
stand_in_slots : (place : ℕ) (asking : Asking) (slots : List (Option (List ℕ))) (rs : List Asked) (keep : List Bool) (name : List ℕ) → place ≤ asking.place → AreMet slots rs keep → is_among name (names_over place asking rs keep) ≡ true → is_among name (names_in slots) ≡ true
stand_in_slots place asking slots [] keep name le met h = cc
stand_in_slots place asking slots (r ∷ rs) [] name le met h = cc
stand_in_slots place asking slots (r ∷ rs) (true ∷ keep) name le met h = elim (first_or_rest (is_before place (asking.last r.name)) name r.name (names_over place (after_request asking r) rs keep) h) [
  | inl (is, same) ↦ subst (λ (n : List ℕ). is_among n (names_in slots) ≡ true) (sym same) met.0
  | inr more ↦ stand_in_slots place (after_request asking r) slots rs keep name (omega arith) met.1 more
]
stand_in_slots place asking slots (r ∷ rs) (false ∷ keep) name le met h =
    let there = stand_in_slots place (after_request asking r) (slice_set slots met.0 (Some r.name)) rs keep name (omega arith) met.2 h in
    let apart = (before_it place asking r name le (requested_before place (after_request asking r) rs keep name (omega arith) h)).0 in
    among_before slots met.0 name r.name (turned name r.name ∙ apart) there

-- what holds of each name among names holds of all of them
each_among : (p : List ℕ → Type 0) (names : List (List ℕ)) → ((name : List ℕ) → is_among name names ≡ true → p name) → AllByRecursion p names
each_among p [] each = tt
each_among p (x ∷ xs) each = (each x (or_first (is_same_name x x) (is_among x xs) (name_itself x)), each_among p xs (λ name h. each name (or_second (is_same_name name x) (is_among name xs) h)))

-- the name of a request is none of those kept over its place or over an earlier one
unlike_request : (place : ℕ) (asking : Asking) (r : Asked) (rs : List Asked) (keep : List Bool) → place ≤ asking.place + 1 → AllByRecursion (λ name. is_same_name r.name name ≡ false) (names_over place (after_request asking r) rs keep)
unlike_request place asking r rs keep le = each_among (λ name. is_same_name r.name name ≡ false) (names_over place (after_request asking r) rs keep) (λ name h. by name (is_same_name r.name name) refl (requested_before place (after_request asking r) rs keep name le h))
  where
    by : (name : List ℕ) (b : Bool) → is_same_name r.name name ≡ b → is_before place (cond (is_same_name r.name name) (Some (asking.place + 1)) (asking.last name)) ≡ true → is_same_name r.name name ≡ false
    by name false is h = is
    by name true is h = absurd (late (sym (rw is refl) ∙ h))
      where
        late : is_before place (Some (asking.place + 1)) ≡ true → ⊥
        late h = grind (arith, nat_tests)

-- no two of them are the same
are_distinct : (place : ℕ) (asking : Asking) (rs : List Asked) (keep : List Bool) → place ≤ asking.place → IsDistinct is_same_name (names_over place asking rs keep)
are_distinct place asking [] keep le = IsDistinct-from_count nat_list_eq_equiv [] refl
are_distinct place asking (r ∷ rs) [] le = IsDistinct-from_count nat_list_eq_equiv [] refl
are_distinct place asking (r ∷ rs) (true ∷ keep) le = by (is_before place (asking.last r.name)) (are_distinct place (after_request asking r) rs keep (omega arith))
  where
    by : (b : Bool) → IsDistinct is_same_name (names_over place (after_request asking r) rs keep) → IsDistinct is_same_name (cond b (r.name ∷ names_over place (after_request asking r) rs keep) (names_over place (after_request asking r) rs keep))
    by false later = later
    by true later = IsDistinct-cons is_same_name r.name (names_over place (after_request asking r) rs keep) (unlike_request place asking r rs keep (omega arith)) later
are_distinct place asking (r ∷ rs) (false ∷ keep) le = are_distinct place (after_request asking r) rs keep (omega arith)

-- ---- no place is inside more kept links than there are slots less one

-- at the place of a request, its own name is in a slot, and each kept link with the place inside needs another slot
at_its_place : (n : ℕ) (asking : Asking) (slots : List (Option (List ℕ))) (r : Asked) (rs : List Asked) (keep : List Bool) → length slots ≤ suc n → is_among r.name (names_in slots) ≡ true → AreMet slots rs keep → kept_over (links_from (after_request asking r) rs keep) (asking.place + 1) ≤ n
at_its_place n asking slots r rs keep few here met =
    let over : List (List ℕ) = names_over (asking.place + 1) (after_request asking r) rs keep in
    let le : asking.place + 1 ≤ (after_request asking r).place = omega arith in
    let apart : IsDistinct is_same_name (r.name ∷ over) = IsDistinct-cons is_same_name r.name over (unlike_request (asking.place + 1) asking r rs keep le) (are_distinct (asking.place + 1) (after_request asking r) rs keep le) in
    let fewer = length-le_from_is_member nat_list_eq_equiv (r.name ∷ over) (names_in slots) apart (λ name h. elim (first_or_rest true name r.name over h) [
      | inl (is, same) ↦ subst (λ (x : List ℕ). is_among x (names_in slots) ≡ true) (sym same) here
      | inr more ↦ stand_in_slots (asking.place + 1) (after_request asking r) slots rs keep name le met more
    ]) in
    omega (arith, names_fit slots, as_many (asking.place + 1) (after_request asking r) rs keep le)

pub length-slots : (slots : List (Option (List ℕ))) (place : ℕ) (held : Option (List ℕ)) → length (slice_set slots place held) ≡ length slots
length-slots [] place held = refl
length-slots (s ∷ slots) zero held = refl
length-slots (s ∷ slots) (suc place) held = ap (λ (n : ℕ). suc n) (length-slots slots place held)

-- a request's link ends at its place
pub ends_here : (o : Option ℕ) (place to : ℕ) (r : Asked) (k : Bool) (rest : List Link) → to ≤ place → kept_over (link_of o to r k ++ rest) place ≡ kept_over rest place
ends_here None place to r k rest le = refl
ends_here (Some from) place to r true rest le = grind (arith, nat_tests)
ends_here (Some from) place to r false rest le = omega arith

pub met_room : (n place : ℕ) (asking : Asking) (slots : List (Option (List ℕ))) (rs : List Asked) (keep : List Bool) → asking.place < place → length slots ≤ suc n → AreMet slots rs keep → kept_over (links_from asking rs keep) place ≤ n
met_room n place asking slots [] keep lt few met = omega arith
met_room n place asking slots (r ∷ rs) [] lt few met = omega arith
met_room n place asking slots (r ∷ rs) (true ∷ keep) lt few met =
    let none = ends_here (asking.last r.name) place (asking.place + 1) r true (links_from (after_request asking r) rs keep) (omega arith) in
    elim (cases_eq place (asking.place + 1)) [
      | inl same ↦ rw (none, same) (at_its_place n asking slots r rs keep few met.0 met.1)
      | inr other ↦ rw none (met_room n place (after_request asking r) slots rs keep (omega arith) few met.1)
    ]
met_room n place asking slots (r ∷ rs) (false ∷ keep) lt few met =
    let none = ends_here (asking.last r.name) place (asking.place + 1) r false (links_from (after_request asking r) rs keep) (omega arith) in
    let after : List (Option (List ℕ)) = slice_set slots met.0 (Some r.name) in
    let as_few : length after ≤ suc n = omega (arith, length-slots slots met.0 (Some r.name)) in
    elim (cases_eq place (asking.place + 1)) [
      | inl same ↦ rw (none, same) (at_its_place n asking after r rs keep as_few (held_among slots met.0 r.name met.1) met.2)
      | inr other ↦ rw none (met_room n place (after_request asking r) after rs keep (omega arith) as_few met.2)
    ]

-- nothing is kept over the start
none_over_start : (asking : Asking) (rs : List Asked) (keep : List Bool) → kept_over (links_from asking rs keep) 0 ≡ 0
none_over_start asking [] keep = refl
none_over_start asking (r ∷ rs) [] = refl
none_over_start asking (r ∷ rs) (k ∷ keep) = by (asking.last r.name) k (none_over_start (after_request asking r) rs keep)
  where
    by : (o : Option ℕ) (k : Bool) → kept_over (links_from (after_request asking r) rs keep) 0 ≡ 0 → kept_over (link_of o (asking.place + 1) r k ++ links_from (after_request asking r) rs keep) 0 ≡ 0
    by None k later = later
    by (Some from) true later = grind (arith, nat_tests)
    by (Some from) false later = omega arith

-- so from the start on, no place is inside more kept links than there are slots less one
pub room_from_start : (n place : ℕ) (slots : List (Option (List ℕ))) (rs : List Asked) (keep : List Bool) → length slots ≤ suc n → AreMet slots rs keep → kept_over (links (names_in slots) rs keep) place ≤ n
room_from_start n zero slots rs keep few met = let none = none_over_start (at_start (names_in slots)) rs keep in omega arith
room_from_start n (suc place) slots rs keep few met = met_room n (suc place) (at_start (names_in slots)) slots rs keep (omega arith) few met

pub linked_from_start : (slots : List (Option (List ℕ))) (rs : List Asked) (keep : List Bool) → AreMet slots rs keep → AreLinked (at_start (names_in slots)) rs keep
linked_from_start slots rs keep met = met_linked (at_start (names_in slots)) slots rs keep (at_first slots) met
