-- The kind of a line, and what it means for the lines that stand behind.
use Rattle.std.proofs.Common.{◌≡◌, ◌<◌, ◌≤◌, ◌+◌, ◌++◌, ◌∙◌, ◌&&◌, Bool, true, false, ℕ, List, [], ◌∷◌, add-one, ap, arith, codes, drop, drop-cons, get_or, length, refl, subst, suc, sym}
use Rattle.std.specs.Prelude.{None, Option, Some, bytes_eq, if◌then◌else◌, is_some, slice_get}
use Rattle.std.proofs.lemmas.Slice.Eq.{bytes_eq-Decides}
use Rattle.admin_text.specs.Before.{count_of, has_word, line_with}
use Rattle.admin_text.specs.LineKinds.{all_kinds, first_kind, is_of_kind, is_word, kind_of}
use Rattle.admin_text.specs.Statements.{Said}
use Rattle.admin_text.specs.declared.line_kinds.LineKind.{LineKind}
use Rattle.admin_text.specs.declared.line_kinds.LineKind.TheVariants as kinds

-- ---- the words of a kind

is_first : (b : Bool) (kind other : LineKind) (rest : Option LineKind) (P : LineKind → Type 0) → (if b then Some kind else rest) ≡ Some other
    → (b ≡ true → P kind) → (rest ≡ Some other → P other) → P other
is_first true kind other rest P is first later = subst P (cc) (first refl)
is_first false kind other rest P is first later = later is

kind_has : (words : List (List ℕ)) (found : List LineKind) (kind : LineKind) → first_kind words found ≡ Some kind → is_of_kind kind words ≡ true
kind_has words [] kind is = absurd (cc)
kind_has words (one ∷ found) kind is =
    is_first (is_of_kind one words) one kind (first_kind words found) (λ k. is_of_kind k words ≡ true) is (λ has. has) (kind_has words found kind)

pub kind_passed : (words : List (List ℕ)) (kinds : List LineKind) (i : ℕ) (k : LineKind) (found : Option LineKind) → i < length kinds
    → is_of_kind (get_or kinds i k) words ≡ false → first_kind words (drop i kinds) ≡ found → first_kind words (drop (i + 1) kinds) ≡ found
kind_passed words kinds i k found less other so_far =
    let one : first_kind words (get_or kinds i k ∷ drop (suc i) kinds) ≡ first_kind words (drop (suc i) kinds) = rw other refl in
    rw (add-one i) (sym one ∙ sym (ap (first_kind words) (drop-cons kinds i k less)) ∙ so_far)

pub has_kind : (words : List (List ℕ)) (kind : LineKind) → kind_of words ≡ Some kind → is_of_kind kind words ≡ true
unfolding kind_of
has_kind words kind is = kind_has words all_kinds kind is

-- ---- the kinds that the node needs

not_true : (b : Bool) → (b ≡ true → ⊥) → b ≡ false
not_true true never = absurd (never refl)
not_true false never = refl

same_kind : (one other : LineKind) → Some one ≡ Some other → one ≡ other
same_kind one other is = cc

first_true : (a b : Bool) → (a && b) ≡ true → a ≡ true
first_true true b is = refl
first_true false b is = absurd (cc)

begins : (words : List (List ℕ)) (first : List ℕ) → is_word (slice_get words 0) first ≡ true → (rest : List (List ℕ)) × (words ≡ first ∷ rest)
begins [] first is = absurd (cc)
begins (word ∷ words) first is = (words, ap (λ w. w ∷ words) ((bytes_eq-Decides word first).0 is))

pub node_line : (words : List (List ℕ)) → is_of_kind kinds.Node words ≡ true → kind_of words ≡ Some kinds.Node
unfolding kind_of
node_line words is = let (rest, same) = begins words (codes "node") (first_true _ _ is) in ap kind_of same

pub listen_line : (words : List (List ℕ)) → is_of_kind kinds.Listen words ≡ true → kind_of words ≡ Some kinds.Listen
unfolding kind_of
listen_line words is = let (rest, same) = begins words (codes "listen") (first_true _ _ is) in ap kind_of same

pub table_line : (words : List (List ℕ)) → is_of_kind kinds.Table words ≡ true → kind_of words ≡ Some kinds.Table
unfolding kind_of
table_line words is = let (rest, same) = begins words (codes "table") (first_true _ _ is) in ap kind_of same

-- a line of one kind isn't of another that the node needs
pub not_of : (needed kind : LineKind) (words : List (List ℕ)) → (is_of_kind needed words ≡ true → kind_of words ≡ Some needed)
    → kind_of words ≡ Some kind → (kind ≡ needed → ⊥) → is_of_kind needed words ≡ false
not_of needed kind words line of other = not_true (is_of_kind needed words) (λ is. other (same_kind kind needed (sym of ∙ line is)))

-- ---- one more line

there : (b : Bool) (line : ℕ) (found more : Option ℕ) → is_some (if b then Some line else found) ≡ true → (is_some found ≡ true → is_some more ≡ true)
    → is_some (if b then Some line else more) ≡ true
there true line found more is later = refl
there false line found more is later = later is

there_anyway : (b : Bool) (line : ℕ) (more : Option ℕ) → is_some more ≡ true → is_some (if b then Some line else more) ≡ true
there_anyway true line more is = refl
there_anyway false line more is = is

not_there : (a b : Bool) (line : ℕ) → a ≡ false → is_some (if a && b then Some line else None) ≡ true → ⊥
not_there true b line other is = absurd (cc)
not_there false b line other is = absurd (cc)

pub still_there : (kind : LineKind) (place : ℕ) (word : List ℕ) (lines : List Said) (line : Said) → is_some (line_with kind place word lines) ≡ true
    → is_some (line_with kind place word (lines ++ line ∷ [])) ≡ true
still_there kind place word [] line is = absurd (cc)
still_there kind place word (first ∷ lines) line is =
    there (has_word kind place word first.1) first.0 _ _ is (still_there kind place word lines line)

pub now_there : (kind : LineKind) (place : ℕ) (word : List ℕ) (lines : List Said) (line : Said) → has_word kind place word line.1 ≡ true
    → is_some (line_with kind place word (lines ++ line ∷ [])) ≡ true
now_there kind place word [] line has = rw has refl
now_there kind place word (first ∷ lines) line has =
    there_anyway (has_word kind place word first.1) first.0 _ (now_there kind place word lines line has)

-- a line that isn't of a kind leads to none of that kind
pub only_before : (kind : LineKind) (place : ℕ) (word : List ℕ) (lines : List Said) (line : Said) → is_of_kind kind line.1 ≡ false
    → is_some (line_with kind place word (lines ++ line ∷ [])) ≡ true → is_some (line_with kind place word lines) ≡ true
only_before kind place word [] line other is = absurd (not_there (is_of_kind kind line.1) _ line.0 other is)
only_before kind place word (first ∷ lines) line other is =
    there (has_word kind place word first.1) first.0 _ _ is (only_before kind place word lines line other)

pub count_more : (kind : LineKind) (lines : List Said) (line : Said) → count_of kind lines ≤ count_of kind (lines ++ line ∷ [])
count_more kind [] line = omega arith
count_more kind (first ∷ lines) line =
    let rest = count_more kind lines line in
    omega (arith, rest)

pub count_one : (kind : LineKind) (lines : List Said) (line : Said) → is_of_kind kind line.1 ≡ true
    → count_of kind lines + 1 ≤ count_of kind (lines ++ line ∷ [])
count_one kind [] line is = rw is (omega arith)
count_one kind (first ∷ lines) line is =
    let rest = count_one kind lines line is in
    omega (arith, rest)

both : (a b : Bool) → a ≡ true → b ≡ true → (a && b) ≡ true
both a b first second = rw first second

-- the word behind the first is the one that is looked for
pub has_there : (kind : LineKind) (words : List (List ℕ)) (word name sought : List ℕ) (rest : List (List ℕ)) → words ≡ word ∷ (name ∷ rest)
    → is_of_kind kind words ≡ true → bytes_eq name sought ≡ true → has_word kind 1 sought words ≡ true
has_there kind words word name sought rest same has is = both _ _ has (ap (λ ws. is_word (slice_get ws 1) sought) same ∙ is)

pub has_third : (kind : LineKind) (words : List (List ℕ)) (word id name sought : List ℕ) (rest : List (List ℕ))
    → words ≡ word ∷ (id ∷ (name ∷ rest)) → is_of_kind kind words ≡ true → bytes_eq name sought ≡ true → has_word kind 2 sought words ≡ true
has_third kind words word id name sought rest same has is = both _ _ has (ap (λ ws. is_word (slice_get ws 2) sought) same ∙ is)
