-- A seat's pages: how one is found, and how one more receipt changes them.
use Rattle.std.proofs.Common.{◌≡◌, ℕ, ◌+◌, ◌<◌, ◌==◌, true, false, List, [], ◌∷◌, ◌++◌, length, get_or, set, take, drop, Option, Some, None, refl, sym, ap, ◌∙◌, subst, arith, true≢false, append-nil, take-append-drop, eq-eqb, ne_eqb, inl, inr}
use Rattle.std.specs.List.{AllByRecursion}
use Rattle.std.proofs.Math.Seq.{map-set_same}
use Rattle.std.proofs.lemmas.List.{take-set, drop-set, drop_more, get_or_default, take_more}
use Rattle.std.proofs.lemmas.Bool.{cases_Bool}
use Rattle.std.proofs.lemmas.Bool.Decides.{nat_tests}
use Rattle.table_shards.specs.declared.pages.Page.{Page}
use Rattle.table_shards.specs.Receipts.{ReceiptState, PageState, SeatState, page_at, page_with, pages_with, receipts_of, receipts_on, seen_of, seen_on, with_receipt, PlacesRise}
use Rattle.table_shards.specs.Pages.{page_state, page_states, TablesDiffer, ArePages, IsPageAt}

pub some_none : {A : Type 0} (x : A) → ◌≡◌ {A = Option A} (Some x) None → ⊥
some_none x e = cc

pub eqb_is : (a b : ℕ) → (a == b) ≡ true → a ≡ b
eqb_is a b same = grind (arith, nat_tests)

-- ---- lists

pub states_append : (ps qs : List Page) → page_states (ps ++ qs) ≡ page_states ps ++ page_states qs
states_append [] qs = refl
states_append (p ∷ ps) qs = ap (λ rest. page_state p ∷ rest) (states_append ps qs)

pub take_left : {A : Type 0} (xs ys : List A) → take (length xs) (xs ++ ys) ≡ xs
take_left [] ys = refl
take_left (x ∷ xs) ys = ap (λ rest. x ∷ rest) (take_left xs ys)

pub get_middle : {A : Type 0} (xs : List A) (x d : A) → get_or (xs ++ x ∷ []) (length xs) d ≡ x
get_middle [] x d = refl
get_middle (y ∷ xs) x d = get_middle xs x d

-- ---- pages

page_here : (t : ℕ) (p : PageState) (ps : List PageState) → (p.table == t) ≡ true → page_at t (p ∷ ps) ≡ Some p
page_here t p ps same = rw same refl

page_there : (t : ℕ) (p : PageState) (ps : List PageState) → (p.table == t) ≡ false → page_at t (p ∷ ps) ≡ page_at t ps
page_there t p ps other = rw other refl

put_here : (t : ℕ) (r : ReceiptState) (p : PageState) (ps : List PageState) → (p.table == t) ≡ true → pages_with t r (p ∷ ps) ≡ page_with p r ∷ ps
put_here t r p ps same = rw same refl

put_there : (t : ℕ) (r : ReceiptState) (p : PageState) (ps : List PageState) → (p.table == t) ≡ false → pages_with t r (p ∷ ps) ≡ p ∷ pages_with t r ps
put_there t r p ps other = rw other refl

-- if no page is of the table, the search reaches the page at the end
pub page_end : (t : ℕ) (p : PageState) (ps : List PageState) → page_at t ps ≡ None → page_at t (ps ++ p ∷ []) ≡ page_at t (p ∷ [])
page_end t p [] none = refl
page_end t p (q ∷ ps) none = elim (cases_Bool (q.table == t)) [
  | inl same ↦ absurd (some_none q (sym (page_here t q ps same) ∙ none))
  | inr other ↦ page_there t q (ps ++ p ∷ []) other ∙ page_end t p ps (sym (page_there t q ps other) ∙ none)
]

-- the next page isn't the table's either
pub none_more : (t : ℕ) (ps : List Page) (i : ℕ) (x : Page) → i < length ps → x ≡ get_or ps i x → (x.table ≡ t → ⊥) → page_at t (page_states (take i ps)) ≡ None → page_at t (page_states (take (i + 1) ps)) ≡ None
none_more t ps i x lt is apart none =
    ap (λ (qs : List Page). page_at t (page_states qs)) (take_more ps i x lt)
    ∙ ap (λ (q : Page). page_at t (page_states (take i ps ++ q ∷ []))) (sym is)
    ∙ ap (λ (qs : List PageState). page_at t qs) (states_append (take i ps) (x ∷ []))
    ∙ page_end t (page_state x) (page_states (take i ps)) none
    ∙ page_there t (page_state x) [] (ne_eqb x.table t apart)

-- and the receipt goes there
pub put_end : (t : ℕ) (r : ReceiptState) (ps rest : List PageState) → page_at t ps ≡ None → pages_with t r (ps ++ rest) ≡ ps ++ pages_with t r rest
put_end t r [] rest none = refl
put_end t r (q ∷ ps) rest none = elim (cases_Bool (q.table == t)) [
  | inl same ↦ absurd (some_none q (sym (page_here t q ps same) ∙ none))
  | inr other ↦ put_there t r q (ps ++ rest) other ∙ ap (λ qs. q ∷ qs) (put_end t r ps rest (sym (page_there t q ps other) ∙ none))
]

-- a receipt written on the page of its table
pub written : (t : ℕ) (r : ReceiptState) (q : Page) (ps : List Page) (i : ℕ) → IsPageAt t ps i → page_state q ≡ page_with (page_state (get_or ps i q)) r
    → page_states (set ps i q) ≡ pages_with t r (page_states ps)
written t r q ps i here so =
    let before = page_states (take i ps) in
    let behind = page_states (drop (i + 1) ps) in
    let p : Page = get_or ps i q in
    let first : drop i ps ≡ p ∷ drop (i + 1) ps = drop_more ps i q here.below in
    let whole : ps ≡ take i ps ++ p ∷ drop (i + 1) ps = sym (take-append-drop i ps) ∙ ap (λ rest. take i ps ++ rest) first in
    let whole_after : set ps i q ≡ take i ps ++ q ∷ drop (i + 1) ps = sym (take-append-drop i (set ps i q)) ∙ rw (take-set ps i q, drop-set ps i q here.below) refl in
    let states : page_states ps ≡ before ++ page_state p ∷ behind = ap page_states whole ∙ states_append (take i ps) (p ∷ drop (i + 1) ps) in
    let states_after : page_states (set ps i q) ≡ before ++ page_state q ∷ behind = ap page_states whole_after ∙ states_append (take i ps) (q ∷ drop (i + 1) ps) in
    let same : (p.table == t) ≡ true = eq-eqb p.table t (here.table_is q) in
    let put : pages_with t r (page_states ps) ≡ before ++ page_with (page_state p) r ∷ behind =
    ap (λ (s : List PageState). pages_with t r s) states ∙ put_end t r before (page_state p ∷ behind) here.first ∙ ap (λ (s : List PageState). before ++ s) (put_here t r (page_state p) behind same) in
    states_after ∙ ap (λ (s : PageState). before ++ s ∷ behind) so ∙ sym put

-- a page that was borrowed and is put back unchanged
pub lent_stays : (ps : List Page) (i : ℕ) (old new : Page) → i < length ps → old ≡ get_or ps i old → page_state new ≡ page_state old → page_states (set ps i new) ≡ page_states ps
lent_stays ps i old new lt is so = map-set_same page_state ps i new new (so ∙ ap page_state (is ∙ get_or_default ps i old new lt))

-- ---- a new page

abbrev empty_page : ℕ → PageState
empty_page t = record { table = t; seen = 0; receipts = [] }

-- a receipt written on a new page
pub put_new : (t : ℕ) (r : ReceiptState) (p : Page) (ps : List Page) → page_at t (page_states ps) ≡ None → page_state p ≡ page_with (empty_page t) r → page_states (ps ++ p ∷ []) ≡ pages_with t r (page_states ps)
put_new t r p ps none is =
    states_append ps (p ∷ [])
    ∙ ap (λ (s : PageState). page_states ps ++ s ∷ []) is
    ∙ sym (put_end t r (page_states ps) [] none)
    ∙ ap (λ (s : List PageState). pages_with t r s) (append-nil (page_states ps))

-- ---- ascending places

abbrev seen_at : ℕ → List PageState → ℕ
seen_at t ps = seen_on (page_at t ps)

pub rise_more : (before seen : ℕ) (r : ReceiptState) (rs : List ReceiptState) → PlacesRise before rs seen → seen < r.place → PlacesRise before (rs ++ r ∷ []) r.place
rise_more before seen r [] rise less = (omega arith, omega arith)
rise_more before seen r (q ∷ rs) (first, rest) less = (first, rise_more q.place seen r rs rest less)

-- what a seat has of other tables stays
put_apart : (t u : ℕ) (r : ReceiptState) (ps : List PageState) → (t ≡ u → ⊥) → page_at u ps ≡ None → page_at u (pages_with t r ps) ≡ None
put_apart t u r [] apart none = page_there u (page_with (empty_page t) r) [] (ne_eqb t u apart)
put_apart t u r (p ∷ ps) apart none = elim (cases_Bool (p.table == u)) [
  | inl same ↦ absurd (some_none p (sym (page_here u p ps same) ∙ none))
  | inr other ↦ elim (cases_Bool (p.table == t)) [
    | inl first ↦ ap (λ (s : List PageState). page_at u s) (put_here t r p ps first) ∙ page_there u (page_with p r) ps other ∙ sym (page_there u p ps other) ∙ none
    | inr first ↦ ap (λ (s : List PageState). page_at u s) (put_there t r p ps first) ∙ page_there u p (pages_with t r ps) other ∙ put_apart t u r ps apart (sym (page_there u p ps other) ∙ none)
  ]
]

pub put_differ : (t : ℕ) (r : ReceiptState) (ps : List PageState) → TablesDiffer ps → TablesDiffer (pages_with t r ps)
put_differ t r [] differ = (refl, tt)
put_differ t r (p ∷ ps) (none, rest) = elim (cases_Bool (p.table == t)) [
  | inl same ↦ subst TablesDiffer (sym (put_here t r p ps same)) (none, rest)
  | inr other ↦
      let apart : t ≡ p.table → ⊥ = λ is. true≢false (sym (eq-eqb p.table t (sym is)) ∙ other) in
      subst TablesDiffer (sym (put_there t r p ps other)) (put_apart t p.table r ps apart none, put_differ t r ps rest)
]

abbrev Rise : PageState → Type 0
Rise p = PlacesRise 0 p.receipts p.seen

pub put_rise : (t : ℕ) (r : ReceiptState) (ps : List PageState) → AllByRecursion (λ p. PlacesRise 0 p.receipts p.seen) ps → seen_at t ps < r.place → AllByRecursion (λ p. PlacesRise 0 p.receipts p.seen) (pages_with t r ps)
put_rise t r [] all less = ((omega arith, omega arith), tt)
put_rise t r (p ∷ ps) (first, rest) less = elim (cases_Bool (p.table == t)) [
  | inl same ↦
      let seen : p.seen < r.place = rw same at less in
      subst (AllByRecursion Rise) (sym (put_here t r p ps same)) (rise_more 0 p.seen r p.receipts first seen, rest)
  | inr other ↦
      let seen : seen_at t ps < r.place = rw other at less in
      subst (AllByRecursion Rise) (sym (put_there t r p ps other)) (first, put_rise t r ps rest seen)
]

pub put_pages : (t : ℕ) (r : ReceiptState) (ps : List PageState) → ArePages ps → seen_at t ps < r.place → ArePages (pages_with t r ps)
put_pages t r ps pages less = record { differ = put_differ t r ps pages.differ; rise = put_rise t r ps pages.rise less }

pub rise_at : (t : ℕ) (p : PageState) (ps : List PageState) → AllByRecursion (λ p. PlacesRise 0 p.receipts p.seen) ps → page_at t ps ≡ Some p → PlacesRise 0 p.receipts p.seen
rise_at t p [] all is = absurd (some_none p (sym is))
rise_at t p (q ∷ ps) (first, rest) is = elim (cases_Bool (q.table == t)) [
  | inl same ↦
      let one : Some q ≡ Some p = sym (page_here t q ps same) ∙ is in
      let so : q ≡ p = cc in
      subst Rise so first
  | inr other ↦ rise_at t p ps rest (sym (page_there t q ps other) ∙ is)
]

-- a seat's receipts of a table
pub rise_of : (t : ℕ) (s : SeatState) → ArePages s.pages → PlacesRise 0 (receipts_of t s) (seen_of t s)
rise_of t s pages = by (page_at t s.pages) refl
  where
    by : (o : Option PageState) → page_at t s.pages ≡ o → PlacesRise 0 (receipts_on o) (seen_on o)
    by None is = omega arith
    by (Some p) is = rise_at t p s.pages pages.rise is

-- ---- what one more receipt changes

abbrev or_empty : ℕ → Option PageState → PageState
or_empty t None = empty_page t
or_empty t (Some p) = p

put_at : (t : ℕ) (r : ReceiptState) (ps : List PageState) → page_at t (pages_with t r ps) ≡ Some (page_with (or_empty t (page_at t ps)) r)
put_at t r [] = page_here t (page_with (empty_page t) r) [] (eq-eqb t t refl)
put_at t r (p ∷ ps) = elim (cases_Bool (p.table == t)) [
  | inl same ↦
      ap (λ (s : List PageState). page_at t s) (put_here t r p ps same) ∙ page_here t (page_with p r) ps same
      ∙ ap (λ (o : Option PageState). Some (page_with (or_empty t o) r)) (sym (page_here t p ps same))
  | inr other ↦
      ap (λ (s : List PageState). page_at t s) (put_there t r p ps other) ∙ page_there t p (pages_with t r ps) other ∙ put_at t r ps
      ∙ ap (λ (o : Option PageState). Some (page_with (or_empty t o) r)) (sym (page_there t p ps other))
]

put_elsewhere : (t u : ℕ) (r : ReceiptState) (ps : List PageState) → (t ≡ u → ⊥) → page_at u (pages_with t r ps) ≡ page_at u ps
put_elsewhere t u r [] apart = page_there u (page_with (empty_page t) r) [] (ne_eqb t u apart)
put_elsewhere t u r (p ∷ ps) apart = elim (cases_Bool (p.table == t)) [
  | inl first ↦ elim (cases_Bool (p.table == u)) [
    | inl same ↦ absurd (apart (sym (eqb_is p.table t first) ∙ eqb_is p.table u same))
    | inr other ↦ ap (λ (s : List PageState). page_at u s) (put_here t r p ps first) ∙ page_there u (page_with p r) ps other ∙ sym (page_there u p ps other)
  ]
  | inr first ↦ elim (cases_Bool (p.table == u)) [
    | inl same ↦ ap (λ (s : List PageState). page_at u s) (put_there t r p ps first) ∙ page_here u p (pages_with t r ps) same ∙ sym (page_here u p ps same)
    | inr other ↦ ap (λ (s : List PageState). page_at u s) (put_there t r p ps first) ∙ page_there u p (pages_with t r ps) other ∙ put_elsewhere t u r ps apart ∙ sym (page_there u p ps other)
  ]
]

pub then_seen : (s : SeatState) (t : ℕ) (r : ReceiptState) → seen_of t (with_receipt s t r) ≡ r.place
then_seen s t r = ap seen_on (put_at t r s.pages)

pub one_more : (s : SeatState) (t : ℕ) (r : ReceiptState) → receipts_of t (with_receipt s t r) ≡ receipts_of t s ++ r ∷ []
one_more s t r = ap receipts_on (put_at t r s.pages) ∙ by (page_at t s.pages) refl
  where
    by : (o : Option PageState) → page_at t s.pages ≡ o → receipts_on (Some (page_with (or_empty t (page_at t s.pages)) r)) ≡ receipts_on (page_at t s.pages) ++ r ∷ []
    by None is = rw is refl
    by (Some p) is = rw is refl

pub other_tables : (s : SeatState) (t u : ℕ) (r : ReceiptState) → (t ≡ u → ⊥) → (seen_of u (with_receipt s t r) ≡ seen_of u s) × (receipts_of u (with_receipt s t r) ≡ receipts_of u s)
other_tables s t u r apart = (ap seen_on (put_elsewhere t u r s.pages apart), ap receipts_on (put_elsewhere t u r s.pages apart))
