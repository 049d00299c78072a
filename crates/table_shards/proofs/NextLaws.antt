-- Seats with which another round begins.
use Rattle.std.proofs.Common.{◌≡◌, ℕ, ◌==◌, true, false, List, [], ◌∷◌, ◌++◌, fold, map, Option, Some, None, is_some, refl, sym, ap, ◌∙◌, subst, arith, inl, inr, eq-eqb, true≢false}
use Rattle.std.specs.Prelude.{if◌then◌else◌}
use Rattle.std.proofs.lemmas.Bool.{cases_Bool, cond-true, cond-false, false≢true}
use Rattle.table_cell.specs.Histories.{CellState, begun_anew, events_of}
use Rattle.table_shards.specs.declared.unlocked.UnlockedTable.{UnlockedTable}
use Rattle.table_shards.specs.Anew.{page_seeing, pages_anew, pages_seeing, seat_anew}
use Rattle.table_shards.specs.NextRounds.{AreSeatsAnew, IsSeatAnew, events_among}
use Rattle.table_shards.specs.Pages.{ArePages, TablesDiffer}
use Rattle.table_shards.specs.Receipts.{PageState, SeatState, page_at, receipts_on, seen_on, PlacesRise}
use Rattle.table_shards.proofs.AllLaws.{all_end}
use Rattle.table_shards.proofs.PageLaws.{eqb_is, some_none}
use Rattle.table_shards.proofs.RoundLaws.{map_append}

-- ---- the page of a table

-- one page or the other
abbrev or_else : Option PageState → Option PageState → Option PageState
or_else None later = later
or_else (Some p) later = Some p

-- the page of the table at its events
abbrev seeing_at : ℕ → List UnlockedTable → Option PageState
seeing_at n [] = None
seeing_at n (t ∷ ts) = if t.table == n then Some (page_seeing t.table (events_of t.cell)) else seeing_at n ts

or_none : (o : Option PageState) → or_else o None ≡ o
or_none None = refl
or_none (Some p) = refl

or_assoc : (a b c : Option PageState) → or_else (or_else a b) c ≡ or_else a (or_else b c)
or_assoc None b c = refl
or_assoc (Some p) b c = refl

page_or : (n : ℕ) (ps qs : List PageState) → page_at n (ps ++ qs) ≡ or_else (page_at n ps) (page_at n qs)
page_or n [] qs = refl
page_or n (p ∷ ps) qs = elim (cases_Bool (p.table == n)) [
  | inl same ↦
      cond-true (p.table == n) (Some p) (page_at n (ps ++ qs)) same
      ∙ ap (λ (o : Option PageState). or_else o (page_at n qs)) (sym (cond-true (p.table == n) (Some p) (page_at n ps) same))
  | inr other ↦
      cond-false (p.table == n) (Some p) (page_at n (ps ++ qs)) other
      ∙ page_or n ps qs
      ∙ ap (λ (o : Option PageState). or_else o (page_at n qs)) (sym (cond-false (p.table == n) (Some p) (page_at n ps) other))
]

hidden : (a b c : Option PageState) → is_some a ≡ true → or_else a b ≡ or_else a c
hidden None b c is = absurd (false≢true is)
hidden (Some p) b c is = refl

-- one more page, if there is none of the table
one_seen : (n t seen : ℕ) (ps : List PageState) → page_at n (pages_seeing t seen ps) ≡ or_else (page_at n ps) (page_at n (page_seeing t seen ∷ []))
one_seen n t seen ps = elim (cases_Bool (is_some (page_at t ps))) [
  | inl there ↦
      ap (page_at n) (cond-true (is_some (page_at t ps)) ps (ps ++ page_seeing t seen ∷ []) there)
      ∙ elim (cases_Bool (t == n)) [
        | inl same ↦
            let here : is_some (page_at n ps) ≡ true = subst (λ (u : ℕ). is_some (page_at u ps) ≡ true) (eqb_is t n same) there in
            sym (or_none (page_at n ps)) ∙ hidden (page_at n ps) None (page_at n (page_seeing t seen ∷ [])) here
        | inr other ↦
            sym (or_none (page_at n ps)) ∙ ap (or_else (page_at n ps)) (sym (cond-false (t == n) (Some (page_seeing t seen)) None other))
      ]
  | inr lacks ↦ ap (page_at n) (cond-false (is_some (page_at t ps)) ps (ps ++ page_seeing t seen ∷ []) lacks) ∙ page_or n ps (page_seeing t seen ∷ [])
]

abbrev add : List PageState → UnlockedTable → List PageState
add ps t = pages_seeing t.table (events_of t.cell) ps

first_seen : (n : ℕ) (t : UnlockedTable) (ts : List UnlockedTable) → or_else (page_at n (page_seeing t.table (events_of t.cell) ∷ [])) (seeing_at n ts) ≡ seeing_at n (t ∷ ts)
first_seen n t ts = elim (cases_Bool (t.table == n)) [
  | inl same ↦
      ap (λ (o : Option PageState). or_else o (seeing_at n ts)) (cond-true (t.table == n) (Some (page_seeing t.table (events_of t.cell))) None same)
      ∙ sym (cond-true (t.table == n) (Some (page_seeing t.table (events_of t.cell))) (seeing_at n ts) same)
  | inr other ↦
      ap (λ (o : Option PageState). or_else o (seeing_at n ts)) (cond-false (t.table == n) (Some (page_seeing t.table (events_of t.cell))) None other)
      ∙ sym (cond-false (t.table == n) (Some (page_seeing t.table (events_of t.cell))) (seeing_at n ts) other)
]

all_seen : (n : ℕ) (ps : List PageState) (ts : List UnlockedTable) → page_at n (fold add ps ts) ≡ or_else (page_at n ps) (seeing_at n ts)
all_seen n ps [] = sym (or_none (page_at n ps))
all_seen n ps (t ∷ ts) =
    all_seen n (add ps t) ts
    ∙ ap (λ (o : Option PageState). or_else o (seeing_at n ts)) (one_seen n t.table (events_of t.cell) ps)
    ∙ or_assoc (page_at n ps) (page_at n (page_seeing t.table (events_of t.cell) ∷ [])) (seeing_at n ts)
    ∙ ap (or_else (page_at n ps)) (first_seen n t ts)

seen_so : (n : ℕ) (ts : List UnlockedTable) → seen_on (seeing_at n ts) ≡ events_among n ts
seen_so n [] = refl
seen_so n (t ∷ ts) = elim (cases_Bool (t.table == n)) [
  | inl same ↦
      ap seen_on (cond-true (t.table == n) (Some (page_seeing t.table (events_of t.cell))) (seeing_at n ts) same)
      ∙ sym (cond-true (t.table == n) (events_of t.cell) (events_among n ts) same)
  | inr other ↦
      ap seen_on (cond-false (t.table == n) (Some (page_seeing t.table (events_of t.cell))) (seeing_at n ts) other)
      ∙ seen_so n ts
      ∙ sym (cond-false (t.table == n) (events_of t.cell) (events_among n ts) other)
]

none_so : (n : ℕ) (ts : List UnlockedTable) → receipts_on (seeing_at n ts) ≡ []
none_so n [] = refl
none_so n (t ∷ ts) = elim (cases_Bool (t.table == n)) [
  | inl same ↦ ap receipts_on (cond-true (t.table == n) (Some (page_seeing t.table (events_of t.cell))) (seeing_at n ts) same)
  | inr other ↦ ap receipts_on (cond-false (t.table == n) (Some (page_seeing t.table (events_of t.cell))) (seeing_at n ts) other) ∙ none_so n ts
]

is_anew : (ts : List UnlockedTable) (s : SeatState) → IsSeatAnew ts s (seat_anew ts s.number)
is_anew ts s = record {
  number = refl;
  receipts = λ n. ap receipts_on (all_seen n [] ts) ∙ none_so n ts;
  seen = λ n. ap seen_on (all_seen n [] ts) ∙ seen_so n ts;
  answers = (refl, refl);
}

pub are_anew : (ts : List UnlockedTable) (ss : List SeatState) → AreSeatsAnew ts ss (map (λ s. seat_anew ts s.number) ss)
are_anew ts [] = tt
are_anew ts (s ∷ ss) = (is_anew ts s, are_anew ts ss)

-- ---- the pages are those of a seat

none_if_not : (o : Option PageState) → is_some o ≡ false → o ≡ None
none_if_not None is = refl
none_if_not (Some p) is = absurd (true≢false is)

differ_more : (p : PageState) (ps : List PageState) → TablesDiffer ps → page_at p.table ps ≡ None → TablesDiffer (ps ++ p ∷ [])
differ_more p [] differ none = (refl, tt)
differ_more p (q ∷ ps) (own, rest) none = elim (cases_Bool (q.table == p.table)) [
  | inl same ↦ absurd (some_none q (sym (cond-true (q.table == p.table) (Some q) (page_at p.table ps) same) ∙ none))
  | inr other ↦
      let apart : (p.table == q.table) ≡ false = flip q.table p.table other in (
        page_or q.table ps (p ∷ []) ∙ ap (λ (o : Option PageState). or_else o (page_at q.table (p ∷ []))) own ∙ cond-false (p.table == q.table) (Some p) None apart,
        differ_more p ps rest (sym (cond-false (q.table == p.table) (Some q) (page_at p.table ps) other) ∙ none),
      )
]
  where
    flip : (a b : ℕ) → (a == b) ≡ false → (b == a) ≡ false
    flip a b other = elim (cases_Bool (b == a)) [
      | inl same ↦ absurd (true≢false (sym (eq-eqb a b (sym (eqb_is b a same))) ∙ other))
      | inr apart ↦ apart
    ]

still_pages : (t : UnlockedTable) (ps : List PageState) → ArePages ps → ArePages (add ps t)
still_pages t ps pages = elim (cases_Bool (is_some (page_at t.table ps))) [
  | inl there ↦ subst ArePages (sym (cond-true (is_some (page_at t.table ps)) ps (ps ++ page_seeing t.table (events_of t.cell) ∷ []) there)) pages
  | inr lacks ↦
      subst ArePages (sym (cond-false (is_some (page_at t.table ps)) ps (ps ++ page_seeing t.table (events_of t.cell) ∷ []) lacks)) (record {
        differ = differ_more (page_seeing t.table (events_of t.cell)) ps pages.differ (none_if_not (page_at t.table ps) lacks);
        rise = all_end (λ (p : PageState). PlacesRise 0 p.receipts p.seen) (page_seeing t.table (events_of t.cell)) ps pages.rise (omega arith);
      })
]

all_pages : (ps : List PageState) (ts : List UnlockedTable) → ArePages ps → ArePages (fold add ps ts)
all_pages ps [] pages = pages
all_pages ps (t ∷ ts) pages = all_pages (add ps t) ts (still_pages t ps pages)

pub pages_are : (ts : List UnlockedTable) → ArePages (pages_anew ts)
pages_are ts = all_pages [] ts (record { differ = tt; rise = tt })

-- ---- one by one

fold_end : {A B : Type 0} (f : A → B → A) (a : A) (xs : List B) (x : B) → fold f a (xs ++ x ∷ []) ≡ f (fold f a xs) x
fold_end f a [] x = refl
fold_end f a (y ∷ xs) x = fold_end f (f a y) xs x

pub one_page_more : (ts : List UnlockedTable) (t : UnlockedTable) → pages_anew (ts ++ t ∷ []) ≡ pages_seeing t.table (events_of t.cell) (pages_anew ts)
one_page_more ts t = fold_end add [] ts t

pub one_locked_anew : (shards : List CellState) (s : CellState) (t : UnlockedTable) (taken : List UnlockedTable) → shards ≡ map (λ (x : UnlockedTable). begun_anew x.cell) taken → s ≡ begun_anew t.cell
    → shards ++ s ∷ [] ≡ map (λ (x : UnlockedTable). begun_anew x.cell) (taken ++ t ∷ [])
one_locked_anew shards s t taken so same =
    ap (λ (xs : List CellState). xs ++ s ∷ []) so
    ∙ ap (λ (x : CellState). map (λ (y : UnlockedTable). begun_anew y.cell) taken ++ x ∷ []) same
    ∙ sym (map_append (λ (x : UnlockedTable). begun_anew x.cell) taken (t ∷ []))
