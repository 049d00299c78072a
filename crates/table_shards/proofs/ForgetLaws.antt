-- A seat that forgets its receipts of a table.
use Rattle.std.proofs.Common.{◌≡◌, ◌≢◌, Vec, ℕ, ◌==◌, true, false, List, [], ◌∷◌, length, map, Option, Some, None, option_map, refl, sym, ap, ◌∙◌, subst, arith, inl, inr}
use Rattle.std.specs.List.{AllByRecursion}
use Rattle.std.specs.Vec.{with_items}
use Rattle.std.proofs.lemmas.Bool.{cases_Bool, cond-true, cond-false}
use Rattle.std.proofs.lemmas.List.{length-map, with_items_is}
use Rattle.table_shards.specs.declared.pages.Page.{Page}
use Rattle.table_shards.specs.Receipts.{PageState, SeatState, emptied, forgotten, forgotten_page, page_at, receipts_of, receipts_on, seen_of, seen_on, PlacesRise}
use Rattle.table_shards.specs.Pages.{ArePages, TablesDiffer, page_state, page_states}
use Rattle.table_shards.proofs.PageLaws.{eqb_is}

page_here : (t : ℕ) (p : PageState) (ps : List PageState) → (p.table == t) ≡ true → page_at t (p ∷ ps) ≡ Some p
page_here t p ps same = cond-true (p.table == t) (Some p) (page_at t ps) same

page_there : (t : ℕ) (p : PageState) (ps : List PageState) → (p.table == t) ≡ false → page_at t (p ∷ ps) ≡ page_at t ps
page_there t p ps other = cond-false (p.table == t) (Some p) (page_at t ps) other

without : (t : ℕ) (p : PageState) → (p.table == t) ≡ true → forgotten_page t p ≡ emptied p
without t p same = cond-true (p.table == t) (emptied p) p same

stays : (t : ℕ) (p : PageState) → (p.table == t) ≡ false → forgotten_page t p ≡ p
stays t p other = cond-false (p.table == t) (emptied p) p other

same_table : (t : ℕ) (p : PageState) → (forgotten_page t p).table ≡ p.table
same_table t p = elim (cases_Bool (p.table == t)) [
  | inl same ↦ ap (λ (q : PageState). q.table) (without t p same)
  | inr other ↦ ap (λ (q : PageState). q.table) (stays t p other)
]

same_seen : (t : ℕ) (p : PageState) → (forgotten_page t p).seen ≡ p.seen
same_seen t p = elim (cases_Bool (p.table == t)) [
  | inl same ↦ ap (λ (q : PageState). q.seen) (without t p same)
  | inr other ↦ ap (λ (q : PageState). q.seen) (stays t p other)
]

-- the page of a table, once the receipts of `t` are forgotten
forgotten_at : (t u : ℕ) (ps : List PageState) → page_at u (map (forgotten_page t) ps) ≡ option_map (forgotten_page t) (page_at u ps)
forgotten_at t u [] = refl
forgotten_at t u (p ∷ ps) = elim (cases_Bool (p.table == u)) [
  | inl same ↦
      page_here u (forgotten_page t p) (map (forgotten_page t) ps) (ap (λ (n : ℕ). n == u) (same_table t p) ∙ same)
      ∙ ap (λ (o : Option PageState). option_map (forgotten_page t) o) (sym (page_here u p ps same))
  | inr other ↦
      page_there u (forgotten_page t p) (map (forgotten_page t) ps) (ap (λ (n : ℕ). n == u) (same_table t p) ∙ other)
      ∙ forgotten_at t u ps
      ∙ ap (λ (o : Option PageState). option_map (forgotten_page t) o) (sym (page_there u p ps other))
]

seen_stays : (t : ℕ) (o : Option PageState) → seen_on (option_map (forgotten_page t) o) ≡ seen_on o
seen_stays t None = refl
seen_stays t (Some p) = same_seen t p

pub same_positions : (t u : ℕ) (s : SeatState) → seen_of u (forgotten t s) ≡ seen_of u s
same_positions t u s = ap seen_on (forgotten_at t u s.pages) ∙ seen_stays t (page_at u s.pages)

none_on : (t : ℕ) (ps : List PageState) → receipts_on (page_at t (map (forgotten_page t) ps)) ≡ []
none_on t [] = refl
none_on t (p ∷ ps) = elim (cases_Bool (p.table == t)) [
  | inl same ↦
      ap receipts_on (page_here t (forgotten_page t p) (map (forgotten_page t) ps) (ap (λ (n : ℕ). n == t) (same_table t p) ∙ same))
      ∙ ap (λ (q : PageState). q.receipts) (without t p same)
  | inr other ↦
      ap receipts_on (page_there t (forgotten_page t p) (map (forgotten_page t) ps) (ap (λ (n : ℕ). n == t) (same_table t p) ∙ other))
      ∙ none_on t ps
]

pub no_receipts : (t : ℕ) (s : SeatState) → receipts_of t (forgotten t s) ≡ []
no_receipts t s = none_on t s.pages

still_on : (t u : ℕ) (ps : List PageState) → u ≢ t → receipts_on (page_at u (map (forgotten_page t) ps)) ≡ receipts_on (page_at u ps)
still_on t u [] apart = refl
still_on t u (p ∷ ps) apart = elim (cases_Bool (p.table == u)) [
  | inl same ↦ elim (cases_Bool (p.table == t)) [
    | inl own ↦ absurd (apart (sym (eqb_is p.table u same) ∙ eqb_is p.table t own))
    | inr other ↦
        ap receipts_on (page_here u (forgotten_page t p) (map (forgotten_page t) ps) (ap (λ (n : ℕ). n == u) (same_table t p) ∙ same))
        ∙ ap (λ (q : PageState). q.receipts) (stays t p other)
        ∙ ap receipts_on (sym (page_here u p ps same))
  ]
  | inr later ↦
      ap receipts_on (page_there u (forgotten_page t p) (map (forgotten_page t) ps) (ap (λ (n : ℕ). n == u) (same_table t p) ∙ later))
      ∙ still_on t u ps apart
      ∙ ap receipts_on (sym (page_there u p ps later))
]

pub other_receipts : (t u : ℕ) (s : SeatState) → u ≢ t → receipts_of u (forgotten t s) ≡ receipts_of u s
other_receipts t u s apart = still_on t u s.pages apart

-- ---- the pages of a seat stay in order

differ_still : (t : ℕ) (ps : List PageState) → TablesDiffer ps → TablesDiffer (map (forgotten_page t) ps)
differ_still t [] differ = tt
differ_still t (p ∷ ps) (none, rest) = (
  ap (λ (n : ℕ). page_at n (map (forgotten_page t) ps)) (same_table t p)
      ∙ forgotten_at t p.table ps
      ∙ ap (λ (o : Option PageState). option_map (forgotten_page t) o) none,
  differ_still t ps rest,
)

abbrev Rise : PageState → Type 0
Rise p = PlacesRise 0 p.receipts p.seen

rise_still : (t : ℕ) (ps : List PageState) → AllByRecursion Rise ps → AllByRecursion Rise (map (forgotten_page t) ps)
rise_still t [] all = tt
rise_still t (p ∷ ps) (first, rest) = elim (cases_Bool (p.table == t)) [
  | inl same ↦ (subst Rise (sym (without t p same)) (omega arith), rise_still t ps rest)
  | inr other ↦ (subst Rise (sym (stays t p other)) first, rise_still t ps rest)
]

pub pages_still : (t : ℕ) (ps : List PageState) → ArePages ps → ArePages (map (forgotten_page t) ps)
pages_still t ps pages = record { differ = differ_still t ps pages.differ; rise = rise_still t ps pages.rise }

-- ---- the pages are put back

pub put_back : {Z : Type 0} (v : Vec Page Z) (t : ℕ) (after : List Page) → page_states after ≡ map (forgotten_page t) (page_states v.items)
    → page_states (with_items v after).items ≡ map (forgotten_page t) (page_states v.items)
put_back v t after is =
    let same : length after ≡ length v.items =
    sym (length-map after page_state) ∙ ap (λ (l : List PageState). length l) is ∙ length-map (page_states v.items) (forgotten_page t) ∙ length-map v.items page_state in
    ap page_states (with_items_is v after (same ∙ sym v.ok.0)) ∙ is
