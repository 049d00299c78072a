-- For each name, whether its next request is kept, from the last request backward.
use Rattle.std.proofs.Common.{◌≡◌, ℕ, zero, suc, ◌+◌, ◌<◌, Bool, true, false, cond, List, [], ◌∷◌, ◌++◌, length, drop, get_or, Option, Some, refl, sym, ap, ◌∙◌, arith, nat_cmp, Bor}
use Rattle.std.specs.Prelude.{slice_set}
use Rattle.std.specs.BTreeMap.{BTreeMap}
use Rattle.std.specs.BTreeMap as tree
use Rattle.std.specs.Cmp.Lexicographic.{slice_cmp}
use Rattle.std.proofs.lemmas.List.{drop_more}
use Rattle.std.proofs.lemmas.Map.Text.{btree_map_updates_str}
use Rattle.table_types.specs.Rosters.{is_same_name}
use Rattle.known_state.specs.Requests.{Asked}
use Rattle.teach_writer.specs.declared.next_requests.NextRequest.{NextRequest}
use Rattle.known_state.specs.Plans.{keeps_next}
use Rattle.teach_writer.specs.NextRequests.{is_kept, is_first_kept, kept_next}

-- an item put before the items that follow it
pub drop-set : {X : Type 0} (xs : List X) (i : ℕ) (x : X) → i < length xs → drop i (slice_set xs i x) ≡ x ∷ drop (i + 1) xs
drop-set [] i x lt = absurd (omega arith)
drop-set (y ∷ ys) zero x lt = refl
drop-set (y ∷ ys) (suc i) x lt = let next : suc (i + 1) ≡ suc i + 1 = omega arith in drop-set ys i x (omega arith) ∙ ap (λ (n : ℕ). x ∷ drop n (y ∷ ys)) next

-- the flags with one more request
pub kept_next-more : (rs : List Asked) (keep next : List Bool) (i : ℕ) (r : Asked) (kept flag : Bool) → i < length rs → length keep ≡ length rs → length next ≡ length rs → r ≡ get_or rs i r → kept ≡ get_or keep i false → flag ≡ keeps_next r.name (drop (i + 1) rs) (drop (i + 1) keep) → drop (i + 1) next ≡ kept_next (drop (i + 1) rs) (drop (i + 1) keep)
    → drop i (slice_set next i flag) ≡ kept_next (drop i rs) (drop i keep)
kept_next-more rs keep next i r kept flag lt long flags is mark here later =
    let first : drop i rs ≡ r ∷ drop (i + 1) rs = drop_more rs i r lt ∙ ap (λ (x : Asked). x ∷ drop (i + 1) rs) (sym is) in
    let second : drop i keep ≡ kept ∷ drop (i + 1) keep = drop_more keep i false (omega arith) ∙ ap (λ (x : Bool). x ∷ drop (i + 1) keep) (sym mark) in
    drop-set next i flag (omega arith) ∙ ap (λ (l : List Bool). flag ∷ l) later ∙ ap (λ (b : Bool). b ∷ kept_next (drop (i + 1) rs) (drop (i + 1) keep)) here
    ∙ sym (ap (λ (l : List Asked). kept_next l (drop i keep)) first ∙ ap (kept_next (r ∷ drop (i + 1) rs)) second)

-- the map with one more request
pub first_kept-more : (rs : List Asked) (keep : List Bool) (i : ℕ) (r : Asked) (next : NextRequest) (before after : BTreeMap (Bor (List ℕ)) NextRequest) → i < length rs → length keep ≡ length rs → r ≡ get_or rs i r → next.kept ≡ get_or keep i false → tree.UpdatesBy (λ x y. slice_cmp nat_cmp x.now y.now) (λ k. slice_cmp nat_cmp r.name k.now) before after (Some next)
    → ((name : List ℕ) → is_first_kept before name ≡ keeps_next name (drop (i + 1) rs) (drop (i + 1) keep)) → (name : List ℕ) → is_first_kept after name ≡ keeps_next name (drop i rs) (drop i keep)
first_kept-more rs keep i r next before after lt long is mark put later = λ name.
    let first : drop i rs ≡ r ∷ drop (i + 1) rs = drop_more rs i r lt ∙ ap (λ (x : Asked). x ∷ drop (i + 1) rs) (sym is) in
    let second : drop i keep ≡ next.kept ∷ drop (i + 1) keep = drop_more keep i false (omega arith) ∙ ap (λ (x : Bool). x ∷ drop (i + 1) keep) (sym mark) in
    ap is_kept (btree_map_updates_str r.name before after (Some next) put name)
    ∙ chosen (is_same_name r.name name) (tree.get_by (λ k. slice_cmp nat_cmp name k.now) before)
    ∙ ap (λ (b : Bool). cond (is_same_name r.name name) next.kept b) (later name)
    ∙ sym (ap (λ (l : List Asked). keeps_next name l (drop i keep)) first ∙ ap (keeps_next name (r ∷ drop (i + 1) rs)) second)
  where
    chosen : (b : Bool) (o : Option NextRequest) → is_kept (cond b (Some next) o) ≡ cond b next.kept (is_kept o)
    chosen true o = refl
    chosen false o = refl

-- the flag of the request at a place
pub kept_next-at : (done rest : List Asked) (r : Asked) (kept marks : List Bool) (mark : Bool) → length kept ≡ length done → get_or (kept_next (done ++ r ∷ rest) (kept ++ mark ∷ marks)) (length done) false ≡ keeps_next r.name rest marks
kept_next-at [] rest r [] marks mark long = refl
kept_next-at [] rest r (k ∷ kept) marks mark long = absurd (omega arith)
kept_next-at (d ∷ done) rest r [] marks mark long = absurd (omega arith)
kept_next-at (d ∷ done) rest r (k ∷ kept) marks mark long = kept_next-at done rest r kept marks mark (omega arith)

pub kept_next-length : (rs : List Asked) (keep : List Bool) → length keep ≡ length rs → length (kept_next rs keep) ≡ length rs
kept_next-length [] keep long = refl
kept_next-length (r ∷ rs) [] long = absurd (omega arith)
kept_next-length (r ∷ rs) (k ∷ keep) long = ap suc (kept_next-length rs keep (omega arith))
