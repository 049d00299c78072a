-- Lists in blocks of 1,024 items.
use Rattle.std.proofs.Common.{◌≡◌, ℕ, zero, suc, ◌+◌, ◌-◌, ◌*◌, ◌/◌, ◌%◌, ◌<◌, ◌≤◌, List, [], ◌∷◌, ◌++◌, length, set, Option, Some, None, Bor, option_copied, refl, sym, ap, ◌∙◌, arith}
use Rattle.std.specs.List.{AllByRecursion, flat_map, slice_get}
use Rattle.std.specs.declared.alloc.Global.{Global}
use Rattle.std.specs.declared.vec.Vec.{Vec}
use Rattle.std.proofs.lemmas.List.{append_assoc, length-append, set-append_left, set-append_right}
use Rattle.std.proofs.lemmas.Option.{slice_get_past, slice_get_read}
use Rattle.std.specs.Slice.{IsItemAt}
use Rattle.table_stock.specs.Blocks.{items_in}

-- ---- joined lists

pub get_before : {A : Type 0} (xs ys : List A) (i : ℕ) → i < length xs → slice_get (xs ++ ys) i ≡ slice_get xs i
get_before [] ys i inside = absurd (omega arith)
get_before (x ∷ xs) ys zero inside = refl
get_before (x ∷ xs) ys (suc i) inside = get_before xs ys i (omega arith)

pub get_after : {A : Type 0} (xs ys : List A) (i : ℕ) → slice_get (xs ++ ys) (length xs + i) ≡ slice_get ys i
get_after {A} [] ys i = let same : 0 + i ≡ i = omega arith in ap (slice_get ys) same
get_after (x ∷ xs) ys i = let step : length (x ∷ xs) + i ≡ suc (length xs + i) = omega arith in ap (slice_get (x ∷ xs ++ ys)) step ∙ get_after xs ys i

pub item_copied : {A : Type 0} (xs : List A) (i : ℕ) (r : Option (Bor A)) → IsItemAt xs i r → option_copied r ≡ slice_get xs i
item_copied xs i None at = sym (slice_get_past xs i at.3)
item_copied xs i (Some x) at = sym (slice_get_read xs (length xs) i x.now refl at.3.0 at.1)

-- ---- blocks

abbrev joined : {T : Type 0} → List (Vec T Global) → List T
joined full = flat_map (λ block. block.items) full

abbrev AreWhole : {T : Type 0} → List (Vec T Global) → Type 0
AreWhole full = AllByRecursion (λ block. length block.items ≡ 1024) full

joined_length : {T : Type 0} (full : List (Vec T Global)) → AreWhole full → length (joined full) ≡ length full * 1024
joined_length [] whole = refl
joined_length (block ∷ full) whole = omega (arith, length-append block.items (joined full), whole.0, joined_length full whole.1)

pub length_is : {T : Type 0} (full : List (Vec T Global)) (last : Vec T Global) → AreWhole full → length (items_in full last) ≡ length full * 1024 + length last.items
length_is full last whole = omega (arith, length-append (joined full) last.items, joined_length full whole)

at_block : {T : Type 0} (full : List (Vec T Global)) (rest : List T) (n i : ℕ) (block : Vec T Global)
    → AreWhole full → slice_get full n ≡ Some block → i < 1024 → slice_get (joined full ++ rest) (n * 1024 + i) ≡ slice_get block.items i
at_block [] rest n i block whole found inside = absurd (cc found)
at_block {T} (first ∷ full) rest zero i block whole found inside =
    let is : first ≡ block = cc found in
    let zeroth : 0 * 1024 + i ≡ i = omega arith in
    ap (λ xs. slice_get xs (0 * 1024 + i)) (append_assoc first.items (joined full) rest)
    ∙ ap (slice_get (first.items ++ (joined full ++ rest))) zeroth
    ∙ get_before first.items (joined full ++ rest) i (omega (arith, whole.0, inside))
    ∙ ap (λ (b : Vec T Global). slice_get b.items i) is
at_block (first ∷ full) rest (suc n) i block whole found inside =
    let later : suc n * 1024 + i ≡ length first.items + (n * 1024 + i) = omega (arith, whole.0) in
    ap (λ xs. slice_get xs (suc n * 1024 + i)) (append_assoc first.items (joined full) rest)
    ∙ ap (slice_get (first.items ++ (joined full ++ rest))) later
    ∙ get_after first.items (joined full ++ rest) (n * 1024 + i)
    ∙ at_block full rest n i block whole.1 found inside

pub in_block : {T : Type 0} (full : List (Vec T Global)) (last : Vec T Global) (index : ℕ) (block : Vec T Global)
    → AreWhole full → slice_get full (index / 1024) ≡ Some block → slice_get (items_in full last) index ≡ slice_get block.items (index % 1024)
in_block full last index block whole found =
    let place : index ≡ index / 1024 * 1024 + index % 1024 = omega arith in
    ap (slice_get (items_in full last)) place ∙ at_block full last.items (index / 1024) (index % 1024) block whole found (omega arith)

pub after_blocks : {T : Type 0} (full : List (Vec T Global)) (last : Vec T Global) (index : ℕ)
    → AreWhole full → length full ≤ index / 1024 → slice_get (items_in full last) index ≡ slice_get last.items (index - length full * 1024)
after_blocks full last index whole past =
    let place : index ≡ length (joined full) + (index - length full * 1024) = omega (arith, joined_length full whole, past) in
    ap (slice_get (items_in full last)) place ∙ get_after (joined full) last.items (index - length full * 1024)

-- ---- an item is put in place of another

joined_set : {T : Type 0} (full : List (Vec T Global)) (rest : List T) (n i : ℕ) (block after : Vec T Global) (item : T)
    → AreWhole full → slice_get full n ≡ Some block → i < 1024 → after.items ≡ set block.items i item → joined (set full n after) ++ rest ≡ set (joined full ++ rest) (n * 1024 + i) item
joined_set [] rest n i block after item whole found inside is = absurd (cc found)
joined_set {T} (first ∷ full) rest zero i block after item whole found inside is =
    let here : block ≡ first = cc found in
    let zeroth : 0 * 1024 + i ≡ i = omega arith in
    ap (λ (l : List T). (l ++ joined full) ++ rest) (is ∙ ap (λ (b : Vec T Global). set b.items i item) here)
    ∙ append_assoc (set first.items i item) (joined full) rest
    ∙ sym (set-append_left first.items (joined full ++ rest) i item (omega (arith, whole.0, inside)))
    ∙ ap (λ (l : List T). set l i item) (sym (append_assoc first.items (joined full) rest))
    ∙ ap (λ (k : ℕ). set ((first.items ++ joined full) ++ rest) k item) (sym zeroth)
joined_set {T} (first ∷ full) rest (suc n) i block after item whole found inside is =
    let later : suc n * 1024 + i - 1024 ≡ n * 1024 + i = omega arith in
    append_assoc first.items (joined (set full n after)) rest
    ∙ ap (λ (l : List T). first.items ++ l) (joined_set full rest n i block after item whole.1 found inside is)
    ∙ ap (λ (k : ℕ). first.items ++ set (joined full ++ rest) k item) (sym later)
    ∙ sym (set-append_right first.items (joined full ++ rest) 1024 (suc n * 1024 + i) item whole.0 (omega arith))
    ∙ ap (λ (l : List T). set l (suc n * 1024 + i) item) (sym (append_assoc first.items (joined full) rest))

pub set_in_block : {T : Type 0} (full : List (Vec T Global)) (last : Vec T Global) (index : ℕ) (block after : Vec T Global) (item : T)
    → AreWhole full → slice_get full (index / 1024) ≡ Some block → after.items ≡ set block.items (index % 1024) item → items_in (set full (index / 1024) after) last ≡ set (items_in full last) index item
set_in_block full last index block after item whole found is =
    let place : index / 1024 * 1024 + index % 1024 ≡ index = omega arith in
    joined_set full last.items (index / 1024) (index % 1024) block after item whole found (omega arith) is
    ∙ ap (λ (k : ℕ). set (items_in full last) k item) place

pub set_after_blocks : {T : Type 0} (full : List (Vec T Global)) (last after : Vec T Global) (index : ℕ) (item : T)
    → AreWhole full → length full ≤ index / 1024 → after.items ≡ set last.items (index - length full * 1024) item → items_in full after ≡ set (items_in full last) index item
set_after_blocks {T} full last after index item whole past is =
    ap (λ (l : List T). joined full ++ l) is
    ∙ sym (set-append_right (joined full) last.items (length full * 1024) index item (joined_length full whole) (omega (arith, past)))

pub whole_set : {T : Type 0} (full : List (Vec T Global)) (n : ℕ) (after : Vec T Global) → AreWhole full → length after.items ≡ 1024 → AreWhole (set full n after)
whole_set [] n after whole is = tt
whole_set (first ∷ full) zero after whole is = (is, whole.1)
whole_set (first ∷ full) (suc n) after whole is = (whole.0, whole_set full n after whole.1 is)

pub whole_at : {T : Type 0} (full : List (Vec T Global)) (n : ℕ) (block : Vec T Global) → AreWhole full → slice_get full n ≡ Some block → length block.items ≡ 1024
whole_at [] n block whole found = absurd (cc found)
whole_at {T} (first ∷ full) zero block whole found =
    let here : block ≡ first = cc found in
    ap (λ (b : Vec T Global). length b.items) here ∙ whole.0
whole_at (first ∷ full) (suc n) block whole found = whole_at full n block whole.1 found
