-- How many lines were left out is told for one limit after another.
use Rattle.std.proofs.Common.{◌≡◌, ◌++◌, ◌<◌, ◌+◌, ◌-◌, ◌∙◌, ℕ, Bool, true, false, arith, ap, sym, subst, refl, List, [], ◌∷◌, drop, get_or, length, map, set, take}
use Rattle.std.specs.Prelude.{if◌then◌else◌, Result, Ok, Err, OnErr}
use Rattle.std.proofs.lemmas.List.{drop_more, drop-set, drop-set-lt, length-drop, map-append, take-append-drop, take_more, take_more_set, take-set}
use Rattle.node_log.specs.declared.lines.Form.{Form}
use Rattle.node_log.specs.declared.waiting.Limited.{Limited}
use Rattle.node_log.specs.Waiting.{AddsDue, AddsIf, AddsOmitted, AreToldUpTo, is_due, told, told_if_due}

-- the limits before the index are told, and those from it on stay as they were
abbrev pub AreToldTo : Form → List (List ℕ) → ℕ → Bool → List Limited → List Limited → List ℕ → List ℕ → ℕ → Type 0
AreToldTo form names now last old new before after i =
    (take i new ≡ map (told_if_due now last) (take i old)) × (drop i new ≡ drop i old) × AddsDue form names now last (take i old) before after

head_same : (k l : Limited) (ks ls : List Limited) → k ∷ ks ≡ l ∷ ls → k ≡ l
head_same k l ks ls same = cc

tail_same : (k l : Limited) (ks ls : List Limited) → k ∷ ks ≡ l ∷ ls → ks ≡ ls
tail_same k l ks ls same = cc

as_long : (old new : List Limited) (i : ℕ) → drop i new ≡ drop i old → length new - i ≡ length old - i
as_long old new i rest = sym (length-drop i new) ∙ ap length rest ∙ length-drop i old

-- what stands at the index, and behind it
from_index : (old new : List Limited) (i : ℕ) (d : Limited) → i < length new → drop i new ≡ drop i old → get_or new i d ∷ drop (i + 1) new ≡ get_or old i d ∷ drop (i + 1) old
from_index old new i d below rest =
    let long = as_long old new i rest in
    let below_too : i < length old = omega (arith, long, below) in
    sym (drop_more new i d below) ∙ rest ∙ drop_more old i d below_too

here : (old new : List Limited) (i : ℕ) (d l : Limited) → i < length new → l ≡ get_or new i d → drop i new ≡ drop i old → get_or old i d ≡ l
here old new i d l below is rest = sym (is ∙ head_same (get_or new i d) (get_or old i d) (drop (i + 1) new) (drop (i + 1) old) (from_index old new i d below rest))

behind : (old new : List Limited) (i : ℕ) (d : Limited) → i < length new → drop i new ≡ drop i old → drop (i + 1) new ≡ drop (i + 1) old
behind old new i d below rest = tail_same (get_or new i d) (get_or old i d) (drop (i + 1) new) (drop (i + 1) old) (from_index old new i d below rest)

one_more : (old new : List Limited) (i : ℕ) (d l : Limited) → i < length new → l ≡ get_or new i d → drop i new ≡ drop i old → take (i + 1) old ≡ take i old ++ l ∷ []
one_more old new i d l below is rest =
    let long = as_long old new i rest in
    let below_too : i < length old = omega (arith, long, below) in
    take_more old i d below_too ∙ ap (λ (x : Limited). take i old ++ x ∷ []) (here old new i d l below is rest)

adds_more : (form : Form) (names : List (List ℕ)) (now : ℕ) (last : Bool) (ls : List Limited) (l : Limited) (before between after : List ℕ)
    → AddsDue form names now last ls before between → AddsIf (is_due now last l) form names l between after → AddsDue form names now last (ls ++ l ∷ []) before after
adds_more form names now last [] l before between after is adds = (after, subst (λ (text : List ℕ). AddsIf (is_due now last l) form names l text after) is adds, refl)
adds_more form names now last (k ∷ ks) l before between after (mid, first, more) adds = (mid, first, adds_more form names now last ks l mid between after more adds)

told_one : (form : Form) (names : List (List ℕ)) (now : ℕ) (last : Bool) (old new : List Limited) (before between after : List ℕ) (i : ℕ) (d l m : Limited)
    → i < length new → l ≡ get_or new i d → m ≡ told_if_due now last l → AddsIf (is_due now last l) form names l between after
    → AreToldTo form names now last old new before between i → AreToldTo form names now last old (set new i m) before after (i + 1)
told_one form names now last old new before between after i d l m below is becomes adds (made, rest, lines) =
    let more = one_more old new i d l below is rest in (
      take_more_set new i m below
          ∙ ap (λ (ls : List Limited). ls ++ m ∷ []) made
          ∙ ap (λ (x : Limited). map (told_if_due now last) (take i old) ++ x ∷ []) becomes
          ∙ sym (ap (map (told_if_due now last)) more ∙ map-append (told_if_due now last) (take i old) (l ∷ [])),
      drop-set-lt (i + 1) new i m (omega arith) ∙ behind old new i d below rest,
      subst (λ (ls : List Limited). AddsDue form names now last ls before after) (sym more) (adds_more form names now last (take i old) l before between after lines adds),
    )

-- one that isn't due stays as it is
pub passed_one : (form : Form) (names : List (List ℕ)) (now : ℕ) (last : Bool) (old new : List Limited) (before after : List ℕ) (i : ℕ) (d l : Limited)
    → i < length new → l ≡ get_or new i d → is_due now last l ≡ false
    → AreToldTo form names now last old new before after i → AreToldTo form names now last old (set new i l) before after (i + 1)
passed_one form names now last old new before after i d l below is due so_far =
    told_one form names now last old new before after after i d l l below is (sym (ap (λ (b : Bool). if b then told l else l) due))
    (subst (λ (b : Bool). AddsIf b form names l after after) (sym due) refl) so_far

-- one that is due is told
pub due_one : (form : Form) (names : List (List ℕ)) (now : ℕ) (last : Bool) (old new : List Limited) (before between after : List ℕ) (i : ℕ) (d l m : Limited)
    → i < length new → l ≡ get_or new i d → is_due now last l ≡ true → m ≡ told l → AddsOmitted form names l between after
    → AreToldTo form names now last old new before between i → AreToldTo form names now last old (set new i m) before after (i + 1)
due_one form names now last old new before between after i d l m below is due becomes adds so_far =
    told_one form names now last old new before between after i d l m below is (becomes ∙ sym (ap (λ (b : Bool). if b then told l else l) due))
    (subst (λ (b : Bool). AddsIf b form names l between after) (sym due) adds) so_far

pub if_err : {A E : Type 0} (r : Result A E) (P : Type 0) → P → OnErr r P
if_err (Ok done) P p = tt
if_err (Err error) P p = p

-- memory ran out at one that is due, which stays as it was
pub told_up_to : (form : Form) (names : List (List ℕ)) (now : ℕ) (last : Bool) (old new : List Limited) (before between after : List ℕ) (i : ℕ) (d l m : Limited)
    → i < length new → l ≡ get_or new i d → m ≡ l → is_due now last l ≡ true → after ≡ between
    → AreToldTo form names now last old new before between i → AreToldUpTo form names now last old (set new i m) before after
told_up_to form names now last old new before between after i d l m below is stays due same (made, rest, lines) =
    let long = as_long old new i rest in
    let below_too : i < length old = omega (arith, long, below) in
    let at : drop i old ≡ l ∷ drop (i + 1) old = drop_more old i d below_too ∙ ap (λ (x : Limited). x ∷ drop (i + 1) old) (here old new i d l below is rest) in (
      take i old,
      drop (i + 1) old,
      l,
      due,
      sym (take-append-drop i old) ∙ ap (λ (ls : List Limited). take i old ++ ls) at,
      sym (take-append-drop i (set new i m))
          ∙ ap (λ (ls : List Limited). ls ++ drop i (set new i m)) (take-set new i m ∙ made)
          ∙ ap (λ (ls : List Limited). map (told_if_due now last) (take i old) ++ ls) (drop-set new i m below)
          ∙ ap (λ (x : Limited). map (told_if_due now last) (take i old) ++ x ∷ drop (i + 1) new) stays
          ∙ ap (λ (ls : List Limited). map (told_if_due now last) (take i old) ++ l ∷ ls) (behind old new i d below rest),
      subst (λ (text : List ℕ). AddsDue form names now last (take i old) before text) (sym same) lines,
    )
