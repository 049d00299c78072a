-- How acknowledgements and resync requests change a session's shares, whenever its tables answer the acknowledgements.
use Rattle.std.proofs.Common.{◌≡◌, ◌≢◌, ◌⊎◌, inl, inr, ℕ, Bool, true, false, not, ◌&&◌, ◌||◌, ◌==◌, cond, List, [], ◌∷◌, ◌++◌, refl, sym, ap, ◌∙◌, subst}
use Rattle.std.specs.List.{list_any}
use Rattle.std.proofs.lemmas.Bool.{cases_eq, eq-eqb, ne_eqb, false≢true}
use Rattle.session_core.specs.declared.share.Share.{Share}
use Rattle.session_core.specs.Actions.{reopens}
use Rattle.session_core.specs.Standing.{is_reopen}
use Rattle.session_core.specs.Shares.{any_out, is_out, out_set, unquieted}
use Rattle.session_core.specs.Courses.{is_held}
use Rattle.session_core.proofs.StaysOut.{out_other, out_unquieted}

-- ---- tables

-- `table` has no batch out afterwards
pub out_gone : (table : ℕ) (ss : List Share) → is_out table (out_set table false ss) ≡ false
out_gone table [] = refl
out_gone table (s ∷ ss) = elim (cases_eq s.table table) [
  | inl same ↦ rw (eq-eqb s.table table same, eq-eqb s.table table same) (out_gone table ss)
  | inr other ↦ rw (ne_eqb s.table table other, ne_eqb s.table table other) (out_gone table ss)
]

-- a batch that isn't out doesn't come out
pub out_less : (t table : ℕ) (ss : List Share) → is_out t ss ≡ false → is_out t (out_set table false ss) ≡ false
out_less t table ss none = elim (cases_eq table t) [
  | inl same ↦ subst (λ (x : ℕ). is_out x (out_set table false ss) ≡ false) same (out_gone table ss)
  | inr other ↦ out_other t table ss (ne_eqb table t other) ∙ none
]

none_first : (a b : Bool) → (a || b) ≡ false → a ≡ false
none_first true b none = none
none_first false b none = refl

none_second : (a b : Bool) → (a || b) ≡ false → b ≡ false
none_second true b none = absurd (false≢true (sym none))
none_second false b none = none

one_less : (b : Bool) (s : Share) → s.out ≡ false → (cond b (record { table = s.table; out = false; quiet = s.quiet }) s).out ≡ false
one_less true s none = refl
one_less false s none = none

any_less : (table : ℕ) (ss : List Share) → any_out ss ≡ false → any_out (out_set table false ss) ≡ false
any_less table [] none = refl
any_less table (s ∷ ss) none = rw (one_less (s.table == table) s (none_first s.out (any_out ss) none)) (any_less table ss (none_second s.out (any_out ss) none))

any_unquieted : (ss : List Share) → any_out (unquieted ss) ≡ any_out ss
any_unquieted [] = refl
any_unquieted (s ∷ ss) = ap (λ (b : Bool). s.out || b) (any_unquieted ss)

unquieted_twice : (ss : List Share) → unquieted (unquieted ss) ≡ unquieted ss
unquieted_twice [] = refl
unquieted_twice (s ∷ ss) = ap (λ (x : List Share). record { table = s.table; out = s.out; quiet = false } ∷ x) (unquieted_twice ss)

-- the table without its mark that it is quiet
abbrev unmarked : Share → Share
unmarked s = record { table = s.table; out = s.out; quiet = false }

one_unquieted : (b : Bool) (s : Share) → cond b (record { table = s.table; out = false; quiet = false }) (unmarked s) ≡ unmarked (cond b (record { table = s.table; out = false; quiet = s.quiet }) s)
one_unquieted true s = refl
one_unquieted false s = refl

set_unquieted : (table : ℕ) (ss : List Share) → out_set table false (unquieted ss) ≡ unquieted (out_set table false ss)
set_unquieted table [] = refl
set_unquieted table (s ∷ ss) = rw (one_unquieted (s.table == table) s, set_unquieted table ss) refl

-- ---- what is shared

-- whether the session stays; the tables; whether a resync request waits; whether a resync began; and whether a table was reopened
pub record Sharing : Type 0 where
  pub stays : Bool
  pub shares : List Share
  pub waits : Bool
  pub anew : Bool
  pub reopened : Bool

-- whether there is a table to reopen
abbrev pub some_table : List Share → Bool
some_table ss = list_any is_reopen (reopens ss)

abbrev pub anew_in : Sharing → Sharing
anew_in a = record { stays = a.stays; shares = unquieted a.shares; waits = false; anew = true; reopened = a.reopened || some_table a.shares }

-- a resync is requested
abbrev pub requested_if : Bool → Sharing → Sharing
requested_if true a = record { stays = a.stays; shares = a.shares; waits = true; anew = a.anew; reopened = a.reopened }
requested_if false a = anew_in a

abbrev pub requested_in : Sharing → Sharing
requested_in a = requested_if (is_held a.stays a.shares) a

abbrev pub begun_if : Bool → Sharing → Sharing
begun_if true a = anew_in a
begun_if false a = a

abbrev pub freed : ℕ → Sharing → Sharing
freed table a = record { stays = a.stays; shares = out_set table false a.shares; waits = a.waits; anew = a.anew; reopened = a.reopened }

-- whether a resync that waits begins once `table` has no batch out
abbrev pub begins : ℕ → Sharing → Bool
begins table a = a.waits && not (is_held a.stays (out_set table false a.shares))

-- `table` answers: that all is settled, if so
abbrev pub settled_if : Bool → ℕ → Sharing → Sharing
settled_if true table a = begun_if (begins table a) (freed table a)
settled_if false table a = a

abbrev pub answered_in : (ℕ → ℕ → Bool) → ℕ × ℕ → Sharing → Sharing
answered_in settles (table, number) a = settled_if (is_out table a.shares && settles table number) table a

abbrev pub all_answered : (ℕ → ℕ → Bool) → List (ℕ × ℕ) → Sharing → Sharing
all_answered settles [] a = a
all_answered settles (ack ∷ acks) a = all_answered settles acks (answered_in settles ack a)

-- ---- a request commutes with answers

some_unquieted : (ss : List Share) → some_table (unquieted ss) ≡ some_table ss
some_unquieted [] = refl
some_unquieted (s ∷ ss) = refl

some_set : (table : ℕ) (ss : List Share) → some_table (out_set table false ss) ≡ some_table ss
some_set table [] = refl
some_set table (s ∷ ss) = refl

or_twice : (a b : Bool) → ((a || b) || b) ≡ (a || b)
or_twice true b = refl
or_twice false true = refl
or_twice false false = refl

-- a resync that begins again changes nothing more
anew_twice : (a : Sharing) → anew_in (anew_in a) ≡ anew_in a
anew_twice a =
    ap (λ (ss : List Share). record { stays = a.stays; shares = ss; waits = false; anew = true; reopened = (a.reopened || some_table a.shares) || some_table (unquieted a.shares) }) (unquieted_twice a.shares)
    ∙ ap (λ (b : Bool). record { stays = a.stays; shares = unquieted a.shares; waits = false; anew = true; reopened = (a.reopened || some_table a.shares) || b }) (some_unquieted a.shares)
    ∙ ap (λ (b : Bool). record { stays = a.stays; shares = unquieted a.shares; waits = false; anew = true; reopened = b }) (or_twice a.reopened (some_table a.shares))

-- a table whose batch is gone, before a resync begins or after
anew_freed : (table : ℕ) (a : Sharing) → freed table (anew_in a) ≡ anew_in (freed table a)
anew_freed table a =
    ap (λ (ss : List Share). record { stays = a.stays; shares = ss; waits = false; anew = true; reopened = a.reopened || some_table a.shares }) (set_unquieted table a.shares)
    ∙ ap (λ (b : Bool). record { stays = a.stays; shares = unquieted (out_set table false a.shares); waits = false; anew = true; reopened = a.reopened || b }) (sym (some_set table a.shares))

held_less : (stays : Bool) (table : ℕ) (ss : List Share) → is_held stays ss ≡ false → is_held stays (out_set table false ss) ≡ false
held_less true table ss none = none
held_less false table ss none = any_less table ss none

held_unquieted : (stays : Bool) (ss : List Share) → is_held stays (unquieted ss) ≡ is_held stays ss
held_unquieted stays ss = ap (λ (b : Bool). stays || b) (any_unquieted ss)

-- by whether a request is held, whether one waits, and whether one is held without the batch of `table`
commutes_by : (x w y : Bool) (table : ℕ) (a : Sharing) → is_held a.stays a.shares ≡ x → is_held a.stays (out_set table false a.shares) ≡ y
    → begun_if ((requested_if x a).waits && not (is_held (requested_if x a).stays (out_set table false (requested_if x a).shares))) (freed table (requested_if x a))
    ≡ requested_in (begun_if (w && not y) (freed table a))
commutes_by true w true table a is_x is_y = rw (is_y) (by w)
  where
    by : (w : Bool) → freed table (requested_if true a) ≡ requested_in (begun_if (w && false) (freed table a))
    by true = rw is_y refl
    by false = rw is_y refl
commutes_by true true false table a is_x is_y =
    let still : is_held a.stays (unquieted (out_set table false a.shares)) ≡ false = held_unquieted a.stays (out_set table false a.shares) ∙ is_y in
    rw (is_y, still) (sym (anew_twice (freed table a)))
commutes_by true false false table a is_x is_y = rw is_y refl
commutes_by false w true table a is_x is_y = absurd (false≢true (sym (held_less a.stays table a.shares is_x) ∙ is_y))
commutes_by false true false table a is_x is_y =
    let still : is_held a.stays (unquieted (out_set table false a.shares)) ≡ false = held_unquieted a.stays (out_set table false a.shares) ∙ is_y in
    rw still (anew_freed table a ∙ sym (anew_twice (freed table a)))
commutes_by false false false table a is_x is_y = rw is_y (anew_freed table a)

out_requested : (t : ℕ) (b : Bool) (a : Sharing) → is_out t (requested_if b a).shares ≡ is_out t a.shares
out_requested t true a = refl
out_requested t false a = out_unquieted t a.shares

commutes_if : (b : Bool) (table : ℕ) (a : Sharing) → settled_if b table (requested_in a) ≡ requested_in (settled_if b table a)
commutes_if true table a = commutes_by (is_held a.stays a.shares) a.waits (is_held a.stays (out_set table false a.shares)) table a refl refl
commutes_if false table a = refl

answer_commutes : (settles : ℕ → ℕ → Bool) (table number : ℕ) (a : Sharing) → answered_in settles (table, number) (requested_in a) ≡ requested_in (answered_in settles (table, number) a)
answer_commutes settles table number a =
    ap (λ (out : Bool). settled_if (out && settles table number) table (requested_in a)) (out_requested table (is_held a.stays a.shares) a)
    ∙ commutes_if (is_out table a.shares && settles table number) table a

pub request_commutes : (settles : ℕ → ℕ → Bool) (acks : List (ℕ × ℕ)) (a : Sharing) → all_answered settles acks (requested_in a) ≡ requested_in (all_answered settles acks a)
request_commutes settles [] a = refl
request_commutes settles ((table, number) ∷ acks) a =
    ap (λ (x : Sharing). all_answered settles acks x) (answer_commutes settles table number a) ∙ request_commutes settles acks (answered_in settles (table, number) a)

pub one_more_answered : (settles : ℕ → ℕ → Bool) (acks : List (ℕ × ℕ)) (ack : ℕ × ℕ) (a : Sharing) → all_answered settles (acks ++ (ack ∷ [])) a ≡ answered_in settles ack (all_answered settles acks a)
one_more_answered settles [] ack a = refl
one_more_answered settles (first ∷ acks) ack a = one_more_answered settles acks ack (answered_in settles first a)

-- ---- which batches are out

begun_out : (t : ℕ) (b : Bool) (a : Sharing) → is_out t (begun_if b a).shares ≡ is_out t a.shares
begun_out t true a = out_unquieted t a.shares
begun_out t false a = refl

pub settled_gone : (table : ℕ) (a : Sharing) → is_out table (settled_if true table a).shares ≡ false
settled_gone table a = begun_out table (begins table a) (freed table a) ∙ out_gone table a.shares

pub settled_other : (t table : ℕ) (a : Sharing) → (table == t) ≡ false → is_out t (settled_if true table a).shares ≡ is_out t a.shares
settled_other t table a apart = begun_out t (begins table a) (freed table a) ∙ out_other t table a.shares apart

settled_less : (b : Bool) (t table : ℕ) (a : Sharing) → is_out t a.shares ≡ false → is_out t (settled_if b table a).shares ≡ false
settled_less true t table a none = begun_out t (begins table a) (freed table a) ∙ out_less t table a.shares none
settled_less false t table a none = none

pub answer_less : (settles : ℕ → ℕ → Bool) (t table number : ℕ) (a : Sharing) → is_out t a.shares ≡ false → is_out t (answered_in settles (table, number) a).shares ≡ false
answer_less settles t table number a none = settled_less (is_out table a.shares && settles table number) t table a none

pub all_less : (settles : ℕ → ℕ → Bool) (t : ℕ) (acks : List (ℕ × ℕ)) (a : Sharing) → is_out t a.shares ≡ false → is_out t (all_answered settles acks a).shares ≡ false
all_less settles t [] a none = none
all_less settles t ((table, number) ∷ acks) a none = all_less settles t acks (answered_in settles (table, number) a) (answer_less settles t table number a none)

pub requested_out : (t : ℕ) (a : Sharing) → is_out t (requested_in a).shares ≡ is_out t a.shares
requested_out t a = out_requested t (is_held a.stays a.shares) a

-- ---- a session among its tables

-- The tables `over` have settled all. The acknowledgements `acks` await their answers, and `k` is what is shared once the
-- tables have answered them.
abbrev pub Fits : (ℕ → ℕ → Bool) → List ℕ → List (ℕ × ℕ) → Sharing → Sharing → Type 0
Fits settles over acks a k =
    (all_answered settles acks a ≡ k)
    × ((t : ℕ) → list_any (λ id. id == t) over ≡ true → is_out t k.shares ≡ false)
    × ((t : ℕ) → list_any (λ id. id == t) over ≡ false → is_out t k.shares ≡ is_out t a.shares)

pub fits_first : (settles : ℕ → ℕ → Bool) (a : Sharing) → Fits settles [] [] a a
fits_first settles a = (refl, (λ t never. absurd (false≢true never)), (λ t none. refl))

pub fits_requested : (settles : ℕ → ℕ → Bool) (over : List ℕ) (acks : List (ℕ × ℕ)) (a k : Sharing) → Fits settles over acks a k → Fits settles over acks (requested_in a) (requested_in k)
fits_requested settles over acks a k (answers, gone, same) = (
  request_commutes settles acks a ∙ ap requested_in answers,
  λ t is_over. requested_out t k ∙ gone t is_over,
  λ t is_not. requested_out t k ∙ same t is_not ∙ sym (requested_out t a),
)

-- what isn't out at once isn't out later
pub fits_less : (settles : ℕ → ℕ → Bool) (over : List ℕ) (acks : List (ℕ × ℕ)) (a k : Sharing) (t : ℕ) → Fits settles over acks a k → is_out t a.shares ≡ false → is_out t k.shares ≡ false
fits_less settles over acks a k t (answers, gone, same) none = subst (λ (x : Sharing). is_out t x.shares ≡ false) answers (all_less settles t acks a none)

between : (u v w : Bool) → (v ≡ false → u ≡ false) → (w ≡ false → v ≡ false) → u ≡ w → u ≡ v
between u true true less lesser same = same
between u false w less lesser same = less refl
between u true false less lesser same = absurd (false≢true (sym (lesser refl)))

-- a table answers the first acknowledgement
pub fits_answered : (settles : ℕ → ℕ → Bool) (over : List ℕ) (table number : ℕ) (acks : List (ℕ × ℕ)) (a k : Sharing) → Fits settles over ((table, number) ∷ acks) a k → Fits settles over acks (answered_in settles (table, number) a) k
fits_answered settles over table number acks a k (answers, gone, same) =
    let b : Sharing = answered_in settles (table, number) a in (
      answers,
      gone,
      λ t is_not. between (is_out t k.shares) (is_out t b.shares) (is_out t a.shares)
          (λ none. subst (λ (x : Sharing). is_out t x.shares ≡ false) answers (all_less settles t acks b none))
          (answer_less settles t table number a)
          (same t is_not),
    )

-- an acknowledgement of a table that has settled all
pub fits_late : (settles : ℕ → ℕ → Bool) (over : List ℕ) (table number : ℕ) (acks : List (ℕ × ℕ)) (a k : Sharing) → Fits settles over acks a k → is_out table k.shares ≡ false → Fits settles over (acks ++ ((table, number) ∷ [])) a k
fits_late settles over table number acks a k (answers, gone, same) none =
    let unchanged : answered_in settles (table, number) k ≡ k = ap (λ (out : Bool). settled_if (out && settles table number) table k) none in
    (one_more_answered settles acks (table, number) a ∙ ap (answered_in settles (table, number)) answers ∙ unchanged, gone, same)

-- the tables that have settled all, after one more acknowledgement
abbrev pub over_after : (ℕ → ℕ → Bool) → ℕ → ℕ → List ℕ → List ℕ
over_after settles table number over = cond (settles table number) (table ∷ over) over

-- an acknowledgement of a table that hasn't
pub fits_passed : (settles : ℕ → ℕ → Bool) (over : List ℕ) (table number : ℕ) (acks : List (ℕ × ℕ)) (a k : Sharing) → Fits settles over acks a k → is_out table k.shares ≡ true
    → Fits settles (over_after settles table number over) (acks ++ ((table, number) ∷ [])) a (answered_in settles (table, number) k)
fits_passed settles over table number acks a k (answers, gone, same) out =
    let later : all_answered settles (acks ++ ((table, number) ∷ [])) a ≡ answered_in settles (table, number) k = one_more_answered settles acks (table, number) a ∙ ap (answered_in settles (table, number)) answers in
    let is : answered_in settles (table, number) k ≡ settled_if (settles table number) table k = ap (λ (b : Bool). settled_if (b && settles table number) table k) out in
    subst (λ (x : Sharing). Fits settles (over_after settles table number over) (acks ++ ((table, number) ∷ [])) a x) (sym is) (by (settles table number) (later ∙ is))
  where
    by : (b : Bool) → all_answered settles (acks ++ ((table, number) ∷ [])) a ≡ settled_if b table k → Fits settles (cond b (table ∷ over) over) (acks ++ ((table, number) ∷ [])) a (settled_if b table k)
    by true later = (later, (λ t is_over. gone_now t (cases_eq table t) is_over), (λ t is_not. settled_other t table k (none_first (table == t) (list_any (λ id. id == t) over) is_not) ∙ same t (none_second (table == t) (list_any (λ id. id == t) over) is_not)))
      where
        gone_now : (t : ℕ) → (table ≡ t) ⊎ (table ≢ t) → ((table == t) || list_any (λ id. id == t) over) ≡ true → is_out t (settled_if true table k).shares ≡ false
        gone_now t (inl here) is_over = subst (λ (x : ℕ). is_out x (settled_if true table k).shares ≡ false) here (settled_gone table k)
        gone_now t (inr other) is_over =
            settled_other t table k (ne_eqb table t other) ∙ gone t (sym (ap (λ (b : Bool). b || list_any (λ id. id == t) over) (ne_eqb table t other)) ∙ is_over)
    by false later = (later, gone, same)
