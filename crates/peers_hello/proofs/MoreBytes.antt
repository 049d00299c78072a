-- A hello or a status, with more bytes after it.
use Rattle.std.proofs.Common.{◌≡◌, ℕ, zero, suc, ◌+◌, ◌-◌, ◌≤◌, ◌<◌, Bool, true, false, ◌==◌, cond, List, [], ◌∷◌, ◌++◌, Option, Some, None, Result, Ok, Err, refl, sym, ap, ◌∙◌, subst, arith, drop, length}
use Rattle.std.specs.Prelude.{nat_lt}
use Rattle.std.proofs.lemmas.Bool.{false≢true, le-ltb, lt-ltb}
use Rattle.std.proofs.lemmas.Bool.Decides.{nat_tests}
use Rattle.std.proofs.lemmas.List.{drop-append-le, length-append}
use Rattle.table_types.specs.declared.version.Version.{Version}
use Rattle.peers_hello.specs.declared.hello.Answer.{Answer}
use Rattle.peers_hello.specs.declared.hello.Answer.TheVariants as answers
use Rattle.peers_hello.specs.declared.lines.NoLine.{NoLine}
use Rattle.peers_hello.specs.declared.lines.NoLine.TheVariants as lacks
use Rattle.peers_hello.specs.declared.status.Status.{Status}
use Rattle.peers_hello.specs.declared.status.Status.TheVariants as statuses
use Rattle.peers_hello.specs.Hellos.{answer_of, answer_of_lines, answered, decided, is_among, judged, local_of}
use Rattle.peers_hello.specs.Lines.{after_lines, line, no_line, no_lines, past, reason_before, until, without_cr}
use Rattle.peers_hello.specs.Meetings.{Opens, Stays, by_answer, by_status, opens_if}
use Rattle.peers_hello.specs.Statuses.{code_of, status_at, status_of, status_of_code}

-- ---- one line

-- a line ends in the bytes
abbrev is_ended : List ℕ → Bool
is_ended [] = false
is_ended (x ∷ xs) = cond (x == 10) true (is_ended xs)

until_on : (xs more : List ℕ) → is_ended xs ≡ true → until 10 (xs ++ more) ≡ until 10 xs
until_on [] more is = absurd (false≢true is)
until_on (x ∷ xs) more is = by (x == 10) (until_on xs more) is
  where
    by : (b : Bool) → (is_ended xs ≡ true → until 10 (xs ++ more) ≡ until 10 xs) → cond b true (is_ended xs) ≡ true → cond b [] (x ∷ until 10 (xs ++ more)) ≡ cond b [] (x ∷ until 10 xs)
    by true later is = refl
    by false later is = ap (λ (ys : List ℕ). x ∷ ys) (later is)

past_on : (xs more : List ℕ) → is_ended xs ≡ true → past 10 (xs ++ more) ≡ past 10 xs ++ more
past_on [] more is = absurd (false≢true is)
past_on (x ∷ xs) more is = by (x == 10) (past_on xs more) is
  where
    by : (b : Bool) → (is_ended xs ≡ true → past 10 (xs ++ more) ≡ past 10 xs ++ more) → cond b true (is_ended xs) ≡ true → cond b (xs ++ more) (past 10 (xs ++ more)) ≡ cond b xs (past 10 xs) ++ more
    by true later is = refl
    by false later is = later is

until_less : (xs : List ℕ) → is_ended xs ≡ true → length (until 10 xs) < length xs
until_less [] is = absurd (false≢true is)
until_less (x ∷ xs) is = by (x == 10) (until_less xs) is
  where
    by : (b : Bool) → (is_ended xs ≡ true → length (until 10 xs) < length xs) → cond b true (is_ended xs) ≡ true → length (cond b [] (x ∷ until 10 xs)) < suc (length xs)
    by true later is = omega arith
    by false later is =
        let less : length (until 10 xs) < length xs = later is in
        omega (arith, less)

past_less : (xs : List ℕ) → length (past 10 xs) ≤ length xs
past_less [] = omega arith
past_less (x ∷ xs) = by (x == 10) (past_less xs)
  where
    by : (b : Bool) → length (past 10 xs) ≤ length xs → length (cond b xs (past 10 xs)) ≤ suc (length xs)
    by true later = omega arith
    by false later = omega (arith, later)

until_all : (xs : List ℕ) → is_ended xs ≡ false → until 10 xs ≡ xs
until_all [] none = refl
until_all (x ∷ xs) none = by (x == 10) (until_all xs) none
  where
    by : (b : Bool) → (is_ended xs ≡ false → until 10 xs ≡ xs) → cond b true (is_ended xs) ≡ false → cond b [] (x ∷ until 10 xs) ≡ x ∷ xs
    by true later none = absurd (false≢true (sym none))
    by false later none = ap (λ (ys : List ℕ). x ∷ ys) (later none)

until_more : (xs more : List ℕ) → is_ended xs ≡ false → until 10 (xs ++ more) ≡ xs ++ until 10 more
until_more [] more none = refl
until_more (x ∷ xs) more none = by (x == 10) (until_more xs more) none
  where
    by : (b : Bool) → (is_ended xs ≡ false → until 10 (xs ++ more) ≡ xs ++ until 10 more) → cond b true (is_ended xs) ≡ false → cond b [] (x ∷ until 10 (xs ++ more)) ≡ x ∷ (xs ++ until 10 more)
    by true later none = absurd (false≢true (sym none))
    by false later none = ap (λ (ys : List ℕ). x ∷ ys) (later none)

-- ---- why there is no line

-- by whether it is too long, and whether it has ended
abbrev reason : Bool → Bool → Option NoLine
reason true ends = Some lacks.TooLong
reason false true = None
reason false false = Some lacks.More

reason_is : (xs : List ℕ) → no_line xs ≡ reason (nat_lt 512 (length (until 10 xs))) (nat_lt (length (until 10 xs)) (length xs))
reason_is xs = by (nat_lt 512 (length (until 10 xs))) (nat_lt (length (until 10 xs)) (length xs))
  where
    by : (a b : Bool) → cond a (Some lacks.TooLong) (cond b None (Some lacks.More)) ≡ reason a b
    by true b = refl
    by false true = refl
    by false false = refl

too_long : (a b : Bool) → reason a b ≡ Some lacks.TooLong → a ≡ true
too_long true b is = refl
too_long false true is = cc
too_long false false is = cc

none_lacks : (a : Bool) → reason a false ≡ None → ⊥
none_lacks true is = cc
none_lacks false is = cc

-- bytes with the end of a line in them
line_on : (xs more : List ℕ) → is_ended xs ≡ true → no_line (xs ++ more) ≡ no_line xs
line_on xs more is =
    let less = until_less xs is in
    let all = length-append xs more in
    let ends : nat_lt (length (until 10 xs)) (length xs) ≡ true = lt-ltb (length (until 10 xs)) (length xs) less in
    let ends_so : nat_lt (length (until 10 xs)) (length (xs ++ more)) ≡ true = lt-ltb (length (until 10 xs)) (length (xs ++ more)) (omega (arith, less, all)) in
    reason_is (xs ++ more)
    ∙ ap (λ (ys : List ℕ). reason (nat_lt 512 (length ys)) (nat_lt (length ys) (length (xs ++ more)))) (until_on xs more is)
    ∙ ap (reason (nat_lt 512 (length (until 10 xs)))) (ends_so ∙ sym ends)
    ∙ sym (reason_is xs)

-- a line ends where there is one
has_ended : (xs : List ℕ) → no_line xs ≡ None → is_ended xs ≡ true
has_ended xs is = by (is_ended xs) refl
  where
    by : (b : Bool) → is_ended xs ≡ b → b ≡ true
    by true ended = refl
    by false ended =
        let same : nat_lt (length (until 10 xs)) (length xs) ≡ false = ap (λ (ys : List ℕ). nat_lt (length ys) (length xs)) (until_all xs ended) ∙ le-ltb (length xs) (length xs) (omega arith) in
        absurd (none_lacks (nat_lt 512 (length (until 10 xs))) (sym (reason_is xs ∙ ap (reason (nat_lt 512 (length (until 10 xs)))) same) ∙ is))

still_none : (xs more : List ℕ) → no_line xs ≡ None → no_line (xs ++ more) ≡ None
still_none xs more is = line_on xs more (has_ended xs is) ∙ is

longer : (a b : ℕ) → nat_lt 512 a ≡ true → nat_lt 512 (a + b) ≡ true
longer a b long = grind (arith, nat_tests)

-- a line that is too long is so with more bytes after it
still_long : (xs more : List ℕ) → no_line xs ≡ Some lacks.TooLong → no_line (xs ++ more) ≡ Some lacks.TooLong
still_long xs more is = by (is_ended xs) refl
  where
    by : (b : Bool) → is_ended xs ≡ b → no_line (xs ++ more) ≡ Some lacks.TooLong
    by true ended = line_on xs more ended ∙ is
    by false ended =
        let long : nat_lt 512 (length xs) ≡ true =
        ap (λ (ys : List ℕ). nat_lt 512 (length ys)) (sym (until_all xs ended)) ∙ too_long (nat_lt 512 (length (until 10 xs))) (nat_lt (length (until 10 xs)) (length xs)) (sym (reason_is xs) ∙ is) in
        let so : nat_lt 512 (length (until 10 (xs ++ more))) ≡ true =
        ap (λ (ys : List ℕ). nat_lt 512 (length ys)) (until_more xs more ended)
        ∙ ap (nat_lt 512) (length-append xs (until 10 more))
        ∙ longer (length xs) (length (until 10 more)) long in
        reason_is (xs ++ more) ∙ ap (λ (b : Bool). reason b (nat_lt (length (until 10 (xs ++ more))) (length (xs ++ more)))) so

same_line : (xs more : List ℕ) → no_line xs ≡ None → line (xs ++ more) ≡ line xs
same_line xs more is = ap without_cr (until_on xs more (has_ended xs is))

same_past : (xs more : List ℕ) → no_line xs ≡ None → past 10 (xs ++ more) ≡ past 10 xs ++ more
same_past xs more is = past_on xs more (has_ended xs is)

-- ---- a status

stays_if : (b : Bool) (version : Version) (code used : ℕ) (bytes more : List ℕ) → used ≤ length bytes → Stays (opens_if b version code (drop used bytes)) more (opens_if b version code (drop used (bytes ++ more)))
stays_if true version code used bytes more within = ap (Opens version) (drop-append-le used bytes more within)
stays_if false version code used bytes more within = refl

stays_code : (version : Version) (code : Option ℕ) (used : ℕ) (bytes more : List ℕ) → used ≤ length bytes → Stays (by_status version (status_of_code code used) bytes) more (by_status version (status_of_code code used) (bytes ++ more))
stays_code version (Some code) used bytes more within = stays_if (code == 200) version code used bytes more within
stays_code version None used bytes more within = refl

-- two statuses, of these bytes and of these with more
stays_status : (version : Version) (a b : Status) (bytes more : List ℕ) → Stays (by_status version a bytes) more (by_status version b (bytes ++ more)) → status_of bytes ≡ a → status_of (bytes ++ more) ≡ b → Stays (by_status version (status_of bytes) bytes) more (by_status version (status_of (bytes ++ more)) (bytes ++ more))
stays_status version a b bytes more stays is is' =
    subst (λ (s : Status). Stays (by_status version s bytes) more (by_status version (status_of (bytes ++ more)) (bytes ++ more))) (sym is)
    (subst (λ (s : Status). Stays (by_status version a bytes) more (by_status version s (bytes ++ more))) (sym is') stays)

status_stays_by : (version : Version) (lack : Option NoLine) (bytes more : List ℕ) → no_line bytes ≡ lack → Stays (by_status version (status_of bytes) bytes) more (by_status version (status_of (bytes ++ more)) (bytes ++ more))
status_stays_by version None bytes more is =
    let used : ℕ = length bytes - length (past 10 bytes) in
    let one = length-append bytes more in
    let two = length-append (past 10 bytes) more in
    let same_used : length (bytes ++ more) - length (past 10 (bytes ++ more)) ≡ used = ap (λ (p : List ℕ). length (bytes ++ more) - length p) (same_past bytes more is) ∙ omega (arith, one, two) in
    let here : status_of bytes ≡ status_of_code (code_of (line bytes)) used = ap (λ (l : Option NoLine). status_at l (status_of_code (code_of (line bytes)) used) (length bytes)) is in
    let there : status_of (bytes ++ more) ≡ status_of_code (code_of (line bytes)) used =
    ap (λ (l : Option NoLine). status_at l (status_of_code (code_of (line (bytes ++ more))) (length (bytes ++ more) - length (past 10 (bytes ++ more)))) (length (bytes ++ more))) (still_none bytes more is)
    ∙ ap (λ (l : List ℕ). status_of_code (code_of l) (length (bytes ++ more) - length (past 10 (bytes ++ more)))) (same_line bytes more is)
    ∙ ap (status_of_code (code_of (line bytes))) same_used in
    stays_status version _ _ bytes more (stays_code version (code_of (line bytes)) used bytes more (omega arith)) here there
status_stays_by version (Some lacks.TooLong) bytes more is =
    let here : status_of bytes ≡ statuses.Other (length bytes) = ap (λ (l : Option NoLine). status_at l (status_of_code (code_of (line bytes)) (length bytes - length (past 10 bytes))) (length bytes)) is in
    let there : status_of (bytes ++ more) ≡ statuses.Other (length (bytes ++ more)) =
    ap (λ (l : Option NoLine). status_at l (status_of_code (code_of (line (bytes ++ more))) (length (bytes ++ more) - length (past 10 (bytes ++ more)))) (length (bytes ++ more))) (still_long bytes more is) in
    stays_status version (statuses.Other (length bytes)) (statuses.Other (length (bytes ++ more))) bytes more refl here there
status_stays_by version (Some lacks.More) bytes more is =
    let here : status_of bytes ≡ statuses.More = ap (λ (l : Option NoLine). status_at l (status_of_code (code_of (line bytes)) (length bytes - length (past 10 bytes))) (length bytes)) is in
    stays_status version statuses.More (status_of (bytes ++ more)) bytes more tt here refl

-- ---- a hello

reasons_none : (a b : Option NoLine) → reason_before a b ≡ None → (a ≡ None) × (b ≡ None)
reasons_none None b is = (refl, is)
reasons_none (Some r) b is = cc

lines_none : (n : ℕ) (bytes more : List ℕ) → no_lines n bytes ≡ None → (no_lines n (bytes ++ more) ≡ None) × (after_lines n (bytes ++ more) ≡ after_lines n bytes ++ more)
lines_none zero bytes more is = (refl, refl)
lines_none (suc n) bytes more is =
    let both = reasons_none (no_line bytes) (no_lines n (past 10 bytes)) is in
    let rest = lines_none n (past 10 bytes) more both.1 in
    let cut : past 10 (bytes ++ more) ≡ past 10 bytes ++ more = same_past bytes more both.0 in (
      ap (λ (l : Option NoLine). reason_before l (no_lines n (past 10 (bytes ++ more)))) (still_none bytes more both.0) ∙ ap (no_lines n) cut ∙ rest.0,
      ap (after_lines n) cut ∙ rest.1,
    )

lines_long : (n : ℕ) (bytes more : List ℕ) → no_lines n bytes ≡ Some lacks.TooLong → no_lines n (bytes ++ more) ≡ Some lacks.TooLong
lines_long zero bytes more is = cc
lines_long (suc n) bytes more is = by (no_line bytes) refl is (lines_long n (past 10 bytes) more)
  where
    by : (lack : Option NoLine) → no_line bytes ≡ lack → reason_before lack (no_lines n (past 10 bytes)) ≡ Some lacks.TooLong
        → (no_lines n (past 10 bytes) ≡ Some lacks.TooLong → no_lines n (past 10 bytes ++ more) ≡ Some lacks.TooLong)
        → no_lines (suc n) (bytes ++ more) ≡ Some lacks.TooLong
    by None here is later =
        ap (λ (l : Option NoLine). reason_before l (no_lines n (past 10 (bytes ++ more)))) (still_none bytes more here) ∙ ap (no_lines n) (same_past bytes more here) ∙ later is
    by (Some lacks.TooLong) here is later = ap (λ (l : Option NoLine). reason_before l (no_lines n (past 10 (bytes ++ more)))) (still_long bytes more here)
    by (Some lacks.More) here is later = cc

after_less : (n : ℕ) (bytes : List ℕ) → length (after_lines n bytes) ≤ length bytes
after_less zero bytes = omega arith
after_less (suc n) bytes =
    let one = past_less bytes in
    let rest = after_less n (past 10 bytes) in
    omega (arith, one, rest)

stays_decided : (judgement : Result Version ℕ) (is_peer : Bool) (name : List ℕ) (used : ℕ) (bytes more : List ℕ) → used ≤ length bytes → Stays (by_answer (decided judgement is_peer name used) bytes) more (by_answer (decided judgement is_peer name used) (bytes ++ more))
stays_decided (Err code) is_peer name used bytes more within = refl
stays_decided (Ok version) false name used bytes more within = refl
stays_decided (Ok version) true name used bytes more within = ap (Opens version) (drop-append-le used bytes more within)

stays_answer : (own : List ℕ) (peers : List (List ℕ)) (a b : Answer) (bytes more : List ℕ) → Stays (by_answer a bytes) more (by_answer b (bytes ++ more)) → answer_of own peers bytes ≡ a → answer_of own peers (bytes ++ more) ≡ b
    → Stays (by_answer (answer_of own peers bytes) bytes) more (by_answer (answer_of own peers (bytes ++ more)) (bytes ++ more))
stays_answer own peers a b bytes more stays is is' =
    subst (λ (s : Answer). Stays (by_answer s bytes) more (by_answer (answer_of own peers (bytes ++ more)) (bytes ++ more))) (sym is)
    (subst (λ (s : Answer). Stays (by_answer a bytes) more (by_answer s (bytes ++ more))) (sym is') stays)

-- the answer to three lines
abbrev to_lines : List ℕ → List (List ℕ) → List ℕ → Answer
to_lines own peers bytes = answer_of_lines own peers (line bytes) (line (after_lines 1 bytes)) (line (after_lines 2 bytes)) (length bytes - length (after_lines 3 bytes))

-- once three lines stand, more bytes leave the answer to them as it is
answer_none : (own : List ℕ) (peers : List (List ℕ)) (bytes more : List ℕ) → no_lines 3 bytes ≡ None → (answer_of own peers bytes ≡ to_lines own peers bytes) × (answer_of own peers (bytes ++ more) ≡ to_lines own peers bytes)
answer_none own peers bytes more is =
    let first = reasons_none (no_line bytes) (no_lines 2 (past 10 bytes)) is in
    let second = reasons_none (no_line (past 10 bytes)) (no_lines 1 (past 10 (past 10 bytes))) first.1 in
    let third = reasons_none (no_line (past 10 (past 10 bytes))) None second.1 in
    let after_one : after_lines 1 (bytes ++ more) ≡ past 10 bytes ++ more = same_past bytes more first.0 in
    let after_two : after_lines 2 (bytes ++ more) ≡ past 10 (past 10 bytes) ++ more = ap (past 10) after_one ∙ same_past (past 10 bytes) more second.0 in
    let after_three : after_lines 3 (bytes ++ more) ≡ after_lines 3 bytes ++ more = (lines_none 3 bytes more is).1 in
    let used : ℕ = length bytes - length (after_lines 3 bytes) in
    let one = length-append bytes more in
    let two = length-append (after_lines 3 bytes) more in
    let same_used : length (bytes ++ more) - length (after_lines 3 (bytes ++ more)) ≡ used = ap (λ (p : List ℕ). length (bytes ++ more) - length p) after_three ∙ omega (arith, one, two) in
    let same : to_lines own peers (bytes ++ more) ≡ to_lines own peers bytes =
    ap (λ (l : List ℕ). answer_of_lines own peers l (line (after_lines 1 (bytes ++ more))) (line (after_lines 2 (bytes ++ more))) (length (bytes ++ more) - length (after_lines 3 (bytes ++ more)))) (same_line bytes more first.0)
    ∙ ap (λ (l : List ℕ). answer_of_lines own peers (line bytes) l (line (after_lines 2 (bytes ++ more))) (length (bytes ++ more) - length (after_lines 3 (bytes ++ more)))) (ap line after_one ∙ same_line (past 10 bytes) more second.0)
    ∙ ap (λ (l : List ℕ). answer_of_lines own peers (line bytes) (line (past 10 bytes)) l (length (bytes ++ more) - length (after_lines 3 (bytes ++ more)))) (ap line after_two ∙ same_line (past 10 (past 10 bytes)) more third.0)
    ∙ ap (answer_of_lines own peers (line bytes) (line (past 10 bytes)) (line (past 10 (past 10 bytes)))) same_used in
    let here : answer_of own peers bytes ≡ to_lines own peers bytes = ap (λ (l : Option NoLine). answered l (to_lines own peers bytes) (length bytes)) is in
    let there : answer_of own peers (bytes ++ more) ≡ to_lines own peers bytes = ap (λ (l : Option NoLine). answered l (to_lines own peers (bytes ++ more)) (length (bytes ++ more))) (lines_none 3 bytes more is).0 ∙ same in (here, there)

answer_stays_by : (own : List ℕ) (peers : List (List ℕ)) (lack : Option NoLine) (bytes more : List ℕ) → no_lines 3 bytes ≡ lack → Stays (by_answer (answer_of own peers bytes) bytes) more (by_answer (answer_of own peers (bytes ++ more)) (bytes ++ more))
answer_stays_by own peers None bytes more is =
    let same = answer_none own peers bytes more is in
    let used : ℕ = length bytes - length (after_lines 3 bytes) in
    let decides = stays_decided (judged own (line bytes) (line (past 10 bytes)) (line (past 10 (past 10 bytes)))) (is_among (local_of (line (past 10 (past 10 bytes)))) peers) (local_of (line (past 10 (past 10 bytes)))) used bytes more (omega arith) in
    stays_answer own peers (to_lines own peers bytes) (to_lines own peers bytes) bytes more decides same.0 same.1
answer_stays_by own peers (Some lacks.TooLong) bytes more is =
    let here : answer_of own peers bytes ≡ answers.Refused 501 (length bytes) = ap (λ (l : Option NoLine). answered l (to_lines own peers bytes) (length bytes)) is in
    let there : answer_of own peers (bytes ++ more) ≡ answers.Refused 501 (length (bytes ++ more)) = ap (λ (l : Option NoLine). answered l (to_lines own peers (bytes ++ more)) (length (bytes ++ more))) (lines_long 3 bytes more is) in
    stays_answer own peers (answers.Refused 501 (length bytes)) (answers.Refused 501 (length (bytes ++ more))) bytes more refl here there
answer_stays_by own peers (Some lacks.More) bytes more is =
    let here : answer_of own peers bytes ≡ answers.More = ap (λ (l : Option NoLine). answered l (to_lines own peers bytes) (length bytes)) is in
    stays_answer own peers answers.More (answer_of own peers (bytes ++ more)) bytes more tt here refl

pub status_stays : (version : Version) (bytes more : List ℕ) → Stays (by_status version (status_of bytes) bytes) more (by_status version (status_of (bytes ++ more)) (bytes ++ more))
status_stays version bytes more = status_stays_by version (no_line bytes) bytes more refl

pub answer_stays : (own : List ℕ) (peers : List (List ℕ)) (bytes more : List ℕ) → Stays (by_answer (answer_of own peers bytes) bytes) more (by_answer (answer_of own peers (bytes ++ more)) (bytes ++ more))
answer_stays own peers bytes more = answer_stays_by own peers (no_lines 3 bytes) bytes more refl

-- ---- an accepted hello

accepted_stays_by : (own : List ℕ) (peers : List (List ℕ)) (lack : Option NoLine) (bytes more name : List ℕ) (version : Version) (used : ℕ) → no_lines 3 bytes ≡ lack → answer_of own peers bytes ≡ answers.Accepted name version used → answer_of own peers (bytes ++ more) ≡ answers.Accepted name version used
accepted_stays_by own peers None bytes more name version used is accepted =
    let same = answer_none own peers bytes more is in
    same.1 ∙ sym same.0 ∙ accepted
accepted_stays_by own peers (Some lacks.TooLong) bytes more name version used is accepted =
    let here : answer_of own peers bytes ≡ answers.Refused 501 (length bytes) = ap (λ (l : Option NoLine). answered l (to_lines own peers bytes) (length bytes)) is in
    absurd (never_both (length bytes) name version used (sym here ∙ accepted))
  where
    never_both : (all : ℕ) (name : List ℕ) (version : Version) (used : ℕ) → answers.Refused 501 all ≡ answers.Accepted name version used → ⊥
    never_both all name version used same = cc
accepted_stays_by own peers (Some lacks.More) bytes more name version used is accepted =
    let here : answer_of own peers bytes ≡ answers.More = ap (λ (l : Option NoLine). answered l (to_lines own peers bytes) (length bytes)) is in
    absurd (never_both name version used (sym here ∙ accepted))
  where
    never_both : (name : List ℕ) (version : Version) (used : ℕ) → answers.More ≡ answers.Accepted name version used → ⊥
    never_both name version used same = cc

pub accepted_stays : (own : List ℕ) (peers : List (List ℕ)) (bytes more name : List ℕ) (version : Version) (used : ℕ) → answer_of own peers bytes ≡ answers.Accepted name version used → answer_of own peers (bytes ++ more) ≡ answers.Accepted name version used
accepted_stays own peers bytes more name version used accepted = accepted_stays_by own peers (no_lines 3 bytes) bytes more name version used refl accepted
