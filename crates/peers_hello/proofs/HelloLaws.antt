-- A hello written for a peer is accepted.
use Rattle.std.proofs.Common.{◌≡◌, ◌∙◌, ◌+◌, ◌-◌, ◌^◌, ◌<◌, ◌≤◌, ◌++◌, ◌&&◌, true, not, ℕ, Some, List, [], ◌∷◌, ap, append_assoc, arith, drop, length, refl, sym}
use Rattle.std.specs.Prelude.{◌==◌, nat_le, codes}
use Rattle.std.specs.Fmt.{decimal}
use Rattle.std.specs.List.{list_all}
use Rattle.std.proofs.lemmas.Bool.Decides.{nat_tests}
use Rattle.std.proofs.lemmas.Fmt.{decimal_nonempty, digits_decimal, length-decimal-le}
use Rattle.std.proofs.lemmas.List.{length-append}
use Rattle.std.proofs.lemmas.List.Folds.{list_all-append}
use Rattle.std.proofs.lemmas.Str.Parse.{IsDigitsTest, numerals_by_value}
use Rattle.table_types.specs.Names.{is_name}
use Rattle.table_types.specs.declared.version.Version.{Version}
use Rattle.table_types.specs.declared.version.Version.TheVariants as versions
use Rattle.peers_hello.specs.declared.hello.Hello.{Hello}
use Rattle.peers_hello.specs.declared.hello.Answer.TheVariants as answers
use Rattle.peers_hello.specs.Lines.{is_same}
use Rattle.peers_hello.specs.Hellos.{IsReadAsWritten, answer_of, answer_of_lines, hello_text, is_among, is_greeting, is_introduction, is_number, is_one_word, version_of, version_text}
use Rattle.peers_hello.proofs.LineLaws.{IsLine, Lacks, line_ended, past_stop, stands, until_stop}

same_as_itself : (xs : List ℕ) → is_same xs xs ≡ true
same_as_itself [] = refl
same_as_itself (x ∷ xs) = grind (arith, nat_tests, same_as_itself xs)

-- ---- bytes that don't occur in a text

digits_lack : (stop : ℕ) (xs : List ℕ) → stop < 48 → list_all (λ byte. nat_le 48 byte && nat_le byte 57) xs ≡ true → Lacks stop xs
digits_lack stop [] below are = refl
digits_lack stop (x ∷ xs) below are = grind (arith, nat_tests, digits_lack stop xs)

word_lacks_space : (xs : List ℕ) → is_one_word xs ≡ true → Lacks 32 xs
word_lacks_space [] is = refl
word_lacks_space (x ∷ xs) is = grind (arith, nat_tests, word_lacks_space xs)

word_lacks_cr : (xs : List ℕ) → is_one_word xs ≡ true → Lacks 13 xs
word_lacks_cr [] is = refl
word_lacks_cr (x ∷ xs) is = grind (arith, nat_tests, word_lacks_cr xs)

word_lacks_lf : (xs : List ℕ) → is_one_word xs ≡ true → Lacks 10 xs
word_lacks_lf [] is = refl
word_lacks_lf (x ∷ xs) is = grind (arith, nat_tests, word_lacks_lf xs)

lacks_both : (stop : ℕ) (xs ys : List ℕ) → Lacks stop xs → Lacks stop ys → Lacks stop (xs ++ ys)
lacks_both stop xs ys one other = list_all-append (λ byte. not (byte == stop)) xs ys ∙ rw (one, other) refl

-- ---- numbers

abbrev are_digits : List ℕ → Type 0
are_digits text = list_all (λ byte. nat_le 48 byte && nat_le byte 57) text ≡ true

tells_digits : IsDigitsTest are_digits
tells_digits = record {
  empty = refl;
  parts = λ c cs are. ((grind (arith, nat_tests), grind (arith, nat_tests)), grind (arith, nat_tests));
  more = λ c cs within are. grind (arith, nat_tests);
}

digits : (n : ℕ) → n < 2 ^ 32 → are_digits (decimal n)
digits n small = digits_decimal (numerals_by_value are_digits tells_digits) n (omega (arith, small))

number_lacks : (stop n : ℕ) → stop < 48 → n < 2 ^ 32 → Lacks stop (decimal n)
number_lacks stop n below small = digits_lack stop (decimal n) below (digits n small)

ten_at_most : (n : ℕ) → n < 2 ^ 32 → length (decimal n) ≤ 10
ten_at_most n small = length-decimal-le 10 n (omega arith) (omega (arith, small)) (omega (arith, small))

numbered : (n : ℕ) → n < 2 ^ 32 → is_number (decimal n) ≡ true
numbered n small =
    let some = decimal_nonempty n (omega (arith, small)) in
    let are = digits n small in
    grind (arith, nat_tests)

-- ---- the first line

abbrev first : Version → List ℕ
first version = codes "HAProxyS " ++ version_text version

first_begins : (version : Version) (xs rest : List ℕ) → (codes "HAProxyS " ++ (version_text version ++ xs)) ++ rest ≡ first version ++ (xs ++ rest)
first_begins versions.V20 xs rest = refl
first_begins versions.V21 xs rest = refl

first_line : (version : Version) → IsLine (first version)
first_line versions.V20 = record { lf = refl; cr = refl; short = omega arith }
first_line versions.V21 = record { lf = refl; cr = refl; short = omega arith }

first_greets : (version : Version) → is_greeting (first version) ≡ true
first_greets versions.V20 = refl
first_greets versions.V21 = refl

first_tells : (version : Version) → version_of (drop 9 (first version)) ≡ Some version
first_tells versions.V20 = refl
first_tells versions.V21 = refl

-- ---- three lines

three_lines : (own_name : List ℕ) (peers : List (List ℕ)) (a b c rest : List ℕ) → IsLine a → IsLine b → IsLine c
    → answer_of own_name peers (a ++ 10 ∷ (b ++ 10 ∷ (c ++ 10 ∷ rest)))
    ≡ answer_of_lines own_name peers a b c (length (a ++ 10 ∷ (b ++ 10 ∷ (c ++ 10 ∷ rest))) - length rest)
three_lines own_name peers a b c rest is_a is_b is_c =
    rw (
      stands a (b ++ 10 ∷ (c ++ 10 ∷ rest)) is_a,
      line_ended a (b ++ 10 ∷ (c ++ 10 ∷ rest)) is_a,
      past_stop 10 a (b ++ 10 ∷ (c ++ 10 ∷ rest)) is_a.lf,
      stands b (c ++ 10 ∷ rest) is_b,
      line_ended b (c ++ 10 ∷ rest) is_b,
      past_stop 10 b (c ++ 10 ∷ rest) is_b.lf,
      stands c rest is_c,
      line_ended c rest is_c,
      past_stop 10 c rest is_c.lf,
    ) refl

abbrev third : Hello → List ℕ
third h = h.local ++ 32 ∷ (decimal h.pid ++ 32 ∷ decimal h.relative)

joined : (a b c rest : List ℕ) → (a ++ 32 ∷ (b ++ 32 ∷ (c ++ 10 ∷ []))) ++ rest ≡ (a ++ 32 ∷ (b ++ 32 ∷ c)) ++ 10 ∷ rest
joined a b c rest =
    rw (
      append_assoc a (32 ∷ (b ++ 32 ∷ (c ++ 10 ∷ []))) rest,
      append_assoc b (32 ∷ (c ++ 10 ∷ [])) rest,
      append_assoc c (10 ∷ []) rest,
      append_assoc a (32 ∷ (b ++ 32 ∷ c)) (10 ∷ rest),
      append_assoc b (32 ∷ c) (10 ∷ rest),
    ) refl

as_lines : (h : Hello) (rest : List ℕ) → hello_text h ++ rest ≡ first h.version ++ 10 ∷ (h.remote ++ 10 ∷ (third h ++ 10 ∷ rest))
as_lines h rest =
    let end = h.local ++ 32 ∷ (decimal h.pid ++ 32 ∷ (decimal h.relative ++ 10 ∷ [])) in
    first_begins h.version (10 ∷ (h.remote ++ 10 ∷ end)) rest
    ∙ ap (λ more. first h.version ++ 10 ∷ more)
    (append_assoc h.remote (10 ∷ end) rest ∙ ap (λ more. h.remote ++ 10 ∷ more) (joined h.local (decimal h.pid) (decimal h.relative) rest))

named_line : (name : List ℕ) → is_name name ≡ true → is_one_word name ≡ true → IsLine name
named_line name named word =
    let short : length name ≤ 255 = grind (arith, nat_tests) in
    record { lf = word_lacks_lf name word; cr = word_lacks_cr name word; short = omega (arith, short) }

third_lacks : (stop : ℕ) (h : Hello) → stop < 32 → h.pid < 2 ^ 32 → h.relative < 2 ^ 32 → Lacks stop h.local → Lacks stop (third h)
third_lacks stop h below pid relative local =
    let not_space : not (32 == stop) ≡ true = grind (arith, nat_tests) in
    let numbers : Lacks stop (decimal h.pid ++ 32 ∷ decimal h.relative)
    = lacks_both stop (decimal h.pid) (32 ∷ decimal h.relative) (number_lacks stop h.pid (omega (arith, below)) pid) (rw (not_space, number_lacks stop h.relative (omega (arith, below)) relative) refl) in
    lacks_both stop h.local (32 ∷ (decimal h.pid ++ 32 ∷ decimal h.relative)) local (rw (not_space, numbers) refl)

third_length : (h : Hello) → length (third h) ≡ length h.local + (length (decimal h.pid) + length (decimal h.relative) + 2)
third_length h =
    let one = length-append h.local (32 ∷ (decimal h.pid ++ 32 ∷ decimal h.relative)) in
    let two = length-append (decimal h.pid) (32 ∷ decimal h.relative) in
    omega (arith, one, two)

third_line : (h : Hello) → h.pid < 2 ^ 32 → h.relative < 2 ^ 32 → is_name h.local ≡ true → is_one_word h.local ≡ true → IsLine (third h)
third_line h pid relative named word =
    let short : length h.local ≤ 255 = grind (arith, nat_tests) in
    let all = third_length h in
    let one = ten_at_most h.pid pid in
    let other = ten_at_most h.relative relative in
    record {
      lf = third_lacks 10 h (omega arith) pid relative (word_lacks_lf h.local word);
      cr = third_lacks 13 h (omega arith) pid relative (word_lacks_cr h.local word);
      short = omega (arith, all, one, other, short);
    }

introduces : (h : Hello) → h.pid < 2 ^ 32 → h.relative < 2 ^ 32 → is_name h.local ≡ true → is_one_word h.local ≡ true → is_introduction (third h) ≡ true
introduces h pid relative named word =
    let space = word_lacks_space h.local word in
    let none = number_lacks 32 h.pid (omega arith) pid in
    rw (
      until_stop 32 h.local (decimal h.pid ++ 32 ∷ decimal h.relative) space,
      past_stop 32 h.local (decimal h.pid ++ 32 ∷ decimal h.relative) space,
      until_stop 32 (decimal h.pid) (decimal h.relative) none,
      past_stop 32 (decimal h.pid) (decimal h.relative) none,
      named,
      numbered h.pid pid,
      numbered h.relative relative,
    ) refl

accepted : (h : Hello) (peers : List (List ℕ)) (used : ℕ) → h.pid < 2 ^ 32 → h.relative < 2 ^ 32 → is_name h.local ≡ true → is_one_word h.local ≡ true
    → is_among h.local peers ≡ true
    → answer_of_lines h.remote peers (first h.version) h.remote (third h) used ≡ answers.Accepted h.local h.version used
accepted h peers used pid relative named word among =
    rw (
      first_greets h.version,
      introduces h pid relative named word,
      first_tells h.version,
      same_as_itself h.remote,
      until_stop 32 h.local (decimal h.pid ++ 32 ∷ decimal h.relative) (word_lacks_space h.local word),
      among,
    ) refl

pub read_as_written : IsReadAsWritten
read_as_written h peers rest remote_named local_named pid relative remote_word local_word among =
    let lines = as_lines h rest in
    let long = length-append (hello_text h) rest in
    let used : length (hello_text h ++ rest) - length rest ≡ length (hello_text h) = omega (arith, long) in
    ap (answer_of h.remote peers) lines
    ∙ three_lines h.remote peers (first h.version) h.remote (third h) rest (first_line h.version) (named_line h.remote remote_named remote_word) (third_line h pid relative local_named local_word)
    ∙ accepted h peers _ pid relative local_named local_word among
    ∙ ap (λ all. answers.Accepted h.local h.version (length all - length rest)) (sym lines)
    ∙ ap (answers.Accepted h.local h.version) used
