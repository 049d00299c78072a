use Rattle.std.proofs.Common.{◌≡◌, ◌∙◌, ◌++◌, ℕ, List, [], ◌∷◌, Bor, ap, map}
use Rattle.std.proofs.lemmas.List.{map-append}
use Rattle.admin_port.specs.RequestWords.{line_words}
use Rattle.admin_port.proofs.LineWords.{each_all, each_more, some_word, words_all, words_more}
use Rattle.admin_port.proofs.request_words.request_words.Goals as goal

abbrev bytes_of : Bor (List ℕ) → List ℕ
bytes_of word = word.now

pub loop-word-preserved : goal.loop-word-preserved
loop-word-preserved c =
    let rest = c.loop-word.rest.now in
    let word = c.in-Some.word.now in
    let after = c.in-Some.after.now in
    record {
      words =
          ap (λ words. map bytes_of words ++ line_words after) c.in_ok-push.ensures.items
          ∙ ap (λ words. words ++ line_words after) (map-append bytes_of c.loop-word.words.items (c.in-Some.word ∷ []))
          ∙ words_more c.args.line.now rest word after (map bytes_of c.loop-word.words.items) c.in-Some.ensures.0 c.in-Some.ensures.1
          c.loop-word.invariant.words;
      each =
          each_more c.args.line.now rest word after c.in-Some.ensures.0 c.in-Some.ensures.1
          (some_word word c.is_empty.result c.is_empty.ensures c.if-is_empty.false) c.loop-word.invariant.each;
    }

pub returns-clause-words : goal.returns-clause-words
returns-clause-words c =
    ap (map bytes_of) c.in_ok-push-2.ensures.items
    ∙ map-append bytes_of c.loop-word.words.items (c.loop-word.rest ∷ [])
    ∙ words_all c.args.line.now c.loop-word.rest.now (map bytes_of c.loop-word.words.items) c.in_default.ensures
    c.loop-word.invariant.words

pub returns-clause-each : goal.returns-clause-each
returns-clause-each c =
    each_all c.args.line.now c.loop-word.rest.now c.in_default.ensures
    (some_word c.loop-word.rest.now c.is_empty-2.result c.is_empty-2.ensures c.if-is_empty-2.false) c.loop-word.invariant.each
