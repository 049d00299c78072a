-- What the lines of a world's script print.
use Rattle.std.proofs.Common.{◌≡◌, ◌∙◌, ◌++◌, ℕ, List, [], ◌∷◌, ap, append-nil, append_assoc, arith, length, refl, subst, sym}
use Rattle.std.specs.Prelude.{Option, None, Some, map}
use Rattle.interleave_core.specs.Worlds.{ConnectionState, WorldState, new_world}
use Rattle.node_text.specs.declared.world_lines.WorldLine.{WorldLine}
use Rattle.node_text.specs.declared.worlds.WorldScript.{WorldScript}
use Rattle.node_text.specs.Worlds.{IsWorldScript, versions_of}
use Rattle.text_commands.specs.Running.{cell_of}
use Rattle.text_commands.specs.Worlds.{AnswersSession, AreCounts, IsWorldPrinted, PrintLines, session_line}

-- after the last line
pub all_printed : (start w : WorldState) (lines left : List WorldLine) (n : ℕ) (before after : List ℕ) → n ≡ length left → n ≡ 0
    → ((so_far : List ℕ) × (after ≡ before ++ so_far)
    × ((rest : List ℕ) (e : WorldState) → PrintLines w left rest e → PrintLines start lines (so_far ++ rest) e))
    → (text : List ℕ) × (e : WorldState) × PrintLines start lines text e × (after ≡ before ++ text)
all_printed start w lines [] n before after count none (so_far, same, all) =
    (so_far ++ [], w, all [] w (refl, refl), same ∙ ap (λ t. before ++ t) (sym (append-nil so_far)))
all_printed start w lines (line ∷ left) n before after count none printed = absurd (omega (arith, count, none))

-- the lines are made of the script's new world, with nothing printed before
pub run_printed : (s : WorldScript) (w : WorldState) (before after : List ℕ) → IsWorldScript s → w ≡ new_world (map cell_of s.tables.items) (versions_of s) → before ≡ []
    → ((text : List ℕ) × (e : WorldState) × PrintLines w s.lines.items text e × (after ≡ before ++ text)) → IsWorldPrinted s after
unfolding IsWorldPrinted
run_printed s w before after kept new nothing (text, e, printed, same) =
    let all : PrintLines (new_world (map cell_of s.tables.items) (versions_of s)) s.lines.items text e
    = subst (λ x. PrintLines x s.lines.items text e) new printed in
    let is : after ≡ text = same ∙ ap (λ b. b ++ text) nothing in
    (e, kept, subst (λ t. PrintLines (new_world (map cell_of s.tables.items) (versions_of s)) s.lines.items t e) (sym is) all)

-- a session that is there, and one that isn't
pub session_answered : (session copied taught applied learner teacher : ℕ) (found : Option ConnectionState) (before after : List ℕ)
    → ((s : ConnectionState) × (found ≡ Some s) × AreCounts s copied taught applied learner teacher)
    → after ≡ before ++ session_line session copied taught applied learner teacher
    → (more : List ℕ) × AnswersSession session found more × (after ≡ before ++ more)
session_answered session copied taught applied learner teacher found before after (s, is, (a, b, c, d, e)) same = (
  session_line session copied taught applied learner teacher,
  subst (λ o. AnswersSession session o (session_line session copied taught applied learner teacher)) (sym is) cc,
  same,
)

pub none_answered : (session : ℕ) (found : Option ConnectionState) (before after : List ℕ) → found ≡ None → after ≡ before
    → (more : List ℕ) × AnswersSession session found more × (after ≡ before ++ more)
none_answered session found before after is same =
    ([], subst (λ o. AnswersSession session o []) (sym is) refl, same ∙ sym (append-nil before))

-- what is appended after a word and a number is appended with them
more_appended : (before after word number more : List ℕ) → after ≡ before ++ (word ++ number) → after ++ more ≡ before ++ (word ++ (number ++ more))
more_appended before after word number more is =
    ap (λ t. t ++ more) is ∙ append_assoc before (word ++ number) more ∙ ap (λ t. before ++ t) (append_assoc word number more)

-- six words, each with a number, and the end of the line
pub line_appended : (t a b c d e f g v w x y z u i j k l m n ending : List ℕ) → a ≡ t ++ (u ++ i) → b ≡ a ++ (v ++ j) → c ≡ b ++ (w ++ k) → d ≡ c ++ (x ++ l)
    → e ≡ d ++ (y ++ m) → f ≡ e ++ (z ++ n) → g ≡ f ++ ending
    → g ≡ t ++ (u ++ (i ++ (v ++ (j ++ (w ++ (k ++ (x ++ (l ++ (y ++ (m ++ (z ++ (n ++ ending))))))))))))
line_appended t a b c d e f g v w x y z u i j k l m n ending is_a is_b is_c is_d is_e is_f is_g =
    is_g
    ∙ more_appended e f z n ending is_f
    ∙ more_appended d e y m (z ++ (n ++ ending)) is_e
    ∙ more_appended c d x l (y ++ (m ++ (z ++ (n ++ ending)))) is_d
    ∙ more_appended b c w k (x ++ (l ++ (y ++ (m ++ (z ++ (n ++ ending)))))) is_c
    ∙ more_appended a b v j (w ++ (k ++ (x ++ (l ++ (y ++ (m ++ (z ++ (n ++ ending)))))))) is_b
    ∙ more_appended t a u i (v ++ (j ++ (w ++ (k ++ (x ++ (l ++ (y ++ (m ++ (z ++ (n ++ ending)))))))))) is_a
