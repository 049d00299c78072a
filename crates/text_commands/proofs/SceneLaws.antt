-- From what was taught, checked or learned to what the clauses say of a scene.
use Rattle.std.proofs.Common.{◌≡◌, ◌≢◌, ◌∙◌, ◌⊎◌, ◌++◌, inl, inr, List, refl, subst, sym, ℕ, length}
use Rattle.std.specs.Prelude.{Result, Ok, Err, Some}
use Rattle.table_types.specs.Tables.{Definition}
use Rattle.table_types.specs.declared.update.Update.{Update}
use Rattle.peers_msg.specs.Spelling.{stream_of}
use Rattle.peers_msg.specs.declared.message.Message.{Message}
use Rattle.known_state.specs.Known.{KnownState}
use Rattle.known_state.specs.Shortest.{Shortest}
use Rattle.learner.specs.declared.fault.Fault.{Fault}
use Rattle.learner.specs.declared.fault.Fault.TheVariants as faults
use Rattle.learner.specs.Learning.{LearnerFeeds, Learning, unlearned}
use Rattle.node_text.specs.declared.scenes.Scene.{Scene}
use Rattle.price_checker.specs.Verdicts.{Says}
use Rattle.price_checker.specs.declared.verdict.Verdict.{Verdict}
use Rattle.price_checker.specs.declared.verdict.Verdict.TheVariants as verdicts
use Rattle.text_commands.specs.Settings.{prices_of, start_of}
use Rattle.text_commands.specs.Checking.{EndsCheck, IsVerdict, ending_of}
use Rattle.text_commands.specs.Teaching.{AreTaught, IsLesson}
use Rattle.text_commands.specs.Learning.{AreInRisingId, EndsLearn, IsLearned, IsPrinted, acks_text, rows_text}
use Rattle.text_commands.specs.declared.endings.Ending.{Ending}
use Rattle.text_commands.specs.declared.endings.Ending.TheVariants as endings

-- what is taught from a scene's known state and for its batch is the scene's lesson
pub lesson_of_scene : (scene : Scene) (known : KnownState) (batch : List Update) (ms : List Message) (prices : List ℕ) → known ≡ start_of scene → batch ≡ scene.updates.items → AreTaught known batch ms prices → IsLesson scene ms prices
unfolding IsLesson
lesson_of_scene scene known batch ms prices start batch_is taught =
    subst (λ (k : KnownState). AreTaught k scene.updates.items ms prices) start (subst (λ (us : List Update). AreTaught known us ms prices) batch_is taught)

-- the verdict on a lesson's stream and prices is that it is shortest
pub lesson_checked : (scene checked : Scene) (ms : List Message) (prices : List ℕ) (verdict : Verdict) → IsLesson scene ms prices → start_of checked ≡ start_of scene → checked.updates.items ≡ scene.updates.items → checked.stream.items ≡ stream_of ms → prices_of checked ≡ prices → IsVerdict checked verdict → verdict ≡ verdicts.Shortest (length (stream_of ms))
unfolding IsLesson IsVerdict
lesson_checked scene checked ms prices verdict (after, legal, shortest, planned, said) start batch_is stream_is prices_is (says, exactly, found) =
    let shown : Verdict = verdicts.Shortest (length (stream_of ms)) in
    exactly shown
    (subst (λ (k : KnownState). Says k checked.updates.items checked.stream.items (prices_of checked) shown) (sym start)
    (subst (λ (us : List Update). Says (start_of scene) us checked.stream.items (prices_of checked) shown) (sym batch_is)
    (subst (λ (s : List ℕ). Says (start_of scene) scene.updates.items s (prices_of checked) shown) (sym stream_is)
    (subst (λ (ps : List ℕ). Says (start_of scene) scene.updates.items (stream_of ms) ps shown) (sym prices_is) said))))

-- the verdict on the scene's stream and prices is the verdict on the scene
pub verdict_on_scene : (scene : Scene) (known : KnownState) (batch : List Update) (stream prices : List ℕ) (verdict : Verdict)
    → known ≡ start_of scene → batch ≡ scene.updates.items → stream ≡ scene.stream.items → prices ≡ prices_of scene
    → Says known batch stream prices verdict
    → ((other : Verdict) → Says known batch stream prices other → verdict ≡ other)
    → ((bytes : ℕ) → verdict ≡ verdicts.Shortest bytes → (ms : List Message) × (stream ≡ stream_of ms) × (bytes ≡ length stream) × Shortest known batch ms)
    → IsVerdict scene verdict
unfolding IsVerdict
verdict_on_scene scene known batch stream prices verdict start batch_is stream_is prices_is says exactly shortest = (
  subst (λ (k : KnownState). Says k scene.updates.items scene.stream.items (prices_of scene) verdict) start (subst (λ (us : List Update). Says known us scene.stream.items (prices_of scene) verdict) batch_is (subst (λ (s : List ℕ). Says known batch s (prices_of scene) verdict) stream_is (subst (λ (ps : List ℕ). Says known batch stream ps verdict) prices_is says))),
  (λ other said.
      exactly other
      (subst (λ (ps : List ℕ). Says known batch stream ps other) (sym prices_is) (subst (λ (s : List ℕ). Says known batch s (prices_of scene) other) (sym stream_is) (subst (λ (us : List Update). Says known us scene.stream.items (prices_of scene) other) (sym batch_is) (subst (λ (k : KnownState). Says k scene.updates.items scene.stream.items (prices_of scene) other) (sym start) said))))),
  (λ bytes is.
      let short = shortest bytes is in
      (short.0, sym stream_is ∙ short.1, subst (λ (k : KnownState). Shortest k scene.updates.items short.0) start (subst (λ (us : List Update). Shortest known us short.0) batch_is short.3))),
)

-- a new learner to which the scene's stream is fed
pub learned_of_scene : (scene : Scene) (now : ℕ) (roster : List Definition) (fresh : Learning) (bytes : List ℕ) (answer : Result ℕ Fault) (l : Learning)
    → scene.moment ≡ Some now → AreInRisingId scene.tables.items roster → fresh ≡ unlearned roster → bytes ≡ scene.stream.items
    → LearnerFeeds now fresh bytes answer l → IsLearned scene answer l
unfolding IsLearned
learned_of_scene scene now roster fresh bytes answer l at rising begins same fed =
    (now, roster, at, rising, subst (λ b. LearnerFeeds now (unlearned roster) b answer l) same (subst (λ f. LearnerFeeds now f bytes answer l) begins fed))

-- what is printed if the subcommand ended with Done
pub done_printed : (scene : Scene) (text : List ℕ) (ending : Ending) → ending ≡ endings.Done → IsPrinted scene text ending
    → (count : ℕ) × (l : Learning) × IsLearned scene (Ok count) l × (text ≡ rows_text l ++ acks_text l)
done_printed scene text endings.Done is printed = printed
done_printed scene text (endings.Stream fault) is printed = absurd (cc)
done_printed scene text (endings.Line n) is printed = absurd printed
done_printed scene text endings.Scene is printed = absurd printed
done_printed scene text endings.Configuration is printed = absurd printed
done_printed scene text endings.NotShortest is printed = absurd printed
done_printed scene text endings.Strange is printed = absurd printed
done_printed scene text endings.Unasked is printed = absurd printed
done_printed scene text endings.Memory is printed = absurd printed
done_printed scene text endings.Device is printed = absurd printed

-- what is printed if the stream has a fault
pub fault_printed : (scene : Scene) (text : List ℕ) (ending : Ending) (fault : Fault) → ending ≡ endings.Stream fault → IsPrinted scene text ending
    → (l : Learning) × (fault ≢ faults.Memory) × IsLearned scene (Err fault) l × (text ≡ rows_text l)
fault_printed scene text endings.Done fault is printed = absurd (cc)
fault_printed scene text (endings.Stream other) fault is printed =
    let same : other ≡ fault = cc in
    subst (λ f. (l : Learning) × (f ≢ faults.Memory) × IsLearned scene (Err f) l × (text ≡ rows_text l)) same printed
fault_printed scene text (endings.Line n) fault is printed = absurd printed
fault_printed scene text endings.Scene fault is printed = absurd printed
fault_printed scene text endings.Configuration fault is printed = absurd printed
fault_printed scene text endings.NotShortest fault is printed = absurd printed
fault_printed scene text endings.Strange fault is printed = absurd printed
fault_printed scene text endings.Unasked fault is printed = absurd printed
fault_printed scene text endings.Memory fault is printed = absurd printed
fault_printed scene text endings.Device fault is printed = absurd printed

-- writing its line keeps the ending, unless the writer for errors failed
pub still : (ending after : Ending) → (after ≡ ending) ⊎ (after ≡ endings.Device) → after ≢ endings.Device → ending ≡ after
still ending after (inl same) device = sym same
still ending after (inr failed) device = absurd (device failed)

-- something is printed only if the subcommand ended with Done or the stream has a fault
pub only_printed : (scene : Scene) (text : List ℕ) (ending : Ending) → IsPrinted scene text ending → ending ≢ endings.Done
    → ((fault : Fault) → ending ≢ endings.Stream fault) → ⊥
only_printed scene text endings.Done printed done fault = done refl
only_printed scene text (endings.Stream f) printed done fault = fault f refl
only_printed scene text (endings.Line n) printed done fault = printed
only_printed scene text endings.Scene printed done fault = printed
only_printed scene text endings.Configuration printed done fault = printed
only_printed scene text endings.NotShortest printed done fault = printed
only_printed scene text endings.Strange printed done fault = printed
only_printed scene text endings.Unasked printed done fault = printed
only_printed scene text endings.Memory printed done fault = printed
only_printed scene text endings.Device printed done fault = printed

-- the ending by the verdict on a scene is one with which `check` may end
pub check_ends : (scene : Scene) (verdict : Verdict) (ending : Ending) → IsVerdict scene verdict → ending ≡ ending_of verdict → EndsCheck ending
check_ends scene (verdicts.NotLegal why at) ending is same = subst EndsCheck (sym same) (scene, verdicts.NotLegal why at, is, refl)
check_ends scene (verdicts.NotCarried at) ending is same = subst EndsCheck (sym same) (scene, verdicts.NotCarried at, is, refl)
check_ends scene verdicts.PriceCount ending is same = subst EndsCheck (sym same) (scene, verdicts.PriceCount, is, refl)
check_ends scene verdicts.PriceRange ending is same = subst EndsCheck (sym same) (scene, verdicts.PriceRange, is, refl)
check_ends scene (verdicts.Gap saved bound) ending is same = subst EndsCheck (sym same) (scene, verdicts.Gap saved bound, is, refl)
check_ends scene (verdicts.Shortest bytes) ending is same = subst EndsCheck (sym same) (scene, verdicts.Shortest bytes, is, refl)

-- the ending with which something is printed for a scene is one with which `learn` may end
learn_ends : (scene : Scene) (text : List ℕ) (ending : Ending) → IsPrinted scene text ending → EndsLearn ending
learn_ends scene text endings.Done (count, l, learned, is) = (scene, count, l, learned)
learn_ends scene text (endings.Stream fault) (l, named, learned, is) = (scene, l, named, learned)
learn_ends scene text (endings.Line n) printed = absurd printed
learn_ends scene text endings.Scene printed = absurd printed
learn_ends scene text endings.Configuration printed = absurd printed
learn_ends scene text endings.NotShortest printed = absurd printed
learn_ends scene text endings.Strange printed = absurd printed
learn_ends scene text endings.Unasked printed = absurd printed
learn_ends scene text endings.Memory printed = absurd printed
learn_ends scene text endings.Device printed = absurd printed

-- also once its line is written
pub learn_written : (scene : Scene) (text : List ℕ) (ending after : Ending) → IsPrinted scene text ending
    → (after ≡ ending) ⊎ (after ≡ endings.Device) → EndsLearn after
learn_written scene text ending after printed (inl same) = subst EndsLearn (sym same) (learn_ends scene text ending printed)
learn_written scene text ending after printed (inr failed) = subst EndsLearn (sym failed) tt
