-- What `check` says of a scene (profile).
use Rattle.std.specs.Prelude.{◌≡◌, ℕ, List}
use Rattle.peers_msg.specs.declared.message.Message.{Message}
use Rattle.peers_msg.specs.Spelling.{stream_of}
use Rattle.known_state.specs.Shortest.{Shortest}
use Rattle.price_checker.specs.Verdicts.{Says}
use Rattle.price_checker.specs.declared.verdict.Verdict.{Verdict}
use Rattle.price_checker.specs.declared.verdict.Verdict.TheVariants as verdicts
use Rattle.node_text.specs.declared.scenes.Scene.{Scene}
use Rattle.text_commands.specs.Endings.{IsEarly}
use Rattle.text_commands.specs.Settings.{prices_of, start_of}
use Rattle.text_commands.specs.declared.endings.Ending.{Ending}
use Rattle.text_commands.specs.declared.endings.Ending.TheVariants as endings

-- The verdict on the scene's stream and prices, for the batch of its updates, is this one and no other. If it says that the
-- stream is shortest, then that is so.
unfoldable pub IsVerdict : Scene → Verdict → Type 0
IsVerdict scene verdict =
    Says (start_of scene) scene.updates.items scene.stream.items (prices_of scene) verdict
    × ((other : Verdict) → Says (start_of scene) scene.updates.items scene.stream.items (prices_of scene) other → verdict ≡ other)
    × ((bytes : ℕ) → verdict ≡ verdicts.Shortest bytes →
    (ms : List Message) × (scene.stream.items ≡ stream_of ms) × Shortest (start_of scene) scene.updates.items ms)

-- how the subcommand ends by a verdict
abbrev pub ending_of : Verdict → Ending
ending_of (verdicts.Shortest bytes) = endings.Done
ending_of verdict = endings.NotShortest

-- the ending by a verdict, which is printed then
abbrev pub HasVerdict : Ending → Type 0
HasVerdict endings.Done = Unit {0}
HasVerdict endings.NotShortest = Unit {0}
HasVerdict ending = ⊥

-- the ending is the one by the verdict on some scene
abbrev pub IsByVerdict : Ending → Type 0
IsByVerdict ending = (scene : Scene) × (verdict : Verdict) × IsVerdict scene verdict × (ending ≡ ending_of verdict)

-- how `check` may end: by the verdict on some scene, or early
abbrev pub EndsCheck : Ending → Type 0
EndsCheck endings.Done = IsByVerdict endings.Done
EndsCheck endings.NotShortest = IsByVerdict endings.NotShortest
EndsCheck ending = IsEarly ending
