-- What the lesson of a scene is.
use Rattle.std.specs.Prelude.{◌≡◌, ℕ, List, length}
use Rattle.table_types.specs.declared.update.Update.{Update}
use Rattle.peers_msg.specs.declared.message.Message.{Message}
use Rattle.peers_msg.specs.Spelling.{stream_of}
use Rattle.known_state.specs.State.{State, Legal}
use Rattle.known_state.specs.Known.{KnownState}
use Rattle.known_state.specs.Plans.{Plan}
use Rattle.known_state.specs.Shortest.{Shortest}
use Rattle.price_checker.specs.Verdicts.{Says}
use Rattle.price_checker.specs.declared.verdict.Verdict.TheVariants as verdicts
use Rattle.teach_writer.specs.Planning.{IsPlanFor}
use Rattle.teach_writer.specs.Sending.{GoesThrough}
use Rattle.node_text.specs.declared.scenes.Scene.{Scene}
use Rattle.text_commands.specs.Endings.{IsEarly}
use Rattle.text_commands.specs.Settings.{start_of}
use Rattle.text_commands.specs.declared.endings.Ending.{Ending}
use Rattle.text_commands.specs.declared.endings.Ending.TheVariants as endings

-- The messages are legal from the known state and carry the updates, and no messages that do have fewer bytes. They carry one
-- update after another and nothing else, and read from slots the names that an accepted plan keeps. At the plan's prices the
-- verdict on them is that they are shortest.
abbrev pub AreTaught : KnownState → List Update → List Message → List ℕ → Type 0
AreTaught k us messages prices =
    (after : State) × Legal k.roster k.state messages us after
    × Shortest k us messages
    × ((plan : Plan) × IsPlanFor k us plan × (prices ≡ plan.prices) × GoesThrough k us plan.keep (stream_of messages) after)
    × Says k us (stream_of messages) prices (verdicts.Shortest (length (stream_of messages)))

-- the messages teach the scene's updates from the known state at the scene's start, with these prices
unfoldable pub IsLesson : Scene → List Message → List ℕ → Type 0
IsLesson scene messages prices = AreTaught (start_of scene) scene.updates.items messages prices

-- how `lesson` may end: with Done, and some scene has a lesson; or early
abbrev pub EndsLesson : Ending → Type 0
EndsLesson endings.Done = (scene : Scene) × (messages : List Message) × (prices : List ℕ) × IsLesson scene messages prices
EndsLesson ending = IsEarly ending
