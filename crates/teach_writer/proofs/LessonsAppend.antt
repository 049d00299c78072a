-- Lessons one after another, and lessons that have the bytes of a shortest one.
use Rattle.std.proofs.Common.{◌≡◌, ℕ, List, ◌++◌, sym, ap, subst, ◌∙◌}
use Rattle.table_types.specs.declared.update.Update.{Update}
use Rattle.table_types.specs.Tables.{Definition}
use Rattle.peers_msg.specs.declared.message.Message.{Message}
use Rattle.peers_msg.specs.Spelling.{stream_of}
use Rattle.known_state.specs.Known.{KnownState}
use Rattle.known_state.specs.Lessons.{IsLessonFor}
use Rattle.known_state.specs.Shortest.{Shortest}
use Rattle.known_state.specs.State.{Legal}
use Rattle.known_state.proofs.ShortestByBytes.{same_bytes}
use Rattle.teach_writer.specs.Lessons.{IsShortestLesson}
use Rattle.teach_writer.proofs.UpdateStepsAreLegal.{legal-append, stream-append}

-- a lesson from where another ends continues it
pub lesson-append : (k mid after : KnownState) (us vs : List Update) (bytes more : List ℕ) → IsLessonFor k us bytes mid → IsLessonFor mid vs more after
    → IsLessonFor k (us ++ vs) (bytes ++ more) after
lesson-append k mid after us vs bytes more (ms, first, legal, same) (ns, second, goes, kept) =
    let there : Legal k.roster mid.state ns vs after.state = subst (λ (roster : List Definition). Legal roster mid.state ns vs after.state) same goes in
    let spelled_out : bytes ++ more ≡ stream_of (ms ++ ns) =
    ap (λ (x : List ℕ). x ++ more) first ∙ ap (λ (x : List ℕ). stream_of ms ++ x) second ∙ sym (stream-append ms ns) in
    (ms ++ ns, spelled_out, legal-append k.roster ms ns k.state mid.state after.state us vs legal there, kept ∙ same)

-- a lesson that has the bytes of a shortest one is a shortest one
pub shortest_lesson : (known after : KnownState) (batch : List Update) (bytes : List ℕ) → IsLessonFor known batch bytes after
    → ((ns : List Message) × (bytes ≡ stream_of ns) × Shortest known batch ns) → IsShortestLesson known batch bytes after
shortest_lesson known after batch bytes (ms, spelled_out, legal, same) (ns, others, shortest) =
    (ms, spelled_out, legal, same, same_bytes known batch ms ns after.state legal shortest (sym spelled_out ∙ others))
