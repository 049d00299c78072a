-- What a lesson does to a connection.
use Rattle.std.proofs.Common.{◌≡◌, ℕ, min, List, [], ◌∷◌, ◌++◌, length, remove, slice_get, take, Some, sym, ap, subst, ◌∙◌, arith}
use Rattle.std.proofs.lemmas.List.{take-append-le, take_min}
use Rattle.std.proofs.lemmas.Option.{none-some, same_Some}
use Rattle.peers_msg.specs.Integers.{IsBytes}
use Rattle.table_types.specs.declared.update.Update.{Update}
use Rattle.known_state.specs.Known.{KnownState}
use Rattle.teach_writer.specs.Lessons.{IsShortestLesson}
use Rattle.interleave_core.specs.Moves.{TeachesOldest}
use Rattle.interleave_core.specs.declared.connection.Connection.{Connection}
use Rattle.interleave_core.specs.Parts.{connection_of}
use Rattle.interleave_core.specs.Worlds.{ConnectionState}

-- the updates put are the same if more were taught
put_before : (applied count : ℕ) (taught batch : List Update) → count ≡ min applied (length taught)
    → take count (taught ++ batch) ≡ take applied taught
put_before applied count taught batch is =
    take-append-le count taught batch (omega (arith, is)) ∙ ap (λ (n : ℕ). take n taught) is ∙ take_min applied taught

-- the connection after a lesson of the batch, field by field
pub after_lesson : (old : Connection) (after : KnownState) (waiting : List (List Update)) (taught us batch : List Update) (count : ℕ) (pipe sent bytes : List ℕ)
    → waiting ≡ remove old.copied.items 0
    → taught ≡ old.taught.items ++ us → us ≡ batch
    → count ≡ min old.applied (length old.taught.items)
    → pipe ≡ old.to_learner ++ sent → sent ≡ bytes
    → ◌≡◌ {A = ConnectionState} (record (connection_of old) { known = after; copied = waiting; taught = taught; applied = take count taught; to_learner = pipe })
    (record (connection_of old) { known = after; copied = remove old.copied.items 0; taught = old.taught.items ++ batch; to_learner = old.to_learner ++ bytes })
after_lesson old after waiting taught us batch count pipe sent bytes waits more us_is least longer sent_is =
    let s : ConnectionState = connection_of old in
    let was_taught : taught ≡ s.taught ++ batch = more ∙ ap (λ (x : List Update). s.taught ++ x) us_is in
    let was_put : take count taught ≡ s.applied = ap (λ (x : List Update). take count x) was_taught ∙ put_before old.applied count old.taught.items batch least in
    let was_sent : pipe ≡ s.to_learner ++ bytes = longer ∙ ap (λ (x : List ℕ). s.to_learner ++ x) sent_is in
    let one : ◌≡◌ {A = ConnectionState} (record s { known = after; copied = waiting; taught = taught; applied = take count taught; to_learner = pipe }) (record s { known = after; copied = remove s.copied 0; taught = taught; applied = take count taught; to_learner = pipe }) =
    ap (λ (x : List (List Update)). record s { known = after; copied = x; taught = taught; applied = take count taught; to_learner = pipe }) waits in
    let two : ◌≡◌ {A = ConnectionState} (record s { known = after; copied = remove s.copied 0; taught = taught; applied = take count taught; to_learner = pipe }) (record s { known = after; copied = remove s.copied 0; taught = taught; to_learner = pipe }) =
    ap (λ (x : List Update). record s { known = after; copied = remove s.copied 0; taught = taught; applied = x; to_learner = pipe }) was_put in
    let three : ◌≡◌ {A = ConnectionState} (record s { known = after; copied = remove s.copied 0; taught = taught; to_learner = pipe }) (record s { known = after; copied = remove s.copied 0; taught = s.taught ++ batch; to_learner = pipe }) =
    ap (λ (x : List Update). record s { known = after; copied = remove s.copied 0; taught = x; to_learner = pipe }) was_taught in
    let four : ◌≡◌ {A = ConnectionState} (record s { known = after; copied = remove s.copied 0; taught = s.taught ++ batch; to_learner = pipe }) (record s { known = after; copied = remove s.copied 0; taught = s.taught ++ batch; to_learner = s.to_learner ++ bytes }) =
    ap (λ (x : List ℕ). record s { known = after; copied = remove s.copied 0; taught = s.taught ++ batch; to_learner = x }) was_sent in
    one ∙ two ∙ three ∙ four

-- the oldest batch is taught
pub teaches_oldest : (s e : ConnectionState) (batch : List Update) (bytes : List ℕ) (after : KnownState)
    → slice_get s.copied 0 ≡ Some batch → IsBytes bytes → IsShortestLesson s.known batch bytes after
    → e ≡ record s { known = after; copied = remove s.copied 0; taught = s.taught ++ batch; to_learner = s.to_learner ++ bytes }
    → TeachesOldest s.copied s e
teaches_oldest s e batch bytes after first good lesson same = oldest s.copied first same
  where
    oldest : (waiting : List (List Update)) → slice_get waiting 0 ≡ Some batch
        → e ≡ record s { known = after; copied = remove waiting 0; taught = s.taught ++ batch; to_learner = s.to_learner ++ bytes }
        → TeachesOldest waiting s e
    oldest [] first same = absurd (none-some batch first)
    oldest (x ∷ xs) first same =
        let is : batch ≡ x = sym (same_Some x batch first) in (
          bytes,
          after,
          good,
          subst (λ (b : List Update). IsShortestLesson s.known b bytes after) is lesson,
          subst (λ (b : List Update). e ≡ record s { known = after; copied = xs; taught = s.taught ++ b; to_learner = s.to_learner ++ bytes }) is same,
        )
