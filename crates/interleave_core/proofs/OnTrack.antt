-- A connection stays on track.
use Rattle.std.proofs.Common.{◌≡◌, ◌≢◌, ℕ, List, [], ◌∷◌, ◌++◌, length, take, drop, None, Result, Ok, Err, refl, sym, ap, subst, ◌∙◌, arith, append_assoc, append-nil, take-append-drop}
use Rattle.std.specs.List.{AllByRecursion}
use Rattle.peers_msg.specs.Integers.{IsBytes}
use Rattle.table_types.specs.declared.update.Update.{Update}
use Rattle.table_types.specs.Batches.{IsBatchFor}
use Rattle.table_types.specs.Rosters.{roster_fault}
use Rattle.table_types.specs.Tables.{Definition}
use Rattle.table_types.specs.declared.version.Version.{Version}
use Rattle.known_state.specs.Known.{KnownState}
use Rattle.known_state.specs.Lessons.{IsLessonFor}
use Rattle.known_state.specs.State.{Legal}
use Rattle.learner.specs.declared.fault.Fault.{Fault}
use Rattle.learner.specs.declared.fault.Fault.TheVariants as faults
use Rattle.learner.specs.Learning.{Learning, LearnerFeeds}
use Rattle.learner.specs.OnItsWay.{IsOnItsWay}
use Rattle.learner.specs.Rows.{put_all}
use Rattle.interleave_core.specs.Kept.{IsOnTrack}
use Rattle.interleave_core.specs.Moves.{IsFed, acknowledges}
use Rattle.learner.proofs.LegalStreamIsTaught.{once_named}
use Rattle.learner.proofs.StaysOnItsWay.{at_the_end, fed}
use Rattle.interleave_core.specs.Worlds.{ConnectionState, new_connection}
use Rattle.interleave_core.proofs.OnItsWay.{longer}

-- a lesson of the oldest batch goes into the pipe
pub taught : (roster : List Definition) (s : ConnectionState) (batch : List Update) (rest : List (List Update)) (bytes : List ℕ) (after : KnownState)
    → IsOnTrack roster s → s.copied ≡ batch ∷ rest → IsLessonFor s.known batch bytes after → IsBytes bytes
    → IsOnTrack roster (record s { known = after; copied = rest; taught = s.taught ++ batch; to_learner = s.to_learner ++ bytes })
taught roster s batch rest bytes after track oldest (ns, spelled_out, legal, same) good =
    let rosters : s.known.roster ≡ s.learner.intake.roster = track.known ∙ sym track.learner in
    let legal_there : Legal s.learner.intake.roster s.known.state ns batch after.state =
    subst (λ (ds : List Definition). Legal ds s.known.state ns batch after.state) rosters legal in
    let ms = track.way.0 in
    let to_come = track.way.1 in
    let longer_way = longer s.learner s.to_learner ms ns to_come batch s.known.state after.state track.way.2 legal_there (subst IsBytes spelled_out good) in
    let way : IsOnItsWay s.learner (s.to_learner ++ bytes) (ms ++ ns) (to_come ++ batch) after.state =
    subst (λ (x : List ℕ). IsOnItsWay s.learner (s.to_learner ++ x) (ms ++ ns) (to_come ++ batch) after.state) (sym spelled_out) longer_way in
    let all : AllByRecursion (IsBatchFor roster) (batch ∷ rest) = subst (λ (x : List (List Update)). AllByRecursion (IsBatchFor roster) x) oldest track.batches in
    let grouped : (s.applied ++ to_come) ++ batch ≡ s.applied ++ (to_come ++ batch) = append_assoc s.applied to_come batch in
    record {
      known = same ∙ track.known;
      learner = track.learner;
      batches = all.1;
      way = (ms ++ ns, to_come ++ batch, way, ap (λ (x : List Update). x ++ batch) track.way.3 ∙ grouped);
    }

-- the learner is fed the first bytes of the pipe
pub delivered : (roster : List Definition) (s : ConnectionState) (now count : ℕ) (answer : Result ℕ Fault) (l : Learning)
    → IsOnTrack roster s → LearnerFeeds now s.learner (take count s.to_learner) answer l → answer ≢ Err faults.Memory
    → (vs : List Update) × (rest : List Update) × (answer ≡ Ok (length vs)) × (s.taught ≡ (s.applied ++ vs) ++ rest)
    × IsFed now (take count s.to_learner) (drop count s.to_learner) s (record s { applied = s.applied ++ vs; to_learner = drop count s.to_learner; learner = l })
    × IsOnTrack roster (record s { applied = s.applied ++ vs; to_learner = drop count s.to_learner; learner = l })
delivered roster s now count answer l track feeds unless =
    let ms = track.way.0 in
    let to_come = track.way.1 in
    let piece = take count s.to_learner in
    let more = drop count s.to_learner in
    let way : IsOnItsWay s.learner (piece ++ more) ms to_come s.known.state =
    subst (λ (x : List ℕ). IsOnItsWay s.learner x ms to_come s.known.state) (sym (take-append-drop count s.to_learner)) track.way.2 in
    let learned = fed now s.learner l piece more ms to_come s.known.state answer way feeds unless in
    let split : s.taught ≡ (s.applied ++ learned.1) ++ learned.5.1 =
    track.way.3 ∙ ap (λ (x : List Update). s.applied ++ x) learned.5.3 ∙ sym (append_assoc s.applied learned.1 learned.5.1) in (
      learned.1,
      learned.5.1,
      learned.2,
      split,
      (learned.0, learned.1, l, learned.3, learned.4, refl),
      record {
        known = track.known;
        learner = learned.5.6 ∙ track.learner;
        batches = track.batches;
        way = (learned.5.0, learned.5.1, learned.5.8, split);
      },
    )

-- acknowledgements go into the other pipe
pub acknowledged : (roster : List Definition) (s : ConnectionState) → IsOnTrack roster s → IsOnTrack roster (acknowledges s)
acknowledged roster s track = record { known = track.known; learner = track.learner; batches = track.batches; way = track.way }

-- a batch waits
pub copied : (roster : List Definition) (s : ConnectionState) (batch : List Update) → IsOnTrack roster s → IsBatchFor roster batch
    → IsOnTrack roster (record s { copied = s.copied ++ batch ∷ [] })
copied roster s batch track good = record { known = track.known; learner = track.learner; batches = more s.copied track.batches; way = track.way }
  where
    more : (xs : List (List Update)) → AllByRecursion (IsBatchFor roster) xs → AllByRecursion (IsBatchFor roster) (xs ++ batch ∷ [])
    more [] all = (good, tt)
    more (x ∷ xs) (one, rest) = (one, more xs rest)

-- ---- the beginning and the end

-- nothing is on its way
pub begun : (v : Version) (roster : List Definition) → roster_fault roster ≡ None → IsOnTrack roster (new_connection v roster)
begun v roster sound =
    record {
      known = refl;
      learner = refl;
      batches = tt;
      way = ([], [], (once_named roster sound, tt, tt, (refl, refl), refl, refl, λ i. omega arith), refl);
    }

-- fed everything, the learner has put all that was taught
pub arrived : (roster : List Definition) (s : ConnectionState) (now : ℕ) (answer : Result ℕ Fault) (l : Learning)
    → IsOnTrack roster s → LearnerFeeds now s.learner s.to_learner answer l → answer ≢ Err faults.Memory
    → (us : List Update) × (answer ≡ Ok (length us)) × (s.taught ≡ s.applied ++ us) × (l.rows ≡ put_all now roster us s.learner.rows)
    × (l.intake.state ≡ s.known.state) × (l.intake.unread ≡ [])
arrived roster s now answer l track feeds unless =
    let ms = track.way.0 in
    let to_come = track.way.1 in
    let way : IsOnItsWay s.learner (s.to_learner ++ []) ms to_come s.known.state =
    subst (λ (x : List ℕ). IsOnItsWay s.learner x ms to_come s.known.state) (sym (append-nil s.to_learner)) track.way.2 in
    let learned = fed now s.learner l s.to_learner [] ms to_come s.known.state answer way feeds unless in
    let ended = at_the_end l learned.5.0 learned.5.1 s.known.state learned.5.8 learned.4 in
    let all : to_come ≡ learned.1 = learned.5.3 ∙ ap (λ (x : List Update). learned.1 ++ x) ended.0 ∙ append-nil learned.1 in
    let rows : l.rows ≡ put_all now roster learned.1 s.learner.rows = learned.5.7 ∙ ap (λ (ds : List Definition). put_all now ds learned.1 s.learner.rows) track.learner in
    (learned.1, learned.2, track.way.3 ∙ ap (λ (x : List Update). s.applied ++ x) all, rows, ended.1, ended.2)
