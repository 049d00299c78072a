-- A lesson that is fed in pieces at one moment.
use Rattle.std.proofs.Common.{◌≡◌, ◌⊎◌, ℕ, ◌+◌, List, [], ◌∷◌, ◌++◌, Ok, Err, refl, sym, subst, inl, inr}
use Rattle.std.proofs.lemmas.List.{append-nil}
use Rattle.peers_msg.specs.Integers.{IsBytes}
use Rattle.table_types.specs.declared.update.Update.{Update}
use Rattle.known_state.specs.Known.{KnownState}
use Rattle.known_state.specs.Lessons.{IsLessonFor}
use Rattle.learner.specs.declared.fault.Fault.{Fault}
use Rattle.learner.specs.declared.fault.Fault.TheVariants as faults
use Rattle.learner.specs.Learning.{Learning, LearnerFeeds, IsReadyIn, HasLearned}
use Rattle.learner.specs.Moments.{Piece, stream_in}
use Rattle.learner.proofs.SameHoweverCut.{two}
use Rattle.learner.proofs.KnownLessons.{lesson_learned, lesson_faultless}

-- these bytes are fed, in pieces or not at all
abbrev pub IsFed : ℕ → Learning → List ℕ → Learning → Type 0
IsFed now l bytes e = ((bytes ≡ []) × (e ≡ l)) ⊎ ((count : ℕ) × LearnerFeeds now l bytes (Ok count) e)

-- and one more piece
pub fed_more : (now : ℕ) (l mid e : Learning) (a b : List ℕ) (more : ℕ) → l.intake.unread ≡ [] → IsBytes (a ++ b) → IsFed now l a mid → LearnerFeeds now mid b (Ok more) e → (count : ℕ) × LearnerFeeds now l (a ++ b) (Ok count) e
fed_more now l mid e a b more none good (inl (empty, same)) feeds =
    (more, subst (λ (bytes : List ℕ). LearnerFeeds now l (bytes ++ b) (Ok more) e) (sym empty) (subst (λ (x : Learning). LearnerFeeds now x b (Ok more) e) same feeds))
fed_more now l mid e a b more none good (inr (count, fed)) feeds =
    (count + more, two now l mid e a b count more (subst (λ (unread : List ℕ). IsBytes (unread ++ (a ++ b))) (sym none) good) fed feeds)

-- a lesson that is fed whole is learned
pub fed_learned : (now : ℕ) (k after : KnownState) (us : List Update) (l e : Learning) (bytes : List ℕ) (count : ℕ) → IsLessonFor k us bytes after → IsReadyIn k l → LearnerFeeds now l bytes (Ok count) e → HasLearned now l us after e
fed_learned now k after us l e bytes count lesson ready feeds = (lesson_learned now k after us bytes l e (Ok count) lesson ready feeds (λ other. cc)).1

-- no piece of it has a fault, unless memory runs out
pub fed_faultless : (now : ℕ) (k after : KnownState) (us : List Update) (l mid e : Learning) (a b more : List ℕ) (fault : Fault) → IsLessonFor k us (a ++ (b ++ more)) after → IsBytes (a ++ (b ++ more)) → IsReadyIn k l → IsFed now l a mid → LearnerFeeds now mid b (Err fault) e → fault ≡ faults.Memory
fed_faultless now k after us l mid e a b more fault lesson good ready (inl (empty, same)) feeds =
    lesson_faultless now k after us [] b more [] l l e fault (subst (λ (x : List ℕ). IsLessonFor k us (x ++ (b ++ more)) after) empty lesson) (subst (λ (x : List ℕ). IsBytes (x ++ (b ++ more))) empty good) ready (refl, refl)
    (subst (λ (x : Learning). LearnerFeeds now x b (Err fault) e) same feeds)
fed_faultless now k after us l mid e a b more fault lesson good ready (inr (count, fed)) feeds =
    let first : Piece = record { moment = now; bytes = a } in
    let all : a ≡ stream_in (first ∷ []) = sym (append-nil a) in
    lesson_faultless now k after us (first ∷ []) b more (count ∷ []) l mid e fault (subst (λ (x : List ℕ). IsLessonFor k us (x ++ (b ++ more)) after) all lesson) (subst (λ (x : List ℕ). IsBytes (x ++ (b ++ more))) all good) ready
    (count, [], mid, refl, fed, (refl, refl)) feeds
