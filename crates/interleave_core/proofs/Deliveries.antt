-- What deliveries do to a connection, and to the world.
use Rattle.std.proofs.Common.{◌≡◌, ◌≤◌, ℕ, zero, suc, ◌+◌, ◌<◌, Bool, true, false, nat_le, List, [], ◌∷◌, ◌++◌, length, length-append, get_or, set, take, drop, Option, Some, None, is_some, Result, Ok, Err, refl, sym, ap, subst, ◌∙◌, arith, inl, inr, MatchBool, append-nil}
use Rattle.std.specs.List.{AllByRecursion}
use Rattle.std.proofs.lemmas.Bool.{cases_lt, false≢true, le-leb, lt-leb}
use Rattle.std.proofs.lemmas.List.{get_or_default, length-take-le, nil_from_length, take_all, take_at}
use Rattle.table_types.specs.declared.update.Update.{Update}
use Rattle.table_types.specs.Tables.{Definition}
use Rattle.learner.specs.declared.fault.Fault.{Fault}
use Rattle.learner.specs.declared.fault.Fault.TheVariants as faults
use Rattle.learner.specs.Learning.{Learning, LearnerFeeds}
use Rattle.table_cell.specs.Histories.{CellState}
use Rattle.interleave_core.specs.declared.acks.Read.{Read}
use Rattle.interleave_core.specs.declared.connection.Connection.{Connection}
use Rattle.interleave_core.specs.Acks.{AreAcksOf, pairs_of}
use Rattle.interleave_core.specs.Kept.{IsOnTrack}
use Rattle.interleave_core.specs.Moves.{ArrivesAtLearner, ArrivesAtTeacher, IsArrived, IsFed, IsReadBy, acked_all}
use Rattle.interleave_core.specs.Parts.{IsConnectionAt, connection_of, connections_of}
use Rattle.interleave_core.specs.Worlds.{ConnectionState, WorldState, connection_at, roster_of, with_connection}
use Rattle.interleave_core.proofs.OnTrack.{delivered}
use Rattle.interleave_core.proofs.Places.{connection_changed, connection_found}

match_true : (b : Bool) (P Q : Type 0) → b ≡ true → P → MatchBool b P Q
match_true true P Q e so = so
match_true false P Q e so = absurd (false≢true e)

match_false : (b : Bool) (P Q : Type 0) → b ≡ false → Q → MatchBool b P Q
match_false false P Q e so = so
match_false true P Q e so = absurd (false≢true (sym e))

-- ---- to the learner

-- what is put are the next of the updates that were taught
put_next : (n a rows : ℕ) (taught vs rest : List Update) → taught ≡ (take n taught ++ vs) ++ rest → rows ≡ length vs
    → (n + rows ≤ length taught → a ≡ n + rows) → (length taught ≤ n → length taught ≤ a) → take a taught ≡ take n taught ++ vs
put_next n a rows taught vs rest is counted within past = elim (cases_lt (length taught) n) [
  | inl beyond ↦
      let all : take n taught ≡ taught = take_all n taught (omega (arith, beyond)) in
      let sizes : length taught ≡ length (take n taught ++ vs) + length rest = ap (λ (x : List Update). length x) is ∙ length-append (take n taught ++ vs) rest in
      let front : length (take n taught ++ vs) ≡ length (take n taught) + length vs = length-append (take n taught) vs in
      let same : length (take n taught) ≡ length taught = ap (λ (x : List Update). length x) all in
      let empty : length vs ≡ 0 = omega (arith, sizes, front, same) in
      take_all a taught (past (omega (arith, beyond)))
      ∙ sym all
      ∙ sym (append-nil (take n taught))
      ∙ ap (λ (x : List Update). take n taught ++ x) (sym (nil_from_length vs empty))
  | inr fits ↦
      let sizes : length taught ≡ length (take n taught ++ vs) + length rest = ap (λ (x : List Update). length x) is ∙ length-append (take n taught ++ vs) rest in
      let front : length (take n taught ++ vs) ≡ length (take n taught) + length vs = length-append (take n taught) vs in
      let same : length (take n taught) ≡ n = length-take-le n taught fits in
      let long : length (take n taught ++ vs) ≡ n + rows = omega (arith, front, same, counted) in
      let below : n + rows ≤ length taught = omega (arith, sizes, long) in
      ap (λ (k : ℕ). take k taught) (within below)
      ∙ ap (take (n + rows)) is
      ∙ take_at (take n taught ++ vs) rest (n + rows) long
]

some_count : (m n : ℕ) → ◌≡◌ {A = Result ℕ Fault} (Ok m) (Ok n) → m ≡ n
some_count m n e = cc

no_fault : (n : ℕ) → ◌≡◌ {A = Result ℕ Fault} (Ok n) (Err faults.Memory) → ⊥
no_fault n e = cc

-- the learner is fed the first bytes
pub fed_on_track : (roster : List Definition) (old : Connection) (now count rows applied : ℕ) (l : Learning) (e : ConnectionState) → IsOnTrack roster (connection_of old)
    → LearnerFeeds now old.learner (take count old.to_learner) (Ok rows) l → count ≤ length old.to_learner
    → (old.applied + rows ≤ length old.taught.items → applied ≡ old.applied + rows) → (length old.taught.items ≤ old.applied → length old.taught.items ≤ applied)
    → e ≡ record (connection_of old) { applied = take applied old.taught.items; to_learner = drop count old.to_learner; learner = l }
    → ArrivesAtLearner count now (connection_of old) e
fed_on_track roster old now count rows applied l e track feeds there within past is =
    let s : ConnectionState = connection_of old in
    let done = delivered roster s now count (Ok rows) l track feeds (no_fault rows) in
    let put : take applied old.taught.items ≡ take old.applied old.taught.items ++ done.0 =
    put_next old.applied applied rows old.taught.items done.0 done.1 done.3 (some_count rows (length done.0) done.2) within past in
    let so : IsFed now (take count s.to_learner) (drop count s.to_learner) s e =
    subst (λ (x : ConnectionState). IsFed now (take count s.to_learner) (drop count s.to_learner) s x)
    (sym (is ∙ ap (λ (us : List Update). record s { applied = us; to_learner = drop count s.to_learner; learner = l }) put))
    done.4 in
    match_true (nat_le count (length s.to_learner)) (IsFed now (take count s.to_learner) (drop count s.to_learner) s e) (e ≡ s) (le-leb count (length s.to_learner) there) so

-- there are too few bytes
pub too_few_for_learner : (count now : ℕ) (s : ConnectionState) → length s.to_learner < count → ArrivesAtLearner count now s s
too_few_for_learner count now s few =
    match_false (nat_le count (length s.to_learner)) (IsFed now (take count s.to_learner) (drop count s.to_learner) s s) (s ≡ s) (lt-leb count (length s.to_learner) few) refl

pub track_at : (roster : List Definition) (cs : List Connection) (i : ℕ) (old : Connection) → AllByRecursion (IsOnTrack roster) (connections_of cs) → i < length cs → old ≡ get_or cs i old
    → IsOnTrack roster (connection_of old)
track_at roster [] i old all below is = absurd (omega arith)
track_at roster (x ∷ xs) zero old all below is = subst (λ (y : Connection). IsOnTrack roster (connection_of y)) (sym is) all.0
track_at roster (x ∷ xs) (suc i) old all below is = track_at roster xs i old all.1 (omega arith) is

-- ---- to the teacher

abbrev pub world_with : List CellState → List Connection → WorldState
world_with cells cs = record { cells = cells; connections = connections_of cs }

-- there are too few bytes
pub too_few_for_teacher : (session count i : ℕ) (cells : List CellState) (cs : List Connection) (old : Connection) → IsConnectionAt session cs i → old ≡ get_or cs i old → length old.to_teacher < count
    → ArrivesAtTeacher session count (connection_at session (connections_of cs)) (world_with cells cs) (world_with cells cs)
too_few_for_teacher session count i cells cs old here is few =
    let w : WorldState = world_with cells cs in
    let s : ConnectionState = connection_of old in
    subst (λ (o : Option ConnectionState). ArrivesAtTeacher session count o w w) (sym (connection_found session cs i old here is))
    (match_false (nat_le count (length s.to_teacher)) (IsReadBy session (s.unread ++ take count s.to_teacher) (drop count s.to_teacher) s w w) (w ≡ w) (lt-leb count (length s.to_teacher) few) refl)

-- the bytes that the teacher has once the next `count` have arrived
abbrev arrived_bytes : ℕ → Connection → List ℕ
arrived_bytes count old = old.unread ++ take count old.to_teacher

-- the bytes are read, and what follows from their acknowledgements stands
arrived_as : (session count i : ℕ) (cells : List CellState) (cs : List Connection) (old : Connection) (e : WorldState) (read : Read) (after : Option (List CellState))
    → IsConnectionAt session cs i → old ≡ get_or cs i old → count ≤ length old.to_teacher → AreAcksOf (roster_of cells) (arrived_bytes count old) read
    → acked_all session (pairs_of read.acks.items) cells ≡ after
    → IsArrived session (drop count old.to_teacher) (drop read.used (arrived_bytes count old)) after (connection_of old) (world_with cells cs) e
    → ArrivesAtTeacher session count (connection_at session (connections_of cs)) (world_with cells cs) e
arrived_as session count i cells cs old e read after here is there good acks so =
    let w : WorldState = world_with cells cs in
    let s : ConnectionState = connection_of old in
    let answer = ap (λ (ps : List (ℕ × ℕ)). acked_all session ps cells) (sym good.messages.4) ∙ acks in
    let bytes : List ℕ = arrived_bytes count old in
    let rest : List ℕ = drop count s.to_teacher in
    let left : List ℕ = drop read.used bytes in
    let reads : IsReadBy session bytes rest s w e =
    (good.messages.0, good.messages.1, left, good.messages.2, good.messages.3, subst (λ (o : Option (List CellState)). IsArrived session rest left o s w e) (sym answer) so) in
    subst (λ (o : Option ConnectionState). ArrivesAtTeacher session count o w e) (sym (connection_found session cs i old here is))
    (match_true (nat_le count (length s.to_teacher)) (IsReadBy session bytes rest s w e) (e ≡ w) (le-leb count (length s.to_teacher) there) reads)

-- a table refuses one of the acknowledgements
pub refused : (session count i : ℕ) (cells : List CellState) (cs : List Connection) (old : Connection) (read : Read)
    → IsConnectionAt session cs i → old ≡ get_or cs i old → count ≤ length old.to_teacher → AreAcksOf (roster_of cells) (arrived_bytes count old) read
    → acked_all session (pairs_of read.acks.items) cells ≡ None
    → ArrivesAtTeacher session count (connection_at session (connections_of cs)) (world_with cells cs) (world_with cells cs)
refused session count i cells cs old read here is there good none = arrived_as session count i cells cs old (world_with cells cs) read None here is there good none refl

-- the tables take them
pub arrived_at_teacher : (session count i : ℕ) (cells after : List CellState) (cs : List Connection) (old new : Connection) (read : Read)
    → IsConnectionAt session cs i → old ≡ get_or cs i old → count ≤ length old.to_teacher → AreAcksOf (roster_of cells) (arrived_bytes count old) read
    → acked_all session (pairs_of read.acks.items) cells ≡ Some after
    → connection_of new ≡ record (connection_of old) { to_teacher = drop count old.to_teacher; unread = drop read.used (arrived_bytes count old) }
    → ArrivesAtTeacher session count (connection_at session (connections_of cs)) (world_with cells cs) (world_with after (set cs i new))
arrived_at_teacher session count i cells after cs old new read here is there good acks changed =
    let s : ConnectionState = connection_of old in
    let connections : connections_of (set cs i new) ≡ with_connection session (record s { to_teacher = drop count s.to_teacher; unread = drop read.used (arrived_bytes count old) }) (connections_of cs) =
    connection_changed session cs i new here ∙ ap (λ (x : ConnectionState). with_connection session x (connections_of cs)) changed in
    arrived_as session count i cells cs old (world_with after (set cs i new)) read (Some after) here is there good acks
    (ap (λ (x : List ConnectionState). record { cells = after; connections = x }) connections)

pub none_of : {A : Type 0} (o : Option A) → is_some o ≡ false → o ≡ None
none_of None e = refl
none_of (Some x) e = absurd (false≢true (sym e))

-- what is read twice at a place
pub same_item : (cs : List Connection) (i : ℕ) (one other : Connection) → i < length cs → one ≡ get_or cs i one → other ≡ get_or cs i other → one ≡ other
same_item cs i one other below is same = is ∙ get_or_default cs i one other below ∙ sym same
