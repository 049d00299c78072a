-- Streams that arrive in pieces at several moments, and what is put of each piece (profile).
use Rattle.std.specs.Prelude.{◌≡◌, ℕ, ◌+◌, ◌<◌, List, [], ◌∷◌, ◌++◌, length, map, flat_map, Ok, Err}
use Rattle.table_types.specs.declared.key.Key.{Key}
use Rattle.table_types.specs.declared.update.Update.{Update}
use Rattle.table_types.specs.Tables.{Definition}
use Rattle.table_types.specs.Rows.{StoredRow}
use Rattle.peers_msg.specs.declared.message.Message.{Message}
use Rattle.peers_msg.specs.Spelling.{spelled, stream_of}
use Rattle.known_state.specs.State.{State, Teaches}
use Rattle.known_state.specs.Known.{KnownState}
use Rattle.learner.specs.declared.fault.Fault.{Fault}
use Rattle.learner.specs.Rows.{put_all}
use Rattle.learner.specs.Learning.{Learning, LearnerFeeds, IsReadyIn, with_piece}
use Rattle.learner.specs.Cutting.{StandsAt}

-- bytes of a stream, and the moment at which they are fed
pub record Piece : Type 0 where
  pub moment : ℕ
  pub bytes : List ℕ

-- the pieces as one stream
abbrev pub stream_in : List Piece → List ℕ
stream_in [] = []
stream_in (p ∷ ps) = p.bytes ++ stream_in ps

-- the pieces are fed one after another, each at its moment and without a fault; `counts` has the number of rows put of
-- each
abbrev pub AreFedInTime : Learning → List Piece → List ℕ → Learning → Type 0
AreFedInTime l [] counts e = (counts ≡ []) × (e ≡ l)
AreFedInTime l (p ∷ ps) counts e =
    (one : ℕ)
    × (rest : List ℕ)
    × (mid : Learning)
    × (counts ≡ one ∷ rest)
    × LearnerFeeds p.moment l p.bytes (Ok one) mid
    × AreFedInTime mid ps rest e

-- the same, and then one more piece, `last`, which ends in the fault `fault`
abbrev pub IsStoppedInTime : Learning → List Piece → Piece → Fault → Learning → Type 0
IsStoppedInTime l pieces last fault e =
    (counts : List ℕ)
    × (mid : Learning)
    × AreFedInTime l pieces counts mid
    × LearnerFeeds last.moment mid last.bytes (Err fault) e

-- the pieces end this way, and of what was fed, `left` are the bytes from the faulty message on
abbrev pub IsStoppedAtInTime : Learning → List Piece → Piece → Fault → List ℕ → Learning → Type 0
IsStoppedAtInTime l pieces last fault left e =
    (counts : List ℕ)
    × (mid : Learning)
    × AreFedInTime l pieces counts mid
    × LearnerFeeds last.moment mid last.bytes (Err fault) e
    × StandsAt last.moment (with_piece mid last.bytes) fault left e

-- `left` bytes are fewer than the next of these messages has, or none if no message is to come
abbrev pub AreTooFew : ℕ → List Message → Type 0
AreTooFew left [] = left ≡ 0
AreTooFew left (m ∷ ms) = left < length (spelled m)

-- A stream of these messages, of which `before` bytes came earlier, arrives in pieces; the messages make their steps
-- from `s` on and lead to `e`. There is a part for each piece: the updates carried by the messages whose last byte is
-- in that piece. After the messages that end in a piece, fewer bytes are left than the next message has.
abbrev pub FallInto : ℕ → State → List Message → List Piece → List (List Update) → State → Type 0
FallInto before s ms [] parts e = (ms ≡ []) × (parts ≡ []) × (e ≡ s)
FallInto before s ms (p ∷ ps) parts e =
    (ended : List Message)
    × (later : List Message)
    × (part : List Update)
    × (others : List (List Update))
    × (mid : State)
    × (left : ℕ)
    × (ms ≡ ended ++ later)
    × (before + length p.bytes ≡ length (stream_of ended) + left)
    × AreTooFew left later
    × Teaches s ended part mid
    × (parts ≡ part ∷ others)
    × FallInto left mid later ps others e

-- each part is put at the moment of its piece, one part after another
abbrev pub put_parts : List Definition → List Piece → List (List Update) → List (List (Key × StoredRow)) → List (List (Key × StoredRow))
put_parts roster (p ∷ ps) (part ∷ parts) tables = put_parts roster ps parts (put_all p.moment roster part tables)
put_parts roster ps parts tables = tables

-- The updates `us` that the pieces carry from the known state `k` are divided into parts, one for each piece; each part
-- is put among the rows of `l` at the moment of its piece, and the answer to the piece counts it. Afterwards the
-- learner is ready for a lesson from the known state `after`.
abbrev pub HasLearnedInTime : KnownState → Learning → List Piece → List Update → List ℕ → KnownState → Learning → Type 0
HasLearnedInTime k l pieces us counts after e =
    (ms : List Message)
    × (parts : List (List Update))
    × (stream_in pieces ≡ stream_of ms)
    × FallInto 0 k.state ms pieces parts after.state
    × (us ≡ flat_map (λ part. part) parts)
    × (counts ≡ map length parts)
    × (e.rows ≡ put_parts l.intake.roster pieces parts l.rows)
    × IsReadyIn after e
