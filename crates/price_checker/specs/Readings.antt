-- What has been read of a stream, as the code goes through it.
use Rattle.std.specs.Prelude.{◌≡◌, ◌≤◌, ℕ, List, ◌∷◌, ◌++◌, length, take, drop, Some, Ok}
use Rattle.table_types.specs.declared.update.Update.{Update}
use Rattle.peers_msg.specs.declared.message.Message.{Message}
use Rattle.peers_msg.specs.Reading.{message_at}
use Rattle.known_state.specs.State.{State, Step, IsOwn}
use Rattle.known_state.specs.Known.{KnownState}
use Rattle.price_checker.specs.declared.comparison.Comparison.{Comparison}
use Rattle.price_checker.specs.declared.comparison.Comparison.TheVariants as comparisons
use Rattle.price_checker.specs.declared.reading.Next.{Next}
use Rattle.price_checker.specs.declared.reading.Next.TheVariants as nexts
use Rattle.price_checker.specs.declared.reading.Reading.{Reading}
use Rattle.price_checker.specs.declared.reading.Reading.TheVariants as readings
use Rattle.price_checker.specs.Verdicts.{BeginApart, Carries, IsIllegalHere, IsIllegalAt}

-- how the updates carried compare with those of a batch: they are its first ones, or they differ from it, and then more
-- of them change nothing
abbrev pub Compares : Comparison → List Update → List Update → Type 0
Compares (comparisons.Same count) carried us = (carried ≡ take count us) × (count ≤ length us)
Compares (comparisons.Apart index) carried us =
    (same : List Update)
    × (first : Update)
    × (others : List Update)
    × (rest : List Update)
    × (carried ≡ same ++ (first ∷ others))
    × (us ≡ same ++ rest)
    × (index ≡ length same)
    × BeginApart (first ∷ others) rest

-- how a comparison changes with what one message carries
abbrev pub ComparesNext : State → Message → List Update → Comparison → Comparison → Type 0
ComparesNext s m us before after =
    (carried : List Update) (one : List Update) (e : State) → Compares before carried us → Step s m one e → Compares after (carried ++ one) us

-- what is at the front of the remaining bytes: a legal message and its length, after which the known state and the
-- comparison are these; or no legal message
abbrev pub IsNext : KnownState → List Update → Comparison → List ℕ → Next → KnownState → Type 0
IsNext k us before rest (nexts.Read after used) e =
    (m : Message)
    × (one : List Update)
    × (message_at k.state.received rest ≡ Ok (Some (m, drop used rest)))
    × (1 ≤ used)
    × (used ≤ length rest)
    × IsOwn k.roster m
    × Step k.state m one e.state
    × (e.roster ≡ k.roster)
    × ComparesNext k.state m us before after
IsNext k us before rest (nexts.Illegal illegal) e = IsIllegalHere k rest illegal

-- what a whole stream is: it stops being legal, or it is legal, and the updates it carries compare this way
abbrev pub IsReading : KnownState → List Update → List ℕ → Reading → Type 0
IsReading k us stream (readings.Illegal illegal place) = IsIllegalAt k stream illegal place
IsReading k us stream (readings.Legal comparison) = (carried : List Update) × Carries k stream carried × Compares comparison carried us
