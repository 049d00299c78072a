-- The verdict on a stream and prices: whether the stream teaches the batch, and whether the prices prove that no other
-- stream that does is shorter (profile).
use Rattle.std.specs.Prelude.{◌≡◌, ◌≢◌, ◌≤◌, ◌⊎◌, ℕ, ◌+◌, ◌-◌, ◌^◌, nat_lt, true, List, [], ◌∷◌, ◌++◌, length, Some, None, Ok, Err, codes}
use Rattle.std.specs.List.{AllByRecursion, list_any}
use Rattle.table_types.specs.declared.update.Update.{Update}
use Rattle.table_types.specs.SlotIds.{slot_count}
use Rattle.table_types.specs.Tables.{Definition}
use Rattle.peers_msg.specs.declared.message.Message.{Message}
use Rattle.peers_msg.specs.declared.message.Message.TheVariants as messages
use Rattle.peers_msg.specs.Breaches.{breach_name}
use Rattle.peers_msg.specs.Reading.{message_at}
use Rattle.peers_msg.specs.Spelling.{stream_of}
use Rattle.known_state.specs.State.{State, Legal}
use Rattle.known_state.specs.Known.{KnownState, IsTakenBy, Refuses, step_error_name}
use Rattle.known_state.specs.Cost.{full, knowledge_of}
use Rattle.known_state.specs.Requests.{Asked, requests_of}
use Rattle.known_state.specs.Plans.{all_links, bound, names_in}
use Rattle.price_checker.specs.declared.verdict.Illegal.{Illegal}
use Rattle.price_checker.specs.declared.verdict.Illegal.TheVariants as illegals
use Rattle.price_checker.specs.declared.verdict.Verdict.{Verdict}
use Rattle.price_checker.specs.declared.verdict.Verdict.TheVariants as verdicts

-- ---- streams

-- The stream spells messages that are legal from the known state and carry these updates.
abbrev pub Carries : KnownState → List ℕ → List Update → Type 0
Carries k stream us = (ms : List Message) × (e : State) × (stream ≡ stream_of ms) × Legal k.roster k.state ms us e

-- Why no legal message is at the front of the remaining bytes: they end before a message is whole, or they aren't the
-- beginning of a message, or they begin with one that the known state refuses.
abbrev pub IsIllegalHere : KnownState → List ℕ → Illegal → Type 0
IsIllegalHere k rest illegals.Cut = (rest ≢ []) × (message_at k.state.received rest ≡ Ok None)
IsIllegalHere k rest (illegals.Decode breach) = message_at k.state.received rest ≡ Err breach
IsIllegalHere k rest (illegals.Step error) =
    (m : Message) × (after : List ℕ) × (message_at k.state.received rest ≡ Ok (Some (m, after))) × Refuses k m error

-- the message defines a table
abbrev pub IsDefinition : Message → Type 0
IsDefinition m = (d : Definition) × (m ≡ messages.Define d)

-- A whole message is at the front of the stream: a definition, or a message that the known state doesn't refuse.
abbrev pub BeginsUnrefused : KnownState → List ℕ → Type 0
BeginsUnrefused k stream =
    (m : Message) × (rest : List ℕ) × (message_at k.state.received stream ≡ Ok (Some (m, rest))) × (IsDefinition m ⊎ IsTakenBy k m)

-- The stream is legal up to this place, where a message ends and no legal message follows.
abbrev pub IsIllegalAt : KnownState → List ℕ → Illegal → ℕ → Type 0
IsIllegalAt k stream illegal place =
    (ms : List Message)
    × (carried : List Update)
    × (mid : State)
    × (rest : List ℕ)
    × (stream ≡ stream_of ms ++ rest)
    × (place ≡ length (stream_of ms))
    × Legal k.roster k.state ms carried mid
    × IsIllegalHere (record { roster = k.roster; state = mid }) rest illegal

-- one of the two lists ends and the other doesn't, or their first updates differ
abbrev pub BeginApart : List Update → List Update → Type 0
BeginApart [] [] = ⊥
BeginApart [] (u ∷ us) = Unit {0}
BeginApart (c ∷ cs) [] = Unit {0}
BeginApart (c ∷ cs) (u ∷ us) = c ≢ u

-- two lists begin with the same `index` updates, and differ from there on
abbrev pub AreApartFrom : ℕ → List Update → List Update → Type 0
AreApartFrom index carried us =
    (same : List Update)
    × (others : List Update)
    × (rest : List Update)
    × (carried ≡ same ++ others)
    × (us ≡ same ++ rest)
    × (index ≡ length same)
    × BeginApart others rest

-- ---- prices

-- the requests of the updates
abbrev pub requests : KnownState → List Update → List Asked
requests k us = requests_of k.roster (knowledge_of k.state) us

-- how many bytes reads can save at most in 128 slots, as these prices prove
abbrev pub bound_shown : KnownState → List Update → List ℕ → ℕ
bound_shown k us prices = bound slot_count (all_links (names_in k.state.slots) (requests k us)) prices

-- there is one price for each request, and none is above 2^32
abbrev pub ArePrices : KnownState → List Update → List ℕ → Type 0
ArePrices k us prices = (length prices ≡ length (requests k us)) × AllByRecursion (λ price. price ≤ 2 ^ 32) prices

-- What the prices prove of a lesson of `size` bytes: there are too few or too many prices; or one is above 2^32; or
-- the lesson doesn't save exactly the bound that they prove, compared with the lesson that writes every name (a longer
-- lesson saves nothing); or it does, so no lesson is shorter.
abbrev pub Show : KnownState → List Update → List ℕ → ℕ → Verdict → Type 0
Show k us prices size verdicts.PriceCount = length prices ≢ length (requests k us)
Show k us prices size verdicts.PriceRange =
    (length prices ≡ length (requests k us)) × (list_any (λ price. nat_lt (2 ^ 32) price) prices ≡ true)
Show k us prices size (verdicts.Gap saved most) =
    ArePrices k us prices
    × (saved ≡ full k.roster k.state us - size)
    × (most ≡ bound_shown k us prices)
    × (size + bound_shown k us prices ≢ full k.roster k.state us)
Show k us prices size (verdicts.Shortest bytes) =
    ArePrices k us prices × (bytes ≡ size) × (size + bound_shown k us prices ≡ full k.roster k.state us)
Show k us prices size verdict = ⊥

-- ---- both

-- The verdict on a stream and prices, for a batch from a known state: the stream isn't legal; or it is legal and
-- carries other updates, from this index on; or it carries the batch, and the verdict is what the prices prove.
abbrev pub Says : KnownState → List Update → List ℕ → List ℕ → Verdict → Type 0
Says k us stream prices (verdicts.NotLegal illegal place) = IsIllegalAt k stream illegal place
Says k us stream prices (verdicts.NotCarried index) = (carried : List Update) × Carries k stream carried × AreApartFrom index carried us
Says k us stream prices verdict = Carries k stream us × Show k us prices (length stream) verdict

-- it isn't legal
abbrev pub IsNotLegal : Verdict → Type 0
IsNotLegal verdict = (illegal : Illegal) × (place : ℕ) × (verdict ≡ verdicts.NotLegal illegal place)

-- it is legal, and carries other updates
abbrev pub IsNotCarried : Verdict → Type 0
IsNotCarried verdict = (index : ℕ) × (verdict ≡ verdicts.NotCarried index)

-- ---- words

-- the name of the cause
abbrev pub illegal_name : Illegal → List ℕ
illegal_name (illegals.Decode breach) = breach_name breach
illegal_name (illegals.Step error) = step_error_name error
illegal_name illegals.Cut = codes "Cut"
