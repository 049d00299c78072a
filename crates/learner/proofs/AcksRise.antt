-- Acknowledgements come in ascending order of id.
use Rattle.std.proofs.Common.{◌≡◌, ℕ, Bool, true, false, ◌&&◌, cond, List, [], ◌∷◌, Option, Some, None, refl, sym}
use Rattle.std.specs.Prelude.{filter_map, is_some, option_map}
use Rattle.std.specs.List.{AllByRecursion}
use Rattle.table_types.specs.Tables.{Definition}
use Rattle.peers_msg.specs.declared.message.Message.{Message}
use Rattle.peers_msg.specs.declared.message.Message.TheVariants as messages
use Rattle.peers_msg.specs.Received.{IsBelow, AreDistinct}
use Rattle.known_state.specs.Known.{is_in}
use Rattle.known_state.specs.LastNumbers.{last_of}
use Rattle.learner.specs.LocalTables.{local_table}
use Rattle.learner.specs.Intake.{Taking, due_ack}
use Rattle.learner.specs.Acks.{IsAckAbove, AreRisingAcks}

-- each table gives an acknowledgement of its id, or none
abbrev AckEach : (Definition → Option Message) → Type 0
AckEach f = (d : Definition) (m : Message) → f d ≡ Some m → (number : ℕ) × (m ≡ messages.Ack d.id number)

all_above : (f : Definition → Option Message) (d : Definition) (ds : List Definition) → AckEach f → AllByRecursion (IsBelow d) ds → AllByRecursion (IsAckAbove d.id) (filter_map f ds)
all_above f d [] each below = tt
all_above f d (x ∷ xs) each below = at (f x) refl (all_above f d xs each below.1)
  where
    at : (o : Option Message) → f x ≡ o → AllByRecursion (IsAckAbove d.id) (filter_map f xs) → AllByRecursion (IsAckAbove d.id) (filter_map f (x ∷ xs))
    at None e rest = rw e rest
    at (Some m) e rest = let is = each x m e in rw (e, is.1) (below.0.0, rest)

all_rise : (f : Definition → Option Message) (ds : List Definition) → AckEach f → AreDistinct ds → AreRisingAcks (filter_map f ds)
all_rise f [] each distinct = tt
all_rise f (d ∷ ds) each distinct = at (f d) refl (all_rise f ds each distinct.1)
  where
    at : (o : Option Message) → f d ≡ o → AreRisingAcks (filter_map f ds) → AreRisingAcks (filter_map f (d ∷ ds))
    at None e rest = rw e rest
    at (Some m) e rest = let is = each d m e in rw (e, is.1) (all_above f d ds each distinct.0, rest)

each_ack : (t : Taking) → AckEach (due_ack t)
each_ack t d m e = by (is_some (local_table t.roster d) && is_in d.id t.due) (last_of t.state.last_numbers d.id) e
  where
    by : (b : Bool) (last : Option ℕ) → cond b (option_map (λ n. messages.Ack d.id n) last) None ≡ Some m → (number : ℕ) × (m ≡ messages.Ack d.id number)
    by true (Some n) e = let here : Some (messages.Ack d.id n) ≡ Some m = e in let is : messages.Ack d.id n ≡ m = cc in (n, sym is)
    by true None e = let bad : None ≡ Some m = e in absurd cc
    by false last e = let bad : None ≡ Some m = e in absurd cc

pub acks_rise : (t : Taking) (ds : List Definition) → AreDistinct ds → AreRisingAcks (filter_map (due_ack t) ds)
acks_rise t ds distinct = all_rise (due_ack t) ds (each_ack t) distinct
