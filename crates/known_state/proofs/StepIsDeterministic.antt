-- From one state, a message or a list of messages leads to only one state.
use Rattle.std.proofs.Common.{◌≡◌, ℕ, List, [], ◌∷◌, ◌++◌, Option, sym, ap, subst, ◌∙◌}
use Rattle.table_types.specs.declared.update.Update.{Update}
use Rattle.peers_msg.specs.declared.name_field.NameField.{NameField}
use Rattle.peers_msg.specs.declared.name_field.NameField.TheVariants as names
use Rattle.peers_msg.specs.declared.message.Message.{Message}
use Rattle.peers_msg.specs.declared.message.Message.TheVariants as messages
use Rattle.peers_msg.specs.Received.{Received}
use Rattle.known_state.specs.State.{State, Named, Step, Teaches, resolved_number, resolved}
use Rattle.known_state.specs.LastNumbers.{last_of, set_last}

one_name : (slots : List (Option (List ℕ))) (f : NameField) (m n : Option (List ℕ)) (a b : List (Option (List ℕ))) → Named slots f m a → Named slots f n b → (m ≡ n) × (a ≡ b)
one_name slots names.NotStored m n a b p q = (p.0 ∙ sym q.0, p.1 ∙ sym q.1)
one_name slots names.NoName m n a b p q = (p.0 ∙ sym q.0, p.1 ∙ sym q.1)
one_name slots (names.Written slot bytes) m n a b p q = (p.0 ∙ sym q.0, p.1 ∙ sym q.1)
one_name slots (names.Held slot) m n a b p q = (p.2 ∙ sym p.1 ∙ q.1 ∙ sym q.2, p.3 ∙ sym q.3)

one_state : (a b : State) → a.received ≡ b.received → a.last_numbers ≡ b.last_numbers → a.slots ≡ b.slots → a ≡ b
one_state a b p q r =
    ap (λ (h : Received). record { received = h; last_numbers = a.last_numbers; slots = a.slots }) p
    ∙ ap (λ (l : List (ℕ × ℕ)). record { received = b.received; last_numbers = l; slots = a.slots }) q
    ∙ ap (λ (n : List (Option (List ℕ))). record { received = b.received; last_numbers = b.last_numbers; slots = n }) r

pub one_step : (s a b : State) (m : Message) (us vs : List Update) → Step s m us a → Step s m vs b → (us ≡ vs) × (a ≡ b)
one_step s a b (messages.Update u) us vs p q =
    let table : p.1 ≡ q.1 = cc in
    let number : p.3 ≡ q.3 = let e : resolved_number u.number (last_of s.last_numbers p.1) ≡ resolved_number u.number (last_of s.last_numbers q.1) = ap (λ (t : ℕ). resolved_number u.number (last_of s.last_numbers t)) table in cc in
    let named = one_name s.slots u.name p.5 q.5 a.slots b.slots p.6 q.6 in
    let name : p.5 ≡ q.5 = named.0 in
    let slots : a.slots ≡ b.slots = named.1 in
    let received : a.received ≡ b.received = p.8 ∙ sym q.8 in
    let last_numbers : a.last_numbers ≡ b.last_numbers = p.9 ∙ ap (λ (t : ℕ). set_last t p.3 s.last_numbers) table ∙ ap (λ (n : ℕ). set_last q.1 n s.last_numbers) number ∙ sym q.9 in
    let carried : ◌≡◌ {A = List Update} (resolved u p.1 p.3 p.5 ∷ []) (resolved u q.1 q.3 q.5 ∷ []) = cc in
    (p.7 ∙ carried ∙ sym q.7, one_state a b received last_numbers slots)
one_step s a b (messages.Control c) us vs p q = (p.1 ∙ sym q.1, p.2 ∙ sym q.2)
one_step s a b (messages.Error e) us vs p q = (p.1 ∙ sym q.1, p.2 ∙ sym q.2)
one_step s a b (messages.Define d) us vs p q = (p.1 ∙ sym q.1, p.2 ∙ sym q.2)
one_step s a b (messages.Switch id) us vs p q = (p.1 ∙ sym q.1, p.2 ∙ sym q.2)
one_step s a b (messages.Ack table number) us vs p q = (p.1 ∙ sym q.1, p.2 ∙ sym q.2)
one_step s a b (messages.Other o) us vs p q = (p.1 ∙ sym q.1, p.2 ∙ sym q.2)

pub one_lesson : (s a b : State) (ms : List Message) (us vs : List Update) → Teaches s ms us a → Teaches s ms vs b → (us ≡ vs) × (a ≡ b)
one_lesson s a b [] us vs p q = (p.0 ∙ sym q.0, p.1 ∙ sym q.1)
one_lesson s a b (m ∷ ms) us vs p q =
    let step = one_step s p.2 q.2 m p.0 q.0 p.4 q.4 in
    let from_there : Teaches p.2 ms q.1 b = subst (λ (mid : State). Teaches mid ms q.1 b) (sym step.1) q.5 in
    let rest = one_lesson p.2 a b ms p.1 q.1 p.5 from_there in
    (p.3 ∙ ap (λ (one : List Update). one ++ p.1) step.0 ∙ ap (λ (others : List Update). q.0 ++ others) rest.0 ∙ sym q.3, rest.1)
