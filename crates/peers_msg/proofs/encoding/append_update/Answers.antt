use Rattle.std.proofs.Common.{◌≡◌, ℕ, List, ◌∷◌, ◌++◌, length, rules, ap, ◌∙◌, append_assoc}
use Rattle.peers_encint.specs.Integers.{spelling}
use Rattle.peers_msg.specs.Borrowed.{owned_name}
use Rattle.peers_msg.specs.Messages.{UpdateFields}
use Rattle.peers_msg.specs.Spelling.{spelled, update_text, update_type}
use Rattle.peers_msg.proofs.encoding.append_update.Goals as goal

pub returns-clause-appended : goal.returns-clause-appended
unfolding spelled
returns-clause-appended c =
    let u : UpdateFields = record { number = c.args.number; life = c.args.life; key = c.args.key.now; values = c.args.values.now; name = owned_name c.args.name } in
    let start : List ℕ = c.args.out.now.items in
    let message_type : c.update_type.result ≡ update_type u = c.update_type.ensures c.args.key.now c.args.values.now (owned_name c.args.name) in
    let size : c.fields_size-size.result ≡ length (update_text u) = c.fields_size-size.ensures.exact in
    let header : c.append_header.new.out.items ≡ start ++ (10 ∷ (c.update_type.result ∷ spelling c.fields_size-size.result)) = c.in_ok-append_header.ensures.appended in
    let framed : c.append_header.new.out.items ≡ start ++ (10 ∷ (update_type u ∷ spelling (length (update_text u)))) = header ∙ ap (λ (n : ℕ). start ++ (10 ∷ (n ∷ spelling c.fields_size-size.result))) message_type ∙ ap (λ (n : ℕ). start ++ (10 ∷ (update_type u ∷ spelling n))) size in
    c.append_fields.ensures ∙ ap (λ (l : List ℕ). l ++ update_text u) framed ∙ append_assoc start (10 ∷ (update_type u ∷ spelling (length (update_text u)))) (update_text u)
