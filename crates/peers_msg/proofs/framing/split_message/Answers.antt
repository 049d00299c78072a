use Rattle.std.proofs.Common.{◌≡◌, ◌∙◌, ap, drop, length, sym, take}
use Rattle.std.specs.Prelude.{Some}
use Rattle.peers_msg.specs.Spelling.{spelled}
use Rattle.peers_msg.proofs.FrameEnds.{frame_parts, is_frame}
use Rattle.peers_msg.proofs.framing.split_message.Goals as goal

pub returns-in-Some-clause-found : goal.returns-in-Some-clause-found
returns-in-Some-clause-found c = λ frame rest is same.
    let parts = frame_parts frame rest in
    let found : Some c.in-Some.length ≡ Some (length frame) = sym c.in-Some.is ∙ c.frame_length.ensures.found frame rest is same in
    let size : c.in-Some.length ≡ length frame = cc in (
      c.split_at.ensures.front ∙ ap (λ n. take n c.args.bytes.now) size ∙ ap (take (length frame)) same ∙ parts.0,
      c.split_at.ensures.back ∙ ap (λ n. drop n c.args.bytes.now) size ∙ ap (drop (length frame)) same ∙ parts.1,
    )

pub returns-in-Some-clause-message : goal.returns-in-Some-clause-message
returns-in-Some-clause-message c = λ message rest same.
    let parts = frame_parts (spelled message) rest in
    let found : Some c.in-Some.length ≡ Some (length (spelled message)) = sym c.in-Some.is ∙ c.frame_length.ensures.found (spelled message) rest (is_frame message) same in
    let size : c.in-Some.length ≡ length (spelled message) = cc in (
      c.split_at.ensures.front ∙ ap (λ n. take n c.args.bytes.now) size ∙ ap (take (length (spelled message))) same ∙ parts.0,
      c.split_at.ensures.back ∙ ap (λ n. drop n c.args.bytes.now) size ∙ ap (drop (length (spelled message))) same ∙ parts.1,
    )

pub returns-in-None-clause-found : goal.returns-in-None-clause-found
returns-in-None-clause-found c = λ frame rest is same.
    let found = c.frame_length.ensures.found frame rest is same in
    let none = c.in-None.is in
    absurd (cc)

pub returns-in-None-clause-message : goal.returns-in-None-clause-message
returns-in-None-clause-message c = λ message rest same.
    let found = c.frame_length.ensures.found (spelled message) rest (is_frame message) same in
    let none = c.in-None.is in
    absurd (cc)
