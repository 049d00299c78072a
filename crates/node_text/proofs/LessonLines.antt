-- Messages one after another, and their lines.
use Rattle.std.proofs.Common.{◌≡◌, ◌∙◌, ◌+◌, ◌<◌, ◌++◌, ℕ, List, [], ◌∷◌, ap, append-nil, append_assoc, arith, flat_map, get_or, length, length-append, map, sym, take}
use Rattle.std.proofs.lemmas.List.{flat_map_more, take_more}
use Rattle.std.proofs.lemmas.List.Folds.{flat_map-map}
use Rattle.peers_msg.specs.declared.message.Message.{Message}
use Rattle.std.specs.List.{AllByRecursion}
use Rattle.peers_msg.proofs.FrameEnds.{is_frame}
use Rattle.peers_msg.specs.Framing.{IsFrame}
use Rattle.peers_msg.specs.Spelling.{spelled, stream_of}
use Rattle.node_text.specs.Lessons.{joined, line_of}
use Rattle.node_text.specs.Numbers.{spaced}

pub price_added : (old text added prices : List ℕ) (i : ℕ) → i < length prices → text ≡ old ++ flat_map spaced (take i prices)
    → added ≡ text ++ spaced (get_or prices i 0) → added ≡ old ++ flat_map spaced (take (i + 1) prices)
price_added old text added prices i within so_far adds =
    adds ∙ ap (λ t. t ++ spaced (get_or prices i 0)) so_far ∙ flat_map_more spaced old (take i prices) (get_or prices i 0)
    ∙ ap (λ p. old ++ flat_map spaced p) (sym (take_more prices i 0 within))

-- a stream is the bytes of its messages one after another
pub stream_joined : (ms : List Message) → stream_of ms ≡ flat_map (λ message. message) (map spelled ms)
stream_joined ms = sym (flat_map-map (λ message. message) spelled ms)

-- what is left after a frame is shorter
pub shorter : (rest frame after : List ℕ) → IsFrame frame → rest ≡ frame ++ after → length after < length rest
shorter rest [] after is same = absurd is
shorter rest (class ∷ frame) after is same =
    let size : length rest ≡ length (class ∷ frame) + length after = ap length same ∙ length-append (class ∷ frame) after in
    omega (arith, size)

-- after a message, its line is printed and one message fewer is left
pub line_added : (rest text added all message after : List ℕ) (left : List (List ℕ)) → AllByRecursion IsFrame left → rest ≡ joined left → IsFrame message → rest ≡ message ++ after
    → ((frame more : List ℕ) → IsFrame frame → rest ≡ frame ++ more → (message ≡ frame) × (after ≡ more))
    → added ≡ text ++ line_of message → text ++ flat_map line_of left ≡ all
    → (fewer : List (List ℕ)) × AllByRecursion IsFrame fewer × (after ≡ joined fewer) × (added ++ flat_map line_of fewer ≡ all)
line_added rest text added all [] after [] are same is parts found adds so_far = absurd is
line_added rest text added all (class ∷ message) after [] are same is parts found adds so_far = absurd (let none = sym same ∙ parts in cc)
line_added rest text added all message after (frame ∷ left) (one, are) same is parts found adds so_far =
    let split = found frame (joined left) one same in (
      left,
      are,
      split.1,
      ap (λ t. t ++ flat_map line_of left) (adds ∙ ap (λ x. text ++ line_of x) split.0)
          ∙ append_assoc text (line_of frame) (flat_map line_of left) ∙ so_far,
    )

-- no message is left
pub all_lines : (rest text all : List ℕ) (left : List (List ℕ)) → AllByRecursion IsFrame left → rest ≡ joined left
    → ((frame more : List ℕ) → IsFrame frame → rest ≡ frame ++ more → ⊥)
    → text ++ flat_map line_of left ≡ all → (rest ≡ []) × (text ≡ all)
all_lines rest text all [] are same none so_far = (same, sym (append-nil text) ∙ so_far)
all_lines rest text all (frame ∷ left) (one, are) same none so_far = absurd (none frame (joined left) one same)

-- messages are frames
pub are_frames : (ms : List Message) → AllByRecursion IsFrame (map spelled ms)
are_frames [] = tt
are_frames (m ∷ ms) = (is_frame m, are_frames ms)
