-- What the strict intake reads of a message whose class, type and data are known.
use Rattle.std.proofs.Common.{◌≡◌, ℕ, List, Option, Some, Result, Ok, Err, sym, ap, ◌∙◌}
use Rattle.peers_msg.specs.declared.message.Message.{Message}
use Rattle.peers_msg.specs.declared.fault.Breach.{Breach}
use Rattle.peers_msg.specs.Received.{Received}
use Rattle.peers_msg.specs.Reading.{◌>>=◌, Frame, body_at, frame_at, message_in, message_at}

-- the message read, with the bytes after it
abbrev pub followed : List ℕ → Result Message Breach → Result (Option (Message × List ℕ)) Breach
followed rest read = read >>= λ m. Ok (Some (m, rest))

reads_body : (h : Received) (bytes : List ℕ) (f : Frame) (rest : List ℕ) → frame_at bytes ≡ Ok (Some (f, rest)) → message_at h bytes ≡ followed rest (body_at h f.class f.message_type f.body)
unfolding message_at
reads_body h bytes f rest e = ap (λ (found : Result (Option (Frame × List ℕ)) Breach). found >>= message_in h) e

fails_so : (rest : List ℕ) (b : Breach) (read : Result Message Breach) → followed rest read ≡ Err b → read ≡ Err b
fails_so rest b (Ok n) e = absurd cc
fails_so rest b (Err breach) e = cc

pub body_fails : (h : Received) (bytes : List ℕ) (f : Frame) (rest : List ℕ) (b : Breach) → frame_at bytes ≡ Ok (Some (f, rest)) → message_at h bytes ≡ Err b → body_at h f.class f.message_type f.body ≡ Err b
body_fails h bytes f rest b e read = fails_so rest b (body_at h f.class f.message_type f.body) (sym (reads_body h bytes f rest e) ∙ read)
