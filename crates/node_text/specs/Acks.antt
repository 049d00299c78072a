-- How acknowledgements are printed (profile).
use Rattle.std.specs.Prelude.{◌++◌, ℕ, List, [], ◌∷◌, codes}
use Rattle.std.specs.Fmt.{decimal}
use Rattle.peers_msg.specs.declared.message.Message.{Message}
use Rattle.peers_msg.specs.declared.message.Message.TheVariants as messages
use Rattle.node_text.specs.Numbers.{spaced}

-- an acknowledgement of a number, for a table or in a session
abbrev pub ack_text : ℕ → ℕ → List ℕ
ack_text id number = codes "ack " ++ (decimal id ++ spaced number)

-- the line of an acknowledgement
abbrev pub ack_line : Message → List ℕ
ack_line (messages.Ack table number) = ack_text table number ++ 10 ∷ []
ack_line message = []
