-- What the log says of a connection with a peer that is over.
use Rattle.std.specs.Prelude.{ℕ, Bool, not, ◌&&◌, ◌||◌, ◌==◌, Option, None, Some, if◌then◌else◌}
use Rattle.node_rules.specs.declared.end_news.EndNews.{EndNews}
use Rattle.node_rules.specs.declared.end_news.EndNews.TheVariants as news
use Rattle.node_rules.specs.declared.end_news.EndedConnection.{EndedConnection}
use Rattle.node_rules.specs.PeerRecords.{is_replaced}

-- The node made it, or lacked memory or a thread for its session; and it wasn't given up: for another connection of the peer, or since
-- no session may stand.
abbrev pub has_failed : EndedConnection → Bool
has_failed c = (c.connects || c.lacking) && (not (is_replaced c.end) && not c.given_up)

-- a status other than 200 refuses the node's hello
abbrev pub attempt_news : Option ℕ → EndNews
attempt_news None = news.NoSession
attempt_news (Some status) = if status == 200 then news.NoSession else news.Refusal status

-- the end of a session is said; and of a connection that came to none why, if that is the node's matter
abbrev pub end_news : EndedConnection → EndNews
end_news c = if c.begun then news.Session else (if has_failed c then attempt_news c.status else news.Nothing)
