-- How a session is kept.
use Rattle.session_core.specs.Paces.{Pace}

-- Plain: its events alone decide what it does. Staying: for as long as its connection does, with a pace that decides too.
pub data Manner : Type 0 where
  Plain : Manner
  Staying : Pace → Manner
