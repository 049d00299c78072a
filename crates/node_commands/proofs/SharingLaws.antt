-- Sessions that run side by side.
use Rattle.std.proofs.Common.{◌≡◌, ◌∙◌, ◌++◌, ℕ, true, List, [], ◌∷◌, ap, map, subst, sym}
use Rattle.table_types.specs.Tables.{Definition}
use Rattle.table_shards.specs.Receipts.{SeatState}
use Rattle.table_shards.specs.Rounds.{ShardsState, fresh_from}
use Rattle.table_shards.proofs.RoundLaws.{map_append}
use Rattle.session_core.specs.Keeping.{KeptSession}
use Rattle.peers_engine.specs.declared.worker.Worker.{Worker}
use Rattle.node_text.specs.declared.scenes.Scene.{Scene}
use Rattle.text_commands.specs.Learning.{AreInRisingId}
use Rattle.text_commands.specs.declared.endings.Ending.{Ending}
use Rattle.node_commands.specs.declared.node.server.Server.{Server}
use Rattle.node_commands.specs.declared.node.sharing.Served.{Served}
use Rattle.node_commands.specs.declared.node.sharing.TakesTurns.{TakesTurns}
use Rattle.node_commands.specs.Loading.{AreOpened}
use Rattle.node_commands.specs.Serving.{HasServed}
use Rattle.node_commands.specs.Sharing.{AllServed, AreKept, AreStarted, IsServer, IsShared, IsTotal, waiting_session, worker_at}

-- ---- the node

pub one_worker : (s : KeptSession) (ws : List Worker) (w : Worker) (seat : SeatState) (taken : List SeatState) → ws ≡ map (worker_at s) taken → w ≡ worker_at s seat
    → ws ++ w ∷ [] ≡ map (worker_at s) (taken ++ seat ∷ [])
one_worker s ws w seat taken so is =
    ap (λ (xs : List Worker). xs ++ w ∷ []) so ∙ ap (λ (x : Worker). map (worker_at s) taken ++ x ∷ []) is ∙ sym (map_append (worker_at s) taken (seat ∷ []))

pub server_with : (scene : Scene) (name peer : List ℕ) (sessions : ℕ) (n : Server) (roster : List Definition) (seats : List SeatState) → AreInRisingId scene.tables.items roster
    → AreOpened sessions roster scene.updates.items n.tables → n.workers.items ≡ map (worker_at (waiting_session name peer roster)) seats → seats ≡ fresh_from 2 sessions
    → IsServer scene name peer sessions n
unfolding IsServer
server_with scene name peer sessions n roster seats rising opened workers fresh =
    (roster, rising, opened, workers ∙ ap (map (worker_at (waiting_session name peer roster))) fresh)

-- ---- threads

pub none_started : {T : Type 0} (promise : T → TakesTurns) (shards : ShardsState) (turns : ℕ) → AreStarted promise shards turns [] []
none_started promise shards turns = tt

pub one_more_started : {T : Type 0} (promise : T → TakesTurns) (shards : ShardsState) (turns : ℕ) (ws : List Worker) (ts : List T) (w : Worker) (t : T) → AreStarted promise shards turns ws ts
    → (promise t).worker.value ≡ w → (promise t).shards.value ≡ shards → (promise t).turns ≡ turns → AreStarted promise shards turns (ws ++ w ∷ []) (ts ++ t ∷ [])
one_more_started promise shards turns [] [] w t so_far worker tables same = (worker, tables, same, tt)
one_more_started promise shards turns [] (u ∷ ts) w t so_far worker tables same = absurd so_far
one_more_started promise shards turns (v ∷ ws) [] w t so_far worker tables same = absurd so_far
one_more_started promise shards turns (v ∷ ws) (u ∷ ts) w t (first, second, third, rest) worker tables same =
    (first, second, third, one_more_started promise shards turns ws ts w t rest worker tables same)

pub none_kept : {T : Type 0} (promise : T → TakesTurns) → AreKept promise [] []
none_kept promise = tt

pub one_more_kept : {T : Type 0} (promise : T → TakesTurns) (ts : List T) (ss : List Served) (t : T) (s : Served) → AreKept promise ts ss
    → HasServed (promise t).shards.value (promise t).turns (promise t).worker.value s → AreKept promise (ts ++ t ∷ []) (ss ++ s ∷ [])
one_more_kept promise [] [] t s so_far kept = (kept, tt)
one_more_kept promise [] (r ∷ ss) t s so_far kept = absurd so_far
one_more_kept promise (u ∷ ts) [] t s so_far kept = absurd so_far
one_more_kept promise (u ∷ ts) (r ∷ ss) t s (first, rest) kept = (first, one_more_kept promise ts ss t s rest kept)

-- the promises that were made and kept
pub all_kept : {T : Type 0} (promise : T → TakesTurns) (shards : ShardsState) (turns : ℕ) (ws : List Worker) (ts : List T) (ss : List Served) → AreStarted promise shards turns ws ts
    → AreKept promise ts ss → AllServed shards turns ws ss
all_kept promise shards turns [] [] [] started kept = tt
all_kept promise shards turns [] [] (s ∷ ss) started kept = absurd kept
all_kept promise shards turns [] (t ∷ ts) ss started kept = absurd started
all_kept promise shards turns (w ∷ ws) [] ss started kept = absurd started
all_kept promise shards turns (w ∷ ws) (t ∷ ts) [] started kept = absurd kept
all_kept promise shards turns (w ∷ ws) (t ∷ ts) (s ∷ ss) (worker, tables, same, more) (first, rest) = (
  subst (λ (n : ℕ). HasServed shards n w s) same
      (subst (λ (x : ShardsState). HasServed x (promise t).turns w s) tables (subst (λ (x : Worker). HasServed (promise t).shards.value (promise t).turns x s) worker first)),
  all_kept promise shards turns ws ts ss more rest,
)

-- ---- what is printed

pub one_seat : (seats : List SeatState) (seat : SeatState) (s : Served) (taken : List Served) → seats ≡ map (λ x. x.worker.seat) taken → seat ≡ s.worker.seat
    → seats ++ seat ∷ [] ≡ map (λ x. x.worker.seat) (taken ++ s ∷ [])
one_seat seats seat s taken so is =
    ap (λ (xs : List SeatState). xs ++ seat ∷ []) so
    ∙ ap (λ (x : SeatState). map (λ (y : Served). y.worker.seat) taken ++ x ∷ []) is
    ∙ sym (map_append (λ (y : Served). y.worker.seat) taken (s ∷ []))

pub shared_with : (n : Server) (turns : ℕ) (ss : List Served) (ending : Ending) (text : List ℕ) → AllServed n.tables.shards turns n.workers.items ss → IsTotal n.tables ss ending text
    → IsShared n turns ending text
unfolding IsShared
shared_with n turns ss ending text served total = (ss, served, total)
