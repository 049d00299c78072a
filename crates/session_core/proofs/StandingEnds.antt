-- What the end of a resync means in a session that stays.
use Rattle.std.proofs.Common.{◌≡◌, ◌⊎◌, ℕ, Bool, true, false, ◌&&◌, ◌||◌, ◌==◌, not, List, [], ◌∷◌, ◌++◌, Some, None, Option, Ok, Err, Result, refl, sym, ap, ◌∙◌, subst, inl, inr, append_assoc, cond}
use Rattle.std.specs.Prelude.{drop, filter}
use Rattle.std.specs.List.{list_any, AllByRecursion}
use Rattle.std.proofs.lemmas.Bool.{false≢true}
use Rattle.std.proofs.lemmas.List.{append-nil}
use Rattle.std.proofs.lemmas.List.Folds.{list_all-append}
use Rattle.table_types.specs.Tables.{Definition}
use Rattle.table_types.specs.declared.copies.CopyKind.TheVariants as kinds
use Rattle.table_types.specs.declared.copies.Settled.{Settled}
use Rattle.table_types.specs.declared.copies.Settled.TheVariants as settles
use Rattle.table_types.specs.declared.version.Version.{Version}
use Rattle.peers_hello.specs.declared.hello.Hello.{Hello}
use Rattle.peers_hello.specs.declared.hello.Answer.{Answer}
use Rattle.peers_hello.specs.declared.hello.Answer.TheVariants as answers
use Rattle.peers_hello.specs.declared.status.Status.{Status}
use Rattle.peers_hello.specs.declared.status.Status.TheVariants as statuses
use Rattle.peers_hello.specs.Hellos.{answer_of}
use Rattle.peers_hello.specs.Statuses.{status_of}
use Rattle.known_state.specs.Known.{KnownState}
use Rattle.session_core.specs.declared.action.Action.{Action}
use Rattle.session_core.specs.declared.action.Action.TheVariants as actions
use Rattle.session_core.specs.declared.due.Due.{Due}
use Rattle.session_core.specs.declared.due.Due.TheVariants as dues
use Rattle.session_core.specs.declared.event.Event.{Event}
use Rattle.session_core.specs.declared.event.Event.TheVariants as events
use Rattle.session_core.specs.declared.halt.Halt.{Halt}
use Rattle.session_core.specs.declared.halt.Halt.TheVariants as halts
use Rattle.session_core.specs.declared.pace.Task.{Task}
use Rattle.session_core.specs.declared.pace.Task.TheVariants as tasks
use Rattle.session_core.specs.declared.phase.Greeter.{Greeter}
use Rattle.session_core.specs.declared.phase.Greeter.TheVariants as greeters
use Rattle.session_core.specs.declared.share.Share.{Share}
use Rattle.session_core.specs.Phases.{Phase}
use Rattle.session_core.specs.Phases as phases
use Rattle.session_core.specs.Shares.{any_out, all_quiet, is_out, quiet_set, unquieted}
use Rattle.session_core.specs.Actions.{sends_control, status_text, reopens}
use Rattle.session_core.specs.Courses.{Course, course_fed, teaching_anew, acknowledged, ack_received, ReceivesAll, acks_given, table_to_ask, none_due, kind_of}
use Rattle.session_core.specs.Sessions.{SessionState, is_asked, Concludes, ReceivesBytes, first_word, IsWelcomed, Connects, Accepts, Greets, GoesIn, GoesNew, GoesHello, GoesOpen, Turns, HasNothing, FinishesResync, StartsPendingResync, Settles, opening, speaking}
use Rattle.session_core.specs.Runs.{copies, reopened, is_end, ends_resync, IsLeft, HasNothingLeft, HasNothingOut}
use Rattle.session_core.specs.Paces.{inferred, is_ahead, has_left}
use Rattle.session_core.specs.Standing.{StandingState, finished_if, begun_resync, Does, task_at, TakesTurn, Writes, answer_of_refusal, Stands, without_tables, leaving, heartbeats, TicksIn, word_of, reopening}
use Rattle.session_core.specs.Happenings.{Happening, handed, is_tick, reopened_in, leaves, was_left}
use Rattle.session_core.proofs.MachineRuns.{Happens, Lasts, BeginsToStay}
use Rattle.session_core.proofs.TickGives.{after_reopening, is_reopened, left_reopened, reopens_left, tick_or_not}
use Rattle.session_core.proofs.OnlyTurnsCopy.{copied_ticks}
use Rattle.session_core.proofs.BegunToStay.{begun_in}
use Rattle.session_core.proofs.ShareLemmas.{shares_in, ids_of, never, none_out, each_quiet, shares_begin}
use Rattle.session_core.proofs.EndLemmas.{is_plain, plain_append, plain_all, plain_acks, plain_ready, plain_status, plain_reopens, plain_word}
use Rattle.session_core.proofs.RunLemmas.{AreFlags, no_copies, IsDueSound, IsSound, IsCalm, IsKeptIn, due_sound, due_rest, calm_sound, flags_more, calm_more, anew_flags, left_more}
use Rattle.session_core.proofs.StepLemmas.{with_step, goes_kept, quieted}

-- ---- answers

kept_at : (ids : List ℕ) (steps : List (Event × List Action)) (e : SessionState) (phase : Phase) → e.phase ≡ phase → IsKeptIn true ids steps phase → IsKeptIn true ids steps e.phase
kept_at ids steps e phase is kept = subst (IsKeptIn true ids steps) (sym is) kept

-- an answer that asks for neither a copy nor a reopening
answered_kept : (ids : List ℕ) (steps : List (Event × List Action)) (c mid : Course) (d : Due) (event : Event) (acts : List Action) (e : SessionState) → IsSound true ids steps c → c.due ≡ d ∷ mid.due → mid ≡ record c { due = mid.due } → ((id : ℕ) → IsLeft id acts) → e.phase ≡ phases.Open mid → IsKeptIn true ids (with_step steps event acts) e.phase
answered_kept ids steps c mid d event acts e (out, quiet, flags, sound) due is leaves stands =
    let none : no_copies mid.due ≡ true = due_rest true steps c.teaching out quiet d mid.due (subst (IsDueSound true steps c.teaching out quiet) due sound) in
    kept_at ids (with_step steps event acts) e (phases.Open (record c { due = mid.due })) (stands ∙ ap phases.Open is)
    (out, quiet, flags_more true ids steps c out quiet event acts (λ _ id _. leaves id) flags, due_sound true (with_step steps event acts) c.teaching out quiet mid.due none)

no_copies_more : (due : List Due) (table : ℕ) → no_copies due ≡ true → no_copies (due ++ (dues.Ack table ∷ [])) ≡ true
no_copies_more due table none = list_all-append _ due (dues.Ack table ∷ []) ∙ rw none refl

sound_more : (steps : List (Event × List Action)) (teaching : Bool) (out quiet : ℕ → Bool) (due : List Due) (table : ℕ) → IsDueSound true steps teaching out quiet due → IsDueSound true steps teaching out quiet (due ++ (dues.Ack table ∷ []))
sound_more steps teaching out quiet [] table sound = refl
sound_more steps teaching out quiet (dues.Copy id ∷ rest) table sound = (no_copies_more rest table sound.0, sound.1, sound.2, sound.3)
sound_more steps teaching out quiet (dues.Teach ∷ rest) table sound = no_copies_more rest table sound
sound_more steps teaching out quiet (dues.Ack id ∷ rest) table sound = no_copies_more rest table sound

sound_passed : (ids : List ℕ) (steps : List (Event × List Action)) (b : Bool) (c : Course) (table number : ℕ) → IsSound true ids steps c → IsSound true ids steps (acknowledged b c table number).1
sound_passed ids steps true c table number (out, quiet, flags, sound) = (out, quiet, flags, sound_more steps c.teaching out quiet c.due table sound)
sound_passed ids steps false c table number sound = sound

sound_ack : (ids : List ℕ) (steps : List (Event × List Action)) (c : Course) (ack : Option (ℕ × ℕ)) → IsSound true ids steps c → IsSound true ids steps (ack_received c ack).1
sound_ack ids steps c (Some (table, number)) sound = sound_passed ids steps (is_out table c.shares) c table number sound
sound_ack ids steps c None sound = sound

left_passed : (b : Bool) (c : Course) (table number id : ℕ) → IsLeft id (acknowledged b c table number).0
left_passed true c table number id = (refl, refl)
left_passed false c table number id = (refl, refl)

left_ack : (c : Course) (ack : Option (ℕ × ℕ)) (id : ℕ) → IsLeft id (ack_received c ack).0
left_ack c (Some (table, number)) id = left_passed (is_out table c.shares) c table number id
left_ack c None id = (refl, refl)

end_passed : (b : Bool) (c : Course) (table number : ℕ) → ends_resync (acknowledged b c table number).0 ≡ false
end_passed true c table number = refl
end_passed false c table number = refl

pub end_ack : (c : Course) (ack : Option (ℕ × ℕ)) → ends_resync (ack_received c ack).0 ≡ false
end_ack c (Some (table, number)) = end_passed (is_out table c.shares) c table number
end_ack c None = refl

kept_writes : (ids : List ℕ) (steps : List (Event × List Action)) (phase : Phase) (s e : StandingState) (now : ℕ) (known : KnownState) (acts : List Action) → IsKeptIn true ids steps phase → Writes phase s now known acts e → IsKeptIn true ids (with_step steps (events.Written known) acts) e.session.phase
kept_writes ids steps (phases.Open c) s e now known acts sound ((mid, answered, none, ends), is, paces) =
    answered_kept ids steps (ack_received c (inferred c.asked s.pace.progress)).1 mid dues.Teach (events.Written known) acts e.session
    (sound_ack ids steps c (inferred c.asked s.pace.progress) sound) answered.0 answered.1
    (λ id. subst (IsLeft id) (sym is) (left_ack c (inferred c.asked s.pace.progress) id))
    (ap (λ (x : SessionState). x.phase) ends)
kept_writes ids steps (phases.New hello c) s e now known acts kept writes = absurd writes
kept_writes ids steps (phases.Hello greeter bytes c) s e now known acts kept writes = absurd writes
kept_writes ids steps phases.Ended s e now known acts kept writes = absurd writes

-- a late acknowledgement
kept_late : (ids : List ℕ) (steps : List (Event × List Action)) (phase : Phase) (s : SessionState) (table : ℕ) (acts : List Action) (e : SessionState) → IsKeptIn true ids steps phase → GoesIn phase s (events.Settled table settles.Older) acts e → IsKeptIn true ids (with_step steps (events.Refused table) acts) e.phase
kept_late ids steps (phases.Open c) s table acts e sound (mid, answered, (is, ends)) =
    answered_kept ids steps c mid (dues.Ack table) (events.Refused table) acts e sound answered.0 answered.1 (λ id. subst (IsLeft id) (sym is) (refl, refl)) (ap (λ (x : SessionState). x.phase) ends)
kept_late ids steps (phases.New hello c) s table acts e kept goes = absurd goes
kept_late ids steps (phases.Hello greeter bytes c) s table acts e kept goes = absurd goes
kept_late ids steps phases.Ended s table acts e kept goes = absurd goes

kept_refused : (ids : List ℕ) (steps : List (Event × List Action)) (b : Bool) (s : SessionState) (table : ℕ) (acts : List Action) (e : SessionState) → IsKeptIn true ids steps s.phase → GoesIn s.phase s (answer_of_refusal b table) acts e → IsKeptIn true ids (with_step steps (events.Refused table) acts) e.phase
kept_refused ids steps true s table acts e kept goes = goes_kept true ids steps s.phase s (events.Refused table) acts e kept goes
kept_refused ids steps false s table acts e kept goes = kept_late ids steps s.phase s table acts e kept goes

-- ---- turns

calm_idle : (ids : List ℕ) (steps : List (Event × List Action)) (c : Course) → c.due ≡ [] → IsSound true ids steps c → IsCalm true ids steps c
calm_idle ids steps c due (out, quiet, flags, sound) = (out, quiet, flags, rw due refl)

sound_after : (ids : List ℕ) (steps : List (Event × List Action)) (b : Bool) (c : Course) (out quiet : ℕ → Bool) → AreFlags true ids steps c out quiet → no_copies c.due ≡ true → IsSound true ids steps (finished_if b c).1
sound_after ids steps true c out quiet flags none = (out, quiet, (flags.0, (λ bad. absurd (false≢true bad)), flags.2), due_sound true steps false out quiet c.due none)
sound_after ids steps false c out quiet flags none = (out, quiet, flags, due_sound true steps c.teaching out quiet c.due none)

sound_begun : (ids : List ℕ) (steps later : List (Event × List Action)) (c : Course) → c.due ≡ [] → IsSound true ids steps c → IsSound true ids later (begun_resync c).1
sound_begun ids steps later c due (out, quiet, flags, sound) = sound_after ids later _ (teaching_anew c) out never (anew_flags true ids steps later c out quiet flags) (rw due refl)

kept_does : (ids : List ℕ) (steps : List (Event × List Action)) (task : Task) (s e : StandingState) (c : Course) (now : ℕ) (acts : List Action) → s.session.phase ≡ phases.Open c → IsKeptIn true ids steps s.session.phase → Does task s c now acts e → IsKeptIn true ids (with_step steps events.Turn acts) e.session.phase
kept_does ids steps tasks.Copy s e c now acts stands kept (goes, paces) = goes_kept true ids steps s.session.phase s.session events.Turn acts e.session kept goes
kept_does ids steps tasks.Rest s e c now acts stands kept (due, is, same) =
    let sound : IsSound true ids steps c = subst (IsKeptIn true ids steps) stands kept in
    kept_at ids (with_step steps events.Turn acts) e.session (phases.Open c) (ap (λ (x : StandingState). x.session.phase) same ∙ stands)
    (calm_sound true ids (with_step steps events.Turn acts) c (calm_more true ids steps c events.Turn acts (λ id. subst (IsLeft id) (sym is) (refl, refl)) (calm_idle ids steps c due sound)))
kept_does ids steps tasks.Begin s e c now acts stands kept (due, is, session, paces) =
    let sound : IsSound true ids steps c = subst (IsKeptIn true ids steps) stands kept in
    kept_at ids (with_step steps events.Turn acts) e.session (phases.Open (begun_resync c).1) (ap (λ (x : SessionState). x.phase) session)
    (sound_begun ids steps (with_step steps events.Turn acts) c due sound)

kept_turn : (ids : List ℕ) (steps : List (Event × List Action)) (phase : Phase) (s e : StandingState) (now : ℕ) (acts : List Action) → s.session.phase ≡ phase → IsKeptIn true ids steps s.session.phase → TakesTurn phase s now acts e → IsKeptIn true ids (with_step steps events.Turn acts) e.session.phase
kept_turn ids steps (phases.Open c) s e now acts stands kept does = kept_does ids steps (task_at now s.pace c) s e c now acts stands kept does
kept_turn ids steps (phases.New hello c) s e now acts stands kept (goes, paces) = goes_kept true ids steps s.session.phase s.session events.Turn acts e.session kept goes
kept_turn ids steps (phases.Hello greeter bytes c) s e now acts stands kept (goes, paces) = goes_kept true ids steps s.session.phase s.session events.Turn acts e.session kept goes
kept_turn ids steps phases.Ended s e now acts stands kept (goes, paces) = goes_kept true ids steps s.session.phase s.session events.Turn acts e.session kept goes

-- word that this node is up to date
kept_word : (ids : List ℕ) (steps : List (Event × List Action)) (phase : Phase) (s : SessionState) (acts : List Action) (e : SessionState) → IsKeptIn true ids steps phase → GoesIn phase s events.Tick acts e → IsKeptIn true ids (with_step steps events.CaughtUp acts) e.phase
kept_word ids steps (phases.Open c) s acts e sound (due, (is, ends)) =
    kept_at ids (with_step steps events.CaughtUp acts) e (phases.Open c) (ap (λ (x : SessionState). x.phase) ends)
    (calm_sound true ids (with_step steps events.CaughtUp acts) c (calm_more true ids steps c events.CaughtUp acts (λ id. subst (IsLeft id) (sym is) (refl, refl)) (calm_idle ids steps c due sound)))
kept_word ids steps (phases.New hello c) s acts e fresh (is, ends) = kept_at ids (with_step steps events.CaughtUp acts) e (phases.New hello c) (ap (λ (x : SessionState). x.phase) ends) fresh
kept_word ids steps (phases.Hello greeter bytes c) s acts e fresh (is, ends) = kept_at ids (with_step steps events.CaughtUp acts) e (phases.Hello greeter bytes c) (ap (λ (x : SessionState). x.phase) ends) fresh
kept_word ids steps phases.Ended s acts e kept goes = absurd goes

word_kept : (ids : List ℕ) (steps : List (Event × List Action)) (b : Bool) (s : SessionState) (acts : List Action) (e : SessionState) → IsKeptIn true ids steps s.phase → GoesIn s.phase s (word_of b) acts e → IsKeptIn true ids (with_step steps events.CaughtUp acts) e.phase
word_kept ids steps true s acts e kept goes = kept_word ids steps s.phase s acts e kept goes
word_kept ids steps false s acts e kept goes = goes_kept true ids steps s.phase s events.CaughtUp acts e kept goes

-- ---- each event preserves what a run preserves

kept_stands : (ids : List ℕ) (steps : List (Event × List Action)) (event : Event) (s e : StandingState) (now : ℕ) (acts : List Action) → is_tick event ≡ false → IsKeptIn true ids steps s.session.phase → Stands s now event acts e → IsKeptIn true ids (with_step steps event acts) e.session.phase
kept_stands ids steps (events.Bytes bytes) s e now acts other kept (goes, paces) = goes_kept true ids steps s.session.phase s.session (events.Bytes bytes) acts e.session kept goes
kept_stands ids steps events.Turn s e now acts other kept turns = kept_turn ids steps s.session.phase s e now acts refl kept turns
kept_stands ids steps (events.Copied table batch) s e now acts other kept (goes, paces) = goes_kept true ids steps s.session.phase s.session (events.Copied table batch) acts e.session kept goes
kept_stands ids steps (events.Written known) s e now acts other kept writes = kept_writes ids steps s.session.phase s e now known acts kept writes
kept_stands ids steps (events.Refused table) s e now acts other kept (goes, paces) = kept_refused ids steps (is_ahead table s.pace.progress) s.session table acts e.session kept goes
kept_stands ids steps events.Opened s e now acts other kept (goes, paces) = goes_kept true ids steps s.session.phase s.session events.Opened acts e.session kept goes
kept_stands ids steps events.Ask s e now acts other kept (goes, paces) = goes_kept true ids steps s.session.phase s.session events.Ask acts e.session kept goes
kept_stands ids steps events.CaughtUp s e now acts other kept (goes, paces) = word_kept ids steps (has_left s.pace.progress) s.session acts e.session kept goes
kept_stands ids steps events.Tick s e now acts other kept stands = absurd (false≢true (sym other))
kept_stands ids steps events.End s e now acts other kept (goes, paces) = goes_kept true ids steps s.session.phase s.session events.End acts e.session kept goes
kept_stands ids steps events.ReadFault s e now acts other kept (goes, paces) = goes_kept true ids steps s.session.phase s.session events.ReadFault acts e.session kept goes
kept_stands ids steps events.WriteFault s e now acts other kept (goes, paces) = goes_kept true ids steps s.session.phase s.session events.WriteFault acts e.session kept goes
kept_stands ids steps (events.Nothing table) s e now acts other kept (goes, paces) = goes_kept true ids steps s.session.phase s.session (events.Nothing table) acts e.session kept goes
kept_stands ids steps (events.Settled table settled) s e now acts other kept (goes, paces) = goes_kept true ids steps s.session.phase s.session (events.Settled table settled) acts e.session kept goes

-- ---- ticks

-- the tables that stay
abbrev pub stays_in : List ℕ → ℕ → Bool
stays_in left id = not (list_any (λ table. table == id) left)

abbrev pub staying : List ℕ → List Definition → List Definition
staying left ds = filter (λ d. stays_in left d.id) ds

share_staying : (b : Bool) (id : ℕ) (out quiet : Bool) (ss ts : List Share) → ss ≡ ts → cond b (record { table = id; out = out; quiet = quiet } ∷ ss) ss ≡ cond b (record { table = id; out = out; quiet = b && quiet } ∷ ts) ts
share_staying true id out quiet ss ts same = ap (λ (xs : List Share). record { table = id; out = out; quiet = quiet } ∷ xs) same
share_staying false id out quiet ss ts same = same

staying_cond : (b : Bool) (d : Definition) (ds : List Definition) (out quiet : ℕ → Bool) → shares_in (ids_of (cond b (d ∷ ds) ds)) out quiet ≡ cond b (record { table = d.id; out = out d.id; quiet = quiet d.id } ∷ shares_in (ids_of ds) out quiet) (shares_in (ids_of ds) out quiet)
staying_cond true d ds out quiet = refl
staying_cond false d ds out quiet = refl

-- the tables that stay and are quiet
abbrev still_quiet : List ℕ → (ℕ → Bool) → ℕ → Bool
still_quiet left quiet id = stays_in left id && quiet id

shares_staying : (left : List ℕ) (ds : List Definition) (out quiet : ℕ → Bool) → filter (λ s. stays_in left s.table) (shares_in (ids_of ds) out quiet) ≡ shares_in (ids_of (staying left ds)) out (still_quiet left quiet)
shares_staying left [] out quiet = refl
shares_staying left (d ∷ ds) out quiet =
    share_staying (stays_in left d.id) d.id (out d.id) (quiet d.id) _ _ (shares_staying left ds out quiet) ∙ sym (staying_cond (stays_in left d.id) d (staying left ds) out (still_quiet left quiet))

both_so : (a b : Bool) → (a && b) ≡ true → (a ≡ true) × (b ≡ true)
both_so true b so = (refl, so)
both_so false b so = absurd (false≢true so)

-- what a tick that leaves these tables asks for neither copies from another one nor reopens it
abbrev pub LeavesOnly : List ℕ → List Action → Type 0
LeavesOnly left acts = (id : ℕ) → stays_in left id ≡ true → IsLeft id acts

-- what a tick leaves of the flags
staying_flags : (left : List ℕ) (ds : List Definition) (steps : List (Event × List Action)) (c : Course) (out quiet : ℕ → Bool) (acts : List Action) → LeavesOnly left acts → AreFlags true (ids_of ds) steps c out quiet → AreFlags true (ids_of (staying left ds)) (with_step steps events.Tick acts) (without_tables left c) out (still_quiet left quiet)
staying_flags left ds steps c out quiet acts only (shares, rest, stays) = (
  ap (filter (λ s. stays_in left s.table)) shares ∙ shares_staying left ds out quiet,
  λ so id quiets.
      let both = both_so (stays_in left id) (quiet id) quiets in
      ((rest so id both.1).0, left_more (kind_of true true) steps id events.Tick acts (rest so id both.1).1 (only id both.0)),
  stays,
)

staying_all : (ds : List Definition) → staying [] ds ≡ ds
staying_all [] = refl
staying_all (d ∷ ds) = ap (λ (xs : List Definition). d ∷ xs) (staying_all ds)

sound_leaving : (left : List ℕ) (ds : List Definition) (steps : List (Event × List Action)) (c : Course) (acts : List Action) → LeavesOnly left acts → IsCalm true (ids_of ds) steps c → IsSound true (ids_of (staying left ds)) (with_step steps events.Tick acts) (leaving left c).1
sound_leaving [] ds steps c acts only calm =
    subst (λ (xs : List Definition). IsSound true (ids_of xs) (with_step steps events.Tick acts) c) (sym (staying_all ds))
    (calm_sound true (ids_of ds) (with_step steps events.Tick acts) c (calm_more true (ids_of ds) steps c events.Tick acts (λ id. only id refl) calm))
sound_leaving (table ∷ tables) ds steps c acts only (out, quiet, flags, none) =
    sound_after (ids_of (staying (table ∷ tables) ds)) (with_step steps events.Tick acts) _ (without_tables (table ∷ tables) c) out (still_quiet (table ∷ tables) quiet) (staying_flags (table ∷ tables) ds steps c out quiet acts only flags) none

none_calm : (due : List Due) → none_due due ≡ true → no_copies due ≡ true
none_calm [] none = refl
none_calm (d ∷ ds) none = absurd (false≢true none)

kept_still : (ds : List Definition) (steps : List (Event × List Action)) (left : List ℕ) (phase : Phase) (s e : StandingState) → left ≡ [] → e ≡ s → s.session.phase ≡ phase → IsKeptIn true (ids_of ds) steps phase → IsKeptIn true (ids_of (staying left ds)) steps e.session.phase
kept_still ds steps left phase s e none same stands kept =
    subst (λ (xs : List ℕ). IsKeptIn true (ids_of (staying xs ds)) steps e.session.phase) (sym none)
    (subst (λ (xs : List Definition). IsKeptIn true (ids_of xs) steps e.session.phase) (sym (staying_all ds))
    (kept_at (ids_of ds) steps e.session phase (ap (λ (x : StandingState). x.session.phase) same ∙ stands) kept))

kept_ticks : (ds : List Definition) (steps : List (Event × List Action)) (silent : Bool) (phase : Phase) (s e : StandingState) (now : ℕ) (left : List ℕ) (rest acts : List Action) → s.session.phase ≡ phase → is_asked phase events.Tick ≡ true → LeavesOnly left acts → IsKeptIn true (ids_of ds) steps s.session.phase → TicksIn silent phase s now left rest e → IsKeptIn true (ids_of (staying left ds)) (with_step steps events.Tick acts) e.session.phase
kept_ticks ds steps true phase s e now left rest acts stands asked only kept (leaves, is, session, paces) =
    kept_at (ids_of (staying left ds)) (with_step steps events.Tick acts) e.session phases.Ended (ap (λ (x : SessionState). x.phase) session) tt
kept_ticks ds steps false (phases.Open c) s e now left rest acts stands asked only kept (leaves, is, session, paces) =
    let sound : IsSound true (ids_of ds) steps c = subst (IsKeptIn true (ids_of ds) steps) stands kept in
    kept_at (ids_of (staying left ds)) (with_step steps events.Tick acts) e.session (phases.Open (leaving left c).1) (ap (λ (x : SessionState). x.phase) session)
    (sound_leaving left ds steps c acts only (sound.0, sound.1, sound.2, none_calm c.due asked))
kept_ticks ds steps false (phases.New hello c) s e now left rest acts stands asked only kept (leaves, is, same) =
    kept_still ds (with_step steps events.Tick acts) left (phases.New hello c) s e leaves same stands (subst (IsKeptIn true (ids_of ds) steps) stands kept)
kept_ticks ds steps false (phases.Hello greeter bytes c) s e now left rest acts stands asked only kept (leaves, is, same) =
    kept_still ds (with_step steps events.Tick acts) left (phases.Hello greeter bytes c) s e leaves same stands (subst (IsKeptIn true (ids_of ds) steps) stands kept)
kept_ticks ds steps false phases.Ended s e now left rest acts stands asked only kept (leaves, is, same) = kept_still ds (with_step steps events.Tick acts) left phases.Ended s e leaves same stands tt

not_true : (b : Bool) → not b ≡ true → b ≡ false
not_true true so = absurd (false≢true so)
not_true false so = refl

tick_leaves_only : (silent : Bool) (phase : Phase) (s e : StandingState) (now : ℕ) (left : List ℕ) (rest acts : List Action) → TicksIn silent phase s now left rest e → acts ≡ reopening left ++ rest → LeavesOnly left acts
tick_leaves_only silent phase s e now left rest acts ticks is = λ id stays. (
  ap (copies id) is ∙ copied_ticks id silent phase s e now left rest ticks,
  left_reopened id silent phase s e now left rest acts ticks is ∙ not_true (list_any (λ table. table == id) left) stays,
)

-- ---- events that end no resync

abbrev pub IsEndless : Event → Type 0
IsEndless (events.Nothing table) = ⊥
IsEndless event = Unit {0}

endless_concluded : (s : SessionState) (c mid : Course) (result : Result (Unit {0}) Halt) (first given acts : List Action) (e : SessionState) → is_plain 0 first → ReceivesAll c result given mid → Concludes s mid result (first ++ given) acts e → ends_resync acts ≡ false
endless_concluded s c mid (Ok u) first given acts e plain (ts, are, waits) (all, then) =
    ap ends_resync all ∙ (plain_append 0 (first ++ given) (acks_given mid) (plain_append 0 first given plain (plain_all 0 c mid ts given are)) (plain_acks 0 mid.intake)).0
endless_concluded s c mid (Err halts.Failed) first given acts e plain (ts, at_halt, are, halted) (all, then) =
    ap ends_resync all ∙ (plain_append 0 (first ++ given) (actions.Close ∷ []) (plain_append 0 first given plain (plain_all 0 c at_halt ts given are)) (refl, refl)).0
endless_concluded s c mid (Err (halts.Fault fault)) first given acts e plain (ts, at_halt, are, halted) (all, then) =
    ap ends_resync all ∙ (plain_append 0 (first ++ given) (actions.Part _ ∷ []) (plain_append 0 first given plain (plain_all 0 c at_halt ts given are)) (refl, refl)).0
endless_concluded s c mid (Err halts.Memory) first given acts e plain receives concludes = absurd concludes

endless_receives : (s : SessionState) (c : Course) (first acts : List Action) (e : SessionState) → is_plain 0 first → ReceivesBytes s c first acts e → ends_resync acts ≡ false
endless_receives s c first acts e plain (result, given, mid, receives, concludes) = endless_concluded s c mid result first given acts e plain receives concludes

endless_welcomed : (b : Bool) (version : Version) (code : ℕ) (s : SessionState) (c : Course) (rest : List ℕ) (acts : List Action) (e : SessionState) → IsWelcomed b version code s c rest acts e → ends_resync acts ≡ false
endless_welcomed true version code s c rest acts e receives =
    endless_receives (speaking version s) (course_fed c rest) (sends_control (first_word c.stays) ∷ opening version c.shares) acts e (plain_ready 0 (sends_control (first_word c.stays)) version c.shares (plain_word 0 c.stays)) receives
endless_welcomed false version code s c rest acts e (is, then) = ap ends_resync is

endless_connects : (version : Version) (status : Status) (s : SessionState) (bytes : List ℕ) (c : Course) (acts : List Action) (e : SessionState) → Connects version status s bytes c acts e → ends_resync acts ≡ false
endless_connects version statuses.More s bytes c acts e (is, then) = ap ends_resync is
endless_connects version (statuses.Code code used) s bytes c acts e goes = endless_welcomed _ version code s c _ acts e goes
endless_connects version (statuses.Other used) s bytes c acts e (is, then) = ap ends_resync is

endless_accepts : (answer : Answer) (s : SessionState) (greeter : Greeter) (bytes : List ℕ) (c : Course) (acts : List Action) (e : SessionState) → Accepts answer s greeter bytes c acts e → ends_resync acts ≡ false
endless_accepts answers.More s greeter bytes c acts e (is, then) = ap ends_resync is
endless_accepts (answers.Accepted name version used) s greeter bytes c acts e goes =
    endless_receives (speaking version s) (course_fed c (drop used bytes)) (actions.Send (status_text 200) ∷ opening version c.shares) acts e (plain_ready 0 (actions.Send (status_text 200)) version c.shares (plain_status 0 200)) goes
endless_accepts (answers.Refused code used) s greeter bytes c acts e (is, then) =
    ap ends_resync is ∙ (plain_append 0 (actions.Send (status_text code) ∷ []) (actions.Close ∷ []) (plain_status 0 code) (refl, refl)).0

endless_greets : (s : SessionState) (greeter : Greeter) (bytes : List ℕ) (c : Course) (acts : List Action) (e : SessionState) → Greets s greeter bytes c acts e → ends_resync acts ≡ false
endless_greets s (greeters.Connects version) bytes c acts e goes = endless_connects version (status_of bytes) s bytes c acts e goes
endless_greets s (greeters.Accepts own peers) bytes c acts e goes = endless_accepts (answer_of own peers bytes) s (greeters.Accepts own peers) bytes c acts e goes

endless_new : (s : SessionState) (hello : Hello) (c : Course) (event : Event) (acts : List Action) (e : SessionState) → GoesNew s hello c event acts e → ends_resync acts ≡ false
endless_new s hello c events.Opened acts e (is, then) = ap ends_resync is
endless_new s hello c events.Turn acts e (is, then) = ap ends_resync is
endless_new s hello c events.Tick acts e (is, then) = ap ends_resync is
endless_new s hello c events.Ask acts e (is, then) = ap ends_resync is
endless_new s hello c events.CaughtUp acts e (is, then) = ap ends_resync is
endless_new s hello c events.End acts e (is, then) = ap ends_resync is
endless_new s hello c events.ReadFault acts e (is, then) = ap ends_resync is
endless_new s hello c events.WriteFault acts e (is, then) = ap ends_resync is
endless_new s hello c (events.Bytes bytes) acts e goes = absurd goes
endless_new s hello c (events.Copied table batch) acts e goes = absurd goes
endless_new s hello c (events.Nothing table) acts e goes = absurd goes
endless_new s hello c (events.Written known) acts e goes = absurd goes
endless_new s hello c (events.Settled table settled) acts e goes = absurd goes
endless_new s hello c (events.Refused table) acts e goes = absurd goes

endless_hello : (s : SessionState) (greeter : Greeter) (bytes : List ℕ) (c : Course) (event : Event) (acts : List Action) (e : SessionState) → GoesHello s greeter bytes c event acts e → ends_resync acts ≡ false
endless_hello s greeter bytes c (events.Bytes piece) acts e goes = endless_greets s greeter (bytes ++ piece) c acts e goes
endless_hello s greeter bytes c events.Turn acts e (is, then) = ap ends_resync is
endless_hello s greeter bytes c events.Tick acts e (is, then) = ap ends_resync is
endless_hello s greeter bytes c events.Ask acts e (is, then) = ap ends_resync is
endless_hello s greeter bytes c events.CaughtUp acts e (is, then) = ap ends_resync is
endless_hello s greeter bytes c events.End acts e (is, then) = ap ends_resync is
endless_hello s greeter bytes c events.ReadFault acts e (is, then) = ap ends_resync is
endless_hello s greeter bytes c events.WriteFault acts e (is, then) = ap ends_resync is
endless_hello s greeter bytes c events.Opened acts e goes = absurd goes
endless_hello s greeter bytes c (events.Copied table batch) acts e goes = absurd goes
endless_hello s greeter bytes c (events.Nothing table) acts e goes = absurd goes
endless_hello s greeter bytes c (events.Written known) acts e goes = absurd goes
endless_hello s greeter bytes c (events.Settled table settled) acts e goes = absurd goes
endless_hello s greeter bytes c (events.Refused table) acts e goes = absurd goes

endless_turns : (asked : Option ℕ) (s : SessionState) (c : Course) (acts : List Action) (e : SessionState) → Turns asked s c acts e → ends_resync acts ≡ false
endless_turns None s c acts e (is, then) = ap ends_resync is
endless_turns (Some table) s c acts e (is, then) = ap ends_resync is

endless_starts : (b : Bool) (s : SessionState) (c : Course) (acts : List Action) (e : SessionState) → StartsPendingResync b s c acts e → ends_resync acts ≡ false
endless_starts true s c acts e (is, then) = ap ends_resync is ∙ (plain_reopens 0 c.shares).0
endless_starts false s c acts e (is, then) = ap ends_resync is

endless_settles : (settled : Settled) (s : SessionState) (c : Course) (table : ℕ) (acts : List Action) (e : SessionState) → Settles settled s c table acts e → ends_resync acts ≡ false
endless_settles settles.All s c table acts e starts = endless_starts _ s _ acts e starts
endless_settles settles.Some s c table acts e (is, then) = ap ends_resync is
endless_settles settles.Older s c table acts e (is, then) = ap ends_resync is

endless_open : (s : SessionState) (c : Course) (event : Event) (acts : List Action) (e : SessionState) → IsEndless event → GoesOpen s c event acts e → ends_resync acts ≡ false
endless_open s c events.Turn acts e other (due, turns) = endless_turns (table_to_ask c) s c acts e turns
endless_open s c events.Tick acts e other (due, (is, then)) = ap ends_resync is
endless_open s c events.Ask acts e other (due, (is, then)) = ap ends_resync is
endless_open s c events.CaughtUp acts e other (due, (is, then)) = ap ends_resync is
endless_open s c (events.Bytes bytes) acts e other (due, receives) = endless_receives s (course_fed c bytes) [] acts e (refl, refl) receives
endless_open s c (events.Copied table batch) acts e other (mid, answered, (is, then)) = ap ends_resync is
endless_open s c (events.Nothing table) acts e other goes = absurd other
endless_open s c (events.Written known) acts e other (mid, answered, is, then) = ap ends_resync is
endless_open s c (events.Settled table settled) acts e other (mid, answered, settles) = endless_settles settled s mid table acts e settles
endless_open s c (events.Refused table) acts e other (mid, answered, is, then) = ap ends_resync is
endless_open s c events.End acts e other (is, then) = ap ends_resync is
endless_open s c events.ReadFault acts e other (is, then) = ap ends_resync is
endless_open s c events.WriteFault acts e other (is, then) = ap ends_resync is
endless_open s c events.Opened acts e other goes = absurd goes

pub endless_in : (phase : Phase) (s : SessionState) (event : Event) (acts : List Action) (e : SessionState) → IsEndless event → GoesIn phase s event acts e → ends_resync acts ≡ false
endless_in (phases.New hello c) s event acts e other goes = endless_new s hello c event acts e goes
endless_in (phases.Hello greeter bytes c) s event acts e other goes = endless_hello s greeter bytes c event acts e goes
endless_in (phases.Open c) s event acts e other goes = endless_open s c event acts e other goes
endless_in phases.Ended s event acts e other goes = absurd goes

pub endless_refusal : (b : Bool) (table : ℕ) → IsEndless (answer_of_refusal b table)
endless_refusal true table = tt
endless_refusal false table = tt

pub endless_word : (b : Bool) → IsEndless (word_of b)
endless_word true = tt
endless_word false = tt

-- ---- the step that ends a resync

-- no batch is outstanding then, and no table that isn't left has anything left to teach
abbrev IsTaught : List Definition → List (Event × List Action) → SessionState → Type 0
IsTaught ds steps e = HasNothingOut e × AllByRecursion (λ d. HasNothingLeft kinds.Standing steps d.id) ds

never_ends : {X : Type 0} (acts : List Action) → ends_resync acts ≡ false → ends_resync acts ≡ true → X
never_ends acts none ends = absurd (false≢true (sym none ∙ ends))

both_true : (a b : Bool) → (a && b) ≡ true → (a ≡ true) × (b ≡ true)
both_true true b so = (refl, so)
both_true false b so = absurd (false≢true so)

-- tables that are all quiet in a resync
quiet_taught : (ds : List Definition) (steps : List (Event × List Action)) (c : Course) (out quiet : ℕ → Bool) → AreFlags true (ids_of ds) steps c out quiet → c.teaching ≡ true → all_quiet c.shares ≡ true → (any_out c.shares ≡ false) × AllByRecursion (λ d. HasNothingLeft kinds.Standing steps d.id) ds
quiet_taught ds steps c out quiet (shares, left, stays) so all =
    let quiets : all_quiet (shares_in (ids_of ds) out quiet) ≡ true = sym (ap all_quiet shares) ∙ all in (
      ap any_out shares ∙ none_out (ids_of ds) out quiet (λ id is_quiet. (left so id is_quiet).0) quiets,
      each_quiet (HasNothingLeft kinds.Standing steps) ds out quiet (λ id is_quiet. (left so id is_quiet).1) quiets,
    )

end_finishes : (ds : List Definition) (steps : List (Event × List Action)) (b : Bool) (s : SessionState) (c : Course) (table : ℕ) (rest : List Due) (acts : List Action) (e : SessionState) → IsSound true (ids_of ds) steps c → c.due ≡ dues.Copy table ∷ rest → c.teaching ≡ true → all_quiet (quiet_set table c.shares) ≡ b → FinishesResync b s (record c { shares = quiet_set table c.shares; due = rest }) acts e → ends_resync acts ≡ true → IsTaught ds (with_step steps (events.Nothing table) acts) e
end_finishes ds steps false s c table rest acts e sound due so all (is, ends) comes = never_ends acts (ap ends_resync is) comes
end_finishes ds steps true s c table rest acts e sound due so all (is, ends) comes =
    let q = quieted true (ids_of ds) steps c table rest acts sound due so (λ id. rw is (refl, refl)) in
    let taught = quiet_taught ds (with_step steps (events.Nothing table) acts) (record c { shares = quiet_set table c.shares }) q.0 q.1 q.2 so all in
    ((record c { shares = quiet_set table c.shares; due = rest; teaching = false }, ap (λ (x : SessionState). x.phase) ends, taught.0), taught.1)

end_nothing : (ds : List Definition) (steps : List (Event × List Action)) (b : Bool) (s : SessionState) (c : Course) (table : ℕ) (rest : List Due) (acts : List Action) (e : SessionState) → IsSound true (ids_of ds) steps c → c.due ≡ dues.Copy table ∷ rest → c.teaching ≡ b → HasNothing b s (record c { due = rest }) table acts e → ends_resync acts ≡ true → IsTaught ds (with_step steps (events.Nothing table) acts) e
end_nothing ds steps true s c table rest acts e sound due so finishes comes = end_finishes ds steps _ s c table rest acts e sound due so refl finishes comes
end_nothing ds steps false s c table rest acts e sound due so (is, ends) comes = never_ends acts (ap ends_resync is) comes

end_answer : (ds : List Definition) (steps : List (Event × List Action)) (phase : Phase) (s : SessionState) (table : ℕ) (acts : List Action) (e : SessionState) → IsKeptIn true (ids_of ds) steps phase → GoesIn phase s (events.Nothing table) acts e → ends_resync acts ≡ true → IsTaught ds (with_step steps (events.Nothing table) acts) e
end_answer ds steps (phases.Open c) s table acts e sound (mid, answered, nothing) comes =
    end_nothing ds steps c.teaching s c table mid.due acts e sound answered.0 refl (subst (λ (m : Course). HasNothing m.teaching s m table acts e) answered.1 nothing) comes
end_answer ds steps (phases.New hello c) s table acts e kept goes comes = absurd goes
end_answer ds steps (phases.Hello greeter bytes c) s table acts e kept goes comes = absurd goes
end_answer ds steps phases.Ended s table acts e kept goes comes = absurd goes

-- a resync that ends as it begins
end_begun : (ds : List Definition) (steps : List (Event × List Action)) (b : Bool) (c : Course) (acts : List Action) (e : SessionState) (out : ℕ → Bool) → AreFlags true (ids_of ds) steps (teaching_anew c) out never → all_quiet (unquieted c.shares) ≡ b → acts ≡ reopens c.shares ++ (finished_if b (teaching_anew c)).0 → e.phase ≡ phases.Open (finished_if b (teaching_anew c)).1 → ends_resync acts ≡ true → IsTaught ds steps e
end_begun ds steps false c acts e out flags all is stands comes =
    never_ends acts (ap ends_resync is ∙ (plain_append 0 (reopens c.shares) [] (plain_reopens 0 c.shares) (refl, refl)).0) comes
end_begun ds steps true c acts e out flags all is stands comes =
    let taught = quiet_taught ds steps (teaching_anew c) out never flags refl all in
    ((record (teaching_anew c) { teaching = false }, stands, taught.0), taught.1)

end_does : (ds : List Definition) (steps : List (Event × List Action)) (task : Task) (s e : StandingState) (c : Course) (now : ℕ) (acts : List Action) → s.session.phase ≡ phases.Open c → IsKeptIn true (ids_of ds) steps s.session.phase → Does task s c now acts e → ends_resync acts ≡ true → IsTaught ds (with_step steps events.Turn acts) e.session
end_does ds steps tasks.Copy s e c now acts stands kept (goes, paces) comes = never_ends acts (endless_in s.session.phase s.session events.Turn acts e.session tt goes) comes
end_does ds steps tasks.Rest s e c now acts stands kept (due, is, same) comes = never_ends acts (ap ends_resync is) comes
end_does ds steps tasks.Begin s e c now acts stands kept (due, is, session, paces) comes =
    let sound : IsSound true (ids_of ds) steps c = subst (IsKeptIn true (ids_of ds) steps) stands kept in
    end_begun ds (with_step steps events.Turn acts) _ c acts e.session sound.0 (anew_flags true (ids_of ds) steps (with_step steps events.Turn acts) c sound.0 sound.1 sound.2) refl is (ap (λ (x : SessionState). x.phase) session) comes

end_turn : (ds : List Definition) (steps : List (Event × List Action)) (phase : Phase) (s e : StandingState) (now : ℕ) (acts : List Action) → s.session.phase ≡ phase → IsKeptIn true (ids_of ds) steps s.session.phase → TakesTurn phase s now acts e → ends_resync acts ≡ true → IsTaught ds (with_step steps events.Turn acts) e.session
end_turn ds steps (phases.Open c) s e now acts stands kept does comes = end_does ds steps (task_at now s.pace c) s e c now acts stands kept does comes
end_turn ds steps (phases.New hello c) s e now acts stands kept (goes, paces) comes = never_ends acts (endless_in s.session.phase s.session events.Turn acts e.session tt goes) comes
end_turn ds steps (phases.Hello greeter bytes c) s e now acts stands kept (goes, paces) comes = never_ends acts (endless_in s.session.phase s.session events.Turn acts e.session tt goes) comes
end_turn ds steps phases.Ended s e now acts stands kept (goes, paces) comes = never_ends acts (endless_in s.session.phase s.session events.Turn acts e.session tt goes) comes

end_writes : (ds : List Definition) (steps : List (Event × List Action)) (phase : Phase) (s e : StandingState) (now : ℕ) (known : KnownState) (acts : List Action) → Writes phase s now known acts e → ends_resync acts ≡ true → IsTaught ds steps e.session
end_writes ds steps (phases.Open c) s e now known acts (goes, is, paces) comes = never_ends acts (ap ends_resync is ∙ end_ack c (inferred c.asked s.pace.progress)) comes
end_writes ds steps (phases.New hello c) s e now known acts writes comes = absurd writes
end_writes ds steps (phases.Hello greeter bytes c) s e now known acts writes comes = absurd writes
end_writes ds steps phases.Ended s e now known acts writes comes = absurd writes

end_stands : (ds : List Definition) (steps : List (Event × List Action)) (event : Event) (s e : StandingState) (now : ℕ) (acts : List Action) → is_tick event ≡ false → IsKeptIn true (ids_of ds) steps s.session.phase → Stands s now event acts e → ends_resync acts ≡ true → IsTaught ds (with_step steps event acts) e.session
end_stands ds steps (events.Bytes bytes) s e now acts other kept (goes, paces) comes = never_ends acts (endless_in s.session.phase s.session (events.Bytes bytes) acts e.session tt goes) comes
end_stands ds steps events.Turn s e now acts other kept turns comes = end_turn ds steps s.session.phase s e now acts refl kept turns comes
end_stands ds steps (events.Nothing table) s e now acts other kept (goes, paces) comes = end_answer ds steps s.session.phase s.session table acts e.session kept goes comes
end_stands ds steps (events.Written known) s e now acts other kept writes comes = end_writes ds _ s.session.phase s e now known acts writes comes
end_stands ds steps (events.Refused table) s e now acts other kept (goes, paces) comes = never_ends acts (endless_in s.session.phase s.session _ acts e.session (endless_refusal (is_ahead table s.pace.progress) table) goes) comes
end_stands ds steps (events.Copied table batch) s e now acts other kept (goes, paces) comes = never_ends acts (endless_in s.session.phase s.session (events.Copied table batch) acts e.session tt goes) comes
end_stands ds steps events.Opened s e now acts other kept (goes, paces) comes = never_ends acts (endless_in s.session.phase s.session events.Opened acts e.session tt goes) comes
end_stands ds steps events.Ask s e now acts other kept (goes, paces) comes = never_ends acts (endless_in s.session.phase s.session events.Ask acts e.session tt goes) comes
end_stands ds steps events.CaughtUp s e now acts other kept (goes, paces) comes = never_ends acts (endless_in s.session.phase s.session _ acts e.session (endless_word (has_left s.pace.progress)) goes) comes
end_stands ds steps events.Tick s e now acts other kept stands comes = absurd (false≢true (sym other))
end_stands ds steps events.End s e now acts other kept (goes, paces) comes = never_ends acts (endless_in s.session.phase s.session events.End acts e.session tt goes) comes
end_stands ds steps events.ReadFault s e now acts other kept (goes, paces) comes = never_ends acts (endless_in s.session.phase s.session events.ReadFault acts e.session tt goes) comes
end_stands ds steps events.WriteFault s e now acts other kept (goes, paces) comes = never_ends acts (endless_in s.session.phase s.session events.WriteFault acts e.session tt goes) comes
end_stands ds steps (events.Settled table settled) s e now acts other kept (goes, paces) comes = never_ends acts (endless_in s.session.phase s.session (events.Settled table settled) acts e.session tt goes) comes

-- ---- the tick that ends a resync

end_beats : (beats : Bool) → ends_resync (heartbeats beats) ≡ false
end_beats true = refl
end_beats false = refl

end_leaves : (ds : List Definition) (steps : List (Event × List Action)) (b beats : Bool) (c : Course) (acts : List Action) (e : SessionState) (out quiet : ℕ → Bool) → AreFlags true (ids_of ds) steps c out quiet → (c.teaching && all_quiet c.shares) ≡ b → acts ≡ (finished_if b c).0 ++ heartbeats beats → e.phase ≡ phases.Open (finished_if b c).1 → ends_resync acts ≡ true → IsTaught ds steps e
end_leaves ds steps false beats c acts e out quiet flags all is stands comes = never_ends acts (ap ends_resync is ∙ end_beats beats) comes
end_leaves ds steps true beats c acts e out quiet flags all is stands comes =
    let so = both_true c.teaching (all_quiet c.shares) all in
    let taught = quiet_taught ds steps c out quiet flags so.0 so.1 in
    ((record c { teaching = false }, stands, taught.0), taught.1)

end_leaving : (left : List ℕ) (ds : List Definition) (steps : List (Event × List Action)) (beats : Bool) (c : Course) (rest acts : List Action) (e : SessionState) → LeavesOnly left acts → IsSound true (ids_of ds) steps c → rest ≡ (leaving left c).0 ++ heartbeats beats → e.phase ≡ phases.Open (leaving left c).1 → ends_resync rest ≡ true → IsTaught (staying left ds) (with_step steps events.Tick acts) e
end_leaving [] ds steps beats c rest acts e only sound is stands comes = never_ends rest (ap ends_resync is ∙ end_beats beats) comes
end_leaving (table ∷ tables) ds steps beats c rest acts e only (out, quiet, flags, sound) is stands comes =
    end_leaves (staying (table ∷ tables) ds) (with_step steps events.Tick acts) _ beats (without_tables (table ∷ tables) c) rest e out (still_quiet (table ∷ tables) quiet) (staying_flags (table ∷ tables) ds steps c out quiet acts only flags) refl is stands comes

end_ticks : (ds : List Definition) (steps : List (Event × List Action)) (silent : Bool) (phase : Phase) (s e : StandingState) (now : ℕ) (left : List ℕ) (rest acts : List Action) → s.session.phase ≡ phase → LeavesOnly left acts → IsKeptIn true (ids_of ds) steps s.session.phase → TicksIn silent phase s now left rest e → ends_resync rest ≡ true → IsTaught (staying left ds) (with_step steps events.Tick acts) e.session
end_ticks ds steps true phase s e now left rest acts stands only kept (leaves, is, session, paces) comes = never_ends rest (ap ends_resync is) comes
end_ticks ds steps false (phases.Open c) s e now left rest acts stands only kept (leaves, is, session, paces) comes =
    end_leaving left ds steps _ c rest acts e.session only (subst (IsKeptIn true (ids_of ds) steps) stands kept) is (ap (λ (x : SessionState). x.phase) session) comes
end_ticks ds steps false (phases.New hello c) s e now left rest acts stands only kept (leaves, is, same) comes = never_ends rest (ap ends_resync is) comes
end_ticks ds steps false (phases.Hello greeter bytes c) s e now left rest acts stands only kept (leaves, is, same) comes = never_ends rest (ap ends_resync is) comes
end_ticks ds steps false phases.Ended s e now left rest acts stands only kept (leaves, is, same) comes = never_ends rest (ap ends_resync is) comes

-- ---- one step, a tick or not

-- the tables that an event leaves
abbrev pub left_by : Event → List Action → List ℕ
left_by event acts = cond (is_tick event) (reopened_in acts) []

none_left : (event : Event) (acts : List Action) → is_tick event ≡ false → left_by event acts ≡ []
none_left event acts other = ap (λ (b : Bool). cond b (reopened_in acts) []) other

stays_all : (event : Event) (acts : List Action) (ds : List Definition) → is_tick event ≡ false → ds ≡ staying (left_by event acts) ds
stays_all event acts ds other = sym (ap (λ (xs : List ℕ). staying xs ds) (none_left event acts other) ∙ staying_all ds)

kept_tick : (ds : List Definition) (steps : List (Event × List Action)) (s e : StandingState) (now : ℕ) (acts : List Action) → IsKeptIn true (ids_of ds) steps s.session.phase → Stands s now events.Tick acts e → IsKeptIn true (ids_of (staying (reopened_in acts) ds)) (with_step steps events.Tick acts) e.session.phase
kept_tick ds steps s e now acts kept (asked, (left, rest, ticks, is)) =
    subst (λ (xs : List ℕ). IsKeptIn true (ids_of (staying xs ds)) (with_step steps events.Tick acts) e.session.phase) (sym (reopens_left _ s.session.phase s e now left rest acts ticks is))
    (kept_ticks ds steps _ s.session.phase s e now left rest acts refl asked (tick_leaves_only _ s.session.phase s e now left rest acts ticks is) kept ticks)

kept_happens : (one : Happening) (ds : List Definition) (steps : List (Event × List Action)) (s e : StandingState) → IsKeptIn true (ids_of ds) steps s.session.phase → Happens s one e → IsKeptIn true (ids_of (staying (left_by one.event one.acts) ds)) (with_step steps one.event one.acts) e.session.phase
kept_happens one ds steps s e kept happens = elim (tick_or_not one.event) [
  | inl is ↦
      subst (λ (event : Event). IsKeptIn true (ids_of (staying (left_by event one.acts) ds)) (with_step steps event one.acts) e.session.phase) (sym is)
      (kept_tick ds steps s e one.now one.acts kept (subst (λ (event : Event). Stands s one.now event one.acts e) is happens))
  | inr other ↦
      subst (λ (xs : List Definition). IsKeptIn true (ids_of xs) (with_step steps one.event one.acts) e.session.phase) (stays_all one.event one.acts ds other)
      (kept_stands (ids_of ds) steps one.event s e one.now one.acts other kept happens)
]

end_tick : (ds : List Definition) (steps : List (Event × List Action)) (s e : StandingState) (now : ℕ) (acts : List Action) → IsKeptIn true (ids_of ds) steps s.session.phase → Stands s now events.Tick acts e → ends_resync acts ≡ true → IsTaught (staying (reopened_in acts) ds) (with_step steps events.Tick acts) e.session
end_tick ds steps s e now acts kept (asked, (left, rest, ticks, is)) comes =
    subst (λ (xs : List ℕ). IsTaught (staying xs ds) (with_step steps events.Tick acts) e.session) (sym (reopens_left _ s.session.phase s e now left rest acts ticks is))
    (end_ticks ds steps _ s.session.phase s e now left rest acts refl (tick_leaves_only _ s.session.phase s e now left rest acts ticks is) kept ticks
    (sym (ap ends_resync is ∙ after_reopening is_end (λ table. refl) left rest) ∙ comes))

end_happens : (one : Happening) (ds : List Definition) (steps : List (Event × List Action)) (s e : StandingState) → IsKeptIn true (ids_of ds) steps s.session.phase → Happens s one e → ends_resync one.acts ≡ true → IsTaught (staying (left_by one.event one.acts) ds) (with_step steps one.event one.acts) e.session
end_happens one ds steps s e kept happens comes = elim (tick_or_not one.event) [
  | inl is ↦
      subst (λ (event : Event). IsTaught (staying (left_by event one.acts) ds) (with_step steps event one.acts) e.session) (sym is)
      (end_tick ds steps s e one.now one.acts kept (subst (λ (event : Event). Stands s one.now event one.acts e) is happens) comes)
  | inr other ↦
      subst (λ (xs : List Definition). IsTaught xs (with_step steps one.event one.acts) e.session) (stays_all one.event one.acts ds other)
      (end_stands ds steps one.event s e one.now one.acts other kept happens comes)
]

-- ---- runs

-- the tables that no tick left
abbrev pub rest_after : List Definition → List Happening → List Definition
rest_after ds [] = ds
rest_after ds (one ∷ steps) = rest_after (staying (left_by one.event one.acts) ds) steps

pub lasts_kept : (steps : List Happening) (ds : List Definition) (before : List (Event × List Action)) (s e : StandingState) → IsKeptIn true (ids_of ds) before s.session.phase → Lasts s steps e → IsKeptIn true (ids_of (rest_after ds steps)) (before ++ handed steps) e.session.phase
lasts_kept [] ds before s e kept here =
    subst (λ (xs : List (Event × List Action)). IsKeptIn true (ids_of ds) xs e.session.phase) (sym (append-nil before)) (subst (λ (x : StandingState). IsKeptIn true (ids_of ds) before x.session.phase) (sym here) kept)
lasts_kept (one ∷ steps) ds before s e kept (mid, happens, lasts) =
    let grouped : with_step before one.event one.acts ++ handed steps ≡ before ++ ((one.event, one.acts) ∷ handed steps) = append_assoc before ((one.event, one.acts) ∷ []) (handed steps) in
    subst (λ (xs : List (Event × List Action)). IsKeptIn true (ids_of (rest_after (staying (left_by one.event one.acts) ds) steps)) xs e.session.phase) grouped
    (lasts_kept steps (staying (left_by one.event one.acts) ds) (with_step before one.event one.acts) mid e (kept_happens one ds before s mid kept happens) lasts)

rest_and_one : (steps : List Happening) (ds : List Definition) (one : Happening) → rest_after ds (steps ++ (one ∷ [])) ≡ staying (left_by one.event one.acts) (rest_after ds steps)
rest_and_one [] ds one = refl
rest_and_one (first ∷ steps) ds one = rest_and_one steps (staying (left_by first.event first.acts) ds) one

pub handed_and_one : (steps : List Happening) (one : Happening) → handed (steps ++ (one ∷ [])) ≡ with_step (handed steps) one.event one.acts
handed_and_one [] one = refl
handed_and_one (first ∷ steps) one = ap (λ (xs : List (Event × List Action)). (first.event, first.acts) ∷ xs) (handed_and_one steps one)

-- ---- each table is taught or was left

-- what holds of each table that no tick left
abbrev IsOr : (ℕ → Type 0) → List Happening → Definition → Type 0
IsOr P steps d = (was_left d.id steps ≡ true) ⊎ P d.id

one_or : (P : ℕ → Type 0) (leaves_it : Bool) (steps : List Happening) (d : Definition) (xs : List Definition) → AllByRecursion (IsOr P steps) (cond (not leaves_it) (d ∷ xs) xs) → (((leaves_it || was_left d.id steps) ≡ true) ⊎ P d.id) × AllByRecursion (IsOr P steps) xs
one_or P true steps d xs all = (inl refl, all)
one_or P false steps d xs all = (all.0, all.1)

left_if : (b : Bool) (t : ℕ) (acts : List Action) → list_any (λ table. table == t) (cond b (reopened_in acts) []) ≡ (b && reopened t acts)
left_if true t acts = is_reopened t acts
left_if false t acts = refl

step_or : (P : ℕ → Type 0) (one : Happening) (steps : List Happening) (ds : List Definition) → AllByRecursion (IsOr P steps) (staying (left_by one.event one.acts) ds) → AllByRecursion (IsOr P (one ∷ steps)) ds
step_or P one steps [] all = tt
step_or P one steps (d ∷ ds) all =
    let both = one_or P (list_any (λ table. table == d.id) (left_by one.event one.acts)) steps d (staying (left_by one.event one.acts) ds) all in
    (subst (λ (b : Bool). ((b || was_left d.id steps) ≡ true) ⊎ P d.id) (left_if (is_tick one.event) d.id one.acts) both.0, step_or P one steps ds both.1)

none_or : (P : ℕ → Type 0) (ds : List Definition) → AllByRecursion (λ d. P d.id) ds → AllByRecursion (IsOr P []) ds
none_or P [] all = tt
none_or P (d ∷ ds) all = (inr all.0, none_or P ds all.1)

all_or : (P : ℕ → Type 0) (steps : List Happening) (ds : List Definition) → AllByRecursion (λ d. P d.id) (rest_after ds steps) → AllByRecursion (IsOr P steps) ds
all_or P [] ds all = none_or P ds all
all_or P (one ∷ steps) ds all = step_or P one steps ds (all_or P steps (staying (left_by one.event one.acts) ds) all)

-- ---- the law

pub begun_kept : (roster : List Definition) (begun : StandingState) → BeginsToStay roster begun → IsKeptIn true (ids_of roster) [] begun.session.phase
begun_kept roster begun begins =
    begun_in (IsKeptIn true (ids_of roster) []) roster begun ((λ hello up_to_date. (shares_begin roster, refl, refl, refl)), (λ own peers up_to_date. (shares_begin roster, refl, refl, refl))) begins

pub ends_taught_or_left : (roster : List Definition) (begun s e : StandingState) (steps : List Happening) (one : Happening) → BeginsToStay roster begun → Lasts begun steps s → Happens s one e → ends_resync one.acts ≡ true → HasNothingOut e.session × AllByRecursion (λ d. (was_left d.id (steps ++ (one ∷ [])) ≡ true) ⊎ HasNothingLeft kinds.Standing (handed (steps ++ (one ∷ []))) d.id) roster
ends_taught_or_left roster begun s e steps one begins lasts happens comes =
    let taught = end_happens one (rest_after roster steps) (handed steps) s e (lasts_kept steps roster [] begun s (begun_kept roster begun begins) lasts) happens comes in
    let rest : AllByRecursion (λ d. HasNothingLeft kinds.Standing (with_step (handed steps) one.event one.acts) d.id) (rest_after roster (steps ++ (one ∷ []))) =
    subst (AllByRecursion (λ d. HasNothingLeft kinds.Standing (with_step (handed steps) one.event one.acts) d.id)) (sym (rest_and_one steps roster one)) taught.1 in (
      taught.0,
      all_or (HasNothingLeft kinds.Standing (handed (steps ++ (one ∷ [])))) (steps ++ (one ∷ [])) roster
          (subst (λ (hs : List (Event × List Action)). AllByRecursion (λ d. HasNothingLeft kinds.Standing hs d.id) (rest_after roster (steps ++ (one ∷ [])))) (sym (handed_and_one steps one)) rest),
    )
