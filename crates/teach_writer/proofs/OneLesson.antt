-- By one plan a batch has one lesson, and the pieces of a lesson, joined, are its bytes.
use Rattle.std.proofs.Common.{◌≡◌, ◌∙◌, ◌≤◌, ◌++◌, ℕ, Bool, true, false, List, [], ◌∷◌, Option, Some, None, ap, arith, subst, sym}
use Rattle.std.specs.Prelude.{flat_map}
use Rattle.table_types.specs.declared.update.Update.{Update}
use Rattle.table_types.specs.Tables.{Definition}
use Rattle.peers_msg.specs.declared.name_field.NameField.{NameField}
use Rattle.peers_msg.specs.declared.name_field.NameField.TheVariants as names
use Rattle.peers_msg.specs.declared.message.Message.{Message}
use Rattle.peers_msg.specs.Spelling.{spelled, stream_of}
use Rattle.known_state.specs.State.{State, Step, Teaches}
use Rattle.known_state.specs.Known.{KnownState}
use Rattle.known_state.specs.Plans.{Plan}
use Rattle.known_state.proofs.StepIsDeterministic.{one_step, one_lesson}
use Rattle.teach_writer.specs.declared.lesson.Lesson.{Lesson}
use Rattle.teach_writer.specs.Lessons.{plan_of}
use Rattle.teach_writer.specs.Naming.{IsNamed, marks_after, starts_after}
use Rattle.teach_writer.specs.Pieces.{ArePieces, Left, bytes_left, plan_left}
use Rattle.teach_writer.specs.Planning.{IsLessonBy}
use Rattle.teach_writer.specs.Sending.{AreSent, IsSent, is_stored, selection, slot_of, update_sent}

-- a name is sent in one field
one_field : (starts : List ℕ → Option ℕ) (us : List Update) (marks : List Bool) (stored : Bool) (name : Option (List ℕ)) (f g : NameField) → IsNamed starts us marks stored name f → IsNamed starts us marks stored name g → f ≡ g
one_field starts us marks true None f g is also = is ∙ sym also
one_field starts us marks false None f g is also = is ∙ sym also
one_field starts us [] stored (Some name) names.NotStored g is also = absurd is
one_field starts us [] stored (Some name) names.NoName g is also = absurd is
one_field starts us [] stored (Some name) (names.Held slot) g is also = absurd is
one_field starts us [] stored (Some name) (names.Written slot written) g is also = absurd is
one_field starts us (true ∷ marks) stored (Some name) names.NotStored g is also = absurd is
one_field starts us (true ∷ marks) stored (Some name) names.NoName g is also = absurd is
one_field starts us (true ∷ marks) stored (Some name) (names.Written slot written) g is also = absurd is
one_field starts us (true ∷ marks) stored (Some name) (names.Held slot) names.NotStored is also = absurd also
one_field starts us (true ∷ marks) stored (Some name) (names.Held slot) names.NoName is also = absurd also
one_field starts us (true ∷ marks) stored (Some name) (names.Held slot) (names.Written other written) is also = absurd also
one_field starts us (true ∷ marks) stored (Some name) (names.Held slot) (names.Held other) is also =
    let both : Some slot ≡ Some other = sym is ∙ also in
    let same : slot ≡ other = cc in
    ap (λ (n : ℕ). names.Held n) same
one_field starts us (false ∷ marks) stored (Some name) names.NotStored g is also = absurd is
one_field starts us (false ∷ marks) stored (Some name) names.NoName g is also = absurd is
one_field starts us (false ∷ marks) stored (Some name) (names.Held slot) g is also = absurd is
one_field starts us (false ∷ marks) stored (Some name) (names.Written slot written) names.NotStored is also = absurd also
one_field starts us (false ∷ marks) stored (Some name) (names.Written slot written) names.NoName is also = absurd also
one_field starts us (false ∷ marks) stored (Some name) (names.Written slot written) (names.Held other) is also = absurd also
one_field starts us (false ∷ marks) stored (Some name) (names.Written slot written) (names.Written other text) (is, open_here, least) (also, open_there, lowest) =
    let below : slot ≤ other = least other open_there in
    let above : other ≤ slot = lowest slot open_here in
    let same : slot ≡ other = omega arith in
    ap (λ (n : ℕ). names.Written n written) same ∙ ap (λ (bytes : List ℕ). names.Written other bytes) (is ∙ sym also)

-- an update is sent with one field by one list of messages
one_sent : (roster : List Definition) (s a b : State) (u : Update) (field : NameField) (ms ns : List Message) → IsSent roster s u field ms a → IsSent roster s u field ns b → (ms ≡ ns) × (a ≡ b)
one_sent roster s a b u field ms ns (d, mid, listed, chosen, step, is) (other, there, found, taught, made, also) =
    let both : Some d ≡ Some other = sym listed ∙ found in
    let same : other ≡ d = cc in
    let at : there ≡ mid = (one_lesson s there mid (selection s.received d) [] [] (subst (λ (x : Definition). Teaches s (selection s.received x) [] there) same taught) chosen).1 in
    let made_here : Step mid (update_sent mid field u) (u ∷ []) b = subst (λ (x : State). Step x (update_sent x field u) (u ∷ []) b) at made in
    let messages : ns ≡ selection s.received d ++ update_sent mid field u ∷ [] =
    also ∙ ap (λ (x : Definition). selection s.received x ++ update_sent there field u ∷ []) same ∙ ap (λ (x : State). selection s.received d ++ update_sent x field u ∷ []) at in
    (is ∙ sym messages, (one_step mid a b (update_sent mid field u) (u ∷ []) (u ∷ []) step made_here).1)

-- with the same requests kept, updates are sent by one list of messages
pub one_sending : (roster : List Definition) (s a b : State) (starts : List ℕ → Option ℕ) (us : List Update) (marks : List Bool) (ms ns : List Message) → AreSent roster s starts us marks ms a → AreSent roster s starts us marks ns b → (ms ≡ ns) × (a ≡ b)
one_sending roster s a b starts [] marks ms ns (none, empty, same) (nothing, nil, alike) = (empty ∙ sym nil, same ∙ sym alike)
one_sending roster s a b starts (u ∷ us) marks ms ns (field, first, mid, rest, sent, named, more, is) (other, begin, there, others, found, called, later, also) =
    let fields : other ≡ field = one_field starts (u ∷ us) marks (is_stored roster u) u.name other field called named in
    let one = one_sent roster s mid there u field first begin sent (subst (λ (f : NameField). IsSent roster s u f begin there) fields found) in
    let here : AreSent roster there (starts_after starts u.name (slot_of field)) us (marks_after u.name marks) others b = subst (λ (f : NameField). AreSent roster there (starts_after starts u.name (slot_of f)) us (marks_after u.name marks) others b) fields later in
    let from_mid : AreSent roster mid (starts_after starts u.name (slot_of field)) us (marks_after u.name marks) others b = subst (λ (x : State). AreSent roster x (starts_after starts u.name (slot_of field)) us (marks_after u.name marks) others b) (sym one.1) here in
    let tail = one_sending roster mid a b (starts_after starts u.name (slot_of field)) us (marks_after u.name marks) rest others more from_mid in
    (is ∙ ap (λ (l : List Message). l ++ rest) one.0 ∙ ap (λ (l : List Message). begin ++ l) tail.0 ∙ sym also, tail.1)

-- so a plan has one lesson
pub one_lesson_by : (k : KnownState) (us : List Update) (plan : Plan) (bytes others : List ℕ) (after end : State) → IsLessonBy plan k us bytes after → IsLessonBy plan k us others end → (bytes ≡ others) × (after ≡ end)
one_lesson_by k us plan bytes others after end (accepted, (ms, sent, is)) (also, (ns, found, are)) =
    let one = one_sending k.roster k.state after end _ us plan.keep ms ns sent found in
    (is ∙ ap (λ (l : List Message). stream_of l) one.0 ∙ sym are, one.1)

-- the pieces that are left, joined, are the bytes that are left, and they change nothing of the whole lesson
pub pieces_joined : (left end : Left) (pieces : List (List ℕ)) → ArePieces left pieces end → (flat_map (λ piece. piece) pieces ≡ bytes_left left) × (plan_left end ≡ plan_left left) × (end.known ≡ left.known)
pieces_joined left end [] (none, is) = (sym (ap (λ (ms : List Message). stream_of ms) none), ap plan_left is, ap (λ (l : Left). l.known) is)
pieces_joined left end (piece ∷ pieces) (mid, (m, is, first, ended, keep, prices, known), more) =
    let rest = pieces_joined mid end pieces more in
    let here : bytes_left left ≡ spelled m ++ bytes_left mid = ap (λ (ms : List Message). stream_of ms) first in
    let plans : plan_left mid ≡ plan_left left = ap (λ (l : List Bool). record { keep = l; prices = mid.prices }) keep ∙ ap (λ (l : List ℕ). record { keep = left.keep; prices = l }) prices in
    (ap (λ (l : List ℕ). l ++ flat_map (λ x. x) pieces) is ∙ ap (λ (l : List ℕ). spelled m ++ l) rest.0 ∙ sym here, rest.1 ∙ plans, rest.2 ∙ known)

-- and are the bytes of the lesson by the same plan
pub pieces_of_lesson : (k : KnownState) (us : List Update) (lesson : Lesson) (left end : Left) (pieces : List (List ℕ)) → IsLessonBy (plan_of lesson) k us lesson.bytes lesson.known.state → IsLessonBy (plan_left left) k us (bytes_left left) left.known.state → plan_left left ≡ plan_of lesson → ArePieces left pieces end
    → (flat_map (λ piece. piece) pieces ≡ lesson.bytes) × (end.known.state ≡ lesson.known.state)
pieces_of_lesson k us lesson left end pieces whole parts same are =
    let joined = pieces_joined left end pieces are in
    let one = one_lesson_by k us (plan_of lesson) (bytes_left left) lesson.bytes left.known.state lesson.known.state (subst (λ (plan : Plan). IsLessonBy plan k us (bytes_left left) left.known.state) same parts) whole in
    (joined.0 ∙ one.0, ap (λ (known : KnownState). known.state) joined.2 ∙ one.1)
