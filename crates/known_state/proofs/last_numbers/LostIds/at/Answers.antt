use Rattle.std.proofs.Common.{◌≡◌, ℕ, not, Some, None, arith, rules}
use Rattle.table_types.specs.Rosters.{table_at}
use Rattle.peers_msg.specs.Received.{table_named}
use Rattle.known_state.specs.LastNumbers.{keeps_last, is_lost}
use Rattle.known_state.proofs.LastNumbersInMap.{filter_same}
use Rattle.known_state.proofs.LostLastNumbers.{none_lost, two_lost, one_lost}
use Rattle.known_state.proofs.last_numbers.LostIds.at.Goals as goal

pub returns-in_default : goal.returns-in_default
returns-in_default c = λ numbers.
    let new = c.args.new.now in
    let ds = c.args.received.now.tables in
    let own : c.id-id.result ≡ new.id = omega arith in
    let named : table_named ds new.name ≡ None = search rules in
    filter_same (λ id. not (is_lost (record { defined = Some c.id-id.result; other = None }) id)) (λ id. keeps_last new (table_at ds id) id) numbers (λ id. one_lost new ds c.named.ensures.distinct c.id-id.result id own named)

pub returns-then-named-id : goal.returns-then-named-id
returns-then-named-id c = λ numbers.
    let new = c.args.new.now in
    let ds = c.args.received.now.tables in
    let d = c.in-Some.table.now in
    let named : table_named ds new.name ≡ Some d = search rules in
    let same : d.id ≡ new.id = omega arith in
    filter_same (λ id. not (is_lost (record { defined = None; other = None }) id)) (λ id. keeps_last new (table_at ds id) id) numbers (λ id. none_lost new ds c.named.ensures.distinct d id named same)

pub returns : goal.returns
returns c = λ numbers.
    let new = c.args.new.now in
    let ds = c.args.received.now.tables in
    let d = c.in-Some.table.now in
    let own : c.id-id.result ≡ new.id = omega arith in
    let other : c.id-named.result ≡ d.id = omega arith in
    let named : table_named ds new.name ≡ Some d = search rules in
    filter_same (λ id. not (is_lost (record { defined = Some c.id-id.result; other = Some c.id-named.result }) id)) (λ id. keeps_last new (table_at ds id) id) numbers
    (λ id. two_lost new ds c.named.ensures.distinct c.id-id.result c.id-named.result d id own other named (λ same. omega arith))
