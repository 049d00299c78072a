use Rattle.std.proofs.Common.{◌≡◌, arith, sym, ◌∙◌}
use Rattle.std.specs.Prelude.{Some, None}
use Rattle.std.specs.Str.Parse.{ParsesUnsigned, ExplainsUnsignedError, HasUnsignedDigitsIfOk}
use Rattle.clap.specs.Words.{found_of, rows_of}
use Rattle.peers_node.proofs.Numbers.{number_is_read, number_read, number_within, same_number}
use Rattle.peers_node.proofs.command_line.number_met.Goals as goal

pub returns-in-Some-clause-some : goal.returns-in-Some-clause-some
returns-in-Some-clause-some c =
    number_read (λ bs r. ParsesUnsigned 32 10 bs r × ExplainsUnsignedError 10 bs r × HasUnsignedDigitsIfOk bs r) (λ t r g. g.0) (found_of c.args.matches.now) c.args.option.now c.args.most c.in-Some.number c.in-Some.ensures.none c.in-Some.ensures.value c.if-number-ge1.true c.if-number-most.true

pub returns-in_default-clause-none : goal.returns-in_default-clause-none
returns-in_default-clause-none c = λ _ n has.
    let small = c.ranges.most.fits in
    let read = number_is_read (λ bs r. ParsesUnsigned 32 10 bs r × ExplainsUnsignedError 10 bs r × HasUnsignedDigitsIfOk bs r) (λ t r g. g.0) (found_of c.args.matches.now) c.args.option.now c.args.most n (Some c.in-Some.number) (omega (arith, small)) c.in-Some.ensures.value has in
    let same = same_number c.in-Some.number n read in
    let within = number_within (rows_of (found_of c.args.matches.now)) c.args.option.now c.args.most n has in
    absurd (omega (arith, same, within.0, within.1, c.if-number-most.false))

pub returns-in_default-2-clause-none : goal.returns-in_default-2-clause-none
returns-in_default-2-clause-none c = λ _ n has.
    let small = c.ranges.most.fits in
    let read = number_is_read (λ bs r. ParsesUnsigned 32 10 bs r × ExplainsUnsignedError 10 bs r × HasUnsignedDigitsIfOk bs r) (λ t r g. g.0) (found_of c.args.matches.now) c.args.option.now c.args.most n (Some c.in-Some.number) (omega (arith, small)) c.in-Some.ensures.value has in
    let same = same_number c.in-Some.number n read in
    let within = number_within (rows_of (found_of c.args.matches.now)) c.args.option.now c.args.most n has in
    absurd (omega (arith, same, within.0, within.1, c.if-number-ge1.false))

pub returns-in_default-3-clause-none : goal.returns-in_default-3-clause-none
returns-in_default-3-clause-none c = λ _ n has.
    let small = c.ranges.most.fits in
    let read = number_is_read (λ bs r. ParsesUnsigned 32 10 bs r × ExplainsUnsignedError 10 bs r × HasUnsignedDigitsIfOk bs r) (λ t r g. g.0) (found_of c.args.matches.now) c.args.option.now c.args.most n c.get_one.result (omega (arith, small)) c.get_one.ensures.value has in
    let gone : None ≡ Some n = sym c.in_default.is ∙ read in
    absurd (cc)
