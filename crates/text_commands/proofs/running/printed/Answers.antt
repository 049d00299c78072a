use Rattle.std.proofs.Common.{◌≡◌, Err, Ok, Result, ap, sym, ◌∙◌}
use Rattle.std.specs.Result.{IsErrAnd}
use Rattle.text_commands.proofs.Printing.{calls_are, run_printed}
use Rattle.text_commands.proofs.running.printed.Goals as goal

same_error : {A E : Type 0} (a b : E) → ◌≡◌ {A = Result A E} (Err a) (Err b) → a ≡ b
same_error a b err = cc

-- an error that is handed on is the same, whatever the answer had been without it
handed_on : {A B E : Type 0} (r : Result A E) (e f : E) → IsErrAnd r (λ x. x ≡ e) → r ≡ Err f → ◌≡◌ {A = Result B E} (Err e) (Err f)
handed_on (Ok x) e f is err = absurd is
handed_on (Err x) e f is err = ap Err (sym is ∙ same_error x f err)

pub make_all-requires : goal.make_all-requires
make_all-requires c = calls_are c.requires.0 c.args.script.calls.items c.requires.1.calls

pub returns-in_err-make_all-clause-line : goal.returns-in_err-make_all-clause-line
returns-in_err-make_all-clause-line c = λ number is.
    c.in_err-make_all.ensures.line number (handed_on c.from_residual-in_err-make_all.result c.in_err-make_all.field-0.0 _ c.from_residual-in_err-make_all.ensures.1 is)

pub returns-in-None-clause-printed : goal.returns-in-None-clause-printed
returns-in-None-clause-printed c =
    run_printed c.args.script c.in_ok-cell_of.field-0 c.make_all.new.self.cell c.new.result.items c.new-2.result.items c.make_all.new.self.text.items
    c.in_ok-cell_of.ensures c.new.ensures.items c.new-2.ensures.items c.in-None.is c.in_ok-make_all.ensures.printed
