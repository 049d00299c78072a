use Rattle.std.proofs.Common.{◌∙◌, ◌++◌, ap, map, sym}
use Rattle.admin_text.specs.Statements.{said_by}
use Rattle.admin_text.specs.Warnings.{line_warnings, may_use_section, warned}
use Rattle.admin_text.proofs.PlaceLaws.{next_warnings, no_warnings}
use Rattle.admin_text.proofs.warnings.warnings_among.Goals.{then-not-names_line+in_ok-note_line, else-not-names_line}
use Rattle.admin_text.proofs.warnings.warnings_among.Goals as goal

pub loop-line-preserved : goal.loop-line-preserved
loop-line-preserved c =
    let line = c.line-item.result in
    let words = map (λ word. word.now) line.words.items in
    let found = c.loop-line.warnings.lines.items in
    let places = c.in_ok-all.all.items in
    let some = may_use_section (map said_by c.args.lines.now) in
    elim c.if-not-names_line.branch [
      | then-not-names_line+in_ok-note_line w ↦
          let (place, outside, is, away, pushed) = w.in_ok-note_line.ensures.listed in
          record {
            places = c.loop-line.invariant.places;
            warned = rw w.warnings-is
                (next_warnings places some c.args.faults.now c.args.lines.now c.loop-line.line-index line place outside found w.note_line.new.self.lines.items
                c.loop-line-test.true c.line-item.is (sym c.names_line.ensures ∙ w.if-not-names_line.true) c.loop-line.invariant.warned is away
                (pushed
                ∙ (ap (λ all. found ++ warned line.number (line_warnings all c.may_use_section-some.result place outside words)) w.as_slice.ensures.value
                ∙ ap (λ has. found ++ warned line.number (line_warnings places has place outside words)) c.may_use_section-some.ensures)));
            said = rw w.warnings-is (w.in_ok-note_line.ensures.said c.loop-line.invariant.said);
          }
      | else-not-names_line w ↦ record {
        places = c.loop-line.invariant.places;
        warned = rw w.warnings-is
            (no_warnings places some c.args.faults.now c.args.lines.now c.loop-line.line-index line found c.loop-line-test.true c.line-item.is
            (sym c.names_line.ensures ∙ w.if-not-names_line.false) c.loop-line.invariant.warned);
        said = rw w.warnings-is c.loop-line.invariant.said;
      }
    ]
