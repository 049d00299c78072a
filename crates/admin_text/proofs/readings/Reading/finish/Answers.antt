use Rattle.std.proofs.Common.{◌≡◌, ◌∙◌, ◌-◌, ◌++◌, ap, arith, length, map, subst, sym, take, true≢false}
use Rattle.admin_text.specs.Refusals.{IsRefusalOf, head_of, lacking_head, lacking_of}
use Rattle.admin_text.specs.SaidLines.{AreLines}
use Rattle.admin_text.specs.Statements.{said_by}
use Rattle.admin_text.specs.Warnings.{AreWarningsBeside}
use Rattle.admin_text.specs.declared.refusals.Refusal.{Refusal}
use Rattle.admin_text.proofs.OneReading.{faultless_read, none_named, not_refused, nothing_lacks}
use Rattle.admin_text.proofs.PlaceLaws.{warned_without}
use Rattle.admin_text.proofs.readings.Reading.finish.Goals as goal

pub returns-then-names_fault-clause-taken : goal.returns-then-names_fault-clause-taken
returns-then-names_fault-clause-taken c =
    let refusal : Refusal
    = record { faults = c.args.self.faults; lacking = c.in_ok-lacking.lacking; warnings = c.in_ok-warnings.warnings; said = c.push_lines.new.text } in
    let lines = map said_by c.args.lines.now in
    let long : c.len.result ≡ length c.args.self.faults.items = omega (arith, c.len.ensures, c.args.self.faults.ok.0) in
    let heads = map head_of c.args.self.faults.items in
    let is : IsRefusalOf lines refusal
    = record {
      faults = c.requires.faults;
      lacking = c.in_ok-lacking.ensures ∙ ap (λ found. take (20 - c.len.result) (lacking_of found lines)) c.as_slice.ensures.value
          ∙ ap (λ n. take (20 - n) (lacking_of c.args.self.faults.items lines)) long;
      warnings = subst (λ found. AreWarningsBeside found lines c.in_ok-warnings.warnings) c.as_slice-3.ensures.value c.in_ok-warnings.ensures;
      said = (
        c.push_lacking.new.said.items,
        subst (λ kinds. AreLines (heads ++ map lacking_head kinds) c.push_lacking.new.said.items) c.as_slice-2.ensures.value
            (c.in_ok-push_lacking.ensures heads c.requires.said),
        c.in_ok-push_lines.ensures ∙ ap (λ more. c.push_lacking.new.said.items ++ more) c.as_slice-4.ensures.value,
      );
    } in
    λ taken. absurd (not_refused lines refusal taken is (sym c.names_fault.ensures ∙ c.if-names_fault.true))

pub returns-clause-said : goal.returns-clause-said
returns-clause-said c =
    let refusal : Refusal
    = record { faults = c.args.self.faults; lacking = c.in_ok-lacking.lacking; warnings = c.in_ok-warnings.warnings; said = c.push_lines.new.text } in
    let (none, nothing) = none_named refusal (sym c.names_fault.ensures ∙ c.if-names_fault.false) in
    let (fresh, is, adds) = c.requires.added none in
    (fresh, c.args.self.so_far, is, adds, c.in-Some.ensures.all)

pub returns-clause-warned : goal.returns-clause-warned
returns-clause-warned c =
    let refusal : Refusal
    = record { faults = c.args.self.faults; lacking = c.in_ok-lacking.lacking; warnings = c.in_ok-warnings.warnings; said = c.push_lines.new.text } in
    let (none, nothing) = none_named refusal (sym c.names_fault.ensures ∙ c.if-names_fault.false) in
    let lines = map said_by c.args.lines.now in
    warned_without c.args.self.faults.items lines c.in_ok-warnings.warnings none
    (subst (λ found. AreWarningsBeside found lines c.in_ok-warnings.warnings) c.as_slice-3.ensures.value c.in_ok-warnings.ensures)

pub returns-clause-faultless : goal.returns-clause-faultless
returns-clause-faultless c =
    let refusal : Refusal
    = record { faults = c.args.self.faults; lacking = c.in_ok-lacking.lacking; warnings = c.in_ok-warnings.warnings; said = c.push_lines.new.text } in
    let (none, nothing) = none_named refusal (sym c.names_fault.ensures ∙ c.if-names_fault.false) in
    let lines = map said_by c.args.lines.now in
    let long : c.len.result ≡ length c.args.self.faults.items = omega (arith, c.len.ensures, c.args.self.faults.ok.0) in
    faultless_read lines c.args.self c.in_ok-lacking.lacking.items c.requires
    (c.in_ok-lacking.ensures ∙ ap (λ found. take (20 - c.len.result) (lacking_of found lines)) c.as_slice.ensures.value
    ∙ ap (λ n. take (20 - n) (lacking_of c.args.self.faults.items lines)) long) none nothing

pub unreachable-requires : goal.unreachable-requires
unreachable-requires c =
    let refusal : Refusal
    = record { faults = c.args.self.faults; lacking = c.in_ok-lacking.lacking; warnings = c.in_ok-warnings.warnings; said = c.push_lines.new.text } in
    let (none, nothing) = none_named refusal (sym c.names_fault.ensures ∙ c.if-names_fault.false) in
    let lines = map said_by c.args.lines.now in
    let long : c.len.result ≡ length c.args.self.faults.items = omega (arith, c.len.ensures, c.args.self.faults.ok.0) in
    let (faultless, there) = faultless_read lines c.args.self c.in_ok-lacking.lacking.items c.requires
    (c.in_ok-lacking.ensures ∙ ap (λ found. take (20 - c.len.result) (lacking_of found lines)) c.as_slice.ensures.value
    ∙ ap (λ n. take (20 - n) (lacking_of c.args.self.faults.items lines)) long) none nothing in
    true≢false (sym (nothing_lacks lines c.args.self.so_far (c.requires.needed none) there) ∙ sym c.in-None.ensures.exactly)
