use Rattle.std.proofs.Common.{◌≡◌, ℕ, ◌+◌, ◌-◌, ◌<◌, Bool, false, List, Some, length, drop, get_or, nat_cmp, refl, ap, ◌∙◌, subst, rules, arith}
use Rattle.std.specs.BTreeMap as tree
use Rattle.std.specs.Cmp.Lexicographic.{slice_cmp}
use Rattle.std.proofs.lemmas.List.{length-set}
use Rattle.known_state.specs.Plans.{keeps_next}
use Rattle.teach_writer.specs.declared.next_requests.NextRequest.{NextRequest}
use Rattle.teach_writer.specs.NextRequests.{is_kept, is_first_kept, kept_next}
use Rattle.teach_writer.proofs.KeptNext.{kept_next-more, first_kept-more}
use Rattle.teach_writer.proofs.next_requests.next_kept.Goals as goal

pub loop-index-preserved : goal.loop-index-preserved
loop-index-preserved c =
    let rs = c.args.requests.now in
    let keep : List Bool = c.args.keep.now in
    let i = c.loop-index.index - 1 in
    let r = c.index-requests-index.result in
    let kept : Bool = get_or keep i false in
    let flag = c.is_kept.result in
    let next : NextRequest = record { index = i; kept = kept } in
    let before = c.loop-index.first in
    let place : c.loop-index.index ≡ i + 1 = omega arith in
    let lt : i < length rs = omega (arith, c.loop-index.invariant.within) in
    let later : (name : List ℕ) → is_first_kept before name ≡ keeps_next name (drop (i + 1) rs) (drop (i + 1) keep) = subst (λ (n : ℕ). (name : List ℕ) → is_first_kept before name ≡ keeps_next name (drop n rs) (drop n keep)) place c.loop-index.invariant.first in
    let flags : drop (i + 1) c.loop-index.next.items ≡ kept_next (drop (i + 1) rs) (drop (i + 1) keep) = subst (λ (n : ℕ). drop n c.loop-index.next.items ≡ kept_next (drop n rs) (drop n keep)) place c.loop-index.invariant.next in
    let name_is : c.as_slice.result.now ≡ r.name = search rules in
    let found : flag ≡ is_first_kept before r.name = c.is_kept.ensures ∙ ap is_kept c.in_ok-after.ensures.old ∙ ap (λ (n : List ℕ). is_first_kept before n) name_is in
    let put : tree.UpdatesBy (λ x y. slice_cmp nat_cmp x.now y.now) (λ k. slice_cmp nat_cmp r.name k.now) before c.insert.new.self (Some next) =
    subst (λ (n : List ℕ). tree.UpdatesBy (λ x y. slice_cmp nat_cmp x.now y.now) (λ k. slice_cmp nat_cmp n k.now) before c.insert.new.self (Some next)) name_is c.in_ok-after.ensures.updates in
    record {
      within = omega (arith, c.loop-index.invariant.within);
      long = length-set c.loop-index.next.items i flag ∙ c.loop-index.invariant.long;
      later = length-set c.loop-index.later.items i c.in_ok-after.after ∙ c.loop-index.invariant.later;
      next = kept_next-more rs keep c.loop-index.next.items i r kept flag lt c.requires c.loop-index.invariant.long c.index-requests-index.is refl (found ∙ later r.name) flags;
      first = first_kept-more rs keep i r next before c.insert.new.self lt c.requires c.index-requests-index.is refl put later;
    }
