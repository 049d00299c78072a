-- Whether a table was left, as the progress notes it.
use Rattle.std.proofs.Common.{◌≡◌, ℕ, Bool, true, false, ◌==◌, ◌&&◌, ◌||◌, List, [], ◌∷◌, map, refl, sym, ap, ◌∙◌, if◌then◌else◌}
use Rattle.std.specs.Prelude.{is_none, nat_le}
use Rattle.std.specs.List.{list_any}
use Rattle.std.proofs.lemmas.Bool.{and_parts, eq-eqb, eqb-true, false≢true}
use Rattle.session_core.specs.declared.action.Action.{Action}
use Rattle.session_core.specs.declared.action.Action.TheVariants as actions
use Rattle.session_core.specs.declared.progress.Progress.{Progress}
use Rattle.session_core.specs.declared.share.Share.{Share}
use Rattle.session_core.specs.Paces.{copied_in, has_left, has_passed, is_overdue, leaving_time, left_in, noted, noted_one, tables_to_leave, with_ack, with_copy, with_leave, with_row}
use Rattle.session_core.specs.Standing.{any_left}

-- ---- what leaves no table

either_left : (b : Bool) (x y p : Progress) → x.left ≡ p.left → y.left ≡ p.left → (if b then x else y).left ≡ p.left
either_left true x y p one other = one
either_left false x y p one other = other

mapped_left : (f : Progress → Progress) → ((p : Progress) → (f p).left ≡ p.left) → (ps : List Progress) → has_left (map f ps) ≡ has_left ps
mapped_left f keeps [] = refl
mapped_left f keeps (p ∷ ps) = ap (λ (b : Bool). b || has_left (map f ps)) (keeps p) ∙ ap (λ (b : Bool). p.left || b) (mapped_left f keeps ps)

pub copied_left : (table number now : ℕ) (ps : List Progress) → has_left (copied_in table number now ps) ≡ has_left ps
copied_left table number now ps = mapped_left _ (λ p. either_left (p.table == table) (with_copy number now p) p p refl refl) ps

ack_left : (number : ℕ) (p : Progress) → (with_ack number p).left ≡ p.left
ack_left number p = either_left (nat_le number p.greatest) _ _ p refl refl

one_left : (action : Action) (ps : List Progress) → has_left (noted_one action ps) ≡ has_left ps
one_left (actions.Ack table number) ps = mapped_left _ (λ p. either_left (p.table == table) (with_ack number p) p p (ack_left number p) refl) ps
one_left (actions.Learn u) ps = mapped_left _ (λ p. either_left (p.table == u.table) (with_row u.number p) p p refl refl) ps
one_left (actions.Send bytes) ps = refl
one_left (actions.Reopen table) ps = refl
one_left (actions.Copy table kind) ps = refl
one_left (actions.Teach batch) ps = refl
one_left (actions.Part kind) ps = refl
one_left actions.Close ps = refl

pub noted_left : (acts : List Action) (ps : List Progress) → has_left (noted acts ps) ≡ has_left ps
noted_left [] ps = refl
noted_left (action ∷ acts) ps = noted_left acts (noted_one action ps) ∙ one_left action ps

-- ---- what leaves tables

or_true : (a b : Bool) → b ≡ true → (a || b) ≡ true
or_true true b so = refl
or_true false b so = so

or_grows : (a b c d : Bool) → (a ≡ true → c ≡ true) → (b ≡ true → d ≡ true) → (a || b) ≡ true → (c || d) ≡ true
or_grows true b c d one other so = ap (λ (x : Bool). x || d) (one refl)
or_grows false b c d one other so = or_true c d (other so)

kept_left : (b : Bool) (p : Progress) → p.left ≡ true → (if b then with_leave p else p).left ≡ true
kept_left true p so = refl
kept_left false p so = so

stays_left : (left : List ℕ) (ps : List Progress) → has_left ps ≡ true → has_left (left_in left ps) ≡ true
stays_left left [] so = so
stays_left left (p ∷ ps) so = or_grows p.left (has_left ps) _ (has_left (left_in left ps)) (kept_left (list_any (λ table. table == p.table) left) p) (stays_left left ps) so

left_now : (b : Bool) (p : Progress) → b ≡ true → (if b then with_leave p else p).left ≡ true
left_now true p so = refl
left_now false p so = absurd (false≢true so)

-- an entry of the table is left
entry_left : (P : Progress → Bool) (table : ℕ) (tables : List ℕ) → ((p : Progress) → P p ≡ true → p.table ≡ table) → (ps : List Progress) → list_any P ps ≡ true → has_left (left_in (table ∷ tables) ps) ≡ true
entry_left P table tables same [] so = absurd (false≢true so)
entry_left P table tables same (p ∷ ps) so =
    or_grows (P p) (list_any P ps) _ (has_left (left_in (table ∷ tables) ps))
    (λ is. left_now (list_any (λ other. other == p.table) (table ∷ tables)) p (ap (λ (b : Bool). b || list_any (λ other. other == p.table) tables) (eq-eqb table p.table (sym (same p is)))))
    (entry_left P table tables same ps) so

-- the first table to leave is an overdue one
abbrev HasOverdue : ℕ → List Progress → ℕ → Type 0
HasOverdue now ps table = (s : Share) × (s.table ≡ table) × (is_overdue now ps s ≡ true)

heads_same : (one other : ℕ) (ones others : List ℕ) → one ∷ ones ≡ other ∷ others → one ≡ other
heads_same one other ones others is = cc

first_overdue : (now : ℕ) (ps : List Progress) (ss : List Share) (table : ℕ) (tables : List ℕ) → tables_to_leave now ps ss ≡ table ∷ tables → HasOverdue now ps table
first_overdue now ps [] table tables is = absurd cc
first_overdue now ps (s ∷ ss) table tables is = by (first_overdue now ps ss table tables) (is_overdue now ps s) refl is
  where
    by : (tables_to_leave now ps ss ≡ table ∷ tables → HasOverdue now ps table) → (b : Bool) → is_overdue now ps s ≡ b → (if b then s.table ∷ tables_to_leave now ps ss else tables_to_leave now ps ss) ≡ table ∷ tables → HasOverdue now ps table
    by rest true so first = (s, heads_same s.table table (tables_to_leave now ps ss) tables first, so)
    by rest false so first = rest first

overdue_left : (now : ℕ) (ps : List Progress) (s : Share) (table : ℕ) (tables : List ℕ) → s.table ≡ table → is_overdue now ps s ≡ true → has_left (left_in (table ∷ tables) ps) ≡ true
overdue_left now ps s table tables is overdue =
    entry_left (λ p. p.table == s.table && is_none p.acknowledged && has_passed leaving_time p.since now) table tables
    (λ p so. eqb-true p.table s.table (and_parts (p.table == s.table) (is_none p.acknowledged) (and_parts (p.table == s.table && is_none p.acknowledged) (has_passed leaving_time p.since now) so).0).0 ∙ is)
    ps (and_parts s.out (list_any (λ p. p.table == s.table && is_none p.acknowledged && has_passed leaving_time p.since now) ps) overdue).1

-- if a table was left before or is to be left, the progress notes it
pub left_noted : (was : Bool) (now : ℕ) (left : List ℕ) (ps : List Progress) (ss : List Share) → left ≡ tables_to_leave now ps ss → (was ≡ true → has_left ps ≡ true) → (was || any_left left) ≡ true → has_left (left_in left ps) ≡ true
left_noted true now [] ps ss is marked so = stays_left [] ps (marked refl)
left_noted false now [] ps ss is marked so = absurd (false≢true so)
left_noted was now (table ∷ tables) ps ss is marked so =
    let first = first_overdue now ps ss table tables (sym is) in
    overdue_left now ps first.0 table tables first.1 first.2
