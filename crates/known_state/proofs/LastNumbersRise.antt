-- Last numbers stay in ascending order of id.
use Rattle.std.proofs.Common.{◌≡◌, ℕ, ◌<◌, ◌≤◌, Bool, true, false, cond, eqb, List, [], ◌∷◌, refl, sym, ap, subst, inl, inr, arith}
use Rattle.std.specs.Prelude.{filter, nat_lt, Result, Ok, Err, OnOk, OnErr}
use Rattle.std.specs.List.{AllByRecursion}
use Rattle.std.proofs.lemmas.Bool.{cases_eq, cases_lt, eq-eqb, ne_eqb, lt-ltb, le-ltb}
use Rattle.table_types.specs.declared.update.Update.{Update}
use Rattle.peers_msg.specs.declared.message.Message.{Message}
use Rattle.peers_msg.specs.declared.message.Message.TheVariants as messages
use Rattle.known_state.specs.State.{State, Step}
use Rattle.known_state.specs.LastNumbers.{set_last, AreRising}

-- last numbers of greater ids
abbrev AreAbove : ℕ → List (ℕ × ℕ) → Type 0
AreAbove id ls = AllByRecursion (λ l. id < l.0) ls

above-filter : (id : ℕ) (p : (ℕ × ℕ) → Bool) (ls : List (ℕ × ℕ)) → AreAbove id ls → AreAbove id (filter p ls)
above-filter id p [] above = tt
above-filter id p (l ∷ ls) above =
    let others = above-filter id p ls above.1 in
    elim (p l) as (λ b. AreAbove id (cond b (l ∷ filter p ls) (filter p ls))) [ true ↦ (above.0, others) | false ↦ others ]

above-lower : (low id : ℕ) (ls : List (ℕ × ℕ)) → low < id → AreAbove id ls → AreAbove low ls
above-lower low id [] lt above = tt
above-lower low id (l ∷ ls) lt above =
    let first : id < l.0 = above.0 in
    (omega arith, above-lower low id ls lt above.1)

above-put : (low id n : ℕ) (ls : List (ℕ × ℕ)) → low < id → AreAbove low ls → AreAbove low (set_last id n ls)
above-put low id n [] lt above = (lt, tt)
above-put low id n (l ∷ ls) lt above =
    elim (eqb l.0 id) as (λ b. AreAbove low (cond b ((id, n) ∷ ls) (cond (nat_lt id l.0) ((id, n) ∷ (l ∷ ls)) (l ∷ set_last id n ls)))) [
      | true ↦ (lt, above.1)
      | false ↦ elim (nat_lt id l.0) as (λ b. AreAbove low (cond b ((id, n) ∷ (l ∷ ls)) (l ∷ set_last id n ls))) [
        | true ↦ (lt, above)
        | false ↦ (above.0, above-put low id n ls lt above.1)
      ]
    ]

pub rising-filter : (p : (ℕ × ℕ) → Bool) (ls : List (ℕ × ℕ)) → AreRising ls → AreRising (filter p ls)
rising-filter p [] rise = tt
rising-filter p (l ∷ ls) rise =
    let others = rising-filter p ls rise.1 in
    elim (p l) as (λ b. AreRising (cond b (l ∷ filter p ls) (filter p ls))) [ true ↦ (above-filter l.0 p ls rise.0, others) | false ↦ others ]

pub rising-put : (id n : ℕ) (ls : List (ℕ × ℕ)) → AreRising ls → AreRising (set_last id n ls)
rising-put id n [] rise = (tt, tt)
rising-put id n (l ∷ ls) rise = elim (cases_eq l.0 id) [
  | inl same ↦ rw (eq-eqb l.0 id same) (subst (λ (low : ℕ). AreAbove low ls) same rise.0, rise.1)
  | inr other ↦ elim (cases_lt id l.0) [
    | inl lt ↦ rw (ne_eqb l.0 id other, lt-ltb id l.0 lt) ((lt, above-lower id l.0 ls lt rise.0), rise)
    | inr le ↦
        let above : l.0 < id = omega arith in
        rw (ne_eqb l.0 id other, le-ltb id l.0 le) (above-put l.0 id n ls above rise.0, rising-put id n ls rise.1)
  ]
]

-- a last number whose id is below all others comes first
put_first : (id n : ℕ) (ls : List (ℕ × ℕ)) → AreAbove id ls → set_last id n ls ≡ (id, n) ∷ ls
put_first id n [] above = refl
put_first id n (l ∷ ls) above =
    let lt : id < l.0 = above.0 in
    let apart : l.0 ≡ id → ⊥ = λ same. omega arith in
    rw (ne_eqb l.0 id apart, lt-ltb id l.0 lt) refl

-- if an id keeps its last number, that can be put before or after the others are dropped, with the same result
pub put-filter : (keeps : ℕ → Bool) (id n : ℕ) (ls : List (ℕ × ℕ)) → keeps id ≡ true → AreRising ls → filter (λ l. keeps l.0) (set_last id n ls) ≡ set_last id n (filter (λ l. keeps l.0) ls)
put-filter keeps id n [] kept rise = rw kept refl
put-filter keeps id n (l ∷ ls) kept rise = elim (cases_eq l.0 id) [
  | inl same ↦
      let here : keeps l.0 ≡ true = subst (λ (i : ℕ). keeps i ≡ true) (sym same) kept in
      rw (here, eq-eqb l.0 id same, kept) refl
  | inr other ↦ elim (cases_lt id l.0) [
    | inl lt ↦
        let whole : AreAbove id (l ∷ ls) = (lt, above-lower id l.0 ls lt rise.0) in
        let first = put_first id n (filter (λ l. keeps l.0) (l ∷ ls)) (above-filter id (λ l. keeps l.0) (l ∷ ls) whole) in
        rw (ne_eqb l.0 id other, lt-ltb id l.0 lt, kept) (sym first)
    | inr le ↦ rw (ne_eqb l.0 id other, le-ltb id l.0 le) (in_rest (keeps l.0) other le (put-filter keeps id n ls kept rise.1))
  ]
]
  where
    in_rest : (b : Bool) → (l.0 ≡ id → ⊥) → l.0 ≤ id → filter (λ x. keeps x.0) (set_last id n ls) ≡ set_last id n (filter (λ x. keeps x.0) ls)
        → cond b (l ∷ filter (λ x. keeps x.0) (set_last id n ls)) (filter (λ x. keeps x.0) (set_last id n ls)) ≡ set_last id n (cond b (l ∷ filter (λ x. keeps x.0) ls) (filter (λ x. keeps x.0) ls))
    in_rest true other le later = rw (ne_eqb l.0 id other, le-ltb id l.0 le) (ap (λ (xs : List (ℕ × ℕ)). l ∷ xs) later)
    in_rest false other le later = later

-- whether or not one was put
pub rising-put_or_not : {X E : Type 0} (result : Result X E) (id n : ℕ) (old new : List (ℕ × ℕ)) → OnOk result (new ≡ set_last id n old) → OnErr result (new ≡ old) → AreRising old → AreRising new
rising-put_or_not (Ok x) id n old new put stays rise = subst AreRising (sym put) (rising-put id n old rise)
rising-put_or_not (Err e) id n old new put stays rise = subst AreRising (sym stays) rise

-- and at each step
pub rising-step : (s e : State) (m : Message) (us : List Update) → AreRising s.last_numbers → Step s m us e → AreRising e.last_numbers
rising-step s e (messages.Update u) us rise step = subst AreRising (sym step.9) (rising-put step.1 step.3 s.last_numbers rise)
rising-step s e (messages.Define d) us rise step = subst (λ (x : State). AreRising x.last_numbers) (sym step.2) (rising-filter _ s.last_numbers rise)
rising-step s e (messages.Control c) us rise step = subst (λ (x : State). AreRising x.last_numbers) (sym step.2) rise
rising-step s e (messages.Error k) us rise step = subst (λ (x : State). AreRising x.last_numbers) (sym step.2) rise
rising-step s e (messages.Switch id) us rise step = subst (λ (x : State). AreRising x.last_numbers) (sym step.2) rise
rising-step s e (messages.Ack table number) us rise step = subst (λ (x : State). AreRising x.last_numbers) (sym step.2) rise
rising-step s e (messages.Other o) us rise step = subst (λ (x : State). AreRising x.last_numbers) (sym step.2) rise
