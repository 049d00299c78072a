-- Words that write no change.
use Rattle.std.proofs.Common.{◌≡◌, ◌==◌, ◌-◌, ◌^◌, true, false, ℕ, List, [], ◌∷◌, length, subst}
use Rattle.std.specs.Prelude.{None, Some, codes}
use Rattle.table_types.specs.declared.change.Change.TheVariants as changes
use Rattle.table_types.specs.declared.data_type.DataType.{DataType}
use Rattle.table_types.specs.DataTypes.{name_of}
use Rattle.table_types.specs.Names.{is_name}
use Rattle.node_text.specs.Changes.{IsNoChange}
use Rattle.node_text.specs.Names.{may_name}
use Rattle.node_text.specs.Numbers.{number_of}

-- two words are no change unless they are one of the name
pub no_name : (kind word : List ℕ) → (kind ≡ codes "name" → word ≡ codes "-" → ⊥)
    → (kind ≡ codes "name" → is_name word ≡ true → may_name word ≡ true → ⊥) → IsNoChange (kind ∷ word ∷ [])
no_name kind word none some (changes.Add t n) (last, same, is) = absurd (cc)
no_name kind word none some (changes.Take t n) (last, same, is) = absurd (cc)
no_name kind word none some (changes.Put t n) (last, same, is) = absurd (cc)
no_name kind word none some (changes.AddRate t n) (last, same, is) = absurd (cc)
no_name kind word none some (changes.SetName None) same = none (cc) (cc)
no_name kind word none some (changes.SetName (Some name)) (same, named, may) =
    let is : name ≡ word = cc in
    some (cc) (subst (λ n. is_name n ≡ true) is named) (subst (λ n. may_name n ≡ true) is may)

-- three words are no change unless they are one of a number
pub no_number : (kind type word : List ℕ)
    → ((t : DataType) (n : ℕ) → name_of t ≡ type → kind ≡ codes "add" → number_of word (2 ^ 64 - 1) ≡ Some n → ⊥)
    → ((t : DataType) (n : ℕ) → name_of t ≡ type → kind ≡ codes "take" → number_of word (2 ^ 64 - 1) ≡ Some n → ⊥)
    → ((t : DataType) (n : ℕ) → name_of t ≡ type → kind ≡ codes "put" → number_of word (2 ^ 64 - 1) ≡ Some n → ⊥)
    → ((t : DataType) (n : ℕ) → name_of t ≡ type → kind ≡ codes "rate" → number_of word (2 ^ 32 - 1) ≡ Some n → ⊥)
    → IsNoChange (kind ∷ type ∷ word ∷ [])
no_number kind type word add take put rate (changes.Add t n) (last, same, is) =
    let own : last ≡ word = cc in add t n (cc) (cc) (subst (λ w. number_of w (2 ^ 64 - 1) ≡ Some n) own is)
no_number kind type word add take put rate (changes.Take t n) (last, same, is) =
    let own : last ≡ word = cc in take t n (cc) (cc) (subst (λ w. number_of w (2 ^ 64 - 1) ≡ Some n) own is)
no_number kind type word add take put rate (changes.Put t n) (last, same, is) =
    let own : last ≡ word = cc in put t n (cc) (cc) (subst (λ w. number_of w (2 ^ 64 - 1) ≡ Some n) own is)
no_number kind type word add take put rate (changes.AddRate t n) (last, same, is) =
    let own : last ≡ word = cc in rate t n (cc) (cc) (subst (λ w. number_of w (2 ^ 32 - 1) ≡ Some n) own is)
no_number kind type word add take put rate (changes.SetName None) same = absurd (cc)
no_number kind type word add take put rate (changes.SetName (Some name)) (same, named, may) = absurd (cc)

-- neither two words nor three are a change
never : true ≡ false → ⊥
never same = absurd (cc)

pub other_count : (words : List (List ℕ)) → (length words == 2) ≡ false → (length words == 3) ≡ false → IsNoChange words
other_count words two three (changes.Add t n) (last, same, is) = never (subst (λ ws. (length ws == 3) ≡ false) same three)
other_count words two three (changes.Take t n) (last, same, is) = never (subst (λ ws. (length ws == 3) ≡ false) same three)
other_count words two three (changes.Put t n) (last, same, is) = never (subst (λ ws. (length ws == 3) ≡ false) same three)
other_count words two three (changes.AddRate t n) (last, same, is) = never (subst (λ ws. (length ws == 3) ≡ false) same three)
other_count words two three (changes.SetName None) same = never (subst (λ ws. (length ws == 2) ≡ false) same two)
other_count words two three (changes.SetName (Some name)) (same, named, may) = never (subst (λ ws. (length ws == 2) ≡ false) same two)
