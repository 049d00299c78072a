-- Words that write no key.
use Rattle.std.proofs.Common.{◌≡◌, ℕ, List, None, inl, inr}
use Rattle.table_types.specs.declared.key.Key.{Key}
use Rattle.table_types.specs.declared.key.KeyKind.{KeyKind}
use Rattle.node_text.specs.Calls.{any_key_of}
use Rattle.admin_port.specs.RequestKeys.{IsAddressKey, IsNoKey}

-- neither a key of a script nor an address
pub no_key : (kind : KeyKind) (word : List ℕ) → any_key_of kind word ≡ None → ((key : Key) → IsAddressKey word key → ⊥) → IsNoKey kind word
unfolding IsNoKey
no_key kind word none other key (inl is) = absurd (cc)
no_key kind word none other key (inr (unread, is)) = other key is
