-- Since when the numbers of a table are assigned, as far as looks at its next number tell.
use Rattle.std.specs.Prelude.{◌≡◌, ◌⊎◌, ℕ, suc, ◌-◌, ◌/◌, ◌==◌, Bool, nat_lt, nat_le, List, [], ◌∷◌, ◌++◌, drop, fold, length, Option, None, Some, option_map, if◌then◌else◌}
use Rattle.std.specs.List.{remove}
use Rattle.node_core.specs.declared.number_times.Look.{Look}

-- when the first look was at which the number was assigned
abbrev pub since : ℕ → List Look → Option ℕ
since number [] = None
since number (look ∷ looks) = if nat_lt number look.next then Some look.time else since number looks

-- ---- the looks that are kept

-- the next number at the last look
abbrev pub last_next : List Look → ℕ
last_next looks = fold (λ next look. look.next) 0 looks

-- a next number that is lower than at the last look makes all looks useless: the numbers begin anew
abbrev pub of_use : ℕ → List Look → List Look
of_use next looks = if nat_lt next (last_next looks) then [] else looks

-- two looks are at most an eighth of the time since the later one apart
abbrev pub are_close : ℕ → Look → Look → Bool
are_close now earlier later = nat_le (later.time - earlier.time) ((now - later.time) / 8)

-- the first of the looks that is close to the second one before it; these two come before all of them
abbrev pub spare_after : ℕ → Look → Look → List Look → Option ℕ
spare_after now earlier between [] = None
spare_after now earlier between (look ∷ looks) = if are_close now earlier look then Some 0 else option_map suc (spare_after now between look looks)

-- the first look that can be spared: those beside it are close
abbrev pub spare : ℕ → List Look → Option ℕ
spare now [] = None
spare now (look ∷ []) = None
spare now (earlier ∷ between ∷ looks) = option_map suc (spare_after now earlier between looks)

-- without the look that can be spared, or if there is none, without the first of more than 512
abbrev pub without : Option ℕ → List Look → List Look
without None looks = if nat_lt 512 (length looks) then drop 1 looks else looks
without (Some index) looks = remove looks index

abbrev pub thinned : ℕ → List Look → List Look
thinned now looks = without (spare now looks) looks

-- the looks that are kept after one more, unless it shows nothing new
abbrev pub noted : ℕ → ℕ → List Look → List Look
noted now next looks =
    if next == last_next looks then looks else thinned now (of_use next looks ++ (record { time = now; next = next }) ∷ [])

-- ---- all looks

-- what is kept of some looks, behind others that are kept
abbrev pub noted_from : List Look → List Look → List Look
noted_from kept [] = kept
noted_from kept (look ∷ looks) = noted_from (noted look.time look.next kept) looks

-- what is kept of all looks
abbrev pub noted_all : List Look → List Look
noted_all looks = noted_from [] looks

abbrev pub IsAmong : List Look → Look → Type 0
IsAmong [] look = ⊥
IsAmong (one ∷ looks) look = (look ≡ one) ⊎ IsAmong looks look
