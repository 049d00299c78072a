-- Plans: which requests of a batch are kept, so that their names are read, and the prices that show that no other choice
-- saves more (profile).
use Rattle.std.specs.Prelude.{◌≡◌, ◌≤◌, ℕ, ◌+◌, ◌-◌, ◌*◌, ◌^◌, nat_lt, ◌==◌, Bool, true, false, ◌&&◌, List, [], ◌∷◌, ◌++◌, length, take, drop, map, fold, Option, Some, None, if◌then◌else◌}
use Rattle.std.specs.List.{AllByRecursion, list_any}
use Rattle.table_types.specs.Rosters.{is_same_name}
use Rattle.known_state.specs.Requests.{Asked}

-- for each request, whether it is kept and the price of its place
pub record Plan : Type 0 where
  pub keep : List Bool
  pub prices : List ℕ

-- the sum of `f` over a list
abbrev pub total : {A : Type 0} → (A → ℕ) → List A → ℕ
total f [] = 0
total f (x ∷ xs) = f x + total f xs

abbrev pub sum_of : List ℕ → ℕ
sum_of ns = total (λ n. n) ns

-- ---- links

-- The requests are at the places 1, 2 and so on, and place 0 is the start. How many requests there were, and the place
-- at which each name was last requested: 0 if it wasn't and is in a slot at the start.
pub record Asking : Type 0 where
  pub place : ℕ
  pub last : List ℕ → Option ℕ

abbrev pub at_start : List (List ℕ) → Asking
at_start held = record { place = 0; last = λ name. if list_any (is_same_name name) held then Some 0 else None }

abbrev pub after_request : Asking → Asked → Asking
after_request asking r = record { place = asking.place + 1; last = λ name. if is_same_name r.name name then Some (asking.place + 1) else asking.last name }

-- A request has a link if its name was requested before, or is in a slot at the start: from that place to its own. The
-- link saves the request's write cost less its read cost.
pub record Link : Type 0 where
  pub from : ℕ
  pub to : ℕ
  pub saving : ℕ
  pub kept : Bool

abbrev pub link_of : Option ℕ → ℕ → Asked → Bool → List Link
link_of None to r kept = []
link_of (Some from) to r kept = record { from = from; to = to; saving = r.write_cost - r.read_cost; kept = kept } ∷ []

abbrev pub links_from : Asking → List Asked → List Bool → List Link
links_from asking [] keep = []
links_from asking (r ∷ rs) [] = []
links_from asking (r ∷ rs) (kept ∷ keep) =
    link_of (asking.last r.name) (asking.place + 1) r kept ++ links_from (after_request asking r) rs keep

-- the links of requests if these names are held at the start, each with the mark of its request
abbrev pub links : List (List ℕ) → List Asked → List Bool → List Link
links held rs keep = links_from (at_start held) rs keep

-- all links, whichever are kept
abbrev pub all_links : List (List ℕ) → List Asked → List Link
all_links held rs = links held rs (map (λ r. true) rs)

-- each kept request has a link
abbrev pub AreLinked : Asking → List Asked → List Bool → Type 0
AreLinked asking (r ∷ rs) (true ∷ keep) = ((from : ℕ) × (asking.last r.name ≡ Some from)) × AreLinked (after_request asking r) rs keep
AreLinked asking (r ∷ rs) (false ∷ keep) = AreLinked (after_request asking r) rs keep
AreLinked asking rs keep = Unit {0}

-- what has been requested after some requests
abbrev pub after_requests : Asking → List Asked → Asking
after_requests asking rs = fold after_request asking rs

-- whether a name's next request is kept; false if there is none
abbrev pub keeps_next : List ℕ → List Asked → List Bool → Bool
keeps_next name (r ∷ rs) (kept ∷ keep) = if is_same_name r.name name then kept else keeps_next name rs keep
keeps_next name rs keep = false

-- ---- what links occupy, save and cost

-- the places inside a link: those after the place where it begins and before the place where it ends
abbrev pub is_inside : ℕ → Link → Bool
is_inside place l = nat_lt l.from place && nat_lt place l.to

-- how many kept links a place is inside
abbrev pub kept_over : List Link → ℕ → ℕ
kept_over ls place = total (λ l. if l.kept && is_inside place l then 1 else 0) ls

-- how many kept links begin at a place, and how many end at it
abbrev pub kept_from : List Link → ℕ → ℕ
kept_from ls place = total (λ l. if l.kept && l.from == place then 1 else 0) ls

abbrev pub kept_to : List Link → ℕ → ℕ
kept_to ls place = total (λ l. if l.kept && l.to == place then 1 else 0) ls

-- the prices of the places inside a link; the first price is that of place 1
abbrev pub price_inside : List ℕ → Link → ℕ
price_inside prices l = sum_of (take (l.to - 1 - l.from) (drop l.from prices))

-- what the kept links save
abbrev pub kept_savings : List Link → ℕ
kept_savings ls = total (λ l. if l.kept then l.saving else 0) ls

-- The most that links can save with `slots` slots, as these prices prove: a place is inside at most one kept link
-- fewer than there are slots, and a link saves at most the prices inside it plus what it saves above them, which is 0
-- if the prices are more.
abbrev pub bound : ℕ → List Link → List ℕ → ℕ
bound slots ls prices = (slots - 1) * sum_of prices + total (λ l. l.saving - price_inside prices l) ls

-- The plan is accepted: it has one mark and one price for each request, no price is above 2^32, each kept request has a
-- link, no place is inside more kept links than there are slots less one, and the kept links together save the bound.
pub record Accepts (slots : ℕ) (held : List (List ℕ)) (rs : List Asked) (plan : Plan) : Type 0 where
  pub keep : length plan.keep ≡ length rs
  pub prices : length plan.prices ≡ length rs
  pub range : AllByRecursion (λ price. price ≤ 2 ^ 32) plan.prices
  pub linked : AreLinked (at_start held) rs plan.keep
  pub room : (place : ℕ) → kept_over (links held rs plan.keep) place ≤ slots - 1
  pub tight : kept_savings (links held rs plan.keep) ≡ bound slots (all_links held rs) plan.prices

-- ---- the names held in slots

abbrev pub name_held : Option (List ℕ) → List (List ℕ)
name_held None = []
name_held (Some name) = name ∷ []

-- the names that slots hold, slot by slot
abbrev pub names_in : List (Option (List ℕ)) → List (List ℕ)
names_in [] = []
names_in (held ∷ slots) = name_held held ++ names_in slots
