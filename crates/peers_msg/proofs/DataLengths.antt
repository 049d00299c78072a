-- The length of the data of messages.
use Rattle.std.proofs.Common.{◌≡◌, ℕ, suc, ◌+◌, ◌*◌, ◌^◌, ◌<◌, ◌≤◌, true, List, [], ◌∷◌, ◌++◌, length, Option, arith, length-append, ap, ◌∙◌, get_or, drop, drop-cons}
use Rattle.table_types.specs.declared.data_type.DataType.{DataType}
use Rattle.table_types.specs.declared.data_type.DataType.TheVariants.{ServerId, Gpt0, Gpc0, Gpc0Rate, ConnCnt, ConnRate, ConnCur, SessCnt, SessRate, HttpReqCnt, HttpReqRate, HttpErrCnt, HttpErrRate, BytesInCnt, BytesInRate, BytesOutCnt, BytesOutRate, Gpc1, Gpc1Rate, ServerKey}
use Rattle.table_types.specs.DataTypes.{id_of}
use Rattle.std.proofs.Math.Nat.{pow-le-pow_right}
use Rattle.std.proofs.lemmas.Grind.{pow_more}
use Rattle.std.proofs.lemmas.List.Sums.{sum_by-cons}
use Rattle.std.proofs.lemmas.Bool.Decides.{nat_tests}
use Rattle.table_types.specs.Tables.{Definition, is_definition, rise_from}
use Rattle.peers_encint.specs.Integers.{spelling}
use Rattle.peers_encint.proofs.OneSpelling.{longer, within}
use Rattle.peers_msg.specs.Spelling.{bits_of, counted}

pub id_most : (t : DataType) → id_of t ≤ 19
id_most ServerId = omega arith
id_most Gpt0 = omega arith
id_most Gpc0 = omega arith
id_most Gpc0Rate = omega arith
id_most ConnCnt = omega arith
id_most ConnRate = omega arith
id_most ConnCur = omega arith
id_most SessCnt = omega arith
id_most SessRate = omega arith
id_most HttpReqCnt = omega arith
id_most HttpReqRate = omega arith
id_most HttpErrCnt = omega arith
id_most HttpErrRate = omega arith
id_most BytesInCnt = omega arith
id_most BytesInRate = omega arith
id_most BytesOutCnt = omega arith
id_most BytesOutRate = omega arith
id_most Gpc1 = omega arith
id_most Gpc1Rate = omega arith
id_most ServerKey = omega arith

-- the first of the types in ascending order of id, and those after it
pub rise_first : (k : ℕ) (t : DataType × Option ℕ) (ts : List (DataType × Option ℕ)) → rise_from k (t ∷ ts) ≡ true → k ≤ id_of t.0
rise_first k t ts h = grind (arith, nat_tests)

pub rise_rest : (k : ℕ) (t : DataType × Option ℕ) (ts : List (DataType × Option ℕ)) → rise_from k (t ∷ ts) ≡ true → rise_from (id_of t.0 + 1) ts ≡ true
rise_rest k t ts h = grind (arith, nat_tests)

-- there are at most as many types in ascending order of id as ids left
pub rise_short : (k : ℕ) (ts : List (DataType × Option ℕ)) → k ≤ 20 → rise_from k ts ≡ true → length ts + k ≤ 20
rise_short k [] le h = omega arith
rise_short k (t ∷ ts) le h =
    let first = rise_first k t ts h in
    let most = id_most t.0 in
    omega (arith, rise_short (id_of t.0 + 1) ts (omega arith) (rise_rest k t ts h))

-- as bits, the types are below 2 ^ 20
pub bits_small : (k : ℕ) (ts : List (DataType × Option ℕ)) → k ≤ 20 → rise_from k ts ≡ true → bits_of ts + 2 ^ k ≤ 2 ^ 20
bits_small k [] le h = omega (arith, pow-le-pow_right {n = 2} (omega arith) {i = k} {j = 20} le)
bits_small k (t ∷ ts) le h =
    let first = rise_first k t ts h in
    let most = id_most t.0 in
    let rest = bits_small (id_of t.0 + 1) ts (omega arith) (rise_rest k t ts h) in
    let more : 2 ^ (id_of t.0 + 1) ≡ 2 ^ id_of t.0 * 2 = pow_more 2 (id_of t.0) in
    let least : 2 ^ k ≤ 2 ^ id_of t.0 = pow-le-pow_right {n = 2} (omega arith) {i = k} {j = id_of t.0} first in
    let sum : bits_of (t ∷ ts) ≡ 2 ^ id_of t.0 + bits_of ts = sum_by-cons (λ t. 2 ^ id_of t.0) t ts in
    omega arith

pub types_rise : (d : Definition) → is_definition d ≡ true → rise_from 0 d.types ≡ true
types_rise d h = grind (arith, nat_tests)

-- a definition has at most 20 types
pub types_short : (d : Definition) → is_definition d ≡ true → length d.types ≤ 20
types_short d h = omega (arith, rise_short 0 d.types (omega arith) (types_rise d h))

-- the bit of a type, added to those before it, is below 2 ^ 20
pub bit_fits : (ts : List (DataType × Option ℕ)) (i before : ℕ) (d : DataType × Option ℕ) → rise_from 0 ts ≡ true → i < length ts → before + bits_of (drop i ts) ≡ bits_of ts → before + 2 ^ id_of (get_or ts i d).0 ≤ 2 ^ 20
bit_fits ts i before d rise lt h =
    let all = bits_small 0 ts (omega arith) rise in
    let first : bits_of (drop i ts) ≡ 2 ^ id_of (get_or ts i d).0 + bits_of (drop (suc i) ts) =
    ap (λ (us : List (DataType × Option ℕ)). bits_of us) (drop-cons ts i d lt) ∙ sum_by-cons (λ t. 2 ^ id_of t.0) (get_or ts i d) (drop (suc i) ts) in
    omega arith

-- more bytes are longer with their encoded length too
pub counted_grows : (a b : ℕ) → a < b → length (spelling a) + a < length (spelling b) + b
counted_grows a b lt = omega (arith, longer a b (omega arith))

-- a message with more data is longer
pub framed_grows : (a b m n : ℕ) → m ≡ 2 + (length (spelling a) + a) → n ≡ 2 + (length (spelling b) + b) → a < b → m < n
framed_grows a b m n is_m is_n lt = omega (arith, is_m, is_n, counted_grows a b lt)

-- a name field that writes a slot is longer than one that reads it
pub name_grows : (slot held written : ℕ) (name : List ℕ) → held ≡ length (spelling slot) → written ≡ length (spelling slot ++ counted name) → length (spelling held) + held < length (spelling written) + written
name_grows slot held written name is_held is_written =
    let more : held < written = omega (arith, is_held, is_written, length-append (spelling slot) (counted name), length-append (spelling (length name)) name, (within (length name)).0) in
    counted_grows held written more
