-- The data types of stick tables (HAProxy Configuration Manual, stick-table `store`; ids: doc/peers-v2.0.txt,
-- "Table Definition Message"; the ranges of the values are the profile's choices).
use Rattle.std.specs.Prelude.{ℕ, Bool, true, false, ◌==◌, List, [], ◌∷◌, codes}
use Rattle.table_types.specs.declared.data_type.DataType.{DataType}
use Rattle.table_types.specs.declared.data_type.DataType.TheVariants.{ServerId, Gpt0, Gpc0, Gpc0Rate, ConnCnt, ConnRate, ConnCur, SessCnt, SessRate, HttpReqCnt, HttpReqRate, HttpErrCnt, HttpErrRate, BytesInCnt, BytesInRate, BytesOutCnt, BytesOutRate, Gpc1, Gpc1Rate, ServerKey}
use Rattle.table_types.specs.declared.data_type.Shape.{Shape}
use Rattle.table_types.specs.declared.data_type.Shape.TheVariants.{Count, LongCount, Rate, Name}

-- the bit of a data type in a definition
abbrev pub id_of : DataType → ℕ
id_of ServerId = 0
id_of Gpt0 = 1
id_of Gpc0 = 2
id_of Gpc0Rate = 3
id_of ConnCnt = 4
id_of ConnRate = 5
id_of ConnCur = 6
id_of SessCnt = 7
id_of SessRate = 8
id_of HttpReqCnt = 9
id_of HttpReqRate = 10
id_of HttpErrCnt = 11
id_of HttpErrRate = 12
id_of BytesInCnt = 13
id_of BytesInRate = 14
id_of BytesOutCnt = 15
id_of BytesOutRate = 16
id_of Gpc1 = 17
id_of Gpc1Rate = 18
id_of ServerKey = 19

-- the name of a data type in HAProxy's configuration
abbrev pub name_of : DataType → List ℕ
name_of ServerId = codes "server_id"
name_of Gpt0 = codes "gpt0"
name_of Gpc0 = codes "gpc0"
name_of Gpc0Rate = codes "gpc0_rate"
name_of ConnCnt = codes "conn_cnt"
name_of ConnRate = codes "conn_rate"
name_of ConnCur = codes "conn_cur"
name_of SessCnt = codes "sess_cnt"
name_of SessRate = codes "sess_rate"
name_of HttpReqCnt = codes "http_req_cnt"
name_of HttpReqRate = codes "http_req_rate"
name_of HttpErrCnt = codes "http_err_cnt"
name_of HttpErrRate = codes "http_err_rate"
name_of BytesInCnt = codes "bytes_in_cnt"
name_of BytesInRate = codes "bytes_in_rate"
name_of BytesOutCnt = codes "bytes_out_cnt"
name_of BytesOutRate = codes "bytes_out_rate"
name_of Gpc1 = codes "gpc1"
name_of Gpc1Rate = codes "gpc1_rate"
name_of ServerKey = codes "server_key"

-- all data types, in ascending order of id
abbrev pub all_types : List DataType
all_types =
    ServerId ∷ Gpt0 ∷ Gpc0 ∷ Gpc0Rate ∷ ConnCnt ∷ ConnRate ∷ ConnCur ∷ SessCnt ∷ SessRate ∷ HttpReqCnt ∷ HttpReqRate ∷ HttpErrCnt ∷ HttpErrRate ∷ BytesInCnt ∷ BytesInRate ∷ BytesOutCnt ∷ BytesOutRate ∷ Gpc1 ∷ Gpc1Rate ∷ ServerKey ∷ []

-- how the value of a data type is sent: types whose name ends in "rate" have a period and two counts, bytes are counted
-- in 64 bits, the server's name goes through the dictionary, and all others are counts of 32 bits
abbrev pub shape_of : DataType → Shape
shape_of ServerId = Count
shape_of Gpt0 = Count
shape_of Gpc0 = Count
shape_of Gpc0Rate = Rate
shape_of ConnCnt = Count
shape_of ConnRate = Rate
shape_of ConnCur = Count
shape_of SessCnt = Count
shape_of SessRate = Rate
shape_of HttpReqCnt = Count
shape_of HttpReqRate = Rate
shape_of HttpErrCnt = Count
shape_of HttpErrRate = Rate
shape_of BytesInCnt = LongCount
shape_of BytesInRate = Rate
shape_of BytesOutCnt = LongCount
shape_of BytesOutRate = Rate
shape_of Gpc1 = Count
shape_of Gpc1Rate = Rate
shape_of ServerKey = Name

abbrev pub is_rate_shape : Shape → Bool
is_rate_shape Rate = true
is_rate_shape _ = false

abbrev pub is_rate : DataType → Bool
is_rate t = is_rate_shape (shape_of t)

abbrev pub is_same_type : DataType → DataType → Bool
is_same_type a b = id_of a == id_of b
