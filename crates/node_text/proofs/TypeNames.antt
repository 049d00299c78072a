-- Names of data types, which are UTF-8.
use Rattle.std.proofs.Common.{refl}
use Rattle.std.specs.Prelude.{IsUtf8}
use Rattle.std.specs.Str.{chars, is_utf8}
use Rattle.std.proofs.lemmas.Str.{IsUtf8-from_is_utf8}
use lib.Utf8.{encode}
use Rattle.table_types.specs.declared.data_type.DataType.{DataType}
use Rattle.table_types.specs.declared.data_type.DataType.TheVariants.{ServerId, Gpt0, Gpc0, Gpc0Rate, ConnCnt, ConnRate, ConnCur, SessCnt, SessRate, HttpReqCnt, HttpReqRate, HttpErrCnt, HttpErrRate, BytesInCnt, BytesInRate, BytesOutCnt, BytesOutRate, Gpc1, Gpc1Rate, ServerKey}
use Rattle.table_types.specs.DataTypes.{name_of}

pub is_utf8_name : (t : DataType) → IsUtf8 (name_of t)
unfolding is_utf8 chars encode
is_utf8_name ServerId = IsUtf8-from_is_utf8 (name_of ServerId) refl
is_utf8_name Gpt0 = IsUtf8-from_is_utf8 (name_of Gpt0) refl
is_utf8_name Gpc0 = IsUtf8-from_is_utf8 (name_of Gpc0) refl
is_utf8_name Gpc0Rate = IsUtf8-from_is_utf8 (name_of Gpc0Rate) refl
is_utf8_name ConnCnt = IsUtf8-from_is_utf8 (name_of ConnCnt) refl
is_utf8_name ConnRate = IsUtf8-from_is_utf8 (name_of ConnRate) refl
is_utf8_name ConnCur = IsUtf8-from_is_utf8 (name_of ConnCur) refl
is_utf8_name SessCnt = IsUtf8-from_is_utf8 (name_of SessCnt) refl
is_utf8_name SessRate = IsUtf8-from_is_utf8 (name_of SessRate) refl
is_utf8_name HttpReqCnt = IsUtf8-from_is_utf8 (name_of HttpReqCnt) refl
is_utf8_name HttpReqRate = IsUtf8-from_is_utf8 (name_of HttpReqRate) refl
is_utf8_name HttpErrCnt = IsUtf8-from_is_utf8 (name_of HttpErrCnt) refl
is_utf8_name HttpErrRate = IsUtf8-from_is_utf8 (name_of HttpErrRate) refl
is_utf8_name BytesInCnt = IsUtf8-from_is_utf8 (name_of BytesInCnt) refl
is_utf8_name BytesInRate = IsUtf8-from_is_utf8 (name_of BytesInRate) refl
is_utf8_name BytesOutCnt = IsUtf8-from_is_utf8 (name_of BytesOutCnt) refl
is_utf8_name BytesOutRate = IsUtf8-from_is_utf8 (name_of BytesOutRate) refl
is_utf8_name Gpc1 = IsUtf8-from_is_utf8 (name_of Gpc1) refl
is_utf8_name Gpc1Rate = IsUtf8-from_is_utf8 (name_of Gpc1Rate) refl
is_utf8_name ServerKey = IsUtf8-from_is_utf8 (name_of ServerKey) refl
