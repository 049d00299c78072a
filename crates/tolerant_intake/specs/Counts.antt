-- What was passed over, and how often (profile).
use Rattle.std.specs.Prelude.{ℕ, ◌+◌, ◌-◌, ◌^◌, ◌==◌, if◌then◌else◌}
use Rattle.tolerant_intake.specs.declared.passed_over.Cause.{Cause}
use Rattle.tolerant_intake.specs.declared.passed_over.Cause.TheVariants as causes
use Rattle.tolerant_intake.specs.declared.passed_over.PassedOver.{PassedOver}

-- nothing was passed over
abbrev pub none_passed : PassedOver
none_passed = record { definition = 0; value = 0; slot = 0; data_type = 0 }

-- one more, at most 2^64 - 1
abbrev pub more : ℕ → ℕ
more n = if n == 2 ^ 64 - 1 then n else n + 1

-- one more of a cause
abbrev pub counted : Cause → PassedOver → PassedOver
counted causes.Definition p = record p { definition = more p.definition }
counted causes.DataType p = record p { data_type = more p.data_type }
counted causes.Slot p = record p { slot = more p.slot }
counted causes.Value p = record p { value = more p.value }
