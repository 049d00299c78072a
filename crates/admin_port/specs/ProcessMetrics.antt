-- The families of metrics of the process, by the names of Prometheus's client libraries, and of the program.
use Rattle.std.specs.Prelude.{◌++◌, ℕ, List, [], ◌∷◌, Option, Some, None, codes}
use Rattle.admin_port.specs.Samples.{family_head, sample_line, seconds_line}
use Rattle.admin_port.specs.declared.process_metrics.BuildInfo.{BuildInfo}
use Rattle.admin_port.specs.declared.process_metrics.ProcessFamily.{ProcessFamily}
use Rattle.admin_port.specs.declared.process_metrics.ProcessFamily.TheVariants as families
use Rattle.admin_port.specs.declared.process_metrics.ProcessMetrics.{ProcessMetrics}

-- ---- the process

abbrev pub family_name : ProcessFamily → List ℕ
family_name families.ResidentMemory = codes "process_resident_memory_bytes"
family_name families.OpenFds = codes "process_open_fds"
family_name families.StartTime = codes "process_start_time_seconds"
family_name families.CpuTime = codes "process_cpu_seconds_total"

abbrev pub family_kind : ProcessFamily → List ℕ
family_kind families.ResidentMemory = codes "gauge"
family_kind families.OpenFds = codes "gauge"
family_kind families.StartTime = codes "gauge"
family_kind families.CpuTime = codes "counter"

abbrev pub family_help : ProcessFamily → List ℕ
family_help families.ResidentMemory = codes "Resident memory size in bytes."
family_help families.OpenFds = codes "Number of open file descriptors."
family_help families.StartTime = codes "Start time of the process since unix epoch in seconds."
family_help families.CpuTime = codes "Total user and system CPU time spent in seconds."

-- the sample of a value that the system says, if it does
abbrev pub optional_sample : List ℕ → Option ℕ → List ℕ
optional_sample name None = []
optional_sample name (Some value) = sample_line name [] value

-- the same of a time
abbrev pub optional_seconds : List ℕ → Option ℕ → List ℕ
optional_seconds name None = []
optional_seconds name (Some milliseconds) = seconds_line name [] milliseconds

abbrev pub process_sample : ProcessFamily → ProcessMetrics → List ℕ
process_sample families.ResidentMemory p = optional_sample (family_name families.ResidentMemory) p.resident_memory_bytes
process_sample families.OpenFds p = optional_sample (family_name families.OpenFds) p.open_fds
process_sample families.StartTime p = optional_seconds (family_name families.StartTime) p.start_time
process_sample families.CpuTime p = optional_seconds (family_name families.CpuTime) p.cpu_time

unfoldable pub process_family : ProcessFamily → ProcessMetrics → List ℕ
process_family f p = family_head (family_name f) (family_kind f) (family_help f) ++ process_sample f p

-- ---- the program

unfoldable pub build_sample : BuildInfo → List ℕ
build_sample b = sample_line (codes "digbaro_build_info") ((codes "version", b.version.now) ∷ (codes "kit", b.kit.now) ∷ []) 1

unfoldable pub build_family : BuildInfo → List ℕ
build_family b =
    family_head (codes "digbaro_build_info") (codes "gauge") (codes "The program's version, and the kit that built it.") ++ build_sample b

abbrev pub process_families : BuildInfo → ProcessMetrics → List ℕ
process_families b p =
    build_family b ++ (process_family families.ResidentMemory p ++ (process_family families.OpenFds p
    ++ (process_family families.StartTime p ++ process_family families.CpuTime p)))
