-- How a verdict is printed (profile).
use Rattle.std.specs.Prelude.{◌++◌, ℕ, List, codes}
use Rattle.std.specs.Fmt.{decimal}
use Rattle.price_checker.specs.Verdicts.{illegal_name}
use Rattle.price_checker.specs.declared.verdict.Verdict.{Verdict}
use Rattle.price_checker.specs.declared.verdict.Verdict.TheVariants as verdicts

-- the line of a verdict
abbrev pub verdict_line : Verdict → List ℕ
verdict_line (verdicts.NotLegal illegal place) = codes "not legal " ++ (illegal_name illegal ++ (codes " at " ++ (decimal place ++ codes "\n")))
verdict_line (verdicts.NotCarried index) = codes "not carried " ++ (decimal index ++ codes "\n")
verdict_line verdicts.PriceCount = codes "price count\n"
verdict_line verdicts.PriceRange = codes "price range\n"
verdict_line (verdicts.Gap saved bound) = codes "gap " ++ (decimal saved ++ (codes " " ++ (decimal bound ++ codes "\n")))
verdict_line (verdicts.Shortest bytes) = codes "shortest " ++ (decimal bytes ++ codes "\n")
