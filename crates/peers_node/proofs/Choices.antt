-- What clap meets of the program.
use Rattle.std.proofs.Common.{◌≡◌, ◌≤◌, ◌∙◌, ℕ, List, arith, codes, refl, rules, subst, sym, true}
use Rattle.std.specs.Prelude.{Err, IfOk, IfSome, Ok, Option, None, Result, Some, option_map}
use Rattle.clap.specs.Words.{Row, is_simple, is_simple_and_free, subcommand_name_of, subcommand_rows_of}
use Rattle.clap.specs.declared.parser.matches.ArgMatches.{ArgMatches}
use Rattle.node_commands.specs.declared.link.Link.{Link}
use Rattle.clap.proofs.OnLiterals.{clap_on_literals}
use Rattle.peers_node.specs.Choices.{TakesNone, name_of}
use Rattle.peers_node.specs.CommandLine.{HasLink, HasNumberOr, HasOptions, Meets, program}
use Rattle.peers_node.proofs.Numbers.{number_or_least, number_within}
use Rattle.peers_node.specs.declared.choice.Options.{Options}
use Rattle.peers_node.specs.declared.choice.Options.TheVariants.{Lesson, Check, Learn, Table, World, Run, Round, Serve, Join}

-- the name of the subcommand that was met, by its name and rows
pub named : (m : ArgMatches) → subcommand_name_of m ≡ option_map (λ found. found.0) (subcommand_rows_of m)
named m = search rules

-- what was met, by its name and rows
pub meets_by : (met : Option (List ℕ × List Row)) (name : List ℕ) (rows : List Row) (chosen : Options) → option_map (λ found. found.0) met ≡ Some name
    → option_map (λ found. found.1) met ≡ Some rows → Meets met chosen → (name ≡ name_of chosen) × HasOptions rows chosen
meets_by None name rows chosen called has meets = elim meets [ ]
meets_by (Some met) name rows chosen called has (same, options) =
    (sym (some_is met.0 name called) ∙ same, subst (λ rs. HasOptions rs chosen) (some_is met.1 rows has) options)
  where
    some_is : {A : Type 0} (x y : A) → Some x ≡ Some y → x ≡ y
    some_is x y is = cc

-- the choice that was found
pub some_meets : (met : Option (List ℕ × List Row)) (found : Option Options) (chosen : Options) → found ≡ Some chosen → IfSome found (Meets met) → Meets met chosen
some_meets met None chosen is meets = absurd (cc)
some_meets met (Some choice) chosen is meets = subst (Meets met) (some_is choice chosen is) meets
  where
    some_is : (x y : Options) → Some x ≡ Some y → x ≡ y
    some_is x y is = cc

-- a round that was met has at most 8 threads
pub few_threads : (met : Option (List ℕ × List Row)) (threads tracks rounds : ℕ) → Meets met (Round threads tracks rounds) → threads ≤ 8
few_threads None threads tracks rounds meets = elim meets [ ]
few_threads (Some met) threads tracks rounds (same, has) = (number_within met.1 (codes "threads") 8 threads has.0).1

-- and there is at least one
pub some_rounds : (met : Option (List ℕ × List Row)) (threads tracks rounds : ℕ) → Meets met (Round threads tracks rounds) → 1 ≤ rounds
some_rounds None threads tracks rounds meets = elim meets [ ]
some_rounds (Some met) threads tracks rounds (same, has) = number_or_least met.1 (codes "rounds") 100 1 rounds (omega arith) has.2

-- the link of a node that serves, and the number of its sessions
pub served_so : {E : Type 0} (rows : List Row) (n : ℕ) (r : Result (Option Link) E) → HasNumberOr rows (codes "sessions") 16 1 n
    → IfOk r (λ found. IfSome found (λ link. HasLink rows link × (link.sessions ≡ n))) → IfOk r (λ found. IfSome found (λ link. HasOptions rows (Serve link)))
served_so rows n (Err e) number has = tt
served_so rows n (Ok None) number has = tt
served_so rows n (Ok (Some link)) number (has, same) = (has, subst (HasNumberOr rows (codes "sessions") 16 1) (sym same) number)

-- what has no options is met without any
pub has_none : (rows : List Row) (chosen : Options) → TakesNone chosen → HasOptions rows chosen
has_none rows Lesson none = tt
has_none rows Check none = tt
has_none rows Learn none = tt
has_none rows Table none = tt
has_none rows World none = tt
has_none rows (Run checks) none = elim none [ ]
has_none rows (Round threads tracks rounds) none = elim none [ ]
has_none rows (Serve link) none = elim none [ ]
has_none rows (Join link) none = elim none [ ]

pub program_is_simple : is_simple program ≡ true
unfolding clap_on_literals
program_is_simple = refl

pub program_is_free : is_simple_and_free program ≡ true
unfolding clap_on_literals
program_is_free = refl
