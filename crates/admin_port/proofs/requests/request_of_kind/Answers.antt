use Rattle.std.proofs.Common.{rules, ◌≡◌, ◌∷◌, IfSome, codes, map, subst}
use Rattle.admin_text.specs.TableSettings.{definitions}
use Rattle.node_text.specs.declared.error.LineError.TheVariants as errors
use Rattle.admin_port.specs.Requests.{IsRequest}
use Rattle.admin_port.proofs.Words.{bytes_of, four_bytes, some_to_ok}
use Rattle.admin_port.proofs.requests.request_of_kind.Goals as goal

pub returns-in-stop-clause-read : goal.returns-in-stop-clause-read
returns-in-stop-clause-read c =
    let same : codes "stop" ≡ c.args.kind.now =
    four_bytes c.args.kind.now 115 116 111 112 c.in-stop.len_at_least c.in-stop.len_below
    (search rules) (search rules) (search rules) (search rules) in
    some_to_ok (IsRequest c.args.section.now (definitions c.args.tables.now) (c.args.kind.now ∷ map bytes_of c.args.words.now))
    c.stop_of.result errors.Refused c.ok_or-in-stop.result c.ok_or-in-stop.ensures.value
    (subst
    (λ kind. IfSome c.stop_of.result (IsRequest c.args.section.now (definitions c.args.tables.now) (kind ∷ map bytes_of c.args.words.now)))
    same (c.stop_of.ensures.read c.args.section.now (definitions c.args.tables.now)))
