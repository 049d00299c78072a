use Rattle.std.proofs.Common.{rules, ◌∙◌, sym}
use Rattle.admin_port.proofs.HttpLines.{three_words}
use Rattle.admin_port.proofs.http_requests.read_http_request.Goals as goal

pub returns-in-None : goal.returns-in-None
returns-in-None c =
    c.request_of_words.ensures
    ∙ sym
    (three_words c.args.line.now c.in_ok-method.method.now c.in_ok-method.rest.now c.in_ok-target.target.now c.in_ok-target.version.now
    (search rules) (search rules) (search rules) (search rules) (search rules))
