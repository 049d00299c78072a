use Rattle.std.proofs.Common.{[], ◌∷◌, IfSome, codes, subst}
use Rattle.admin_text.specs.TableSettings.{definitions}
use Rattle.admin_port.specs.Requests.{IsRequest}
use Rattle.admin_port.proofs.Words.{one_word}
use Rattle.admin_port.proofs.requests.show_of.Goals as goal

pub returns-in-len1-clause-read : goal.returns-in-len1-clause-read
returns-in-len1-clause-read c =
    subst
    (λ words. IfSome c.list_of.result (IsRequest c.args.section.now (definitions c.args.tables.now) (codes "show" ∷ words)))
    (one_word c.args.words.now (record { ref_ptr = (0, 0); now = [] }) c.in-len1.len_at_least c.in-len1.len_below)
    (c.list_of.ensures.read c.args.section.now (definitions c.args.tables.now))
