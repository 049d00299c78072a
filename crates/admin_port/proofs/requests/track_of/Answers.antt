use Rattle.std.proofs.Common.{[], ◌∷◌, codes, subst}
use Rattle.admin_text.specs.TableSettings.{definitions}
use Rattle.admin_port.specs.Requests.{IsNoRequest}
use Rattle.admin_port.proofs.Words.{two_first}
use Rattle.admin_port.proofs.requests.track_of.Goals as goal

pub returns-clause-refused : goal.returns-clause-refused
returns-clause-refused c = λ same.
    subst (λ words. IsNoRequest c.args.section.now (definitions c.args.tables.now) (codes "track" ∷ words))
    (two_first c.args.words.now (record { ref_ptr = (0, 0); now = [] }) c.in-len2-up.len_at_least)
    (c.change_of_row.ensures.refused same)
