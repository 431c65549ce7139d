use Rattle.hc_contents.specs.PlainContents.{plain_contents}
use Rattle.hc_handle.specs.Sessions.{IsUnopened, unbegun}
use Rattle.hc_handle.proofs.Reported.{if_err}
use Rattle.hc_handle.proofs.session.Session.open.Goals as goal

pub returns-in_err-cache-clause-refused : goal.returns-in_err-cache-clause-refused
returns-in_err-cache-clause-refused c =
    if_err _ c.in_err-cache.field-0.0 (IsUnopened c.args.limits c.args.image.now) c.from_residual-in_err-cache.ensures.1
    (unbegun (plain_contents c.in_ok-contents.contents) c.in_ok-contents.ensures.read c.in_err-cache.ensures.unbegun)
