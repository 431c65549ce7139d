use Rattle.std.proofs.Common.{◌≡◌, ◌++◌}
use Rattle.hc_app.proofs.say.write_cause.Goals as goal

pub returns-in-StoreRead : goal.returns-in-StoreRead
returns-in-StoreRead c = rw c.in-StoreRead.is c.write_reported-in-StoreRead.ensures
