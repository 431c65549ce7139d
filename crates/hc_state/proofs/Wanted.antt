-- Which exchanges are wanted.
use Rattle.std.proofs.Common.{◌≡◌}
