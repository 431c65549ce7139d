-- Texts that grow.
use Rattle.std.proofs.Common.{◌≡◌, ◌++◌}
