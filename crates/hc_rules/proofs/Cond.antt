-- Facts about a choice.
use Rattle.std.{proofs.Common.{◌≡◌, ◌⊎◌}, specs.Prelude.{◌&&◌}}
