-- Whether one has passed, as the transaction tells it, is as the tables have it.
use Rattle.std.proofs.Common.{◌≡◌, refl}
use Rattle.hc_event.specs.declared.place.Place.{Place}
use Rattle.hc_event.specs.declared.place.Place.TheVariants as place
use Rattle.hc_model.specs.{Planning.{has_passed}, ConsumerRows.{kept_by}}
use Rattle.hc_txn.specs.Transactions as txn

pub passed_alike : (p : Place) → txn.has_passed p ≡ has_passed p
passed_alike place.Line = refl
passed_alike (place.Passed r kept) = refl
passed_alike (place.Turn x) = refl
passed_alike (place.Direct x) = refl
passed_alike (place.Bound r lo hi by) = refl
passed_alike (place.Down cause) = refl
passed_alike place.Over = refl

pub kept_alike : (p : Place) → txn.kept_by p ≡ kept_by p
kept_alike place.Line = refl
kept_alike (place.Passed r kept) = refl
kept_alike (place.Turn x) = refl
kept_alike (place.Direct x) = refl
kept_alike (place.Bound r lo hi by) = refl
kept_alike (place.Down cause) = refl
kept_alike place.Over = refl
