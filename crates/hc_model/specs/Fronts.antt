-- Where the own exchange of a reader goes on: not before where it began to read.
use Rattle.std.specs.Prelude.{◌≡◌, ◌≤◌, ℕ, true, Option, Some, None}
use Rattle.hc_event.specs.declared.event.Response.{Response}
use Rattle.hc_event.specs.declared.place.BoundBy.{BoundBy}
use Rattle.hc_event.specs.declared.place.Place.TheVariants as place
use Rattle.hc_model.specs.Exchanges.{front}
use Rattle.hc_model.specs.RepresentationRows.{hole_start}
use Rattle.hc_model.specs.Rows.{Tables, Exchange, Consumer}

-- with its head at its front, and until then at its hole
abbrev pub goes_on_at : Exchange → Option Response → ℕ
goes_on_at w None = hole_start w.need
goes_on_at w (Some response) = front w

-- of who is bound, and has no failure due
pub record Fronts (t : Tables) : Type 0 where
  pub begins : (c r lo x : ℕ) (hi : Option ℕ) (by : BoundBy) (k : Consumer) (w : Exchange) →
      t.consumer c ≡ Some k → k.place ≡ place.Bound r lo hi by → k.due ≡ None →
      k.own ≡ Some x → t.exchange x ≡ Some w → w.is_open ≡ true → lo ≤ goes_on_at w w.head
