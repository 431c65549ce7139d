-- Where an answer past the store ends, and that what is open lacks something.
use Rattle.std.specs.Prelude.{◌≡◌, ℕ, length, true, false, Some, None}
use Rattle.hc_event.specs.declared.place.BoundBy.{BoundBy}
use Rattle.hc_event.specs.declared.place.Place.TheVariants as place
use Rattle.hc_model.specs.Exchanges.{front, promised_bytes, is_reached}
use Rattle.hc_model.specs.Reading.{hi_of, own_open}
use Rattle.hc_model.specs.Rows.{Tables, Exchange, Representation, Consumer}

-- once it is over, and no failure is due to who reads it, it ends where all of it came; an open exchange has yet to bring some
-- of what it promised
pub record Endings (t : Tables) : Type 0 where
  pub past : (c x : ℕ) (k : Consumer) (w : Exchange) → t.consumer c ≡ Some k →
      k.place ≡ place.Direct x → t.exchange x ≡ Some w → w.is_open ≡ false → k.due ≡ None →
      hi_of t k.place ≡ Some (front w)
  pub unreached : (x : ℕ) (w : Exchange) → t.exchange x ≡ Some w → w.is_open ≡ true →
      is_reached (promised_bytes w) (length w.body) ≡ false

-- the detached reader of what has no known end reads, as long as no failure is due to it, from the exchange that founded that,
-- which is still open
pub record Unended (t : Tables) : Type 0 where
  pub alone : (r c lo : ℕ) (how : BoundBy) (v : Representation) (k : Consumer) →
      t.representation r ≡ Some v → v.alone ≡ Some c → t.consumer c ≡ Some k →
      k.place ≡ place.Bound r lo None how → v.head.total ≡ None → k.due ≡ None →
      own_open t k ≡ Some r
