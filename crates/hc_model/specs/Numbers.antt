-- How large numbers become: what heads tell is below 2^62, and what none tells is no more than was received.
use Rattle.std.specs.Prelude.{◌≡◌, ◌<◌, ◌≤◌, ℕ, ◌+◌, ◌^◌, max, true, Option, Some, None}
use Rattle.hc_rules.specs.declared.room.Limits.{Limits}
use Rattle.hc_event.specs.declared.place.Place.TheVariants as place
use Rattle.hc_event.specs.declared.place.BoundBy.{BoundBy}
use Rattle.hc_model.specs.Beginnings.{may_begin}
use Rattle.hc_model.specs.Entries.{History, Content, Contents}
use Rattle.hc_model.specs.Exchanges.{base, promised_bytes, front}
use Rattle.hc_model.specs.Laws.{item_of}
use Rattle.hc_model.specs.Rows.{Tables, Exchange, Representation, Consumer}
use Rattle.hc_model.specs.Runs.{IsRun}
use Rattle.hc_model.specs.Tables.{tables}

-- what heads can tell, or as much as was received
abbrev pub most : Tables → ℕ
most t = max (2 ^ 62) t.received

-- longer than any length that is known: a head tells less than 2^62, and else no more than was received
abbrev pub too_long : Tables → ℕ
too_long t = max (2 ^ 62) (t.received + 1)

pub record Numbers (t : Tables) : Type 0 where
  pub promises : (x n : ℕ) (w : Exchange) → t.exchange x ≡ Some w → promised_bytes w ≡ Some n →
      base w + n ≤ 2 ^ 62
  pub unpromised : (x : ℕ) (w : Exchange) → t.exchange x ≡ Some w → promised_bytes w ≡ None → base w ≡ 0
  pub fronts : (x : ℕ) (w : Exchange) → t.exchange x ≡ Some w → front w ≤ most t
  pub totals : (r n : ℕ) (v : Representation) → t.representation r ≡ Some v →
      v.head.total ≡ Some n → n < too_long t
  pub reaches : (r : ℕ) (v : Representation) → t.representation r ≡ Some v → v.reach ≤ most t
  pub starts : (c r lo : ℕ) (hi : Option ℕ) (by : BoundBy) (k : Consumer) →
      t.consumer c ≡ Some k → k.place ≡ place.Bound r lo hi by → lo ≤ most t
  pub ends : (c r lo hi : ℕ) (by : BoundBy) (k : Consumer) → t.consumer c ≡ Some k →
      k.place ≡ place.Bound r lo (Some hi) by → hi ≤ most t

-- the lengths of what a store begins with are what heads can tell
abbrev pub AreShort : Contents → Type 0
AreShort contents =
    (r n : ℕ) (item : Content) → item_of contents r ≡ Some item → item.head.total ≡ Some n →
    n < 2 ^ 62

-- in every run from such contents
abbrev pub NumbersInRuns : Type 0
NumbersInRuns =
    (limits : Limits) (contents : Contents) (h : History) → may_begin limits contents ≡ true →
    AreShort contents → IsRun limits contents h → Numbers (tables contents h)
