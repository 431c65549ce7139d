-- What the handlers use of the tables of every run.
use Rattle.std.specs.Prelude.{◌≡◌, ◌≤◌, ℕ, true, Some, None, is_some}
use Rattle.hc_sparse.specs.Cells.{Covers}
use Rattle.hc_rules.specs.declared.room.Limits.{Limits}
use Rattle.hc_model.specs.Endings.{Unended}
use Rattle.hc_model.specs.Lawful.{Lawful}
use Rattle.hc_model.specs.Fronts.{Fronts}
use Rattle.hc_model.specs.LettingGo.{AreSized, weights_now}
use Rattle.hc_model.specs.Laws.{Turns}
use Rattle.hc_model.specs.Live.{FewLive}
use Rattle.hc_model.specs.Losses.{Brings, Losses}
use Rattle.hc_model.specs.Measures.{Measures}
use Rattle.hc_model.specs.Exchanges.{front}
use Rattle.hc_model.specs.Reading.{offset}
use Rattle.hc_model.specs.Rows.{Tables, Exchange, Representation, Consumer}
use Rattle.hc_model.specs.Sound.{IsBound, IsExclusiveWriter}
use Rattle.hc_model.specs.Origins.{Origins}
use Rattle.hc_model.specs.Parts.{Parts}
use Rattle.hc_model.specs.Sizes.{Sizes}
use Rattle.hc_model.specs.StoredHeads.{StoredHeads, Tags}

-- the exclusive writer of a representation, with no failure due, has all of it from where it stands
-- up to where its exchange goes on
pub record HasCome (t : Tables) : Type 0 where
  pub covered : (r c x : ℕ) (v : Representation) (k : Consumer) (w : Exchange) →
      t.representation r ≡ Some v → IsExclusiveWriter t r v c → IsBound t r c k → k.due ≡ None →
      k.own ≡ Some x → t.exchange x ≡ Some w → is_some w.head ≡ true →
      Covers v.body (offset t k) (front w)

-- the laws of every run from contents whose lengths are what heads can tell
pub record Facts (limits : Limits) (t : Tables) : Type 0 where
  pub law : Lawful t
  pub measures : Measures t
  pub brings : Brings t
  pub losses : Losses t
  pub heads : StoredHeads t
  pub tags : Tags t
  pub sizes : Sizes limits t
  pub sized : AreSized t
  pub fits : weights_now t ≤ limits.max_total
  pub live : FewLive t
  pub turns : Turns t
  pub come : HasCome t
  pub parts : Parts t
  pub origins : Origins t
  pub fronts : Fronts t
  pub unended : Unended t
