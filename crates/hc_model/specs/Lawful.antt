-- What holds of the tables of every run, in one.
use Rattle.hc_model.specs.Alone.{Alone}
use Rattle.hc_model.specs.Endings.{Endings}
use Rattle.hc_model.specs.Given.{Given}
use Rattle.hc_model.specs.Growing.{Growing}
use Rattle.hc_model.specs.Keys.{IsOfOneKey}
use Rattle.hc_model.specs.Orders.{InOrder}
use Rattle.hc_model.specs.Owners.{Owners}
use Rattle.hc_model.specs.Passed.{Passed}
use Rattle.hc_model.specs.Places.{Places}
use Rattle.hc_model.specs.Rows.{Tables}
use Rattle.hc_model.specs.Sound.{Sound}
use Rattle.hc_model.specs.Whose.{Whose}

pub record Lawful (t : Tables) : Type 0 where
  pub sound : Sound t
  pub owned : Owners t
  pub places : Places t
  pub passed : Passed t
  pub order : InOrder t
  pub whose : Whose t
  pub endings : Endings t
  pub given : Given t
  pub growing : Growing t
  pub alone : Alone t
  pub keyed : IsOfOneKey t
