-- Who came alone and rests, rests ever after, until what it reads is lost.
use Rattle.std.specs.Prelude.{◌≡◌, ◌≢◌, ℕ, [], ◌∷◌, true, false, Some, None}
use Rattle.hc_rules.specs.declared.room.Limits.{Limits}
use Rattle.hc_model.specs.Beginnings.{may_begin}
use Rattle.hc_model.specs.Entries.{Entry, History, Contents}
use Rattle.hc_model.specs.Reading.{bound}
use Rattle.hc_model.specs.Rows.{Tables, Representation, Consumer}
use Rattle.hc_model.specs.Runs.{IsRun}
use Rattle.hc_model.specs.Sound.{IsBound, IsFirst}
use Rattle.hc_model.specs.Tables.{tables}
use Rattle.hc_model.specs.Writers.{exclusive, has_more}

-- From the tables before an entry to those after it, where r isn't lost then. Whoever came alone and has nothing
-- more to come has nothing more then, if it is bound and no failure is due to it. What somebody was bound to and
-- nobody wrote alone, nobody writes alone then.
pub record RestsOn (old new : Tables) : Type 0 where
  pub rests : (r c : ℕ) (v p : Representation) (k u : Consumer) → old.representation r ≡ Some v →
      new.representation r ≡ Some p → p.is_lost ≡ false → IsFirst old r c →
      old.consumer c ≡ Some k → IsBound new r c u → u.due ≡ None → has_more old v k ≡ false →
      has_more new p u ≡ false
  pub unwritten : (r : ℕ) (v p : Representation) → old.representation r ≡ Some v →
      new.representation r ≡ Some p → p.is_lost ≡ false → bound old r ≢ [] →
      exclusive old r v ≡ None → exclusive new r p ≡ None

-- at each entry of a run
abbrev pub RestsInRuns : Type 0
RestsInRuns =
    (limits : Limits) (contents : Contents) (h : History) (e : Entry) →
    may_begin limits contents ≡ true → IsRun limits contents (e ∷ h) →
    RestsOn (tables contents h) (tables contents (e ∷ h))
