-- What an exchange is about: that to which its consumer was bound when it was opened, or else what was current for its key.
use Rattle.std.specs.Prelude.{◌≡◌, ℕ, Bool, true, false, Option, Some, None}
use Rattle.hc_event.specs.declared.act.Need.{Need}
use Rattle.hc_event.specs.declared.act.Need.TheVariants as need
use Rattle.hc_event.specs.declared.event.Response.{Response}
use Rattle.hc_rules.specs.HeadCases.{head_case}
use Rattle.hc_event.specs.declared.place.BoundBy.TheVariants as by
use Rattle.hc_event.specs.declared.place.Place.TheVariants as place
use Rattle.hc_model.specs.Cases.{head_view}
use Rattle.hc_model.specs.Rows.{Tables, Exchange, Representation, Consumer}

-- it asks for bytes of what is stored, whether that still holds, or for what that doesn't answer
abbrev pub is_about_some : Need → Bool
is_about_some need.Vary = true
is_about_some need.Validate = true
is_about_some (need.Hole from to) = true
is_about_some need.Unsatisfied = true
is_about_some _ = false

-- it is about a representation that is there, of the key of its request
pub record HasAim (t : Tables) (w : Exchange) : Type 0 where
  pub r : ℕ
  pub aim : w.aim ≡ Some r
  pub v : Representation
  pub row : t.representation r ≡ Some v
  pub key_is : v.key ≡ w.request.key

-- What it joined, or fills the first hole of, is what it is about. What goes past what is stored may be about something too, but
-- nothing depends on that.
pub record Aims (t : Tables) : Type 0 where
  pub about : (x : ℕ) (w : Exchange) → t.exchange x ≡ Some w → is_about_some w.need ≡ true →
      HasAim t w
  pub missed : (x : ℕ) (w : Exchange) → t.exchange x ≡ Some w → w.need ≡ need.Miss → w.aim ≡ None
  pub joined : (x r : ℕ) (w : Exchange) → t.exchange x ≡ Some w → w.joined ≡ Some r →
      w.aim ≡ Some r
  pub first : (c r lo y : ℕ) (hi : Option ℕ) (k : Consumer) (w : Exchange) →
      t.consumer c ≡ Some k → k.place ≡ place.Bound r lo hi (by.FirstHole y) →
      t.exchange y ≡ Some w → w.aim ≡ Some r

-- it asks whether what is stored still holds, or for bytes of it
abbrev pub needs_aim : Need → Bool
needs_aim need.Validate = true
needs_aim (need.Hole from to) = true
needs_aim _ = false

-- Else the case of its head is the same whatever it is about.
abbrev pub CaseWithoutAim : Type 0
CaseWithoutAim =
    (t : Tables) (lost : Bool) (w : Exchange) (response : Response) (aim : Option ℕ) →
    needs_aim w.need ≡ false →
    head_case (head_view t lost (record w { aim = aim }) response)
    ≡ head_case (head_view t lost w response)
