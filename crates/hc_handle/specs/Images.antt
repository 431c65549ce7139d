-- Images, and caches that begin with what they have.
use Rattle.std.specs.Prelude.{◌≡◌, ◌↔◌, ℕ, ◌+◌, ◌≤◌, ◌^◌, List, [], true, false, Some}
use Rattle.hc_binary.specs.declared.refused.CallRefusal.{CallRefusal}
use Rattle.hc_binary.specs.declared.refused.CallRefusal.TheVariants as refused
use Rattle.hc_contents.specs.Fit.{unfit_of}
use Rattle.hc_contents.specs.declared.unfit.Unfit.TheVariants as unfit
use Rattle.hc_core.specs.declared.begin.ContentsError.{ContentsError}
use Rattle.hc_core.specs.declared.begin.ContentsError.TheVariants as error
use Rattle.hc_core.specs.declared.cache.Cache.{Cache}
use Rattle.hc_core.specs.Steps.{StandsFor, ServesAll, limits_in, has_failed, last_moment, live_in}
use Rattle.hc_core.specs.Steps as core
use Rattle.hc_image.specs.Images as images
use Rattle.hc_image.specs.Spelled.{SpellsImage}
use Rattle.hc_model.specs.Beginnings.{may_begin}
use Rattle.hc_model.specs.Contents.{contents_of}
use Rattle.hc_model.specs.Entries.{History, Contents}
use Rattle.hc_model.specs.Tables.{tables}
use Rattle.hc_rules.specs.declared.room.Limits.{Limits}
use Rattle.hc_store.specs.declared.backend.Backend.{Ghosts}

-- A TEXT IS READ

-- the text is an image of the contents, and nothing more
abbrev pub IsRead : List ℕ → Contents → Type 0
IsRead text contents = SpellsImage text contents

-- it is none, or memory was refused
abbrev pub IsUnread : List ℕ → CallRefusal → Type 0
IsUnread text refused.NoMemory = Unit {0}
IsUnread text refused.BadImage = (contents : Contents) → ¬ SpellsImage text contents
IsUnread text _ = ⊥

-- A CACHE BEGINS

-- it begins with these contents, stands for that, and for each run that leaves them
pub record Begun {B : Type 0} {g : Ghosts B} (limits : Limits) (contents : Contents) (s : Cache B g) : Type 0 where
  pub stands : StandsFor s contents []
  pub serves : ServesAll s contents
  pub limited : limits_in s ≡ limits
  pub ready : has_failed s ≡ false
  pub unused : core.steps s + core.bytes_received s ≡ 0

abbrev pub refused_by : ContentsError → CallRefusal
refused_by (error.BadContent i) = refused.BadContent
refused_by error.Full = refused.Full
refused_by error.Fault = refused.NoMemory
refused_by error.NoMemory = refused.NoMemory

-- or the contents are refused, or memory was
abbrev pub IsUnbegun : Limits → Contents → CallRefusal → Type 0
IsUnbegun limits contents refused.NoMemory = Unit {0}
IsUnbegun limits contents refused.BadContent = (i : ℕ) × (unfit_of limits contents ≡ Some (unfit.BadContent i))
IsUnbegun limits contents refused.Full = unfit_of limits contents ≡ Some unfit.Full
IsUnbegun limits contents _ = ⊥

-- AN IMAGE IS MADE

-- The text is the image of what every history leaves that the cache stands for. A cache that may hold as much or more may begin with
-- it, unless the number of the next exchange is above 2^60.
pub record IsImageOf {B : Type 0} {g : Ghosts B} (s : Cache B g) (image : List ℕ) : Type 0 where
  pub contents : Contents
  pub image_is : image ≡ images.image_of contents
  pub left : (before : Contents) (h : History) → StandsFor s before h → contents ≡ contents_of (tables before h)
  pub begins : contents.next_exchange ≤ 2 ^ 60 → (limits : Limits) →
      (limits_in s).max_entry ≤ limits.max_entry → (limits_in s).max_total ≤ limits.max_total →
      may_begin limits contents ≡ true

-- the cache stands for the same histories
pub record Stays {B : Type 0} {g : Ghosts B} (s u : Cache B g) : Type 0 where
  pub same : (contents : Contents) (h : History) → StandsFor s contents h ↔ StandsFor u contents h
  pub limits : limits_in u ≡ limits_in s
  pub moment : last_moment u ≡ last_moment s
  pub steps : core.steps u ≡ core.steps s
  pub received : core.bytes_received u ≡ core.bytes_received s
  pub failed : has_failed u ≡ has_failed s
