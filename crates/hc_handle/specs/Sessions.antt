-- A session, and what a call leads to.
use Rattle.std.specs.Prelude.{◌≡◌, ◌≢◌, ℕ, ◌+◌, ◌-◌, ◌<◌, ◌^◌, ◌||◌, nat_le, nat_lt, List, [], length, Bool, is_some, true, false, Option, Some, None, Result, Ok, Err, if◌then◌else◌}
use Rattle.std.specs.List.{slice_get}
use Rattle.hc_binary.specs.Copies.{HoldsPrefix}
use Rattle.hc_binary.specs.Events.{Made}
use Rattle.hc_binary.specs.Numbers.{bytes_of, numbers_of}
use Rattle.hc_binary.specs.declared.act.ActNumbers.{ActNumbers}
use Rattle.hc_binary.specs.declared.refused.CallRefusal.{CallRefusal}
use Rattle.hc_binary.specs.declared.refused.CallRefusal.TheVariants as refused
use Rattle.hc_core.specs.Steps.{Answers, StandsFor, limits_in, last_moment, live_in, bytes_received}
use Rattle.hc_core.specs.Steps as core
use Rattle.hc_event.specs.Acts.{act_list}
use Rattle.hc_event.specs.declared.act.Act.{Act}
use Rattle.hc_event.specs.declared.event.Event.{Event}
use Rattle.hc_model.specs.Entries.{Contents, no_contents}
use Rattle.hc_model.specs.Tables.{received_in}
use Rattle.hc_rules.specs.declared.room.Limits.{Limits}
use Rattle.hc_handle.specs.declared.session.Session.{Session}
use Rattle.hc_handle.specs.Images.{IsRead, IsUnread, Begun, IsUnbegun, IsImageOf, Stays}

-- events came as the text of a schedule, and by no other call
abbrev pub has_text : Session → Bool
has_text s = is_some s.schedule

-- A SESSION BEGINS

-- with nothing
pub record Begins (limits : Limits) (s : Session) : Type 0 where
  pub stands : StandsFor s.cache no_contents []
  pub limited : limits_in s.cache ≡ limits
  pub ready : s.spent ≡ false
  pub unused : core.steps s.cache + bytes_received s.cache ≡ 0
  pub no_text : has_text s ≡ false

-- with what an image has
pub record BeginsWith (limits : Limits) (image : List ℕ) (s : Session) : Type 0 where
  pub contents : Contents
  pub read : IsRead image contents
  pub begun : Begun limits contents s.cache
  pub ready : s.spent ≡ false
  pub no_text : has_text s ≡ false

-- or the text is no image, or its contents are refused, or memory was
pub data IsUnopened (limits : Limits) (image : List ℕ) (e : CallRefusal) : Type 0 where
  unread : IsUnread image e → IsUnopened limits image e
  unbegun : (contents : Contents) → IsRead image contents → IsUnbegun limits contents e → IsUnopened limits image e

-- AN EVENT

-- why no event is answered at a moment, if none is
abbrev pub refused_at : Session → ℕ → Option CallRefusal
refused_at s now =
    if s.spent then Some refused.NoMemory
    else if nat_le (2 ^ 59) (core.steps s.cache) || nat_le (2 ^ 60) (bytes_received s.cache) then Some refused.Exhausted
    else if nat_lt now (last_moment s.cache) || nat_le (2 ^ 62) now then Some refused.BadMoment
    else None

-- An event was answered at a moment: the acts are those of one entry more, and none of them was told. No text goes on behind it.
pub record Answered (s u : Session) (now : ℕ) (event : Event) : Type 0 where
  pub answers : Answers s.cache u.cache now event (act_list u.acts)
  pub unreported : u.reported ≡ 0
  pub moment : last_moment u.cache ≡ now
  pub received : bytes_received u.cache ≡ bytes_received s.cache + received_in event
  pub ready : u.spent ≡ false
  pub no_text : has_text u ≡ false

-- the event that was made was answered
abbrev pub HasAnswered : Session → Session → ℕ → Made → Type 0
HasAnswered s u now (Ok event) = Answered s u now event
HasAnswered s u now (Err e) = ⊥

-- why an event isn't answered, by why none is, and by what was made
abbrev pub IsOwed : Option CallRefusal → Made → CallRefusal → Type 0
IsOwed (Some why) made e = e ≡ why
IsOwed None (Err why) e = e ≡ why
IsOwed None (Ok event) e = e ≡ refused.NoMemory

-- nothing is answered any more, and there is no act and no report to tell
abbrev pub IsSilent : Session → Type 0
IsSilent s = (s.spent ≡ true) × (act_list s.acts ≡ []) × (s.reported ≡ 0) × (has_text s ≡ false)

-- why it isn't: where memory was refused nothing is answered any more, and else nothing has changed
pub record IsRefused (s u : Session) (now : ℕ) (made : Made) (e : CallRefusal) : Type 0 where
  pub owed : IsOwed (refused_at s now) made e
  pub spent : e ≡ refused.NoMemory → IsSilent u
  pub kept : e ≢ refused.NoMemory → u ≡ s

abbrev pub IsAnswered : Session → Session → ℕ → Made → Result (Unit {0}) CallRefusal → Type 0
IsAnswered s u now made (Ok done) = (refused_at s now ≡ None) × HasAnswered s u now made
IsAnswered s u now made (Err e) = IsRefused s u now made e

-- ITS ACTS

-- the next act was told, if there was one
abbrev pub IsNext : Session → Session → Option ActNumbers → Type 0
IsNext s u None = (slice_get (act_list s.acts) s.reported ≡ None) × (u ≡ s)
IsNext s u (Some numbers) =
    (act : Act) × (slice_get (act_list s.acts) s.reported ≡ Some act) × (numbers ≡ numbers_of act)
    × (u.reported ≡ s.reported + 1) × (act_list u.acts ≡ act_list s.acts) × (u.cache ≡ s.cache) × (u.spent ≡ s.spent)
    × (u.schedule ≡ s.schedule)

-- the bytes of an act, if there is one
abbrev pub bytes_in : Option Act → List ℕ
bytes_in None = []
bytes_in (Some act) = bytes_of act

-- those of the last of so many acts
abbrev pub reported_of : List Act → ℕ → List ℕ
reported_of acts reported = if nat_lt 0 reported then bytes_in (slice_get acts (reported - 1)) else []

-- those of the act that was told last
abbrev pub bytes_reported : Session → List ℕ
bytes_reported s = reported_of (act_list s.acts) s.reported

-- THE IMAGE

abbrev pub moment_of : Session → ℕ
moment_of s = last_moment s.cache

abbrev pub live_of : Session → ℕ
live_of s = live_in s.cache

-- what is told of them: 0 where memory was refused
abbrev pub moment_reported : Session → ℕ
moment_reported s = if s.spent then 0 else moment_of s

abbrev pub live_reported : Session → ℕ
live_reported s = if s.spent then 0 else live_of s

-- what is told of an image, and what a room has of it
abbrev pub HasImage : Session → List ℕ → Result ℕ CallRefusal → Type 0
HasImage s room (Ok len) =
    (s.spent ≡ false) × (live_of s ≡ 0) × (image : List ℕ) × IsImageOf s.cache image
    × (len ≡ length image) × ((n : ℕ) × HoldsPrefix room n image)
HasImage s room (Err refused.Live) = (s.spent ≡ false) × (0 < live_of s)
HasImage s room (Err refused.NoMemory) = Unit {0}
HasImage s room (Err _) = ⊥

-- The image was copied of what the cache has, while nobody is live; or somebody is, or memory was refused. What the cache stands
-- for stays.
pub record IsCopied (s u : Session) (room : List ℕ) (result : Result ℕ CallRefusal) : Type 0 where
  pub copied : HasImage s room result
  pub stays : Stays s.cache u.cache
  pub spent : u.spent ≡ s.spent
  pub acts : act_list u.acts ≡ act_list s.acts
  pub reported : u.reported ≡ s.reported
  pub text : u.schedule ≡ s.schedule
