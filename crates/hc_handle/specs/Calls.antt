-- What a call on a handle leads to: what the handle had and has, and the code that is answered.
use Rattle.std.specs.Prelude.{◌≡◌, ◌≢◌, ℕ, ◌==◌, List, [], length, Option, Some, None, Result, Ok, Err, if◌then◌else◌}
use Rattle.std.specs.List.{slice_get}
use Rattle.hc_binary.specs.Events.{Made}
use Rattle.hc_binary.specs.Refusals.{code_of}
use Rattle.hc_binary.specs.declared.act.ActNumbers.{ActNumbers}
use Rattle.hc_binary.specs.Copies.{HoldsPrefix}
use Rattle.hc_binary.specs.declared.refused.CallRefusal.{CallRefusal}
use Rattle.hc_binary.specs.declared.refused.CallRefusal.TheVariants as refused
use Rattle.hc_event.specs.Acts.{act_list}
use Rattle.hc_rules.specs.declared.room.Limits.{Limits}
use Rattle.hc_sched.specs.declared.schedule.Refused.{Refused}
use Rattle.hc_handle.specs.declared.session.Session.{Session}
use Rattle.hc_handle.specs.Images.{Stays}
use Rattle.hc_handle.specs.Sessions.{Begins, BeginsWith, IsUnopened, HasAnswered, HasImage, IsNext, IsSilent, refused_at, bytes_reported, moment_reported, live_reported}
use Rattle.hc_handle.specs.Texts.{IsRead, IsFinished, refused_in, number_of, report_at}

-- CODES

-- 0, or the number of a refusal
abbrev pub answer_code : {A : Type 0} → Result A CallRefusal → ℕ
answer_code (Ok a) = 0
answer_code (Err e) = code_of e

-- what is answered where memory suffices: by why no event is, and by what was made
abbrev pub owed_in : Option CallRefusal → Made → ℕ
owed_in (Some why) made = code_of why
owed_in None (Err why) = code_of why
owed_in None (Ok event) = 0

abbrev pub owed_code : Option Session → ℕ → Made → ℕ
owed_code None now made = 1
owed_code (Some s) now made = owed_in (refused_at s now) made

-- AN EVENT

abbrev pub AreAnswered : Option Session → Option Session → ℕ → Made → Type 0
AreAnswered (Some s) (Some u) now made = HasAnswered s u now made
AreAnswered _ _ now made = ⊥

-- nothing is answered any more, and there is no act and no report to tell
abbrev pub IsSpent : Option Session → Type 0
IsSpent (Some s) = IsSilent s
IsSpent None = ⊥

-- What comes of an event at a moment, as it was made: at 0 it was answered. At 2 memory was refused: nothing is answered any more, and
-- there is no act to tell. Any other code is the one that is owed, and nothing has changed.
pub record Comes (s u : Option Session) (now : ℕ) (made : Made) (code : ℕ) : Type 0 where
  pub done : code ≡ 0 → AreAnswered s u now made
  pub owed : code ≢ 2 → code ≡ owed_code s now made
  pub spent : code ≡ 2 → IsSpent u
  pub kept : code ≢ 0 → code ≢ 2 → u ≡ s

-- BEGINNING

abbrev pub IsBegun : Limits → Option Session → Type 0
IsBegun limits (Some s) = Begins limits s
IsBegun limits None = ⊥

abbrev pub IsOpened : Limits → List ℕ → Option Session → Type 0
IsOpened limits image (Some s) = BeginsWith limits image s
IsOpened limits image None = ⊥

-- why it isn't, by the code
pub record IsClosed (limits : Limits) (image : List ℕ) (code : ℕ) : Type 0 where
  pub why : CallRefusal
  pub code_is : code ≡ code_of why
  pub cause : IsUnopened limits image why

-- ACTS

abbrev pub HasNext : Option Session → Option Session → ActNumbers → Type 0
HasNext (Some s) (Some u) numbers = IsNext s u (Some numbers)
HasNext _ _ numbers = ⊥

-- all were told, or there is no cache
abbrev pub NoNext : Option Session → Type 0
NoNext None = Unit {0}
NoNext (Some s) = slice_get (act_list s.acts) s.reported ≡ None

-- the bytes of the act that was told last
abbrev pub bytes_in_handle : Option Session → List ℕ
bytes_in_handle None = []
bytes_in_handle (Some s) = bytes_reported s

-- THE IMAGE

-- how many bytes an image has, or 0
abbrev pub length_reported : Result ℕ CallRefusal → ℕ
length_reported (Ok len) = len
length_reported (Err e) = 0

pub record IsPictured (s : Session) (room : List ℕ) (len code : ℕ) : Type 0 where
  pub result : Result ℕ CallRefusal
  pub has : HasImage s room result
  pub code_is : code ≡ answer_code result
  pub length_is : len ≡ length_reported result

abbrev pub ArePictured : Option Session → List ℕ → ℕ → ℕ → Type 0
ArePictured None room len code = (code ≡ 1) × (len ≡ 0)
ArePictured (Some s) room len code = IsPictured s room len code

-- what the cache stands for stays, and so do the acts
abbrev pub AllStay : Option Session → Option Session → Type 0
AllStay None u = u ≡ None
AllStay (Some s) None = ⊥
AllStay (Some s) (Some u) =
    Stays s.cache u.cache × (u.spent ≡ s.spent) × (act_list u.acts ≡ act_list s.acts) × (u.reported ≡ s.reported)
    × (u.schedule ≡ s.schedule)

-- A TEXT

abbrev pub AreRead : Option Session → Option Session → List ℕ → Result (Unit {0}) CallRefusal → Type 0
AreRead None u text result = (result ≡ Err refused.NoHandle) × (u ≡ None)
AreRead (Some s) None text result = ⊥
AreRead (Some s) (Some u) text result = IsRead s u text result

-- What comes of a further piece of a text.
pub record Reads (s u : Option Session) (text : List ℕ) (code : ℕ) : Type 0 where
  pub result : Result (Unit {0}) CallRefusal
  pub read : AreRead s u text result
  pub code_is : code ≡ answer_code result

abbrev pub AreFinished : Option Session → Option Session → Result (Unit {0}) CallRefusal → Type 0
AreFinished None u result = (result ≡ Err refused.NoHandle) × (u ≡ None)
AreFinished (Some s) None result = ⊥
AreFinished (Some s) (Some u) result = IsFinished s u result

-- What comes of the end of a text.
pub record Finishes (s u : Option Session) (code : ℕ) : Type 0 where
  pub result : Result (Unit {0}) CallRefusal
  pub finished : AreFinished s u result
  pub code_is : code ≡ answer_code result

-- where the text is refused, if it is
abbrev pub refused_in_handle : Option Session → Option Refused
refused_in_handle None = None
refused_in_handle (Some s) = refused_in s

-- at 14 alone it is told
abbrev pub told_at : ℕ → Option Refused → Option Refused
told_at code refused = if code == 14 then refused else None

-- the line and the number of the reason are written, or both are as they were
abbrev pub IsTold : Option Refused → ℕ → ℕ → ℕ → ℕ → Type 0
IsTold None line line' why why' = (line' ≡ line) × (why' ≡ why)
IsTold (Some r) line line' why why' = (line' ≡ r.line) × (why' ≡ number_of r.why)

-- the report of the last piece
abbrev pub report_in_handle : Option Session → List ℕ
report_in_handle None = []
report_in_handle (Some s) = report_at s

-- how many bytes a report has, and a room has the first of them
pub record HasReport (report room : List ℕ) (len : ℕ) : Type 0 where
  pub length_is : len ≡ length report
  pub count : ℕ
  pub front : HoldsPrefix room count report

-- VIEWS

abbrev pub moment_in : Option Session → ℕ
moment_in None = 0
moment_in (Some s) = moment_reported s

abbrev pub live_in_handle : Option Session → ℕ
live_in_handle None = 0
live_in_handle (Some s) = live_reported s
