-- An image is opened, and the schedule behind it goes on from what the image has.
--
-- A text begins with one image at most, so what was told of the image that was read holds of each (`opened_once`). Why a
-- cache doesn't begin with contents is what `unfit_of` says, which is nothing where a store may begin with them (`fitting`):
-- so an image of such contents is never refused (`always_taken`). A cache that begins with contents stands for their
-- beginning, and for each run that leaves them. Its store counts no failure, so no act tells one. So what was replayed
-- is a run from the contents, and goes on behind whatever left them (`continued`), at each ending (`ends_continued`).
use Rattle.std.{proofs.{Common.{◌≡◌, ◌≢◌, ℕ, List, [], ◌++◌, true, false, Option, Some, None, refl, sym, ◌∙◌, subst, arith}, lemmas.List.{append-nil}}, specs.Prelude.{is_none}}
use Rattle.hc_io.specs.Source.{GivesAll}
use Rattle.hc_sched.specs.{declared.schedule.{Ended.{Ended}, Timed.{Timed}}, Schedule.{Spells}}
use Rattle.hc_sched.specs.declared.schedule.Ended.TheVariants as ended
use Rattle.hc_driver.specs.Endings.{How, Ends}
use Rattle.hc_driver.specs.Stepping as steps
use Rattle.hc_driver.proofs.ReportSteps.{ends_so}
use Rattle.hc_effects.proofs.Vocabulary.{Limits, may_begin, History, Contents, IsRun, tables}
use Rattle.hc_store.specs.declared.backend.Backend.{Ghosts}
use Rattle.hc_contents.specs.{Fit.{unfit_of}, declared.unfit.Unfit.{Unfit}}
use Rattle.hc_contents.specs.declared.unfit.Unfit.TheVariants as unfit
use Rattle.hc_contents.proofs.Counting.{begins_by}
use Rattle.hc_core.specs.{Begins.{IsCause}, declared.{begin.ContentsError.{ContentsError}, cache.Cache.{Cache}}, Steps.{StandsFor, ServesAll, faults_in, limits_in, last_moment}}
use Rattle.hc_core.specs.declared.begin.ContentsError.TheVariants as error
use Rattle.hc_replay.specs.{Histories.{run_of}, Replays.{IsReplayed, Replays}, WholeRuns.{IsWholeRun}}
use Rattle.hc_replay.specs.Replays as replays
use Rattle.hc_image.specs.{Readings.{BeginsWithNone}, Spelled.{SpellsImage}}
use Rattle.hc_image.proofs.Once.{image_once}
use Rattle.hc_saving.specs.{declared.{open.OpenEnded.{OpenEnded}, begin.BeginError.{BeginError}}, Opens.{Continues, Opens, Completes, IsImageTaken, IsUnopened, ended_by}, Begins.{BeginsWith, IsUnbegun, refused_by}, Continued.{IsOpened, Leaves, IsContinued}}
use Rattle.hc_saving.specs.declared.open.OpenEnded.TheVariants as opened
use Rattle.hc_saving.specs.Opens as opens
use Rattle.hc_saving.specs.Begins as begins
use Rattle.hc_saving.specs.declared.begin.BeginError.TheVariants as begin
use Rattle.hc_saving.proofs.Saved.{gives_front}

-- WHICH IMAGE

-- a text begins with one image at most
pub opened_once : (text : List ℕ) (a b : Contents) (r s : List ℕ) → IsOpened text a r → IsOpened text b s → (a ≡ b) × (r ≡ s)
opened_once text a b r s p q = image_once p.image q.image a b r s p.is_image q.is_image (p.text_is ∙ sym q.text_is)

-- nothing speaks against contents with which a store may begin
pub fitting : (limits : Limits) (contents : Contents) → may_begin limits contents ≡ true → unfit_of limits contents ≡ None
fitting limits contents may = none_is (unfit_of limits contents) (begins_by limits contents (unfit_of limits contents) refl ∙ may)
  where
    none_is : (o : Option Unfit) → is_none o ≡ true → o ≡ None
    none_is None h = refl
    none_is (Some x) h = absurd (let no : false ≡ true = h in cc)

-- IT IS REFUSED

-- a text that begins with no image
pub unopened_ends : (limits : Limits) (left left' out : Option (List ℕ)) (text : List ℕ) (e : OpenEnded) → GivesAll left left' text → IsUnopened text e →
    Opens limits left left' out out e
unopened_ends limits left left' out text _ gives (opens.none none) = opens.bad_image text gives none refl
unopened_ends limits left left' out text _ gives opens.unread = opens.wanting text (gives_front left left' text gives) refl

pub unopened_completes : (limits : Limits) (left left' : Option (List ℕ)) (text : List ℕ) (e : OpenEnded) → GivesAll left left' text → IsUnopened text e →
    Completes limits left e
unopened_completes limits None left' text e gives is = tt
unopened_completes limits (Some old) left' text _ gives (opens.none none) = subst BeginsWithNone gives.0 none
unopened_completes limits (Some old) left' text _ gives opens.unread = tt

-- why no cache began, by its cause
pub unbegun : (limits : Limits) (contents : Contents) (why : ContentsError) (before now : ℕ) → IsCause limits contents before now why →
    IsUnbegun limits contents (refused_by why)
unbegun limits contents (error.BadContent i) before now cause = begins.refused (unfit.BadContent i) cause
unbegun limits contents error.Full before now cause = begins.refused unfit.Full cause
unbegun limits contents error.Fault before now cause = begins.lacking
unbegun limits contents error.NoMemory before now cause = begins.lacking

-- so the open ends
pub unbegun_ends : (limits : Limits) (left left' out : Option (List ℕ)) (text schedule : List ℕ) (contents : Contents) (e : BeginError) →
    GivesAll left left' text → IsOpened text contents schedule → IsUnbegun limits contents e → Opens limits left left' out out (ended_by e)
unbegun_ends limits left left' out text schedule contents _ gives is (begins.refused (unfit.BadContent i) says) =
    opens.bad_content text schedule contents i gives is says refl
unbegun_ends limits left left' out text schedule contents _ gives is (begins.refused unfit.Full says) = opens.full text schedule contents gives is says refl
unbegun_ends limits left left' out text schedule contents _ gives is begins.lacking = opens.wanting text (gives_front left left' text gives) refl

-- and it tells of each image that the input begins with
pub unbegun_completes : (limits : Limits) (left left' : Option (List ℕ)) (text schedule : List ℕ) (contents : Contents) (e : BeginError) →
    GivesAll left left' text → IsOpened text contents schedule → IsUnbegun limits contents e → Completes limits left (ended_by e)
unbegun_completes limits left left' text schedule contents _ gives is (begins.refused why says) = by_unfit left why gives says
  where
    each : (old : List ℕ) → text ≡ old → (why : Unfit) → unfit_of limits contents ≡ Some why → (c : Contents) (s : List ℕ) → IsOpened old c s →
        unfit_of limits c ≡ Some why
    each old same why says c s q =
        let once = (opened_once text contents c schedule s is (subst (λ (t : List ℕ). IsOpened t c s) (sym same) q)).0 in
        subst (λ (d : Contents). unfit_of limits d ≡ Some why) once says

    by_unfit : (left : Option (List ℕ)) (why : Unfit) → GivesAll left left' text → unfit_of limits contents ≡ Some why →
        Completes limits left (ended_by (begin.Unfit why))
    by_unfit None (unfit.BadContent i) gives says = tt
    by_unfit None unfit.Full gives says = tt
    by_unfit (Some old) (unfit.BadContent i) gives says = each old gives.0 (unfit.BadContent i) says
    by_unfit (Some old) unfit.Full gives says = each old gives.0 unfit.Full says
unbegun_completes limits None left' text schedule contents _ gives is begins.lacking = tt
unbegun_completes limits (Some old) left' text schedule contents _ gives is begins.lacking = tt

-- what a replay tells of the schedule behind its image it tells of the schedule behind each
pub run_completes : (limits : Limits) (left left' : Option (List ℕ)) (text schedule : List ℕ) (contents : Contents) (e : Ended) →
    GivesAll left left' text → IsOpened text contents schedule → replays.Completes contents.now (Some schedule) e → Completes limits left (opened.Ran e)
run_completes limits None left' text schedule contents e gives is complete = tt
run_completes limits (Some old) left' text schedule contents e gives is complete = by_end e complete
  where
    by_end : (e : Ended) → replays.Completes contents.now (Some schedule) e → Completes limits (Some old) (opened.Ran e)
    by_end (ended.Refused why) complete = λ c s q items spells.
        let same = opened_once text contents c schedule s is (subst (λ (t : List ℕ). IsOpened t c s) (sym gives.0) q) in
        complete items
        (subst (λ (d : Contents). Spells d.now schedule items) (sym same.0) (subst (λ (z : List ℕ). Spells c.now z items) (sym same.1) spells))
    by_end ended.Done complete = tt
    by_end ended.SourceFailed complete = tt
    by_end ended.SinkFailed complete = tt
    by_end ended.WireFailed complete = tt
    by_end ended.NoMemory complete = tt

-- IT IS NEVER REFUSED

-- an image of contents with which a store may begin
pub always_taken : (limits : Limits) (left : Option (List ℕ)) (result : OpenEnded) → Completes limits left result →
    (contents : Contents) (image schedule : List ℕ) → SpellsImage image contents → may_begin limits contents ≡ true → left ≡ Some (image ++ schedule) →
    IsImageTaken result
always_taken limits left result complete contents image schedule is may here =
    by_result result (subst (λ (l : Option (List ℕ)). Completes limits l result) here complete)
  where
    opened_so : IsOpened (image ++ schedule) contents schedule
    opened_so = record { image = image; is_image = is; text_is = refl }

    unrefused : (why : Unfit) → unfit_of limits contents ≡ Some why → ⊥
    unrefused why says = let no : None ≡ Some why = sym (fitting limits contents may) ∙ says in cc

    by_result : (r : OpenEnded) → Completes limits (Some (image ++ schedule)) r → IsImageTaken r
    by_result opened.BadImage none = none contents image schedule is refl
    by_result (opened.BadContent i) each = unrefused (unfit.BadContent i) (each contents schedule opened_so)
    by_result opened.Full each = unrefused unfit.Full (each contents schedule opened_so)
    by_result (opened.Ran e) each = tt

-- IT GOES ON

-- a cache that begins with contents comes from their moment
pub begun_moment : {B : Type 0} {g : Ghosts B} (s : Cache B g) (contents : Contents) → StandsFor s contents [] → last_moment s ≡ contents.now
unfolding tables
begun_moment s contents stands = stands.moment

module _ {B : Type 0} {g : Ghosts B} (limits : Limits) (contents : Contents) (s : Cache B g) (stands : StandsFor s contents [])
    (serves : ServesAll s contents) (limited : limits_in s ≡ limits) (calm : (v : Cache B g) → faults_in v ≡ 0) where
  pub behind : (before : Contents) (earlier : History) → Leaves limits before earlier contents → StandsFor s before earlier
  behind before earlier leaves =
      serves before earlier (subst (λ (l : Limits). may_begin l before ≡ true) (sym limited) leaves.begins) leaves.short
      (subst (λ (l : Limits). IsRun l before earlier) (sym limited) leaves.run) leaves.empty leaves.contents_are

  continued : (u : Cache B g) (events : List Timed) (h : steps.History) → IsReplayed s u events h → IsContinued limits contents events h
  continued u events h is = record {
    events_are = is.events_are;
    whole =
        subst (λ (l : Limits). IsWholeRun l contents (run_of h)) limited
        (subst (IsWholeRun (limits_in s) contents) (append-nil (run_of h)) (is.goes_on contents [] stands).whole);
    goes_on = λ before earlier leaves. subst (λ (l : Limits). IsWholeRun l before (run_of h ++ earlier)) limited
        (is.goes_on before earlier (behind before earlier leaves)).whole;
    sound = (let counted = is.counted in let none = calm u in omega (arith, counted, none));
  }

  continues : (u : Cache B g) (out out' : Option (List ℕ)) (how : How) (events : List Timed) → Replays s u out out' how events →
      Continues limits contents out out' how events
  continues u out out' _ events (replays.wholly h is taken) = opens.wholly h (continued u events h is) taken
  continues u out out' _ events (replays.up_to_last h is taken) = opens.up_to_last h (continued u events h is) taken
  continues u out out' _ events (replays.up_to_want h last is taken spent) = opens.up_to_want h (continued last events h is) taken

  pub ends_continued : (u : Cache B g) (moment : ℕ) (left left' out out' : Option (List ℕ)) (e : Ended) →
      Ends (Replays s u out out') moment left left' e → Ends (Continues limits contents out out') moment left left' e
  ends_continued u moment left left' out out' e ends = ends_so _ _ (continues u out out') moment left left' e ends

-- THE RUN

-- the schedule behind an image was run from its contents
pub reopened_ends : {B : Type 0} {g : Ghosts B} (limits : Limits) (left left' out out' rest : Option (List ℕ)) (text schedule given : List ℕ)
    (contents : Contents) (s u : Cache B g) (e : Ended)
    → GivesAll left left' text → IsOpened text contents schedule → given ≡ schedule → BeginsWith limits contents s → ((v : Cache B g) → faults_in v ≡ 0) →
    e ≢ ended.SourceFailed → Ends (Replays s u out out') contents.now (Some given) rest e
    → Opens limits left left' out out' (opened.Ran e)
reopened_ends limits left left' out out' rest text schedule given contents s u e gives is same begun calm readable ends =
    opens.ran text schedule contents rest e gives is begun.fits readable
    (subst (λ (l : List ℕ). Ends (Continues limits contents out out') contents.now (Some l) rest e) same
    (ends_continued limits contents s begun.stands begun.serves begun.limited calm u contents.now (Some given) rest out out' e ends))

-- and what is told of it is told of the schedule behind each image
pub reopened_completes : (limits : Limits) (left left' : Option (List ℕ)) (text schedule given : List ℕ) (contents : Contents) (e : Ended) →
    GivesAll left left' text → IsOpened text contents schedule → given ≡ schedule → replays.Completes contents.now (Some given) e →
    Completes limits left (opened.Ran e)
reopened_completes limits left left' text schedule given contents e gives is same complete =
    run_completes limits left left' text schedule contents e gives is (subst (λ (l : List ℕ). replays.Completes contents.now (Some l) e) same complete)
