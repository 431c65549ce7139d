-- Where nobody asks on condition of a copy, the front changes nothing.
--
-- Nobody is under watch then (`nobody_watched`): only a start of an external request puts somebody there. So what is
-- handed on is what came, and what is told is what was heard (`plain_else`).
use Rattle.std.{proofs.Common.{◌≡◌, ℕ, Bool, true, false, List, [], ◌∷◌, Option, Some, None, refl, sym, ap, ◌∙◌}, specs.Prelude.{◌&&◌, not, nat_eq, if◌then◌else◌}}
use Rattle.hc_effects.proofs.Vocabulary.{is_denied, Act, Event, Request, is_live, Entry, History, Contents, Tables, Consumer, after}
use Rattle.hc_event.specs.declared.event.Event.TheVariants as event
use Rattle.hc_replay.specs.Histories.{run_of}
use Rattle.hc_front.specs.{declared.watches.Watched.{Watched}, Fronts.{Fronted, FrontEntry, is_watched, is_ending, handed, reported, watched_by, while_live, core_entry, front_after}, FrontHistories.{FrontHistory, fronted, answered_of}, Laws.{starts_external, HasNoneExternal, IsPlainElse}, Watching.{newly}}
use Rattle.hc_condition.specs.External.{is_external}

-- only what is external is watched
not_watched : (t : Tables) (request : Request) → is_external request ≡ false → is_watched t request ≡ false
unfolding is_watched
not_watched t request off = rw off refl

abbrev nothing : Option Watched
nothing = None

none_live : (o : Option Consumer) → while_live o None ≡ None
none_live o = by_test (is_live o)
  where
    by_test : (b : Bool) → (if b then nothing else nothing) ≡ nothing
    by_test true = refl
    by_test false = refl

none_by : (t : Tables) (acts : List Act) (c : ℕ) (ev : Event) → starts_external ev ≡ false → watched_by t acts c ev None ≡ None
none_by t acts c (event.Start d request) off = by_tests (nat_eq d c) (not (is_denied acts)) (is_watched t request) (not_watched t request off)
  where
    by_tests : (x y z : Bool) → z ≡ false → (if x && (y && z) then Some (newly request) else None) ≡ None
    by_tests true true z is = rw is refl
    by_tests true false z is = refl
    by_tests false y z is = refl
none_by t acts c (event.Poll d want) off = by_test (nat_eq d c)
  where
    by_test : (b : Bool) → (if b then nothing else nothing) ≡ nothing
    by_test true = refl
    by_test false = refl
none_by t acts c (event.Cancel d) off = refl
none_by t acts c (event.Head x response) off = refl
none_by t acts c (event.Piece x bytes) off = refl
none_by t acts c (event.End x) off = refl
none_by t acts c (event.Fault x) off = refl
none_by t acts c (event.Doom key) off = refl

none_stays : (o : Option Consumer) (t : Tables) (acts : List Act) (c : ℕ) (ev : Event) (before : Option Watched) → before ≡ None →
    starts_external ev ≡ false → while_live o (watched_by t acts c ev before) ≡ None
none_stays o t acts c ev before none off = ap (λ (w : Option Watched). while_live o (watched_by t acts c ev w)) none ∙
    (ap (while_live o) (none_by t acts c ev off) ∙ none_live o)

nobody_watched : (contents : Contents) (f : FrontHistory) → HasNoneExternal f → (c : ℕ) → (fronted contents f).watched c ≡ None
unfolding fronted front_after
nobody_watched contents [] none c = refl
nobody_watched contents (e ∷ f) none c =
    none_stays ((after (fronted contents f).core (core_entry (fronted contents f) e)).consumer c) (fronted contents f).core e.acts c e.event
    ((fronted contents f).watched c) (nobody_watched contents f none.0 c) none.1

handed_on : (t : Fronted) (ev : Event) → ((c : ℕ) → t.watched c ≡ None) → starts_external ev ≡ false → handed t ev ≡ ev
unfolding is_ending
handed_on t (event.Start d request) none off = rw (not_watched t.core request off) refl
handed_on t (event.Poll d want) none off = rw (none d) refl
handed_on t (event.Cancel d) none off = refl
handed_on t (event.Head x response) none off = refl
handed_on t (event.Piece x bytes) none off = refl
handed_on t (event.End x) none off = refl
handed_on t (event.Fault x) none off = refl
handed_on t (event.Doom key) none off = refl

reported_on : (t : Fronted) (ev : Event) (acts : List Act) → ((c : ℕ) → t.watched c ≡ None) → reported t ev acts ≡ acts
unfolding is_ending
reported_on t (event.Poll d want) acts none = rw (none d) refl
reported_on t (event.Start d request) acts none = refl
reported_on t (event.Cancel d) acts none = refl
reported_on t (event.Head x response) acts none = refl
reported_on t (event.Piece x bytes) acts none = refl
reported_on t (event.End x) acts none = refl
reported_on t (event.Fault x) acts none = refl
reported_on t (event.Doom key) acts none = refl

entry_on : (t : Fronted) (e : FrontEntry) → ((c : ℕ) → t.watched c ≡ None) → starts_external e.event ≡ false →
    record { now = e.now; event = e.event; acts = reported t e.event e.acts } ≡ core_entry t e
entry_on t e none off =
    let F : List Act → Entry = λ acts. record { now = e.now; event = e.event; acts = acts } in
    let G : Event → Entry = λ ev. record { now = e.now; event = ev; acts = e.acts } in
    ap F (reported_on t e.event e.acts none) ∙ ap G (sym (handed_on t e.event none off))

pub plain_else : IsPlainElse
plain_else contents [] none = refl
plain_else contents (e ∷ f) none =
    ap (λ (x : Entry). x ∷ run_of (answered_of contents f)) (entry_on (fronted contents f) e (nobody_watched contents f none.0) none.1)
    ∙ ap (λ (h : History). core_entry (fronted contents f) e ∷ h) (plain_else contents f none.0)
