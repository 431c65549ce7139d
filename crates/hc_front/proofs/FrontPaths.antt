-- A step of the front, by what its code did: the acts that its cache appended, what it keeps, and what is counted.
--
-- Each way is one of FrontAnswered, with the acts that the cache appended as what was heard. What the cache says of the
-- key of a request is what the definitions ask (`watched_none`, `watched_some`). `has_passed`, `has_watched` and
-- `has_reported` are such ways; `started_at`, `polled_at` and `reported_at` are the same for the code.
use Rattle.std.{proofs.{Common.{◌≡◌, ℕ, ◌+◌, ◌-◌, ◌≤◌, Bool, true, false, List, [], ◌∷◌, ◌++◌, length, take, drop, map, Option, Some, None, refl, sym, ap, ◌∙◌, subst, arith}, lemmas.List.{append_assoc, length-append}, Math.Seq.{take-append_seam, drop-append_seam, take-length}}, specs.{Prelude.{◌&&◌, not, codes, is_some, is_none, option_map, Result, Ok, Err, OnOk, OnErr, IfOk}, List.{list_any}}}
use Rattle.hc_fields.specs.FieldList.{without}
use Rattle.hc_validate.proofs.Settings.{length-without, size_of-without}
use Rattle.hc_effects.proofs.Vocabulary.{IsEventWithinLimits, is_denied, leaves_in, Act, Event, Request, current, is_usable, Contents, History, kind_of, kind_at, kind_for, Tables, Representation, tables, act, event}
use Rattle.hc_store.specs.declared.backend.Backend.{Ghosts}
use Rattle.hc_event.specs.Counting.{received_in}
use Rattle.hc_record.specs.declared.kind.Kind.{Kind}
use Rattle.hc_effects.proofs.PollKeeps.{find_passes}
use Rattle.hc_core.specs.Steps as core
use Rattle.hc_core.specs.Steps.{StandsFor}
use Rattle.hc_condition.specs.{External.{is_external}, NotModified.{unconditioned}, ShownActs.{act_shown, is_leaving, is_satisfying}}
use Rattle.hc_condition.proofs.Reported.{any_leaves}
use Rattle.hc_front.specs.{declared.{front.Front.{Front}, watches.Watched.{Watched}}, Fronts.{is_watched, is_ending}, FrontHistories.{FrontHistory, fronted, core_of}, Steps.{FrontStands, FrontAnswers, HasStepped, last_moment, bytes_received}, Watching.{watched_in, newly, settled, ChangesAt}}
use Rattle.hc_front.proofs.{FrontAnswered.{passes, cancels, starts_unwatched, starts_denied, starts_on, polls_unwatched, polls_end, polls_on}, Watchings.{core_is}}

-- OUTCOMES

pub on_four : {A E P Q R S T : Type 0} (r : Result A E) → OnOk r P → OnOk r Q → OnOk r R → OnOk r S → (P → Q → R → S → T) → OnOk r T
on_four (Ok a) p q r s f = f p q r s
on_four (Err e) p q r s f = tt

pub on_err_by : {A E P Q : Type 0} (r : Result A E) → OnErr r P → (P → Q) → OnErr r Q
on_err_by (Ok a) p f = tt
on_err_by (Err e) p f = f p

pub if_ok_by : {A E : Type 0} {P Q : A → Type 0} (r : Result A E) → IfOk r P → ((a : A) → P a → Q a) → IfOk r Q
if_ok_by (Ok a) p f = f a p
if_ok_by (Err e) p f = tt

-- what is cut off again
pub truncated : (before acts out cut l : List Act) → l ≡ before → out ≡ before ++ acts → cut ≡ take (length l) out → cut ≡ before
truncated before acts out cut l same reported is =
    is ∙ ap (λ (m : List Act). take (length m) out) same ∙ ap (take (length before)) reported ∙ take-append_seam before acts

-- what was appended
pub behind : (before acts out l m : List Act) → l ≡ before → m ≡ out → out ≡ before ++ acts → drop (length l) m ≡ acts
behind before acts out l m same all reported =
    ap (λ (k : List Act). drop (length k) m) same ∙ ap (drop (length before)) (all ∙ reported) ∙ drop-append_seam before acts

-- the same, as a slice up to the end
pub behind_all : (before acts out l m : List Act) → l ≡ before → m ≡ out → out ≡ before ++ acts → take (length m - length l) (drop (length l) m) ≡ acts
behind_all before acts out l m same all reported =
    let rest = behind before acts out l m same all reported in
    let whole = ap length (all ∙ reported) in
    let parts = length-append before acts in
    let first = ap length same in
    let count : length m - length l ≡ length acts = omega (arith, whole, parts, first) in
    ap (take (length m - length l)) rest ∙ ap (λ (n : ℕ). take n acts) count ∙ take-length acts

pub none_more : (before acts out l : List Act) → l ≡ before → out ≡ before ++ acts → length l ≤ length out
none_more before acts out l same reported =
    let whole = ap length reported in
    let parts = length-append before acts in
    let first = ap length same in
    omega (arith, whole, parts, first)

-- whether there is none
pub none_so : {A : Type 0} (o : Option A) (b x : Bool) → is_some o ≡ not b → b ≡ x → is_none o ≡ x
none_so None true x h is = is
none_so None false x h is = absurd (let never : false ≡ true = h in cc)
none_so (Some a) true x h is = absurd (let never : true ≡ false = h in cc)
none_so (Some a) false x h is = is

-- a request without its condition has no more fields
pub without_within : (c : ℕ) (request : Request) → IsEventWithinLimits (event.Start c request) → IsEventWithinLimits (event.Start c (unconditioned request))
without_within c request is = (
  is.0,
  is.1,
  record {
    few = (let few = is.2.few in let a = length-without (codes "if-none-match") request.fields in let b =
        length-without (codes "if-modified-since") (without (codes "if-none-match") request.fields) in omega arith);
    small = (let small = is.2.small in let a = size_of-without (codes "if-none-match") request.fields in let b =
        size_of-without (codes "if-modified-since") (without (codes "if-none-match") request.fields) in omega arith);
  },
)

-- WHAT IS CURRENT

kind_there : (t : Tables) (key : List ℕ) (r : ℕ) (o : Option Representation) → t.representation r ≡ o → is_usable key o ≡ true → is_some (kind_at t r) ≡ true
kind_there t key r None row usable = absurd (let never : false ≡ true = usable in cc)
kind_there t key r (Some v) row usable = ap (λ (o : Option Representation). is_some (option_map (kind_of t r) o)) row

usable : (t : Tables) (key : List ℕ) (r : ℕ) → current t key ≡ Some r → is_usable key (t.representation r) ≡ true
unfolding current
usable t key r is = find_passes (λ (q : ℕ). is_usable key (t.representation q)) t.founded r is

-- there is a kind where something is current
pub kind_some : (t : Tables) (key : List ℕ) → is_some (kind_for t key) ≡ is_some (current t key)
kind_some t key = by_current (current t key) refl
  where
    by_current : (o : Option ℕ) → current t key ≡ o → is_some (kind_for t key) ≡ is_some (current t key)
    by_current None is = rw is refl
    by_current (Some r) is = rw is (kind_there t key r (t.representation r) refl (usable t key r is))

-- nothing is current: the request isn't watched
pub watched_none : (t : Tables) (request : Request) (kind : Option Kind) → kind ≡ kind_for t request.key → is_none kind ≡ true → false ≡ is_watched t request
unfolding is_watched
watched_none t request None is none =
    let off : is_some (current t request.key) ≡ false = sym (kind_some t request.key) ∙ sym (ap is_some is) in
    rw off (by_test (is_external request))
  where
    by_test : (b : Bool) → false ≡ (b && false)
    by_test true = refl
    by_test false = refl
watched_none t request (Some kind) is none = absurd (let never : false ≡ true = none in cc)

-- something is: it is if it is on condition of a copy
pub watched_some : (t : Tables) (request : Request) (kind : Option Kind) → kind ≡ kind_for t request.key → is_none kind ≡ false →
    is_external request ≡ is_watched t request
unfolding is_watched
watched_some t request (Some kind) is some =
    let on : is_some (current t request.key) ≡ true = sym (kind_some t request.key) ∙ sym (ap is_some is) in
    rw on (by_test (is_external request))
  where
    by_test : (b : Bool) → b ≡ (b && true)
    by_test true = refl
    by_test false = refl
watched_some t request None is some = absurd (let never : true ≡ false = some in cc)

-- STEPS

module _ {B : Type 0} {g : Ghosts B} (s u : Front B g) (now : ℕ) (before out : List Act) where
  -- what is said of all tables for which the cache stands
  front_so : (request : Request) (b : Bool) → ((contents : Contents) (h : History) → StandsFor s.cache contents h → is_watched (tables contents h) request ≡ b)
      → (contents : Contents) (f : FrontHistory) → FrontStands s contents f → is_watched (fronted contents f).core request ≡ b
  front_so request b so contents f stands = ap (λ (t : Tables). is_watched t request) (core_is contents f) ∙ so contents (core_of contents f) stands.cache

  module _ (ev : Event) (moment : last_moment u ≡ now) (received : bytes_received u ≡ bytes_received s + received_in ev)
      (ready : core.has_failed u.cache ≡ false) where
    -- by the acts of the cache, whatever it was asked
    stepped : (asked : Event) (q : core.Steps s.cache u.cache before out now asked) → FrontAnswers s u now ev q.acts → HasStepped s u before out now ev
    stepped asked q a = record { steps = record { acts = q.acts; reported = q.reported; answered = a }; moment = moment; received = received; ready = ready }

    pub has_passed : core.Steps s.cache u.cache before out now ev → u.watches ≡ s.watches →
        ((c : ℕ) (request : Request) → ev ≡ event.Start c request → ⊥) → ((c want : ℕ) → ev ≡ event.Poll c want → ⊥) → ((c : ℕ) → ev ≡ event.Cancel c → ⊥)
        → HasStepped s u before out now ev
    has_passed q same no_start no_poll no_cancel = stepped ev q (passes s u now q.acts ev q.answered same no_start no_poll no_cancel)

  module _ (moment : last_moment u ≡ now) (ready : core.has_failed u.cache ≡ false) (received : bytes_received u ≡ bytes_received s + 0) where
    pub has_cancelled : (d : ℕ) → core.Steps s.cache u.cache before out now (event.Cancel d) → ChangesAt d None s.watches u.watches →
        HasStepped s u before out now (event.Cancel d)
    has_cancelled d q changes = stepped (event.Cancel d) moment received ready (event.Cancel d) q (cancels s u now q.acts d q.answered changes)

    module _ (d : ℕ) (request : Request) where
      pub has_started : core.Steps s.cache u.cache before out now (event.Start d request) → u.watches ≡ s.watches
          → ((contents : Contents) (h : History) → StandsFor s.cache contents h → is_watched (tables contents h) request ≡ false) →
          HasStepped s u before out now (event.Start d request)
      has_started q same off =
          stepped (event.Start d request) moment received ready (event.Start d request) q
          (starts_unwatched s u now q.acts d request q.answered same (front_so request false off))

      pub has_denied : (q : core.Steps s.cache u.cache before out now (event.Start d (unconditioned request))) → u.watches ≡ s.watches → is_denied q.acts ≡ true
          → ((contents : Contents) (h : History) → StandsFor s.cache contents h → is_watched (tables contents h) request ≡ true) →
          HasStepped s u before out now (event.Start d request)
      has_denied q same denied on =
          stepped (event.Start d request) moment received ready (event.Start d (unconditioned request)) q
          (starts_denied s u now q.acts d request q.answered same denied (front_so request true on))

      pub has_watched : (between : List Act) (q : core.Steps s.cache u.cache before between now (event.Start d (unconditioned request))) → out ≡ between →
          ChangesAt d (Some (newly request)) s.watches u.watches → is_denied q.acts ≡ false
          → ((contents : Contents) (h : History) → StandsFor s.cache contents h → is_watched (tables contents h) request ≡ true) →
          HasStepped s u before out now (event.Start d request)
      has_watched between q same changes accepted on = record {
        steps = record {
          acts = q.acts;
          reported = same ∙ q.reported;
          answered =
              starts_on s u now q.acts d request q.answered changes accepted (front_so request true on);
        };
        moment = moment;
        received = received;
        ready = ready;
      }

    module _ (d want : ℕ) where
      pub has_polled : core.Steps s.cache u.cache before out now (event.Poll d want) → u.watches ≡ s.watches → watched_in s.watches d ≡ None →
          HasStepped s u before out now (event.Poll d want)
      has_polled q same none =
          stepped (event.Poll d want) moment received ready (event.Poll d want) q (polls_unwatched s u now q.acts d want q.answered same none)

      -- by its end, which stands behind what the cache appended
      pub has_ended : (between : List Act) → core.Steps s.cache u.cache before between now (event.Cancel d) → out ≡ between ++ act.Ended d ∷ [] →
          is_ending (watched_in s.watches d) want ≡ true
          → ChangesAt d None s.watches u.watches → HasStepped s u before out now (event.Poll d want)
      has_ended between q pushed ending changes = record {
        steps = record {
          acts = q.acts ++ act.Ended d ∷ [];
          reported = pushed ∙ ap (λ (l : List Act). l ++ act.Ended d ∷ []) q.reported ∙ append_assoc before q.acts (act.Ended d ∷ []);
          answered = polls_end s u now q.acts d want ending q.answered changes;
        };
        moment = moment;
        received = received;
        ready = ready;
      }

      -- by what was heard apart, and told
      pub has_reported : (w : Watched) (heard : List Act) → core.Steps s.cache u.cache [] heard now (event.Poll d want) → out ≡ before ++
          map (act_shown w.request) heard → watched_in s.watches d ≡ Some w → is_ending (watched_in s.watches d) want ≡ false
          → ChangesAt d (settled (leaves_in d heard) (list_any (is_satisfying w.request) heard) (Some w)) s.watches u.watches →
          HasStepped s u before out now (event.Poll d want)
      has_reported w heard q reported kept other changes = record {
        steps = record {
          acts = map (act_shown w.request) heard;
          reported = reported;
          answered = polls_on s u now heard d want w kept other (subst (core.Answers s.cache u.cache now (event.Poll d want)) (sym q.reported) q.answered)
              changes;
        };
        moment = moment;
        received = received;
        ready = ready;
      }

  -- THE SAME, OF AN EVENT THAT IS SO

  pub cancelled_at : (ev : Event) (d : ℕ) → ev ≡ event.Cancel d → core.Steps s.cache u.cache before out now ev → last_moment u ≡ now →
      core.has_failed u.cache ≡ false → bytes_received u ≡ bytes_received s + received_in ev
      → ChangesAt d None s.watches u.watches → HasStepped s u before out now ev
  cancelled_at ev d at =
      subst (λ (z : Event). core.Steps s.cache u.cache before out now z → last_moment u ≡ now → core.has_failed u.cache ≡ false →
      bytes_received u ≡ bytes_received s + received_in z → ChangesAt d None s.watches u.watches → HasStepped s u before out now z) (sym at)
      (λ q moment ready received changes. has_cancelled moment ready received d q changes)

  pub started_at : (ev : Event) (d : ℕ) (request : Request) → ev ≡ event.Start d request → core.Steps s.cache u.cache before out now ev →
      last_moment u ≡ now → core.has_failed u.cache ≡ false → bytes_received u ≡ bytes_received s + received_in ev
      → u.watches ≡ s.watches → ((contents : Contents) (h : History) → StandsFor s.cache contents h → is_watched (tables contents h) request ≡ false) →
      HasStepped s u before out now ev
  started_at ev d request at =
      subst (λ (z : Event). core.Steps s.cache u.cache before out now z → last_moment u ≡ now → core.has_failed u.cache ≡ false →
      bytes_received u ≡ bytes_received s + received_in z → u.watches ≡ s.watches →
      ((contents : Contents) (h : History) → StandsFor s.cache contents h → is_watched (tables contents h) request ≡ false) →
      HasStepped s u before out now z) (sym at)
      (λ q moment ready received same off. has_started moment ready received d request q same off)

  pub polled_at : (ev : Event) (d want : ℕ) → ev ≡ event.Poll d want → core.Steps s.cache u.cache before out now ev → last_moment u ≡ now →
      core.has_failed u.cache ≡ false → bytes_received u ≡ bytes_received s + received_in ev
      → u.watches ≡ s.watches → watched_in s.watches d ≡ None → HasStepped s u before out now ev
  polled_at ev d want at =
      subst (λ (z : Event). core.Steps s.cache u.cache before out now z → last_moment u ≡ now → core.has_failed u.cache ≡ false →
      bytes_received u ≡ bytes_received s + received_in z → u.watches ≡ s.watches → watched_in s.watches d ≡ None → HasStepped s u before out now z) (sym at)
      (λ q moment ready received same none. has_polled moment ready received d want q same none)

  pub reported_at : (ev : Event) (d want : ℕ) → ev ≡ event.Poll d want → (heard : List Act) → core.Steps s.cache u.cache [] heard now ev →
      last_moment u ≡ now → core.has_failed u.cache ≡ false → bytes_received u ≡ bytes_received s + received_in ev
      → (w : Watched) → out ≡ before ++ map (act_shown w.request) heard → watched_in s.watches d ≡ Some w → is_ending (watched_in s.watches d) want ≡ false
      → ChangesAt d (settled (leaves_in d heard) (list_any (is_satisfying w.request) heard) (Some w)) s.watches u.watches → HasStepped s u before out now ev
  reported_at ev d want at heard =
      subst (λ (z : Event). core.Steps s.cache u.cache [] heard now z → last_moment u ≡ now → core.has_failed u.cache ≡ false →
      bytes_received u ≡ bytes_received s + received_in z
      → (w : Watched) → out ≡ before ++ map (act_shown w.request) heard → watched_in s.watches d ≡ Some w → is_ending (watched_in s.watches d) want ≡ false
      → ChangesAt d (settled (leaves_in d heard) (list_any (is_satisfying w.request) heard) (Some w)) s.watches u.watches →
      HasStepped s u before out now z) (sym at)
      (λ q moment ready received w reported kept other changes. has_reported moment ready received d want w heard q reported kept other changes)

  -- the same, by what the code found in what it heard
  pub settled_at : (ev : Event) (d want : ℕ) → ev ≡ event.Poll d want → (heard : List Act) → core.Steps s.cache u.cache [] heard now ev →
      last_moment u ≡ now → core.has_failed u.cache ≡ false → bytes_received u ≡ bytes_received s + received_in ev
      → (w : Watched) → out ≡ before ++ map (act_shown w.request) heard → watched_in s.watches d ≡ Some w → is_ending (watched_in s.watches d) want ≡ false
      → (leaves shown : Bool) (l : List Act) → l ≡ heard → leaves ≡ list_any (is_leaving d) l → shown ≡ list_any (is_satisfying w.request) heard
      → ChangesAt d (settled leaves shown (watched_in s.watches d)) s.watches u.watches → HasStepped s u before out now ev
  settled_at ev d want at heard q moment ready received w reported kept other leaves shown l list_is leaves_is shown_is changes =
      let so : leaves ≡ leaves_in d heard = leaves_is ∙ ap (list_any (is_leaving d)) list_is ∙ any_leaves d heard in
      reported_at ev d want at heard q moment ready received w reported kept other
      (subst (λ (b : Bool). ChangesAt d (settled b (list_any (is_satisfying w.request) heard) (Some w)) s.watches u.watches) so
      (subst (λ (b : Bool). ChangesAt d (settled leaves b (Some w)) s.watches u.watches) shown_is
      (subst (λ (o : Option Watched). ChangesAt d (settled leaves shown o) s.watches u.watches) kept changes)))
