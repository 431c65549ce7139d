-- What is kept of each consumer behind an entry, by what the front was asked.
--
-- Whoever is kept is live, by definition. Who is live stays so, unless it is cancelled, or told its end or a failure by
-- its own poll (`stays`): laws of hc_laws. So all but the consumer of the event keep what they had (`keeps`). What is
-- kept of that one is new where it starts (`starts_watched`), gone where it leaves (`gone`), and told that its copy
-- holds by a poll that shows so (`poll_satisfies`).
use Rattle.std.{proofs.{Common.{◌≡◌, ℕ, Bool, true, false, List, [], ◌∷◌, Option, Some, None, refl, sym, ap, ◌∙◌, subst, arith}, lemmas.Bool.{eqb-true, both_ways, Decides.{nat_tests}}}, specs.{Prelude.{◌&&◌, ◌||◌, not, nat_eq, nat_le, if◌then◌else◌}, List.{list_any}}}
use Rattle.hc_text.proofs.Basics.{eq_itself as itself}
use Rattle.hc_effects.proofs.Vocabulary.{is_denied, leaves_in, Act, Event, Request, Limits, consumer_after, denial, is_live, live, Entry, Contents, Lawful, Tables, Consumer, IsOwed, tables, after}
use Rattle.hc_event.specs.declared.act.Refusal.TheVariants as refusal
use Rattle.hc_event.specs.declared.event.Event.TheVariants as event
use Rattle.hc_rules.specs.Refusals as refusals
use Rattle.hc_effects.proofs.{Basics.{some_none}, Owed.{goes}}
use Rattle.hc_laws.proofs.{StaysLive.{stays_live}, WhoLeaves.{leaver_polls, cancelled_over, reported_over}}
use Rattle.hc_front.specs.{declared.watches.Watched.{Watched}, Watching.{newly, satisfied_now}, Fronts.{Fronted, FrontEntry, is_watched, is_ending, handed, watched_polled, watched_by, while_live, core_entry, front_after}, FrontHistories.{FrontHistory, fronted, core_of}}
use Rattle.hc_condition.specs.{NotModified.{unconditioned}, ShownActs.{is_satisfying}}

-- THE TABLES OF THE CACHE

-- they are those of its history
pub core_is : (contents : Contents) (f : FrontHistory) → (fronted contents f).core ≡ tables contents (core_of contents f)
unfolding fronted front_after tables
core_is contents [] = refl
core_is contents (e ∷ f) = ap (λ (t : Tables). after t (core_entry (fronted contents f) e)) (core_is contents f)

-- WHO IS KEPT IS LIVE

while_some : (o : Option Consumer) (x : Option Watched) (w : Watched) → while_live o x ≡ Some w → is_live o ≡ true
while_some o x w h = by_test (is_live o) refl h
  where
    by_test : (b : Bool) → is_live o ≡ b → (if b then x else None) ≡ Some w → is_live o ≡ true
    by_test true is g = is
    by_test false off g = absurd (let never : None ≡ Some w = g in cc)

pub watched_live : (contents : Contents) (f : FrontHistory) (c : ℕ) (w : Watched) → (fronted contents f).watched c ≡ Some w →
    is_live ((fronted contents f).core.consumer c) ≡ true
unfolding fronted front_after
watched_live contents [] c w h = absurd (let never : None ≡ Some w = h in cc)
watched_live contents (e ∷ f) c w h = while_some _ _ w h

-- nothing is kept
abbrev nothing : Option Watched
nothing = None

-- who is live keeps what it has
while_keeps : (o : Option Consumer) (x : Option Watched) → ((w : Watched) → x ≡ Some w → is_live o ≡ true) → while_live o x ≡ x
while_keeps o None live = by_test (is_live o)
  where
    by_test : (b : Bool) → (if b then nothing else nothing) ≡ nothing
    by_test true = refl
    by_test false = refl
while_keeps o (Some w) live = rw (live w refl) refl

-- ONE AND THE OTHERS

-- what holds of one number, and of each other, holds of all
pub one_and_others : (d : ℕ) (P : ℕ → Type 0) → P d → ((c : ℕ) → nat_eq c d ≡ false → P c) → (c : ℕ) → P c
one_and_others d P own others c = by_test (nat_eq c d) refl
  where
    by_test : (b : Bool) → nat_eq c d ≡ b → P c
    by_test true is = subst P (sym (eqb-true c d is)) own
    by_test false off = others c off

pub other_way : (c d : ℕ) → nat_eq c d ≡ false → nat_eq d c ≡ false
other_way c d off = grind (arith, nat_tests, off)

abbrev whom : Event → ℕ
whom (event.Poll c want) = c
whom (event.Cancel c) = c
whom _ = 0

-- WHO STARTS IS NEW

by_refusal : (late many : Bool) (n : ℕ) → (if late then Some (refusal.NotRising n) else if many then Some refusal.TooManyConsumers else None) ≡ None →
    late ≡ false
by_refusal true many n h = absurd (some_none _ h)
by_refusal false many n h = refl

pub is_new : (t : Tables) → Lawful t → (d : ℕ) (request : Request) → denial t (event.Start d request) ≡ None → t.consumer d ≡ None
unfolding refusals.refusal_of
is_new t law d request on =
    let off : nat_le d t.last_start ≡ false = by_refusal (nat_le d t.last_start) (nat_le 1024 (live t)) t.last_start on in
    law.sound.numbered.lists.new_consumers d (grind (arith, nat_tests, off))

-- BEHIND AN ENTRY

module _ (limits : Limits) (t : Fronted) (law : Lawful t.core) (alive : (c : ℕ) (w : Watched) → t.watched c ≡ Some w → is_live (t.core.consumer c) ≡ true)
    (now : ℕ) (ev : Event) (heard : List Act) where
  abbrev e : FrontEntry
  e = record { now = now; event = ev; acts = heard }

  abbrev entry : Entry
  entry = core_entry t e

  module _ (is : IsOwed limits t.core entry) where
    -- only by its own poll somebody is told its end or a failure
    quiet : (c : ℕ) → ((want : ℕ) → handed t ev ≡ event.Poll c want → ⊥) → leaves_in c heard ≡ false
    quiet c other = by_test (leaves_in c heard) refl
      where
        by_test : (b : Bool) → leaves_in c heard ≡ b → leaves_in c heard ≡ false
        by_test false off = off
        by_test true on = let p = leaver_polls limits t.core entry law is c on in absurd (other p.want p.at)

    stays : (c : ℕ) → (handed t ev ≡ event.Cancel c → ⊥) → leaves_in c heard ≡ false → while_live ((after t.core entry).consumer c) (t.watched c) ≡ t.watched c
    stays c other stay = while_keeps _ (t.watched c) (λ w kept. stays_live t.core entry c other stay (alive c w kept))

    -- who isn't spoken of keeps what it has
    pub keeps : (c : ℕ) → watched_by t.core heard c ev (t.watched c) ≡ t.watched c → (handed t ev ≡ event.Cancel c → ⊥) →
        ((want : ℕ) → handed t ev ≡ event.Poll c want → ⊥)
        → t.watched c ≡ (front_after t e).watched c
    unfolding front_after
    keeps c same no_cancel no_poll = sym (ap (while_live ((after t.core entry).consumer c)) same ∙ stays c no_cancel (quiet c no_poll))

    -- of who is over nothing is kept
    pub gone : (c : ℕ) → is_live ((after t.core entry).consumer c) ≡ false → None ≡ (front_after t e).watched c
    unfolding front_after
    gone c over = rw over refl

    -- WHAT NAMES NO CONSUMER

    pub others_keep : ((c : ℕ) (request : Request) → ev ≡ event.Start c request → ⊥) → ((c want : ℕ) → ev ≡ event.Poll c want → ⊥) →
        ((c : ℕ) → ev ≡ event.Cancel c → ⊥)
        → (c : ℕ) → t.watched c ≡ (front_after t e).watched c
    others_keep no_start no_poll no_cancel c = by_event ev refl
      where
        by_event : (z : Event) → ev ≡ z → t.watched c ≡ (front_after t e).watched c
        by_event (event.Start d request) at = absurd (no_start d request at)
        by_event (event.Poll d want) at = absurd (no_poll d want at)
        by_event (event.Cancel d) at = absurd (no_cancel d at)
        by_event (event.Head x response) at =
            keeps c (ap (λ z. watched_by t.core heard c z (t.watched c)) at)
            (λ h. let never : event.Head x response ≡ event.Cancel c = sym (ap (handed t) at) ∙ h in cc)
            (λ want h. let never : event.Head x response ≡ event.Poll c want = sym (ap (handed t) at) ∙ h in cc)
        by_event (event.Piece x bytes) at =
            keeps c (ap (λ z. watched_by t.core heard c z (t.watched c)) at)
            (λ h. let never : event.Piece x bytes ≡ event.Cancel c = sym (ap (handed t) at) ∙ h in cc)
            (λ want h. let never : event.Piece x bytes ≡ event.Poll c want = sym (ap (handed t) at) ∙ h in cc)
        by_event (event.End x) at =
            keeps c (ap (λ z. watched_by t.core heard c z (t.watched c)) at)
            (λ h. let never : event.End x ≡ event.Cancel c = sym (ap (handed t) at) ∙ h in cc)
            (λ want h. let never : event.End x ≡ event.Poll c want = sym (ap (handed t) at) ∙ h in cc)
        by_event (event.Fault x) at =
            keeps c (ap (λ z. watched_by t.core heard c z (t.watched c)) at)
            (λ h. let never : event.Fault x ≡ event.Cancel c = sym (ap (handed t) at) ∙ h in cc)
            (λ want h. let never : event.Fault x ≡ event.Poll c want = sym (ap (handed t) at) ∙ h in cc)
        by_event (event.Doom key) at =
            keeps c (ap (λ z. watched_by t.core heard c z (t.watched c)) at)
            (λ h. let never : event.Doom key ≡ event.Cancel c = sym (ap (handed t) at) ∙ h in cc)
            (λ want h. let never : event.Doom key ≡ event.Poll c want = sym (ap (handed t) at) ∙ h in cc)

-- a cancelled one is gone, and nobody else
module _ (limits : Limits) (t : Fronted) (law : Lawful t.core) (alive : (c : ℕ) (w : Watched) → t.watched c ≡ Some w → is_live (t.core.consumer c) ≡ true)
    (now d : ℕ) (heard : List Act) where
  pub cancels_own : IsOwed limits t.core (core_entry t (record { now = now; event = event.Cancel d; acts = heard })) → None ≡ (front_after t (record { now = now; event = event.Cancel d; acts = heard })).watched d
  cancels_own is = gone limits t law alive now (event.Cancel d) heard is d (cancelled_over limits t.core _ law is d refl)

  pub cancels_others : IsOwed limits t.core (core_entry t (record { now = now; event = event.Cancel d; acts = heard })) → (c : ℕ) → nat_eq c d ≡ false →
      t.watched c ≡ (front_after t (record { now = now; event = event.Cancel d; acts = heard })).watched c
  cancels_others is c far =
      keeps limits t law alive now (event.Cancel d) heard is c refl
      (λ h. let same : d ≡ c = ap whom h in both_ways (nat_eq c d) far (ap (nat_eq c) same ∙ itself c))
      (λ want h. let never : event.Cancel d ≡ event.Poll c want = h in cc)

-- STARTS

module _ (limits : Limits) (t : Fronted) (law : Lawful t.core) (alive : (c : ℕ) (w : Watched) → t.watched c ≡ Some w → is_live (t.core.consumer c) ≡ true)
    (now d : ℕ) (request : Request) (heard : List Act) where
  abbrev started : FrontEntry
  started = record { now = now; event = event.Start d request; acts = heard }

  pub handed_as_it_is : is_watched t.core request ≡ false → handed t (event.Start d request) ≡ event.Start d request
  handed_as_it_is off = rw off refl

  pub handed_without : is_watched t.core request ≡ true → handed t (event.Start d request) ≡ event.Start d (unconditioned request)
  handed_without on = rw on refl

  is_start : (b : Bool) → is_watched t.core request ≡ b → (other : Request) × (handed t (event.Start d request) ≡ event.Start d other)
  is_start true on = (unconditioned request, handed_without on)
  is_start false off = (request, handed_as_it_is off)

  module _ (is : IsOwed limits t.core (core_entry t started)) where
    -- nobody is watched anew by it
    kept_by_start : (c : ℕ) → watched_by t.core heard c (event.Start d request) (t.watched c) ≡ t.watched c → t.watched c ≡ (front_after t started).watched c
    kept_by_start c same =
        let start = is_start (is_watched t.core request) refl in
        keeps limits t law alive now (event.Start d request) heard is c same
        (λ h. let never : event.Start d start.0 ≡ event.Cancel c = sym start.1 ∙ h in cc)
        (λ want h. let never : event.Start d start.0 ≡ event.Poll c want = sym start.1 ∙ h in cc)

    not_new : (x y z : Bool) (a b : Option Watched) → (x && (y && z)) ≡ false → (if x && (y && z) then a else b) ≡ b
    not_new x y z a b off = rw off refl

    and_off : (x y z : Bool) → (y && z) ≡ false → (x && (y && z)) ≡ false
    and_off true y z off = off
    and_off false y z off = refl

    and_off_right : (y z : Bool) → z ≡ false → (y && z) ≡ false
    and_off_right true z off = off
    and_off_right false z off = refl

    and_off_left : (y z : Bool) → y ≡ false → (y && z) ≡ false
    and_off_left true z off = absurd (let never : true ≡ false = off in cc)
    and_off_left false z off = refl

    pub unwatched_start : is_watched t.core request ≡ false → (c : ℕ) → t.watched c ≡ (front_after t started).watched c
    unwatched_start off c =
        kept_by_start c
        (not_new (nat_eq d c) (not (is_denied heard)) (is_watched t.core request) (Some (newly request)) (t.watched c)
        (and_off (nat_eq d c) (not (is_denied heard)) (is_watched t.core request) (and_off_right (not (is_denied heard)) (is_watched t.core request) off)))

    pub denied_start : is_denied heard ≡ true → (c : ℕ) → t.watched c ≡ (front_after t started).watched c
    denied_start denied c =
        kept_by_start c
        (not_new (nat_eq d c) (not (is_denied heard)) (is_watched t.core request) (Some (newly request)) (t.watched c)
        (and_off (nat_eq d c) (not (is_denied heard)) (is_watched t.core request)
        (and_off_left (not (is_denied heard)) (is_watched t.core request) (ap not denied))))

    pub start_others : (c : ℕ) → nat_eq c d ≡ false → t.watched c ≡ (front_after t started).watched c
    start_others c far =
        kept_by_start c
        (not_new (nat_eq d c) (not (is_denied heard)) (is_watched t.core request) (Some (newly request)) (t.watched c)
        (and_off_left (nat_eq d c) (not (is_denied heard) && is_watched t.core request) (other_way c d far)))

    -- WHO STARTS IS LIVE

    new_live : (other : Request) (it : Entry) → it.event ≡ event.Start d other → is_live (consumer_after t.core it d None) ≡ true
    unfolding consumer_after
    new_live other it at = rw (at, itself d) refl

    pub starts_live : is_denied heard ≡ false → is_live ((after t.core (core_entry t started)).consumer d) ≡ true
    unfolding after
    starts_live on =
        let start = is_start (is_watched t.core request) refl in
        let new = is_new t.core law d start.0 (sym (ap (denial t.core) start.1) ∙ goes limits t.core (core_entry t started) is on) in
        rw on (ap (λ (o : Option Consumer). is_live (consumer_after t.core (core_entry t started) d o)) new ∙ new_live start.0 (core_entry t started) start.1)

    pub starts_watched : is_watched t.core request ≡ true → is_denied heard ≡ false → Some (newly request) ≡ (front_after t started).watched d
    unfolding front_after
    starts_watched on accepted = rw (starts_live accepted, itself d, accepted, on) refl

-- POLLS

module _ (limits : Limits) (t : Fronted) (law : Lawful t.core) (alive : (c : ℕ) (w : Watched) → t.watched c ≡ Some w → is_live (t.core.consumer c) ≡ true)
    (now d want : ℕ) (heard : List Act) where
  abbrev polled : FrontEntry
  polled = record { now = now; event = event.Poll d want; acts = heard }

  pub handed_poll : is_ending (t.watched d) want ≡ false → handed t (event.Poll d want) ≡ event.Poll d want
  handed_poll off = rw off refl

  pub handed_cancel : is_ending (t.watched d) want ≡ true → handed t (event.Poll d want) ≡ event.Cancel d
  handed_cancel on = rw on refl

  names : (b : Bool) → is_ending (t.watched d) want ≡ b → (c : ℕ) → nat_eq c d ≡ false → ((handed t (event.Poll d want) ≡ event.Cancel c → ⊥)) ×
      ((n : ℕ) → handed t (event.Poll d want) ≡ event.Poll c n → ⊥)
  names true on c far = (
    λ h. let same : d ≡ c = ap whom (sym (handed_cancel on) ∙ h) in both_ways (nat_eq c d) far (ap (nat_eq c) same ∙ itself c),
    λ n h. let never : event.Cancel d ≡ event.Poll c n = sym (handed_cancel on) ∙ h in cc,
  )
  names false off c far = (
    λ h. let never : event.Poll d want ≡ event.Cancel c = sym (handed_poll off) ∙ h in cc,
    λ n h. let same : d ≡ c = ap whom (sym (handed_poll off) ∙ h) in both_ways (nat_eq c d) far (ap (nat_eq c) same ∙ itself c),
  )

  module _ (is : IsOwed limits t.core (core_entry t polled)) where
    pub poll_others : (c : ℕ) → nat_eq c d ≡ false → t.watched c ≡ (front_after t polled).watched c
    poll_others c far =
        let apart = names (is_ending (t.watched d) want) refl c far in
        keeps limits t law alive now (event.Poll d want) heard is c (rw (other_way c d far) refl) apart.0 apart.1

    none_row : t.watched d ≡ None → watched_by t.core heard d (event.Poll d want) (t.watched d) ≡ None
    none_row none = rw (itself d) (ap (watched_polled heard) none)

    -- nothing was kept, and nothing is
    pub poll_none : t.watched d ≡ None → None ≡ (front_after t polled).watched d
    unfolding front_after
    poll_none none =
        sym (ap (while_live ((after t.core (core_entry t polled)).consumer d)) (none_row none) ∙
        while_keeps ((after t.core (core_entry t polled)).consumer d) nothing (λ w is. absurd (let never : None ≡ Some w = is in cc)))

    -- it ended it
    pub poll_ends : is_ending (t.watched d) want ≡ true → None ≡ (front_after t polled).watched d
    poll_ends on = gone limits t law alive now (event.Poll d want) heard is d (cancelled_over limits t.core _ law is d (handed_cancel on))

    -- it was told its end or a failure
    pub poll_leaves : leaves_in d heard ≡ true → None ≡ (front_after t polled).watched d
    poll_leaves on = gone limits t law alive now (event.Poll d want) heard is d (reported_over limits t.core _ law is d on)

    poll_live : (w : Watched) → t.watched d ≡ Some w → is_ending (t.watched d) want ≡ false → leaves_in d heard ≡ false →
        is_live ((after t.core (core_entry t polled)).consumer d) ≡ true
    poll_live w kept off stay =
        stays_live t.core (core_entry t polled) d
        (λ h. let never : event.Poll d want ≡ event.Cancel d = sym (handed_poll off) ∙ h in cc)
        stay (alive d w kept)

    on_shown : (w : Watched) (b : Bool) → b ≡ true → Some (record w { satisfied = w.satisfied || b }) ≡ satisfied_now (Some w)
    on_shown w b is = by_test w.satisfied
      where
        by_test : (s : Bool) → Some (record w { satisfied = s || b }) ≡ satisfied_now (Some w)
        by_test true = refl
        by_test false = ap (λ (x : Bool). Some (record w { satisfied = x })) is

    on_other : (w : Watched) (b : Bool) → b ≡ false → Some (record w { satisfied = w.satisfied || b }) ≡ Some w
    on_other w b off = ap (λ (x : Bool). Some (record w { satisfied = x })) (by_test w.satisfied)
      where
        by_test : (s : Bool) → (s || b) ≡ s
        by_test true = refl
        by_test false = off

    polled_row : (w : Watched) → t.watched d ≡ Some w → is_ending (t.watched d) want ≡ false → leaves_in d heard ≡ false
        → (front_after t polled).watched d ≡ Some (record w { satisfied = w.satisfied || list_any (is_satisfying w.request) heard })
    unfolding front_after
    polled_row w kept off stay = rw (poll_live w kept off stay, itself d, kept) refl

    -- it was shown that its copy holds, or wasn't
    pub poll_satisfies : (w : Watched) → t.watched d ≡ Some w → is_ending (t.watched d) want ≡ false → leaves_in d heard ≡ false →
        list_any (is_satisfying w.request) heard ≡ true
        → satisfied_now (Some w) ≡ (front_after t polled).watched d
    poll_satisfies w kept off stay shown = sym (polled_row w kept off stay ∙ on_shown w (list_any (is_satisfying w.request) heard) shown)

    pub poll_goes_on : (w : Watched) → t.watched d ≡ Some w → is_ending (t.watched d) want ≡ false → leaves_in d heard ≡ false →
        list_any (is_satisfying w.request) heard ≡ false
        → Some w ≡ (front_after t polled).watched d
    poll_goes_on w kept off stay other = sym (polled_row w kept off stay ∙ on_other w (list_any (is_satisfying w.request) heard) other)
