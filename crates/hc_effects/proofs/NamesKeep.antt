-- What exchanges name is there, and none without a head is a representation.
--
-- A row names its aim and what it joined: these stay, or it joins its aim at its head (`naming`), and a row that is new
-- is an opening's (`made`). What an opening is about is current or bound to, so it is there (`current_there`,
-- `opening_there`). What stands stays. A representation is founded by the head of its exchange, so one without a head
-- has none (`unfounded`). `names_are_kept` joins these.
use Rattle.std.{proofs.{lemmas.Bool.Decides.{nat_tests}, Common.{◌≡◌, ◌⊎◌, inl, inr, ℕ, ◌+◌, ◌<◌, List, Bool, true, Option, Some, None, refl, ap, sym, ◌∙◌, subst, arith}}, specs.Prelude.{is_some, if◌then◌else◌}}
use Rattle.hc_text.proofs.Basics.{some_inj}
use Rattle.hc_effects.proofs.Vocabulary.{Opening, opening_in, Event, Response, Limits, Place, accepted_acts, case_at, is_joining, current, is_usable, denial, Entry, exchange_after, exchange_heard, exchange_acted, exchange_made, exchange_opened, aim_of, aim_from, Flaw, representation_after, founded_at, Tables, Exchange, Representation, Consumer, Sound, after_accepted, place}
use Rattle.hc_event.specs.declared.event.Event.TheVariants as event
use Rattle.hc_model.specs.Laws.{NamesAreKept}
use Rattle.hc_model.specs.Sound as sound
use Rattle.hc_effects.proofs.{Basics.{some_none}, NumbersKeep.{opens_next, founded_none, representation_none}, PieceKeeps.{eq_cases}, PollKeeps.{find_passes}}

-- what stands stays
stays : (t : Tables) (e : Entry) (r : ℕ) (o : Option Representation) → is_some o ≡ true → is_some (representation_after t e r o) ≡ true
unfolding representation_after
stays t e r o there = grind (arith, nat_tests)

-- WHAT A ROW NAMES

-- its aim is as it was, it joined what it had joined or its aim, and it had no head where it has none, and no head came
record IsNaming (x : ℕ) (ev : Event) (w u : Exchange) : Type 0 where
  aim_is : u.aim ≡ w.aim
  joined_is : (u.joined ≡ w.joined) ⊎ (u.joined ≡ w.aim)
  bare : u.head ≡ None → w.head ≡ None
  quiet : u.head ≡ None → (response : Response) → ev ≡ event.Head x response → ⊥

joined_by : (b : Bool) (aim joined : Option ℕ) → ((if b then aim else joined) ≡ joined) ⊎ ((if b then aim else joined) ≡ aim)
joined_by b aim joined = grind (arith, nat_tests)

abbrev number_in : Event → ℕ
number_in (event.Head y response) = y
number_in _ = 0

naming : (t : Tables) (e : Entry) (x : ℕ) (ev : Event) (w : Exchange) → IsNaming x ev w (exchange_acted x e.acts (exchange_heard t e x ev w))
naming t e x (event.Head y response) w = elim (eq_cases y x) [
  | inl here ↦ rw here.0 (record {
    aim_is = refl;
    joined_is = joined_by (is_joining (case_at t e)) w.aim w.joined;
    bare = λ h. absurd (some_none response h);
    quiet =
        λ h answer is. some_none response h;
  })
  | inr other ↦ rw other.0 (record { aim_is = refl; joined_is = inl refl; bare = λ h. h; quiet = λ h answer is. other.1 (ap number_in is) })
]
naming t e x (event.Piece y bytes) w = elim (eq_cases y x) [
  | inl here ↦ rw here.0 (record { aim_is = refl; joined_is = inl refl; bare = λ h. h; quiet = λ h response is. cc })
  | inr other ↦ rw other.0 (record { aim_is = refl; joined_is = inl refl; bare = λ h. h; quiet = λ h response is. cc })
]
naming t e x (event.End y) w = elim (eq_cases y x) [
  | inl here ↦ rw here.0 (record { aim_is = refl; joined_is = inl refl; bare = λ h. h; quiet = λ h response is. cc })
  | inr other ↦ rw other.0 (record { aim_is = refl; joined_is = inl refl; bare = λ h. h; quiet = λ h response is. cc })
]
naming t e x (event.Fault y) w = elim (eq_cases y x) [
  | inl here ↦ rw here.0 (record { aim_is = refl; joined_is = inl refl; bare = λ h. h; quiet = λ h response is. cc })
  | inr other ↦ rw other.0 (record { aim_is = refl; joined_is = inl refl; bare = λ h. h; quiet = λ h response is. cc })
]
naming t e x _ w = record { aim_is = refl; joined_is = inl refl; bare = λ h. h; quiet = λ h response is. cc }

-- a row was there, or was opened now
data WasOrOpened (t : Tables) (e : Entry) (x : ℕ) (u : Exchange) : Type 0 where
  was : (w : Exchange) → t.exchange x ≡ Some w → IsNaming x e.event w u → WasOrOpened t e x u
  opened : (o : Opening) → opening_in e.acts ≡ Some o → o.x ≡ x → t.exchange x ≡ None → u.aim ≡ aim_of t (t.consumer o.c) → u.joined ≡ None →
      WasOrOpened t e x u

made : (t : Tables) (e : Entry) (x : ℕ) (o : Option Opening) (u : Exchange) → opening_in e.acts ≡ o → t.exchange x ≡ None →
    exchange_made t e x o ≡ Some u → WasOrOpened t e x u
made t e x None u is none h = absurd (let no : None ≡ Some u = h in cc)
made t e x (Some o) u is none h = elim (eq_cases o.x x) [
  | inr other ↦ absurd (let no : None ≡ Some u = rw other.0 at h in cc)
  | inl here ↦
      let one = some_inj (exchange_opened t e o) u (rw here.0 at h) in
      opened o is here.1 none (sym (ap (λ (z : Exchange). z.aim) one)) (sym (ap (λ (z : Exchange). z.joined) one))
]

was_or_opened : (t : Tables) (e : Entry) (x : ℕ) (o : Option Exchange) (u : Exchange) → t.exchange x ≡ o → exchange_after t e x o ≡ Some u → WasOrOpened t e x u
unfolding exchange_after
was_or_opened t e x None u row h = made t e x (opening_in e.acts) u refl row h
was_or_opened t e x (Some w) u row h = was w row (subst (IsNaming x e.event w) (some_inj _ u h) (naming t e x e.event w))

-- THE AIM OF AN OPENING

usable_there : (key : List ℕ) (o : Option Representation) → is_usable key o ≡ true → is_some o ≡ true
usable_there key o h = grind (arith, nat_tests)

pub current_there : (t : Tables) (key : List ℕ) (r : ℕ) → current t key ≡ Some r → is_some (t.representation r) ≡ true
unfolding current
current_there t key r is = usable_there key (t.representation r) (find_passes (λ q. is_usable key (t.representation q)) t.founded r is)

aim_there : (t : Tables) (c r : ℕ) (k : Consumer) (p : Place) → Sound t → t.consumer c ≡ Some k → k.place ≡ p → aim_from t k.request.key p ≡ Some r →
    is_some (t.representation r) ≡ true
aim_there t c r k (place.Bound q lo hi by) s row at is =
    subst (λ n. is_some (t.representation n) ≡ true) (some_inj q r is) (s.numbered.bound_to q c k (sound.is_bound lo hi by row at))
aim_there t c r k _ s row at is = current_there t k.request.key r is

opening_there : (t : Tables) (c r : ℕ) (o : Option Consumer) → Sound t → t.consumer c ≡ o → aim_of t o ≡ Some r → is_some (t.representation r) ≡ true
opening_there t c r None s row is = absurd (let no : None ≡ Some r = is in cc)
opening_there t c r (Some k) s row is = aim_there t c r k k.place s row refl is

-- WHAT FOUNDS HAS A HEAD

founded_quiet : (t : Tables) (e : Entry) (x : ℕ) (ev : Event) → ((response : Response) → ev ≡ event.Head x response → ⊥) → founded_at t e x ev ≡ None
founded_quiet t e x ev other = grind (arith, nat_tests)

module _ (limits : Limits) (t : Tables) (now : ℕ) (flaw : Flaw) (s : Sound t) (event : Event) (goes : denial t event ≡ None) where
  abbrev e : Entry
  e = record { now = now; event = event; acts = accepted_acts limits t now event flaw }

  there : (r : ℕ) → is_some (t.representation r) ≡ true → is_some ((after_accepted t e).representation r) ≡ true
  there r was_there = stays t e r (t.representation r) was_there

  aims : (x r : ℕ) (u : Exchange) → WasOrOpened t e x u → u.aim ≡ Some r → is_some (t.representation r) ≡ true
  aims x r u (was w row is) aim = s.numbered.names.aims x r w row (sym is.aim_is ∙ aim)
  aims x r u (opened o is here none aimed joined) aim = opening_there t o.c r (t.consumer o.c) s refl (sym aimed ∙ aim)

  joined_of : (x r : ℕ) (u : Exchange) → WasOrOpened t e x u → u.joined ≡ Some r → is_some (t.representation r) ≡ true
  joined_of x r u it3 joined = grind (arith, nat_tests)

  unfounded : (x : ℕ) (u : Exchange) → WasOrOpened t e x u → u.head ≡ None → (after_accepted t e).representation x ≡ None
  unfounded x u (was w row is) bare =
      representation_none t e x (t.representation x) (s.numbered.names.unfounded x w row (is.bare bare)) (founded_quiet t e x event (is.quiet bare))
  unfounded x u (opened o is here none aimed joined) bare =
      let next : o.x ≡ t.opened + 1 = opens_next limits t now flaw s event o goes is in
      let above : t.opened < x = omega arith in
      representation_none t e x (t.representation x) (s.numbered.lists.new_representations x above) (founded_none t e x event s.numbered.lists above)

  pub named : sound.IsNamed (after_accepted t e)
  named = record {
    unfounded = λ x u row bare. unfounded x u (was_or_opened t e x (t.exchange x) u refl row) bare;
    aims = λ x r u row aim. there r (aims x r u (was_or_opened t e x (t.exchange x) u refl row) aim);
    joined = λ x r u row joined. there r (joined_of x r u (was_or_opened t e x (t.exchange x) u refl row) joined);
  }

pub names_are_kept : NamesAreKept
names_are_kept limits t now flaw s event goes = named limits t now flaw s event goes
