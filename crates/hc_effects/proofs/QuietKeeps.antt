-- Events without a head or a piece keep what is to come absent, and one exchange about each body, if they open so.
--
-- Such an event leaves an exchange as it was, but that it may end (`IsSame`, `quiet_exchange`), and no body changes
-- (`is_kept`). So an exchange after it was there, or is the one that is opened (`was_or_new`). If that is alone about
-- its hole, and the hole is absent (`OpensWell`), both laws are kept: `waits_kept`, and `one_about_kept` by each pair
-- (`one`). What polls open is so by another file.
use Rattle.std.{proofs.{lemmas.Bool.Decides.{nat_tests}, Common.{arith, ◌≡◌, inl, inr, ℕ, ◌≤◌, List, [], Bool, true, false, Option, Some, None, refl, ap, sym, ◌∙◌, subst}}, specs.Prelude.{is_some, not}}
use Rattle.hc_text.proofs.Basics.{and_right, same_some as same_row, some_inj}
use Rattle.hc_effects.proofs.Vocabulary.{Opening, opening_in, closes_in, Event, Act, Entry, exchange_after, exchange_heard, exchange_acted, exchange_made, aim_of, base, promised_bytes, front, family, representation_after, representation_heard, founded_at, Tables, Exchange, Representation, Waits, Sound, OneAbout, IsAbout, IsPromised, InHole, after_accepted}
use Rattle.hc_event.specs.declared.event.Event.TheVariants as event
use Rattle.hc_event.specs.declared.act.Need.TheVariants as need
use Rattle.hc_model.specs.Sound as sound
use Rattle.hc_effects.proofs.PieceKeeps.{eq_cases}

-- it brings neither a head nor a piece
abbrev pub is_quiet : Event → Bool
is_quiet (event.Head x response) = false
is_quiet (event.Piece x bytes) = false
is_quiet _ = true

-- of an exchange nothing changes but that it may end
pub record IsSame (y : ℕ) (w u : Exchange) : Type 0 where
  pub was_open : u.is_open ≡ true → w.is_open ≡ true
  pub head_is : u.head ≡ w.head
  pub need_is : u.need ≡ w.need
  pub aim_is : u.aim ≡ w.aim
  pub joined_is : u.joined ≡ w.joined
  pub family_is : family y u ≡ family y w
  pub promised_is : promised_bytes u ≡ promised_bytes w
  pub base_is : base u ≡ base w
  pub front_is : front u ≡ front w
  pub body_is : u.body ≡ w.body

pub closed_only : (y : ℕ) (acts : List Act) (w : Exchange) → IsSame y w (exchange_acted y acts w)
closed_only y acts w = record {
  was_open = λ h. and_right _ _ h;
  head_is = refl;
  need_is = refl;
  aim_is = refl;
  joined_is = refl;
  family_is = refl;
  promised_is = refl;
  base_is = refl;
  front_is = refl;
  body_is = refl;
}

-- it is over
over_only : (y : ℕ) (acts : List Act) (is_ended : Bool) (w : Exchange) → IsSame y w (exchange_acted y acts (record w { is_ended = is_ended; is_open = false }))
over_only y acts is_ended w =
    record {
      was_open = λ h. absurd (let never : false ≡ true = and_right (not (closes_in y acts)) false h in cc);
      head_is = refl;
      need_is = refl;
      aim_is = refl;
      joined_is = refl;
      family_is = refl;
      promised_is = refl;
      base_is = refl;
      front_is = refl;
      body_is = refl;
    }

quiet_exchange : (t : Tables) (e : Entry) (y : ℕ) (event : Event) (w : Exchange) → is_quiet event ≡ true →
    IsSame y w (exchange_acted y e.acts (exchange_heard t e y event w))
quiet_exchange t e y (event.Head x response) w quiet = absurd (let never : false ≡ true = quiet in cc)
quiet_exchange t e y (event.Piece x bytes) w quiet = absurd (let never : false ≡ true = quiet in cc)
quiet_exchange t e y (event.End x) w quiet = elim (eq_cases x y) [
  | inl here ↦ rw here.0 (over_only y e.acts true w)
  | inr other ↦ rw other.0 (closed_only y e.acts w)
]
quiet_exchange t e y (event.Fault x) w quiet = elim (eq_cases x y) [
  | inl here ↦ rw here.0 (over_only y e.acts w.is_ended w)
  | inr other ↦ rw other.0 (closed_only y e.acts w)
]
quiet_exchange t e y _ w quiet = closed_only y e.acts w

quiet_body : (t : Tables) (e : Entry) (r : ℕ) (event : Event) (v : Representation) → is_quiet event ≡ true → (representation_heard t e r event v).body ≡ v.body
quiet_body t e r event v quiet = grind (arith, nat_tests)

quiet_founds : (t : Tables) (e : Entry) (r : ℕ) (event : Event) → is_quiet event ≡ true → founded_at t e r event ≡ None
quiet_founds t e r event quiet = grind (arith, nat_tests)

-- a row after the event: of an exchange that was there, or of the one that is opened
pub data WasOrNew (t : Tables) (e : Entry) (y : ℕ) (u : Exchange) : Type 0 where
  was : (w : Exchange) → t.exchange y ≡ Some w → IsSame y w u → WasOrNew t e y u
  new : (o : Opening) → opening_in e.acts ≡ Some o → o.x ≡ y → u.head ≡ None → u.joined ≡ None → u.body ≡ [] → u.need ≡ o.need →
      u.aim ≡ aim_of t (t.consumer o.c) → WasOrNew t e y u

made_new : (t : Tables) (e : Entry) (y : ℕ) (o : Option Opening) (u : Exchange) → opening_in e.acts ≡ o → exchange_made t e y o ≡ Some u → WasOrNew t e y u
made_new t e y None u is row = absurd (let never : None ≡ Some u = row in cc)
made_new t e y (Some o) u is row = elim (eq_cases o.x y) [
  | inr other ↦ absurd (let never : None ≡ Some u = rw other.0 at row in cc)
  | inl here ↦ subst (WasOrNew t e y) (some_inj _ u (rw here.0 at row)) (sound_new t e y o is here.1)
]
  where
    sound_new : (t : Tables) (e : Entry) (y : ℕ) (o : Opening) → opening_in e.acts ≡ Some o → o.x ≡ y →
        WasOrNew t e y (record {
          c = o.c;
          need = o.need;
          request = o.request;
          opened = e.now;
          aim = aim_of t (t.consumer o.c);
          head = None;
          answered =
              e.now;
          joined = None;
          body = [];
          asked = false;
          is_ended = false;
          is_open = true;
        })
    sound_new t e y o is same = new o is same refl refl refl refl refl

pub was_or_new : (t : Tables) (e : Entry) (y : ℕ) (o : Option Exchange) (u : Exchange) → t.exchange y ≡ o → is_quiet e.event ≡ true →
    exchange_after t e y o ≡ Some u → WasOrNew t e y u
unfolding exchange_after
was_or_new t e y None u is quiet row = made_new t e y (opening_in e.acts) u refl row
was_or_new t e y (Some w) u is quiet row = was w is (subst (IsSame y w) (some_inj _ u row) (quiet_exchange t e y e.event w quiet))

-- a representation after the event was there, with the same body
pub record IsKept (t : Tables) (r : ℕ) (u : Representation) : Type 0 where
  pub v : Representation
  pub row : t.representation r ≡ Some v
  pub body_is : u.body ≡ v.body

pub is_kept : (t : Tables) (e : Entry) (r : ℕ) (o : Option Representation) (u : Representation) → t.representation r ≡ o → is_quiet e.event ≡ true →
    representation_after t e r o ≡ Some u → IsKept t r u
unfolding representation_after
is_kept t e r None u is quiet row = absurd (let never : None ≡ Some u = rw (quiet_founds t e r e.event quiet) at row in cc)
is_kept t e r (Some v) u is quiet row = subst (IsKept t r) (some_inj _ u row) (record { v = v; row = is; body_is = quiet_body t e r e.event v quiet })

-- what an event opens for a hole is alone about it, and the hole is absent
pub record OpensWell (t : Tables) (e : Entry) : Type 0 where
  pub absent : (o : Opening) (r : ℕ) (v : Representation) (p : ℕ) → opening_in e.acts ≡ Some o → aim_of t (t.consumer o.c) ≡ Some r →
      t.representation r ≡ Some v → InHole o.need p → v.body p ≡ None
  pub alone : (o : Opening) (r from to y : ℕ) → opening_in e.acts ≡ Some o → aim_of t (t.consumer o.c) ≡ Some r → o.need ≡ need.Hole from to → IsAbout t r y → ⊥

module _ (t : Tables) (e : Entry) (s : Sound t) (quiet : is_quiet e.event ≡ true) (well : OpensWell t e) where
  front_kept : (y : ℕ) (u : Exchange) (v : Representation) (p : ℕ) → WasOrNew t e y u → IsKept t (family y u) v → u.is_open ≡ true →
      is_some u.head ≡ true → front u ≤ p → IsPromised (promised_bytes u) u p → v.body p ≡ None
  front_kept y u v p it4 kept is_open headed le ends = grind (arith, nat_tests)

  hole_kept : (y : ℕ) (u : Exchange) (r : ℕ) (v : Representation) (p : ℕ) → WasOrNew t e y u → IsKept t r v → u.is_open ≡ true → u.head ≡ None →
      u.aim ≡ Some r → InHole u.need p → v.body p ≡ None
  hole_kept y u r v p it5 kept is_open bare aim hole = grind (arith, nat_tests)

  headless_kept : (y : ℕ) (u : Exchange) → WasOrNew t e y u → u.head ≡ None → (u.body ≡ []) × (u.joined ≡ None)
  headless_kept y u (was w row same) bare = let old = s.waits.headless y w row (sym same.head_is ∙ bare) in (same.body_is ∙ old.0, same.joined_is ∙ old.1)
  headless_kept y u (new o opens here bare_new joined body need aimed) bare = (body, joined)

  pub waits_kept : Waits (after_accepted t e)
  waits_kept = record {
    fronts = λ y u v p row is_open headed at le ends. front_kept y u v p (was_or_new t e y (t.exchange y) u refl quiet row)
        (is_kept t e (family y u) (t.representation (family y u)) v refl quiet at) is_open headed le ends;
    holes = λ y u r v p row is_open bare aim at hole. hole_kept y u r v p (was_or_new t e y (t.exchange y) u refl quiet row)
        (is_kept t e r (t.representation r) v refl quiet at) is_open bare aim hole;
    headless = λ y u row bare. headless_kept y u (was_or_new t e y (t.exchange y) u refl quiet row) bare;
  }

  -- what is about r was, or is what is opened for a hole of r
  data AboutBefore (r y : ℕ) : Type 0 where
    before : IsAbout t r y → AboutBefore r y
    opened : (o : Opening) (from to : ℕ) → opening_in e.acts ≡ Some o → o.x ≡ y → aim_of t (t.consumer o.c) ≡ Some r → o.need ≡ need.Hole from to →
        AboutBefore r y

  there_before : (r : ℕ) (o : Option Representation) → representation_after t e r (t.representation r) ≡ o → is_some o ≡ true →
      is_some (t.representation r) ≡ true
  there_before r None is some = absurd (let never : false ≡ true = some in cc)
  there_before r (Some u) is some = let kept = is_kept t e r (t.representation r) u refl quiet is in rw kept.row refl

  headed_before : (r y : ℕ) (u : Exchange) → WasOrNew t e y u → u.is_open ≡ true → is_some u.head ≡ true → family y u ≡ r →
      is_some (t.representation r) ≡ true → AboutBefore r y
  headed_before r y u (was w row same) is_open headed fam there =
      before (sound.headed w row (same.was_open is_open) (rw same.head_is at headed) (sym same.family_is ∙ fam) there)
  headed_before r y u (new o opens here bare joined body need aimed) is_open headed fam there = absurd (let never : false ≡ true = rw bare at headed in cc)

  asks_before : (r y from to : ℕ) (u : Exchange) → WasOrNew t e y u → u.is_open ≡ true → u.head ≡ None → u.need ≡ need.Hole from to → u.aim ≡ Some r →
      AboutBefore r y
  asks_before r y from to u (was w row same) is_open bare hole aim =
      before (sound.asks w from to row (same.was_open is_open) (sym same.head_is ∙ bare) (sym same.need_is ∙ hole) (sym same.aim_is ∙ aim))
  asks_before r y from to u (new o opens here bare_new joined body need aimed) is_open bare hole aim =
      opened o from to opens here (sym aimed ∙ aim) (sym need ∙ hole)

  about_before : (r y : ℕ) → IsAbout (after_accepted t e) r y → AboutBefore r y
  about_before r y (sound.headed u row is_open headed fam there) =
      headed_before r y u (was_or_new t e y (t.exchange y) u refl quiet row) is_open headed fam
      (there_before r ((after_accepted t e).representation r) refl there)
  about_before r y (sound.asks u from to row is_open bare hole aim) =
      asks_before r y from to u (was_or_new t e y (t.exchange y) u refl quiet row) is_open bare hole aim

  one : (r x y : ℕ) → AboutBefore r x → AboutBefore r y → x ≡ y
  one r x y (before a) (before b) = s.one_about r x y a b
  one r x y (before a) (opened o from to opens here aim hole) = absurd (well.alone o r from to x opens aim hole a)
  one r x y (opened o from to opens here aim hole) (before b) = absurd (well.alone o r from to y opens aim hole b)
  one r x y (opened o from to opens here aim hole) (opened p from' to' opens' here' aim' hole') = let same : o ≡ p =
      same_row (opening_in e.acts) o p opens opens' in sym here ∙ (ap (λ (q : Opening). q.x) same ∙ here')

  pub one_about_kept : OneAbout (after_accepted t e)
  one_about_kept r x y a b = one r x y (about_before r x a) (about_before r y b)
