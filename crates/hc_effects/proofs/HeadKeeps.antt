-- A head keeps what open exchanges are still to bring absent, and one of them at most about each representation.
--
-- A head that joins fills a hole (`is_join`), and what a hole names is absent. After a head each body is as before, or
-- founded and empty (`rep_row`). So only its own exchange has work (`front_here`): what it is to bring is in its hole
-- (`in_hole`), or of what is founded. `head_waits` joins this. Two that are about one representation after it were so
-- before (`one_of`), and one alone was: `head_one_about`.
use Rattle.std.{proofs.{Common.{◌≡◌, ◌≢◌, ◌⊎◌, inl, inr, ℕ, ◌<◌, ◌≤◌, List, [], Bool, true, false, cond, Option, Some, None, refl, ap, sym, ◌∙◌, subst, arith}, lemmas.Bool.Decides.{nat_tests}}, specs.Prelude.{is_some, nat_eq, option_map, unwrap_or}}
use Rattle.hc_text.proofs.Basics.{and_right, same_some as same_row, some_inj, not_some as some_none}
use Rattle.hc_effects.proofs.Vocabulary.{opening_in, Response, Act, Need, has_loss, is_joining, case_of, case_at, head_view, Entry, joined_at, exchange_after, exchange_heard, exchange_acted, base, promised_bytes, front, family, length_by, row_of, representation_after_head, representation_after, representation_heard, representation_acted, with_renewed_head, new_representation, Tables, Exchange, Representation, Waits, Sound, OneAbout, IsAbout, IsPromised, InHole, after_accepted, HeadCase, head_case, Length, length_of, is_bad, need}
use Rattle.hc_event.specs.declared.event.Event.TheVariants as event
use Rattle.hc_sparse.specs.Cells.{Cells}
use Rattle.hc_model.specs.Sound as sound
use Rattle.hc_effects.proofs.{PieceKeeps.{eq_cases}, QuietKeeps.{IsSame, IsKept, closed_only}, Joining.{MayJoin, may_join, IsFilling, filling, LiesIn, lies}}
use Rattle.hc_effects.proofs.Joining as join

-- WHAT A JOINING HEAD IS

-- it fills a hole of the representation of its exchange, and isn't bad
pub record IsJoin (t : Tables) (w : Exchange) (response : Response) : Type 0 where
  pub fills : IsFilling w.need (row_of t w.aim) response
  pub good : is_bad (length_of w.need w.request response) ≡ false

join_of : (t : Tables) (lost : Bool) (w : Exchange) (response : Response) (c : HeadCase) → MayJoin (head_view t lost w response) c →
    is_joining (Some c) ≡ true → IsJoin t w response
join_of t lost w response c (join.other _ off) is = absurd (let never : false ≡ true = sym off ∙ is in cc)
join_of t lost w response c (join.joining _ joined good) is = record { fills = filling w.need (row_of t w.aim) response joined; good = good }

pub is_join : (t : Tables) (lost : Bool) (w : Exchange) (response : Response) → is_joining (Some (head_case (head_view t lost w response))) ≡ true →
    IsJoin t w response
is_join t lost w response is = join_of t lost w response (head_case (head_view t lost w response)) (may_join (head_view t lost w response)) is

pub record IsAimed (t : Tables) (w : Exchange) : Type 0 where
  pub r : ℕ
  pub v : Representation
  pub aim : w.aim ≡ Some r
  pub row : t.representation r ≡ Some v

aimed_by : (t : Tables) (w : Exchange) (o : Option ℕ) (v : Representation) → w.aim ≡ o → row_of t o ≡ Some v → IsAimed t w
aimed_by t w None v aim is = absurd (let never : None ≡ Some v = is in cc)
aimed_by t w (Some r) v aim is = record { r = r; v = v; aim = aim; row = is }

pub is_aimed : (t : Tables) (w : Exchange) (response : Response) → IsJoin t w response → IsAimed t w
is_aimed t w response j = aimed_by t w w.aim j.fills.v refl j.fills.row

-- positions that a joining exchange is to bring are of its hole
in_hole : (from to p : ℕ) (u : Exchange) (l : Length) → LiesIn from to l → is_bad l ≡ false → length_by u u.head ≡ l → base u ≤ p →
    IsPromised (promised_bytes u) u p → (from ≤ p) × (p < to)
in_hole from to p u l it5 good is le ends = grind (arith, nat_tests)

-- THE ROWS AFTER A HEAD

abbrev pub of_head : ℕ → ℕ → Response → List Act → Entry
of_head now x response acts = record { now = now; event = event.Head x response; acts = acts }

-- an exchange after the head: another one is the same, and its own has the head, and joined what it joins
data HeadRow (t : Tables) (now x : ℕ) (response : Response) (acts : List Act) (y : ℕ) (u : Exchange) : Type 0 where
  same : (w : Exchange) → x ≢ y → t.exchange y ≡ Some w → IsSame y w u → HeadRow t now x response acts y u
  here : (w : Exchange) → x ≡ y → t.exchange y ≡ Some w → (u.is_open ≡ true → w.is_open ≡ true) → is_some u.head ≡ true → u.body ≡ w.body →
      u.joined ≡ joined_at t (of_head now x response acts) w → length_by u u.head ≡ length_of w.need w.request response → HeadRow t now x response acts y u

head_row : (t : Tables) (now x y : ℕ) (response : Response) (acts : List Act) (o : Option Exchange) (u : Exchange) → t.exchange y ≡ o → opening_in
    acts ≡ None → exchange_after t (of_head now x response acts) y o ≡ Some u → HeadRow t now x response acts y u
unfolding exchange_after
head_row t now x y response acts None u is none row = absurd (let never : None ≡ Some u = rw none at row in cc)
head_row t now x y response acts (Some w) u is none row =
    subst (HeadRow t now x response acts y)
    (some_inj (exchange_acted y acts (exchange_heard t (of_head now x response acts) y (event.Head x response) w)) u row) (elim (eq_cases x y) [
      | inl at ↦ rw at.0 (here w at.1 is (λ h. and_right _ _ (and_right _ _ h)) refl refl refl refl)
      | inr other ↦ rw other.0 (same w other.1 is (closed_only y acts w))
    ])

-- a representation after the head: it was there with the same body, or it is founded, without any byte
pub data RepRow (t : Tables) (x r : ℕ) (u : Representation) : Type 0 where
  kept : IsKept t r u → RepRow t x r u
  founded : x ≡ r → t.representation r ≡ None → ((p : ℕ) → u.body p ≡ None) → RepRow t x r u

cond_body : (b : Bool) (v u : Representation) → v.body ≡ u.body → (cond b v u).body ≡ u.body
cond_body b v u one = grind (arith, nat_tests)

headed_body : (t : Tables) (e : Entry) (r x : ℕ) (response : Response) (o : Option Exchange) (v : Representation) →
    (representation_after_head t e r x response o v).body ≡ v.body
headed_body t e r x response None v = refl
headed_body t e r x response (Some w) v = cond_body _ (with_renewed_head t e x response w v) v refl

founded_row : (t : Tables) (e : Entry) (x r : ℕ) (response : Response) (b : Bool) (o : Option Exchange) (u : Representation) → t.representation r ≡ None →
    (b ≡ true → x ≡ r) → cond b (option_map (new_representation r e response) o) None ≡ Some u → RepRow t x r u
founded_row t e x r response b o u none at is = grind (arith, nat_tests)

pub rep_row : (t : Tables) (now x r : ℕ) (response : Response) (acts : List Act) (o : Option Representation) (u : Representation) →
    t.representation r ≡ o → representation_after t (of_head now x response acts) r o ≡ Some u → RepRow t x r u
unfolding representation_after
rep_row t now x r response acts None u is row =
    founded_row t (of_head now x response acts) x r response _ (t.exchange x) u is
    (λ b. let test : nat_eq x r ≡ true = and_right _ _ b in grind (arith, nat_tests)) row
rep_row t now x r response acts (Some v) u is row =
    let e = of_head now x response acts in
    kept (subst (IsKept t r) (some_inj (representation_acted t e r v (representation_heard t e r (event.Head x response) v)) u row)
    (record { v = v; row = is; body_is = headed_body t e r x response (t.exchange x) v }))

-- THE HANDLER

module _ (t : Tables) (now x : ℕ) (response : Response) (acts : List Act) (w : Exchange) where
  -- an accepted head: its exchange is open and headless, and no exchange is opened with it
  pub record IsHead : Type 0 where
    pub row : t.exchange x ≡ Some w
    pub was_open : w.is_open ≡ true
    pub headless : w.head ≡ None
    pub opens_none : opening_in acts ≡ None

  abbrev now_on : Tables
  now_on = after_accepted t (of_head now x response acts)

  case_is : t.exchange x ≡ Some w → case_at t (of_head now x response acts) ≡ Some (head_case (head_view t (has_loss acts) w response))
  unfolding case_of
  case_is row = rw row refl

  -- what it joins, if it does
  joins_or : Sound t → IsHead → (b : Bool) → is_joining (case_at t (of_head now x response acts)) ≡ b →
      ((b ≡ false) × (joined_at t (of_head now x response acts) w ≡ None)) ⊎
      ((b ≡ true) × (joined_at t (of_head now x response acts) w ≡ w.aim) × IsJoin t w response)
  joins_or s head false is = inl (refl, rw is ((s.waits.headless x w head.row head.headless).1))
  joins_or s head true is = inr (refl, rw is refl, is_join t (has_loss acts) w response (sym (ap is_joining (case_is head.row)) ∙ is))

  -- no representation had its number
  not_founded : Sound t → IsHead → t.representation x ≡ None
  not_founded s head = s.numbered.names.unfounded x w head.row head.headless

  front_here : Sound t → IsHead → (y : ℕ) (u : Exchange) (v : Representation) (p : ℕ) (q : Exchange) → x ≡ y → t.exchange y ≡ Some q → u.body ≡ q.body →
      u.joined ≡ joined_at t (of_head now x response acts) q → length_by u u.head ≡ length_of q.need q.request response → RepRow t x (family y u) v →
      front u ≤ p → IsPromised (promised_bytes u) u p → v.body p ≡ None
  front_here s head y u v p q at row body joined length_is (founded is none empty) le ends = empty p
  front_here s head y u v p q at row body joined length_is (kept rep) le ends =
      let also : t.exchange y ≡ Some w = rw (sym at) head.row in
      let one : q ≡ w = same_row (t.exchange y) q w row also in
      let joins_it : u.joined ≡ joined_at t (of_head now x response acts) w = joined ∙ ap (joined_at t (of_head now x response acts)) one in
      let length_w : length_by u u.head ≡ length_of w.need w.request response = length_is ∙ ap (λ (z : Exchange). length_of z.need z.request response) one in
      elim (joins_or s head (is_joining (case_at t (of_head now x response acts))) refl) [
        | inl off ↦
            let own : family y u ≡ y = ap (λ (o : Option ℕ). unwrap_or o y) (joins_it ∙ off.1) in
            let there : t.representation x ≡ Some rep.v = ap t.representation (at ∙ sym own) ∙ rep.row in
            let never : None ≡ Some rep.v = sym (not_founded s head) ∙ there in
            absurd (some_none rep.v never)
        | inr on ↦
            let j = on.2 in
            let a = is_aimed t w response j in
            let fam : family y u ≡ a.r = ap (λ (o : Option ℕ). unwrap_or o y) (joins_it ∙ (on.1 ∙ a.aim)) in
            let first : base u ≤ p = omega arith in
            let inside = in_hole j.fills.from j.fills.to p u (length_of w.need w.request response)
            (lies w.need (row_of t w.aim) w.request response j.fills) j.good length_w first ends in
            let hole : InHole w.need p = subst (λ (n : Need). InHole n p) (sym j.fills.need_is) inside in
            ap (λ (f : Cells). f p) rep.body_is ∙
            s.waits.holes x w a.r rep.v p head.row head.was_open head.headless a.aim (ap t.representation (sym fam) ∙ rep.row) hole
      ]

  front_same : Sound t → (y : ℕ) (u : Exchange) (v : Representation) (p : ℕ) (q : Exchange) → t.exchange y ≡ Some q → IsSame y q u →
      RepRow t x (family y u) v → u.is_open ≡ true → is_some u.head ≡ true → front u ≤ p → IsPromised (promised_bytes u) u p → v.body p ≡ None
  front_same s y u v p q row still it8 is_open representation_after_head le ends = grind (arith, nat_tests)

  front_kept : Sound t → IsHead → (y : ℕ) (u : Exchange) (v : Representation) (p : ℕ) → HeadRow t now x response acts y u → RepRow t x (family y u) v →
      u.is_open ≡ true → is_some u.head ≡ true → front u ≤ p → IsPromised (promised_bytes u) u p → v.body p ≡ None
  front_kept s head y u v p (same q other row still) rep is_open representation_after_head le ends =
      front_same s y u v p q row still rep is_open representation_after_head le ends
  front_kept s head y u v p (here q at row was headed_now body joined length_is) rep is_open representation_after_head le ends =
      front_here s head y u v p q at row body joined length_is rep le ends

  hole_kept : Sound t → IsHead → (y : ℕ) (u : Exchange) (r : ℕ) (v : Representation) (p : ℕ) → HeadRow t now x response acts y u → RepRow t x r v →
      u.is_open ≡ true → u.head ≡ None → u.aim ≡ Some r → InHole u.need p → v.body p ≡ None
  hole_kept s head y u r v p row it8 is_open bare aim hole = grind (arith, nat_tests)

  headless_kept : Sound t → (y : ℕ) (u : Exchange) → HeadRow t now x response acts y u → u.head ≡ None → (u.body ≡ []) × (u.joined ≡ None)
  headless_kept s y u (same q other row still) bare = let old = s.waits.headless y q row (sym still.head_is ∙ bare) in
      (still.body_is ∙ old.0, still.joined_is ∙ old.1)
  headless_kept s y u (here q at row was headed_now body joined length_is) bare = absurd (let never : false ≡ true = rw bare at headed_now in cc)

  pub head_waits : Sound t → IsHead → Waits now_on
  head_waits s head = record {
    fronts = λ y u v p row is_open representation_after_head at le ends. front_kept s head y u v p
        (head_row t now x y response acts (t.exchange y) u refl head.opens_none row)
        (rep_row t now x (family y u) response acts (t.representation (family y u)) v refl at) is_open representation_after_head le ends;
    holes = λ y u r v p row is_open bare aim at hole. hole_kept s head y u r v p
        (head_row t now x y response acts (t.exchange y) u refl head.opens_none row) (rep_row t now x r response acts (t.representation r) v refl at) is_open
        bare aim hole;
    headless = λ y u row bare. headless_kept s y u (head_row t now x y response acts (t.exchange y) u refl head.opens_none row) bare;
  }

  -- what is about r was, or it founds r
  data AboutBefore (r y : ℕ) : Type 0 where
    before : IsAbout t r y → AboutBefore r y
    founds : x ≡ r → x ≡ y → AboutBefore r y

  -- the representation was there before, or it is founded
  there_or : (r : ℕ) (o : Option Representation) → now_on.representation r ≡ o → is_some o ≡ true →
      (is_some (t.representation r) ≡ true) ⊎ ((x ≡ r) × (t.representation r ≡ None))
  there_or r None is some = absurd (let never : false ≡ true = some in cc)
  there_or r (Some u) is some = by_row (rep_row t now x r response acts (t.representation r) u refl is)
    where
      by_row : RepRow t x r u → (is_some (t.representation r) ≡ true) ⊎ ((x ≡ r) × (t.representation r ≡ None))
      by_row (kept rep) = inl (rw rep.row refl)
      by_row (founded at none empty) = inr (at, none)

  -- no other exchange is about a number that wasn't founded
  family_or : (y : ℕ) (o : Option ℕ) → (unwrap_or o y ≡ y) ⊎ (o ≡ Some (unwrap_or o y))
  family_or y o = grind (arith, nat_tests)

  not_there : (r : ℕ) → is_some (t.representation r) ≡ true → t.representation r ≡ None → ⊥
  not_there r there none = let never : false ≡ true = rw none at there in cc

  headed_same : Sound t → (r y : ℕ) (u q : Exchange) → x ≢ y → t.exchange y ≡ Some q → IsSame y q u → u.is_open ≡ true → is_some u.head ≡ true →
      family y u ≡ r → (is_some (t.representation r) ≡ true) ⊎ ((x ≡ r) × (t.representation r ≡ None)) → AboutBefore r y
  headed_same s r y u q other row still is_open representation_after_head fam (inl there) =
      before (sound.headed q row (still.was_open is_open) (rw still.head_is at representation_after_head) (sym still.family_is ∙ fam) there)
  headed_same s r y u q other row still is_open representation_after_head fam (inr new) =
      let of_r : family y q ≡ r = sym still.family_is ∙ fam in
      elim (family_or y q.joined) [
        | inl own ↦ absurd (other (new.0 ∙ (sym of_r ∙ own)))
        | inr joined ↦ absurd (not_there r (s.numbered.names.joined y r q row (joined ∙ ap Some of_r)) new.1)
      ]

  -- what isn't founded has no exchange about it
  none_before : Sound t → (r y : ℕ) → t.representation r ≡ None → IsAbout t r y → ⊥
  none_before s r y none (sound.headed q row is_open representation_after_head fam there) = not_there r there none
  none_before s r y none (sound.asks q from to row is_open bare hole aim) = not_there r (s.numbered.names.aims y r q row aim) none

  headed_here : Sound t → IsHead → (r y : ℕ) (u q : Exchange) → x ≡ y → t.exchange y ≡ Some q → u.joined ≡ joined_at t (of_head now x response acts) q →
      family y u ≡ r → (is_some (t.representation r) ≡ true) ⊎ ((x ≡ r) × (t.representation r ≡ None)) → AboutBefore r y
  headed_here s head r y u q at row joined fam there =
      let also : t.exchange y ≡ Some w = rw (sym at) head.row in
      let one : q ≡ w = same_row (t.exchange y) q w row also in
      let joins_it : u.joined ≡ joined_at t (of_head now x response acts) w = joined ∙ ap (joined_at t (of_head now x response acts)) one in
      elim (joins_or s head (is_joining (case_at t (of_head now x response acts))) refl) [
        | inl off ↦
            let own : x ≡ r = at ∙ (sym (ap (λ (o : Option ℕ). unwrap_or o y) (joins_it ∙ off.1)) ∙ fam) in
            founds own at
        | inr on ↦
            let j = on.2 in
            let a = is_aimed t w response j in
            let of_r : a.r ≡ r = sym (ap (λ (o : Option ℕ). unwrap_or o y) (joins_it ∙ (on.1 ∙ a.aim))) ∙ fam in
            before (sound.asks w j.fills.from j.fills.to also head.was_open head.headless j.fills.need_is (a.aim ∙ ap Some of_r))
      ]

  headed_before : Sound t → IsHead → (r y : ℕ) (u : Exchange) → HeadRow t now x response acts y u → u.is_open ≡ true → is_some u.head ≡ true →
      family y u ≡ r → (is_some (t.representation r) ≡ true) ⊎ ((x ≡ r) × (t.representation r ≡ None)) → AboutBefore r y
  headed_before s head r y u (same q other row still) is_open representation_after_head fam there =
      headed_same s r y u q other row still is_open representation_after_head fam there
  headed_before s head r y u (here q at row was headed_now body joined length_is) is_open representation_after_head fam there =
      headed_here s head r y u q at row joined fam there

  asks_before : Sound t → (r y from to : ℕ) (u : Exchange) → HeadRow t now x response acts y u → u.is_open ≡ true → u.head ≡ None →
      u.need ≡ need.Hole from to → u.aim ≡ Some r → AboutBefore r y
  asks_before s r y from to u (same q other row still) is_open bare hole aim =
      before (sound.asks q from to row (still.was_open is_open) (sym still.head_is ∙ bare) (sym still.need_is ∙ hole) (sym still.aim_is ∙ aim))
  asks_before s r y from to u (here q at row was headed_now body joined length_is) is_open bare hole aim =
      absurd (let never : false ≡ true = rw bare at headed_now in cc)

  about_before : Sound t → IsHead → (r y : ℕ) → IsAbout now_on r y → AboutBefore r y
  about_before s head r y (sound.headed u row is_open representation_after_head fam there) =
      headed_before s head r y u (head_row t now x y response acts (t.exchange y) u refl head.opens_none row) is_open representation_after_head fam
      (there_or r (now_on.representation r) refl there)
  about_before s head r y (sound.asks u from to row is_open bare hole aim) =
      asks_before s r y from to u (head_row t now x y response acts (t.exchange y) u refl head.opens_none row) is_open bare hole aim

  founded_none : Sound t → IsHead → (r : ℕ) → x ≡ r → t.representation r ≡ None
  founded_none s head r at = ap t.representation (sym at) ∙ not_founded s head

  one_of : Sound t → IsHead → (r y z : ℕ) → AboutBefore r y → AboutBefore r z → y ≡ z
  one_of s head r y z (before a) (before b) = s.one_about r y z a b
  one_of s head r y z (before a) (founds at own) = absurd (none_before s r y (founded_none s head r at) a)
  one_of s head r y z (founds at own) (before b) = absurd (none_before s r z (founded_none s head r at) b)
  one_of s head r y z (founds at own) (founds at' own') = sym own ∙ own'

  pub head_one_about : Sound t → IsHead → OneAbout now_on
  head_one_about s head r y z a b = one_of s head r y z (about_before s head r y a) (about_before s head r z b)
