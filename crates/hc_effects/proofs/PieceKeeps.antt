-- A piece keeps what open exchanges are still to bring absent.
--
-- The rows before the piece are read back (`was_exchange`, `was_representation`). What an exchange is still to bring
-- was so before (`was_ahead`). Of two open exchanges about one body both are the same, so a piece of it is its own:
-- what is still to come is past that (`past`, `front_absent`). `fronts_kept` is of exchanges with a head and
-- `holes_kept` of those for a hole; `piece_one_about` keeps that one is about each body.
use Rattle.std.{proofs.{Common.{◌≡◌, ◌≢◌, ◌⊎◌, inl, inr, ℕ, ◌+◌, ◌≤◌, List, [], ◌++◌, length, Bool, true, false, cond, Option, Some, None, refl, ap, sym, ◌∙◌, arith, subst, length-append}, lemmas.Bool.Decides.{nat_tests}}, specs.Prelude.{is_some, nat_eq}}
use Rattle.hc_text.proofs.Basics.{and_right, same_some as same_row, some_inj}
use Rattle.hc_effects.proofs.Vocabulary.{opening_in, Act, Need, Entry, exchange_after, exchange_heard, exchange_acted, base, promised_bytes, front, family, representation_after, Tables, Exchange, Representation, Waits, Sound, OneAbout, IsAbout, IsPromised, InHole, after_accepted, need}
use Rattle.hc_event.specs.declared.event.Event.TheVariants as event
use Rattle.hc_sparse.specs.Cells.{Cells, cells_with}
use Rattle.hc_sparse.proofs.CellLemmas.{inside-past}
use Rattle.hc_model.specs.Sound as sound

abbrev pub of_piece : ℕ → ℕ → List ℕ → List Act → Entry
of_piece now x bytes acts = record { now = now; event = event.Piece x bytes; acts = acts }

pub eq_cases : (a b : ℕ) → ((nat_eq a b ≡ true) × (a ≡ b)) ⊎ ((nat_eq a b ≡ false) × (a ≢ b))
eq_cases a b = grind (arith, nat_tests)

-- what an exchange was before: headed, it was open, and its body has more bytes where it is the one that brought them
pub record WasExchange (t : Tables) (x y : ℕ) (bytes : List ℕ) (u : Exchange) : Type 0 where
  pub w : Exchange
  pub row : t.exchange y ≡ Some w
  pub was_open : u.is_open ≡ true → w.is_open ≡ true
  pub head_is : u.head ≡ w.head
  pub need_is : u.need ≡ w.need
  pub aim_is : u.aim ≡ w.aim
  pub joined_is : u.joined ≡ w.joined
  pub family_is : family y u ≡ family y w
  pub promised_is : promised_bytes u ≡ promised_bytes w
  pub base_is : base u ≡ base w
  pub body_is : u.body ≡ cond (nat_eq x y) (w.body ++ bytes) w.body

-- the row after the piece, of the exchange that brought it and of another
abbrev with_bytes : Tables → ℕ → List ℕ → List Act → Exchange → Exchange
with_bytes t x bytes acts w = exchange_acted x acts (exchange_heard t (of_piece 0 x bytes acts) x (event.Piece x bytes) w)

-- a row was there before
pub was_exchange : (t : Tables) (now x y : ℕ) (bytes : List ℕ) (acts : List Act) (o : Option Exchange) (u : Exchange) → t.exchange y ≡ o → opening_in
    acts ≡ None → exchange_after t (of_piece now x bytes acts) y o ≡ Some u → WasExchange t x y bytes u
unfolding exchange_after
was_exchange t now x y bytes acts None u is none row = absurd (let never : None ≡ Some u = rw none at row in cc)
was_exchange t now x y bytes acts (Some w) u is none row =
    subst (WasExchange t x y bytes) (some_inj (exchange_acted y acts (exchange_heard t (of_piece now x bytes acts) y (event.Piece x bytes) w)) u row)
    (elim (eq_cases x y) [
      | inl here ↦ rw here.0 (record {
        w = w;
        row = is;
        was_open = λ h. and_right _ _ (and_right _ _ h);
        head_is = refl;
        need_is = refl;
        aim_is = refl;
        joined_is = refl;
        family_is = refl;
        promised_is = refl;
        base_is = refl;
        body_is = rw here.0 refl;
      })
      | inr other ↦ rw other.0 (record {
        w = w;
        row = is;
        was_open = λ h. and_right _ _ h;
        head_is = refl;
        need_is = refl;
        aim_is = refl;
        joined_is = refl;
        family_is = refl;
        promised_is = refl;
        base_is = refl;
        body_is = rw other.0 refl;
      })
    ])

-- what a representation was before
pub record WasRepresentation (t : Tables) (x r : ℕ) (bytes : List ℕ) (u : Representation) : Type 0 where
  pub v : Representation
  pub row : t.representation r ≡ Some v
  pub body_is : (w : Exchange) → t.exchange x ≡ Some w → u.body ≡ (cond (nat_eq (family x w) r) (cells_with (front w) x bytes v.body) v.body)

pub was_representation : (t : Tables) (now x r : ℕ) (bytes : List ℕ) (acts : List Act) (o : Option Representation) (u : Representation) →
    t.representation r ≡ o → representation_after t (of_piece now x bytes acts) r o ≡ Some u → WasRepresentation t x r bytes u
unfolding representation_after
was_representation t now x r bytes acts o u is row = grind (arith, nat_tests)

pub ends_same : (o : Option ℕ) (u w : Exchange) (p : ℕ) → base u ≡ base w → IsPromised o u p → IsPromised o w p
ends_same None u w p same ends = tt
ends_same (Some n) u w p same ends = rw same at ends

longer : (b : Bool) (body bytes : List ℕ) → length body ≤ length (cond b (body ++ bytes) body)
longer true body bytes = let n = length-append body bytes in omega arith
longer false body bytes = omega arith

-- what an exchange is still to bring was still to come of it before
was_ahead : (t : Tables) (x y p : ℕ) (bytes : List ℕ) (u : Exchange) (was : WasExchange t x y bytes u) → front u ≤ p → front was.w ≤ p
was_ahead t x y p bytes u was le =
    let b : base u ≡ base was.w = was.base_is in
    let n : length was.w.body ≤ length u.body = rw was.body_is (longer (nat_eq x y) was.w.body bytes) in
    omega arith

-- who is in a hole asks for one
asks_by : (t : Tables) (r y : ℕ) (z : Exchange) (p : ℕ) → z.is_open ≡ true → t.exchange y ≡ Some z → z.head ≡ None → z.aim ≡ Some r → (n : Need) →
    z.need ≡ n → InHole n p → IsAbout t r y
asks_by t r y z p is_open row bare aim (need.Hole from to) is hole = sound.asks z from to row is_open bare is aim
asks_by t r y z p is_open row bare aim _ is hole = absurd hole

-- the piece stays before what is still to come of its own exchange, and is apart from what others are to bring
module _ (t : Tables) (now x : ℕ) (bytes : List ℕ) (acts : List Act) (w : Exchange) where
  -- an accepted piece: its exchange is open and headed, and no exchange is opened with it
  pub record IsPiece : Type 0 where
    pub row : t.exchange x ≡ Some w
    pub was_open : w.is_open ≡ true
    pub headed : is_some w.head ≡ true
    pub opens_none : opening_in acts ≡ None

  -- what was absent stays so, where the piece is of another representation, or before it
  stays_absent : (b : Bool) (v : Representation) (p : ℕ) → v.body p ≡ None → (b ≡ true → front w + length bytes ≤ p) →
      (cond b (cells_with (front w) x bytes v.body) v.body) p ≡ None
  stays_absent false v p none past = none
  stays_absent true v p none past = rw (inside-past (front w) (length bytes) p (past refl)) none

  -- an exchange of a hole of the representation of the piece is the one that brought it, which can't be
  about_hole : Sound t → IsPiece → (y : ℕ) (z : Exchange) (r : ℕ) → z.is_open ≡ true → t.exchange y ≡ Some z → z.head ≡ None → z.aim ≡ Some r →
      family x w ≡ r → is_some (t.representation r) ≡ true → (p : ℕ) → InHole z.need p → x ≡ y
  about_hole s piece y z r is_open row bare aim same there p hole =
      s.one_about r x y (sound.headed w piece.row piece.was_open piece.headed same there) (asks_by t r y z p is_open row bare aim z.need refl hole)

  module _ (s : Sound t) (piece : IsPiece) (y : ℕ) (u : Exchange) (v : Representation) (p : ℕ) (was : WasExchange t x y bytes u) where
    -- two open exchanges about one representation are the same
    one : (z : Exchange) → t.exchange y ≡ Some z → z.is_open ≡ true → is_some z.head ≡ true → family x w ≡ family y z →
        is_some (t.representation (family y z)) ≡ true → x ≡ y
    one z row is_open headed same there =
        s.one_about (family y z) x y (sound.headed w piece.row piece.was_open piece.headed same there) (sound.headed z row is_open headed refl there)

    -- of the exchange that brought the piece, what is still to come is past it
    past : x ≡ y → front u ≤ p → front w + length bytes ≤ p
    past same le =
        let also : t.exchange y ≡ Some w = rw (sym same) piece.row in
        let old : was.w ≡ w = same_row (t.exchange y) was.w w was.row also in
        let test : nat_eq x y ≡ true = grind (arith, nat_tests) in
        let body : u.body ≡ w.body ++ bytes = rw (was.body_is, test, old) refl in
        let b : base u ≡ base w = was.base_is ∙ ap base old in
        let n : length u.body ≡ length w.body + length bytes = ap length body ∙ length-append w.body bytes in
        omega arith

    front_absent : (rep : WasRepresentation t x (family y u) bytes v) → u.is_open ≡ true → is_some u.head ≡ true → front u ≤ p →
        IsPromised (promised_bytes u) u p → v.body p ≡ None
    front_absent rep is_open headed le ends =
        let open_before = was.was_open is_open in
        let headed_before : is_some was.w.head ≡ true = rw was.head_is at headed in
        let there : t.representation (family y was.w) ≡ Some rep.v = rw was.family_is at rep.row in
        let none = s.waits.fronts y was.w rep.v p was.row open_before headed_before there (was_ahead t x y p bytes u was le)
        (ends_same (promised_bytes was.w) u was.w p was.base_is (rw was.promised_is at ends)) in
        ap (λ (f : Cells). f p) (rep.body_is w piece.row) ∙ stays_absent (nat_eq (family x w) (family y u)) rep.v p none (λ b.
        let same : family x w ≡ family y u = grind (arith, nat_tests) in
        past (one was.w was.row open_before headed_before (same ∙ was.family_is) (rw there refl)) le)

  pub fronts_kept : Sound t → IsPiece → (y : ℕ) (u : Exchange) (v : Representation) (p : ℕ) →
      (after_accepted t (of_piece now x bytes acts)).exchange y ≡ Some u → u.is_open ≡ true → is_some u.head ≡ true →
      (after_accepted t (of_piece now x bytes acts)).representation (family y u) ≡ Some v → front u ≤ p → IsPromised (promised_bytes u) u p → v.body p ≡ None
  fronts_kept s piece y u v p row is_open headed at le ends =
      let was = was_exchange t now x y bytes acts (t.exchange y) u refl piece.opens_none row in
      let rep = was_representation t now x (family y u) bytes acts (t.representation (family y u)) v refl at in
      front_absent s piece y u v p was rep is_open headed le ends

  headed_not : (z : Exchange) (y : ℕ) → IsPiece → t.exchange y ≡ Some z → z.head ≡ None → x ≢ y
  headed_not z y piece row none same = grind (arith, nat_tests)

  pub holes_kept : Sound t → IsPiece → (y : ℕ) (u : Exchange) (r : ℕ) (v : Representation) (p : ℕ) →
      (after_accepted t (of_piece now x bytes acts)).exchange y ≡ Some u → u.is_open ≡ true → u.head ≡ None → u.aim ≡ Some r →
      (after_accepted t (of_piece now x bytes acts)).representation r ≡ Some v → InHole u.need p → v.body p ≡ None
  holes_kept s piece y u r v p row is_open headless aim at hole =
      let was = was_exchange t now x y bytes acts (t.exchange y) u refl piece.opens_none row in
      let rep = was_representation t now x r bytes acts (t.representation r) v refl at in
      let bare : was.w.head ≡ None = sym was.head_is ∙ headless in
      let aimed : was.w.aim ≡ Some r = sym was.aim_is ∙ aim in
      let none = s.waits.holes y was.w r rep.v p was.row (was.was_open is_open) bare aimed rep.row (rw was.need_is at hole) in
      ap (λ (f : Cells). f p) (rep.body_is w piece.row) ∙ stays_absent (nat_eq (family x w) r) rep.v p none (λ b.
      let same : family x w ≡ r = grind (arith, nat_tests) in
      absurd (headed_not was.w y piece was.row bare
      (about_hole s piece y was.w r (was.was_open is_open) was.row bare aimed same (rw rep.row refl) p (rw was.need_is at hole))))

  -- what is about r was about it
  was_there : (r : ℕ) (o : Option Representation) → (after_accepted t (of_piece now x bytes acts)).representation r ≡ o → is_some o ≡ true →
      is_some (t.representation r) ≡ true
  was_there r None is some = absurd (let never : false ≡ true = some in cc)
  was_there r (Some u) is some = let rep = was_representation t now x r bytes acts (t.representation r) u refl is in rw rep.row refl

  pub about_was : IsPiece → (r y : ℕ) → IsAbout (after_accepted t (of_piece now x bytes acts)) r y → IsAbout t r y
  about_was piece r y (sound.headed u row is_open headed fam there) =
      let was = was_exchange t now x y bytes acts (t.exchange y) u refl piece.opens_none row in
      let headed_before : is_some was.w.head ≡ true = rw was.head_is at headed in
      sound.headed was.w was.row (was.was_open is_open) headed_before (sym was.family_is ∙ fam)
      (was_there r ((after_accepted t (of_piece now x bytes acts)).representation r) refl there)
  about_was piece r y (sound.asks u from to row is_open bare hole aim) =
      let was = was_exchange t now x y bytes acts (t.exchange y) u refl piece.opens_none row in
      sound.asks was.w from to was.row (was.was_open is_open) (sym was.head_is ∙ bare) (sym was.need_is ∙ hole) (sym was.aim_is ∙ aim)

  headless_kept : Sound t → IsPiece → (y : ℕ) (u : Exchange) → (after_accepted t (of_piece now x bytes acts)).exchange y ≡ Some u → u.head ≡ None →
      (u.body ≡ []) × (u.joined ≡ None)
  headless_kept s piece y u row headless =
      let was = was_exchange t now x y bytes acts (t.exchange y) u refl piece.opens_none row in
      let bare : was.w.head ≡ None = sym was.head_is ∙ headless in
      let old = s.waits.headless y was.w was.row bare in
      let other : nat_eq x y ≡ false = elim (eq_cases x y) [ inl here ↦ absurd (headed_not was.w y piece was.row bare here.1) | inr apart ↦ apart.0 ] in
      (rw other at was.body_is ∙ old.0, was.joined_is ∙ old.1)

  -- A piece keeps it all.
  pub piece_waits : Sound t → IsPiece → Waits (after_accepted t (of_piece now x bytes acts))
  piece_waits s piece = record { fronts = fronts_kept s piece; holes = holes_kept s piece; headless = headless_kept s piece }

  pub piece_one_about : Sound t → IsPiece → OneAbout (after_accepted t (of_piece now x bytes acts))
  piece_one_about s piece r y z a b = s.one_about r y z (about_was piece r y a) (about_was piece r z b)
