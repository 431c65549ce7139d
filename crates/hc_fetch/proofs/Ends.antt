-- Where a body ends: no byte of it is past that, and it stays known.
--
-- Of what is stored the end is its length, of an answer past the store what was promised, or what came. So no byte is
-- past it (`before_end`), and it stays by the law that the end of what is read stays (`end_kept`), which asks that an
-- answer past the store has its head: so that is kept beside (`KnownEnd`).
use Rattle.std.{proofs.{Common.{◌≡◌, inl, inr, ℕ, ◌+◌, ◌<◌, ◌≤◌, ◌∷◌, length, Bool, true, false, Option, Some, None, refl, ap, sym, ◌∙◌, subst, arith}, lemmas.Bool.Decides.{nat_tests}}, specs.Prelude.{◌&&◌, nat_le, nat_lt, is_some}}
use Rattle.hc_text.proofs.Basics.{and_right, bool_cases, not_some as none_some, some_inj}
use Rattle.hc_sparse.specs.Cells.{Cell}
use Rattle.hc_effects.proofs.Vocabulary.{is_denied, Event, Response, Limits, may_begin, total_in, denial, Entry, History, Contents, base, front, promised_bytes, length_by, Flaw, flaw_in, entry_of, Measures, Places, end_of_direct, end_in, body_of, cell_by, direct_cell, answer_cell, end_of, end_by, Tables, Exchange, Representation, IsRun, Sound, tables, after_accepted, after_denied, by, place}
use Rattle.hc_effects.proofs.{Basics.{false_true}, FirstKeeps.{is_new}, Forward.{is_on}, RepFrom.{RepFrom, rep_from}, OfEntries.{of_real}, PastApart.{IsHeadedRow}, ShownStays.{IsFallback}}
use Rattle.hc_effects.proofs.RepFrom as rep
use Rattle.hc_laws.proofs.{Barred.{next_tables, denied_tables}, PlaceRuns.{places_in_runs}, ReadAs.{hi_stays}, ReadEnds.{no_base}, ReadJoined.{fallback}, SoundRuns.{carried}, PlacesKept.{direct_inj}}

-- NO BYTE IS PAST THE END

module _ (t : Tables) (s : Sound t) (m : Measures t) (b : Places t) where
  stored_before : (r n p : ℕ) (v : Representation) (cell : Cell) → t.representation r ≡ Some v → v.head.total ≡ Some n → v.body p ≡ Some cell → p < n
  stored_before r n p v cell row known is =
      let le : v.reach ≤ n = m.within r n v row known in
      elim (bool_cases (nat_lt p v.reach)) [
        | inl under ↦ let lt : p < v.reach = grind (arith, nat_tests) in omega arith
        | inr past ↦ let over : v.reach ≤ p = grind (arith, nat_tests) in absurd (none_some cell (sym ((s.rows r v row).store.ends p over) ∙ is))
      ]

  cell_before : (x p : ℕ) (w : Exchange) (cell : Cell) → answer_cell x p w ≡ Some cell → p < front w
  cell_before x p w cell is = elim (bool_cases (nat_le (base w) p && nat_lt p (front w))) [
    | inl on ↦ let under : nat_lt p (front w) ≡ true = and_right (nat_le (base w) p) _ on in grind (arith, nat_tests)
    | inr off ↦ absurd (none_some cell (rw off at is))
  ]

  past_before : (x n p : ℕ) (w : Exchange) (q : Option ℕ) → t.exchange x ≡ Some w → promised_bytes w ≡ q → end_of_direct q w ≡ Some n → p < front w → p < n
  past_before x n p w (Some k) row is ends lt =
      let most : length w.body ≤ k = b.promised_most x k w row is in
      let same : base w + k ≡ n = some_inj (base w + k) n ends in
      omega arith
  past_before x n p w None row is ends lt = elim (bool_cases w.is_ended) [
    | inr off ↦ absurd (none_some n (rw off at ends))
    | inl over ↦
        let same : length w.body ≡ n = some_inj (length w.body) n (rw over at ends) in
        let first : base w ≡ 0 = no_base (length_by w w.head) is in
        omega arith
  ]

  direct_before : (r n p : ℕ) (q : Option Exchange) (cell : Cell) → t.exchange r ≡ q → end_in q ≡ Some n → direct_cell r p q ≡ Some cell → p < n
  direct_before r n p None cell row ends is = absurd (none_some n ends)
  direct_before r n p (Some w) cell row ends is = past_before r n p w (promised_bytes w) row refl ends (cell_before r p w cell is)

  row_before : (r n p : ℕ) (q : Option Representation) (cell : Cell) → t.representation r ≡ q → end_by t r q ≡ Some n → cell_by t r p q ≡ Some cell → p < n
  row_before r n p None cell row ends is = direct_before r n p (t.exchange r) cell refl ends is
  row_before r n p (Some v) cell row ends is = stored_before r n p v cell row ends is

pub before_end : (limits : Limits) (contents : Contents) (h : History) → may_begin limits contents ≡ true → IsRun limits contents h →
    (r n p : ℕ) (cell : Cell) → end_of (tables contents h) r ≡ Some n → body_of (tables contents h) r p ≡ Some cell → p < n
before_end limits contents h may run r n p cell ends is =
    let c = carried limits contents h may run in
    row_before (tables contents h) c.is_sound c.is_measured (places_in_runs limits contents h may run) r n p ((tables contents h).representation r) cell
    refl ends is

-- IT STAYS

-- what is no representation is an answer past the store that has its head
abbrev pub KnownHead : Tables → ℕ → Type 0
KnownHead t r = t.representation r ≡ None → IsHeadedRow t r

-- the end of a body is known, and what goes past the store has its head
pub record KnownEnd (t : Tables) (r n : ℕ) : Type 0 where
  pub ends : end_of t r ≡ Some n
  pub headed : KnownHead t r

total_end : (t : Tables) (r n : ℕ) (q : Option Representation) → t.representation r ≡ q → total_in q ≡ Some n → end_of t r ≡ Some n
total_end t r n None row is = absurd (none_some n is)
total_end t r n (Some v) row is = ap (end_by t r) row ∙ is

bound_direct : (r y : ℕ) → place.Bound r 0 None by.Founding ≡ place.Direct y → ⊥
bound_direct r y is = cc

module _ (limits : Limits) (t : Tables) (now : ℕ) (flaw : Flaw) (s : Sound t) (ev : Event) (going : denial t ev ≡ None) (a : IsFallback t) (r n : ℕ) where
  abbrev e : Entry
  e = entry_of limits t now ev flaw

  abbrev now_on : Tables
  now_on = after_accepted t e

  headed_kept : IsHeadedRow t r → IsHeadedRow now_on r
  headed_kept h =
      let on = is_on t e r h.w h.row in
      record { w = on.u; row = on.row; headed = by_head on.u.head refl }
    where
      by_head : (z : Option Response) → (is_on t e r h.w h.row).u.head ≡ z → is_some z ≡ true
      by_head None none = let was : h.w.head ≡ None = (is_on t e r h.w h.row).same.bare none in
          absurd (false_true (sym (ap (λ (q : Option Response). is_some q) was) ∙ h.headed))
      by_head (Some response) some = refl

  -- what has its head founds nothing more
  none_founded : IsHeadedRow t r → t.representation r ≡ None → (q : Option Representation) → now_on.representation r ≡ q → q ≡ None
  none_founded h none None is = refl
  none_founded h none (Some u) is = by_from (rep_from t e r (t.representation r) u refl is)
    where
      by_from : RepFrom t e r u → Some u ≡ None
      by_from (rep.was v kept) = absurd (none_some v (sym none ∙ kept.row))
      by_from (rep.founded response w bare at there on made) =
          let new = is_new limits t now flaw s ev going r response w at there in
          let same : w ≡ h.w = some_inj w h.w (sym there ∙ h.row) in
          absurd (false_true (sym (ap (λ (q : Exchange). is_some q.head) (sym same) ∙ ap (λ (q : Option Response). is_some q) new.bare) ∙ h.headed))

  known_kept : KnownHead t r → (q : Option Representation) → t.representation r ≡ q → KnownHead now_on r
  known_kept known None row isnt = headed_kept (known row)
  known_kept known (Some v) row none =
      absurd (false_true (sym (ap (λ (q : Option Representation). is_some q) none) ∙
      rep.stays t e r (t.representation r) (ap (λ (q : Option Representation). is_some q) row)))

  row_kept : KnownEnd t r n → (q : Option Representation) → t.representation r ≡ q → KnownEnd now_on r n
  row_kept known None row =
      let h = known.headed row in
      let none : now_on.representation r ≡ None = none_founded h row (now_on.representation r) refl in
      let was : end_in (t.exchange r) ≡ Some n = sym (ap (end_by t r) row) ∙ known.ends in
      record {
        ends = ap (end_by now_on r) none ∙ hi_stays limits t now flaw s ev going a (place.Direct r) n (λ y is. subst (IsHeadedRow t) (direct_inj r y is) h) was;
        headed = λ isnt. headed_kept h;
      }
  row_kept known (Some v) row =
      let was : total_in (t.representation r) ≡ Some n = ap total_in row ∙ (sym (ap (end_by t r) row) ∙ known.ends) in
      let still : total_in (now_on.representation r) ≡ Some n =
      hi_stays limits t now flaw s ev going a (place.Bound r 0 None by.Founding) n (λ y is. absurd (bound_direct r y is)) was in
      record {
        ends = total_end now_on r n (now_on.representation r) refl still;
        headed = λ none. absurd (none_some n (sym (ap total_in none) ∙ still));
      }

denied_end : (t : Tables) (e : Entry) (r n : ℕ) → KnownEnd t r n → KnownEnd (after_denied t e) r n
denied_end t e r n known = record { ends = known.ends; headed = λ none. let h = known.headed none in record { w = h.w; row = h.row; headed = h.headed } }

end_by_denial : (limits : Limits) (contents : Contents) (h : History) (e : Entry) → may_begin limits contents ≡ true → IsRun limits contents (e ∷ h) →
    (r n : ℕ) → KnownEnd (tables contents h) r n → (b : Bool) → is_denied e.acts ≡ b → KnownEnd (tables contents (e ∷ h)) r n
end_by_denial limits contents h e may run r n known true denied =
    subst (λ (u : Tables). KnownEnd u r n) (denied_tables contents h e denied) (denied_end (tables contents h) e r n known)
end_by_denial limits contents h e may run r n known false taken =
    let t = tables contents h in
    let c = carried limits contents h may run.0 in
    subst (λ (u : Tables). KnownEnd u r n) (next_tables contents h e taken)
    (of_real limits t e (λ z. KnownEnd (after_accepted t z) r n) run.1 taken
    (λ going real. row_kept limits t e.now (flaw_in e.acts) c.is_sound e.event going (fallback limits contents h may run.0) r n known (t.representation r)
    refl))

pub end_kept : (limits : Limits) (contents : Contents) (h : History) (e : Entry) → may_begin limits contents ≡ true → IsRun limits contents (e ∷ h) →
    (r n : ℕ) → KnownEnd (tables contents h) r n → KnownEnd (tables contents (e ∷ h)) r n
end_kept limits contents h e may run r n known = end_by_denial limits contents h e may run r n known (is_denied e.acts) refl

denied_head : (t : Tables) (e : Entry) (r : ℕ) → KnownHead t r → KnownHead (after_denied t e) r
denied_head t e r known none = let h = known none in record { w = h.w; row = h.row; headed = h.headed }

head_by_denial : (limits : Limits) (contents : Contents) (h : History) (e : Entry) → may_begin limits contents ≡ true → IsRun limits contents (e ∷ h) →
    (r : ℕ) → KnownHead (tables contents h) r → (b : Bool) → is_denied e.acts ≡ b → KnownHead (tables contents (e ∷ h)) r
head_by_denial limits contents h e may run r known true denied =
    subst (λ (u : Tables). KnownHead u r) (denied_tables contents h e denied) (denied_head (tables contents h) e r known)
head_by_denial limits contents h e may run r known false taken =
    let t = tables contents h in
    let c = carried limits contents h may run.0 in
    subst (λ (u : Tables). KnownHead u r) (next_tables contents h e taken)
    (of_real limits t e (λ z. KnownHead (after_accepted t z) r) run.1 taken
    (λ going real. known_kept limits t e.now (flaw_in e.acts) c.is_sound e.event going (fallback limits contents h may run.0) r 0 known
    (t.representation r) refl))

pub head_kept : (limits : Limits) (contents : Contents) (h : History) (e : Entry) → may_begin limits contents ≡ true → IsRun limits contents (e ∷ h) →
    (r : ℕ) → KnownHead (tables contents h) r → KnownHead (tables contents (e ∷ h)) r
head_kept limits contents h e may run r known = head_by_denial limits contents h e may run r known (is_denied e.acts) refl
