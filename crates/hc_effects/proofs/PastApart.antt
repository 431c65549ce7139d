-- An answer past the store that somebody reads is no representation, and has its head where its reader was shown one.
--
-- It stood there before, its head put it there, or its exchange is opened now. In each no representation of that number
-- was there (`rep_before`). None is founded either. A head that founds puts its consumer elsewhere, since of a part
-- that founds an interval is wanted (`fits_wanted`, `placed_not`). Who stood there was shown its head, or waits for it
-- past the store (`stood_past`). `unfounded_kept` joins these.
use Rattle.std.{proofs.{Common.{◌≡◌, inl, inr, ℕ, ◌+◌, Bool, true, false, Option, Some, None, refl, ap, sym, ◌∙◌, subst, arith}, lemmas.Bool.Decides.{nat_tests}}, specs.Prelude.{is_some}}
use Rattle.hc_text.proofs.Basics.{and_right, not_some as none_some, same_some as same_row}
use Rattle.hc_range.specs.{declared.range.{ContentRange.{ContentRange}, Span.{Span}, RangeSpec.{RangeSpec}}, Spans.{resolved_span}}
use Rattle.hc_effects.proofs.Vocabulary.{brings_part, range, event, route, wanted, by, place, Response, HeadCase, head_case, fits_to_found, fits_part, begins_at, route_of, content_range_of, range_of, wanted_of, wanted_part, BoundBy, has_loss, case_at, head_view, is_founding, fits_asker, consumer_heard, by_head, place_by_case, bound_to_wanted, denial, Entry, founded_total, entry_of, IsAwaiting, IsPast, Tables, Exchange, Representation, Consumer, may_stand, after_accepted}
use Rattle.hc_rules.specs.Refusals as refusals
use Rattle.hc_model.specs.Owners as owners
use Rattle.hc_effects.proofs.{Basics.{false_true}, FirstKeeps.{is_new, case_is}, FoundBy.{FoundingBy, founding_by, founds_way}, NumbersKeep.{opens_next}, Once.{never}, PastKeeps.{IsFrom, PlaceFrom, direct_from}, PieceKeeps.{eq_cases}, RepFrom.{RepFrom, rep_from}, ToBeShown.{heard_place}, Waiters.{waiter_of}, Step.{Step}}
use Rattle.hc_effects.proofs.FoundBy as cases
use Rattle.hc_effects.proofs.PastKeeps as past
use Rattle.hc_effects.proofs.RepFrom as rep

-- A CASE THAT FOUNDS

pub bound_direct : (r lo : ℕ) (hi : Option ℕ) (how : BoundBy) (y : ℕ) → place.Bound r lo hi how ≡ place.Direct y → ⊥
bound_direct r lo hi how y is = cc

-- a part that founds is one of an interval that is wanted
part_wanted : (asked : RangeSpec) (first last total : ℕ) (q : Option Span) → resolved_span asked total ≡ q → begins_at q first last ≡ true → (z : Span) ×
    (wanted_of (Some asked) (Some total) ≡ wanted.Interval z)
part_wanted asked first last total None is h = absurd (false_true h)
part_wanted asked first last total (Some span) is h = (span, ap wanted_part is)

part_range : (asked : RangeSpec) (q : Option ContentRange) → fits_part asked q ≡ true → (z : Span) ×
    (wanted_of (Some asked) (Rattle.hc_model.specs.Heads.total_of_part q) ≡ wanted.Interval z)
part_range asked None h = absurd (false_true h)
part_range asked (Some (range.Unsatisfied total)) h = absurd (false_true h)
part_range asked (Some (range.Part first last None)) h = absurd (false_true h)
part_range asked (Some (range.Part first last (Some total))) h = part_wanted asked first last total (resolved_span asked total) refl h

fits_wanted : (w : Exchange) (response : Response) (q : Option RangeSpec) → brings_part response.status ≡ true → fits_to_found q response ≡ true →
    (z : Span) × (wanted_of q (founded_total w response) ≡ wanted.Interval z)
fits_wanted w response None status h = absurd (false_true h)
fits_wanted w response (Some asked) status h =
    let got = part_range asked (content_range_of response.fields) (and_right _ _ h) in
    let reported : founded_total w response ≡ Rattle.hc_model.specs.Heads.total_of_part (content_range_of response.fields) = rw status refl in
    (got.0, ap (wanted_of (Some asked)) reported ∙ got.1)

-- IT IS APART

pub record IsHeadedRow (t : Tables) (x : ℕ) : Type 0 where
  pub w : Exchange
  pub row : t.exchange x ≡ Some w
  pub headed : is_some w.head ≡ true

pub record IsApart (t : Tables) : Type 0 where
  pub unfounded : (c x : ℕ) (k : Consumer) → t.consumer c ≡ Some k → k.place ≡ place.Direct x → t.representation x ≡ None
  pub headed : (c x : ℕ) (k : Consumer) → t.consumer c ≡ Some k → k.place ≡ place.Direct x → k.shown ≡ true → IsHeadedRow t x

module _ (step : Step) (stand : may_stand step.limits step.tables (entry_of step.limits step.tables step.now step.event step.flaw) ≡ true)
    (a : IsApart step.tables) where
  open step use {limits, tables as t, now, flaw, sound as s, owners as o, event as ev, accepted as goes}

  abbrev e : Entry
  e = entry_of limits t now ev flaw

  abbrev now_on : Tables
  now_on = after_accepted t e

  unfounding : (x : ℕ) (response : Response) (w : Exchange) → ev ≡ event.Head x response → t.exchange x ≡ Some w → route_of w.need ≡ route.Direct →
      is_founding (case_at t e) ≡ true → ⊥
  unfounding x response w here row way on =
      let view = head_view t (has_loss e.acts) w response in
      founds_way view (head_case view) (founding_by view (sym (ap is_founding (case_is t e x response w here row)) ∙ on)) way

  module _ (c y : ℕ) (k u : Consumer) (after : now_on.consumer c ≡ Some u) (stands : u.place ≡ place.Direct y) (is : IsFrom t e c y k u) where
    direct_way : (w : Exchange) → k.place ≡ place.Direct y → IsAwaiting y w k.place → route_of w.need ≡ route.Direct
    direct_way w at it2 = grind (arith, nat_tests)

    bare_not : (w v : Exchange) → t.exchange y ≡ Some w → w.head ≡ None → t.exchange y ≡ Some v → is_some v.head ≡ true → ⊥
    bare_not w v row bare also headed = grind (arith, nat_tests)

    -- where it stood there, no head of that exchange founds
    stood_past : (response : Response) (w : Exchange) → k.place ≡ place.Direct y → ev ≡ event.Head y response → t.exchange y ≡ Some w →
        is_founding (case_at t e) ≡ true → k.shown ≡ false → IsPast t y k → ⊥
    stood_past response w at here row on unshown (owners.answered v also headed) =
        bare_not w v row (is_new limits t now flaw s ev goes y response w here row).bare also headed
    stood_past response w at here row on unshown (owners.waits v mine also opened bare) =
        let n = is_new limits t now flaw s ev goes y response w here row in
        let got = waiter_of step y w row n.is_open n.bare in
        let c_is : w.c ≡ c = o.one w.c c y got.0 k got.1.row is.row got.1.own mine in
        let one : got.0 ≡ k = same_row (t.consumer c) got.0 k (sym (ap t.consumer c_is) ∙ got.1.row) is.row in
        unfounding y response w here row (direct_way w at (subst (λ (q : Consumer). IsAwaiting y w q.place) one got.1.at)) on

    stood_not : (response : Response) (w : Exchange) → k.place ≡ place.Direct y → ev ≡ event.Head y response → t.exchange y ≡ Some w →
        is_founding (case_at t e) ≡ true → ⊥
    stood_not response w at here row on = by_shown k.shown refl
      where
        by_shown : (b : Bool) → k.shown ≡ b → ⊥
        by_shown true shown =
            let h = a.headed c y k is.row at shown in
            bare_not w h.w row (is_new limits t now flaw s ev goes y response w here row).bare h.row h.headed
        by_shown false unshown = stood_past response w at here row on unshown (o.past c y k is.row at unshown)

    -- a head that leaves its consumer past the store founds nothing
    placed_not : (response : Response) (w : Exchange) (g : HeadCase) → t.exchange y ≡ Some w → w.c ≡ c →
        FoundingBy (head_view t (has_loss e.acts) w response) g → place_by_case y response w k (Some g) ≡ place.Direct y → ⊥
    placed_not response w _ row mine (cases.part way status fits l g) at =
        let for_k : fits_to_found (range_of k.request) response ≡ true = sym (ap (λ q. fits_asker q response) (ap t.consumer mine ∙ is.row)) ∙ fits in
        let z = fits_wanted w response (range_of k.request) status for_k in
        bound_direct y z.0.lo (Some z.0.hi) by.Founding y (sym (ap (bound_to_wanted y by.Founding (place.Direct y)) z.1) ∙ at)
    placed_not response w _ row mine _ at = bound_direct _ _ _ _ y at

    heard_at : (response : Response) → ev ≡ event.Head y response → (by_head t e c y response (t.exchange y) k).place ≡ place.Direct y
    heard_at response here =
        let heard : u.place ≡ (consumer_heard t e c ev k).place =
        heard_place step c 0 0 None by.Plan k u (λ d want polls. let no : event.Head y response ≡ event.Poll d want = sym here ∙ polls in cc)
        (record { row = is.row; stays = is.stays; leaves = is.leaves; is = is.is }) in
        sym (ap (λ v. (consumer_heard t e c v k).place) here) ∙ (sym heard ∙ stands)

    headed_not : (response : Response) (w : Exchange) → ev ≡ event.Head y response → t.exchange y ≡ Some w → is_founding (case_at t e) ≡ true → ⊥
    headed_not response w here row on = by_mine (sym (ap (λ z. (by_head t e c y response z k).place) row) ∙ heard_at response here)
      where
        by_mine : (by_head t e c y response (Some w) k).place ≡ place.Direct y → ⊥
        by_mine at = elim (eq_cases w.c c) [
          | inr off ↦ stood_not response w (rw off.0 at at) here row on
          | inl mine ↦
              let is_case = case_is t e y response w here row in
              placed_not response w (head_case (head_view t (has_loss e.acts) w response)) row mine.1
              (founding_by (head_view t (has_loss e.acts) w response) (sym (ap is_founding is_case) ∙ on))
              (sym (ap (place_by_case y response w k) is_case) ∙ (rw mine.0 at at))
        ]

    head_refused : (response : Response) → t.exchange y ≡ None → denial t (event.Head y response) ≡ None → ⊥
    unfolding refusals.refusal_of
    head_refused response row h = never _ (rw row at h)

    -- no representation was there, and none is founded
    rep_before : PlaceFrom t e c y k.place → t.representation y ≡ None
    rep_before (past.stood at) = a.unfounded c y k is.row at
    rep_before (past.heads response here) = by_row (t.exchange y) refl
      where
        by_row : (q : Option Exchange) → t.exchange y ≡ q → t.representation y ≡ None
        by_row None row = absurd (head_refused response row (sym (ap (denial t) here) ∙ goes))
        by_row (Some w) row = (is_new limits t now flaw s ev goes y response w here row).unfounded
    rep_before (past.opens p opening mine number) =
        let next : p.x ≡ t.opened + 1 = opens_next limits t now flaw s ev p goes opening in
        s.numbered.lists.new_representations y (omega arith)

    none_founded : (q : Option Representation) → now_on.representation y ≡ q → now_on.representation y ≡ None
    none_founded None after_row = after_row
    none_founded (Some v) after_row = absurd (by_rep (rep_from t e y (t.representation y) v refl after_row))
      where
        by_rep : RepFrom t e y v → ⊥
        by_rep (rep.was z kept) = none_some z (sym (rep_before is.at) ∙ kept.row)
        by_rep (rep.founded response w none here row on made) = headed_not response w here row on

    unfounded_now : now_on.representation y ≡ None
    unfounded_now = none_founded (now_on.representation y) refl

  pub unfounded_kept : (c y : ℕ) (u : Consumer) → now_on.consumer c ≡ Some u → u.place ≡ place.Direct y → now_on.representation y ≡ None
  unfounded_kept c y u after stands =
      let got = direct_from t e c y (t.consumer c) u refl after stands in
      unfounded_now c y got.0 u after stands got.1
