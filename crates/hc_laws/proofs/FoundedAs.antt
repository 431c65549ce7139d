-- What a head founds is written for several, has no byte, or is a part.
use Rattle.std.proofs.Common.{◌≡◌, inl, inr, ℕ, true, false, Option, Some, None, refl, ap, sym, ◌∙◌, arith}
use Rattle.hc_text.proofs.Basics.{bool_cases, or_left}
use Rattle.hc_effects.proofs.Vocabulary.{brings_part, brings_whole, Response, HeadCase, head_case, has_loss, case_at, head_view, is_founding, fits_asker, is_refused, place_by_case, doomed_by_case, Entry, promise_in, is_open, founded_total, entry_of, Measures, is_written, new_representation, writer_at, Tables, Exchange, Representation, after_accepted, event, case, by, place}
use Rattle.hc_effects.proofs.{ApartKeeps.{written_by}, FirstKeeps.{case_is, is_new}, FoundBy.{FoundingBy, founding_by}, HasBound.{head_stands}, LossBy.{IsReal}, MeasuresKeep.{asker_by}, ServedKeeps.{none_promised}, Waiters.{waiter_of}, Step.{Step}}
use Rattle.hc_effects.proofs.FoundBy as cases
use Rattle.hc_rules.proofs.Statuses.{whole_is_no_part}

module _ (step : Step) (m : Measures step.tables) (real : IsReal step.limits step.tables step.now step.event step.flaw) where
  open step use {limits, tables as t, now, flaw, sound as s, event as ev, accepted as goes}

  abbrev e : Entry
  e = entry_of limits t now ev flaw

  abbrev now_on : Tables
  now_on = after_accepted t e

  module _ (r : ℕ) (response : Response) (w : Exchange) (p : Representation) (here : ev ≡ event.Head r response) (row : t.exchange r ≡ Some w)
      (founding : is_founding (case_at t e) ≡ true) (made : new_representation r e response w ≡ p) (after : now_on.representation r ≡ Some p) where
    -- a whole answer is written for several from now on, or has no byte; a part has a length, and fits
    pub data FoundedAs : Type 0 where
      comes : is_written now_on p ≡ true → p.writer ≡ Some r → brings_whole response.status ≡ true → FoundedAs
      empty : brings_whole response.status ≡ true → p.head.total ≡ Some 0 → FoundedAs
      part : (total : ℕ) → brings_part response.status ≡ true → p.head.total ≡ Some total → fits_asker (t.consumer w.c) response ≡ true → FoundedAs

    total_is : p.head.total ≡ founded_total w response
    total_is = sym (ap (λ (q : Representation). q.head.total) made)

    whole : (g : HeadCase) → case_at t e ≡ Some g → brings_whole response.status ≡ true → (is_refused (Some g) ≡ false) ×
        (doomed_by_case (Some g) w response ≡ None) →
        ((q : Option ℕ) × (place_by_case r response w
        (waiter_of step r w row (is_new limits t now flaw s ev goes r response w here row).is_open
        (is_new limits t now flaw s ev goes r response w here row).bare).0 (Some g) ≡ place.Bound r 0 q by.Founding)) → FoundedAs
    whole g is status plain placed = elim (bool_cases (is_open (now_on.exchange r))) [
      | inl on ↦ comes (written_by now_on p r (sym (ap (λ (q : Representation). q.is_lost) made)) writer on) writer status
      | inr off ↦
          let new = is_new limits t now flaw s ev goes r response w here row in
          let got = waiter_of step r w row new.is_open new.bare in
          let st = head_stands step real.stand w.c r response w got.0 got.1 here (or_left _ _ founding) in
          let promise : promise_in w response ≡ Some 0 =
          none_promised step m real r w.c 0 placed.0 by.Founding st.0 p after st.1 (st.2 ∙ (ap (place_by_case r response w got.0) is ∙ placed.1)) r
          response w here row (ap is_refused is ∙ plain.0) (ap (λ q. doomed_by_case q w response) is ∙ plain.1) off in
          empty status (total_is ∙ (rw other refl ∙ promise))
    ]
      where
        other : brings_part response.status ≡ false
        other = whole_is_no_part response.status status

        writer : p.writer ≡ Some r
        writer = let writes : writer_at r response ≡ Some r = rw other refl in sym (ap (λ (q : Representation). q.writer) made) ∙ writes

    by_case : (g : HeadCase) → FoundingBy (head_view t (has_loss e.acts) w response) g → case_at t e ≡ Some g → FoundedAs
    by_case _ (cases.whole way h l) is = whole case.FoundsWhole is h (refl, refl) (promise_in w response, refl)
    by_case _ (cases.replaced way h l) is = whole case.FirstReplaced is h (refl, refl) (promise_in w response, refl)
    by_case _ (cases.part way h fits l g) is =
        let asked = asker_by (t.consumer w.c) response fits in
        part asked.total h (total_is ∙ rw (h, asked.reported) refl) fits

    pub founded_as : FoundedAs
    founded_as =
        let view = head_view t (has_loss e.acts) w response in
        let is = case_is t e r response w here row in
        by_case (head_case view) (founding_by view (sym (ap is_founding is) ∙ founding)) is
