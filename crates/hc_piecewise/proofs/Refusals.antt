-- Where a text that is handed in by pieces is refused.
--
-- A text whose reading is stopped has a first part that isn't refused, and one byte behind it that stops the reading (`cut_at`). Up to
-- that byte it is read as a piece of one byte behind the rest, so it is refused at once (`refused_within`). A text that is cut short is
-- refused at its end (`refused_at_end`). What comes behind a line that is refused brings nothing, so either way all events of the text
-- were stepped, and its report is theirs (`stepped_to_refusal`).
use Rattle.std.proofs.{Common.{◌≡◌, ◌⊎◌, ℕ, List, [], ◌∷◌, ◌++◌, Bool, true, false, Some, refl, sym, ap, subst, ◌∙◌, inl, inr, arith, append_assoc}, lemmas.{Bool.{cases_Bool}, List.{append-nil}, Option.{same_Some}}}
use Rattle.hc_event.specs.declared.{event.Event.{Event}, act.Act.{Act}}
use Rattle.hc_sched.specs.{declared.{place.Place.{Place}, schedule.{Refused.{Refused}, Timed.{Timed}}}, Reading.{Progress, Reads, Stopped, Spent, take_byte, after, events_in, beginning, refusal_at}}
use Rattle.hc_sched.specs.declared.schedule.Ended.TheVariants as ended
use Rattle.hc_sched.proofs.FeedLemmas.{after-append, after-stopped, events_in-append, events_in-stopped}
use Rattle.hc_driver.specs.Stepping as steps
use Rattle.hc_driver.specs.{Endings.{Ends, IsReading, IsRefused, Wholly, ToEnd, SoFar, refused, within, at_end}, Stepping.{Steps, wholly}}
use Rattle.hc_piecewise.specs.Texts.{Brings, IsSteppedToRefusal, is_reading}
use Rattle.hc_piecewise.proofs.Texts.{from_first, stays}

-- THE BYTE THAT STOPS A READING

cases_reading : (p : Progress) → IsReading p ⊎ (is_reading p ≡ false)
cases_reading (Reads place line) = inl (place, line, refl)
cases_reading (Stopped r) = inr refl
cases_reading Spent = inr refl

-- a text is read up to this byte, which stops its reading so
record IsCut (p : Progress) (text : List ℕ) (r : Refused) : Type 0 where
  before : List ℕ
  byte : ℕ
  rest : List ℕ
  whole : (before ++ byte ∷ []) ++ rest ≡ text
  reads : IsReading (after p before)
  stops : after p (before ++ byte ∷ []) ≡ Stopped r

cut_at : (place : Place) (line text : List ℕ) (r : Refused) → after (Reads place line) text ≡ Stopped r → IsCut (Reads place line) text r
cut_at place line [] r is = absurd (let never : true ≡ false = ap is_reading is in cc)
cut_at place line (b ∷ text) r is = elim (cases_reading (take_byte (Reads place line) b).next) [
  | inl on ↦
      let more = cut_at on.0 on.1 text r (ap (λ (s : Progress). after s text) (sym on.2) ∙ is) in
      record {
        before = b ∷ more.before;
        byte = more.byte;
        rest = more.rest;
        whole = ap (λ (l : List ℕ). b ∷ l) more.whole;
        reads = subst (λ (s : Progress). IsReading (after s more.before)) (sym on.2) more.reads;
        stops = ap (λ (s : Progress). after s (more.before ++ more.byte ∷ [])) on.2 ∙ more.stops;
      }
  | inr off ↦ record {
    before = [];
    byte = b;
    rest = text;
    whole = refl;
    reads = (place, line, refl);
    stops = sym (stays (take_byte (Reads place line) b).next text off) ∙ is;
  }
]

-- A TEXT THAT IS REFUSED

module _ {A : Type 0} (answers : A → ℕ → Event → List Act → A → Type 0) (spent : A → A → Type 0) where
  module _ (moment m : ℕ) (q : Progress) (text report : List ℕ) (a b : A) (brings : Brings answers 0 m (beginning moment) q text report a b) where
    -- its events are all of those of the text up to there
    stepped : (upto : List ℕ) → events_in (beginning moment) text ≡ events_in (beginning moment) upto →
        Steps answers spent a b (Some []) (Some report) Wholly (events_in (beginning moment) upto)
    stepped upto same = wholly brings.entries (brings.events_are ∙ same) brings.leads
        (ap (λ (l : List ℕ). Some l) (brings.report_is ∙ from_first brings.entries))

    refused_at_end : (place : Place) (line : List ℕ) (r : Refused) → q ≡ Reads place line → refusal_at q ≡ Some r →
        Ends (Steps answers spent a b (Some []) (Some report)) moment (Some text) (Some []) (ended.Refused r)
    refused_at_end place line r reads is =
        refused ToEnd text r (refl, refl) (at_end (place, line, brings.progress ∙ reads) (ap refusal_at brings.progress ∙ is)) (stepped text refl)

    refused_within : (r : Refused) → q ≡ Stopped r →
        (rest : List ℕ) × Ends (Steps answers spent a b (Some []) (Some report)) moment (Some text) (Some rest) (ended.Refused r)
    refused_within r is =
        let cut = cut_at _ [] text r (brings.progress ∙ is) in
        let upto : List ℕ = cut.before ++ cut.byte ∷ [] in
        let always : IsRefused moment upto r = λ more. ap refusal_at (after-append (beginning moment) upto more
        ∙ (ap (λ (s : Progress). after s more) cut.stops ∙ after-stopped r more)) in
        let none : events_in (after (beginning moment) upto) cut.rest ≡ [] =
        ap (λ (s : Progress). events_in s cut.rest) cut.stops ∙ events_in-stopped r cut.rest in
        let same : events_in (beginning moment) text ≡ events_in (beginning moment) upto =
        ap (events_in (beginning moment)) (sym cut.whole) ∙ (events_in-append (beginning moment) upto cut.rest
        ∙ (ap (λ (l : List Timed). events_in (beginning moment) upto ++ l) none ∙ append-nil (events_in (beginning moment) upto))) in (
          cut.rest,
          refused SoFar upto r (sym cut.whole) (within (record {
            before = cut.before;
            piece = cut.byte ∷ [];
            whole = refl;
            short = omega arith;
            unrefused = cut.reads;
            refuses = always;
          })) (stepped upto same),
        )

  pub stepped_to_refusal : IsSteppedToRefusal answers spent
  stepped_to_refusal moment m (Reads place line) r text report a b brings is =
      ([], refused_at_end moment m (Reads place line) text report a b brings place line r refl is)
  stepped_to_refusal moment m (Stopped t) r text report a b brings is =
      refused_within moment m (Stopped t) text report a b brings r (ap Stopped (same_Some t r is))
  stepped_to_refusal moment m Spent r text report a b brings is = cc is
