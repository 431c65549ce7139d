-- What isn't gone and has no known length is being written for several.
--
-- At the beginning each item has a known length (`begun_known`). What was there had none before either, so it was being
-- written. As it isn't gone and can't be completed later (`unkeepable`), its exchange is the one that founded it
-- (`mine`). That stays open, since what is over and isn't gone is all there, and its length is known (`still`). What is
-- founded without a length is written by its own exchange. `unknown_kept` joins both.
use Rattle.std.{proofs.Common.{◌≡◌, ◌⊎◌, inl, inr, ℕ, ◌+◌, Bool, true, false, Option, Some, None, refl, ap, sym, ◌∙◌}, specs.Prelude.{is_some, ◌&&◌, ◌==◌, not, nat_lt, unwrap_or, option_map}}
use Rattle.hc_text.proofs.Basics.{not_some as none_some, some_inj}
use Rattle.hc_effects.proofs.Vocabulary.{brings_whole, Response, Limits, may_begin, is_kind_right, case_at, is_founding, Entry, Content, Contents, is_open, is_keepable, entry_of, item_of, AfterDenials, Measures, IsMeasured, is_written, covers, new_representation, asks_whole, hole_start, resumes, Tables, Exchange, Representation, IsGrowing, representation_of_content, first_tables, after_accepted, event}
use Rattle.hc_model.specs.Gone.{refuses_ranges}
use Rattle.hc_model.specs.Measures as measures
use Rattle.hc_effects.proofs.{ApartKeeps.{written_by, is_on}, Basics.{false_true, some_none}, LossBy.{IsReal}, ExclusiveWriters.{writer_some}, RepFrom.{RepFrom, rep_from, IsKept, IsResumed, IsEnded}, GroupStops.{IsAll}, Step.{Step}}
use Rattle.hc_laws.proofs.{DeniedKeeps.{written_same}, MeasuresBegin.{known_item}, Lasting.{was_not_gone, not_lost, lasting}, FoundedAs.{part, empty, comes, FoundedAs, founded_as}, UnendedRuns.{or_none}}
use Rattle.hc_effects.proofs.RepFrom as rep

pub record IsOnlyWritten (t : Tables) (v : Representation) : Type 0 where
  pub written : is_written t v ≡ true
  pub whole : brings_whole v.head.status ≡ true

abbrev pub Unknown : Tables → Type 0
Unknown t = (r : ℕ) (v : Representation) → t.representation r ≡ Some v → v.is_gone ≡ false → v.head.total ≡ None → IsOnlyWritten t v

-- AT THE BEGINNING

begun_known : (item : Content) (z : Option ℕ) → is_kind_right item z ≡ true → z ≡ None → ⊥
begun_known item None right none = false_true right
begun_known item (Some n) right none = some_none n none

pub unknown_begun : (limits : Limits) (contents : Contents) → may_begin limits contents ≡ true → Unknown (first_tables contents)
unknown_begun limits contents may r v there not_gone none = by_item (item_of contents r) refl there
  where
    by_item : (z : Option Content) → item_of contents r ≡ z → option_map representation_of_content z ≡ Some v → IsOnlyWritten (first_tables contents) v
    by_item None found is = absurd (none_some v is)
    by_item (Some item) found is =
        absurd (begun_known item item.head.total (known_item limits contents may r item found)
        (ap (λ (q : Representation). q.head.total) (some_inj (representation_of_content item) v is) ∙ none))

pub unknown_denied : AfterDenials Unknown
unknown_denied t e u r v there not_gone none = let w = u r v there not_gone none in record { written = written_same t e v ∙ w.written; whole = w.whole }

-- AFTER AN ENTRY

module _ (step : Step) (m : Measures step.tables) (unknown : Unknown step.tables) (real : IsReal step.limits step.tables step.now step.event step.flaw) where
  open step use {limits, tables as t, now, flaw, sound as s, event as ev}

  abbrev e : Entry
  e = entry_of limits t now ev flaw

  abbrev now_on : Tables
  now_on = after_accepted t e

  module _ (r : ℕ) (v p : Representation) (there : t.representation r ≡ Some v) (kept : IsKept t e r v p) (not_gone : p.is_gone ≡ false)
      (none : p.head.total ≡ None) where
    none_before : v.head.total ≡ None
    none_before = by_total kept.total_is
      where
        by_total : (p.head.total ≡ v.head.total) ⊎ IsEnded t e r v p.head.total → v.head.total ≡ None
        by_total (inl same) = sym same ∙ none
        by_total (inr ends) = absurd (or_none v.head.total _ (sym ends.total_is ∙ none))

    was : IsOnlyWritten t v
    was = unknown r v there (was_not_gone step m r v p there kept not_gone) none_before

    unkeepable : is_keepable v ≡ false
    unfolding is_keepable
    unkeepable = rw none_before (by_parts (is_some v.head.joining))
      where
        by_parts : (a : Bool) → (a && false && nat_lt 0 v.size && not (refuses_ranges v)) ≡ false
        by_parts true = refl
        by_parts false = refl

    module _ (x : ℕ) (writer : v.writer ≡ Some x) where
      grows : (w : Exchange) × IsGrowing t r v x w
      grows = (s.rows r v there).growing x was.written writer

      abbrev w : Exchange
      w = grows.0

      g : IsGrowing t r v x w
      g = grows.1

      mine : x ≡ r
      mine = by_measure (m.brings x w v g.row (sym (ap is_open g.row) ∙ (is_on t v x was.written writer).open_now) g.headed
          (ap t.representation g.family_is ∙ there))
        where
          by_measure : IsMeasured w v → x ≡ r
          by_measure (measures.reported n total promise known ends) = absurd (none_some total (sym none_before ∙ known))
          by_measure (measures.unreported none_too unknown_too first alone was_at) = sym (ap (λ (n : Option ℕ). unwrap_or n x) alone) ∙ g.family_is

      still : is_open (now_on.exchange x) ≡ true
      still = by_end (lasting step m r v p there kept not_gone unkeepable was.whole was.written (writer ∙ ap Some mine))
        where
          by_end : (is_open (now_on.exchange r) ≡ true) ⊎ IsAll p → is_open (now_on.exchange x) ≡ true
          by_end (inl on) = ap (λ n. is_open (now_on.exchange n)) mine ∙ on
          by_end (inr all) = absurd (none_some all.total (sym none ∙ all.known))

      writer_now : (p.writer ≡ v.writer) ⊎ IsResumed t e r v p.writer → p.writer ≡ Some x
      writer_now (inl same) = same ∙ writer
      writer_now (inr R) = absurd (by_parts R.resumed)
        where
          by_test : (a b d : Bool) → (a && false && b && d) ≡ true → ⊥
          by_test true b d h = false_true h
          by_test false b d h = false_true h

          by_parts : resumes t R.response R.w v ≡ true → ⊥
          by_parts h = by_test (asks_whole (t.consumer R.w.c)) (covers v.stored v.reach 0 (hole_start R.w.need)) (v.size == hole_start R.w.need)
              (rw none_before at h)

      by_writer : IsOnlyWritten now_on p
      by_writer = record {
        written =
            written_by now_on p x (kept.lost_is ∙ rw (not_lost step m r v p there kept not_gone, (is_on t v x was.written writer).kept) refl)
            (writer_now kept.writer_is) still;
        whole = ap brings_whole kept.status_is ∙ was.whole;
      }

    writes_on : (z : Option ℕ) → v.writer ≡ z → IsOnlyWritten now_on p
    writes_on None is = absurd (writer_some t v was.written is)
    writes_on (Some x) is = by_writer x is

  -- WHAT IS FOUNDED

  founded_by : (r : ℕ) (response : Response) (w : Exchange) (p : Representation) (here : ev ≡ event.Head r response) (row : t.exchange r ≡ Some w)
      (founding : is_founding (case_at t e) ≡ true) (made : new_representation r e response w ≡ p) (after : now_on.representation r ≡ Some p) →
      p.head.total ≡ None → FoundedAs step m real r response w p here row founding made after → IsOnlyWritten now_on p
  founded_by r response w p here row founding made after none (comes on writer status) =
      record { written = on; whole = sym (ap (λ (q : Representation). brings_whole q.head.status) made) ∙ status }
  founded_by r response w p here row founding made after none (empty status known) = absurd (none_some 0 (sym none ∙ known))
  founded_by r response w p here row founding made after none (part total status known fits) = absurd (none_some total (sym none ∙ known))

  pub unknown_kept : Unknown now_on
  unknown_kept r p after not_gone none = by_rep (rep_from t e r (t.representation r) p refl after)
    where
      by_rep : RepFrom t e r p → IsOnlyWritten now_on p
      by_rep (rep.was v kept) = writes_on r v p kept.row kept not_gone none v.writer refl
      by_rep (rep.founded response w none_there here row on made) =
          founded_by r response w p here row on made after none (founded_as step m real r response w p here row on made after)
