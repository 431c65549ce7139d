-- What has no tag by which others could join it comes from its one exchange, or is all there.
--
-- A part founds by a strong tag only, and that is one by which parts join (`strong_joins`); what is joined has a tag
-- (`joins_tagged`). So what has none was no part (`parts_by`), and all its bytes are of the exchange that founded it
-- (`own_row`). As long as that writes, it comes from there. Once it is over all is there, or what is unkeepable goes
-- (`one_row`). `tags_kept` joins these.
use Rattle.std.{proofs.Common.{◌≡◌, ◌≢◌, ◌⊎◌, inl, inr, ℕ, List, [], ◌∷◌, length, Bool, true, false, Option, Some, None, refl, ap, sym, ◌∙◌, arith}, specs.{Prelude.{is_some, ◌||◌, not, unwrap_or, if◌then◌else◌, codes}, Option.{option_and_then}}}
use Rattle.hc_text.proofs.Basics.{and_left, and_right, not_some as none_some, some_inj}
use Rattle.hc_etag.specs.TagTexts.{strong_in}
use Rattle.hc_effects.proofs.Vocabulary.{brings_part, brings_whole, Event, Response, fits_to_found, range_of, strong_of, Limits, loses_in, has_loss, case_at, is_joining, fits_asker, row_of, denial, Entry, is_open, front, Flaw, is_keepable, entry_of, HasByte, is_written, new_representation, Tables, Exchange, Representation, Consumer, IsGrowing, IsOfOne, Tags, after_accepted, after_denied, event}
use Rattle.hc_fields.specs.{FieldList.{values_of}, FirstValues.{only_of}}
use Rattle.hc_range.specs.declared.range.RangeSpec.{RangeSpec}
use Rattle.hc_record.specs.Head.{joining_of, one_strong_opaque, strong_opaque}
use Rattle.hc_record.proofs.JoiningLemmas.{strong_opaque-tag}
use Rattle.hc_etag.proofs.TagReads.{strong_in-some}
use Rattle.hc_sparse.specs.Cells.{Cells, Covers, cells_with}
use Rattle.hc_sparse.proofs.CellLemmas.{inside-cases}
use Rattle.hc_model.specs.Origins as origins
use Rattle.hc_model.specs.StoredHeads as heads
use Rattle.hc_effects.proofs.{ApartKeeps.{written_by, is_on}, Basics.{false_true, some_none, number_is}, EndsKeep.{known_kept}, ExchangeFrom.{ExchangeFrom, exchange_from, IsHeaded}, FieldsKeep.{etag_kept}, Fills.{Fills, fills}, FirstKeeps.{case_is}, HeadKeeps.{is_join}, LossBy.{IsReal}, ExclusiveWriters.{writer_some}, RepFrom.{RepFrom, rep_from, IsKept, IsResumed}, GroupStops.{IsAll}, Step.{step_of}}
use Rattle.hc_laws.proofs.{DeniedKeeps.{written_same}, FoundedAs.{FoundedAs, founded_as}, HeadFrom.{joining_kept}, Lasting.{was_not_gone, not_lost, lasting}, OriginsKeep.{Brought, from_before, was_byte}, SoundRuns.{IsCarried}}
use Rattle.hc_effects.proofs.ExchangeFrom as exchange
use Rattle.hc_effects.proofs.Fills as fill
use Rattle.hc_laws.proofs.FoundedAs as founded
use Rattle.hc_effects.proofs.RepFrom as rep
use Rattle.hc_rules.proofs.Statuses.{whole_is_no_part}

-- THE TAG OF A PART THAT FOUNDS

-- a strong tag is one by which parts join
strong_joins : (values : List (List ℕ)) → is_some (option_and_then strong_in (only_of values)) ≡ true → one_strong_opaque values ≢ None
strong_joins (value ∷ []) h none = by_tag (strong_in value) refl h
  where
    by_tag : (z : Option (List ℕ)) → strong_in value ≡ z → is_some z ≡ true → ⊥
    by_tag None is there = false_true there
    by_tag (Some opaque) is there =
        let spelled = strong_in-some value opaque is in
        some_none opaque (sym (ap strong_opaque spelled.1 ∙ strong_opaque-tag opaque spelled.0) ∙ none)
strong_joins _ h none = false_true h

fits_tag : (z : Option RangeSpec) (response : Response) → fits_to_found z response ≡ true → is_some (strong_of response.fields) ≡ true
fits_tag None response h = absurd (false_true h)
fits_tag (Some asked) response h = and_left _ _ h

asker_tag : (z : Option Consumer) (response : Response) → fits_asker z response ≡ true → is_some (strong_of response.fields) ≡ true
asker_tag None response h = absurd (false_true h)
asker_tag (Some k) response h = fits_tag (range_of k.request) response h

-- AFTER AN ENTRY

written_some : (at x p : ℕ) (bytes : List ℕ) (f : Cells) → is_some (f p) ≡ true → is_some (cells_with at x bytes f p) ≡ true
written_some at x p bytes f old = elim (inside-cases at (length bytes) p) [
  | inl here ↦ rw here.0 refl
  | inr off ↦ rw off.0 old
]

if_written : (b : Bool) (at x p : ℕ) (bytes : List ℕ) (f : Cells) → is_some (f p) ≡ true → is_some ((if b then cells_with at x bytes f else f) p) ≡ true
if_written true at x p bytes f old = written_some at x p bytes f old
if_written false at x p bytes f old = old

-- what is stored stays
stored_stays : (t : Tables) (e : Entry) (r p : ℕ) (v u : Representation) → Fills t e r v u → is_some (v.stored p) ≡ true → is_some (u.stored p) ≡ true
stored_stays t e r p v u (fill.still none body stored reach) old = ap (λ (f : Cells). is_some (f p)) stored ∙ old
stored_stays t e r p v u (fill.more x bytes w is body stored reach) old = ap (λ (f : Cells). is_some (f p)) stored ∙
    if_written (not (v.is_lost || loses_in r e.acts)) (front w) x p bytes v.stored old

module _ (limits : Limits) (t : Tables) (now : ℕ) (flaw : Flaw) (c : IsCarried t) (g : Tags t) (ev : Event) (goes : denial t ev ≡ None)
    (real : IsReal limits t now ev flaw) where
  abbrev e : Entry
  e = entry_of limits t now ev flaw

  abbrev now_on : Tables
  now_on = after_accepted t e

  -- what is joined has a tag
  joins_tagged : (x r : ℕ) (response : Response) (w : Exchange) (v : Representation) → ev ≡ event.Head x response → t.exchange x ≡ Some w →
      is_joining (case_at t e) ≡ true → w.aim ≡ Some r → t.representation r ≡ Some v → v.head.joining ≢ None
  joins_tagged x r response w v here row on aim there none =
      let fills_row = (is_join t (has_loss e.acts) w response (sym (ap is_joining (case_is t e x response w here row)) ∙ on)).fills in
      fills_row.tagged (ap (λ (z : Representation). z.head.joining) (some_inj fills_row.v v (sym fills_row.row ∙ (ap (row_of t) aim ∙ there))) ∙ none)

  untagged_before : (r : ℕ) (v p : Representation) → IsKept t e r v p → p.head.joining ≡ None → v.head.joining ≡ None
  untagged_before r v p kept none = sym (joining_kept t e r v p kept) ∙ none

  -- of an exchange that joined before
  was_joined : (x r : ℕ) (w : Exchange) (p : Representation) → t.exchange x ≡ Some w → w.joined ≡ Some r → RepFrom t e r p → p.head.joining ≢ None
  was_joined x r w p row joined (rep.was v kept) none = g.joined x r w v row joined kept.row (untagged_before r v p kept none)
  was_joined x r w p row joined (rep.founded response z none_there here at on made) none =
      false_true (sym (ap is_some none_there) ∙ c.is_sound.numbered.names.joined x r w row joined)

  joins_by_head : (x r : ℕ) (w u : Exchange) (p : Representation) → t.exchange x ≡ Some w → (h : IsHeaded t e x w u) → is_joining (case_at t e) ≡ true →
      w.aim ≡ Some r → RepFrom t e r p → p.head.joining ≢ None
  joins_by_head x r w u p row h on aim (rep.was v kept) none = joins_tagged x r h.response w v h.at row on aim kept.row (untagged_before r v p kept none)
  joins_by_head x r w u p row h on aim (rep.founded response z none_there here at founding made) none =
      false_true (sym (ap is_some none_there) ∙ c.is_sound.numbered.names.aims x r w row aim)

  joined_by : (x r : ℕ) (u : Exchange) (p : Representation) → u.joined ≡ Some r → RepFrom t e r p → ExchangeFrom t e x u → p.head.joining ≢ None
  joined_by x r u p joined from_rep (exchange.new o none opening here made) = absurd (none_some r (ap (λ (z : Exchange). z.joined) made ∙ joined))
  joined_by x r u p joined from_rep (exchange.was w row same) = by_head same.heard_or
    where
      by_case : (h : IsHeaded t e x w u) (b : Bool) → is_joining (case_at t e) ≡ b → (if b then w.aim else w.joined) ≡ Some r → p.head.joining ≢ None
      by_case h true on aim = joins_by_head x r w u p row h on aim from_rep
      by_case h false off was = was_joined x r w p row was from_rep

      by_head : ((u.head ≡ w.head) × (u.joined ≡ w.joined)) ⊎ IsHeaded t e x w u → p.head.joining ≢ None
      by_head (inl still) = was_joined x r w p row (sym still.1 ∙ joined) from_rep
      by_head (inr h) = by_case h (is_joining (case_at t e)) refl (sym h.joined_is ∙ joined)

  -- of no other exchange
  own_piece : (r x : ℕ) (v : Representation) (b : Brought t e r x) → t.representation r ≡ Some v → v.head.joining ≡ None → x ≡ r
  own_piece r x v b there none = by_joined b.w.joined refl b.is.of_r
    where
      by_joined : (z : Option ℕ) → b.w.joined ≡ z → unwrap_or z x ≡ r → x ≡ r
      by_joined None is same = same
      by_joined (Some q) is same = absurd (g.joined x r b.w v b.is.row (is ∙ ap Some same) there none)

  own_by : (r x : ℕ) (v : Representation) → t.representation r ≡ Some v → v.head.joining ≡ None → HasByte t r x ⊎ Brought t e r x → x ≡ r
  own_by r x v there none (inl old) = g.own r x v there none old
  own_by r x v there none (inr b) = own_piece r x v b there none

  own_row : (r x : ℕ) (p : Representation) → p.head.joining ≡ None → HasByte now_on r x → RepFrom t e r p → x ≡ r
  own_row r x p none has (rep.was v kept) = own_by r x v kept.row (untagged_before r v p kept none) (from_before t e r x has)
  own_row r x p none has (rep.founded response w none_there here row on made) = absurd (by_from (from_before t e r x has))
    where
      old_none : HasByte t r x → ⊥
      old_none (origins.has_byte q cell v at there from) = none_some v (sym none_there ∙ at)

      by_from : HasByte t r x ⊎ Brought t e r x → ⊥
      by_from (inl old) = old_none old
      by_from (inr b) = let no : event.Head r response ≡ event.Piece x b.bytes = sym here ∙ b.is.at in cc

  -- no part
  tag_founded : (r : ℕ) (response : Response) (w : Exchange) (p : Representation) → new_representation r e response w ≡ p → p.head.joining ≡ None →
      fits_asker (t.consumer w.c) response ≡ true → ⊥
  tag_founded r response w p made none fits =
      let own : joining_of (Rattle.hc_model.specs.Heads.kept_fields response.fields) ≡ None = ap (λ (z : Representation). z.head.joining) made ∙ none in
      strong_joins (values_of (codes "etag") response.fields) (asker_tag (t.consumer w.c) response fits)
      (sym (ap one_strong_opaque (etag_kept response.fields)) ∙ own)

  whole_status : (r : ℕ) (response : Response) (w : Exchange) (p : Representation) → new_representation r e response w ≡ p →
      brings_whole response.status ≡ true → brings_part p.head.status ≡ false
  whole_status r response w p made whole = sym (ap (λ (z : Representation). brings_part z.head.status) made) ∙ whole_is_no_part response.status whole

  parts_by : (r : ℕ) (p : Representation) → now_on.representation r ≡ Some p → p.head.joining ≡ None → RepFrom t e r p → brings_part p.head.status ≡ false
  parts_by r p after none (rep.was v kept) = ap brings_part kept.status_is ∙ g.parts r v kept.row (untagged_before r v p kept none)
  parts_by r p after none (rep.founded response w none_there here row on made) =
      by_way (founded_as (step_of limits t now flaw c.is_sound c.is_owned ev goes) c.is_measured real r response w p here row on made after)
    where
      by_way : FoundedAs (step_of limits t now flaw c.is_sound c.is_owned ev goes) c.is_measured real r response w p here row on made after →
          brings_part p.head.status ≡ false
      by_way (founded.comes cells_with writer status) = whole_status r response w p made status
      by_way (founded.empty status known) = whole_status r response w p made status
      by_way (founded.part total status known fits) = absurd (tag_founded r response w p made none fits)

  -- it comes, or is all there
  module _ (r : ℕ) (v p : Representation) (kept : IsKept t e r v p) (not_gone : p.is_gone ≡ false) (none : p.head.joining ≡ None) where
    none_before : v.head.joining ≡ None
    none_before = untagged_before r v p kept none

    unkeepable : is_keepable v ≡ false
    unfolding is_keepable
    unkeepable = rw none_before refl

    stays_whole : (total : ℕ) → v.head.total ≡ Some total → Covers v.stored 0 total → IsOfOne now_on p
    stays_whole total known covered =
        heads.whole total (known_kept (step_of limits t now flaw c.is_sound c.is_owned ev goes) c.is_measured r total v p kept known)
        (λ q lo hi. stored_stays t e r q v p (fills t e r v p kept) (covered q lo hi))

    module _ (x : ℕ) (on : is_written t v ≡ true) (status : brings_whole v.head.status ≡ true) (writer : v.writer ≡ Some x) where
      grows : (w : Exchange) × IsGrowing t r v x w
      grows = (c.is_sound.rows r v kept.row).growing x on writer

      mine : x ≡ r
      mine = by_joined grows.0.joined refl (grows.1).family_is
        where
          by_joined : (z : Option ℕ) → grows.0.joined ≡ z → unwrap_or z x ≡ r → x ≡ r
          by_joined None is same = same
          by_joined (Some q) is same = absurd (g.joined x r grows.0 v (grows.1).row (is ∙ ap Some same) kept.row none_before)

      writer_now : (p.writer ≡ v.writer) ⊎ IsResumed t e r v p.writer → p.writer ≡ Some r
      writer_now (inl same) = same ∙ (writer ∙ ap Some mine)
      writer_now (inr R) = absurd
          (joins_tagged R.x r R.response R.w v R.at R.row R.joins (number_is R.w.aim r (and_right _ _ (and_left _ _ R.renews))) kept.row none_before)

      goes_on : (is_open (now_on.exchange r) ≡ true) ⊎ IsAll p → IsOfOne now_on p
      goes_on (inr all) = heads.whole all.total all.known all.covered
      goes_on (inl still) = heads.comes
          (written_by now_on p r (kept.lost_is ∙
          rw (not_lost (step_of limits t now flaw c.is_sound c.is_owned ev goes) c.is_measured r v p kept.row kept not_gone, (is_on t v x on writer).kept)
          refl) (writer_now kept.writer_is) still) (ap brings_whole kept.status_is ∙ status)

      written_on : IsOfOne now_on p
      written_on = goes_on (lasting (step_of limits t now flaw c.is_sound c.is_owned ev goes) c.is_measured r v p kept.row kept not_gone unkeepable status
          on (writer ∙ ap Some mine))

    by_writer : (z : Option ℕ) → v.writer ≡ z → is_written t v ≡ true → brings_whole v.head.status ≡ true → IsOfOne now_on p
    by_writer None is on status = absurd (writer_some t v on is)
    by_writer (Some x) is on status = written_on x on status is

    one_by : IsOfOne t v → IsOfOne now_on p
    one_by (heads.whole total known covered) = stays_whole total known covered
    one_by (heads.comes on status) = by_writer v.writer refl on status

    still_one : IsOfOne now_on p
    still_one = one_by (g.one r v kept.row
        (was_not_gone (step_of limits t now flaw c.is_sound c.is_owned ev goes) c.is_measured r v p kept.row kept not_gone) none_before)

  one_row : (r : ℕ) (p : Representation) → now_on.representation r ≡ Some p → p.is_gone ≡ false → p.head.joining ≡ None → RepFrom t e r p → IsOfOne now_on p
  one_row r p after not_gone none (rep.was v kept) = still_one r v p kept not_gone none
  one_row r p after not_gone none (rep.founded response w none_there here row on made) =
      by_way (founded_as (step_of limits t now flaw c.is_sound c.is_owned ev goes) c.is_measured real r response w p here row on made after)
    where
      by_way : FoundedAs (step_of limits t now flaw c.is_sound c.is_owned ev goes) c.is_measured real r response w p here row on made after → IsOfOne now_on p
      by_way (founded.comes cells_with writer status) = heads.comes cells_with (sym (ap (λ (z : Representation). brings_whole z.head.status) made) ∙ status)
      by_way (founded.empty status known) = heads.whole 0 known (λ q lo hi. absurd (omega arith))
      by_way (founded.part total status known fits) = absurd (tag_founded r response w p made none fits)

  pub tags_kept : Tags now_on
  tags_kept = record {
    joined = λ x r u p row joined after. joined_by x r u p joined (rep_from t e r (t.representation r) p refl after)
        (exchange_from t e x (t.exchange x) u refl row);
    parts = λ r p after none. parts_by r p after none (rep_from t e r (t.representation r) p refl after);
    own = λ r x p after none has. own_row r x p none has (rep_from t e r (t.representation r) p refl after);
    one = λ r p after not_gone none. one_row r p after not_gone none (rep_from t e r (t.representation r) p refl after);
  }

-- A DENIED ENTRY

one_denied : (t : Tables) (e : Entry) (v : Representation) → IsOfOne t v → IsOfOne (after_denied t e) v
one_denied t e v (heads.comes on status) = heads.comes (written_same t e v ∙ on) status
one_denied t e v (heads.whole total known covered) = heads.whole total known covered

pub tags_denied : (t : Tables) (e : Entry) → Tags t → Tags (after_denied t e)
tags_denied t e g = record {
  joined = g.joined;
  parts = g.parts;
  own = λ r x v row none has. g.own r x v row none (was_byte t e r x has);
  one = λ r v row not_gone none. one_denied t e v (g.one r v row not_gone none);
}
