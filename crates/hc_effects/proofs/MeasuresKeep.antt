-- An open exchange brings no more of a body than there is to come, and what came ends at its reach, within its length.
--
-- The rows of an exchange and of its body are compared before and after an entry. One exchange is about a body
-- (`about`), so what it brings is what fills the body (`one_piece`): front and reach move together. A head that comes
-- joins a body or founds one; there the measure is read off the head (`founded_measured`). `brings_kept` joins this;
-- `tight_kept` and `within_kept` are of the body alone.
use Rattle.std.{proofs.{Common.{◌≡◌, ◌⊎◌, inl, inr, ℕ, ◌+◌, ◌<◌, ◌≤◌, List, [], length, true, false, Option, Some, None, refl, ap, sym, ◌∙◌, subst, arith, max, length-append}, lemmas.Bool.Decides.{nat_tests}}, specs.{Prelude.{if◌then◌else◌, is_some, unwrap_or}, Option.{option_or}}}
use Rattle.hc_text.proofs.Basics.{and_right, bool_cases, not_some as none_some, same_some as same_row}
use Rattle.hc_sparse.specs.Cells.{cells_with}
use Rattle.hc_range.specs.declared.range.{RangeSpec.{RangeSpec}, ContentRange.{ContentRange}}
use Rattle.hc_effects.proofs.Vocabulary.{brings_part, brings_whole, range, event, route, Response, HeadCase, Length, head_case, fits_to_found, fits_part, length_of, base_of, promise_of, is_bad, route_of, content_range_of, piece_refusal, end_refusal, range_of, has_loss, case_at, head_view, is_founding, is_joining, fits_asker, denial, as_open, Entry, base, promised_bytes, front, family, length_by, founded_total, entry_of, Measures, IsMeasured, new_representation, length_in, Tables, Exchange, Representation, Consumer, IsAbout, after_accepted}
use Rattle.hc_rules.specs.Refusals as refusals
use Rattle.hc_model.specs.Measures as measures
use Rattle.hc_model.specs.Sound as sound
use Rattle.hc_effects.proofs.{Basics.{false_true}, ExchangeFrom.{ExchangeFrom, IsSame, IsHeaded, exchange_from}, Fills.{Fills, fills, Brings, brings, length_same}, FirstKeeps.{case_is, is_new}, FoundBy.{FoundingBy, founding_by}, HeadKeeps.{is_join}, Once.{taken, IsTaken}, PartReported.{part_within, whole_base, IsWithin}, RepFrom.{RepFrom, rep_from, IsKept, IsEnded}, Step.{Step}}
use Rattle.hc_effects.proofs.ExchangeFrom as exchange
use Rattle.hc_effects.proofs.Fills as fills_by
use Rattle.hc_effects.proofs.FoundBy as cases
use Rattle.hc_effects.proofs.RepFrom as rep
use Rattle.hc_rules.proofs.Statuses.{whole_is_no_part}

-- a part that fits to found tells its length
pub record IsPart (response : Response) : Type 0 where
  pub first : ℕ
  pub last : ℕ
  pub total : ℕ
  pub reported : content_range_of response.fields ≡ Some (range.Part first last (Some total))

part_by : (asked : RangeSpec) (response : Response) (o : Option ContentRange) → content_range_of response.fields ≡ o → fits_part asked o ≡ true →
    IsPart response
part_by asked response o is h = grind (arith, nat_tests)

fits_by : (o : Option RangeSpec) (response : Response) → fits_to_found o response ≡ true → IsPart response
fits_by None response h = absurd (false_true h)
fits_by (Some asked) response h = part_by asked response (content_range_of response.fields) refl (and_right _ _ h)

pub asker_by : (o : Option Consumer) (response : Response) → fits_asker o response ≡ true → IsPart response
asker_by None response h = absurd (false_true h)
asker_by (Some k) response h = fits_by (range_of k.request) response h

module _ (step : Step) (m : Measures step.tables) where
  open step use {limits, tables as t, now, flaw, sound as s, owners as o, event as ev, accepted as goes}

  abbrev e : Entry
  e = entry_of limits t now ev flaw

  abbrev now_on : Tables
  now_on = after_accepted t e

  -- A PIECE AND AN END ARE OF AN OPEN EXCHANGE

  pub piece_taken : (x : ℕ) (bytes : List ℕ) (w : Exchange) → ev ≡ event.Piece x bytes → t.exchange x ≡ Some w → IsTaken w (length bytes)
  unfolding refusals.refusal_of
  piece_taken x bytes w here row = taken (length bytes) w (sym (ap (λ z. piece_refusal (as_open z) (length bytes)) row) ∙ (sym (ap (denial t) here) ∙ goes))

  pub record IsEnding (x : ℕ) (w : Exchange) : Type 0 where
    pub is_open : w.is_open ≡ true
    pub headed : is_some w.head ≡ true

  pub record IsEnder (x : ℕ) : Type 0 where
    pub w : Exchange
    pub row : t.exchange x ≡ Some w
    pub ending : IsEnding x w

  ender_by : (x : ℕ) (z : Option Exchange) → t.exchange x ≡ z → end_refusal (as_open z) ≡ None → IsEnder x
  ender_by x z row h = grind (arith, nat_tests)

  pub ender : (x : ℕ) → ev ≡ event.End x → IsEnder x
  unfolding refusals.refusal_of
  ender x here = ender_by x (t.exchange x) refl (sym (ap (denial t) here) ∙ goes)

  -- ONE EXCHANGE IS ABOUT A BODY

  pub about : (x q : ℕ) (w : Exchange) (v : Representation) → t.exchange x ≡ Some w → w.is_open ≡ true → is_some w.head ≡ true → family x w ≡ q →
      t.representation q ≡ Some v → IsAbout t q x
  about x q w v row on headed of_q there = sound.headed w row on headed of_q (ap is_some there)

  pub one_piece : (x q y : ℕ) (bytes : List ℕ) (w z : Exchange) (v : Representation) → t.exchange x ≡ Some w → w.is_open ≡ true → is_some w.head ≡ true →
      family x w ≡ q → t.representation q ≡ Some v → fills_by.IsPiece t e q y bytes z → (y ≡ x) × (z ≡ w)
  one_piece x q y bytes w z v row on headed of_q there is =
      let got = piece_taken y bytes z is.at is.row in
      let same : y ≡ x = s.one_about q y x (about y q z v is.row got.is_open got.headed is.of_r there) (about x q w v row on headed of_q there) in
      (same, same_row (t.exchange x) z w (sym (ap t.exchange same) ∙ is.row) row)

  -- who founded a body and ends is the one about it
  pub ends_own : (x q : ℕ) (w : Exchange) (v : Representation) → t.exchange x ≡ Some w → w.is_open ≡ true → is_some w.head ≡ true → family x w ≡ q →
      t.representation q ≡ Some v → ev ≡ event.End q → q ≡ x
  ends_own x q w v row on headed of_q there here =
      let z = ender q here in
      let alone : z.w.joined ≡ None = o.founders q z.w v z.row there in
      s.one_about q q x (about q q z.w v z.row z.ending.is_open z.ending.headed (ap (λ (n : Option ℕ). unwrap_or n q) alone) there)
      (about x q w v row on headed of_q there)

  -- WHAT A ROW KEEPS

  pub record IsHeld (x : ℕ) (w z : Exchange) : Type 0 where
    pub head_is : z.head ≡ w.head
    pub joined_is : z.joined ≡ w.joined
    pub base_is : base z ≡ base w
    pub promise_is : promised_bytes z ≡ promised_bytes w

  pub held : (x : ℕ) (w z : Exchange) → IsSame t e x w z → z.head ≡ w.head → z.joined ≡ w.joined → IsHeld x w z
  held x w z same head_is joined_is = grind (arith, nat_tests)

  pub founder_not : (x q : ℕ) (w : Exchange) (response : Response) (y : Exchange) → t.exchange x ≡ Some w → is_some w.head ≡ true → family x w ≡ q →
      t.representation q ≡ None → ev ≡ event.Head q response → t.exchange q ≡ Some y → ⊥
  founder_not x q w response y row headed of_q none here also = by_joined w.joined refl
    where
      by_joined : (j : Option ℕ) → w.joined ≡ j → ⊥
      by_joined None is =
          let same : x ≡ q = sym (ap (λ (n : Option ℕ). unwrap_or n x) is) ∙ of_q in
          let one : w ≡ y = same_row (t.exchange q) w y (sym (ap t.exchange same) ∙ row) also in
          let bare = (is_new limits t now flaw s ev goes q response y here also).bare in
          false_true (sym (ap (λ (z : Option Response). is_some z) bare) ∙ (ap (λ (z : Exchange). is_some z.head) (sym one) ∙ headed))
      by_joined (Some j) is =
          let same : j ≡ q = sym (ap (λ (n : Option ℕ). unwrap_or n x) is) ∙ of_q in
          let there : is_some (t.representation q) ≡ true = ap (λ n. is_some (t.representation n)) (sym same) ∙ s.numbered.names.joined x j w row is in
          false_true (sym (ap is_some none) ∙ there)

  -- A HEAD THAT WAS THERE

  module _ (x q : ℕ) (w z : Exchange) (v u : Representation) (row : t.exchange x ≡ Some w) (same : IsSame t e x w z) (keeps : IsHeld x w z)
      (on : z.is_open ≡ true) (headed : is_some w.head ≡ true) (of_q : family x w ≡ q) (after_row : now_on.exchange x ≡ Some z) (kept : IsKept t e q v u) where
    unended : IsEnded t e q v u.head.total → ⊥
    unended is = same.unended on (is.at ∙ ap event.End (ends_own x q w v row (same.was_open on) headed of_q kept.row is.at))

    pub total_same : u.head.total ≡ v.head.total
    total_same = by_total kept.total_is
      where
        by_total : (u.head.total ≡ v.head.total) ⊎ IsEnded t e q v u.head.total → u.head.total ≡ v.head.total
        by_total (inl is) = is
        by_total (inr ends) = absurd (unended ends)

    -- the front moves with the reach
    reaches : base w ≡ 0 → length w.body ≡ v.reach → Brings t e x w z → Fills t e q v u → length z.body ≡ u.reach
    reaches first was (fills_by.still none body_is) (fills_by.still none_of same_body stored reach_is) = ap (λ (b : List ℕ). length b) body_is ∙
        (was ∙ sym reach_is)
    reaches first was (fills_by.still none body_is) (fills_by.more y bytes p is body stored reach_is) =
        let it = one_piece x q y bytes w p v row (same.was_open on) headed of_q kept.row is in
        absurd (none bytes (is.at ∙ ap (λ n. event.Piece n bytes) it.0))
    reaches first was (fills_by.more bytes here body_is) (fills_by.still none_of same_body stored reach_is) =
        absurd (none_of x bytes w (record { at = here; row = row; of_r = of_q }))
    reaches first was (fills_by.more bytes here body_is) (fills_by.more y more p is body stored reach_is) =
        let it = one_piece x q y more w p v row (same.was_open on) headed of_q kept.row is in
        let bytes_same : bytes ≡ more = piece_bytes x y bytes more (sym here ∙ is.at) in
        let longer : length z.body ≡ length w.body + length bytes = ap (λ (b : List ℕ). length b) body_is ∙ length-append w.body bytes in
        let front_is : front p ≡ base w + length w.body = ap (λ (a : Exchange). front a) it.1 in
        let count : length more ≡ length bytes = ap (λ (b : List ℕ). length b) (sym bytes_same) in
        let reach_now : u.reach ≡ max v.reach (front p + length more) = reach_is in
        let start : base w ≡ 0 = first in
        let before : length w.body ≡ v.reach = was in
        omega arith
      where
        piece_bytes : (a b : ℕ) (c d : List ℕ) → event.Piece a c ≡ event.Piece b d → c ≡ d
        piece_bytes a b c d is = cc

    pub still_measured : IsMeasured z u
    still_measured = by_before (m.brings x w v row (same.was_open on) headed (ap t.representation of_q ∙ kept.row))
      where
        by_before : IsMeasured w v → IsMeasured z u
        by_before (measures.reported n total promise known ends) =
            let first : base z ≡ base w = keeps.base_is in
            measures.reported n total (keeps.promise_is ∙ promise) (total_same ∙ known) (omega arith)
        by_before (measures.unreported none unknown first alone was) =
            measures.unreported (keeps.promise_is ∙ none) (total_same ∙ unknown) (keeps.base_is ∙ first) (keeps.joined_is ∙ alone)
            (reaches first was (brings t e x w z row after_row) (fills t e q v u kept))

  -- A HEAD THAT COMES

  module _ (x : ℕ) (w z : Exchange) (row : t.exchange x ≡ Some w) (same : IsSame t e x w z) (got : IsHeaded t e x w z) where
    abbrev reported_length : Length
    reported_length = length_of w.need w.request got.response

    bare : w.head ≡ None
    bare = (is_new limits t now flaw s ev goes x got.response w got.at row).bare

    length_is : length_by z z.head ≡ reported_length
    length_is = ap (length_by z) got.head_is ∙
        (ap (λ n. length_of n z.request got.response) same.need_is ∙ ap (λ q. length_of w.need q got.response) same.request_is)

    measured_within : (total : ℕ) (u : Representation) → IsWithin total reported_length → u.head.total ≡ Some total → IsMeasured z u
    measured_within total u is known =
        let first : base z ≡ base_of reported_length = ap base_of length_is in
        let ends : base_of reported_length + is.n ≤ total = is.ends in
        measures.reported is.n total (ap promise_of length_is ∙ is.promise) known (omega arith)

    -- JOINED

    join : (q : ℕ) (v u : Representation) → is_joining (case_at t e) ≡ true → w.aim ≡ Some q → IsKept t e q v u → IsMeasured z u
    join q v u joins aim kept =
        let first : is_joining (Some (head_case (head_view t (has_loss e.acts) w got.response))) ≡ true =
        sym (ap is_joining (case_is t e x got.response w got.at row)) ∙ joins in
        let j = is_join t (has_loss e.acts) w got.response first in
        let one : j.fills.v ≡ v = same_row (t.representation q) j.fills.v v (sym (ap (λ n. option_row n) aim) ∙ j.fills.row) kept.row in
        let known : v.head.total ≡ Some j.fills.total = ap (λ (a : Representation). a.head.total) (sym one) ∙ j.fills.known in
        let past : route_of w.need ≡ route.Direct → ⊥ = (λ way. let no : route.Hole ≡ route.Direct = sym (ap route_of j.fills.need_is) ∙ way in cc) in
        let is = part_within w.need w.request got.response j.fills.from j.fills.last j.fills.total past j.fills.status j.fills.part j.good in
        measured_within j.fills.total u is (total_kept kept.total_is ∙ known)
      where
        option_row : Option ℕ → Option Representation
        option_row n = Rattle.hc_model.specs.Currents.row_of t n

        total_kept : (u.head.total ≡ v.head.total) ⊎ IsEnded t e q v u.head.total → u.head.total ≡ v.head.total
        total_kept it0 = grind (arith, nat_tests)

    -- FOUNDED

    abbrev founded_now : Representation
    founded_now = new_representation x e got.response w

    body_none : z.body ≡ []
    body_none = got.body_is ∙ (s.waits.headless x w row bare).0

    whole : is_joining (case_at t e) ≡ false → brings_whole got.response.status ≡ true → IsMeasured z founded_now
    whole unjoined status =
        let off : brings_part got.response.status ≡ false = whole_is_no_part got.response.status status in
        let first : base z ≡ 0 = ap base_of length_is ∙ whole_base w.need w.request got.response off in
        let known : founded_total w got.response ≡ promise_of reported_length = rw off refl in
        by_promise (promise_of reported_length) refl first known
      where
        by_promise : (p : Option ℕ) → promise_of reported_length ≡ p → base z ≡ 0 → founded_total w got.response ≡ promise_of reported_length →
            IsMeasured z founded_now
        by_promise None is first known =
            measures.unreported (ap promise_of length_is ∙ is) (known ∙ is) first (got.joined_is ∙ (rw unjoined (s.waits.headless x w row bare).1))
            (ap (λ (b : List ℕ). length b) body_none)
        by_promise (Some n) is first known = measures.reported n n (ap promise_of length_is ∙ is) (known ∙ is) (omega arith)

    part : (route_of w.need ≡ route.Direct → ⊥) → brings_part got.response.status ≡ true → fits_asker (t.consumer w.c) got.response ≡ true →
        is_bad reported_length ≡ false → IsMeasured z founded_now
    part past status fits good =
        let p = asker_by (t.consumer w.c) got.response fits in
        let on : brings_part got.response.status ≡ true = status in
        let known : founded_total w got.response ≡ Some p.total = rw (on, p.reported) refl in
        measured_within p.total founded_now (part_within w.need w.request got.response p.first p.last p.total past status p.reported good) known

    by_case : (g : HeadCase) → FoundingBy (head_view t (has_loss e.acts) w got.response) g → case_at t e ≡ Some g → IsMeasured z founded_now
    by_case _ (cases.whole way h l) is = whole (ap is_joining is) h
    by_case _ (cases.part way h f l g) is = part (λ direct. let no : route.Turn ≡ route.Direct = sym way ∙ direct in cc) h f g
    by_case _ (cases.replaced way h l) is = whole (ap is_joining is) h

    pub founded_measured : is_founding (case_at t e) ≡ true → IsMeasured z founded_now
    founded_measured on =
        let g = head_case (head_view t (has_loss e.acts) w got.response) in
        let is : case_at t e ≡ Some g = case_is t e x got.response w got.at row in
        by_case g (founding_by (head_view t (has_loss e.acts) w got.response) (sym (ap is_founding is) ∙ on)) is

    -- what its body is of after it
    new_measured : (u : Representation) → now_on.representation (family x z) ≡ Some u → IsMeasured z u
    new_measured u there = elim (bool_cases (is_joining (case_at t e))) [
      | inl on ↦ by_aim on w.aim refl
      | inr off ↦ by_own off
    ]
      where
        unfounded : t.representation x ≡ None
        unfounded = (is_new limits t now flaw s ev goes x got.response w got.at row).unfounded

        own : (y : ℕ) → y ≡ x → now_on.representation y ≡ Some u → RepFrom t e y u → IsMeasured z u
        own y same_is after (rep.was v kept) = absurd (none_some v (sym unfounded ∙ (sym (ap t.representation same_is) ∙ kept.row)))
        own y same_is after (rep.founded response p none here also on made) =
            let at_x : event.Head y response ≡ event.Head x got.response = sym here ∙ got.at in
            let answer : response ≡ got.response = cc in
            let one : p ≡ w = same_row (t.exchange x) p w (sym (ap t.exchange same_is) ∙ also) row in
            subst (IsMeasured z) (ap (λ (a : Exchange). new_representation x e got.response a) (sym one) ∙
            (ap (λ (a : Response). new_representation x e a p) (sym answer) ∙ (ap (λ (n : ℕ). new_representation n e response p) (sym same_is) ∙ made)))
            (founded_measured on)

        by_own : is_joining (case_at t e) ≡ false → IsMeasured z u
        by_own off =
            let alone : z.joined ≡ None = got.joined_is ∙ (rw off (s.waits.headless x w row bare).1) in
            let fam : family x z ≡ x = ap (λ (n : Option ℕ). unwrap_or n x) alone in
            own (family x z) fam there (rep_from t e (family x z) (t.representation (family x z)) u refl there)

        joined_by : (q : ℕ) → is_joining (case_at t e) ≡ true → w.aim ≡ Some q → RepFrom t e q u → IsMeasured z u
        joined_by q on aim (rep.was v kept) = join q v u on aim kept
        joined_by q on aim (rep.founded response p none here also founding made) =
            absurd (false_true (sym (ap is_some none) ∙ s.numbered.names.aims x q w row aim))

        by_aim : is_joining (case_at t e) ≡ true → (a : Option ℕ) → w.aim ≡ a → IsMeasured z u
        by_aim on None aim =
            let first : is_joining (Some (head_case (head_view t (has_loss e.acts) w got.response))) ≡ true =
            sym (ap is_joining (case_is t e x got.response w got.at row)) ∙ on in
            let j = is_join t (has_loss e.acts) w got.response first in
            absurd (none_some j.fills.v (sym (ap (Rattle.hc_model.specs.Currents.row_of t) aim) ∙ j.fills.row))
        by_aim on (Some q) aim =
            let joined_now : (if is_joining (case_at t e) then w.aim else w.joined) ≡ Some q = rw on aim in
            let fam : family x z ≡ q = ap (λ (n : Option ℕ). unwrap_or n x) (got.joined_is ∙ joined_now) in
            joined_by q on aim (rep_from t e q (t.representation q) u refl (sym (ap now_on.representation fam) ∙ there))

  -- ALL OF IT

  brings_by : (x : ℕ) (z : Exchange) (u : Representation) → now_on.exchange x ≡ Some z → z.is_open ≡ true → is_some z.head ≡ true →
      now_on.representation (family x z) ≡ Some u → ExchangeFrom t e x z → IsMeasured z u
  brings_by x z u after on headed there (exchange.new p none opens here made) = absurd (false_true (ap (λ (a : Exchange). is_some a.head) made ∙ headed))
  brings_by x z u after on headed there (exchange.was w row same) = by_heard same.heard_or
    where
      was_there : (z.head ≡ w.head) → (z.joined ≡ w.joined) → (q : ℕ) → family x w ≡ q → RepFrom t e q u → IsMeasured z u
      was_there head_is joined_is q of_q (rep.was v kept) =
          still_measured x q w z v u row same (held x w z same head_is joined_is) on (sym (ap (λ (a : Option Response). is_some a) head_is) ∙ headed) of_q
          after kept
      was_there head_is joined_is q of_q (rep.founded response p none here also founding made) =
          absurd (founder_not x q w response p row (sym (ap (λ (a : Option Response). is_some a) head_is) ∙ headed) of_q none here also)

      by_heard : ((z.head ≡ w.head) × (z.joined ≡ w.joined)) ⊎ IsHeaded t e x w z → IsMeasured z u
      by_heard (inl all) =
          let fam : family x z ≡ family x w = ap (λ (n : Option ℕ). unwrap_or n x) all.1 in
          was_there all.0 all.1 (family x w) refl
          (rep_from t e (family x w) (t.representation (family x w)) u refl (sym (ap now_on.representation fam) ∙ there))
      by_heard (inr got) = new_measured x w z row same got u there

  written_some : (at x p : ℕ) (bytes : List ℕ) (f : Rattle.hc_sparse.specs.Cells.Cells) → ((p < at) ⊎ (at + length bytes ≤ p) → is_some (f p) ≡ true) →
      is_some (cells_with at x bytes f p) ≡ true
  written_some at x p bytes f old = grind (arith, nat_tests)

  tight_by : (r n : ℕ) (u : Representation) → u.reach ≡ n + 1 → RepFrom t e r u → is_some (u.body n) ≡ true
  tight_by r n u ends (rep.founded response w none here also on made) =
      absurd (let zero_is : 0 ≡ u.reach = ap (λ (a : Representation). a.reach) made in let at_n : u.reach ≡ n + 1 = ends in omega arith)
  tight_by r n u ends (rep.was v kept) = by_fills (fills t e r v u kept)
    where
      by_fills : Fills t e r v u → is_some (u.body n) ≡ true
      by_fills (fills_by.still none body_is stored reach_is) = ap (λ (f : Rattle.hc_sparse.specs.Cells.Cells). is_some (f n)) body_is ∙
          m.tight r n v kept.row (sym reach_is ∙ ends)
      by_fills (fills_by.more x bytes w is body_is stored reach_is) =
          let got = piece_taken x bytes w is.at is.row in
          let some_bytes : 0 < length bytes = got.some in
          let reach_now : u.reach ≡ max v.reach (front w + length bytes) = reach_is in
          let at_n : u.reach ≡ n + 1 = ends in
          ap (λ (f : Rattle.hc_sparse.specs.Cells.Cells). is_some (f n)) body_is ∙
          written_some (front w) x n bytes v.body (λ off. m.tight r n v kept.row (old off some_bytes reach_now at_n))
        where
          old : {a b : ℕ} → (n < a) ⊎ (a + b ≤ n) → 0 < b → u.reach ≡ max v.reach (a + b) → u.reach ≡ n + 1 → v.reach ≡ n + 1
          old (inl before) some_bytes reach_now at_n = omega arith
          old (inr past) some_bytes reach_now at_n = omega arith

  within_by : (r total : ℕ) (u : Representation) → u.head.total ≡ Some total → RepFrom t e r u → u.reach ≤ total
  within_by r total u known (rep.founded response w none here also on made) = let zero_is : 0 ≡ u.reach = ap (λ (a : Representation). a.reach) made in
      omega arith
  within_by r total u known (rep.was v kept) = by_total kept.total_is
    where
      piece_within : (x : ℕ) (bytes : List ℕ) (w : Exchange) → v.head.total ≡ Some total → IsTaken w (length bytes) → IsMeasured w v →
          front w + length bytes ≤ total
      piece_within x bytes w before got it5 = grind (arith, nat_tests)

      by_fills : v.head.total ≡ Some total → Fills t e r v u → u.reach ≤ total
      by_fills before (fills_by.still none body_is stored reach_is) = let was : v.reach ≤ total = m.within r total v kept.row before in
          let same : u.reach ≡ v.reach = reach_is in omega arith
      by_fills before (fills_by.more x bytes w is body_is stored reach_is) =
          let got = piece_taken x bytes w is.at is.row in
          let was : v.reach ≤ total = m.within r total v kept.row before in
          let piece : front w + length bytes ≤ total = piece_within
          x bytes w before got (m.brings x w v is.row got.is_open got.headed (ap t.representation is.of_r ∙ kept.row)) in
          let reach_now : u.reach ≡ max v.reach (front w + length bytes) = reach_is in
          omega arith

      -- an end tells the length
      ended_by : (is : IsEnded t e r v u.head.total) → (z : IsEnder r) → v.head.total ≡ None → IsMeasured z.w v → Fills t e r v u → u.reach ≤ total
      ended_by is z before it3 filled = grind (arith, nat_tests)

      by_ended : IsEnded t e r v u.head.total → (q : Option ℕ) → v.head.total ≡ q → u.reach ≤ total
      by_ended is (Some before) reported_is =
          by_fills (reported_is ∙ (sym (ap (λ q. option_or q (Some (length_in (t.exchange r)))) reported_is) ∙ (sym is.total_is ∙ known)))
          (fills t e r v u kept)
      by_ended is None reported_is =
          let z = ender r is.at in
          let alone : z.w.joined ≡ None = o.founders r z.w v z.row kept.row in
          let fam : family r z.w ≡ r = ap (λ (n : Option ℕ). unwrap_or n r) alone in
          ended_by is z reported_is (m.brings r z.w v z.row z.ending.is_open z.ending.headed (ap t.representation fam ∙ kept.row)) (fills t e r v u kept)

      by_total : (u.head.total ≡ v.head.total) ⊎ IsEnded t e r v u.head.total → u.reach ≤ total
      by_total (inl same) = by_fills (sym same ∙ known) (fills t e r v u kept)
      by_total (inr is) = by_ended is v.head.total refl

  pub brings_kept : (x : ℕ) (z : Exchange) (u : Representation) → now_on.exchange x ≡ Some z → z.is_open ≡ true → is_some z.head ≡ true →
      now_on.representation (family x z) ≡ Some u → IsMeasured z u
  brings_kept x z u after on headed there = brings_by x z u after on headed there (exchange_from t e x (t.exchange x) z refl after)

  pub tight_kept : (r n : ℕ) (u : Representation) → now_on.representation r ≡ Some u → u.reach ≡ n + 1 → is_some (u.body n) ≡ true
  tight_kept r n u row ends = tight_by r n u ends (rep_from t e r (t.representation r) u refl row)

  pub within_kept : (r total : ℕ) (u : Representation) → now_on.representation r ≡ Some u → u.head.total ≡ Some total → u.reach ≤ total
  within_kept r total u row known = within_by r total u known (rep_from t e r (t.representation r) u refl row)
