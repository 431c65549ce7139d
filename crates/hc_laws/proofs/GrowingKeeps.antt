-- While a writing is on, just what its exchange has brought is stored, and it promises all that is missing.
--
-- A writing was on before the entry, is resumed by a head that joins, or is founded (`growing_by`). One that was on
-- grows with what its exchange brings (`grown`). What is founded begins with nothing (`now_founded`). The most work is
-- a resumed one (`resumes_reported`): all before the part is stored, so it begins at the reach (`reach_is`), and it is the
-- last one, so it ends by the total. `growing_kept` joins the three.
use Rattle.std.{proofs.{Common.{◌≡◌, ◌⊎◌, inl, inr, ℕ, zero, suc, ◌+◌, ◌-◌, ◌<◌, ◌≤◌, List, length, Bool, true, false, Option, Some, None, refl, ap, sym, ◌∙◌, subst, arith, min, length-append}, lemmas.Bool.Decides.{nat_tests}}, specs.Prelude.{if◌then◌else◌, is_some, is_none, ◌&&◌, ◌||◌, not, nat_eq, nat_le, unwrap_or}}
use Rattle.hc_text.proofs.Basics.{both_false, and_left, and_right, bool_cases, not_some as none_some, same_some as same_row, some_inj}
use Rattle.hc_sparse.specs.Cells.{cells_with, Cells, Covers}
use Rattle.hc_sparse.proofs.CellLemmas.{inside-cases}
use Rattle.hc_effects.proofs.Vocabulary.{brings_part, range, event, route, Response, Need, Length, length_of, base_of, promise_of, route_of, has_loss, loses_in, case_at, is_joining, row_of, Entry, exchange_heard, exchange_acted, promise_in, base, promised_bytes, front, length_by, is_open, is_reached, covers, absent_from, entry_of, Measures, is_written, new_representation, resumes, hole_start, is_last_part, writer_at, Tables, Exchange, Representation, may_stand, IsGrowing, InHole, end_from, after_accepted}
use Rattle.hc_rules.specs.declared.length.Length.TheVariants as reported
use Rattle.hc_effects.proofs.{ApartKeeps.{IsOn, is_on, was_written}, Basics.{false_true, number_is}, ExchangeFrom.{IsSame, IsHeaded}, Fills.{Fills, fills, Brings, brings}, FirstKeeps.{case_is, is_new}, Forward.{after_is}, HeadKeeps.{IsJoin, is_join}, HoleLemmas.{covers_all, first_to}, MeasuresKeep.{held, IsHeld, total_same, one_piece}, PartReported.{part_reported, whole_base, IsReceived, part_order}, RepFrom.{was, founded, IsEnded, RepFrom, rep_from, IsKept, IsResumed}, Step.{Step}}
use Rattle.hc_effects.proofs.Fills as fills_by
use Rattle.hc_effects.proofs.Forward as forward
use Rattle.hc_laws.proofs.Founders.{founders_kept}
use Rattle.hc_effects.proofs.PartReported as reports

-- what covers from the first position on isn't past the reach
covers_reach : (f : Cells) (reach hi : ℕ) → covers f reach 0 hi ≡ true → hi ≤ reach
covers_reach f reach hi h =
    let below : hi ≤ absent_from f reach 0 hi = grind (arith, nat_tests) in
    let most : absent_from f reach 0 hi ≤ 0 + (min hi reach - 0) = first_to is_none f 0 (min hi reach - 0) in
    omega arith

-- a last part ends by the total
last_is : (o : Option ℕ) (first last total n : ℕ) → o ≡ Some n → is_last_part o (Some (range.Part first last (Some total))) ≡ true → last + 1 ≡ n
last_is None first last total n is h = absurd (none_some n is)
last_is (Some k) first last total n is h = grind (arith, nat_tests)

covers_more : (at x : ℕ) (bytes : List ℕ) (f : Cells) → Covers f 0 at → Covers (cells_with at x bytes f) 0 (at + length bytes)
covers_more at x bytes f all p lo lt = elim (inside-cases at (length bytes) p) [
  | inl here ↦ rw here.0 refl
  | inr off ↦ rw off.0 (all p lo (before off.1 lt))
]
  where
    before : (p < at) ⊎ (at + length bytes ≤ p) → p < at + length bytes → p < at
    before (inl less) lt = less
    before (inr past) lt = omega arith

writer_if : (b : Bool) (r x : ℕ) → (if b then None else Some r) ≡ Some x → b ≡ false
writer_if true r x h = absurd (none_some x h)
writer_if false r x h = refl

module _ (step : Step) (m : Measures step.tables) where
  open step use {limits, tables as t, now, flaw, sound as s, event as ev, accepted as goes}

  abbrev e : Entry
  e = entry_of limits t now ev flaw

  abbrev now_on : Tables
  now_on = after_accepted t e

  -- A WRITING THAT WAS ON

  module _ (r x : ℕ) (w z : Exchange) (v u : Representation) (g : IsGrowing t r v x w) (same : IsSame t e x w z) (keeps : IsHeld step m x w z)
      (on : z.is_open ≡ true) (after_row : now_on.exchange x ≡ Some z) (kept : IsKept t e r v u) (stored_on : (v.is_lost || loses_in r e.acts) ≡ false) where
    -- what is stored grows with what its exchange brings
    record IsGrown : Type 0 where
      front_is : front z ≡ u.reach
      whole : Covers u.stored 0 u.reach

    grown : Brings t e x w z → Fills t e r v u → IsGrown
    grown (fills_by.still none body_is) (fills_by.still none_of same_body stored_is reach_is) =
        let count : length z.body ≡ length w.body = ap (λ (b : List ℕ). length b) body_is in
        record {
          front_is = omega arith;
          whole = λ p lo lt. ap (λ (f : Cells). is_some (f p)) stored_is ∙ g.whole p lo (let most : p < u.reach = lt in omega arith);
        }
    grown (fills_by.still none body_is) (fills_by.more y bytes q is body stored_is reach_is) =
        let it = one_piece step m x r y bytes w q v g.row (same.was_open on) g.headed g.family_is kept.row is in
        absurd (none bytes (is.at ∙ ap (λ n. event.Piece n bytes) it.0))
    grown (fills_by.more bytes here body_is) (fills_by.still none_of same_body stored_is reach_is) =
        absurd (none_of x bytes w (record { at = here; row = g.row; of_r = g.family_is }))
    grown (fills_by.more bytes here body_is) (fills_by.more y more q is body stored_is reach_is) =
        let it = one_piece step m x r y more w q v g.row (same.was_open on) g.headed g.family_is kept.row is in
        let longer : length z.body ≡ length w.body + length bytes = ap (λ (b : List ℕ). length b) body_is ∙ length-append w.body bytes in
        let front_is : front q ≡ front w = ap (λ (a : Exchange). front a) it.1 in
        let count : length more ≡ length bytes = ap (λ (b : List ℕ). length b) (sym cc) in
        let stored_now : u.stored ≡ cells_with (front q) y more v.stored = stored_is ∙
        ap (λ b. if not b then cells_with (front q) y more v.stored else v.stored) stored_on in
        let all : Covers v.stored 0 (front q) = (λ p lo lt. g.whole p lo (let lt_it : p < front q = lt in omega arith)) in
        record {
          front_is = omega arith;
          whole = λ p lo lt. ap (λ (f : Cells). is_some (f p)) stored_now ∙
              covers_more (front q) y more v.stored all p lo (let lt_it : p < u.reach = lt in omega arith);
        }

    still_growing : IsGrowing now_on r u x z
    still_growing =
        let more = grown (brings t e x w z g.row after_row) (fills t e r v u kept) in
        let total = total_same step m x r w z v u g.row same keeps on g.headed g.family_is after_row kept in
        record {
          row = after_row;
          family_is = ap (λ (n : Option ℕ). unwrap_or n x) keeps.joined_is ∙ g.family_is;
          headed = ap (λ (a : Option Response). is_some a) keeps.head_is ∙ g.headed;
          front_is = more.front_is;
          whole = more.whole;
          promise = total ∙ (g.promise ∙ (ap (λ n. end_from n (promised_bytes w)) (sym keeps.base_is) ∙ ap (end_from (base z)) (sym keeps.promise_is)));
        }

  -- A HEAD THAT BEGINS ONE

  module _ (x : ℕ) (w z : Exchange) (row : t.exchange x ≡ Some w) (same : IsSame t e x w z) (on : z.is_open ≡ true)
      (after_row : now_on.exchange x ≡ Some z) (got : IsHeaded t e x w z) where
    abbrev reported_length : Length
    reported_length = length_of w.need w.request got.response

    bare : w.head ≡ None
    bare = (is_new limits t now flaw s ev goes x got.response w got.at row).bare

    length_is : length_by z z.head ≡ reported_length
    length_is = ap (length_by z) got.head_is ∙
        (ap (λ n. length_of n z.request got.response) same.need_is ∙ ap (λ q. length_of w.need q got.response) same.request_is)

    self_test : nat_eq x x ≡ true
    self_test = grind (arith, nat_tests)

    body_none : length z.body ≡ 0
    body_none = ap (λ (b : List ℕ). length b) (got.body_is ∙ (s.waits.headless x w row bare).0)

    -- it has a body
    unreached : promise_of reported_length ≡ Some 0 → ⊥
    unreached none =
        let is : exchange_acted x e.acts (exchange_heard t e x ev w) ≡ z = some_inj _ z (sym (after_is t e x w (t.exchange x) row) ∙ after_row) in
        let heard_open : (exchange_heard t e x ev w).is_open ≡ true = and_right _ _ (ap (λ (q : Exchange). q.is_open) is ∙ on) in
        let head_open : (exchange_heard t e x ev w).is_open ≡ (not (is_reached (promise_in w got.response) 0) && w.is_open) =
        ap (λ a. (exchange_heard t e x a w).is_open) got.at ∙ rw self_test refl in
        let off : (not (is_reached (promise_in w got.response) 0) && w.is_open) ≡ false = rw none refl in
        false_true (sym off ∙ (sym head_open ∙ heard_open))

    -- RESUMED

    module _ (r : ℕ) (v u : Representation) (kept : IsKept t e r v u) (joins : is_joining (case_at t e) ≡ true) (aim : w.aim ≡ Some r)
        (resumed : resumes t got.response w v ≡ true) where
      j : IsJoin t w got.response
      j = is_join t (has_loss e.acts) w got.response (sym (ap is_joining (case_is t e x got.response w got.at row)) ∙ joins)

      known : v.head.total ≡ Some j.fills.total
      known = ap (λ (a : Representation). a.head.total) (sym (same_row (t.representation r) j.fills.v v (sym (ap (row_of t) aim) ∙ j.fills.row) kept.row))
          ∙ j.fills.known

      last : j.fills.last + 1 ≡ j.fills.total
      last = last_is v.head.total j.fills.from j.fills.last j.fills.total j.fills.total known
          (ap (is_last_part v.head.total) (sym j.fills.part) ∙ and_right _ _ (and_left _ _ (and_left _ _ resumed)))

      covered : covers v.stored v.reach 0 j.fills.from ≡ true
      covered = ap (covers v.stored v.reach 0) (sym (ap hole_start j.fills.need_is)) ∙ and_right _ _ (and_left _ _ resumed)

      in_hole : (p : ℕ) → j.fills.from ≤ p → p < j.fills.to → InHole w.need p
      in_hole p lo hi = subst (λ (n : Need). InHole n p) (sym j.fills.need_is) (lo, hi)

      past_not : (n : ℕ) → v.reach ≡ n + 1 → j.fills.from ≤ n → ⊥
      past_not n ends le =
          let most : v.reach ≤ j.fills.total = m.within r j.fills.total v kept.row known in
          let all : j.fills.last + 1 ≡ j.fills.total = last in
          let within : j.fills.last < j.fills.to = j.fills.within in
          false_true (sym (ap is_some (s.waits.holes x w r v n row (same.was_open on) bare aim kept.row (in_hole n le (omega arith)))) ∙
          m.tight r n v kept.row ends)

      reach_by : (n : ℕ) → v.reach ≡ n → v.reach ≤ j.fills.from
      reach_by zero is = omega arith
      reach_by (suc n) is = elim (bool_cases (nat_le j.fills.from n)) [
        | inl le ↦ absurd (past_not n (omega arith) (grind (arith, nat_tests)))
        | inr less ↦ let lt : n < j.fills.from = grind (arith, nat_tests) in omega arith
      ]

      reach_is : v.reach ≡ j.fills.from
      reach_is =
          let a : v.reach ≤ j.fills.from = reach_by v.reach refl in
          let c : j.fills.from ≤ v.reach = covers_reach v.stored v.reach j.fills.from covered in
          omega arith

      unpieced : Fills t e r v u → (u.stored ≡ v.stored) × (u.reach ≡ v.reach)
      unpieced (fills_by.still none body_is stored_is same_reach) = (stored_is, same_reach)
      unpieced (fills_by.more y bytes q is body_is stored_is more_reach) =
          absurd (let no : event.Head x got.response ≡ event.Piece y bytes = sym got.at ∙ is.at in cc)

      total_kept : (u.head.total ≡ v.head.total) ⊎ IsEnded t e r v u.head.total → u.head.total ≡ v.head.total
      total_kept (inl is) = is
      total_kept (inr ends) = absurd (let no : event.Head x got.response ≡ event.End r = sym got.at ∙ ends.at in cc)

      resumes_reported : IsReceived j.fills.from j.fills.last reported_length → IsGrowing now_on r u x z
      resumes_reported (reports.none is) = absurd (unreached (ap promise_of is))
      resumes_reported (reports.part is) =
          let l : length_by z z.head ≡ reported.Part j.fills.from (j.fills.last + 1 - j.fills.from) = length_is ∙ is in
          let base_is : base z ≡ j.fills.from = ap base_of l in
          let promise_is : promised_bytes z ≡ Some (j.fills.last + 1 - j.fills.from) = ap promise_of l in
          let order = part_order got.response.fields j.fills.from j.fills.last j.fills.total j.fills.part in
          let is_sorted : j.fills.from ≤ j.fills.last = order.is_sorted in
          let all : j.fills.last + 1 ≡ j.fills.total = last in
          let still = unpieced (fills t e r v u kept) in
          let reach_now : u.reach ≡ v.reach = still.1 in
          let reach_v : v.reach ≡ j.fills.from = reach_is in
          let none : length z.body ≡ 0 = body_none in
          let joined_now : (if is_joining (case_at t e) then w.aim else w.joined) ≡ Some r = rw joins aim in
          let sum : j.fills.total ≡ j.fills.from + (j.fills.last + 1 - j.fills.from) = omega arith in
          record {
            row = after_row;
            family_is = ap (λ (n : Option ℕ). unwrap_or n x) (got.joined_is ∙ joined_now);
            headed = ap (λ (a : Option Response). is_some a) got.head_is;
            front_is = omega arith;
            whole = λ p lo lt. ap (λ (f : Cells). is_some (f p)) still.0 ∙
                covers_all v.stored v.reach 0 j.fills.from covered p lo (let lt_it : p < u.reach = lt in omega arith);
            promise = total_kept kept.total_is ∙
                (known ∙ (ap Some sum ∙ (ap (λ n. end_from n (Some (j.fills.last + 1 - j.fills.from))) (sym base_is) ∙ ap (end_from (base z)) (sym promise_is))));
          }

      now_resumed : IsGrowing now_on r u x z
      now_resumed =
          let past : route_of w.need ≡ route.Direct → ⊥ = (λ way. let no : route.Hole ≡ route.Direct = sym (ap route_of j.fills.need_is) ∙ way in cc) in
          resumes_reported (part_reported w.need w.request got.response j.fills.from j.fills.last j.fills.total past j.fills.status j.fills.part j.good)

    -- FOUNDED

    zero_end : (p : Option ℕ) (n : ℕ) → n ≡ 0 → p ≡ end_from n p
    zero_end None n is = refl
    zero_end (Some k) n is = ap Some (omega arith)

    now_founded : (u : Representation) → new_representation x e got.response w ≡ u → now_on.representation x ≡ Some u →
        brings_part got.response.status ≡ false → IsGrowing now_on x u x z
    now_founded u made there off =
        let first : base z ≡ 0 = ap base_of length_is ∙ whole_base w.need w.request got.response off in
        let none : length z.body ≡ 0 = body_none in
        let reach_now : 0 ≡ u.reach = ap (λ (a : Representation). a.reach) made in
        record {
          row = after_row;
          family_is = ap (λ (n : Option ℕ). unwrap_or n x) (founders_kept step x z u after_row there);
          headed = ap (λ (a : Option Response). is_some a) got.head_is;
          front_is = omega arith;
          whole = λ p lo lt. absurd (let lt_it : p < u.reach = lt in omega arith);
          promise = sym (ap (λ (a : Representation). a.head.total) made) ∙
              (rw off refl ∙ (sym (ap promise_of length_is) ∙ zero_end (promised_bytes z) (base z) first));
        }

  -- ALL OF IT

  headed_of : (x : ℕ) (w z : Exchange) (response : Response) → ev ≡ event.Head x response → IsSame t e x w z → t.exchange x ≡ Some w → IsHeaded t e x w z
  headed_of x w z response here same row = by_heard same.heard_or
    where
      by_heard : ((z.head ≡ w.head) × (z.joined ≡ w.joined)) ⊎ IsHeaded t e x w z → IsHeaded t e x w z
      by_heard (inl still) = absurd (same.unheard (still.0 ∙ (is_new limits t now flaw s ev goes x response w here row).bare) response here)
      by_heard (inr got) = got

  open_of : (x : ℕ) (z : Exchange) → now_on.exchange x ≡ Some z → is_open (now_on.exchange x) ≡ true → z.is_open ≡ true
  open_of x z row on = sym (ap is_open row) ∙ on

  was_growing : (stand : may_stand limits t e ≡ true) (r x : ℕ) (v u : Representation) → IsKept t e r v u → IsOn now_on u x → u.writer ≡ Some x →
      u.writer ≡ v.writer → (z : Exchange) × IsGrowing now_on r u x z
  was_growing stand r x v u kept on writer same_writer =
      let all = was_written step stand r x v u kept on same_writer writer in
      let grows = (s.rows r v kept.row).growing x all.0 all.1 in
      let g = grows.1 in
      let goes_on = forward.is_on t e x grows.0 g.row in
      let opened = open_of x goes_on.u goes_on.row on.open_now in (
        goes_on.u,
        by_heard grows.0 goes_on.u g goes_on.row goes_on.same opened
            (both_false v.is_lost (loses_in r e.acts) (is_on t v x all.0 all.1).kept all.2) goes_on.same.heard_or,
      )
    where
      by_heard : (w z : Exchange) → IsGrowing t r v x w → now_on.exchange x ≡ Some z → IsSame t e x w z → z.is_open ≡ true →
          (v.is_lost || loses_in r e.acts) ≡ false → ((z.head ≡ w.head) × (z.joined ≡ w.joined)) ⊎ IsHeaded t e x w z → IsGrowing now_on r u x z
      by_heard w z g after same opened stored_on (inl still) =
          still_growing r x w z v u g same (held step m x w z same still.0 still.1) opened after kept stored_on
      by_heard w z g after same opened stored_on (inr got) =
          absurd (false_true (sym (ap (λ (a : Option Response). is_some a) ((is_new limits t now flaw s ev goes x got.response w got.at g.row).bare)) ∙
          g.headed))

  is_resumed : (r x : ℕ) (v u : Representation) → IsKept t e r v u → IsOn now_on u x → u.writer ≡ Some x → IsResumed t e r v u.writer → (z : Exchange) ×
      IsGrowing now_on r u x z
  is_resumed r x v u kept on writer R =
      let same_x : R.x ≡ x = some_inj R.x x (sym R.writer_is ∙ writer) in
      let row : t.exchange x ≡ Some R.w = sym (ap t.exchange same_x) ∙ R.row in
      let goes_on = forward.is_on t e x R.w row in
      let got = headed_of x R.w goes_on.u R.response (R.at ∙ ap (λ n. event.Head n R.response) same_x) goes_on.same row in
      let aim : R.w.aim ≡ Some r = number_is R.w.aim r (and_right _ _ (and_left _ _ R.renews)) in
      let answer : R.response ≡ got.response = cc in (
        goes_on.u,
        now_resumed x R.w goes_on.u row goes_on.same (open_of x goes_on.u goes_on.row on.open_now) goes_on.row got r v u kept R.joins aim
            (ap (λ a. resumes t a R.w v) (sym answer) ∙ R.resumed),
      )

  is_founded : (r x : ℕ) (response : Response) (w : Exchange) (u : Representation) → ev ≡ event.Head r response → t.exchange r ≡ Some w →
      new_representation r e response w ≡ u → now_on.representation r ≡ Some u → IsOn now_on u x → u.writer ≡ Some x → (z : Exchange) × IsGrowing now_on r u x z
  is_founded r x response w u here row made there on writer =
      let writes : writer_at r response ≡ Some x = ap (λ (a : Representation). a.writer) made ∙ writer in
      let off : brings_part response.status ≡ false = writer_if (brings_part response.status) r x writes in
      let number : r ≡ x = some_inj r x (sym (ap (λ b. if b then None else Some r) off) ∙ writes) in
      let goes_on = forward.is_on t e r w row in
      let got = headed_of r w goes_on.u response here goes_on.same row in
      let answer : response ≡ got.response = cc in
      let opened = open_of r goes_on.u goes_on.row (ap (λ n. is_open (now_on.exchange n)) number ∙ on.open_now) in
      let grows : IsGrowing now_on r u r goes_on.u =
      now_founded r w goes_on.u row goes_on.same opened goes_on.row got u (ap (λ (a : Response). new_representation r e a w) (sym answer) ∙ made) there
      (ap (λ (a : Response). brings_part a.status) (sym answer) ∙ off) in
      (goes_on.u, subst (λ n. IsGrowing now_on r u n goes_on.u) number grows)

  growing_by : may_stand limits t e ≡ true → (r x : ℕ) (u : Representation) → now_on.representation r ≡ Some u → IsOn now_on u x → u.writer ≡ Some x →
      RepFrom t e r u → (z : Exchange) × IsGrowing now_on r u x z
  growing_by stand r x u there on writer (was v kept) = by_writer kept.writer_is
    where
      by_writer : (u.writer ≡ v.writer) ⊎ IsResumed t e r v u.writer → (z : Exchange) × IsGrowing now_on r u x z
      by_writer (inl same) = was_growing stand r x v u kept on writer same
      by_writer (inr R) = is_resumed r x v u kept on writer R
  growing_by stand r x u there on writer (founded response w none here row founding made) = is_founded r x response w u here row made there on writer

  -- Writings grow by what their exchanges bring.
  pub growing_kept : may_stand limits t e ≡ true → (r x : ℕ) (u : Representation) → now_on.representation r ≡ Some u → is_written now_on u ≡ true →
      u.writer ≡ Some x → (z : Exchange) × IsGrowing now_on r u x z
  growing_kept stand r x u there on writer = growing_by stand r x u there (is_on now_on u x on writer) writer (rep_from t e r (t.representation r) u refl there)
