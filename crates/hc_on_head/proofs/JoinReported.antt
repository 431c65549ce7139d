-- A head that joins: how long its part is, and who waits for it.
--
-- Both cases say that it is a good part for a hole (`view_joins`). Such a head promises its part, which isn't empty, so
-- the exchange goes on (`goes_on`). What it joins has a known length, which its entry tells (`reported_of`). By the laws
-- its consumer is bound to what it is about, and nobody else waits for that head. So it is `IsJoinable`
-- (`joinable_as`), also where that is lost first (`joinable_lost`). `JoinHandler` uses these.
use Rattle.std.{proofs.{lemmas.Bool.Decides.{nat_tests}, Common.{◌≡◌, ◌⊎◌, inl, inr, ℕ, ◌+◌, ◌-◌, ◌<◌, ◌≤◌, List, Bool, true, false, Option, Some, None, refl, ap, ap₂, sym, ◌∙◌, subst, arith}}, specs.Prelude.{codes, is_some, bytes_eq, not, ◌||◌, ◌==◌, if◌then◌else◌, option_map}}
use Rattle.hc_text.proofs.Basics.{eqb-other, eqb-same, false_true, same_or, same_some as same_row, some_inj as some_is}
use Rattle.hc_effects.proofs.Vocabulary.{brings_part, Limits, Need, Request, Response, HeadCase, HeadView, Length, head_case, length_of, content_length_of, is_bad, is_head, promise_of, agrees, route_of, content_range_of, is_get, is_disabled, BoundBy, head_view, joins_row, row_of, as_gone, lost_to, let_go, with_representation, back_from, promise_in, is_headless, is_reached, StandsFor, IsAwaiting, Tables, Exchange, Representation, InHole, range, need, case, route, place, by}
use Rattle.hc_store.specs.declared.backend.Backend.{Ghosts}
use Rattle.hc_stored.specs.Kept.{Kept}
use Rattle.hc_exch.specs.declared.row.Open.{Open}
use Rattle.hc_fields.specs.FirstValues.{elements_in}
use Rattle.hc_rules.specs.declared.length.Length.TheVariants as says
use Rattle.hc_rules.proofs.{RangeReads.{same_bytes}, Statuses.{part_succeeds, part_not_204}}
use Rattle.hc_model.specs.Effects.{waits_for}
use Rattle.hc_model.specs.Laws as laws
use Rattle.hc_model.specs.Owners as owners
use Rattle.hc_model.specs.Rows as rows
use Rattle.hc_effects.proofs.{FoundBy.{CaseBy, case_by, first_joins, later_joins}, Joining.{IsFilling, filling}, Tests.{none_some}}
use Rattle.hc_state.specs.{declared.rows.Rows.{Rows}, Facts.{Facts}, Heads.{aim_in}, Joining.{joins_hole}, Kept.{IsRunning, role_awaited}, Stored.{IsEntry, KnowsLength, reported, unreported}}
use Rattle.hc_on_head.proofs.{HeadViews.{no_hole_left, part_within}, JoinRows.{IsJoinable}}
use Rattle.hc_on_leave.proofs.HeardRows.{Asker}

-- WHICH CASE IT IS

pub data Joins : HeadCase → Type 0 where
  first : Joins case.FirstJoins
  later : Joins case.LaterJoins

pub joins_of : (g : HeadCase) → joins_hole g ≡ true → Joins g
joins_of case.FirstJoins on = first
joins_of case.LaterJoins on = later
joins_of _ on = false_true on

-- what it says of what was looked at
pub record JoinView (v : HeadView) : Type 0 where
  pub hole : route_of v.need ≡ route.Hole
  pub joins : v.joins ≡ true
  pub good : v.bad ≡ false

pub view_joins : (v : HeadView) (g : HeadCase) → Joins g → head_case v ≡ g → JoinView v
view_joins v g how is = by_case how (subst (CaseBy v) is (case_by v))
  where
    by_case : {h : HeadCase} → Joins h → CaseBy v h → JoinView v
    by_case first (first_joins hole shown joins good) = record { hole = hole; joins = joins; good = good }
    by_case later (later_joins hole shown joins good) = record { hole = hole; joins = joins; good = good }

-- it is the same where that is lost
pub joins_lost_too : (v : HeadView) (g : HeadCase) → Joins g → head_case v ≡ g → head_case (record v { lost = true }) ≡ g
unfolding head_case
joins_lost_too v g how is = by_case how (subst (CaseBy v) is (case_by v))
  where
    by_case : {h : HeadCase} → Joins h → CaseBy v h → head_case (record v { lost = true }) ≡ h
    by_case first (first_joins hole shown joins good) = rw (hole, shown, good, joins) refl
    by_case later (later_joins hole shown joins good) = rw (hole, shown, good, joins) refl

-- HOW LONG ITS PART IS

no_body_none : (b : Bool) (n : ℕ) → b ≡ false → brings_part n ≡ true → (b || n == 204 || n == 304) ≡ false
no_body_none b n off is =
    let full = part_not_204 n is in
    let low : n < 300 = (part_succeeds n is).1 in
    grind (arith, nat_tests)

-- a part to a GET for a hole promises it
part_promised : (from to last total : ℕ) (request : Request) (response : Response) → is_head request ≡ false → brings_part response.status ≡ true →
    content_range_of response.fields ≡ Some (range.Part from last (Some total)) → is_bad (length_of (need.Hole from to) request response) ≡ false →
    from ≤ last → is_reached (promise_of (length_of (need.Hole from to) request response)) 0 ≡ false
unfolding length_of
part_promised from to last total request response get status part good order =
    let full = no_body_none (is_head request) response.status get status in
    grind (arith, nat_tests)

-- a GET is no HEAD
get_is_no_head : (request : Request) → is_disabled request ≡ false → is_head request ≡ false
unfolding is_disabled
get_is_no_head request off =
    (let same : request.method ≡ codes "GET" = same_bytes request.method (codes "GET") (by_tests (is_get request) _ _ _ _ off) in rw same refl)
  where
    by_tests : (g a b c d : Bool) → (not g || a || b || c || d) ≡ false → g ≡ true
    by_tests true a b c d h = refl
    by_tests false a b c d h = false_true (sym h)

module _ {B : Type 0} {g : Ghosts B} {limits : Limits} (r : Rows B g) (t : Tables) (facts : Facts limits t) (x : ℕ) (response : Response) (w : Exchange)
    (a : Asker r t x w) (view : JoinView (head_view t false w response)) where
  -- to what its consumer is bound
  pub record IsReader : Type 0 where
    pub q : ℕ
    pub aim : w.aim ≡ Some q
    pub lo : ℕ
    pub hi : Option ℕ
    pub how : BoundBy
    pub at : a.v.place ≡ place.Bound q lo hi how

  pub reader : IsReader
  reader = by_at a.at
    where
      by_at : IsAwaiting x w a.v.place → IsReader
      by_at (owners.direct way stood) = absurd (let never : route.Direct ≡ route.Hole = sym way ∙ view.hole in cc)
      by_at (owners.turn way stood) = absurd (let never : route.Turn ≡ route.Hole = sym way ∙ view.hole in cc)
      by_at (owners.hole q lo hi how way aim stood) = record { q = q; aim = aim; lo = lo; hi = hi; how = how; at = stood }

  fills : IsFilling w.need (row_of t w.aim) response
  fills = filling w.need (row_of t w.aim) response view.joins

  no_head : is_head w.request ≡ false
  no_head =
      let o = facts.law.owned.opener x w a.awaits.row in
      let one : o.k ≡ a.v = same_row (t.consumer w.c) o.k a.v o.row a.awaits.asker in
      let asks = get_is_no_head a.v.request (facts.law.places.bound_cached w.c reader.q reader.lo reader.hi reader.how a.v a.awaits.asker reader.at) in
      ap (λ (m : List ℕ). bytes_eq m (codes "HEAD")) (o.method_is ∙ ap (λ (k : rows.Consumer). k.request.method) one) ∙ asks

  -- its exchange goes on
  pub goes_on : is_reached (promise_in w response) 0 ≡ false
  goes_on = grind (arith, nat_tests, fills, part_within, part_promised, no_head)

  -- of what it joins the length is known
  pub known : (v : Representation) → t.representation reader.q ≡ Some v → (total : ℕ) × (v.head.total ≡ Some total)
  known v there =
      let f = fills in
      let row : row_of t w.aim ≡ Some v = ap (row_of t) reader.aim ∙ there in
      (f.total, ap (λ (z : Representation). z.head.total) (sym (some_is f.v v (sym f.row ∙ row))) ∙ f.known)

  -- and so it is told
  pub reported_of : (q : ℕ) → w.aim ≡ Some q → (e : Kept) (p : Representation) → t.representation q ≡ Some p → IsEntry t q e p → e.head.total ≡ p.head.total
  reported_of q aim e p there is = by_length is.length
    where
      by_length : KnowsLength e p → e.head.total ≡ p.head.total
      by_length (reported same) = same
      by_length (unreported u) =
          let f = fills in
          let absent : (n : ℕ) → f.from ≤ n → n < f.to → p.body n ≡ None =
          λ n low high. facts.law.sound.waits.holes x w q p n a.awaits.row a.awaits.is_open a.awaits.headless aim there
          (subst (λ (m : Need). InHole m n) (sym f.need_is) (low, high)) in
          let none = no_hole_left f.from f.to u.total p response u.known u.came absent in
          let row : row_of t w.aim ≡ Some p = ap (row_of t) aim ∙ there in
          false_true (sym none ∙ (sym (ap₂ (λ (m : Need) (o : Option Representation). joins_row m o response) f.need_is row) ∙ view.joins))

  pub need_is : (from : ℕ) × (to : ℕ) × (w.need ≡ need.Hole from to)
  need_is = (fills.from, fills.to, fills.need_is)

  -- WHO WAITS FOR IT

  pub joinable : (p : Representation) → t.representation reader.q ≡ Some p → IsJoinable t x reader.q w a.v p
  joinable p there = record {
    row = a.awaits.row;
    is_open = a.awaits.is_open;
    headless = a.awaits.headless;
    empty = (facts.law.sound.waits.headless x w a.awaits.row a.awaits.headless).0;
    unjoined = (facts.law.sound.waits.headless x w a.awaits.row a.awaits.headless).1;
    unfounded = facts.law.sound.numbered.names.unfounded x w a.awaits.row a.awaits.headless;
    listed = facts.law.sound.numbered.lists.opened x (ap (λ (o : Option Exchange). is_some o) a.awaits.row);
    asker = a.awaits.asker;
    mine = a.own;
    lo = reader.lo;
    hi = reader.hi;
    how = reader.how;
    at = reader.at;
    there = there;
    unread = λ d u is at.
        let reads = facts.law.places.direct d x u is at in
        let for_it : w.c ≡ d = ap (λ (z : Exchange). z.c) (same_row (t.exchange x) w reads.w a.awaits.row reads.row) ∙ reads.for_it in
        let one : u ≡ a.v = some_is u a.v (sym is ∙ (ap t.consumer (sym for_it) ∙ a.awaits.asker)) in
        let stood = reader.at in
        absurd (let never : place.Direct x ≡ place.Bound reader.q reader.lo reader.hi reader.how = sym at ∙
        (ap (λ (z : rows.Consumer). z.place) one ∙ stood) in cc);
    first = λ d n lo hi u is at.
        let f = facts.law.owned.first_own d n lo x hi u is at in
        sym (ap (λ (z : Exchange). z.c) (same_row (t.exchange x) w f.w a.awaits.row f.row) ∙ f.for_it);
    heard = λ y how. by_stands y how a.stands;
  }
    where
      first_of : (q lo m n : ℕ) (hi : Option ℕ) (k : BoundBy) (u : Option ℕ) (y : ℕ) → place.Bound q lo hi k ≡ place.Bound m n u (by.FirstHole x) →
          k ≡ by.FirstHole y → y ≡ x
      first_of q lo m n hi k u y at how =
          (let same : k ≡ by.FirstHole x = (let h : place.Bound q lo hi k ≡ place.Bound m n u (by.FirstHole x) = at in cc) in
          let one : by.FirstHole y ≡ by.FirstHole x = sym how ∙ same in cc)

      by_stands : (y : ℕ) {way : _} → reader.how ≡ by.FirstHole y → StandsFor x a.v way → (y ≡ x) ⊎ (is_headless (t.exchange y) ≡ false)
      by_stands y how (laws.direct at) =
          absurd (let stood = reader.at in let never : place.Direct x ≡ place.Bound reader.q reader.lo reader.hi reader.how = sym at ∙ stood in cc)
      by_stands y how (laws.has_turn at unshown) =
          absurd (let stood = reader.at in let never : place.Turn x ≡ place.Bound reader.q reader.lo reader.hi reader.how = sym at ∙ stood in cc)
      by_stands y how (laws.first n lo hi at unshown) = inl (first_of reader.q reader.lo n lo reader.hi reader.how hi y (sym reader.at ∙ at) how)
      by_stands y how (laws.later n lo hi k at shown) =
          let f = facts.turns.first_hole w.c reader.q reader.lo y reader.hi a.v a.awaits.asker
          (reader.at ∙ ap (place.Bound reader.q reader.lo reader.hi) how) shown in
          inr (ap is_headless f.1 ∙ f.2)

  pub joinable_as : (q : ℕ) → w.aim ≡ Some q → (p : Representation) → t.representation q ≡ Some p → IsJoinable t x q w a.v p
  joinable_as q aim p there =
      (let same : reader.q ≡ q = some_is reader.q q (sym reader.aim ∙ aim) in
      subst (λ (n : ℕ). t.representation n ≡ Some p → IsJoinable t x n w a.v p) same (joinable p) there)

-- what the code looked up
pub hole_aim : (t : Tables) (x q : ℕ) (o : Open) (w : Exchange) → IsRunning t x o w → w.head ≡ None → route_of w.need ≡ route.Hole → aim_in
    o.role ≡ Some q → w.aim ≡ Some q
hole_aim t x q o w runs bare hole is = grind (arith, nat_tests)

-- WHERE THAT IS LOST AND LET GO

-- what goes waits for nobody who is bound
stays_bound : (now q n lo : ℕ) (hi : Option ℕ) (how : BoundBy) (u : rows.Consumer) → u.place ≡ place.Bound n lo hi how → back_from now q u ≡ u
stays_bound now q n lo hi how u at = (let off : waits_for q u.place ≡ false = ap (waits_for q) at in rw off refl)

-- whoever stands elsewhere then stood there
record Stood (t : Tables) (d : ℕ) (u : rows.Consumer) : Type 0 where
  k : rows.Consumer
  row : t.consumer d ≡ Some k
  place_is : (u.place ≡ k.place) ⊎ (u.place ≡ place.Line)

stood_of : (t : Tables) (now q d : ℕ) (u : rows.Consumer) → option_map (back_from now q) (t.consumer d) ≡ Some u → Stood t d u
stood_of t now q d u is = by_row (t.consumer d) refl is
  where
    by_test : (k : rows.Consumer) (b : Bool) → waits_for q k.place ≡ b → Some (back_from now q k) ≡ Some u → (u.place ≡ k.place) ⊎ (u.place ≡ place.Line)
    by_test k true on h = inr (ap (λ (z : rows.Consumer). z.place) (sym (some_is (back_from now q k) u h)) ∙ rw on refl)
    by_test k false off h = inl (ap (λ (z : rows.Consumer). z.place) (sym (some_is (back_from now q k) u h)) ∙ rw off refl)

    by_row : (o : Option rows.Consumer) → t.consumer d ≡ o → option_map (back_from now q) o ≡ Some u → Stood t d u
    by_row None row h = none_some u h
    by_row (Some k) row h = record { k = k; row = row; place_is = by_test k (waits_for q k.place) refl h }

pub joinable_lost : (t : Tables) (now x q : ℕ) (w : Exchange) (v : rows.Consumer) (p : Representation) (alone : Option ℕ) → IsJoinable t x q w v p →
    IsJoinable (let_go now q (with_representation q (Some (lost_to alone p)) t)) x q w v (as_gone (lost_to alone p))
joinable_lost t now x q w v p alone j = record {
  row = j.row;
  is_open = j.is_open;
  headless = j.headless;
  empty = j.empty;
  unjoined = j.unjoined;
  unfounded = elim (same_or q x) [
    | inl e ↦ none_some p (sym j.unfounded ∙ (ap t.representation (sym e) ∙ j.there))
    | inr ne ↦ rw (eqb-other q x ne) j.unfounded
  ];
  listed = j.listed;
  asker = ap (option_map (back_from now q)) j.asker ∙ ap Some (stays_bound now q q j.lo j.hi j.how v j.at);
  mine = j.mine;
  lo = j.lo;
  hi = j.hi;
  how = j.how;
  at = j.at;
  there = rw (eqb-same q) refl;
  unread = λ d u is at.
      let s = stood_of t now q d u is in
      elim s.place_is [
        | inl same ↦ j.unread d s.k s.row (sym same ∙ at)
        | inr lined ↦ absurd (let never : place.Line ≡ place.Direct x = sym lined ∙ at in cc)
      ];
  first = λ d n lo hi u is at.
      let s = stood_of t now q d u is in
      elim s.place_is [
        | inl same ↦ j.first d n lo hi s.k s.row (sym same ∙ at)
        | inr lined ↦ absurd (let never : place.Line ≡ place.Bound n lo hi (by.FirstHole x) = sym lined ∙ at in cc)
      ];
  heard = j.heard;
}
