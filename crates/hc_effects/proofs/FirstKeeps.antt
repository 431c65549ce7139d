-- One consumer at most became bound to a representation as the only one, and it knows its end.
--
-- That somebody came alone goes by the status of what it reads, which an entry keeps (`came_kept`). By how it became so
-- (`first_from`): it was, it founds with a part, or its first hole is opened where nobody is bound (`open_free`). Of
-- two, each pair of these ways is one consumer or can't be (`one`). Whoever did knows its end (`end_known`). `case_is`,
-- `is_new` and `is_opener` are used by many files.
use Rattle.std.{proofs.{Common.{◌≡◌, ℕ, [], Bool, true, false, Option, Some, None, refl, ap, sym, ◌∙◌, subst, arith}, lemmas.Bool.Decides.{nat_tests}}, specs.Prelude.{is_some}}
use Rattle.hc_text.proofs.Basics.{same_some as same_row, some_inj}
use Rattle.hc_effects.proofs.Vocabulary.{brings_part, brings_whole, Opening, opening_in, Event, Response, HeadCase, Limits, head_case, BoundBy, has_loss, wait_in, case_at, case_of, head_view, denial, as_open, Entry, Flaw, entry_of, bound, bound_to, Tables, Exchange, Representation, Consumer, Sound, IsFirst, after_accepted, came_alone, status_in, Wait, Move, move_of, head_refusal, route_of, consumer_heard, waiting, waiting_place, current, event, case, place, by, wait, route}
use Rattle.hc_model.specs.Sound.{OneFirst}
use Rattle.hc_model.specs.Sound as sound
use Rattle.hc_effects.proofs.{BoundFrom.{BoundFrom, IsFounded, bound_from}, FoundBy.{CaseBy, case_by}, OpensFrom.{nobody_bound}, ExclusiveWriters.{bound_some}, RepFrom.{RepFrom, rep_from, stays}, Said.{IsPoll, IsOpening, WaitsAs, opening_by, waiting_by}}
use Rattle.hc_effects.proofs.BoundFrom as from
use Rattle.hc_effects.proofs.FoundBy as cases
use Rattle.hc_effects.proofs.RepFrom as rep
use Rattle.hc_effects.proofs.Said as said
use Rattle.hc_rules.specs.Refusals as refusals
use Rattle.hc_rules.proofs.Statuses.{part_succeeds, whole_or_part}

-- THE CASE OF A HEAD

pub case_is : (t : Tables) (e : Entry) (x : ℕ) (response : Response) (w : Exchange) → e.event ≡ event.Head x response → t.exchange x ≡ Some w →
    case_at t e ≡ Some (head_case (head_view t (has_loss e.acts) w response))
unfolding case_of
case_is t e x response w at row = ap (case_of t (has_loss e.acts)) at ∙ rw row refl

-- why the head of an entry is of a case
pub case_of_head : (t : Tables) (e : Entry) (x : ℕ) (response : Response) (w : Exchange) (c : HeadCase) → e.event ≡ event.Head x response →
    t.exchange x ≡ Some w → case_at t e ≡ Some c → CaseBy (head_view t (has_loss e.acts) w response) c
case_of_head t e x response w c at row is =
    subst (CaseBy (head_view t (has_loss e.acts) w response))
    (some_inj (head_case (head_view t (has_loss e.acts) w response)) c (sym (case_is t e x response w at row) ∙ is))
    (case_by (head_view t (has_loss e.acts) w response))

pub whole_brings : (t : Tables) (lost : Bool) (w : Exchange) (response : Response) → CaseBy (head_view t lost w response) case.FoundsWhole →
    brings_whole response.status ≡ true
whole_brings t lost w response (cases.founds_whole way status kept good) = status

pub replaced_brings : (t : Tables) (lost : Bool) (w : Exchange) (response : Response) → CaseBy (head_view t lost w response) case.FirstReplaced →
    brings_whole response.status ≡ true
replaced_brings t lost w response (cases.first_replaced way shown status kept good) = status

-- who founds with all of a body founds by a whole, and else knows its end
pub data Founds (t : Tables) (e : Entry) (lo : ℕ) (hi : Option ℕ) (response : Response) : Type 0 where
  whole : brings_whole response.status ≡ true → Founds t e lo hi response
  part : is_some hi ≡ true → Founds t e lo hi response

pub founds_as : (t : Tables) (e : Entry) (c r lo : ℕ) (hi : Option ℕ) (how : BoundBy) (x : ℕ) (response : Response) (w : Exchange) (k : Consumer)
    (o : Option HeadCase) → e.event ≡ event.Head x response → t.exchange x ≡ Some w → case_at t e ≡ o → IsFounded t e c r lo hi how x response w k o →
    Founds t e lo hi response
founds_as t e c r lo hi how x response w k _ at row is (from.whole a b) =
    whole (whole_brings t (has_loss e.acts) w response (case_of_head t e x response w case.FoundsWhole at row is))
founds_as t e c r lo hi how x response w k _ at row is (from.replaced a b) =
    whole (replaced_brings t (has_loss e.acts) w response (case_of_head t e x response w case.FirstReplaced at row is))
founds_as t e c r lo hi how x response w k _ at row is (from.part i) = part (sym (ap (λ (o : Option ℕ). is_some o) i.to))

abbrev response_in : Event → Response → Response
response_in (event.Head x response) other = response
response_in _ other = other

module _ (limits : Limits) (t : Tables) (now : ℕ) (flaw : Flaw) (s : Sound t) (ev : Event) (goes : denial t ev ≡ None) where
  abbrev e : Entry
  e = entry_of limits t now ev flaw

  abbrev now_on : Tables
  now_on = after_accepted t e

  -- the status of what was there stays
  status_of : (r : ℕ) (v u : Representation) → t.representation r ≡ Some v → RepFrom t e r u → u.head.status ≡ v.head.status
  status_of r v u row (rep.was q kept) = kept.status_is ∙ ap (λ (z : Representation). z.head.status) (same_row (t.representation r) q v kept.row row)
  status_of r v u row (rep.founded response w none at exchange on is) = absurd (let never : None ≡ Some v = sym none ∙ row in cc)

  status_by : (r : ℕ) (v : Representation) (o : Option Representation) → t.representation r ≡ Some v → now_on.representation r ≡ o → status_in o ≡ v.head.status
  status_by r v None row is =
      absurd (let never : is_some (now_on.representation r) ≡ true = stays t e r (t.representation r) (ap is_some row) in let no : false ≡ true =
      sym (ap is_some is) ∙ never in cc)
  status_by r v (Some u) row is = status_of r v u row (rep_from t e r (t.representation r) u refl is)

  pub status_kept : (r : ℕ) → is_some (t.representation r) ≡ true → status_in (now_on.representation r) ≡ status_in (t.representation r)
  status_kept r there = by_row (t.representation r) refl there
    where
      by_row : (o : Option Representation) → t.representation r ≡ o → is_some o ≡ true → status_in (now_on.representation r) ≡ status_in o
      by_row None row there = absurd (let never : false ≡ true = there in cc)
      by_row (Some v) row there = status_by r v (now_on.representation r) row refl

  pub came_kept : (r lo : ℕ) (hi : Option ℕ) (how : BoundBy) → is_some (t.representation r) ≡ true →
      came_alone now_on (place.Bound r lo hi how) ≡ came_alone t (place.Bound r lo hi how)
  came_kept r lo hi by.Founding there = ap brings_part (status_kept r there)
  came_kept r lo hi _ there = refl

  -- the status of what a head founds is the head's
  founded_status : (x : ℕ) (response : Response) (u : Representation) → ev ≡ event.Head x response → t.representation x ≡ None → RepFrom t e x u →
      u.head.status ≡ response.status
  founded_status x response u at none it5 = grind (arith, nat_tests)

  pub founded_came : (x lo : ℕ) (hi : Option ℕ) (response : Response) (o : Option Representation) → ev ≡ event.Head x response →
      t.representation x ≡ None → now_on.representation x ≡ o → brings_part (status_in o) ≡ true → brings_part response.status ≡ true
  founded_came x lo hi response None at none is alone = absurd (omega (arith, (part_succeeds 0 alone).0))
  founded_came x lo hi response (Some u) at none is alone =
      let status : u.head.status ≡ response.status = founded_status x response u at none (rep_from t e x (t.representation x) u refl is) in
      sym (ap brings_part status) ∙ alone

  -- an accepted head is one of an open exchange without a head
  pub record IsNew (x : ℕ) (w : Exchange) : Type 0 where
    pub is_open : w.is_open ≡ true
    pub bare : w.head ≡ None
    pub unfounded : t.representation x ≡ None

  new_by : (x : ℕ) (response : Response) (w : Exchange) → t.exchange x ≡ Some w → head_refusal (as_open (t.exchange x)) ≡ None → IsNew x w
  new_by x response w row h = grind (arith, nat_tests)

  refused_by : (x : ℕ) (response : Response) → denial t (event.Head x response) ≡ None → head_refusal (as_open (t.exchange x)) ≡ None
  unfolding refusals.refusal_of
  refused_by x response h = h

  pub is_new : (x : ℕ) (response : Response) (w : Exchange) → ev ≡ event.Head x response → t.exchange x ≡ Some w → IsNew x w
  is_new x response w at row = new_by x response w row (refused_by x response (sym (ap (denial t) at) ∙ goes))

  -- KNOWN ENDS

  end_founded : (x lo : ℕ) (hi : Option ℕ) (response : Response) → ev ≡ event.Head x response → t.representation x ≡ None → Founds t e lo hi response →
      brings_part (status_in (now_on.representation x)) ≡ true → is_some hi ≡ true
  end_founded x lo hi response at none (part known) alone = known
  end_founded x lo hi response at none (whole status) alone =
      absurd (whole_or_part response.status status (founded_came x lo hi response (now_on.representation x) at none refl alone))

  end_known : (c r lo : ℕ) (hi : Option ℕ) (how : BoundBy) (u : Consumer) → came_alone now_on (place.Bound r lo hi how) ≡ true →
      BoundFrom t e c r lo hi how u → is_some hi ≡ true
  end_known c r lo hi how u alone (from.stays k row at) =
      let there = s.numbered.bound_to r c k (sound.is_bound lo hi how row.row at) in
      s.writes.known_end r c lo hi how k row.row at (sym (came_kept r lo hi how there) ∙ alone)
  end_known c r lo hi how u alone (from.founds k x response w row at exchange here of_r by_is all) =
      let new = is_new x response w at exchange in
      let founding : brings_part (status_in (now_on.representation r)) ≡ true =
      subst (λ (b : BoundBy). came_alone now_on (place.Bound r lo hi b) ≡ true) by_is alone in
      end_founded x lo hi response at new.unfounded (founds_as t e c r lo hi how x response w k (case_at t e) at exchange refl all)
      (subst (λ q. brings_part (status_in (now_on.representation q)) ≡ true) (sym of_r) founding)
  end_known c r lo hi how u alone (from.opens k o row is here free way hole) = sym (ap (λ (z : Option ℕ). is_some z) hole.interval.to)
  end_known c r lo hi how u alone (from.shows k z row is all) =
      absurd (let never : false ≡ true = subst (λ (b : BoundBy). came_alone now_on (place.Bound r lo hi b) ≡ true) all.by_is alone in cc)

  pub ends_kept : (r c lo : ℕ) (hi : Option ℕ) (how : BoundBy) (u : Consumer) → now_on.consumer c ≡ Some u → u.place ≡ place.Bound r lo hi how →
      came_alone now_on (place.Bound r lo hi how) ≡ true → is_some hi ≡ true
  ends_kept r c lo hi how u row at alone = end_known c r lo hi how u alone (bound_from t e c r lo hi how (t.consumer c) u refl row at)

  -- ONE FIRST

  data FirstFrom (r c : ℕ) : Type 0 where
    before : IsFirst t r c → FirstFrom r c
    founds : (x : ℕ) (response : Response) (w : Exchange) → ev ≡ event.Head x response → t.exchange x ≡ Some w → w.c ≡ c → x ≡ r →
        t.representation r ≡ None → FirstFrom r c
    opens : (o : Opening) → opening_in e.acts ≡ Some o → o.c ≡ c → bound t r ≡ [] → FirstFrom r c

  waits_head : (o : Opening) (z : Wait) (m : Move) → IsOpening o m → WaitsAs z m → (x : ℕ) × (z ≡ wait.Head x)
  waits_head o z _ said.opens (said.opens x n request is) = (x, is)

  -- who opens an exchange stands where it stood
  opener_waits : (c want : ℕ) (k : Consumer) (o : Opening) (z : Option Wait) → IsPoll t ev c want k → IsOpening o (move_of t now want c k) → wait_in
      c e.acts ≡ z → waiting_place t k z ≡ k.place
  opener_waits c want k o None poll opening is = refl
  opener_waits c want k o (Some z) poll opening is =
      let waits = waiting_by limits t now flaw s ev goes c z is in
      let one : event.Poll c waits.want ≡ event.Poll c want = sym waits.poll.at ∙ poll.at in
      let want_is : waits.want ≡ want = cc in
      let row_is : waits.k ≡ k = same_row (t.consumer c) waits.k k waits.poll.row poll.row in
      let z_is = waits_head o z (move_of t now want c k) opening
      (subst (λ (u : Consumer). WaitsAs z (move_of t now want c u)) row_is (subst (λ n. WaitsAs z (move_of t now n c waits.k)) want_is waits.move)) in
      ap (λ (w : Wait). waiting_place t k (Some w)) z_is.1

  -- what is opened is opened by the poll of its consumer, as it was before
  pub record IsOpener (c : ℕ) (k : Consumer) (o : Opening) : Type 0 where
    pub want : ℕ
    pub at : ev ≡ event.Poll c want
    pub opening : IsOpening o (move_of t now want c k)
    pub heard_is : consumer_heard t e c ev k ≡ k
    pub place_is : (waiting t e c (consumer_heard t e c ev k)).place ≡ k.place

  pub is_opener : (c : ℕ) (k : Consumer) (o : Opening) → t.consumer c ≡ Some k → opening_in e.acts ≡ Some o → o.c ≡ c → IsOpener c k o
  is_opener c k o row is here =
      let opens = opening_by limits t now flaw s ev goes o is in
      let row_is : opens.k ≡ k = same_row (t.consumer c) opens.k k (sym (ap t.consumer here) ∙ opens.poll.row) row in
      let at : ev ≡ event.Poll c opens.want = opens.poll.at ∙ ap (λ d. event.Poll d opens.want) here in
      let opening : IsOpening o (move_of t now opens.want c k) =
      subst (λ (u : Consumer). IsOpening o (move_of t now opens.want c u)) row_is
      (subst (λ d. IsOpening o (move_of t now opens.want d opens.k)) here opens.move) in
      let heard : consumer_heard t e c ev k ≡ k = ap (λ v. consumer_heard t e c v k) at in
      let waits : waiting_place t k (wait_in c e.acts) ≡ k.place =
      opener_waits c opens.want k o (wait_in c e.acts) (record { at = at; row = row }) opening refl in
      record {
        want = opens.want;
        at = at;
        opening = opening;
        heard_is = heard;
        place_is =
            ap (λ (u : Consumer). waiting_place t u (wait_in c e.acts)) heard ∙ waits;
      }

  -- who opens a first hole opens it where nobody is bound
  pub open_free : (c r : ℕ) (k : Consumer) (o : Opening) → t.consumer c ≡ Some k → opening_in e.acts ≡ Some o → o.c ≡ c →
      bound_to (waiting t e c (consumer_heard t e c ev k)).place ≡ None → route_of o.need ≡ route.Hole →
      current t (consumer_heard t e c ev k).request.key ≡ Some r → bound t r ≡ []
  open_free c r k o row is here free way at =
      let opener = is_opener c k o row is here in
      nobody_bound t c k o now opener.want r s row opener.opening way (sym (ap bound_to opener.place_is) ∙ free)
      (sym (ap (λ (u : Consumer). current t u.request.key) opener.heard_is) ∙ at)

  first_from : (c r lo : ℕ) (hi : Option ℕ) (how : BoundBy) (u : Consumer) → came_alone now_on (place.Bound r lo hi how) ≡ true →
      BoundFrom t e c r lo hi how u → FirstFrom r c
  first_from c r lo hi how u alone (from.stays k row at) =
      let there = s.numbered.bound_to r c k (sound.is_bound lo hi how row.row at) in
      before (sound.first k lo hi how row.row at (sym (came_kept r lo hi how there) ∙ alone))
  first_from c r lo hi how u alone (from.founds k x response w row at exchange here of_r by_is all) =
      founds x response w at exchange here of_r (sym (ap t.representation of_r) ∙ (is_new x response w at exchange).unfounded)
  first_from c r lo hi how u alone (from.opens k o row is here free way hole) = opens o is here (open_free c r k o row.row is here free way hole.current_is)
  first_from c r lo hi how u alone (from.shows k z row is all) =
      absurd (let never : false ≡ true = subst (λ (b : BoundBy). came_alone now_on (place.Bound r lo hi b) ≡ true) all.by_is alone in cc)

  first_was : (r c : ℕ) → IsFirst now_on r c → FirstFrom r c
  first_was r c (sound.first u lo hi how row at alone) = first_from c r lo hi how u alone (bound_from t e c r lo hi how (t.consumer c) u refl row at)

  not_bound : (r c : ℕ) → t.representation r ≡ None → IsFirst t r c → ⊥
  not_bound r c none (sound.first k lo hi how row at alone) = let there = s.numbered.bound_to r c k (sound.is_bound lo hi how row at) in
      let never : false ≡ true = sym (ap is_some none) ∙ there in cc

  not_some : (r c : ℕ) → bound t r ≡ [] → IsFirst t r c → ⊥
  not_some r c nobody (sound.first k lo hi how row at alone) = bound_some t r c k s.numbered (sound.is_bound lo hi how row at) nobody

  head_opens : (c r : ℕ) (x : ℕ) (response : Response) (o : Opening) → ev ≡ event.Head x response → opening_in e.acts ≡ Some o → ⊥
  head_opens c r x response o at is =
      let opens = opening_by limits t now flaw s ev goes o is in
      let never : event.Head x response ≡ event.Poll o.c opens.want = sym at ∙ opens.poll.at in cc

  one : (r c d : ℕ) → FirstFrom r c → FirstFrom r d → c ≡ d
  one r c d (before a) (before b) = s.writes.one_first r c d a b
  one r c d (before a) (founds x response w at row here of_r none) = absurd (not_bound r c none a)
  one r c d (before a) (opens o is here nobody) = absurd (not_some r c nobody a)
  one r c d (founds x response w at row here of_r none) (before b) = absurd (not_bound r d none b)
  one r c d (founds x response w at row here of_r none) (founds y answer u also there this of_too none_too) =
      let same : x ≡ y = of_r ∙ sym of_too in
      let row_is : w ≡ u = same_row (t.exchange y) w u (sym (ap t.exchange same) ∙ row) there in
      sym here ∙ (ap (λ (z : Exchange). z.c) row_is ∙ this)
  one r c d (founds x response w at row here of_r none) (opens o is there nobody) = absurd (head_opens c r x response o at is)
  one r c d (opens o is here nobody) (before b) = absurd (not_some r d nobody b)
  one r c d (opens o is here nobody) (founds x response w at row there of_r none) = absurd (head_opens c r x response o at is)
  one r c d (opens o is here nobody) (opens p also there none) = sym here ∙ (ap (λ (z : Opening). z.c) (same_row (opening_in e.acts) o p is also) ∙ there)

  pub one_first_kept : OneFirst now_on
  one_first_kept r c d a b = one r c d (first_was r c a) (first_was r d b)
