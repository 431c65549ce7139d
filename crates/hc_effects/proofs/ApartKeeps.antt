-- The exchange of a writing that is on is nobody's own.
--
-- By where the writing comes from (`apart_from`). One that was on was nobody's own, and becomes nobody's (`from_was`).
-- At a head nothing is opened or left to anybody, so an own exchange was so before (`own_before`). What founds or joins
-- so that several may write gives its consumer's exchange up (`shared_by`, `founded_shared`); so it isn't its own then
-- (`from_head`, `from_resumed`). Many files use `is_on` and `written_by`.
use Rattle.std.{proofs.{Common.{◌≡◌, inl, inr, ℕ, Bool, true, false, Option, Some, None, refl, ap, sym, ◌∙◌, subst, arith}, lemmas.Bool.Decides.{nat_tests}}, specs.Prelude.{is_some, ◌&&◌, ◌||◌, not}}
use Rattle.hc_text.proofs.Basics.{both_true as both, and_left, and_right, not_some as none_some, not_true, same_some as same_row, some_inj}
use Rattle.hc_effects.proofs.Vocabulary.{brings_part, Response, HeadCase, has_loss, loses_in, case_at, head_view, is_founding, is_joining, consumer_heard, by_head, becomes_shared, is_resumed, is_number, row_of, Entry, family, is_open, entry_of, is_written, is_open_writer, resumes, writer_at, Tables, Exchange, Representation, Consumer, may_stand, after_accepted, event, case}
use Rattle.hc_effects.proofs.{Basics.{false_true, or_false, number_is}, ExchangeFrom.{ExchangeFrom, exchange_from}, FirstKeeps.{case_of_head, is_new}, FoundBy.{CaseBy}, LossStands.{no_loss}, OwnFrom.{OwnFrom, own_from}, OwnersKeep.{is_opened, left_group, new_number}, RepFrom.{RepFrom, rep_from, IsKept, IsResumed}, Step.{Step}}
use Rattle.hc_effects.proofs.ExchangeFrom as exchange
use Rattle.hc_effects.proofs.FoundBy as cases
use Rattle.hc_effects.proofs.OwnFrom as own
use Rattle.hc_effects.proofs.RepFrom as rep

-- a writing that is on
pub record IsOn (t : Tables) (v : Representation) (x : ℕ) : Type 0 where
  pub kept : v.is_lost ≡ false
  pub open_now : is_open (t.exchange x) ≡ true

pub is_on : (t : Tables) (v : Representation) (x : ℕ) → is_written t v ≡ true → v.writer ≡ Some x → IsOn t v x
unfolding is_written
is_on t v x on writer = grind (arith, nat_tests)

pub written_by : (t : Tables) (v : Representation) (x : ℕ) → v.is_lost ≡ false → v.writer ≡ Some x → is_open (t.exchange x) ≡ true → is_written t v ≡ true
unfolding is_written
written_by t v x kept writer on = both (not v.is_lost) (is_open_writer t v.writer) (ap not kept) (ap (is_open_writer t) writer ∙ on)

module _ (step : Step) (stand : may_stand step.limits step.tables (entry_of step.limits step.tables step.now step.event step.flaw) ≡ true) where
  open step use {limits, tables as t, now, flaw, sound as s, owners as o, event as ev, accepted as goes}

  abbrev e : Entry
  e = entry_of limits t now ev flaw

  abbrev now_on : Tables
  now_on = after_accepted t e

  -- an exchange that was there is open only if it was
  was_open : (x : ℕ) (z : Option Exchange) → is_some (t.exchange x) ≡ true → now_on.exchange x ≡ z → is_open z ≡ true → is_open (t.exchange x) ≡ true
  was_open x None there at on = absurd (false_true on)
  was_open x (Some u) there at on = by_from (exchange_from t e x (t.exchange x) u refl at)
    where
      by_from : ExchangeFrom t e x u → is_open (t.exchange x) ≡ true
      by_from (exchange.was w row same) = ap is_open row ∙ same.was_open on
      by_from (exchange.new p none opens here made) = absurd (false_true (sym (ap (λ (q : Option Exchange). is_some q) none) ∙ there))

  -- A WRITING THAT WAS ON

  pub was_written : (r x : ℕ) (v u : Representation) → IsKept t e r v u → IsOn now_on u x → u.writer ≡ v.writer → u.writer ≡ Some x →
      (is_written t v ≡ true) × (v.writer ≡ Some x) × (loses_in r e.acts ≡ false)
  was_written r x v u kept on same writer =
      let parts = or_false (loses_in r e.acts) v.is_lost (sym kept.lost_is ∙ on.kept) in
      let writes : v.writer ≡ Some x = sym same ∙ writer in
      (written_by t v x parts.1 writes (was_open x (now_on.exchange x) (o.writers r x v kept.row writes) refl on.open_now), writes, parts.0)

  from_was : (r c x : ℕ) (v : Representation) (u : Consumer) → t.representation r ≡ Some v → is_written t v ≡ true → v.writer ≡ Some x → loses_in
      r e.acts ≡ false → OwnFrom t e c x u → ⊥
  from_was r c x v u row on writer kept (own.kept k is before heard) = o.apart r x c v k row on writer is.row before
  from_was r c x v u row on writer kept (own.opened k p is opens here this) =
      none_some_exchange (new_number step p x opens this) (o.writers r x v row writer)
    where
      none_some_exchange : t.exchange x ≡ None → is_some (t.exchange x) ≡ true → ⊥
      none_some_exchange none there = false_true (sym (ap (λ (q : Option Exchange). is_some q) none) ∙ there)
  from_was r c x v u row on writer kept (own.left k is l) =
      let a = left_group step c x _ l in
      let grows = (s.rows r v row).growing x on writer in
      let g = grows.1 in
      let one : a.w ≡ grows.0 = same_row (t.exchange x) a.w grows.0 a.exchange_row g.row in
      let same : l.r ≡ r = sym a.family_is ∙ (ap (family x) one ∙ g.family_is) in
      false_true (sym kept ∙ (sym (ap (λ n. loses_in n e.acts) same) ∙ a.loses))

  -- ONE THAT BEGINS WITH A HEAD

  -- at a head nothing is opened, and no writing is left by an exchange without a head
  own_before : (x c : ℕ) (response : Response) (w : Exchange) (u : Consumer) → ev ≡ event.Head x response → t.exchange x ≡ Some w → w.head ≡ None →
      OwnFrom t e c x u → (k : Consumer) × (t.consumer c ≡ Some k) × (k.own ≡ Some x) × ((consumer_heard t e c ev k).own ≡ Some x)
  own_before x c response w u here row bare (own.kept k is before heard) = (k, is.row, before, heard)
  own_before x c response w u here row bare (own.opened k p is opens mine this) =
      absurd (let polls = (is_opened step p opens) in let no : event.Head x response ≡ event.Poll p.c polls.want = sym here ∙ polls.at in cc)
  own_before x c response w u here row bare (own.left k is l) =
      absurd (
      let a = left_group step c x _ l in
      let one : a.w ≡ w = same_row (t.exchange x) a.w w a.exchange_row row in
      false_true (sym (ap (λ (q : Option Response). is_some q) (ap (λ (z : Exchange). z.head) one ∙ bare)) ∙ a.headed))

  -- the exchange isn't its consumer's own any more
  given_up : (x c : ℕ) (response : Response) (w : Exchange) (k : Consumer) (z : Option Exchange) → z ≡ Some w → w.c ≡ c →
      becomes_shared t e response w (case_at t e) ≡ true → (by_head t e c x response z k).own ≡ None
  given_up x c response w k z is mine shared = grind (arith, nat_tests)

  from_head : (x c : ℕ) (response : Response) (w : Exchange) (u : Consumer) → ev ≡ event.Head x response → t.exchange x ≡ Some w →
      becomes_shared t e response w (case_at t e) ≡ true → OwnFrom t e c x u → ⊥
  from_head x c response w u here row shared from =
      let new = is_new limits t now flaw s ev goes x response w here row in
      let got = own_before x c response w u here row new.bare from in
      let a = o.waiting x w row new.is_open new.bare in
      let mine : w.c ≡ c = o.one w.c c x a.k got.0 a.row got.1 a.own got.2 in
      let none : (consumer_heard t e c ev got.0).own ≡ None = ap (λ v. (consumer_heard t e c v got.0).own) here ∙
      given_up x c response w got.0 (t.exchange x) row mine shared in
      none_some x (sym none ∙ got.3)

  shared_by : (response : Response) (w : Exchange) (g : Option HeadCase) → is_joining g ≡ true → is_resumed t e response w (row_of t w.aim) ≡ true →
      becomes_shared t e response w g ≡ true
  shared_by response w None joins resumed = absurd (false_true joins)
  shared_by response w (Some case.FirstJoins) joins resumed = resumed
  shared_by response w (Some case.LaterJoins) joins resumed = resumed
  shared_by response w (Some case.DirectBad) joins resumed = absurd (false_true joins)
  shared_by response w (Some case.DirectTaken) joins resumed = absurd (false_true joins)
  shared_by response w (Some case.TurnBad) joins resumed = absurd (false_true joins)
  shared_by response w (Some case.Validated) joins resumed = absurd (false_true joins)
  shared_by response w (Some case.NotValidated) joins resumed = absurd (false_true joins)
  shared_by response w (Some case.TurnServerError) joins resumed = absurd (false_true joins)
  shared_by response w (Some case.FoundsWhole) joins resumed = absurd (false_true joins)
  shared_by response w (Some case.FoundsRange) joins resumed = absurd (false_true joins)
  shared_by response w (Some case.PassesBy) joins resumed = absurd (false_true joins)
  shared_by response w (Some case.FirstBad) joins resumed = absurd (false_true joins)
  shared_by response w (Some case.FirstServerError) joins resumed = absurd (false_true joins)
  shared_by response w (Some case.FirstChanged) joins resumed = absurd (false_true joins)
  shared_by response w (Some case.FirstReplaced) joins resumed = absurd (false_true joins)
  shared_by response w (Some case.FirstPassesBy) joins resumed = absurd (false_true joins)
  shared_by response w (Some case.LaterBad) joins resumed = absurd (false_true joins)
  shared_by response w (Some case.LaterChanged) joins resumed = absurd (false_true joins)

  -- what is resumed is resumed by a head without a loss
  loss_none : (x r : ℕ) (response : Response) (w : Exchange) → ev ≡ event.Head x response → t.exchange x ≡ Some w → is_joining (case_at t e) ≡ true →
      w.aim ≡ Some r → loses_in r e.acts ≡ false → has_loss e.acts ≡ false
  loss_none x r response w here row joins aim kept =
      subst (λ v. is_joining (case_at t (entry_of limits t now v flaw)) ≡ true → may_stand limits t (entry_of limits t now v flaw) ≡ true → loses_in
      r (entry_of limits t now v flaw).acts ≡ false → has_loss (entry_of limits t now v flaw).acts ≡ false) (sym here)
      (λ joining standing keeping. no_loss limits t now flaw s x response w r row joining aim standing keeping) joins stand kept

  all_resumed : (a l h : Bool) → a ≡ true → l ≡ false → h ≡ false → (a && not (l || h)) ≡ true
  all_resumed a l h p q z = rw (p, q, z) refl

  from_resumed : (r c : ℕ) (v : Representation) (z : Option ℕ) (u : Consumer) → t.representation r ≡ Some v → (R : IsResumed t e r v z) →
      OwnFrom t e c R.x u → ⊥
  from_resumed r c v z u row R from =
      let renews = R.renews in
      let kept = or_false v.is_lost (loses_in r e.acts) (not_true (v.is_lost || loses_in r e.acts) (and_right _ _ renews)) in
      let aim : R.w.aim ≡ Some r = number_is R.w.aim r (and_right _ (is_number R.w.aim r) (and_left _ _ renews)) in
      let none = loss_none R.x r R.response R.w R.at R.row R.joins aim kept.1 in
      let resumed : is_resumed t e R.response R.w (row_of t R.w.aim) ≡ true = ap (is_resumed t e R.response R.w) (ap (row_of t) aim ∙ row) ∙
      all_resumed (resumes t R.response R.w v) v.is_lost (has_loss e.acts) R.resumed kept.0 none in
      from_head R.x c R.response R.w u R.at R.row (shared_by R.response R.w (case_at t e) R.joins resumed) from

  -- A FOUNDED ONE

  whole_status : (r x : ℕ) (response : Response) → writer_at r response ≡ Some x → brings_part response.status ≡ false
  whole_status r x response is = grind (arith, nat_tests)

  range_brings : (lost : Bool) (w : Exchange) (response : Response) → CaseBy (head_view t lost w response) case.FoundsRange → brings_part response.status ≡ true
  range_brings lost w response (cases.founds_range way status fits kept good) = status

  pub founded_shared : (r x : ℕ) (response : Response) (w : Exchange) (g : Option HeadCase) → ev ≡ event.Head r response → t.exchange r ≡ Some w →
      case_at t e ≡ g → is_founding g ≡ true → writer_at r response ≡ Some x → becomes_shared t e response w g ≡ true
  founded_shared r x response w None here row is on writer = absurd (false_true on)
  founded_shared r x response w (Some case.FoundsWhole) here row is on writer = refl
  founded_shared r x response w (Some case.FirstReplaced) here row is on writer = refl
  founded_shared r x response w (Some case.FoundsRange) here row is on writer =
      absurd (
      let status : brings_part response.status ≡ true =
      range_brings (has_loss e.acts) w response (case_of_head t e r response w case.FoundsRange here row is) in
      let test : brings_part response.status ≡ false = whole_status r x response writer in
      false_true (sym test ∙ status))
  founded_shared r x response w (Some case.DirectBad) here row is on writer = absurd (false_true on)
  founded_shared r x response w (Some case.DirectTaken) here row is on writer = absurd (false_true on)
  founded_shared r x response w (Some case.TurnBad) here row is on writer = absurd (false_true on)
  founded_shared r x response w (Some case.Validated) here row is on writer = absurd (false_true on)
  founded_shared r x response w (Some case.NotValidated) here row is on writer = absurd (false_true on)
  founded_shared r x response w (Some case.TurnServerError) here row is on writer = absurd (false_true on)
  founded_shared r x response w (Some case.PassesBy) here row is on writer = absurd (false_true on)
  founded_shared r x response w (Some case.FirstBad) here row is on writer = absurd (false_true on)
  founded_shared r x response w (Some case.FirstJoins) here row is on writer = absurd (false_true on)
  founded_shared r x response w (Some case.FirstServerError) here row is on writer = absurd (false_true on)
  founded_shared r x response w (Some case.FirstChanged) here row is on writer = absurd (false_true on)
  founded_shared r x response w (Some case.FirstPassesBy) here row is on writer = absurd (false_true on)
  founded_shared r x response w (Some case.LaterBad) here row is on writer = absurd (false_true on)
  founded_shared r x response w (Some case.LaterJoins) here row is on writer = absurd (false_true on)
  founded_shared r x response w (Some case.LaterChanged) here row is on writer = absurd (false_true on)

  pub writer_is : (r x : ℕ) (response : Response) → writer_at r response ≡ Some x → r ≡ x
  writer_is r x response is = grind (arith, nat_tests)

  apart_from : (r x c : ℕ) (v : Representation) (u : Consumer) → RepFrom t e r v → IsOn now_on v x → v.writer ≡ Some x → OwnFrom t e c x u → ⊥
  apart_from r x c v u (rep.was q kept) on writer from = elim kept.writer_is [
    | inl same ↦ let all = was_written r x q v kept on same writer in from_was r c x q u kept.row all.0 all.1 all.2 from
    | inr R ↦
        let one : x ≡ R.x = some_inj x R.x (sym writer ∙ R.writer_is) in
        from_resumed r c q v.writer u kept.row R (subst (λ n. OwnFrom t e c n u) one from)
  ]
  apart_from r x c v u (rep.founded response w none at row founding made) on writer from =
      let writes : writer_at r response ≡ Some x = ap (λ (z : Representation). z.writer) made ∙ writer in
      let one : x ≡ r = sym (writer_is r x response writes) in
      from_head r c response w u at row (founded_shared r x response w (case_at t e) at row refl founding writes) (subst (λ n. OwnFrom t e c n u) one from)

  -- The exchange of a writing that is on is nobody's own.
  pub apart_kept : (r x c : ℕ) (v : Representation) (u : Consumer) → now_on.representation r ≡ Some v → is_written now_on v ≡ true → v.writer ≡ Some x →
      now_on.consumer c ≡ Some u → u.own ≡ Some x → ⊥
  apart_kept r x c v u row on writer also is =
      apart_from r x c v u (rep_from t e r (t.representation r) v refl row) (is_on now_on v x on writer) writer (own_from t e c x (t.consumer c) u refl also is)
