-- Whoever waits for a body asks for what is stored: its request isn't a bypassing one.
use Rattle.std.proofs.{lemmas.Bool.Decides.{nat_tests}, Common.{arith, ◌≡◌, ℕ, Bool, true, false, Option, Some, refl, ap, sym, ◌∙◌}}
use Rattle.hc_text.proofs.Basics.{same_some as same_row}
use Rattle.hc_effects.proofs.Vocabulary.{Request, Response, Need, is_conditional, is_bypassing, wait_in, has_loss, case_at, head_view, Entry, entry_of, Tables, Exchange, Consumer, after_accepted, event, need, wait, case, place}
use Rattle.hc_effects.proofs.{FirstKeeps.{case_of_head}, FoundBy.{CaseBy}, Forward.{is_kept}, Said.{waiting_by}, WaitedAs.{waited_as}, Step.{Step}}
use Rattle.hc_effects.proofs.FoundBy as cases
use Rattle.hc_laws.proofs.PassedFrom.{PassedFrom, passed_from}
use Rattle.hc_effects.proofs.WaitedAs as waited

-- only what validates is conditional
pub conditional_need : (n : Need) (request : Request) → is_conditional n request ≡ true → n ≡ need.Validate
conditional_need n request h = grind (arith, nat_tests)

validated_need : (t : Tables) (lost : Bool) (w : Exchange) (response : Response) → CaseBy (head_view t lost w response) case.Validated → w.need ≡ need.Validate
validated_need t lost w response (cases.validated way status conditional kept) = conditional_need w.need w.request conditional

module _ (step : Step) where
  open step use {limits, tables as t, now, flaw, sound as s, owners as o, event as ev, accepted as goes}

  abbrev e : Entry
  e = entry_of limits t now ev flaw

  -- those of one consumer are of one request
  plain_as : (c : ℕ) (u k : Consumer) → t.consumer c ≡ Some u → t.consumer c ≡ Some k → is_bypassing u.request ≡ false → is_bypassing k.request ≡ false
  plain_as c u k at row plain = sym (ap (λ (z : Consumer). is_bypassing z.request) (same_row (t.consumer c) u k at row)) ∙ plain

  validated : (c x : ℕ) (response : Response) (w : Exchange) (k : Consumer) → t.consumer c ≡ Some k → ev ≡ event.Head x response → t.exchange x ≡ Some w →
      w.c ≡ c → case_at t e ≡ Some case.Validated → is_bypassing k.request ≡ false
  validated c x response w k row here there mine is =
      let asks : w.need ≡ need.Validate = validated_need t (has_loss e.acts) w response (case_of_head t e x response w case.Validated here there is) in
      let opener = o.opener x w there in
      plain_as c opener.k k (sym (ap t.consumer mine) ∙ opener.row) row (opener.plain asks)

  busy : (c d : ℕ) (k : Consumer) → t.consumer c ≡ Some k → wait_in c e.acts ≡ Some (wait.Busy d) → is_bypassing k.request ≡ false
  busy c d k row is =
      let by_poll = waiting_by limits t now flaw s ev goes c (wait.Busy d) is in
      plain_as c by_poll.k k by_poll.poll.row row
      ((waited_as t now c by_poll.k (wait.Busy d) (waited.busy d) by_poll.want s by_poll.poll.row by_poll.move).plain d refl)

  plain_before : (c q : ℕ) (kept : Option ℕ) (k : Consumer) (row : t.consumer c ≡ Some k) → PassedFrom step c q kept k row → is_bypassing k.request ≡ false
  plain_before c q kept k row it5 = grind (arith, nat_tests, validated, busy)

  pub passed_kept : (c q : ℕ) (kept : Option ℕ) (u : Consumer) → (after_accepted t e).consumer c ≡ Some u → u.place ≡ place.Passed q kept →
      is_bypassing u.request ≡ false
  passed_kept c q kept u row stands =
      let before = passed_from step c q kept u row stands in
      let on = is_kept t e c before.k before.row in
      let same : on.u ≡ u = same_row ((after_accepted t e).consumer c) on.u u on.row row in
      ap is_bypassing (ap (λ (z : Consumer). z.request) (sym same) ∙ on.request_is) ∙ plain_before c q kept before.k before.row before.from
