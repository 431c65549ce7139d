use Rattle.std.{proofs.{Common.{◌≡◌, ◌<◌, ◌+◌, ◌^◌, ℕ, Bool, Option, Some, nat_eq, ap, sym, ◌∙◌, subst, arith}, Math.Logic.{∥∥₁_map}}, specs.{Prelude.{is_some, map}, HashMap.{get}}}
use Rattle.hc_record.specs.{Head.{Head}, Plain.{plain}}
use Rattle.hc_sparse.specs.Cells.{Cells}
use Rattle.hc_fresh.specs.{declared.facts.HeadFacts.{HeadFacts}, Facts.{head_facts, allowed}}
use Rattle.hc_rules.specs.{declared.request.Wanted.{Wanted}, Admissions.{admission_of}, Requests.{wanted_of}}
use Rattle.hc_entry.specs.Used.{bound_as}
use Rattle.hc_stored.specs.{Entries.{shelf_of}, Shelf.{cells_at}, Views.{bound_in}, declared.view.EntryView.{EntryView}}
use Rattle.hc_model.specs.Planning.{candidate}
use Rattle.hc_effects.proofs.PollKeeps.{current_stays}
use Rattle.hc_txn.specs.{declared.plan.Current.{Current}, Plans.{candidate_by, hole_in, plan_view_by}}
use Rattle.hc_txn.proofs.AdmissionPlans.{admissions-planned}
use Rattle.hc_state.specs.{Kept.{KeepsConsumer}, Plans.{HasCurrent}}
use Rattle.hc_state.proofs.{CurrentTies.{viewed_entry, entry_row, stays_stored}, Maps.{lent, known_of, some_that, merely_below, merely_ordered}, Ties.{kept_row}}
use Rattle.hc_on_poll.proofs.{CandidateTies.{seen_as, in_order, head_at_is, facts_kept, age_small}, PassesHandler.{current_as}}
use Rattle.hc_on_poll.proofs.candidate.decide.Goals as goal

pub kind_of-kind-requires : goal.kind_of-kind-requires
kind_of-kind-requires g c = record { stands = ∥∥₁_map c.requires.stands (λ u. u.0); entry = sym c.entry.ensures ∙ c.unwrap-entry.ensures }

pub current-current-requires-clause-reported : goal.current-current-requires-clause-reported
current-current-requires-clause-reported g c =
    let row = (shelf_of c.args.rows.now.entries).kept c.args.r in
    let (e, at, same) = facts_kept row c.unwrap-facts.result.now (lent c.facts.result _ c.unwrap-facts.result c.facts.ensures c.unwrap-facts.ensures) in
    sym same ∙ ap head_facts (head_at_is row e c.args.head.now at c.requires.current.head)

pub current-current-requires-clause-ordered : goal.current-current-requires-clause-ordered
current-current-requires-clause-ordered g c =
    let r = c.args.rows.now in
    let k = c.unwrap-consumer.result.now in
    let at = lent c.get.result (get nat_eq r.consumers c.args.c) c.unwrap-consumer.result c.get.ensures.value c.unwrap-consumer.ensures in
    merely_ordered k.class.range c.requires.stands (λ u.
    let s = u.0 in
    let t = s.t in
    let (v, row, kept) = kept_row t k (t.consumer c.args.c) (subst (λ o. KeepsConsumer t o (t.consumer c.args.c)) at (s.rows.consumers c.args.c)) in
    in_order t k v kept)

pub current-current-requires-clause-later : goal.current-current-requires-clause-later
current-current-requires-clause-later g c =
    let r = c.args.rows.now in
    let row = (shelf_of r.entries).kept c.args.r in
    let (e, at, same) = facts_kept row c.unwrap-facts.result.now (lent c.facts.result _ c.unwrap-facts.result c.facts.ensures c.unwrap-facts.ensures) in
    let below : e.head.answered < c.args.now + 1 = merely_below _ (c.args.now + 1) c.requires.stands (λ u.
    let s = u.0 in
    let t = s.t in
    let facts = s.facts in
    let (p, here, is) = entry_row r t s.rows c.args.r e at in
    let came = (facts.heads.moments c.args.r p here).1 in
    let alike = ap (λ (h : Head). h.answered) is.head in
    let until = u.1 in
    omega (arith, came, alike, until)) in
    let reported = ap (λ (f : HeadFacts). f.answered) same in
    omega (arith, below, reported)

pub current-current-requires-clause-small : goal.current-current-requires-clause-small
current-current-requires-clause-small g c =
    let r = c.args.rows.now in
    let row = (shelf_of r.entries).kept c.args.r in
    let (e, at, same) = facts_kept row c.unwrap-facts.result.now (lent c.facts.result _ c.unwrap-facts.result c.facts.ensures c.unwrap-facts.ensures) in
    let later = current-current-requires-clause-later g c in
    let reported = ap (λ (f : HeadFacts). f.answered) same in
    let early = c.requires.early in
    subst (λ (n : ℕ). n < 2 ^ 63) (ap (λ (f : HeadFacts). f.initial_age) same) (age_small e.head (omega arith))

pub returns : goal.returns
returns g c =
    let r = c.args.rows.now in
    let q = c.args.r in
    let now = c.args.now in
    let head = plain c.args.head.now in
    let k = c.unwrap-consumer.result.now in
    let seen = c.current-current.result in
    let shelved = (shelf_of r.entries).kept q in
    let all = map (bound_as c.kind_of-kind.result) (bound_in shelved) in
    let at = lent c.get.result (get nat_eq r.consumers c.args.c) c.unwrap-consumer.result c.get.ensures.value c.unwrap-consumer.ensures in
    some_that (get nat_eq r.consumers c.args.c) k _ at (λ limits t v p facts stands row here.
    let k_kept = subst (KeepsConsumer t (Some k)) row (subst (λ o. KeepsConsumer t o (t.consumer c.args.c)) at (stands.consumers c.args.c)) in
    let (e, kept, viewed) = viewed_entry shelved c.unwrap-entry.result (sym c.entry.ensures ∙ c.unwrap-entry.ensures) in
    let head_is = head_at_is shelved e c.args.head.now kept c.requires.current.head in
    let stays = current_stays t v.request.key q p
    (current_as r t k v q stands k_kept (known_of (get nat_eq r.consumers c.args.c) k (HasCurrent r.keys q) at c.requires.current.current)) here in
    let sees = seen_as r t facts stands now q k v k_kept p here stays e kept seen c.unwrap-entry.result c.args.head.now c.kind_of-kind.result
    c.admission-admission.result
    (ap (λ (s : Current). s.allowed) c.current-current.ensures ∙ ap (λ (h : Head). allowed h k.request now) (sym head_is)) viewed head_is
    (ap (λ (s : Current). s.vary) c.current-current.ensures)
    (ap (λ (s : Current). s.wanted) c.current-current.ensures
    ∙ (ap (λ (h : Head). wanted_of k.class.range h.total) (sym head_is) ∙ ap (λ (z : EntryView). wanted_of k.class.range z.total) viewed))
    (ap (λ (s : Current). s.hole) c.current-current.ensures
    ∙ (ap (λ (f : Cells). hole_in f (wanted_of k.class.range head.total)) c.bytes.ensures
    ∙ ap (λ (w : Wanted). hole_in (cells_at (shelf_of r.entries) q) w) (sym (ap (λ (s : Current). s.wanted) c.current-current.ensures))))
    (c.kind_of-kind.ensures _ t p facts stands here (stays_stored t facts.law q p here stays))
    (c.admission-admission.ensures
    ∙ (ap (λ (b : Bool). admission_of all b c.has_holes.result) c.is_some-ranged.ensures
    ∙ ap (λ (b : Bool). admission_of all (is_some k.class.range) b) c.has_holes.ensures)) in
    c.decide.ensures ∙ admissions-planned (plan_view_by now c.args.c c.args.turn (candidate_by c.admission-admission.result seen) k) seen
    c.admission-admission.result (candidate t now q v.request p) _ sees)
