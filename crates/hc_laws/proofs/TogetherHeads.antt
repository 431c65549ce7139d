-- Whose exchange is written together from now on had its head come: that joined what it is bound to.
use Rattle.std.proofs.Common.{◌≡◌, ◌⊎◌, inl, inr, ℕ, true, Option, Some, None, ap, sym, ◌∙◌}
use Rattle.hc_text.proofs.Basics.{same_some as same_row}
use Rattle.hc_effects.proofs.Vocabulary.{route_of, BoundBy, case_at, is_joining, Entry, entry_of, Exchange, Consumer, route, place}
use Rattle.hc_effects.proofs.{BoundFrom.{IsRow}, ExchangeFrom.{IsHeaded, IsSame}, FirstKeeps.{IsNew, is_new}, Forward.{IsOn, is_on}, HeadKeeps.{IsJoin}, Waiters.{IsWaiter, waiter_of}, Step.{Step}}
use Rattle.hc_effects.proofs.HeadTo as to
use Rattle.hc_laws.proofs.OwnNone.{IsShared}

module _ (step : Step) where
  open step use {limits, tables as t, now, flaw, sound as s, event as ev, accepted as goes}

  abbrev e : Entry
  e = entry_of limits t now ev flaw

  module _ (r c lo : ℕ) (hi : Option ℕ) (how : BoundBy) (k u : Consumer) (row : IsRow t e c r lo hi how k u) (at : k.place ≡ place.Bound r lo hi how)
      (stands : u.place ≡ place.Bound r lo hi how) (none : u.due ≡ None) (sh : IsShared t e c) where
    new : IsNew limits t now flaw s ev goes sh.x sh.w
    new = is_new limits t now flaw s ev goes sh.x sh.response sh.w sh.at sh.row

    waits : (q : Consumer) × IsWaiter t sh.w.c sh.x q sh.w
    waits = waiter_of step sh.x sh.w sh.row new.is_open new.bare

    owned_k : k.own ≡ Some sh.x
    owned_k = let all = waits in ap (λ (q : Consumer). q.own) (sym (same_row (t.consumer c) all.0 k (sym (ap t.consumer sh.mine) ∙ all.1.row) row.row)) ∙
        all.1.own

    pub on : IsOn t e sh.x sh.w
    on = is_on t e sh.x sh.w sh.row

    by_heard : (a : Exchange) (same : IsSame t e sh.x sh.w a) → ((a.head ≡ sh.w.head) × (a.joined ≡ sh.w.joined)) ⊎ IsHeaded t e sh.x sh.w a →
        IsHeaded t e sh.x sh.w a
    by_heard a same (inl still) = absurd (same.unheard (still.0 ∙ new.bare) sh.response sh.at)
    by_heard a same (inr got) = got

    pub got : IsHeaded t e sh.x sh.w on.u
    got = by_heard on.u on.same on.same.heard_or

    pub joins : is_joining (case_at t e) ≡ true
    joins = to.joins step r c sh.x lo hi how k u sh.w on.u row at stands none owned_k sh.row on.same got

    pub joined : IsJoin t sh.w got.response
    joined = to.joined step r c sh.x lo hi how k u sh.w on.u row at stands none owned_k sh.row on.same got

    pub way : (route_of sh.w.need ≡ route.Hole) × (sh.w.aim ≡ Some r)
    way = to.way step r c sh.x lo hi how k u sh.w on.u row at stands none owned_k sh.row on.same got
