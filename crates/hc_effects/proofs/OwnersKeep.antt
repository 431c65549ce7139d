-- Whose an exchange is stays told: what is opened is of its consumer's key, and an own one is of one consumer alone.
--
-- An exchange was there, or is opened by its consumer's move, which tells whose it is (`is_opened`, `openers_kept`). An
-- own exchange was kept, is opened now, or was that of a writing that is lost (`left_group`). A new number is that of
-- no exchange (`new_number`), and a writing is left to one alone (`both_left`). So of each pair of these ways both are
-- one consumer (`one_from`). `first_kept` and `writers_kept` go alike.
use Rattle.std.{proofs.{lemmas.Bool.Decides.{nat_tests}, Common.{◌≡◌, ℕ, ◌+◌, true, false, Option, Some, None, refl, ap, sym, ◌∙◌, subst, arith}}, specs.Prelude.{is_some}}
use Rattle.hc_text.proofs.Basics.{not_some as none_some, and_left, and_right, same_some as same_row}
use Rattle.hc_effects.proofs.Vocabulary.{Opening, opening_in, Request, is_bypassing, Place, loses_in, Entry, exchange_opened, family, entry_of, IsFor, is_written, Tables, Exchange, Representation, Consumer, after_accepted, loses_group, survivor, event, place, by}
use Rattle.hc_model.specs.Owners.{IsOpener}
use Rattle.hc_effects.proofs.{BoundFrom.{BoundFrom, bound_from}, ExchangeFrom.{ExchangeFrom, exchange_from}, Forward.{is_on, is_kept, opened_on}, NumbersKeep.{opens_next}, OpenedAs.{OpenedAs, opened_as}, OwnFrom.{OwnFrom, own_from, IsLeft}, RepFrom.{RepFrom, rep_from}, Said.{opening_by}, Step.{Step}}
use Rattle.hc_effects.proofs.BoundFrom as bound
use Rattle.hc_effects.proofs.ExchangeFrom as exchange
use Rattle.hc_effects.proofs.OwnFrom as own

module _ (step : Step) where
  open step use {limits, tables as t, now, flaw, sound as s, owners as o, event as ev, accepted as goes}

  abbrev e : Entry
  e = entry_of limits t now ev flaw

  abbrev now_on : Tables
  now_on = after_accepted t e

  -- OPENERS

  opener_on : (x : ℕ) (w u : Exchange) → IsOpener t w → u.c ≡ w.c → u.request ≡ w.request → u.need ≡ w.need → IsOpener now_on u
  opener_on x w u before c_is request_is need_is =
      let on = is_kept t e w.c before.k before.row in
      record {
        k = on.u;
        row = subst (λ c. now_on.consumer c ≡ Some on.u) (sym c_is) on.row;
        key_is = ap (λ (z : Request). z.key) request_is ∙ (before.key_is ∙ sym (ap (λ (z : Request). z.key) on.request_is));
        method_is = ap (λ (z : Request). z.method) request_is ∙ (before.method_is ∙ sym (ap (λ (z : Request). z.method) on.request_is));
        plain = λ is. ap is_bypassing on.request_is ∙ before.plain (sym need_is ∙ is);
      }

  -- what is opened is opened as its consumer's move says
  pub record IsOpened (p : Opening) : Type 0 where
    pub k : Consumer
    pub row : t.consumer p.c ≡ Some k
    pub want : ℕ
    pub at : ev ≡ event.Poll p.c want
    pub way : OpenedAs t now p.c k p.need p.request

  pub is_opened : (p : Opening) → opening_in e.acts ≡ Some p → IsOpened p
  is_opened p is =
      let opens = opening_by limits t now flaw s ev goes p is in
      record {
        k = opens.k;
        row = opens.poll.row;
        want = opens.want;
        at = opens.poll.at;
        way =
            opened_as t now p.c opens.k opens.want p s opens.poll.row opens.move;
      }

  opener_from : (x : ℕ) (u : Exchange) → ExchangeFrom t e x u → IsOpener now_on u
  opener_from x u (exchange.was w row same) = opener_on x w u (o.opener x w row) same.c_is same.request_is same.need_is
  opener_from x u (exchange.new p none is here made) =
      let opened = is_opened p is in
      let on = is_kept t e p.c opened.k opened.row in
      subst (IsOpener now_on) made (record {
        k = on.u;
        row = on.row;
        key_is = opened.way.key_is ∙ sym (ap (λ (z : Request). z.key) on.request_is);
        method_is = opened.way.method_is ∙ sym (ap (λ (z : Request). z.method) on.request_is);
        plain = λ at. ap is_bypassing on.request_is ∙ opened.way.plain at;
      })

  pub openers_kept : (x : ℕ) (u : Exchange) → now_on.exchange x ≡ Some u → IsOpener now_on u
  openers_kept x u row = opener_from x u (exchange_from t e x (t.exchange x) u refl row)

  -- OWN EXCHANGES

  -- a new number is that of no exchange
  pub new_number : (p : Opening) (x : ℕ) → opening_in e.acts ≡ Some p → p.x ≡ x → t.exchange x ≡ None
  new_number p x is here =
      let next : p.x ≡ t.opened + 1 = opens_next limits t now flaw s ev p goes is in
      s.numbered.lists.new_exchanges x (omega arith)

  -- the writing that is lost
  pub record IsOpenGroup (x r : ℕ) (v : Representation) : Type 0 where
    pub row : t.representation r ≡ Some v
    pub written : is_written t v ≡ true
    pub loses : loses_in r e.acts ≡ true
    pub w : Exchange
    pub exchange_row : t.exchange x ≡ Some w
    pub family_is : family x w ≡ r
    pub headed : is_some w.head ≡ true

  pub left_group : (c x : ℕ) (p : Place) (l : IsLeft t e c x p) → IsOpenGroup x l.r l.v
  left_group c x p l =
      let losing : loses_group t e l.r l.v ≡ true = l.loses in
      let on : is_written t l.v ≡ true = and_right _ _ losing in
      let grows = (s.rows l.r l.v l.row).growing x on l.writer_is in
      let g = grows.1 in
      record {
        row = l.row;
        written = on;
        loses = and_right _ _ (and_left _ _ losing);
        w = grows.0;
        exchange_row = g.row;
        family_is = g.family_is;
        headed = g.headed;
      }

  there_by : (x : ℕ) → is_some (t.exchange x) ≡ true → is_some (now_on.exchange x) ≡ true
  there_by x there = exchange.stays t e x (t.exchange x) there

  there_from : (c x : ℕ) (u : Consumer) → OwnFrom t e c x u → is_some (now_on.exchange x) ≡ true
  there_from c x u (own.kept k row before heard) = there_by x (o.there c x k row.row before)
  there_from c x u (own.opened k p row is here this) = ap is_some (opened_on t e x p (t.exchange x) (new_number p x is this) is this)
  there_from c x u (own.left k row l) = there_by x (ap is_some (left_group c x _ l).exchange_row)

  pub there_kept : (c x : ℕ) (u : Consumer) → now_on.consumer c ≡ Some u → u.own ≡ Some x → is_some (now_on.exchange x) ≡ true
  there_kept c x u row is = there_from c x u (own_from t e c x (t.consumer c) u refl row is)

  -- ONE OWNER

  kept_new : (c x : ℕ) (k : Consumer) (p : Opening) → t.consumer c ≡ Some k → k.own ≡ Some x → opening_in e.acts ≡ Some p → p.x ≡ x → ⊥
  kept_new c x k p row is opens here = let never : false ≡ true = sym (ap is_some (new_number p x opens here)) ∙ o.there c x k row is in cc

  left_new : (c x : ℕ) (q : Place) (l : IsLeft t e c x q) (p : Opening) → opening_in e.acts ≡ Some p → p.x ≡ x → ⊥
  left_new c x q l p opens here = none_some (left_group c x q l).w (sym (new_number p x opens here) ∙ (left_group c x q l).exchange_row)

  kept_left : (c d x : ℕ) (k : Consumer) (q : Place) (l : IsLeft t e d x q) → t.consumer c ≡ Some k → k.own ≡ Some x → ⊥
  kept_left c d x k q l row is = o.apart l.r x c l.v k l.row (left_group d x q l).written l.writer_is row is

  both_left : (c d x : ℕ) (p q : Place) (l : IsLeft t e c x p) (m : IsLeft t e d x q) → c ≡ d
  both_left c d x p q l m =
      let a = left_group c x p l in
      let b = left_group d x q m in
      let one : a.w ≡ b.w = same_row (t.exchange x) a.w b.w a.exchange_row b.exchange_row in
      let same : l.r ≡ m.r = sym a.family_is ∙ (ap (family x) one ∙ b.family_is) in
      let row : l.v ≡ m.v = same_row (t.representation m.r) l.v m.v (sym (ap t.representation same) ∙ l.row) m.row in
      let survives : survivor t m.r m.v ≡ Some c = sym (ap (λ r. survivor t r m.v) same) ∙ (sym (ap (survivor t l.r) row) ∙ l.survives) in
      same_row (survivor t m.r m.v) c d survives m.survives

  one_from : (c d x : ℕ) (k u : Consumer) → OwnFrom t e c x k → OwnFrom t e d x u → c ≡ d
  one_from c d x k u (own.kept a row is heard) (own.kept b also too heard_too) = o.one c d x a b row.row also.row is too
  one_from c d x k u (own.kept a row is heard) (own.opened b p also opens here this) = absurd (kept_new c x a p row.row is opens this)
  one_from c d x k u (own.kept a row is heard) (own.left b also l) = absurd (kept_left c d x a _ l row.row is)
  one_from c d x k u (own.opened a p row opens here this) (own.kept b also too heard_too) = absurd (kept_new d x b p also.row too opens this)
  one_from c d x k u (own.opened a p row opens here this) (own.opened b q also opens_too there that) = sym here ∙
      (ap (λ (z : Opening). z.c) (same_row (opening_in e.acts) p q opens opens_too) ∙ there)
  one_from c d x k u (own.opened a p row opens here this) (own.left b also l) = absurd (left_new d x _ l p opens this)
  one_from c d x k u (own.left a row l) (own.kept b also too heard_too) = absurd (kept_left d c x b _ l also.row too)
  one_from c d x k u (own.left a row l) (own.opened b q also opens here that) = absurd (left_new c x _ l q opens that)
  one_from c d x k u (own.left a row l) (own.left b also m) = both_left c d x _ _ l m

  pub one_kept : (c d x : ℕ) (k u : Consumer) → now_on.consumer c ≡ Some k → now_on.consumer d ≡ Some u → k.own ≡ Some x → u.own ≡ Some x → c ≡ d
  one_kept c d x k u row also is too = one_from c d x k u (own_from t e c x (t.consumer c) k refl row is) (own_from t e d x (t.consumer d) u refl also too)

  -- FIRST HOLES ARE THEIR CONSUMERS' OWN

  for_on : (y c : ℕ) → IsFor t y c → IsFor now_on y c
  for_on y c f = let on = is_on t e y f.w f.row in record { w = on.u; row = on.row; for_it = on.same.c_is ∙ f.for_it }

  first_inj : (y z : ℕ) → by.FirstHole y ≡ by.FirstHole z → y ≡ z
  first_inj y z is = cc

  first_from : (c r lo y : ℕ) (hi : Option ℕ) (u : Consumer) → BoundFrom t e c r lo hi (by.FirstHole y) u → IsFor now_on y c
  first_from c r lo y hi u (bound.stays k row at) = for_on y c (o.first_own c r lo y hi k row.row at)
  first_from c r lo y hi u (bound.founds k x response w row at there here of_r by_is all) = absurd (let never : by.FirstHole y ≡ by.Founding = by_is in cc)
  first_from c r lo y hi u (bound.opens k p row is here free way hole) =
      let same : p.x ≡ y = sym (first_inj y p.x hole.by_is) in
      record { w = exchange_opened t e p; row = opened_on t e y p (t.exchange y) (new_number p y is same) is same; for_it = here }
  first_from c r lo y hi u (bound.shows k z row is all) = absurd (let never : by.FirstHole y ≡ by.Plan = all.by_is in cc)

  pub first_kept : (c r lo y : ℕ) (hi : Option ℕ) (u : Consumer) → now_on.consumer c ≡ Some u → u.place ≡ place.Bound r lo hi (by.FirstHole y) →
      IsFor now_on y c
  first_kept c r lo y hi u row at = first_from c r lo y hi u (bound_from t e c r lo hi (by.FirstHole y) (t.consumer c) u refl row at)

  -- WRITERS

  writer_from : (r x : ℕ) (u : Representation) → RepFrom t e r u → u.writer ≡ Some x → is_some (t.exchange x) ≡ true
  writer_from r x u it3 is = grind (arith, nat_tests)

  pub writers_kept : (r x : ℕ) (u : Representation) → now_on.representation r ≡ Some u → u.writer ≡ Some x → is_some (now_on.exchange x) ≡ true
  writers_kept r x u row is = there_by x (writer_from r x u (rep_from t e r (t.representation r) u refl row) is)
