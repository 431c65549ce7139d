-- The open exchange of who is bound is about what that is bound to.
--
-- Without a head its consumer waits for it, bound to what it asks about (`by_waiting`). With one, by where the own
-- exchange comes from (`by_from`): it was its own and still is of what it was, as its reader stays there
-- (`kept_about`); its head comes now and leaves its consumer at what it founds or joins (`by_head`); or a writing is
-- left to it, of what it reads (`left_about`). `own_about_kept` joins these.
use Rattle.std.{proofs.{lemmas.Bool.Decides.{nat_tests}, Common.{arith, ◌≡◌, ◌⊎◌, inl, inr, ℕ, Bool, true, Option, Some, None, refl, ap, sym, ◌∙◌}}, specs.{Prelude.{if◌then◌else◌, is_some, unwrap_or}, Option.{option_and_then}}}
use Rattle.hc_text.proofs.Basics.{not_some as none_some, same_some as same_row}
use Rattle.hc_effects.proofs.Vocabulary.{Response, BoundBy, consumer_heard, Entry, is_open, family, entry_of, IsAwaiting, Awaits, own_open, if_open, Tables, Exchange, Consumer, may_stand, IsBound, IsAbout, after_accepted, event, place}
use Rattle.hc_model.specs.Owners as owners
use Rattle.hc_model.specs.Sound as sound
use Rattle.hc_effects.proofs.{Basics.{false_true}, ExchangeFrom.{ExchangeFrom, IsSame, IsHeaded, exchange_from}, FirstKeeps.{is_new}, HeadedAs.{HeadedAs, headed_as, heard_at}, OpensFrom.{hole_is}, OwnFrom.{OwnFrom, IsRow, IsLeft, own_from}, OwnersKeep.{new_number, one_kept, left_group}, ReadingKeeps.{reader_stays, head_some, unpolled, left_body}, WaitingKeeps.{waiting_kept}, Step.{Step}}
use Rattle.hc_effects.proofs.BoundFrom as from
use Rattle.hc_effects.proofs.ExchangeFrom as exchange
use Rattle.hc_effects.proofs.HeadedAs as head
use Rattle.hc_effects.proofs.OwnFrom as own
use Rattle.hc_effects.proofs.RepFrom as rep

-- an own open exchange
pub record IsOwn (t : Tables) (k : Consumer) (x : ℕ) : Type 0 where
  pub own : k.own ≡ Some x
  pub w : Exchange
  pub row : t.exchange x ≡ Some w
  pub opened : w.is_open ≡ true

own_by : (t : Tables) (k : Consumer) (x : ℕ) (z : Option ℕ) → k.own ≡ z → option_and_then (if_open t) z ≡ Some x → IsOwn t k x
own_by t k x z mine h = grind (arith, nat_tests)

pub own_open_of : (t : Tables) (k : Consumer) (x : ℕ) → own_open t k ≡ Some x → IsOwn t k x
own_open_of t k x h = own_by t k x k.own refl h

pub own_open_is : (t : Tables) (k : Consumer) (x : ℕ) → IsOwn t k x → own_open t k ≡ Some x
own_open_is t k x is = ap (option_and_then (if_open t)) is.own ∙ ap (λ (v : Bool). if v then Some x else None) (ap is_open is.row ∙ is.opened)

module _ (step : Step) where
  open step use {limits, tables as t, now, flaw, sound as s, owners as o, event as ev, accepted as goes}

  abbrev e : Entry
  e = entry_of limits t now ev flaw

  abbrev now_on : Tables
  now_on = after_accepted t e

  -- where its head hasn't come
  module _ (c r x lo : ℕ) (hi : Option ℕ) (how : BoundBy) (u : Consumer) (row : now_on.consumer c ≡ Some u) (stands : u.place ≡ place.Bound r lo hi how)
      (is : IsOwn now_on u x) where
    asking : (a : Consumer) → a ≡ u → is.w.head ≡ None → IsAwaiting x is.w a.place → IsAbout now_on r x
    asking a same bare (owners.direct way at) =
        absurd (let no : place.Direct x ≡ place.Bound r lo hi how = sym at ∙ (ap (λ (q : Consumer). q.place) same ∙ stands) in cc)
    asking a same bare (owners.turn way at) =
        absurd (let no : place.Turn x ≡ place.Bound r lo hi how = sym at ∙ (ap (λ (q : Consumer). q.place) same ∙ stands) in cc)
    asking a same bare (owners.hole q l h g way aim at) =
        let p = from.place_inj q l h g r lo hi how (sym at ∙ (ap (λ (q : Consumer). q.place) same ∙ stands)) in
        let hole = hole_is is.w.need way in
        sound.asks is.w hole.from hole.to is.row is.opened bare hole.is (aim ∙ ap Some p.number)

    by_waiting : is.w.head ≡ None → Awaits now_on x is.w → IsAbout now_on r x
    by_waiting bare a =
        let mine : is.w.c ≡ c = one_kept step is.w.c c x a.k u a.row row a.own is.own in
        asking a.k (same_row (now_on.consumer c) a.k u (sym (ap now_on.consumer mine) ∙ a.row) row) bare a.at

    -- WHERE IT HAS COME

    there : (q : ℕ) → is_some (t.representation q) ≡ true → is_some (now_on.representation q) ≡ true
    there q is_there = rep.stays t e q (t.representation q) is_there

    module _ (headed : is_some is.w.head ≡ true) where
      of_family : family x is.w ≡ r → is_some (now_on.representation r) ≡ true → IsAbout now_on r x
      of_family same is_there = sound.headed is.w is.row is.opened headed same is_there

      still : (w : Exchange) → is.w.joined ≡ w.joined → family x w ≡ r → is_some (t.representation r) ≡ true → IsAbout now_on r x
      still w joined same is_there = of_family (ap (λ (z : Option ℕ). unwrap_or z x) joined ∙ same) (there r is_there)

      was_about : (w : Exchange) → t.exchange x ≡ Some w → is_some w.head ≡ true → is.w.joined ≡ w.joined → IsAbout t r x → IsAbout now_on r x
      was_about w is_row had joined (sound.headed q row on some fam is_there) =
          still w joined (ap (family x) (same_row (t.exchange x) w q is_row row) ∙ fam) is_there
      was_about w is_row had joined (sound.asks q a z row on bare needs aim) =
          absurd (false_true (sym (ap (λ (p : Option Response). is_some p) bare) ∙
          (ap (λ (p : Exchange). is_some p.head) (same_row (t.exchange x) q w row is_row) ∙ had)))

      by_head : (k : Consumer) (w : Exchange) (response : Response) → ev ≡ event.Head x response → t.exchange x ≡ Some w →
          HeadedAs step x response w k.place u.place is.w → IsAbout now_on r x
      by_head k w response here is_row (head.direct at) = absurd (let no : place.Direct x ≡ place.Bound r lo hi how = sym at ∙ stands in cc)
      by_head k w response here is_row (head.founds l h g at on joined) =
          let p = from.place_inj x l h g r lo hi how (sym at ∙ stands) in
          let founded : is_some (now_on.representation x) ≡ true = rep.founds t e x response w (t.representation x) here is_row on in
          of_family (ap (λ (z : Option ℕ). unwrap_or z x) joined ∙ p.number) (ap (λ n. is_some (now_on.representation n)) (sym p.number) ∙ founded)
      by_head k w response here is_row (head.joins q l h g was at aim on joined) =
          let p = from.place_inj q l h g r lo hi how (sym at ∙ stands) in
          of_family (ap (λ (z : Option ℕ). unwrap_or z x) joined ∙ p.number)
          (there r (ap (λ n. is_some (t.representation n)) (sym p.number) ∙ s.numbered.names.aims x q w is_row aim))

      kept_about : (k : Consumer) (w : Exchange) → IsRow t e c x k u → k.own ≡ Some x → t.exchange x ≡ Some w → IsSame t e x w is.w → IsAbout now_on r x
      kept_about k w rows mine is_row same = by_heard same.heard_or
        where
          by_heard : ((is.w.head ≡ w.head) × (is.w.joined ≡ w.joined)) ⊎ IsHeaded t e x w is.w → IsAbout now_on r x
          by_heard (inl all) =
              let had = head_some step w is.w all.0 headed in
              let reading = o.reading c x k w rows.row mine is_row (same.was_open is.opened) had in
              let stays : u.place ≡ k.place = reader_stays step c x k u w is.w rows mine is.own is_row had is.row same is.opened reading in
              let was : IsBound t r c k = sound.is_bound lo hi how rows.row (sym stays ∙ stands) in
              was_about w is_row had all.1
              (s.writes.own_about r c x k was (own_open_is t k x (record { own = mine; w = w; row = is_row; opened = same.was_open is.opened })))
          by_heard (inr got) = by_head k w got.response got.at is_row (headed_as step c x k u w is.w got.response got.at rows mine is_row is.row same is.opened)

      left_about : (k : Consumer) → IsRow t e c x k u → (l : IsLeft t e c x (consumer_heard t e c ev k).place) → ExchangeFrom t e x is.w → IsAbout now_on r x
      left_about k rows l (exchange.new p none opens here made) = absurd (none_some _ (sym none ∙ (left_group step c x _ l).exchange_row))
      left_about k rows l (exchange.was w is_row same) =
          let writer_group = left_group step c x _ l in
          let at : u.place ≡ place.Bound l.r l.lo l.hi l.how =
          heard_at step c x k u (λ d want polls. unpolled step d want polls (left_body step c x _ l)) rows ∙ l.at in
          let p = from.place_inj l.r l.lo l.hi l.how r lo hi how (sym at ∙ stands) in
          let one : writer_group.w ≡ w = same_row (t.exchange x) writer_group.w w writer_group.exchange_row is_row in
          by_heard writer_group.headed one (ap (family x) (sym one) ∙ (writer_group.family_is ∙ p.number))
          (ap (λ n. is_some (t.representation n)) (sym p.number) ∙ ap is_some writer_group.row) same.heard_or
        where
          by_heard : {q : Exchange} → is_some q.head ≡ true → q ≡ w → family x w ≡ r → is_some (t.representation r) ≡ true →
              ((is.w.head ≡ w.head) × (is.w.joined ≡ w.joined)) ⊎ IsHeaded t e x w is.w → IsAbout now_on r x
          by_heard had one fam is_there (inl all) = still w all.1 fam is_there
          by_heard had one fam is_there (inr got) =
              let bare = (is_new limits t now flaw s ev goes x got.response w got.at is_row).bare in
              absurd (false_true (sym (ap (λ (z : Option Response). is_some z) bare) ∙ (ap (λ (z : Exchange). is_some z.head) (sym one) ∙ had)))

      by_from : ExchangeFrom t e x is.w → OwnFrom t e c x u → IsAbout now_on r x
      by_from (exchange.was w is_row same) (own.kept k rows mine heard) = kept_about k w rows mine is_row same
      by_from (exchange.new p none opens here made) (own.kept k rows mine heard) = absurd (false_true (ap is_some (sym none) ∙ o.there c x k rows.row mine))
      by_from (exchange.was w is_row same) (own.opened k p rows opens here this) = absurd (none_some w (sym (new_number step p x opens this) ∙ is_row))
      by_from (exchange.new q none opens here made) (own.opened k p rows also mine this) =
          absurd (false_true (ap (λ (a : Exchange). is_some a.head) made ∙ headed))
      by_from exchange_is (own.left k rows l) = left_about k rows l exchange_is

    by_test : may_stand limits t e ≡ true → (z : Option Response) → is.w.head ≡ z → IsAbout now_on r x
    by_test stand None bare = by_waiting bare (waiting_kept step stand x is.w is.row is.opened bare)
    by_test stand (Some response) some =
        by_from (ap (λ (z : Option Response). is_some z) some) (exchange_from t e x (t.exchange x) is.w refl is.row)
        (own_from t e c x (t.consumer c) u refl row is.own)

  -- Whose open exchange it is, and who is bound, is bound to what that is about.
  pub own_about_kept : may_stand limits t e ≡ true → (r c x : ℕ) (u : Consumer) → IsBound now_on r c u → own_open now_on u ≡ Some x → IsAbout now_on r x
  own_about_kept stand r c x u (sound.is_bound lo hi how row stands) own =
      let is = own_open_of now_on u x own in
      by_test c r x lo hi how u row stands is stand is.w.head refl
