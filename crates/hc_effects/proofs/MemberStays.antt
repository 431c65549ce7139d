-- Whoever reads what is being written for several goes on reading it until it leaves: it waits for no head, and so
-- stays where it is bound.
use Rattle.std.proofs.Common.{◌≡◌, ℕ, true, false, Option, Some, None, ap, sym, ◌∙◌, refl}
use Rattle.hc_text.proofs.Basics.{same_some as same_row}
use Rattle.hc_effects.proofs.Vocabulary.{leaves_in, Response, BoundBy, Entry, entry_of, is_written, Exchange, Representation, Consumer, IsBound, after_accepted, event, place}
use Rattle.hc_model.specs.Sound as sound
use Rattle.hc_effects.proofs.{BoundStays.{bound_stays}, FirstKeeps.{is_new}, Waiters.{waiter_of, unwritten}, Step.{Step}}

module _ (step : Step) where
  open step use {limits, tables as t, now, flaw, sound as s, event as ev, accepted as goes}

  abbrev e : Entry
  e = entry_of limits t now ev flaw

  module _ (c r lo : ℕ) (hi : Option ℕ) (how : BoundBy) (k : Consumer) (v : Representation) (row : t.consumer c ≡ Some k)
      (at : k.place ≡ place.Bound r lo hi how) (there : t.representation r ≡ Some v) (on : is_written t v ≡ true) where
    -- it waits for no head
    pub no_waiter : (y : ℕ) (w : Exchange) → t.exchange y ≡ Some w → w.is_open ≡ true → w.head ≡ None → w.c ≡ c → ⊥
    no_waiter y w exchange_row opened bare mine =
        let got = waiter_of step y w exchange_row opened bare in
        let one : got.0 ≡ k = same_row (t.consumer c) got.0 k (sym (ap t.consumer mine) ∙ got.1.row) row in
        unwritten step w.c y got.0 w got.1 r lo hi how v v.writer (ap (λ (z : Consumer). z.place) one ∙ at) there on refl

    pub head_not : (x : ℕ) (response : Response) (w : Exchange) → ev ≡ event.Head x response → t.exchange x ≡ Some w → w.c ≡ c → ⊥
    head_not x response w here exchange_row mine = let new = is_new limits t now flaw s ev goes x response w here exchange_row in
        no_waiter x w exchange_row new.is_open new.bare mine

    -- it is bound as it was
    pub member_stays : (ev ≡ event.Cancel c → ⊥) → leaves_in c e.acts ≡ false → (u : Consumer) × IsBound (after_accepted t e) r c u
    member_stays uncancelled stays =
        let st = bound_stays step c r lo hi how k row at no_waiter uncancelled stays in
        (st.u, sound.is_bound lo hi how st.after st.stands)
