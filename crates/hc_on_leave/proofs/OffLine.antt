-- Who stands elsewhere doesn't wait for its key.
use Rattle.std.{proofs.Common.{◌≡◌, ℕ, List, false, Some, refl, sym, subst}, specs.{Prelude.{◌||◌, bytes_eq, nat_eq}, HashMap.{get}}}
use Rattle.hc_text.proofs.Basics.{false_true, and_off}
use Rattle.hc_entry.specs.{Keys.{line_of}, Lines.{is_in}}
use Rattle.hc_event.specs.declared.place.Place.{Place}
use Rattle.hc_event.specs.declared.place.Place.TheVariants as place
use Rattle.hc_event.specs.declared.place.BoundBy.TheVariants as by
use Rattle.hc_store.specs.declared.backend.Backend.{Ghosts}
use Rattle.hc_rules.specs.declared.room.Limits.{Limits}
use Rattle.hc_model.specs.{Lines.{is_in_line, stands_in_line}, Planning.{has_passed}, Rows.{Tables}}
use Rattle.hc_model.specs.Rows as rows
use Rattle.hc_state.specs.{declared.rows.Rows.{Rows}, Kept.{KeepsConsumer}, Lines.{is_passed, is_away, is_away_at}, Stands.{RowsStand}}
use Rattle.hc_txn.specs.declared.transaction.Transaction.{Transaction as Consumer}
use Rattle.hc_state.proofs.{KeySteps.{not_lined}, Ties.{kept_row}}
use Rattle.hc_on_leave.specs.Leaves.{may_wait}

elsewhere : (t : Tables) (key : List ℕ) (v : rows.Consumer) → stands_in_line v.place ≡ false → has_passed v.place ≡ false → is_away_at t v.place ≡ false
    → (is_in_line key (Some v) || is_passed key (Some v) || is_away t key (Some v)) ≡ false
elsewhere t key v off unpassed here =
    let line = not_lined key v off in
    let passed = and_off (bytes_eq v.request.key key) (has_passed v.place) unpassed in
    let away = and_off (bytes_eq v.request.key key) (is_away_at t v.place) here in
    rw (line, passed, away) refl

stands_off : (p : Place) → may_wait p ≡ false → stands_in_line p ≡ false
stands_off place.Line off = cc
stands_off (place.Passed r kept) off = refl
stands_off (place.Turn x) off = cc
stands_off (place.Bound r lo hi how) off = refl
stands_off (place.Direct x) off = refl
stands_off (place.Down why) off = refl
stands_off place.Over off = refl

unpassed_off : (p : Place) → may_wait p ≡ false → has_passed p ≡ false
unpassed_off place.Line off = refl
unpassed_off (place.Passed r kept) off = cc
unpassed_off (place.Turn x) off = refl
unpassed_off (place.Bound r lo hi how) off = refl
unpassed_off (place.Direct x) off = refl
unpassed_off (place.Down why) off = refl
unpassed_off place.Over off = refl

here_off : (t : Tables) (p : Place) → may_wait p ≡ false → is_away_at t p ≡ false
here_off t place.Line off = refl
here_off t (place.Passed r kept) off = refl
here_off t (place.Turn x) off = refl
here_off t (place.Bound r lo hi by.Founding) off = refl
here_off t (place.Bound r lo hi (by.FirstHole x)) off = absurd (false_true (sym off))
here_off t (place.Bound r lo hi by.Plan) off = refl
here_off t (place.Direct x) off = refl
here_off t (place.Down why) off = refl
here_off t place.Over off = refl

-- a consumer that doesn't stand where one waits isn't in line, passed or away
pub off_line : {B : Type 0} {g : Ghosts B} {limits : Limits} (r : Rows B g) (t : Tables) (c : ℕ) (k : Consumer) → get nat_eq r.consumers c ≡ Some k
    → RowsStand limits r t → may_wait k.place ≡ false → is_in c (line_of r.keys k.request.key) ≡ false
off_line r t c k at stands off =
    let found = kept_row t k (t.consumer c) (subst (λ o. KeepsConsumer t o (t.consumer c)) at (stands.consumers c)) in
    let key = k.request.key in
    let kept = stands.keys key in
    let there = subst (λ p. may_wait p ≡ false) found.2.place off in
    rw (kept.in_line c, kept.passed c, kept.away c, found.1)
    (elsewhere t key found.0 (stands_off found.0.place there) (unpassed_off found.0.place there) (here_off t found.0.place there))
