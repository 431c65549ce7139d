-- An exchange that ends, whose head told no length, is answered.
--
-- Nothing is short then, so no failure is due (`unfailing`). Past the store only its consumer learns the length
-- (`past_answered`). What it founded begins at byte 0 and is all stored (`measured`). It may be gone before, be sealed
-- as whole, or be lost as the seal fails. What isn't gone is written for several, so nobody goes on alone. The code
-- loses it before its length is told, and the tables after, which is the same (`lost_whole`). `end_whole` uses these.
use Rattle.std.{proofs.{Common.{◌≡◌, ◌≢◌, inl, inr, ℕ, ◌<◌, ◌≤◌, ◌^◌, List, [], ◌∷◌, length, Bool, true, false, Option, Some, None, refl, ap, sym, ◌∙◌, subst, arith}, lemmas.{Bool.Decides.{nat_tests}, List.{append-nil}}}, specs.{Prelude.{is_some, nat_eq, option_map, ◌==◌, ◌||◌, ◌&&◌, if◌then◌else◌}, Option.{option_or}}}
use mathlib.Core.Path.{fun_ext}
use Rattle.hc_text.proofs.Basics.{any_none, eqb-other, eqb-same, false_true, same_or, same_some as same_row, some_inj as some_is, and_off as then_false}
use Rattle.hc_store.specs.declared.backend.Backend.{Ghosts}
use Rattle.hc_effects.proofs.Vocabulary.{Act, Cause, Response, Limits, denial, Does, with_event, at_end, failing, if_bound, with_due, with_dues, with_exchange, with_length, with_loss, with_representation, let_go, let_some_go, as_gone, lost_to, going_with, Entry, base, front, family, promised_bytes, is_headless, short_of, NoFlaw, Loses, is_short, stops_early, Grows, IsComing, is_growing, brings_to, Lawful, IsMeasured, reported, unreported, bound, is_bound, is_bound_place, with_total_if_none, Tables, Exchange, Representation, IsAbout, written_representation, exclusive, status_in, act, kind, place}
use Rattle.hc_event.specs.declared.event.Event.TheVariants as event
use Rattle.hc_record.specs.declared.kind.Kind.TheVariants as kinds
use Rattle.hc_text.specs.Sorted.{has, itself}
use Rattle.hc_sparse.specs.Cells.{Cell, Covers, EndsBy}
use Rattle.hc_stored.specs.{Entries.{shelf_of}, Kept.{Kept}, Views.{bound_in}}
use Rattle.hc_stored.specs.Kept as entry
use Rattle.hc_exch.specs.Exchanges as exch
use Rattle.hc_exch.specs.Exchanges.{table_of}
use Rattle.hc_exch.specs.Known as known
use Rattle.hc_model.specs.Rows as rows
use Rattle.hc_model.specs.Sound as sound
use Rattle.hc_model.specs.Whose as whose
use Rattle.hc_effects.proofs.{LettingGo.{may_let_go, bound_let_go}, StopFrames.{end_of}, Tests.{none_some}}
use Rattle.hc_effects.proofs.StopEffects as past_effects
use Rattle.hc_effects.proofs.StopSeals as seal_effects
use Rattle.hc_state.specs.{declared.rows.Rows.{Rows}, Changes.{ChangesAt, ChangesAmong}, Facts.{Facts}, Stands.{Answered, RowsStand}, Stopped.{SealedWhole, NobodyAwaits}, Stops.{brought_by}, Stored.{KeepsEntry}}
use Rattle.hc_txn.specs.Transactions as changes
use Rattle.hc_state.specs.Stopped as stopped
use Rattle.hc_state.proofs.{Answering.{does_answered, lossy_answered}, CloseHandler.{unread_go, unawaited_go}, Counting.{stands_counted}, Losing.{may_lost}, OneOfEach.{first_by}, SealHandler.{nothing_else}, SealWritten.{sealed_lasting}, Stopping.{head_there, brought_some, brought_none}}
use Rattle.hc_on_body.proofs.{CameAlone.{NobodyFirst, nobody_first, nobody_first_go}, StopHandler.{none_alone}, WholeEnds.{stands_whole, entries_whole, gone_longer, sealed_longer, stands_past}}

-- A FAILURE THAT NONE IS

unfailing : (k : rows.Consumer) → failing None k ≡ k
unfailing k = ap (λ (o : Option Cause). record k { due = o }) (by_due k.due)
  where
    by_due : (o : Option Cause) → option_or o None ≡ o
    by_due None = refl
    by_due (Some d) = refl

abbrev due_at : Tables → ℕ → ℕ → Option rows.Consumer
due_at t c d = if c == d then option_map (failing None) (t.consumer d) else t.consumer d

abbrev due_bound : Tables → ℕ → ℕ → Option rows.Consumer
due_bound t r d = option_map (if_bound r (failing None)) (t.consumer d)

nothing_due : (t : Tables) (c : ℕ) → with_due c None t ≡ t
nothing_due t c = ap (λ (f : ℕ → Option rows.Consumer). record t { consumer = f }) rows_are
  where
    by_test : (b : Bool) (o : Option rows.Consumer) → (if b then option_map (failing None) o else o) ≡ o
    by_test true None = refl
    by_test true (Some k) = ap Some (unfailing k)
    by_test false o = refl

    rows_are : due_at t c ≡ t.consumer
    rows_are = fun_ext (λ d. by_test (nat_eq c d) (t.consumer d))

nothing_dues : (t : Tables) (r : ℕ) → with_dues r None t ≡ t
nothing_dues t r = ap (λ (f : ℕ → Option rows.Consumer). record t { consumer = f }) rows_are
  where
    by_test : (b : Bool) (k : rows.Consumer) → (if b then failing None k else k) ≡ k
    by_test true k = unfailing k
    by_test false k = refl

    by_row : (o : Option rows.Consumer) → option_map (if_bound r (failing None)) o ≡ o
    by_row None = refl
    by_row (Some k) = ap Some (by_test (is_bound_place r k.place) k)

    rows_are : due_bound t r ≡ t.consumer
    rows_are = fun_ext (λ d. by_row (t.consumer d))

-- THE LENGTH OF WHAT IS LOST

abbrev length_last : Tables → ℕ → ℕ → Representation → ℕ → Option Representation
length_last t x n v q = if x == q then
    option_map (with_total_if_none n) (if x == q then option_map as_gone (if x == q then Some (lost_to None v) else t.representation q) else
    (if x == q then Some (lost_to None v) else t.representation q)) else
    (if x == q then option_map as_gone (if x == q then Some (lost_to None v) else t.representation q) else
    (if x == q then Some (lost_to None v) else t.representation q))

abbrev length_first : Tables → ℕ → ℕ → Option ℕ → ℕ → Option Representation
length_first t x n alone q = if x == q then
    option_map as_gone (if x == q then
    option_map (lost_to alone) (if x == q then option_map (with_total_if_none n) (t.representation q) else t.representation q) else
    (if x == q then option_map (with_total_if_none n) (t.representation q) else t.representation q)) else
    (if x == q then option_map (lost_to alone) (if x == q then option_map (with_total_if_none n) (t.representation q) else t.representation q) else
    (if x == q then option_map (with_total_if_none n) (t.representation q) else t.representation q))

length_either : (t : Tables) (x n : ℕ) (v : Representation) (alone : Option ℕ) → t.representation x ≡ Some v → None ≡ alone →
    length_last t x n v ≡ length_first t x n alone
length_either t x n v alone there nobody = fun_ext (λ q. elim (same_or x q) [
  | inl e ↦
      let on : nat_eq x q ≡ true = ap (nat_eq x) (sym e) ∙ eqb-same x in
      let here : t.representation q ≡ Some v = sym (ap t.representation e) ∙ there in
      rw (on, here, ← nobody) refl
  | inr ne ↦ rw (eqb-other x q ne) refl
])

pub lost_whole : (t : Tables) (now x n : ℕ) (w : Exchange) (v : Representation) (alone : Option ℕ) → t.representation x ≡ Some v → None ≡ alone
    → with_length x n (with_exchange x (Some (at_end w)) (let_go now x (with_representation x (Some (lost_to None v)) t))) ≡ let_go now x
    (with_loss x alone (with_length x n (with_exchange x (Some (at_end w)) t)))
lost_whole t now x n w v alone there nobody =
    ap (λ (f : ℕ → Option Representation). record (with_exchange x (Some (at_end w)) (let_go now x t)) { representation = f })
    (length_either t x n v alone there nobody)

-- THE ANSWER

-- past the store
module _ (limits : Limits) (t : Tables) (facts : Facts limits t) (now x : ℕ) (w : Exchange) (row : t.exchange x ≡ Some w)
    (reports_none : promised_bytes w ≡ None) (accepts : denial t (event.End x) ≡ None) where
  abbrev law : Lawful t
  law = facts.law

  opened : w.is_open ≡ true
  opened = (end_of t x w row accepts).was_open

  headed : is_some w.head ≡ true
  headed = (end_of t x w row accepts).headed

  no_cause : short_of x w (promised_bytes w) ≡ None
  no_cause = ap (short_of x w) reports_none

  not_short : is_short w ≡ false
  not_short = ap (Rattle.hc_model.specs.Gone.is_below (length w.body)) reports_none

  pub awaits_none : NobodyAwaits t x
  awaits_none d r lo hi u is at = ap is_headless row ∙ by_head w.head headed refl
    where
      by_head : (h : Option Response) → is_some h ≡ true → w.head ≡ h → is_headless (Some w) ≡ false
      by_head None some is = false_true some
      by_head (Some response) some is = rw is (then_false w.is_open false refl)

  pub past_answered : {B : Type 0} {g : Ghosts B} (faults : ℕ) (r u : Rows B g) (before : List Act) (c n : ℕ) → t.representation (family x w) ≡ None →
      n ≡ length w.body → c ≡ w.c → RowsStand limits r t
      → u.last_start ≡ r.last_start → u.keys ≡ r.keys → u.entries ≡ r.entries → exch.Becomes known.without_exchange x r.exchanges u.exchanges →
      ChangesAt r.consumers u.consumers c (changes.with_end n)
      → Answered limits faults u t before before now (event.End x)
  past_answered faults r u before c n none all its stands last keys entries becomes knows =
      let z : Tables = with_exchange x (Some (at_end w)) t in
      does_answered limits faults u t (with_event now (event.End x) z) before before [] now (event.End x)
      (subst (λ (s : Tables). Does limits t now (event.End x) NoFlaw [] (with_event now (event.End x) s))
      (ap (λ o. with_due w.c o z) no_cause ∙ nothing_due z w.c) (past_effects.ends_past limits t law now x w row none accepts))
      refl refl (sym (append-nil before))
      (stands_counted u z now (event.End x) refl
      (stands_past r u t law x w row opened headed none reports_none n all stands awaits_none last keys entries becomes c its knows))

  -- OF WHAT IS STORED

  module _ (v : Representation) (there : t.representation (family x w) ≡ Some v) where
    record Whole : Type 0 where
      unreported : v.head.total ≡ None
      begins : base w ≡ 0
      own : family x w ≡ x
      all : length w.body ≡ v.reach

    measured : Whole
    measured = by_measure (facts.measures.brings x w v row opened headed there)
      where
        by_measure : IsMeasured w v → Whole
        by_measure (reported n total is known within) = none_some n (sym reports_none ∙ is)
        by_measure (unreported none unknown base unjoined reach) = record { unreported = unknown; begins = base; own = rw unjoined refl; all = reach }

    pub own_family : family x w ≡ x
    own_family = measured.own

    here : t.representation x ≡ Some v
    here = ap t.representation (sym measured.own) ∙ there

    pub about : IsAbout t x x
    about = sound.headed w row opened headed measured.own (ap (λ z. is_some z) here)

    came : Covers v.body 0 (length w.body)
    came p from_it to_it =
        let base_is = measured.begins in
        let lt : p < front w = omega arith in
        ap (λ (o : Option Cell). is_some o) (facts.brings.stands x p w v row headed there (omega arith) lt)

    -- whoever reads past the store reads something else
    unread : (d : ℕ) (k : rows.Consumer) → t.consumer d ≡ Some k → k.place ≡ place.Direct x → ⊥
    unread d k at is = none_some v (sym (law.places.direct d x k at is).unfounded ∙ here)

    used : bound t x ≢ []
    used none = law.whose.unread x x v here none about

    going_none : (o : Option ℕ) → (if is_short w then o else None) ≡ None
    going_none o = ap (λ b. if b then o else None) not_short

    -- what the end does, where all goes well
    quiet : Does limits t now (event.End x) NoFlaw [] (with_event now (event.End x) (with_length x (length w.body) (with_exchange x (Some (at_end w)) t)))
    quiet = by_whose (law.whose.somebodys x w row opened)
      where
        z : Tables
        z = with_exchange x (Some (at_end w)) t

        to_it : (s : Tables) → s ≡ z →
            Does limits t now (event.End x) NoFlaw []
            (with_event now (event.End x) (let_some_go now (if is_short w then going_with t (Some x) else None) (with_length x (length w.body) s))) →
            Does limits t now (event.End x) NoFlaw [] (with_event now (event.End x) (with_length x (length w.body) (with_exchange x (Some (at_end w)) t)))
        to_it s same does =
            subst (λ (a : Tables). Does limits t now (event.End x) NoFlaw [] (with_event now (event.End x) (with_length x (length w.body) a))) same
            (subst (λ o. Does limits t now (event.End x) NoFlaw [] (with_event now (event.End x) (let_some_go now o (with_length x (length w.body) s))))
            (going_none (going_with t (Some x))) does)

        by_whose : whose.IsSomebodys t x w →
            Does limits t now (event.End x) NoFlaw [] (with_event now (event.End x) (with_length x (length w.body) (with_exchange x (Some (at_end w)) t)))
        by_whose (whose.own k none at owns stands) = none_some v (sym none ∙ there)
        by_whose (whose.shared p rep on writer) =
            let one : p ≡ v = same_row (t.representation (family x w)) p v rep there in
            to_it (with_dues (family x w) (short_of x w (promised_bytes w)) z) (ap (λ o. with_dues (family x w) o z) no_cause ∙ nothing_dues z (family x w))
            (seal_effects.ends_shared limits t law now x w row (family x w) p refl rep on writer accepts)
        by_whose (whose.read c k p rep (sound.is_bound lo hi how at is) owns undue owner) =
            to_it (with_due c (short_of x w (promised_bytes w)) z) (ap (λ o. with_due c o z) no_cause ∙ nothing_due z c)
            (seal_effects.ends_own limits t law now x w row (family x w) p refl rep c k at owns accepts)

    none_first : NobodyFirst t x
    none_first = nobody_first t x v law.sound facts.measures here measured.unreported

    -- and where its seal fails: it is written for several
    coming : v.is_gone ≡ false → IsComing t x v
    coming stays = law.growing.unknown x v here stays measured.unreported

    kept : v.is_gone ≡ false → v.is_lost ≡ false
    kept stays = by_test v.is_lost refl
      where
        by_test : (b : Bool) → v.is_lost ≡ b → b ≡ false
        by_test false is = refl
        by_test true is = false_true (sym stays ∙ (law.sound.rows x v here).store.lost_is_gone is)

    loses : v.is_gone ≡ false →
        Does limits t now (event.End x) (Loses x kind.Fault) (act.Lost x kind.Fault ∷ [])
        (with_event now (event.End x) (let_go now x (with_loss x (exclusive t x v) (with_length x (length w.body) (with_exchange x (Some (at_end w)) t)))))
    loses stays =
        let is = coming stays in
        let z : Tables = with_exchange x (Some (at_end w)) t in
        subst (λ (a : Tables). Does limits t now (event.End x) (Loses x kind.Fault) (act.Lost x kind.Fault ∷ [])
        (with_event now (event.End x) (let_go now x (with_loss x (exclusive t x v) (with_length x (length w.body) a)))))
        (ap (λ o. with_dues x o z) no_cause ∙ nothing_dues z x)
        (seal_effects.ends_shared_lost limits t law now x w row x v measured.own here is.written is.writer accepts kind.Fault (kept stays))

    module _ {B : Type 0} {g : Ghosts B} (faults : ℕ) (r mid u : Rows B g) (stands : RowsStand limits r t) (before out : List Act)
        (last : u.last_start ≡ mid.last_start) (keys : u.keys ≡ mid.keys) (entries : u.entries ≡ mid.entries)
        (becomes : exch.Becomes known.without_exchange x mid.exchanges u.exchanges)
        (knows : ChangesAmong mid.consumers u.consumers (λ d. has itself d (bound_in ((shelf_of mid.entries).kept x))) (changes.with_end (length w.body))) where
      abbrev n : ℕ
      n = length w.body

      -- who is kept as bound is, where somebody is
      users_by : (s : Tables) (k : Option Kept) (o : Option Representation) → (bound s x ≡ [] → ⊥) → is_some o ≡ true → KeepsEntry s x k o → (d : ℕ) →
          has itself d (bound_in k) ≡ is_bound x (s.consumer d)
      users_by s None None some rep kept_it d = false_true rep
      users_by s None (Some p) some rep kept_it d = absurd (some kept_it.unused)
      users_by s (Some e) None some rep kept_it d = absurd kept_it
      users_by s (Some e) (Some p) some rep kept_it d = kept_it.bound d

      quietly_ends : out ≡ before → RowsStand limits u (with_length x n (with_exchange x (Some (at_end w)) t)) →
          Answered limits faults u t before out now (event.End x)
      quietly_ends same rows =
          let s : Tables = with_length x n (with_exchange x (Some (at_end w)) t) in
          does_answered limits faults u t (with_event now (event.End x) s) before out [] now (event.End x) quiet refl refl
          (same ∙ sym (append-nil before)) (stands_counted u s now (event.End x) refl rows)

      -- what is gone stays
      gone_stays : (s : Tables) (p : Representation) → RowsStand limits mid s → s.exchange x ≡ Some w → s.representation x ≡ Some p →
          p.head.total ≡ None → p.is_gone ≡ true → p.body ≡ v.body → (bound s x ≡ [] → ⊥) →
          ((d : ℕ) (k : rows.Consumer) → s.consumer d ≡ Some k → k.place ≡ place.Direct x → ⊥) → NobodyAwaits s x → NobodyFirst s x
          → RowsStand limits u (with_length x n (with_exchange x (Some (at_end w)) s))
      gone_stays s p rows s_row s_rep unknown is_gone same_body some nobody awaits firsts =
          let each : KeepsEntry s x ((shelf_of mid.entries).kept x) (s.representation x) = rows.entries.each x in
          let users = users_by s ((shelf_of mid.entries).kept x) (s.representation x) some (ap (λ z. is_some z) s_rep) each in
          let after : Tables = with_length x n (with_exchange x (Some (at_end w)) s) in
          let here_now : after.representation x ≡ Some (with_total_if_none n p) = rw (eqb-same x, s_rep) refl in
          let each_now : KeepsEntry after x ((shelf_of u.entries).kept x) (after.representation x) =
          rw (entries, here_now) (gone_longer s x n (Some (at_end w)) p s_rep unknown refl is_gone (subst (λ f. Covers f 0 n) (sym same_body) came) firsts
          ((shelf_of mid.entries).kept x) (subst (KeepsEntry s x ((shelf_of mid.entries).kept x)) s_rep each)) in
          stands_whole mid u s x w n p s_row s_rep measured.own unknown rows nobody awaits last keys becomes
          (λ d. has itself d (bound_in ((shelf_of mid.entries).kept x))) users knows (ap (λ z. (shelf_of z).limits) entries)
          (entries_whole mid u s x w n p s_row s_rep measured.own unknown rows nobody awaits last keys becomes
          (λ d. has itself d (bound_in ((shelf_of mid.entries).kept x))) users knows (ap (λ z. (shelf_of z).limits) entries)
          (shelf_of u.entries) (ap (λ z. (shelf_of z).order) entries) (λ q ne. ap (λ z. (shelf_of z).kept q) entries) each_now)

      pub whole_answered : SealedWhole limits faults r mid t before out now x v n → Answered limits faults u t before out now (event.End x)
      unfolding bound written_representation
      whole_answered (stopped.gone is_gone same unchanged) =
          quietly_ends same (gone_stays t v (subst (λ z. RowsStand limits z t) (sym unchanged) stands) row here measured.unreported is_gone refl used
          unread awaits_none none_first)
      whole_answered (stopped.sealed stays same rest seals) =
          quietly_ends same (by_kept ((shelf_of r.entries).kept x) refl (subst (KeepsEntry t x ((shelf_of r.entries).kept x)) here (stands.entries.each x)))
        where
          after : Tables
          after = with_length x n (with_exchange x (Some (at_end w)) t)

          grows : Grows t x x
          grows = record { w = w; row = row; is_open = opened; headed = headed; of_r = measured.own }

          stopped_growing : is_growing (with_exchange x (Some (at_end w)) t) x ≡ false
          stopped_growing = any_none (λ y. brings_to x y ((with_exchange x (Some (at_end w)) t).exchange y)) t.openings (λ y. elim (same_or x y) [
            | inl e ↦ (let here_y : (with_exchange x (Some (at_end w)) t).exchange y ≡ Some (at_end w) = rw (e, eqb-same y) refl in ap (brings_to x y) here_y)
            | inr ne ↦ (let other : (with_exchange x (Some (at_end w)) t).exchange y ≡ t.exchange y = rw (eqb-other x y ne) refl in
                ap (brings_to x y) other ∙ nothing_else t law x x v here grows y ne)
          ])

          stores : (p : ℕ) → v.stored p ≡ v.body p
          stores = (law.sound.rows x v here).store.all_stored (kept stays)

          all_stored : Covers v.stored 0 n
          all_stored p from_it to_it = ap (λ (o : Option Cell). is_some o) (stores p) ∙ came p from_it to_it

          ends : EndsBy v.reach v.stored
          ends p le = stores p ∙ (law.sound.rows x v here).store.ends p le

          by_kept : (k : Option Kept) → (shelf_of r.entries).kept x ≡ k → KeepsEntry t x k (Some v) → RowsStand limits u after
          by_kept None at dropped = false_true (sym stays ∙ dropped.gone)
          by_kept (Some e) at is =
              let seals_it : (shelf_of mid.entries).kept x ≡ Some (entry.sealed_kept kinds.Whole (Some n) e) = seals.kept x ∙ rw (eqb-same x, at) refl in
              let users : ℕ → Bool = λ d. has itself d (bound_in ((shelf_of mid.entries).kept x)) in
              let users_so : (d : ℕ) → has itself d (bound_in ((shelf_of mid.entries).kept x)) ≡ is_bound x (t.consumer d) =
              λ d. ap (λ z. has itself d (bound_in z)) seals_it ∙ is.bound d in
              let here_now : after.representation x ≡ Some (with_total_if_none n v) = rw (eqb-same x, here) refl in
              let each_now : KeepsEntry after x ((shelf_of u.entries).kept x) (after.representation x) =
              rw (entries, seals_it, here_now) (sealed_longer t x n (Some (at_end w)) v here measured.unreported refl stopped_growing all_stored ends e is) in
              let becomes_r : exch.Becomes known.without_exchange x r.exchanges u.exchanges =
              subst (λ z. exch.Becomes known.without_exchange x z u.exchanges) rest.exchanges becomes in
              let knows_r : ChangesAmong r.consumers u.consumers (λ d. has itself d (bound_in ((shelf_of mid.entries).kept x))) (changes.with_end n) =
              subst (λ z. ChangesAmong z u.consumers (λ d. has itself d (bound_in ((shelf_of mid.entries).kept x))) (changes.with_end n)) rest.consumers
              knows in
              let bounded : (shelf_of u.entries).limits ≡ (shelf_of r.entries).limits = ap (λ z. (shelf_of z).limits) entries ∙ seals.limits in
              stands_whole r u t x w n v row here measured.own measured.unreported stands unread awaits_none (last ∙ rest.last_start) (keys ∙ rest.keys)
              becomes_r (λ d. has itself d (bound_in ((shelf_of mid.entries).kept x))) users_so knows_r bounded
              (entries_whole r u t x w n v row here measured.own measured.unreported stands unread awaits_none (last ∙ rest.last_start) (keys ∙ rest.keys)
              becomes_r (λ d. has itself d (bound_in ((shelf_of mid.entries).kept x))) users_so knows_r bounded
              (shelf_of u.entries) (ap (λ z. (shelf_of z).order) entries ∙ seals.order)
              (λ q ne. ap (λ z. (shelf_of z).kept q) entries ∙ (seals.kept q ∙ rw (eqb-other x q ne) refl)) each_now)
      whole_answered (stopped.lost stays reported_so failed rows) =
          lossy_answered limits faults u t (with_event now (event.End x) model) before out (act.Lost x kind.Fault ∷ []) now (event.End x) x (loses stays)
          (ap (λ (acts : List Act). written_representation t (record { now = now; event = event.End x; acts = acts })) (loses stays).acts_are ∙ written_is)
          (rw (here, kept stays) refl) refl (subst (λ z. faults < (shelf_of z).faults) (sym entries) failed) reported_so
          (stands_counted u model now (event.End x) refl
          (subst (RowsStand limits u) (lost_whole t now x n w v (exclusive t x v) here (none_alone limits t facts x w broken x v (coming stays).written))
          (gone_stays after (as_gone (lost_to None v)) rows row gone_here measured.unreported refl refl used_then
          (unread_go now x before_it x unread) (unawaited_go now x before_it x awaits_none) (nobody_first_go now x x before_it none_first_before))))
        where
          before_it : Tables
          before_it = with_representation x (Some (lost_to None v)) t

          none_first_before : NobodyFirst before_it x
          none_first_before d = first_by t before_it (λ q. by_test q (nat_eq x q) refl) x (t.consumer d) ∙ none_first d
            where
              by_test : (q : ℕ) (b : Bool) → nat_eq x q ≡ b → status_in (if b then Some (lost_to None v) else t.representation q) ≡ status_in
                  (t.representation q)
              by_test q true is = let same : x ≡ q = grind (arith, nat_tests, is) in sym (ap status_in (sym (ap t.representation same) ∙ here))
              by_test q false is = refl

          after : Tables
          after = let_go now x before_it

          model : Tables
          model = let_go now x (with_loss x (exclusive t x v) (with_length x n (with_exchange x (Some (at_end w)) t)))

          broken : stopped.IsBroken t x w
          broken = record { row = row; is_open = opened; shown = λ bare k at. false_true (sym (ap (λ z. is_some z) bare) ∙ headed) }

          gone_here : after.representation x ≡ Some (as_gone (lost_to None v))
          gone_here = rw (eqb-same x) refl

          used_then : bound after x ≡ [] → ⊥
          used_then none = used (sym (bound_let_go now x before_it (may_lost t x v None here (may_let_go t law)).one_current x) ∙ none)

          e : Entry
          e = record { now = now; event = event.End x; acts = [] }

          or_none : (b : Bool) → (b || false) ≡ b
          or_none true = refl
          or_none false = refl

          never_early : (z : Exchange) → t.exchange x ≡ Some z → (stops_early z x (event.End x) || false) ≡ true →
              Rattle.hc_model.specs.Effects.is_unkeepable (Some v) ≡ false
          never_early z at on =
              let same : z ≡ w = same_row (t.exchange x) z w at row in
              let off : stops_early z x (event.End x) ≡ false = ap (λ (q : Exchange). nat_eq x x && is_short q) same ∙
              then_false (nat_eq x x) (is_short w) not_short in
              false_true (sym off ∙ (sym (or_none (stops_early z x (event.End x))) ∙ on))

          written_is : written_representation t (record { now = now; event = event.End x; acts = act.Lost x kind.Fault ∷ [] }) ≡ Some x
          written_is = sealed_lasting t law e x w x v row measured.own here stays (λ y. or_none (nat_eq x y)) never_early

-- WHAT THE CODE LOOKS AT

-- nobody goes on alone with what isn't lost
pub nobody_alone : (t : Tables) → Lawful t → (q : ℕ) (v : Representation) → t.representation q ≡ Some v → v.is_gone ≡ false → v.alone ≡ None
nobody_alone t law q v there stays = (law.sound.rows q v there).store.nobody_alone (by_test v.is_lost refl)
  where
    by_test : (b : Bool) → v.is_lost ≡ b → b ≡ false
    by_test false is = refl
    by_test true is = false_true (sym stays ∙ (law.sound.rows q v there).store.lost_is_gone is)

-- what an open exchange brings is kept, and of a length that a store takes
module _ {B : Type 0} {g : Ghosts B} {limits : Limits} (r : Rows B g) (t : Tables) (facts : Facts limits t) (stands : RowsStand limits r t) (x : ℕ)
    (w : Exchange) (row : t.exchange x ≡ Some w) (opened : w.is_open ≡ true) where
  pub brought_row : (q : ℕ) (o : Option ℕ) → o ≡ brought_by (table_of r.exchanges x).running → o ≡ Some q → (v : Representation) ×
      (t.representation (family x w) ≡ Some v) × (q ≡ family x w)
  brought_row q o is some = by_row (t.representation (family x w)) refl
    where
      by_row : (z : Option Representation) → t.representation (family x w) ≡ z → (v : Representation) × (t.representation (family x w) ≡ Some v) ×
          (q ≡ family x w)
      by_row None none = none_some q (sym (brought_none r t facts t.consumer stands x w row opened none) ∙ (sym is ∙ some))
      by_row (Some v) there = (v, there, some_is q (family x w) (sym some ∙ (is ∙ brought_some r t facts t.consumer stands x w row opened v there)))

  pub unbrought : (o : Option ℕ) → o ≡ brought_by (table_of r.exchanges x).running → o ≡ None → t.representation (family x w) ≡ None
  unbrought o is none = by_row (t.representation (family x w)) refl
    where
      by_row : (z : Option Representation) → t.representation (family x w) ≡ z → z ≡ None
      by_row None at = refl
      by_row (Some v) there = none_some (family x w) (sym none ∙ (is ∙ brought_some r t facts t.consumer stands x w row opened v there))

  pub brought_kept : (q : ℕ) (o : Option ℕ) → o ≡ brought_by (table_of r.exchanges x).running → o ≡ Some q → is_some ((shelf_of r.entries).kept q) ≡ true
  brought_kept q o is some =
      let b = brought_row q o is some in
      let there : t.representation q ≡ Some b.0 = ap t.representation b.2 ∙ b.1 in
      let headed = head_there r t facts t.consumer stands x w row opened b.0 b.1 w.head refl in
      let about_it : IsAbout t q x = sound.headed w row opened headed (sym b.2) (ap (λ z. is_some z) there) in
      by_kept b.0 there about_it ((shelf_of r.entries).kept q) (subst (KeepsEntry t q ((shelf_of r.entries).kept q)) there (stands.entries.each q))
    where
      by_kept : (v : Representation) → t.representation q ≡ Some v → IsAbout t q x → (k : Option Kept) → KeepsEntry t q k (Some v) → is_some k ≡ true
      by_kept v there about_it None dropped = absurd (facts.law.whose.unread q x v there dropped.unused about_it)
      by_kept v there about_it (Some e) is_it = refl

  pub delivered_short : t.received < 2 ^ 62 → (n : ℕ) → n ≡ length w.body → n < 2 ^ 62
  delivered_short counts n is =
      let le : length w.body ≤ t.received = facts.law.places.received x w row in
      omega arith
