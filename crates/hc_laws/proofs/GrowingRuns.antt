-- One exchange at most brings a representation, and where it stops nothing brings it any more, in every run.
--
-- Whatever exchange brings a representation is about it (`grows_of`, `about_of`), and one at most is. So where one
-- brings it the tables say that it grows (`grows_by`), and where they don't its length is known (`known_by`);
-- `growing_by` joins these. At an entry, what brings it afterwards was about it before (`by_headed`, `was_about`), so
-- where that stops nothing else goes on with it (`stops_by`).
use Rattle.std.{proofs.{Common.{◌≡◌, inl, inr, ℕ, List, [], ◌∷◌, Bool, true, false, Option, Some, None, refl, ap, sym, ◌∙◌, subst, arith}, lemmas.Bool.Decides.{nat_tests}}, specs.{Prelude.{if◌then◌else◌, is_some, ◌==◌, unwrap_or, nat_eq}, List.{list_any}}}
use Rattle.hc_text.proofs.Basics.{none_of, and_left, bool_cases, not_some as none_some}
use Rattle.hc_effects.proofs.Vocabulary.{brings_whole, is_denied, Event, Response, Limits, has_loss, case_at, is_joining, denial, Entry, family, is_open, Flaw, flaw_in, Grows, IsComing, entry_of, is_growing, brings_to, OfRuns, Measures, IsMeasured, is_written, Tables, Exchange, Representation, Sound, IsAbout, tables, after_accepted, after_denied}
use Rattle.hc_model.specs.Growing.{Growing, StopsGrowing, StopsInRuns}
use Rattle.hc_model.specs.Measures as measures
use Rattle.hc_model.specs.Sound as sound
use Rattle.hc_effects.proofs.{RepFrom.{stays}, ApartKeeps.{is_on}, Basics.{false_true, some_row}, ExchangeFrom.{ExchangeFrom, exchange_from, IsHeaded}, FirstKeeps.{is_new, case_is}, HeadKeeps.{is_join, is_aimed}, OfEntries.{of_real}, ExclusiveWriters.{writer_some}}
use Rattle.hc_laws.proofs.{Barred.{next_tables, denied_tables}, FitsKept.{any_some}, SoundRuns.{carried}, Unknowns.{Unknown}, WaitsInRuns.{unknown_in_runs}}
use Rattle.hc_effects.proofs.ExchangeFrom as exchange

any_of : (test : ℕ → Bool) (ns : List ℕ) → list_any test ns ≡ true → (n : ℕ) × (test n ≡ true)
any_of test [] h = absurd (false_true h)
any_of test (n ∷ ns) h = elim (bool_cases (test n)) [ inl on ↦ (n, on) | inr off ↦ any_of test ns (rw off at h) ]

-- OF ONE STATE

module _ (t : Tables) (s : Sound t) where
  -- one without a head brings nothing of what is there
  pub brings_headed : (x r : ℕ) (w : Exchange) (v : Representation) → t.exchange x ≡ Some w → t.representation r ≡ Some v → family x w ≡ r →
      is_some w.head ≡ true
  brings_headed x r w v row there of_r = elim (bool_cases (is_some w.head)) [
    | inl headed ↦ headed
    | inr off ↦
        let bare = none_of w.head off in
        let own : x ≡ r = sym (ap (λ (q : Option ℕ). unwrap_or q x) (s.waits.headless x w row bare).1) ∙ of_r in
        absurd (none_some v (sym (s.numbered.names.unfounded x w row bare) ∙ (ap t.representation own ∙ there)))
  ]

  grows_of : (x r : ℕ) (v : Representation) (q : Option Exchange) → t.representation r ≡ Some v → t.exchange x ≡ q → brings_to r x q ≡ true → Grows t x r
  grows_of x r v None there row h = absurd (false_true h)
  grows_of x r v (Some w) there row h =
      let of_r : family x w ≡ r = grind (arith, nat_tests) in
      record { w = w; row = row; is_open = and_left _ (family x w == r) h; headed = brings_headed x r w v row there of_r; of_r = of_r }

  grower_by : (r : ℕ) (v : Representation) → t.representation r ≡ Some v → is_growing t r ≡ true → (x : ℕ) × Grows t x r
  grower_by r v there h = let x = any_of (λ x. brings_to r x (t.exchange x)) t.openings h in (x.0, grows_of x.0 r v (t.exchange x.0) there refl x.1)

  pub grows_by : (r x : ℕ) → Grows t x r → is_growing t r ≡ true
  grows_by r x g =
      let test : nat_eq (family x g.w) r ≡ true = grind (arith, nat_tests) in
      any_some (λ y. brings_to r y (t.exchange y)) x t.openings (s.numbered.lists.opened x (ap (λ (q : Option Exchange). is_some q) g.row))
      (ap (brings_to r x) g.row ∙ rw (g.is_open, test) refl)

  about_of : (r x : ℕ) (v : Representation) → t.representation r ≡ Some v → Grows t x r → IsAbout t r x
  about_of r x v there g = sound.headed g.w g.row g.is_open g.headed g.of_r (ap (λ (q : Option Representation). is_some q) there)

  module _ (m : Measures t) (unknown : Unknown t) where
    coming_by : (r : ℕ) (v : Representation) → t.representation r ≡ Some v → v.is_gone ≡ false → v.head.total ≡ None → IsComing t r v
    coming_by r v there not_gone none = by_writer v.writer refl
      where
        by_growing : (x : ℕ) → is_written t v ≡ true → brings_whole v.head.status ≡ true → v.writer ≡ Some x →
            ((w : Exchange) × sound.IsGrowing t r v x w) → IsComing t r v
        by_growing x written status writer all = by_measure (m.brings x all.0 v all.1.row opened all.1.headed (ap t.representation all.1.family_is ∙ there))
          where
            opened : all.0.is_open ≡ true
            opened = sym (ap is_open all.1.row) ∙ (is_on t v x written writer).open_now

            by_measure : IsMeasured all.0 v → IsComing t r v
            by_measure (measures.reported n total promise known ends) = absurd (none_some total (sym none ∙ known))
            by_measure (measures.unreported bare unknown_too first alone was) =
                let mine : x ≡ r = sym (ap (λ (q : Option ℕ). unwrap_or q x) alone) ∙ all.1.family_is in
                let own : Grows t x r = record { w = all.0; row = all.1.row; is_open = opened; headed = all.1.headed; of_r = all.1.family_is } in
                record { written = written; writer = writer ∙ ap Some mine; status = status; grows = subst (λ n. Grows t n r) mine own }

        by_writer : (q : Option ℕ) → v.writer ≡ q → IsComing t r v
        by_writer None writer = absurd (writer_some t v (unknown r v there not_gone none).written writer)
        by_writer (Some x) writer =
            let u = unknown r v there not_gone none in
            by_growing x u.written u.whole writer ((s.rows r v there).growing x u.written writer)

    known_by : (r : ℕ) (v : Representation) → t.representation r ≡ Some v → v.is_gone ≡ false → is_growing t r ≡ false → is_some v.head.total ≡ true
    known_by r v there not_gone still = elim (bool_cases (is_some v.head.total)) [
      | inl known ↦ known
      | inr off ↦ absurd (false_true (sym still ∙ grows_by r r (coming_by r v there not_gone (none_of v.head.total off)).grows))
    ]

    growing_by : Growing t
    growing_by = record {
      grower = grower_by;
      grows = grows_by;
      one = λ r x y v there a b. s.one_about r x y (about_of r x v there a) (about_of r y v there b);
      known = known_by;
      unknown = coming_by;
    }

pub growing_in_runs : OfRuns Growing
growing_in_runs limits contents h may run =
    let c = carried limits contents h may run in
    growing_by (tables contents h) c.is_sound c.is_measured (unknown_in_runs limits contents h may run)

-- WHERE IT STOPS

module _ (limits : Limits) (t : Tables) (now : ℕ) (flaw : Flaw) (s : Sound t) (ev : Event) (goes : denial t ev ≡ None) where
  abbrev e : Entry
  e = entry_of limits t now ev flaw

  abbrev now_on : Tables
  now_on = after_accepted t e

  module _ (r y : ℕ) (v : Representation) (there : t.representation r ≡ Some v) (g : Grows now_on y r) where
    -- what brings it now was about it
    by_headed : (w : Exchange) → t.exchange y ≡ Some w → IsHeaded t e y w g.w → IsAbout t r y
    by_headed w row got = elim (bool_cases (is_joining (case_at t e))) [
      | inl joins ↦
          let hole = is_join t (has_loss e.acts) w got.response (sym (ap is_joining (case_is t e y got.response w got.at row)) ∙ joins) in
          let aimed = is_aimed t w got.response hole in
          let joined : g.w.joined ≡ Some aimed.r = got.joined_is ∙ (ap (λ (b : Bool). if b then w.aim else w.joined) joins ∙ aimed.aim) in
          sound.asks w hole.fills.from hole.fills.to row new.is_open new.bare hole.fills.need_is
          (aimed.aim ∙ ap Some (sym (ap (λ (q : Option ℕ). unwrap_or q y) joined) ∙ g.of_r))
      | inr other ↦
          let alone : g.w.joined ≡ None = got.joined_is ∙ (ap (λ (b : Bool). if b then w.aim else w.joined) other ∙ (s.waits.headless y w row new.bare).1) in
          absurd (none_some v (sym new.unfounded ∙ (ap t.representation (sym (ap (λ (q : Option ℕ). unwrap_or q y) alone) ∙ g.of_r) ∙ there)))
    ]
      where
        new : Rattle.hc_effects.proofs.FirstKeeps.IsNew limits t now flaw s ev goes y w
        new = is_new limits t now flaw s ev goes y got.response w got.at row

    was_about : ExchangeFrom t e y g.w → IsAbout t r y
    was_about (exchange.was w row same) = elim same.heard_or [
      | inl still ↦ sound.headed w row (same.was_open g.is_open) (ap (λ (q : Option Response). is_some q) (sym still.0) ∙ g.headed)
          (ap (λ (q : Option ℕ). unwrap_or q y) (sym still.1) ∙ g.of_r) (ap (λ (q : Option Representation). is_some q) there)
      | inr got ↦ by_headed w row got
    ]
    was_about (exchange.new q none opens here made) = absurd (false_true (ap (λ (z : Exchange). is_some z.head) made ∙ g.headed))

  stops_by : Sound now_on → StopsGrowing t now_on
  stops_by later r x v there g off = elim (bool_cases (is_growing now_on r)) [
    | inr still ↦ still
    | inl on ↦
        let row = some_row (now_on.representation r) (stays t e r (t.representation r) (ap (λ (q : Option Representation). is_some q) there)) in
        let other = grower_by now_on later r row.0 row.1 on in
        let one : other.0 ≡ x = s.one_about r other.0 x
        (was_about r other.0 v there other.1 (exchange_from t e other.0 (t.exchange other.0) other.1.w refl other.1.row)) (about_of t s r x v there g) in
        absurd (false_true (sym off ∙ (ap (λ n. is_open (now_on.exchange n)) (sym one) ∙ (ap is_open other.1.row ∙ other.1.is_open))))
  ]

stops_denied : (t : Tables) (e : Entry) → StopsGrowing t (after_denied t e)
stops_denied t e r x v there g off = absurd (false_true (sym off ∙ (ap is_open g.row ∙ g.is_open)))

pub stops_in_runs : StopsInRuns
stops_in_runs limits contents h e may run = by_denial (is_denied e.acts) refl
  where
    by_denial : (b : Bool) → is_denied e.acts ≡ b → StopsGrowing (tables contents h) (tables contents (e ∷ h))
    by_denial true denied = subst (StopsGrowing (tables contents h)) (denied_tables contents h e denied) (stops_denied (tables contents h) e)
    by_denial false accepted =
        let same = next_tables contents h e accepted in
        let c = carried limits contents h may run.0 in
        let later : Sound (after_accepted (tables contents h) e) = subst Sound (sym same) (carried limits contents (e ∷ h) may run).is_sound in
        subst (StopsGrowing (tables contents h)) same
        (of_real limits (tables contents h) e
        (λ z. Sound (after_accepted (tables contents h) z) → StopsGrowing (tables contents h) (after_accepted (tables contents h) z)) run.1 accepted
        (λ going real sound_then. stops_by limits (tables contents h) e.now (flaw_in e.acts) c.is_sound e.event going sound_then) later)
