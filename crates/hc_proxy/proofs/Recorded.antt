-- Events that have a spelling, at moments that don't go back, are those of the schedule that their text spells.
--
-- The items of an event set its moment where that is another, and then let it happen. So the items of all of them, one
-- behind another, are a schedule, whose text is the record and whose events are these. That each event that was
-- stepped has a spelling is kept step by step (`HasCache`), since `step` asks for it.
use Rattle.std.{proofs.{Common.{◌≡◌, ◌≤◌, ℕ, Bool, true, false, List, [], ◌∷◌, ◌++◌, refl, ap, sym, ◌∙◌, subst, arith, append_assoc, append-nil}, lemmas.Bool.Decides.{nat_tests}}, specs.Prelude.{nat_eq, if◌then◌else◌}}
use Rattle.hc_sched.specs.{declared.schedule.Timed.{Timed}, Laws.{AreTimed}, Schedule.{Item, Moment, Happens, IsEvent, IsSmall, IsSchedule, item_text, text_of}}
use Rattle.hc_sched.specs.Schedule as schedule
use Rattle.hc_store.specs.declared.backend.Backend.{Ghosts}
use Rattle.hc_proxy.specs.declared.proxy.Proxy as loop
use Rattle.hc_proxy.specs.{Keeping.{Frame, HasCache}, Recorded.{HasSchedule, IsRecorded}, Rows.{Proxy, Setting}, Turns.{events_of, record_of, text_behind}}
use Rattle.hc_proxy.proofs.StepOn.{run_of}

record IsSpelled (last : ℕ) (ts : List Timed) : Type 0 where
  items : List Item
  is_schedule : IsSchedule last items
  text : text_of items ≡ text_behind last ts
  events : schedule.events_of last items ≡ ts

module _ (last : ℕ) (t : Timed) (ts : List Timed) (is : IsEvent t.event) (small : IsSmall t.now) (later : last ≤ t.now) (rest : IsSpelled t.now ts) where
  abbrev moment : List ℕ
  moment = item_text (Moment t.now)

  abbrev happens : List ℕ
  happens = item_text (Happens t.event)

  -- the text of its items, by whether its moment is the last one
  abbrev text_by : Bool → List ℕ
  text_by b = text_of (if b then Happens t.event ∷ [] else Moment t.now ∷ Happens t.event ∷ []) ++ text_behind t.now ts

  spelled_same : nat_eq t.now last ≡ true → t.now ≡ last → IsSpelled last (t ∷ ts)
  spelled_same test same = record {
    items = Happens t.event ∷ rest.items;
    is_schedule = (is, omega arith, subst (λ (m : ℕ). IsSchedule m rest.items) same rest.is_schedule);
    text =
        ap (λ (z : List ℕ). happens ++ z) rest.text
        ∙ (ap (λ (z : List ℕ). z ++ text_behind t.now ts) (sym (append-nil happens)) ∙ ap text_by (sym test));
    events = subst (λ (m : ℕ). (record { now = m; event = t.event } ∷ schedule.events_of m rest.items) ≡ t ∷ ts) same
        (ap (λ (z : List Timed). t ∷ z) rest.events);
  }

  spelled_later : nat_eq t.now last ≡ false → IsSpelled last (t ∷ ts)
  spelled_later test = record {
    items = Moment t.now ∷ Happens t.event ∷ rest.items;
    is_schedule = (small, later, (is, omega arith, rest.is_schedule));
    text =
        ap (λ (z : List ℕ). moment ++ (happens ++ z)) rest.text
        ∙ (ap (λ (z : List ℕ). moment ++ (z ++ text_behind t.now ts)) (sym (append-nil happens))
        ∙ (sym (append_assoc moment (happens ++ []) (text_behind t.now ts)) ∙ ap text_by (sym test)));
    events = ap (λ (z : List Timed). t ∷ z) rest.events;
  }

  spelled_one : IsSpelled last (t ∷ ts)
  spelled_one = by_test (nat_eq t.now last) refl
    where
      by_test : (b : Bool) → nat_eq t.now last ≡ b → IsSpelled last (t ∷ ts)
      by_test true test = spelled_same test (grind (arith, nat_tests))
      by_test false test = spelled_later test

all_spelled : (last : ℕ) (ts : List Timed) → AreTimed last ts → IsSpelled last ts
all_spelled last [] all = record { items = []; is_schedule = tt; text = refl; events = refl }
all_spelled last (t ∷ ts) all = spelled_one last t ts all.0 all.1 all.2 (all_spelled t.now ts all.3)

module _ {B : Type 0} {g : Ghosts B} (f : Frame) (x : loop.Proxy B g) (p : Proxy) (h : HasCache f x p) where
  pub schedule_of : HasSchedule p
  schedule_of =
      let s = all_spelled p.setting.contents.now (events_of p) h.timed in
      record { items = s.items; spells = record { schedule = s.is_schedule; text_is = s.text }; events = s.events }

  pub recorded_of : IsRecorded f.limits f.setting.contents (record_of p)
  recorded_of = subst (λ (d : Setting). IsRecorded f.limits d.contents (record_of p)) h.setting (record {
    history = p.history;
    run = run_of f x p h;
    items = schedule_of.items;
    spells = schedule_of.spells;
    events = schedule_of.events;
  })
