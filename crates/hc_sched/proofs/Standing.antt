-- A text that is read is spelled: what a place of the reading represents, byte by byte.
--
-- A place represents whole items, what was begun of one, and the bytes of its line. What a first line says is known
-- (`says_step`): it is an item (`one_item`), or begins one with fields (`begins_item`). `next_step` has most of the
-- work: a field line ends the item where it is the last one missing, else it is counted down. `line_step` joins both
-- kinds of lines. A byte grows the line, ends it or is refused (`byte_step`); `text_step` goes on by induction.
use Rattle.std.{proofs.{lemmas.{Bool.{cases_Bool, cases_lt, cases_eq, eq-eqb, ne_eqb, eqb-true, le-ltb, Decides.{nat_tests}}, List.{append-nil}}, Common.{◌≡◌, ℕ, ◌+◌, ◌-◌, ◌<◌, ◌≤◌, ◌==◌, true, List, [], ◌∷◌, ◌++◌, length, Option, Some, None, refl, sym, ap, subst, ◌∙◌, inl, inr, arith, append_assoc, zero-add, lt-ltb}}, specs.{Prelude.{codes}, Fmt.{decimal}}}
use Rattle.hc_text.specs.Texts.{IsSmall, cut, behind}
use Rattle.hc_event.specs.declared.event.Event.TheVariants as event
use Rattle.hc_fields.specs.{FieldList.{field_list_with}, Lines.{fields_text}}
use Rattle.hc_fields.proofs.{Edits.{IsFieldList-put, length-put, size_of-put}, Ends.{put-last}, LineLemmas.{fields_text-push}}
use Rattle.hc_sched.specs.{declared.{begun.{Begun.{Begun}, Opening.{Opening}}, place.Place.{Place}, schedule.Timed.{Timed}}, Pieces.{bytes_of}, FirstLines.{First, Sets, Starts, Heads, Brings, Dooms, Reports, is_method, first_of}, FieldLines.{field_parts, may_follow, field_of}, Reading.{Progress, Reads, Stopped, Spent, Step, begin, event_of, take_first, take_field, take_next, take_line, take_byte, after, events_in}, Schedule.{Item, Moment, Happens, load_word, event_line, item_line, item_fields, item_text, fields_in, text_of, IsHead, IsEvent, IsItem, IsSchedule, moment_after, moment_end, event_at, events_of}, Laws.{HasRead}}
use Rattle.hc_sched.specs.declared.begun.Opening.TheVariants as opening
use Rattle.hc_target.specs.Targets.{is_target}
use Rattle.hc_sched.proofs.{Steps.{bind-Some}, FieldLemmas.{Follows-from_test}, FieldReads.{Pair, line_of, field_text-line}, Sound.{Says, first_of-says, test_passes}}
use Rattle.hc_text.proofs.Cutting.{none_or_some, append-cut, append-behind}

-- the first line of an item with so many fields
abbrev pub opening_line : Opening → ℕ → List ℕ
opening_line (opening.Start c method key kind) count = codes "start " ++
    (decimal c ++ 32 ∷ (method ++ 32 ∷ (load_word kind ++ 32 ∷ (key ++ 32 ∷ decimal count))))
opening_line (opening.Head x status) count = codes "head " ++ (decimal x ++ 32 ∷ (decimal status ++ 32 ∷ decimal count))

abbrev pub IsOpening : Opening → Type 0
IsOpening (opening.Start c method key kind) = IsSmall c × (is_method method ≡ true) × (is_target key ≡ true)
IsOpening (opening.Head x status) = IsSmall x × (200 ≤ status) × (status ≤ 599)

event_line-opening : (o : Opening) (fields : List Pair) → event_line (event_of o fields) ≡ opening_line o (length fields)
event_line-opening o fields = grind (arith, nat_tests)

fields_in-opening : (o : Opening) (fields : List Pair) → fields_in (event_of o fields) ≡ fields
fields_in-opening o fields = grind (arith, nat_tests)

IsEvent-opening : (o : Opening) (fields : List Pair) → IsOpening o → IsHead fields → IsEvent (event_of o fields)
IsEvent-opening o fields h head = grind (arith, nat_tests)

-- the lines of an item that was begun
abbrev pub begun_text : Option Begun → List ℕ
begun_text None = []
begun_text (Some b) = opening_line b.opening (length b.fields + b.missing) ++ 10 ∷ fields_text b.fields

pub record IsUnder (b : Begun) : Type 0 where
  pub is_opening : IsOpening b.opening
  pub head : IsHead b.fields
  pub some : 0 < b.missing
  pub few : length b.fields + b.missing ≤ 64

abbrev pub MayUnder : Option Begun → Type 0
MayUnder None = Unit {0}
MayUnder (Some b) = IsUnder b

-- whole items were read, and what was begun
pub record Stands (start : ℕ) (text : List ℕ) (es : List Timed) (moment : ℕ) (begun : Option Begun) (line : List ℕ) : Type 0 where
  pub items : List Item
  pub schedule : IsSchedule start items
  pub whole : text_of items ++ (begun_text begun ++ line) ≡ text
  pub events : es ≡ events_of start items
  pub moment_is : moment ≡ moment_end start items
  pub under : MayUnder begun

abbrev pub StandsFor : ℕ → List ℕ → List Timed → Progress → Type 0
StandsFor start text es (Reads p line) = Stands start text es p.moment p.begun line
StandsFor start text es (Stopped refused) = HasRead start text es
StandsFor start text es Spent = ⊥

-- what a step leads to
abbrev StepsTo : ℕ → List ℕ → List Timed → Step → Type 0
StepsTo start text es step = StandsFor start text (es ++ step.events) step.next

-- items behind items
text_of-push : (items : List Item) (item : Item) → text_of (items ++ item ∷ []) ≡ text_of items ++ item_text item
text_of-push [] item = append-nil (item_text item)
text_of-push (i ∷ items) item = ap (λ (l : List ℕ). item_text i ++ l) (text_of-push items item) ∙
    sym (append_assoc (item_text i) (text_of items) (item_text item))

moment_end-push : (now : ℕ) (items : List Item) (item : Item) → moment_end now (items ++ item ∷ []) ≡ moment_after (moment_end now items) item
moment_end-push now [] item = refl
moment_end-push now (i ∷ items) item = moment_end-push (moment_after now i) items item

events_of-push : (now : ℕ) (items : List Item) (item : Item) → events_of now (items ++ item ∷ []) ≡ events_of now items ++ event_at (moment_end now items) item
events_of-push now [] item = append-nil (event_at now item)
events_of-push now (i ∷ items) item =
    ap (λ (l : List Timed). event_at now i ++ l) (events_of-push (moment_after now i) items item)
    ∙ sym (append_assoc (event_at now i) (events_of (moment_after now i) items) (event_at (moment_end (moment_after now i) items) item))

IsSchedule-push : (now : ℕ) (items : List Item) (item : Item) → IsSchedule now items → IsItem item →
    moment_end now items ≤ moment_after (moment_end now items) item → IsSchedule now (items ++ item ∷ [])
IsSchedule-push now [] item h is later = (is, later, tt)
IsSchedule-push now (i ∷ items) item h is later = (h.0, h.1, IsSchedule-push (moment_after now i) items item h.2 is later)

-- the text goes on, and no item more is read of it
stops : (start : ℕ) (text more : List ℕ) (es : List Timed) (m : ℕ) (begun : Option Begun) (line : List ℕ) → Stands start text es m begun line →
    HasRead start (text ++ more) (es ++ [])
stops start text more es m begun line h = record {
  items = h.items;
  rest = begun_text begun ++ line ++ more;
  schedule = h.schedule;
  whole = rw (← h.whole) (simp append_assoc);
  events_are = append-nil es ∙ h.events;
}

module _ (start : ℕ) where
  -- an item ends with the line
  ends_item : (text line : List ℕ) (es : List Timed) (m : ℕ) (begun : Option Begun) (item : Item) (h : Stands start text es m begun line) → IsItem item →
      m ≤ moment_after m item
      → item_text item ≡ begun_text begun ++ (line ++ 10 ∷ []) → Stands start (text ++ 10 ∷ []) (es ++ event_at m item) (moment_after m item) None []
  ends_item text line es m begun item h is later spelled =
      let last : moment_end start h.items ≤ moment_after (moment_end start h.items) item = rw h.moment_is at later in
      record {
        items = h.items ++ item ∷ [];
        schedule = IsSchedule-push start h.items item h.schedule is last;
        whole = rw (append-nil, text_of-push h.items item, spelled, ← h.whole) (simp append_assoc);
        events = rw (h.events, h.moment_is) (sym (events_of-push start h.items item));
        moment_is = ap (λ (k : ℕ). moment_after k item) h.moment_is ∙ sym (moment_end-push start h.items item);
        under = tt;
      }

  -- one line is an item
  one_item : (text line : List ℕ) (es : List Timed) (m : ℕ) (item : Item) → Stands start text es m None line → IsItem item → m ≤ moment_after m item →
      item_line item ≡ line → item_fields item ≡ []
      → Stands start (text ++ 10 ∷ []) (es ++ event_at m item) (moment_after m item) None []
  one_item text line es m item h is later same none =
      ends_item text line es m None item h is later (ap (λ (l : List Pair). item_line item ++ 10 ∷ fields_text l) none ∙ ap (λ (l : List ℕ). l ++ 10 ∷ []) same)

  -- the first line of an item with fields
  begins_item : (text line : List ℕ) (es : List Timed) (p : Place) (o : Opening) (count bytes : ℕ) → Stands start text es p.moment None line →
      IsOpening o → opening_line o count ≡ line → count ≤ 64
      → StepsTo start (text ++ 10 ∷ []) es (begin p o count bytes)
  begins_item text line es p o count bytes h is same few =
      elim (cases_eq count 0) [
        | inl zero ↦
            let event = event_of o [] in
            let none : IsHead [] = record {
              list = record { fields = λ k d lt. absurd (omega arith); sorted = refl; few = omega arith; small = omega arith };
              within_limits =
                  record { few = omega arith; small = omega arith };
            } in
            let line_is : item_line (Happens event) ≡ line = event_line-opening o [] ∙ (ap (opening_line o) (sym zero) ∙ same) in
            rw (eq-eqb count 0 zero)
            (one_item text line es p.moment (Happens event) h (IsEvent-opening o [] is none) (omega arith) line_is (fields_in-opening o []))
        | inr some ↦
            let none : IsHead [] = record {
              list = record { fields = λ k d lt. absurd (omega arith); sorted = refl; few = omega arith; small = omega arith };
              within_limits =
                  record { few = omega arith; small = omega arith };
            } in
            let front = ap (λ k. text_of h.items ++ (opening_line o k ++ 10 ∷ [])) (zero-add count) in
            let stands : Stands start (text ++ 10 ∷ []) (es ++ []) p.moment
            (Some (record { opening = o; fields = []; missing = count; bytes = bytes + 1 })) [] = record {
              items = h.items;
              schedule = h.schedule;
              whole = rw (append-nil, ← h.whole, ← same, append_assoc) front;
              events = append-nil es ∙ h.events;
              moment_is = h.moment_is;
              under = record { is_opening = is; head = none; some = omega arith; few = omega arith };
            } in
            rw (ne_eqb count 0 some) stands
      ]

  -- a first line
  says_step : (text line : List ℕ) (es : List Timed) (p : Place) (bytes : ℕ) (f : First) → Stands start text es p.moment None line → Says line f
      → StepsTo start (text ++ 10 ∷ []) es (take_first p bytes (Some f))
  says_step text line es p bytes (Sets now) h says =
      elim (cases_lt now p.moment) [
        | inl back ↦ rw (lt-ltb now p.moment back) (stops start text (10 ∷ []) es p.moment None line h)
        | inr later ↦ rw (le-ltb now p.moment later) (one_item text line es p.moment (Moment now) h says.1 later says.0 refl)
      ]
  says_step text line es p bytes (Starts c method kind target count) h says =
      elim (cases_Bool (is_target target)) [
        | inl is ↦ rw is (begins_item text line es p (opening.Start c method target kind) count bytes h (says.1, says.2, is) says.0 says.3)
        | inr bad ↦ rw bad (stops start text (10 ∷ []) es p.moment None line h)
      ]
  says_step text line es p bytes (Heads x status count) h says =
      begins_item text line es p (opening.Head x status) count bytes h (says.1, says.2, says.3) says.0 says.4
  says_step text line es p bytes (Brings x word) h says =
      one_item text line es p.moment (Happens (event.Piece x (bytes_of word))) h (says.1, says.2.short, says.2.small) (omega arith) says.0 refl
  says_step text line es p bytes (Dooms target) h says =
      elim (cases_Bool (is_target target)) [
        | inl is ↦ rw is (one_item text line es p.moment (Happens (event.Doom target)) h is (omega arith) says refl)
        | inr bad ↦ rw bad (stops start text (10 ∷ []) es p.moment None line h)
      ]
  says_step text line es p bytes (Reports event) h says = one_item text line es p.moment (Happens event) h says.1 (omega arith) says.0 says.2

  first_step : (text line : List ℕ) (es : List Timed) (p : Place) (bytes : ℕ) → Stands start text es p.moment None line →
      StepsTo start (text ++ 10 ∷ []) es (take_first p bytes (first_of line))
  first_step text line es p bytes h =
      elim (none_or_some (first_of line)) [
        | inl none ↦ rw none (stops start text (10 ∷ []) es p.moment None line h)
        | inr some ↦ rw some.1 (says_step text line es p bytes some.0 h (first_of-says line some.0 some.1))
      ]

-- a field line
record IsNext (fields : List Pair) (line : List ℕ) (f : Pair) : Type 0 where
  line_is : line_of f ≡ line
  put_is : field_list_with f.0 f.1 fields ≡ fields ++ f ∷ []
  head : IsHead (field_list_with f.0 f.1 fields)

named-parts : (line : List ℕ) (f : Pair) → field_parts line ≡ Some f → line_of f ≡ line
unfolding field_parts
named-parts line f h =
    let first = bind-Some (cut 58 line) _ f h in
    let second = bind-Some (behind (codes " ") first.0.1) _ f first.2 in
    let same : (first.0.0, second.0) ≡ f = cc second.2 in
    rw (← same, append-behind (codes " ") first.0.1 second.0 second.1) (append-cut 58 line first.0 first.1)

field_of-parts : (fields : List Pair) (line : List ℕ) (f : Pair) → IsHead fields → length fields < 64 → field_of fields line ≡ Some f → IsNext fields line f
unfolding field_of
field_of-parts fields line f head few h =
    let first = bind-Some (field_parts line) _ f h in
    let passes = test_passes (may_follow fields first.0) first.0 f first.2 in
    let follows = Follows-from_test fields first.0 passes.0 in
    let name = first.0.0 in
    let value = first.0.1 in
    subst (λ (g : Pair). IsNext fields line g) passes.1 (record {
      line_is = named-parts line first.0 first.1;
      put_is = put-last name value fields follows.order;
      head = record {
        list = IsFieldList-put name value fields head.list follows.is (omega arith) (omega (arith, follows.fits));
        within_limits = record {
          few = omega (arith, length-put name value fields);
          small = omega (arith, follows.fits, size_of-put name value fields);
        };
      };
    })

-- the lines of an item with one field more
grown : (o : Opening) (count : ℕ) (fields : List Pair) (f : Pair) (line : List ℕ) → line_of f ≡ line
    → (opening_line o count ++ 10 ∷ fields_text fields) ++ (line ++ 10 ∷ []) ≡ opening_line o count ++ 10 ∷ fields_text (fields ++ f ∷ [])
grown o count fields f line is = search (arith, append_assoc, field_text-line, fields_text-push)

module _ (start : ℕ) where
  next_step : (text line : List ℕ) (es : List Timed) (p : Place) (b : Begun) (bytes : ℕ) (f : Pair) → Stands start text es p.moment (Some b) line →
      IsNext b.fields line f
      → StepsTo start (text ++ 10 ∷ []) es (take_field p b bytes (Some f))
  next_step text line es p b bytes f h next =
      let fields = field_list_with f.0 f.1 b.fields in
      let more = length-put f.0 f.1 b.fields in
      let lines = grown b.opening (length b.fields + b.missing) b.fields f line next.line_is in
      elim (cases_eq b.missing 1) [
        | inl one ↦
            let count : length b.fields + b.missing ≡ length fields = omega (arith, more, one) in
            let spelled : item_text (Happens (event_of b.opening fields)) ≡ begun_text (Some b) ++ (line ++ 10 ∷ []) =
            rw (fields_in-opening, event_line-opening, ← count, next.put_is) (sym lines) in
            rw (eq-eqb b.missing 1 one)
            (ends_item start text line es p.moment (Some b) (Happens (event_of b.opening fields)) h
            (IsEvent-opening b.opening fields h.under.is_opening next.head) (omega arith) spelled)
        | inr others ↦
            let count : length fields + (b.missing - 1) ≡ length b.fields + b.missing = omega (arith, more, h.under.some) in
            let stands : Stands start (text ++ 10 ∷ []) (es ++ []) p.moment
            (Some (record { opening = b.opening; fields = fields; missing = b.missing - 1; bytes = b.bytes + bytes + 1 })) [] = record {
              items = h.items;
              schedule = h.schedule;
              whole = rw (append-nil, count, next.put_is, ← lines, ← h.whole) (simp append_assoc);
              events = append-nil es ∙ h.events;
              moment_is = h.moment_is;
              under = record {
                is_opening = h.under.is_opening;
                head = next.head;
                some = omega (arith, h.under.some);
                few = omega (arith, h.under.few, count);
              };
            } in
            rw (ne_eqb b.missing 1 others) stands
      ]

  line_step : (text line : List ℕ) (es : List Timed) (p : Place) (begun : Option Begun) → Stands start text es p.moment begun line →
      StepsTo start (text ++ 10 ∷ []) es (take_next p begun line)
  line_step text line es p None h = first_step start text line es p (length line) h
  line_step text line es p (Some b) h =
      elim (none_or_some (field_of b.fields line)) [
        | inl none ↦ rw none (stops start text (10 ∷ []) es p.moment (Some b) line h)
        | inr some ↦
            let few : length b.fields < 64 = omega (arith, h.under.few, h.under.some) in
            rw some.1 (next_step text line es p b (length line) some.0 h (field_of-parts b.fields line some.0 h.under.head few some.1))
      ]

  -- one byte more
  byte_step : (text : List ℕ) (es : List Timed) (s : Progress) (b : ℕ) → StandsFor start text es s → StepsTo start (text ++ b ∷ []) es (take_byte s b)
  unfolding take_byte take_line
  byte_step text es (Reads p line) b h =
      elim (cases_Bool (b == 10)) [
        | inl feed ↦
            let is : b ≡ 10 = eqb-true b 10 feed in
            rw feed (subst (λ (c : ℕ). StepsTo start (text ++ c ∷ []) es (take_next p p.begun line)) (sym is) (line_step text line es p p.begun h))
        | inr other ↦
            elim (cases_lt (length line) 140000) [
              | inl short ↦
                  let stands : Stands start (text ++ b ∷ []) (es ++ []) p.moment p.begun (line ++ b ∷ []) = record {
                    items = h.items;
                    schedule = h.schedule;
                    whole = rw (← h.whole) (simp append_assoc);
                    events = append-nil es ∙ h.events;
                    moment_is = h.moment_is;
                    under = h.under;
                  } in
                  rw (other, lt-ltb (length line) 140000 short) stands
              | inr full ↦ rw (other, le-ltb (length line) 140000 full) (stops start text (b ∷ []) es p.moment p.begun line h)
            ]
      ]
  byte_step text es (Stopped refused) b h = record {
    items = h.items;
    rest = h.rest ++ b ∷ [];
    schedule = h.schedule;
    whole = sym (append_assoc (text_of h.items) h.rest (b ∷ [])) ∙ ap (λ (l : List ℕ). l ++ b ∷ []) h.whole;
    events_are = append-nil es ∙ h.events_are;
  }
  byte_step text es Spent b h = absurd h

  pub text_step : (done text : List ℕ) (es : List Timed) (s : Progress) → StandsFor start done es s →
      StandsFor start (done ++ text) (es ++ events_in s text) (after s text)
  text_step done [] es s h = rw (append-nil done, append-nil es) h
  text_step done (b ∷ text) es s h =
      rw (← append_assoc done (b ∷ []) text, ← append_assoc es (take_byte s b).events (events_in (take_byte s b).next text))
      (text_step (done ++ b ∷ []) text (es ++ (take_byte s b).events) (take_byte s b).next (byte_step done es s b h))
