-- A text that is spelled is read: as its events, and to the end of an item.
--
-- A line that ends is one step of the reading (`one_line`), and texts one after another are read on (`Gives-append`).
-- An item of one line is one step (`closed`). For an item with fields, its first line opens it (`opened`), and
-- `fields_read` goes by induction over its field lines: each but the last leaves one less to come. `item_read` joins
-- the kinds of items, `items_read` goes over the schedule. `read_back` is for the text that is written for an event.
use Rattle.std.proofs.{Common.{◌≡◌, ℕ, ◌+◌, ◌-◌, ◌<◌, ◌≤◌, ◌==◌, true, false, List, [], ◌∷◌, ◌++◌, length, Option, Some, None, refl, sym, ap, subst, ◌∙◌, arith, inl, inr, append_assoc}, lemmas.{Bool.{le-ltb, ne_eqb, eq-eqb, cases_eq}, List.{append-nil}}}
use Rattle.hc_text.specs.Texts.{lacks}
use Rattle.hc_event.specs.declared.event.Event.{Event}
use Rattle.hc_event.specs.declared.event.Event.TheVariants as event
use Rattle.hc_fields.specs.Lines.{field_text, fields_text}
use Rattle.hc_sched.specs.{declared.{begun.Opening.{Opening}, place.Place.{Place}, schedule.Timed.{Timed}}, FirstLines.{First, first_of}, Reading.{Progress, Reads, Step, pass, happen, begin, event_of, take_first, take_field, take_line}, Schedule.{Item, Moment, Happens, item_text, item_line, item_fields, text_of, IsHead, IsItem, IsEvent, IsSmall, IsSchedule, moment_after, moment_end, event_at, events_of}, Laws.{Gives, at_rest, IsReadBack}}
use Rattle.hc_sched.specs.declared.begun.Opening.TheVariants as opening
use Rattle.hc_target.specs.Targets.{is_target}
use Rattle.hc_sched.proofs.{Hex.{IsPiece, bytes_of-piece_text}, FeedLemmas.{line_passes, join_short, after-append, events_in-append}, FieldReads.{Pair, line_of, field_text-line, lacks-field, field_of-line, put-head, IsHead-prefix, field-short}, Forms.{first_for, first_of-line, IsShortLine, line-short}}
use Rattle.hc_fields.proofs.Ends.{IsField-last}

pub Gives-append : (s t u : Progress) (xs ys : List ℕ) (es fs : List Timed) → Gives s xs t es → Gives t ys u fs → Gives s (xs ++ ys) u (es ++ fs)
Gives-append s t u xs ys es fs h k = search (arith, after-append, events_in-append)

Gives-nothing : (s : Progress) → Gives s [] s []
Gives-nothing s = record { leads = refl; brings = refl }

-- a whole line
one_line : (p : Place) (line : List ℕ) → lacks 10 line ≡ true → length line ≤ 140000
    → Gives (Reads p []) (line ++ 10 ∷ []) (take_line p line).next (take_line p line).events
one_line p line none short =
    let passes = line_passes p [] line [] none (omega arith) in
    let same = join_short p line short in
    record {
      leads = passes.leads ∙ ap (λ (s : Step). s.next) same;
      brings = passes.brings ∙ (append-nil _ ∙ ap (λ (s : Step). s.events) same);
    }

-- where field lines are coming
abbrev within : ℕ → ℕ → Opening → List Pair → ℕ → ℕ → Place
within moment lines o fs missing bytes =
    record { moment = moment; lines = lines; begun = Some (record { opening = o; fields = fs; missing = missing; bytes = bytes }) }

abbrev timed : ℕ → Event → List Timed
timed now event = record { now = now; event = event } ∷ []

take_line-field : (m n : ℕ) (o : Opening) (fs : List Pair) (missing bytes : ℕ) (f : Pair) → IsHead (fs ++ f ∷ [])
    → take_line (within m n o fs missing bytes) (line_of f)
    ≡ take_field (within m n o fs missing bytes) (record { opening = o; fields = fs; missing = missing; bytes = bytes }) (length (line_of f)) (Some f)
unfolding take_line
take_line-field m n o fs missing bytes f h =
    ap (λ (field : Option Pair). take_field (within m n o fs missing bytes) (record { opening = o; fields = fs; missing = missing; bytes = bytes })
    (length (line_of f)) field) (field_of-line fs f h)

-- the last field line
last_field : (m n : ℕ) (o : Opening) (fs : List Pair) (bytes : ℕ) (f : Pair) → IsHead (fs ++ f ∷ [])
    → take_line (within m n o fs 1 bytes) (line_of f) ≡ pass (at_rest m n) m None (timed m (event_of o (fs ++ f ∷ [])))
last_field m n o fs bytes f h = search (arith, take_line-field, put-head)

-- a field line before others
next_field : (m n : ℕ) (o : Opening) (fs : List Pair) (k bytes : ℕ) (f : Pair) → IsHead (fs ++ f ∷ []) → 0 < k
    → (more : ℕ) × (take_line (within m n o fs (k + 1) bytes) (line_of f) ≡ record { next = Reads (within m (n + 1) o (fs ++ f ∷ []) k more) []; events = [] })
next_field m n o fs k bytes f h some =
    let other : ((k + 1) == 1) ≡ false = ne_eqb (k + 1) 1 (λ e. omega (arith, e)) in
    let back : k + 1 - 1 ≡ k = omega arith in (
      bytes + length (line_of f) + 1,
      take_line-field m n o fs (k + 1) bytes f h ∙ rw (other, put-head fs f h, back) refl,
    )

pub Gives-same : (s s_ t t_ : Progress) (xs xs_ : List ℕ) (es es_ : List Timed) → s ≡ s_ → xs ≡ xs_ → t ≡ t_ → es ≡ es_ → Gives s xs t es → Gives s_ xs_ t_ es_
Gives-same s s_ t t_ xs xs_ es es_ a b c d h = rw (← a, ← b, ← c, ← d) h

step_gives : (p : Place) (line : List ℕ) (step : Step) → lacks 10 line ≡ true → length line ≤ 140000 → take_line p line ≡ step
    → Gives (Reads p []) (line ++ 10 ∷ []) step.next step.events
step_gives p line step none short is = rw (← is) (one_line p line none short)

-- all field lines of an item
fields_read : (m n : ℕ) (o : Opening) (fs : List Pair) (bytes : ℕ) (f : Pair) (rest : List Pair) → IsHead (fs ++ f ∷ rest)
    → Gives (Reads (within m n o fs (length (f ∷ rest)) bytes) []) (fields_text (f ∷ rest)) (Reads (at_rest m (n + length (f ∷ rest))) [])
    (timed m (event_of o (fs ++ f ∷ rest)))
fields_read m n o fs bytes f [] h =
    let gives = step_gives (within m n o fs 1 bytes) (line_of f) _ (lacks-field f (IsField-last fs f h.list)) (field-short fs f h)
    (last_field m n o fs bytes f h) in
    let text : line_of f ++ 10 ∷ [] ≡ field_text f ++ [] = sym (field_text-line f) ∙ sym (append-nil (field_text f)) in
    Gives-same _ _ _ _ _ _ _ _ refl text refl refl gives
fields_read m n o fs bytes f (g ∷ rest) h =
    let k = length (g ∷ rest) in
    let joined : (fs ++ f ∷ []) ++ g ∷ rest ≡ fs ++ f ∷ g ∷ rest = append_assoc fs (f ∷ []) (g ∷ rest) in
    let whole : IsHead ((fs ++ f ∷ []) ++ g ∷ rest) = rw joined h in
    let head = IsHead-prefix (fs ++ f ∷ []) (g ∷ rest) whole in
    let some : 0 < k = omega arith in
    let next = next_field m n o fs k bytes f head some in
    let first = step_gives (within m n o fs (k + 1) bytes) (line_of f) _ (lacks-field f (IsField-last fs f head.list)) (field-short fs f head) next.1 in
    let more = fields_read m (n + 1) o (fs ++ f ∷ []) next.0 g rest whole in
    let both = Gives-append _ _ _ _ _ _ _ first more in
    Gives-same _ _ _ _ _ _ _ _
    (ap (λ (c : ℕ). Reads (within m n o fs c bytes) []) (omega arith))
    (ap (λ (l : List ℕ). l ++ fields_text (g ∷ rest)) (sym (field_text-line f)))
    (ap (λ (l : ℕ). Reads (at_rest m l) []) (omega arith))
    (ap (λ (l : List Pair). timed m (event_of o l)) joined)
    both

-- an item with fields, behind its first line
opened : (m n : ℕ) (o : Opening) (line : List ℕ) (bytes : ℕ) (fields : List Pair) → IsHead fields → IsShortLine line
    → take_line (at_rest m n) line ≡ begin (at_rest m n) o (length fields) bytes
    → Gives (Reads (at_rest m n) []) (line ++ 10 ∷ fields_text fields) (Reads (at_rest m (n + 1 + length fields)) []) (timed m (event_of o fields))
opened m n o line bytes [] h short is =
    let lines : n + 1 ≡ n + 1 + 0 = omega arith in
    Gives-same _ _ _ _ _ _ _ _ refl refl (ap (λ (l : ℕ). Reads (at_rest m l) []) lines) refl
    (step_gives (at_rest m n) line (happen (at_rest m n) (event_of o [])) short.feeds short.short is)
opened m n o line bytes (f ∷ rest) h short is =
    let other : (length (f ∷ rest) == 0) ≡ false = ne_eqb (length (f ∷ rest)) 0 (λ e. omega (arith, e)) in
    let begins : begin (at_rest m n) o (length (f ∷ rest)) bytes ≡ record
    { next = Reads (within m (n + 1) o [] (length (f ∷ rest)) (bytes + 1)) []; events = [] } = rw other refl in
    let first = step_gives (at_rest m n) line _ short.feeds short.short (is ∙ begins) in
    let more = fields_read m (n + 1) o [] (bytes + 1) f rest h in
    Gives-same _ _ _ _ _ _ _ _ refl (append_assoc line (10 ∷ []) (fields_text (f ∷ rest))) refl refl (Gives-append _ _ _ _ _ _ _ first more)

take_line-first : (m n : ℕ) (line : List ℕ) (first : First) → first_of line ≡ Some first →
    take_line (at_rest m n) line ≡ take_first (at_rest m n) (length line) (Some first)
unfolding take_line
take_line-first m n line first is = ap (take_first (at_rest m n) (length line)) is

-- an item of one line
closed : (m n later : ℕ) (item : Item) (es : List Timed) → IsItem item
    → take_first (at_rest m n) (length (item_line item)) (Some (first_for item)) ≡ record { next = Reads (at_rest later (n + 1)) []; events = es }
    → Gives (Reads (at_rest m n) []) (item_line item ++ 10 ∷ []) (Reads (at_rest later (n + 1 + 0)) []) es
closed m n later item es h is =
    let short = line-short item h in
    Gives-same _ _ _ _ _ _ _ _ refl refl (ap (λ (l : ℕ). Reads (at_rest later l) []) (omega arith)) refl
    (step_gives (at_rest m n) (item_line item) _ short.feeds short.short (take_line-first m n (item_line item) (first_for item) (first_of-line item h) ∙ is))

-- an item is read
pub item_read : (m n : ℕ) (item : Item) → IsItem item → m ≤ moment_after m item
    → Gives (Reads (at_rest m n) []) (item_text item) (Reads (at_rest (moment_after m item) (n + 1 + length (item_fields item))) []) (event_at m item)
item_read m n (Moment now) h later = closed m n now (Moment now) [] h (rw (le-ltb now m later) refl)
item_read m n (Happens (event.Start c request)) h later =
    let item = Happens (event.Start c request) in
    let o = opening.Start c request.method request.key request.load in
    opened m n o (item_line item) (length (item_line item)) request.fields h.3 (line-short item h)
    (take_line-first m n (item_line item) (first_for item) (first_of-line item h) ∙ rw h.2 refl)
item_read m n (Happens (event.Head x response)) h later =
    let item = Happens (event.Head x response) in
    opened m n (opening.Head x response.status) (item_line item) (length (item_line item)) response.fields h.3 (line-short item h)
    (take_line-first m n (item_line item) (first_for item) (first_of-line item h))
item_read m n (Happens (event.Piece x bytes)) h later =
    let piece : IsPiece bytes = record { short = h.1; small = h.2 } in
    closed m n m (Happens (event.Piece x bytes)) (timed m (event.Piece x bytes)) h
    (ap (λ (bs : List ℕ). happen (at_rest m n) (event.Piece x bs)) (bytes_of-piece_text bytes piece))
item_read m n (Happens (event.Doom key)) h later =
    let target : is_target key ≡ true = h in
    closed m n m (Happens (event.Doom key)) (timed m (event.Doom key)) h (rw target refl)
item_read m n (Happens (event.Poll c want)) h later = closed m n m (Happens (event.Poll c want)) (timed m (event.Poll c want)) h refl
item_read m n (Happens (event.End x)) h later = closed m n m (Happens (event.End x)) (timed m (event.End x)) h refl
item_read m n (Happens (event.Fault x)) h later = closed m n m (Happens (event.Fault x)) (timed m (event.Fault x)) h refl
item_read m n (Happens (event.Cancel c)) h later = closed m n m (Happens (event.Cancel c)) (timed m (event.Cancel c)) h refl

-- items are read, up to a place between two items
pub record IsReadOff (m n : ℕ) (items : List Item) : Type 0 where
  pub lines : ℕ
  pub gives : Gives (Reads (at_rest m n) []) (text_of items) (Reads (at_rest (moment_end m items) lines) []) (events_of m items)

pub items_read : (m n : ℕ) (items : List Item) → IsSchedule m items → IsReadOff m n items
items_read m n [] h = record { lines = n; gives = Gives-nothing (Reads (at_rest m n) []) }
items_read m n (item ∷ items) h =
    let more = items_read (moment_after m item) (n + 1 + length (item_fields item)) items h.2 in
    record { lines = more.lines; gives = Gives-append _ _ _ _ _ _ _ (item_read m n item h.0 h.1) more.gives }

-- an event is read back
same_event : (last now : ℕ) (event : Event) (lines : ℕ) → IsEvent event → now ≡ last
    → (more : ℕ) × Gives (Reads (at_rest last lines) []) (text_of (Happens event ∷ [])) (Reads (at_rest now more) []) (timed now event)
same_event last now event lines h same =
    let off = items_read last lines (Happens event ∷ []) (h, omega arith, tt) in
    let P : ℕ → Type 0 = λ k. (more : ℕ) × Gives (Reads (at_rest last lines) []) (text_of (Happens event ∷ [])) (Reads (at_rest k more) []) (timed k event) in
    subst P (sym same) (off.lines, off.gives)

later_event : (last now : ℕ) (event : Event) (lines : ℕ) → IsEvent event → IsSmall now → last ≤ now
    → (more : ℕ) × Gives (Reads (at_rest last lines) []) (text_of (Moment now ∷ Happens event ∷ [])) (Reads (at_rest now more) []) (timed now event)
later_event last now event lines h small later =
    let off = items_read last lines (Moment now ∷ Happens event ∷ []) (small, later, (h, omega arith, tt)) in
    (off.lines, off.gives)

pub read_back : (last : ℕ) (event : Timed) → IsEvent event.event → IsSmall event.now → last ≤ event.now → IsReadBack last event
read_back last event h small later lines =
    elim (cases_eq event.now last) [
      | inl same ↦ rw (eq-eqb event.now last same) (same_event last event.now event.event lines h same)
      | inr other ↦ rw (ne_eqb event.now last other) (later_event last event.now event.event lines h small later)
    ]
