-- A text has one reading.
--
-- What is spelled is read (`is_read`). The other way, where the reading of a text ends with no refusal, nothing is left
-- behind its items (`spelled_at`). What it brings is the events of these, also where it was refused (`has_read`). Two
-- items that a text begins with are one (`item_once`): their lines are cut alike, their first lines read alike, and so
-- are as many fields. So a text has one spelling (`one_spelling`), and what refuses it refuses more text too.
use Rattle.std.{proofs.{Common.{◌≡◌, ◌≢◌, ℕ, ◌+◌, ◌≤◌, ◌==◌, ◌&&◌, true, List, [], ◌∷◌, ◌++◌, length, Option, Some, None, refl, sym, ap, subst, ◌∙◌, inl, inr, arith, append_assoc, length-append}, lemmas.{Bool.{cases_Bool, eqb-true}, List.{append-nil}}}, specs.Prelude.{is_none}}
use Rattle.hc_event.specs.declared.event.Event.TheVariants as event
use Rattle.hc_fields.specs.Lines.{fields_text}
use Rattle.hc_text.proofs.Cuts.{cut_once}
use Rattle.hc_fields.proofs.FieldTexts.{fields_once}
use Rattle.hc_sched.specs.{declared.{begun.Begun.{Begun}, schedule.{Refused.{Refused}, Timed.{Timed}}}, Pieces.{bytes_of}, FirstLines.{First, Sets, Starts, Heads, Brings, Dooms, Reports, first_of}, Reading.{Progress, Reads, Stopped, Spent, after, events_in, beginning, refusal_of, is_between, refusal_at}, Schedule.{Item, Moment, Happens, item_line, item_fields, item_text, text_of, IsHead, IsItem, IsSmall, IsSchedule, Spells, moment_after, events_of}, Laws.{HasRead, AreTimed}}
use Rattle.hc_sched.specs.declared.schedule.SchedRefusal.TheVariants as why
use Rattle.hc_sched.proofs.{FieldReads.{Pair}, FeedLemmas.{after-append, after-stopped, events_in-append}, Forms.{first_for, first_of-line, line-short}, Hex.{bytes_of-piece_text}, Spelled.{items_read}, Standing.{StandsFor, begun_text, text_step}}

pub is_read : (now : ℕ) (text : List ℕ) (items : List Item) → Spells now text items
    → (refusal_of now text ≡ None) × (events_in (beginning now) text ≡ events_of now items)
is_read now text items h =
    let off = items_read now 0 items h.schedule in (
      ap (λ (t : List ℕ). refusal_of now t) (sym h.text_is) ∙ ap refusal_at off.gives.leads,
      ap (λ (t : List ℕ). events_in (beginning now) t) (sym h.text_is) ∙ off.gives.brings,
    )

-- nothing is left between two items
nothing_left : (begun : Option Begun) (line : List ℕ) → (is_none begun && length line == 0) ≡ true → (begun ≡ None) × (line ≡ [])
nothing_left None [] h = (refl, refl)
nothing_left None (b ∷ line) h = absurd (omega (arith, eqb-true (length (b ∷ line)) 0 h))
nothing_left (Some b) line h = cc h

spelled_at : (now : ℕ) (text : List ℕ) (es : List Timed) (s : Progress) → StandsFor now text es s → refusal_at s ≡ None → (items : List Item) ×
    Spells now text items
spelled_at now text es (Reads p line) h none =
    elim (cases_Bool (is_between p line)) [
      | inl rest ↦
          let left = nothing_left p.begun line rest in
          let whole : text_of h.items ++ (begun_text None ++ []) ≡ text = rw (left.0, left.1) at h.whole in
          (h.items, record { schedule = h.schedule; text_is = sym (append-nil (text_of h.items)) ∙ whole })
      | inr more ↦ cc (rw more at none)
    ]
spelled_at now text es (Stopped refused) h none = cc none
spelled_at now text es Spent h none = absurd h

-- where the reading of a text stands
stands_at : (now : ℕ) (text : List ℕ) → StandsFor now text (events_in (beginning now) text) (after (beginning now) text)
stands_at now text =
    let first : StandsFor now [] [] (beginning now) = record { items = []; schedule = tt; whole = refl; events = refl; moment_is = refl; under = tt } in
    text_step now [] text [] (beginning now) first

pub is_spelled : (now : ℕ) (text : List ℕ) → refusal_of now text ≡ None → (items : List Item) × Spells now text items
is_spelled now text none = spelled_at now text (events_in (beginning now) text) (after (beginning now) text) (stands_at now text) none

has_read : (now : ℕ) (text : List ℕ) (es : List Timed) (s : Progress) → StandsFor now text es s → HasRead now text es
has_read now text es (Reads p line) h = record {
  items = h.items;
  rest = begun_text p.begun ++ line;
  schedule = h.schedule;
  whole = h.whole;
  events_are = h.events;
}
has_read now text es (Stopped refused) h = h
has_read now text es Spent h = absurd h

pub brings_items : (now : ℕ) (text : List ℕ) → HasRead now text (events_in (beginning now) text)
brings_items now text = has_read now text (events_in (beginning now) text) (after (beginning now) text) (stands_at now text)

timed_of : (last now : ℕ) (items : List Item) → last ≤ now → IsSmall now → IsSchedule now items → AreTimed last (events_of now items)
timed_of last now [] le small h = tt
timed_of last now (Moment later ∷ items) le small h = timed_of last later items (omega (arith, le, h.1)) h.0 h.2
timed_of last now (Happens event ∷ items) le small h = (h.0, small, le, timed_of now now items (omega arith) small h.2)

pub brings_timed : (now : ℕ) (text : List ℕ) → IsSmall now → AreTimed now (events_in (beginning now) text)
brings_timed now text small =
    let read = brings_items now text in rw read.events_are (timed_of now now read.items (omega arith) small read.schedule)

pub brings_all : (now : ℕ) (items : List Item) (rest : List ℕ) → IsSchedule now items
    → (more : List Timed) × (events_in (beginning now) (text_of items ++ rest) ≡ events_of now items ++ more)
brings_all now items rest h =
    let off = items_read now 0 items h in (
      events_in (after (beginning now) (text_of items)) rest,
      events_in-append (beginning now) (text_of items) rest ∙
          ap (λ (l : List Timed). l ++ events_in (after (beginning now) (text_of items)) rest) off.gives.brings,
    )

-- An item by its first line and its fields.
item_from : First → List Pair → Item
item_from (Sets now) fields = Moment now
item_from (Starts c method kind target count) fields = Happens (event.Start c (record { method = method; key = target; load = kind; fields = fields }))
item_from (Heads x status count) fields = Happens (event.Head x (record { status = status; fields = fields }))
item_from (Brings x text) fields = Happens (event.Piece x (bytes_of text))
item_from (Dooms target) fields = Happens (event.Doom target)
item_from (Reports event) fields = Happens event

item_is : (item : Item) → IsItem item → item_from (first_for item) (item_fields item) ≡ item
unfolding item_from
item_is (Happens (event.Piece x bytes)) h = ap (λ (bs : List ℕ). Happens (event.Piece x bs)) (bytes_of-piece_text bytes (record { short = h.1; small = h.2 }))
item_is _ h = refl

-- how many fields a first line announces
count_in : First → ℕ
count_in (Starts c method kind target count) = count
count_in (Heads x status count) = count
count_in _ = 0

count_is : (item : Item) → count_in (first_for item) ≡ length (item_fields item)
unfolding count_in
count_is (Moment now) = refl
count_is (Happens (event.Doom key)) = refl
count_is (Happens _) = refl

no_fields : IsHead []
no_fields = record {
  list = record { fields = λ k d lt. absurd (omega arith); sorted = refl; few = omega arith; small = omega arith };
  within_limits =
      record { few = omega arith; small = omega arith };
}

fields_are : (item : Item) → IsItem item → IsHead (item_fields item)
fields_are (Happens (event.Start c request)) h = h.3
fields_are (Happens (event.Head x response)) h = h.3
fields_are _ h = no_fields

apart : (item : Item) (rest : List ℕ) → item_text item ++ rest ≡ item_line item ++ 10 ∷ (fields_text (item_fields item) ++ rest)
apart item rest = append_assoc (item_line item) (10 ∷ fields_text (item_fields item)) rest

-- two items that a text begins with are one
item_once : (x y : Item) (r s : List ℕ) → IsItem x → IsItem y → item_text x ++ r ≡ item_text y ++ s → (x ≡ y) × (r ≡ s)
item_once x y r s hx hy same =
    let lines = cut_once 10 (item_line x) _ (item_line y) _ (line-short x hx).feeds (line-short y hy).feeds (sym (apart x r) ∙ (same ∙ apart y s)) in
    let read : Some (first_for x) ≡ Some (first_for y) = sym (first_of-line x hx) ∙ (ap first_of lines.0 ∙ first_of-line y hy) in
    let first : first_for x ≡ first_for y = cc read in
    let count : length (item_fields x) ≡ length (item_fields y) = sym (count_is x) ∙ (ap count_in first ∙ count_is y) in
    let fields = fields_once (item_fields x) (item_fields y) r s (fields_are x hx).list.fields (fields_are y hy).list.fields count lines.1 in (
      sym (item_is x hx) ∙ (ap (λ (f : First). item_from f (item_fields x)) first ∙
          (ap (λ (l : List Pair). item_from (first_for y) l) fields.0 ∙ item_is y hy)),
      fields.1,
    )

-- an item has a text
item_some : (item : Item) (rest : List ℕ) → item_text item ++ rest ≢ []
item_some item rest e = omega (arith, ap length (sym (apart item rest) ∙ e), length-append (item_line item) (10 ∷ (fields_text (item_fields item) ++ rest)))

items_once : (now : ℕ) (xs ys : List Item) → IsSchedule now xs → IsSchedule now ys → text_of xs ≡ text_of ys → xs ≡ ys
items_once now [] [] hx hy same = refl
items_once now [] (y ∷ ys) hx hy same = absurd (item_some y (text_of ys) (sym same))
items_once now (x ∷ xs) [] hx hy same = absurd (item_some x (text_of xs) same)
items_once now (x ∷ xs) (y ∷ ys) hx hy same =
    let one = item_once x y (text_of xs) (text_of ys) hx.0 hy.0 same in
    let rest = items_once (moment_after now x) xs ys hx.2 (subst (λ (i : Item). IsSchedule (moment_after now i) ys) (sym one.0) hy.2) one.1 in
    ap (λ (i : Item). i ∷ xs) one.0 ∙ ap (λ (l : List Item). y ∷ l) rest

pub one_spelling : (now : ℕ) (text : List ℕ) (xs ys : List Item) → Spells now text xs → Spells now text ys → xs ≡ ys
one_spelling now text xs ys hx hy = items_once now xs ys hx.schedule hy.schedule (hx.text_is ∙ sym hy.text_is)

stays_at : (s : Progress) (more : List ℕ) (refused : Refused) → refusal_at s ≡ Some refused → refused.why ≢ why.CutShort →
    refusal_at (after s more) ≡ Some refused
stays_at (Reads p line) more refused is other =
    elim (cases_Bool (is_between p line)) [
      | inl rest ↦ cc (rw rest at is)
      | inr left ↦
          let cut : record { line = p.lines + 1; why = why.CutShort } ≡ refused = cc (rw left at is) in
          absurd (other (ap (λ (r : Refused). r.why) (sym cut)))
    ]
stays_at (Stopped r) more refused is other = ap refusal_at (after-stopped r more) ∙ is
stays_at Spent more refused is other = cc is

pub stays_refused : (now : ℕ) (text more : List ℕ) (refused : Refused) → refusal_of now text ≡ Some refused → refused.why ≢ why.CutShort →
    refusal_of now (text ++ more) ≡ Some refused
stays_refused now text more refused is other =
    ap refusal_at (after-append (beginning now) text more) ∙ stays_at (after (beginning now) text) more refused is other
