-- Events are answered one after another.
--
-- The loop keeps that the first events went wholly (`IsWritten`). What went wholly, and behind that so far as it went,
-- went so far as a whole (`goes_more`): the histories join, and with them their events and their texts. So with one
-- event more the loop keeps it (`written_more`). Where the loop stops, the next event ended it (`written_end`), some
-- first part of its text was taken (`written_last`), or it was refused memory (`written_lacking`).
use Rattle.std.{proofs.{Common.{◌≡◌, ℕ, suc, ◌+◌, ◌<◌, ◌≤◌, List, [], ◌∷◌, ◌++◌, length, take, drop, get_or, Option, Result, Ok, Err, ◌⊎◌, Bool, true, false, refl, sym, ap, subst, ◌∙◌, inl, inr, arith, append_assoc, length-append}, lemmas.List.{append-nil, take-append-drop, take_more, length-take}, Math.Seq.{drop-cons}}, specs.Result.{IsErrAnd}}
use Rattle.hc_text.proofs.Basics.{nothing_first}
use Rattle.hc_event.specs.{declared.event.Event.{Event}, Counting.{received_in}}
use Rattle.hc_io.specs.{Sink.{Takes, TakesPrefix}, declared.sink.SinkError.{SinkError}}
use Rattle.hc_io.specs.declared.sink.SinkError.TheVariants as sink
use Rattle.hc_io.proofs.Takings.{takes_more, takes_none}
use Rattle.hc_sched.specs.{declared.schedule.Timed.{Timed}, Laws.{AreTimed}}
use Rattle.hc_driver.specs.{Counting.{size_of, last_moment}, Courses.{History, events_in, text_of, text_before, last_text, Leads, nothing, more, Lacks, TakesThenPrefix, Goes, wholly, up_to_end, up_to_last, up_to_want}, Endings.{How, Wholly, UpToEnd, UpToLast, UpToWant}, declared.stop.Stop.{Stop}, Pieces.{Some, Wants, Comes}, Stops.{of_sink}}
use Rattle.hc_driver.specs.declared.stop.Stop.TheVariants as stop
use Rattle.hc_driver.proofs.{Sizes.{size_of-append}, Timings.{last-append}}

-- LISTS

-- a list about one of its items
pub around : (xs : List Timed) (i : ℕ) (x : Timed) → i < length xs → x ≡ get_or xs i x → take i xs ++ x ∷ drop (i + 1) xs ≡ xs
around xs i x lt is =
    let front : take (i + 1) xs ≡ take i xs ++ x ∷ [] = take_more xs i x lt ∙ ap (λ (y : Timed). take i xs ++ y ∷ []) (sym is) in
    let whole : (take i xs ++ x ∷ []) ++ drop (i + 1) xs ≡ xs = ap (λ (ys : List Timed). ys ++ drop (i + 1) xs) (sym front) ∙ take-append-drop (i + 1) xs in
    sym (append_assoc (take i xs) (x ∷ []) (drop (i + 1) xs)) ∙ whole

-- what is left of a list before one of its items
pub from : (xs : List Timed) (i : ℕ) (x : Timed) → i < length xs → x ≡ get_or xs i x → drop i xs ≡ x ∷ drop (i + 1) xs
from xs i x lt is = let step : i + 1 ≡ suc i = omega arith in rw step (drop-cons xs i x lt ∙ ap (λ (y : Timed). y ∷ drop (suc i) xs) (sym is))

pub front : (xs : List Timed) (i : ℕ) (x : Timed) → i < length xs → x ≡ get_or xs i x → take (i + 1) xs ≡ take i xs ++ x ∷ []
front xs i x lt is = take_more xs i x lt ∙ ap (λ (y : Timed). take i xs ++ y ∷ []) (sym is)

-- HISTORIES THAT JOIN

length-events_in : (h : History) → length (events_in h) ≡ length h
length-events_in [] = refl
length-events_in (e ∷ h) = let before = length-events_in h in let push = length-append (events_in h) (e.timed ∷ []) in omega arith

events_in-append : (h g : History) → events_in (g ++ h) ≡ events_in h ++ events_in g
events_in-append h [] = sym (append-nil (events_in h))
events_in-append h (e ∷ g) = ap (λ (l : List Timed). l ++ e.timed ∷ []) (events_in-append h g) ∙ append_assoc (events_in h) (events_in g) (e.timed ∷ [])

text-append : (h g : History) → text_of (g ++ h) ≡ text_of h ++ text_of g
text-append h [] = sym (append-nil (text_of h))
text-append h (e ∷ g) = ap (λ (l : List ℕ). l ++ e.text) (text-append h g) ∙ append_assoc (text_of h) (text_of g) e.text

-- what was all taken was taken up to the last
all_but_last : (h : History) (a b : Option (List ℕ)) → Takes a b (text_of h) → TakesThenPrefix a b (text_before h) (last_text h)
all_but_last [] a b taken = record { part = []; rest = []; whole = refl; takes = taken }
all_but_last (e ∷ h) a b taken = record { part = e.text; rest = []; whole = append-nil e.text; takes = taken }

-- all that was answered before goes in front
ahead : (f g : History) (a b c : Option (List ℕ)) → Takes a b (text_of f) → TakesThenPrefix b c (text_before g) (last_text g) →
    TakesThenPrefix a c (text_before (g ++ f)) (last_text (g ++ f))
ahead f [] a b c taken up =
    let none : up.part ≡ [] = nothing_first up.part up.rest up.whole in
    let same : Takes b c [] = subst (λ (l : List ℕ). Takes b c l) none up.takes in
    all_but_last f a c (subst (λ (l : List ℕ). Takes a c l) (append-nil (text_of f)) (takes_more a b c (text_of f) [] taken same))
ahead f (e ∷ g) a b c taken up =
    let joined : text_of f ++ (text_of g ++ up.part) ≡ text_of (g ++ f) ++ up.part =
    sym (append_assoc (text_of f) (text_of g) up.part) ∙ ap (λ (l : List ℕ). l ++ up.part) (sym (text-append f g)) in
    record {
      part = up.part;
      rest = up.rest;
      whole = up.whole;
      takes = subst (λ (l : List ℕ). Takes a c l) joined (takes_more a b c (text_of f) (text_of g ++ up.part) taken up.takes);
    }

-- THE LOOP

-- how much was answered, and how often the sink failed
pub record Counts : Type 0 where
  pub number : ℕ
  pub steps : ℕ
  pub received : ℕ
  pub moment : ℕ
  pub faults : ℕ

module _ {A : Type 0} (reports : A → ℕ → ℕ → Event → List ℕ → A → Type 0) (over : A → Bool) (spent : A → A → Type 0) where
  leads-append : (n m : ℕ) (s t u : A) (h g : History) → m ≡ n + length h → Leads reports over n s h t → Leads reports over m t g u →
      Leads reports over n s (g ++ h) u
  leads-append n m s t u h _ is first nothing = first
  leads-append n m s t u h _ is first (more g e v w rest is_open reported) =
      let number : m + length g + 1 ≡ n + length (g ++ h) + 1 = let len = length-append g h in omega arith in
      more (g ++ h) e v u (leads-append n m s t v h g is first rest) is_open (subst (λ (k : ℕ). reports v k e.timed.now e.timed.event e.text u) number reported)

  events-join : (h g : History) (xs ys : List Timed) → events_in h ≡ xs → events_in g ≡ ys → events_in (g ++ h) ≡ xs ++ ys
  events-join h g xs ys h_are g_are = events_in-append h g ∙ (ap (λ (l : List Timed). l ++ events_in g) h_are ∙ ap (λ (l : List Timed). xs ++ l) g_are)

  texts-join : (h g : History) (a b c : Option (List ℕ)) → Takes a b (text_of h) → Takes b c (text_of g) → Takes a c (text_of (g ++ h))
  texts-join h g a b c first then = subst (λ (l : List ℕ). Takes a c l) (sym (text-append h g)) (takes_more a b c (text_of h) (text_of g) first then)

  -- from as many on as went before
  number-is : (n m : ℕ) (h : History) (xs : List Timed) → events_in h ≡ xs → m ≡ n + length xs → m ≡ n + length h
  number-is n m h xs are is = is ∙ ap (λ (k : ℕ). n + k) (sym (ap length are) ∙ length-events_in h)

  pub goes_none : (n : ℕ) (s : A) (out : Option (List ℕ)) → over s ≡ false → Goes reports over spent n s s out out Wholly []
  goes_none n s out is_open = wholly [] refl nothing is_open (takes_none out)

  -- all of some events, and then some more so far
  pub goes_more : (n m : ℕ) (s t u : A) (a b c : Option (List ℕ)) (how : How) (xs ys : List Timed) → Goes reports over spent n s t a b Wholly xs →
      m ≡ n + length xs
      → Goes reports over spent m t u b c how ys → Goes reports over spent n s u a c how (xs ++ ys)
  goes_more n m s t u a b c _ xs ys (wholly f f_are f_leads f_open f_taken) is (wholly g g_are g_leads g_open g_taken) =
      wholly (g ++ f) (events-join f g xs ys f_are g_are) (leads-append n m s t u f g (number-is n m f xs f_are is) f_leads g_leads) g_open
      (texts-join f g a b c f_taken g_taken)
  goes_more n m s t u a b c _ xs ys (wholly f f_are f_leads f_open f_taken) is (up_to_end g g_are g_leads ended g_taken) =
      up_to_end (g ++ f) (events-join f g xs ys f_are g_are) (leads-append n m s t u f g (number-is n m f xs f_are is) f_leads g_leads) ended
      (texts-join f g a b c f_taken g_taken)
  goes_more n m s t u a b c _ xs ys (wholly f f_are f_leads f_open f_taken) is (up_to_last g g_are g_leads g_taken) =
      up_to_last (g ++ f) (events-join f g xs ys f_are g_are) (leads-append n m s t u f g (number-is n m f xs f_are is) f_leads g_leads)
      (ahead f g a b c f_taken g_taken)
  goes_more n m s t u a b c _ xs ys (wholly f f_are f_leads f_open f_taken) is (up_to_want g last g_are g_leads g_open g_taken led) =
      up_to_want (g ++ f) last (events-join f g xs ys f_are g_are) (leads-append n m s t last f g (number-is n m f xs f_are is) f_leads g_leads) g_open
      (texts-join f g a b c f_taken g_taken) led

  -- what went wholly went up to the last
  pub wholly_last : (n : ℕ) (s u : A) (a b : Option (List ℕ)) (xs : List Timed) → Goes reports over spent n s u a b Wholly xs →
      Goes reports over spent n s u a b UpToLast xs
  wholly_last n s u a b xs (wholly h are leads is_open taken) = up_to_last h are leads (all_but_last h a b taken)

  -- what went wholly, and its next answer was refused memory
  wholly_want : (n : ℕ) (s t u : A) (a b : Option (List ℕ)) (xs : List Timed) → Goes reports over spent n s t a b Wholly xs → spent t u →
      Goes reports over spent n s u a b UpToWant xs
  wholly_want n s t u a b xs (wholly h are leads is_open taken) led = up_to_want h t are leads is_open taken led

  -- ONE EVENT

  -- it was answered by this text
  one : (n number : ℕ) (s u : A) (timed : Timed) (text : List ℕ) → over s ≡ false → reports s number timed.now timed.event text u → number ≡ n + 1
      → Leads reports over n s ((record { timed = timed; text = text }) ∷ []) u
  one n number s u timed text is_open reported is =
      let here : number ≡ n + 0 + 1 = omega (arith, is) in
      more [] (record { timed = timed; text = text }) s u nothing is_open (subst (λ (k : ℕ). reports s k timed.now timed.event text u) here reported)

  -- the first i events went wholly, and the rest may be answered
  pub record IsWritten (s u : A) (before now : Counts) (events : List Timed) (i : ℕ) (out out' : Option (List ℕ)) : Type 0 where
    pub goes : Goes reports over spent before.number s u out out' Wholly (take i events)
    pub numbered : now.number ≡ before.number + i
    pub counted : now.steps ≡ before.steps + i
    pub size : now.steps + now.received ≡ before.steps + before.received + size_of (take i events)
    pub moment_is : now.moment ≡ last_moment before.moment (take i events)
    pub timed : AreTimed now.moment (drop i events)
    pub is_open : over u ≡ false
    pub calm : now.faults ≡ before.faults

  pub written_none : (s : A) (now : Counts) (events : List Timed) (out : Option (List ℕ)) → over s ≡ false → AreTimed now.moment events →
      IsWritten s s now now events 0 out out
  written_none s now events out is_open timed = record {
    goes = goes_none now.number s out is_open;
    numbered = omega arith;
    counted = omega arith;
    size = omega arith;
    moment_is = refl;
    timed = timed;
    is_open = is_open;
    calm = refl;
  }

  -- what is left is within the whole
  pub size_within : (events : List Timed) (i : ℕ) (timed : Timed) → i < length events → timed ≡ get_or events i timed
      → size_of (take i events) + 1 + received_in timed.event ≤ size_of events
  size_within events i timed lt is =
      let whole : size_of (take i events ++ timed ∷ drop (i + 1) events) ≡ size_of events = ap size_of (around events i timed lt is) in
      let parts = size_of-append (take i events) (timed ∷ drop (i + 1) events) in
      omega arith

  pub may_step : (s u : A) (before now : Counts) (events : List Timed) (i : ℕ) (out out' : Option (List ℕ)) (timed : Timed)
      → IsWritten s u before now events i out out' → i < length events → timed ≡ get_or events i timed → AreTimed now.moment (timed ∷ drop (i + 1) events)
  may_step s u before now events i out out' timed w lt is = subst (λ (l : List Timed). AreTimed now.moment l) (from events i timed lt is) w.timed

  -- the number of those that went
  number-taken : (s u : A) (before now : Counts) (events : List Timed) (i : ℕ) (out out' : Option (List ℕ)) → IsWritten s u before now events i out out' →
      i < length events
      → now.number ≡ before.number + length (take i events)
  number-taken s u before now events i out out' w lt = let l = length-take i events in omega (arith, w.numbered, lt)

  -- one event more went wholly
  pub written_more : (s t u : A) (before now next : Counts) (events : List Timed) (i : ℕ) (a b c : Option (List ℕ)) (timed : Timed) (number : ℕ) (text : List ℕ)
      → IsWritten s t before now events i a b → i < length events → timed ≡ get_or events i timed
      → reports t number timed.now timed.event text u → over u ≡ false → Takes b c text
      → number ≡ now.number + 1 → next.number ≡ number → next.steps ≡ now.steps + 1 → next.received ≡ now.received + received_in timed.event →
      next.moment ≡ timed.now → next.faults ≡ now.faults
      → IsWritten s u before next events (i + 1) a c
  written_more s t u before now next events i a b c timed number text w lt is reported is_open takes one_more kept steps received moment faults =
      let now_wholly : Goes reports over spent now.number t u b c Wholly (timed ∷ []) =
      wholly ((record { timed = timed; text = text }) ∷ []) refl (one now.number number t u timed text w.is_open reported one_more) is_open takes in
      let is_prefix = front events i timed lt is in
      let size = size_of-append (take i events) (timed ∷ []) in
      let w_size = w.size in let w_numbered = w.numbered in let w_counted = w.counted in
      let more_size : size_of (take (i + 1) events) ≡ size_of (take i events ++ timed ∷ []) = ap size_of is_prefix in
      record {
        goes = subst (λ (l : List Timed). Goes reports over spent before.number s u a c Wholly l) (sym is_prefix)
            (goes_more before.number now.number s t u a b c Wholly (take i events) (timed ∷ []) w.goes (number-taken s t before now events i a b w lt)
            now_wholly);
        numbered = omega arith;
        counted = omega arith;
        size = omega arith;
        moment_is = moment ∙ (sym (last-append before.moment (take i events) (timed ∷ [])) ∙ ap (last_moment before.moment) (sym is_prefix));
        timed = rw moment ((may_step s t before now events i a b timed w lt is).3);
        is_open = is_open;
        calm = faults ∙ w.calm;
      }

  -- WHERE THE LOOP STOPS

  -- the next event went so far
  written_some : (s t u : A) (before now : Counts) (events : List Timed) (i : ℕ) (a b c : Option (List ℕ)) (how : How) (timed : Timed)
      → IsWritten s t before now events i a b → i < length events → timed ≡ get_or events i timed
      → Goes reports over spent now.number t u b c how (timed ∷ []) → Some (Goes reports over spent before.number s u a c) how events
  written_some s t u before now events i a b c how timed w lt is went = record {
    first = take i events ++ timed ∷ [];
    rest = drop (i + 1) events;
    whole = append_assoc (take i events) (timed ∷ []) (drop (i + 1) events) ∙ around events i timed lt is;
    went = goes_more before.number now.number s t u a b c how (take i events) (timed ∷ []) w.goes (number-taken s t before now events i a b w lt) went;
  }

  pub written_end : (s t u : A) (before now : Counts) (number : ℕ) (events : List Timed) (i : ℕ) (a b c : Option (List ℕ)) (timed : Timed) (text : List ℕ)
      → IsWritten s t before now events i a b → i < length events → timed ≡ get_or events i timed
      → reports t number timed.now timed.event text u → over u ≡ true → Takes b c text → number ≡ now.number + 1 →
      Some (Goes reports over spent before.number s u a c) UpToEnd events
  written_end s t u before now number events i a b c timed text w lt is reported ended takes numbered =
      written_some s t u before now events i a b c UpToEnd timed w lt is
      (up_to_end ((record { timed = timed; text = text }) ∷ []) refl (one now.number number t u timed text w.is_open reported numbered) ended takes)

  pub written_last : (s t u : A) (before now : Counts) (number : ℕ) (events : List Timed) (i : ℕ) (a b c : Option (List ℕ)) (timed : Timed) (text : List ℕ)
      → IsWritten s t before now events i a b → i < length events → timed ≡ get_or events i timed
      → reports t number timed.now timed.event text u → TakesPrefix b c text → number ≡ now.number + 1 →
      Some (Goes reports over spent before.number s u a c) UpToLast events
  written_last s t u before now number events i a b c timed text w lt is reported takes numbered =
      written_some s t u before now events i a b c UpToLast timed w lt is
      (up_to_last ((record { timed = timed; text = text }) ∷ []) refl (one now.number number t u timed text w.is_open reported numbered)
      (record { part = takes.front; rest = takes.rest; whole = takes.whole; takes = takes.takes }))

  -- the answer to the next event, or its text, is refused memory
  pub written_lacking : (s t u : A) (before now : Counts) (number : ℕ) (events : List Timed) (i : ℕ) (a b : Option (List ℕ)) (timed : Timed)
      → IsWritten s t before now events i a b → i < length events → timed ≡ get_or events i timed → number ≡ now.number + 1
      → Lacks reports spent t number timed.now timed.event u
      → Some (Goes reports over spent before.number s u a b) UpToLast events ⊎ Wants (Goes reports over spent before.number s u a b) events
  written_lacking s t u before now number events i a b timed w lt is numbered (inl led) = inr (record {
    first = take i events;
    rest = drop (i + 1) events;
    next = timed;
    whole = around events i timed lt is;
    went = wholly_want before.number s t u a b (take i events) w.goes led;
  })
  written_lacking s t u before now number events i a b timed w lt is numbered (inr reported) =
      let none : TakesPrefix b b reported.0 = record { front = []; rest = reported.0; whole = refl; takes = takes_none b } in
      inl (written_last s t u before now number events i a b b timed reported.0 w lt is reported.1 none numbered)

  -- as what is refused is called
  pub comes_memory : (n : ℕ) (s u : A) (a b : Option (List ℕ)) (events : List Timed) (result : Result (Unit {0}) Stop) →
      IsErrAnd result (λ (st : Stop). st ≡ stop.NoMemory)
      → Some (Goes reports over spent n s u a b) UpToLast events ⊎ Wants (Goes reports over spent n s u a b) events →
      Comes (Goes reports over spent n s u a b) events result
  comes_memory n s u a b events (Ok x) is lacks = absurd is
  comes_memory n s u a b events (Err st) is lacks = subst (λ (l : Stop). Comes (Goes reports over spent n s u a b) events (Err l)) (sym is) lacks

  pub comes_sink : (n : ℕ) (s u : A) (a b : Option (List ℕ)) (events : List Timed) (e : SinkError) (result : Result (Unit {0}) Stop) →
      IsErrAnd result (λ (st : Stop). st ≡ of_sink e)
      → Some (Goes reports over spent n s u a b) UpToLast events → Comes (Goes reports over spent n s u a b) events result
  comes_sink n s u a b events e (Ok x) is last = absurd is
  comes_sink n s u a b events sink.SinkFailed (Err st) is last = subst (λ (l : Stop). Comes (Goes reports over spent n s u a b) events (Err l)) (sym is) last
  comes_sink n s u a b events sink.NoMemory (Err st) is last =
      subst (λ (l : Stop). Comes (Goes reports over spent n s u a b) events (Err l)) (sym is) (inl last)
