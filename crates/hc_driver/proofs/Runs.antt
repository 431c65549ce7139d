-- A schedule goes on.
--
-- The loop keeps that what was read isn't refused, and that its events went wholly (`IsOn`).
-- A text is read piece by piece, so the next piece brings the events that come next (`brought-append`).
-- What came of the piece is a case of `Passes`. The loop goes on with the longer text (`on_more`), or breaks off as
-- the piece did (`breaks_at`): all that was read before the piece went wholly (`at_once`). At the end of the
-- source all was read (`read_out`), and the feed answers the refusal of the text (`ends_done`, `ends_cut_short`).
use Rattle.std.{proofs.{Common.{◌≡◌, ◌⊎◌, ℕ, ◌+◌, ◌*◌, ◌≤◌, ◌^◌, List, [], ◌∷◌, ◌++◌, length, Option, Some, None, Result, Ok, Err, Bool, true, false, refl, sym, ap, subst, ◌∙◌, inl, inr, arith, append_assoc, length-append}, lemmas.{List.{append-nil}, Bool.{cases_Bool}}}, specs.{Prelude.{IfErr}, Result.{IsErrAnd}}}
use Rattle.hc_event.specs.declared.event.Event.{Event}
use Rattle.hc_io.specs.Source.{Gives, GivesAll, IsAtEnd}
use Rattle.hc_io.proofs.Givings.{gives_none, gives_more}
use Rattle.hc_sched.specs.{declared.{place.Place.{Place}, schedule.{Refused.{Refused}, Timed.{Timed}, FeedError.{FeedError}}}, Reading.{Progress, Reads, Stopped, after, events_in, beginning, refusal_of, is_between, refusal_at}, Feeding.{lines_in, Feeds, ending}, Laws.{AreTimed}, Schedule.{IsSmall}}
use Rattle.hc_sched.specs.declared.schedule.Ended.TheVariants as ended
use Rattle.hc_sched.specs.declared.schedule.FeedError.TheVariants as error
use Rattle.hc_sched.proofs.{FeedLemmas.{after-append, after-stopped, events_in-append}, OneReading.{brings_timed, is_read, is_spelled}}
use Rattle.hc_driver.specs.{declared.stop.Stop.{Stop}, Breaks.{Breaks, IsReadOut}, Counting.{size_of, last_moment}, Courses.{Goes}, Endings.{How, Wholly, UpToEnd, UpToLast, UpToWant, SoFar, ToEnd, IsReading, events_from, IsUnrefused, IsRefused, IsRefusedAtOnce, IsSteppedAtOnce, Ends}, Pieces.{Wants, Comes, Passes}, Stops.{of_feed, ended_by, ended_as}}
use Rattle.hc_driver.specs.declared.stop.Stop.TheVariants as stop
use Rattle.hc_driver.specs.Breaks as breaks
use Rattle.hc_driver.specs.Courses as courses
use Rattle.hc_driver.specs.Endings as endings
use Rattle.hc_driver.specs.Pieces as pieces
use Rattle.hc_driver.proofs.{Sizes.{size_of-append, brought_small, brought_few}, Timings.{timed_from, timed_back, last-append, last_later}, Going.{goes_none, goes_more, wholly_last}}

-- how far a course and the streams are
pub record Extent : Type 0 where
  pub number : ℕ
  pub steps : ℕ
  pub received : ℕ
  pub moment : ℕ
  pub given : ℕ

-- what was read so far went wholly
pub record IsOn {A : Type 0} (reports : A → ℕ → ℕ → Event → List ℕ → A → Type 0) (over : A → Bool) (spent : A → A → Type 0) (s u : A) (moment given : ℕ)
    (now : Extent) (feed : Progress) (left left' out out' : Option (List ℕ)) : Type 0 where
  pub text : List ℕ
  pub gives : Gives left left' text
  pub leads : after (beginning moment) text ≡ feed
  pub reading : IsReading feed
  pub goes : Goes reports over spent 0 s u out out' Wholly (events_from moment text)
  pub count : now.given ≡ given + length text
  pub lines : lines_in feed ≤ length text
  pub numbered : now.number ≡ now.steps
  pub number_is : now.number ≡ 0 + length (events_from moment text)
  pub size : now.steps + now.received ≡ size_of (events_from moment text)
  pub moment_is : now.moment ≤ last_moment moment (events_from moment text)
  pub is_open : over u ≡ false

-- what the end of a text answers is its refusal
abbrev IsAs : Progress → Result (Unit {0}) FeedError → Type 0
IsAs feed (Ok done) = refusal_at feed ≡ None
IsAs feed (Err (error.Refused r)) = refusal_at feed ≡ Some r
IsAs feed (Err error.NoMemory) = ⊥

abbrev stop_of : {T : Type 0} → Result T Stop → Stop
stop_of (Ok x) = stop.Over
stop_of (Err z) = z

-- what is fed are the first events of the piece
pub fed_front : (s : Progress) (piece : List ℕ) (result : Result (Unit {0}) FeedError) (t : Progress) (new : List Timed)
    → Feeds s piece result t [] new → (rest : List Timed) × (new ++ rest ≡ events_in s piece)
fed_front s piece (Ok fed) t new h = ([], append-nil new ∙ h.adds)
fed_front s piece (Err (error.Refused r)) t new h = ([], append-nil new ∙ h.adds)
fed_front s piece (Err error.NoMemory) t new h = (h.rest, ap (λ (l : List Timed). l ++ h.rest) h.adds ∙ h.whole)

pub front_small : (xs ys all : List Timed) → xs ++ ys ≡ all → size_of xs ≤ size_of all
front_small xs ys all e = let parts = size_of-append xs ys in let same : size_of (xs ++ ys) ≡ size_of all = ap size_of e in omega arith

pub front_few : (xs ys all : List Timed) → xs ++ ys ≡ all → length xs ≤ length all
front_few xs ys all e = let parts = length-append xs ys in let same : length (xs ++ ys) ≡ length all = ap length e in omega arith

module _ {A : Type 0} (reports : A → ℕ → ℕ → Event → List ℕ → A → Type 0) (over : A → Bool) (spent : A → A → Type 0) where
  pub on_start : (s : A) (moment : ℕ) (now : Extent) (left out : Option (List ℕ)) → now.number ≡ 0 → now.steps + now.received ≡ 0 → now.moment ≤ moment →
      over s ≡ false
      → IsOn reports over spent s s moment now.given now (beginning moment) left left out out
  on_start s moment now left out number none le is_open = record {
    text = [];
    gives = gives_none left;
    leads = refl;
    reading = (_, _, refl);
    goes = goes_none reports over spent 0 s out is_open;
    count = omega arith;
    lines = omega arith;
    numbered = omega (arith, number, none);
    number_is = omega (arith, number);
    size = none;
    moment_is = le;
    is_open = is_open;
  }

  pub brought-append : (moment : ℕ) (text piece : List ℕ) → events_from moment (text ++ piece) ≡ events_from moment text ++ events_in
      (after (beginning moment) text) piece
  brought-append moment text piece = events_in-append (beginning moment) text piece

  -- the events of the next piece may be stepped, and are no more than fit
  pub next_timed : (s u : A) (moment given : ℕ) (now : Extent) (feed : Progress) (left left' out out' : Option (List ℕ)) (piece : List ℕ) → IsSmall moment
      → IsOn reports over spent s u moment given now feed left left' out out' → AreTimed now.moment (events_in feed piece)
  next_timed s u moment given now feed left left' out out' piece small on =
      let all = brings_timed moment (on.text ++ piece) small in
      let parts : events_from moment (on.text ++ piece) ≡ events_from moment on.text ++ events_in feed piece = brought-append moment on.text piece ∙
      ap (λ (p : Progress). events_from moment on.text ++ events_in p piece) on.leads in
      let back = timed_back moment (events_from moment on.text) (events_in feed piece) (subst (λ (l : List Timed). AreTimed moment l) parts all) in
      timed_from (last_moment moment (events_from moment on.text)) now.moment (events_in feed piece) on.moment_is back

  pub next_small : (s u : A) (moment given : ℕ) (now : Extent) (feed : Progress) (left left' out out' : Option (List ℕ)) (piece : List ℕ)
      → (on : IsOn reports over spent s u moment given now feed left left' out out') →
      now.steps + now.received + size_of (events_in feed piece) ≤ length on.text + length piece
  next_small s u moment given now feed left left' out out' piece on =
      let parts : events_from moment (on.text ++ piece) ≡ events_from moment on.text ++ events_in feed piece = brought-append moment on.text piece ∙
      ap (λ (p : Progress). events_from moment on.text ++ events_in p piece) on.leads in
      let small = brought_small moment (on.text ++ piece) in
      let len = length-append on.text piece in
      let size : size_of (events_from moment (on.text ++ piece)) ≡ size_of (events_from moment on.text) + size_of (events_in feed piece) =
      ap size_of parts ∙ size_of-append (events_from moment on.text) (events_in feed piece) in
      let on_size = on.size in
      omega arith

  -- each has two bytes
  pub next_few : (s u : A) (moment given : ℕ) (now : Extent) (feed : Progress) (left left' out out' : Option (List ℕ)) (piece : List ℕ)
      → (on : IsOn reports over spent s u moment given now feed left left' out out') →
      2 * (now.steps + length (events_in feed piece)) ≤ length on.text + length piece
  next_few s u moment given now feed left left' out out' piece on =
      let parts : events_from moment (on.text ++ piece) ≡ events_from moment on.text ++ events_in feed piece = brought-append moment on.text piece ∙
      ap (λ (p : Progress). events_from moment on.text ++ events_in p piece) on.leads in
      let few = brought_few moment (on.text ++ piece) in
      let len = length-append on.text piece in
      let count : length (events_from moment (on.text ++ piece)) ≡ length (events_from moment on.text) + length (events_in feed piece) = ap length parts ∙
      length-append (events_from moment on.text) (events_in feed piece) in
      let numbered = on.numbered in let number = on.number_is in
      omega arith

  -- ONE PIECE

  pub comes_err : (n : ℕ) (s u : A) (a b : Option (List ℕ)) (xs : List Timed) (st : Stop) (result : Result (Unit {0}) Stop) → result ≡ Err st
      → Comes (Goes reports over spent n s u a b) xs result → Comes (Goes reports over spent n s u a b) xs (Err st)
  comes_err n s u a b xs st result was comes = subst (λ (l : Result (Unit {0}) Stop). Comes (Goes reports over spent n s u a b) xs l) was comes

  -- the events that were fed stopped it
  module _ (n : ℕ) (s u : A) (a b : Option (List ℕ)) (before : Progress) (piece : List ℕ) (now : Progress) (xs ys : List Timed)
      (whole : xs ++ ys ≡ events_in before piece) where
    abbrev Went : How → List Timed → Type 0
    Went = Goes reports over spent n s u a b

    some_fed : (how : How) → pieces.Some Went how xs → pieces.Some Went how (events_in before piece)
    some_fed how it = record {
      first = it.first;
      rest = it.rest ++ ys;
      whole = sym (append_assoc it.first it.rest ys) ∙ (ap (λ (l : List Timed). l ++ ys) it.whole ∙ whole);
      went = it.went;
    }

    wants_fed : pieces.Some Went UpToLast xs ⊎ Wants Went xs → pieces.Some Went UpToLast (events_in before piece) ⊎ Wants Went (events_in before piece)
    wants_fed (inl it) = inl (some_fed UpToLast it)
    wants_fed (inr it) = inr (record {
      first = it.first;
      rest = it.rest ++ ys;
      next = it.next;
      whole = sym (append_assoc it.first (it.next ∷ it.rest) ys) ∙ (ap (λ (l : List Timed). l ++ ys) it.whole ∙ whole);
      went = it.went;
    })

    by_stop : (st : Stop) → Comes Went xs (Err st) → Passes Went before piece now (Err st)
    by_stop stop.Over it = some_fed UpToEnd it
    by_stop (stop.Refused r) it = absurd it
    by_stop stop.SourceFailed it = absurd it
    by_stop stop.SinkFailed it = some_fed UpToLast it
    by_stop stop.NoMemory it = wants_fed it

    pub passes_stopped : (st : Stop) (result : Result (Unit {0}) Stop) → IsErrAnd result (λ (e : Stop). e ≡ st) → Comes Went xs (Err st) →
        Passes Went before piece now result
    passes_stopped st (Ok x) is comes = absurd is
    passes_stopped st (Err e) is comes = subst (λ (l : Stop). Passes Went before piece now (Err l)) (sym is) (by_stop st comes)

  -- the text is refused, or there was not enough memory to feed it
  pub passes_fed : (n : ℕ) (s u : A) (a b : Option (List ℕ)) (before : Progress) (piece : List ℕ) (now : Progress) (xs : List Timed) (e : FeedError)
      (fed : Result (Unit {0}) FeedError) (result : Result (Unit {0}) Stop)
      → IsErrAnd result (λ (st : Stop). st ≡ of_feed e) → fed ≡ Err e → Feeds before piece fed now [] xs → Goes reports over spent n s u a b Wholly xs
      → Passes (Goes reports over spent n s u a b) before piece now result
  passes_fed n s u a b before piece now xs e fed (Ok x) is was h goes = absurd is
  passes_fed n s u a b before piece now xs (error.Refused r) fed (Err st) is was h goes =
      let f = subst (λ (l : Result (Unit {0}) FeedError). Feeds before piece l now [] xs) was h in
      subst (λ (l : Stop). Passes (Goes reports over spent n s u a b) before piece now (Err l)) (sym is)
      (f.leads, subst (λ (l : List Timed). Goes reports over spent n s u a b Wholly l) f.adds goes)
  passes_fed n s u a b before piece now xs error.NoMemory fed (Err st) is was h goes =
      let f = subst (λ (l : Result (Unit {0}) FeedError). Feeds before piece l now [] xs) was h in
      let some : pieces.Some (Goes reports over spent n s u a b) UpToLast (events_in before piece) =
      record {
        first = xs;
        rest = f.rest;
        whole = ap (λ (l : List Timed). l ++ f.rest) f.adds ∙ f.whole;
        went = wholly_last reports over spent n s u a b xs goes;
      } in
      subst (λ (l : Stop). Passes (Goes reports over spent n s u a b) before piece now (Err l)) (sym is) (inl some)

  -- the next piece
  pub on_more : (s t u : A) (moment given : ℕ) (now next : Extent) (feed feed' : Progress) (piece : List ℕ) (left mid new a b c : Option (List ℕ))
      → IsOn reports over spent s t moment given now feed left mid a b → Gives mid new piece
      → Passes (Goes reports over spent now.number t u b c) feed piece feed' (Ok tt) → IsReading feed'
      → next.given ≡ now.given + length piece → lines_in feed' ≤ lines_in feed + length piece
      → next.number ≡ now.number + length (events_in feed piece) → next.steps ≡ now.steps + length (events_in feed piece)
      → next.steps + next.received ≡ now.steps + now.received + size_of (events_in feed piece) →
      next.moment ≡ last_moment now.moment (events_in feed piece) → over u ≡ false
      → IsOn reports over spent s u moment given next feed' left new a c
  on_more s t u moment given now next feed feed' piece left mid new a b c on gives goes reading count lines number steps size last is_open =
      let parts : events_from moment (on.text ++ piece) ≡ events_from moment on.text ++ events_in feed piece = brought-append moment on.text piece ∙
      ap (λ (p : Progress). events_from moment on.text ++ events_in p piece) on.leads in
      let len = length-append on.text piece in
      let events = length-append (events_from moment on.text) (events_in feed piece) in
      let same : length (events_from moment (on.text ++ piece)) ≡ length (events_from moment on.text ++ events_in feed piece) = ap length parts in
      let on_count = on.count in let on_lines = on.lines in let on_numbered = on.numbered in let on_number = on.number_is in let on_size = on.size in
      let sizes : size_of (events_from moment (on.text ++ piece)) ≡ size_of (events_from moment on.text) + size_of (events_in feed piece) =
      ap size_of parts ∙ size_of-append (events_from moment on.text) (events_in feed piece) in
      let later : last_moment now.moment (events_in feed piece) ≤ last_moment (last_moment moment (events_from moment on.text)) (events_in feed piece) =
      last_later now.moment _ (events_in feed piece) on.moment_is in
      let is_last : last_moment moment (events_from moment (on.text ++ piece)) ≡ last_moment (last_moment moment (events_from moment on.text))
      (events_in feed piece) = ap (last_moment moment) parts ∙ last-append moment (events_from moment on.text) (events_in feed piece) in
      record {
        text = on.text ++ piece;
        gives = gives_more left mid new on.text piece on.gives gives;
        leads = after-append (beginning moment) on.text piece ∙ (ap (λ (p : Progress). after p piece) on.leads ∙ goes.0);
        reading = reading;
        goes = subst (λ (l : List Timed). Goes reports over spent 0 s u a c Wholly l) (sym parts)
            (goes_more reports over spent 0 now.number s t u a b c Wholly (events_from moment on.text) (events_in feed piece) on.goes on.number_is goes.1);
        count = omega arith;
        lines = omega arith;
        numbered = omega arith;
        number_is = omega arith;
        size = omega arith;
        moment_is = omega (arith, last, later, is_last);
        is_open = is_open;
      }

  -- how many were answered, and how many bytes their pieces had
  pub few_on : (s u : A) (moment given : ℕ) (now : Extent) (feed : Progress) (left left' out out' : Option (List ℕ)) → now.given ≤ 2 ^ 60
      → IsOn reports over spent s u moment given now feed left left' out out' → (now.steps ≤ 2 ^ 59) × (now.received ≤ 2 ^ 60)
  few_on s u moment given now feed left left' out out' all on =
      let few = brought_few moment on.text in
      let small = brought_small moment on.text in
      let count = on.count in let numbered = on.numbered in let number = on.number_is in let size = on.size in
      (omega arith, omega arith)

  -- HOW IT ENDS

  gives_all : (left new : Option (List ℕ)) (text : List ℕ) → Gives left new text → IsAtEnd new → GivesAll left new text
  gives_all None new text g end = g
  gives_all (Some old) None text g end = absurd g
  gives_all (Some old) (Some rest) text g end = (sym (g ∙ (ap (λ (l : List ℕ). text ++ l) end ∙ append-nil text)), ap Some end)

  -- the source gives nothing more
  rests : (left mid new : Option (List ℕ)) (text : List ℕ) → Gives left mid text → Gives mid new [] → Gives left new text
  rests left mid new text f g = subst (λ (l : List ℕ). Gives left new l) (append-nil text) (gives_more left mid new text [] f g)

  -- no line of what was read so far is refused
  unrefused : (s u : A) (moment given : ℕ) (now : Extent) (feed : Progress) (left mid a b : Option (List ℕ)) →
      (on : IsOn reports over spent s u moment given now feed left mid a b) → IsUnrefused moment on.text
  unrefused s u moment given now feed left mid a b on = subst IsReading (sym on.leads) on.reading

  refusal_here : (feed : Progress) → IsReading feed → (result : Result (Unit {0}) FeedError) → result ≡ ending feed → IsAs feed result
  refusal_here feed reading result is =
      subst (λ (l : Result (Unit {0}) FeedError). IsAs feed l) (sym is) (subst (λ (p : Progress). IsAs p (ending p)) (sym reading.2) (here reading.0 reading.1))
    where
      here : (place : Place) (line : List ℕ) → IsAs (Reads place line) (ending (Reads place line))
      here place line = elim (cases_Bool (is_between place line)) [
        | inl rest ↦ rw rest (rw rest refl)
        | inr more ↦ rw more (rw more refl)
      ]

  refusal-is : (moment : ℕ) (text : List ℕ) (feed : Progress) → after (beginning moment) text ≡ feed → refusal_of moment text ≡ refusal_at feed
  refusal-is moment text feed leads = ap refusal_at leads

  -- all was read
  pub read_out : (s u : A) (moment given : ℕ) (now : Extent) (feed : Progress) (left mid new a b : Option (List ℕ))
      → IsOn reports over spent s u moment given now feed left mid a b → Gives mid new [] → IsAtEnd new →
      IsReadOut (Goes reports over spent 0 s u a b) moment left new feed
  read_out s u moment given now feed left mid new a b on gives end = record {
    text = on.text;
    gives = gives_all left new on.text (rests left mid new on.text on.gives gives) end;
    leads = on.leads;
    unrefused = unrefused s u moment given now feed left mid a b on;
    went = on.goes;
  }

  -- and how it ends is by what the feed answers
  module _ (s u : A) (moment : ℕ) (feed : Progress) (left new a b : Option (List ℕ)) (result : Result (Unit {0}) FeedError)
      (out : IsReadOut (Goes reports over spent 0 s u a b) moment left new feed) (is : result ≡ ending feed) where
    refusal_read : IsAs feed result
    refusal_read = refusal_here feed (subst IsReading out.leads out.unrefused) result is

    pub ends_done : result ≡ Ok tt → Ends (Goes reports over spent 0 s u a b) moment left new ended.Done
    ends_done ok =
        let none : refusal_at feed ≡ None = subst (λ (l : Result (Unit {0}) FeedError). IsAs feed l) ok refusal_read in
        let spelled = is_spelled moment out.text (refusal-is moment out.text feed out.leads ∙ none) in
        let same = (is_read moment out.text spelled.0 spelled.1).1 in
        endings.done out.text spelled.0 out.gives spelled.1
        (subst (λ (l : List Timed). Goes reports over spent 0 s u a b Wholly l) same out.went)

    pub ends_cut_short : (e : FeedError) (stopped : Result (Unit {0}) Stop) → result ≡ Err e → IsErrAnd stopped (λ (st : Stop). st ≡ of_feed e) →
        Ends (Goes reports over spent 0 s u a b) moment left new (ended_as stopped)
    ends_cut_short e (Ok x) err stops = absurd stops
    ends_cut_short (error.Refused r) (Err st) err stops =
        let some : refusal_at feed ≡ Some r = subst (λ (l : Result (Unit {0}) FeedError). IsAs feed l) err refusal_read in
        subst (λ (l : Stop). Ends (Goes reports over spent 0 s u a b) moment left new (ended_by l)) (sym stops)
        (endings.refused ToEnd out.text r out.gives (endings.at_end out.unrefused (refusal-is moment out.text feed out.leads ∙ some)) out.went)
    ends_cut_short error.NoMemory (Err st) err stops = absurd (subst (λ (l : Result (Unit {0}) FeedError). IsAs feed l) err refusal_read)

  stays : (moment : ℕ) (text : List ℕ) (r : Refused) → after (beginning moment) text ≡ Stopped r → IsRefused moment text r
  stays moment text r leads more =
      ap refusal_at (after-append (beginning moment) text more ∙ (ap (λ (p : Progress). after p more) leads ∙ after-stopped r more))

  -- a piece stops it
  module _ (s t u : A) (moment given : ℕ) (now : Extent) (feed feed' : Progress) (piece : List ℕ) (left mid new a b c : Option (List ℕ))
      (on : IsOn reports over spent s t moment given now feed left mid a b) (gives : Gives mid new piece) (short : length piece ≤ 16384) where
    abbrev Here : How → List Timed → Type 0
    Here = Goes reports over spent now.number t u b c

    abbrev Whole : How → List Timed → Type 0
    Whole = Goes reports over spent 0 s u a c

    abbrev earlier : List Timed
    earlier = events_from moment on.text

    all : Gives left new (on.text ++ piece)
    all = gives_more left mid new on.text piece on.gives gives

    parts : events_from moment (on.text ++ piece) ≡ earlier ++ events_in feed piece
    parts = brought-append moment on.text piece ∙ ap (λ (p : Progress). earlier ++ events_in p piece) on.leads

    joined : (how : How) (events : List Timed) → Here how events → Whole how (earlier ++ events)
    joined how events went = goes_more reports over spent 0 now.number s t u a b c how earlier events on.goes on.number_is went

    -- all that was read before the piece is among what went
    at_once : (first rest : List Timed) → first ++ rest ≡ events_in feed piece → IsSteppedAtOnce moment (on.text ++ piece) (earlier ++ first) rest
    at_once first rest whole = record {
      before = on.text;
      piece = piece;
      more = first;
      whole = refl;
      short = short;
      all_before = refl;
      are_all = append_assoc earlier first rest ∙ (ap (λ (l : List Timed). earlier ++ l) whole ∙ sym parts);
    }

    breaks_refused : (r : Refused) → after feed piece ≡ Stopped r → Here Wholly (events_in feed piece) → Breaks Whole moment left new (stop.Refused r)
    breaks_refused r stops went =
        let leads = after-append (beginning moment) on.text piece ∙ (ap (λ (p : Progress). after p piece) on.leads ∙ stops) in
        let refused : IsRefusedAtOnce moment (on.text ++ piece) r =
        record {
          before = on.text;
          piece = piece;
          whole = refl;
          short = short;
          unrefused = unrefused s t moment given now feed left mid a b on;
          refuses = stays moment (on.text ++ piece) r leads;
        } in
        breaks.refused (on.text ++ piece) r all refused (subst (λ (l : List Timed). Whole Wholly l) (sym parts) (joined Wholly (events_in feed piece) went))

    breaks_wanting : pieces.Some Here UpToLast (events_in feed piece) ⊎ Wants Here (events_in feed piece) → Breaks Whole moment left new stop.NoMemory
    breaks_wanting (inl some) =
        breaks.wanting (on.text ++ piece) (earlier ++ some.first) some.rest all (at_once some.first some.rest some.whole) (joined UpToLast some.first some.went)
    breaks_wanting (inr wants) =
        breaks.wanting_answer (on.text ++ piece) (earlier ++ wants.first) wants.rest wants.next all
        (at_once wants.first (wants.next ∷ wants.rest) wants.whole) (joined UpToWant wants.first wants.went)

    pub breaks_at : (st : Stop) → Passes Here feed piece feed' (Err st) → Breaks Whole moment left new st
    breaks_at stop.Over some =
        breaks.over (on.text ++ piece) (earlier ++ some.first) some.rest all (at_once some.first some.rest some.whole) (joined UpToEnd some.first some.went)
    breaks_at (stop.Refused r) passes = breaks_refused r passes.0 passes.1
    breaks_at stop.SourceFailed never = absurd never
    breaks_at stop.SinkFailed some =
        breaks.unwritten (on.text ++ piece) (earlier ++ some.first) some.rest all (at_once some.first some.rest some.whole)
        (joined UpToLast some.first some.went)
    breaks_at stop.NoMemory it = breaks_wanting it

  -- what an error names
  names : {T : Type 0} (st : Stop) (result : Result T Stop) (P : Stop → Type 0) → IsErrAnd result (λ (e : Stop). e ≡ st) → P st → IfErr result P
  names st (Ok x) P is p = absurd is
  names st (Err e) P is p = subst P (sym is) p

  -- what was read stopped it
  pub breaks_source : {T : Type 0} (s u : A) (moment given : ℕ) (now : Extent) (feed : Progress) (left mid new a b : Option (List ℕ)) (stopped : Result T Stop)
      → IsOn reports over spent s u moment given now feed left mid a b → new ≡ mid → IsErrAnd stopped (λ (st : Stop). st ≡ stop.SourceFailed) →
      IfErr stopped (Breaks (Goes reports over spent 0 s u a b) moment left new)
  breaks_source s u moment given now feed left mid new a b stopped on same stops =
      names stop.SourceFailed stopped (Breaks (Goes reports over spent 0 s u a b) moment left new) stops
      (breaks.unreadable on.text (rw same on.gives) (unrefused s u moment given now feed left mid a b on) on.goes)

  pub breaks_as : {T : Type 0} (s t u : A) (moment given : ℕ) (now : Extent) (feed feed' : Progress) (piece : List ℕ)
      (left mid new a b c : Option (List ℕ)) (st : Stop) (result : Result (Unit {0}) Stop) (stopped : Result T Stop)
      → IsOn reports over spent s t moment given now feed left mid a b → Gives mid new piece → length piece ≤ 16384
      → Passes (Goes reports over spent now.number t u b c) feed piece feed' result → result ≡ Err st → IsErrAnd stopped (λ (e : Stop). e ≡ st)
      → IfErr stopped (Breaks (Goes reports over spent 0 s u a c) moment left new)
  breaks_as s t u moment given now feed feed' piece left mid new a b c st result stopped on gives short goes was stops =
      names st stopped (Breaks (Goes reports over spent 0 s u a c) moment left new) stops
      (breaks_at s t u moment given now feed feed' piece left mid new a b c on gives short st
      (subst (λ (l : Result (Unit {0}) Stop). Passes (Goes reports over spent now.number t u b c) feed piece feed' l) was goes))

  -- where nothing more is answered, the course is over
  ended_over : (s u : A) (n : ℕ) (before now : Progress) (piece : List ℕ) (a b : Option (List ℕ)) →
      Passes (Goes reports over spent n s u a b) before piece now (Err stop.Over) → over u ≡ true
  ended_over s u n before now piece a b some = by_way some.first some.went
    where
      by_way : (events : List Timed) → Goes reports over spent n s u a b UpToEnd events → over u ≡ true
      by_way events (courses.up_to_end h are leads is_over taken) = is_over

  pub over_as : {T : Type 0} (s u : A) (n : ℕ) (before now : Progress) (piece : List ℕ) (a b : Option (List ℕ)) (st : Stop)
      (result : Result (Unit {0}) Stop) (stopped : Result T Stop)
      → Passes (Goes reports over spent n s u a b) before piece now result → result ≡ Err st → IsErrAnd stopped (λ (e : Stop). e ≡ st) →
      stopped ≡ Err stop.Over → over u ≡ true
  over_as s u n before now piece a b st result (Ok x) goes was stops is = absurd stops
  over_as s u n before now piece a b st result (Err e) goes was stops is =
      let same : e ≡ stop.Over = ap stop_of is in
      ended_over s u n before now piece a b
      (subst (λ (l : Stop). Passes (Goes reports over spent n s u a b) before piece now (Err l)) (sym stops ∙ same)
      (subst (λ (l : Result (Unit {0}) Stop). Passes (Goes reports over spent n s u a b) before piece now l) was goes))

-- HOW A WHOLE SCHEDULE ENDS

module _ (Went : How → List Timed → Type 0) (moment : ℕ) (left left' : Option (List ℕ)) where
  -- what stops the reading ends it
  ends_broken : (st : Stop) → Breaks Went moment left left' st → Ends Went moment left left' (ended_by st)
  ends_broken _ (breaks.over text first rest gives at_once went) = endings.over text first rest gives at_once went
  ends_broken _ (breaks.refused text r gives at_once went) = endings.refused SoFar text r gives (endings.within at_once) went
  ends_broken _ (breaks.unreadable text gives unrefused went) = endings.unreadable text gives unrefused went
  ends_broken _ (breaks.unwritten text first rest gives at_once went) = endings.unwritten text first rest gives at_once went
  ends_broken _ (breaks.wanting text first rest gives at_once went) = endings.wanting text first rest gives at_once went
  ends_broken _ (breaks.wanting_answer text first rest next gives at_once went) = endings.wanting_answer text first rest next gives at_once went

  pub ends_as : (st : Stop) (result : Result (Unit {0}) Stop) → Breaks Went moment left left' st → IsErrAnd result (λ (e : Stop). e ≡ st) →
      Ends Went moment left left' (ended_as result)
  ends_as st (Ok x) broken is = absurd is
  ends_as st (Err e) broken is = subst (λ (l : Stop). Ends Went moment left left' (ended_by l)) (sym is) (ends_broken st broken)
