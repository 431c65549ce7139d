-- Which exchanges an entry opens, closes, or makes wanted.
--
-- The row of an exchange after an accepted entry is made of what the event says of it and of what the acts say: asked
-- where they ask, closed where they close it. A row that wasn't there is there only where the acts open it. A denied
-- entry changes no row. Hence what was open or wanted before (`was_open`, `was_wanted`), and what stays so
-- (`stays_open`, `stays_wanted`).
use Rattle.std.{proofs.Common.{◌≡◌, ◌⊎◌, inl, inr, ℕ, Bool, true, false, Option, Some, None, refl, ap, sym, ◌∙◌, subst}, specs.Prelude.{◌&&◌, ◌||◌, not, is_none, nat_eq, if◌then◌else◌}}
use Rattle.hc_text.proofs.Basics.{and_left as and_first, and_right as and_second, eq_reports as same_number}
use Rattle.hc_effects.proofs.Vocabulary.{Opening, opening_in, asks_in, closes_in, is_denied, Event, Entry, exchange_after, exchange_heard, exchange_acted, exchange_made, exchange_opened, with_head, with_piece, is_open, is_wanted, Tables, Exchange, after, after_accepted, after_denied, event}

-- the rows behind an entry: as they were, or as an accepted one leaves them
pub exchange_behind : (t : Tables) (e : Entry) (x : ℕ) →
    ((after t e).exchange x ≡ t.exchange x) ⊎ ((after t e).exchange x ≡ exchange_after t e x (t.exchange x))
unfolding after
exchange_behind t e x = by_test (is_denied e.acts)
  where
    by_test : (b : Bool) → ((if b then after_denied t e else after_accepted t e).exchange x ≡ t.exchange x) ⊎
        ((if b then after_denied t e else after_accepted t e).exchange x ≡ exchange_after t e x (t.exchange x))
    by_test true = inl refl
    by_test false = inr refl

-- WHAT OPENS

-- the acts open x
pub record OpensIt (x : ℕ) (o : Option Opening) : Type 0 where
  pub q : Opening
  pub opens : o ≡ Some q
  pub number : q.x ≡ x

made_open : (t : Tables) (e : Entry) (x : ℕ) (o : Option Opening) → is_open (exchange_made t e x o) ≡ true → OpensIt x o
made_open t e x None h = absurd (let never : false ≡ true = h in cc)
made_open t e x (Some o) h = by_test (nat_eq o.x x) refl h
  where
    by_test : (b : Bool) → nat_eq o.x x ≡ b → is_open (if b then Some (exchange_opened t e o) else None) ≡ true → OpensIt x (Some o)
    by_test true is g = record { q = o; opens = refl; number = same_number o.x x is }
    by_test false is g = absurd (let never : false ≡ true = g in cc)

-- AN OPEN ROW BEHIND AN ENTRY

if_open : (b : Bool) (u w : Exchange) → (if b then u else w).is_open ≡ true → (u.is_open ≡ true → w.is_open ≡ true) → w.is_open ≡ true
if_open true u w h f = f h
if_open false u w h f = h

heard_open : (t : Tables) (e : Entry) (x : ℕ) (ev : Event) (w : Exchange) → (exchange_heard t e x ev w).is_open ≡ true → w.is_open ≡ true
heard_open t e x (event.Start c request) w h = h
heard_open t e x (event.Poll c want) w h = h
heard_open t e x (event.Head y response) w h = if_open (nat_eq y x) (with_head t e response w) w h (λ g. and_second _ w.is_open g)
heard_open t e x (event.Piece y bytes) w h = if_open (nat_eq y x) (with_piece bytes w) w h (λ g. and_second _ w.is_open g)
heard_open t e x (event.End y) w h = if_open (nat_eq y x) (record w { is_ended = true; is_open = false }) w h (λ g. absurd (let never : false ≡ true = g in cc))
heard_open t e x (event.Fault y) w h = if_open (nat_eq y x) (record w { is_open = false }) w h (λ g. absurd (let never : false ≡ true = g in cc))
heard_open t e x (event.Cancel c) w h = h
heard_open t e x (event.Doom key) w h = h

row_open : (t : Tables) (e : Entry) (x : ℕ) (o : Option Exchange) → is_open (exchange_after t e x o) ≡ true → (is_open o ≡ true) ⊎ OpensIt x (opening_in e.acts)
unfolding exchange_after
row_open t e x None h = inr (made_open t e x (opening_in e.acts) h)
row_open t e x (Some w) h = inl (heard_open t e x e.event w (and_second _ _ h))

-- what is open behind an entry was open before, or is opened by it
pub was_open : (t : Tables) (e : Entry) (x : ℕ) → is_open ((after t e).exchange x) ≡ true → (is_open (t.exchange x) ≡ true) ⊎ OpensIt x (opening_in e.acts)
was_open t e x h = by_row (exchange_behind t e x)
  where
    by_row : ((after t e).exchange x ≡ t.exchange x) ⊎ ((after t e).exchange x ≡ exchange_after t e x (t.exchange x)) →
        (is_open (t.exchange x) ≡ true) ⊎ OpensIt x (opening_in e.acts)
    by_row (inl same) = inl (sym (ap is_open same) ∙ h)
    by_row (inr is) = row_open t e x (t.exchange x) (sym (ap is_open is) ∙ h)

-- WHAT CLOSES

-- the event says something of x by which it may be over
abbrev pub Stops : ℕ → Event → Type 0
Stops x (event.Start c request) = ⊥
Stops x (event.Poll c want) = ⊥
Stops x (event.Head y response) = y ≡ x
Stops x (event.Piece y bytes) = y ≡ x
Stops x (event.End y) = y ≡ x
Stops x (event.Fault y) = y ≡ x
Stops x (event.Cancel c) = ⊥
Stops x (event.Doom key) = ⊥

heard_or : (b : Bool) (m n : ℕ) (u w : Exchange) → nat_eq m n ≡ b → w.is_open ≡ true → ((if b then u else w).is_open ≡ true) ⊎ (m ≡ n)
heard_or true m n u w is h = inr (same_number m n is)
heard_or false m n u w is h = inl h

heard_closed : (t : Tables) (e : Entry) (x : ℕ) (ev : Event) (w : Exchange) → w.is_open ≡ true → ((exchange_heard t e x ev w).is_open ≡ true) ⊎ Stops x ev
heard_closed t e x (event.Start c request) w h = inl h
heard_closed t e x (event.Poll c want) w h = inl h
heard_closed t e x (event.Head y response) w h = heard_or (nat_eq y x) y x (with_head t e response w) w refl h
heard_closed t e x (event.Piece y bytes) w h = heard_or (nat_eq y x) y x (with_piece bytes w) w refl h
heard_closed t e x (event.End y) w h = heard_or (nat_eq y x) y x (record w { is_ended = true; is_open = false }) w refl h
heard_closed t e x (event.Fault y) w h = heard_or (nat_eq y x) y x (record w { is_open = false }) w refl h
heard_closed t e x (event.Cancel c) w h = inl h
heard_closed t e x (event.Doom key) w h = inl h

acted_closed : (closes was : Bool) → was ≡ true → ((not closes && was) ≡ true) ⊎ (closes ≡ true)
acted_closed true was h = inr refl
acted_closed false was h = inl h

row_stays : (t : Tables) (e : Entry) (x : ℕ) (w : Exchange) → w.is_open ≡ true →
    (is_open (exchange_after t e x (Some w)) ≡ true) ⊎ (closes_in x e.acts ≡ true) ⊎ Stops x e.event
unfolding exchange_after
row_stays t e x w h = by_heard (heard_closed t e x e.event w h)
  where
    by_acts : ((not (closes_in x e.acts) && (exchange_heard t e x e.event w).is_open) ≡ true) ⊎ (closes_in x e.acts ≡ true) →
        (is_open (Some (exchange_acted x e.acts (exchange_heard t e x e.event w))) ≡ true) ⊎ (closes_in x e.acts ≡ true) ⊎ Stops x e.event
    by_acts (inl was) = inl was
    by_acts (inr closes) = inr (inl closes)

    by_heard : ((exchange_heard t e x e.event w).is_open ≡ true) ⊎ Stops x e.event →
        (is_open (Some (exchange_acted x e.acts (exchange_heard t e x e.event w))) ≡ true) ⊎ (closes_in x e.acts ≡ true) ⊎ Stops x e.event
    by_heard (inl was) = by_acts (acted_closed (closes_in x e.acts) _ was)
    by_heard (inr stops) = inr (inr stops)

-- what was open before an entry is open behind it, unless the acts close it, or the event is of it
pub stays_open : (t : Tables) (e : Entry) (x : ℕ) → is_open (t.exchange x) ≡ true →
    (is_open ((after t e).exchange x) ≡ true) ⊎ (closes_in x e.acts ≡ true) ⊎ Stops x e.event
stays_open t e x h = by_row (exchange_behind t e x)
  where
    by_old : (o : Option Exchange) → is_open o ≡ true → (is_open (exchange_after t e x o) ≡ true) ⊎ (closes_in x e.acts ≡ true) ⊎ Stops x e.event
    by_old None g = absurd (let never : false ≡ true = g in cc)
    by_old (Some w) g = row_stays t e x w g

    moved : (is_open (exchange_after t e x (t.exchange x)) ≡ true) ⊎ (closes_in x e.acts ≡ true) ⊎ Stops x e.event →
        (after t e).exchange x ≡ exchange_after t e x (t.exchange x) → (is_open ((after t e).exchange x) ≡ true) ⊎ (closes_in x e.acts ≡ true) ⊎ Stops x e.event
    moved (inl was) is = inl (ap is_open is ∙ was)
    moved (inr other) is = inr other

    by_row : ((after t e).exchange x ≡ t.exchange x) ⊎ ((after t e).exchange x ≡ exchange_after t e x (t.exchange x)) →
        (is_open ((after t e).exchange x) ≡ true) ⊎ (closes_in x e.acts ≡ true) ⊎ Stops x e.event
    by_row (inl same) = inl (ap is_open same ∙ h)
    by_row (inr is) = moved (by_old (t.exchange x) h) is

-- WHAT IS WANTED

-- what is wanted behind an entry was wanted before, is opened by it, or is asked for by its acts
heard_wanted : (t : Tables) (e : Entry) (x : ℕ) (ev : Event) (w : Exchange) → is_wanted (Some (exchange_heard t e x ev w)) ≡ true → is_wanted (Some w) ≡ true
heard_wanted t e x (event.Start c request) w h = h
heard_wanted t e x (event.Poll c want) w h = h
heard_wanted t e x (event.Head y response) w h = by_test (nat_eq y x) h
  where
    by_parts : (reached was none asked : Bool) → ((not reached && was) && (false || asked)) ≡ true → (was && (none || asked)) ≡ true
    by_parts true was none asked g = absurd (let never : false ≡ true = g in cc)
    by_parts false false none asked g = absurd (let never : false ≡ true = g in cc)
    by_parts false true true asked g = refl
    by_parts false true false asked g = g

    by_test : (b : Bool) → is_wanted (Some (if b then with_head t e response w else w)) ≡ true → is_wanted (Some w) ≡ true
    by_test true g = by_parts _ w.is_open (is_none w.head) w.asked g
    by_test false g = g
heard_wanted t e x (event.Piece y bytes) w h = by_test (nat_eq y x) h
  where
    by_parts : (reached was none asked : Bool) → ((not reached && was) && (none || false)) ≡ true → (was && (none || asked)) ≡ true
    by_parts true was none asked g = absurd (let never : false ≡ true = g in cc)
    by_parts false false none asked g = absurd (let never : false ≡ true = g in cc)
    by_parts false true true asked g = refl
    by_parts false true false asked g = absurd (let never : false ≡ true = g in cc)

    by_test : (b : Bool) → is_wanted (Some (if b then with_piece bytes w else w)) ≡ true → is_wanted (Some w) ≡ true
    by_test true g = by_parts _ w.is_open (is_none w.head) w.asked g
    by_test false g = g
heard_wanted t e x (event.End y) w h = by_test (nat_eq y x) h
  where
    by_test : (b : Bool) → is_wanted (Some (if b then record w { is_ended = true; is_open = false } else w)) ≡ true → is_wanted (Some w) ≡ true
    by_test true g = absurd (let never : false ≡ true = g in cc)
    by_test false g = g
heard_wanted t e x (event.Fault y) w h = by_test (nat_eq y x) h
  where
    by_test : (b : Bool) → is_wanted (Some (if b then record w { is_open = false } else w)) ≡ true → is_wanted (Some w) ≡ true
    by_test true g = absurd (let never : false ≡ true = g in cc)
    by_test false g = g
heard_wanted t e x (event.Cancel c) w h = h
heard_wanted t e x (event.Doom key) w h = h

acted_wanted : (closes was none asks asked : Bool) → ((not closes && was) && (none || (asks || asked))) ≡ true →
    ((was && (none || asked)) ≡ true) ⊎ (asks ≡ true)
acted_wanted true was none asks asked g = absurd (let never : false ≡ true = g in cc)
acted_wanted false false none asks asked g = absurd (let never : false ≡ true = g in cc)
acted_wanted false true true asks asked g = inl refl
acted_wanted false true false true asked g = inr refl
acted_wanted false true false false asked g = inl g

row_wanted : (t : Tables) (e : Entry) (x : ℕ) (o : Option Exchange) → is_wanted (exchange_after t e x o) ≡ true →
    (is_wanted o ≡ true) ⊎ (asks_in x e.acts ≡ true) ⊎ OpensIt x (opening_in e.acts)
unfolding exchange_after
row_wanted t e x None h = inr (inr (made_open t e x (opening_in e.acts) (wanted_is_open (exchange_made t e x (opening_in e.acts)) h)))
  where
    wanted_is_open : (o : Option Exchange) → is_wanted o ≡ true → is_open o ≡ true
    wanted_is_open None g = g
    wanted_is_open (Some w) g = and_first _ _ g
row_wanted t e x (Some w) h = by_acts (acted_wanted (closes_in x e.acts) heard.is_open (is_none heard.head) (asks_in x e.acts) heard.asked h)
  where
    heard : Exchange
    heard = exchange_heard t e x e.event w

    by_acts : (is_wanted (Some (exchange_heard t e x e.event w)) ≡ true) ⊎ (asks_in x e.acts ≡ true) →
        (is_wanted (Some w) ≡ true) ⊎ (asks_in x e.acts ≡ true) ⊎ OpensIt x (opening_in e.acts)
    by_acts (inl was) = inl (heard_wanted t e x e.event w was)
    by_acts (inr asks) = inr (inl asks)

pub was_wanted : (t : Tables) (e : Entry) (x : ℕ) → is_wanted ((after t e).exchange x) ≡ true →
    (is_wanted (t.exchange x) ≡ true) ⊎ (asks_in x e.acts ≡ true) ⊎ OpensIt x (opening_in e.acts)
was_wanted t e x h = by_row (exchange_behind t e x)
  where
    by_row : ((after t e).exchange x ≡ t.exchange x) ⊎ ((after t e).exchange x ≡ exchange_after t e x (t.exchange x)) →
        (is_wanted (t.exchange x) ≡ true) ⊎ (asks_in x e.acts ≡ true) ⊎ OpensIt x (opening_in e.acts)
    by_row (inl same) = inl (sym (ap is_wanted same) ∙ h)
    by_row (inr is) = row_wanted t e x (t.exchange x) (sym (ap is_wanted is) ∙ h)

-- WHAT STAYS WANTED

heard_same : (t : Tables) (e : Entry) (x : ℕ) (w : Exchange) (ev : Event) → (Stops x ev → ⊥) → exchange_heard t e x ev w ≡ w
heard_same t e x w (event.Start c request) other = refl
heard_same t e x w (event.Poll c want) other = refl
heard_same t e x w (event.Head y response) other = by_test (nat_eq y x) refl
  where
    by_test : (b : Bool) → nat_eq y x ≡ b → (if b then with_head t e response w else w) ≡ w
    by_test true is = absurd (other (same_number y x is))
    by_test false is = refl
heard_same t e x w (event.Piece y bytes) other = by_test (nat_eq y x) refl
  where
    by_test : (b : Bool) → nat_eq y x ≡ b → (if b then with_piece bytes w else w) ≡ w
    by_test true is = absurd (other (same_number y x is))
    by_test false is = refl
heard_same t e x w (event.End y) other = by_test (nat_eq y x) refl
  where
    by_test : (b : Bool) → nat_eq y x ≡ b → (if b then record w { is_ended = true; is_open = false } else w) ≡ w
    by_test true is = absurd (other (same_number y x is))
    by_test false is = refl
heard_same t e x w (event.Fault y) other = by_test (nat_eq y x) refl
  where
    by_test : (b : Bool) → nat_eq y x ≡ b → (if b then record w { is_open = false } else w) ≡ w
    by_test true is = absurd (other (same_number y x is))
    by_test false is = refl
heard_same t e x w (event.Cancel c) other = refl
heard_same t e x w (event.Doom key) other = refl

acted_stays : (closes was none asks asked : Bool) → (was && (none || asked)) ≡ true → (not closes && was) ≡ true →
    ((not closes && was) && (none || (asks || asked))) ≡ true
acted_stays true was none asks asked wanted runs = absurd (let never : false ≡ true = runs in cc)
acted_stays false false none asks asked wanted runs = absurd (let never : false ≡ true = runs in cc)
acted_stays false true true asks asked wanted runs = refl
acted_stays false true false true asked wanted runs = refl
acted_stays false true false false asked wanted runs = wanted

-- what is wanted before an entry and open behind it is wanted behind it, unless the event is of it
pub stays_wanted : (t : Tables) (e : Entry) (x : ℕ) → (Stops x e.event → ⊥) → is_wanted (t.exchange x) ≡ true → is_open ((after t e).exchange x) ≡ true →
    is_wanted ((after t e).exchange x) ≡ true
unfolding exchange_after
stays_wanted t e x other wanted runs = by_row (exchange_behind t e x)
  where
    by_old : (o : Option Exchange) → is_wanted o ≡ true → is_open (exchange_after t e x o) ≡ true → is_wanted (exchange_after t e x o) ≡ true
    by_old None was there = absurd (let never : false ≡ true = was in cc)
    by_old (Some w) was there =
        let Goes : Exchange → Type 0 = λ u. is_open (Some (exchange_acted x e.acts u)) ≡ true → is_wanted (Some (exchange_acted x e.acts u)) ≡ true in
        subst Goes (sym (heard_same t e x w e.event other))
        (λ on. acted_stays (closes_in x e.acts) w.is_open (is_none w.head) (asks_in x e.acts) w.asked was on) there

    by_row : ((after t e).exchange x ≡ t.exchange x) ⊎ ((after t e).exchange x ≡ exchange_after t e x (t.exchange x)) →
        is_wanted ((after t e).exchange x) ≡ true
    by_row (inl same) = ap is_wanted same ∙ wanted
    by_row (inr is) = ap is_wanted is ∙ by_old (t.exchange x) wanted (sym (ap is_open is) ∙ runs)
