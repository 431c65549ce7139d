-- Which consumers started, and how many bytes came.
--
-- Only starts change who started (`started_on`, `started_more`), and no more are live than started (`few_live`). Before
-- the first head nobody starts behind an event (`none_behind`). So where no event is foreign, at most the first
-- consumer started then (`one_started`). An entry brings the bytes of its event, denied or not (`brings`), and the
-- fetch's own starts bring none (`starts_bring`).
use Rattle.std.{proofs.Common.{◌≡◌, ℕ, zero, suc, ◌+◌, ◌≤◌, List, [], ◌∷◌, ◌++◌, length, Bool, true, false, Option, Some, None, refl, ap, sym, ◌∙◌, subst, arith}, specs.Prelude.{if◌then◌else◌, ◌&&◌, ◌==◌}}
use Rattle.hc_text.proofs.Basics.{filter_short as few_pass}
use Rattle.hc_effects.proofs.Vocabulary.{is_denied, Event, Request, live, is_live, Entry, History, no_contents, entry_without_acts, Tables, tables, after, after_accepted, after_denied, last_start_after, starts_after, received_in}
use Rattle.hc_event.specs.Counting as counting
use Rattle.hc_event.specs.declared.event.Event.TheVariants as event
use Rattle.hc_effects.proofs.Basics.{or_false, false_true}
use Rattle.hc_fetch.specs.{declared.plan.FetchPlan.{FetchPlan}, Deciding.{is_foreign, has_foreign}, Fetches.{started, start_by_head, start_by_total, parts_start, cache_history}, Heads.{Head, heads_in, first_in, first_head}, Hearing.{HasStarted}, Plans.{first_start, part_start, part_count}}
use Rattle.hc_fetch.proofs.FirstHeads.{none_first, none_starts as none_behind}
use Rattle.hc_core.proofs.Stepping.{received_after}

-- ONE ENTRY

abbrev Counts : Tables → ℕ → Type 0
Counts t n = (t.last_start ≤ n) × (length t.starts ≤ n)

own_counts : (t : Tables) (n : ℕ) (ev : Event) → is_foreign ev ≡ false → Counts t n → (last_start_after ev t.last_start ≤ n) ×
    (length (starts_after ev t.starts) ≤ n)
own_counts t n (event.Start c request) own counts = absurd (false_true (sym own))
own_counts t n ev own counts = counts

counts_on : (t : Tables) (e : Entry) (n : ℕ) → is_foreign e.event ≡ false → Counts t n → Counts (after t e) n
unfolding after
counts_on t e n own counts = by_denial (is_denied e.acts)
  where
    by_denial : (b : Bool) → Counts (if b then after_denied t e else after_accepted t e) n
    by_denial true = counts
    by_denial false = own_counts t n e.event own counts

counts_start : (t : Tables) (now c : ℕ) (request : Request) (n : ℕ) → c ≤ n + 1 → Counts t n →
    Counts (after t (entry_without_acts now (event.Start c request))) (n + 1)
unfolding after
counts_start t now c request n le counts = let low = counts.0 in let few = counts.1 in (omega (arith, le), omega (arith, few))

pub started_on : (e : Entry) (h : History) (n : ℕ) → is_foreign e.event ≡ false → HasStarted h n → HasStarted (e ∷ h) n
unfolding tables
started_on e h n own has = let q = counts_on (tables no_contents h) e n own (has.last, has.starts) in record { last = q.0; starts = q.1 }

pub started_more : (now c : ℕ) (request : Request) (h : History) (n : ℕ) → c ≤ n + 1 → HasStarted h n →
    HasStarted (entry_without_acts now (event.Start c request) ∷ h) (n + 1)
unfolding tables
started_more now c request h n le has = let q = counts_start (tables no_contents h) now c request n le (has.last, has.starts) in
    record { last = q.0; starts = q.1 }

pub none_started : HasStarted [] 0
unfolding tables
none_started = record { last = omega arith; starts = omega arith }

-- HOW MANY ARE LIVE

pub few_live : (h : History) (n : ℕ) → HasStarted h n → live (tables no_contents h) ≤ n
few_live h n has =
    let few = few_pass (λ c. is_live ((tables no_contents h).consumer c)) (tables no_contents h).starts in
    let starts = has.starts in
    omega (arith, few, starts)

-- BEFORE THE FIRST HEAD

no_start : (b : Bool) (plan : FetchPlan) (now : ℕ) (q : Option Head) → q ≡ None → (if b then start_by_head plan now q else []) ≡ []
no_start true plan now q is = ap (start_by_head plan now) is
no_start false plan now q is = refl

first_started : (plan : FetchPlan) (now : ℕ) (h : History) → HasStarted h 1 → HasStarted (started plan now h) 1
first_started plan now [] has = started_more now 1 _ [] 0 (omega arith) none_started
first_started plan now (e ∷ h) has = has

wider : (h : History) → HasStarted h 0 → HasStarted h 1
wider h has = let low = has.last in let few = has.starts in record { last = omega (arith, low); starts = omega (arith, few) }

pub one_started : (plan : FetchPlan) (f : History) → has_foreign f ≡ false → first_head f ≡ None → HasStarted (cache_history plan f) 1
one_started plan [] own none = wider [] none_started
one_started plan (e ∷ f) own none =
    let heads = none_first (first_head f) (first_in (heads_in e.acts)) none in
    let both = or_false (is_foreign e.event) (has_foreign f) own in
    let before = one_started plan f both.1 heads.0 in
    let here = started_on e (started plan e.now (cache_history plan f)) 1 both.0 (first_started plan e.now (cache_history plan f) before) in
    subst (λ (xs : History). HasStarted (xs ++ (e ∷ started plan e.now (cache_history plan f))) 1) (sym (none_behind plan f e heads.1)) here

pub one_started_before : (plan : FetchPlan) (now : ℕ) (f : History) → has_foreign f ≡ false → first_head f ≡ None →
    HasStarted (started plan now (cache_history plan f)) 1
one_started_before plan now f own none = first_started plan now (cache_history plan f) (one_started plan f own none)

-- HOW MANY BYTES CAME

same_received : (ev : Event) → received_in ev ≡ counting.received_in ev
same_received (event.Piece x bytes) = refl
same_received ev = refl

received_on : (e : Entry) (h : History) → (tables no_contents (e ∷ h)).received ≡ (tables no_contents h).received + received_in e.event
unfolding tables
received_on e h = received_after (tables no_contents h) e

pub brings : (now : ℕ) (ev : Event) (acts : List Rattle.hc_event.specs.declared.act.Act.Act) (h : History) →
    (tables no_contents (record { now = now; event = ev; acts = acts } ∷ h)).received ≡ (tables no_contents h).received + counting.received_in ev
brings now ev acts h = received_on (record { now = now; event = ev; acts = acts }) h ∙ ap (λ (n : ℕ). (tables no_contents h).received + n) (same_received ev)

pub starts_bring : (plan : FetchPlan) (now total n : ℕ) (h : History) →
    (tables no_contents (parts_start plan now total n ++ h)).received ≡ (tables no_contents h).received
starts_bring plan now total zero h = refl
starts_bring plan now total (suc n) h = by_first (n == 0) (starts_bring plan now total n h)
  where
    by_first : (b : Bool) → (tables no_contents (parts_start plan now total n ++ h)).received ≡ (tables no_contents h).received
        → (tables no_contents ((if b then [] else entry_without_acts now (part_start plan total (n + 1)) ∷ parts_start plan now total n) ++ h)).received ≡
        (tables no_contents h).received
    by_first true rest = refl
    by_first false rest =
        let one = received_on (entry_without_acts now (part_start plan total (n + 1))) (parts_start plan now total n ++ h) in
        omega (arith, one, rest)

pub total_brings : (plan : FetchPlan) (now : ℕ) (total : Option ℕ) (h : History) →
    (tables no_contents (start_by_total plan now total ++ h)).received ≡ (tables no_contents h).received
total_brings plan now None h = refl
total_brings plan now (Some total) h = starts_bring plan now total (part_count plan total) h

pub first_brings : (plan : FetchPlan) (now : ℕ) (h : History) → (tables no_contents (started plan now h)).received ≡ (tables no_contents h).received
first_brings plan now [] = let one = received_on (entry_without_acts now (first_start plan)) [] in omega (arith, one)
first_brings plan now (e ∷ h) = refl

pub received_none : (tables no_contents []).received ≡ 0
unfolding tables
received_none = refl
