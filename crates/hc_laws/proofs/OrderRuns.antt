-- The lists stand in order in every run.
use Rattle.std.proofs.{lemmas.Bool.Decides.{nat_tests}, Common.{◌≡◌, ℕ, ◌+◌, ◌<◌, ◌≤◌, List, [], ◌∷◌, Option, Some, None, arith}}
use Rattle.hc_effects.proofs.Vocabulary.{Opening, Event, Limits, denial, Flaw, entry_of, OfRuns, OfRunsIn, Descends, InOrder, Tables, Sound, after_accepted, last_start_after, starts_after, opened_after, openings_after, event}
use Rattle.hc_laws.proofs.{FitsRuns.{fits}, RunFacts.{in_runs}}
use Rattle.hc_effects.proofs.NumbersKeep.{opens_next, starts_later}

-- what only rises along a run
record Ascends (limits : Limits) (t : Tables) : Type 0 where
  starts : Descends (t.last_start + 1) t.starts
  openings : Descends (t.opened + 1) t.openings

pub descends_more : (n m : ℕ) (xs : List ℕ) → n ≤ m → Descends n xs → Descends m xs
descends_more n m [] le d = tt
descends_more n m (x ∷ xs) le d = (let lt : x < n = d.0 in omega arith, d.1)

pub starts_on : (t : Tables) (ev : Event) → denial t ev ≡ None → Descends (t.last_start + 1) t.starts →
    Descends (last_start_after ev t.last_start + 1) (starts_after ev t.starts)
starts_on t (event.Start c request) goes d = let lt : t.last_start < c = starts_later t c request goes in
    (omega arith, descends_more (t.last_start + 1) c t.starts (omega arith) d)
starts_on t _ goes d = d

openings_on : (t : Tables) (z : Option Opening) → ((o : Opening) → z ≡ Some o → o.x ≡ t.opened + 1) → Descends (t.opened + 1) t.openings →
    Descends (opened_after z t.opened + 1) (openings_after z t.openings)
openings_on t z next d = grind (arith, nat_tests)

ascends_kept : (limits : Limits) (t : Tables) (now : ℕ) (flaw : Flaw) → Sound t → Ascends limits t → (ev : Event) → denial t ev ≡ None →
    Ascends limits (after_accepted t (entry_of limits t now ev flaw))
ascends_kept limits t now flaw s d ev goes = grind (arith, nat_tests, starts_on, openings_on, opens_next)

is_sorted : OfRunsIn Ascends
is_sorted = in_runs Ascends (λ limits contents may. record { starts = tt; openings = tt })
    (λ limits t e later d. record { starts = d.starts; openings = d.openings })
    (λ limits t now flaw later c d ev goes real. ascends_kept limits t now flaw c.is_sound d ev goes)

pub order_in_runs : OfRuns InOrder
order_in_runs limits contents h may run =
    let d = is_sorted limits contents h may run in
    let f = fits limits contents h may run in
    record { starts = d.starts; openings = d.openings; founded = f.once; used = f.used_once; used_founded = f.used_founded; founded_used = f.founded_used }
