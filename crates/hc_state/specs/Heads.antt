-- A head that comes, and the consumer that waits for it.
use Rattle.std.specs.Prelude.{◌≡◌, ℕ, ◌+◌, ◌≤◌, ◌<◌, ◌^◌, List, [], ◌∷◌, Bool, true, false, Option, Some, None, nat_lt, bytes_eq, not, ◌&&◌, option_and_then, if◌then◌else◌}
use Rattle.std.specs.List.{list_any}
use Rattle.hc_event.specs.Safe.{safe_methods}
use Rattle.hc_event.specs.declared.act.Need.{Need}
use Rattle.hc_event.specs.declared.act.Need.TheVariants as need
use Rattle.hc_event.specs.declared.event.Request.{Request}
use Rattle.hc_event.specs.declared.event.Response.{Response}
use Rattle.hc_event.specs.declared.act.Cause.{Cause}
use Rattle.hc_event.specs.declared.act.Cause.TheVariants as cause
use Rattle.hc_rules.specs.declared.heads.HeadCase.{HeadCase}
use Rattle.hc_rules.specs.declared.heads.HeadCase.TheVariants as case
use Rattle.hc_rules.specs.declared.heads.HeadView.{HeadView}
use Rattle.hc_rules.specs.declared.length.Length.{Length}
use Rattle.hc_rules.specs.declared.need.Route.TheVariants as route
use Rattle.hc_rules.specs.Needs.{route_of}
use Rattle.hc_rules.specs.HeadCases.{is_conditional, is_storable, fits_to_found}
use Rattle.hc_rules.specs.Lengths.{length_of, is_bad, base_of, promise_of}
use Rattle.hc_exch.specs.declared.role.Role.{Role}
use Rattle.hc_exch.specs.declared.role.Role.TheVariants as role
use Rattle.hc_exch.specs.declared.row.Open.{Open}
use Rattle.hc_exch.specs.Known.{is_all}
use Rattle.hc_stored.specs.Kept.{Kept}
use Rattle.hc_stored.specs.Shelf.{Shelf}
use Rattle.hc_event.specs.declared.place.Place.{Place}
use Rattle.hc_event.specs.declared.place.Place.TheVariants as place
use Rattle.hc_event.specs.declared.place.BoundBy.TheVariants as by
use Rattle.hc_model.specs.Cases.{joins_by}
use Rattle.hc_model.specs.Currents.{current}
use Rattle.hc_model.specs.Rows as rows
use Rattle.hc_model.specs.Rows.{Tables, Exchange}
use Rattle.hc_txn.specs.declared.transaction.Transaction.{Transaction as Consumer}
use Rattle.hc_txn.specs.Transactions.{with_answer}

-- WHAT ITS CASE LOOKS AT

-- what an exchange that waits for its head was opened about
abbrev pub aim_in : Role → Option ℕ
aim_in (role.Turn aim) = aim
aim_in (role.Hole r) = Some r
aim_in _ = None

-- what is kept of that
abbrev pub kept_at : Shelf → Option ℕ → Option Kept
kept_at s aim = option_and_then s.kept aim

-- the head brings bytes of the hole
abbrev pub joins_kept : Need → Option Kept → Response → Bool
joins_kept (need.Hole from to) (Some k) response =
    joins_by k.head.joining k.head.total (record { lo = from; hi = to }) response
joins_kept _ kept response = false

-- what the case of a head looks at, but for whether a 304 selects what is stored
abbrev pub heard_view : Open → Consumer → Option Kept → Response → HeadView
heard_view o k kept response = record {
  need = o.need;
  shown = k.shown;
  status = response.status;
  bad = is_bad (length_of o.need o.request response);
  conditional = is_conditional o.need o.request;
  selects = false;
  storable = is_storable o.request response;
  fits = fits_to_found k.class.range response;
  joins = joins_kept o.need kept response;
  lost = false;
}

-- WHO WAITS FOR IT

-- where it is open, it was opened for this consumer
abbrev pub IsAskedBy : ℕ → Option Open → Type 0
IsAskedBy c running = (o : Open) → running ≡ Some o → o.c ≡ c

-- where it is open, it goes past the store
abbrev pub IsPastStore : Option Open → Type 0
IsPastStore running = (o : Open) → running ≡ Some o → route_of o.need ≡ route.Direct

-- where it is open, it was opened by this moment, and both have a spelling
pub record IsSince (now opened : ℕ) : Type 0 where
  pub later : opened ≤ now
  pub small : now < 2 ^ 62

abbrev pub IsTimely : ℕ → Option Open → Type 0
IsTimely now running = (o : Open) → running ≡ Some o → IsSince now o.moment

-- an open exchange without a head, and the row of the consumer for which it was opened
pub record AwaitsHead (t : Tables) (x : ℕ) (w : Exchange) (k : rows.Consumer) : Type 0 where
  pub row : t.exchange x ≡ Some w
  pub is_open : w.is_open ≡ true
  pub headless : w.head ≡ None
  pub asker : t.consumer w.c ≡ Some k

-- nothing came of x yet, nothing of that would be stored, and nobody is bound by it
pub record IsBare (t : Tables) (x : ℕ) (w : Exchange) : Type 0 where
  pub row : t.exchange x ≡ Some w
  pub is_open : w.is_open ≡ true
  pub headless : w.head ≡ None
  pub empty : w.body ≡ []
  pub unended : w.is_ended ≡ false
  pub unjoined : w.joined ≡ None
  pub unfounded : t.representation x ≡ None
  pub unbound : (d r lo : ℕ) (hi : Option ℕ) (u : rows.Consumer) → t.consumer d ≡ Some u →
      u.place ≡ place.Bound r lo hi (by.FirstHole x) → ⊥

-- one alone reads it past the store, and wasn't shown its head
pub record IsReadAlone (t : Tables) (x : ℕ) (w : Exchange) (k : rows.Consumer) : Type 0 where
  pub bare : IsBare t x w
  pub asker : t.consumer w.c ≡ Some k
  pub at : k.place ≡ place.Direct x
  pub unshown : k.shown ≡ false
  pub only : (d : ℕ) (u : rows.Consumer) → t.consumer d ≡ Some u → u.place ≡ place.Direct x →
      d ≡ w.c

-- nobody reads it past the store
pub record IsUnread (t : Tables) (x : ℕ) (w : Exchange) : Type 0 where
  pub bare : IsBare t x w
  pub unread : (d : ℕ) (u : rows.Consumer) → t.consumer d ≡ Some u → u.place ≡ place.Direct x → ⊥

-- it reads x past the store, or nothing
abbrev pub StandsApart : ℕ → Place → Type 0
StandsApart x (place.Direct y) = y ≡ x
StandsApart x (place.Down why) = Unit {0}
StandsApart x _ = ⊥

-- ITS LENGTH

abbrev pub end_from : ℕ → Option ℕ → Option ℕ
end_from from None = None
end_from from (Some n) = Some (from + n)

-- where the body ends, where that is told
abbrev pub end_of_answer : Length → Option ℕ
end_of_answer length = end_from (base_of length) (promise_of length)

abbrev pub EndsInRange : Length → Type 0
EndsInRange length = (n : ℕ) → promise_of length ≡ Some n → base_of length + n ≤ 2 ^ 62

-- it reads the answer of its exchange past the store, whose head tells this length
abbrev pub answered_by : Response → Length → Consumer → Consumer
answered_by response length k = with_answer response (base_of length) (end_of_answer length) k

-- the exchange, unless it is over with its head
abbrev pub unless_over : ℕ → Length → List ℕ
unless_over x length = if is_all (promise_of length) 0 then [] else x ∷ []

-- WHAT IT DOES

-- the answer to an unsafe request says that it may have changed something (RFC 9111 section 4.4)
abbrev pub changes_by : Request → Response → Bool
changes_by request response =
    nat_lt response.status 400 && not (list_any (bytes_eq request.method) safe_methods)

-- it came past the store
abbrev pub is_past_case : HeadCase → Bool
is_past_case case.DirectBad = true
is_past_case case.DirectTaken = true
is_past_case _ = false

-- it can't be used
abbrev pub is_bad_case : HeadCase → Bool
is_bad_case case.DirectBad = true
is_bad_case case.TurnBad = true
is_bad_case case.FirstBad = true
is_bad_case case.LaterBad = true
is_bad_case _ = false

-- it can't be used: whoever waits for it was shown nothing yet, and is to fail
abbrev pub puts_down : HeadCase → Bool
puts_down case.DirectBad = true
puts_down case.TurnBad = true
puts_down case.FirstBad = true
puts_down _ = false

-- the exchange goes on past the store
abbrev pub goes_past : HeadCase → Bool
goes_past case.TurnServerError = true
goes_past case.PassesBy = true
goes_past case.FirstServerError = true
goes_past case.FirstPassesBy = true
goes_past _ = false

-- what is stored isn't what was asked about: whoever waits starts over
abbrev pub starts_anew : HeadCase → Bool
starts_anew case.NotValidated = true
starts_anew case.FirstChanged = true
starts_anew _ = false

-- what was shown can't be completed
abbrev pub breaks_off : HeadCase → Bool
breaks_off case.LaterBad = true
breaks_off case.LaterChanged = true
breaks_off _ = false

-- why
abbrev pub broken_by : ℕ → HeadCase → Cause
broken_by x case.LaterChanged = cause.Changed x
broken_by x _ = cause.BadHead x

-- what isn't used any more, but for what is current where something else is founded
abbrev pub let_go_by : Option ℕ → Option ℕ → ℕ → HeadCase → Option ℕ
let_go_by current aim status case.PassesBy = current
let_go_by current aim status case.NotValidated = aim
let_go_by current aim status case.FirstChanged = aim
let_go_by current aim status case.FirstReplaced = aim
let_go_by current aim status case.FirstPassesBy = aim
let_go_by current aim status case.LaterChanged = if nat_lt status 500 then aim else None
let_go_by current aim status _ = None

abbrev pub goes_with : Tables → Exchange → Response → HeadCase → Option ℕ
goes_with t w response g = let_go_by (current t w.request.key) w.aim response.status g
