-- The sentences of a log of the loop follow from what is proved of it.
--
-- Each call fits the tables before it, so a test over all of its standings, clients or open exchanges holds of each one
-- of them. The record: a turn adds its events to the history, so those of all turns are joined turn by turn. The dials:
-- an entry opens the next exchange or none, so the number of the last exchange counts the Opened acts of the run.
use Rattle.std.{proofs.{Common.{◌≡◌, ◌≤◌, ◌<◌, ℕ, zero, suc, ◌+◌, ◌-◌, List, [], ◌∷◌, ◌++◌, Bool, true, false, Option, Some, None, refl, ap, sym, ◌∙◌, subst, arith}, lemmas.{Bool.Decides.{nat_tests}, List.{take_all, map-append, reverse-append}}}, specs.{Prelude.{◌&&◌, ◌||◌, nat_lt, not, length, take, map, reverse, find, Contains}, List.{list_all}}}
use Rattle.hc_text.proofs.Basics.{and_left, and_right, both_false as both_off, not_true as not_false}
use Rattle.hc_effects.proofs.Runs.{by_entries}
use Rattle.hc_effects.proofs.Vocabulary.{Act, Limits, Contents, may_begin, History, Tables, IsRun, tables, after, act}
use Rattle.hc_wire.specs.{declared.connection.Standing.{Standing}, Logs.{Called, Log, Taker, is_at_end, is_numbered}}
use Rattle.hc_peers.specs.Peers.{is_same}
use Rattle.hc_proxy.specs.{Connections.{connection_of, dials_from, dials_in, has_unsent, stands}, Invariants.{OpensUp}, Listening.{is_read}, Loops.{Fits, AllFit}, Network.{open_exchanges}, Rows.{Client, Proxy, unused, Setting, setting_of}, Sending.{owed_by, owed_to, is_sent, is_taken, client_is_sent, taker_of, exchange_is_sent}, Sentences.{IsCallAsSaid, LogsAreAsSaid, EndsAreAsSaid, MayStand, whose_at, events_till, opened_in, opened_by}, Standings.{Whose, OfClient, OfExchange, OfNobody, is_right, may_stand, client_stands, number_stands, exchange_stands}, Turns.{so_far, turned, turned_by, behind_all, behind_calls, part_of, events_of, record_of, text_behind, timed_of}}
use Rattle.hc_proxy.proofs.{Folds.{turned_more}, MoreConnections.{dials_length}, OfferedClients.{was_same}, OpensUp.{entry_opens}, Parts.{turn_part}, Stands.{Stands, loops_are_runs, contents_stay, turns_go, unused_stands}}

-- LISTS AND TESTS

all_of : {A : Type 0} (f : A → Bool) (xs : List A) (x : A) → list_all f xs ≡ true → Contains xs x → f x ≡ true
all_of f [] x all (n, within, is) = absurd (omega arith)
all_of f (y ∷ ys) x all (zero, within, is) = ap f (sym is) ∙ and_left (f y) (list_all f ys) all
all_of f (y ∷ ys) x all (suc n, within, is) = all_of f ys x (and_right (f y) (list_all f ys) all) (n, omega arith, is)

or_first : (a b : Bool) → (a || b) ≡ true → b ≡ false → a ≡ true
or_first true b is off = refl
or_first false b is off = absurd (let never : false ≡ true = sym off ∙ is in cc)

or_second : (a b : Bool) → (a || b) ≡ true → a ≡ false → b ≡ true
or_second true b is off = absurd (let never : true ≡ false = off in cc)
or_second false b is off = is

is_less : (m n : ℕ) → m < n → not (nat_lt m n) ≡ false
is_less m n lt = let on : nat_lt m n ≡ true = grind (arith, nat_tests) in ap not on

-- A CALL

fit_at : (limits : Limits) (dialled : List (Option ℕ)) (before after : List Called) (call : Called) (p : Proxy) →
    AllFit limits dialled p (before ++ call ∷ after) → Fits limits dialled (turned_by limits dialled before p) call
fit_at limits dialled [] after call p all = all.0
fit_at limits dialled (first ∷ before) after call p all = fit_at limits dialled before after call (turned limits dialled first p) all.1

stands_of : (call : Called) (p : Proxy) (k : ℕ) (w : Whose) → may_stand call p k w ≡ true → MayStand call p k w
stands_of call p k (OfClient client) is = (
  not_false client.gone (and_left (not client.gone) (not client.closing || has_unsent call k client) is),
  λ closing. or_second (not client.closing) (has_unsent call k client) (and_right (not client.gone) (not client.closing || has_unsent call k client) is)
      (ap not closing),
)
stands_of call p k (OfExchange x) is = is
stands_of call p k OfNobody is = let never : false ≡ true = is in cc

number_of : (call : Called) (o : Option ℕ) → number_stands call o ≡ true → (k : ℕ) × (o ≡ Some k) × (stands call k ≡ true)
number_of call None is = absurd (let never : false ≡ true = is in cc)
number_of call (Some k) is = (k, refl, is)

client_stays : (call : Called) (p : Proxy) (k : ℕ) (client : Client) (o : Option Client) → o ≡ Some client → client_stands call p k o ≡ true →
    client.gone ≡ false → client.closing ≡ false → stands call k ≡ true
client_stays call p k client None at is here stays = absurd (let never : None ≡ Some client = at in cc)
client_stays call p k client (Some r) at is here stays =
    let same : r ≡ client = some_is r client at in
    or_second (r.gone || r.closing) (stands call k) is
    (both_off r.gone r.closing (ap (λ (c : Client). c.gone) same ∙ here) (ap (λ (c : Client). c.closing) same ∙ stays))
  where
    some_is : (a b : Client) → Some a ≡ Some b → a ≡ b
    some_is a b h = cc

call_said : (limits : Limits) (log : Log) (call : Called) (p : Proxy) → Fits limits (dials_in p log) p call → IsCallAsSaid limits log call p
call_said limits log call p fits =
    let dialled = so_far p (dials_in p log) in
    let each = list_all (is_right call dialled p) call.standings in
    let clients = list_all (λ k. client_stands call p k (p.client k)) p.accepted in
    let exchanges = list_all (exchange_stands call dialled) (open_exchanges p.tables) in
    let two : (each && clients) ≡ true = and_left (each && clients) exchanges fits.stands in
    record {
      waits_so = fits.wait;
      reads = λ s there. was_same s.reads (is_read call p s.k (whose_at log p s.k))
          (all_of (λ (z : Standing). is_same z.reads (is_read call p z.k (whose_at log p z.k))) call.standings s fits.reads there);
      sends = λ s there lt. or_first s.short (not (nat_lt s.taken (owed_to p (whose_at log p s.k))))
          (all_of (is_sent dialled p) call.standings s fits.sends there) (is_less s.taken (owed_to p (whose_at log p s.k)) lt);
      dials = λ x there. number_of call (connection_of dialled x)
          (all_of (exchange_stands call dialled) (open_exchanges p.tables) x (and_right (each && clients) exchanges fits.stands) there);
      stays = λ k client there at here stays. client_stays call p k client (p.client k) at
          (all_of (λ j. client_stands call p j (p.client j)) p.accepted k (and_right each clients two) there) here stays;
      closes = λ s there. stands_of call p s.k (whose_at log p s.k) (all_of (is_right call dialled p) call.standings s (and_left each clients two) there);
    }

-- THE RECORD

take_next : {A : Type 0} (n : ℕ) (xs : List A) → n < length xs → (x : A) × (take (suc n) xs ≡ take n xs ++ x ∷ [])
take_next n [] lt = absurd (omega arith)
take_next zero (x ∷ xs) lt = (x, refl)
take_next (suc n) (x ∷ xs) lt = let more = take_next n xs (omega arith) in (more.0, ap (λ ys. x ∷ ys) more.1)

module _ (limits : Limits) (c : Setting) (log : Log) (may : may_begin limits c.contents ≡ true) where
  abbrev dials : List (Option ℕ)
  dials = dials_from c log.dialled

  events_more : (call : Called) (p : Proxy) → events_of (turned limits dials call p) ≡ events_of p ++ part_of (turned limits dials call p)
  events_more call p =
      let q = turned limits dials call p in
      ap (λ (h : History). map timed_of (reverse h)) (turn_part limits dials call p).first
      ∙ (ap (map timed_of) (reverse-append q.part p.history) ∙ map-append timed_of (reverse p.history) (reverse q.part))

  events_are : (n : ℕ) → n ≤ length log.calls → events_of (behind_calls limits c log n) ≡ events_till limits c log n
  events_are zero le = refl
  events_are (suc n) le =
      let next = take_next n log.calls (omega arith) in
      let before = behind_calls limits c log n in
      let turns : behind_calls limits c log (suc n) ≡ turned limits dials next.0 before = ap (λ cs. turned_by limits dials cs (unused c)) next.1 ∙
      turned_more limits dials (take n log.calls) next.0 (unused c) in
      let rest : events_of before ≡ events_till limits c log n = events_are n (omega arith) in
      ap events_of turns
      ∙ (events_more next.0 before
      ∙ (ap (λ es. es ++ part_of (turned limits dials next.0 before)) rest
      ∙ ap (λ (q : Proxy). events_till limits c log n ++ part_of q) (sym turns)))

  text_said : record_of (behind_all limits c log) ≡ text_behind c.contents.now (events_till limits c log (length log.calls))
  text_said =
      ap (λ (d : Setting). text_behind d.contents.now (events_of (behind_all limits c log))) (contents_stay limits c log may)
      ∙ ap (text_behind c.contents.now)
      (ap (λ cs. events_of (turned_by limits dials cs (unused c))) (sym (take_all (length log.calls) log.calls (omega arith)))
      ∙ events_are (length log.calls) (omega arith))

-- THE DIALS

counted : (acts : List Act) (n m : ℕ) → OpensUp n acts m → m ≡ n + opened_in acts
counted [] n m up = let same : n ≡ n + 0 = omega arith in sym up ∙ same
counted (act.Opened x c need request ∷ acts) n m up = let sum : n + 1 + opened_in acts ≡ n + (opened_in acts + 1) = omega arith in
    counted acts (n + 1) m up.1 ∙ sum
counted (act.Denied refusal ∷ acts) n m up = counted acts n m up
counted (act.Ask x ∷ acts) n m up = counted acts n m up
counted (act.Close x ∷ acts) n m up = counted acts n m up
counted (act.Shown c r why status fields lo hi ∷ acts) n m up = counted acts n m up
counted (act.Given c x at bytes ∷ acts) n m up = counted acts n m up
counted (act.Ended c ∷ acts) n m up = counted acts n m up
counted (act.Failed c cause ∷ acts) n m up = counted acts n m up
counted (act.Pending c wait ∷ acts) n m up = counted acts n m up
counted (act.Lost r kind ∷ acts) n m up = counted acts n m up
counted (act.Evicted r ∷ acts) n m up = counted acts n m up

opened_are : (limits : Limits) (c : Contents) → may_begin limits c ≡ true → (h : History) → IsRun limits c h →
    (tables c h).opened ≡ (c.next_exchange - 1) + opened_by h
unfolding tables
opened_are limits c may = by_entries limits c (λ h. (tables c h).opened ≡ (c.next_exchange - 1) + opened_by h) (omega arith) (λ h e run before.
    let t = tables c h in
    let p : Proxy = record (unused (setting_of c false)) { tables = t; history = h; moment = t.moment } in
    let s : Stands limits p = record { begins = may; run = run.0; same = refl; later = omega arith } in
    let up : OpensUp t.opened e.acts (after t e).opened = entry_opens limits p s e run.1 t.opened [] refl in
    let more : (after t e).opened ≡ t.opened + opened_in e.acts = counted e.acts t.opened (after t e).opened up in
    omega arith)

opened_said : (limits : Limits) (c : Setting) (log : Log) → may_begin limits c.contents ≡ true →
    (behind_all limits c log).tables.opened ≡ (c.contents.next_exchange - 1) + opened_by (behind_all limits c log).history
opened_said limits c log may =
    let r = loops_are_runs limits c log may in
    ap (λ (t : Tables). t.opened) r.behind ∙ opened_are limits c.contents may (behind_all limits c log).history r.run

pub logs_said : LogsAreAsSaid
logs_said limits c log may l = record {
  calls = λ call p at.
      let dials = dials_from c log.dialled in
      let q = turned_by limits dials at.before (unused c) in
      let fits : Fits limits dials q call =
      fit_at limits dials at.before at.after call (unused c) (subst (AllFit limits dials (unused c)) at.calls l.fit) in
      let began : q.setting ≡ c = (turns_go limits dials at.before (unused c) (unused_stands limits c may)).setting in
      let fits_so : Fits limits (dials_in q log) q call = subst (λ (d : Setting). Fits limits (dials_from d log.dialled) q call) (sym began) fits in
      call_said limits log call p (subst (λ (r : Proxy). Fits limits (dials_in r log) r call) (sym at.tables) fits_so);
  text = text_said limits c log may;
  dials =
      let few : length (dials_from c log.dialled) ≤ (behind_all limits c log).tables.opened = l.dialled in
      let size = dials_length c log.dialled in
      let all = opened_said limits c log may in
      omega arith;
}

-- BEHIND THE LAST TURN

short_at : (calls n : ℕ) (taker : Taker) (o : Option Taker) → o ≡ Some taker → is_taken calls n o ≡ true → length taker.sent < n → taker.short ≡ Some calls
short_at calls n taker None at is lt = absurd (let never : None ≡ Some taker = at in cc)
short_at calls n taker (Some c) at is lt =
    let same : c ≡ taker = some_is c taker at in
    by_short taker.short (or_first (is_at_end taker.short calls) (not (nat_lt (length taker.sent) n))
    (subst (λ (d : Taker). (is_at_end d.short calls || not (nat_lt (length d.sent) n)) ≡ true) same is) (is_less (length taker.sent) n lt))
  where
    some_is : (a b : Taker) → Some a ≡ Some b → a ≡ b
    some_is a b h = cc

    by_short : (o : Option ℕ) → is_at_end o calls ≡ true → o ≡ Some calls
    by_short None on = absurd (let never : false ≡ true = on in cc)
    by_short (Some m) on = let same : m ≡ calls = grind (arith, nat_tests) in ap Some same

pub ends_said : EndsAreAsSaid
ends_said limits c log may l f =
    let p = behind_all limits c log in
    let clients = list_all (λ k. client_is_sent log k (p.client k)) p.accepted in
    let exchanges = list_all (exchange_is_sent log p) (open_exchanges p.tables) in
    record {
      dials =
          let same : length (dials_from c log.dialled) ≡ p.tables.opened =
          ap (λ (d : Setting). length (dials_from d log.dialled)) (sym (contents_stay limits c log may)) ∙ f.dialled in
          let size = dials_length c log.dialled in
          let all = opened_said limits c log may in
          omega arith;
      closed = λ taker there. not_false taker.live (all_of (λ (c : Taker). not c.live) log.takers taker f.closed there);
      clients = λ k client taker there at here found lt.
          let sent : client_is_sent log k (Some client) ≡ true =
          subst (λ (o : Option Client). client_is_sent log k o ≡ true) at
          (all_of (λ j. client_is_sent log j (p.client j)) p.accepted k (and_left clients exchanges f.sent) there) in
          short_at (length log.calls) (length client.owed) taker (find (is_numbered k) log.takers) found
          (or_second client.gone (is_taken (length log.calls) (length client.owed) (find (is_numbered k) log.takers)) sent here) lt;
      exchanges = λ x k taker there at found lt.
          let sent : exchange_is_sent log p x ≡ true = all_of (exchange_is_sent log p) (open_exchanges p.tables) x (and_right clients exchanges f.sent) there in
          short_at (length log.calls) (owed_by (p.upstream x)) taker (taker_of log (connection_of (dials_in p log) x)) (ap (taker_of log) at ∙ found) sent lt;
    }
