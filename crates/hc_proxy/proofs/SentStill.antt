-- A call of `next` goes on a log in which each connection has taken a first part of what it is owed: so it has behind
-- the turn, too.
--
-- What is owed only grows, by appending. What stands before the last act or error answer is what stood there before the
-- turn, or was taken at the call. Who was let go before stays as it is. Who is let go now was to be closed, and has
-- taken all; and what it is owed stays as it is, since it is gone.
use Rattle.std.{proofs.{Common.{◌≡◌, ◌⊎◌, inl, inr, ◌≤◌, ℕ, List, [], ◌∷◌, ◌++◌, Bool, true, false, Option, Some, None, refl, ap, sym, ◌∙◌, subst, arith}, lemmas.{Bool.Decides.{nat_tests}, List.{take-append-le, length-take}, Slice.Eq.{bytes_eq-Decides}}}, specs.{Prelude.{◌||◌, not, nat_eq, nat_le, min, find, length, take, option_map, if◌then◌else◌}, List.{list_all}}}
use Rattle.hc_text.proofs.Basics.{all_three, both_of, some_inj as some_is}
use Rattle.hc_effects.proofs.Vocabulary.{Limits}
use Rattle.hc_wire.specs.{Logs.{Log, Taker, Called, is_numbered, sent_in, sent_from, with_call}, declared.event.WireEvent.{WireEvent}}
use Rattle.hc_wire.specs.declared.event.WireEvent.TheVariants as event
use Rattle.hc_proxy.specs.{Carrying.{carried, acts_in}, Connections.{dials_in, exchange_of, stands, taken_at}, Endings.{is_prefix, client_was_sent, upstream_was_sent, sent_by, was_sent}, Handling.{begun, seen_at, handled}, Invariants.{AreServed}, Logging.{AreApart}, Network.{heard}, Rows.{Client, Upstream, Proxy}, Starts.{started_all}, Turns.{so_far, happened, turned}}
use Rattle.hc_proxy.proofs.BeforeTaken as before
use Rattle.hc_proxy.proofs.{DialsSent.{all_give, origin_unsent}, GoneStays.{happened_has, carried_has}, Later.{client_grows}, LetGo.{AreGone, turn_lets_go}, NetworkKeeps.{same_clients}, Openings.{StandsKnown, origin_grows}, TakersStand.{all_found, found_number, sent_found, taken_within, taken_missing}, TurnBegins.{called, sent_by_call}}

-- FRONTS

front_is : (sent owed : List ℕ) → is_prefix sent owed ≡ true → take (length sent) owed ≡ sent
front_is sent owed is = (bytes_eq-Decides (take (length sent) owed) sent).0 is

is_front_of : (sent owed : List ℕ) → take (length sent) owed ≡ sent → is_prefix sent owed ≡ true
is_front_of sent owed is = (bytes_eq-Decides (take (length sent) owed) sent).1 is

front_within : (sent owed : List ℕ) → is_prefix sent owed ≡ true → length sent ≤ length owed
front_within sent owed is =
    let size : length (take (length sent) owed) ≡ min (length sent) (length owed) = length-take (length sent) owed in
    let same : length (take (length sent) owed) ≡ length sent = ap length (front_is sent owed is) in
    omega arith

front_more : (sent owed more : List ℕ) → is_prefix sent owed ≡ true → is_prefix sent (owed ++ more) ≡ true
front_more sent owed more is = is_front_of sent (owed ++ more) (take-append-le (length sent) owed more (front_within sent owed is) ∙ front_is sent owed is)

no_bytes : (sent : List ℕ) → nat_eq (length sent) 0 ≡ true → sent ≡ []
no_bytes [] is = refl
no_bytes (b ∷ bs) is = absurd (let never : nat_eq (length (b ∷ bs)) 0 ≡ false = grind (arith, nat_tests) in let false_now : true ≡ false = sym is ∙ never in cc)

-- ONE OF THE ORIGIN

origin_still : (sent : List ℕ) (o o' : Option Upstream) → ((v : Upstream) → o ≡ Some v → (w : Upstream) × (o' ≡ Some w) × (w.owed ≡ v.owed)) →
    upstream_was_sent sent o ≡ true → upstream_was_sent sent o' ≡ true
origin_still sent None o' stays is = ap (λ s. upstream_was_sent s o') (no_bytes sent is) ∙ origin_unsent o'
origin_still sent (Some v) o' stays is =
    let w = stays v refl in
    ap (upstream_was_sent sent) w.1 ∙ (ap (is_prefix sent) w.2 ∙ is)

-- ONE CLIENT

-- who was let go has taken all
gone_all : (go : Bool) (m n : ℕ) → (go ≡ true → m ≡ n) → (not go || nat_eq m n) ≡ true
gone_all false m n all = refl
gone_all true m n all = let same : m ≡ n = all refl in grind (arith, nat_tests)

all_of_gone : (go : Bool) (m n : ℕ) → (not go || nat_eq m n) ≡ true → go ≡ true → m ≡ n
all_of_gone false m n h is = absurd (let never : false ≡ true = is in cc)
all_of_gone true m n h is = grind (arith, nat_tests)

module _ (limits : Limits) (log : Log) (apart : AreApart log.takers) (p : Proxy) (wait : Bool) (moment : ℕ) (what : WireEvent) (bytes : List ℕ) where
  abbrev call : Called
  call = called log wait moment what bytes

  abbrev q : Proxy
  q = turned limits (dials_in p log) call p

  abbrev log' : Log
  log' = with_call wait moment what bytes log

  module _ (known : StandsKnown limits p) (gone : AreGone p)
      (served : AreServed call (happened limits (so_far p (dials_in p log)) call (begun call p))
      (acts_in (happened limits (so_far p (dials_in p log)) call (begun call p)).part))
      (ended : (k : ℕ) (r : Client) → p.client k ≡ Some r → (r.gone ≡ true) ⊎ (stands call k ≡ true) ⊎ (length r.owed ≤ length (sent_in log.takers k)))
      (sent : list_all (was_sent (dials_in p log) p) log.takers ≡ true) where
    h : Proxy
    h = happened limits (so_far p (dials_in p log)) call (begun call p)

    -- what stands before the last act
    before_taken : (k : ℕ) → before.Before limits call k (begun call p) q
    unfolding turned
    before_taken k =
        let b = begun call p in
        let one = handled limits (so_far p (dials_in p log)) call b in
        let two = heard limits one in
        let three = started_all limits call two in
        let four = happened limits (so_far p (dials_in p log)) call b in
        before.both limits call k b one (carried four) (before.handled_before limits call k (so_far p (dials_in p log)) b)
        (before.both limits call k one two (carried four) (before.same limits call k one two (ap (λ (f : ℕ → Option Client). f k) (same_clients limits one).0))
        (before.both limits call k two three (carried four) (before.started_before limits call k two)
        (before.both limits call k three four (carried four) (before.polled_before limits call k three)
        (before.carried_before limits call k four served))))

    -- one that is gone where the turn begins stays as it is
    gone_stays : (k : ℕ) (r : Client) → (begun call p).client k ≡ Some r → r.gone ≡ true → q.client k ≡ Some r
    unfolding turned
    gone_stays k r row is =
        carried_has limits call k r is (happened limits (so_far p (dials_in p log)) call (begun call p))
        (happened_has limits call k r is (so_far p (dials_in p log)) (begun call p) row)

    -- A CLIENT, which has taken these bytes

    module _ (k : ℕ) (taken : List ℕ) (in_log : sent_in log.takers k ≡ taken) (at_call : taken_at call k ≤ length taken) where
      -- it had no row
      new_client : p.client k ≡ None → taken ≡ [] → client_was_sent taken (q.client k) ≡ true
      new_client none nothing = by_row (q.client k) refl
        where
          none_begun : (begun call p).client k ≡ None
          none_begun = ap (option_map (seen_at call k)) none

          before_zero : (new : Client) → q.client k ≡ Some new → nat_le new.before (length taken) ≡ true
          before_zero new row =
              let le : new.before ≤ taken_at call k = subst (λ (o : Option Client). before.IsFrom limits call k o new) none_begun (before_taken k new row) in
              grind (arith, nat_tests)

          not_gone : (new : Client) → q.client k ≡ Some new → new.let_go ≡ true → length taken ≡ length new.owed
          not_gone new row is =
              let was = turn_lets_go limits k (dials_in p log) call p new row is in
              absurd (let never : None ≡ Some was.old = sym none_begun ∙ was.row in cc)

          by_row : (o : Option Client) → q.client k ≡ o → client_was_sent taken o ≡ true
          by_row None row = ap (λ s. nat_eq (length s) 0) nothing
          by_row (Some new) row =
              all_three (is_prefix taken new.owed) (nat_le new.before (length taken)) (not new.let_go || nat_eq (length taken) (length new.owed))
              (ap (λ s. is_prefix s new.owed) nothing) (before_zero new row) (gone_all new.let_go (length taken) (length new.owed) (not_gone new row))

      -- it had one
      old_client : (old : Client) → p.client k ≡ Some old → client_was_sent taken (Some old) ≡ true → client_was_sent taken (q.client k) ≡ true
      old_client old at is =
          let parts = both_of (is_prefix taken old.owed) (nat_le old.before (length taken)) (not old.let_go || nat_eq (length taken) (length old.owed)) is in
          let later = client_grows limits k (dials_in p log) call p old at in
          ap (client_was_sent taken) later.row
          ∙ all_three (is_prefix taken later.new.owed) (nat_le later.new.before (length taken))
          (not later.new.let_go || nat_eq (length taken) (length later.new.owed))
          (ap (is_prefix taken) later.later.owed ∙ front_more taken old.owed later.later.more parts.0)
          (before_by later.new later.row parts.1)
          (gone_all later.new.let_go (length taken) (length later.new.owed) (λ go. all_by later.new later.row parts.0 parts.2 go))
        where
          seen : Client
          seen = seen_at call k old

          begun_row : (begun call p).client k ≡ Some (seen_at call k old)
          begun_row = ap (option_map (seen_at call k)) at

          seen_if : (b : Bool) → (if b then old else record old { gone = true; let_go = true }).before ≡ old.before
          seen_if true = refl
          seen_if false = refl

          owed_if : (b : Bool) → (if b then old else record old { gone = true; let_go = true }).owed ≡ old.owed
          owed_if true = refl
          owed_if false = refl

          before_by : (new : Client) → q.client k ≡ Some new → nat_le old.before (length taken) ≡ true → nat_le new.before (length taken) ≡ true
          before_by new row was = by_from (subst (λ (o : Option Client). before.IsFrom limits call k o new) begun_row (before_taken k new row))
            where
              by_from : (new.before ≡ (seen_at call k old).before) ⊎ (new.before ≤ taken_at call k) → nat_le new.before (length taken) ≡ true
              by_from (inl same) = ap (λ n. nat_le n (length taken)) (same ∙ seen_if (old.gone || stands call k)) ∙ was
              by_from (inr le) = grind (arith, nat_tests)

          -- who is let go behind the turn was so where it began, and is gone
          all_by : (new : Client) → q.client k ≡ Some new → is_prefix taken old.owed ≡ true →
              (not old.let_go || nat_eq (length taken) (length old.owed)) ≡ true → new.let_go ≡ true → length taken ≡ length new.owed
          all_by new row front was go =
              let earlier = turn_lets_go limits k (dials_in p log) call p new row go in
              let same : earlier.old ≡ seen_at call k old = some_is earlier.old (seen_at call k old) (sym earlier.row ∙ begun_row) in
              let went : (seen_at call k old).let_go ≡ true = ap (λ (c : Client). c.let_go) (sym same) ∙ earlier.let_go in
              let stays : new ≡ seen_at call k old =
              some_is new (seen_at call k old) (sym row ∙ gone_stays k (seen_at call k old) begun_row (seen_gone went)) in
              taken_all (ended k old at) went ∙ sym (ap (λ (c : Client). length c.owed) stays ∙ ap length (owed_if (old.gone || stands call k)))
            where
              seen_gone : (seen_at call k old).let_go ≡ true → (seen_at call k old).gone ≡ true
              seen_gone = by_test (old.gone || stands call k)
                where
                  by_test : (b : Bool) → (if b then old else record old { gone = true; let_go = true }).let_go ≡ true →
                      (if b then old else record old { gone = true; let_go = true }).gone ≡ true
                  by_test true is_so = gone k old at is_so
                  by_test false is_so = refl

              kept : (b : Bool) → b ≡ true → (if b then old else record old { gone = true; let_go = true }).let_go ≡ true → old.let_go ≡ true
              kept true is_so h = h
              kept false is_so h = absurd (let never : false ≡ true = is_so in cc)

              or_left : (a b : Bool) → a ≡ true → (a || b) ≡ true
              or_left true b x = refl
              or_left false b x = absurd (let never : false ≡ true = x in cc)

              or_right : (a b : Bool) → b ≡ true → (a || b) ≡ true
              or_right true b x = refl
              or_right false b x = x

              taken_all : (old.gone ≡ true) ⊎ (stands call k ≡ true) ⊎ (length old.owed ≤ length (sent_in log.takers k)) →
                  (seen_at call k old).let_go ≡ true → length taken ≡ length old.owed
              taken_all (inl is_gone) went =
                  all_of_gone old.let_go (length taken) (length old.owed) was (kept (old.gone || stands call k) (or_left old.gone (stands call k) is_gone) went)
              taken_all (inr (inl on)) went =
                  all_of_gone old.let_go (length taken) (length old.owed) was (kept (old.gone || stands call k) (or_right old.gone (stands call k) on) went)
              taken_all (inr (inr all)) went =
                  let within : length taken ≤ length old.owed = front_within taken old.owed front in
                  let size : length (sent_in log.takers k) ≡ length taken = ap length in_log in
                  omega arith

    -- ANY CONNECTION

    connection_still : (k : ℕ) (taken : List ℕ) → sent_in log.takers k ≡ taken → taken_at call k ≤ length taken → (o : Option ℕ)
        → (o ≡ None → client_was_sent taken (p.client k) ≡ true) → ((x : ℕ) → o ≡ Some x → upstream_was_sent taken (p.upstream x) ≡ true)
        → (o ≡ None → client_was_sent taken (q.client k) ≡ true) × ((x : ℕ) → o ≡ Some x → upstream_was_sent taken (q.upstream x) ≡ true)
    connection_still k taken in_log at_call o client_so origin_so = (
      (λ none. by_client (p.client k) refl (client_so none)),
      (λ x is. origin_still taken (p.upstream x) (q.upstream x)
          (λ v row. let grows = origin_grows limits (dials_in p log) call p known x v row in (grows.new, grows.row, grows.owed)) (origin_so x is)),
    )
      where
        by_client : (c : Option Client) → p.client k ≡ c → client_was_sent taken c ≡ true → client_was_sent taken (q.client k) ≡ true
        by_client None at is = new_client k taken in_log at_call at (no_bytes taken is)
        by_client (Some old) at is = old_client k taken in_log at_call old at is

    -- ALL OF THEM

    pub sent_still : AreApart log'.takers → ((j : ℕ) → what ≡ event.Accepted j → find (is_numbered j) log.takers ≡ None) →
        ((j : ℕ) → find (is_numbered j) log.takers ≡ None → p.client j ≡ None)
        → list_all (was_sent (dials_in p log') q) log'.takers ≡ true
    sent_still apart' new nobody =
        all_found (was_sent (dials_in p log) q) log'.takers apart' (λ c found. by_found c found (find (is_numbered c.k) log.takers) refl)
      where
        sent_as : (c : Taker) → find (is_numbered c.k) log'.takers ≡ Some c → sent_in log.takers c.k ≡ c.sent
        sent_as c found = sym (sent_by_call c.k what log.takers new) ∙ sent_found c.k c log'.takers found

        by_whose : (c : Taker) (o : Option ℕ) → (o ≡ None → client_was_sent c.sent (q.client c.k) ≡ true) ×
            ((x : ℕ) → o ≡ Some x → upstream_was_sent c.sent (q.upstream x) ≡ true) → sent_by q c o ≡ true
        by_whose c None is = is.0 refl
        by_whose c (Some x) is = is.1 x refl

        sent_so : (c e : Taker) → e.k ≡ c.k → c.sent ≡ e.sent → (o : Option ℕ) → exchange_of (dials_in p log) e.k ≡ o → sent_by p e o ≡ true
            → (o ≡ None → client_was_sent c.sent (p.client c.k) ≡ true) × ((x : ℕ) → o ≡ Some x → upstream_was_sent c.sent (p.upstream x) ≡ true)
        sent_so c e number same None at is = (
          (λ none. ap (λ s. client_was_sent s (p.client c.k)) same ∙ (ap (λ n. client_was_sent e.sent (p.client n)) (sym number) ∙ is)),
          (λ x never. absurd (let off : None ≡ Some x = never in cc)),
        )
        sent_so c e number same (Some y) at is = (
          (λ never. absurd (let off : Some y ≡ None = never in cc)),
          (λ x here. ap (λ s. upstream_was_sent s (p.upstream x)) same ∙ (ap (λ n. upstream_was_sent e.sent (p.upstream n)) (sym (some_is y x here)) ∙ is)),
        )

        unsent_so : (c : Taker) → c.sent ≡ [] → p.client c.k ≡ None → (o : Option ℕ) → (o ≡ None → client_was_sent c.sent (p.client c.k) ≡ true) ×
            ((x : ℕ) → o ≡ Some x → upstream_was_sent c.sent (p.upstream x) ≡ true)
        unsent_so c nothing none o = (
          (λ is. ap (client_was_sent c.sent) none ∙ ap (λ s. nat_eq (length s) 0) nothing),
          (λ x is. ap (λ s. upstream_was_sent s (p.upstream x)) nothing ∙ origin_unsent (p.upstream x)),
        )

        by_found : (c : Taker) → find (is_numbered c.k) log'.takers ≡ Some c → (o : Option Taker) → find (is_numbered c.k) log.takers ≡ o →
            was_sent (dials_in p log) q c ≡ true
        by_found c found None was =
            let taken : taken_at call c.k ≡ 0 = taken_missing log call refl apart c.k was in
            by_whose c (exchange_of (dials_in p log) c.k)
            (let so = unsent_so c (sym (sent_as c found) ∙ ap sent_from was) (nobody c.k was) (exchange_of (dials_in p log) c.k) in
            connection_still c.k c.sent (sent_as c found) (omega arith) (exchange_of (dials_in p log) c.k) so.0 so.1)
        by_found c found (Some e) was =
            let number : e.k ≡ c.k = found_number c.k e log.takers was in
            let same : c.sent ≡ e.sent = sym (sent_as c found) ∙ sent_found c.k e log.takers was in
            let le : taken_at call c.k ≤ length e.sent = taken_within log call refl apart c.k e was in
            let le' : taken_at call c.k ≤ length c.sent = subst (λ (s : List ℕ). taken_at call c.k ≤ length s) (sym same) le in
            let so = sent_so c e number same (exchange_of (dials_in p log) c.k) (ap (exchange_of (dials_in p log)) number)
            (ap (λ n. sent_by p e (exchange_of (dials_in p log) n)) (sym number) ∙ all_give (was_sent (dials_in p log) p) c.k e log.takers sent was) in
            by_whose c (exchange_of (dials_in p log) c.k) (connection_still c.k c.sent (sent_as c found) le' (exchange_of (dials_in p log) c.k) so.0 so.1)
