-- One client is followed over the polls of a turn, and where its acts are carried out.
--
-- No poll changes a row. Whoever is sent something by the acts of the turn was live before the polls and could be
-- polled, since no act before them is sent to anybody and a poll tells its own consumer alone. So what is sent to a
-- consumer of this client is sent to the one that it waits for, while it is here, and its answer goes on by that
-- (`owes_last`). Who is live behind the turn was live before the polls and isn't told that it is over: so it is still
-- waited for.
use Rattle.std.{proofs.{Common.{◌≡◌, ◌⊎◌, inl, inr, ◌≤◌, ◌<◌, ◌+◌, ℕ, List, [], ◌∷◌, ◌++◌, Bool, true, false, Option, Some, None, refl, ap, sym, ◌∙◌, subst, arith, append_assoc, append-nil}, lemmas.{Bool.Decides.{nat_tests}, List.Elements.{filter-append}}}, specs.Prelude.{◌&&◌, ◌||◌, not, nat_eq, filter, option_map, if◌then◌else◌}}
use Rattle.hc_text.proofs.Basics.{some_inj as some_is}
use Rattle.hc_effects.proofs.Vocabulary.{leaves_in, Act, Request, is_live, Entry, History, Tables, IsOwed, owed, Limits, event}
use Rattle.hc_peers.specs.declared.reply.Asking.{Asking}
use Rattle.hc_wire.specs.Logs.{Called}
use Rattle.hc_proxy.specs.{Asked.{is_at, starts_of, starts_in, AreClients}, Carrying.{acts_in, carried}, Connections.{has_unsent}, Invariants.{addressee}, Polls.{live_consumers, takes_more, may_be_polled, polled, each_polled, polled_all}, Rendered.{is_answer_to, answer_to, rendered, answers_to, consumers_of, error_answer}, Rows.{Client, Proxy, Setting}, Steps.{with_entry, stepped}}
use Rattle.hc_proxy.proofs.{Ascending.{lives_are}, Asked.{alike}, ClientSteps.{other_live, over_here, HasRow, IsRow, Holds, Follows, row_less}, ConsumersOf.{consumers_its}, FoundClients.{sent_reported, AreNotTo, quiet_not}, Later.{IsSame, carried_is_same}, OwedActs.{sent_is, reported_all, AreIts, AreFor, for_less, owes_past, owes_last, not_true, all_wait, IsKept, all_keep, all_rows}, Owings.{answers_more, is_number, answers_whom, all_alone, answer_alone, all_same, HasError, IsNew, HasLast, Owes, owes_by}, PolledAlone.{AreTo, polls_alone}, SkippedSteps.{among}, Stands.{Stands, StandsOn, law_of, owed_here, goes_on, stands_out}, StaysOver.{HasOver}, Turning.{carried_keeps, open_any}}

-- POLLS, of tables before them

module _ (limits : Limits) (call : Called) (k : ℕ) (q : Proxy) where
  -- the consumer is live, and may be polled
  abbrev pub MayHear : ℕ → Type 0
  MayHear d = (is_live (q.tables.consumer d) ≡ true) × (may_be_polled call q (q.holder d) ≡ true)

  -- whoever is sent something
  abbrev pub AllMay : List Act → Type 0
  AllMay [] = Unit {0}
  AllMay (a ∷ acts) = ((d : ℕ) → addressee a ≡ Some d → MayHear d) × AllMay acts

  may_both : (xs ys : List Act) → AllMay xs → AllMay ys → AllMay (xs ++ ys)
  may_both [] ys a b = b
  may_both (x ∷ xs) ys a b = (a.0, may_both xs ys a.1 b)

  none_may : (acts : List Act) → ((c : ℕ) → AreNotTo c acts) → AllMay acts
  none_may [] none = tt
  none_may (a ∷ acts) none = (λ d at. absurd ((none d).0 (sent_is a ∙ at)), none_may acts (λ c. (none c).1))

  to_may : (c : ℕ) (acts : List Act) → MayHear c → AreTo c acts → AllMay acts
  to_may c [] may to = tt
  to_may c (a ∷ acts) may to = (λ d at. subst MayHear (sym (to.0 d (sent_reported a d (sent_is a ∙ at)))) may, to_may c acts may to.1)

  pub record IsPolled (p : Proxy) : Type 0 where
    pub client : p.client ≡ q.client
    pub holder : p.holder ≡ q.holder
    pub starts : p.starts ≡ q.starts
    pub setting : p.setting ≡ q.setting
    pub stands : Stands limits p
    pub over : HasOver p
    pub count : starts_in p.history ≡ starts_in q.history
    pub clients : AreClients p.setting.contents.last_consumer p.holder p.history
    pub requests : starts_of p.holder k p.history ≡ starts_of q.holder k q.history
    pub consumers : consumers_of p.holder k p.history ≡ consumers_of q.holder k q.history
    pub less : (d : ℕ) → is_live (p.tables.consumer d) ≡ true → is_live (q.tables.consumer d) ≡ true
    pub acts : AllMay (acts_in p.part)

  may_same : (p : Proxy) → p.client ≡ q.client → (o : Option ℕ) → may_be_polled call p o ≡ may_be_polled call q o
  may_same p same None = refl
  may_same p same (Some j) = ap (λ (f : ℕ → Option Client). takes_more call j (f j)) same

  poll_on : (c : ℕ) (p : Proxy) → MayHear c → IsPolled p → IsPolled (stepped limits (event.Poll c 16384) p)
  unfolding with_entry owed
  poll_on c p may s =
      let e : Entry = owed limits p.tables p.moment (event.Poll c 16384) in
      let is : IsOwed limits p.tables e = owed_here limits (event.Poll c 16384) p s.stands in
      record {
        client = s.client;
        holder = s.holder;
        starts = s.starts;
        setting = s.setting;
        stands = (goes_on limits (event.Poll c 16384) p s.stands).stands;
        over = over_here limits (event.Poll c 16384) p s.stands s.over;
        count = let was : starts_in p.history ≡ starts_in q.history = s.count in omega arith;
        clients = (tt, s.clients);
        requests = append-nil (starts_of p.holder k p.history) ∙ s.requests;
        consumers = append-nil (consumers_of p.holder k p.history) ∙ s.consumers;
        less = λ d live. s.less d (other_live limits (event.Poll c 16384) p s.stands tt d live);
        acts = may_both (acts_in p.part) e.acts s.acts
            (to_may c e.acts may (polls_alone limits p.setting.contents p.history s.stands.begins s.stands.run e
            (subst (λ (t : Tables). IsOwed limits t e) s.stands.same is) c 16384 refl));
      }

  one_on : (c : ℕ) (p : Proxy) → is_live (q.tables.consumer c) ≡ true → IsPolled p → IsPolled (polled limits call c p)
  one_on c p live s = by_test (may_be_polled call p (p.holder c)) refl
    where
      by_test : (b : Bool) → may_be_polled call p (p.holder c) ≡ b → IsPolled (if b then stepped limits (event.Poll c 16384) p else p)
      by_test false off = s
      by_test true is = poll_on c p
          (live, ap (may_be_polled call q) (sym (ap (λ (f : ℕ → Option ℕ). f c) s.holder)) ∙ (sym (may_same p s.client (p.holder c)) ∙ is)) s

  first_among : (c : ℕ) (cs : List ℕ) → among c (c ∷ cs) ≡ true
  first_among c cs = let same : nat_eq c c ≡ true = grind (arith, nat_tests) in rw same refl

  later_among : (d c : ℕ) (cs : List ℕ) → among d cs ≡ true → among d (c ∷ cs) ≡ true
  later_among d c cs is = by_test (nat_eq d c)
    where
      by_test : (b : Bool) → (b || among d cs) ≡ true
      by_test true = refl
      by_test false = is

  each_on : (cs : List ℕ) (p : Proxy) → ((d : ℕ) → among d cs ≡ true → is_live (q.tables.consumer d) ≡ true) → IsPolled p →
      IsPolled (each_polled limits call cs p)
  each_on [] p live s = s
  each_on (c ∷ cs) p live s = each_on cs (polled limits call c p) (λ d is. live d (later_among d c cs is)) (one_on c p (live c (first_among c cs)) s)

  -- THE ACTS OF THIS CLIENT

  at_is : (o : Option ℕ) → is_at k o ≡ true → o ≡ Some k
  at_is None is = absurd (let never : false ≡ true = is in cc)
  at_is (Some j) is = let same : k ≡ j = grind (arith, nat_tests) in ap (λ (n : ℕ). Some n) (sym same)

  takes_here : (client : Client) → takes_more call k (Some client) ≡ true → client.gone ≡ false
  takes_here client is = by_parts client.gone (has_unsent call k client) is
    where
      by_parts : (a b : Bool) → (not a && not b) ≡ true → a ≡ false
      by_parts true b h = absurd (let never : false ≡ true = h in cc)
      by_parts false b h = refl

  -- what is sent to it is sent to the one that it waits for, while it is here
  abbrev IsFor : Client → ℕ → Type 0
  IsFor client d = (client.gone ≡ false) × (client.consumer ≡ Some d)

  are_for : (client : Client) → q.client k ≡ Some client → ((d : ℕ) → Holds limits [] k q d → client.gone ≡ false → client.consumer ≡ Some d) →
      (acts : List Act) → AllMay acts → AreFor q.holder k (IsFor client) acts
  are_for client at live [] may = tt
  are_for client at live (a ∷ acts) may = (λ d to its. it d (may.0 d to) (at_is (q.holder d) its), are_for client at live acts may.1)
    where
      it : (d : ℕ) → MayHear d → q.holder d ≡ Some k → IsFor client d
      it d m holds =
          let here : client.gone ≡ false = takes_here client (ap (takes_more call k) (sym at) ∙ (ap (may_be_polled call q) (sym holds) ∙ m.1)) in
          (here, live d (m.0, holds) here)

  module _ (h : History) (acts : List Act) (client : Client) (cs : List ℕ) (asked : List Asking) (its : AreIts q.holder k cs)
      (for : AreFor q.holder k (IsFor client) acts) (o : Owes h cs asked client) where
    abbrev g : History
    g = all_alone acts h

    none_for : ((d : ℕ) → IsFor client d → ⊥) → Owes g cs asked (reported_all q.holder k acts client)
    none_for never = owes_past q.holder k cs asked its acts h client (for_less q.holder k (IsFor client) (λ d. ⊥) acts never for) o

    none_behind : (c : ℕ) → client.consumer ≡ Some c → HasError client → error_answer client.reading ≡ []
    none_behind c at (inl none) = none
    none_behind c at (inr is) = absurd (let never : Some c ≡ None = sym at ∙ is.consumer in cc)

    last_for : client.gone ≡ false → (l : HasLast h cs asked client) → client.consumer ≡ Some l.c → Owes g cs asked (reported_all q.holder k acts client)
    last_for here l at =
        let firsts : List ℕ = l.ds ++ l.c ∷ [] in
        let none : error_answer client.reading ≡ [] = none_behind l.c at o.error in
        let owed_is : client.owed ≡ answers_to l.qs l.ds h ++ rendered l.r.reply (answer_to l.c h) =
        o.owed_is
        ∙ (ap (λ (t : List ℕ). answers_to asked cs h ++ t) none
        ∙ (append-nil (answers_to asked cs h)
        ∙ (ap (λ (rs : List Asking). answers_to rs cs h) l.asked_are
        ∙ (ap (λ (ns : List ℕ). answers_to (l.qs ++ l.r ∷ []) ns h) l.cs_are
        ∙ answers_more l.qs l.ds l.r l.c h l.sizes)))) in
        subst (λ (ns : List ℕ). Owes g ns asked (reported_all q.holder k acts client)) (sym l.cs_are)
        (subst (λ (rs : List Asking). Owes g firsts rs (reported_all q.holder k acts client)) (sym l.asked_are)
        (owes_last q.holder k l.ds l.c l.qs l.r l.sizes l.below (subst (AreIts q.holder k) l.cs_are its) acts h client
        (for_less q.holder k (IsFor client) (λ d. d ≡ l.c) acts (λ d is. some_is d l.c (sym is.1 ∙ at)) for) here owed_is l.reply l.waits none))

    pub owes_behind : Owes g cs asked (reported_all q.holder k acts client)
    owes_behind = by_gone client.gone refl
      where
        by_waits : client.gone ≡ false → (l : HasLast h cs asked client) → (client.consumer ≡ None) ⊎ (client.consumer ≡ Some l.c) →
            Owes g cs asked (reported_all q.holder k acts client)
        by_waits here l (inl none) = none_for (λ d is. let never : None ≡ Some d = sym none ∙ is.1 in cc)
        by_waits here l (inr at) = last_for here l at

        by_last : client.gone ≡ false → IsNew cs asked client ⊎ HasLast h cs asked client → Owes g cs asked (reported_all q.holder k acts client)
        by_last here (inl n) = none_for (λ d is. let never : None ≡ Some d = sym n.waits ∙ is.1 in cc)
        by_last here (inr l) = by_waits here l l.waits

        by_gone : (b : Bool) → client.gone ≡ b → Owes g cs asked (reported_all q.holder k acts client)
        by_gone true gone = none_for (λ d is. let never : true ≡ false = sym gone ∙ is.0 in cc)
        by_gone false here = by_last here o.last

-- THE ANSWERS BEHIND A TURN

answer_part : (d : ℕ) (part : List Entry) (h : History) → answer_to d (part ++ h) ≡ answer_to d h ++ filter (is_answer_to d) (acts_in part)
answer_part d [] h = sym (append-nil (answer_to d h))
answer_part d (e ∷ es) h =
    ap (λ (xs : List Act). xs ++ filter (is_answer_to d) e.acts) (answer_part d es h)
    ∙ (append_assoc (answer_to d h) (filter (is_answer_to d) (acts_in es)) (filter (is_answer_to d) e.acts)
    ∙ ap (λ (xs : List Act). answer_to d h ++ xs) (sym (filter-append (is_answer_to d) (acts_in es) e.acts)))

-- BETWEEN TURNS

pub record Rested (limits : Limits) (k : ℕ) (ds : List (Option ℕ)) (calls : List Called) (p : Proxy) : Type 0 where
  pub count : p.starts ≡ p.setting.contents.last_consumer + starts_in p.history
  pub clients : AreClients p.setting.contents.last_consumer p.holder p.history
  pub stands : Stands limits p
  pub named : (d j : ℕ) → p.holder d ≡ Some j → d ≤ p.starts
  pub fresh : (d : ℕ) → p.starts < d → answer_to d p.history ≡ []
  pub row : IsRow limits p.history k ds calls p (p.client k)

-- h was carried out before the turn, q stands before its polls, and p behind them
module _ (limits : Limits) (h : History) (k : ℕ) (ds : List (Option ℕ)) (calls : List Called) (call : Called) (q p : Proxy) (f : Follows limits h k ds calls q)
    (s : IsPolled limits call k q p) (base : p.history ≡ p.part ++ h) where
  abbrev acts : List Act
  acts = acts_in p.part

  abbrev p' : Proxy
  p' = carried p

  same : IsSame p p'
  same = carried_is_same p

  answer_now : (d : ℕ) → answer_to d p.history ≡ answer_to d h ++ filter (is_answer_to d) acts
  answer_now d = ap (answer_to d) base ∙ answer_part d p.part h

  -- nothing is told to a consumer that didn't start
  none_new : (d : ℕ) → q.starts < d → (xs : List Act) → AllMay limits call k q xs → filter (is_answer_to d) xs ≡ []
  none_new d lt [] may = refl
  none_new d lt (a ∷ xs) may = off_first (is_answer_to d a) (answers_whom d a ∙ by_whom (addressee a) refl) (none_new d lt xs may.1)
    where
      held : (o : Option ℕ) → may_be_polled call q o ≡ true → (j : ℕ) × (o ≡ Some j)
      held None is = absurd (let never : false ≡ true = is in cc)
      held (Some j) is = (j, refl)

      by_number : (x : ℕ) → addressee a ≡ Some x → (b : Bool) → nat_eq d x ≡ b → b ≡ false
      by_number x at false off = refl
      by_number x at true on =
          let it : d ≡ x = grind (arith, nat_tests) in
          let w : _ = held (q.holder x) (may.0 x at).1 in
          let le : x ≤ q.starts = f.all.named x w.0 w.1 in
          absurd (omega arith)

      by_whom : (o : Option ℕ) → addressee a ≡ o → is_number d o ≡ false
      by_whom None none = refl
      by_whom (Some x) at = by_number x at (nat_eq d x) refl

      off_first : (b : Bool) → b ≡ false → filter (is_answer_to d) xs ≡ [] → (if b then a ∷ filter (is_answer_to d) xs else filter (is_answer_to d) xs) ≡ []
      off_first true off rest = absurd (let never : true ≡ false = off in cc)
      off_first false off rest = rest

  -- THE ROW

  abbrev requests : List Request
  requests = starts_of q.holder k q.history

  abbrev cs : List ℕ
  cs = consumers_of q.holder k q.history

  abbrev holds : ℕ → Type 0
  holds d = (is_live (p.tables.consumer d) ≡ true) × (q.holder d ≡ Some k)

  row_now : (o : Option Client) → q.client k ≡ o → IsRow limits h k ds calls q o →
      HasRow limits p.history k q.setting.front ds calls (option_map (reported_all q.holder k acts) o) requests cs holds
  row_now None at r = record { none = r.none; nobody = r.nobody; unheld = λ d is. r.unheld d (s.less d is.0, is.1) }
  row_now (Some client) at r = record {
    asked = r.asked;
    read = alike k q.setting.front ds calls new client requests r.asked kept.input kept.reading (λ g. sym kept.gone ∙ g) r.read;
    owes = owes_by p.history (all_alone acts h) cs r.asked new (all_same p.history (all_alone acts h) cs (λ c. answer_now c ∙ sym (answer_alone c acts h)))
        (owes_behind limits call k q h acts client cs r.asked (consumers_its q.holder k q.history) for r.owes);
    live = λ d is here. waits d is (sym kept.gone ∙ here);
  }
    where
      new : Client
      new = reported_all q.holder k acts client

      kept : IsKept new client
      kept = all_keep q.holder k acts client

      for : AreFor q.holder k (λ d. (client.gone ≡ false) × (client.consumer ≡ Some d)) acts
      for = are_for limits call k q client at r.live acts s.acts

      waits : (d : ℕ) → holds d → client.gone ≡ false → new.consumer ≡ Some d
      waits d is here =
          let now : client.consumer ≡ Some d = r.live d (s.less d is.0, is.1) here in
          all_wait q.holder k d acts client
          (not_true q.holder k (leaves_in d acts) (λ leaves. let never : false ≡ true = sym (s.over d leaves).over ∙ is.0 in cc))
          (for_less q.holder k (λ x. (client.gone ≡ false) × (client.consumer ≡ Some x)) (λ x. x ≡ d) acts (λ x w. some_is x d (sym w.1 ∙ now)) for)
          ∙ now

  -- ALL OF IT

  rows_are : p'.client k ≡ option_map (reported_all q.holder k acts) (q.client k)
  unfolding carried
  rows_are = all_rows q.holder k acts p s.holder ∙ ap (λ (g : ℕ → Option Client). option_map (reported_all q.holder k acts) (g k)) s.client

  stands_now : Stands limits p'
  stands_now = (carried_keeps (λ x. Unit {0}) (StandsOn limits) (stands_out limits) p (open_any acts) s.stands).stands

  same_setting : p'.setting ≡ q.setting
  same_setting = same.setting ∙ s.setting

  pub carries_on : Rested limits k ds calls p'
  carries_on = record {
    count =
        let starts : p'.starts ≡ q.starts = same.starts ∙ s.starts in
        let before : q.starts ≡ q.setting.contents.last_consumer + starts_in q.history = f.all.count in
        let count : starts_in p'.history ≡ starts_in q.history = ap starts_in same.history ∙ s.count in
        let first : p'.setting.contents.last_consumer ≡ q.setting.contents.last_consumer = ap (λ (x : Setting). x.contents.last_consumer) same_setting in
        omega arith;
    clients =
        subst (λ (x : Setting). AreClients x.contents.last_consumer p'.holder p'.history) (sym same.setting)
        (subst (λ (x : ℕ → Option ℕ). AreClients p.setting.contents.last_consumer x p'.history) (sym same.holder)
        (subst (AreClients p.setting.contents.last_consumer p.holder) (sym same.history) s.clients));
    stands = stands_now;
    named = λ d j at.
        let le : d ≤ q.starts = f.all.named d j (sym (ap (λ (x : ℕ → Option ℕ). x d) (same.holder ∙ s.holder)) ∙ at) in
        let is : p'.starts ≡ q.starts = same.starts ∙ s.starts in omega arith;
    fresh = λ d lt.
        let is : p'.starts ≡ q.starts = same.starts ∙ s.starts in
        let new : q.starts < d = omega arith in
        ap (answer_to d) same.history ∙
        (answer_now d ∙ (ap (λ (xs : List Act). xs ++ filter (is_answer_to d) acts) (f.all.fresh d new) ∙ none_new d new acts s.acts));
    row = subst (λ (x : Setting). HasRow limits p'.history k x.front ds calls (p'.client k) (starts_of p'.holder k p'.history)
        (consumers_of p'.holder k p'.history) (Holds limits [] k p')) (sym same_setting)
        (subst (λ (x : History). HasRow limits x k q.setting.front ds calls (p'.client k) (starts_of p'.holder k p'.history)
        (consumers_of p'.holder k p'.history) (Holds limits [] k p')) (sym same.history)
        (row_less limits p.history k q.setting.front ds calls (p'.client k) requests (starts_of p'.holder k p'.history) cs (consumers_of p'.holder k p'.history) holds
        (Holds limits [] k p')
        (ap (λ (x : ℕ → Option ℕ). starts_of x k p'.history) same.holder ∙ (ap (starts_of p.holder k) same.history ∙ s.requests))
        (ap (λ (x : ℕ → Option ℕ). consumers_of x k p'.history) same.holder ∙ (ap (consumers_of p.holder k) same.history ∙ s.consumers))
        (λ d is. (ap (λ (t : Tables). is_live (t.consumer d)) (sym same.tables) ∙ is.0, sym (ap (λ (x : ℕ → Option ℕ). x d) (same.holder ∙ s.holder)) ∙ is.1))
        (subst (λ (o : Option Client). HasRow limits p.history k q.setting.front ds calls o requests cs holds) (sym rows_are)
        (row_now (q.client k) refl f.row))));
  }

-- BEFORE THE POLLS, AND BEHIND THEM

pub polls_on : (limits : Limits) (h : History) (k : ℕ) (ds : List (Option ℕ)) (calls : List Called) (call : Called) (q : Proxy) →
    Follows limits h k ds calls q →
    IsPolled limits call k q (polled_all limits call q)
unfolding polled_all
polls_on limits h k ds calls call q f =
    each_on limits call k q (live_consumers q.tables) q (λ d is. sym (lives_are q.tables (law_of limits q f.all.stands) d) ∙ is) (record {
      client = refl;
      holder = refl;
      starts = refl;
      setting = refl;
      stands = f.all.stands;
      over = f.all.over;
      count = refl;
      clients = f.all.clients;
      requests = refl;
      consumers = refl;
      less = λ d live. live;
      acts = none_may limits call k q (acts_in q.part) (λ c. quiet_not c (acts_in q.part) f.all.quiet);
    })
