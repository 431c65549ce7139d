-- One client is followed over the steps of a turn until the polls.
--
-- Its requests are the first that came of it (`IsRead`), it is owed the answers to them so far (`Owes`), and a consumer
-- of it that is live is the one it waits for. Nothing is told to a consumer before the polls, so what was carried out
-- before the turn stays the measure of what is owed. An event that starts nobody makes nobody live. A client asks for
-- more only where it waits for nothing and isn't to be closed: so its new consumer is the only live one, and no error
-- answer is behind.
use Rattle.std.{proofs.{Common.{◌≡◌, ◌⊎◌, inl, inr, ◌≤◌, ◌<◌, ℕ, ◌+◌, List, [], ◌∷◌, ◌++◌, Bool, true, false, Option, Some, None, refl, ap, sym, ◌∙◌, subst, arith, append-nil}, lemmas.Bool.Decides.{nat_tests}}, specs.Prelude.{nat_eq, IsSome, option_map, if◌then◌else◌}}
use Rattle.hc_text.proofs.Basics.{some_inj as some_is}
use Rattle.hc_effects.proofs.Vocabulary.{Event, Request, is_live, Entry, History, owed, Limits, event}
use Rattle.hc_head.specs.declared.message.WireRequest.{WireRequest}
use Rattle.hc_laws.proofs.LiveAfter.{Starts, was_live}
use Rattle.hc_msg.specs.{Inputs.{Next, Waits, Reports, Brings, Ends, Fails, next_in}, NextParts.{StandsNext}, Reading.{Reading, Heading, Requests, Failed, Token, Asks, Answers, Byte}}
use Rattle.hc_msg.proofs.{Leading.{reports_leads}, NextParts.{stands_next}}
use Rattle.hc_wire.specs.Logs.{Called}
use Rattle.hc_peers.specs.{Renderings.{asked_of, reply_to, asking_of}, declared.reply.Asking.{Asking}}
use Rattle.hc_proxy.specs.{Asked.{is_at, started_by, starts_of, count_by, starts_in, AreClients}, Carrying.{acts_in}, Handling.{clients_here}, Rendered.{answer_to, consumer_by, consumers_of, error_answer}, Rows.{Client, Upstream, Proxy, with, with_client}, Starts.{read_to, asks, with_holder, started, refused, hears_request, hears, hears_if, is_ready, each_heard, started_all}, Steps.{with_entry, stepped}, Waiting.{is_poll}}
use Rattle.hc_proxy.proofs.{Asked.{IsOther, other_starts, other_count, other_next, starts_kept, clients_kept, IsRead, alike, reads_on, read_all, all_read}, ConsumersOf.{other_consumers, consumers_kept, consumers_below}, NextAsks.{IsHead, of_head, IsNextAsked, next_asks, ready_idle}, Owings.{Owes, owes_read, owes_refused, owes_asks}, QuietActs.{AreQuiet, quiet_both, is_quiet_entry}, Stands.{Stands, law_of, owed_here, goes_on}, StaysOver.{HasOver, over_keeps}}

starts_other : (c : ℕ) (ev : Event) → IsOther ev → Starts c ev → ⊥
starts_other c (event.Start d request) off is = off
starts_other c (event.Poll d want) off is = is
starts_other c (event.Head x response) off is = is
starts_other c (event.Piece x bytes) off is = is
starts_other c (event.End x) off is = is
starts_other c (event.Fault x) off is = is
starts_other c (event.Cancel d) off is = is
starts_other c (event.Doom d) off is = is

no_error : (s : Reading) → IsHead s → error_answer s ≡ []
no_error (Heading Requests scan text) is = refl
no_error _ is = absurd is

module _ (limits : Limits) (ev : Event) (p : Proxy) (s : Stands limits p) where
  abbrev e : Entry
  e = owed limits p.tables p.moment ev

  event_is : e.event ≡ ev
  unfolding owed
  event_is = refl

  -- an event that starts nobody makes nobody live
  pub other_live : IsOther ev → (d : ℕ) → is_live ((stepped limits ev p).tables.consumer d) ≡ true → is_live (p.tables.consumer d) ≡ true
  unfolding with_entry
  other_live off d live = elim (was_live limits p.tables e (law_of limits p s) (owed_here limits ev p s) d live) [
    | inl was ↦ was
    | inr starts ↦ absurd (starts_other d ev off (subst (Starts d) event_is starts))
  ]

  pub over_here : HasOver p → HasOver (stepped limits ev p)
  over_here over = over_keeps limits p e (law_of limits p s) (owed_here limits ev p s) over

  pub quiet_here : is_poll ev ≡ false → AreQuiet (acts_in p.part) → AreQuiet (acts_in (stepped limits ev p).part)
  unfolding with_entry
  quiet_here off quiet = quiet_both (acts_in p.part) e.acts quiet (is_quiet_entry limits p.tables e (owed_here limits ev p s) (ap is_poll event_is ∙ off))

-- h was carried out
module _ (limits : Limits) (h : History) (k : ℕ) where
  -- ONE CLIENT

  -- a live consumer of it
  abbrev pub Holds : Proxy → ℕ → Type 0
  Holds p d = (is_live (p.tables.consumer d) ≡ true) × (p.holder d ≡ Some k)

  pub record IsFollowed (front : Bool) (ds : List (Option ℕ)) (calls : List Called) (client : Client) (requests : List Request) (cs : List ℕ)
      (holds : ℕ → Type 0) : Type 0 where
    pub asked : List Asking
    pub read : IsRead k front ds calls client requests asked
    pub owes : Owes h cs asked client
    pub live : (d : ℕ) → holds d → client.gone ≡ false → client.consumer ≡ Some d

  pub record IsAbsent (requests : List Request) (cs : List ℕ) (holds : ℕ → Type 0) : Type 0 where
    pub none : requests ≡ []
    pub nobody : cs ≡ []
    pub unheld : (d : ℕ) → holds d → ⊥

  abbrev pub HasRow : Bool → List (Option ℕ) → List Called → Option Client → List Request → List ℕ → (ℕ → Type 0) → Type 0
  HasRow front ds calls None requests cs holds = IsAbsent requests cs holds
  HasRow front ds calls (Some client) requests cs holds = IsFollowed front ds calls client requests cs holds

  -- this is its row, by who was started
  abbrev pub IsRow : List (Option ℕ) → List Called → Proxy → Option Client → Type 0
  IsRow ds calls p o = HasRow p.setting.front ds calls o (starts_of p.holder k p.history) (consumers_of p.holder k p.history) (Holds p)

  -- ALL OF THEM, before the polls

  pub record Stays (p : Proxy) : Type 0 where
    pub count : p.starts ≡ p.setting.contents.last_consumer + starts_in p.history
    pub clients : AreClients p.setting.contents.last_consumer p.holder p.history
    pub stands : Stands limits p
    pub named : (d j : ℕ) → p.holder d ≡ Some j → d ≤ p.starts
    pub fresh : (d : ℕ) → p.starts < d → answer_to d h ≡ []
    pub over : HasOver p
    pub quiet : AreQuiet (acts_in p.part)

  pub record Follows (ds : List (Option ℕ)) (calls : List Called) (p : Proxy) : Type 0 where
    pub all : Stays p
    pub row : IsRow ds calls p (p.client k)

  -- rows alone change
  pub put_all : (accepted : List ℕ) (rows : ℕ → Option Client) (up : ℕ → Option Upstream) (p : Proxy) → Stays p →
      Stays (record p { accepted = accepted; client = rows; upstream = up })
  put_all accepted rows up p a = record {
    count = a.count;
    clients = a.clients;
    stands = record { begins = a.stands.begins; run = a.stands.run; same = a.stands.same; later = a.stands.later };
    named = a.named;
    fresh = a.fresh;
    over = a.over;
    quiet = a.quiet;
  }

  pub row_less : (front : Bool) (ds : List (Option ℕ)) (calls : List Called) (o : Option Client) (requests requests' : List Request) (cs cs' : List ℕ)
      (holds holds' : ℕ → Type 0) → requests' ≡ requests → cs' ≡ cs → ((d : ℕ) → holds' d → holds d)
      → HasRow front ds calls o requests cs holds → HasRow front ds calls o requests' cs' holds'
  row_less front ds calls None requests requests' cs cs' holds holds' same these less r =
      record { none = same ∙ r.none; nobody = these ∙ r.nobody; unheld = λ d is. r.unheld d (less d is) }
  row_less front ds calls (Some client) requests requests' cs cs' holds holds' same these less r = record {
    asked = r.asked;
    read = subst (λ (rs : List Request). IsRead k front ds calls client rs r.asked) (sym same) r.read;
    owes = subst (λ (ns : List ℕ). Owes h ns r.asked client) (sym these) r.owes;
    live = λ d is here. r.live d (less d is) here;
  }

  module _ (ds : List (Option ℕ)) (calls : List Called) where
    abbrev S : Proxy → Type 0
    S p = Follows ds calls p

    pub still : (b : Bool) (p q : Proxy) → S p → S q → S (if b then q else p)
    still true p q a b = b
    still false p q a b = a

    -- AN EVENT that starts nobody, and is no poll

    pub other_on : (ev : Event) (p : Proxy) → IsOther ev → is_poll ev ≡ false → S p → S (stepped limits ev p)
    unfolding with_entry owed
    other_on ev p off quiet s =
        let a : Stays p = s.all in
        record {
          all = record {
            count = let none : count_by ev ≡ 0 = other_count ev off in let is : p.starts ≡ p.setting.contents.last_consumer + starts_in p.history = a.count in
                omega arith;
            clients = (other_next p.holder (p.setting.contents.last_consumer + starts_in p.history) ev off, a.clients);
            stands = (goes_on limits ev p a.stands).stands;
            named = a.named;
            fresh = a.fresh;
            over = over_here limits ev p a.stands a.over;
            quiet = quiet_here limits ev p a.stands quiet a.quiet;
          };
          row =
              row_less p.setting.front ds calls (p.client k) (starts_of p.holder k p.history) (starts_of p.holder k p.history ++ started_by p.holder k ev)
              (consumers_of p.holder k p.history) (consumers_of p.holder k p.history ++ consumer_by p.holder k ev)
              (Holds p) (Holds (stepped limits ev p))
              (ap (λ (xs : List Request). starts_of p.holder k p.history ++ xs) (other_starts p.holder k ev off) ∙ append-nil (starts_of p.holder k p.history))
              (ap (λ (xs : List ℕ). consumers_of p.holder k p.history ++ xs) (other_consumers p.holder k ev off) ∙
              append-nil (consumers_of p.holder k p.history))
              (λ d is. (other_live limits ev p a.stands off d is.0, is.1)) s.row;
        }

    -- A START, by whoever holds it

    -- a live one, or the new one, where it is the client's
    abbrev HoldsOr : Proxy → ℕ → ℕ → Type 0
    HoldsOr p z d = Holds p d ⊎ ((d ≡ p.starts + 1) × (nat_eq k z ≡ true))

    module _ (z : ℕ) (request : Request) (p : Proxy) (a : Stays p) where
      abbrev c : ℕ
      c = p.starts + 1

      abbrev held : Proxy
      held = with_holder c z p

      held_stands : Stands limits held
      held_stands = record { begins = a.stands.begins; run = a.stands.run; same = a.stands.same; later = a.stands.later }

      itself : with c z p.holder c ≡ Some z
      itself = let same : nat_eq c c ≡ true = grind (arith, nat_tests) in rw same refl

      lt : p.setting.contents.last_consumer + starts_in p.history < c
      lt = let is : p.starts ≡ p.setting.contents.last_consumer + starts_in p.history = a.count in omega arith

      named_on : (d j : ℕ) → with c z p.holder d ≡ Some j → d ≤ c
      named_on d j is = by_test (nat_eq d c) refl is
        where
          by_test : (b : Bool) → nat_eq d c ≡ b → (if b then Some z else p.holder d) ≡ Some j → d ≤ c
          by_test true same at = let it : d ≡ c = grind (arith, nat_tests) in omega arith
          by_test false off at = let le : d ≤ p.starts = a.named d j at in omega arith

      live_before : (d : ℕ) → nat_eq d c ≡ false → is_live ((stepped limits (event.Start c request) held).tables.consumer d) ≡ true →
          is_live (p.tables.consumer d) ≡ true
      unfolding with_entry
      live_before d off live =
          elim (was_live limits held.tables (owed limits held.tables held.moment (event.Start c request)) (law_of limits held held_stands)
          (owed_here limits (event.Start c request) held held_stands) d live) [
            | inl was ↦ was
            | inr starts ↦ absurd (
                let is : c ≡ d = subst (Starts d) (event_is limits (event.Start c request) held held_stands) starts in
                let on : nat_eq d c ≡ true = grind (arith, nat_tests) in
                let never : true ≡ false = sym on ∙ off in cc)
          ]

      holds_less : (d : ℕ) → Holds (stepped limits (event.Start c request) held) d → HoldsOr p z d
      unfolding with_entry
      holds_less d is = by_test (nat_eq d c) refl is.1
        where
          by_test : (b : Bool) → nat_eq d c ≡ b → (if b then Some z else p.holder d) ≡ Some k → HoldsOr p z d
          by_test true same at =
              let it : z ≡ k = some_is z k at in
              inr (grind (arith, nat_tests), grind (arith, nat_tests))
          by_test false off at = inl (live_before d off is.0, at)

      pub start_on : HasRow p.setting.front ds calls (p.client k) (starts_of p.holder k p.history ++ (if nat_eq k z then request ∷ [] else []))
          (consumers_of p.holder k p.history ++ (if nat_eq k z then c ∷ [] else [])) (HoldsOr p z)
          → S (stepped limits (event.Start c request) held)
      unfolding with_entry owed
      start_on row = record {
        all = record {
          count = let is : p.starts ≡ p.setting.contents.last_consumer + starts_in p.history = a.count in omega arith;
          clients = (
            (
              let is : p.starts ≡ p.setting.contents.last_consumer + starts_in p.history = a.count in omega arith,
              subst (λ (o : Option ℕ). IsSome o)
                  (sym itself) refl,
            ),
            clients_kept p.holder c z p.setting.contents.last_consumer p.history a.clients lt,
          );
          stands = (goes_on limits (event.Start c request) held held_stands).stands;
          named = named_on;
          fresh = λ d above. a.fresh d (omega arith);
          over = over_here limits (event.Start c request) held held_stands a.over;
          quiet = quiet_here limits (event.Start c request) held held_stands refl a.quiet;
        };
        row =
            row_less p.setting.front ds calls (p.client k) (starts_of p.holder k p.history ++ (if nat_eq k z then request ∷ [] else []))
            (starts_of (with c z p.holder) k p.history ++ (if is_at k (with c z p.holder c) then request ∷ [] else []))
            (consumers_of p.holder k p.history ++ (if nat_eq k z then c ∷ [] else []))
            (consumers_of (with c z p.holder) k p.history ++ (if is_at k (with c z p.holder c) then c ∷ [] else []))
            (HoldsOr p z) (Holds (stepped limits (event.Start c request) held))
            (ap (λ (o : Option ℕ). starts_of (with c z p.holder) k p.history ++ (if is_at k o then request ∷ [] else [])) itself
            ∙ ap (λ (xs : List Request). xs ++ (if nat_eq k z then request ∷ [] else []))
            (starts_kept p.holder c z p.setting.contents.last_consumer k p.history a.clients lt))
            (ap (λ (o : Option ℕ). consumers_of (with c z p.holder) k p.history ++ (if is_at k o then c ∷ [] else [])) itself
            ∙ ap (λ (xs : List ℕ). xs ++ (if nat_eq k z then c ∷ [] else []))
            (consumers_kept p.holder c z p.setting.contents.last_consumer k p.history a.clients lt))
            holds_less row;
      }

    -- A CHANGE OF ONE ROW

    pub row_on : (p : Proxy) (change : Client → Client) → ((client : Client) → IsRow ds calls p (Some client) → IsRow ds calls p (Some (change client))) →
        (o : Option Client) → IsRow ds calls p o → IsRow ds calls p (option_map change o)
    row_on p change keeps None row = row
    row_on p change keeps (Some client) row = keeps client row

    pub change_on : (z : ℕ) (change : Client → Client) (p : Proxy) →
        ((client : Client) → IsRow ds calls p (Some client) → IsRow ds calls p (Some (change client))) → S p → S (with_client z change p)
    change_on z change p keeps s = record { all = put_all p.accepted (with_client z change p).client p.upstream p s.all; row = by_number (nat_eq k z) }
      where
        by_number : (b : Bool) → IsRow ds calls p (if b then option_map change (p.client k) else p.client k)
        by_number true = row_on p change keeps (p.client k) s.row
        by_number false = s.row

    -- ANOTHER CLIENT is read

    module _ (z : ℕ) (off : nat_eq k z ≡ false) where
      change_off : (change : Client → Client) (p : Proxy) → S p → S (with_client z change p)
      change_off change p s =
          let same : (with_client z change p).client k ≡ p.client k = rw off refl in
          record { all = put_all p.accepted (with_client z change p).client p.upstream p s.all; row = subst (IsRow ds calls p) (sym same) s.row }

      starts_off : (request : WireRequest) (p : Proxy) → S p → S (started limits z request p)
      starts_off request p s =
          let q : Proxy = with_client z (asks (p.starts + 1) (reply_to p.setting.front request)) p in
          let wanted : Request = asked_of p.setting.front request in
          let t : S q = change_off (asks (p.starts + 1) (reply_to p.setting.front request)) p s in
          let none : (if nat_eq k z then wanted ∷ [] else []) ≡ [] = rw off refl in
          let nobody : (if nat_eq k z then (p.starts + 1) ∷ [] else []) ≡ [] = rw off refl in
          start_on z wanted q t.all
          (row_less p.setting.front ds calls (q.client k) (starts_of p.holder k p.history)
          (starts_of p.holder k p.history ++ (if nat_eq k z then wanted ∷ [] else []))
          (consumers_of p.holder k p.history) (consumers_of p.holder k p.history ++ (if nat_eq k z then (p.starts + 1) ∷ [] else []))
          (Holds p) (HoldsOr p z)
          (ap (λ (xs : List Request). starts_of p.holder k p.history ++ xs) none ∙ append-nil (starts_of p.holder k p.history))
          (ap (λ (xs : List ℕ). consumers_of p.holder k p.history ++ xs) nobody ∙ append-nil (consumers_of p.holder k p.history))
          held_by t.row)
        where
          held_by : (d : ℕ) → HoldsOr p z d → Holds p d
          held_by d (inl is) = is
          held_by d (inr new) = absurd (let never : false ≡ true = sym off ∙ new.1 in cc)

      token_off : (token : Token) (p : Proxy) → S p → S (hears_request limits z token p)
      token_off (Asks request) p s = starts_off request p s
      token_off (Answers response) p s = s
      token_off (Byte b) p s = s

      hears_off : (n : Next) (p : Proxy) → S p → S (hears limits z n p)
      hears_off (Waits t) p s = change_off (read_to t []) p s
      hears_off (Reports token t rest) p s = token_off token (with_client z (read_to t rest) p) (change_off (read_to t rest) p s)
      hears_off (Brings bytes t rest) p s = s
      hears_off Ends p s = s
      hears_off (Fails e) p s = change_off (refused e) (with_client z (read_to (Failed e) []) p) (change_off (read_to (Failed e) []) p s)

    -- THIS CLIENT is read, where it waits for nothing and isn't to be closed

    module _ (z : ℕ) (on : nat_eq k z ≡ true) where
      here : (change : Client → Client) (p : Proxy) (client : Client) → p.client k ≡ Some client → (with_client z change p).client k ≡ Some (change client)
      here change p client at = rw (on, at) refl

      put_here : (change : Client → Client) (p : Proxy) (client : Client) → p.client k ≡ Some client → Stays p → IsRow ds calls p (Some (change client)) →
          S (with_client z change p)
      put_here change p client at a row =
          record { all = put_all p.accepted (with_client z change p).client p.upstream p a; row = subst (IsRow ds calls p) (sym (here change p client at)) row }

      asks_here : (request : WireRequest) (t : Reading) (rest : List ℕ) (p : Proxy) (client : Client) → p.client k ≡ Some client →
          client.consumer ≡ None → client.closing ≡ false
          → StandsNext 1 client.reading client.input (Reports (Asks request) t rest) → IsNextAsked (Reports (Asks request) t rest) →
          IsRow ds calls p (Some client) → Stays p → S (hears limits z (Reports (Asks request) t rest) p)
      asks_here request t rest p client at idle open_still next asked r a =
          start_on z wanted q (put_all p.accepted q.client p.upstream p a)
          (subst (λ (o : Option Client). HasRow p.setting.front ds calls o (requests ++ (if nat_eq k z then wanted ∷ [] else []))
          (cs ++ (if nat_eq k z then c ∷ [] else [])) (HoldsOr p z)) (sym row)
          (row_less p.setting.front ds calls (Some new) (requests ++ wanted ∷ []) (requests ++ (if nat_eq k z then wanted ∷ [] else [])) (cs ++ c ∷ [])
          (cs ++ (if nat_eq k z then c ∷ [] else [])) (HoldsOr p z) (HoldsOr p z)
          (ap (λ (xs : List Request). requests ++ xs) one) (ap (λ (xs : List ℕ). cs ++ xs) (rw on refl)) (λ d is. is)
          (record {
            asked = r.asked ++ asking_of p.setting.front request ∷ [];
            read = alike k p.setting.front ds calls new (read_to t rest client) (requests ++ wanted ∷ [])
                (r.asked ++ asking_of p.setting.front request ∷ []) refl refl (λ g. g)
                (reads_on k p.setting.front ds calls client requests r.asked (request ∷ []) next.front rest t next.whole
                (reports_leads client.reading next.front (Asks request) t next.reports) (of_head t asked) r.read);
            owes = owes_asks h cs r.asked (read_to t rest client) c (asking_of p.setting.front request) open_still (a.fresh c (omega arith))
                (consumers_below p.holder k p.setting.contents.last_consumer c p.history a.clients
                (let is : p.starts ≡ p.setting.contents.last_consumer + starts_in p.history = a.count in omega arith))
                (owes_read h cs r.asked client t rest open_still (no_error t asked) r.owes);
            live = live_now;
          })))
        where
          c : ℕ
          c = p.starts + 1

          wanted : Request
          wanted = asked_of p.setting.front request

          requests : List Request
          requests = starts_of p.holder k p.history

          cs : List ℕ
          cs = consumers_of p.holder k p.history

          new : Client
          new = asks c (reply_to p.setting.front request) (read_to t rest client)

          q : Proxy
          q = with_client z (asks c (reply_to p.setting.front request)) (with_client z (read_to t rest) p)

          row : q.client k ≡ Some new
          row = here (asks c (reply_to p.setting.front request)) (with_client z (read_to t rest) p) (read_to t rest client) (here (read_to t rest) p client at)

          one : (if nat_eq k z then wanted ∷ [] else []) ≡ wanted ∷ []
          one = rw on refl

          live_now : (d : ℕ) → HoldsOr p z d → client.gone ≡ false → Some c ≡ Some d
          live_now d (inl was) g = absurd (let never : None ≡ Some d = sym idle ∙ r.live d was g in cc)
          live_now d (inr it) g = ap (λ (n : ℕ). Some n) (sym it.0)

      hears_here : (n : Next) (p : Proxy) (client : Client) → p.client k ≡ Some client → client.consumer ≡ None → client.closing ≡ false
          → StandsNext 1 client.reading client.input n → IsNextAsked n → IsRow ds calls p (Some client) → S p → S (hears limits z n p)
      hears_here (Waits t) p client at idle open_still next asked r s =
          put_here (read_to t []) p client at s.all (record {
            asked = r.asked;
            read = all_read k p.setting.front ds calls client (starts_of p.holder k p.history) r.asked t
                (read_all k p.setting.front ds calls client.reading client.input t r.read.asking next) (of_head t asked) r.read;
            owes = owes_read h (consumers_of p.holder k p.history) r.asked client t [] open_still (no_error t asked) r.owes;
            live = r.live;
          })
      hears_here (Reports (Asks request) t rest) p client at idle open_still next asked r s =
          asks_here request t rest p client at idle open_still next asked r s.all
      hears_here (Reports (Answers response) t rest) p client at idle open_still next asked r s = absurd asked
      hears_here (Reports (Byte b) t rest) p client at idle open_still next asked r s = absurd asked
      hears_here (Brings bytes t rest) p client at idle open_still next asked r s = s
      hears_here Ends p client at idle open_still next asked r s = s
      hears_here (Fails e) p client at idle open_still next asked r s =
          let failed : Client = read_to (Failed e) [] client in
          let requests : List Request = starts_of p.holder k p.history in
          let cs : List ℕ = consumers_of p.holder k p.history in
          put_here (refused e) (with_client z (read_to (Failed e) []) p) failed (here (read_to (Failed e) []) p client at)
          (put_all p.accepted (with_client z (read_to (Failed e) []) p).client p.upstream p s.all) (record {
            asked = r.asked;
            read = alike k p.setting.front ds calls (refused e failed) failed requests r.asked refl refl (λ g. g)
                (all_read k p.setting.front ds calls client requests r.asked (Failed e) next tt r.read);
            owes = owes_refused h cs r.asked client e [] open_still idle r.owes;
            live = r.live;
          })

    -- EACH OF THEM

    next_on : (z : ℕ) (client : Client) (p : Proxy) → p.client z ≡ Some client → client.consumer ≡ None → client.closing ≡ false → S p →
        S (hears limits z (next_in 1 client.reading client.input) p)
    next_on z client p at idle open_still s = by_number (nat_eq k z) refl
      where
        by_number : (b : Bool) → nat_eq k z ≡ b → S (hears limits z (next_in 1 client.reading client.input) p)
        by_number false off = hears_off z off (next_in 1 client.reading client.input) p s
        by_number true on =
            let same : k ≡ z = grind (arith, nat_tests) in
            let row : p.client k ≡ Some client = ap p.client same ∙ at in
            let r : IsRow ds calls p (Some client) = subst (IsRow ds calls p) row s.row in
            hears_here z on (next_in 1 client.reading client.input) p client row idle open_still (stands_next 1 client.reading client.input)
            (next_asks 1 client.reading client.input r.read.asking) r s

    module _ (call : Called) where
      hears_by : (z : ℕ) (o : Option Client) (p : Proxy) → p.client z ≡ o → S p → S (hears_if limits call z o p)
      hears_by z None p at s = s
      hears_by z (Some client) p at s = by_ready (is_ready call z client) refl
        where
          by_ready : (b : Bool) → is_ready call z client ≡ b → S (if b then hears limits z (next_in 1 client.reading client.input) p else p)
          by_ready false off = s
          by_ready true is = let idle = ready_idle call z client is in next_on z client p at idle.0 idle.1 s

      each_on : (zs : List ℕ) (p : Proxy) → S p → S (each_heard limits call zs p)
      each_on [] p s = s
      each_on (z ∷ zs) p s = each_on zs (hears_if limits call z (p.client z) p) (hears_by z (p.client z) p refl s)

      pub starts_on : (p : Proxy) → S p → S (started_all limits call p)
      unfolding started_all
      starts_on p s = each_on (clients_here p) p s
