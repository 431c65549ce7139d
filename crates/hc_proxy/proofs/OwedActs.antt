-- Acts are carried out one behind another: what they put behind what a client is owed.
--
-- An act that is sent to no consumer of the client changes neither its row nor the answers of its consumers. If none is
-- sent to it, all stays. Else each that is sent to it goes to its last consumer, whose answer goes on by the rendering
-- of the act; the error answer isn't there yet. The row says how far that answer is, so it renders the act as the whole
-- answer does. Only a last act ends the wait, and who is told that is over: so a consumer that is live behind all of
-- them is still waited for.
use Rattle.std.{proofs.{Common.{◌≡◌, ◌⊎◌, inl, inr, ℕ, List, [], ◌∷◌, ◌++◌, Bool, true, false, Option, Some, None, refl, ap, sym, ◌∙◌, subst, arith, length, append_assoc, append-nil}, lemmas.Bool.Decides.{nat_tests}}, specs.Prelude.{◌||◌, nat_eq, option_map, if◌then◌else◌}}
use Rattle.hc_effects.proofs.Vocabulary.{leaves_in, Act, History, act}
use Rattle.hc_peers.specs.{declared.reply.{Asking.{Asking}, Reply.{Reply}}, Renderings.{rendering, form_behind, is_last, closes}}
use Rattle.hc_proxy.specs.{Asked.{is_at}, Carrying.{answered, carried_out, all_carried_out}, Invariants.{addressee}, Rendered.{is_answer_to, answer_to, rendered, answers_to, error_answer}, Rows.{Client, Proxy}}
use Rattle.hc_proxy.proofs.{CarriedOut.{sent_to, last_leaves, later_leaves}, FoundClients.{answered_clients, sent_clients, clients_are, holders_stay}, Owings.{reply_behind, AreSame, AreBelow, is_number, answers_whom, alone, all_alone, to_other, to_it, below_same, rendered_both, behind_both, answers_more, answers_same, Owes, owes_by}}

pub sent_is : (a : Act) → sent_to a ≡ addressee a
sent_is (act.Shown c r why status fields lo hi) = refl
sent_is (act.Given c x at bytes) = refl
sent_is (act.Ended c) = refl
sent_is (act.Failed c cause) = refl
sent_is (act.Denied refusal) = refl
sent_is (act.Opened x c need request) = refl
sent_is (act.Ask x) = refl
sent_is (act.Close x) = refl
sent_is (act.Pending c wait) = refl
sent_is (act.Lost r kind) = refl
sent_is (act.Evicted r) = refl

-- a client that is here, behind an act to it
abbrev behind : Act → Client → Client
behind a client = record client {
  owed = client.owed ++ rendering client.reply a;
  before = length client.owed;
  reply = record client.reply { form = form_behind client.reply a };
  closing = client.closing || closes client.reply a;
  consumer = if is_last a then None else client.consumer;
}

-- what no act changes
pub record IsKept (new old : Client) : Type 0 where
  pub input : new.input ≡ old.input
  pub reading : new.reading ≡ old.reading
  pub gone : new.gone ≡ old.gone

answered_keeps : (a : Act) (client : Client) → IsKept (answered a client) client
answered_keeps a client = by_gone client.gone
  where
    by_gone : (b : Bool) → IsKept (if b then client else behind a client) client
    by_gone true = record { input = refl; reading = refl; gone = refl }
    by_gone false = record { input = refl; reading = refl; gone = refl }

module _ (holder : ℕ → Option ℕ) (k : ℕ) where
  -- a consumer of the client
  abbrev pub is_its : Option ℕ → Bool
  is_its None = false
  is_its (Some c) = is_at k (holder c)

  -- its row behind an act, and behind all of these
  abbrev pub reported : Act → Client → Client
  reported a client = if is_its (addressee a) then answered a client else client

  abbrev pub reported_all : List Act → Client → Client
  reported_all [] client = client
  reported_all (a ∷ acts) client = reported_all acts (reported a client)

  abbrev pub AreIts : List ℕ → Type 0
  AreIts [] = Unit {0}
  AreIts (c ∷ cs) = (is_at k (holder c) ≡ true) × AreIts cs

  -- whatever is sent to one of its consumers is sent to such a one
  abbrev pub AreFor : (ℕ → Type 0) → List Act → Type 0
  AreFor To [] = Unit {0}
  AreFor To (a ∷ acts) = ((d : ℕ) → addressee a ≡ Some d → is_at k (holder d) ≡ true → To d) × AreFor To acts

  pub for_less : (To Any : ℕ → Type 0) (acts : List Act) → ((d : ℕ) → To d → Any d) → AreFor To acts → AreFor Any acts
  for_less To Any [] less for = tt
  for_less To Any (a ∷ acts) less for = (λ d at is. less d (for.0 d at is), for_less To Any acts less for.1)

  -- AN ACT

  -- it is sent to none of its consumers, or to this one
  data Sends (a : Act) : Type 0 where
    past : is_its (addressee a) ≡ false → Sends a
    to : (d : ℕ) → addressee a ≡ Some d → is_at k (holder d) ≡ true → Sends a

  sends : (a : Act) → Sends a
  sends a = by_whom (addressee a) refl
    where
      by_test : (d : ℕ) → addressee a ≡ Some d → (b : Bool) → is_at k (holder d) ≡ b → Sends a
      by_test d at true is = to d at is
      by_test d at false off = past (ap is_its at ∙ off)

      by_whom : (o : Option ℕ) → addressee a ≡ o → Sends a
      by_whom None none = past (ap is_its none)
      by_whom (Some d) at = by_test d at (is_at k (holder d)) refl

  past_same : (a : Act) (client : Client) → is_its (addressee a) ≡ false → reported a client ≡ client
  past_same a client off = ap (λ (b : Bool). if b then answered a client else client) off

  to_answered : (a : Act) (client : Client) (d : ℕ) → addressee a ≡ Some d → is_at k (holder d) ≡ true → reported a client ≡ answered a client
  to_answered a client d at is = ap (λ (b : Bool). if b then answered a client else client) (ap is_its at ∙ is)

  -- none of its consumers is answered
  past_answers : (a : Act) (c : ℕ) → is_its (addressee a) ≡ false → is_at k (holder c) ≡ true → is_answer_to c a ≡ false
  past_answers a c off its = answers_whom c a ∙ by_whom (addressee a) off
    where
      by_number : (d : ℕ) → is_at k (holder d) ≡ false → (b : Bool) → nat_eq c d ≡ b → b ≡ false
      by_number d other false is = refl
      by_number d other true is =
          let same : c ≡ d = grind (arith, nat_tests) in
          absurd (let never : true ≡ false = sym its ∙ (ap (λ (n : ℕ). is_at k (holder n)) same ∙ other) in cc)

      by_whom : (o : Option ℕ) → is_its o ≡ false → is_number c o ≡ false
      by_whom None none = refl
      by_whom (Some d) other = by_number d other (nat_eq c d) refl

  others_same : (a : Act) (h : History) (cs : List ℕ) → is_its (addressee a) ≡ false → AreIts cs → AreSame (alone a ∷ h) h cs
  others_same a h [] off its = tt
  others_same a h (c ∷ cs) off its = (to_other c a h (past_answers a c off its.0), others_same a h cs off its.1)

  reported_keeps : (a : Act) (client : Client) → IsKept (reported a client) client
  reported_keeps a client = by_its (is_its (addressee a))
    where
      by_its : (b : Bool) → IsKept (if b then answered a client else client) client
      by_its true = answered_keeps a client
      by_its false = record { input = refl; reading = refl; gone = refl }

  pub all_keep : (acts : List Act) (client : Client) → IsKept (reported_all acts client) client
  all_keep [] client = record { input = refl; reading = refl; gone = refl }
  all_keep (a ∷ acts) client =
      let one : IsKept (reported a client) client = reported_keeps a client in
      let rest : IsKept (reported_all acts (reported a client)) (reported a client) = all_keep acts (reported a client) in
      record { input = rest.input ∙ one.input; reading = rest.reading ∙ one.reading; gone = rest.gone ∙ one.gone }

  -- WHERE NONE IS SENT TO IT

  module _ (cs : List ℕ) (asked : List Asking) (its : AreIts cs) where
    pub owes_past : (acts : List Act) (h : History) (client : Client) → AreFor (λ d. ⊥) acts → Owes h cs asked client →
        Owes (all_alone acts h) cs asked (reported_all acts client)
    owes_past [] h client none o = o
    owes_past (a ∷ acts) h client none o = owes_past acts (alone a ∷ h) (reported a client) none.1 (by_act (sends a))
      where
        by_act : Sends a → Owes (alone a ∷ h) cs asked (reported a client)
        by_act (to d at is) = absurd (none.0 d at is)
        by_act (past off) = subst (Owes (alone a ∷ h) cs asked) (sym (past_same a client off))
            (owes_by (alone a ∷ h) h cs asked client (others_same a h cs off its) o)

  -- WHERE ALL ARE SENT TO ITS LAST CONSUMER

  module _ (ds : List ℕ) (c : ℕ) (qs : List Asking) (r : Asking) (sizes : length qs ≡ length ds) (below : AreBelow c ds)
      (its : AreIts (ds ++ c ∷ [])) where
    abbrev whole : Reply
    whole = r.reply

    record OwesLast (h : History) (client : Client) : Type 0 where
      here : client.gone ≡ false
      owed_is : client.owed ≡ answers_to qs ds h ++ rendered whole (answer_to c h)
      reply : client.reply ≡ reply_behind whole (answer_to c h)
      waits : (client.consumer ≡ None) ⊎ (client.consumer ≡ Some c)

    first_its : (xs : List ℕ) → AreIts (xs ++ c ∷ []) → AreIts xs
    first_its [] all = tt
    first_its (x ∷ xs) all = (all.0, first_its xs all.1)

    last_its : (xs : List ℕ) → AreIts (xs ++ c ∷ []) → is_at k (holder c) ≡ true
    last_its [] all = all.0
    last_its (x ∷ xs) all = last_its xs all.1

    -- another act
    last_past : (a : Act) (h : History) (client : Client) → is_its (addressee a) ≡ false → OwesLast h client → OwesLast (alone a ∷ h) client
    last_past a h client off o =
        let firsts : answers_to qs ds (alone a ∷ h) ≡ answers_to qs ds h = answers_same (alone a ∷ h) h qs ds (others_same a h ds off (first_its ds its)) in
        let it : answer_to c (alone a ∷ h) ≡ answer_to c h = to_other c a h (past_answers a c off (last_its ds its)) in
        record {
          here = o.here;
          owed_is = o.owed_is ∙ (ap (λ (t : List ℕ). t ++ rendered whole (answer_to c h)) (sym firsts) ∙
              ap (λ (acts : List Act). answers_to qs ds (alone a ∷ h) ++ rendered whole acts) (sym it));
          reply = o.reply ∙ ap (reply_behind whole) (sym it);
          waits = o.waits;
        }

    -- an act to it
    abbrev next_reply : Act → Reply → Reply
    next_reply a reply = record reply { form = form_behind reply a }

    still_waits : (b : Bool) (o : Option ℕ) → (o ≡ None) ⊎ (o ≡ Some c) → ((if b then None else o) ≡ None) ⊎ ((if b then None else o) ≡ Some c)
    still_waits true o w = inl refl
    still_waits false o w = w

    last_to : (a : Act) (h : History) (client : Client) → addressee a ≡ Some c → OwesLast h client → OwesLast (alone a ∷ h) (behind a client)
    last_to a h client at o =
        let acts : List Act = answer_to c h in
        let firsts : answers_to qs ds (alone a ∷ h) ≡ answers_to qs ds h = answers_same (alone a ∷ h) h qs ds (below_same c a h ds at below) in
        let it : answer_to c (alone a ∷ h) ≡ acts ++ a ∷ [] = to_it c a h at in
        let more : rendered whole (acts ++ a ∷ []) ≡ rendered whole acts ++ rendering (reply_behind whole acts) a = rendered_both whole acts (a ∷ []) ∙
        ap (λ (t : List ℕ). rendered whole acts ++ t) (append-nil (rendering (reply_behind whole acts) a)) in
        record {
          here = o.here;
          owed_is =
              ap (λ (t : List ℕ). t ++ rendering client.reply a) o.owed_is
              ∙ (ap (λ (reply : Reply). (answers_to qs ds h ++ rendered whole acts) ++ rendering reply a) o.reply
              ∙ (append_assoc (answers_to qs ds h) (rendered whole acts) (rendering (reply_behind whole acts) a)
              ∙ (ap (λ (t : List ℕ). answers_to qs ds h ++ t) (sym more)
              ∙ (ap (λ (t : List ℕ). t ++ rendered whole (acts ++ a ∷ [])) (sym firsts)
              ∙ ap (λ (all : List Act). answers_to qs ds (alone a ∷ h) ++ rendered whole all) (sym it)))));
          reply = ap (next_reply a) o.reply ∙ (sym (behind_both whole acts (a ∷ [])) ∙ ap (reply_behind whole) (sym it));
          waits = still_waits (is_last a) client.consumer o.waits;
        }

    answered_here : (a : Act) (client : Client) → client.gone ≡ false → answered a client ≡ behind a client
    answered_here a client here = ap (λ (b : Bool). if b then client else behind a client) here

    all_last : (acts : List Act) (h : History) (client : Client) → AreFor (λ d. d ≡ c) acts → OwesLast h client →
        OwesLast (all_alone acts h) (reported_all acts client)
    all_last [] h client for o = o
    all_last (a ∷ acts) h client for o = all_last acts (alone a ∷ h) (reported a client) for.1 (by_act (sends a))
      where
        by_act : Sends a → OwesLast (alone a ∷ h) (reported a client)
        by_act (past off) = subst (OwesLast (alone a ∷ h)) (sym (past_same a client off)) (last_past a h client off o)
        by_act (to d at is) =
            let whom : addressee a ≡ Some c = at ∙ ap (λ (n : ℕ). Some n) (for.0 d at is) in
            subst (OwesLast (alone a ∷ h)) (sym (to_answered a client d at is ∙ answered_here a client o.here)) (last_to a h client whom o)

    pub owes_last : (acts : List Act) (h : History) (client : Client) → AreFor (λ d. d ≡ c) acts → client.gone ≡ false
        → client.owed ≡ answers_to qs ds h ++ rendered whole (answer_to c h) → client.reply ≡ reply_behind whole (answer_to c h) →
        (client.consumer ≡ None) ⊎ (client.consumer ≡ Some c) → error_answer client.reading ≡ []
        → Owes (all_alone acts h) (ds ++ c ∷ []) (qs ++ r ∷ []) (reported_all acts client)
    owes_last acts h client for here owed reply waits none =
        let g : History = all_alone acts h in
        let o : OwesLast g (reported_all acts client) = all_last acts h client for (record { here = here; owed_is = owed; reply = reply; waits = waits }) in
        let all : List ℕ = answers_to (qs ++ r ∷ []) (ds ++ c ∷ []) g in
        let still : error_answer (reported_all acts client).reading ≡ [] = ap error_answer (all_keep acts client).reading ∙ none in
        record {
          owed_is = o.owed_is ∙ (sym (answers_more qs ds r c g sizes) ∙ (sym (append-nil all) ∙ ap (λ (t : List ℕ). all ++ t) (sym still)));
          error = inl still;
          last = inr (record {
            ds = ds;
            c = c;
            qs = qs;
            r = r;
            cs_are = refl;
            asked_are = refl;
            sizes = sizes;
            below = below;
            reply = o.reply;
            waits =
                o.waits;
          });
        }

  -- WHO IS WAITED FOR

  pub not_true : (b : Bool) → (b ≡ true → ⊥) → b ≡ false
  not_true true never = absurd (never refl)
  not_true false never = refl

  false_true : {X : Type 0} (b : Bool) → b ≡ false → b ≡ true → X
  false_true b off on = absurd (let never : false ≡ true = sym off ∙ on in cc)

  answered_waits : (a : Act) (client : Client) → is_last a ≡ false → (answered a client).consumer ≡ client.consumer
  answered_waits a client off = by_gone client.gone
    where
      by_gone : (b : Bool) → (if b then client else behind a client).consumer ≡ client.consumer
      by_gone true = refl
      by_gone false = ap (λ (b : Bool). if b then None else client.consumer) off

  pub all_wait : (c : ℕ) (acts : List Act) (client : Client) → leaves_in c acts ≡ false → AreFor (λ d. d ≡ c) acts →
      (reported_all acts client).consumer ≡ client.consumer
  all_wait c [] client stays for = refl
  all_wait c (a ∷ acts) client stays for =
      all_wait c acts (reported a client) (not_true (leaves_in c acts) (λ later. false_true (leaves_in c (a ∷ acts)) stays (later_leaves c a acts later)))
      for.1 ∙ by_act (sends a)
    where
      by_act : Sends a → (reported a client).consumer ≡ client.consumer
      by_act (past off) = ap (λ (r : Client). r.consumer) (past_same a client off)
      by_act (to d at is) =
          let whom : sent_to a ≡ Some c = sent_is a ∙ (at ∙ ap (λ (n : ℕ). Some n) (for.0 d at is)) in
          ap (λ (r : Client). r.consumer) (to_answered a client d at is)
          ∙ answered_waits a client (not_true (is_last a) (λ last. false_true (leaves_in c (a ∷ acts)) stays (last_leaves c a acts whom last)))

  -- THE ROW

  one_row : (a : Act) (rows : ℕ → Option Client) → sent_clients (sent_to a) a holder rows k ≡ option_map (reported a) (rows k)
  one_row a rows = ap (λ (o : Option ℕ). sent_clients o a holder rows k) (sent_is a) ∙ by_whom (addressee a)
    where
      none_row : (o : Option Client) → o ≡ option_map (λ (c : Client). c) o
      none_row None = refl
      none_row (Some c) = refl

      by_test : (j : ℕ) (b : Bool) (o : Option Client) →
          (if b then option_map (answered a) o else o) ≡ option_map (λ (c : Client). if b then answered a c else c) o
      by_test j true None = refl
      by_test j true (Some c) = refl
      by_test j false None = refl
      by_test j false (Some c) = refl

      by_holder : (o : Option ℕ) → answered_clients o a rows k ≡ option_map (λ (c : Client). if is_at k o then answered a c else c) (rows k)
      by_holder None = none_row (rows k)
      by_holder (Some j) = by_test j (nat_eq k j) (rows k)

      by_whom : (o : Option ℕ) → sent_clients o a holder rows k ≡ option_map (λ (c : Client). if is_its o then answered a c else c) (rows k)
      by_whom None = none_row (rows k)
      by_whom (Some d) = by_holder (holder d)

  two_rows : (acts : List Act) (a : Act) (o : Option Client) →
      option_map (reported_all acts) (option_map (reported a) o) ≡ option_map (reported_all (a ∷ acts)) o
  two_rows acts a None = refl
  two_rows acts a (Some c) = refl

  same_row : (o : Option Client) → o ≡ option_map (reported_all []) o
  same_row None = refl
  same_row (Some c) = refl

  pub all_rows : (acts : List Act) (p : Proxy) → p.holder ≡ holder → (all_carried_out acts p).client k ≡ option_map (reported_all acts) (p.client k)
  all_rows [] p same = same_row (p.client k)
  all_rows (a ∷ acts) p same =
      all_rows acts (carried_out a p) (holders_stay a p ∙ same)
      ∙ (ap (λ (o : Option Client). option_map (reported_all acts) o)
      (ap (λ (f : ℕ → Option Client). f k) (clients_are a p) ∙ (ap (λ (f : ℕ → Option ℕ). sent_clients (sent_to a) a f p.client k) same ∙ one_row a p.client))
      ∙ two_rows acts a (p.client k))
