-- What a client is owed, by its requests and its consumers, where these acts were carried out.
--
-- The bytes are the answers to its requests so far, and behind them an error answer or nothing. The last answer goes
-- on, as far as `reply` says. An act to another consumer changes no answer of this client. One to its last consumer
-- puts its rendering behind the last answer. A request that is asked next has an empty answer at first, since nothing
-- was told to a consumer that has not started. Each act is taken as an entry of its own, behind the history before the
-- turn.
use Rattle.std.{proofs.{Common.{◌≡◌, ◌⊎◌, inl, inr, ◌<◌, ℕ, suc, List, [], ◌∷◌, ◌++◌, Bool, true, false, Option, Some, None, refl, ap, sym, ◌∙◌, subst, arith, length, append_assoc, append-nil}, lemmas.Bool.Decides.{nat_tests}}, specs.Prelude.{nat_eq, filter, if◌then◌else◌}}
use Rattle.hc_text.proofs.Basics.{eq_itself as itself}
use Rattle.hc_effects.proofs.Vocabulary.{Act, Entry, History, act}
use Rattle.hc_event.specs.declared.event.Event.TheVariants as event
use Rattle.hc_head.specs.declared.message.MsgError.{MsgError}
use Rattle.hc_msg.specs.Reading.{Reading, Failed}
use Rattle.hc_peers.specs.{declared.reply.{Asking.{Asking}, Reply.{Reply}}, Renderings.{rendering, form_behind, empty_answer, error_status}}
use Rattle.hc_proxy.specs.{Invariants.{addressee}, Rendered.{is_answer_to, answer_to, rendered, answers_to, error_answer}, Rows.{Client, new_client}, Starts.{read_to, asks, refused}}

-- ONE ANSWER

-- how far it is behind these acts
abbrev pub reply_behind : Reply → List Act → Reply
reply_behind reply [] = reply
reply_behind reply (a ∷ acts) = reply_behind (record reply { form = form_behind reply a }) acts

pub rendered_both : (reply : Reply) (xs ys : List Act) → rendered reply (xs ++ ys) ≡ rendered reply xs ++ rendered (reply_behind reply xs) ys
rendered_both reply [] ys = refl
rendered_both reply (a ∷ xs) ys =
    let next : Reply = record reply { form = form_behind reply a } in
    ap (λ (t : List ℕ). rendering reply a ++ t) (rendered_both next xs ys) ∙
    sym (append_assoc (rendering reply a) (rendered next xs) (rendered (reply_behind next xs) ys))

pub behind_both : (reply : Reply) (xs ys : List Act) → reply_behind reply (xs ++ ys) ≡ reply_behind (reply_behind reply xs) ys
behind_both reply [] ys = refl
behind_both reply (a ∷ xs) ys = behind_both (record reply { form = form_behind reply a }) xs ys

-- ALL ANSWERS

size_never : {X : Type 0} (n : ℕ) → 0 ≡ suc n → X
size_never n is = absurd (omega arith)

pub answers_more : (qs : List Asking) (ds : List ℕ) (r : Asking) (c : ℕ) (h : History) → length qs ≡ length ds →
    answers_to (qs ++ r ∷ []) (ds ++ c ∷ []) h ≡ answers_to qs ds h ++ rendered r.reply (answer_to c h)
answers_more [] [] r c h same = append-nil (rendered r.reply (answer_to c h))
answers_more [] (d ∷ ds) r c h same = size_never (length ds) same
answers_more (q ∷ qs) [] r c h same = size_never (length qs) (sym same)
answers_more (q ∷ qs) (d ∷ ds) r c h same =
    ap (λ (t : List ℕ). rendered q.reply (answer_to d h) ++ t) (answers_more qs ds r c h (omega arith))
    ∙ sym (append_assoc (rendered q.reply (answer_to d h)) (answers_to qs ds h) (rendered r.reply (answer_to c h)))

-- each of these consumers is answered by both histories alike
abbrev pub AreSame : History → History → List ℕ → Type 0
AreSame g h [] = Unit {0}
AreSame g h (c ∷ cs) = (answer_to c g ≡ answer_to c h) × AreSame g h cs

pub answers_same : (g h : History) (qs : List Asking) (cs : List ℕ) → AreSame g h cs → answers_to qs cs g ≡ answers_to qs cs h
answers_same g h [] cs same = refl
answers_same g h (q ∷ qs) [] same = refl
answers_same g h (q ∷ qs) (c ∷ cs) same =
    let one : answer_to c g ≡ answer_to c h = same.0 in
    let rest : answers_to qs cs g ≡ answers_to qs cs h = answers_same g h qs cs same.1 in
    rw (one, rest) refl

pub all_same : (g h : History) (cs : List ℕ) → ((c : ℕ) → answer_to c g ≡ answer_to c h) → AreSame g h cs
all_same g h [] each = tt
all_same g h (c ∷ cs) each = (each c, all_same g h cs each)

-- the consumers started before this one
abbrev pub AreBelow : ℕ → List ℕ → Type 0
AreBelow n [] = Unit {0}
AreBelow n (c ∷ cs) = (c < n) × AreBelow n cs

-- ACTS

abbrev pub is_number : ℕ → Option ℕ → Bool
is_number c None = false
is_number c (Some d) = nat_eq c d

pub answers_whom : (c : ℕ) (a : Act) → is_answer_to c a ≡ is_number c (addressee a)
answers_whom c (act.Shown d r why status fields lo hi) = refl
answers_whom c (act.Given d x at bytes) = refl
answers_whom c (act.Ended d) = refl
answers_whom c (act.Failed d cause) = refl
answers_whom c (act.Denied refusal) = refl
answers_whom c (act.Opened x d need request) = refl
answers_whom c (act.Ask x) = refl
answers_whom c (act.Close x) = refl
answers_whom c (act.Pending d wait) = refl
answers_whom c (act.Lost r kind) = refl
answers_whom c (act.Evicted r) = refl

-- an act as an entry of its own, and these, one behind another
abbrev pub alone : Act → Entry
alone a = record { now = 0; event = event.Cancel 0; acts = a ∷ [] }

abbrev pub all_alone : List Act → History → History
all_alone [] h = h
all_alone (a ∷ acts) h = all_alone acts (alone a ∷ h)

pub answer_alone : (c : ℕ) (acts : List Act) (h : History) → answer_to c (all_alone acts h) ≡ answer_to c h ++ filter (is_answer_to c) acts
answer_alone c [] h = sym (append-nil (answer_to c h))
answer_alone c (a ∷ acts) h = answer_alone c acts (alone a ∷ h) ∙ by_test (is_answer_to c a)
  where
    by_test : (b : Bool) → (answer_to c h ++ (if b then a ∷ [] else [])) ++ filter (is_answer_to c) acts ≡ answer_to c h ++
        (if b then a ∷ filter (is_answer_to c) acts else filter (is_answer_to c) acts)
    by_test true = append_assoc (answer_to c h) (a ∷ []) (filter (is_answer_to c) acts)
    by_test false = ap (λ (xs : List Act). xs ++ filter (is_answer_to c) acts) (append-nil (answer_to c h))

pub to_other : (c : ℕ) (a : Act) (h : History) → is_answer_to c a ≡ false → answer_to c (alone a ∷ h) ≡ answer_to c h
to_other c a h off = ap (λ (b : Bool). answer_to c h ++ (if b then a ∷ [] else [])) off ∙ append-nil (answer_to c h)

pub to_it : (c : ℕ) (a : Act) (h : History) → addressee a ≡ Some c → answer_to c (alone a ∷ h) ≡ answer_to c h ++ a ∷ []
to_it c a h to = ap (λ (b : Bool). answer_to c h ++ (if b then a ∷ [] else [])) (answers_whom c a ∙ (ap (is_number c) to ∙ itself c))

-- an act to the last changes nothing for those before
pub below_same : (c : ℕ) (a : Act) (h : History) (ds : List ℕ) → addressee a ≡ Some c → AreBelow c ds → AreSame (alone a ∷ h) h ds
below_same c a h [] to below = tt
below_same c a h (d ∷ ds) to below =
    let lt : d < c = below.0 in
    let off : nat_eq d c ≡ false = grind (arith, nat_tests) in
    (to_other d a h (answers_whom d a ∙ (ap (is_number d) to ∙ off)), below_same c a h ds to below.1)

-- WHAT A CLIENT IS OWED

-- it was refused
pub record IsRefused (client : Client) : Type 0 where
  pub closing : client.closing ≡ true
  pub consumer : client.consumer ≡ None

-- no error answer is behind, or it was
abbrev pub HasError : Client → Type 0
HasError client = (error_answer client.reading ≡ []) ⊎ IsRefused client

-- its last request, and the consumer of that
pub record HasLast (h : History) (cs : List ℕ) (asked : List Asking) (client : Client) : Type 0 where
  pub ds : List ℕ
  pub c : ℕ
  pub qs : List Asking
  pub r : Asking
  pub cs_are : cs ≡ ds ++ c ∷ []
  pub asked_are : asked ≡ qs ++ r ∷ []
  pub sizes : length qs ≡ length ds
  pub below : AreBelow c ds
  pub reply : client.reply ≡ reply_behind r.reply (answer_to c h)
  pub waits : (client.consumer ≡ None) ⊎ (client.consumer ≡ Some c)

-- it asked for nothing yet
pub record IsNew (cs : List ℕ) (asked : List Asking) (client : Client) : Type 0 where
  pub none : cs ≡ []
  pub nothing : asked ≡ []
  pub waits : client.consumer ≡ None

pub record Owes (h : History) (cs : List ℕ) (asked : List Asking) (client : Client) : Type 0 where
  pub owed_is : client.owed ≡ answers_to asked cs h ++ error_answer client.reading
  pub error : HasError client
  pub last : IsNew cs asked client ⊎ HasLast h cs asked client

pub new_owes : (h : History) → Owes h [] [] new_client
new_owes h = record { owed_is = refl; error = inl refl; last = inl (record { none = refl; nothing = refl; waits = refl }) }

module _ (h : History) (cs : List ℕ) (asked : List Asking) where
  -- a change that leaves these alone
  module _ (new old : Client) (owed : new.owed ≡ old.owed) (reply : new.reply ≡ old.reply) (consumer : new.consumer ≡ old.consumer)
      (closing : new.closing ≡ old.closing) where
    last_alike : IsNew cs asked old ⊎ HasLast h cs asked old → IsNew cs asked new ⊎ HasLast h cs asked new
    last_alike (inl n) = inl (record { none = n.none; nothing = n.nothing; waits = consumer ∙ n.waits })
    last_alike (inr l) = inr (record {
      ds = l.ds;
      c = l.c;
      qs = l.qs;
      r = l.r;
      cs_are = l.cs_are;
      asked_are = l.asked_are;
      sizes = l.sizes;
      below = l.below;
      reply = reply ∙ l.reply;
      waits = subst (λ (o : Option ℕ). (o ≡ None) ⊎ (o ≡ Some l.c)) (sym consumer) l.waits;
    })

    error_alike : new.reading ≡ old.reading → HasError old → HasError new
    error_alike reading (inl none) = inl (ap error_answer reading ∙ none)
    error_alike reading (inr is) = inr (record { closing = closing ∙ is.closing; consumer = consumer ∙ is.consumer })

    pub owes_alike : new.reading ≡ old.reading → Owes h cs asked old → Owes h cs asked new
    owes_alike reading o = record {
      owed_is = owed ∙ (o.owed_is ∙ ap (λ (t : Reading). answers_to asked cs h ++ error_answer t) (sym reading));
      error = error_alike reading o.error;
      last = last_alike o.last;
    }

  -- where it isn't to be closed, no error answer is behind
  none_behind : (client : Client) → client.closing ≡ false → HasError client → error_answer client.reading ≡ []
  none_behind client off (inl none) = none
  none_behind client off (inr is) = absurd (let never : false ≡ true = sym off ∙ is.closing in cc)

  pub owes_read : (client : Client) (reading : Reading) (rest : List ℕ) → client.closing ≡ false → error_answer reading ≡ [] → Owes h cs asked client →
      Owes h cs asked (read_to reading rest client)
  owes_read client reading rest off none o = record {
    owed_is = o.owed_is ∙ ap (λ (t : List ℕ). answers_to asked cs h ++ t) (none_behind client off o.error ∙ sym none);
    error = inl none;
    last = last_alike (read_to reading rest client) client refl refl refl refl o.last;
  }

  -- its error answer stands behind all answers
  pub owes_refused : (client : Client) (e : MsgError) (rest : List ℕ) → client.closing ≡ false → client.consumer ≡ None → Owes h cs asked client →
      Owes h cs asked (refused e (read_to (Failed e) rest client))
  owes_refused client e rest off none o =
      let bytes : List ℕ = empty_answer (error_status e) in
      record {
        owed_is =
            ap (λ (t : List ℕ). t ++ bytes) o.owed_is
            ∙ (ap (λ (t : List ℕ). (answers_to asked cs h ++ t) ++ bytes) (none_behind client off o.error)
            ∙ ap (λ (t : List ℕ). t ++ bytes) (append-nil (answers_to asked cs h)));
        error = inr (record { closing = refl; consumer = none });
        last = by_last o.last;
      }
    where
      by_last : IsNew cs asked client ⊎ HasLast h cs asked client →
          IsNew cs asked (refused e (read_to (Failed e) rest client)) ⊎ HasLast h cs asked (refused e (read_to (Failed e) rest client))
      by_last (inl n) = inl (record { none = n.none; nothing = n.nothing; waits = n.waits })
      by_last (inr l) = inr (record {
        ds = l.ds;
        c = l.c;
        qs = l.qs;
        r = l.r;
        cs_are = l.cs_are;
        asked_are = l.asked_are;
        sizes = l.sizes;
        below =
            l.below;
        reply = l.reply;
        waits = l.waits;
      })

  -- as many requests as consumers
  sizes_are : (client : Client) → IsNew cs asked client ⊎ HasLast h cs asked client → length asked ≡ length cs
  sizes_are client (inl n) = ap (λ (xs : List Asking). length xs) n.nothing ∙ sym (ap (λ (xs : List ℕ). length xs) n.none)
  sizes_are client (inr l) =
      ap (λ (xs : List Asking). length xs) l.asked_are
      ∙ (one_more l.qs l.ds l.sizes ∙ sym (ap (λ (xs : List ℕ). length xs) l.cs_are))
    where
      one_more : (qs : List Asking) (ds : List ℕ) → length qs ≡ length ds → length (qs ++ l.r ∷ []) ≡ length (ds ++ l.c ∷ [])
      one_more [] [] same = refl
      one_more [] (d ∷ ds) same = size_never (length ds) same
      one_more (q ∷ qs) [] same = size_never (length qs) (sym same)
      one_more (q ∷ qs) (d ∷ ds) same = ap suc (one_more qs ds (omega arith))

  -- it asks for more, by a consumer that nothing was told to
  pub owes_asks : (client : Client) (c : ℕ) (r : Asking) → client.closing ≡ false → answer_to c h ≡ [] → AreBelow c cs → Owes h cs asked client →
      Owes h (cs ++ c ∷ []) (asked ++ r ∷ []) (asks c r.reply client)
  owes_asks client c r off unreported below o =
      let same : length asked ≡ length cs = sizes_are client o.last in
      record {
        owed_is =
            o.owed_is
            ∙ ap (λ (t : List ℕ). t ++ error_answer client.reading)
            (sym (append-nil (answers_to asked cs h))
            ∙ (ap (λ (acts : List Act). answers_to asked cs h ++ rendered r.reply acts) (sym unreported) ∙ sym (answers_more asked cs r c h same)));
        error = inl (none_behind client off o.error);
        last = inr (record {
          ds = cs;
          c = c;
          qs = asked;
          r = r;
          cs_are = refl;
          asked_are = refl;
          sizes = same;
          below = below;
          reply = ap (reply_behind r.reply) (sym unreported);
          waits = inr refl;
        });
      }

-- where another history answers its consumers alike
same_last : (g h : History) (ds : List ℕ) (c : ℕ) → AreSame g h (ds ++ c ∷ []) → answer_to c g ≡ answer_to c h
same_last g h [] c same = same.0
same_last g h (d ∷ ds) c same = same_last g h ds c same.1

pub owes_by : (g h : History) (cs : List ℕ) (asked : List Asking) (client : Client) → AreSame g h cs → Owes h cs asked client → Owes g cs asked client
owes_by g h cs asked client same o = record {
  owed_is = o.owed_is ∙ ap (λ (t : List ℕ). t ++ error_answer client.reading) (sym (answers_same g h asked cs same));
  error = o.error;
  last = by_last o.last;
}
  where
    by_last : IsNew cs asked client ⊎ HasLast h cs asked client → IsNew cs asked client ⊎ HasLast g cs asked client
    by_last (inl n) = inl n
    by_last (inr l) = inr (record {
      ds = l.ds;
      c = l.c;
      qs = l.qs;
      r = l.r;
      cs_are = l.cs_are;
      asked_are = l.asked_are;
      sizes = l.sizes;
      below = l.below;
      reply = l.reply ∙ ap (reply_behind l.r.reply) (sym (same_last g h l.ds l.c (subst (AreSame g h) l.cs_are same)));
      waits = l.waits;
    })
