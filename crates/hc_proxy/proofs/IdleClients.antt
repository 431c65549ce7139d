-- The step *starts* goes through those clients alone whose next request is to be read, and the step *polls* through
-- those consumers alone whose clients were sent all. What is done for one changes no other client, and a poll changes
-- none.
--
-- An unready client is passed over, and stays unready while others are read: so the ready ones are gone through alone.
-- A poll changes no row of a client and no holder, so who may be polled is the same before and behind it.
use Rattle.std.{proofs.Common.{◌≡◌, ℕ, List, [], ◌∷◌, Bool, true, false, Option, Some, None, refl, ap, ◌∙◌}, specs.Prelude.{nat_eq, ◌+◌, if◌then◌else◌}}
use Rattle.hc_effects.proofs.Vocabulary.{Event, Limits, event}
use Rattle.hc_head.specs.declared.message.WireRequest.{WireRequest}
use Rattle.hc_msg.specs.{Inputs.{Next, Waits, Reports, Brings, Ends, Fails, next_in}, Reading.{Failed, Token, Asks, Answers, Byte}}
use Rattle.hc_wire.specs.Logs.{Called}
use Rattle.hc_peers.specs.Renderings.{asked_of, reply_to}
use Rattle.hc_proxy.specs.{Polls.{may_be_polled, polled, each_polled}, Rows.{Client, Proxy, with_client}, Starts.{read_to, asks, with_holder, started, refused, hears_request, hears, hears_if, is_ready}, Steps.{with_entry, stepped}}
use Rattle.hc_proxy.specs.Starts as starts
use Rattle.hc_proxy.proofs.SkippedSteps.{IsSkipped, each}

module _ (limits : Limits) (call : Called) where
  -- STARTS

  abbrev pub started_one : ℕ → Proxy → Proxy
  started_one k p = hears_if limits call k (p.client k) p

  abbrev pub ready_by : ℕ → Option Client → Bool
  ready_by k None = false
  ready_by k (Some client) = is_ready call k client

  abbrev pub IsUnready : Proxy → ℕ → Type 0
  IsUnready p k = ready_by k (p.client k) ≡ false

  abbrev Apart : ℕ → Proxy → Proxy → Type 0
  Apart k p q = q.client k ≡ p.client k

  step_apart : (k : ℕ) (ev : Event) (p : Proxy) → Apart k p (stepped limits ev p)
  unfolding with_entry
  step_apart k ev p = refl

  module _ (k z : ℕ) (off : nat_eq k z ≡ false) where
    changes : (change : Client → Client) (p : Proxy) → Apart k p (with_client z change p)
    changes change p = rw off refl

    starts_apart : (request : WireRequest) (p : Proxy) → Apart k p (started limits z request p)
    starts_apart request p =
        let q = with_client z (asks (p.starts + 1) (reply_to p.setting.front request)) p in
        step_apart k (event.Start (p.starts + 1) (asked_of p.setting.front request)) (with_holder (p.starts + 1) z q)
        ∙ changes (asks (p.starts + 1) (reply_to p.setting.front request)) p

    token_apart : (token : Token) (p : Proxy) → Apart k p (hears_request limits z token p)
    token_apart (Asks request) p = starts_apart request p
    token_apart (Answers response) p = refl
    token_apart (Byte b) p = refl

    hears_apart : (n : Next) (p : Proxy) → Apart k p (hears limits z n p)
    hears_apart (Waits reading) p = changes (read_to reading []) p
    hears_apart (Reports token reading rest) p = token_apart token (with_client z (read_to reading rest) p) ∙ changes (read_to reading rest) p
    hears_apart (Brings bytes reading rest) p = refl
    hears_apart Ends p = refl
    hears_apart (Fails e) p = changes (refused e) (with_client z (read_to (Failed e) []) p) ∙ changes (read_to (Failed e) []) p

    by_ready : (b : Bool) (n : Next) (p : Proxy) → Apart k p (if b then hears limits z n p else p)
    by_ready true n p = hears_apart n p
    by_ready false n p = refl

    by_client : (o : Option Client) (p : Proxy) → Apart k p (hears_if limits call z o p)
    by_client None p = refl
    by_client (Some client) p = by_ready (is_ready call z client) (next_in 1 client.reading client.input) p

    pub started_apart : (p : Proxy) → Apart k p (started_one z p)
    started_apart p = by_client (p.client z) p

  not_ready : (k : ℕ) (p : Proxy) (o : Option Client) → ready_by k o ≡ false → hears_if limits call k o p ≡ p
  not_ready k p None h = refl
  not_ready k p (Some client) h = rw h refl

  pub unready_skipped : IsSkipped started_one (λ p. Unit {0}) IsUnready
  unready_skipped = record {
    keeps = λ k p inv. tt;
    skips = λ k p inv idle. not_ready k p (p.client k) idle;
    stays = λ k z p inv off idle. ap (ready_by k) (started_apart k z off p) ∙ idle;
  }

  pub starts_are_each : (ks : List ℕ) (p : Proxy) → starts.each_heard limits call ks p ≡ each started_one ks p
  starts_are_each [] p = refl
  starts_are_each (k ∷ ks) p = starts_are_each ks (started_one k p)

  -- POLLS

  abbrev pub polled_one : ℕ → Proxy → Proxy
  polled_one c p = polled limits call c p

  abbrev pub IsUnpolled : Proxy → ℕ → Type 0
  IsUnpolled p c = may_be_polled call p (p.holder c) ≡ false

  stepped_test : (ev : Event) (p : Proxy) (o : Option ℕ) → may_be_polled call (stepped limits ev p) o ≡ may_be_polled call p o
  unfolding with_entry
  stepped_test ev p None = refl
  stepped_test ev p (Some k) = refl

  stepped_holder : (ev : Event) (p : Proxy) (c : ℕ) → (stepped limits ev p).holder c ≡ p.holder c
  unfolding with_entry
  stepped_holder ev p c = refl

  poll_keeps : (c d : ℕ) (b : Bool) (p : Proxy) → IsUnpolled p c → IsUnpolled (if b then stepped limits (event.Poll d 16384) p else p) c
  poll_keeps c d true p idle =
      ap (may_be_polled call (stepped limits (event.Poll d 16384) p)) (stepped_holder (event.Poll d 16384) p c)
      ∙ (stepped_test (event.Poll d 16384) p (p.holder c) ∙ idle)
  poll_keeps c d false p idle = idle

  pub unpolled_skipped : IsSkipped polled_one (λ p. Unit {0}) IsUnpolled
  unpolled_skipped = record {
    keeps = λ c p inv. tt;
    skips = λ c p inv idle. rw idle refl;
    stays = λ c d p inv off idle. poll_keeps c d (may_be_polled call p (p.holder d)) p idle;
  }

  pub polls_are_each : (cs : List ℕ) (p : Proxy) → each_polled limits call cs p ≡ each polled_one cs p
  polls_are_each [] p = refl
  polls_are_each (c ∷ cs) p = polls_are_each cs (polled_one c p)
