-- What a client is owed: the answers to its own requests, as bytes, one after another; and an error answer where no
-- request follows.
use Rattle.std.specs.Prelude.{◌≡◌, ℕ, ◌==◌, List, [], ◌∷◌, ◌++◌, filter, map, Bool, true, false, Option, Some, if◌then◌else◌}
use Rattle.hc_event.specs.declared.act.Act.{Act}
use Rattle.hc_event.specs.declared.act.Act.TheVariants as act
use Rattle.hc_event.specs.declared.event.Event.{Event}
use Rattle.hc_event.specs.declared.event.Event.TheVariants as event
use Rattle.hc_model.specs.Beginnings.{may_begin}
use Rattle.hc_model.specs.Entries.{History}
use Rattle.hc_peers.specs.declared.reply.Asking.{Asking}
use Rattle.hc_peers.specs.declared.reply.Reply.{Reply}
use Rattle.hc_peers.specs.Renderings.{rendering, form_behind, asking_of, empty_answer, error_status}
use Rattle.hc_msg.specs.Reading.{Reading, Failed}
use Rattle.hc_rules.specs.declared.room.Limits.{Limits}
use Rattle.hc_wire.specs.declared.event.WireEvent.TheVariants as wire
use Rattle.hc_wire.specs.Logs.{Called, Log}
use Rattle.hc_proxy.specs.Asked.{got_from, is_at, starts_of, HasAsked}
use Rattle.hc_proxy.specs.Rows.{Client, Proxy, Setting}
use Rattle.hc_proxy.specs.Turns.{behind_all}

-- THE ANSWER of a consumer

-- the act answers this consumer
abbrev pub is_answer_to : ℕ → Act → Bool
is_answer_to c (act.Shown d r why status fields lo hi) = c == d
is_answer_to c (act.Given d x at bytes) = c == d
is_answer_to c (act.Ended d) = c == d
is_answer_to c (act.Failed d cause) = c == d
is_answer_to c _ = false

-- the acts that do, the oldest first
abbrev pub answer_to : ℕ → History → List Act
answer_to c [] = []
answer_to c (e ∷ h) = answer_to c h ++ filter (is_answer_to c) e.acts

-- as bytes: each act by how far the answer is
abbrev pub rendered : Reply → List Act → List ℕ
rendered reply [] = []
rendered reply (a ∷ acts) =
    rendering reply a ++ rendered (record reply { form = form_behind reply a }) acts

-- THE ANSWERS of a client

-- the consumer that is started, where it is this client's
abbrev pub consumer_by : (ℕ → Option ℕ) → ℕ → Event → List ℕ
consumer_by holder k (event.Start c request) = if is_at k (holder c) then c ∷ [] else []
consumer_by holder k _ = []

-- its consumers, the oldest first
abbrev pub consumers_of : (ℕ → Option ℕ) → ℕ → History → List ℕ
consumers_of holder k [] = []
consumers_of holder k (e ∷ h) = consumers_of holder k h ++ consumer_by holder k e.event

-- to requests, each by its consumer
abbrev pub answers_to : List Asking → List ℕ → History → List ℕ
answers_to [] cs h = []
answers_to (r ∷ rs) [] h = []
answers_to (r ∷ rs) (c ∷ cs) h = rendered r.reply (answer_to c h) ++ answers_to rs cs h

-- WHAT A CLIENT IS OWED

-- the answer to bytes that are no request
abbrev pub error_answer : Reading → List ℕ
error_answer (Failed e) = empty_answer (error_status e)
error_answer _ = []

-- It was accepted at a call, and what came since asks for that which its consumers were started for. It is owed
-- the answers to these requests, each once and in their order. Behind them stands an error answer just where the
-- bytes behind these requests are no request.
pub record IsAnswered (k : ℕ) (calls : List Called) (p : Proxy) (client : Client) : Type 0 where
  pub before : List Called
  pub after : List Called
  pub call : Called
  pub calls_are : calls ≡ before ++ call ∷ after
  pub accepted : call.event ≡ wire.Accepted k
  pub asks : HasAsked p.setting.front (got_from k after) (starts_of p.holder k p.history)
  pub owed_is :
      client.owed
      ≡ answers_to (map (asking_of p.setting.front) asks.asked)
      (consumers_of p.holder k p.history) p.history
      ++ error_answer asks.reading

-- So it is of each client, here or gone, whatever a log says.
abbrev pub AnswersAreOwed : Type 0
AnswersAreOwed =
    (limits : Limits) (setting : Setting) (log : Log) (k : ℕ) (client : Client) →
    may_begin limits setting.contents ≡ true →
    (behind_all limits setting log).client k ≡ Some client →
    IsAnswered k log.calls (behind_all limits setting log) client
