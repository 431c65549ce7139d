-- What rests between turns does so whatever list a step goes over; and whether the next turn waits.
use Rattle.std.{proofs.Common.{◌≡◌, ◌≤◌, ◌+◌, [], Bool, true, false, refl, ap, sym, ◌∙◌, subst}, specs.{Prelude.{◌&&◌, not}, List.{list_all}}}
use Rattle.hc_core.specs.Steps.{steps}
use Rattle.hc_effects.proofs.Vocabulary.{act_list, Limits}
use Rattle.hc_peers.specs.{Clients.{client_of}, Upstreams.{upstream_of}}
use Rattle.hc_store.specs.declared.backend.Backend.{Ghosts}
use Rattle.hc_wire.specs.Logs.{Log, stage_in}
use Rattle.hc_proxy.specs.declared.proxy.Proxy as loop
use Rattle.hc_proxy.specs.{Connections.{dials_in}, Hearing.{OnlyRound}, Keeping.{Frame}, Resting.{IsRestingAt, Rests, resting_call}, Rows.{Proxy}, Waiting.{is_waiting, hears_nothing, waits}}
use Rattle.hc_proxy.proofs.Alike.{cache_moves, upstreams_move, wire_moves}

module _ {B : Type 0} {g : Ghosts B} (f : Frame) (x x' : loop.Proxy B g) (p : Proxy) (log : Log) where
  pub rests_round : OnlyRound x x' → Rests f x p log → Rests f x' p log
  rests_round o r = record {
    cache = cache_moves f x x' p o.cache o.text o.now o.starts o.front r.cache;
    acts = ap act_list o.acts ∙ r.acts;
    moved = o.moved ∙ r.moved;
    clients = λ k. subst (λ s. IsRestingAt log k (client_of s k) (p.client k)) (sym o.clients) (r.clients k);
    order = r.order;
    listed = r.listed;
    few = r.few;
    consumers = r.consumers;
    alive = r.alive;
    upstreams = λ call stages. upstreams_move (record { frame = f; call = resting_call log call; dialled = dials_in p log; stages = stages }) x x' p []
        o.upstreams (r.upstreams call stages);
    resting = λ y u at. r.resting y u (sym (ap (λ s. upstream_of s y) o.upstreams) ∙ at);
    opened = r.opened;
    heard = r.heard;
    wire = wire_moves (stage_in log.takers) x x' o.clients o.upstreams o.closed r.wire;
    closed = ap (λ v. v.items) o.closed ∙ r.closed;
    numbers = subst (λ c. p.starts ≤ p.setting.contents.last_consumer + steps c) (sym o.cache) r.numbers;
    opened_by = subst (λ c. p.tables.opened ≤ p.setting.contents.next_exchange + steps c) (sym o.cache) r.opened_by;
    seen = r.seen;
  }

-- WHETHER IT WAITS

pub waits_not : (limits : Limits) (p : Proxy) (moved : Bool) → moved ≡ not (list_all is_waiting p.part) → moved ≡ true → false ≡ waits limits p
waits_not limits p moved is on = by_test (list_all is_waiting p.part) (sym is ∙ on)
  where
    by_test : (b : Bool) → not b ≡ true → false ≡ (b && hears_nothing limits p)
    by_test true off = absurd (let never : false ≡ true = off in cc)
    by_test false off = refl

pub waits_so : (limits : Limits) (p : Proxy) (moved hears : Bool) → moved ≡ not (list_all is_waiting p.part) → moved ≡ false →
    hears ≡ not (hears_nothing limits p) → not hears ≡ waits limits p
waits_so limits p moved hears is off heard = by_test (list_all is_waiting p.part) (sym is ∙ off)
  where
    by_nothing : (h b : Bool) → h ≡ not b → not h ≡ b
    by_nothing true true same = absurd (let never : true ≡ false = same in cc)
    by_nothing true false same = refl
    by_nothing false true same = refl
    by_nothing false false same = absurd (let never : false ≡ true = same in cc)

    by_test : (b : Bool) → not b ≡ false → not hears ≡ (b && hears_nothing limits p)
    by_test true on = by_nothing hears (hears_nothing limits p) heard
    by_test false on = absurd (let never : true ≡ false = on in cc)
