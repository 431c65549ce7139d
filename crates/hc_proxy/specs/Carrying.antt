-- The step *carry out*: what the acts of a turn make of the tables.
use Rattle.std.specs.Prelude.{ℕ, List, [], ◌∷◌, ◌++◌, ◌||◌, length, false, Option, Some, None, Ok, Err, if◌then◌else◌}
use Rattle.url.specs.Parts.{Parts}
use Rattle.url.specs.Parser.{Parsed, parse_url}
use Rattle.hc_event.specs.declared.event.Request.{Request}
use Rattle.hc_event.specs.declared.act.Act.{Act}
use Rattle.hc_event.specs.declared.act.Act.TheVariants as act
use Rattle.hc_model.specs.Entries.{Entry}
use Rattle.hc_msg.specs.Reading.{Responses, heading}
use Rattle.hc_msg.specs.Writing.{request_text}
use Rattle.hc_peers.specs.Renderings.{is_head, rendering, form_behind, is_last, closes}
use Rattle.hc_proxy.specs.Rows.{Client, Upstream, Proxy, with, with_client}

-- AN ACT FOR A CONSUMER

-- its client is to be sent the rendering of the act
abbrev pub answered : Act → Client → Client
answered act client = if client.gone then client else record client {
  owed = client.owed ++ rendering client.reply act;
  before = length client.owed;
  reply = record client.reply { form = form_behind client.reply act };
  closing = client.closing || closes client.reply act;
  consumer = if is_last act then None else client.consumer;
}

abbrev pub answers : Option ℕ → Act → Proxy → Proxy
answers None act p = p
answers (Some k) act p = with_client k (answered act) p

-- AN EXCHANGE THAT IS OPENED

abbrev pub text_by : Request → Parsed Parts → List ℕ
text_by request (Ok url) = request_text request url
text_by request (Err e) = []

-- the bytes of a request to the origin
abbrev pub sent_request : Request → List ℕ
sent_request request = text_by request (parse_url None request.key)

-- its connection is to be sent the request
abbrev pub opened : Request → Upstream
opened request = record {
  owed = sent_request request;
  no_body = is_head request;
  reading = heading (Responses (is_head request));
  input = [];
  ended = false;
}

-- ALL ACTS, in order

abbrev pub carried_out : Act → Proxy → Proxy
carried_out (act.Opened x c need request) p =
    record p { upstream = with x (opened request) p.upstream }
carried_out (act.Shown c r why status fields lo hi) p =
    answers (p.holder c) (act.Shown c r why status fields lo hi) p
carried_out (act.Given c x at bytes) p = answers (p.holder c) (act.Given c x at bytes) p
carried_out (act.Ended c) p = answers (p.holder c) (act.Ended c) p
carried_out (act.Failed c cause) p = answers (p.holder c) (act.Failed c cause) p
carried_out _ p = p

abbrev pub all_carried_out : List Act → Proxy → Proxy
all_carried_out [] p = p
all_carried_out (act ∷ acts) p = all_carried_out acts (carried_out act p)

-- the acts of entries of which the newest stands first
abbrev pub acts_in : List Entry → List Act
acts_in [] = []
acts_in (e ∷ es) = acts_in es ++ e.acts

unfoldable pub carried : Proxy → Proxy
carried p = all_carried_out (acts_in p.part) p
