-- The connections of clients: how one begins, what becomes of it, and when it is looked at.
use Rattle.std.specs.Prelude.{◌≡◌, ◌⊎◌, ℕ, List, [], ◌++◌, length, Bool, true, false, Option, Some, None, is_none, Result, Ok, Err, ◌==◌, ◌&&◌, ◌||◌, not, if◌then◌else◌}
use Rattle.hc_event.specs.declared.act.Act.{Act}
use Rattle.hc_event.specs.declared.act.Act.TheVariants as act
use Rattle.hc_head.specs.declared.message.MsgError.{MsgError}
use Rattle.hc_head.specs.declared.message.MsgError.TheVariants as error
use Rattle.hc_msg.specs.Inputs.{Next, Waits, Reports, Fails, next_in}
use Rattle.hc_msg.specs.Reading.{Reading, Requests, Failed, Asks, heading}
use Rattle.hc_peers.specs.declared.client.Client.{Client}
use Rattle.hc_peers.specs.declared.reply.Form.TheVariants.{Headless}
use Rattle.hc_peers.specs.declared.reply.Reply.{Reply}
use Rattle.hc_peers.specs.declared.reply.Asking.{Asking}
use Rattle.hc_peers.specs.Renderings.{asking_of, empty_answer, error_status, rendering, form_behind, is_last, closes}

-- HOW ONE BEGINS

-- to no request
abbrev pub no_reply : Reply
no_reply = record { old = false; no_body = false; form = Headless; copy = None }

-- a client of which nothing came
abbrev pub new_client : Client
new_client = record {
  reader = heading Requests;
  input = [];
  consumer = None;
  reply = no_reply;
  unsent = [];
  closing = false;
  reading = true;
}

-- WHEN IT IS LOOKED AT

-- nobody lives, and it has taken what it is owed
abbrev pub is_idle : Client → Bool
is_idle client = is_none client.consumer && length client.unsent == 0

-- bytes of it wait, it waits for nothing, and it isn't to be closed
abbrev pub is_ready : Client → Bool
is_ready client = is_idle client && not client.closing && not (length client.input == 0)

-- it is to be closed, and has taken what it is owed
abbrev pub is_over : Client → Bool
is_over client = client.closing && length client.unsent == 0

abbrev pub is_same : Bool → Bool → Bool
is_same a b = if a then b else not b

-- nothing is to be sent, the connection stays, and the wire was told whether it is read
abbrev pub is_settled : Client → Bool
is_settled client =
    length client.unsent == 0 && not client.closing && is_same client.reading (is_idle client)

-- ITS NEXT REQUEST

abbrev pub read_to : Reading → List ℕ → Client → Client
read_to reading rest client = record client { reader = reading; input = rest }

-- the consumer c asks for what this is the answer to
abbrev pub asks : ℕ → Reply → Client → Client
asks c reply client = record client { consumer = Some c; reply = reply }

-- its error answer is owed, and the close
abbrev pub refused : MsgError → Client → Client
refused e client = record client {
  unsent = client.unsent ++ empty_answer (error_status e);
  closing = true;
}

-- it is read, and what stands next is a request, an error or nothing yet
abbrev pub IsRead : Bool → Next → Client → Client → Result (Option Asking) MsgError → Type 0
IsRead front (Waits reading) old new result = (result ≡ Ok None) × (new ≡ read_to reading [] old)
IsRead front (Reports (Asks request) reading rest) old new result =
    (result ≡ Ok (Some (asking_of front request))) × (new ≡ read_to reading rest old)
IsRead front (Fails e) old new result = (result ≡ Err e) × (new ≡ read_to (Failed e) [] old)
IsRead front _ old new result = ⊥

-- or memory was refused
abbrev pub Reads : Bool → Client → Client → Result (Option Asking) MsgError → Type 0
Reads front old new result =
    (result ≡ Err error.NoMemory) ⊎ IsRead front (next_in 1 old.reader old.input) old new result

-- AN ANSWER

-- the consumer that is sent something by an act
abbrev pub addressee : Act → Option ℕ
addressee (act.Shown c r why status fields lo hi) = Some c
addressee (act.Given c x at bytes) = Some c
addressee (act.Ended c) = Some c
addressee (act.Failed c cause) = Some c
addressee _ = None

-- the act is sent to it
abbrev pub answered : Act → Client → Client
answered a client = record client {
  unsent = client.unsent ++ rendering client.reply a;
  reply = record client.reply { form = form_behind client.reply a };
  closing = client.closing || closes client.reply a;
  consumer = if is_last a then None else client.consumer;
}
