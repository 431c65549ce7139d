-- The tables of the proxy: what the calls so far say of each client and of each connection to the origin.
use Rattle.std.specs.Prelude.{ℕ, List, [], Bool, false, Option, None, Some, option_map, ◌==◌, if◌then◌else◌}
use Rattle.hc_model.specs.Entries.{Entry, History, Contents}
use Rattle.hc_model.specs.Rows.{Tables}
use Rattle.hc_model.specs.Tables.{tables}
use Rattle.hc_msg.specs.Reading.{Reading, Requests, heading}
use Rattle.hc_peers.specs.declared.reply.Form.TheVariants.{Headless}
use Rattle.hc_peers.specs.declared.reply.Reply.{Reply}

-- a client
pub record Client : Type 0 where
  pub reading : Reading  -- where the reading of its requests stands
  pub input : List ℕ  -- what came of it and wasn't read
  pub consumers : List ℕ  -- those of its requests, the newest first
  pub consumer : Option ℕ  -- the live one
  pub reply : Reply  -- the answer to its last request
  pub owed : List ℕ  -- all that it is to be sent
  pub before : ℕ  -- how much of that stands before the last act or error answer
  pub closing : Bool  -- its connection is closed once it has taken all
  pub gone : Bool  -- its connection is closed
  pub let_go : Bool  -- and that was since it had taken all

-- the connection of an exchange
pub record Upstream : Type 0 where
  pub owed : List ℕ  -- the request
  pub no_body : Bool  -- it is a HEAD
  pub reading : Reading  -- where the reading of the answer stands
  pub input : List ℕ  -- what came of it and wasn't read
  pub ended : Bool  -- no more comes of it

-- what the loop began with: what was stored, and whether a front answers those who hold a copy
pub record Setting : Type 0 where
  pub contents : Contents
  pub front : Bool

pub record Proxy : Type 0 where
  pub setting : Setting
  pub tables : Tables
  pub history : History
  pub part : List Entry  -- the entries of the last turn, the newest first
  pub moment : ℕ  -- the greatest that was seen
  pub starts : ℕ  -- the number of the last consumer
  pub accepted : List ℕ  -- the connections of clients, in ascending order
  pub client : ℕ → Option Client  -- by connection
  pub holder : ℕ → Option ℕ  -- the connection of the client that a consumer belongs to
  pub upstream : ℕ → Option Upstream  -- by exchange

abbrev pub new_client : Client
new_client = record {
  reading = heading Requests;
  input = [];
  consumers = [];
  consumer = None;
  reply = record { old = false; no_body = false; form = Headless; copy = None };
  owed = [];
  before = 0;
  closing = false;
  gone = false;
  let_go = false;
}

-- with these contents, and with a front or without one
abbrev pub setting_of : Contents → Bool → Setting
setting_of contents front = record { contents = contents; front = front }

-- before the first call, where the loop begins with this
abbrev pub unused : Setting → Proxy
unused setting = record {
  setting = setting;
  tables = tables setting.contents [];
  history = [];
  part = [];
  moment = setting.contents.now;
  starts = setting.contents.last_consumer;
  accepted = [];
  client = λ k. None;
  holder = λ c. None;
  upstream = λ x. None;
}

-- one of them is this now
abbrev pub with : {A : Type 0} → ℕ → A → (ℕ → Option A) → ℕ → Option A
with n it all m = if m == n then Some it else all m

-- one of them is changed
abbrev pub changed : {A : Type 0} → ℕ → (A → A) → (ℕ → Option A) → ℕ → Option A
changed n change all m = if m == n then option_map change (all m) else all m

abbrev pub with_client : ℕ → (Client → Client) → Proxy → Proxy
with_client k change p = record p { client = changed k change p.client }

abbrev pub with_upstream : ℕ → (Upstream → Upstream) → Proxy → Proxy
with_upstream x change p = record p { upstream = changed x change p.upstream }
