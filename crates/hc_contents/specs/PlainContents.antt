-- What contents tell.
use Rattle.std.specs.Prelude.{map}
use Rattle.hc_record.specs.Plain.{plain}
use Rattle.hc_model.specs.Entries as model
use Rattle.hc_contents.specs.declared.contents.Content.{Content}
use Rattle.hc_contents.specs.declared.contents.Contents.{Contents}

abbrev pub plain_item : Content → model.Content
plain_item item = record { key = item.key; r = item.r; head = plain item.head; runs = item.runs }

-- as plain data
abbrev pub plain_contents : Contents → model.Contents
plain_contents contents = record {
  now = contents.now;
  last_consumer = contents.last_consumer;
  next_exchange = contents.next_exchange;
  items = map plain_item contents.items;
}
