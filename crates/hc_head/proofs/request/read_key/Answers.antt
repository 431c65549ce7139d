use Rattle.std.{proofs.Common.{◌≡◌, sym, ◌∙◌, ap, rules}, specs.Prelude.{None}}
use Rattle.url.specs.Setters.{set_fragment}
use Rattle.hc_head.specs.Requests.{own_key}
use Rattle.hc_head.proofs.Keys.{no_text_key, read_key_is, key_given}
use Rattle.hc_head.proofs.request.read_key.Goals as goal

pub returns-in_default : goal.returns-in_default
returns-in_default c = sym (no_text_key c.args.text.now c.in_default.ensures.cases.0)

pub returns-in-Ok-set_fragment : goal.returns-in-Ok-set_fragment
returns-in-Ok-set_fragment c =
    let reported = c.in-Ok.ensures.cases in
    let same : c.set_fragment.new.self ≡ set_fragment c.in-Ok-parse.url None = search rules in
    let read = read_key_is c.args.text.now c.in-Ok.text.now _ reported.0 reported.1 c.in-Ok-parse.ensures in
    key_given c.own_key.result c.args.text.now c.set_fragment.new.self c.own_key.ensures (read ∙ ap own_key (sym same))
