use Rattle.std.{proofs.Common.{◌≡◌, drop}, specs.List.{list_all}}
use Rattle.hc_head.specs.{Requests.{says_zero}, Held.{fields_in}}
use Rattle.hc_head.proofs.request.all_say_zero.Given as goal

abbrev pub invariant-loop-header : goal.invariant-loop-header
invariant-loop-header l = list_all says_zero (fields_in (drop l.header-index l.headers)) ≡ list_all says_zero (fields_in l.headers)
