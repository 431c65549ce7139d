use Rattle.std.{proofs.Common.{◌≡◌, ℕ, List, length, ap, ◌∙◌, subst}, specs.Prelude.{if◌then◌else◌}}
use Rattle.hc_wire.specs.{declared.script.ScriptWire.{ScriptWire}, Events.{IsOfOpen, got_bytes}, Logs.{Taker, stage_in, takers_with}, Following.{Left, bytes_left, behind_event, is_room}, Stalls.{room_of}, Plays.{script_due, script_next}}
use Rattle.hc_wire.proofs.{LogLemmas.{stages-joined}, PlayLemmas.{idle_where, pair_is}}
use Rattle.hc_wire.proofs.script.ScriptWireWire.next.Goals as goal

pub returns-clause-stages : goal.returns-clause-stages
returns-clause-stages c = λ k.
    let what = c.due-due.result.event in
    let counted = ap (λ (w : ScriptWire). w.connections.items) c.is_failing.ensures.kept in
    let is : c.advance.new.self.connections.items ≡ takers_with what c.args.self.now.connections.items =
    ap (λ (w : ScriptWire). w.connections.items) c.advance.ensures.kept
    ∙ (c.join_in.ensures ∙ ap (takers_with what) (c.in_ok-reserve.ensures.items ∙ counted)) in
    let open_before = subst (λ (cs : List Taker). IsOfOpen what (stage_in cs)) counted c.due-due.ensures.of_open in
    ap (λ (cs : List Taker). stage_in cs k) is ∙ stages-joined what c.args.self.now.connections.items open_before k

pub returns-clause-quiet : goal.returns-clause-quiet
returns-clause-quiet c = λ quiet.
    let room = length c.args.into.now in
    idle_where c.args.self.now room c.due-due.result.event
    (c.due-due.ensures.event ∙ ap (λ (w : ScriptWire). (script_next w room).1) c.is_failing.ensures.kept) quiet

pub returns-clause-hands_out : goal.returns-clause-hands_out
returns-clause-hands_out c =
    let what = c.due-due.result.event in
    let room = length c.args.into.now in
    let counted = c.is_failing.ensures.kept in
    let gone = c.advance.ensures.kept in
    let due : script_due c.is_failing.new.self ≡ script_due c.args.self.now = ap script_due counted in
    record {
      comes = pair_is _ c.due-due.result.moment what
          (c.due-due.ensures.moment_is ∙ ap (λ (w : ScriptWire). (script_next w room).0) counted)
          (c.due-due.ensures.event ∙ ap (λ (w : ScriptWire). (script_next w room).1) counted);
      bytes = c.due-due.ensures.bytes ∙ ap (λ (l : Left). got_bytes what (bytes_left l)) due;
      script = ap (λ (w : ScriptWire). w.script) gone ∙ ap (λ (w : ScriptWire). w.script) counted;
      left = c.advance.ensures.left ∙ ap (behind_event what) (c.due-due.ensures.place ∙ due);
      last = ap (λ (w : ScriptWire). w.moment) gone;
      fails = ap (λ (w : ScriptWire). w.fails) gone ∙ ap (λ (w : ScriptWire). w.fails) counted;
      stalls = λ k len. ap (λ (w : ScriptWire). room_of w k len) gone
          ∙ (c.end_stall.ensures k len ∙ ap (λ (n : ℕ). if is_room k what then len else n) (ap (λ (w : ScriptWire). room_of w k len) counted));
    }
