use Rattle.std.proofs.{Common.{◌≡◌, Ok, Err, length, take, refl, arith, rules}, lemmas.List.{take_all}}
use Rattle.hc_head.specs.declared.scan.Sought.TheVariants as sought
use Rattle.hc_msg.proofs.Calls.{begun, not_begun, call_reports, call_fails, call_long, call_open}
use Rattle.hc_msg.proofs.call.Call.take.Goals as goal

pub returns-in_default-clause-takes : goal.returns-in_default-clause-takes
returns-in_default-clause-takes c =
    let call = c.args.self.now in
    not_begun call.scan call.start call.held.items c.as_slice-held.result.now c.args.piece.now c.find_end-found.result c.head_count-count.result
    c.requires.sound.short c.requires.sound.begins
    c.as_slice-held.ensures.value c.find_end-found.ensures c.head_count-count.ensures c.in_default.ensures

pub returns-in_err-request-in-Ok-Ends-clause-takes : goal.returns-in_err-request-in-Ok-Ends-clause-takes
returns-in_err-request-in-Ok-Ends-clause-takes c =
    let call = c.args.self.now in
    let e = c.in_err-request-in-Ok-Ends.field-0.0 in
    let same : c.from_residual.result ≡ Err e = search rules in
    let is : c.find_end-found.result ≡ Ok (sought.Ends c.in-Ok-Ends.n) = search rules in
    let found = rw is at c.find_end-found.ensures in
    let tokens = rw c.as_slice-held.ensures.value at found in
    let begins = rw is at (begun call.start c.in-Some.start call.held.items c.as_slice-held.result.now c.args.piece.now c.find_end-found.result
    c.head_count-count.result c.requires.sound.begins c.as_slice-held.ensures.value c.head_count-count.ensures c.in-Some.ensures) in
    rw same (call_fails call.scan call.held.items c.args.piece.now c.in-Ok-Ends.n e c.whole_head.result tokens.0 tokens.1 begins
    c.whole_head.ensures.called c.in_err-request-in-Ok-Ends.was)

pub returns-in_ok-request-in-Ok-Ends-clause-takes : goal.returns-in_ok-request-in-Ok-Ends-clause-takes
returns-in_ok-request-in-Ok-Ends-clause-takes c =
    let call = c.args.self.now in
    let is : c.find_end-found.result ≡ Ok (sought.Ends c.in-Ok-Ends.n) = search rules in
    let found = rw is at c.find_end-found.ensures in
    let tokens = rw c.as_slice-held.ensures.value at found in
    let none = c.in_ok-request-in-Ok-Ends.ensures.empty in
    let begins = rw is at (begun call.start c.in-Some.start call.held.items c.as_slice-held.result.now c.args.piece.now c.find_end-found.result
    c.head_count-count.result c.requires.sound.begins c.as_slice-held.ensures.value c.head_count-count.ensures c.in-Some.ensures) in (
      tokens.2,
      rw none (call_reports call.scan call.held.items c.args.piece.now c.in-Ok-Ends.n c.in_ok-request-in-Ok-Ends.request c.whole_head.result
          tokens.0 tokens.1 begins c.whole_head.ensures.called c.in_ok-request-in-Ok-Ends.was),
    )

pub returns-in_ok-extend_from_slice-in-Ok-Open-clause-takes : goal.returns-in_ok-extend_from_slice-in-Ok-Open-clause-takes
returns-in_ok-extend_from_slice-in-Ok-Open-clause-takes c =
    let call = c.args.self.now in
    let is : c.find_end-found.result ≡ Ok (sought.Open c.in-Ok-Open.next) = search rules in
    let found = rw is at c.find_end-found.ensures in
    let tokens = rw c.as_slice-held.ensures.value at found in
    let begins = rw is at (begun call.start c.in-Some.start call.held.items c.as_slice-held.result.now c.args.piece.now c.find_end-found.result
    c.head_count-count.result c.requires.sound.begins c.as_slice-held.ensures.value c.head_count-count.ensures c.in-Some.ensures) in
    let all : take (length c.args.piece.now) c.args.piece.now ≡ c.args.piece.now = take_all (length c.args.piece.now) c.args.piece.now (omega arith) in
    let whole = rw all at begins in (
      omega arith,
      (
        refl,
        call_open call.scan c.in-Ok-Open.next call.held.items c.args.piece.now c.extend_from_slice.new.self.items tokens.0 tokens.1 whole
            (search rules),
      ),
    )

pub returns-in-Err-clause-takes : goal.returns-in-Err-clause-takes
returns-in-Err-clause-takes c =
    let call = c.args.self.now in
    let is : c.find_end-found.result ≡ Err c.in-Err.e = search rules in
    let found = rw is at c.find_end-found.ensures in
    let tokens = rw c.as_slice-held.ensures.value at found in
    let begins = rw is at (begun call.start c.in-Some.start call.held.items c.as_slice-held.result.now c.args.piece.now c.find_end-found.result
    c.head_count-count.result c.requires.sound.begins c.as_slice-held.ensures.value c.head_count-count.ensures c.in-Some.ensures) in
    call_long call.scan call.held.items c.args.piece.now c.in-Err.e tokens.0 tokens.1 begins
