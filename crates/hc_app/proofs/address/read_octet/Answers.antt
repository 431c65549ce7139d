use Rattle.std.proofs.Common.{sym}
use Rattle.hc_app.proofs.Addressing.{if_none, never_cut, never_plain, never_more, begins_so}
use Rattle.hc_app.proofs.address.read_octet.Goals as goal

pub returns-in_err-word-clause-none : goal.returns-in_err-word-clause-none
returns-in_err-word-clause-none c = if_none _ _ (never_cut c.args.end c.requires c.args.text.now (sym c.in_err-word.ensures.value))

pub returns-in_err-n-clause-none : goal.returns-in_err-n-clause-none
returns-in_err-n-clause-none c =
    if_none _ _ (never_plain
    c.args.end c.requires c.args.text.now c.in_ok-word.word.now c.in_ok-word.rest.now (sym c.in_ok-word.ensures.value) c.in_err-n.ensures.none)

pub returns-then-n-gt255-clause-none : goal.returns-then-n-gt255-clause-none
returns-then-n-gt255-clause-none c =
    never_more c.args.end c.requires c.args.text.now c.in_ok-word.word.now c.in_ok-word.rest.now c.in_ok-n.n (sym c.in_ok-word.ensures.value)
    c.in_ok-n.ensures.found c.if-n-gt255.true

pub returns-clause-found : goal.returns-clause-found
returns-clause-found c =
    begins_so c.args.end c.requires c.args.text.now c.in_ok-word.word.now c.in_ok-word.rest.now c.in_ok-n.n (sym c.in_ok-word.ensures.value)
    c.in_ok-n.ensures.found c.if-n-gt255.false
