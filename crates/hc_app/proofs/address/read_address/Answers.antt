use Rattle.hc_app.proofs.Addressing.{Never, if_none, off_two, off_three, off_four, off_port}
use Rattle.hc_app.proofs.address.read_address.Goals as goal

pub returns-in_err-two-clause-none : goal.returns-in_err-two-clause-none
returns-in_err-two-clause-none c =
    if_none _ (Never c.args.text.now) (off_two c.args.text.now c.in_ok-one.one c.in_ok-one.text.now c.in_ok-one.ensures.found c.in_err-two.ensures.none)

pub returns-in_err-three-clause-none : goal.returns-in_err-three-clause-none
returns-in_err-three-clause-none c =
    if_none _ (Never c.args.text.now)
    (off_three c.args.text.now c.in_ok-one.one c.in_ok-two.two c.in_ok-one.text.now c.in_ok-two.text.now c.in_ok-one.ensures.found
    c.in_ok-two.ensures.found c.in_err-three.ensures.none)

pub returns-in_err-four-clause-none : goal.returns-in_err-four-clause-none
returns-in_err-four-clause-none c =
    if_none _ (Never c.args.text.now)
    (off_four c.args.text.now c.in_ok-one.one c.in_ok-two.two c.in_ok-three.three c.in_ok-one.text.now c.in_ok-two.text.now c.in_ok-three.text.now
    c.in_ok-one.ensures.found c.in_ok-two.ensures.found c.in_ok-three.ensures.found c.in_err-four.ensures.none)

pub returns-in_err-port-clause-none : goal.returns-in_err-port-clause-none
returns-in_err-port-clause-none c =
    if_none _ (Never c.args.text.now)
    (off_port c.args.text.now c.in_ok-one.one c.in_ok-two.two c.in_ok-three.three c.in_ok-four.four c.in_ok-one.text.now c.in_ok-two.text.now
    c.in_ok-three.text.now c.in_ok-four.text.now
    c.in_ok-one.ensures.found c.in_ok-two.ensures.found c.in_ok-three.ensures.found c.in_ok-four.ensures.found c.in_err-port.ensures.none)
