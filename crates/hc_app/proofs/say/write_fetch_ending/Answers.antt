use Rattle.hc_app.proofs.say.write_fetch_ending.Goals as goal

pub returns-in-Unfinished : goal.returns-in-Unfinished
returns-in-Unfinished c = rw c.in-Unfinished.is c.write_line-in-Unfinished.ensures
