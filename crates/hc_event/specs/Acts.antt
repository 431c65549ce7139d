-- A list of acts with room for more.
use Rattle.std.specs.Prelude.{ℕ, ◌-◌, List, vec_len, vec_capacity}
use Rattle.hc_event.specs.declared.act.Act.{Act}
use Rattle.hc_event.specs.declared.acts.Acts.{Acts}

-- the acts, in order
abbrev pub act_list : Acts → List Act
act_list a = a.acts.items

-- how many acts surely fit
abbrev pub spare : Acts → ℕ
spare a = vec_capacity a.acts - vec_len a.acts

-- how many acts have room in all
abbrev pub room : Acts → ℕ
room a = vec_capacity a.acts
