-- What an entry opens is asked for by the key of its consumer's start, in every run.
use Rattle.std.{proofs.Common.{◌≡◌, [], ◌∷◌, Bool, true, false, Some, refl, ap, sym, ◌∙◌}, specs.Option.{option_map}}
use Rattle.hc_text.proofs.Basics.{not_some as none_some}
use Rattle.hc_effects.proofs.Vocabulary.{Opening, opening_in, is_denied, Limits, may_begin, Entry, History, Contents, OfHistories, Consumer, IsRun, IsOwed, tables}
use Rattle.hc_model.specs.Keys.{IsOfItsStart, OpensForKey}
use Rattle.hc_laws.proofs.{InRuns.{turned_in_runs}, RepresentationFilters.{runs_are_filtered}, SoundRuns.{runs_are_sound}, TurnOpens.{opened_at}}
use Rattle.hc_effects.proofs.Owed.{denied_opens}

by_denial : (limits : Limits) (contents : Contents) (h : History) (e : Entry) (b : Bool) → is_denied e.acts ≡ b → may_begin limits contents ≡ true →
    IsRun limits contents h → IsOwed limits (tables contents h) e → (o : Opening) → opening_in e.acts ≡ Some o → IsOfItsStart h o
by_denial limits contents h e true denied may run owed o is = absurd (none_some o (sym (denied_opens e.acts denied) ∙ is))
by_denial limits contents h e false accepted may run owed o is =
    let t = tables contents h in
    let opened = opened_at limits t e (record { owed = owed; not_denied = accepted }) (runs_are_sound limits contents h may run)
    (turned_in_runs limits contents h may run).turns o is in
    let started = (runs_are_filtered limits contents h run).consumers.requests o.c in
    record { request = opened.k.request; started = sym started ∙ ap (option_map (λ (k : Consumer). k.request)) opened.row; key_is = opened.same_key }

pub open_keys_in_runs : OfHistories OpensForKey
open_keys_in_runs limits contents [] may run = tt
open_keys_in_runs limits contents (e ∷ h) may run = by_denial limits contents h e (is_denied e.acts) refl may run.0 run.1
