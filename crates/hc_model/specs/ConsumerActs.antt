-- What an entry tells consumers: at a poll one thing at most, to who polls, and last what it is to wait for.
use Rattle.std.specs.Prelude.{◌≡◌, ℕ, List, [], ◌∷◌, Option, Some, None, is_some, filter}
use Rattle.hc_event.specs.declared.act.Act.{Act}
use Rattle.hc_event.specs.declared.act.Act.TheVariants as act
use Rattle.hc_event.specs.declared.event.Event.{Event}
use Rattle.hc_event.specs.declared.event.Event.TheVariants as event
use Rattle.hc_model.specs.Entries.{History, Contents}

-- the consumer that is told something by an act
abbrev pub recipient : Act → Option ℕ
recipient (act.Shown c r why status fields lo hi) = Some c
recipient (act.Given c x at bytes) = Some c
recipient (act.Ended c) = Some c
recipient (act.Failed c cause) = Some c
recipient (act.Pending c wait) = Some c
recipient _ = None

-- those of these acts that tell a consumer something
abbrev pub consumer_acts : List Act → List Act
consumer_acts acts = filter (λ a. is_some (recipient a)) acts

-- at most one, which tells c
pub data IsOneTo (c : ℕ) : List Act → Type 0 where
  nothing : IsOneTo c []
  one : (a : Act) → recipient a ≡ Some c → IsOneTo c (a ∷ [])

-- nothing comes behind what is to be waited for
abbrev pub WaitsLast : List Act → Type 0
WaitsLast [] = Unit {0}
WaitsLast (act.Pending c wait ∷ acts) = acts ≡ []
WaitsLast (_ ∷ acts) = WaitsLast acts

pub record AnswersOne (c : ℕ) (acts : List Act) : Type 0 where
  pub one : IsOneTo c (consumer_acts acts)
  pub last : WaitsLast acts

-- of an event
abbrev pub AnswersBy : Event → List Act → Type 0
AnswersBy (event.Poll c want) acts = AnswersOne c acts
AnswersBy _ acts = consumer_acts acts ≡ []

-- so of the last entry
abbrev pub AnswersWhoPolls : Contents → History → Type 0
AnswersWhoPolls contents [] = Unit {0}
AnswersWhoPolls contents (e ∷ h) = AnswersBy e.event e.acts
