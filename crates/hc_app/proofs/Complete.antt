-- How a run ends over streams that never fail, by its words and its input.
--
-- Streams that never fail count no fault, so status 3 and 4 don't come (`faultless`). What is left says what was owed
-- (`by_owed`). The first word tells what was done (`asked`). What was refused is the text that was left (`refusal_is`),
-- and a text that spells items isn't refused. A text begins with one image at most, which is refused or not
-- (`image_apart`). So the status is the one that is due, or that of want of memory, and the other cases contradict the
-- words or the input.
use Rattle.std.{proofs.{Common.{◌≡◌, ◌⊎◌, ℕ, List, Option, Some, None, [], ◌∷◌, true, false, refl, ap, sym, ◌∙◌, subst, inl, inr, arith}, lemmas.Slice.Eq.{bytes_eq-Decides}}, specs.Prelude.{codes, bytes_eq}}
use Rattle.hc_io.specs.{Faults.{HasRisen}, Source.{Gives}}
use Rattle.hc_sched.specs.{declared.schedule.Refused.{Refused}, Schedule.{Item, Spells}, Reading.{refusal_of}}
use Rattle.hc_sched.proofs.OneReading.{is_read}
use Rattle.hc_driver.specs.Endings as endings
use Rattle.hc_driver.specs.Endings.{Reach, IsRead, IsRefusedIn}
use Rattle.hc_effects.proofs.Basics.{some_none}
use Rattle.hc_contents.specs.Fit.{unfit_of}
use Rattle.hc_contents.specs.declared.unfit.Unfit.TheVariants as unfit
use Rattle.hc_model.specs.Entries.{Contents}
use Rattle.hc_saving.specs.declared.open.OpenEnded.{OpenEnded}
use Rattle.hc_saving.proofs.Opened.{opened_once}
use Rattle.hc_app.specs.{declared.{command.Command.{Command}, status.Status.{Status}}, Commands.{IsCommand, replay, save, reopen, conditional, generate, origin, serve}, Fetching.{IsFetch}, Generating.{generating}, Opening.{IsRefusedImage, IsTaken}, Owing.{Streams, Duty, Quiet, Saying, Does}, Program.{OwesUsage, Keeps, Ends, IsDue, Completes, duty_of}, Replaying.{store_limits}, Statuses.{code_of}}
use Rattle.hc_app.specs.declared.command.Command.TheVariants as command
use Rattle.hc_app.specs.declared.status.Status.TheVariants as status
use Rattle.hc_wire.specs.Logs.{Log}
use Rattle.hc_fetch.specs.declared.plan.FetchPlan.{FetchPlan}
use Rattle.hc_app.specs.Fronting as fronting
use Rattle.hc_app.specs.Generating as generates
use Rattle.hc_app.specs.Opening as opening
use Rattle.hc_app.specs.Owing as owing
use Rattle.hc_app.specs.Program as program
use Rattle.hc_app.specs.Replaying as replaying
use Rattle.hc_app.specs.Saving as saving

-- An ending that neither the input nor the outputs caused by a fault.
abbrev IsFaultless : Status → Type 0
IsFaultless status.SourceFailed = ⊥
IsFaultless status.SinkFailed = ⊥
IsFaultless _ = Unit {0}

faultless : (s : Status) → (code_of s ≡ 3 → ⊥) → (code_of s ≡ 4 → ⊥) → IsFaultless s
faultless status.Done source sink = tt
faultless status.Refused source sink = tt
faultless status.Usage source sink = tt
faultless status.SourceFailed source sink = source refl
faultless status.SinkFailed source sink = sink refl
faultless status.WireFailed source sink = tt
faultless status.NoMemory source sink = tt
faultless status.ImageRefused source sink = tt
faultless status.FetchStopped source sink = tt

-- the exit number is that of this status, or that of want of memory
abbrev EndsWith : Status → Status → Type 0
EndsWith ended due = (code_of ended ≡ code_of due) ⊎ (code_of ended ≡ 6)

-- THE FIRST WORD

abbrev name_of : Command → List ℕ
name_of command.Replay = codes "replay"
name_of (command.Generate seed count) = codes "generate"
name_of (command.Origin listen turns) = codes "origin"
name_of (command.Serve listen from turns) = codes "serve"
name_of command.Save = codes "save"
name_of command.Open = codes "open"
name_of command.Conditional = codes "conditional"

named : (words : List (List ℕ)) (c : Command) → IsCommand words c → (rest : List (List ℕ)) × (words ≡ name_of c ∷ rest)
named words _ (replay is) = ([], is)
named words _ (generate first second seed count is first_is second_is few) = (first ∷ second ∷ [], is)
named words _ (origin first second listen turns is first_is second_is) = (first ∷ second ∷ [], is)
named words _ (serve first second third listen from turns is first_is second_is third_is) = (first ∷ second ∷ third ∷ [], is)
named words _ (save is) = ([], is)
named words _ (reopen is) = ([], is)
named words _ (conditional is) = ([], is)

first_of : (words : List (List ℕ)) (a b : List ℕ) (xs ys : List (List ℕ)) → words ≡ a ∷ xs → words ≡ b ∷ ys → a ≡ b
first_of words a b xs ys one two = let same : a ∷ xs ≡ b ∷ ys = sym one ∙ two in cc

false_true : false ≡ true → ⊥
false_true is = cc

-- WHAT IS REFUSED

refused_here : (moment : ℕ) (given : List ℕ) (rest : Option (List ℕ)) (text : List ℕ) (r : Refused) → Gives (Some given) rest text →
    endings.IsRefused moment text r → refusal_of moment given ≡ Some r
refused_here moment given None text r gives refuses = absurd gives
refused_here moment given (Some rest) text r gives refuses = ap (refusal_of moment) gives ∙ refuses rest

-- what was refused is the text that was given
refusal_is : (moment : ℕ) (given : List ℕ) (rest : Option (List ℕ)) (reach : Reach) (text : List ℕ) (r : Refused) → IsRead reach (Some given) rest text →
    IsRefusedIn moment text r reach → refusal_of moment given ≡ Some r
refusal_is moment given rest _ text r read (endings.within at_once) = refused_here moment given rest text r read at_once.refuses
refusal_is moment given rest _ text r read (endings.at_end unrefused refuses) = ap (refusal_of moment) (sym read.0) ∙ refuses

-- an image is refused or not
image_apart : (text schedule : List ℕ) (contents : Contents) (e : OpenEnded) → IsTaken text contents schedule → IsRefusedImage text e → ⊥
image_apart text schedule contents _ taken (opening.bad_image none) =
    none contents taken.is_opened.image schedule taken.is_opened.is_image taken.is_opened.text_is
image_apart text schedule contents _ taken (opening.bad_content s c i is says) =
    let same = (opened_once text contents c schedule s taken.is_opened is).0 in
    some_none (unfit.BadContent i) (sym says ∙ subst (λ (d : Contents). unfit_of store_limits d ≡ None) same taken.fits)
image_apart text schedule contents _ taken (opening.full s c is says) =
    let same = (opened_once text contents c schedule s taken.is_opened is).0 in
    some_none unfit.Full (sym says ∙ subst (λ (d : Contents). unfit_of store_limits d ≡ None) same taken.fits)

-- a refused line behind an image is that of the schedule behind it
refusal_behind : (text schedule s : List ℕ) (contents c : Contents) (r : Refused) → IsTaken text contents schedule → IsTaken text c s →
    refusal_of c.now s ≡ Some r → refusal_of contents.now schedule ≡ Some r
refusal_behind text schedule s contents c r taken other refused =
    let same = opened_once text contents c schedule s taken.is_opened other.is_opened in
    rw (same.0, same.1) refused

module _ (left : List ℕ) (out diag : Option (List ℕ)) (o d : ℕ) (after : Streams) (wire wire' : Option Log) where
  abbrev start : Streams
  start = record { left = Some left; out = out; diag = diag; out_faults = o; diag_faults = d }

  -- BY WHAT WAS OWED

  by_owed : (duty : Duty) (due : Status)
      → ((reach : Reach) (text report : List ℕ) → IsRead reach (Some left) after.left text → duty.Owes reach text (Quiet report) → EndsWith status.Done due)
      → ((reach : Reach) (text report word : List ℕ) (s : Status) → IsRead reach (Some left) after.left text →
      duty.Owes reach text (Saying report word s) → EndsWith s due)
      → (s : Status) → Does duty start after s → IsFaultless s → EndsWith s due
  by_owed duty due quiet says _ (owing.done reach text report read owes took same) sound = quiet reach text report read owes
  by_owed duty due quiet says _ (owing.said reach text report word s read owes took said) sound = says reach text report word s read owes
  by_owed duty due quiet says _ (owing.unreadable text report gives stops took same) sound = absurd sound
  by_owed duty due quiet says _ (owing.unwritten text report next gives begins took failed) sound = absurd sound
  by_owed duty due quiet says _ (owing.wanting text report next gives begins took same) sound = inr refl
  by_owed duty due quiet says _ (owing.unsaid reach text report word s read owes took said failed) sound = absurd sound
  by_owed duty due quiet says _ (owing.wanting_word reach text report word s read owes took said) sound = inr refl
  by_owed duty due quiet says _ (owing.wanting_all same) sound = inr refl

  -- REPLAYING

  not_refused : (items : List Item) (reach : Reach) (text report word : List ℕ) (s : Status) → Spells 0 left items →
      IsRead reach (Some left) after.left text → replaying.Replays reach text (Saying report word s) → ⊥
  not_refused items _ text report _ _ spells read (replaying.refused reach _ _ r refuses is) =
      some_none r (sym (refusal_is 0 left after.left reach text r read refuses) ∙ (is_read 0 left items spells).0)

  not_spelled : (r : Refused) (reach : Reach) (text report : List ℕ) → refusal_of 0 left ≡ Some r → IsRead reach (Some left) after.left text →
      replaying.Replays reach text (Quiet report) → ⊥
  not_spelled r _ text report refused read (replaying.spelled _ _ items spells is) =
      some_none r (sym refused ∙ (ap (refusal_of 0) (sym read.0) ∙ (is_read 0 text items spells).0))

  says_refused : (reach : Reach) (text report word : List ℕ) (s : Status) → replaying.Replays reach text (Saying report word s) → code_of s ≡ 1
  says_refused _ text report _ _ (replaying.refused reach _ _ r refuses is) = refl

  spelled_replays : (items : List Item) → Spells 0 left items → (s : Status) → Does replaying.replaying start after s → IsFaultless s → EndsWith s status.Done
  spelled_replays items spells =
      by_owed replaying.replaying status.Done (λ reach text report read owes. inl refl)
      (λ reach text report word s read owes. absurd (not_refused items reach text report word s spells read owes))

  refused_replays : (r : Refused) → refusal_of 0 left ≡ Some r → (s : Status) → Does replaying.replaying start after s → IsFaultless s →
      EndsWith s status.Refused
  refused_replays r refused =
      by_owed replaying.replaying status.Refused (λ reach text report read owes. absurd (not_spelled r reach text report refused read owes))
      (λ reach text report word s read owes. inl (says_refused reach text report word s owes))

  -- SAVING

  save_unrefused : (items : List Item) (reach : Reach) (text report word : List ℕ) (s : Status) → Spells 0 left items →
      IsRead reach (Some left) after.left text → saving.Saves reach text (Saying report word s) → ⊥
  save_unrefused items _ text _ _ _ spells read (saving.refused reach _ r refuses) =
      some_none r (sym (refusal_is 0 left after.left reach text r read refuses) ∙ (is_read 0 left items spells).0)

  save_unspelled : (r : Refused) (reach : Reach) (text report : List ℕ) → refusal_of 0 left ≡ Some r → IsRead reach (Some left) after.left text →
      saving.Saves reach text (Quiet report) → ⊥
  save_unspelled r _ text report refused read (saving.spelled _ _ items spells is) =
      some_none r (sym refused ∙ (ap (refusal_of 0) (sym read.0) ∙ (is_read 0 text items spells).0))

  save_says : (reach : Reach) (text report word : List ℕ) (s : Status) → saving.Saves reach text (Saying report word s) → code_of s ≡ 1
  save_says _ text _ _ _ (saving.refused reach _ r refuses) = refl

  spelled_saves : (items : List Item) → Spells 0 left items → (s : Status) → Does saving.saving start after s → IsFaultless s → EndsWith s status.Done
  spelled_saves items spells =
      by_owed saving.saving status.Done (λ reach text report read owes. inl refl)
      (λ reach text report word s read owes. absurd (save_unrefused items reach text report word s spells read owes))

  refused_saves : (r : Refused) → refusal_of 0 left ≡ Some r → (s : Status) → Does saving.saving start after s → IsFaultless s → EndsWith s status.Refused
  refused_saves r refused =
      by_owed saving.saving status.Refused (λ reach text report read owes. absurd (save_unspelled r reach text report refused read owes))
      (λ reach text report word s read owes. inl (save_says reach text report word s owes))

  -- BEHIND A FRONT

  front_unrefused : (items : List Item) (reach : Reach) (text report word : List ℕ) (s : Status) → Spells 0 left items →
      IsRead reach (Some left) after.left text → fronting.Fronts reach text (Saying report word s) → ⊥
  front_unrefused items _ text report _ _ spells read (fronting.refused reach _ _ r refuses is) =
      some_none r (sym (refusal_is 0 left after.left reach text r read refuses) ∙ (is_read 0 left items spells).0)

  front_unspelled : (r : Refused) (reach : Reach) (text report : List ℕ) → refusal_of 0 left ≡ Some r → IsRead reach (Some left) after.left text →
      fronting.Fronts reach text (Quiet report) → ⊥
  front_unspelled r _ text report refused read (fronting.spelled _ _ items spells is) =
      some_none r (sym refused ∙ (ap (refusal_of 0) (sym read.0) ∙ (is_read 0 text items spells).0))

  front_says : (reach : Reach) (text report word : List ℕ) (s : Status) → fronting.Fronts reach text (Saying report word s) → code_of s ≡ 1
  front_says _ text report _ _ (fronting.refused reach _ _ r refuses is) = refl

  spelled_fronts : (items : List Item) → Spells 0 left items → (s : Status) → Does fronting.fronting start after s → IsFaultless s → EndsWith s status.Done
  spelled_fronts items spells =
      by_owed fronting.fronting status.Done (λ reach text report read owes. inl refl)
      (λ reach text report word s read owes. absurd (front_unrefused items reach text report word s spells read owes))

  refused_fronts : (r : Refused) → refusal_of 0 left ≡ Some r → (s : Status) → Does fronting.fronting start after s → IsFaultless s → EndsWith s status.Refused
  refused_fronts r refused =
      by_owed fronting.fronting status.Refused (λ reach text report read owes. absurd (front_unspelled r reach text report refused read owes))
      (λ reach text report word s read owes. inl (front_says reach text report word s owes))

  -- OPENING

  module _ (contents : Contents) (schedule : List ℕ) (taken : IsTaken left contents schedule) where
    taken_at : (text : List ℕ) → text ≡ left → IsTaken text contents schedule
    taken_at text same = subst (λ (l : List ℕ). IsTaken l contents schedule) (sym same) taken

    open_unrefused : (items : List Item) (reach : Reach) (text report word : List ℕ) (s : Status) → Spells contents.now schedule items →
        IsRead reach (Some left) after.left text → opening.Opens reach text (Saying report word s) → ⊥
    open_unrefused items _ text _ _ _ spells read (opening.refused_image _ e why) = image_apart text schedule contents e (taken_at text read.0) why
    open_unrefused items _ text report _ _ spells read (opening.refused _ other part _ c reach rest r is so_far refuses continued) =
        some_none r (sym (refusal_behind text schedule other contents c r (taken_at text read.0) is
        (refusal_is c.now other rest reach part r so_far refuses)) ∙ (is_read contents.now schedule items spells).0)

    open_unspelled : (r : Refused) (reach : Reach) (text report : List ℕ) → refusal_of contents.now schedule ≡ Some r →
        IsRead reach (Some left) after.left text → opening.Opens reach text (Quiet report) → ⊥
    open_unspelled r _ text report refused read (opening.spelled _ other _ c items is spells continued) =
        some_none r (sym (refusal_behind text other schedule c contents r is (taken_at text read.0) refused) ∙ (is_read c.now other items spells).0)

    open_says : (reach : Reach) (text report word : List ℕ) (s : Status) → IsRead reach (Some left) after.left text →
        opening.Opens reach text (Saying report word s) → code_of s ≡ 1
    open_says _ text _ _ _ read (opening.refused_image _ e why) = absurd (image_apart text schedule contents e (taken_at text read.0) why)
    open_says _ text report _ _ read (opening.refused _ other part _ c reach rest r is so_far refuses continued) = refl

    spelled_opens : (items : List Item) → Spells contents.now schedule items → (s : Status) → Does opening.opening start after s → IsFaultless s →
        EndsWith s status.Done
    spelled_opens items spells =
        by_owed opening.opening status.Done (λ reach text report read owes. inl refl)
        (λ reach text report word s read owes. absurd (open_unrefused items reach text report word s spells read owes))

    refused_opens : (r : Refused) → refusal_of contents.now schedule ≡ Some r → (s : Status) → Does opening.opening start after s → IsFaultless s →
        EndsWith s status.Refused
    refused_opens r refused =
        by_owed opening.opening status.Refused (λ reach text report read owes. absurd (open_unspelled r reach text report refused read owes))
        (λ reach text report word s read owes. inl (open_says reach text report word s read owes))

  module _ (e : OpenEnded) (why : IsRefusedImage left e) where
    why_at : (text : List ℕ) → text ≡ left → IsRefusedImage text e
    why_at text same = subst (λ (l : List ℕ). IsRefusedImage l e) (sym same) why

    image_unspelled : (reach : Reach) (text report : List ℕ) → IsRead reach (Some left) after.left text → opening.Opens reach text (Quiet report) → ⊥
    image_unspelled _ text report read (opening.spelled _ other _ c items is spells continued) = image_apart text other c e is (why_at text read.0)

    image_says : (reach : Reach) (text report word : List ℕ) (s : Status) → IsRead reach (Some left) after.left text →
        opening.Opens reach text (Saying report word s) → code_of s ≡ 7
    image_says _ text _ _ _ read (opening.refused_image _ other so) = refl
    image_says _ text report _ _ read (opening.refused _ other part _ c reach rest r is so_far refuses continued) =
        absurd (image_apart text other c e is (why_at text read.0))

    refused_image_opens : (s : Status) → Does opening.opening start after s → IsFaultless s → EndsWith s status.ImageRefused
    refused_image_opens =
        by_owed opening.opening status.ImageRefused (λ reach text report read owes. absurd (image_unspelled reach text report read owes))
        (λ reach text report word s read owes. inl (image_says reach text report word s read owes))

  -- GENERATING, AND THE USAGE

  says_nothing : (seed count : ℕ) (reach : Reach) (text out word : List ℕ) (s : Status) → generates.Generates seed count reach text (Saying out word s) → ⊥
  says_nothing seed count reach text out word s owes = elim owes [ ]

  made : (seed count : ℕ) (s : Status) → Does (generating seed count) start after s → IsFaultless s → EndsWith s status.Done
  made seed count =
      by_owed (generating seed count) status.Done (λ reach text report read owes. inl refl)
      (λ reach text report word s read owes. absurd (says_nothing seed count reach text report word s owes))

  never_quiet : (reach : Reach) (text out : List ℕ) → OwesUsage reach text (Quiet out) → ⊥
  never_quiet reach text out owes = elim owes [ ]

  says_usage : (reach : Reach) (text out word : List ℕ) (s : Status) → OwesUsage reach text (Saying out word s) → code_of s ≡ 2
  says_usage _ _ _ _ _ program.usage_alone = refl

  reported : (s : Status) → Does program.saying_usage start after s → IsFaultless s → EndsWith s status.Usage
  reported =
      by_owed program.saying_usage status.Usage (λ reach text report read owes. absurd (never_quiet reach text report owes))
      (λ reach text report word s read owes. inl (says_usage reach text report word s owes))

  -- BY THE WORDS

  module _ (words : List (List ℕ)) where
    same_name : (a b : Command) → IsCommand words a → IsCommand words b → bytes_eq (name_of a) (name_of b) ≡ true
    same_name a b one two =
        let p = named words a one in
        let q = named words b two in
        (bytes_eq-Decides (name_of a) (name_of b)).1 (first_of words (name_of a) (name_of b) p.0 q.0 p.1 q.1)

    differ : (a b : Command) → bytes_eq (name_of a) (name_of b) ≡ false → IsCommand words a → IsCommand words b → ⊥
    differ a b off one two = false_true (sym off ∙ same_name a b one two)

    -- what was done has the name of what was asked for
    record Asked (c : Command) (s : Status) : Type 0 where
      done : Command
      named_so : bytes_eq (name_of done) (name_of c) ≡ true
      did : Does (duty_of done) start after s

    -- no fetch is a command
    not_fetch : (c : Command) → bytes_eq (name_of c) (codes "fetch") ≡ true → ⊥
    not_fetch command.Replay is = false_true is
    not_fetch (command.Generate seed count) is = false_true is
    not_fetch (command.Origin listen turns) is = false_true is
    not_fetch (command.Serve listen from turns) is = false_true is
    not_fetch command.Save is = false_true is
    not_fetch command.Open is = false_true is
    not_fetch command.Conditional is = false_true is

    fetch_apart : (c : Command) → IsCommand words c → (plan : FetchPlan) → IsFetch words plan → ⊥
    fetch_apart c is plan f =
        let p = named words c is in
        let fetch_is : words ≡ codes "fetch" ∷ f.target ∷ f.first ∷ f.second ∷ [] = f.are ∙
        ap (λ (w : List ℕ). w ∷ f.target ∷ f.first ∷ f.second ∷ []) f.plan_is.word_is in
        not_fetch c ((bytes_eq-Decides (name_of c) (codes "fetch")).1
        (first_of words (name_of c) (codes "fetch") p.0 (f.target ∷ f.first ∷ f.second ∷ []) p.1 fetch_is))

    asked : (s : Status) → (s ≡ status.NoMemory → ⊥) → (c : Command) → bytes_eq (codes "origin") (name_of c) ≡ false →
        bytes_eq (codes "serve") (name_of c) ≡ false → IsCommand words c → Keeps words start after wire wire' s → Asked c s
    asked s off c off_origin off_serve is (program.obeyed done word did same) = record { done = done; named_so = same_name done c word is; did = did }
    asked s off c off_origin off_serve is (program.answered listen turns word did same) = absurd (differ (command.Origin listen turns) c off_origin word is)
    asked s off c off_origin off_serve is (program.served listen from turns word did same) =
        absurd (differ (command.Serve listen from turns) c off_serve word is)
    asked s off c off_origin off_serve is (program.reported none unfetched did same) = absurd (none c is)
    asked s off c off_origin off_serve is (program.fetched plan f did same) = absurd (fetch_apart c is plan f)
    asked _ off c off_origin off_serve is (program.wanting same reported_same) = absurd (off refl)

    did_replay : (c : Command) (s : Status) → bytes_eq (name_of c) (codes "replay") ≡ true → Does (duty_of c) start after s →
        Does replaying.replaying start after s
    did_replay command.Replay s same did = did
    did_replay _ s same did = absurd (false_true same)

    did_save : (c : Command) (s : Status) → bytes_eq (name_of c) (codes "save") ≡ true → Does (duty_of c) start after s → Does saving.saving start after s
    did_save command.Save s same did = did
    did_save _ s same did = absurd (false_true same)

    did_open : (c : Command) (s : Status) → bytes_eq (name_of c) (codes "open") ≡ true → Does (duty_of c) start after s → Does opening.opening start after s
    did_open command.Open s same did = did
    did_open _ s same did = absurd (false_true same)

    did_front : (c : Command) (s : Status) → bytes_eq (name_of c) (codes "conditional") ≡ true → Does (duty_of c) start after s →
        Does fronting.fronting start after s
    did_front command.Conditional s same did = did
    did_front _ s same did = absurd (false_true same)

    did_generate : (c : Command) (s : Status) → bytes_eq (name_of c) (codes "generate") ≡ true → Does (duty_of c) start after s → IsFaultless s →
        EndsWith s status.Done
    did_generate (command.Generate seed count) s same did sound = made seed count s did sound
    did_generate _ s same did sound = absurd (false_true same)

    keeps_some : (s : Status) → (s ≡ status.NoMemory → ⊥) → (due : Status) → IsDue words left due → Keeps words start after wire wire' s → IsFaultless s →
        EndsWith s due
    keeps_some s off _ (program.spelled items is spells) keeps sound = let q = asked s off command.Replay refl refl is keeps in
        spelled_replays items spells s (did_replay q.done s q.named_so q.did) sound
    keeps_some s off _ (program.refused r is refused) keeps sound = let q = asked s off command.Replay refl refl is keeps in
        refused_replays r refused s (did_replay q.done s q.named_so q.did) sound
    keeps_some s off _ (program.generated seed count is) keeps sound = let q = asked s off (command.Generate seed count) refl refl is keeps in
        did_generate q.done s q.named_so q.did sound
    keeps_some s off _ (program.saved items is spells) keeps sound = let q = asked s off command.Save refl refl is keeps in
        spelled_saves items spells s (did_save q.done s q.named_so q.did) sound
    keeps_some s off _ (program.unsaved r is refused) keeps sound = let q = asked s off command.Save refl refl is keeps in
        refused_saves r refused s (did_save q.done s q.named_so q.did) sound
    keeps_some s off _ (program.opened contents schedule items is taken spells) keeps sound =
        let q = asked s off command.Open refl refl is keeps in spelled_opens contents schedule taken items spells s (did_open q.done s q.named_so q.did) sound
    keeps_some s off _ (program.stopped contents schedule r is taken refused) keeps sound =
        let q = asked s off command.Open refl refl is keeps in refused_opens contents schedule taken r refused s (did_open q.done s q.named_so q.did) sound
    keeps_some s off _ (program.no_image e is why) keeps sound = let q = asked s off command.Open refl refl is keeps in
        refused_image_opens e why s (did_open q.done s q.named_so q.did) sound
    keeps_some s off _ (program.fronted items is spells) keeps sound = let q = asked s off command.Conditional refl refl is keeps in
        spelled_fronts items spells s (did_front q.done s q.named_so q.did) sound
    keeps_some s off _ (program.unfronted r is refused) keeps sound = let q = asked s off command.Conditional refl refl is keeps in
        refused_fronts r refused s (did_front q.done s q.named_so q.did) sound
    keeps_some s off _ (program.no_command none unfetched) (program.obeyed word_is word did same) sound = absurd (none word_is word)
    keeps_some s off _ (program.no_command none unfetched) (program.reported other apart did same) sound = reported s did sound
    keeps_some s off _ (program.no_command none unfetched) (program.answered listen turns word did same) sound =
        absurd (none (command.Origin listen turns) word)
    keeps_some s off _ (program.no_command none unfetched) (program.served listen from turns word did same) sound =
        absurd (none (command.Serve listen from turns) word)
    keeps_some s off _ (program.no_command none unfetched) (program.fetched plan f did same) sound = absurd (unfetched plan f)
    keeps_some _ off _ (program.no_command none unfetched) (program.wanting same reported_same) sound = absurd (off refl)

    -- want of memory is free
    keeps_due : (s due : Status) → IsDue words left due → Keeps words start after wire wire' s → IsFaultless s → EndsWith s due
    keeps_due status.NoMemory due is keeps sound = inr refl
    keeps_due status.Done due is keeps sound = keeps_some status.Done (λ same. cc) due is keeps sound
    keeps_due status.Refused due is keeps sound = keeps_some status.Refused (λ same. cc) due is keeps sound
    keeps_due status.Usage due is keeps sound = keeps_some status.Usage (λ same. cc) due is keeps sound
    keeps_due status.SourceFailed due is keeps sound = absurd sound
    keeps_due status.SinkFailed due is keeps sound = absurd sound
    keeps_due status.WireFailed due is keeps sound = keeps_some status.WireFailed (λ same. cc) due is keeps sound
    keeps_due status.ImageRefused due is keeps sound = keeps_some status.ImageRefused (λ same. cc) due is keeps sound
    keeps_due status.FetchStopped due is keeps sound = keeps_some status.FetchStopped (λ same. cc) due is keeps sound

    pub completes : (code : ℕ) → Ends code words start after wire wire' → (code ≡ 3 → HasRisen 0 0) → (code ≡ 4 → HasRisen 0 0 ⊎ HasRisen 0 0) →
        Completes code words left
    completes code ends source sink due is =
        by_code (keeps_due ends.ended due is ends.keeps
        (faultless ends.ended (λ three. never (source (ends.code_is ∙ three))) (λ four. neither (sink (ends.code_is ∙ four)))))
      where
        never : HasRisen 0 0 → ⊥
        never (inl lt) = omega (arith, lt)
        never (inr is) = omega (arith, is)

        neither : HasRisen 0 0 ⊎ HasRisen 0 0 → ⊥
        neither (inl one) = never one
        neither (inr other) = never other

        by_code : EndsWith ends.ended due → (code ≡ code_of due) ⊎ (code ≡ 6)
        by_code (inl is) = inl (ends.code_is ∙ is)
        by_code (inr is) = inr (ends.code_is ∙ is)
