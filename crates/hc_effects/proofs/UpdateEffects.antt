-- What heads do that update what is stored: a 304 that validates it, and a 206 that joins it. And where that is lost.
--
-- What is stored gets the fields of the head (`updated`), and what is lost gets nothing (`past`). So a 304 validates it
-- (`validated`), and a 206 joins it, or only its exchange has the head (`joins`, `joins_past`). Where the write is
-- refused it is lost and let go, and who writes it alone goes on (`loses`). A 304 validates nothing then
-- (`validated_lost`); of a 206 that writer is its own consumer (`joins_alone`, `joins_lost`).
use Rattle.std.{proofs.{lemmas.Bool.Decides.{nat_tests}, Common.{arith, ◌≡◌, inl, inr, ℕ, List, [], ◌∷◌, Bool, true, false, Option, Some, None, refl, ap, sym, ◌∙◌, subst}}, specs.Prelude.{◌&&◌, ◌||◌, ◌==◌, not, nat_eq, if◌then◌else◌, option_map}}
use Rattle.hc_text.proofs.Basics.{and_left, and_true, eqb-same, never_true as not_so, same_some as same_row, some_inj, and_off as then_false}
use Rattle.hc_effects.proofs.Vocabulary.{act, event, case, route, LostKind, Event, Response, HeadCase, HeadView, Limits, head_case, route_of, loses_in, has_loss, loss_acts, case_at, head_view, is_founding, is_updating, is_joining, is_refused, becomes_shared, back_in_line, consumer_after, current, is_number, denial, doomed_by_case, Does, with_event, let_go, with_consumer, with_representation, with_answer, with_refreshed_head, lost_to, as_gone, promise_in, is_reached, cause_by_case, Flaw, NoFlaw, Loses, goes_by_case, Lawful, IsAwaiting, is_written, representation_after, updates, resumes, Tables, Exchange, Representation, Consumer, sends_back, with_item_first, evicted, exclusive, goes_on_with, BoundBy, IsFirst, IsExclusiveWriter}
use Rattle.hc_event.specs.declared.place.Place.TheVariants as place
use Rattle.hc_model.specs.Effects.{with_resumption}
use Rattle.hc_model.specs.Owners as owners
use Rattle.hc_effects.proofs.{Basics.{false_true, true_false}, FoundBy.{CaseBy, case_by, unchanged_founds, validated_selects}, HeadFacts.{waiter, evicts_none, head_does, goes_on, goes_back, goes_it, rows, rows_same, is_it}, HeadFrames.{e, heard, has_as, row_updates, row_loses, spared_as}, KeyRows.{same_number}, LossStands.{joins_again, not_founding}, PieceKeeps.{eq_cases}, PollEffects.{none_waits, same_consumer}, PollKeeps.{current_stays}, SameTables.{is_in, waits_for_any}, Waiters.{unwritten, waits_undue, own_open_is}, Step.{step_of}}
use Rattle.hc_effects.proofs.FoundBy as cases
use Rattle.hc_model.specs.Sound as sound

pub unchanged : {z : HeadView} → CaseBy z case.NotValidated → z.status ≡ 304
unchanged (cases.not_validated way status) = status

module _ (limits : Limits) (t : Tables) (law : Lawful t) (now x : ℕ) (response : Response) (goes : denial t (event.Head x response) ≡ None) (w : Exchange)
    (row : t.exchange x ≡ Some w) (k : Consumer) (asker : t.consumer w.c ≡ Some k) (r : ℕ) (v : Representation) (aim : w.aim ≡ Some r)
    (there : t.representation r ≡ Some v) where
  abbrev ev : Event
  ev = event.Head x response

  spares : (q : ℕ) (u : Representation) → t.representation q ≡ Some u → (false && is_written t u) ≡ false
  spares q u here = refl

  -- another one isn't updated
  other_row : (flaw : Flaw) (xs : List ℕ) (q : ℕ) (u : Representation) → nat_eq r q ≡ false → updates t (e t now x response [] flaw xs) q w u ≡ false
  other_row flaw xs q u other = grind (arith, nat_tests)

  -- UPDATED

  module _ (g : HeadCase) (is : head_case (head_view t false w response) ≡ g) (doomless : doomed_by_case (Some g) w response ≡ None)
      (unfounding : is_founding (Some g) ≡ false) (updating : is_updating (Some g) ≡ true) (unrefused : is_refused (Some g) ≡ false)
      (stays : sends_back (Some g) ≡ false) (fine : cause_by_case (Some g) x ≡ None)
      (tests : (q : ℕ) → goes_by_case t (e t now x response [] NoFlaw []) q (Some g) w ≡ false) where
    shuts : with_item_first (if is_refused (Some g) && not (is_reached (promise_in w response) 0) then Some x else None) [] ≡ []
    shuts = rw unrefused refl

    makes_none : evicted limits t now ev ≡ []
    makes_none = evicts_none limits t law now x response goes w row (ap (λ h. is_founding (Some h)) is ∙ unfounding)

    goes_none : (q : ℕ) (u : Representation) → t.representation q ≡ Some u →
        (goes_by_case t (e t now x response [] NoFlaw []) q (Some g) w || false || false) ≡ is_in [] q
    goes_none q u here = rw (tests q) refl

    is_now : case_at t (e t now x response [] NoFlaw []) ≡ Some g
    is_now = is_it limits t law now x response goes w row k asker NoFlaw g is doomless spares [] makes_none [] shuts

    asks : (q : Consumer) → heard t now x response [] NoFlaw [] w g k ≡ q → consumer_after t (e t now x response [] NoFlaw []) w.c (t.consumer w.c) ≡ Some q
    asks q same = goes_on limits t law now x response goes w row k asker NoFlaw g is doomless spares [] makes_none [] shuts stays fine ∙ ap Some same

    -- what is stored has its fields
    updated : (kept : v.is_lost ≡ false) (joined : Option ℕ) (q : Consumer) → (if is_joining (Some g) then w.aim else w.joined) ≡ joined →
        heard t now x response [] NoFlaw [] w g k ≡ q
        → Does limits t now ev NoFlaw []
        (with_event now ev (with_consumer w.c (Some q)
        (with_answer now x response joined w
        (with_representation r (Some
        (record (with_refreshed_head now response w v) { writer = if is_joining (Some g) && resumes t response w v then Some x else v.writer })) t))))
    updated kept joined q joins same =
        head_does limits t law now x response goes w row k asker NoFlaw g is doomless spares [] makes_none [] shuts [] goes_none t.founded t.used
        (λ m. if r == m then Some z else t.representation m) joined q
        joins (rw unfounding refl) (rw unfounding refl)
        (rows limits t law now x response goes w row k asker NoFlaw g is doomless spares [] makes_none [] shuts [] goes_none r (Some z) here
        (λ m other. rw unfounding refl) (λ m u other at. (other_row NoFlaw [] m u other, refl)))
        (asks q same) (none_waits q.place)
      where
        z : Representation
        z = record (with_refreshed_head now response w v) { writer = if is_joining (Some g) && resumes t response w v then Some x else v.writer }

        on : updates t (e t now x response [] NoFlaw []) r w v ≡ true
        on = rw (is_now, updating, aim, eqb-same r, kept) refl

        here : representation_after t (e t now x response [] NoFlaw []) r (t.representation r) ≡ Some z
        here = row_updates t now x response [] NoFlaw [] w row g is_now r v there on refl
            (goes_it limits t law now x response goes w row k asker NoFlaw g is doomless spares [] makes_none [] shuts [] goes_none r v there)

    -- nothing of what is lost has
    past : v.is_lost ≡ true → heard t now x response [] NoFlaw [] w g k ≡ k → (if is_joining (Some g) then w.aim else w.joined) ≡ Some r →
        Does limits t now ev NoFlaw [] (with_event now ev (with_answer now x response (Some r) w t))
    past lost_it same joins =
        subst (λ (s : Tables). Does limits t now ev NoFlaw [] (with_event now ev s)) (same_consumer t (with_answer now x response (Some r) w t) w.c k asker)
        (head_does limits t law now x response goes w row k asker NoFlaw g is doomless spares [] makes_none [] shuts [] goes_none t.founded t.used
        t.representation (Some r) k
        joins (rw unfounding refl) (rw unfounding refl)
        (rows_same limits t law now x response goes w row k asker NoFlaw g is doomless spares [] makes_none [] shuts [] goes_none unfounding
        (λ m u at. (by_number m u at, refl)))
        (asks k same) (none_waits k.place))
      where
        not_lost : (a b : Bool) (u : Representation) → u.is_lost ≡ true → (a && not (u.is_lost || b)) ≡ false
        not_lost a b u h = then_false a (not (u.is_lost || b)) (rw h refl)

        by_number : (m : ℕ) (u : Representation) → t.representation m ≡ Some u → updates t (e t now x response [] NoFlaw []) m w u ≡ false
        by_number m u at = elim (eq_cases r m) [
          | inr other ↦ other_row NoFlaw [] m u other.0
          | inl same_number ↦ not_lost (is_updating (case_at t (e t now x response [] NoFlaw [])) && is_number w.aim m)
              (loses_in m (e t now x response [] NoFlaw []).acts) u
              (ap (λ (q : Representation). q.is_lost) (same_row (t.representation m) u v at (sym (ap t.representation same_number.1) ∙ there)) ∙ lost_it)
        ]

  -- what is stored is validated: it has the fields of the 304, and its consumer may read it
  pub validated : head_case (head_view t false w response) ≡ case.Validated → Does limits t now ev NoFlaw []
      (with_event now ev (with_consumer w.c (Some (record k { place = place.Passed r (Some x) }))
      (with_answer now x response w.joined w (with_representation r (Some (with_refreshed_head now response w v)) t))))
  validated is = updated case.Validated is refl refl refl refl refl refl (λ q. refl) kept w.joined (record k { place = place.Passed r (Some x) }) refl
      (rw aim refl)
    where
      selected : current t w.request.key ≡ Some r
      selected = same_number (current t w.request.key) w.aim r aim (and_left _ _ (validated_selects (head_view t false w response) is))

      kept : v.is_lost ≡ false
      kept = not_so v.is_lost (λ h. let gone_now : v.is_gone ≡ true = (law.sound.rows r v there).store.lost_is_gone h in
          true_false (sym gone_now ∙ current_stays t w.request.key r v selected there))

  -- JOINED

  -- it is joined, for a first hole or for a later one
  pub data Joins : HeadCase → Type 0 where
    first : Joins case.FirstJoins
    later : Joins case.LaterJoins

  shared_as : (g : HeadCase) → Joins g → (flaw : Flaw) (b : Bool) → not (v.is_lost || has_loss (loss_acts flaw)) ≡ b →
      becomes_shared t (e t now x response [] flaw []) response w (Some g) ≡ (resumes t response w v && b)
  shared_as _ first flaw b is = rw (aim, there, has_as t now x response [] flaw [], is) refl
  shared_as _ later flaw b is = rw (aim, there, has_as t now x response [] flaw [], is) refl

  heard_as : (g : HeadCase) → Joins g → (flaw : Flaw) (b : Bool) → not (v.is_lost || has_loss (loss_acts flaw)) ≡ b →
      heard t now x response [] flaw [] w g k ≡ record k { own = if resumes t response w v && b then None else k.own }
  heard_as _ first flaw b is = ap (λ (s : Bool). record k { own = if s then None else k.own }) (shared_as case.FirstJoins first flaw b is)
  heard_as _ later flaw b is = ap (λ (s : Bool). record k { own = if s then None else k.own }) (shared_as case.LaterJoins later flaw b is)

  -- with its head, and where the exchange brings all that is missing for who wants it whole it is written for several from now on
  pub joins : (g : HeadCase) → Joins g → head_case (head_view t false w response) ≡ g → v.is_lost ≡ false → Does limits t now ev NoFlaw []
      (with_event now ev (with_consumer w.c (Some (record k { own = if resumes t response w v then None else k.own }))
      (with_answer now x response (Some r) w (with_representation r (Some (with_resumption t x response w (with_refreshed_head now response w v))) t))))
  joins g how is kept = by_case g how is
      (heard_as g how NoFlaw true (rw kept refl) ∙ ap (λ (b : Bool). record k { own = if b then None else k.own }) (and_true (resumes t response w v)))
    where
      by_case : (g : HeadCase) → Joins g → head_case (head_view t false w response) ≡ g →
          heard t now x response [] NoFlaw [] w g k ≡ record k { own = if resumes t response w v then None else k.own } → Does limits t now ev NoFlaw []
          (with_event now ev (with_consumer w.c (Some (record k { own = if resumes t response w v then None else k.own }))
          (with_answer now x response (Some r) w (with_representation r (Some (with_resumption t x response w (with_refreshed_head now response w v))) t))))
      by_case _ first is same = updated case.FirstJoins is refl refl refl refl refl refl (λ q. refl) kept (Some r) _ aim same
      by_case _ later is same = updated case.LaterJoins is refl refl refl refl refl refl (λ q. refl) kept (Some r) _ aim same

  -- where it was lost only the exchange has it
  pub joins_past : (g : HeadCase) → Joins g → head_case (head_view t false w response) ≡ g → v.is_lost ≡ true →
      Does limits t now ev NoFlaw [] (with_event now ev (with_answer now x response (Some r) w t))
  joins_past g how is lost_it =
      by_case g how is (heard_as g how NoFlaw false (rw lost_it refl) ∙
      ap (λ (b : Bool). record k { own = if b then None else k.own }) (then_false (resumes t response w v) false refl))
    where
      by_case : (g : HeadCase) → Joins g → head_case (head_view t false w response) ≡ g → heard t now x response [] NoFlaw [] w g k ≡ k →
          Does limits t now ev NoFlaw [] (with_event now ev (with_answer now x response (Some r) w t))
      by_case _ first is same = past case.FirstJoins is refl refl refl refl refl refl (λ q. refl) lost_it same aim
      by_case _ later is same = past case.LaterJoins is refl refl refl refl refl refl (λ q. refl) lost_it same aim

  -- LOST

  module _ (kind : LostKind) (kept : v.is_lost ≡ false) (alone : is_written t v ≡ false) where
    abbrev flaw : Flaw
    flaw = Loses r kind

    spares_it : (q : ℕ) (u : Representation) → t.representation q ≡ Some u → (loses_in q (loss_acts flaw) && is_written t u) ≡ false
    spares_it q u here = grind (arith, nat_tests)

    module _ (g : HeadCase) (is : head_case (head_view t true w response) ≡ g) (doomless : doomed_by_case (Some g) w response ≡ None)
        (unfounding : is_founding (Some g) ≡ false) (unrefused : is_refused (Some g) ≡ false) (makes_none : evicted limits t now ev ≡ [])
        (about : (q : ℕ) → goes_by_case t (e t now x response [] flaw []) q (Some g) w ≡ true → nat_eq r q ≡ true) where
      shuts_none : with_item_first (if is_refused (Some g) && not (is_reached (promise_in w response) 0) then Some x else None) [] ≡ []
      shuts_none = rw unrefused refl

      tests_one : (q : ℕ) (u : Representation) → t.representation q ≡ Some u →
          (goes_by_case t (e t now x response [] flaw []) q (Some g) w || loses_in q (loss_acts flaw) || false) ≡ is_in (r ∷ []) q
      tests_one q u here = grind (arith, nat_tests)

      -- it is lost and let go, and who writes it alone goes on with it
      loses : (joined : Option ℕ) (q : Consumer) → (if is_joining (Some g) then w.aim else w.joined) ≡ joined →
          consumer_after t (e t now x response [] flaw []) w.c (t.consumer w.c) ≡ Some q → waits_for_any (r ∷ []) q.place ≡ false
          → Does limits t now ev flaw (act.Lost r kind ∷ [])
          (with_event now ev (let_go now r
          (with_consumer w.c (Some q) (with_answer now x response joined w (with_representation r (Some (lost_to (exclusive t r v) v)) t)))))
      loses joined q joins_as asks_it unwaiting =
          head_does limits t law now x response goes w row k asker flaw g is doomless spares_it [] makes_none [] shuts_none (r ∷ []) tests_one t.founded
          t.used (λ m. if r == m then Some (lost_to (exclusive t r v) v) else t.representation m) joined q
          joins_as (rw unfounding refl) (rw unfounding refl)
          (rows limits t law now x response goes w row k asker flaw g is doomless spares_it [] makes_none [] shuts_none (r ∷ []) tests_one r
          (Some (lost_to (exclusive t r v) v)) here (λ m other. rw unfounding refl) (λ m u other at. (other_row flaw [] m u other, rw other refl)))
          asks_it unwaiting
        where
          goes_on_alone : goes_on_with t (e t now x response [] flaw []) r v ≡ exclusive t r v
          goes_on_alone = rw (spared_as t now x response [] flaw [] r v (spares_it r v there)) refl

          here : representation_after t (e t now x response [] flaw []) r
              (t.representation r) ≡ (if is_in (r ∷ []) r then option_map as_gone (Some (lost_to (exclusive t r v) v)) else Some (lost_to (exclusive t r v) v))
          here =
              row_loses t now x response [] flaw [] w row g
              (is_it limits t law now x response goes w row k asker flaw g is doomless spares_it [] makes_none [] shuts_none) r v there (exclusive t r v)
              kept (rw (eqb-same r) refl) goes_on_alone
              (goes_it limits t law now x response goes w row k asker flaw g is doomless spares_it [] makes_none [] shuts_none (r ∷ []) tests_one r v
              there ∙ rw (eqb-same r) refl)
              ∙ rw (eqb-same r) refl

    -- a 304 whose update is refused
    pub validated_lost : head_case (head_view t true w response) ≡ case.NotValidated → Does limits t now ev flaw (act.Lost r kind ∷ [])
        (with_event now ev (let_go now r
        (with_consumer w.c (Some (back_in_line now k)) (with_answer now x response w.joined w (with_representation r (Some (lost_to (exclusive t r v) v)) t)))))
    validated_lost is =
        loses case.NotValidated is refl refl refl makes_none about w.joined (back_in_line now k) refl
        (goes_back limits t law now x response goes w row k asker flaw case.NotValidated is refl spares_it [] makes_none [] refl refl) refl
      where
        makes_none : evicted limits t now ev ≡ []
        makes_none = evicts_none limits t law now x response goes w row
            (unchanged_founds (head_view t false w response)
            (unchanged (subst (CaseBy (head_view t true w response)) is (case_by (head_view t true w response)))))

        about : (q : ℕ) → is_number w.aim q ≡ true → nat_eq r q ≡ true
        about q on = rw aim at on

  -- where it was to be joined, nobody else writes it
  module _ (g : HeadCase) (how : Joins g) (lost_now : Bool) (is : head_case (head_view t lost_now w response) ≡ g) where
    by_case : CaseBy (head_view t lost_now w response) g
    by_case = subst (CaseBy (head_view t lost_now w response)) is (case_by (head_view t lost_now w response))

    way : {h : HeadCase} → Joins h → CaseBy (head_view t lost_now w response) h → route_of w.need ≡ route.Hole
    way first (cases.first_joins hole shown on good) = hole
    way later (cases.later_joins hole shown on good) = hole

    -- its consumer is bound to it
    record IsReader : Type 0 where
      lo : ℕ
      hi : Option ℕ
      by : BoundBy
      stands : k.place ≡ place.Bound r lo hi by

    reader : IsReader
    reader = by_await (waiter limits t law now x response goes w row k asker).at
      where
        by_await : IsAwaiting x w k.place → IsReader
        by_await (owners.direct direct stands) = absurd (let no : route.Direct ≡ route.Hole = sym direct ∙ way how by_case in cc)
        by_await (owners.turn turn stands) = absurd (let no : route.Turn ≡ route.Hole = sym turn ∙ way how by_case in cc)
        by_await (owners.hole q lo hi by hole aimed stands) =
            record { lo = lo; hi = hi; by = by; stands = stands ∙ ap (λ z. place.Bound z lo hi by) (some_inj q r (sym aimed ∙ aim)) }

    pub joins_unwritten : is_written t v ≡ false
    joins_unwritten = not_so (is_written t v)
        (λ on. unwritten (step_of limits t now NoFlaw law.sound law.owned ev goes) w.c x k w (waiter limits t law now x response goes w row k asker) r
        reader.lo reader.hi reader.by v v.writer reader.stands there on refl)

    -- its consumer does
    pub joins_alone : v.is_lost ≡ false → exclusive t r v ≡ Some w.c
    joins_alone kept =
        let waits = waits_undue (step_of limits t now NoFlaw law.sound law.owned ev goes) r w.c x reader.lo reader.hi reader.by v k w
        (waiter limits t law now x response goes w row k asker) reader.stands there in
        (law.alone.writes r w.c v k there kept joins_unwritten (is_first waits.1) asker waits.0).1
        (rw (own_open_is (step_of limits t now NoFlaw law.sound law.owned ev goes) w.c x k w (waiter limits t law now x response goes w row k asker)) refl)
      where
        is_first : IsExclusiveWriter t r v w.c → IsFirst t r w.c
        is_first (sound.first same came) = came
        is_first (sound.alone lost_it came) = absurd (false_true (sym kept ∙ lost_it))

  -- what it was to join is lost, and its consumer goes on with it
  pub joins_lost : (g : HeadCase) → Joins g → (kind : LostKind) → v.is_lost ≡ false → head_case (head_view t true w response) ≡ g →
      Does limits t now ev (Loses r kind) (act.Lost r kind ∷ [])
      (with_event now ev (let_go now r (with_answer now x response (Some r) w (with_representation r (Some (lost_to (exclusive t r v) v)) t))))
  joins_lost g how kind kept is =
      subst (λ (s : Tables). Does limits t now ev (Loses r kind) (act.Lost r kind ∷ []) (with_event now ev (let_go now r s)))
      (same_consumer t (with_answer now x response (Some r) w (with_representation r (Some (lost_to (exclusive t r v) v)) t)) w.c k asker)
      (by_joins g how is (heard_as g how (Loses r kind) false (then_true v.is_lost) ∙
      ap (λ (b : Bool). record k { own = if b then None else k.own }) (then_false (resumes t response w v) false refl)))
    where
      then_true : (b : Bool) → not (b || true) ≡ false
      then_true b = grind (arith, nat_tests)

      unwaiting : waits_for_any (r ∷ []) k.place ≡ false
      unwaiting = rw (reader g how true is).stands refl

      off : is_written t v ≡ false
      off = joins_unwritten g how true is

      on_joins : {h : HeadCase} → Joins h → is_joining (Some h) ≡ true
      on_joins first = refl
      on_joins later = refl

      makes_none : evicted limits t now ev ≡ []
      makes_none = evicts_none limits t law now x response goes w row
          (not_founding (head_case (head_view t false w response)) (joins_again t true false w response g (by_case g how true is) (on_joins how)))

      by_joins : (h : HeadCase) → Joins h → head_case (head_view t true w response) ≡ h → heard t now x response [] (Loses r kind) [] w h k ≡ k
          → Does limits t now ev (Loses r kind) (act.Lost r kind ∷ [])
          (with_event now ev (let_go now r
          (with_consumer w.c (Some k) (with_answer now x response (Some r) w (with_representation r (Some (lost_to (exclusive t r v) v)) t)))))
      by_joins _ first at same = loses kind kept off case.FirstJoins at refl refl refl makes_none (λ q on. absurd (false_true on)) (Some r) k aim
          (goes_on limits t law now x response goes w row k asker (Loses r kind) case.FirstJoins at refl (spares_it kind kept off) [] makes_none [] refl
          refl refl ∙ ap Some same) unwaiting
      by_joins _ later at same = loses kind kept off case.LaterJoins at refl refl refl makes_none (λ q on. absurd (false_true on)) (Some r) k aim
          (goes_on limits t law now x response goes w row k asker (Loses r kind) case.LaterJoins at refl (spares_it kind kept off) [] makes_none [] refl
          refl refl ∙ ap Some same) unwaiting
