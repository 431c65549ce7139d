-- What heads do that found: with the turn, and in place of what had a first hole. And where that is lost.
--
-- One lemma is for heads that found (`founding`): what goes beside what makes room, and what becomes of its consumer.
-- Its uses are a 200 with the turn, a 206, and a 200 that replaces what had a first hole (`founds_whole`,
-- `founds_range`, `first_replaced`). Where that is lost nothing is founded, but the same is let go (`losing`);
-- `passes_by_lost` and `first_replaced_lost` are uses of that.
use Rattle.std.{proofs.{lemmas.Bool.Decides.{nat_tests}, Common.{arith, ◌≡◌, inl, inr, ℕ, List, [], ◌∷◌, ◌++◌, Bool, true, false, Option, Some, None, refl, ap, sym, ◌∙◌, subst}}, specs.Prelude.{◌&&◌, ◌||◌, not, nat_eq, if◌then◌else◌, map, option_map}}
use Rattle.hc_text.proofs.Basics.{not_some as none_some, never_true as not_so, and_off as then_false}
use Rattle.hc_effects.proofs.Vocabulary.{act, event, case, by, LostKind, Event, Response, HeadCase, Wanted, Limits, head_case, range_of, wanted_of, head_view, is_founding, case_at, is_updating, is_joining, bound_by_total, bound_to_wanted, current, is_number, denial, Does, with_event, let_all_go, let_some_go, with_consumer, with_answer, with_founding, just_founded, as_gone, promise_in, NoFlaw, Loses, goes_by_case, founded_total, Lawful, is_written, representation_after, Tables, Exchange, Representation, Consumer, with_item_first, to_front, evicted, is_refused, doomed_by_case, is_reached, sends_back, cause_by_case, loses_in, loss_acts}
use Rattle.hc_event.specs.declared.place.Place.TheVariants as place
use Rattle.hc_effects.proofs.{ActParts.{AllPass}, Basics.{append_none, false_true, some_row}, HeadFacts.{new, not_it, head_does, goes_on, rows, is_it, rows_stay}, HeadFrames.{e, row_founds, has_as, heard}, KeyActs.{HasRow, evicted_rows}, PieceKeeps.{eq_cases}, SameTables.{is_in, waits_for_any}, KeysKeep.{current_row}}

-- WHAT GOES

-- there is one that goes beside these
pub adds_one : (o : Option ℕ) (es : List ℕ) (r : ℕ) → (is_number o r || is_in es r) ≡ is_in (with_item_first o es) r
adds_one o es r = grind (arith, nat_tests)

pub all_one : (now : ℕ) (o : Option ℕ) (es : List ℕ) (t : Tables) → let_all_go now (with_item_first o es) t ≡ let_all_go now es (let_some_go now o t)
all_one now o es t = grind (arith, nat_tests)

or_either : (a b : Bool) → (a || false || b) ≡ (a || b)
or_either a b = grind (arith, nat_tests)

two_go : (o p : Option ℕ) (es : List ℕ) (r : ℕ) → ((is_number o r || is_number p r) || false || is_in es r) ≡ is_in (with_item_first o (with_item_first p es)) r
two_go o p es r = grind (arith, nat_tests)

-- what is in a list has what each in it has
all_in : (P : ℕ → Type 0) (r : ℕ) (rs : List ℕ) → AllPass P rs → is_in rs r ≡ true → P r
all_in P r [] all h = absurd (false_true h)
all_in P r (q ∷ rs) all h = elim (eq_cases q r) [
  | inl here ↦ subst P here.1 all.0
  | inr other ↦ all_in P r rs all.1 (rw other.0 at h)
]

bound_waits : (rs : List ℕ) (r x : ℕ) (z : Wanted) → waits_for_any rs (bound_to_wanted r by.Founding (place.Direct x) z) ≡ false
bound_waits rs r x z = grind (arith, nat_tests)

module _ (limits : Limits) (t : Tables) (law : Lawful t) (now x : ℕ) (response : Response) (goes : denial t (event.Head x response) ≡ None) (w : Exchange)
    (row : t.exchange x ≡ Some w) (k : Consumer) (asker : t.consumer w.c ≡ Some k) where
  abbrev ev : Event
  ev = event.Head x response

  -- what makes room
  abbrev es : List ℕ
  es = evicted limits t now ev

  spares : (r : ℕ) (v : Representation) → t.representation r ≡ Some v → (false && is_written t v) ≡ false
  spares r v there = refl

  -- FOUNDED

  -- it isn't among what has a row
  pub room_apart : is_in es x ≡ false
  room_apart = not_so (is_in es x)
      (λ on. let v = all_in (HasRow t) x es (evicted_rows limits t now ev) on in
      none_some v.0 (sym (new limits t law now x response goes w row).unfounded ∙ v.1))

  pub room_one : (o : Option ℕ) (rs : List ℕ) → ((q : ℕ) → o ≡ Some q → HasRow t q) → is_in rs x ≡ false → is_in (with_item_first o rs) x ≡ false
  room_one None rs there apart = apart
  room_one (Some q) rs there apart = elim (eq_cases q x) [
    | inl here ↦ absurd (let v = there q refl in
        none_some v.0 (sym (new limits t law now x response goes w row).unfounded ∙ (ap t.representation (sym here.1) ∙ v.1)))
    | inr other ↦ rw other.0 apart
  ]

  -- what is current has a row
  pub current_there : (q : ℕ) → current t w.request.key ≡ Some q → HasRow t q
  current_there q is = let v = current_row t q w.request.key is in (v.0, v.1)

  abbrev current_and : List ℕ
  current_and = with_item_first (current t w.request.key) es

  current_apart : is_in current_and x ≡ false
  current_apart = room_one (current t w.request.key) es current_there room_apart

  module _ (g : HeadCase) (is : head_case (head_view t false w response) ≡ g) (doomless : doomed_by_case (Some g) w response ≡ None)
      (founds : is_founding (Some g) ≡ true) (unupdating : is_updating (Some g) ≡ false) (unjoining : is_joining (Some g) ≡ false)
      (unrefused : is_refused (Some g) ≡ false) (stays : sends_back (Some g) ≡ false) (fine : cause_by_case (Some g) x ≡ None) where
    open_still : with_item_first (if is_refused (Some g) && not (is_reached (promise_in w response) 0) then Some x else None) [] ≡ []
    open_still = rw unrefused refl

    founding : (rs : List ℕ) (q : Consumer) → is_in rs x ≡ false →
        ((r : ℕ) (v : Representation) → t.representation r ≡ Some v →
        (goes_by_case t (e t now x response es NoFlaw []) r (Some g) w || false || is_in es r) ≡ is_in rs r)
        → heard t now x response es NoFlaw [] w g k ≡ q → waits_for_any rs q.place ≡ false
        → Does limits t now ev NoFlaw (map act.Evicted es)
        (with_event now ev (let_all_go now rs
        (with_consumer w.c (Some q) (with_answer now x response w.joined w (with_founding x (just_founded now x response w) t)))))
    founding rs q apart tests same unwaiting =
        subst (λ acts. Does limits t now ev NoFlaw acts
        (with_event now ev (let_all_go now rs
        (with_consumer w.c (Some q) (with_answer now x response w.joined w (with_founding x (just_founded now x response w) t))))))
        (append_none (map act.Evicted es))
        (head_does limits t law now x response goes w row k asker NoFlaw g is doomless spares es refl [] open_still rs tests (x ∷ t.founded)
        (to_front (Some x) t.used) (with_founding x (just_founded now x response w) t).representation w.joined q
        (rw unjoining refl) (rw founds refl) (rw founds refl)
        (rows limits t law now x response goes w row k asker NoFlaw g is doomless spares es refl [] open_still rs tests x
        (Some (just_founded now x response w)) founded_row (λ r other. then_false (is_founding (Some g)) (nat_eq x r) other)
        (λ r v other there. (rw (is_now, unupdating) refl, refl)))
        (goes_on limits t law now x response goes w row k asker NoFlaw g is doomless spares es refl [] open_still stays fine ∙ ap Some same) unwaiting)
      where
        is_now : case_at t (e t now x response es NoFlaw []) ≡ Some g
        is_now = is_it limits t law now x response goes w row k asker NoFlaw g is doomless spares es refl [] open_still

        founded_row : representation_after t (e t now x response es NoFlaw []) x
            (t.representation x) ≡ (if is_in rs x then option_map as_gone (Some (just_founded now x response w)) else Some (just_founded now x response w))
        founded_row = row_founds t now x response es NoFlaw [] w row g is_now (new limits t law now x response goes w row).unfounded founds ∙ rw apart refl

  -- a 200 founds, and who comes while it is written reads with its consumer
  pub founds_whole : head_case (head_view t false w response) ≡ case.FoundsWhole → Does limits t now ev NoFlaw (map act.Evicted es)
      (with_event now ev (let_all_go now es
      (let_some_go now (current t w.request.key)
      (with_consumer w.c (Some (record k { place = place.Bound x 0 (promise_in w response) by.Founding; own = None }))
      (with_answer now x response w.joined w (with_founding x (just_founded now x response w) t))))))
  founds_whole is = subst (λ (s : Tables). Does limits t now ev NoFlaw (map act.Evicted es) (with_event now ev s)) (all_one now (current t w.request.key) es _)
      (founding case.FoundsWhole is refl refl refl refl refl refl refl current_and
      (record k { place = place.Bound x 0 (promise_in w response) by.Founding; own = None }) current_apart
      (λ r v there. or_either (is_number (current t w.request.key) r) (is_in es r) ∙ adds_one (current t w.request.key) es r) refl refl)

  -- a 206 founds for one that wants a part
  pub founds_range : head_case (head_view t false w response) ≡ case.FoundsRange → Does limits t now ev NoFlaw (map act.Evicted es)
      (with_event now ev (let_all_go now es
      (let_some_go now (current t w.request.key)
      (with_consumer w.c (Some (record k { place = bound_by_total x by.Founding k.request (place.Direct x) (founded_total w response) }))
      (with_answer now x response w.joined w (with_founding x (just_founded now x response w) t))))))
  founds_range is = subst (λ (s : Tables). Does limits t now ev NoFlaw (map act.Evicted es) (with_event now ev s)) (all_one now (current t w.request.key) es _)
      (founding case.FoundsRange is refl refl refl refl refl refl refl current_and
      (record k { place = bound_by_total x by.Founding k.request (place.Direct x) (founded_total w response) }) current_apart
      (λ r v there. or_either (is_number (current t w.request.key) r) (is_in es r) ∙ adds_one (current t w.request.key) es r) refl
      (bound_waits current_and x x (wanted_of (range_of k.request) (founded_total w response))))

  -- and a 200 in place of what had a first hole
  pub first_replaced : head_case (head_view t false w response) ≡ case.FirstReplaced → Does limits t now ev NoFlaw (map act.Evicted es)
      (with_event now ev (let_all_go now es
      (let_some_go now (current t w.request.key)
      (let_some_go now w.aim (with_consumer w.c (Some (record k { place = place.Bound x 0 (promise_in w response) by.Founding; own = None }))
      (with_answer now x response w.joined w (with_founding x (just_founded now x response w) t)))))))
  first_replaced is = subst (λ (s : Tables). Does limits t now ev NoFlaw (map act.Evicted es) (with_event now ev s))
      (all_one now w.aim current_and _ ∙ all_one now (current t w.request.key) es _)
      (founding case.FirstReplaced is refl refl refl refl refl refl refl (with_item_first w.aim current_and)
      (record k { place = place.Bound x 0 (promise_in w response) by.Founding; own = None }) (room_one w.aim current_and aim_there current_apart)
      (λ r v there. two_go w.aim (current t w.request.key) es r) refl refl)
    where
      aim_there : (q : ℕ) → w.aim ≡ Some q → HasRow t q
      aim_there q is = some_row (t.representation q) (law.sound.numbered.names.aims x q w row is)

  -- WHERE IT IS LOST

  module _ (kind : LostKind) where
    spares_all : (r : ℕ) (v : Representation) → t.representation r ≡ Some v → (loses_in r (loss_acts (Loses x kind)) && is_written t v) ≡ false
    spares_all r v there = rw (not_it limits t law now x response goes w row r v there) refl

    unlost : (r : ℕ) (v : Representation) → t.representation r ≡ Some v → loses_in r (loss_acts (Loses x kind)) ≡ false
    unlost r v there = rw (not_it limits t law now x response goes w row r v there) refl

    losing : (g : HeadCase) (is : head_case (head_view t true w response) ≡ g) (doomless : doomed_by_case (Some g) w response ≡ None)
        (unfounding : is_founding (Some g) ≡ false) (unupdating : is_updating (Some g) ≡ false) (unjoining : is_joining (Some g) ≡ false)
        (unrefused : is_refused (Some g) ≡ false) (stays : sends_back (Some g) ≡ false) (fine : cause_by_case (Some g) x ≡ None)
        → (rs : List ℕ) (q : Consumer) →
        ((r : ℕ) (v : Representation) → t.representation r ≡ Some v →
        (goes_by_case t (e t now x response es (Loses x kind) []) r (Some g) w || loses_in r (loss_acts (Loses x kind)) || is_in es r) ≡ is_in rs r)
        → heard t now x response es (Loses x kind) [] w g k ≡ q → waits_for_any rs q.place ≡ false
        → Does limits t now ev (Loses x kind) (map act.Evicted es ++ (act.Lost x kind ∷ []))
        (with_event now ev (let_all_go now rs (with_consumer w.c (Some q) (with_answer now x response w.joined w t))))
    losing g is doomless unfounding unupdating unjoining unrefused stays fine rs q tests same unwaiting =
        head_does limits t law now x response goes w row k asker (Loses x kind) g is doomless spares_all es refl [] shuts rs tests t.founded t.used
        t.representation w.joined q
        (rw unjoining refl) (rw unfounding refl) (rw unfounding refl)
        (rows_stay limits t law now x response goes w row k asker (Loses x kind) g is doomless spares_all es refl [] shuts rs tests unfounding unupdating
        unlost)
        (goes_on limits t law now x response goes w row k asker (Loses x kind) g is doomless spares_all es refl [] shuts stays fine ∙ ap Some same) unwaiting
      where
        shuts : with_item_first (if is_refused (Some g) && not (is_reached (promise_in w response) 0) then Some x else None) [] ≡ []
        shuts = rw unrefused refl

    -- nothing is founded, and what is current is let go all the same
    pub passes_by_lost : head_case (head_view t true w response) ≡ case.PassesBy →
        Does limits t now ev (Loses x kind) (map act.Evicted es ++ (act.Lost x kind ∷ []))
        (with_event now ev (let_all_go now es
        (let_some_go now (current t w.request.key) (with_consumer w.c (Some (record k { place = place.Direct x })) (with_answer now x response w.joined w t)))))
    passes_by_lost is = subst (λ (s : Tables). Does limits t now ev (Loses x kind) (map act.Evicted es ++ (act.Lost x kind ∷ [])) (with_event now ev s))
        (all_one now (current t w.request.key) es _)
        (losing case.PassesBy is refl refl refl refl refl refl refl current_and (record k { place = place.Direct x })
        (λ r v there. rw (unlost r v there) (or_either (is_number (current t w.request.key) r) (is_in es r) ∙ adds_one (current t w.request.key) es r))
        refl refl)

    -- with what had the first hole
    pub first_replaced_lost : head_case (head_view t true w response) ≡ case.FirstPassesBy →
        Does limits t now ev (Loses x kind) (map act.Evicted es ++ (act.Lost x kind ∷ []))
        (with_event now ev (let_all_go now es
        (let_some_go now (current t w.request.key)
        (let_some_go now w.aim (with_consumer w.c (Some (record k { place = place.Direct x })) (with_answer now x response w.joined w t))))))
    first_replaced_lost is =
        subst (λ (s : Tables). Does limits t now ev (Loses x kind) (map act.Evicted es ++ (act.Lost x kind ∷ [])) (with_event now ev s))
        (all_one now w.aim current_and _ ∙ all_one now (current t w.request.key) es _)
        (losing case.FirstPassesBy is refl refl refl refl refl refl refl (with_item_first w.aim current_and) (record k { place = place.Direct x })
        (λ r v there. rw (unlost r v there, has_as t now x response es (Loses x kind) []) (two_go w.aim (current t w.request.key) es r)) refl refl)
