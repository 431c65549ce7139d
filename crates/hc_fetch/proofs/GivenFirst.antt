-- What a consumer was given is gathered.
--
-- By the law that runs read whole each act that gives bytes gives those behind what was given before. So along the acts
-- of an entry what was given, from where the consumer began, is gathered (`acts_cover`); and along the events, since
-- the fetch's own starts give nothing (`given_covered`).
use Rattle.std.{proofs.{Common.{◌≡◌, inl, inr, ℕ, ◌+◌, ◌<◌, ◌≤◌, List, [], ◌∷◌, ◌++◌, length, true, false, refl, ap, sym, ◌∙◌, subst, arith, append_assoc, length-append}, lemmas.Bool.{cases_lt}}, specs.Prelude.{◌==◌, is_some}}
use Rattle.hc_text.proofs.Basics.{bool_cases, eqb-same}
use Rattle.hc_sparse.specs.Cells.{Cells, cells_with}
use Rattle.hc_sparse.proofs.CellLemmas.{inside-cases}
use Rattle.hc_effects.proofs.Vocabulary.{given_in, Act, Limits, Entry, History, no_contents, Shown, shown_in, shown_of, given_of, ReadsAct, ReadsActs, act}
use Rattle.hc_model.specs.Reads.{shown_before, given_before}
use Rattle.hc_effects.proofs.Basics.{append_none}
use Rattle.hc_laws.proofs.ReadWhole.{runs_read_whole}
use Rattle.hc_fetch.specs.{declared.plan.FetchPlan.{FetchPlan}, Fetches.{started, starts_behind, cache_history}, Gathering.{gathered_in, gathered}, Laws.{IsFetchRun}}
use Rattle.hc_fetch.proofs.{Bodies.{run_before, earlier}, Shows.{IsSilent, starts_silent, silent_shows, started_shows}}

-- all of it is gathered
abbrev pub Covered : List Shown → List ℕ → Cells → Type 0
Covered shown given g = (s : Shown) → shown ≡ s ∷ [] → (p : ℕ) → s.lo ≤ p → p < s.lo + length given → is_some (g p) ≡ true

shown_more : (c : ℕ) (xs ys : List Act) → shown_in c (xs ++ ys) ≡ shown_in c xs ++ shown_in c ys
shown_more c [] ys = refl
shown_more c (act.Shown d r why status fields lo hi ∷ xs) ys = elim (bool_cases (d == c)) [
  | inl mine ↦ rw (mine, shown_more c xs ys) refl
  | inr other ↦ rw (other, shown_more c xs ys) refl
]
shown_more c (act.Opened x d need request ∷ xs) ys = shown_more c xs ys
shown_more c (act.Ask x ∷ xs) ys = shown_more c xs ys
shown_more c (act.Close x ∷ xs) ys = shown_more c xs ys
shown_more c (act.Given d x at bytes ∷ xs) ys = shown_more c xs ys
shown_more c (act.Ended d ∷ xs) ys = shown_more c xs ys
shown_more c (act.Failed d cause ∷ xs) ys = shown_more c xs ys
shown_more c (act.Pending d wait ∷ xs) ys = shown_more c xs ys
shown_more c (act.Denied refusal ∷ xs) ys = shown_more c xs ys
shown_more c (act.Lost r kind ∷ xs) ys = shown_more c xs ys
shown_more c (act.Evicted r ∷ xs) ys = shown_more c xs ys

given_more : (c : ℕ) (xs ys : List Act) → given_in c (xs ++ ys) ≡ given_in c xs ++ given_in c ys
given_more c [] ys = refl
given_more c (act.Given d x at bytes ∷ xs) ys = elim (bool_cases (d == c)) [
  | inl mine ↦ rw (mine, given_more c xs ys) (sym (append_assoc bytes (given_in c xs) (given_in c ys)))
  | inr other ↦ rw (other, given_more c xs ys) refl
]
given_more c (act.Opened x d need request ∷ xs) ys = given_more c xs ys
given_more c (act.Ask x ∷ xs) ys = given_more c xs ys
given_more c (act.Close x ∷ xs) ys = given_more c xs ys
given_more c (act.Shown d r why status fields lo hi ∷ xs) ys = given_more c xs ys
given_more c (act.Ended d ∷ xs) ys = given_more c xs ys
given_more c (act.Failed d cause ∷ xs) ys = given_more c xs ys
given_more c (act.Pending d wait ∷ xs) ys = given_more c xs ys
given_more c (act.Denied refusal ∷ xs) ys = given_more c xs ys
given_more c (act.Lost r kind ∷ xs) ys = given_more c xs ys
given_more c (act.Evicted r ∷ xs) ys = given_more c xs ys

-- more is gathered
pub over : (f : Cells) (at x : ℕ) (bytes : List ℕ) (p : ℕ) → is_some (f p) ≡ true → is_some (cells_with at x bytes f p) ≡ true
over f at x bytes p there = elim (inside-cases at (length bytes) p) [
  | inl here ↦ rw here.0 refl
  | inr off ↦ rw off.0 there
]

new : (f : Cells) (at x : ℕ) (bytes : List ℕ) (p : ℕ) → at ≤ p → p < at + length bytes → is_some (cells_with at x bytes f p) ≡ true
new f at x bytes p low high = elim (inside-cases at (length bytes) p) [
  | inl here ↦ rw here.0 refl
  | inr off ↦ absurd (elim off.1 [ inl less ↦ omega arith | inr more ↦ omega arith ])
]

module _ (c : ℕ) (h : History) (now : ℕ) where
  abbrev Is : List Act → Cells → Type 0
  Is before g = Covered (shown_before c h before) (given_before c h before) g

  -- an act that neither shows nor gives anything to it
  quiet : (before : List Act) (a : Act) (g : Cells) → shown_in c (a ∷ []) ≡ [] → given_in c (a ∷ []) ≡ [] → Is before g → Is (before ++ a ∷ []) g
  quiet before a g none nothing is =
      let shown : shown_in c (before ++ a ∷ []) ≡ shown_in c before = shown_more c before (a ∷ []) ∙
      (ap (λ l. shown_in c before ++ l) none ∙ append_none (shown_in c before)) in
      let given : given_in c (before ++ a ∷ []) ≡ given_in c before = given_more c before (a ∷ []) ∙
      (ap (λ l. given_in c before ++ l) nothing ∙ append_none (given_in c before)) in
      rw (shown, given) is

  shows_one : (s z : Shown) → s ∷ [] ≡ z ∷ [] → s ≡ z
  shows_one s z is = cc

  gives_next : (before : List Act) (d x at : ℕ) (bytes : List ℕ) (g : Cells) → d ≡ c → ReadsAct no_contents h now before (act.Given c x at bytes) →
      Is before g → Is (before ++ act.Given d x at bytes ∷ []) (cells_with at x bytes g)
  gives_next before d x at bytes g here reads is s shown p low high =
      let mine : (d == c) ≡ true = rw here (eqb-same c) in
      let same : shown_in c (before ++ act.Given d x at bytes ∷ []) ≡ shown_in c before = shown_more c before (act.Given d x at bytes ∷ []) ∙
      append_none (shown_in c before) in
      let more : given_in c (before ++ act.Given d x at bytes ∷ []) ≡ given_in c before ++ bytes = given_more c before (act.Given d x at bytes ∷ []) ∙
      ap (λ l. given_in c before ++ l) (rw mine (append_none bytes)) in
      let was : shown_before c h before ≡ s ∷ [] = ap (λ l. shown_of c h ++ l) (sym same) ∙ shown in
      let one : reads.0 ≡ s = shows_one reads.0 s (sym reads.1 ∙ was) in
      let place : at ≡ s.lo + length (given_before c h before) = reads.2.at_place ∙ ap (λ (z : Shown). z.lo + length (given_before c h before)) one in
      let count : length (given_of c h ++ given_in c (before ++ act.Given d x at bytes ∷ [])) ≡ length (given_before c h before) + length bytes =
      ap (λ l. length (given_of c h ++ l)) more ∙
      (ap length (sym (append_assoc (given_of c h) (given_in c before) bytes)) ∙ length-append (given_before c h before) bytes) in
      elim (cases_lt p at) [
        | inl less ↦ over g at x bytes p (is s was p low (omega arith))
        | inr past ↦ new g at x bytes p past (omega arith)
      ]

  unshown_then : (before : List Act) (s : Shown) (a : Act) (g : Cells) → shown_before c h before ≡ [] → given_before c h before ≡ [] → shown_in
      c (a ∷ []) ≡ s ∷ [] → given_in c (a ∷ []) ≡ [] → Is (before ++ a ∷ []) g
  unshown_then before s a g none nothing now_is quiet_is z shown p low high =
      let same : given_in c (before ++ a ∷ []) ≡ given_in c before = given_more c before (a ∷ []) ∙
      (ap (λ l. given_in c before ++ l) quiet_is ∙ append_none (given_in c before)) in
      let count : length (given_of c h ++ given_in c (before ++ a ∷ [])) ≡ 0 = ap (λ l. length (given_of c h ++ l)) same ∙ ap length nothing in
      absurd (omega arith)

  gives_other : (before : List Act) (d x at : ℕ) (bytes : List ℕ) (g : Cells) → (d == c) ≡ false → Is before g →
      Is (before ++ act.Given d x at bytes ∷ []) (cells_with at x bytes g)
  gives_other before d x at bytes g other is s shown p low high =
      over g at x bytes p (quiet before (act.Given d x at bytes) g refl (rw other refl) is s shown p low high)

  joined : (before : List Act) (a : Act) (acts : List Act) (g : Cells) → Is ((before ++ a ∷ []) ++ acts) g → Is (before ++ a ∷ acts) g
  joined before a acts g is = subst (λ l. Is l g) (append_assoc before (a ∷ []) acts) is

  acts_cover : (before acts : List Act) (g : Cells) → ReadsActs no_contents h now before acts → Is before g → Is (before ++ acts) (gathered_in acts g)
  acts_cover before [] g reads is = subst (λ l. Is l g) (sym (append_none before)) is
  acts_cover before (act.Given d x at bytes ∷ acts) g reads is =
      joined before (act.Given d x at bytes) acts _
      (acts_cover (before ++ act.Given d x at bytes ∷ []) acts (cells_with at x bytes g) reads.1 (elim (Rattle.hc_effects.proofs.PieceKeeps.eq_cases d c) [
        | inl mine ↦ gives_next before d x at bytes g mine.1 (subst (λ n. ReadsAct no_contents h now before (act.Given n x at bytes)) mine.1 reads.0) is
        | inr other ↦ gives_other before d x at bytes g other.0 is
      ]))
  acts_cover before (act.Shown d r why status fields lo hi ∷ acts) g reads is =
      joined before (act.Shown d r why status fields lo hi) acts _
      (acts_cover (before ++ act.Shown d r why status fields lo hi ∷ []) acts g reads.1 (elim (Rattle.hc_effects.proofs.PieceKeeps.eq_cases d c) [
        | inl mine ↦
            let own = subst (λ n. ReadsAct no_contents h now before (act.Shown n r why status fields lo hi)) mine.1 reads.0 in
            unshown_then before (record { r = r; why = why; lo = lo; hi = hi }) (act.Shown d r why status fields lo hi) g own.0 own.1 (rw mine.0 refl) refl
        | inr other ↦ quiet before (act.Shown d r why status fields lo hi) g (rw other.0 refl) refl is
      ]))
  acts_cover before (act.Opened x d need request ∷ acts) g reads is =
      joined before (act.Opened x d need request) acts _
      (acts_cover (before ++ act.Opened x d need request ∷ []) acts g reads.1 (quiet before (act.Opened x d need request) g refl refl is))
  acts_cover before (act.Ask x ∷ acts) g reads is =
      joined before (act.Ask x) acts _ (acts_cover (before ++ act.Ask x ∷ []) acts g reads.1 (quiet before (act.Ask x) g refl refl is))
  acts_cover before (act.Close x ∷ acts) g reads is =
      joined before (act.Close x) acts _ (acts_cover (before ++ act.Close x ∷ []) acts g reads.1 (quiet before (act.Close x) g refl refl is))
  acts_cover before (act.Ended d ∷ acts) g reads is =
      joined before (act.Ended d) acts _ (acts_cover (before ++ act.Ended d ∷ []) acts g reads.1 (quiet before (act.Ended d) g refl refl is))
  acts_cover before (act.Failed d cause ∷ acts) g reads is =
      joined before (act.Failed d cause) acts _
      (acts_cover (before ++ act.Failed d cause ∷ []) acts g reads.1 (quiet before (act.Failed d cause) g refl refl is))
  acts_cover before (act.Pending d wait ∷ acts) g reads is =
      joined before (act.Pending d wait) acts _
      (acts_cover (before ++ act.Pending d wait ∷ []) acts g reads.1 (quiet before (act.Pending d wait) g refl refl is))
  acts_cover before (act.Denied refusal ∷ acts) g reads is =
      joined before (act.Denied refusal) acts _
      (acts_cover (before ++ act.Denied refusal ∷ []) acts g reads.1 (quiet before (act.Denied refusal) g refl refl is))
  acts_cover before (act.Lost r kind ∷ acts) g reads is =
      joined before (act.Lost r kind) acts _ (acts_cover (before ++ act.Lost r kind ∷ []) acts g reads.1 (quiet before (act.Lost r kind) g refl refl is))
  acts_cover before (act.Evicted r ∷ acts) g reads is =
      joined before (act.Evicted r) acts _ (acts_cover (before ++ act.Evicted r ∷ []) acts g reads.1 (quiet before (act.Evicted r) g refl refl is))

-- OVER THE EVENTS

silent_gives : (c : ℕ) (xs h : History) → IsSilent xs → given_of c (xs ++ h) ≡ given_of c h
silent_gives c [] h silent = refl
silent_gives c (x ∷ xs) h silent =
    ap (λ (acts : List Act). given_of c (xs ++ h) ++ given_in c acts) silent.0 ∙ (append_none (given_of c (xs ++ h)) ∙ silent_gives c xs h silent.1)

pub started_gives : (plan : FetchPlan) (now c : ℕ) (h : History) → given_of c (started plan now h) ≡ given_of c h
started_gives plan now c [] = refl
started_gives plan now c (e ∷ h) = refl

pub shown_step : (plan : FetchPlan) (c : ℕ) (e : Entry) (f : History) →
    shown_of c (cache_history plan (e ∷ f)) ≡ shown_of c (started plan e.now (cache_history plan f)) ++ shown_in c e.acts
shown_step plan c e f = silent_shows c (starts_behind plan f e) (e ∷ started plan e.now (cache_history plan f)) (starts_silent plan f e)

pub given_step : (plan : FetchPlan) (c : ℕ) (e : Entry) (f : History) →
    given_of c (cache_history plan (e ∷ f)) ≡ given_of c (started plan e.now (cache_history plan f)) ++ given_in c e.acts
given_step plan c e f = silent_gives c (starts_behind plan f e) (e ∷ started plan e.now (cache_history plan f)) (starts_silent plan f e)

pub given_covered : (limits : Limits) (plan : FetchPlan) (c : ℕ) (f : History) → IsFetchRun limits plan f →
    Covered (shown_of c (cache_history plan f)) (given_of c (cache_history plan f)) (gathered f)
given_covered limits plan c [] q = λ s shown p low high. absurd (let no : [] ≡ s ∷ [] = shown in cc)
given_covered limits plan c (e ∷ f) q =
    let h = started plan e.now (cache_history plan f) in
    let run = run_before limits (starts_behind plan f e) (e ∷ h) q.run in
    let reads = (runs_read_whole limits no_contents (e ∷ h) q.begins run).acts in
    let so_far = given_covered limits plan c f (earlier limits plan e f q) in
    let was : Covered (shown_of c h) (given_of c h) (gathered f) =
    rw (started_shows plan e.now c (cache_history plan f), started_gives plan e.now c (cache_history plan f)) so_far in
    let first : Covered (shown_of c h ++ []) (given_of c h ++ []) (gathered f) = rw (append_none (shown_of c h), append_none (given_of c h)) was in
    let all = acts_cover c h e.now [] e.acts (gathered f) reads.1 first in
    rw (shown_step plan c e f, given_step plan c e f) all
