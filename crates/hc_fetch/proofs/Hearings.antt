-- What is taken of acts, one after another.
--
-- What is taken of one act, and then of the others behind it, is taken of all of them (`takes_then`): what decides
-- first stays, as does what was shown first, and what one act gives is kept over what was there. The loop goes from the
-- first act on, so it keeps that whatever is taken of the acts that are left makes what is taken of all. A head is seen
-- (`takes_shown`), bytes are given (`takes_given`), an end is told (`takes_ended`), and nothing is taken of an act of
-- another kind.
use Rattle.std.{proofs.{Common.{◌≡◌, ℕ, suc, ◌+◌, ◌<◌, ◌≤◌, ◌==◌, get_or, drop, length, List, [], ◌∷◌, Bool, true, false, Option, Some, None, refl, ap, sym, ◌∙◌, subst, arith}, Math.Seq.{drop-cons}, lemmas.{Bool.Decides.{nat_tests}, List.{drop_all}}}, specs.{Prelude.{◌||◌, if◌then◌else◌, is_some, IfSome}, Option.{option_or}}}
use Rattle.hc_text.proofs.Basics.{not_some as none_some, or_false, or_none}
use Rattle.hc_sparse.specs.Cells.{Cells, cells_with}
use Rattle.hc_effects.proofs.Vocabulary.{Act, Why, act}
use Rattle.hc_effects.proofs.Basics.{false_true}
use Rattle.hc_store.specs.declared.backend.Backend.{Ghosts}
use Rattle.hc_fetch.specs.{declared.{ended.FetchEnded.{FetchEnded}, fetching.Fetching.{Fetching}, gathering.Gathered.{Gathered}, plan.FetchPlan.{FetchPlan}}, Ahead.{Fit, KeepsAll, Appends}, Deciding.{IsOwn, by_head, by_heads}, Fetches.{ends_in}, Firsts.{first_as}, Gathering.{gathered_in}, Heads.{Head, heads_in, first_in, total_of}, Hearing.{KeepsOthers, Sees, AllFit, Takes}}
use Rattle.hc_fetch.proofs.{Aheads.{appends_none, appends_more}, Overs.{appends_over}, Shows.{or_assoc}}

or_both : (a b c : Bool) → ((a || b) || c) ≡ (a || (b || c))
or_both true b c = refl
or_both false b c = refl

or_three : (a b c : Option FetchEnded) → option_or (option_or a b) c ≡ option_or a (option_or b c)
or_three None b c = refl
or_three (Some x) b c = refl

pub own_or : (a b : Option FetchEnded) → IfSome a IsOwn → IfSome b IsOwn → IfSome (option_or a b) IsOwn
own_or None b one two = two
own_or (Some by) b one two = one

-- ONE ACT BEFORE OTHERS

decides_cons : (plan : FetchPlan) (first : Option Head) (a : Act) (acts : List Act) → by_heads plan first (heads_in (a ∷ acts))
    ≡ option_or (by_heads plan first (heads_in (a ∷ []))) (by_heads plan (option_or first (first_in (heads_in (a ∷ [])))) (heads_in acts))
decides_cons plan first (act.Shown c r why status fields lo hi) acts =
    let head : Head = record { c = c; r = r; status = status; fields = fields } in
    ap (λ (q : Option FetchEnded). option_or q (by_heads plan (option_or first (first_in (head ∷ []))) (heads_in acts)))
    (sym (or_none (by_head plan first head)))
decides_cons plan first a acts = ap (λ (q : Option Head). by_heads plan q (heads_in acts)) (sym (or_none first))

one_first : (head : Head) (heads : List Head) → first_in (head ∷ heads) ≡ option_or (first_in (head ∷ [])) (first_in heads)
one_first head heads = by_number (head.c == 1)
  where
    by_number : (b : Bool) → (if b then Some head else first_in heads) ≡ option_or (if b then Some head else None) (first_in heads)
    by_number true = refl
    by_number false = refl

first_cons : (a : Act) (acts : List Act) → first_in (heads_in (a ∷ acts)) ≡ option_or (first_in (heads_in (a ∷ []))) (first_in (heads_in acts))
first_cons (act.Shown c r why status fields lo hi) acts = one_first (record { c = c; r = r; status = status; fields = fields }) (heads_in acts)
first_cons a acts = refl

one_ends : (b : Bool) (c : Bool) → (if b then true else c) ≡ ((if b then true else false) || c)
one_ends true c = refl
one_ends false c = refl

ends_cons : (a : Act) (acts : List Act) → ends_in 1 (a ∷ acts) ≡ (ends_in 1 (a ∷ []) || ends_in 1 acts)
ends_cons (act.Ended d) acts = one_ends (d == 1) (ends_in 1 acts)
ends_cons a acts = refl

gathered_cons : (a : Act) (acts : List Act) (g : Cells) → gathered_in (a ∷ acts) g ≡ gathered_in acts (gathered_in (a ∷ []) g)
gathered_cons (act.Given c x at bytes) acts g = refl
gathered_cons a acts g = refl

fit_one : (a : Act) (acts : List Act) (g : Cells) → AllFit (a ∷ acts) g → AllFit (a ∷ []) g
fit_one (act.Given c x at bytes) acts g fit = (fit.0, tt)
fit_one a acts g fit = tt

fit_rest : (a : Act) (acts : List Act) (g : Cells) → AllFit (a ∷ acts) g → AllFit acts (gathered_in (a ∷ []) g)
fit_rest (act.Given c x at bytes) acts g fit = fit.1
fit_rest a acts g fit = fit

pub takes_none : {B : Type 0} {g : Ghosts B} (s : Fetching B g) (text : List ℕ) (was : Option FetchEnded) → Takes s s [] text text was was
takes_none s text was = record {
  others = record { plan = refl; cache = refl; moment = refl; count = refl; decided = refl };
  decides = λ first is. sym (or_none was);
  first = λ first is. is ∙ ap first_as (sym (or_none first));
  stays = λ some. refl;
  ended = sym (or_false s.has_ended);
  keeps = λ g k fit. k;
  text = λ g k fit. appends_none g s.gathered.written text;
}

pub takes_then : {B : Type 0} {g : Ghosts B} (s t u : Fetching B g) (a : Act) (acts : List Act) (one two three : List ℕ) (was by result : Option FetchEnded)
    → Takes s t (a ∷ []) one two None by → Takes t u acts two three (option_or was by) result → Takes s u (a ∷ acts) one three was result
takes_then s t u a acts one two three was by result here rest = record {
  others = record {
    plan = rest.others.plan ∙ here.others.plan;
    cache = rest.others.cache ∙ here.others.cache;
    moment = rest.others.moment ∙ here.others.moment;
    count = rest.others.count ∙ here.others.count;
    decided = rest.others.decided ∙ here.others.decided;
  };
  decides = λ first is. (let behind = option_or first (first_in (heads_in (a ∷ []))) in
      let later : result ≡ option_or (option_or was by) (by_heads s.plan behind (heads_in acts)) =
      rest.decides behind (here.first first is) ∙ ap (λ (p : FetchPlan). option_or (option_or was by) (by_heads p behind (heads_in acts))) here.others.plan in
      let now : by ≡ by_heads s.plan first (heads_in (a ∷ [])) = here.decides first is in
      later
      ∙ (or_three was by (by_heads s.plan behind (heads_in acts))
      ∙ (ap (λ (q : Option FetchEnded). option_or was (option_or q (by_heads s.plan behind (heads_in acts)))) now
      ∙ ap (λ (q : Option FetchEnded). option_or was q) (sym (decides_cons s.plan first a acts)))));
  first = λ first is.
      rest.first (option_or first (first_in (heads_in (a ∷ [])))) (here.first first is)
      ∙ ap first_as (or_assoc first (first_in (heads_in (a ∷ []))) (first_in (heads_in acts)) ∙
      ap (λ (q : Option Head). option_or first q) (sym (first_cons a acts)));
  stays = λ some. (let same = here.stays some in rest.stays (ap is_some same ∙ some) ∙ same);
  ended =
      rest.ended
      ∙ (ap (λ (b : Bool). b || ends_in 1 acts) here.ended
      ∙ (or_both s.has_ended (ends_in 1 (a ∷ [])) (ends_in 1 acts) ∙ ap (λ (b : Bool). s.has_ended || b) (sym (ends_cons a acts))));
  keeps = λ g k fit.
      subst (λ (f : Cells). KeepsAll u.gathered.ahead u.gathered.written f) (sym (gathered_cons a acts g))
      (rest.keeps (gathered_in (a ∷ []) g) (here.keeps g k (fit_one a acts g fit)) (fit_rest a acts g fit));
  text = λ g k fit. (let mid = here.keeps g k (fit_one a acts g fit) in
      let first : Appends (gathered_in acts (gathered_in (a ∷ []) g)) s.gathered.written t.gathered.written one two =
      appends_over acts (gathered_in (a ∷ []) g) s.gathered.written t.gathered.written one two (fit_rest a acts g fit) (here.text g k (fit_one a acts g fit)) in
      let second = rest.text (gathered_in (a ∷ []) g) mid (fit_rest a acts g fit) in
      subst (λ (f : Cells). Appends f s.gathered.written u.gathered.written one three) (sym (gathered_cons a acts g))
      (appends_more (gathered_in acts (gathered_in (a ∷ []) g)) s.gathered.written t.gathered.written u.gathered.written one two three first second));
}

-- the next act before the others
pub next_act : (acts : List Act) (i : ℕ) (a : Act) → i < length acts → a ≡ get_or acts i a → drop i acts ≡ a ∷ drop (i + 1) acts
next_act acts i a under is =
    let next : suc i ≡ i + 1 = omega arith in
    drop-cons acts i a under ∙ (ap (λ (b : Act). b ∷ drop (suc i) acts) (sym is) ∙ ap (λ (k : ℕ). a ∷ drop k acts) next)

pub no_more : (acts : List Act) (i : ℕ) → length acts ≤ i → drop i acts ≡ []
no_more acts i past = drop_all i acts past

-- WHAT ONE ACT DOES

-- nothing of what it gathered changes
same_gathered : {B : Type 0} {g : Ghosts B} (s u : Fetching B g) (f : Cells) → u.gathered ≡ s.gathered → KeepsAll s.gathered.ahead s.gathered.written f →
    KeepsAll u.gathered.ahead u.gathered.written f
same_gathered s u f same k = subst (λ (z : Gathered). KeepsAll z.ahead z.written f) (sym same) k

same_written : {B : Type 0} {g : Ghosts B} (s u : Fetching B g) (f : Cells) (text : List ℕ) → u.gathered ≡ s.gathered → Appends f s.gathered.written u.gathered.written text text
same_written s u f text same = subst (λ (z : Gathered). Appends f s.gathered.written z.written text text) (sym same) (appends_none f s.gathered.written text)

pub takes_shown : {B : Type 0} {g : Ghosts B} (s u : Fetching B g) (c r : ℕ) (why : Why) (status : ℕ) (fields : List (List ℕ × List ℕ)) (lo : ℕ) (hi : Option ℕ) (text : List ℕ)
    (decides : Option FetchEnded)
    → Sees s u (record { c = c; r = r; status = status; fields = fields }) decides →
    Takes s u (act.Shown c r why status fields lo hi ∷ []) text text None decides
takes_shown s u c r why status fields lo hi text decides sees = record {
  others = sees.others;
  decides = λ first is. sees.decides first is ∙ sym (or_none (by_head s.plan first (record { c = c; r = r; status = status; fields = fields })));
  first = sees.first;
  stays = sees.stays;
  ended = sees.ended ∙ sym (or_false s.has_ended);
  keeps = λ g k fit. same_gathered s u g sees.gathered k;
  text = λ g k fit. same_written s u g text sees.gathered;
}

-- an act of another kind
pub data IsOther : Act → Type 0 where
  other : (a : Act) → heads_in (a ∷ []) ≡ [] → ends_in 1 (a ∷ []) ≡ false → ((g : Cells) → gathered_in (a ∷ []) g ≡ g) → IsOther a

pub is_other : (a : Act) →
    ((c r : ℕ) (why : Why) (status : ℕ) (fields : List (List ℕ × List ℕ)) (lo : ℕ) (hi : Option ℕ) → a ≡ act.Shown c r why status fields lo hi → ⊥)
    → ((c x at : ℕ) (bytes : List ℕ) → a ≡ act.Given c x at bytes → ⊥) → ((c : ℕ) → a ≡ act.Ended c → ⊥) → IsOther a
is_other (act.Shown c r why status fields lo hi) shown given ended = absurd (shown c r why status fields lo hi refl)
is_other (act.Given c x at bytes) shown given ended = absurd (given c x at bytes refl)
is_other (act.Ended c) shown given ended = absurd (ended c refl)
is_other a shown given ended = other a refl refl (λ g. refl)

-- A HEAD

-- the first consumer was shown one before, or it is another's
pub sees_same : {B : Type 0} {g : Ghosts B} (s : Fetching B g) (head : Head) (decides : Option FetchEnded) →
    ((first : Option Head) → s.first ≡ first_as first → decides ≡ by_head s.plan first head)
    → (head.c ≡ 1 → s.first ≡ None → ⊥) → Sees s s head decides
sees_same s head decides by seen = record {
  others = record { plan = refl; cache = refl; moment = refl; count = refl; decided = refl };
  ended = refl;
  gathered = refl;
  decides = by;
  first = λ first is. is ∙ same first is (head.c == 1) refl;
  stays = λ some. refl;
}
  where
    same : (first : Option Head) → s.first ≡ first_as first → (b : Bool) → (head.c == 1) ≡ b →
        first_as first ≡ first_as (option_or first (first_in (head ∷ [])))
    same None is true own = absurd (seen (grind (arith, nat_tests, own)) is)
    same None is false off = ap (λ (b : Bool). first_as (if b then Some head else None)) (sym off)
    same (Some first) is b own = refl

-- it is the first consumer's first one
pub sees_new : {B : Type 0} {g : Ghosts B} (s u : Fetching B g) (head : Head) (decides : Option FetchEnded) →
    ((first : Option Head) → s.first ≡ first_as first → decides ≡ by_head s.plan first head)
    → head.c ≡ 1 → s.first ≡ None → u.first ≡ first_as (Some head) → KeepsOthers s u → u.has_ended ≡ s.has_ended → u.gathered ≡ s.gathered →
    Sees s u head decides
sees_new s u head decides by own none first_is others ended gathered = record {
  others = others;
  ended = ended;
  gathered = gathered;
  decides = by;
  first = λ first is. first_is ∙ new first is;
  stays = λ some. absurd (false_true (sym (ap is_some none) ∙ some));
}
  where
    one : (head.c == 1) ≡ true
    one = grind (arith, nat_tests, own)

    new : (first : Option Head) → s.first ≡ first_as first → first_as (Some head) ≡ first_as (option_or first (first_in (head ∷ [])))
    new None is = ap (λ (b : Bool). first_as (if b then Some head else None)) (sym one)
    new (Some first) is = absurd (none_some (record { r = first.r; total = total_of first }) (sym none ∙ is))

-- BYTES, AND AN END

pub takes_given : {B : Type 0} {g : Ghosts B} (s u : Fetching B g) (c x at : ℕ) (bytes before after : List ℕ) → KeepsOthers s u → u.first ≡ s.first → u.has_ended ≡ s.has_ended
    → ((f : Cells) (y : ℕ) → KeepsAll s.gathered.ahead s.gathered.written f → Fit f at bytes →
    KeepsAll u.gathered.ahead u.gathered.written (cells_with at y bytes f))
    → ((f : Cells) (y : ℕ) → KeepsAll s.gathered.ahead s.gathered.written f → Fit f at bytes →
    Appends (cells_with at y bytes f) s.gathered.written u.gathered.written before after)
    → Takes s u (act.Given c x at bytes ∷ []) before after None None
takes_given s u c x at bytes before after others first ended keeps text = record {
  others = others;
  decides = λ head is. refl;
  first = λ head is. first ∙ (is ∙ ap first_as (sym (or_none head)));
  stays = λ some. first;
  ended = ended ∙ sym (or_false s.has_ended);
  keeps = λ g k fit. keeps g x k fit.0;
  text = λ g k fit. text g x k fit.0;
}

if_self : (b : Bool) → b ≡ (if b then true else false)
if_self true = refl
if_self false = refl

pub takes_ended : {B : Type 0} {g : Ghosts B} (s u : Fetching B g) (c : ℕ) (text : List ℕ) → KeepsOthers s u → u.first ≡ s.first → u.gathered ≡ s.gathered →
    u.has_ended ≡ (s.has_ended || (c == 1)) → Takes s u (act.Ended c ∷ []) text text None None
takes_ended s u c text others first gathered ended = record {
  others = others;
  decides = λ head is. refl;
  first = λ head is. first ∙ (is ∙ ap first_as (sym (or_none head)));
  stays = λ some. first;
  ended = ended ∙ ap (λ (b : Bool). s.has_ended || b) (if_self (c == 1));
  keeps = λ g k fit. same_gathered s u g gathered k;
  text = λ g k fit. same_written s u g text gathered;
}
