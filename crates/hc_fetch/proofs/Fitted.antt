-- Where nothing was decided the first consumer was shown the whole, or a part of a known whole. So it is done just
-- where the code says so.
use Rattle.std.{proofs.{Common.{◌≡◌, ℕ, ◌==◌, List, [], ◌∷◌, length, Bool, true, false, Option, Some, None, refl, ap, sym, ◌∙◌, subst, arith}, lemmas.Bool.Decides.{nat_tests}}, specs.{Prelude.{if◌then◌else◌, is_some, is_none, not, ◌&&◌, ◌||◌}, Option.{option_or}}}
use Rattle.hc_text.proofs.Basics.{and_right, not_some as none_some}
use Rattle.hc_effects.proofs.Vocabulary.{History}
use Rattle.hc_effects.proofs.Basics.{false_true}
use Rattle.hc_fetch.specs.declared.ended.FetchEnded.TheVariants as ended
use Rattle.hc_store.specs.declared.backend.Backend.{Ghosts}
use Rattle.hc_fetch.specs.{declared.{fetching.Fetching.{Fetching}, plan.FetchPlan.{FetchPlan}}, Deciding.{by_other, by_head, by_heads, fits, fits_first, decided_by, is_undecided}, Fetches.{ended_with, is_done_by, is_all, has_ended}, Firsts.{first_as, is_done_at, is_done_with}, Gathering.{written_of}, Heads.{Head, heads_in, first_in, first_head, total_of, total_by}, Steps.{StandsForFetch}}
use Rattle.hc_fetch.proofs.Shows.{decides_nothing, no_heads_decide, none_left, none_right, unfit}

-- the first consumer's first head among these is such a one
heads_fit : (plan : FetchPlan) (heads : List Head) (head : Head) → by_heads plan None heads ≡ None → first_in heads ≡ Some head → fits_first plan head ≡ true
heads_fit plan [] head is shown = absurd (none_some head shown)
heads_fit plan (one ∷ heads) head is shown = by_number (heads_fit plan heads head) (one.c == 1) refl
  where
    behind : Bool → Option Head
    behind b = option_or None (if b then Some one else None)

    here : by_head plan None one ≡ None
    here = none_left (by_head plan None one) (by_heads plan (behind (one.c == 1)) heads) is

    rest : by_heads plan (behind (one.c == 1)) heads ≡ None
    rest = none_right (by_head plan None one) (by_heads plan (behind (one.c == 1)) heads) is

    some : (a b : Head) → Some a ≡ Some b → a ≡ b
    some a b is = cc

    by_number : (by_heads plan None heads ≡ None → first_in heads ≡ Some head → fits_first plan head ≡ true) → (b : Bool) → (one.c == 1) ≡ b →
        fits_first plan head ≡ true
    by_number others true own =
        let same : one ≡ head = some one head (ap (λ (b : Bool). if b then Some one else first_in heads) (sym own) ∙ shown) in
        let fit : fits plan None one ≡ true = unfit (fits plan None one) (by_other one None) _ here in
        subst (λ (z : Head). fits_first plan z ≡ true) same (ap (λ (b : Bool). if b then fits_first plan one else false) (sym own) ∙ fit)
    by_number others false off =
        let later : by_heads plan None heads ≡ None = subst (λ (b : Bool). by_heads plan (behind b) heads ≡ None) off rest in
        others later (ap (λ (b : Bool). if b then Some one else first_in heads) (sym off) ∙ shown)

pub first_fits : (plan : FetchPlan) (f : History) (head : Head) → is_undecided plan f ≡ true → first_head f ≡ Some head → fits_first plan head ≡ true
first_fits plan [] head is shown = absurd (none_some head shown)
first_fits plan (e ∷ f) head is shown = by_first (first_fits plan f head) (first_head f) refl
  where
    heads : by_heads plan (first_head f) (heads_in e.acts) ≡ None
    heads = no_heads_decide plan f e.acts (decides_nothing plan e f is)

    by_first : (is_undecided plan f ≡ true → first_head f ≡ Some head → fits_first plan head ≡ true) → (q : Option Head) → first_head f ≡ q →
        fits_first plan head ≡ true
    by_first before None was =
        heads_fit plan (heads_in e.acts) head (ap (λ (q : Option Head). by_heads plan q (heads_in e.acts)) (sym was) ∙ heads)
        (ap (λ (q : Option Head). option_or q (first_in (heads_in e.acts))) (sym was) ∙ shown)
    by_first before (Some first) was =
        before (and_right (is_none (decided_by plan f e.acts)) (is_undecided plan f) is)
        (was ∙ (ap (λ (q : Option Head). option_or q (first_in (heads_in e.acts))) (sym was) ∙ shown))

-- WHETHER IT IS DONE

by_total : (total : Option ℕ) (ended : Bool) (n : ℕ) → is_some total ≡ true → is_done_at total ended n ≡ is_all total n
by_total None ended n some = absurd (false_true some)
by_total (Some total) ended n some = refl

no_whole : (plan : FetchPlan) (total : Bool) → (false || (not (plan.parts == 1) && total)) ≡ true → total ≡ true
no_whole plan total is = and_right (not (plan.parts == 1)) total is

done_head : (plan : FetchPlan) (head : Head) (ended : Bool) (n : ℕ) → fits_first plan head ≡ true → (b : Bool) → (head.status == 200) ≡ b →
    is_done_at (total_of head) ended n ≡ (if b then ended else is_all (total_of head) n)
done_head plan head ended n fit true whole =
    let off : (head.status == 206) ≡ false = grind (arith, nat_tests, whole) in
    ap (λ (b : Bool). is_done_at (if b then total_by (Rattle.hc_rules.specs.RangeTexts.content_range_of head.fields) else None) ended n) off
done_head plan head ended n fit false part =
    by_total (total_of head) ended n
    (no_whole plan (is_some (total_of head)) (ap (λ (b : Bool). b || (not (plan.parts == 1) && is_some (total_of head))) (sym part) ∙ fit))

done_as : (plan : FetchPlan) (f : History) (q : Option Head) (n : ℕ) → first_head f ≡ q → is_undecided plan f ≡ true →
    is_done_with (first_as q) (has_ended 1 f) n ≡ is_done_by q f n
done_as plan f None n shown undecided = refl
done_as plan f (Some head) n shown undecided = done_head plan head (has_ended 1 f) n (first_fits plan f head undecided shown) (head.status == 200) refl

pub done_so : {B : Type 0} {g : Ghosts B} (u : Fetching B g) (f : History) → StandsForFetch u f →
    is_done_with u.first u.has_ended u.gathered.written ≡ is_done_by (first_head f) f (length (written_of f))
done_so u f stand =
    rw (stand.so_far.first, stand.so_far.ended, stand.so_far.heard.written)
    (done_as u.plan f (first_head f) (length (written_of f)) refl stand.so_far.undecided)

pub ended_so : {B : Type 0} {g : Ghosts B} (u : Fetching B g) (f : History) (b : Bool) → StandsForFetch u f → b ≡ is_done_with u.first u.has_ended u.gathered.written
    → (if b then ended.Done u.gathered.written else ended.Unfinished u.gathered.written) ≡ ended_with f
unfolding ended_with
ended_so u f b stand is =
    let count = stand.so_far.heard.written in
    ap (λ (b : Bool). if b then ended.Done u.gathered.written else ended.Unfinished u.gathered.written) (is ∙ done_so u f stand)
    ∙ ap (λ (n : ℕ). if is_done_by (first_head f) f (length (written_of f)) then ended.Done n else ended.Unfinished n) count
