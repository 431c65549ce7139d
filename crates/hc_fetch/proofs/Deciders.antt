-- What the code decides at a head is what is to be decided.
use Rattle.std.{proofs.{Common.{◌≡◌, ◌==◌, arith, Bool, true, false, Option, Some, None, refl, ap, sym, ◌∙◌}, lemmas.Bool.Decides.{nat_tests}}, specs.Prelude.{is_some, if◌then◌else◌}}
use Rattle.hc_fetch.specs.{declared.{ended.FetchEnded.{FetchEnded}, first.First.{First}, plan.FetchPlan.{FetchPlan}}, Deciding.{by_head, by_other, fits}, Firsts.{by_first, first_as}, Heads.{Head, total_of}}
use Rattle.hc_fetch.specs.declared.ended.FetchEnded.TheVariants as ended

pub shown_as : (before : Option Head) → is_some (first_as before) ≡ is_some before
shown_as None = refl
shown_as (Some head) = refl

other_as : (before : Option Head) (head : Head) → by_first (first_as before) head.c head.r ≡ by_other head before
other_as None head = refl
other_as (Some first) head = refl

-- the first consumer is shown neither the whole, nor a part where there is to be one part
pub fits_part : (plan : FetchPlan) (before : Option Head) (head : Head) → head.c ≡ 1 → (head.status ≡ 200 → ⊥) → (plan.parts ≡ 1 → ⊥) →
    is_some (total_of head) ≡ fits plan before head
fits_part plan before head one other several =
    let c_one : (head.c == 1) ≡ true = grind (arith, nat_tests, one) in
    let off : (head.status == 200) ≡ false = grind (arith, nat_tests, other) in
    let more : (plan.parts == 1) ≡ false = grind (arith, nat_tests, several) in
    rw (c_one, off, more) refl

module _ (plan : FetchPlan) (before : Option Head) (head : Head) (first : Option First) (is : first ≡ first_as before) where
  pub decides_other : (fit : Bool) (result : Option FetchEnded) → fit ≡ fits plan before head → fit ≡ true → result ≡ by_first first head.c head.r →
      result ≡ by_head plan before head
  decides_other fit result fit_is fits_it result_is =
      result_is ∙ (ap (λ (q : Option First). by_first q head.c head.r) is ∙ (other_as before head
      ∙ ap (λ (b : Bool). if b then by_other head before else Some (ended.Status head.c head.status)) (sym fits_it ∙ fit_is)))

  pub decides_status : (fit : Bool) → fit ≡ fits plan before head → fit ≡ false → Some (ended.Status head.c head.status) ≡ by_head plan before head
  decides_status fit fit_is off = ap (λ (b : Bool). if b then by_other head before else Some (ended.Status head.c head.status)) (sym off ∙ fit_is)
