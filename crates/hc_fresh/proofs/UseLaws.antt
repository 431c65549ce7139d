-- What a use without validation says of its head and request.
use Rattle.std.{proofs.Common.{◌≡◌, ◌≢◌, ◌⊎◌, ℕ, ◌+◌, ◌-◌, ◌<◌, ◌≤◌, true, false, ltb, Option, Some, None, refl, inl, inr, subst}, specs.Prelude.{IfSome, ◌||◌}}
use Rattle.hc_text.proofs.Basics.{either, leb-le, ltb-le, ltb-lt}
use Rattle.hc_event.specs.declared.{event.{Load.{Load}, Request.{Request}}, act.Why.{Why}}
use Rattle.hc_event.specs.declared.event.Load.TheVariants as load
use Rattle.hc_cachectl.specs.Directives.{of_request, of_response}
use Rattle.hc_record.specs.Head.{Head}
use Rattle.hc_fresh.specs.{Ages.{age}, Allowed.{accepts, is_older, is_skip, is_validate, is_zero, lacks}, Facts.{allowed}, Lifetimes.{lifetime}, Laws.{AcceptsStale, IsRightUse, NeedsNone, UsesAreRight}}

-- what an answer says, where there is one
abbrev IsRight : Head → Request → ℕ → Option Why → Type 0
IsRight head request now None = Unit {0}
IsRight head request now (Some reason) = IsRightUse head request now reason

not_zero : (most : Option ℕ) → is_zero most ≡ false → most ≢ Some 0
not_zero most h e = let z : true ≡ false = rw e at h in absurd (cc)

no_validation : (l : Load) (most : Option ℕ) → (is_validate l || is_zero most) ≡ false → (l ≢ load.Validate) × (most ≢ Some 0)
no_validation load.Validate most h = absurd (cc)
no_validation load.Normal most h = ((λ e. absurd (cc)), not_zero most h)
no_validation load.Bypass most h = ((λ e. absurd (cc)), not_zero most h)
no_validation load.Skip most h = ((λ e. absurd (cc)), not_zero most h)
no_validation load.Only most h = ((λ e. absurd (cc)), not_zero most h)
no_validation load.Disable most h = ((λ e. absurd (cc)), not_zero most h)

skips : (l : Load) → is_skip l ≡ true → l ≡ load.Skip
skips load.Skip h = refl
skips load.Normal h = absurd (cc)
skips load.Validate h = absurd (cc)
skips load.Bypass h = absurd (cc)
skips load.Only h = absurd (cc)
skips load.Disable h = absurd (cc)

young : (a : ℕ) (most : Option ℕ) → is_older a most ≡ false → IfSome most (λ m. a ≤ m)
young a None h = tt
young a (Some n) h = ltb-le n a h

long : (l a : ℕ) (least : Option ℕ) → lacks l a least ≡ false → IfSome least (λ m. a + m ≤ l)
long l a None h = tt
long l a (Some n) h = ltb-le l (a + n) h

accepted : (most : Option (Option ℕ)) (excess : ℕ) → accepts most excess ≡ true → AcceptsStale most excess
accepted None excess h = absurd (cc)
accepted (Some None) excess h = inl refl
accepted (Some (Some n)) excess h = inr (n, refl, leb-le excess n h)

allowed-right : (head : Head) (request : Request) (now : ℕ) → IsRight head request now (allowed head request now)
allowed-right head request now =
    let asked = of_request request.fields in
    let said = of_response head.fields in
    let a = age head now in
    let l = lifetime head in
    let P = IsRight head request now in
    either P (is_validate request.load || is_zero asked.max_age) _ _ (λ _. tt) (λ free.
    either P said.no_cache _ _ (λ _. tt) (λ stored.
    either P (is_older a asked.max_age) _ _ (λ _. tt) (λ not_older.
    either P (lacks l a asked.min_fresh) _ _ (λ _. tt) (λ not_lacking.
    let plain : (request.load ≢ load.Validate) × (asked.max_age ≢ Some 0) = no_validation request.load asked.max_age free in
    let needs : NeedsNone head request now =
    record { loaded = plain.0; asked = plain.1; stored = stored; young = young a asked.max_age not_older; long = long l a asked.min_fresh not_lacking } in
    either P (ltb a l) _ _ (λ below. (needs, refl, refl, ltb-lt a l below)) (λ past.
    either P said.must_revalidate _ _ (λ _. tt) (λ free_of.
    let stale = ltb-le a l past in
    either P (is_skip request.load) _ _
    (λ skip. (needs, refl, refl, stale, record { free = free_of; leave = inl (skips request.load skip) })) (λ _.
    either P (accepts asked.max_stale (a - l)) _ _
    (λ ok. (needs, refl, refl, stale, record { free = free_of; leave = inr (accepted asked.max_stale (a - l) ok) }))
    (λ _. tt))))))))

pub uses-right : UsesAreRight
uses-right head request now reason is = subst (IsRight head request now) is (allowed-right head request now)
