-- What a look shows is what stands next.
use Rattle.std.{proofs.{lemmas.Bool.Decides.{nat_tests}, Common.{◌≡◌, ℕ, ◌<◌, Bool, true, false, true≢false, List, [], ◌∷◌, length, refl, sym, subst, arith}}, specs.Prelude.{IfOk, Some, None, Result, Ok, Err}}
use Rattle.hc_head.specs.declared.message.MsgError.{MsgError}
use Rattle.hc_text.specs.declared.memory.NoMemory.{NoMemory}
use Rattle.hc_msg.specs.{declared.{answer.State.{State}, message.{Look.{Look}, Taken.{Taken}, WirePart.{WirePart}}}, Reading.{Reading}, Taking.{reading_by, IsSoundAt, IsKeptAt, goes_on, Takes}, Inputs.{Next, stopped, is_in_body, next_in, IsNextError, IsNextPart, look_of}}
use Rattle.hc_msg.specs.declared.answer.State.TheVariants as state
use Rattle.hc_msg.specs.declared.message.Look.TheVariants as look
use Rattle.hc_msg.proofs.Inputs.{takes_next}

-- BEFORE ANYTHING IS READ

pub empty_looks : (s : Reading) (piece : List ℕ) (shown : Look) → length piece ≡ 0 → shown ≡ look_of (stopped s) → shown ≡ look_of (next_in 1 s piece)
unfolding next_in
empty_looks s [] shown none is = is
empty_looks s (b ∷ piece) shown none is = absurd (omega (arith, none))

pub over_looks : (s : Reading) (piece : List ℕ) (shown : Look) → goes_on s ≡ false → shown ≡ look_of (stopped s) → shown ≡ look_of (next_in 1 s piece)
unfolding next_in
over_looks s [] shown over is = is
over_looks s (b ∷ piece) shown over is = rw over is

pub body_looks : (s : Reading) (piece : List ℕ) → 0 < length piece → goes_on s ≡ true → is_in_body s ≡ true → look.Part ≡ look_of (next_in 1 s piece)
unfolding next_in
body_looks s [] some on inside = absurd (omega arith)
body_looks s (b ∷ piece) some on inside = rw (on, inside) refl

-- what holds of an answer that is read on
pub kept_sound : (nb : Bool) (s : State) (held : List ℕ) → goes_on (reading_by nb s held) ≡ true → IsKeptAt s held → IsSoundAt s held
kept_sound nb state.Done held on h = absurd (true≢false (sym on))
kept_sound nb (state.Failed e) held on h = absurd (true≢false (sym on))
kept_sound nb _ held on h = h

-- BY WHAT A COPY TAKES

pub part_looks : (s copy : Reading) (piece : List ℕ) (taken : Taken WirePart) (p : WirePart) (t : Reading) → copy ≡ s → taken.got ≡ Some p →
    Takes copy piece 1 (Ok taken) t → look.Part ≡ look_of (next_in 1 s piece)
part_looks s copy piece taken p t same is takes =
    let next : IsNextPart (next_in 1 copy piece) piece taken.used taken.got t = takes_next 1 copy piece (Ok taken) t takes in
    grind (arith, nat_tests)

pub none_looks : (s copy : Reading) (piece : List ℕ) (taken : Taken WirePart) (t : Reading) → copy ≡ s → taken.got ≡ None →
    Takes copy piece 1 (Ok taken) t → look.Waits ≡ look_of (next_in 1 s piece)
none_looks s copy piece taken t same is takes =
    let next : IsNextPart (next_in 1 copy piece) piece taken.used taken.got t = takes_next 1 copy piece (Ok taken) t takes in
    grind (arith, nat_tests)

pub error_looks : (s copy : Reading) (piece : List ℕ) (e : MsgError) (t : Reading) (result : Result Look NoMemory) → copy ≡ s → Takes copy piece 1 (Err e) t
    → IfOk result (λ shown. (next : Next) → IsNextError next e → shown ≡ look_of next) → IfOk result (λ shown. shown ≡ look_of (next_in 1 s piece))
error_looks s copy piece e t (Ok shown) same takes h =
    h (next_in 1 s piece) (subst (λ (r : Reading). IsNextError (next_in 1 r piece) e) same (takes_next 1 copy piece (Err e) t takes))
error_looks s copy piece e t (Err refused) same takes h = tt
