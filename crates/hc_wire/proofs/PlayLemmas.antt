-- What comes of a script.
use Rattle.std.proofs.{Common.{◌≡◌, ℕ, List, [], ◌∷◌, refl, sym, ap, ◌∙◌, inl, inr}, lemmas.Bool.{cases_Bool}}
use Rattle.hc_wire.specs.{declared.{event.WireEvent.{WireEvent}, script.ScriptWire.{ScriptWire}, scripted.Scripted.{Scripted}}, Logs.{Taker}, Following.{is_reading, coming_in, coming_by, is_quiet}, Plays.{script_due, script_next, IsIdle}}
use Rattle.hc_wire.specs.declared.event.WireEvent.TheVariants as event

-- whether it is Quiet doesn't hang on the room
quiet_by : (cs : List Taker) (last r q off : ℕ) (s : Scripted) (e : WireEvent) →
    is_quiet (coming_by cs last r off s e).1 ≡ is_quiet (coming_by cs last q off s e).1
quiet_by cs last r q off s (event.Accepted k) = refl
quiet_by cs last r q off s (event.Got k n) = elim (cases_Bool (is_reading cs k)) [
  | inl on ↦ rw on refl
  | inr out ↦ rw out refl
]
quiet_by cs last r q off s (event.Ended k) = refl
quiet_by cs last r q off s (event.Broke k) = refl
quiet_by cs last r q off s (event.Room k) = refl
quiet_by cs last r q off s event.Quiet = refl

quiet_in : (cs : List Taker) (last r q : ℕ) (items : List Scripted) (off : ℕ) →
    is_quiet (coming_in cs last r items off).1 ≡ is_quiet (coming_in cs last q items off).1
quiet_in cs last r q [] off = refl
quiet_in cs last r q (s ∷ rest) off = quiet_by cs last r q off s s.event

-- where what comes is Quiet, nothing else is due
pub idle_where : (w : ScriptWire) (room : ℕ) (e : WireEvent) → e ≡ (script_next w room).1 → e ≡ event.Quiet → IsIdle w
idle_where w room e is quiet =
    let due = script_due w in
    let same : is_quiet (script_next w 1).1 ≡ is_quiet (script_next w room).1 = quiet_in w.connections.items w.moment 1 room due.items due.off in
    let here : is_quiet (script_next w room).1 ≡ is_quiet event.Quiet = ap is_quiet (sym is ∙ quiet) in
    same ∙ here

pub pair_is : (x : ℕ × WireEvent) (a : ℕ) (b : WireEvent) → a ≡ x.0 → b ≡ x.1 → (a, b) ≡ x
pair_is x a b p q =
    let f : ℕ → ℕ × WireEvent = λ m. (m, b) in
    let g : WireEvent → ℕ × WireEvent = λ e. (x.0, e) in
    ap f p ∙ ap g q
