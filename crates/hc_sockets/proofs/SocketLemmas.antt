-- Events of sockets, and the numbers that were handed out.
use Rattle.std.{proofs.Common.{◌≡◌, ℕ, true, false, eqb, Option, None, Some, sym, ap, subst, ◌∙◌}, specs.{Prelude.{if◌then◌else◌}, HashMap.{HashMap}}}
use Rattle.hc_wire.specs.{declared.event.WireEvent.{WireEvent}, Events.{Stage, Unseen, Open, Closed, Fresh, ended_of, IsOpen, IsUnended}}
use Rattle.hc_wire.specs.declared.event.WireEvent.TheVariants as event
use Rattle.hc_sockets.specs.{declared.socket.Socket.{Socket}, Sockets.{lives_after, IsOfLive}}

-- what is live before is live after
pub live-same : (f g : ℕ → Stage) → ((k : ℕ) → g k ≡ f k) → (e : WireEvent) → IsOfLive g e → IsOfLive f e
live-same f g same (event.Accepted k) of = of
live-same f g same (event.Got k n) of = sym (same k) ∙ of
live-same f g same (event.Ended k) of = subst IsUnended (same k) of
live-same f g same (event.Broke k) of = subst IsOpen (same k) of
live-same f g same (event.Room k) of = subst IsOpen (same k) of
live-same f g same event.Quiet of = of

-- an event changes the same wherever the stages are the same
pub after-same : (f g : ℕ → Stage) → ((k : ℕ) → g k ≡ f k) → (o : Option WireEvent) (j : ℕ) → lives_after o g j ≡ lives_after o f j
after-same f g same None j = same j
after-same f g same (Some (event.Accepted k)) j = ap (λ (s : Stage). if eqb j k then Fresh else s) (same j)
after-same f g same (Some (event.Got k n)) j = same j
after-same f g same (Some (event.Ended k)) j =
    ap (λ (s : Stage). if eqb j k then ended_of s else g j) (same k) ∙ ap (λ (s : Stage). if eqb j k then ended_of (f k) else s) (same j)
after-same f g same (Some (event.Broke k)) j = same j
after-same f g same (Some (event.Room k)) j = same j
after-same f g same (Some event.Quiet) j = same j

module _ {S : Type 0} (next : ℕ) (old new : HashMap ℕ Socket S) where
  is_open : (s : Stage) → s ≡ Open true false → IsOpen s
  is_open s is = subst IsOpen (sym is) tt

  unended_open : (s : Stage) → IsUnended s → IsOpen s
  unended_open Unseen is = is
  unended_open (Open reads ended) is = tt
  unended_open Closed is = is
