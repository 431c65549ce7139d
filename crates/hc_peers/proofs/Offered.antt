-- What comes of offering a client what it is owed. The bytes that it took, and what the wire is told behind them, are one
-- change of the wire's log. Where all was taken and the client is to be closed, it leaves; else it stays, and the wire
-- knows whether it is read.
use Rattle.std.proofs.Common.{◌≡◌, ℕ, List, Bool, true, false, Option, Some, None, refl, sym, ap, ◌∙◌}
use Rattle.hc_wire.specs.{Events.{Stage, with_stage, closed_of}, Logs.{Log, Reports, with_closed}}
use Rattle.hc_peers.specs.{declared.{client.Client.{Client}, clients.Clients.{Clients}}, Clients.{client_of, Becomes}, Offering.{IsOffered, IsOfferedTo, sent_more, reading_reported, stage_reported}, Offers.{Offers}, Peers.{is_over, is_idle}}

pub reports-then : (l m n : Option Log) (f g : Log → Log) → Reports l m f → Reports m n g → Reports l n (λ x. g (f x))
reports-then None m n f g first second = let h = rw first at second in h
reports-then (Some x) m n f g first second = let h = rw first at second in h

module _ {W : Type 0} (stages : W → ℕ → Stage) (log : W → Option Log) (k : ℕ) (client : Client) (left : List ℕ) (old new : Clients) (wire mid wire' : W)
    (sent : Offers k client.unsent left (log wire) (log mid)) (same : (j : ℕ) → stages mid j ≡ stages wire j) (was : client_of old k ≡ Some client) where
  abbrev pub after : Client
  after = record client { unsent = left }

  pub more : after ≡ sent_more sent.n client
  more = ap (λ (u : List ℕ). let x : Client = record client { unsent = u } in x) sent.left

  at-row : IsOfferedTo stages log k client old new wire wire' → IsOffered stages log k old new wire wire'
  at-row h = rw was h

  pub offered-over : is_over after ≡ true → Becomes k None old new → Reports (log mid) (log wire') (with_closed k)
      → ((j : ℕ) → stages wire' j ≡ with_stage k (closed_of (stages mid k)) (stages mid) j) → IsOffered stages log k old new wire wire'
  offered-over over gone reported stands =
      let over' : is_over (sent_more sent.n client) ≡ true = ap is_over (sym more) ∙ over in
      at-row (record {
        n = sent.n;
        within = sent.within;
        becomes = rw over' gone;
        reported = rw over' (reports-then (log wire) (log mid) (log wire') _ _ sent.reported reported);
        stands = λ j. rw over' (stands j ∙ rw (same k, same j) refl);
      })

  pub offered-stays : (on : Bool) → is_over after ≡ false → on ≡ is_idle after → Becomes k (Some (record after { reading = on })) old new
      → Reports (log mid) (log wire') (reading_reported k client.reading on)
      → ((j : ℕ) → stages wire' j ≡ stage_reported k client.reading on (stages mid) j) → IsOffered stages log k old new wire wire'
  offered-stays on stays idle becomes reported stands =
      let stays' : is_over (sent_more sent.n client) ≡ false = ap is_over (sym more) ∙ stays in
      let idle' : is_idle (sent_more sent.n client) ≡ on = sym (idle ∙ ap is_idle more) in
      at-row (record {
        n = sent.n;
        within = sent.within;
        becomes = rw (stays', idle') (rw sent.left at becomes);
        reported = rw (stays', idle') (reports-then (log wire) (log mid) (log wire') _ _ sent.reported reported);
        stands = λ j. rw (stays', idle') (stands j ∙ rw (same k, same j) refl);
      })
