-- What a head founds is founded, or its answer goes past the store, once what goes with it was let go.
use Rattle.std.{proofs.{lemmas.Bool.Decides.{nat_tests}, Common.{arith, ◌≡◌, ℕ, List, false, Option, Some, ap, ap₂, sym, ◌∙◌}}, specs.Prelude.{◌==◌, if◌then◌else◌, option_map}}
use mathlib.Core.Path.{fun_ext}
use Rattle.hc_effects.proofs.Vocabulary.{Response, as_gone, let_all_go, with_consumer, with_answer, with_founding, Tables, Exchange, Representation, Consumer}
use Rattle.hc_effects.proofs.SameTables.{is_in, waits_for_any, back_from_any, all_go_is}

module _ (now x c : ℕ) (response : Response) (joined : Option ℕ) (w : Exchange) (q : Consumer) (rs : List ℕ) (t : Tables) where
  -- the answer goes past the store
  pub past_last : let_all_go now rs (with_consumer c (Some q) (with_answer now x response joined w t)) ≡ with_answer now x response joined w
      (let_all_go now rs (with_consumer c (Some q) t))
  past_last = all_go_is now rs (with_consumer c (Some q) (with_answer now x response joined w t)) ∙
      sym (ap (with_answer now x response joined w) (all_go_is now rs (with_consumer c (Some q) t)))

  module _ (v : Representation) (past : Consumer) (apart : is_in rs x ≡ false) (unwaiting : waits_for_any rs q.place ≡ false) where
    abbrev founding : Tables → Tables
    founding s = with_consumer c (Some q) (with_answer now x response joined w (with_founding x v s))

    its_consumer : (d : ℕ) →
        option_map (back_from_any now rs)
        (if c == d then Some q else t.consumer d) ≡ (if c == d then Some q else option_map (back_from_any now rs) (if c == d then Some past else t.consumer d))
    its_consumer d = grind (arith, nat_tests)

    its_row : (r : ℕ) → (if is_in rs r then option_map as_gone (if x == r then Some v else t.representation r) else
        (if x == r then Some v else t.representation r)) ≡ (if x == r then Some v else
        (if is_in rs r then option_map as_gone (t.representation r) else t.representation r))
    its_row r = grind (arith, nat_tests)

    -- or it founds, and its consumer reads that
    pub founded_last : let_all_go now rs (founding t) ≡ founding (let_all_go now rs (with_consumer c (Some past) t))
    founded_last =
        all_go_is now rs (founding t)
        ∙ (ap₂ (λ (f : ℕ → Option Representation) (h : ℕ → Option Consumer). record (founding t) { representation = f; consumer = h }) (fun_ext its_row)
        (fun_ext its_consumer)
        ∙ sym (ap founding (all_go_is now rs (with_consumer c (Some past) t))))
