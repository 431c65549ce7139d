use Rattle.std.{proofs.{Common.{◌≡◌, ℕ, false, List, codes, refl, sym, arith, subst, inl, inr}, lemmas.{Bool.{cases_Bool}, Slice.Eq.{bytes_eq-Decides}}}, specs.Prelude.{bytes_eq}}
use Rattle.http_header.specs.Token.{is_token_byte, IsToken}
use Rattle.http_header.proofs.TokenLemmas.{AllPass-from_test}
use Rattle.http.specs.Method.{is_among, safe_methods}
use Rattle.hc_event.proofs.safe.is_safe_by_http.Goals as goal

differs : (m name : List ℕ) → IsToken name → ¬ (IsToken m) → bytes_eq m name ≡ false
differs m name token not =
    elim (cases_Bool (bytes_eq m name)) [
      | inl same ↦ absurd (not (subst IsToken (sym ((bytes_eq-Decides m name).0 same)) token))
      | inr other ↦ other
    ]

no_token : (m : List ℕ) → ¬ (IsToken m) → is_among safe_methods m ≡ false
unfolding is_token_byte
no_token m not =
    rw (
      differs m (codes "GET") (omega arith, AllPass-from_test is_token_byte (codes "GET") refl) not,
      differs m (codes "HEAD") (omega arith, AllPass-from_test is_token_byte (codes "HEAD") refl) not,
      differs m (codes "OPTIONS") (omega arith, AllPass-from_test is_token_byte (codes "OPTIONS") refl) not,
      differs m (codes "TRACE") (omega arith, AllPass-from_test is_token_byte (codes "TRACE") refl) not,
      differs m (codes "QUERY") (omega arith, AllPass-from_test is_token_byte (codes "QUERY") refl) not,
    ) refl

pub returns-in-Err : goal.returns-in-Err
returns-in-Err c =
    sym (no_token c.args.method.now (λ token.
    let ok = c.from_bytes.ensures.no_memory_needed (rw (c.as_slice.ensures.value, c.method.view_is) token)
    (rw c.as_slice.ensures.value (omega (arith, c.method.inside.bytes.ok.0))) in
    cc (sym (rw c.in-Err.is at ok))))
