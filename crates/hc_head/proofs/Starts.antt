-- What begins a request begins as it does.
use Rattle.std.{proofs.{Common.{◌≡◌, ℕ, ◌+◌, ◌==◌, Bool, true, false, List, [], ◌∷◌, ◌++◌, refl, inl, inr}, lemmas.Bool.{cases_Bool, and_parts}}, specs.Prelude.{◌&&◌, nat_lt}}
use Rattle.http_header.specs.Token.{is_token_byte}
use Rattle.hc_head.specs.Starts.{goes_on_as_method, goes_on_as_request, begins_request}

method_front : (n : ℕ) (xs ys : List ℕ) → goes_on_as_method n (xs ++ ys) ≡ true → goes_on_as_method n xs ≡ true
method_front n [] ys h = refl
method_front n (b ∷ xs) ys h = elim (cases_Bool (b == 32)) [
  | inl hit ↦ (let here = rw hit at h in rw hit here)
  | inr miss ↦ (let all = rw miss at h in
      let parts = and_parts (is_token_byte b && nat_lt n 15) (goes_on_as_method (n + 1) (xs ++ ys)) all in
      rw (miss, parts.0) (method_front (n + 1) xs ys parts.1))
]

request_front : (returned : Bool) (xs ys : List ℕ) → goes_on_as_request returned (xs ++ ys) ≡ true → goes_on_as_request returned xs ≡ true
request_front returned [] ys h = refl
request_front true (b ∷ xs) ys h = elim (cases_Bool (b == 10)) [
  | inl hit ↦ (let rest = rw hit at h in rw hit (request_front false xs ys rest))
  | inr miss ↦ (let never = rw miss at h in rw miss never)
]
request_front false (b ∷ xs) ys h = elim (cases_Bool (b == 10)) [
  | inl hit ↦ (let rest = rw hit at h in rw hit (request_front false xs ys rest))
  | inr miss ↦ elim (cases_Bool (b == 13)) [
    | inl hit ↦ (let rest = rw (miss, hit) at h in rw (miss, hit) (request_front true xs ys rest))
    | inr other ↦ (let rest = rw (miss, other) at h in rw (miss, other) (method_front 0 (b ∷ xs) ys rest))
  ]
]

pub begins_front : (xs ys : List ℕ) → begins_request (xs ++ ys) ≡ true → begins_request xs ≡ true
begins_front xs ys h = request_front false xs ys h
