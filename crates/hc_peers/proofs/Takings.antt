-- What is taken of an answer is what stands next in its connection.
use Rattle.std.proofs.{Common.{◌≡◌, ℕ, List, [], ◌∷◌, Option, Some, None, Ok, refl, inl, inr}, lemmas.Bool.{cases_Bool}}
use Rattle.hc_msg.specs.{declared.message.WirePart.{WirePart}, Inputs.{IsNextPart, next_in, look_of, reported_or, is_in_body, step_of}, Reading.{Reading, Token, move_of}, Taking.{Completes, goes_on}}
use Rattle.hc_msg.specs.declared.message.WirePart.TheVariants as part
use Rattle.hc_peers.specs.{declared.upstream.Upstream.{Upstream}, Origins.{Takes, next_of, read_to, left_behind}}

pub taken-part : (old : Upstream) (used : ℕ) (got : Option WirePart) (t : Reading) → IsNextPart (next_of old) old.input used got t
    → Completes old.reader old.input 16384 used got t → Takes old (read_to t (left_behind got used old.input) old) (Ok got)
taken-part old used None t next done = inr (rw next (refl, refl))
taken-part old used (Some (part.Head response)) t next done = inr (rw next (refl, refl))
taken-part old used (Some (part.Piece bytes)) t next done = inr (rw next (refl, refl))
taken-part old used (Some part.End) t next done = inr (rw (next, done.1) (refl, refl))

reported-alike : (a b : ℕ) (tokens : List Token) (s : Reading) (input : List ℕ) → look_of (next_in a s input) ≡ look_of (next_in b s input)
    → look_of (reported_or tokens s input (λ t. next_in a t input)) ≡ look_of (reported_or tokens s input (λ t. next_in b t input))
reported-alike a b [] s input same = same
reported-alike a b (token ∷ more) s input same = refl

-- what it would come to doesn't rest on how many bytes of a body are taken at most
pub looks-alike : (a b : ℕ) (s : Reading) (input : List ℕ) → look_of (next_in a s input) ≡ look_of (next_in b s input)
unfolding next_in
looks-alike a b s [] = refl
looks-alike a b s (x ∷ input) = elim (cases_Bool (goes_on s)) [
  | inl on ↦ rw on (elim (cases_Bool (is_in_body s)) [
    | inl body ↦ rw body refl
    | inr head ↦ rw head (reported-alike a b (step_of (move_of s x)).tokens (step_of (move_of s x)).next input
        (looks-alike a b (step_of (move_of s x)).next input))
  ])
  | inr off ↦ rw off refl
]
