-- Names of fields that concern the connection alone are told apart by their lengths.
use Rattle.std.{proofs.{Common.{◌≡◌, ◌≢◌, ℕ, Bool, false, List, length, sym, ap, ◌∙◌, arith}, lemmas.{Bool.{false_from_ne_true}, Slice.Eq.{bytes_eq-Decides}}}, specs.Prelude.{codes, bytes_eq}}
use Rattle.http_header.specs.Token.{lowercase}
use Rattle.hc_fields.proofs.Kept.{length-lowercase}
use Rattle.hc_head.specs.Rules.{is_hop_name}

-- a name isn't a word of another length
pub other_length : (name word : List ℕ) → length name ≢ length word → bytes_eq (lowercase name) word ≡ false
other_length name word h =
    false_from_ne_true (bytes_eq (lowercase name) word)
    (λ e. h (sym (length-lowercase name) ∙ ap length ((bytes_eq-Decides (lowercase name) word).0 e)))

pub hop_of_16 : (name : List ℕ) (is : Bool) → length name ≡ 16 → is ≡ bytes_eq (lowercase name) (codes "proxy-connection") → is ≡ is_hop_name (lowercase name)
hop_of_16 name is long reported = search (arith, other_length)
