-- What the text of a head comes to.
use Rattle.std.{proofs.{Common.{◌≡◌, ℕ, ◌<◌, ◌≤◌, Bool, List, [], ◌++◌, length, drop, length-drop, refl, sym, ap, ◌∙◌, inl, inr, arith}, lemmas.List.{drop_all, append-nil}}, specs.Prelude.{Result, Err}}
use Rattle.httparse.specs.Grammar.{ResponseHead, ReadsResponse, status_code}
use Rattle.httparse.proofs.GrammarLemmas.{response_unique}
use Rattle.hc_head.specs.{declared.{message.MsgError.{MsgError}, response.ParsedHead.{ParsedHead}}, Rules.{fields_of}, Responses.{HeadOutcome, Refuses, heard_of, IsResponse, IsHeardIn}, Replies.{Hears, RepliesTo}}
use Rattle.hc_head.specs.declared.message.MsgError.TheVariants as error

pub bad_reply : (reported : Bool) (text : List ℕ) → ((head : ResponseHead) → ¬ (IsResponse text head)) → RepliesTo reported text (Err error.BadHead)
bad_reply reported text none = record { heard = Refuses error.BadHead; hears = inl refl; comes = inr (none, refl) }

-- a head that ends before the text
pub short_reply : (reported : Bool) (text : List ℕ) (len : ℕ) (h : ResponseHead) → ReadsResponse text h (drop len text) → len < length text →
    RepliesTo reported text (Err error.BadHead)
short_reply reported text len h reads short =
    bad_reply reported text (λ head x.
    omega (arith, ap length (response_unique text head h [] (drop len text) x.reads reads).1, length-drop len text))

-- a head with too many fields
pub full_reply : (reported : Bool) (text rest : List ℕ) (h : ResponseHead) → ReadsResponse text h rest → 64 < length h.fields →
    RepliesTo reported text (Err error.BadHead)
full_reply reported text rest h reads many =
    bad_reply reported text (λ head x.
    let same = response_unique text head h [] rest x.reads reads in
    omega (arith, ap (λ (k : ResponseHead). length k.fields) same.0, x.few))

pub no_reply : (reported : Bool) (text : List ℕ) → ((h : ResponseHead) (rest : List ℕ) → ¬ (ReadsResponse text h rest)) →
    RepliesTo reported text (Err error.BadHead)
no_reply reported text none = bad_reply reported text (λ head x. none head [] x.reads)

pub over_reply : (reported : Bool) (text : List ℕ) →
    ((more : List ℕ) (h : ResponseHead) (rest : List ℕ) → ReadsResponse (text ++ more) h rest → 64 < length h.fields) →
    RepliesTo reported text (Err error.BadHead)
over_reply reported text over =
    bad_reply reported text (λ head x.
    omega (arith, x.few, over [] head [] (rw (append-nil text) x.reads)))

pub whole_reply : (reported : Bool) (text : List ℕ) (len status : ℕ) (fields : List (List ℕ × List ℕ)) (h : ResponseHead) (result : Result ParsedHead MsgError)
    → ReadsResponse text h (drop len text) → length text ≤ len → length h.fields ≤ 64 → status ≡ status_code h → fields ≡ fields_of h.fields
    → Hears result (heard_of reported status fields) → RepliesTo reported text result
whole_reply reported text len status fields h result reads whole few status_is fields_are hears = record {
  heard = heard_of reported (status_code h) (fields_of h.fields);
  hears =
      rw (← fields_are) (rw (← status_is) hears);
  comes = inl (h, record { reads = rw (← drop_all len text whole) reads; few = few }, refl);
}

-- it comes to one thing
pub heard_one : (reported : Bool) (text : List ℕ) (a b : HeadOutcome) → IsHeardIn reported text a → IsHeardIn reported text b → a ≡ b
heard_one reported text a b (inl x) (inl y) =
    let same = response_unique text x.0 y.0 [] [] x.1.reads y.1.reads in
    x.2 ∙ ap (λ (h : ResponseHead). heard_of reported (status_code h) (fields_of h.fields)) same.0 ∙ sym y.2
heard_one reported text a b (inl x) (inr y) = absurd (y.0 x.0 x.1)
heard_one reported text a b (inr x) (inl y) = absurd (x.0 y.0 y.1)
heard_one reported text a b (inr x) (inr y) = x.1 ∙ sym y.1
