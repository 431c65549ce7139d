-- What the text of a head of a request comes to.
use Rattle.std.{proofs.{Common.{◌≡◌, ℕ, ◌<◌, ◌≤◌, List, [], ◌++◌, length, drop, length-drop, refl, sym, ap, subst, ◌∙◌, inl, inr, arith}, lemmas.List.{drop_all, append-nil}}, specs.Prelude.{Result, Err}}
use Rattle.httparse.specs.Grammar.{RequestHead, ReadsRequest}
use Rattle.httparse.proofs.GrammarLemmas.{request_unique}
use Rattle.hc_head.specs.{declared.message.{MsgError.{MsgError}, WireRequest.{WireRequest}}, Rules.{fields_of}, Requests.{Asked, Denies, asked_of, IsRequest, IsAskedBy}, Calls.{Gives, CallsFor}}
use Rattle.hc_head.specs.declared.message.MsgError.TheVariants as error

bad_call : (text : List ℕ) → ((head : RequestHead) → ¬ (IsRequest text head)) → CallsFor text (Err error.BadHead)
bad_call text none = record { asked = Denies error.BadHead; gives = inl refl; comes = inr (none, refl) }

-- a head that ends before the text
pub short_call : (text : List ℕ) (len : ℕ) (h : RequestHead) → ReadsRequest text h (drop len text) → len < length text → CallsFor text (Err error.BadHead)
short_call text len h reads short =
    bad_call text (λ head x.
    omega (arith, ap length (request_unique text head h [] (drop len text) x.reads reads).1, length-drop len text))

-- a head with too many fields
pub full_call : (text rest : List ℕ) (h : RequestHead) → ReadsRequest text h rest → 64 < length h.fields → CallsFor text (Err error.BadHead)
full_call text rest h reads many =
    bad_call text (λ head x.
    let same = request_unique text head h [] rest x.reads reads in
    omega (arith, ap (λ (k : RequestHead). length k.fields) same.0, x.few))

pub no_call : (text : List ℕ) → ((h : RequestHead) (rest : List ℕ) → ¬ (ReadsRequest text h rest)) → CallsFor text (Err error.BadHead)
no_call text none = bad_call text (λ head x. none head [] x.reads)

-- no bytes can follow that make it a head
pub never_call : (text : List ℕ) → ((more : List ℕ) (h : RequestHead) (rest : List ℕ) → ¬ (ReadsRequest (text ++ more) h rest)) →
    CallsFor text (Err error.BadHead)
never_call text never = bad_call text (λ head x. never [] head [] (subst (λ (t : List ℕ). ReadsRequest t head []) (sym (append-nil text)) x.reads))

pub over_call : (text : List ℕ) → ((more : List ℕ) (h : RequestHead) (rest : List ℕ) → ReadsRequest (text ++ more) h rest → 64 < length h.fields) →
    CallsFor text (Err error.BadHead)
over_call text over =
    bad_call text (λ head x.
    omega (arith, x.few, over [] head [] (rw (append-nil text) x.reads)))

pub whole_call : (text : List ℕ) (len : ℕ) (method target : List ℕ) (minor : ℕ) (fields : List (List ℕ × List ℕ)) (h : RequestHead)
    (result : Result WireRequest MsgError)
    → ReadsRequest text h (drop len text) → length text ≤ len → length h.fields ≤ 64 → method ≡ h.method → target ≡ h.target → minor ≡ h.minor →
    fields ≡ fields_of h.fields
    → Gives result (asked_of method target minor fields) → CallsFor text result
whole_call text len method target minor fields h result reads whole few method_is target_is minor_is fields_are gives =
    let same : asked_of method target minor fields ≡ asked_of h.method h.target h.minor (fields_of h.fields) =
    ap (λ (m : List ℕ). asked_of m target minor fields) method_is ∙ ap (λ (t : List ℕ). asked_of h.method t minor fields) target_is
    ∙ ap (λ (n : ℕ). asked_of h.method h.target n fields) minor_is ∙ ap (asked_of h.method h.target h.minor) fields_are in
    record {
      asked = asked_of h.method h.target h.minor (fields_of h.fields);
      gives = subst (Gives result) same gives;
      comes = inl (h, record { reads = subst (λ (rest : List ℕ). ReadsRequest text h rest) (drop_all len text whole) reads; few = few }, refl);
    }

-- it comes to one thing
pub asked_one : (text : List ℕ) (a b : Asked) → IsAskedBy text a → IsAskedBy text b → a ≡ b
asked_one text a b (inl x) (inl y) =
    let same = request_unique text x.0 y.0 [] [] x.1.reads y.1.reads in
    x.2 ∙ ap (λ (h : RequestHead). asked_of h.method h.target h.minor (fields_of h.fields)) same.0 ∙ sym y.2
asked_one text a b (inl x) (inr y) = absurd (y.0 x.0 x.1)
asked_one text a b (inr x) (inl y) = absurd (x.0 y.0 y.1)
asked_one text a b (inr x) (inr y) = x.1 ∙ sym y.1
