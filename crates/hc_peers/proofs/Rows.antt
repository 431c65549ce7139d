-- What a row of a client says of the lists that it stands in, and what becomes of a row that is read or answered. A row
-- isn't to be read where a consumer lives, where nothing came, where it is to be closed, or where it is owed something:
-- each of these makes one part of the test false. The same goes for whether it is settled. What was read is taken by the
-- cases of what stands next, of which those that can't be are refused. An act is for one row alone: that whose consumer
-- it names.
use Rattle.std.{proofs.{Common.{◌≡◌, ◌≢◌, ℕ, zero, suc, ◌<◌, List, [], length, drop, Bool, true, false, Option, Some, None, Ok, Err, eqb, inl, inr, refl, sym, ap, ◌∙◌, arith}, lemmas.{Bool.{cases_Bool, eqb-true, eq-eqb, ne_eqb}, List.{nil_from_length}}}, specs.Prelude.{is_none, ◌&&◌, IsSome}}
use Rattle.hc_text.proofs.Basics.{and_none as and-false}
use Rattle.hc_event.specs.declared.act.Act.{Act}
use Rattle.hc_head.specs.declared.message.MsgError.{MsgError}
use Rattle.hc_head.specs.declared.message.MsgError.TheVariants as error
use Rattle.hc_msg.specs.{Inputs.{Next, Waits, Reports, Brings, Ends, Fails, next_in}, Reading.{Asks, Answers, Byte}}
use Rattle.hc_peers.specs.{declared.{client.Client.{Client}, reply.Asking.{Asking}}, Agreement.{consumer_at, ready_at, settled_at}, Peers.{is_ready, is_idle, is_settled, is_over, is_same, Reads, IsRead, asks, refused, answered, addressee}, Renderings.{asking_of}, Clients.{hearing, outcome_of, answered_in, is_same_consumer, has_all}, Offering.{sent_more}}
use Rattle.hc_peers.specs.declared.clients.NextRequest.TheVariants as heard

-- WHO ISN'T TO BE READ

pub live-not-ready : (o : Option Client) (c : ℕ) → consumer_at o ≡ Some c → ready_at o ≡ false
live-not-ready None c is = refl
live-not-ready (Some x) c is = rw is refl

pub empty-not-ready : (x : Client) → x.input ≡ [] → is_ready x ≡ false
empty-not-ready x is = rw is (simp and-false)

pub closing-not-ready : (x : Client) → x.closing ≡ true → is_ready x ≡ false
closing-not-ready x is = rw is (simp and-false)

owed : (n : ℕ) → 0 < n → eqb n 0 ≡ false
owed n some = ne_eqb n 0 (λ e. absurd (omega arith))

pub owed-not-ready : (x : Client) → 0 < length x.unsent → is_ready x ≡ false
owed-not-ready x some = rw (owed (length x.unsent) some) (simp and-false)

pub live-there : (o : Option Client) (c : ℕ) → consumer_at o ≡ Some c → IsSome o
live-there None c is = absurd (cc)
live-there (Some x) c is = refl

pub ready-consumer : (o : Option Client) → ready_at o ≡ true → consumer_at o ≡ None
ready-consumer None on = absurd (cc)
ready-consumer (Some x) on = by x.consumer refl where
  by : (m : Option ℕ) → x.consumer ≡ m → m ≡ None
  by None is = refl
  by (Some c) is = absurd (let off : is_ready x ≡ false = rw is refl in cc)

-- WHO ISN'T SETTLED

pub owed-not-settled : (x : Client) → 0 < length x.unsent → is_settled x ≡ false
owed-not-settled x some = rw (owed (length x.unsent) some) refl

pub closing-not-settled : (x : Client) → x.closing ≡ true → is_settled x ≡ false
closing-not-settled x is = rw is (simp and-false)

pub over-closing : (x : Client) → is_over x ≡ true → x.closing ≡ true
over-closing x over = elim (cases_Bool x.closing) [
  | inl on ↦ on
  | inr off ↦ absurd (let none : is_over x ≡ false = rw off refl in cc)
]

-- who is there and settled was sent all
pub settled-has-all : (o : Option Client) → IsSome o → settled_at o ≡ true → has_all o ≡ true
settled-has-all None is on = is
settled-has-all (Some x) is on = elim (cases_Bool (eqb (length x.unsent) 0)) [
  | inl none ↦ none
  | inr some ↦ absurd (let off : is_settled x ≡ false = rw some refl in cc)
]

pub same-itself : (a : Bool) → is_same a a ≡ true
same-itself true = refl
same-itself false = refl

-- who was settled is so when all of nothing is sent, and the wire is told
pub settled-still : (x w : Client) (n : ℕ) → w ≡ sent_more n x → is_settled x ≡ true → is_settled (record w { reading = is_idle w }) ≡ true
settled-still x w n is settled =
    let none : x.unsent ≡ [] = elim (cases_Bool (eqb (length x.unsent) 0)) [
      | inl on ↦ nil_from_length x.unsent (eqb-true (length x.unsent) 0 on)
      | inr off ↦ absurd (let not_so : is_settled x ≡ false = rw off refl in cc)
    ] in
    let stays : x.closing ≡ false = elim (cases_Bool x.closing) [
      | inl on ↦ absurd (let not_so = closing-not-settled x on in cc)
      | inr off ↦ off
    ] in
    rw (is, none, stays, drop-none n) (same-itself (is_none x.consumer && true)) where
      drop-none : (n : ℕ) → drop n (let e : List ℕ = [] in e) ≡ []
      drop-none zero = refl
      drop-none (suc n) = refl

pub settled-sent : (x : Client) (left : List ℕ) (n : ℕ) → left ≡ drop n x.unsent → is_settled x ≡ true → is_settled (record x { unsent = left }) ≡ true
settled-sent x left n is settled =
    let none : x.unsent ≡ [] = elim (cases_Bool (eqb (length x.unsent) 0)) [
      | inl on ↦ nil_from_length x.unsent (eqb-true (length x.unsent) 0 on)
      | inr off ↦ absurd (let not_so : is_settled x ≡ false = rw off refl in cc)
    ] in
    let same : left ≡ x.unsent = is ∙ (ap (drop n) none ∙ (drops-none n ∙ sym none)) in
    rw same settled where
      drops-none : (n : ℕ) → drop n (let e : List ℕ = [] in e) ≡ []
      drops-none zero = refl
      drops-none (suc n) = refl

-- WHAT IS READ

none-read : (front : Bool) (next : Next) (old new : Client) → IsRead front next old new (Ok None) → new.input ≡ []
none-read front (Waits reading) old new h = ap (λ (x : Client). x.input) h.1
none-read front (Reports (Asks request) reading rest) old new h = absurd (let e = h.0 in cc)
none-read front (Reports (Answers response) reading rest) old new h = absurd h
none-read front (Reports (Byte b) reading rest) old new h = absurd h
none-read front (Brings bytes reading rest) old new h = absurd h
none-read front Ends old new h = absurd h
none-read front (Fails e) old new h = absurd (let f = h.0 in cc)

pub none-left : (front : Bool) (old new : Client) → Reads front old new (Ok None) → new.input ≡ []
none-left front old new h = elim h [ inl e ↦ absurd (cc) | inr r ↦ none-read front (next_in 1 old.reader old.input) old new r ]

some-read : (c k : ℕ) (front : Bool) (next : Next) (old new : Client) (asking : Asking) → IsRead front next old new (Ok (Some asking))
    → (asks c asking.reply new ≡ hearing c front next old) × (heard.Asks k asking.request ≡ outcome_of k front next)
some-read c k front (Waits reading) old new asking h = absurd (let e = h.0 in cc)
some-read c k front (Reports (Asks asked) reading rest) old new asking h =
    let e : asking ≡ asking_of front asked = let g = h.0 in cc in
    rw (e, h.1) (refl, refl)
some-read c k front (Reports (Answers response) reading rest) old new asking h = absurd h
some-read c k front (Reports (Byte b) reading rest) old new asking h = absurd h
some-read c k front (Brings bytes reading rest) old new asking h = absurd h
some-read c k front Ends old new asking h = absurd h
some-read c k front (Fails e) old new asking h = absurd (let f = h.0 in cc)

pub some-heard : (c k : ℕ) (front : Bool) (old new : Client) (asking : Asking) → Reads front old new (Ok (Some asking))
    → (asks c asking.reply new ≡ hearing c front (next_in 1 old.reader old.input) old)
    × (heard.Asks k asking.request ≡ outcome_of k front (next_in 1 old.reader old.input))
some-heard c k front old new asking h = elim h [ inl e ↦ absurd (cc) | inr r ↦ some-read c k front (next_in 1 old.reader old.input) old new asking r ]

error-read : (c k : ℕ) (front : Bool) (next : Next) (old new : Client) (e : MsgError) → IsRead front next old new (Err e)
    → (refused e new ≡ hearing c front next old) × (heard.Nothing ≡ outcome_of k front next)
error-read c k front (Waits reading) old new e h = absurd (let f = h.0 in cc)
error-read c k front (Reports (Asks asked) reading rest) old new e h = absurd (let f = h.0 in cc)
error-read c k front (Reports (Answers response) reading rest) old new e h = absurd h
error-read c k front (Reports (Byte b) reading rest) old new e h = absurd h
error-read c k front (Brings bytes reading rest) old new e h = absurd h
error-read c k front Ends old new e h = absurd h
error-read c k front (Fails f) old new e h = let same : e ≡ f = let g = h.0 in cc in rw (same, h.1) (refl, refl)

pub error-heard : (c k : ℕ) (front : Bool) (old new : Client) (e : MsgError) → (e ≡ error.NoMemory → ⊥) → Reads front old new (Err e)
    → (refused e new ≡ hearing c front (next_in 1 old.reader old.input) old) × (heard.Nothing ≡ outcome_of k front (next_in 1 old.reader old.input))
error-heard c k front old new e not_so h = elim h [ inl f ↦ absurd (not_so (cc)) | inr r ↦ error-read c k front (next_in 1 old.reader old.input) old new e r ]

pub nobody-at : (c : ℕ) (o : Option Client) → ((x : Client) → o ≡ Some x → x.consumer ≢ Some c) → consumer_at o ≢ Some c
nobody-at c None h = λ e. absurd (cc)
nobody-at c (Some x) h = h x refl

-- WHAT IS ANSWERED

pub answered-here : (a : Act) (x : Client) (c : ℕ) → addressee a ≡ Some c → x.consumer ≡ Some c → answered_in a (Some x) ≡ Some (answered a x)
answered-here a x c to is = let on : is_same_consumer (addressee a) x.consumer ≡ true = rw (to, is) (eq-eqb c c refl) in rw on refl

differs : (o : Option ℕ) (c : ℕ) → o ≢ Some c → is_same_consumer (Some c) o ≡ false
differs None c ne = refl
differs (Some d) c ne = ne_eqb c d (λ e. ne (ap Some (sym e)))

pub answered-apart : (a : Act) (o : Option Client) (c : ℕ) → addressee a ≡ Some c → consumer_at o ≢ Some c → answered_in a o ≡ o
answered-apart a None c to ne = refl
answered-apart a (Some x) c to ne = let off : is_same_consumer (addressee a) x.consumer ≡ false = rw to (differs x.consumer c ne) in rw off refl
