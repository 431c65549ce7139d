-- Who was let go is gone, and nobody is let go but where a turn begins.
--
-- No change of a client's row within a turn says that it was let go, and none brings back who is gone. Where a turn
-- begins, who is let go is gone from then on. `turn_lets_go` says that of a turn, and `turns_gone` of turns one behind
-- another.
use Rattle.std.{proofs.Common.{◌≡◌, ℕ, Bool, true, false, List, [], ◌∷◌, ◌++◌, length, Option, Some, None, refl, ap, sym, ◌∙◌}, specs.Prelude.{nat_eq, ◌||◌, if◌then◌else◌, option_map}}
use Rattle.hc_text.proofs.Basics.{some_inj as some_is}
use Rattle.hc_effects.proofs.Vocabulary.{Act, Entry, Limits}
use Rattle.hc_peers.specs.Renderings.{rendering, form_behind, is_last, closes}
use Rattle.hc_wire.specs.Logs.{Called}
use Rattle.hc_proxy.specs.{Carrying.{answered, carried, acts_in}, Connections.{stands}, Handling.{begun, seen_at}, Rows.{Client, Proxy, new_client, unused, Setting}, Steps.{with_entry}, Turns.{so_far, happened, turned, turned_by}}
use Rattle.hc_proxy.proofs.Turning.{IsChange, IsKept, IsCarried, happened_keeps, carried_keeps, open_any}
use Rattle.hc_proxy.proofs.Turning as kinds

-- it was let go before, too, and is gone if it was
pub record WasLetGo (o : Option Client) (new : Client) : Type 0 where
  pub old : Client
  pub row : o ≡ Some old
  pub let_go : old.let_go ≡ true
  pub gone : old.gone ≡ true → new.gone ≡ true

abbrev pub LetsGo : ℕ → Proxy → Proxy → Type 0
LetsGo k p q = (new : Client) → q.client k ≡ Some new → new.let_go ≡ true → WasLetGo (p.client k) new

-- ONE ROW

record Alike (old new : Client) : Type 0 where
  let_go : new.let_go ≡ old.let_go
  gone : old.gone ≡ true → new.gone ≡ true

alike_if : (b : Bool) (old new : Client) → Alike old new → Alike old (if b then old else new)
alike_if true old new a = record { let_go = refl; gone = λ g. g }
alike_if false old new a = a

change_alike : (change : Client → Client) → IsChange change → (c : Client) → Alike c (change c)
change_alike _ (kinds.sends_more bytes) c = alike_if c.gone c (record c { input = c.input ++ bytes }) (record { let_go = refl; gone = λ g. g })
change_alike _ (kinds.is_read reading rest) c = record { let_go = refl; gone = λ g. g }
change_alike _ (kinds.asks_next d request) c = record { let_go = refl; gone = λ g. g }
change_alike _ (kinds.is_refused e) c = record { let_go = refl; gone = λ g. g }
change_alike _ kinds.goes c = record { let_go = refl; gone = λ g. refl }

answered_alike : (a : Act) (c : Client) → Alike c (answered a c)
answered_alike a c = alike_if c.gone c (record c {
  owed = c.owed ++ rendering c.reply a;
  before = length c.owed;
  reply = record c.reply { form = form_behind c.reply a };
  closing = c.closing || closes c.reply a;
  consumer = if is_last a then None else c.consumer;
}) (record { let_go = refl; gone = λ g. g })

itself : (o : Option Client) (new : Client) → o ≡ Some new → new.let_go ≡ true → WasLetGo o new
itself o new row is = record { old = new; row = row; let_go = is; gone = λ g. g }

changed_row : (change : Client → Client) → ((c : Client) → Alike c (change c)) → (b : Bool) (o : Option Client) (new : Client) →
    (if b then option_map change o else o) ≡ Some new → new.let_go ≡ true → WasLetGo o new
changed_row change alike false o new row is = itself o new row is
changed_row change alike true None new row is = absurd (let never : None ≡ Some new = row in cc)
changed_row change alike true (Some old) new row is =
    let same : change old ≡ new = some_is (change old) new row in
    let a = alike old in
    record {
      old = old;
      row = refl;
      let_go = sym a.let_go ∙ (ap (λ (c : Client). c.let_go) same ∙ is);
      gone = λ g. ap (λ (c : Client). c.gone) (sym same) ∙ a.gone g;
    }

new_row : (o : Option Client) (b : Bool) (new : Client) → (if b then Some new_client else o) ≡ Some new → new.let_go ≡ true → WasLetGo o new
new_row o false new row is = itself o new row is
new_row o true new row is =
    let same : new_client ≡ new = some_is new_client new row in
    absurd (let never : false ≡ true = ap (λ (c : Client). c.let_go) same ∙ is in cc)

-- WITHIN A TURN

module _ (limits : Limits) (k : ℕ) where
  both_go : (p q r : Proxy) → LetsGo k p q → LetsGo k q r → LetsGo k p r
  both_go p q r a b new row is =
      let second = b new row is in
      let first = a second.old second.row second.let_go in
      record { old = first.old; row = first.row; let_go = first.let_go; gone = λ g. second.gone (first.gone g) }

  step_row : (e : Entry) (p : Proxy) → LetsGo k p (with_entry e p)
  unfolding with_entry
  step_row e p new row is = itself (p.client k) new row is

  lets_go : IsKept limits (LetsGo k)
  lets_go = record {
    none = λ p new row is. itself (p.client k) new row is;
    both = both_go;
    comes = λ j p none new row is. new_row (p.client k) (nat_eq k j) new row is;
    client = λ j change p kind new row is. changed_row change (change_alike change kind) (nat_eq k j) (p.client k) new row is;
    origin = λ x change p kind new row is. itself (p.client k) new row is;
    holder = λ c j p new row is. itself (p.client k) new row is;
    steps = λ ev p new row is. step_row _ p new row is;
  }

  lets_go_out : IsCarried (λ x. Unit {0}) (LetsGo k)
  lets_go_out = record {
    none = λ p new row is. itself (p.client k) new row is;
    both = both_go;
    answers = λ j a p new row is. changed_row (answered a) (answered_alike a) (nat_eq k j) (p.client k) new row is;
    opens = λ x request p may new row is. itself (p.client k) new row is;
  }

  pub turn_lets_go : (dialled : List (Option ℕ)) (call : Called) (p : Proxy) → LetsGo k (begun call p) (turned limits dialled call p)
  unfolding turned
  turn_lets_go dialled call p =
      let h = happened limits (so_far p dialled) call (begun call p) in
      both_go (begun call p) h (carried h) (happened_keeps limits (LetsGo k) lets_go (so_far p dialled) call (begun call p))
      (carried_keeps (λ x. Unit {0}) (LetsGo k) lets_go_out h (open_any (acts_in h.part)))

-- BETWEEN TURNS

-- who was let go is gone
abbrev pub AreGone : Proxy → Type 0
AreGone p = (k : ℕ) (r : Client) → p.client k ≡ Some r → r.let_go ≡ true → r.gone ≡ true

begun_gone : (call : Called) (p : Proxy) → AreGone p → AreGone (begun call p)
begun_gone call p gone k r row is = by_row (p.client k) refl row
  where
    by_seen : (old : Client) → p.client k ≡ Some old → (b : Bool) → (if b then old else record old { gone = true; let_go = true }) ≡ r → r.gone ≡ true
    by_seen old at true same = gone k r (at ∙ ap Some same) is
    by_seen old at false same = ap (λ (c : Client). c.gone) (sym same)

    by_row : (o : Option Client) → p.client k ≡ o → option_map (seen_at call k) o ≡ Some r → r.gone ≡ true
    by_row None at made = absurd (let never : None ≡ Some r = made in cc)
    by_row (Some old) at made = by_seen old at (old.gone || stands call k) (some_is (seen_at call k old) r made)

pub turn_gone : (limits : Limits) (dialled : List (Option ℕ)) (call : Called) (p : Proxy) → AreGone p → AreGone (turned limits dialled call p)
turn_gone limits dialled call p gone k r row is =
    let was = turn_lets_go limits k dialled call p r row is in
    was.gone (begun_gone call p gone k was.old was.row was.let_go)

pub turns_gone : (limits : Limits) (dialled : List (Option ℕ)) (calls : List Called) (p : Proxy) → AreGone p → AreGone (turned_by limits dialled calls p)
turns_gone limits dialled [] p gone = gone
turns_gone limits dialled (call ∷ calls) p gone = turns_gone limits dialled calls (turned limits dialled call p) (turn_gone limits dialled call p gone)

pub unused_gone : (c : Setting) → AreGone (unused c)
unused_gone c k r row is = absurd (let never : None ≡ Some r = row in cc)
