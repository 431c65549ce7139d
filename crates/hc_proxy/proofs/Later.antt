-- What a client is owed only grows, by appending, and one that is gone stays so; and what carrying out keeps.
--
-- Each change of a client's row appends, or leaves what is owed as it is. A new client replaces no row, since
-- its number is new. The rows of connections to the origin are owed their request from the first on, and only an
-- exchange that is opened replaces a row. So for those it is asked which exchanges the acts open.
use Rattle.std.{proofs.{Common.{◌≡◌, ℕ, Bool, true, false, List, [], ◌∷◌, ◌++◌, Option, Some, None, refl, ap, sym, ◌∙◌, arith, length, append_assoc, append-nil}, lemmas.Bool.Decides.{nat_tests}}, specs.Prelude.{nat_eq, map, reverse, ◌||◌, if◌then◌else◌, option_map}}
use Rattle.hc_effects.proofs.Vocabulary.{Act, Entry, History, Limits}
use Rattle.hc_peers.specs.Renderings.{rendering, empty_answer, error_status, form_behind, is_last, closes}
use Rattle.hc_wire.specs.Logs.{Called}
use Rattle.hc_proxy.specs.{Carrying.{answered, carried, acts_in}, Connections.{stands}, Handling.{begun, seen_at}, Rows.{Client, Upstream, Proxy, Setting}, Steps.{with_entry}, Turns.{so_far, happened, turned, turned_by, record_of, timed_of, text_behind}}
use Rattle.hc_proxy.proofs.Turning.{IsChange, IsOriginChange, IsKept, IsCarried, OpenOnly, carried_keeps, open_any, turned_keeps}
use Rattle.hc_proxy.proofs.Turning as kinds

-- ONE CLIENT

pub record IsLater (old new : Client) : Type 0 where
  pub more : List ℕ
  pub owed : new.owed ≡ old.owed ++ more
  pub gone : old.gone ≡ true → new.gone ≡ true

pub later_same : (c : Client) → IsLater c c
later_same c = record { more = []; owed = sym (append-nil c.owed); gone = λ g. g }

pub later_both : (c d e : Client) → IsLater c d → IsLater d e → IsLater c e
later_both c d e a b = record {
  more = a.more ++ b.more;
  owed = b.owed ∙ (ap (λ (xs : List ℕ). xs ++ b.more) a.owed ∙ append_assoc c.owed a.more b.more);
  gone = λ g. b.gone (a.gone g);
}

either_later : (b : Bool) (c d e : Client) → IsLater c d → IsLater c e → IsLater c (if b then d else e)
either_later true c d e x y = x
either_later false c d e x y = y

change_later : (change : Client → Client) → IsChange change → (c : Client) → IsLater c (change c)
change_later _ (kinds.sends_more bytes) c =
    either_later c.gone c c (record c { input = c.input ++ bytes }) (later_same c) (record { more = []; owed = sym (append-nil c.owed); gone = λ g. g })
change_later _ (kinds.is_read reading rest) c = record { more = []; owed = sym (append-nil c.owed); gone = λ g. g }
change_later _ (kinds.asks_next d request) c = record { more = []; owed = sym (append-nil c.owed); gone = λ g. g }
change_later _ (kinds.is_refused e) c = record { more = empty_answer (error_status e); owed = refl; gone = λ g. g }
change_later _ kinds.goes c = record { more = []; owed = sym (append-nil c.owed); gone = λ g. refl }

answered_later : (a : Act) (c : Client) → IsLater c (answered a c)
answered_later a c = by_test c.gone
  where
    reported : Client
    reported = record c {
      owed = c.owed ++ rendering c.reply a;
      before = length c.owed;
      reply = record c.reply { form = form_behind c.reply a };
      closing = c.closing || closes c.reply a;
      consumer = if is_last a then None else c.consumer;
    }

    by_test : (b : Bool) → IsLater c (if b then c else reported)
    by_test true = later_same c
    by_test false = record { more = rendering c.reply a; owed = refl; gone = λ g. g }

seen_later : (call : Called) (k : ℕ) (c : Client) → IsLater c (seen_at call k c)
seen_later call k c = either_later (c.gone || stands call k) c c (record c { gone = true; let_go = true }) (later_same c)
    (record { more = []; owed = sym (append-nil c.owed); gone = λ g. refl })

-- THE CLIENT OF A CONNECTION

pub record HasLater (old : Client) (o : Option Client) : Type 0 where
  pub new : Client
  pub row : o ≡ Some new
  pub later : IsLater old new

-- it is there behind, and was owed what it is owed but for what was appended
abbrev pub ClientGrows : ℕ → Proxy → Proxy → Type 0
ClientGrows k p q = (old : Client) → p.client k ≡ Some old → HasLater old (q.client k)

changed_row : (change : Client → Client) → ((c : Client) → IsLater c (change c)) → (b : Bool) (o : Option Client) (old : Client) → o ≡ Some old →
    HasLater old (if b then option_map change o else o)
changed_row change later true o old row = record { new = change old; row = ap (option_map change) row; later = later old }
changed_row change later false o old row = record { new = old; row = row; later = later_same old }

other_test : (k j : ℕ) → (j ≡ k → ⊥) → nat_eq k j ≡ false
other_test k j other = grind (arith, nat_tests)

-- a new client stands where none stood
new_row : (p : Proxy) (k j : ℕ) (new : Option Client) (old : Client) → p.client j ≡ None → (b : Bool) → nat_eq k j ≡ b → p.client k ≡ Some old →
    HasLater old (if b then new else p.client k)
new_row p k j new old none true same row =
    let at : k ≡ j = grind (arith, nat_tests) in
    let never : Some old ≡ None = sym row ∙ (ap p.client at ∙ none) in
    absurd cc
new_row p k j new old none false same row = record { new = old; row = row; later = later_same old }

abbrev pub OtherThan : ℕ → ℕ → Type 0
OtherThan k j = j ≡ k → ⊥

module _ (limits : Limits) (k : ℕ) where
  step_row : (e : Entry) (p : Proxy) (old : Client) → p.client k ≡ Some old → HasLater old ((with_entry e p).client k)
  unfolding with_entry
  step_row e p old row = record { new = old; row = row; later = later_same old }

  both_rows : (p q r : Proxy) → ClientGrows k p q → ClientGrows k q r → ClientGrows k p r
  both_rows p q r a b old row =
      let first = a old row in
      let second = b first.new first.row in
      record { new = second.new; row = second.row; later = later_both old first.new second.new first.later second.later }

  pub clients_grow : IsKept limits (ClientGrows k)
  clients_grow = record {
    none = λ p old row. record { new = old; row = row; later = later_same old };
    both = both_rows;
    comes = λ j p none old row. new_row p k j _ old none (nat_eq k j) refl row;
    client = λ j change p is old row. changed_row change (change_later change is) (nat_eq k j) (p.client k) old row;
    origin = λ x change p is old row. record { new = old; row = row; later = later_same old };
    holder = λ c j p old row. record { new = old; row = row; later = later_same old };
    steps = λ ev p old row. step_row _ p old row;
  }

  pub clients_grow_out : IsCarried (λ x. Unit {0}) (ClientGrows k)
  clients_grow_out = record {
    none = λ p old row. record { new = old; row = row; later = later_same old };
    both = both_rows;
    answers = λ j a p old row. changed_row (answered a) (answered_later a) (nat_eq k j) (p.client k) old row;
    opens = λ x request p may old row. record { new = old; row = row; later = later_same old };
  }

  -- In a turn, and in all turns.
  pub client_grows : (dialled : List (Option ℕ)) (call : Called) (p : Proxy) → ClientGrows k p (turned limits dialled call p)
  client_grows dialled call p =
      turned_keeps limits (λ x. Unit {0}) (ClientGrows k) clients_grow clients_grow_out dialled call p
      (open_any (acts_in (happened limits (so_far p dialled) call (begun call p)).part))
      (λ old row. record { new = seen_at call k old; row = ap (option_map (seen_at call k)) row; later = seen_later call k old })

  pub client_grows_on : (dialled : List (Option ℕ)) (calls : List Called) (p : Proxy) → ClientGrows k p (turned_by limits dialled calls p)
  client_grows_on dialled [] p = λ old row. record { new = old; row = row; later = later_same old }
  client_grows_on dialled (call ∷ calls) p =
      both_rows p (turned limits dialled call p) (turned_by limits dialled calls (turned limits dialled call p)) (client_grows dialled call p)
      (client_grows_on dialled calls (turned limits dialled call p))

-- WHAT CARRYING OUT KEEPS

-- all but rows of clients and of connections to the origin
pub record IsSame (p q : Proxy) : Type 0 where
  pub setting : q.setting ≡ p.setting
  pub tables : q.tables ≡ p.tables
  pub history : q.history ≡ p.history
  pub part : q.part ≡ p.part
  pub moment : q.moment ≡ p.moment
  pub starts : q.starts ≡ p.starts
  pub accepted : q.accepted ≡ p.accepted
  pub holder : q.holder ≡ p.holder

same_both : (p q r : Proxy) → IsSame p q → IsSame q r → IsSame p r
same_both p q r a b = record {
  setting = b.setting ∙ a.setting;
  tables = b.tables ∙ a.tables;
  history = b.history ∙ a.history;
  part = b.part ∙ a.part;
  moment = b.moment ∙ a.moment;
  starts = b.starts ∙ a.starts;
  accepted = b.accepted ∙ a.accepted;
  holder = b.holder ∙ a.holder;
}

kept_out : IsCarried (λ x. Unit {0}) IsSame
kept_out = record {
  none = λ p. record { setting = refl; tables = refl; history = refl; part = refl; moment = refl; starts = refl; accepted = refl; holder = refl };
  both = same_both;
  answers = λ k a p. record { setting = refl; tables = refl; history = refl; part = refl; moment = refl; starts = refl; accepted = refl; holder = refl };
  opens = λ x request p may. record {
    setting = refl;
    tables = refl;
    history = refl;
    part = refl;
    moment = refl;
    starts = refl;
    accepted = refl;
    holder =
        refl;
  };
}

pub carried_is_same : (p : Proxy) → IsSame p (carried p)
carried_is_same p = carried_keeps (λ x. Unit {0}) IsSame kept_out p (open_any (acts_in p.part))

-- and the record
pub record_carried : (q : Proxy) → record_of (carried q) ≡ record_of q
record_carried q =
    let same = carried_is_same q in
    ap (λ (d : Setting). text_behind d.contents.now (map timed_of (reverse (carried q).history))) same.setting
    ∙ ap (λ (h : History). text_behind q.setting.contents.now (map timed_of (reverse h))) same.history

-- CONNECTIONS TO THE ORIGIN

-- that of x is there behind, and is owed what it was
pub record HasSameOwed (old : Upstream) (o : Option Upstream) : Type 0 where
  pub new : Upstream
  pub row : o ≡ Some new
  pub owed : new.owed ≡ old.owed

abbrev pub OriginStays : ℕ → Proxy → Proxy → Type 0
OriginStays x p q = (old : Upstream) → p.upstream x ≡ Some old → HasSameOwed old (q.upstream x)

origin_change : (change : Upstream → Upstream) → IsOriginChange change → (u : Upstream) → (change u).owed ≡ u.owed
origin_change _ (kinds.sends_more bytes) u = refl
origin_change _ kinds.ends_here u = refl
origin_change _ (kinds.is_read reading rest) u = refl

origin_row : (change : Upstream → Upstream) → IsOriginChange change → (b : Bool) (o : Option Upstream) (old : Upstream) → o ≡ Some old →
    HasSameOwed old (if b then option_map change o else o)
origin_row change is true o old row = record { new = change old; row = ap (option_map change) row; owed = origin_change change is old }
origin_row change is false o old row = record { new = old; row = row; owed = refl }

unopened_row : (b : Bool) (new o : Option Upstream) (old : Upstream) → b ≡ false → o ≡ Some old → HasSameOwed old (if b then new else o)
unopened_row true new o old off row = absurd (let never : true ≡ false = off in cc)
unopened_row false new o old off row = record { new = old; row = row; owed = refl }

module _ (limits : Limits) (x : ℕ) where
  origin_step : (e : Entry) (p : Proxy) (old : Upstream) → p.upstream x ≡ Some old → HasSameOwed old ((with_entry e p).upstream x)
  unfolding with_entry
  origin_step e p old row = record { new = old; row = row; owed = refl }

  pub both_origins : (p q r : Proxy) → OriginStays x p q → OriginStays x q r → OriginStays x p r
  both_origins p q r a b old row =
      let first = a old row in
      let second = b first.new first.row in
      record { new = second.new; row = second.row; owed = second.owed ∙ first.owed }

  pub origins_stay : IsKept limits (OriginStays x)
  origins_stay = record {
    none = λ p old row. record { new = old; row = row; owed = refl };
    both = both_origins;
    comes = λ k p may old row. record { new = old; row = row; owed = refl };
    client = λ k change p is old row. record { new = old; row = row; owed = refl };
    origin = λ y change p is old row. origin_row change is (nat_eq x y) (p.upstream x) old row;
    holder = λ c k p old row. record { new = old; row = row; owed = refl };
    steps = λ ev p old row. origin_step _ p old row;
  }

  pub origins_stay_out : IsCarried (OtherThan x) (OriginStays x)
  origins_stay_out = record {
    none = λ p old row. record { new = old; row = row; owed = refl };
    both = both_origins;
    answers = λ k a p old row. record { new = old; row = row; owed = refl };
    opens = λ y request p other old row. unopened_row (nat_eq x y) _ (p.upstream x) old (other_test x y other) row;
  }

  -- In a turn whose acts don't open x.
  pub origin_stays : (dialled : List (Option ℕ)) (call : Called) (p : Proxy) →
      OpenOnly (OtherThan x) (acts_in (happened limits (so_far p dialled) call (begun call p)).part) → OriginStays x p (turned limits dialled call p)
  origin_stays dialled call p only =
      turned_keeps limits (OtherThan x) (OriginStays x) origins_stay origins_stay_out dialled call p only
      (λ old row. record { new = old; row = row; owed = refl })
