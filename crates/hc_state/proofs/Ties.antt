-- What is kept represents other tables too, item by item: what neither changes nor looks at what changes stays tied.
--
-- A record says what an item looks at: `SeesSame` of a consumer, `SaysSame` of a key, `UsesSame` of a representation,
-- `LooksSame` of an exchange. Where that is equal in both tables, the same item represents its row in both:
-- `consumer_same`, `key_same`, `entry_same`, `exchange_same`. The lemmas between say that exchanges that are over stay
-- so, since a writer may be forgotten then. Most files on the rows use these for all that an event leaves alone.
use Rattle.std.{proofs.{lemmas.Bool.Decides.{nat_tests}, Common.{arith, ◌≡◌, ◌≢◌, inl, inr, ℕ, List, Bool, true, false, Option, Some, None, refl, ap, sym, ◌∙◌, subst, []}}, specs.Prelude.{is_some, is_none, not, option_map, if◌then◌else◌}}
use Rattle.hc_text.proofs.Basics.{false_true, same_or}
use Rattle.hc_entry.specs.Kept as keyed
use Rattle.hc_effects.proofs.Vocabulary.{route_of, Place, BoundBy, current, total_in, is_live, over, family, kind_of, is_in_line, bound, is_bound, hi_of, lo_of, Tables, Exchange, Representation, place}
use Rattle.hc_exch.specs.{Known.{Known}, declared.{role.Role.{Role, TheVariants.{the_data as role}}, row.Open.{Open}}}
use Rattle.hc_stored.specs.Kept.{Kept}
use Rattle.hc_model.specs.Rows as rows
use Rattle.hc_state.specs.{Kept.{IsKept, IsRunning, KeepsConsumer, KeepsExchange, KeepsRunning, answer_for, held_for, role_awaited}, Lines.{KeepsKey, has_turn, is_passed, is_away}, Stored.{KeepsEntry, KnowsWriter, as_written, forgotten, is_first, is_over}}
use Rattle.hc_txn.specs.declared.transaction.Transaction.{Transaction as Consumer}

-- CONSUMERS

pub kept_none : (t : Tables) (o : Option Consumer) → KeepsConsumer t o None → o ≡ None
kept_none t o k = grind (arith, nat_tests)

-- whoever is kept is live
pub kept_lives : (t : Tables) (o : Option Consumer) (row : Option rows.Consumer) → KeepsConsumer t o row → is_some o ≡ is_live row
kept_lives t o row kept = grind (arith, nat_tests)

pub kept_row : (t : Tables) (k : Consumer) (row : Option rows.Consumer) → KeepsConsumer t (Some k) row → (v : rows.Consumer) × (row ≡ Some v) × IsKept t k v
kept_row t k None kept = absurd kept
kept_row t k (Some v) kept = (v, refl, kept)

-- whoever stands there sees the same: the same exchange past the store, and a body of the same length
pub record SeesSame (t s : Tables) (p : Place) : Type 0 where
  pub past : (x : ℕ) → p ≡ place.Direct x → s.exchange x ≡ t.exchange x
  pub length : (q lo : ℕ) (hi : Option ℕ) (by : BoundBy) → p ≡ place.Bound q lo hi by →
      total_in (s.representation q) ≡ total_in (t.representation q)

module _ (t s : Tables) (k : Consumer) (v : rows.Consumer) (sees : SeesSame t s v.place) where
  answer_same : (p : Place) → v.place ≡ p → answer_for s v ≡ answer_for t v
  answer_same p at = grind (arith, nat_tests)

  begin_same : (p : Place) → v.place ≡ p → lo_of s v.place ≡ lo_of t v.place
  begin_same p at = grind (arith, nat_tests)

  end_same : (p : Place) → v.place ≡ p → hi_of s v.place ≡ hi_of t v.place
  end_same p at = grind (arith, nat_tests)

  pub kept_same : IsKept t k v → IsKept s k v
  kept_same kp = assumption (
    kp,
    kp.answer ∙ sym (answer_same v.place refl),
    kp.begins ∙ sym (begin_same v.place refl),
    kp.ends ∙ sym (end_same v.place refl),
  )

pub consumer_same : (t s : Tables) (k : Option Consumer) (row : Option rows.Consumer) →
    ((v : rows.Consumer) → row ≡ Some v → SeesSame t s v.place) → KeepsConsumer t k row → KeepsConsumer s k row
consumer_same t s None row sees kept = kept
consumer_same t s (Some k) None sees kept = kept
consumer_same t s (Some k) (Some v) sees kept = kept_same t s k v (sees v refl) kept

-- KEYS

-- what is said of a key is the same
pub record SaysSame (t s : Tables) (key : List ℕ) : Type 0 where
  pub current : current s key ≡ current t key
  pub in_line : (c : ℕ) → is_in_line key (s.consumer c) ≡ is_in_line key (t.consumer c)
  pub passed : (c : ℕ) → is_passed key (s.consumer c) ≡ is_passed key (t.consumer c)
  pub away : (c : ℕ) → is_away s key (s.consumer c) ≡ is_away t key (t.consumer c)
  pub turn : (c : ℕ) → has_turn key (s.consumer c) ≡ has_turn key (t.consumer c)

pub key_same : (t s : Tables) (key : List ℕ) (k : keyed.Kept) → SaysSame t s key → KeepsKey t key k → KeepsKey s key k
key_same t s key k says kept = record {
  current = kept.current ∙ sym says.current;
  in_line = λ c. kept.in_line c ∙ sym (says.in_line c);
  passed = λ c. kept.passed c ∙ sym (says.passed c);
  away = λ c. kept.away c ∙ sym (says.away c);
  holder = λ c. kept.holder c ∙ sym (says.turn c);
}

-- EXCHANGES THAT ARE OVER

-- what is over stays so
abbrev pub OversStay : (ℕ → Option Exchange) → (ℕ → Option Exchange) → Type 0
OversStay f g = (x : ℕ) → is_over (f x) ≡ true → is_over (g x) ≡ true

-- where one alone changes
pub overs_but : (f g : ℕ → Option Exchange) (x : ℕ) → (is_over (f x) ≡ true → is_over (g x) ≡ true) → ((y : ℕ) → x ≢ y → g y ≡ f y) → OversStay f g
overs_but f g x here others y on = elim (same_or x y) [
  | inl e ↦ subst (λ (n : ℕ). is_over (g n) ≡ true) e (here (ap is_over (ap f e) ∙ on))
  | inr ne ↦ ap is_over (others y ne) ∙ on
]

-- that is open before
pub overs_open : (f g : ℕ → Option Exchange) (x : ℕ) (w : Exchange) → f x ≡ Some w → w.is_open ≡ true → ((y : ℕ) → x ≢ y → g y ≡ f y) → OversStay f g
overs_open f g x w row opened others = overs_but f g x (λ on. false_true (sym (ap is_over row ∙ ap not opened) ∙ on)) others

-- or isn't there yet
pub overs_opened : (f g : ℕ → Option Exchange) (x : ℕ) → f x ≡ None → ((y : ℕ) → y ≢ x → g y ≡ f y) → OversStay f g
overs_opened f g x none others = overs_but f g x (λ on. false_true (sym (ap is_over none) ∙ on)) (λ y ne. others y (λ e. ne (sym e)))

-- or is closed
pub overs_closed : (b : Bool) (o : Option Exchange) → is_over o ≡ true → is_over (if b then option_map over o else o) ≡ true
overs_closed b o on = grind (arith, nat_tests)

-- or ends
pub put_over : (b : Bool) (z o : Option Exchange) → is_over z ≡ true → is_over o ≡ true → is_over (if b then z else o) ≡ true
put_over b z o ends on = grind (arith, nat_tests)

-- and so is what was forgotten
pub writer_then : {f g : ℕ → Option Exchange} {k v : Option ℕ} → OversStay f g → KnowsWriter f k v → KnowsWriter g k v
writer_then stay (as_written is) = as_written is
writer_then stay (forgotten x none reported on) = forgotten x none reported (stay x on)

-- REPRESENTATIONS

-- who is bound to r, and how much of it is stored, is the same, and no exchange that is over is open again
pub record UsesSame (t s : Tables) (r : ℕ) : Type 0 where
  pub users : (c : ℕ) → is_bound r (s.consumer c) ≡ is_bound r (t.consumer c)
  pub first : (c : ℕ) → is_first s r (s.consumer c) ≡ is_first t r (t.consumer c)
  pub list : bound s r ≡ bound t r
  pub kind : (v : Representation) → t.representation r ≡ Some v → kind_of s r v ≡ kind_of t r v
  pub overs : OversStay t.exchange s.exchange

pub entry_same : (t s : Tables) (r : ℕ) (k : Option Kept) (row : Option Representation) → t.representation r ≡ row →
    UsesSame t s r → KeepsEntry t r k row → KeepsEntry s r k row
entry_same t s r None None at uses kept = tt
entry_same t s r None (Some v) at uses kept = record { gone = kept.gone; unused = uses.list ∙ kept.unused }
entry_same t s r (Some k) None at uses kept = kept
entry_same t s r (Some k) (Some v) at uses kept = assumption (
  kept,
  writer_then uses.overs kept.writer,
  (λ (gone : v.is_gone ≡ true) (none : bound s r ≡ []). kept.used gone (sym uses.list ∙ none)),
  (λ (stays : v.is_gone ≡ false). kept.kind stays ∙ sym (uses.kind v at)),
  (λ (c : ℕ). kept.bound c ∙ sym (uses.users c)),
  (λ (c : ℕ). kept.first c ∙ sym (uses.first c)),
)

-- EXCHANGES

-- what an exchange brings, and what is held of it, is the same
pub record LooksSame (t s : Tables) (x : ℕ) : Type 0 where
  pub row : s.exchange x ≡ t.exchange x
  pub brings : (w : Exchange) → t.exchange x ≡ Some w →
      is_some (s.representation (family x w)) ≡ is_some (t.representation (family x w))
  pub held : held_for s x (t.exchange x) ≡ held_for t x (t.exchange x)

abbrev role_with : Tables → ℕ → Exchange → Bool → Role
role_with t x w founded = if is_none w.head then role_awaited (route_of w.need) w.aim else if founded then role.Body (family x w) else role.Direct

running_same : (t s : Tables) (x : ℕ) (o : Open) (w : Exchange) → is_some (s.representation (family x w)) ≡ is_some (t.representation (family x w)) →
    IsRunning t x o w → IsRunning s x o w
running_same t s x o w brings is = assumption (is, is.role ∙ ap (role_with t x w) (sym brings))

pub runs_same : (t s : Tables) (x : ℕ) (o : Option Open) (row : Option Exchange) →
    ((w : Exchange) → row ≡ Some w → is_some (s.representation (family x w)) ≡ is_some (t.representation (family x w))) → KeepsRunning t x o row →
    KeepsRunning s x o row
runs_same t s x None row brings kept = kept
runs_same t s x (Some o) None brings kept = kept
runs_same t s x (Some o) (Some w) brings kept = running_same t s x o w (brings w refl) kept

pub exchange_same : (t s : Tables) (x : ℕ) (known : Known) → LooksSame t s x → KeepsExchange t x known → KeepsExchange s x known
exchange_same t s x known looks kept = record {
  running = subst (KeepsRunning s x known.running) (sym looks.row) (runs_same t s x known.running (t.exchange x) looks.brings kept.running);
  held = kept.held ∙ (sym looks.held ∙ ap (held_for s x) (sym looks.row));
}
