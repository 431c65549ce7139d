-- Whether one of the news brings something: then the step *network* would hand it to the cache, and else nothing.
--
-- The code looks at the news alone. Where a part of an exchange is wanted it is open, and so it has a row of the code
-- that is alike: what the code tells of it is what the definitions say. Whoever is open and isn't among the news has
-- nothing due, so it brings nothing. `some_heard` is where one brings something, `none_heard` where none does.
use Rattle.std.{proofs.{Common.{◌≡◌, ◌≤◌, ℕ, List, [], ◌∷◌, ◌++◌, length, Bool, true, false, Option, Some, None, refl, ap, sym, ◌∙◌, arith}, lemmas.Bool.Decides.{nat_tests}}, specs.{Prelude.{◌&&◌, ◌||◌, not, nat_eq, nat_lt}, List.{list_any}}}
use Rattle.hc_text.proofs.Basics.{true_false}
use Rattle.hc_effects.proofs.Vocabulary.{is_open, is_wanted, Lawful}
use Rattle.hc_msg.specs.Inputs.{look_of}
use Rattle.hc_peers.specs.Upstreams.{upstream_of, is_news, news_of, has_news_at, look_at}
use Rattle.hc_peers.specs.declared.upstream.Upstream as origin
use Rattle.hc_store.specs.declared.backend.Backend.{Ghosts}
use Rattle.hc_wire.specs.{Events.{Unseen}, Logs.{Log, Called}}
use Rattle.hc_wire.specs.declared.event.WireEvent.TheVariants as wire
use Rattle.hc_proxy.specs.declared.proxy.Proxy as loop
use Rattle.hc_proxy.specs.{Connections.{dials_in}, Hearing.{has_next}, Invariants.{is_due_by, is_part}, Keeping.{Frame, HasUpstreams, IsUpstreamAt}, Network.{has_news, next_of, open_exchanges}, Resting.{Rests, resting_call}, Rows.{Upstream, Proxy}, Waiting.{hears_nothing}}
use Rattle.hc_proxy.proofs.{Ascending.{opens_ascend, opens_are}, HeardAll.{news_among}, SkippedSteps.{among}, StepOn.{law_of}, TakenParts.{news_same, next_same}, Waited.{brings_by, brings, nothing_brought}, HandedOn.{wanted_open}}

-- LISTS

any_there : (test : ℕ → Bool) (xs : List ℕ) (z : ℕ) → among z xs ≡ true → test z ≡ true → list_any test xs ≡ true
any_there test [] z there on = absurd (let never : false ≡ true = there in cc)
any_there test (x ∷ xs) z there on = by_number (nat_eq z x) refl there (λ h. any_there test xs z h on)
  where
    either : (a b : Bool) → b ≡ true → (a || b) ≡ true
    either true b h = refl
    either false b h = h

    by_number : (b : Bool) → nat_eq z x ≡ b → (b || among z xs) ≡ true → (among z xs ≡ true → list_any test xs ≡ true) → (test x || list_any test xs) ≡ true
    by_number true is h rest = (let same : z ≡ x = grind (arith, nat_tests) in rw (sym (ap test same) ∙ on) refl)
    by_number false is h rest = either (test x) (list_any test xs) (rest h)

none_any : (test : ℕ → Bool) (xs : List ℕ) → ((z : ℕ) → among z xs ≡ true → test z ≡ false) → list_any test xs ≡ false
none_any test [] none = refl
none_any test (x ∷ xs) none =
    let here : nat_eq x x ≡ true = grind (arith, nat_tests) in
    rw (none x (rw here refl)) (none_any test xs (λ z there. none z (either (nat_eq z x) (among z xs) there)))
  where
    either : (a b : Bool) → b ≡ true → (a || b) ≡ true
    either true b h = refl
    either false b h = h

-- those so far, and one more
pub none_more : (test : ℕ → Bool) (xs : List ℕ) (z : ℕ) → ((y : ℕ) → among y xs ≡ true → test y ≡ false) → test z ≡ false → (y : ℕ) →
    among y (xs ++ z ∷ []) ≡ true → test y ≡ false
none_more test xs z none off y there = by_place (among_both xs) (among y xs) refl (nat_eq y z) refl
  where
    split_or : (a b d : Bool) → (a || (b || d)) ≡ ((a || b) || d)
    split_or true b d = refl
    split_or false b d = refl

    among_both : (ws : List ℕ) → among y (ws ++ z ∷ []) ≡ (among y ws || (nat_eq y z || false))
    among_both [] = refl
    among_both (w ∷ ws) = ap (λ (b : Bool). nat_eq y w || b) (among_both ws) ∙ split_or (nat_eq y w) (among y ws) (nat_eq y z || false)

    by_place : among y (xs ++ z ∷ []) ≡ (among y xs || (nat_eq y z || false)) → (a : Bool) → among y xs ≡ a → (b : Bool) → nat_eq y z ≡ b → test y ≡ false
    by_place both true first b is = none y first
    by_place both false first true is = (let same : y ≡ z = grind (arith, nat_tests) in ap test same ∙ off)
    by_place both false first false is = true_false (sym there ∙ (both ∙ rw (first, is) refl))

-- ONE ROW

row_alike : (taken : ℕ → ℕ) (o : Option origin.Upstream) (r : Option Upstream) → IsUpstreamAt taken o r →
    (has_news_at o && has_next (look_at o)) ≡ brings_by true r
row_alike taken None r is = absurd is
row_alike taken (Some u) None is = absurd is
row_alike taken (Some u) (Some v) is = rw (news_same (taken u.k) u v is, next_same (taken u.k) u v is) refl

-- nothing is brought where none is wanted, or nothing is due
none_wanted : (o : Option Upstream) → brings_by false o ≡ false
none_wanted None = refl
none_wanted (Some v) = refl

none_due : (wanted : Bool) (o : Option Upstream) → is_due_by wanted o ≡ false → brings_by wanted o ≡ false
none_due wanted None off = refl
none_due wanted (Some v) off = by_test (wanted && has_news v) (has_next (look_of (next_of v))) (v.ended && not (is_part (next_of v))) off
  where
    by_test : (a b d : Bool) → (a || d) ≡ false → (a && b) ≡ false
    by_test true b d h = true_false h
    by_test false b d h = refl

brings_wanted : (wanted : Bool) (o : Option Upstream) → brings_by wanted o ≡ true → wanted ≡ true
brings_wanted true o on = refl
brings_wanted false o on = true_false (sym on ∙ none_wanted o)

any_call : Called
any_call = record { wait = false; moment = 0; event = wire.Quiet; bytes = []; standings = [] }

module _ {B : Type 0} {g : Ghosts B} (f : Frame) (x : loop.Proxy B g) (p : Proxy) (log : Log) (r : Rests f x p log) where
  law : Lawful p.tables
  law = law_of f x p r.cache

  ups : HasUpstreams (record { frame = f; call = resting_call log any_call; dialled = dials_in p log; stages = λ k. Unseen }) x p []
  ups = r.upstreams any_call (λ k. Unseen)

  -- what is open was dialled
  within : (y : ℕ) → is_open (p.tables.exchange y) ≡ true → (b : Bool) → nat_lt p.tables.opened y ≡ b → y ≤ length (dials_in p log)
  within y on true past =
      let none : p.tables.exchange y ≡ None = law.sound.numbered.lists.new_exchanges y (grind (arith, nat_tests)) in
      true_false (sym on ∙ ap is_open none)
  within y on false past =
      let le : y ≤ p.tables.opened = grind (arith, nat_tests) in
      let same : length (dials_in p log) ≡ p.tables.opened = r.opened in
      omega arith

  pub brings_same : (y : ℕ) →
      (is_wanted (p.tables.exchange y) && has_news_at (upstream_of x.upstreams y) && has_next (look_at (upstream_of x.upstreams y))) ≡ brings p y
  brings_same y = by_wanted (is_wanted (p.tables.exchange y)) refl
    where
      by_wanted : (b : Bool) → is_wanted (p.tables.exchange y) ≡ b →
          (b && has_news_at (upstream_of x.upstreams y) && has_next (look_at (upstream_of x.upstreams y))) ≡ brings_by b (p.upstream y)
      by_wanted false off = sym (none_wanted (p.upstream y))
      by_wanted true on =
          let opens : is_open (p.tables.exchange y) ≡ true = wanted_open (p.tables.exchange y) on in
          row_alike _ (upstream_of x.upstreams y) (p.upstream y) (ups.rows y opens (within y opens (nat_lt p.tables.opened y) refl))

  answer : hears_nothing f.limits p ≡ not (list_any (brings p) (open_exchanges p.tables))
  answer = nothing_brought f.limits p r.heard r.cache.headed (opens_ascend p.tables law)

  -- ONE BRINGS SOMETHING

  pub some_heard : (z : ℕ) → brings p z ≡ true → true ≡ not (hears_nothing f.limits p)
  some_heard z on =
      let opens : is_open (p.tables.exchange z) ≡ true =
      wanted_open (p.tables.exchange z) (brings_wanted (is_wanted (p.tables.exchange z)) (p.upstream z) on) in
      let any : list_any (brings p) (open_exchanges p.tables) ≡ true = any_there (brings p) (open_exchanges p.tables) z (opens_are p.tables law z ∙ opens) on in
      sym (ap not (answer ∙ ap not any))

  -- NONE DOES

  pub none_heard : ((y : ℕ) → among y (news_of x.upstreams) ≡ true → brings p y ≡ false) → false ≡ not (hears_nothing f.limits p)
  none_heard none =
      let any : list_any (brings p) (open_exchanges p.tables) ≡ false =
      none_any (brings p) (open_exchanges p.tables) (λ z there. by_news z there (is_news x.upstreams z) refl) in
      sym (ap not (answer ∙ ap not any))
    where
      by_news : (z : ℕ) → among z (open_exchanges p.tables) ≡ true → (b : Bool) → is_news x.upstreams z ≡ b → brings p z ≡ false
      by_news z there true listed = none z (news_among x.upstreams z ∙ listed)
      by_news z there false off =
          none_due (is_wanted (p.tables.exchange z)) (p.upstream z) (ups.news z (sym (opens_are p.tables law z) ∙ there) off refl)
