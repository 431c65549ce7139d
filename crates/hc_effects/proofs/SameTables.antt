-- Tables whose parts are the same are the same, and what lists of effects come to.
use Rattle.std.{proofs.{lemmas.Bool.Decides.{nat_tests}, Common.{arith, ◌≡◌, ℕ, List, [], ◌∷◌, Bool, true, false, Option, Some, None, refl, ap, ap₂, ◌∙◌}}, specs.Prelude.{◌==◌, ◌||◌, if◌then◌else◌, option_map}}
use Rattle.hc_text.proofs.Basics.{or_false as or_off}
use mathlib.Core.Path.{fun_ext}
use Rattle.hc_effects.proofs.Vocabulary.{Place, back_in_line, is_number, back_from, as_gone, let_go, let_all_go, let_some_go, over, tables_after_close, all_closed, with_length, Tables, Exchange, Representation, Consumer, with_item_first, place}
use Rattle.hc_model.specs.Effects.{waits_for}

-- PARTS

pub record AreSame (t s : Tables) : Type 0 where
  pub moment : t.moment ≡ s.moment
  pub entries : t.entries ≡ s.entries
  pub received : t.received ≡ s.received
  pub last_start : t.last_start ≡ s.last_start
  pub starts : t.starts ≡ s.starts
  pub opened : t.opened ≡ s.opened
  pub openings : t.openings ≡ s.openings
  pub founded : t.founded ≡ s.founded
  pub used : t.used ≡ s.used
  pub exchange : (x : ℕ) → t.exchange x ≡ s.exchange x
  pub representation : (r : ℕ) → t.representation r ≡ s.representation r
  pub consumer : (c : ℕ) → t.consumer c ≡ s.consumer c

made_of : (s : Tables) (m n v l o : ℕ) (ss os fs us : List ℕ) (x : ℕ → Option Exchange) (r : ℕ → Option Representation) (c : ℕ → Option Consumer) →
    m ≡ s.moment → n ≡ s.entries → v ≡ s.received → l ≡ s.last_start → ss ≡ s.starts → o ≡ s.opened → os ≡ s.openings → fs ≡ s.founded → us ≡ s.used →
    x ≡ s.exchange → r ≡ s.representation → c ≡ s.consumer
    → record {
      moment = m;
      entries = n;
      received = v;
      last_start = l;
      starts = ss;
      opened = o;
      openings = os;
      founded = fs;
      used = us;
      exchange = x;
      representation = r;
      consumer = c;
    } ≡ s
made_of s m n v l o ss os fs us x r c is_m is_n is_v is_l is_ss is_o is_os is_fs is_us is_x is_r is_c =
    rw (is_m, is_n, is_v, is_l, is_ss, is_o, is_os, is_fs, is_us, is_x, is_r, is_c) refl

pub same_tables : (t s : Tables) → AreSame t s → t ≡ s
same_tables t s a = made_of s t.moment t.entries t.received t.last_start t.opened t.starts t.openings t.founded t.used t.exchange t.representation
    t.consumer a.moment a.entries a.received a.last_start a.starts a.opened a.openings a.founded a.used (fun_ext a.exchange) (fun_ext a.representation)
    (fun_ext a.consumer)

-- SEVERAL AT ONCE

abbrev pub is_in : List ℕ → ℕ → Bool
is_in [] n = false
is_in (m ∷ ms) n = m == n || is_in ms n

abbrev pub waits_for_any : List ℕ → Place → Bool
waits_for_any rs (place.Passed q kept) = is_in rs q
waits_for_any rs _ = false

abbrev pub back_from_any : ℕ → List ℕ → Consumer → Consumer
back_from_any now rs k = if waits_for_any rs k.place then back_in_line now k else k

waits_one : (now q : ℕ) (rs : List ℕ) (k : Consumer) (b : Bool) (p : Place) → k.place ≡ p → waits_for q p ≡ b →
    back_from_any now rs (if b then back_in_line now k else k) ≡ (if b || waits_for_any rs p then back_in_line now k else k)
waits_one now q rs k true p at is = refl
waits_one now q rs k false p at is = rw at refl

any_first : (q : ℕ) (rs : List ℕ) (p : Place) → (waits_for q p || waits_for_any rs p) ≡ waits_for_any (q ∷ rs) p
any_first q rs p = grind (arith, nat_tests)

back_first : (now q : ℕ) (rs : List ℕ) (o : Option Consumer) →
    option_map (back_from_any now rs) (option_map (back_from now q) o) ≡ option_map (back_from_any now (q ∷ rs)) o
back_first now q rs None = refl
back_first now q rs (Some k) =
    ap Some (waits_one now q rs k (waits_for q k.place) k.place refl refl ∙ ap (λ (b : Bool). if b then back_in_line now k else k) (any_first q rs k.place))

gone_first : (a b : Bool) (o : Option Representation) →
    (if b then option_map as_gone (if a then option_map as_gone o else o) else (if a then option_map as_gone o else o)) ≡ (if a || b then
    option_map as_gone o else o)
gone_first a b o = grind (arith, nat_tests)

over_first : (a b : Bool) (o : Option Exchange) →
    (if b then option_map over (if a then option_map over o else o) else (if a then option_map over o else o)) ≡ (if a || b then option_map over o else o)
over_first a b o = grind (arith, nat_tests)

-- all that is let go at once
abbrev pub without : ℕ → List ℕ → Tables → Tables
without now rs t = record t {
  representation = λ q. if is_in rs q then option_map as_gone (t.representation q) else t.representation q;
  consumer =
      λ d. option_map (back_from_any now rs) (t.consumer d);
}

stays_mapped : (now : ℕ) (o : Option Consumer) → o ≡ option_map (back_from_any now []) o
stays_mapped now o = grind (arith, nat_tests)

pub all_go_is : (now : ℕ) (rs : List ℕ) (t : Tables) → let_all_go now rs t ≡ without now rs t
all_go_is now [] t = ap (λ (f : ℕ → Option Consumer). record t { consumer = f }) (fun_ext (λ d. stays_mapped now (t.consumer d)))
all_go_is now (r ∷ rs) t =
    all_go_is now rs (let_go now r t)
    ∙ ap₂ (λ (f : ℕ → Option Representation) (g : ℕ → Option Consumer). record t { representation = f; consumer = g })
    (fun_ext (λ q. gone_first (r == q) (is_in rs q) (t.representation q)))
    (fun_ext (λ d. back_first now r rs (t.consumer d)))

pub some_go_is : (now : ℕ) (o : Option ℕ) (t : Tables) → let_some_go now o t ≡ without now (with_item_first o []) t
some_go_is now None t = all_go_is now [] t
some_go_is now (Some r) t = all_go_is now (r ∷ []) t

-- all that is closed at once
abbrev pub shut : List ℕ → Tables → Tables
shut xs t = record t { exchange = λ y. if is_in xs y then option_map over (t.exchange y) else t.exchange y }

pub all_closed_is : (xs : List ℕ) (t : Tables) → all_closed xs t ≡ shut xs t
all_closed_is [] t = refl
all_closed_is (x ∷ xs) t =
    all_closed_is xs (tables_after_close x t)
    ∙ ap (λ (f : ℕ → Option Exchange). record t { exchange = f }) (fun_ext (λ y. over_first (x == y) (is_in xs y) (t.exchange y)))

-- there is one, and it is this one
pub in_one : (o : Option ℕ) (n : ℕ) → is_in (with_item_first o []) n ≡ is_number o n
in_one None n = refl
in_one (Some m) n = or_off (m == n)

-- WHAT CHANGES NOTHING

-- what founded nothing tells no length, nor what tells one already
pub no_length : (x n : ℕ) (t : Tables) → t.representation x ≡ None → with_length x n t ≡ t
no_length x n t none = grind (arith, nat_tests)
