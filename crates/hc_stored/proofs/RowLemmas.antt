-- A row agrees with what its slot holds after each change.
--
-- To agree has several parts, and each change touches few of them; the others are taken over. Bytes and seals change
-- the summary and the reach (`shelved-filled`, `shelved-sealed`). Neither kind nor total tells how fresh a head is
-- (`lifetime-sealed`), so the summary still follows. Consumers change who is bound: that still ascends, and where the
-- row is gone somebody is left (`shelved-bound`, `shelved-left`). A founded row has its consumer.
use Rattle.std.{proofs.{Common.{◌≡◌, ℕ, ◌+◌, ◌<◌, ◌^◌, List, [], ◌∷◌, length, Bool, true, false, not, eqb, Option, Some, None, refl, ap, ◌∙◌, arith}, lemmas.Bool.Decides.{nat_tests}}, specs.Prelude.{option_map, ◌&&◌}}
use Rattle.hc_text.proofs.{Basics.{or_right}, SortedLemmas.{is_sorted-with, is_sorted-filter, has-with, has-without}}
use Rattle.hc_text.specs.Sorted.{has, with_item, without, itself}
use Rattle.hc_record.specs.{declared.kind.Kind.{Kind}, Head.{Head, sealed_head}}
use Rattle.hc_fresh.specs.{Ages.{corrected_initial_age}, Facts.{head_facts}, Lifetimes.{lifetime, lifetime_by}}
use Rattle.hc_cachectl.specs.Directives.{of_response}
use Rattle.hc_entry.specs.Used.{unless_it}
use Rattle.hc_store.specs.{Heads.{with_kind}, Slots.{Held, bare, rewrites, puts, seals}}
use Rattle.hc_stored.specs.{Begun.{begun_row}, Heads.{Summary, summary_of}, Kept.{is_nobody}, Rows.{Row, with_summary, with_last, reaching, sealed_as, used_by, used_first_by, unused_by, going, losing, written_in, founded_row}, Shelved.{is_among, IsShelved}}

summary-is : (b : Held) (summary : Summary) → option_map (λ (h : Held). summary_of h.head) (Some b) ≡ Some summary → summary_of b.head ≡ summary
summary-is b summary is = let e = is in cc

-- neither kind nor total tells how fresh a head is
lifetime-sealed : (kind : Kind) (total : Option ℕ) (head : Head) (age : Option ℕ) → lifetime_by age (sealed_head kind total head) ≡ lifetime_by age head
lifetime-sealed kind total head age = grind (arith, nat_tests)

summary-sealed : (kind : Kind) (total : Option ℕ) (head : Head) →
    summary_of (sealed_head kind total head) ≡ record (summary_of head) { kind = kind; total = total }
unfolding corrected_initial_age lifetime
summary-sealed kind total head =
    ap (λ (n : ℕ). record (summary_of head) { facts = record (head_facts head) { lifetime = n }; kind = kind; total = total })
    (lifetime-sealed kind total head (of_response head.fields).max_age)

summary-with : (last : Option Kind) (head : Head) → summary_of (with_kind last head) ≡ with_last last (summary_of head)
summary-with None head = refl
summary-with (Some kind) head = summary-sealed kind head.total head

-- HEAD AND BYTES

pub shelved-filled : (at x : ℕ) (bytes : List ℕ) (last : Option Kind) (a : Row) (b : Held) → 0 < length bytes → IsShelved (Some b) a
    → IsShelved (Some (puts at x bytes last b)) (reaching (at + length bytes) last a)
shelved-filled at x bytes last a b some h = search (arith, summary-with, summary-is)

pub shelved-sealed : (kind : Kind) (total : Option ℕ) (a : Row) (b : Held) → IsShelved (Some b) a →
    IsShelved (Some (seals kind total b)) (sealed_as kind total a)
shelved-sealed kind total a b h = search (arith, summary-sealed, summary-is)

pub shelved-rewritten : (head : Head) (summary : Summary) (a : Row) (b : Held) → summary ≡ summary_of head → IsShelved (Some b) a →
    IsShelved (Some (rewrites head b)) (with_summary summary a)
shelved-rewritten head summary a b is h = search arith

-- CONSUMERS

somebody : (c : ℕ) (bound : List ℕ) → is_nobody (with_item itself c bound) ≡ false
somebody c [] = refl
somebody c (d ∷ bound) = grind (arith, nat_tests)

has-more : (c d : ℕ) (bound : List ℕ) → has itself d bound ≡ true → has itself d (with_item itself c bound) ≡ true
has-more c d bound there = has-with itself d c bound ∙ rw there (or_right (eqb c d) true refl)

among-with : (c : ℕ) (first : Option ℕ) (bound : List ℕ) → is_among first bound ≡ true → is_among first (with_item itself c bound) ≡ true
among-with c None bound among = refl
among-with c (Some d) bound among = has-more c d bound among

has-itself : (c : ℕ) (bound : List ℕ) → has itself c (with_item itself c bound) ≡ true
has-itself c bound = has-with itself c c bound ∙ (let e : eqb c c ≡ true = grind (arith, nat_tests) in rw e refl)

pub shelved-bound : (c : ℕ) (a : Row) (b : Held) → has itself c a.bound ≡ false → IsShelved (Some b) a → IsShelved (Some b) (used_by c a)
shelved-bound c a b absent h = record {
  number = h.number;
  live = refl;
  summary = h.summary;
  reach = h.reach;
  ascending = is_sorted-with itself c a.bound h.ascending absent;
  first = among-with c a.first a.bound h.first;
  used = λ gone. somebody c a.bound;
}

pub shelved-first : (c : ℕ) (a : Row) (b : Held) → has itself c a.bound ≡ false → IsShelved (Some b) a → IsShelved (Some b) (used_first_by c a)
shelved-first c a b absent h = record {
  number = h.number;
  live = refl;
  summary = h.summary;
  reach = h.reach;
  ascending = is_sorted-with itself c a.bound h.ascending absent;
  first = has-itself c a.bound;
  used = λ gone. somebody c a.bound;
}

among-without : (c : ℕ) (first : Option ℕ) (bound : List ℕ) → is_among first bound ≡ true → is_among (unless_it c first) (without itself c bound) ≡ true
among-without c first bound among = search (arith, has-without, itself)

-- with nobody it isn't gone
used-still : (gone nobody : Bool) → gone && nobody ≡ false → gone ≡ true → nobody ≡ false
used-still gone nobody is gone1 = cc

pub shelved-left : (c : ℕ) (a : Row) (b : Held) → a.is_gone && is_nobody (without itself c a.bound) ≡ false → IsShelved (Some b) a →
    IsShelved (Some b) (unused_by c a)
shelved-left c a b kept h = record {
  number = h.number;
  live = refl;
  summary = h.summary;
  reach = h.reach;
  ascending = is_sorted-filter itself (λ x. not (eqb x c)) a.bound h.ascending;
  first = among-without c a.first a.bound h.first;
  used = used-still a.is_gone (is_nobody (without itself c a.bound)) kept;
}

-- WHAT BECOMES OF IT

pub shelved-going : (a : Row) (b : Held) → is_nobody a.bound ≡ false → IsShelved (Some b) a → IsShelved (Some b) (going a)
shelved-going a b somebody h = search arith

pub shelved-lost : (alone : Option ℕ) (a : Row) (b : Held) → IsShelved (Some b) a → IsShelved (Some b) (losing alone a)
shelved-lost alone a b h = search arith

pub shelved-written : (x : ℕ) (a : Row) (b : Held) → IsShelved (Some b) a → IsShelved (Some b) (written_in x a)
shelved-written x a b h = search arith

-- FOUNDED

pub shelved-founded : (key : List ℕ) (n : ℕ) (head : Head) (c : ℕ) (is_first : Bool) (writer : Option ℕ) → n < 2 ^ 64
    → IsShelved (Some (bare head)) (founded_row key n (summary_of head) c is_first writer)
shelved-founded key n head c is_first writer number = search arith

pub shelved-begun : (key : List ℕ) (n : ℕ) (head : Head) → n < 2 ^ 64 → IsShelved (Some (bare head)) (begun_row key n (summary_of head))
shelved-begun key n head number = search arith
