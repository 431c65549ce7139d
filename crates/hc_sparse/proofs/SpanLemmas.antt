-- Spans that somebody has.
use Rattle.std.{proofs.{Common.{◌≡◌, ◌≢◌, inl, inr, ℕ, Some, None, refl, sym, ◌∙◌, ◌+◌, arith}, lemmas.Bool.{cases_eq}}, specs.{Ordering.{nat_cmp}, BTreeMap.{BTreeMap, get, Updates}}}
use Rattle.hc_text.proofs.Basics.{lt_or as split}
use Rattle.hc_sparse.specs.{Extents.{Marks, HaveAll, claimed_marks}, SpanMaps.{IsSpan, AllHad}}
use Rattle.hc_sparse.proofs.CellLemmas.{inside-yes, inside-cases}

-- A span that is put over two beside it, of which the first goes.
pub record IsJoined (m n : BTreeMap ℕ ℕ) (at begin last : ℕ) : Type 0 where
  pub gone : get nat_cmp n at ≡ None
  pub put : at ≢ last → IsSpan n begin last
  pub others : (q : ℕ) → at ≢ q → last ≢ q → get nat_cmp n q ≡ get nat_cmp m q

pub joined : (m n k : BTreeMap ℕ ℕ) (at begin last : ℕ) → Updates nat_cmp m n last (Some begin) → Updates nat_cmp n k at None → IsJoined m k at begin last
joined m n k at begin last put taken = search arith

pub all-between : (f : Marks) (begin at end last : ℕ) → HaveAll f begin at → HaveAll f at end → HaveAll f end last → HaveAll f begin last
all-between f begin at end last before own behind q ge lt = elim (split q at) [
  | inl first ↦ before q ge first
  | inr past ↦ elim (split q end) [ inl mid ↦ own q past mid | inr over ↦ behind q over lt ]
]

begins-there : (n : BTreeMap ℕ ℕ) (f : Marks) (begin last lo hi : ℕ) → IsSpan n begin last → HaveAll f begin last → IsSpan n lo hi → last ≡ hi → HaveAll f lo hi
begins-there n f begin last lo hi put all there same =
    let one : begin ≡ lo = cc in
    rw (← one, ← same) all

pub had-joined : (m n : BTreeMap ℕ ℕ) (f : Marks) (at begin last : ℕ) → IsJoined m n at begin last → AllHad m f → HaveAll f begin last → AllHad n f
had-joined m n f at begin last is had all lo hi there = elim (cases_eq at hi) [
  | inl gone ↦ absurd (let none = rw gone at is.gone in cc)
  | inr stays ↦ elim (cases_eq last hi) [
    | inl same ↦ begins-there n f begin last lo hi (is.put (λ at-last. stays (at-last ∙ same))) all there same
    | inr other ↦ had lo hi (sym (is.others hi stays other) ∙ there)
  ]
]

pub had-same : (m n : BTreeMap ℕ ℕ) (f : Marks) → n.entries ≡ m.entries → AllHad m f → AllHad n f
had-same m n f same had lo hi there = had lo hi (rw same at there)

-- What somebody has is had after more is given to an exchange.
pub all-claimed : (f : Marks) (at len x from lo hi : ℕ) → HaveAll f lo hi → HaveAll (claimed_marks at len x from f) lo hi
all-claimed f at len x from lo hi all o ge lt = elim (inside-cases at len o) [ inl here ↦ rw here.0 refl | inr off ↦ rw off.0 (all o ge lt) ]

pub all-same : (f g : Marks) (lo hi : ℕ) → ((q : ℕ) → g q ≡ f q) → HaveAll f lo hi → HaveAll g lo hi
all-same f g lo hi same all o ge lt = rw (same o) (all o ge lt)

pub own-had : (f g : Marks) (at len x from : ℕ) → ((q : ℕ) → g q ≡ claimed_marks at len x from f q) → HaveAll g at (at + len)
own-had f g at len x from own o ge lt = rw (own o, inside-yes at len o ge lt) refl

pub had-more : (m : BTreeMap ℕ ℕ) (f g : Marks) (at len x from : ℕ) → ((q : ℕ) → g q ≡ claimed_marks at len x from f q) → AllHad m f → AllHad m g
had-more m f g at len x from own had lo hi there = all-same (claimed_marks at len x from f) g lo hi own (all-claimed f at len x from lo hi (had lo hi there))

pub had-still : (m : BTreeMap ℕ ℕ) (f g : Marks) → ((q : ℕ) → g q ≡ f q) → AllHad m f → AllHad m g
had-still m f g same had lo hi there = all-same f g lo hi same (had lo hi there)
