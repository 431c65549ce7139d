-- Who was told in a turn that it is over is over, behind each entry of the turn.
use Rattle.std.proofs.Common.{◌≡◌, inl, inr, ℕ, true, false, Option, Some, None, refl, ap, sym, ◌∙◌}
use Rattle.hc_text.proofs.Basics.{or_cases}
use Rattle.hc_effects.proofs.Vocabulary.{leaves_in, Limits, consumer_after, consumer_settled, consumer_acted, consumer_heard, is_live, Entry, Lawful, Tables, Consumer, IsOwed, after}
use Rattle.hc_proxy.specs.{Carrying.{acts_in}, Rows.{Proxy}, Steps.{with_entry}, Invariants.{AreOver}}
use Rattle.hc_proxy.proofs.Holders.{leaves_append}
use Rattle.hc_laws.proofs.{LiveAfter.{consumer_behind, dead_stays}, WhoLeaves.{reported_over, reported_live}}
use Rattle.hc_core.proofs.NobodyLive.{over_by as over_place}

-- it started, and is over
pub record IsOver (t : Tables) (c : ℕ) : Type 0 where
  pub k : Consumer
  pub row : t.consumer c ≡ Some k
  pub over : is_live (t.consumer c) ≡ false

-- whoever was told so in this turn
abbrev pub HasOver : Proxy → Type 0
HasOver p = (c : ℕ) → leaves_in c (acts_in p.part) ≡ true → IsOver p.tables c

pub are_over : (p : Proxy) → HasOver p → AreOver (acts_in p.part) p
are_over p h c leaves = (h c leaves).over

-- THE ROW BEHIND AN ENTRY

-- who started stays
row_stays : (t : Tables) (e : Entry) (c : ℕ) (k : Consumer) → t.consumer c ≡ Some k → (q : Consumer) × ((after t e).consumer c ≡ Some q)
unfolding consumer_after
row_stays t e c k row = elim (consumer_behind t e c) as (λ _. (q : Consumer) × ((after t e).consumer c ≡ Some q)) [
  | inl same ↦ (k, same ∙ row)
  | inr on ↦ (consumer_settled t e c k (consumer_acted t e c (consumer_heard t e c e.event k)), on.1 ∙ ap (consumer_after t e c) row)
]

some_row : (o : Option Consumer) → is_live o ≡ true → (k : Consumer) × (o ≡ Some k)
some_row None h = absurd (let never : false ≡ true = h in cc)
some_row (Some k) h = (k, refl)

module _ (limits : Limits) (t : Tables) (e : Entry) (law : Lawful t) (is : IsOwed limits t e) where
  -- who is over stays so
  pub over_stays : (c : ℕ) → IsOver t c → IsOver (after t e) c
  over_stays c o =
      let behind = row_stays t e c o.k o.row in
      record { k = behind.0; row = behind.1; over = off }
    where
      off : is_live ((after t e).consumer c) ≡ false
      off = elim (consumer_behind t e c) as (λ _. is_live ((after t e).consumer c) ≡ false) [
        | inl same ↦ ap is_live same ∙ o.over
        | inr on ↦ ap is_live on.1 ∙ dead_stays limits t e law is c o.k on.0 o.row (over_place o.k.place (sym (ap is_live o.row) ∙ o.over))
      ]

  -- who is told so is over
  pub reported_is_over : (c : ℕ) → leaves_in c e.acts ≡ true → IsOver (after t e) c
  reported_is_over c leaves =
      let was = some_row (t.consumer c) (reported_live limits t e law is c leaves) in
      let behind = row_stays t e c was.0 was.1 in
      record { k = behind.0; row = behind.1; over = reported_over limits t e law is c leaves }

-- an entry keeps it
pub over_keeps : (limits : Limits) (p : Proxy) (e : Entry) → Lawful p.tables → IsOwed limits p.tables e → HasOver p → HasOver (with_entry e p)
unfolding with_entry
over_keeps limits p e law is h c leaves =
    elim (or_cases (leaves_in c (acts_in p.part)) (leaves_in c e.acts) (sym (leaves_append c (acts_in p.part) e.acts) ∙ leaves)) as
    (λ _. IsOver (after p.tables e) c) [
      | inl before ↦ over_stays limits p.tables e law is c (h c before)
      | inr now ↦ reported_is_over limits p.tables e law is c now
    ]
