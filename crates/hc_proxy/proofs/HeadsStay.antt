-- An exchange keeps its head. So where the answers were read behind their heads, the exchanges have these behind an
-- entry too.
use Rattle.std.{proofs.Common.{◌≡◌, ◌⊎◌, inl, inr, ℕ, Bool, true, false, Option, Some, None, refl, ap, sym, ◌∙◌}, specs.Prelude.{nat_eq, is_some, if◌then◌else◌}}
use Rattle.hc_effects.proofs.Vocabulary.{opening_in, Event, Entry, exchange_after, exchange_heard, with_head, with_piece, Tables, Exchange, after, event}
use Rattle.hc_proxy.specs.{Headed.{has_head, IsReadAs, AreHeaded}, Rows.{Proxy}, Steps.{with_entry}}
use Rattle.hc_proxy.proofs.OpenAfter.{OpensIt, was_open, exchange_behind}

heard_headed : (t : Tables) (e : Entry) (y : ℕ) (ev : Event) (w : Exchange) → is_some w.head ≡ true → is_some (exchange_heard t e y ev w).head ≡ true
heard_headed t e y (event.Start c request) w h = h
heard_headed t e y (event.Poll c want) w h = h
heard_headed t e y (event.Head x response) w h = by_test (nat_eq x y)
  where
    by_test : (b : Bool) → is_some (if b then with_head t e response w else w).head ≡ true
    by_test true = refl
    by_test false = h
heard_headed t e y (event.Piece x bytes) w h = by_test (nat_eq x y)
  where
    by_test : (b : Bool) → is_some (if b then with_piece bytes w else w).head ≡ true
    by_test true = h
    by_test false = h
heard_headed t e y (event.End x) w h = by_test (nat_eq x y)
  where
    by_test : (b : Bool) → is_some (if b then record w { is_ended = true; is_open = false } else w).head ≡ true
    by_test true = h
    by_test false = h
heard_headed t e y (event.Fault x) w h = by_test (nat_eq x y)
  where
    by_test : (b : Bool) → is_some (if b then record w { is_open = false } else w).head ≡ true
    by_test true = h
    by_test false = h
heard_headed t e y (event.Cancel c) w h = h
heard_headed t e y (event.Doom key) w h = h

row_headed : (t : Tables) (e : Entry) (y : ℕ) (o : Option Exchange) → has_head o ≡ true → has_head (exchange_after t e y o) ≡ true
unfolding exchange_after
row_headed t e y None h = absurd (let never : false ≡ true = h in cc)
row_headed t e y (Some w) h = heard_headed t e y e.event w h

pub head_stays : (t : Tables) (e : Entry) (y : ℕ) → has_head (t.exchange y) ≡ true → has_head ((after t e).exchange y) ≡ true
head_stays t e y h = by_row (exchange_behind t e y)
  where
    by_row : ((after t e).exchange y ≡ t.exchange y) ⊎ ((after t e).exchange y ≡ exchange_after t e y (t.exchange y)) → has_head ((after t e).exchange y) ≡ true
    by_row (inl same) = ap has_head same ∙ h
    by_row (inr is) = ap has_head is ∙ row_headed t e y (t.exchange y) h

-- of an exchange that is opened nothing came
pub headed_on : (p : Proxy) (e : Entry) → ((y : ℕ) → OpensIt y (opening_in e.acts) → p.upstream y ≡ None) → AreHeaded p → AreHeaded (with_entry e p)
unfolding with_entry
headed_on p e new h y v on row = elim (was_open p.tables e y on) as (λ _. IsReadAs v.reading ((after p.tables e).exchange y)) [
  | inl was ↦ ((h y v was row).0, λ begun. head_stays p.tables e y ((h y v was row).1 begun))
  | inr opens ↦ absurd (let never : None ≡ Some v = sym (new y opens) ∙ row in cc)
]
