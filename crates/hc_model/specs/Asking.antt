-- When an exchange is asked for bytes: not yet behind its head, and not yet behind a piece of it.
use Rattle.std.specs.Prelude.{◌≡◌, ℕ, [], ◌∷◌, true, false, Some}
use Rattle.hc_event.specs.Filters.{is_denied}
use Rattle.hc_model.specs.Entries.{History, Contents}
use Rattle.hc_model.specs.Exchanges.{exchange_in}
use Rattle.hc_model.specs.Rows.{Exchange}
use Rattle.hc_model.specs.Tables.{tables}
use Rattle.hc_model.specs.Writers.{brings_body}

-- Where the last entry is an accepted head or piece, nothing more was asked of its exchange.
abbrev pub AsksAnew : Contents → History → Type 0
AsksAnew contents [] = Unit {0}
AsksAnew contents (e ∷ h) =
    (x : ℕ) (w : Exchange) → is_denied e.acts ≡ false → brings_body e.event ≡ true →
    exchange_in e.event ≡ Some x → (tables contents (e ∷ h)).exchange x ≡ Some w → w.asked ≡ false
