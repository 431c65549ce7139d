-- What the generator knows.
use Rattle.std.specs.Prelude.{◌≡◌, ℕ, ◌≤◌, List, [], true}
use Rattle.hc_text.specs.Sorted.{is_sorted, has, itself}
use Rattle.hc_generate.specs.declared.counts.Counts.{Counts}
use Rattle.hc_generate.specs.declared.exchange.Exchange.{Exchange}
use Rattle.hc_generate.specs.Sending.{number_of}
use Rattle.hc_generate.specs.Summary.{summary}

pub record State : Type 0 where
  -- the state of the draws
  pub draws : ℕ
  pub moment : ℕ
  -- the consumer that started last
  pub last : ℕ
  -- the live consumers, in ascending order of their numbers
  pub live : List ℕ
  -- what is owed to exchanges, in ascending order of their numbers
  pub exchanges : List Exchange
  pub counts : Counts

-- nothing was made yet
abbrev pub beginning : ℕ → State
beginning seed = record { draws = seed; moment = 1000000; last = 0; live = []; exchanges = []; counts = summary [] }

-- Numbers rise, and none of a live consumer is above the last.
pub record IsInOrder (last : ℕ) (live : List ℕ) (exchanges : List Exchange) : Type 0 where
  pub live_rise : is_sorted itself live ≡ true
  pub live_started : (c : ℕ) → has itself c live ≡ true → c ≤ last
  pub exchanges_rise : is_sorted number_of exchanges ≡ true
