-- What is beside soundness holds from the beginning, and stays so at each entry.
use Rattle.std.proofs.{lemmas.Bool.Decides.{nat_tests}, Common.{arith, ◌≡◌, ℕ, None, sym, ◌∙◌}}
use Rattle.hc_text.proofs.Basics.{not_some as none_some}
use Rattle.hc_effects.proofs.Vocabulary.{Event, Limits, denial, Entry, Contents, Flaw, entry_of, AfterDenials, Measures, Owners, Tables, Representation, Consumer, Sound, IsBound, first_tables, after_accepted, after_denied}
use Rattle.hc_model.specs.Sound as sound
use Rattle.hc_effects.proofs.{Beside.{IsBeside}, LossBy.{IsReal}, Losses.{HasRest}, Step.{step_of}}
use Rattle.hc_laws.proofs.{CachedKeeps.{cached_kept}, CoversKept.{covered_kept}, DeniedKeeps.{written_same, was_bound, was_first, was_exclusive_writer}, Rests.{rested_kept}}

-- nobody reads at the beginning
pub nobody : (contents : Contents) (r c : ℕ) (k : Consumer) → IsBound (first_tables contents) r c k → ⊥
nobody contents r c k (sound.is_bound lo hi how row at) = none_some k row

pub beside_begun : (contents : Contents) → IsBeside (first_tables contents)
beside_begun contents = grind (arith, nat_tests)

still_rests : (t : Tables) (e : Entry) (v : Representation) (k : Consumer) → HasRest t v k → HasRest (after_denied t e) v k
still_rests t e v k rest = record { hi = rest.hi; end = rest.end; covered = rest.covered }

pub beside_denied : AfterDenials IsBeside
beside_denied t e i = record {
  covered = λ r c x v k w there exclusive_writer reader none own row. i.covered r c x v k w there (was_exclusive_writer t e r c v exclusive_writer)
      (was_bound t e r c k reader) none own row;
  rested = λ r c v k there fresh first reader none own off. still_rests t e v k
      (i.rested r c v k there fresh (was_first t e r c first) (was_bound t e r c k reader) none own (sym (written_same t e v) ∙ off));
  cached = i.cached;
}

pub beside_kept : (limits : Limits) (t : Tables) (now : ℕ) (flaw : Flaw) → Sound t → Owners t → Measures t → IsBeside t → (ev : Event) →
    denial t ev ≡ None → IsReal limits t now ev flaw → IsBeside (after_accepted t (entry_of limits t now ev flaw))
beside_kept limits t now flaw s o m i ev goes real = record {
  covered = λ r c x v k w there exclusive_writer reader none own row. covered_kept (step_of limits t now flaw s o ev goes) m i real r c x v k w there
      exclusive_writer reader none own row;
  rested = λ r c v k there fresh first reader none own off. rested_kept (step_of limits t now flaw s o ev goes) m i real r c v k there fresh first reader
      none own off;
  cached = λ c k row at. cached_kept (step_of limits t now flaw s o ev goes) i c k row at;
}
