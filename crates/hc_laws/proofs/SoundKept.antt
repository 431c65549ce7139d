-- What is sound stays so at each real entry, but for the detached reader.
use Rattle.std.proofs.Common.{◌≡◌, ℕ, Some, None}
use Rattle.hc_effects.proofs.Vocabulary.{Event, Limits, denial, Flaw, entry_of, Measures, Owners, Tables, Representation, Consumer, Sound, IsBound, IsAlone, after_accepted}
use Rattle.hc_effects.proofs.{AboutKeeps.{own_about_kept}, BoundKeeps.{binds_kept}, CurrentKeeps.{one_current_is_kept}, EventsKeep.{deliveries_are_kept}, FirstKeeps.{ends_kept, one_first_kept}, HasBound.{has_bound_kept}, LossBy.{IsReal}, NamesKeep.{names_are_kept}, NumbersKeep.{numbers_are_kept}, ServedKeeps.{served_kept}, ToBeShown.{unshown_kept}, Step.{step_of}}
use Rattle.hc_laws.proofs.{GrowingKeeps.{growing_kept}, HadHeaded.{had_kept}, StoreKeeps.{stores_are_kept}, UndueKeeps.{undue_kept}}

-- the detached reader reads on soundly
abbrev pub GoAlone : Tables → Type 0
GoAlone t = (r c : ℕ) (v : Representation) (k : Consumer) → t.representation r ≡ Some v → v.alone ≡ Some c → IsBound t r c k → k.due ≡ None → IsAlone t v k

-- Each field of soundness but the last stays.
pub sound_kept : (limits : Limits) (t : Tables) (now : ℕ) (flaw : Flaw) → Sound t → Owners t → Measures t → (ev : Event) → denial t ev ≡ None →
    IsReal limits t now ev flaw → GoAlone (after_accepted t (entry_of limits t now ev flaw)) → Sound (after_accepted t (entry_of limits t now ev flaw))
sound_kept limits t now flaw s o m ev goes real alone = record {
  numbered = record {
    lists = numbers_are_kept limits t now flaw s ev goes;
    names = names_are_kept limits t now flaw s ev goes;
    bound_to = λ r c k reader. binds_kept limits t now flaw s ev goes r c k reader;
  };
  waits = (deliveries_are_kept limits t now flaw s ev goes).waits;
  one_about = (deliveries_are_kept limits t now flaw s ev goes).one_about;
  writes = record {
    one_first = one_first_kept limits t now flaw s ev goes;
    served = λ r c v k row reader none. served_kept (step_of limits t now flaw s o ev goes) m real r c v k row reader none;
    had = λ r x v row about. had_kept (step_of limits t now flaw s o ev goes) m real r x v row about;
    known_end = λ r c lo hi how k row at first. ends_kept limits t now flaw s ev goes r c lo hi how k row at first;
    own_about = λ r c x k reader own. own_about_kept (step_of limits t now flaw s o ev goes) real.stand r c x k reader own;
    undue = λ r c v k row reader on. undue_kept (step_of limits t now flaw s o ev goes) real.stand r c v k row reader on;
    has_bound = λ r v row on. has_bound_kept (step_of limits t now flaw s o ev goes) real.stand r v row on;
  };
  rows = λ r v row. record {
    store = stores_are_kept limits t now flaw s ev goes r v row;
    growing = λ x on writer. growing_kept (step_of limits t now flaw s o ev goes) m real.stand r x v row on writer;
  };
  one_current = one_current_is_kept limits t now flaw s ev;
  unshown = λ c r lo hi how k row at off. unshown_kept (step_of limits t now flaw s o ev goes) c r lo hi how k row at off;
  alone = alone;
}
