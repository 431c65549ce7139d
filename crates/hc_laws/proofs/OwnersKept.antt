-- Whose each exchange is stays told, from the beginning on.
use Rattle.std.proofs.Common.{◌≡◌, ℕ, true, None}
use Rattle.hc_text.proofs.Basics.{not_some as none_some}
use Rattle.hc_effects.proofs.Vocabulary.{Event, Limits, denial, Contents, Flaw, entry_of, Owners, Tables, may_stand, Sound, after_accepted, first_tables}
use Rattle.hc_effects.proofs.{ApartKeeps.{apart_kept}, OwnersKeep.{openers_kept, there_kept, one_kept, first_kept, writers_kept}, PastKeeps.{past_kept}, ReadingKeeps.{reading_kept}, WaitingKeeps.{waiting_kept}, Step.{step_of}}
use Rattle.hc_laws.proofs.{FirstDueKeeps.{first_due_kept}, FirstDues.{idle_kept}, Founders.{founders_kept}, PassedKeeps.{passed_kept}, KeysPlaces.{loaded_writer}}

pub owners_kept : (limits : Limits) (t : Tables) (now : ℕ) (flaw : Flaw) → Sound t → Owners t → (ev : Event) → denial t ev ≡ None →
    may_stand limits t (entry_of limits t now ev flaw) ≡ true → Owners (after_accepted t (entry_of limits t now ev flaw))
owners_kept limits t now flaw s o ev goes stand = record {
  opener = λ x u row. openers_kept (step_of limits t now flaw s o ev goes) x u row;
  there = λ c x u row is. there_kept (step_of limits t now flaw s o ev goes) c x u row is;
  one = λ c d x k u row also is too. one_kept (step_of limits t now flaw s o ev goes) c d x k u row also is too;
  apart = λ r x c v u row on writer also is. apart_kept (step_of limits t now flaw s o ev goes) stand r x c v u row on writer also is;
  waiting = λ x u row on bare. waiting_kept (step_of limits t now flaw s o ev goes) stand x u row on bare;
  first_own = λ c r lo y hi u row at. first_kept (step_of limits t now flaw s o ev goes) c r lo y hi u row at;
  passed = λ c r kept u row at. passed_kept (step_of limits t now flaw s o ev goes) c r kept u row at;
  writers = λ r x u row is. writers_kept (step_of limits t now flaw s o ev goes) r x u row is;
  founders = λ r u v row also. founders_kept (step_of limits t now flaw s o ev goes) r u v row also;
  reading = λ c x u z row own also opened headed. reading_kept (step_of limits t now flaw s o ev goes) c x u z row own also opened headed;
  past = λ c x u row at off. past_kept (step_of limits t now flaw s o ev goes) stand c x u row at off;
  idle_due = λ c u row idle. idle_kept (step_of limits t now flaw s o ev goes) c u row idle;
  first_due = λ r c d v k u after kept is_first row none reader. first_due_kept (step_of limits t now flaw s o ev goes) r c d v k u after kept is_first
      row none reader;
}

pub owners_begun : (contents : Contents) → Owners (first_tables contents)
owners_begun contents = record {
  opener = λ x w row. absurd (none_some w row);
  there = λ c x k row is. absurd (none_some k row);
  one = λ c d x k u row also is too. absurd (none_some k row);
  apart = λ r x c v k row on writer also is. none_some k also;
  waiting = λ x w row on bare. absurd (none_some w row);
  first_own = λ c r lo y hi k row at. absurd (none_some k row);
  passed = λ c r kept k row at. absurd (none_some k row);
  writers = λ r x v row writer. absurd (loaded_writer _ v x row writer);
  founders = λ r w v row also. absurd (none_some w row);
  reading = λ c x k w row is also opened headed. absurd (none_some k row);
  past = λ c x k row at off. absurd (none_some k row);
  idle_due = λ c k row idle. absurd (none_some k row);
  first_due = λ r c d v k u row kept is_first also none reader. absurd (none_some k also);
}
