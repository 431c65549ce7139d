-- Who uses a representation, and as what: readers, the members of a writer group, or who is left after a loss.
use Rattle.std.specs.Prelude.{◌≡◌, ℕ, ◌==◌, List, [], ◌∷◌, map, Bool, true, false, Option, Some, None, IfSome, if◌then◌else◌}
use Rattle.hc_text.specs.Sorted.{is_sorted, with_item, without, itself}
use Rattle.hc_rules.specs.declared.admission.Bound.{Bound}
use Rattle.hc_rules.specs.declared.admission.BoundKind.{BoundKind}
use Rattle.hc_rules.specs.declared.admission.BoundKind.TheVariants as kind
use Rattle.hc_rules.specs.declared.admission.Admission.{Admission}
use Rattle.hc_rules.specs.declared.admission.Admission.TheVariants as admission
use Rattle.hc_writers.specs.Group.{Group, consumer_of, is_member, begun, resumed, joined_by, moved_to, grown_by, without_member, left_as}
use Rattle.hc_writers.specs.declared.writers.Left.{Left}
use Rattle.hc_entry.specs.declared.way.Way.{Way}
use Rattle.hc_entry.specs.declared.way.Way.TheVariants as way

-- The consumers that are bound, by number, who of them came alone, and as what all of them are bound.
pub record Used : Type 0 where
  pub bound : List ℕ
  pub first : Option ℕ
  pub way : Way

-- OF THE WAY

abbrev pub group_in : Way → Option Group
group_in way.Readers = None
group_in (way.Writers g) = Some g
group_in (way.Lost alone writer) = None

-- the exchange of the writer group, the last one
abbrev pub writer_in : Way → Option ℕ
writer_in way.Readers = None
writer_in (way.Writers g) = Some g.exchange
writer_in (way.Lost alone writer) = writer

abbrev pub is_lost_in : Way → Bool
is_lost_in way.Readers = false
is_lost_in (way.Writers g) = false
is_lost_in (way.Lost alone writer) = true

-- who goes on after it was lost
abbrev pub alone_in : Way → Option ℕ
alone_in way.Readers = None
alone_in (way.Writers g) = None
alone_in (way.Lost alone writer) = alone

-- HOW ONE MORE MAY BE BOUND

abbrev pub bound_as : BoundKind → ℕ → Bound
bound_as k c = record { c = c; kind = k }

-- all of them, bound in one way
abbrev pub bindings : BoundKind → Used → List Bound
bindings k u = map (bound_as k) u.bound

abbrev pub first_of : List ℕ → Option ℕ
first_of [] = None
first_of (c ∷ cs) = Some c

-- how one more may be bound where all are bound in this way, of whom this is the least
abbrev pub admission_by : BoundKind → Option ℕ → Bool → Bool → Admission
admission_by k None ranged holes = if holes then admission.Exclusive else admission.Reader
admission_by kind.Shared (Some d) ranged holes = if ranged then admission.Behind d else admission.Shared
admission_by kind.Exclusive (Some d) ranged holes = admission.Behind d
admission_by kind.Reader (Some d) ranged holes = if holes then admission.Behind d else admission.Reader

-- BEGINNINGS

abbrev pub nobody : Used
nobody = record { bound = []; first = None; way = way.Readers }

-- with an exchange that writes for several, it is the first member
abbrev pub begun_way : ℕ → Option ℕ → Way
begun_way c None = way.Readers
begun_way c (Some x) = way.Writers (begun x c 0)

abbrev pub founded_by : ℕ → Bool → Option ℕ → Used
founded_by c is_first writer = record {
  bound = c ∷ [];
  first = if is_first then Some c else None;
  way = begun_way c writer;
}

-- WHO COMES

abbrev pub joined_way : ℕ → Way → Way
joined_way c way.Readers = way.Readers
joined_way c (way.Writers g) = way.Writers (joined_by c g)
joined_way c (way.Lost alone writer) = way.Lost alone writer

abbrev pub with_user : ℕ → Used → Used
with_user c u = record { bound = with_item itself c u.bound; first = u.first; way = joined_way c u.way }

-- one that comes alone
abbrev pub with_first : ℕ → Used → Used
with_first c u = record { bound = with_item itself c u.bound; first = Some c; way = joined_way c u.way }

-- an exchange writes for all of them from now on, where so much is stored
abbrev pub resumed_by : ℕ → ℕ → Used → Used
resumed_by x end u = record u { way = way.Writers (resumed x u.bound end) }

-- WHAT COMES

-- a member stands there
abbrev pub moved_if_member : ℕ → ℕ → Group → Group
moved_if_member c offset g = if is_member c g then moved_to c offset g else g

abbrev pub moved_way : ℕ → ℕ → Way → Way
moved_way c offset way.Readers = way.Readers
moved_way c offset (way.Writers g) = way.Writers (moved_if_member c offset g)
moved_way c offset (way.Lost alone writer) = way.Lost alone writer

-- so much more is stored
abbrev pub grown_way : ℕ → Way → Way
grown_way n way.Readers = way.Readers
grown_way n (way.Writers g) = way.Writers (grown_by n g)
grown_way n (way.Lost alone writer) = way.Lost alone writer

-- WHAT IS LOST

-- a write was refused, and this one, if any, goes on
abbrev pub lost_way : Option ℕ → Way → Way
lost_way alone w = way.Lost alone (writer_in w)

abbrev pub lost_by : Option ℕ → Used → Used
lost_by alone u = record u { way = lost_way alone u.way }

-- WHO LEAVES

abbrev pub unless_it : ℕ → Option ℕ → Option ℕ
unless_it c None = None
unless_it c (Some d) = if d == c then None else Some d

abbrev pub left_way : ℕ → Way → Way
left_way c way.Readers = way.Readers
left_way c (way.Writers g) = way.Writers (without_member c g)
left_way c (way.Lost alone writer) = way.Lost alone writer

-- what the group is once it has left
abbrev pub left_answer : Bool → ℕ → Group → Left
left_answer keepable c g = left_as keepable (without_member c g)

abbrev pub without_user : ℕ → Used → Used
without_user c u = record { bound = without itself c u.bound; first = unless_it c u.first; way = left_way c u.way }

-- WHAT HOLDS OF IT

-- it isn't a member, and all that comes is stored
pub record MayJoin (c : ℕ) (g : Group) : Type 0 where
  pub new : is_member c g ≡ false
  pub shared : g.alone ≡ false

abbrev pub MayLeave : ℕ → Group → Type 0
MayLeave c g = is_member c g ≡ true

-- whoever is bound is a member, and all that comes is stored
pub record AreMembers (bound : List ℕ) (g : Group) : Type 0 where
  pub shared : g.alone ≡ false
  pub members : map consumer_of g.members ≡ bound

-- The numbers rise, and all who are bound are members of the writer group, where there is one.
pub record IsUsed (bound : List ℕ) (w : Way) : Type 0 where
  pub ascending : is_sorted itself bound ≡ true
  pub group : IfSome (group_in w) (AreMembers bound)
