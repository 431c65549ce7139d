-- What a head founds, and who reads it.
use Rattle.std.specs.Prelude.{◌≡◌, ℕ, ◌||◌, not, IsTrue, List, bytes_eq, Bool, true, false, Option, Some, None, if◌then◌else◌}
use Rattle.http_header.specs.Token.{lowercase}
use Rattle.hc_fields.specs.FieldList.{IsWithinLimits}
use Rattle.hc_range.specs.declared.range.RangeSpec.{RangeSpec}
use Rattle.hc_record.specs.Head.{Head, joining_of}
use Rattle.hc_record.specs.Plain.{plain}
use Rattle.hc_record.specs.declared.kind.Kind.{Kind}
use Rattle.hc_record.specs.declared.kind.Kind.TheVariants as kinds
use Rattle.hc_event.specs.declared.event.Request.{Request}
use Rattle.hc_event.specs.declared.event.Response.{Response}
use Rattle.hc_rules.specs.declared.heads.HeadCase.{HeadCase}
use Rattle.hc_rules.specs.declared.heads.HeadCase.TheVariants as case
use Rattle.hc_rules.specs.declared.request.Wanted.{Wanted}
use Rattle.hc_rules.specs.declared.request.Wanted.TheVariants as wanted
use Rattle.hc_rules.specs.declared.length.Length.{Length}
use Rattle.hc_rules.specs.Lengths.{length_of, promise_of}
use Rattle.hc_rules.specs.RangeTexts.{content_range_of}
use Rattle.hc_rules.specs.Requests.{wanted_of}
use Rattle.hc_rules.specs.Statuses.{brings_whole, brings_part}
use Rattle.hc_store.specs.declared.backend.Backend.{Ghosts}
use Rattle.hc_stored.specs.Entries.{shelf_of}
use Rattle.hc_stored.specs.Kept as entry
use Rattle.hc_stored.specs.Shelf as shelf
use Rattle.hc_stored.specs.Shelf.{first_in}
use Rattle.hc_entry.specs.Keys as keys
use Rattle.hc_entry.specs.Kept.{with_current}
use Rattle.hc_exch.specs.declared.role.Role.TheVariants as role
use Rattle.hc_exch.specs.declared.row.Open.{Open}
use Rattle.hc_exch.specs.Exchanges.{table_of}
use Rattle.hc_exch.specs.Exchanges as exch
use Rattle.hc_exch.specs.Known.{Known, with_good_head, turned_into, is_all, length_by}
use Rattle.hc_event.specs.declared.place.Place.TheVariants as place
use Rattle.hc_event.specs.declared.place.BoundBy.TheVariants as by
use Rattle.hc_model.specs.Heads.{kept_fields, varied_by, total_of_part}
use Rattle.hc_txn.specs.declared.transaction.Transaction.{Transaction as Consumer}
use Rattle.hc_txn.specs.Transactions.{founding as founds_with}
use Rattle.hc_state.specs.declared.rows.Rows.{Rows}
use Rattle.hc_state.specs.declared.founded.Founding.{Founding}
use Rattle.hc_state.specs.Changes.{ChangesAt}

-- WHAT MAY FOUND

-- it brings a whole or a part, with no more fields than a head from outside has
pub record MayFound (response : Response) : Type 0 where
  pub status : IsTrue (brings_whole response.status || brings_part response.status)
  pub within_limits : IsWithinLimits response.fields

-- ITS HEAD

-- an element of Vary is this name
abbrev pub is_named_by : List ℕ → List ℕ → Bool
is_named_by name element = bytes_eq (lowercase element) (lowercase name)

abbrev pub founded_as : ℕ → ℕ → Kind → Option ℕ → Request → Response → Head
founded_as requested answered kind total request response = record {
  kind = kind;
  total = total;
  status = response.status;
  requested = requested;
  answered = answered;
  joining = joining_of (kept_fields response.fields);
  vary_fields = varied_by request.fields response.fields;
  fields = kept_fields response.fields;
}

-- how many bytes an exchange promises with this head
abbrev pub promise_by : Open → Response → Option ℕ
promise_by o response = promise_of (length_of o.need o.request response)

-- the length of what it founds
abbrev pub total_by : Open → Response → Option ℕ
total_by o response =
    if brings_part response.status then total_of_part (content_range_of response.fields)
    else promise_by o response

-- all of it is there, where nothing is promised
abbrev pub kind_begun : Option ℕ → Kind
kind_begun promise = if is_all promise 0 then kinds.Whole else kinds.Growing

-- the head of what it founds at this moment
abbrev pub head_by : Open → ℕ → Response → Head
head_by o now response =
    founded_as o.moment now (kind_begun (promise_by o response)) (total_by o response) o.request
    response

-- WHO READS IT

-- others read with its consumer what is founded
abbrev pub is_shared_by : HeadCase → Bool
is_shared_by case.FoundsRange = false
is_shared_by _ = true

-- from where to where its consumer reads it: what it asked for where that is known, or all
abbrev pub part_of : Wanted → Option ℕ → ℕ × Option ℕ
part_of (wanted.Interval span) total = (span.lo, Some span.hi)
part_of _ total = (0, total)

abbrev pub part_by : Bool → Option RangeSpec → Option ℕ → ℕ × Option ℕ
part_by true range total = (0, total)
part_by false range total = part_of (wanted_of range total) total

-- an exchange brings what it founds, whose head tells this length
abbrev pub brings_body : ℕ → Length → Known → Known
brings_body x length k = with_good_head length (turned_into (role.Body x) k)

-- the exchange whose writing it is, where others read it too
abbrev pub writer_by : Bool → ℕ → Option ℕ
writer_by shared x = if shared then Some x else None

-- WHAT IS FOUNDED

-- at this moment, by the head of an open exchange, for this consumer
pub record IsFounding (o : Open) (k : Consumer) (g : HeadCase) (now : ℕ) (response : Response)
    (f : Founding) : Type 0 where
  pub key : f.key ≡ o.request.key
  pub head : plain f.head ≡ head_by o now response
  pub shared : f.shared ≡ is_shared_by g
  pub part : (f.lo, f.hi) ≡ part_by f.shared k.class.range (total_by o response)

-- The exchange x founds this for c: that is current, and x brings it.
pub record BeginsFounding {B : Type 0} {g : Ghosts B} (r u : Rows B g) (x c : ℕ) (f : Founding)
    (response : Response) : Type 0 where
  pub last_start : u.last_start ≡ r.last_start
  pub consumers : ChangesAt r.consumers u.consumers c (founds_with x f.shared f.lo f.hi)
  pub exchanges : exch.Becomes
      (brings_body x (length_by (table_of r.exchanges x).running response)) x
      r.exchanges u.exchanges
  pub keys : (o : Open) → (table_of r.exchanges x).running ≡ Some o →
      keys.Becomes (with_current (Some x)) o.request.key r.keys u.keys
  pub entries : shelf.Becomes
      (λ _. Some (entry.founded_kept f.key (plain f.head) c (not f.shared) (writer_by f.shared x)))
      (first_in x) x (shelf_of r.entries) (shelf_of u.entries)
