-- Acts in numbers and bytes.
use Rattle.std.specs.Prelude.{ℕ, ◌+◌, ◌*◌, ◌-◌, ◌^◌, min, List, [], ◌++◌, length, Option, Some, None}
use Rattle.hc_event.specs.declared.act.Act.{Act}
use Rattle.hc_event.specs.declared.act.Act.TheVariants as act
use Rattle.hc_event.specs.declared.act.Need.{Need}
use Rattle.hc_event.specs.declared.act.Why.{Why}
use Rattle.hc_event.specs.declared.event.Request.{Request}
use Rattle.hc_fields.specs.FieldList.{size_of}
use Rattle.hc_fields.specs.Lines.{fields_text}
use Rattle.hc_binary.specs.declared.act.ActNumbers.{ActNumbers}
use Rattle.hc_binary.specs.Details.{need_detail, why_detail, cause_detail, wait_detail, lost_detail, refusal_detail}

-- THE BYTES

-- what an act has beside numbers: of a request that is opened the method, the target and the lines of the fields, of a head
-- that is shown the lines of its fields, and the bytes that are given
abbrev pub bytes_of : Act → List ℕ
bytes_of (act.Opened x c need request) =
    request.method ++ (request.key ++ fields_text request.fields)
bytes_of (act.Shown c r why status fields lo hi) = fields_text fields
bytes_of (act.Given c x at bytes) = bytes
bytes_of _ = []

-- THE NUMBERS

-- of no act
abbrev pub nothing : ActNumbers
nothing = record {
  kind = 0;
  detail = 0;
  consumer = 0;
  exchange = 0;
  representation = 0;
  position = 0;
  end = 0;
  first = 0;
  second = 0;
  length = 0;
  method_length = 0;
  target_length = 0;
  status = 0;
  has_end = 0;
}

-- how many bytes the lines of fields have
abbrev pub lines_length : List (List ℕ × List ℕ) → ℕ
lines_length fields = size_of fields + 3 * length fields

-- the sum, or the largest number of 64 bits
abbrev pub sum_of : ℕ → ℕ → ℕ
sum_of a b = min (a + b) (2 ^ 64 - 1)

abbrev pub opened_numbers : ℕ → ℕ → Need → Request → ActNumbers
opened_numbers x c need request = record nothing {
  kind = 1;
  detail = (need_detail need).code;
  consumer = c;
  exchange = x;
  first = (need_detail need).first;
  second = (need_detail need).second;
  length = sum_of (sum_of (length request.method) (length request.key)) (lines_length request.fields);
  method_length = length request.method;
  target_length = length request.key;
}

-- the end, or 0, and whether it is known
abbrev pub end_or_0 : Option ℕ → ℕ
end_or_0 None = 0
end_or_0 (Some hi) = hi

abbrev pub one_if_known : Option ℕ → ℕ
one_if_known None = 0
one_if_known (Some hi) = 1

abbrev pub shown_numbers : ℕ → ℕ → Why → ℕ → List (List ℕ × List ℕ) → ℕ → Option ℕ → ActNumbers
shown_numbers c r why status fields lo hi = record nothing {
  kind = 4;
  detail = (why_detail why).code;
  consumer = c;
  exchange = (why_detail why).exchange;
  representation = r;
  position = lo;
  end = end_or_0 hi;
  first = (why_detail why).first;
  second = (why_detail why).second;
  length = lines_length fields;
  status = status;
  has_end = one_if_known hi;
}

abbrev pub numbers_of : Act → ActNumbers
numbers_of (act.Opened x c need request) = opened_numbers x c need request
numbers_of (act.Ask x) = record nothing { kind = 2; exchange = x }
numbers_of (act.Close x) = record nothing { kind = 3; exchange = x }
numbers_of (act.Shown c r why status fields lo hi) = shown_numbers c r why status fields lo hi
numbers_of (act.Given c x at bytes) = record nothing {
  kind = 5;
  consumer = c;
  exchange = x;
  position = at;
  length = length bytes;
}
numbers_of (act.Ended c) = record nothing { kind = 6; consumer = c }
numbers_of (act.Failed c cause) = record nothing {
  kind = 7;
  detail = (cause_detail cause).code;
  consumer = c;
  exchange = (cause_detail cause).exchange;
  representation = (cause_detail cause).representation;
  first = (cause_detail cause).first;
  second = (cause_detail cause).second;
}
numbers_of (act.Pending c wait) = record nothing {
  kind = 8;
  detail = (wait_detail wait).code;
  consumer = c;
  exchange = (wait_detail wait).exchange;
  first = (wait_detail wait).first;
}
numbers_of (act.Lost r kind) = record nothing {
  kind = 9;
  detail = (lost_detail kind).code;
  representation = r;
}
numbers_of (act.Evicted r) = record nothing { kind = 10; representation = r }
numbers_of (act.Denied refusal) = record nothing {
  kind = 11;
  detail = (refusal_detail refusal).code;
  first = (refusal_detail refusal).first;
}
