-- What an answer needs of a head and of a request, told once.
use Rattle.std.specs.Prelude.{ℕ, ◌+◌, ◌-◌, Option}
use Rattle.hc_event.specs.declared.event.Request.{Request}
use Rattle.hc_event.specs.declared.act.Why.{Why}
use Rattle.hc_cachectl.specs.Directives.{of_request, of_response}
use Rattle.hc_record.specs.Head.{Head}
use Rattle.hc_fresh.specs.Ages.{age, corrected_initial_age}
use Rattle.hc_fresh.specs.Lifetimes.{lifetime}
use Rattle.hc_fresh.specs.Allowed.{allowed_by}
use Rattle.hc_fresh.specs.declared.facts.HeadFacts.{HeadFacts}
use Rattle.hc_fresh.specs.declared.facts.RequestFacts.{RequestFacts}

abbrev pub head_facts : Head → HeadFacts
head_facts head = record {
  answered = head.answered;
  initial_age = corrected_initial_age head;
  lifetime = lifetime head;
  no_cache = (of_response head.fields).no_cache;
  must_revalidate = (of_response head.fields).must_revalidate;
}

abbrev pub request_facts : Request → RequestFacts
request_facts request = record { load = request.load; directives = of_request request.fields }

-- whether the head of these facts may be used for the request of these
abbrev pub allowed_to : HeadFacts → RequestFacts → ℕ → Option Why
allowed_to head request now =
    allowed_by head.no_cache head.must_revalidate request.directives request.load
    (head.initial_age + (now - head.answered)) head.lifetime

-- why the stored head may be used for the request without validation, if it may
abbrev pub allowed : Head → Request → ℕ → Option Why
allowed head request now =
    allowed_by (of_response head.fields).no_cache (of_response head.fields).must_revalidate
    (of_request request.fields) request.load (age head now) (lifetime head)
