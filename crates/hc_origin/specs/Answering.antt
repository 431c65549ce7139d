-- The bytes of an answer of the test origin.
use Rattle.std.specs.Prelude.{◌≡◌, ℕ, ◌-◌, false, List, ◌++◌, map, Some}
use Rattle.std.specs.List.{range_with_len}
use Rattle.hc_event.specs.declared.event.Request.{Request}
use Rattle.hc_validate.specs.declared.origin.Answer.{Answer}
use Rattle.hc_validate.specs.Origin.{IsOriginAnswer, origin_byte}
use Rattle.hc_msg.specs.Writing.{response_text, closing_of}
use Rattle.hc_origin.specs.Coming.{Came, request_in}

-- the bytes of its representations from one position to below another
abbrev pub bytes_between : ℕ → ℕ → List ℕ
bytes_between lo hi = map origin_byte (range_with_len lo (hi - lo))

-- the head, which says that the connection is closed (RFC 9112 section 9.6), and the bytes that follow it
abbrev pub answer_text : Answer → List ℕ
answer_text answer = response_text (closing_of answer.response) false ++ bytes_between answer.lo answer.hi

-- the text is the answer to this request
abbrev pub Responds : Request → List ℕ → Type 0
Responds request text = (answer : Answer) × IsOriginAnswer request answer × (text ≡ answer_text answer)

-- The text is the answer to the first request of a connection, of which this came.
pub record IsAnswer (came : Came) (text : List ℕ) : Type 0 where
  pub request : Request
  pub asked : request_in came ≡ Some request
  pub responds : Responds request text
