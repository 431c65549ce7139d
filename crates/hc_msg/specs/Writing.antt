-- The bytes of messages that are sent (RFC 9112).
use Rattle.std.specs.Prelude.{◌≡◌, ℕ, Bool, true, false, List, [], ◌∷◌, ◌++◌, length, take, codes, Option, Some, None}
use Rattle.std.specs.Fmt.{decimal, digits}
use Rattle.url.specs.Parts.{Parts, text_between}
use Rattle.url.specs.declared.slicing.Position.TheVariants.{BeforeHost, AfterPort}
use Rattle.hc_event.specs.declared.event.Request.{Request}
use Rattle.hc_event.specs.declared.event.Response.{Response}

-- the end of a line
abbrev pub crlf : List ℕ
crlf = 13 ∷ 10 ∷ []

-- the line of a field
abbrev pub line_of : List ℕ × List ℕ → List ℕ
line_of field = field.0 ++ (codes ": " ++ (field.1 ++ crlf))

-- the lines of the fields, in order
abbrev pub lines_of : List (List ℕ × List ℕ) → List ℕ
lines_of [] = []
lines_of (field ∷ fields) = line_of field ++ lines_of fields

abbrev pub query_text : Option (List ℕ) → List ℕ
query_text None = []
query_text (Some query) = codes "?" ++ query

-- the request line, in the origin form
abbrev pub request_line : List ℕ → Parts → List ℕ
request_line method url =
    method ++ (codes " " ++ (url.path ++ (query_text url.query ++ (codes " HTTP/1.1" ++ crlf))))

-- the line of the host, with its port where it has one
abbrev pub host_line : Parts → List ℕ
host_line url = codes "host: " ++ (text_between url BeforeHost AfterPort ++ crlf)

-- a request whose key is the text of this URL; its connection is to be closed
abbrev pub request_text : Request → Parts → List ℕ
request_text request url =
    request_line request.method url ++ (host_line url ++ (lines_of request.fields
    ++ (codes "connection: close" ++ (crlf ++ crlf))))

abbrev pub status_line : ℕ → List ℕ
status_line status = codes "HTTP/1.1 " ++ (decimal status ++ (codes " " ++ crlf))

-- the end of a head, behind the line that tells of chunks, where they are told
abbrev pub head_end : Bool → List ℕ
head_end true = codes "transfer-encoding: chunked" ++ (crlf ++ crlf)
head_end false = crlf

-- the head of an answer
abbrev pub response_text : Response → Bool → List ℕ
response_text response chunked =
    status_line response.status ++ (lines_of response.fields ++ head_end chunked)

-- the answer, and behind its other fields that the connection is closed (RFC 9112 section 9.6)
abbrev pub closing_of : Response → Response
closing_of response = record response { fields = response.fields ++ (codes "connection", codes "close") ∷ [] }

-- the line before so many bytes of a chunk
abbrev pub size_line : ℕ → List ℕ
size_line n = digits 16 false n ++ crlf

-- a chunk; that of no bytes is the last
abbrev pub chunk_text : List ℕ → List ℕ
chunk_text bytes = digits 16 false (length bytes) ++ (crlf ++ (bytes ++ crlf))

-- what stood there stands first
abbrev pub Keeps : List ℕ → List ℕ → Type 0
Keeps old new = take (length old) new ≡ old
