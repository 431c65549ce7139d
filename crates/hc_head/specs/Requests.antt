-- What the head of a request says (RFC 9112 sections 3 and 6.3).
use Rattle.std.specs.Prelude.{◌≡◌, ℕ, ◌≤◌, ◌⊎◌, ◌==◌, ◌||◌, ◌&&◌, not, nat_lt, Bool, List, [], ◌++◌, take, length, codes, bytes_eq, Option, Some, None, Ok, Err, if◌then◌else◌}
use Rattle.std.specs.Option.{option_and_then}
use Rattle.std.specs.List.{list_all, list_any}
use Rattle.std.specs.Str.{is_utf8}
use Rattle.httparse.specs.Grammar.{RequestHead, ReadsRequest}
use Rattle.url.specs.Parts.{Parts, serialize}
use Rattle.url.specs.Parser.{Parsed, parse_url}
use Rattle.url.specs.Setters.{set_fragment}
use Rattle.hc_event.specs.declared.event.Load.TheVariants.{Normal}
use Rattle.hc_text.specs.Elements.{is_blank}
use Rattle.hc_fields.specs.FieldList.{has_name, values_of}
use Rattle.hc_fields.specs.FirstValues.{only_of}
use Rattle.hc_target.specs.Targets.{is_target}
use Rattle.hc_head.specs.declared.message.MsgError.{MsgError}
use Rattle.hc_head.specs.declared.message.MsgError.TheVariants.{BadHead, BadLength, UnsupportedMethod}
use Rattle.hc_head.specs.declared.message.WireRequest.{WireRequest}
use Rattle.hc_head.specs.declared.fields.Leaving.TheVariants.{Address}
use Rattle.hc_head.specs.Rules.{fields_of, is_there, is_within_limits, kept_of}

abbrev pub begins_with : List ℕ → List ℕ → Bool
begins_with prefix text = bytes_eq (take (length prefix) text) prefix

-- A byte of a host. It is no blank, and it ends no authority and no user's name (RFC 3986 section 3.2). The URL
-- Standard reads `\` as `/`.
abbrev pub is_host_byte : ℕ → Bool
is_host_byte b = not (is_blank b || list_any (λ c. c == b) (codes "/?#@\\"))

-- the value of Host names a host (RFC 9112 section 3.2)
abbrev pub is_host : List ℕ → Bool
is_host host = nat_lt 0 (length host) && list_all is_host_byte host

-- the target behind this host, where it is one
abbrev pub behind_host : List ℕ → List ℕ → Option (List ℕ)
behind_host target host = if is_host host then Some (codes "http://" ++ (host ++ target)) else None

-- the text of the URL that is asked for (RFC 9112 section 3.3): in the origin form behind the one Host
abbrev pub asked_text : List ℕ → List (List ℕ × List ℕ) → Option (List ℕ)
asked_text target fields =
    if begins_with (codes "/") target
    then option_and_then (behind_host target) (only_of (values_of (codes "host") fields))
    else if begins_with (codes "http://") target then Some target else None

-- the text of the URL, where that is a target
abbrev pub own_key : Parts → Option (List ℕ)
own_key url = if is_target (serialize url) then Some (serialize url) else None

-- the URL without its fragment, where that is a target
abbrev pub key_in : Parsed Parts → Option (List ℕ)
key_in (Err e) = None
key_in (Ok url) = own_key (set_fragment url None)

-- what the URL Standard reads the text as
unfoldable pub key_of : List ℕ → Option (List ℕ)
key_of text = if is_utf8 text then key_in (parse_url None text) else None

-- Content-Length is just `0`, wherever it stands
abbrev pub says_zero : List ℕ × List ℕ → Bool
says_zero field = not (has_name (codes "content-length") field) || bytes_eq field.1 (codes "0")

-- a body may follow
abbrev pub may_have_body : List (List ℕ × List ℕ) → Bool
may_have_body fields = is_there (codes "transfer-encoding") fields || not (list_all says_zero fields)

-- What the head of a request comes to.
pub data Asked : Type 0 where
  Grants : (request : WireRequest) → Asked
  Denies : (e : MsgError) → Asked

-- the request, without the fields that its key and its want of a body tell
abbrev pub request_of : List ℕ → ℕ → List (List ℕ × List ℕ) → List ℕ → WireRequest
request_of method minor fields key = record {
  request = record {
    method = method;
    key = key;
    load = Normal;
    fields = kept_of Address fields;
  };
  old = minor == 0;
}

abbrev pub with_key : List ℕ → ℕ → List (List ℕ × List ℕ) → Option (List ℕ) → Asked
with_key method minor fields None = Denies BadHead
with_key method minor fields (Some key) =
    if may_have_body fields then Denies BadLength else Grants (request_of method minor fields key)

-- by the parts of the head
unfoldable pub asked_of : List ℕ → List ℕ → ℕ → List (List ℕ × List ℕ) → Asked
asked_of method target minor fields =
    if not (is_within_limits fields) then Denies BadHead
    else if bytes_eq method (codes "CONNECT") then Denies UnsupportedMethod
    else if nat_lt 15 (length method) then Denies BadHead
    else with_key method minor fields (option_and_then key_of (asked_text target fields))

-- the text is a head of at most 64 fields
pub record IsRequest (text : List ℕ) (head : RequestHead) : Type 0 where
  pub reads : ReadsRequest text head []
  pub few : length head.fields ≤ 64

-- what the text of a whole head comes to
abbrev pub IsAskedBy : List ℕ → Asked → Type 0
IsAskedBy text asked =
    ((head : RequestHead) × IsRequest text head
    × (asked ≡ asked_of head.method head.target head.minor (fields_of head.fields)))
    ⊎ (((head : RequestHead) → ¬ (IsRequest text head)) × (asked ≡ Denies BadHead))
