-- The first line of an item that is spelled is read.
--
-- Each word is read back by its own test: the word of a load (`load_of-word`), numbers, and the text of a piece. No
-- keyword begins as another does, so it tells the form. `first_of-line` joins this by the kinds of items. That a line
-- has no line feed and is short goes word by word (`line-short`), with most words for a start. A method, a target and a
-- load are brief, a number has few digits, and a piece has the longest text.
use Rattle.std.{proofs.{lemmas.Bool.Decides.{nat_tests}, Common.{◌≡◌, ℕ, ◌≤◌, true, false, List, ◌∷◌, ◌++◌, length, Some, refl, ap, arith, length-append, le-leb, leb-true}}, specs.{Prelude.{option_map}, Fmt.{decimal}}}
use Rattle.http_header.specs.Token.{is_token_byte}
use Rattle.hc_text.specs.Texts.{lacks, IsSmall, behind}
use Rattle.hc_event.specs.declared.event.Event.TheVariants as event
use Rattle.hc_event.specs.declared.event.Load.{Load}
use Rattle.hc_event.specs.declared.event.Load.TheVariants as load
use Rattle.hc_sched.specs.{Words.{plain_of, plain_within, number_and_rest}, Pieces.{piece_text}, FirstLines.{First, Sets, Starts, Heads, Brings, Dooms, Reports, is_method, is_word, load_of, how_of, start_of, poll_of, head_of, piece_of, doom_of, first_of}, Schedule.{Item, Moment, Happens, load_word, item_line, IsItem}}
use Rattle.hc_target.specs.Targets.{is_target, is_short_word}
use Rattle.hc_text.proofs.{Cutting.{cut-first, lacks-append}, Cuts.{lacks-decimal}}
use Rattle.hc_sched.proofs.{Plain.{plain_of-decimal, plain-short}, Hex.{IsPiece, is_piece_text-of, lacks-piece_text, length-piece_text}}
use Rattle.hc_fields.proofs.ReadLemmas.{lacks-kind}

numbered-is : (n : ℕ) (rest : List ℕ) → IsSmall n → number_and_rest (decimal n ++ 32 ∷ rest) ≡ Some (n, rest)
unfolding number_and_rest
numbered-is n rest h =
    rw (cut-first 32 (decimal n) rest (lacks-decimal 32 n (omega arith) h), plain_of-decimal (decimal n) n (h, refl)) refl

plain_within-is : (low high n : ℕ) → low ≤ n → n ≤ high → IsSmall n → plain_within low high (decimal n) ≡ Some n
unfolding plain_within
plain_within-is low high n above below h =
    rw (plain_of-decimal (decimal n) n (h, refl), le-leb low n above, le-leb n high below) refl

load_of-word : (kind : Load) → load_of (load_word kind) ≡ Some kind
unfolding load_of
load_of-word load.Normal = refl
load_of-word _ = refl

-- a word of a load has no space and no line feed, and is short
record IsBrief (word : List ℕ) : Type 0 where
  spaces : lacks 32 word ≡ true
  feeds : lacks 10 word ≡ true
  short : length word ≤ 8

load-brief : (kind : Load) → IsBrief (load_word kind)
load-brief load.Normal = record { spaces = refl; feeds = refl; short = omega arith }
load-brief _ = record { spaces = refl; feeds = refl; short = omega arith }

-- the same of a method
record IsShortMethod (method : List ℕ) : Type 0 where
  spaces : lacks 32 method ≡ true
  feeds : lacks 10 method ≡ true
  short : length method ≤ 15

space_ends : is_token_byte 32 ≡ false
unfolding is_token_byte
space_ends = refl

feed_ends : is_token_byte 10 ≡ false
unfolding is_token_byte
feed_ends = refl

method-short : (method : List ℕ) → is_method method ≡ true → IsShortMethod method
unfolding is_method
method-short method h = search (arith, lacks-kind, space_ends, feed_ends, leb-true)

-- the same of a target
pub record IsShortTarget (target : List ℕ) : Type 0 where
  pub some : 1 ≤ length target
  pub spaces : lacks 32 target ≡ true
  pub feeds : lacks 10 target ≡ true
  pub short : length target ≤ 8192

pub target-short : (target : List ℕ) → is_target target ≡ true → IsShortTarget target
unfolding is_target is_short_word
target-short target h = search arith

is_word-target : (target : List ℕ) → IsShortTarget target → is_word target ≡ true
unfolding is_word
is_word-target target h = rw (le-leb 1 (length target) h.some) h.spaces

how_of-is : (kind : Load) (target : List ℕ) (count : ℕ) → IsShortTarget target → count ≤ 64
    → how_of (load_word kind ++ 32 ∷ (target ++ 32 ∷ decimal count)) ≡ Some (kind, target, count)
unfolding how_of
how_of-is kind target count h few =
    rw (
      cut-first 32 (load_word kind) (target ++ 32 ∷ decimal count) (load-brief kind).spaces,
      load_of-word kind,
      cut-first 32 target (decimal count) h.spaces,
      plain_within-is 0 64 count (omega arith) few (omega arith),
      is_word-target target h,
    ) refl

start_of-is : (c : ℕ) (method : List ℕ) (kind : Load) (target : List ℕ) (count : ℕ) → IsSmall c → is_method method ≡ true → IsShortTarget target → count ≤ 64
    → start_of (decimal c ++ 32 ∷ (method ++ 32 ∷ (load_word kind ++ 32 ∷ (target ++ 32 ∷ decimal count)))) ≡ Some (Starts c method kind target count)
unfolding start_of
start_of-is c method kind target count small is h few = search (arith, numbered-is, cut-first, method-short, how_of-is)

poll_of-is : (c want : ℕ) → IsSmall c → want ≤ 65536 → poll_of (decimal c ++ 32 ∷ decimal want) ≡ Some (Reports (event.Poll c want))
unfolding poll_of
poll_of-is c want small within = rw (numbered-is c (decimal want) small, plain_within-is 0 65536 want (omega arith) within (omega arith)) refl

head_of-is : (x status count : ℕ) → IsSmall x → 200 ≤ status → status ≤ 599 → count ≤ 64
    → head_of (decimal x ++ 32 ∷ (decimal status ++ 32 ∷ decimal count)) ≡ Some (Heads x status count)
unfolding head_of
head_of-is x status count small low high few =
    rw (
      numbered-is x (decimal status ++ 32 ∷ decimal count) small,
      cut-first 32 (decimal status) (decimal count) (lacks-decimal 32 status (omega arith) (omega arith)),
      plain_within-is 200 599 status low high (omega arith),
      plain_within-is 0 64 count (omega arith) few (omega arith),
    ) refl

piece_of-is : (x : ℕ) (bytes : List ℕ) → IsSmall x → IsPiece bytes → piece_of (decimal x ++ 32 ∷ piece_text bytes) ≡ Some (Brings x (piece_text bytes))
unfolding piece_of
piece_of-is x bytes small piece = rw (numbered-is x (piece_text bytes) small, is_piece_text-of bytes piece) refl

doom_of-is : (target : List ℕ) → IsShortTarget target → doom_of target ≡ Some (Dooms target)
unfolding doom_of
doom_of-is target h = rw (is_word-target target h) refl

-- what the first line of an item says
abbrev pub first_for : Item → First
first_for (Moment now) = Sets now
first_for (Happens (event.Start c request)) = Starts c request.method request.load request.key (length request.fields)
first_for (Happens (event.Head x response)) = Heads x response.status (length response.fields)
first_for (Happens (event.Piece x bytes)) = Brings x (piece_text bytes)
first_for (Happens (event.Doom key)) = Dooms key
first_for (Happens (event.Poll c want)) = Reports (event.Poll c want)
first_for (Happens (event.End x)) = Reports (event.End x)
first_for (Happens (event.Fault x)) = Reports (event.Fault x)
first_for (Happens (event.Cancel c)) = Reports (event.Cancel c)

number-first : (f : ℕ → First) (n : ℕ) → IsSmall n → option_map f (plain_of (decimal n)) ≡ Some (f n)
number-first f n h = ap (option_map f) (plain_of-decimal (decimal n) n (h, refl))

-- it is read back: the keyword tells the form
pub first_of-line : (item : Item) → IsItem item → first_of (item_line item) ≡ Some (first_for item)
unfolding first_of behind
first_of-line (Moment now) h = number-first Sets now h
first_of-line (Happens (event.Start c request)) h =
    start_of-is c request.method request.load request.key (length request.fields) h.0 h.1 (target-short request.key h.2) h.3.within_limits.few
first_of-line (Happens (event.Poll c want)) h = poll_of-is c want h.0 h.1
first_of-line (Happens (event.Head x response)) h =
    head_of-is x response.status (length response.fields) h.0 h.1 h.2 h.3.within_limits.few
first_of-line (Happens (event.Piece x bytes)) h = piece_of-is x bytes h.0 (record { short = h.1; small = h.2 })
first_of-line (Happens (event.End x)) h = number-first (λ n. Reports (event.End n)) x h
first_of-line (Happens (event.Fault x)) h = number-first (λ n. Reports (event.Fault n)) x h
first_of-line (Happens (event.Cancel c)) h = number-first (λ n. Reports (event.Cancel n)) c h
first_of-line (Happens (event.Doom key)) h = doom_of-is key (target-short key h)

-- it is one short line
pub record IsShortLine (line : List ℕ) : Type 0 where
  pub feeds : lacks 10 line ≡ true
  pub short : length line ≤ 140000

decimal-line : (n : ℕ) → IsSmall n → (lacks 10 (decimal n) ≡ true) × (length (decimal n) ≤ 19)
decimal-line n h = (lacks-decimal 10 n (omega arith) h, plain-short (decimal n) n (h, refl))

-- a word of at most so many bytes, a space, and more
then_words : (word rest : List ℕ) → lacks 10 word ≡ true → lacks 10 rest ≡ true → lacks 10 (word ++ 32 ∷ rest) ≡ true
then_words word rest hw hr = lacks-append 10 word (32 ∷ rest) hw hr

pub line-short : (item : Item) → IsItem item → IsShortLine (item_line item)
line-short (Moment now) h = let n = decimal-line now h in record { feeds = n.0; short = omega (arith, n.1) }
line-short (Happens (event.Start c request)) h =
    let n = decimal-line c h.0 in
    let method = method-short request.method h.1 in
    let kind = load-brief request.load in
    let target = target-short request.key h.2 in
    let few : length request.fields ≤ 64 = h.3.within_limits.few in
    let count = decimal-line (length request.fields) (omega arith) in
    grind (arith, nat_tests, then_words, length-append)
line-short (Happens (event.Poll c want)) h =
    let n = decimal-line c h.0 in
    let within : want ≤ 65536 = h.1 in
    let m = decimal-line want (omega arith) in
    record { feeds = then_words (decimal c) (decimal want) n.0 m.0; short = omega (arith, n.1, m.1, length-append (decimal c) (32 ∷ decimal want)) }
line-short (Happens (event.Head x response)) h =
    let n = decimal-line x h.0 in
    let high : response.status ≤ 599 = h.2 in
    let few : length response.fields ≤ 64 = h.3.within_limits.few in
    let status = decimal-line response.status (omega arith) in
    let count = decimal-line (length response.fields) (omega arith) in
    let rest = decimal response.status ++ 32 ∷ decimal (length response.fields) in
    record {
      feeds = then_words (decimal x) rest n.0 (then_words (decimal response.status) (decimal (length response.fields)) status.0 count.0);
      short = omega (
        arith,
        n.1,
        status.1,
        count.1,
        length-append (decimal x) (32 ∷ rest),
        length-append (decimal response.status) (32 ∷ decimal (length response.fields)),
      );
    }
line-short (Happens (event.Piece x bytes)) h =
    let n = decimal-line x h.0 in
    let piece : IsPiece bytes = record { short = h.1; small = h.2 } in
    record {
      feeds = then_words (decimal x) (piece_text bytes) n.0 (lacks-piece_text bytes piece);
      short = omega (arith, n.1, length-piece_text bytes piece, length-append (decimal x) (32 ∷ piece_text bytes));
    }
line-short (Happens (event.End x)) h = let n = decimal-line x h in record { feeds = n.0; short = omega (arith, n.1) }
line-short (Happens (event.Fault x)) h = let n = decimal-line x h in record { feeds = n.0; short = omega (arith, n.1) }
line-short (Happens (event.Cancel c)) h = let n = decimal-line c h in record { feeds = n.0; short = omega (arith, n.1) }
line-short (Happens (event.Doom key)) h = let t = target-short key h in record { feeds = t.feeds; short = omega (arith, t.short) }
