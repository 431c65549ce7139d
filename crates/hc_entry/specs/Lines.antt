-- The line of a key: who waits for the turn, who passed, and who is away.
use Rattle.std.specs.Prelude.{◌≡◌, ℕ, ◌<◌, ◌==◌, ◌||◌, Bool, true, false, List, [], ◌∷◌, length, ◌+◌, map, if◌then◌else◌, Option, Some, None, slice_index_or}
use Rattle.hc_text.specs.Sorted.{is_sorted, has, with_item, without, is_among, itself}
use Rattle.hc_rules.specs.Admissions.{least, lesser}

-- The consumers in line, the passed and the away ones, each by number, the one in line that holds the turn, if one does,
-- and the consumer of each place, if it has one.
pub record Line : Type 0 where
  pub in_line : List ℕ
  pub passed : List ℕ
  pub away : List ℕ
  pub holder : Option ℕ
  pub places : List (Option ℕ)

abbrev pub nobody : Line
nobody = record { in_line = []; passed = []; away = []; holder = None; places = [] }

abbrev pub is_in : ℕ → Line → Bool
is_in c l = is_among c l.in_line || is_among c l.passed || is_among c l.away

-- nobody stands in it
abbrev pub is_empty : Line → Bool
is_empty l = length l.in_line + length l.passed + length l.away == 0

-- the consumer of a place
abbrev pub consumer_at : Line → ℕ → Option ℕ
consumer_at l place = slice_index_or l.places place None

abbrev pub is_held_by : ℕ → Option ℕ → Bool
is_held_by c None = false
is_held_by c (Some d) = d == c

-- one holds the turn, or has the place, no more
abbrev pub holder_without : ℕ → Option ℕ → Option ℕ
holder_without c holder = if is_held_by c holder then None else holder

-- one stands nowhere, and keeps its place
abbrev pub apart : ℕ → Line → Line
apart c l = record l {
  in_line = without itself c l.in_line;
  passed = without itself c l.passed;
  away = without itself c l.away;
  holder = holder_without c l.holder;
}

abbrev pub left_by : ℕ → Line → Line
left_by c l = let rest = apart c l in record rest { places = map (holder_without c) l.places }

abbrev pub line_with : ℕ → Line → Line
line_with c l = record l { in_line = with_item itself c l.in_line }

abbrev pub line_after_pass : ℕ → Line → Line
line_after_pass c l = let rest = apart c l in record rest { passed = with_item itself c rest.passed }

abbrev pub gone_away : ℕ → Line → Line
gone_away c l = let rest = apart c l in record rest { away = with_item itself c rest.away }

abbrev pub come_back : ℕ → Line → Line
come_back c l = line_with c (apart c l)

abbrev pub held_by : ℕ → Line → Line
held_by c l = record l { holder = Some c }

-- both lists in one, by number
abbrev pub union_of : List ℕ → List ℕ → List ℕ
union_of [] cs = cs
union_of (d ∷ ds) cs = with_item itself d (union_of ds cs)

-- everyone stands in line, and nobody holds the turn
abbrev pub all_back : Line → Line
all_back l = record l {
  in_line = union_of l.away (union_of l.passed l.in_line);
  passed = [];
  away = [];
  holder = None;
}

-- whoever passed stands in line
abbrev pub passed_back : Line → Line
passed_back l = record l { in_line = union_of l.passed l.in_line; passed = [] }

-- One more is in line, at a place that nobody had; the others keep theirs.
pub record Enters (c place : ℕ) (old new : Line) : Type 0 where
  pub line : new ≡ (let more = line_with c old in record more { places = new.places })
  pub free : consumer_at old place ≡ None
  pub there : consumer_at new place ≡ Some c
  pub others : (k : ℕ) → (k ≡ place → ⊥) → consumer_at new k ≡ consumer_at old k

abbrev pub holder_or : Option ℕ → Option ℕ → Option ℕ
holder_or None other = other
holder_or (Some c) other = Some c

-- the holder, or else the least in line
abbrev pub turn_of : Line → Option ℕ
turn_of l = holder_or l.holder (least l.in_line)

-- the holder, or else the least of c and those in line
abbrev pub turn_with : ℕ → Line → Option ℕ
turn_with c l = holder_or l.holder (lesser (least l.in_line) c)

abbrev pub stands : Option ℕ → List ℕ → Bool
stands None in_line = true
stands (Some c) in_line = is_among c in_line

-- The lists rise, nobody stands in two of them, and who holds the turn stands in line.
pub record IsOrderly (l : Line) : Type 0 where
  pub in_line : is_sorted itself l.in_line ≡ true
  pub passed : is_sorted itself l.passed ≡ true
  pub away : is_sorted itself l.away ≡ true
  pub in_line_or_passed : (c : ℕ) → is_among c l.in_line ≡ true → is_among c l.passed ≡ false
  pub in_line_or_away : (c : ℕ) → is_among c l.in_line ≡ true → is_among c l.away ≡ false
  pub passed_or_away : (c : ℕ) → is_among c l.passed ≡ true → is_among c l.away ≡ false
  pub holder : stands l.holder l.in_line ≡ true

-- one's place is below this
abbrev pub IsPlacedBelow : ℕ → ℕ → Line → Type 0
IsPlacedBelow end c l = (i : ℕ) × (i < end) × (consumer_at l i ≡ Some c)

-- a place below this is that of each who stands in it
abbrev pub AllArePlacedBelow : ℕ → Line → Type 0
AllArePlacedBelow end l = (c : ℕ) → is_in c l ≡ true → IsPlacedBelow end c l

-- no other place is that of this one
abbrev pub IsItsPlace : Line → ℕ → ℕ → Type 0
IsItsPlace l i c = (k : ℕ) → consumer_at l k ≡ Some c → k ≡ i
