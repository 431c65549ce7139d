-- The keys, and the requests of consumers that start.
use Rattle.std.specs.Prelude.{ℕ, ◌+◌, ◌*◌, ◌==◌, List, [], ◌∷◌, ◌++◌, codes, if◌then◌else◌}
use Rattle.std.specs.Fmt.{decimal}
use Rattle.hc_event.specs.declared.event.Load.TheVariants.{Normal}
use Rattle.hc_event.specs.declared.event.Request.{Request}
use Rattle.hc_validate.specs.Updates.{FieldPairs}
use Rattle.hc_generate.specs.Draws.{state_after_draw, draw_below}

-- how many bytes the representation of key i has
abbrev pub size_of : ℕ → ℕ
size_of i = 1000 * (i + 1)

-- key i
abbrev pub key_of : ℕ → List ℕ
key_of i = codes "http://gen.test/d/" ++ decimal (size_of i)

-- all bytes from a position on are asked for (RFC 9110 section 14.2)
abbrev pub range_text : ℕ → List ℕ
range_text l = codes "bytes=" ++ decimal l ++ codes "-"

abbrev pub range_from : ℕ → FieldPairs
range_from l = (codes "range", range_text l) ∷ []

-- one in four is for a range of the size bytes
abbrev pub drawn_fields : ℕ → ℕ → FieldPairs
drawn_fields size s = if draw_below 4 s == 0 then range_from (draw_below size (state_after_draw s)) else []

-- the draws after that
abbrev pub past_fields : ℕ → ℕ
past_fields s = if draw_below 4 s == 0 then state_after_draw (state_after_draw s) else state_after_draw s

-- a GET of the key that is drawn
abbrev pub drawn_request : ℕ → Request
drawn_request s = record {
  method = codes "GET";
  key = key_of (draw_below 8 s);
  load = Normal;
  fields = drawn_fields (size_of (draw_below 8 s)) (state_after_draw s);
}

abbrev pub past_request : ℕ → ℕ
past_request s = past_fields (state_after_draw s)
