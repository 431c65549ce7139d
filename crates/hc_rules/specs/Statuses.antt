-- The statuses of answers that may be stored. RULES, FORMATS and the models name them too (CONTRIBUTING tells where).
use Rattle.std.specs.Prelude.{ℕ, ◌==◌, Bool}

-- An answer of this status brings a whole body, which may be stored (RFC 9110 section 15.3.1, RFC 9111 section 3).
unfoldable pub brings_whole : ℕ → Bool
brings_whole status = status == 200

-- It brings a part of a body, which may be stored (RFC 9110 section 15.3.7, RFC 9111 sections 3.3 and 3.4).
unfoldable pub brings_part : ℕ → Bool
brings_part status = status == 206
