-- What is said on the diagnostics.
use Rattle.std.specs.Prelude.{ℕ, List, [], ◌∷◌, ◌++◌, codes}
use Rattle.std.specs.Fmt.{decimal}
use Rattle.hc_fetch.specs.declared.ended.FetchEnded.{FetchEnded}
use Rattle.hc_fetch.specs.declared.ended.FetchEnded.TheVariants as fetched
use Rattle.hc_sched.specs.Report.{cause_word}
use Rattle.hc_sched.specs.declared.schedule.Refused.{Refused}
use Rattle.hc_sched.specs.declared.schedule.SchedRefusal.{SchedRefusal}
use Rattle.hc_sched.specs.declared.schedule.SchedRefusal.TheVariants as why
use Rattle.hc_saving.specs.declared.open.OpenEnded.{OpenEnded}
use Rattle.hc_saving.specs.declared.open.OpenEnded.TheVariants as opened

-- the number and the name of a refusal
abbrev pub refusal_line : SchedRefusal → List ℕ
refusal_line why.BadLine = codes ": 1 BadLine" ++ 10 ∷ []
refusal_line why.LineTooLong = codes ": 2 LineTooLong" ++ 10 ∷ []
refusal_line why.BadTarget = codes ": 3 BadTarget" ++ 10 ∷ []
refusal_line (why.MomentBack last) = codes ": 4 MomentBack" ++ 10 ∷ []
refusal_line why.CutShort = codes ": 5 CutShort" ++ 10 ∷ []

-- the text for a refused line
abbrev pub refusal_text : Refused → List ℕ
refusal_text refused = codes "line " ++ decimal refused.line ++ refusal_line refused.why

-- the text for a refused image; of one that was taken nothing is said
abbrev pub image_text : OpenEnded → List ℕ
image_text opened.BadImage = codes "image: 1 BadImage" ++ 10 ∷ []
image_text (opened.BadContent i) = codes "image: 2 BadContent " ++ (decimal i ++ 10 ∷ [])
image_text opened.Full = codes "image: 3 Full" ++ 10 ∷ []
image_text (opened.Ran e) = []

-- the text for a fetch that ended early; of another ending it says nothing
abbrev pub fetch_text : FetchEnded → List ℕ
fetch_text (fetched.Foreign n) = codes "foreign " ++ decimal n ++ 10 ∷ []
fetch_text (fetched.Failed c cause) = codes "failed " ++ decimal c ++ 32 ∷ cause_word cause ++ 10 ∷ []
fetch_text (fetched.Status c status) = codes "status " ++ decimal c ++ 32 ∷ decimal status ++ 10 ∷ []
fetch_text (fetched.Other c r first) =
    codes "other " ++ decimal c ++ 32 ∷ decimal r ++ 32 ∷ decimal first ++ 10 ∷ []
fetch_text (fetched.Unfinished written) = codes "unfinished " ++ decimal written ++ 10 ∷ []
fetch_text _ = []

abbrev pub usage_text : List ℕ
usage_text = codes "usage: replay | generate SEED COUNT | serve LISTEN ORIGIN TURNS | origin LISTEN TURNS | save | open | conditional | fetch TARGET N SIZE" ++ 10 ∷ []
