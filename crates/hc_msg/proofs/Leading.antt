-- What bytes lead to has one answer, and bytes that are put together lead on.
--
-- Each byte has one step, since a head, a chunk line and what they say have one answer (`makes_one`). So by induction
-- over the bytes what they lead to is one (`leads_one`). Bytes that are put together lead where the second lead from
-- the first (`leads_on`), and what both lead to may be taken apart (`leads_apart`). An error stays. A token that is
-- told at the last byte is told alone, behind bytes that tell nothing (`reports_on`).
use Rattle.std.proofs.{lemmas.{Bool.Decides.{nat_tests}, List.{append-nil}}, Common.{arith, ◌≡◌, ℕ, Bool, List, [], ◌∷◌, ◌++◌, Option, Some, None, refl, sym, ap, subst, ◌∙◌, append_assoc}}
use Rattle.httparse.specs.Grammar.{ChunkLine, chunk_size}
use Rattle.httparse.proofs.ChunkLemmas.{chunk_line_unique}
use Rattle.hc_head.specs.declared.message.MsgError.{MsgError}
use Rattle.hc_head.proofs.{Calls.{asked_one}, Replies.{heard_one}}
use Rattle.hc_msg.specs.{Chunks.{LineSays}, Reading.{Kind, Requests, Responses, Reading, Failed, Token, Step, Move, fails, after_asked, after_heard, move_of, AsksFor, AnswersWith, HeadMakes, Makes, Leads, ReportsAtLast}}

asks_one : (text : List ℕ) (a b : Step) → AsksFor text a → AsksFor text b → a ≡ b
asks_one text a b x y = x.2 ∙ ap after_asked (asked_one text x.0 y.0 x.1 y.1) ∙ sym y.2

answers_one : (tokens : Bool) (text : List ℕ) (a b : Step) → AnswersWith tokens text a → AnswersWith tokens text b → a ≡ b
answers_one tokens text a b x y = x.2 ∙ ap (after_heard tokens) (heard_one tokens text x.0 y.0 x.1 y.1) ∙ sym y.2

head_one : (kind : Kind) (text : List ℕ) (a b : Step) → HeadMakes kind text a → HeadMakes kind text b → a ≡ b
head_one Requests text a b x y = asks_one text a b x y
head_one (Responses tokens) text a b x y = answers_one tokens text a b x y

size_one : (text : List ℕ) (m n : Option ℕ) → LineSays text m → LineSays text n → m ≡ n
size_one text None None x y = refl
size_one text None (Some n) x y = absurd (x y.0 n y.1)
size_one text (Some m) None x y = absurd (y x.0 m x.1)
size_one text (Some m) (Some n) x y =
    let same = chunk_line_unique text x.0 y.0 [] [] x.1.reads y.1.reads in
    ap Some (x.1.size_is ∙ ap (λ (l : ChunkLine). chunk_size l) same.0 ∙ sym y.1.size_is)

pub makes_one : (move : Move) (a b : Step) → Makes move a → Makes move b → a ≡ b
makes_one move a b x y = search (arith, head_one, size_one)

-- one reading
pub record IsOne (tokens more : List Token) (t u : Reading) : Type 0 where
  pub reports : tokens ≡ more
  pub next : t ≡ u

pub leads_one : (s : Reading) (text : List ℕ) (tokens more : List Token) (t u : Reading) → Leads s text tokens t → Leads s text more u → IsOne tokens more t u
leads_one s [] tokens more t u x y = record { reports = x.0 ∙ sym y.0; next = x.1 ∙ sym y.1 }
leads_one s (b ∷ text) tokens more t u x y =
    let same : x.0 ≡ y.0 = makes_one (move_of s b) x.0 y.0 x.2 y.2 in
    let moved : Leads x.0.next text y.1 u = subst (λ (step : Step). Leads step.next text y.1 u) (sym same) y.3 in
    let rest = leads_one x.0.next text x.1 y.1 t u x.3 moved in
    search arith

-- bytes that are put together
pub leads_on : (s : Reading) (xs ys : List ℕ) (tokens more : List Token) (mid t : Reading) → Leads s xs tokens mid → Leads mid ys more t →
    Leads s (xs ++ ys) (tokens ++ more) t
leads_on s [] ys tokens more mid t x y =
    subst (λ (l : List Token). Leads s ys (l ++ more) t) (sym x.0) (subst (λ (m : Reading). Leads m ys more t) x.1 y)
leads_on s (b ∷ xs) ys tokens more mid t x y = (
  x.0,
  x.1 ++ more,
  x.2,
  leads_on x.0.next xs ys x.1 more mid t x.3 y,
  ap (λ (l : List Token). l ++ more) x.4 ∙ append_assoc x.0.tokens x.1 more,
)

-- bytes that are taken apart
pub record IsPartway (s : Reading) (xs ys : List ℕ) (tokens : List Token) (t : Reading) : Type 0 where
  pub first : List Token
  pub second : List Token
  pub mid : Reading
  pub before : Leads s xs first mid
  pub behind : Leads mid ys second t
  pub whole : tokens ≡ first ++ second

pub leads_apart : (s : Reading) (xs ys : List ℕ) (tokens : List Token) (t : Reading) → Leads s (xs ++ ys) tokens t → IsPartway s xs ys tokens t
leads_apart s [] ys tokens t x = record { first = []; second = tokens; mid = s; before = (refl, refl); behind = x; whole = refl }
leads_apart s (b ∷ xs) ys tokens t x =
    let rest = leads_apart x.0.next xs ys x.1 t x.3 in
    record {
      first = x.0.tokens ++ rest.first;
      second = rest.second;
      mid = rest.mid;
      before = (x.0, rest.first, x.2, rest.before, refl);
      behind = rest.behind;
      whole = x.4 ∙ ap (λ (l : List Token). x.0.tokens ++ l) rest.whole ∙ sym (append_assoc x.0.tokens rest.first rest.second);
    }

-- one byte
pub leads_byte : (s : Reading) (b : ℕ) (step : Step) → Makes (move_of s b) step → Leads s (b ∷ []) step.tokens step.next
leads_byte s b step h = (step, [], h, (refl, refl), sym (append-nil step.tokens))

-- an error stays
pub stays_failed : (e : MsgError) (text : List ℕ) → Leads (Failed e) text [] (Failed e)
unfolding move_of
stays_failed e [] = (refl, refl)
stays_failed e (b ∷ text) = (fails e, [], refl, stays_failed e text, refl)

-- what is told at the last byte
pub reports_leads : (s : Reading) (text : List ℕ) (token : Token) (t : Reading) → ReportsAtLast s text token t → Leads s text (token ∷ []) t
reports_leads s text token t h =
    subst (λ (l : List ℕ). Leads s l (token ∷ []) t) h.whole (leads_on s h.before (h.last ∷ []) [] (token ∷ []) h.mid t h.passes h.reports)

pub reports_on : (s mid t : Reading) (xs ys : List ℕ) (token : Token) → Leads s xs [] mid → ReportsAtLast mid ys token t → ReportsAtLast s (xs ++ ys) token t
reports_on s mid t xs ys token on h = record {
  before = xs ++ h.before;
  last = h.last;
  mid = h.mid;
  whole = append_assoc xs h.before (h.last ∷ []) ∙ ap (λ (l : List ℕ). xs ++ l) h.whole;
  passes = leads_on s xs h.before [] [] mid h.mid on h.passes;
  reports = h.reports;
}
