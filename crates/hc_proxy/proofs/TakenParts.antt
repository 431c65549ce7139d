-- What was taken of the connection to the origin is what stands next in the definitions.
--
-- A row of the code and its row have the same reading and the same bytes, so the same stands next. What was answered
-- tells which of the cases that is: no part where more is waited for, a head, a piece or an end as it stands next, an
-- error where the reading is at one. In each case the row is read on as far as the definitions read it. A piece and
-- what is left behind it are no longer than what wasn't read, and a piece has at most 16,384 bytes. A head that is told
-- has a spelling. So each part fits a schedule.
use Rattle.std.{proofs.{Common.{◌≡◌, inl, inr, ◌≤◌, ℕ, ◌+◌, ◌++◌, List, [], ◌∷◌, length, Bool, true, false, Option, Some, None, refl, ap, sym, ◌∙◌, subst, arith}, lemmas.{Bool.Decides.{nat_tests}, List.{length-append}}}, specs.{Prelude.{Result, Ok, Err, ◌||◌, ◌==◌, nat_lt, not}, Result.{is_err}}}
use Rattle.hc_head.specs.declared.message.MsgError.{MsgError}
use Rattle.hc_head.specs.declared.message.MsgError.TheVariants as error
use Rattle.hc_msg.specs.declared.message.Look.TheVariants as look
use Rattle.hc_msg.specs.{declared.message.WirePart.{WirePart}, Inputs.{Next, Waits, Reports, Brings, Ends, Fails, next_in, look_of}, NextParts.{IsBroughtFirst, StandsNext}, Reading.{Reading, Done, Failed, Token, Asks, Answers, Byte}, Taking.{is_whole}}
use Rattle.hc_msg.specs.declared.message.WirePart.TheVariants as part
use Rattle.hc_msg.proofs.NextParts.{stands_next}
use Rattle.hc_peers.specs.Origins as origins
use Rattle.hc_peers.specs.declared.upstream.Upstream as origin
use Rattle.hc_proxy.specs.{Hearing.{IsFit}, Keeping.{IsUpstream}, Network.{has_news, next_of}, Rows.{Upstream}}
use Rattle.hc_proxy.proofs.NextSpelled.{reported_spelled}

-- A ROW AND ITS ROW IN THE DEFINITIONS

some_bytes : (i : List ℕ) → not (length i == 0) ≡ nat_lt 0 (length i)
some_bytes [] = refl
some_bytes (b ∷ i) = grind (arith, nat_tests)

pub news_same : (n : ℕ) (u : origin.Upstream) (v : Upstream) → IsUpstream n u v → origins.has_news u ≡ has_news v
news_same n u v a =
    ap (λ (i : List ℕ). not (length i == 0) || u.ended || is_whole u.reader) a.input
    ∙ (ap (λ (b : Bool). b || u.ended || is_whole u.reader) (some_bytes v.input)
    ∙ (ap (λ (b : Bool). nat_lt 0 (length v.input) || b || is_whole u.reader) a.ended
    ∙ ap (λ (r : Reading). nat_lt 0 (length v.input) || v.ended || is_whole r) a.reading))

pub next_same : (n : ℕ) (u : origin.Upstream) (v : Upstream) → IsUpstream n u v → origins.next_of u ≡ next_of v
next_same n u v a = ap (λ (r : Reading). next_in 16384 r u.input) a.reading ∙ ap (λ (i : List ℕ). next_in 16384 v.reading i) a.input

-- WHAT WAS ANSWERED

ok_err : {A : Type 0} (r : Result (Option WirePart) MsgError) (o : Option WirePart) (e : MsgError) → r ≡ Ok o → r ≡ Err e → A
ok_err r o e is at = absurd (let never : Ok o ≡ Err e = sym is ∙ at in cc)

none_part : {A : Type 0} (r : Result (Option WirePart) MsgError) (w : WirePart) → r ≡ Ok None → r ≡ Ok (Some w) → A
none_part r w is at = absurd (let never : r ≡ Ok (Some w) = at in let was : r ≡ Ok None = is in cc)

same_part : (r : Result (Option WirePart) MsgError) (w v : WirePart) → r ≡ Ok (Some w) → r ≡ Ok (Some v) → w ≡ v
same_part r w v is at = cc

pub record TakenNone (n : Next) (old new : origin.Upstream) : Type 0 where
  pub reading : Reading
  pub next : n ≡ Waits reading
  pub now : new ≡ origins.read_to reading [] old

taken_none : (n : Next) (old new : origin.Upstream) (r : Result (Option WirePart) MsgError) → r ≡ Ok None → origins.IsTaken n old new r → TakenNone n old new
taken_none (Waits reading) old new r is t = record { reading = reading; next = refl; now = t.1 }
taken_none (Reports (Answers response) reading rest) old new r is t = none_part r (part.Head response) is t.0
taken_none (Reports (Asks request) reading rest) old new r is t = absurd t
taken_none (Reports (Byte b) reading rest) old new r is t = absurd t
taken_none (Brings bytes reading rest) old new r is t = none_part r (part.Piece bytes) is t.0
taken_none Ends old new r is t = none_part r part.End is t.0
taken_none (Fails e) old new r is t = ok_err r None e is t.0

pub none_taken : (old new : origin.Upstream) (r : Result (Option WirePart) MsgError) → r ≡ Ok None → origins.Takes old new r →
    TakenNone (origins.next_of old) old new
none_taken old new r is (inl failed) = ok_err r None error.NoMemory is failed
none_taken old new r is (inr taken) = taken_none (origins.next_of old) old new r is taken

-- a part
abbrev pub IsTakenAs : WirePart → Next → origin.Upstream → origin.Upstream → Type 0
IsTakenAs (part.Head response) n old new = (reading : Reading) × (rest : List ℕ) × (n ≡ Reports (Answers response) reading rest) ×
    (new ≡ origins.read_to reading rest old)
IsTakenAs (part.Piece bytes) n old new = (reading : Reading) × (rest : List ℕ) × (n ≡ Brings bytes reading rest) × (new ≡ origins.read_to reading rest old)
IsTakenAs part.End n old new = (n ≡ Ends) × (new ≡ origins.read_to Done [] old)

taken_some : (w : WirePart) (n : Next) (old new : origin.Upstream) (r : Result (Option WirePart) MsgError) → r ≡ Ok (Some w) →
    origins.IsTaken n old new r → IsTakenAs w n old new
taken_some w (Waits reading) old new r is t = none_part r w t.0 is
taken_some w (Reports (Answers response) reading rest) old new r is t =
    subst (λ (v : WirePart). IsTakenAs v (Reports (Answers response) reading rest) old new) (same_part r (part.Head response) w t.0 is)
    (reading, rest, refl, t.1)
taken_some w (Reports (Asks request) reading rest) old new r is t = absurd t
taken_some w (Reports (Byte b) reading rest) old new r is t = absurd t
taken_some w (Brings bytes reading rest) old new r is t =
    subst (λ (v : WirePart). IsTakenAs v (Brings bytes reading rest) old new) (same_part r (part.Piece bytes) w t.0 is) (reading, rest, refl, t.1)
taken_some w Ends old new r is t =
    subst (λ (v : WirePart). IsTakenAs v Ends old new) (same_part r part.End w t.0 is) (refl, t.1)
taken_some w (Fails e) old new r is t = ok_err r (Some w) e is t.0

pub some_taken : (w : WirePart) (old new : origin.Upstream) (r : Result (Option WirePart) MsgError) → r ≡ Ok (Some w) → origins.Takes old new r →
    IsTakenAs w (origins.next_of old) old new
some_taken w old new r is (inl failed) = ok_err r (Some w) error.NoMemory is failed
some_taken w old new r is (inr taken) = taken_some w (origins.next_of old) old new r is taken

-- an error
pub record TakenErr (n : Next) (old new : origin.Upstream) : Type 0 where
  pub e : MsgError
  pub next : n ≡ Fails e
  pub now : new ≡ origins.read_to (Failed e) [] old

taken_err : (e : MsgError) (n : Next) (old new : origin.Upstream) (r : Result (Option WirePart) MsgError) → r ≡ Err e → origins.IsTaken n old new r →
    TakenErr n old new
taken_err e (Waits reading) old new r is t = ok_err r None e t.0 is
taken_err e (Reports (Answers response) reading rest) old new r is t = ok_err r (Some (part.Head response)) e t.0 is
taken_err e (Reports (Asks request) reading rest) old new r is t = absurd t
taken_err e (Reports (Byte b) reading rest) old new r is t = absurd t
taken_err e (Brings bytes reading rest) old new r is t = ok_err r (Some (part.Piece bytes)) e t.0 is
taken_err e Ends old new r is t = ok_err r (Some part.End) e t.0 is
taken_err e (Fails f) old new r is t = record { e = f; next = refl; now = t.1 }

pub err_taken : (e : MsgError) (old new : origin.Upstream) (r : Result (Option WirePart) MsgError) → r ≡ Err e → (e ≡ error.NoMemory → ⊥) →
    origins.Takes old new r → TakenErr (origins.next_of old) old new
err_taken e old new r is other (inl failed) = absurd (other (same_error r e error.NoMemory is failed))
  where
    same_error : (r : Result (Option WirePart) MsgError) (e f : MsgError) → r ≡ Err e → r ≡ Err f → e ≡ f
    same_error r e f a b = cc
err_taken e old new r is other (inr taken) = taken_err e (origins.next_of old) old new r is taken

-- nothing yet, where no error was answered
pub waits_taken : (old new : origin.Upstream) (r : Result (Option WirePart) MsgError) (reading : Reading) → origins.next_of old ≡ Waits reading →
    is_err r ≡ false → origins.Takes old new r → TakenNone (origins.next_of old) old new
waits_taken old new r reading is fine (inl failed) = absurd (let never : true ≡ false = sym (ap is_err failed) ∙ fine in cc)
waits_taken old new r reading is fine (inr taken) =
    record { reading = reading; next = is; now = (subst (λ (n : Next). origins.IsTaken n old new r) is taken).1 }

-- HOW MUCH WAS READ

-- a piece is no longer than what is read, and what is left is what isn't read
pub record IsReadOff (bytes rest input : List ℕ) : Type 0 where
  pub all : length rest + length bytes ≤ length input
  pub most : length bytes ≤ 16384

pub brought_off : (s : Reading) (input bytes : List ℕ) (t : Reading) (rest : List ℕ) → next_in 16384 s input ≡ Brings bytes t rest → IsReadOff bytes rest input
brought_off s input bytes t rest is = of_first (subst (StandsNext 16384 s input) is (stands_next 16384 s input))
  where
    of_first : IsBroughtFirst 16384 s input bytes t rest → IsReadOff bytes rest input
    of_first f =
        let a : length (f.front ++ (bytes ++ rest)) ≡ length input = ap length f.whole in
        let b : length (f.front ++ (bytes ++ rest)) ≡ length f.front + length (bytes ++ rest) = length-append f.front (bytes ++ rest) in
        let c : length (bytes ++ rest) ≡ length bytes + length rest = length-append bytes rest in
        record { all = omega arith; most = (let d = f.longest in omega arith) }

pub reported_off : (s : Reading) (input : List ℕ) (token : Token) (t : Reading) (rest : List ℕ) → next_in 16384 s input ≡ Reports token t rest →
    length rest ≤ length input
reported_off s input token t rest is =
    let f = subst (StandsNext 16384 s input) is (stands_next 16384 s input) in
    let a : length (f.front ++ rest) ≡ length input = ap length f.whole in
    let b : length (f.front ++ rest) ≡ length f.front + length rest = length-append f.front rest in
    omega arith

-- what is taken fits a schedule
pub taken_fits : (w : WirePart) (old new : origin.Upstream) → IsTakenAs w (origins.next_of old) old new → IsFit w
taken_fits (part.Head response) old new t = reported_spelled 16384 old.reader old.input (Answers response) t.0 t.1 t.2
taken_fits (part.Piece bytes) old new t = let r = (brought_off old.reader old.input bytes t.0 t.1 t.2).most in omega arith
taken_fits part.End old new t = tt

-- A LOOK

pub looks_waits : (n : Next) → look_of n ≡ look.Waits → (reading : Reading) × (n ≡ Waits reading)
looks_waits (Waits reading) is = (reading, refl)
looks_waits (Reports token reading rest) is = absurd (let never : look.Part ≡ look.Waits = is in cc)
looks_waits (Brings bytes reading rest) is = absurd (let never : look.Part ≡ look.Waits = is in cc)
looks_waits Ends is = absurd (let never : look.Part ≡ look.Waits = is in cc)
looks_waits (Fails e) is = absurd (let never : look.Fails ≡ look.Waits = is in cc)

pub looks_fails : (n : Next) → look_of n ≡ look.Fails → (e : MsgError) × (n ≡ Fails e)
looks_fails (Fails e) is = (e, refl)
looks_fails (Waits reading) is = absurd (let never : look.Waits ≡ look.Fails = is in cc)
looks_fails (Reports token reading rest) is = absurd (let never : look.Part ≡ look.Fails = is in cc)
looks_fails (Brings bytes reading rest) is = absurd (let never : look.Part ≡ look.Fails = is in cc)
looks_fails Ends is = absurd (let never : look.Part ≡ look.Fails = is in cc)
