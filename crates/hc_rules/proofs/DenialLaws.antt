-- A denied event names the least refusal that applies.
--
-- For each event the tests are gone through in their order. The first that applies is the answer: it stops the event,
-- and each refusal of a lower rank doesn't, since the tests before it failed. Where none applies, nothing stops the
-- event. Each test has a lemma for the bound on the rank. A piece has most of them (`piece-least`): no head, nothing
-- asked, no bytes, or more than was promised (`promise-least`). `denials-least` joins the events.
use Rattle.std.{proofs.{Common.{◌≡◌, ◌≢◌, ℕ, ◌+◌, ◌<◌, ◌≤◌, true, false, eqb, leb, ltb, length, Option, Some, None, refl, sym, ◌∙◌, arith}, lemmas.Bool.{eqb-true, Decides.{nat_tests}}}, specs.Prelude.{not}}
use Rattle.hc_text.proofs.Basics.{not_true as denied, either, not_false as granted, leb-le, leb-lt, ltb-le, ltb-lt}
use Rattle.hc_event.specs.declared.{event.Event.TheVariants.{Start, Poll, Head, Piece, End, Fault, Cancel, Doom}, act.Refusal.{Refusal}}
use Rattle.hc_rules.specs.{declared.refusal.{Gate.{Gate}, OpenExchange.{OpenExchange}}, Refusals.{refusal_of, start_refusal, poll_refusal, consumer_refusal, head_refusal, piece_refusal, end_refusal, fault_refusal, overlong}, Laws.{rank, IsLeast, StopsClosed, DenialsAreLeast, StopsStart, StopsPoll, StopsCancel, StopsHead, StopsPiece, StopsEnd, StopsFault}}

eqb-other : (m n : ℕ) → eqb m n ≡ false → m ≢ n
eqb-other m n h = grind (arith, nat_tests)

-- STARTS

start-first : (g : Gate) (c : ℕ) (s : Refusal) → StopsStart g c s → 1 ≤ rank s
start-first g c s h = grind (arith, nat_tests)

start-second : (g : Gate) (c : ℕ) → g.last_start < c → (s : Refusal) → StopsStart g c s → 2 ≤ rank s
start-second g c is_sorted s h = grind (arith, nat_tests)

start-none : (g : Gate) (c : ℕ) → g.last_start < c → g.live < 1024 → (s : Refusal) → StopsStart g c s → ⊥
start-none g c is_sorted few s h = grind (arith, nat_tests)

start-least : (g : Gate) (c : ℕ) → IsLeast (StopsStart g c) (start_refusal g c)
start-least g c =
    either (IsLeast (StopsStart g c)) (leb c g.last_start) _ _ (λ h. ((leb-le c g.last_start h, refl), start-first g c)) (λ is_sorted.
    either (IsLeast (StopsStart g c)) (leb 1024 g.live) _ _
    (λ h. (leb-le 1024 g.live h, start-second g c (leb-lt c g.last_start is_sorted)))
    (λ few. start-none g c (leb-lt c g.last_start is_sorted) (leb-lt 1024 g.live few)))

-- POLLS AND CANCELS

poll-first : (g : Gate) (c want : ℕ) (s : Refusal) → StopsPoll g c want s → 3 ≤ rank s
poll-first g c want s h = grind (arith, nat_tests)

poll-second : (g : Gate) (c want : ℕ) → c ≤ g.last_start → (s : Refusal) → StopsPoll g c want s → 4 ≤ rank s
poll-second g c want known s h = grind (arith, nat_tests)

poll-third : (g : Gate) (c want : ℕ) → c ≤ g.last_start → g.is_live ≡ true → (s : Refusal) → StopsPoll g c want s → 5 ≤ rank s
poll-third g c want known lives s h = grind (arith, nat_tests)

poll-none : (g : Gate) (c want : ℕ) → c ≤ g.last_start → g.is_live ≡ true → want ≢ 0 → (s : Refusal) → StopsPoll g c want s → ⊥
poll-none g c want known lives wants s h = grind (arith, nat_tests)

poll-least : (g : Gate) (c want : ℕ) → IsLeast (StopsPoll g c want) (poll_refusal g c want)
poll-least g c want =
    either (IsLeast (StopsPoll g c want)) (ltb g.last_start c) _ _ (λ h. (ltb-lt g.last_start c h, poll-first g c want)) (λ known.
    let within = ltb-le g.last_start c known in
    either (IsLeast (StopsPoll g c want)) (not g.is_live) _ _ (λ h. ((within, denied g.is_live h), poll-second g c want within)) (λ lives.
    either (IsLeast (StopsPoll g c want)) (eqb want 0) _ _
    (λ h. (eqb-true want 0 h, poll-third g c want within (granted g.is_live lives)))
    (λ wants. poll-none g c want within (granted g.is_live lives) (eqb-other want 0 wants))))

cancel-first : (g : Gate) (c : ℕ) (s : Refusal) → StopsCancel g c s → 3 ≤ rank s
cancel-first g c s h = grind (arith, nat_tests)

cancel-second : (g : Gate) (c : ℕ) → c ≤ g.last_start → (s : Refusal) → StopsCancel g c s → 4 ≤ rank s
cancel-second g c known s h = grind (arith, nat_tests)

cancel-none : (g : Gate) (c : ℕ) → c ≤ g.last_start → g.is_live ≡ true → (s : Refusal) → StopsCancel g c s → ⊥
cancel-none g c known lives s h = grind (arith, nat_tests)

cancel-least : (g : Gate) (c : ℕ) → IsLeast (StopsCancel g c) (consumer_refusal g c)
cancel-least g c =
    either (IsLeast (StopsCancel g c)) (ltb g.last_start c) _ _ (λ h. (ltb-lt g.last_start c h, cancel-first g c)) (λ known.
    let within = ltb-le g.last_start c known in
    either (IsLeast (StopsCancel g c)) (not g.is_live) _ _
    (λ h. ((within, denied g.is_live h), cancel-second g c within))
    (λ lives. cancel-none g c within (granted g.is_live lives)))

-- EVENTS OF EXCHANGES

closed-least : (s : Refusal) → StopsClosed s → 6 ≤ rank s
closed-least s h = grind (arith, nat_tests)

head-first : (x : OpenExchange) (s : Refusal) → StopsHead (Some x) s → 7 ≤ rank s
head-first x s h = grind (arith, nat_tests)

head-none : (x : OpenExchange) → x.headed ≡ false → (s : Refusal) → StopsHead (Some x) s → ⊥
head-none x headless s h = grind (arith, nat_tests)

head-least : (x : Option OpenExchange) → IsLeast (StopsHead x) (head_refusal x)
head-least None = (tt, closed-least)
head-least (Some x) = either (IsLeast (StopsHead (Some x))) x.headed _ _ (λ h. (h, head-first x)) (λ headless. head-none x headless)

end-first : (x : OpenExchange) (s : Refusal) → StopsEnd (Some x) s → 8 ≤ rank s
end-first x s h = grind (arith, nat_tests)

end-none : (x : OpenExchange) → x.headed ≡ true → (s : Refusal) → StopsEnd (Some x) s → ⊥
end-none x headed s h = grind (arith, nat_tests)

end-least : (x : Option OpenExchange) → IsLeast (StopsEnd x) (end_refusal x)
end-least None = (tt, closed-least)
end-least (Some x) =
    either (IsLeast (StopsEnd (Some x))) (not x.headed) _ _ (λ h. (denied x.headed h, end-first x)) (λ headed. end-none x (granted x.headed headed))

fault-least : (x : Option OpenExchange) → IsLeast (StopsFault x) (fault_refusal x)
fault-least None = (tt, closed-least)
fault-least (Some x) = λ s h. h

piece-first : (x : OpenExchange) (n : ℕ) (s : Refusal) → StopsPiece (Some x) n s → 8 ≤ rank s
piece-first x n s h = grind (arith, nat_tests)

piece-second : (x : OpenExchange) (n : ℕ) → x.headed ≡ true → (s : Refusal) → StopsPiece (Some x) n s → 9 ≤ rank s
piece-second x n headed s h = grind (arith, nat_tests)

piece-third : (x : OpenExchange) (n : ℕ) → x.headed ≡ true → x.asked ≡ true → (s : Refusal) → StopsPiece (Some x) n s → 10 ≤ rank s
piece-third x n headed asked s h = grind (arith, nat_tests)

piece-last : (x : OpenExchange) (n : ℕ) → x.headed ≡ true → x.asked ≡ true → n ≢ 0 → (s : Refusal) → StopsPiece (Some x) n s → 11 ≤ rank s
piece-last x n headed asked some s h = grind (arith, nat_tests)

-- no piece that fits its promise is stopped
piece-none : (x : OpenExchange) (n : ℕ) → x.headed ≡ true → x.asked ≡ true → n ≢ 0 →
    ((promised : ℕ) → x.promised ≡ Some promised → x.delivered + n ≤ promised) → (s : Refusal) → StopsPiece (Some x) n s → ⊥
piece-none x n headed asked some fits s h = grind (arith, nat_tests)

fits-same : (m promised n : ℕ) → Some m ≡ Some promised → n ≤ m → n ≤ promised
fits-same m promised n same h = let e : m ≡ promised = cc in omega arith

promise-least : (x : OpenExchange) (n : ℕ) (promised : Option ℕ) → x.promised ≡ promised → x.headed ≡ true → x.asked ≡ true → n ≢ 0 →
    IsLeast (StopsPiece (Some x) n) (overlong promised (x.delivered + n))
promise-least x n None is headed asked some = piece-none x n headed asked some (λ promised reported. let e : None ≡ Some promised = cc in absurd (cc))
promise-least x n (Some m) is headed asked some =
    either (IsLeast (StopsPiece (Some x) n)) (ltb m (x.delivered + n)) _ _
    (λ h. ((is, ltb-lt m (x.delivered + n) h), piece-last x n headed asked some))
    (λ h. piece-none x n headed asked some
    (λ promised reported. let e : Some m ≡ Some promised = sym is ∙ reported in fits-same m promised (x.delivered + n) e (ltb-le m (x.delivered + n) h)))

piece-least : (x : Option OpenExchange) (n : ℕ) → IsLeast (StopsPiece x n) (piece_refusal x n)
piece-least None n = (tt, closed-least)
piece-least (Some x) n =
    either (IsLeast (StopsPiece (Some x) n)) (not x.headed) _ _ (λ h. (denied x.headed h, piece-first x n)) (λ h.
    let headed = granted x.headed h in
    either (IsLeast (StopsPiece (Some x) n)) (not x.asked) _ _ (λ a. (denied x.asked a, piece-second x n headed)) (λ a.
    let asked = granted x.asked a in
    either (IsLeast (StopsPiece (Some x) n)) (eqb n 0) _ _
    (λ none. (eqb-true n 0 none, piece-third x n headed asked))
    (λ some. promise-least x n x.promised refl headed asked (eqb-other n 0 some))))

pub denials-least : DenialsAreLeast
unfolding refusal_of
denials-least g (Start c request) = start-least g c
denials-least g (Poll c want) = poll-least g c want
denials-least g (Head x response) = head-least g.exchange
denials-least g (Piece x bytes) = piece-least g.exchange (length bytes)
denials-least g (End x) = end-least g.exchange
denials-least g (Fault x) = fault-least g.exchange
denials-least g (Cancel c) = cancel-least g c
denials-least g (Doom key) = λ s h. h
