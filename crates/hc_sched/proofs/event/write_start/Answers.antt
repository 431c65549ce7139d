use Rattle.std.{proofs.Common.{◌≡◌, ℕ, List, [], ◌∷◌, ◌++◌, length, append_assoc}, specs.{Fmt.{decimal}, Prelude.{Result, Ok, Err, OnOk, codes}}}
use Rattle.hc_sched.specs.Schedule.{load_word}
use Rattle.hc_sched.proofs.event.write_start.Goals as goal

mapped : {T E : Type 0} (r : Result T E) (P Q : Type 0) → (P → Q) → OnOk r P → OnOk r Q
mapped (Ok x) P Q f h = f h
mapped (Err e) P Q f h = tt

joined : (o word c m l k n fields a b d e f g h : List ℕ) → a ≡ o ++ word → b ≡ a ++ c → d ≡ b ++ 32 ∷ [] → e ≡ d ++ (m ++ 32 ∷ (l ++ 32 ∷ (k ++ 32 ∷ [])))
    → f ≡ e ++ n → g ≡ f ++ 10 ∷ [] → h ≡ g ++ fields → h ≡ o ++ ((word ++ (c ++ 32 ∷ (m ++ 32 ∷ (l ++ 32 ∷ (k ++ 32 ∷ n))))) ++ 10 ∷ fields)
joined o word c m l k n fields a b d e f g h p q r s t u v = rw (v, u, t, s, r, q, p) (simp append_assoc)

pub returns-clause-ok : goal.returns-clause-ok
returns-clause-ok c =
    let request = c.args.request.now in
    let count = rw c.len.ensures.value at c.in_ok-write_number-2.ensures.ok in
    mapped c.write_lines.result _ _
    (joined c.args.to.now.items (codes "start ") (decimal c.args.c) request.method (load_word request.load) request.key (decimal (length request.fields))
    _ c.extend_from_slice.new.self.items c.write_number.new.to.items
    c.push.new.self.items c.write_asked.new.to.items c.write_number-2.new.to.items c.push-2.new.self.items c.write_lines.new.to.items
    c.in_ok-extend_from_slice.ensures.items c.in_ok-write_number.ensures.ok
    c.in_ok-push.ensures.items c.in_ok-write_asked.ensures.ok count c.in_ok-push-2.ensures.items)
    c.write_lines.ensures.ok
