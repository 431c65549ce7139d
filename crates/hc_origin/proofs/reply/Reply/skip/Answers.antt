use Rattle.std.{proofs.Common.{◌≡◌, ◌++◌, ◌-◌, ℕ, List, length, drop, sym, ap, subst, ◌∙◌, ◌≤◌, arith}, specs.Prelude.{min}}
use Rattle.hc_origin.specs.{Answering.{bytes_between}, Replies.{Unsent}}
use Rattle.hc_origin.proofs.Runs.{skip-drops, skip-within}
use Rattle.hc_origin.proofs.reply.Reply.skip.Goals as goal

pub returns-clause-bytes : goal.returns-clause-bytes
returns-clause-bytes c =
    let r = c.self.inside in
    let is : c.min-of_head.result ≡ min c.args.n (length r.head.items - r.used) = c.min-of_head.ensures ∙
    ap (λ (l : List ℕ). min c.args.n (length l - r.used)) c.as_slice.ensures.value in
    let le : c.args.n ≤ length (drop r.used r.head.items ++ bytes_between r.next r.end) =
    subst (λ (u : Unsent). c.args.n ≤ length u.bytes) (sym c.self.view_is) c.requires in
    skip-drops r.head.items r.used r.next r.end c.args.n c.min-of_head.result c.self.invariant is le ∙ ap (λ (u : Unsent). drop c.args.n u.bytes) c.self.view_is

pub overflow_add-self-2 : goal.overflow_add-self-2
overflow_add-self-2 c =
    let r = c.self.inside in
    let is : c.min-of_head.result ≡ min c.args.n (length r.head.items - r.used) = c.min-of_head.ensures ∙
    ap (λ (l : List ℕ). min c.args.n (length l - r.used)) c.as_slice.ensures.value in
    let le : c.args.n ≤ length (drop r.used r.head.items ++ bytes_between r.next r.end) =
    subst (λ (u : Unsent). c.args.n ≤ length u.bytes) (sym c.self.view_is) c.requires in
    let within = skip-within r.head.items r.used r.next r.end c.args.n c.min-of_head.result is le in
    omega arith
