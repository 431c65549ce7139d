-- A slot is taken for what is founded: what changes with it.
use Rattle.std.{proofs.{lemmas.Bool.Decides.{nat_tests}, Common.{arith, ◌≡◌, inl, inr, ℕ, ◌<◌, ◌^◌, true, false, Option, Some, None, refl, ap, sym, ◌∙◌, subst}}, specs.Prelude.{option_map, ◌==◌, if◌then◌else◌}}
use Rattle.hc_text.proofs.Basics.{eqb-other, eqb-same, same_or}
use Rattle.hc_effects.proofs.Vocabulary.{brings_part, Need, Request, Response, Length, is_bad, length_of, promise_of, content_range_of, just_opened, total_of_part}
use Rattle.hc_effects.proofs.ReportedNumbers.{founded_early}
use Rattle.hc_entry.specs.{declared.keys.KeyTable.{KeyTable}, Kept.{with_current}}
use Rattle.hc_entry.specs.Keys as keys
use Rattle.hc_exch.specs.{declared.{exchanges.Exchanges.{Exchanges}, role.Role.{Role, TheVariants.{the_data as role}}, row.{Open.{Open}, Opening.{Opening}}}, Exchanges.{table_of, Becomes}, Known.{Known, with_good_head, turned_into, length_by, begins_with}, Openings.{opened_with}}
use Rattle.hc_state.specs.Founding.{brings_body}
use Rattle.hc_on_leave.proofs.AnswerHandler.{known_here, known_other, opened_as}

-- its length doesn't look at what it is to the cache
length_turned : (kind : Role) (running : Option Open) (response : Response) →
    length_by (option_map (λ (o : Open). record o { role = kind }) running) response ≡ length_by running response
length_turned kind running response = grind (arith, nat_tests)

-- the exchange brings what it founds
pub brings_founded : (x : ℕ) (response : Response) (r mid u : Exchanges) → Becomes (turned_into (role.Body x)) x r mid →
    is_bad (length_by (table_of r x).running response) ≡ false
    → (is_bad (length_by (table_of mid x).running response) ≡ false → Becomes (with_good_head (length_by (table_of mid x).running response)) x mid u) →
    Becomes (brings_body x (length_by (table_of r x).running response)) x r u
brings_founded x response r mid u turned good heads = record {
  table = λ y. elim (same_or x y) [
    | inl e ↦ subst (λ (n : ℕ). table_of u n ≡ (if x == n then brings_body x its (table_of r x) else table_of r n)) e (here ∙ sym (rw (eqb-same x) refl))
    | inr ne ↦ known_other (with_good_head its) x y mid u goes (λ e. ne (sym e)) ∙
        (known_other (turned_into (role.Body x)) x y r mid turned (λ e. ne (sym e)) ∙ sym (rw (eqb-other x y ne) refl))
  ];
  next = goes.next ∙ turned.next;
}
  where
    its : Length
    its = length_by (table_of r x).running response

    mid_is : table_of mid x ≡ turned_into (role.Body x) (table_of r x)
    mid_is = known_here (turned_into (role.Body x)) x r mid turned

    same : length_by (table_of mid x).running response ≡ its
    same = ap (λ (k : Known). length_by k.running response) mid_is ∙ length_turned (role.Body x) (table_of r x).running response

    goes : Becomes (with_good_head its) x mid u
    goes = subst (λ (l : Length). Becomes (with_good_head l) x mid u) same (heads (ap is_bad same ∙ good))

    here : table_of u x ≡ brings_body x its (table_of r x)
    here = known_here (with_good_head its) x mid u goes ∙ ap (with_good_head its) mid_is

-- what is current is of the key that it was opened with
pub current_of : (op : Opening) (running : Option Open) (x : ℕ) (a b : KeyTable) → Some (opened_with op) ≡ option_map begins_with running →
    keys.Becomes (with_current (Some x)) op.request.now.key a b → (o : Open) → running ≡ Some o → keys.Becomes (with_current (Some x)) o.request.key a b
current_of op running x a b opens becomes o at =
    subst (λ (q : Request). keys.Becomes (with_current (Some x)) q.key a b) (opened_as op running o opens at).1 becomes

-- ITS LENGTH

abbrev pub total_with : Need → Request → Response → Option ℕ
total_with need request response = if brings_part response.status then total_of_part (content_range_of response.fields) else
    promise_of (length_of need request response)

-- a head tells less than 2^62
pub total_small : (need : Need) (request : Request) (response : Response) (n : ℕ) → total_with need request response ≡ Some n → n < 2 ^ 62
total_small need request response n is = founded_early (just_opened 0 0 need request None) response n is

pub total_then : (need : Need) (request : Request) (response : Response) (total : Option ℕ) → brings_part response.status ≡ true →
    total ≡ total_of_part (content_range_of response.fields) → total ≡ total_with need request response
total_then need request response total status is = is ∙ sym (rw status refl)

pub total_else : (need : Need) (request : Request) (response : Response) (total : Option ℕ) → brings_part response.status ≡ false →
    total ≡ promise_of (length_of need request response) → total ≡ total_with need request response
total_else need request response total status is = is ∙ sym (rw status refl)
