-- What comes of an event, and of a text, by its code.
use Rattle.std.proofs.Common.{◌≡◌, ℕ, List, Option, Some, None, Result, Ok, Err, refl, sym, ap, subst, ◌∙◌, arith}
use Rattle.hc_binary.specs.{Events.{Made, Makes}, Refusals.{code_of}, declared.refused.CallRefusal.{CallRefusal}}
use Rattle.hc_binary.specs.declared.refused.CallRefusal.TheVariants as refused
use Rattle.hc_handle.specs.{declared.session.Session.{Session}, Sessions.{IsAnswered, IsOwed, HasAnswered, refused_at}, Calls.{Comes, Reads, Finishes, answer_code, owed_in}}

pub code_some : (e : CallRefusal) → code_of e ≡ 0 → ⊥
code_some refused.NoHandle is = omega (arith, is)
code_some refused.NoMemory is = omega (arith, is)
code_some refused.Exhausted is = omega (arith, is)
code_some refused.BadMoment is = omega (arith, is)
code_some refused.Limit is = omega (arith, is)
code_some refused.BadMethod is = omega (arith, is)
code_some refused.BadTarget is = omega (arith, is)
code_some refused.BadFields is = omega (arith, is)
code_some refused.Live is = omega (arith, is)
code_some refused.BadImage is = omega (arith, is)
code_some refused.BadContent is = omega (arith, is)
code_some refused.Full is = omega (arith, is)
code_some refused.Late is = omega (arith, is)
code_some refused.BadText is = omega (arith, is)

pub code_two : (e : CallRefusal) → code_of e ≡ 2 → e ≡ refused.NoMemory
code_two refused.NoHandle is = absurd (omega (arith, is))
code_two refused.NoMemory is = refl
code_two refused.Exhausted is = absurd (omega (arith, is))
code_two refused.BadMoment is = absurd (omega (arith, is))
code_two refused.Limit is = absurd (omega (arith, is))
code_two refused.BadMethod is = absurd (omega (arith, is))
code_two refused.BadTarget is = absurd (omega (arith, is))
code_two refused.BadFields is = absurd (omega (arith, is))
code_two refused.Live is = absurd (omega (arith, is))
code_two refused.BadImage is = absurd (omega (arith, is))
code_two refused.BadContent is = absurd (omega (arith, is))
code_two refused.Full is = absurd (omega (arith, is))
code_two refused.Late is = absurd (omega (arith, is))
code_two refused.BadText is = absurd (omega (arith, is))

owed_of : (why : Option CallRefusal) (made given : Made) (e : CallRefusal) → Makes made given → (e ≡ refused.NoMemory → ⊥) → IsOwed why given e →
    code_of e ≡ owed_in why made
owed_of (Some why) made given e makes other is = ap code_of is
owed_of None made (Err w) e makes other is = ap code_of is ∙ ap (owed_in None) (sym (makes (λ memory. other (is ∙ memory))))
owed_of None made (Ok event) e makes other is = absurd (other is)

pub comes_some : (s u : Session) (now : ℕ) (made given : Made) (result : Result (Unit {0}) CallRefusal) → Makes made given →
    IsAnswered s u now given result → Comes (Some s) (Some u) now made (answer_code result)
comes_some s u now made (Ok event) (Ok done) makes h = record {
  done = λ zero. subst (λ (m : Made). HasAnswered s u now m) (sym makes) h.1;
  owed = λ other. rw (h.0, makes) refl;
  spent = λ two. absurd (omega (arith, two));
  kept = λ some other. absurd (some refl);
}
comes_some s u now made (Err why) (Ok done) makes h = absurd h.1
comes_some s u now made given (Err e) makes h = record {
  done = λ zero. absurd (code_some e zero);
  owed = λ other. owed_of (refused_at s now) made given e makes (λ is. other (ap code_of is)) h.owed;
  spent = λ two. h.spent (code_two e two);
  kept = λ some other. ap Some (h.kept (λ is. other (ap code_of is)));
}

pub comes_at : (s s' u u' : Option Session) (now : ℕ) (made : Made) (code code' : ℕ) → s ≡ s' → u ≡ u' → code ≡ code' → Comes s' u' now made code' →
    Comes s u now made code
comes_at s s' u u' now made code code' s_is u_is code_is h = rw (s_is, u_is, code_is) h

-- A TEXT

pub reads_none : (s u : Option Session) (text : List ℕ) → s ≡ None → u ≡ None → Reads s u text 1
reads_none s u text s_is u_is = record { result = Err refused.NoHandle; read = rw s_is (refl, u_is); code_is = refl }

pub finishes_none : (s u : Option Session) → s ≡ None → u ≡ None → Finishes s u 1
finishes_none s u s_is u_is = record { result = Err refused.NoHandle; finished = rw s_is (refl, u_is); code_is = refl }
