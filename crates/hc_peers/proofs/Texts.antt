-- The answers without a body, as texts, and the status of whatever has none of its own.
use Rattle.std.{proofs.Common.{◌≡◌, ℕ, [], refl}, specs.{Prelude.{codes}, Fmt.{digits}}}
use Rattle.hc_msg.specs.Writing.{chunk_text}
use Rattle.hc_event.specs.declared.act.Cause.{Cause}
use Rattle.hc_event.specs.declared.act.Cause.TheVariants as cause
use Rattle.hc_head.specs.declared.message.MsgError.{MsgError}
use Rattle.hc_head.specs.declared.message.MsgError.TheVariants as error
use Rattle.hc_peers.specs.Renderings.{empty_answer, error_status, failure_status}

pub says_400 : codes "HTTP/1.1 400 \r\ncontent-length: 0\r\n\r\n" ≡ empty_answer 400
unfolding digits
says_400 = refl

pub says_431 : codes "HTTP/1.1 431 \r\ncontent-length: 0\r\n\r\n" ≡ empty_answer 431
unfolding digits
says_431 = refl

pub says_500 : codes "HTTP/1.1 500 \r\ncontent-length: 0\r\n\r\n" ≡ empty_answer 500
unfolding digits
says_500 = refl

pub says_501 : codes "HTTP/1.1 501 \r\ncontent-length: 0\r\n\r\n" ≡ empty_answer 501
unfolding digits
says_501 = refl

pub says_502 : codes "HTTP/1.1 502 \r\ncontent-length: 0\r\n\r\n" ≡ empty_answer 502
unfolding digits
says_502 = refl

pub says_504 : codes "HTTP/1.1 504 \r\ncontent-length: 0\r\n\r\n" ≡ empty_answer 504
unfolding digits
says_504 = refl

-- OF WHAT HAS NO STATUS OF ITS OWN

pub other_error : (e : MsgError) → (e ≡ error.HeadTooLong → ⊥) → (e ≡ error.BadLength → ⊥) → (e ≡ error.UnsupportedMethod → ⊥) → error_status e ≡ 400
other_error error.BadHead a b c = refl
other_error error.HeadTooLong a b c = absurd (a refl)
other_error error.BadLength a b c = absurd (b refl)
other_error error.BadChunk a b c = refl
other_error error.UnsupportedMethod a b c = absurd (c refl)
other_error error.CutOff a b c = refl
other_error error.NoMemory a b c = refl

pub other_cause : (e : Cause) → (e ≡ cause.Miss → ⊥) → ((x : ℕ) → e ≡ cause.Net x → ⊥) → ((x : ℕ) → e ≡ cause.BadHead x → ⊥) → failure_status e ≡ 500
other_cause cause.Miss a b c = absurd (a refl)
other_cause (cause.Net x) a b c = absurd (b x refl)
other_cause (cause.BadHead x) a b c = absurd (c x refl)
other_cause (cause.Short x got promised) a b c = refl
other_cause (cause.Changed x) a b c = refl
other_cause (cause.StoreWrite r) a b c = refl
other_cause (cause.StoreRead r) a b c = refl

-- THE LAST CHUNK

pub says_last : codes "0\r\n\r\n" ≡ chunk_text []
unfolding digits
says_last = refl
