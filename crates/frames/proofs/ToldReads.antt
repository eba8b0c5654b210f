-- What reading tells leaves one answer.
-- Assumes nothing.
use Rattle.std.proofs.Common.{Result, Ok, Err}
use mathlib.Core.Path.{◌≡◌, refl, sym, ap, ◌∙◌}
use Rattle.answers.specs.declared.Refusal.{Refusal}
use Prim.Native.Nat.{ℕ}
use Rattle.frames.specs.declared.Read.{Read}
use Rattle.frames.specs.Reading.{Reading, refused, plain, secured, told_read, PlainReading, unread, headed, told_plain}
use Rattle.answers.proofs.One.{refusal_of, refusal-back}
use Rattle.frames.specs.declared.Read.TheVariants as reads

read_of : Reading → Result Read Refusal
read_of (refused n) = Err (refusal_of n)
read_of (plain h) = Ok (reads.Plain h)
read_of (secured s) = Ok (reads.Secured s)

read_back : (r : Result Read Refusal) → read_of (told_read r) ≡ r
unfolding read_of
read_back (Err r) = ap Err (refusal-back r)
read_back (Ok (reads.Plain h)) = refl
read_back (Ok (reads.Secured s)) = refl

pub read_one : (r s : Result Read Refusal) → told_read r ≡ told_read s → r ≡ s
read_one r s e = sym (read_back r) ∙ ap read_of e ∙ read_back s

plain_of : PlainReading → Result ℕ Refusal
plain_of (unread n) = Err (refusal_of n)
plain_of (headed h) = Ok h

plain_back : (r : Result ℕ Refusal) → plain_of (told_plain r) ≡ r
unfolding plain_of
plain_back (Err r) = ap Err (refusal-back r)
plain_back (Ok h) = refl

pub plain-one : (r s : Result ℕ Refusal) → told_plain r ≡ told_plain s → r ≡ s
plain-one r s e = sym (plain_back r) ∙ ap plain_of e ∙ plain_back s
