-- Octet i is spelt by the pair i of digits. All of s are digits below 16, so the two make no more than 255.
use Rattle.std.proofs.Common.{◌≡◌, ℕ, ◌+◌, ◌*◌, ◌/◌, ◌<◌, List, [], ◌++◌, true, length, get_or, set, take, drop, sym, ◌∙◌, ap, add-zero, arith}
use Rattle.std.proofs.Math.Seq.{take-length}
use Rattle.std.specs.Simd.{first_chunks}
use mathlib.Core.Path.{ap₂}
use Rattle.text.specs.Digits.{digit_of, all_digits}
use Rattle.text.specs.Hex.{octets_of}
use Rattle.text.proofs.Hexed.{length-octets, octet-at, pair-digit}
use Rattle.text.proofs.Placed.{front-more}
use Rattle.text.proofs.Reading.{digit_at}
use Rattle.text.proofs.hex.fill.Goals as goal

-- the digits of s in pairs, and that i is the number of one
record Pairs (s : List ℕ) (p : List (List ℕ)) (i : ℕ) : Type 0 where
  digits : all_digits 16 s ≡ true
  pairs : p ≡ first_chunks 2 (length s / 2) s
  long : length p ≡ length s / 2
  within : i < length p

module _ {s : List ℕ} {p : List (List ℕ)} {i : ℕ} (w : Pairs s p i) where
  digit : (j d : ℕ) → j < 2 → d ≡ digit_of (get_or (get_or p i []) j 0) → d ≡ digit_of (get_or s (i * 2 + j) 0)
  digit j d h e = e ∙ ap digit_of (pair-digit s p i j w.pairs (omega arith) h)

  below : (j d : ℕ) → j < 2 → d ≡ digit_of (get_or (get_or p i []) j 0) → d < 16
  below j d h e = omega (arith, digit j d h e, digit_at 16 s (i * 2 + j) w.digits (omega arith))

  octet : (high low : ℕ) → high ≡ digit_of (get_or (get_or p i []) 0 0) → low ≡ digit_of (get_or (get_or p i []) 1 0)
      → high * 16 + low ≡ get_or (octets_of s) i 0
  octet high low e f =
      ap₂ (λ (a b : ℕ). a * 16 + b) (simp add-zero at (digit 0 high (omega arith) e)) (digit 1 low (omega arith) f)
      ∙ sym (octet-at s i (omega arith))

pub overflow_mul-out : goal.overflow_mul-out
overflow_mul-out c =
    let a = c.as_chunks.ensures in
    let w : Pairs c.args.s.now c.as_chunks.result.0.now c.loop-i.i =
    record { digits = c.requires.s_value; pairs = a.front; long = a.front_len; within = c.loop-i-test.true } in
    omega (arith, below w 0 c.digit.result (omega arith) c.digit.ensures.0)

pub overflow_add-out : goal.overflow_add-out
overflow_add-out c =
    let a = c.as_chunks.ensures in
    let w : Pairs c.args.s.now c.as_chunks.result.0.now c.loop-i.i =
    record { digits = c.requires.s_value; pairs = a.front; long = a.front_len; within = c.loop-i-test.true } in
    omega (
      arith,
      below w 0 c.digit.result (omega arith) c.digit.ensures.0,
      below w 1 c.digit-in-loop-i.result (omega arith) c.digit-in-loop-i.ensures.0,
    )

pub loop-i-preserved : goal.loop-i-preserved
loop-i-preserved c =
    let s = c.args.s.now in
    let l = c.loop-i in
    let a = c.as_chunks.ensures in
    let w : Pairs s c.as_chunks.result.0.now l.i =
    record { digits = c.requires.s_value; pairs = a.front; long = a.front_len; within = c.loop-i-test.true } in
    let long = length-octets s in
    ap₂ (λ (o : List ℕ) (v : ℕ). set o l.i v) l.invariant
    (octet w c.digit.result c.digit-in-loop-i.result c.digit.ensures.0 c.digit-in-loop-i.ensures.0)
    ∙ front-more c.args.out.now (octets_of s) l.i (omega (arith, long)) (omega (arith, long))

pub returns : goal.returns
returns c =
    let l = c.loop-i in
    let o = c.args.out.now in
    let p = octets_of c.args.s.now in
    let n : l.i ≡ length p = omega (arith, length-octets c.args.s.now, c.as_chunks.ensures.front_len) in
    l.invariant ∙ ap (λ k. take k p ++ drop k o) n ∙ ap (λ f. f ++ drop (length p) o) (take-length p)
